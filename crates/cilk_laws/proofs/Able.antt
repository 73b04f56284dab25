-- What good tokens spell can be written.
use Rattle.std.proofs.Common.{◌≡◌, ℕ, zero, suc, Bool, List, [], ◌∷◌, ◌++◌, map, Option, Some, None, pos, neg_ℤ, sym, subst, inl, inr, All}
use Rattle.std.proofs.lemmas.List.Elements.{All-head, All-tail}
use Rattle.cilk_check.specs.lexeme.Lexeme.{Lexeme, Piece, name, number, literal}
use Rattle.cilk_check.specs.syntax.declared.return_type.ReturnType.{ReturnType}
use Rattle.cilk_check.specs.syntax.Tree as tree
use Rattle.cilk_check.specs.syntax.Tree.{Word, Expr, stmts_of, locals_of}
use Rattle.cilk_parse.specs.grammar.Rule.{Rule}
use Rattle.cilk_parse_grammar.specs.Classes.{cls}
use Rattle.cilk_parse_grammar.specs.Expressions.{Spells, a_number_is, a_name_is, synched_is, an_element, in_parentheses, of_one, of_two, of_three}
use Rattle.cilk_parse_grammar.specs.Parts.{Leaf, the_word, the_name, the_number, the_literal, the_header, Nest, a_statement, no_block, an_inlet, Part}
use Rattle.cilk_parse_grammar.specs.Parts.{token, an_expr, a_value, nest, Value, computed, called, assigned, LeafMeans, NestMeans, Means}
use Rattle.cilk_parse_grammar.specs.Forms.{joined, expression, optional}
use Rattle.cilk_parse_grammar.specs.Grammar as grammar
use Rattle.cilk_parse_grammar.specs.Grammar.{rule_of, Tail, declares, defines, function, named_of}
use Rattle.cilk_parse_grammar.specs.Spelling.{first_of, said, IsOne, leaf_says, call, SpellsValue, SpellsNest, SpellsProgram}
use Rattle.cilk_parse_grammar.proofs.Nests.{says}
use Rattle.cilk_laws.proofs.Can as can
use Rattle.cilk_laws.proofs.Can.{IsAssigned, Each, Where, each_can, some_can, can_append, can_joined}
use Rattle.cilk_laws.proofs.Made as made
use Rattle.cilk_laws.proofs.Made.{EachMade, no_more, one_more, each_split}
use Rattle.cilk_laws.proofs.Given.{Given, g_done, g_skip, g_then, g_either, g_nearest, g_by, g_use, g_many, g_before, g_between}
use Rattle.cilk_laws.proofs.Given.{g_behind_commas, g_commas, g_word, g_name, g_number, g_literal, g_header, g_expr, g_value, g_statement}
use Rattle.cilk_laws.proofs.Given.{g_unbraced, g_inlet}

module _ (good : Lexeme → Type 0) (one : good (number 1)) where
  abbrev Good : List Piece → Type 0
  Good us = EachMade (λ t. good t.lexeme) us

  good_first : (t : Piece) (us : List Piece) → Good (t ∷ us) → good t.lexeme
  good_first t us (one_more h r) = h

  -- ---- parts

  abbrev CanValue : Value → Type 0
  CanValue (computed e) = can.CanExpr good e
  CanValue (called f es) = can.CanWord good f × can.CanExprs good es

  abbrev CanLeaf : (t : Leaf) → LeafMeans t → Type 0
  CanLeaf (the_word w) x = Unit {0}
  CanLeaf (the_name cs) x = can.CanWord good x
  CanLeaf the_number x = good (number x)
  CanLeaf the_literal x = good (literal x.bytes)
  CanLeaf the_header x = Unit {0}

  abbrev CanNest : (p : Nest) → NestMeans p → Type 0
  CanNest a_statement s = can.CanStmt good s
  CanNest no_block s = can.CanStmt good s
  CanNest an_inlet x = can.CanLocal good x

  abbrev G : (p : Part) → Means p → Type 0
  G (token t) x = CanLeaf t x
  G an_expr x = can.CanExpr good x
  G a_value x = CanValue x
  G (nest p) x = CanNest p x

  leaf_can : (t : Leaf) (x : Lexeme) (at : ℕ) (y : LeafMeans t) → said t x at ≡ Some y → good x → CanLeaf t y
  leaf_can (the_word w) x at y e h = tt
  leaf_can (the_name cs) (name text) at y e h = let f : text ≡ y.text = cc in subst (λ t. good (name t)) f h
  leaf_can the_number (number n) at y e h = let f : n ≡ y = cc in subst (λ m. good (number m)) f h
  leaf_can the_literal (literal bytes) at y e h = let f : bytes ≡ y.bytes = cc in subst (λ t. good (literal t)) f h
  leaf_can the_header x at y e h = tt
  leaf_can t x at y e h = absurd cc

  one_can : (t : Leaf) (us : List Piece) (x : LeafMeans t) → Good us → IsOne t us x → CanLeaf t x
  one_can t us x g s = leaf_can t s.piece.lexeme s.piece.start x s.meaning (good_first s.piece [] (subst Good s.whole g))

  expr_can : {d p : ℕ} {us : List Piece} {e : Expr} → Good us → Spells d p us e → can.CanExpr good e
  expr_can g (a_number_is t n h w) = subst good h (good_first t [] (subst Good w g))
  expr_can g (a_name_is t x h w) = subst good h (good_first t [] (subst Good w g))
  expr_can g (synched_is t h w) = tt
  expr_can g (an_element {us = us} t u v x h i s j w) =
      let b = subst Good w g in
      (subst good h (good_first t (u ∷ (us ++ v ∷ [])) b), expr_can (each_split us (v ∷ []) (each_split (t ∷ u ∷ []) (us ++ v ∷ []) b).1).0 s)
  expr_can g (in_parentheses {us = us} t u h s i w) = expr_can (each_split us (u ∷ []) (each_split (t ∷ []) (us ++ u ∷ []) (subst Good w g)).1).0 s
  expr_can g (of_one {us = us} t o h a w) = expr_can (each_split (t ∷ []) us (subst Good w g)).1 a
  expr_can g (of_two {us = us} {vs = vs} t q o h ge a b w) =
      let k = each_split us (t ∷ vs) (subst Good w g) in (expr_can k.0 a, expr_can (each_split (t ∷ []) vs k.1).1 b)
  expr_can g (of_three {us = us} {vs = vs} {ws = ws} t u h i z c a b w) =
      let k = each_split us (t ∷ (vs ++ u ∷ ws)) (subst Good w g) in
      let j = each_split vs (u ∷ ws) (each_split (t ∷ []) (vs ++ u ∷ ws) k.1).1 in
      (expr_can k.0 c, expr_can j.0 a, expr_can (each_split (u ∷ []) ws j.1).1 b)

  -- ---- moves

  arguments_can : Given G grammar.arguments (λ es. can.CanExprs good es)
  arguments_can = g_between (g_either (g_use (g_commas g_expr) (λ es h. some_can (can.CanExpr good) es h)) (g_done tt))

  option_can : Given G (optional expression) (λ v. can.CanValue good v)
  option_can = g_either (g_then g_expr (λ e h. g_done h)) (g_done tt)

  index_can : Given G grammar.index (λ v. can.CanValue good v)
  index_can = g_either (g_then (g_between g_expr) (λ e h. g_done h)) (g_done tt)

  place_can : Given G grammar.place (λ p. can.CanPlace good p)
  place_can = g_then g_name (λ x hx. g_then index_can (λ i hi. g_done (hx, hi)))

  op_can : Given G grammar.op IsAssigned
  op_can = record { it = (tt, (tt, (tt, (tt, (tt, (tt, (tt, (tt, (tt, (tt, tt)))))))))) }

  adjustment_can : Given G grammar.adjustment (λ a. Unit {0})
  adjustment_can = record { it = (tt, tt) }

  assigned_can : (t : tree.Target) (v : Value) → can.CanTarget good t → CanValue v → can.CanMove good (assigned t v)
  assigned_can t (computed e) h k = (h, k)
  assigned_can t (called f es) h k = (h, k.0, k.1)

  move_of_place_can : Given G grammar.move_of_place (λ f. (i : Option Expr) → can.CanValue good i → (x : Word) → can.CanWord good x → can.CanMove good (f i x))
  move_of_place_can =
      g_either
      (g_then op_can (λ o ho. g_then g_value (λ v hv. g_done (λ i hi x hx. assigned_can (grammar.target_at x i o) v ((hx, hi), ho) hv))))
      (g_then adjustment_can (λ a u. g_done (λ i hi x hx. (hx, hi))))

  adjusted_can : Given G grammar.adjusted (λ m. can.CanMove good m)
  adjusted_can = g_then adjustment_can (λ a u. g_then place_can (λ p h. g_done h))

  move_can : Given G grammar.move (λ m. can.CanMove good m)
  move_can =
      g_either
      (g_then g_name (λ x hx. g_either (g_then arguments_can (λ es h. g_done (tt, hx, h)))
      (g_then index_can (λ i hi. g_use move_of_place_can (λ f h. h i hi x hx))))) adjusted_can

  -- ---- statements

  abbrev CanStmt : tree.Stmt → Type 0
  CanStmt s = can.CanStmt good s

  child_can : Given G grammar.child (λ f. (t : tree.Taker) → can.CanTaker good t → CanStmt (f t))
  child_can = g_then g_word (λ at u. g_then g_name (λ f hf. g_then arguments_can (λ es h. g_done (λ t ht. (ht, hf, h)))))

  called_can : Given G grammar.called (λ f. (x : Word) → can.CanWord good x → CanStmt (f x))
  called_can =
      g_between
      (g_either
      (g_then child_can (λ c hc. g_then (g_behind_commas g_expr) (λ es h. g_done (λ x hx. hc (tree.through x es) (hx, each_can es h)))))
      (g_either (g_then (g_commas g_expr) (λ es h. g_done (λ x hx. (tt, hx, some_can (can.CanExpr good) es h)))) (g_done (λ x hx. (tt, hx, tt)))))

  written_can : Given G grammar.written (λ f. (i : Option Expr) → can.CanValue good i → (x : Word) → can.CanWord good x → CanStmt (f i x))
  written_can = g_either
      (g_then op_can (λ o ho. g_either (g_then child_can (λ c hc. g_done (λ i hi x hx. hc (tree.into (grammar.target_at x i o)) ((hx, hi), ho))))
      (g_then g_value (λ v hv. g_done (λ i hi x hx. assigned_can (grammar.target_at x i o) v ((hx, hi), ho) hv)))))
      (g_then adjustment_can (λ a u. g_done (λ i hi x hx. (hx, hi))))

  named_can : Given G grammar.named CanStmt
  named_can = g_before (g_then g_name (λ x hx. g_either (g_use called_can (λ f h. h x hx)) (g_then index_can (λ i hi. g_use written_can (λ f h. h i hi x hx)))))

  locking_can : Given G grammar.locking CanStmt
  locking_can = g_either by (g_either by by)
    where
      by : {c : ℕ} {a : Rattle.cilk_check.specs.syntax.declared.lock_action.LockAction.LockAction} → Given G (grammar.locking_by c a) CanStmt
      by = g_skip (g_before (g_then (g_between g_name) (λ x h. g_done h)))

  alone_can : (w : Rattle.cilk_check.specs.lexeme.declared.keyword.Keyword.Keyword) (f : ℕ → tree.Stmt) → ((at : ℕ) → CanStmt (f at))
      → Given G (grammar.alone w f) CanStmt
  alone_can w f h = g_before (g_then g_word (λ at u. g_done (h at)))

  -- ---- blocks

  declarator_can : Given G grammar.declarator (λ d. can.CanDecl good d)
  declarator_can =
      g_then g_name
      (λ x hx. g_either (g_skip (g_then g_expr (λ e h. g_done (hx, h))))
      (g_either (g_then (g_between g_number) (λ n h. g_done (hx, h))) (g_done (hx, tt))))

  abbrev CanLocalsList : List tree.Local → Type 0
  CanLocalsList xs = Each (λ x. can.CanLocal good x) xs

  declared_can : (ds : List tree.Decl) → Each (λ d. can.CanDecl good d) ds → CanLocalsList (map tree.declared ds)
  declared_can [] h = tt
  declared_can (d ∷ ds) h = (h.0, declared_can ds h.1)

  declaration_can : Given G grammar.declaration CanLocalsList
  declaration_can = g_skip (g_before (g_then (g_commas declarator_can) (λ ds h. g_done (declared_can ds (some_can (can.CanDecl good) ds h)))))

  local_can : Given G grammar.local CanLocalsList
  local_can =
      g_either declaration_can
      (g_then g_inlet (λ x h. g_done (h, tt)))

  locals_can : (xs : List tree.Local) → CanLocalsList xs → can.CanLocals good (locals_of xs)
  locals_can [] h = tt
  locals_can (x ∷ xs) h = (h.0, locals_can xs h.1)

  stmts_can : (ss : List tree.Stmt) → EachMade CanStmt ss → can.CanStmts good (stmts_of ss)
  stmts_can ss no_more = tt
  stmts_can ss (one_more {xs = ts} h t) = (h, stmts_can ts t)

  abbrev CanBlock : tree.Block → Type 0
  CanBlock b = can.CanBlock good b

  block_can : Given G grammar.block CanBlock
  block_can =
      g_between
      (g_then (g_many local_can) (λ xss h. g_then (g_many g_statement)
      (λ ss g. g_done (locals_can (joined xss) (can_joined (can.CanLocal good) xss h), stmts_can ss g))))

  body_can : Given G grammar.body CanBlock
  body_can = g_either block_can (g_then g_unbraced (λ s h. g_done (tt, (h, tt))))

  test_can : Given G grammar.test (λ e. can.CanExpr good e)
  test_can = g_between g_expr

  part_can : Given G (optional grammar.move) (λ m. Where (λ n. can.CanMove good n) m)
  part_can = g_either (g_then move_can (λ m h. g_done h)) (g_done tt)

  loop_test_can : Given G grammar.loop_test (λ e. can.CanExpr good e)
  loop_test_can = g_either g_expr (g_done one)

  negative_can : (n : ℕ) → good (number n) → can.CanInteger good (neg_ℤ (pos n))
  negative_can zero h = h
  negative_can (suc n) h = h

  integer_can : Given G grammar.integer (λ z. can.CanInteger good z)
  integer_can = g_either (g_skip (g_then g_number (λ n h. g_done (negative_can n h)))) (g_then g_number (λ n h. g_done h))

  label_can : Given G grammar.label CanStmt
  label_can = g_before (g_either (g_then g_word (λ at u. g_then integer_can (λ z h. g_done h))) (g_then g_word (λ at u. g_done tt)))

  labelled_can : Given G grammar.labelled (λ ss. Each CanStmt ss)
  labelled_can = g_then (g_many label_can) (λ xs h. g_then g_statement (λ s k. g_done (can_append CanStmt xs (s ∷ []) (each_can xs h) (k, tt))))

  each_stmts_can : (ss : List tree.Stmt) → Each CanStmt ss → can.CanStmts good (stmts_of ss)
  each_stmts_can [] h = tt
  each_stmts_can (s ∷ ss) h = (h.0, each_stmts_can ss h.1)

  cases_can : Given G grammar.cases CanBlock
  cases_can =
      g_between
      (g_then (g_many declaration_can) (λ xss h. g_then (g_many labelled_can)
      (λ sss g. g_done (locals_can (joined xss) (can_joined (can.CanLocal good) xss h), each_stmts_can (joined sss) (can_joined CanStmt sss g)))))

  switching_can : Given G grammar.switching CanStmt
  switching_can = g_skip (g_then test_can (λ e he. g_then cases_can (λ b hb. g_done (he, hb))))

  no_block_can : Given G grammar.no_block_rule CanStmt
  no_block_can =
      g_either named_can (g_either (g_before (g_then adjusted_can (λ m h. g_done h)))
      (g_either (g_skip (g_before (g_between (g_then g_literal (λ t ht. g_then (g_behind_commas g_expr) (λ es h. g_done (ht, each_can es h)))))))
      (g_either locking_can (g_either (g_before (g_then child_can (λ c hc. g_done (hc tree.nothing tt)))) (g_either (g_skip (g_done tt))
      (g_either (alone_can _ _ (λ at. tt)) (g_either (alone_can _ _ (λ at. tt)) (g_either (alone_can _ _ (λ at. tt)) (g_either (alone_can _ _ (λ at. tt))
      (g_either (g_before (g_then g_word (λ at u. g_then option_can (λ v h. g_done h))))
      (g_either (g_skip (g_then test_can (λ e he. g_then body_can (λ b hb. g_nearest (g_skip (g_then body_can (λ o ho. g_done (he, hb, ho)))) (he, hb)))))
      (g_either (g_skip (g_then test_can (λ e he. g_then body_can (λ b hb. g_done (he, hb)))))
      (g_either (g_skip (g_then body_can (λ b hb. g_skip (g_before (g_then test_can (λ e he. g_done (hb, he)))))))
      (g_either
      (g_skip
      (g_skip
      (g_then (g_before part_can) (λ m hm. g_then (g_before loop_test_can)
      (λ e he. g_then (g_before part_can) (λ a ha. g_then body_can (λ b hb. g_done (hm, he, ha, hb))))))))
      switching_can))))))))))))))

  parameters_can : Given G grammar.parameters (λ xs. can.CanWords good xs)
  parameters_can =
      g_between
      (g_either (g_skip (g_done tt)) (g_either (g_use (g_commas (g_skip g_name)) (λ xs h. some_can (can.CanWord good) xs h)) (g_done tt)))

  rules_can : (p : Nest) → Given G (rule_of p) (λ x. CanNest p x)
  rules_can a_statement = g_either (g_then block_can (λ b h. g_done h)) no_block_can
  rules_can no_block = no_block_can
  rules_can an_inlet = g_then g_word (λ at u. g_skip (g_then g_name (λ x hx. g_then parameters_can (λ ps h. g_then block_can (λ b hb. g_done (hx, h, hb))))))

  -- ---- items

  abbrev CanTail : Tail → Type 0
  CanTail (declares m) = Unit {0}
  CanTail (defines parameters b) = can.CanParameters good parameters × CanBlock b

  abbrev CanParameterList : List (Option Word) → Type 0
  CanParameterList xs = Each (λ k. Where (λ x. can.CanWord good x) k) xs

  option_name_can : Given G (optional grammar.name) (λ k. Where (λ x. can.CanWord good x) k)
  option_name_can = g_either (g_then g_name (λ x h. g_done h)) (g_done tt)

  parameter_list_can : Given G grammar.parameter_list CanParameterList
  parameter_list_can = g_then option_name_can (λ x hx. g_then (g_behind_commas (g_skip option_name_can)) (λ xs h. g_skip (g_done (hx, each_can xs h))))

  named_of_can : (xs : List (Option Word)) → CanParameterList xs → can.CanWords good (named_of xs)
  named_of_can [] h = tt
  named_of_can (None ∷ xs) h = named_of_can xs h.1
  named_of_can (Some x ∷ xs) h = (h.0, named_of_can xs h.1)

  empty_tail_can : Given G grammar.empty_tail CanTail
  empty_tail_can = g_skip (g_either (g_skip (g_done tt)) (g_then block_can (λ b hb. g_done (tt, hb))))

  tail_by_can : {r : Rule Means Tail} → Given G r CanTail → Given G (grammar.tail_by r) CanTail
  tail_by_can g = g_skip (g_either empty_tail_can (g_either (g_skip empty_tail_can) (g_skip g)))

  tail_can : Given G grammar.tail CanTail
  tail_can =
      tail_by_can
      (g_by parameter_list_can (λ xs h e. g_either (g_skip (g_done tt)) (g_then block_can (λ b hb. g_done (named_of_can xs h, hb))))
      (λ xs h e. g_skip (g_done tt)))

  strings_can : Given G grammar.strings (λ x. can.CanWord good x)
  strings_can = g_skip (g_either (g_then g_name (λ x h. g_skip (g_skip (g_done h)))) (g_skip g_name))

  main_tail_can : Given G grammar.main_tail CanTail
  main_tail_can = tail_by_can (g_either
      (g_then g_name (λ x hx. g_either (g_skip (g_either (g_skip (g_done tt)) (g_then block_can (λ b hb. g_done ((hx, tt), hb)))))
      (g_skip (g_either (g_skip (g_then (g_before strings_can) (λ s hs. g_then block_can (λ b hb. g_done ((hx, hs), hb)))))
      (g_skip (g_by parameter_list_can (λ xs h e. g_either (g_skip (g_done tt)) (g_then block_can (λ b hb. g_done ((hx, named_of_can xs h), hb))))
      (λ xs h e. g_skip (g_done tt))))))))
      (g_either (g_skip (g_skip (g_done tt))) (g_skip (g_skip (g_then parameter_list_can (λ xs h. g_skip (g_done tt)))))))

  function_can : (c : Bool) (r : ReturnType) (t : Tail) (x : Word) → can.CanWord good x → CanTail t → can.CanItem good (function c r t x)
  function_can c r (declares m) x h k = h
  function_can c r (defines parameters b) x h k = (h, k.0, k.1)

  abbrev CanItems : List tree.Item → Type 0
  CanItems is = can.CanItems good is

  headed_can : (c : Bool) (r : ReturnType) (cs : List ℕ) (q : Rule Means Tail) → Given G q CanTail → Given G (grammar.headed c r cs q) CanItems
  headed_can c r cs q g = g_then g_name (λ x hx. g_then g (λ t ht. g_done (function_can c r t x hx ht, tt)))

  shape_can : Given G grammar.global_shape (λ s. can.CanGlobalShape good s)
  shape_can = g_either (g_skip (g_then integer_can (λ z h. g_done h))) (g_either (g_then (g_between g_number) (λ n h. g_done h)) (g_done tt))

  abbrev CanGlobal : tree.Global → Type 0
  CanGlobal g = can.CanWord good g.name × can.CanGlobalShape good g.shape

  globals_can : (gs : List tree.Global) → EachMade CanGlobal gs → CanItems (map tree.global gs)
  globals_can gs no_more = tt
  globals_can gs (one_more {xs = hs} h t) = (h, globals_can hs t)

  locks_can : (xs : List Word) → can.CanWords good xs → CanItems (map tree.lock xs)
  locks_can [] h = tt
  locks_can (x ∷ xs) h = (h.0, locks_can xs h.1)

  item_can : Given G grammar.item CanItems
  item_can =
      g_either
      (g_skip (g_either (g_skip (headed_can _ _ _ _ tail_can))
      (g_skip (g_either (headed_can _ _ _ _ main_tail_can) (headed_can _ _ _ _ tail_can)))))
      (g_either (g_skip (g_then g_name (λ x hx. g_either (g_then tail_can (λ t ht. g_done (function_can _ _ t x hx ht, tt)))
      (g_before
      (g_then shape_can (λ s hs. g_then (g_behind_commas global_can)
      (λ gs h. g_done (globals_can (grammar.global_at x s ∷ gs) (one_more (hx, hs) h)))))))))
      (g_either (g_skip (headed_can _ _ _ _ tail_can)) (g_skip
      (g_before (g_then (g_commas g_name) (λ xs h. g_done (locks_can xs (some_can (can.CanWord good) xs h))))))))
    where
      global_can : Given G grammar.global CanGlobal
      global_can = g_then g_name (λ x hx. g_then shape_can (λ s hs. g_done (hx, hs)))

  program_can : Given G grammar.program (λ p. CanItems p.1)
  program_can = g_then (g_many g_header) (λ hs u. g_then (g_many item_can) (λ iss h. g_done (can_joined (can.CanItem good) iss h)))

  -- ---- by induction on how deep statements and inlets stand

  module _ (l d : ℕ) where
    leaf_parts_can : (p : Part) (k : Option ℕ) (us : List Piece) (x : Means p) → Good us → leaf_says l d p k us x → G p x
    leaf_parts_can (token t) k us x g s = one_can t us x g s
    leaf_parts_can an_expr k us x g s = expr_can g s.spelled
    leaf_parts_can a_value k us x g s = elim s [ ]
    leaf_parts_can (nest p) k us x g s = elim s [ ]

    call_can : Given G call CanValue
    call_can = g_then g_name (λ f hf. g_then arguments_can (λ es h. g_done (hf, h)))

    value_can : (k : Option ℕ) (us : List Piece) (x : Value) → Good us → SpellsValue l d k us x → CanValue x
    value_can k us x g (inl s) = subst (λ v. CanValue v) (sym s.meaning) (expr_can g s.spelled.spelled)
    value_can k us x g (inr s) =
        made.gives G call CanValue x call_can.it
        (made.made_of G cls first_of (leaf_says l d) (λ t. good t.lexeme) leaf_parts_can call k us x g s)

    parts_can : (n : ℕ)
        → ((p : Nest) (k : Option ℕ) (us : List Piece) (x : NestMeans p) → Good us → SpellsNest l d n p k us x → CanNest p x)
        → (p : Part) (k : Option ℕ) (us : List Piece) (x : Means p) → Good us → says l d n p k us x → G p x
    parts_can n h (token t) k us x g s = one_can t us x g s
    parts_can n h an_expr k us x g s = expr_can g s.spelled
    parts_can n h a_value k us x g s = value_can k us x g s
    parts_can n h (nest p) k us x g s = h p k us x g s

    nest_can : (n : ℕ) (p : Nest) (k : Option ℕ) (us : List Piece) (x : NestMeans p) → Good us → SpellsNest l d n p k us x → CanNest p x
    unfolding SpellsNest
    nest_can zero p k us x g s = elim s [ ]
    nest_can (suc n) p k us x g s =
        made.gives G (rule_of p) (λ y. CanNest p y) x (rules_can p).it
        (made.made_of G cls first_of (says l d n) (λ t. good t.lexeme) (parts_can n (nest_can n)) (rule_of p) k us x g s)

    all_good : (us : List Piece) → All (λ t. good t.lexeme) us → Good us
    all_good [] h = no_more
    all_good (u ∷ us) h = one_more (All-head (λ t. good t.lexeme) u us h) (all_good us (All-tail (λ t. good t.lexeme) u us h))

    pub program_able : (n : ℕ) (us : List Piece) (p : tree.Program) → All (λ t. good t.lexeme) us → SpellsProgram l d n us p → can.CanItems good p.items
    unfolding SpellsProgram
    program_able n us p g s =
        made.gives G grammar.program (λ p. CanItems p.1) (p.headers, p.items) program_can.it
        (made.made_of G cls first_of (says l d n) (λ t. good t.lexeme) (parts_can n (nest_can n)) grammar.program None us
        (p.headers, p.items) (all_good us g) s)
