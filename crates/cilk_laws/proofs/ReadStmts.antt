-- The canonical lexemes of a statement and of a block spell them again.
use Rattle.std.proofs.Common.{◌≡◌, ℕ, ◌≤◌, true, false, List, [], ◌∷◌, ◌++◌, map, Option, refl, sym, ap, subst, ◌∙◌, inl, inr}
use Rattle.std.proofs.lemmas.List.{map-append}
use Rattle.cilk_check.specs.lexeme.Lexeme.{Lexeme, Piece, word, name, mark}
use Rattle.cilk_check.specs.lexeme.declared.keyword.Keyword.TheVariants as key
use Rattle.cilk_check.specs.lexeme.declared.mark.Mark.TheVariants as sign
use Rattle.cilk_check.specs.syntax.Tree as tree
use Rattle.cilk_check.specs.syntax.Tree.{Word, Expr, stmts_of, locals_of}
use Rattle.cilk_check.specs.syntax.Bare.{bare_word, bare_part, bare_stmt, bare_decl, bare_local, bare_locals, bare_block}
use Rattle.cilk_parse.specs.grammar.Rule as rule
use Rattle.cilk_parse.specs.grammar.Rule.{Rule, skip, either, next, has, EachBefore}
use Rattle.cilk_parse_grammar.proofs.Begun as begun
use Rattle.cilk_parse_grammar.proofs.Begun.{Begun, with_token, with_nothing}
use Rattle.cilk_parse_grammar.proofs.Tokens.{apart_has, next_append}
use Rattle.cilk_parse_grammar.specs.Classes.{cls, a_word, a_mark}
use Rattle.cilk_parse_grammar.specs.Expressions.{operators}
use Rattle.cilk_parse_grammar.proofs.ClassFacts.{names_are}
use Rattle.cilk_parse_grammar.specs.Parts.{a_statement, an_inlet, Means}
use Rattle.cilk_parse_grammar.specs.Forms as forms
use Rattle.cilk_parse_grammar.specs.Forms.{joined, optional}
use Rattle.cilk_parse_grammar.specs.Grammar as grammar
use Rattle.cilk_parse_grammar.specs.Spelling.{begins, first_of, SpellsNest}
use Rattle.cilk_parse_grammar.proofs.Nests.{says, begin_at, nest_begins}
use Rattle.cilk_laws.specs.Plain.{PlainStmts, PlainLocal, PlainLocals, PlainBlock}
use Rattle.cilk_laws.specs.ExprLexemes.{each, in_parentheses}
use Rattle.cilk_laws.specs.StmtLexemes.{next_names_lexemes, names_lexemes, part_lexemes, decl_lexemes, stmt_lexemes}
use Rattle.cilk_laws.specs.StmtLexemes.{stmts_lexemes}
use Rattle.cilk_laws.specs.StmtLexemes.{local_lexemes, locals_lexemes, block_lexemes}
use Rattle.cilk_laws.proofs.Labelled.{bare_stmts_of, group_lexemes, labelled_lexemes, plain_append, each_group, bare_groups}
use Rattle.cilk_laws.proofs.ReadExprs.{all_at0, at0-append}
use Rattle.cilk_laws.proofs.Made as made
use Rattle.cilk_laws.proofs.Made.{EachMade}
use Rattle.cilk_laws.proofs.Built.{Setting, Spells, Written, Built, written, b_of, b_done, b_skip, b_then, b_last, b_only, b_left, b_right}
use Rattle.cilk_laws.proofs.Built.{b_none, b_some, b_before, b_name, b_word, b_number, b_expr, each_before}
use Rattle.cilk_laws.proofs.Given.{no_else, Again, good, Given, g_done, g_skip, g_then, g_either, g_nearest, g_use, g_many, g_before}
use Rattle.cilk_laws.proofs.Given.{g_between, g_commas, g_word, g_name, g_number, g_expr, g_statement, g_unbraced, g_inlet}
use Rattle.cilk_laws.proofs.ReadMoves as moves
use Rattle.cilk_laws.proofs.ReadMoves.{setting, at_least_few}
use Rattle.cilk_laws.proofs.ReadSimple as simple

-- ---- lists

each_append : {A : Type 0} {R : A → Type 0} (xs ys : List A) → EachMade R xs → EachMade R ys → EachMade R (xs ++ ys)
each_append xs ys made.no_more k = k
each_append xs ys (made.one_more {xs = zs} h t) k = made.one_more h (each_append zs ys t k)

pub each_joined : {A : Type 0} {R : A → Type 0} (xss : List (List A)) → EachMade (λ xs. EachMade R xs) xss → EachMade R (joined xss)
each_joined xss made.no_more = made.no_more
each_joined xss (made.one_more {x = xs} {xs = yss} h t) = each_append xs (joined yss) h (each_joined yss t)

bare_locals_of : (xs : List tree.Local) → locals_of (joined (map (λ x. bare_local x ∷ []) xs)) ≡ bare_locals (locals_of xs)
bare_locals_of [] = refl
bare_locals_of (x ∷ xs) = ap (tree.and_local (bare_local x)) (bare_locals_of xs)

-- ---- parameters

next_names_spelled : (S : Setting) (xs : List Word) (k : Option ℕ)
    → Spells S (forms.behind_commas (forms.word key.Int grammar.name)) k (next_names_lexemes xs) (map bare_word xs)
next_names_spelled S xs k =
    each_before S (skip (a_mark sign.Comma) (skip (a_word key.Int) grammar.name)) (λ x. mark sign.Comma ∷ word key.Int ∷ name x.text ∷ []) bare_word
    (λ x. Unit {0})
    (λ x j u. (b_skip {S = S} {c = a_mark sign.Comma} {p = skip (a_word key.Int) grammar.name} {k = j} (mark sign.Comma) refl
    (b_skip (word key.Int) refl (b_name x (names_are x.text)))).it) xs k (made.whatever xs)

pub parameters_spelled : (S : Setting) (xs : List Word) (k : Option ℕ) → Written S grammar.parameters k (in_parentheses (names_lexemes xs)) (map bare_word xs)
parameters_spelled S [] k =
    written
    (b_skip (mark sign.OpenParenthesis) refl (b_before (mark sign.CloseParenthesis) refl (b_left (b_skip (word key.Void) refl b_done))))
    refl refl
parameters_spelled S (x ∷ xs) k =
    written
    (b_skip (mark sign.OpenParenthesis) refl (b_before (mark sign.CloseParenthesis) refl
    (b_right (b_left (b_then (b_last (next _)) (b_skip (word key.Int) refl (b_name x (names_are x.text)))))))) refl refl
  where
    next : (k : Option ℕ) → Built S (forms.behind_commas (forms.word key.Int grammar.name)) k
    next k = record { ls = next_names_lexemes xs; means = map bare_word xs; it = next_names_spelled S xs k }

module _ (l d : ℕ) (le : l ≤ d) (n : ℕ) where
  abbrev S : Setting
  S = setting l d le n

  abbrev pub By : Rule Means tree.Stmt → tree.Stmt → Type 0
  By r s = simple.By l d le n r s

  -- whatever a rule makes, it is something
  pub any : {A : Type 0} (r : Rule Means A) → made.AllGive (good l d n) r (λ x. Unit {0})
  any (rule.done a) = tt
  any (skip c p) = any p
  any (rule.part p) = λ x h. tt
  any (rule.and_then p q) = made.weaker (good l d n) p (λ x. Unit {0}) (λ b. made.AllGive (good l d n) q (λ f. Unit {0})) (any p) (λ b u. any q)
  any (either p q) = (any p, any q)
  any (rule.many p) = λ xs h. tt
  any (rule.nearest p a) = (any p, tt)
  any (rule.by_value v p q r) =
      made.weaker (good l d n) p (λ x. Unit {0})
      (λ b. (v b ≡ true → made.AllGive (good l d n) q (λ f. Unit {0})) × (v b ≡ false → made.AllGive (good l d n) r (λ f. Unit {0}))) (any p)
      (λ b u. ((λ e. any q), (λ e. any r)))

  -- ---- declarations

  abbrev GoodDecl : tree.Decl → Type 0
  GoodDecl x = (k : Option ℕ) → Written S grammar.declarator k (decl_lexemes x) (bare_decl x)

  declarator_given : Given (good l d n) grammar.declarator GoodDecl
  declarator_given = g_then g_name (λ x hx. g_either
      (g_skip (g_then g_expr (λ e he. g_done (λ k. written (b_then (b_left (b_skip (mark sign.Assign) refl (b_last (b_expr e he)))) (b_name x hx)) refl refl))))
      (g_either
      (g_then (g_between g_number)
      (λ m u. g_done
      (λ k. written
      (b_then (b_right (b_left (b_last (b_skip (mark sign.OpenBracket) refl (b_before (mark sign.CloseBracket) refl (b_number m))))))
      (b_name x hx)) refl refl)))
      (g_done (λ k. written (b_then (b_right (b_right b_done)) (b_name x hx)) refl refl))))

  abbrev GoodLocal : tree.Local → Type 0
  GoodLocal x = PlainLocal x → (k : Option ℕ) → Written S grammar.local k (local_lexemes x) (bare_local x ∷ [])

  -- what is declared alone
  abbrev DeclaredAgain : tree.Local → Type 0
  DeclaredAgain x = (k : Option ℕ) → Written S grammar.declaration k (local_lexemes x) (bare_local x ∷ [])

  declared_again : (ds : List tree.Decl) → EachMade GoodDecl ds → EachMade DeclaredAgain (map tree.declared ds)
  declared_again ds made.no_more = made.no_more
  declared_again ds (made.one_more {x = e} {xs = es} h t) = made.one_more
      (λ k. written (b_skip (word key.Int) refl (b_before (mark sign.Semicolon) refl (b_last (b_only (b_of (h _)))))) refl refl)
      (declared_again es t)

  declaration_given : Given (good l d n) grammar.declaration (λ xs. EachMade DeclaredAgain xs)
  declaration_given = g_skip (g_before (g_then (g_commas declarator_given) (λ ds h. g_done (declared_again ds (at_least_few ds h)))))

  as_locals : (xs : List tree.Local) → EachMade DeclaredAgain xs → EachMade GoodLocal xs
  as_locals xs made.no_more = made.no_more
  as_locals xs (made.one_more {xs = ys} h t) = made.one_more (λ pl k. written (b_left (b_of (h k))) refl refl) (as_locals ys t)

  inlet_again : (x : tree.Local) → Again l d n an_inlet x → GoodLocal x
  inlet_again x h pl k = written (b_right (b_last (record { ls = local_lexemes x; means = bare_local x; it = h pl k }))) refl refl

  local_given : Given (good l d n) grammar.local (λ xs. EachMade GoodLocal xs)
  local_given =
      g_either (g_use declaration_given as_locals)
      (g_then g_inlet (λ x h. g_done (made.one_more (inlet_again x h) made.no_more)))

  -- ---- blocks

  locals_spelled : (xs : List tree.Local) → EachMade GoodLocal xs → PlainLocals (locals_of xs) → (k : Option ℕ)
      → Spells S grammar.locals k (locals_lexemes (locals_of xs)) (map (λ x. bare_local x ∷ []) xs)
  locals_spelled xs made.no_more pl k = rule.no_more refl refl
  locals_spelled xs (made.one_more {x = y} {xs = ys} h t) pl k =
      rule.one_more (h pl.0 _).it (locals_spelled ys t pl.1 k) (at0-append (local_lexemes y) (locals_lexemes (locals_of ys))) refl

  -- no statement begins with `else`
  stmts_no_else : (k : Option ℕ) (us : List Piece) (xs : List tree.Stmt)
      → EachBefore cls (λ j vs s. SpellsNest l d n a_statement j vs s) k us xs → no_else k → no_else (next cls us k)
  stmts_no_else k us xs (rule.no_more e w) h = ap (λ (v : List Piece). has (a_word key.Else ∷ []) (next cls v k)) e ∙ h
  stmts_no_else k us xs (rule.one_more {us = vs} {vs = ws} {x = x} r s e w) h =
      ap (λ (v : List Piece). has (a_word key.Else ∷ []) (next cls v k)) e
      ∙ ap (λ j. has (a_word key.Else ∷ []) j) (next_append cls vs ws k) ∙ by (nest_begins l d n a_statement (next cls ws k) vs x r)
    where
      by : Begun cls (begins a_statement) false vs → no_else (next cls vs (next cls ws k))
      by (with_token lt f) = apart_has (a_word key.Else ∷ []) (begins a_statement) (next cls vs (next cls ws k)) refl (f (next cls ws k))
      by (with_nothing f i) = absurd cc

  stmts_spelled : (ss : List tree.Stmt) → EachMade (Again l d n a_statement) ss → PlainStmts (stmts_of ss) → (k : Option ℕ) → no_else k
      → Spells S grammar.statements k (stmts_lexemes (stmts_of ss)) (map bare_stmt ss)
  stmts_spelled ss made.no_more pl k ne = rule.no_more refl refl
  stmts_spelled ss (made.one_more {x = t} {xs = ts} h r) pl k ne =
      let rest = stmts_spelled ts r pl.1 k ne in
      rule.one_more (h pl.0 (next cls (all_at0 (stmts_lexemes (stmts_of ts))) k) (stmts_no_else k _ _ rest ne)) rest
      (at0-append (stmt_lexemes t) (stmts_lexemes (stmts_of ts))) refl

  abbrev pub BlockAgain : tree.Block → Type 0
  BlockAgain b = PlainBlock b → (k : Option ℕ) → Written S grammar.block k (block_lexemes b) (bare_block b)

  block_again : (xs : List tree.Local) (ss : List tree.Stmt) → EachMade GoodLocal xs → EachMade (Again l d n a_statement) ss
      → BlockAgain (tree.block (locals_of xs) (stmts_of ss))
  block_again xs ss hx hs pl k =
      written (b_skip (mark sign.OpenBrace) refl (b_before (mark sign.CloseBrace) refl (b_then (b_last (stmts _ refl)) (locals _)))) refl
      (λ i. tree.block (bare_locals_of xs i) (bare_stmts_of ss i))
    where
      stmts : (k : Option ℕ) → no_else k → Built S grammar.statements k
      stmts k ne = record { ls = stmts_lexemes (stmts_of ss); means = map bare_stmt ss; it = stmts_spelled ss hs pl.1 k ne }

      locals : (k : Option ℕ) → Built S grammar.locals k
      locals k = record { ls = locals_lexemes (locals_of xs); means = map (λ x. bare_local x ∷ []) xs; it = locals_spelled xs hx pl.0 k }

  pub block_given : Given (good l d n) grammar.block BlockAgain
  block_given =
      g_between
      (g_then (g_many local_given) (λ xss h. g_then (g_many g_statement)
      (λ ss g. g_done (block_again (joined xss) ss (each_joined xss h) g))))

  body_given : Given (good l d n) grammar.body BlockAgain
  body_given = g_either block_given (g_then g_unbraced (λ s h. g_done (block_again [] (s ∷ []) made.no_more (made.one_more h made.no_more))))

  -- ---- statements in which others stand

  abbrev b_body : {k : Option ℕ} {ls : List Lexeme} {b : tree.Block} → Written S grammar.block k ls b → Built S grammar.body k
  b_body w = b_left (b_of w)

  abbrev b_test : {k : Option ℕ} (e : Expr) → operators e ≤ l → Built S grammar.test k
  b_test e h = b_skip (mark sign.OpenParenthesis) refl (b_before (mark sign.CloseParenthesis) refl (b_expr e h))

  test_given : Given (good l d n) grammar.test (λ e. operators e ≤ l)
  test_given = g_between g_expr

  conditional_given : Given (good l d n) grammar.conditional (By grammar.conditional)
  conditional_given = g_skip (g_then test_given (λ e he. g_then body_given (λ b hb. g_nearest
      (g_skip
      (g_then body_given
      (λ o ho. g_done
      (λ pl k ne. written
      (b_skip (word key.If) refl (b_then (b_then (b_some (b_skip (word key.Else) refl (b_last (b_body (ho pl.1 k))))) (b_body (hb pl.0 _)))
      (b_test e he))) refl refl))))
      (λ pl k ne. written (b_skip (word key.If) refl (b_then (b_none ne (b_body (hb pl k))) (b_test e he))) refl refl))))

  looping_given : Given (good l d n) grammar.looping (By grammar.looping)
  looping_given =
      g_skip
      (g_then test_given
      (λ e he. g_then body_given
      (λ b hb. g_done (λ pl k ne. written (b_skip (word key.While) refl (b_then (b_last (b_body (hb pl k))) (b_test e he))) refl refl))))

  repeating_given : Given (good l d n) grammar.repeating (By grammar.repeating)
  repeating_given = g_skip (g_then body_given (λ b hb. g_skip (g_before (g_then test_given (λ e he. g_done (λ pl k ne.
      written
      (b_skip (word key.Do) refl (b_then (b_skip (word key.While) refl (b_before (mark sign.Semicolon) refl (b_last (b_test e he))))
      (b_body (hb pl _)))) refl refl))))))

  abbrev PartAgain : Option tree.Move → Type 0
  PartAgain m = (k : Option ℕ) → Written S (optional grammar.move) k (part_lexemes m) (bare_part m)

  part_given : Given (good l d n) (optional grammar.move) PartAgain
  part_given =
      g_either (g_then (moves.move_given l d le n) (λ m h. g_done (λ k. written (b_left (b_last (b_of (h k)))) refl refl)))
      (g_done (λ k. written (b_right b_done) refl refl))

  loop_test_given : Given (good l d n) grammar.loop_test (λ e. operators e ≤ l)
  loop_test_given = g_either g_expr (g_done (zero_least l))
    where
      zero_least : (m : ℕ) → 0 ≤ m
      zero_least m = omega Rattle.std.proofs.Common.arith

  for_loop_given : Given (good l d n) grammar.for_loop (By grammar.for_loop)
  for_loop_given =
      g_skip
      (g_skip
      (g_then (g_before part_given) (λ first hf. g_then (g_before loop_test_given)
      (λ e he. g_then (g_before part_given) (λ advance ha. g_then body_given (λ b hb. g_done (λ pl k ne.
      written (b_skip (word key.For) refl (b_skip (mark sign.OpenParenthesis) refl (b_then (b_then (b_then (b_last (b_body (hb pl k)))
      (b_before (mark sign.CloseParenthesis) refl (b_of (ha _)))) (b_before (mark sign.Semicolon) refl (b_left (b_expr e he))))
      (b_before (mark sign.Semicolon) refl (b_of (hf _)))))) refl refl)))))))

  -- ---- `switch`

  declarations_spelled : (xs : List tree.Local) → EachMade DeclaredAgain xs → (k : Option ℕ)
      → Spells S grammar.declarations k (locals_lexemes (locals_of xs)) (map (λ x. bare_local x ∷ []) xs)
  declarations_spelled xs made.no_more k = rule.no_more refl refl
  declarations_spelled xs (made.one_more {x = y} {xs = ys} h t) k =
      rule.one_more (h _).it (declarations_spelled ys t k) (at0-append (local_lexemes y) (locals_lexemes (locals_of ys))) refl

  -- a statement behind its labels
  abbrev LabelledAgain : List tree.Stmt → Type 0
  LabelledAgain ss = PlainStmts (stmts_of ss) → (k : Option ℕ) → no_else k → Written S grammar.labelled k (group_lexemes ss) (map bare_stmt ss)

  labelled_again : (xs : List tree.Stmt) (s : tree.Stmt) → EachMade (simple.LabelAgain l d le n) xs → Again l d n a_statement s
      → LabelledAgain (xs ++ s ∷ [])
  labelled_again xs s hx hs pl k ne = written (b_then (b_last last) (labels _)) (labelled_lexemes xs s) (sym (map-append bare_stmt xs (s ∷ [])))
    where
      last : Built S forms.statement k
      last = record { ls = stmt_lexemes s; means = bare_stmt s; it = hs (plain_append xs (s ∷ []) pl).1.0 k ne }

      labels : (j : Option ℕ) → Built S grammar.labels j
      labels j = record {
        ls = each stmt_lexemes xs;
        means = map bare_stmt xs;
        it = each_before S grammar.label stmt_lexemes bare_stmt (simple.LabelAgain l d le n) (λ x i h. (h i).it) xs j hx;
      }

  labelled_given : Given (good l d n) grammar.labelled LabelledAgain
  labelled_given = g_then (g_many (simple.label_given l d le n)) (λ xs h. g_then g_statement (λ s hs. g_done (labelled_again xs s h hs)))

  -- no label begins with `else` either
  labelled_no_else : (k : Option ℕ) (us : List Piece) (xss : List (List tree.Stmt)) → rule.Spelled cls first_of (says l d n) grammar.all_labelled k us xss
      → no_else k → no_else (next cls us k)
  labelled_no_else k us xss (rule.no_more e w) h = ap (λ (v : List Piece). has (a_word key.Else ∷ []) (next cls v k)) e ∙ h
  labelled_no_else k us xss (rule.one_more {us = vs} {vs = ws} {x = x} r s e w) h =
      ap (λ (v : List Piece). has (a_word key.Else ∷ []) (next cls v k)) e
      ∙ ap (λ j. has (a_word key.Else ∷ []) j) (next_append cls vs ws k)
      ∙ by (begun.begun cls first_of (says l d n) grammar.labelled (next cls ws k) vs x (begin_at l d n) r)
    where
      by : Begun cls (rule.first first_of grammar.labelled) false vs → no_else (next cls vs (next cls ws k))
      by (with_token lt f) =
          apart_has (a_word key.Else ∷ []) (rule.first first_of grammar.labelled) (next cls vs (next cls ws k)) refl (f (next cls ws k))
      by (with_nothing f i) = absurd cc

  all_labelled_spelled : (sss : List (List tree.Stmt)) → EachMade LabelledAgain sss → PlainStmts (stmts_of (joined sss)) → (k : Option ℕ) → no_else k
      → Spells S grammar.all_labelled k (each group_lexemes sss) (map (map bare_stmt) sss)
  all_labelled_spelled sss made.no_more pl k ne = rule.no_more refl refl
  all_labelled_spelled sss (made.one_more {x = g} {xs = gs} h r) pl k ne =
      let p = plain_append g (joined gs) pl in
      let rest = all_labelled_spelled gs r p.1 k ne in
      rule.one_more (h p.0 (next cls (all_at0 (each group_lexemes gs)) k) (labelled_no_else k _ _ rest ne)).it rest
      (at0-append (group_lexemes g) (each group_lexemes gs)) refl

  abbrev CasesAgain : tree.Block → Type 0
  CasesAgain b = PlainBlock b → (k : Option ℕ) → Written S grammar.cases k (block_lexemes b) (bare_block b)

  cases_again : (xs : List tree.Local) (sss : List (List tree.Stmt)) → EachMade DeclaredAgain xs → EachMade LabelledAgain sss
      → CasesAgain (tree.block (locals_of xs) (stmts_of (joined sss)))
  cases_again xs sss hx hs pl k =
      written (b_skip (mark sign.OpenBrace) refl (b_before (mark sign.CloseBrace) refl (b_then (b_last (groups _ refl)) (locals _)))) refl
      (λ i. tree.block (bare_locals_of xs i) (bare_groups sss i))
    where
      groups : (k : Option ℕ) → no_else k → Built S grammar.all_labelled k
      groups k ne = record {
        ls = group_lexemes (joined sss);
        means = map (map bare_stmt) sss;
        it = subst (λ ls. Spells S grammar.all_labelled k ls (map (map bare_stmt) sss)) (each_group sss) (all_labelled_spelled sss hs pl.1 k ne);
      }

      locals : (k : Option ℕ) → Built S grammar.declarations k
      locals k = record { ls = locals_lexemes (locals_of xs); means = map (λ x. bare_local x ∷ []) xs; it = declarations_spelled xs hx k }

  cases_given : Given (good l d n) grammar.cases CasesAgain
  cases_given =
      g_between
      (g_then (g_many declaration_given) (λ xss h. g_then (g_many labelled_given)
      (λ sss g. g_done (cases_again (joined xss) sss (each_joined xss h) g))))

  switching_given : Given (good l d n) grammar.switching (By grammar.switching)
  switching_given =
      g_skip
      (g_then test_given
      (λ e he. g_then cases_given
      (λ b hb. g_done (λ pl k ne. written (b_skip (word key.Switch) refl (b_then (b_last (b_of (hb pl k))) (b_test e he))) refl refl))))

  -- ---- all statements

  first_of_two : {r p q : Rule Means tree.Stmt} → Given (good l d n) r (By p) → Given (good l d n) r (By (either p q))
  first_of_two g = g_use g (λ s h pl k ne. record { it = inl (h pl k ne).it })

  second_of_two : {r p q : Rule Means tree.Stmt} → Given (good l d n) r (By q) → Given (good l d n) r (By (either p q))
  second_of_two g = g_use g (λ s h pl k ne. record { it = inr (h pl k ne).it })

  -- each by itself
  two : {p q : Rule Means tree.Stmt} → Given (good l d n) p (By p) → Given (good l d n) q (By q) → Given (good l d n) (either p q) (By (either p q))
  two g h = g_either (first_of_two g) (second_of_two h)

  locking_given : Given (good l d n) grammar.locking (By grammar.locking)
  locking_given = two (simple.locking_by_given l d le n _ _ refl) (two (simple.locking_by_given l d le n _ _ refl) (simple.locking_by_given l d le n _ _ refl))

  pub no_block_given : Given (good l d n) grammar.no_block_rule (By grammar.no_block_rule)
  no_block_given =
      g_either (first_of_two (simple.named_given l d le n))
      (g_either (first_of_two (simple.adjusting_given l d le n)) (second_of_two (second_of_two
      (two (simple.printing_given l d le n) (two locking_given (two (simple.spawning_given l d le n)
      (two (g_skip (g_done (λ pl k ne. written (b_skip (mark sign.Semicolon) refl b_done) refl refl)))
      (two (simple.alone_given l d le n _ _ (λ at. refl) (λ at. refl)) (two (simple.alone_given l d le n _ _ (λ at. refl) (λ at. refl))
      (two (simple.alone_given l d le n _ _ (λ at. refl) (λ at. refl)) (two (simple.alone_given l d le n _ _ (λ at. refl) (λ at. refl))
      (two (simple.returning_given l d le n) (two conditional_given (two looping_given (two repeating_given (two for_loop_given switching_given))))))))))))))))

  pub statement_given : Given (good l d n) grammar.statement_rule (By grammar.statement_rule)
  statement_given =
      g_either (g_then block_given (λ b hb. g_done (λ pl k ne. written (b_left (b_last (b_of (hb pl k)))) refl refl)))
      (second_of_two no_block_given)

  parameters_given : Given (good l d n) grammar.parameters (λ xs. Unit {0})
  parameters_given = record { it = any grammar.parameters }

  pub inlet_given : Given (good l d n) grammar.inlet_rule (λ x. PlainLocal x → (k : Option ℕ) → Written S grammar.inlet_rule k (local_lexemes x) (bare_local x))
  inlet_given = g_then g_word (λ at u. g_skip (g_then g_name (λ x hx. g_then parameters_given (λ ps u. g_then block_given (λ b hb. g_done (λ pl k.
      written
      (b_then (b_skip (word key.Void) refl (b_then (b_then (b_last (b_of (hb pl k))) (b_of (parameters_spelled S ps _))) (b_name x hx)))
      (b_word key.Inlet)) refl refl))))))
