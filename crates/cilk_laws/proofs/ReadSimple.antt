-- The canonical lexemes of a simple statement spell it again.
use Rattle.std.proofs.Common.{◌≡◌, ℕ, zero, suc, ℤ, pos, neg_ℤ, ◌≤◌, true, List, [], ◌∷◌, codes, Option, Some, None, refl, sym, subst}
use Rattle.cilk_check.specs.lexeme.Lexeme.{word, name, mark}
use Rattle.cilk_check.specs.lexeme.declared.keyword.Keyword.{Keyword}
use Rattle.cilk_check.specs.lexeme.declared.keyword.Keyword.TheVariants as key
use Rattle.cilk_check.specs.lexeme.declared.mark.Mark.TheVariants as sign
use Rattle.cilk_check.specs.syntax.declared.lock_action.LockAction.{LockAction}
use Rattle.cilk_check.specs.syntax.declared.operator.BinOp.{BinOp}
use Rattle.cilk_check.specs.syntax.LockWord.{lock_word}
use Rattle.cilk_check.specs.syntax.Tree as tree
use Rattle.cilk_check.specs.syntax.Tree.{Word, Expr}
use Rattle.cilk_check.specs.syntax.Bare.{bare_value, bare_stmt}
use Rattle.cilk_parse.specs.grammar.Rule.{Rule, either, and_then, is}
use Rattle.cilk_parse_grammar.specs.Classes.{a_mark, name_class}
use Rattle.cilk_parse_grammar.proofs.ClassFacts.{names_are}
use Rattle.cilk_parse_grammar.specs.Parts.{Value, computed, called, assigned, Means}
use Rattle.cilk_parse_grammar.specs.Forms.{expression, optional}
use Rattle.cilk_parse_grammar.specs.Grammar as grammar
use Rattle.cilk_laws.specs.Plain.{IsPlain, PlainStmt}
use Rattle.cilk_laws.specs.StmtLexemes.{ended, value_lexemes, integer_lexemes, stmt_lexemes}
use Rattle.cilk_laws.proofs.Made as made
use Rattle.cilk_laws.proofs.Built.{Setting, Written, Built, written, b_of, b_done, b_skip, b_then, b_last, b_left, b_right, b_before, b_name}
use Rattle.cilk_laws.proofs.Built.{b_word, b_number, b_literal, b_expr}
use Rattle.cilk_laws.proofs.Given.{good, no_else, Few, GoodValue, Given, g_done, g_skip, g_then, g_either, g_use, g_before, g_between}
use Rattle.cilk_laws.proofs.Given.{g_behind_commas, g_commas, g_word, g_name, g_number, g_literal, g_expr, g_value}
use Rattle.cilk_laws.proofs.ReadMoves as moves
use Rattle.cilk_laws.proofs.ReadMoves.{setting, b_next, b_exprs, b_arguments, at_least_few, FewIndex, b_index}

option_spelled : (S : Setting) (v : Option Expr) (k : Option ℕ) → FewIndex S.limit v → Written S (optional expression) k (value_lexemes v) (bare_value v)
option_spelled S None k h = written (b_right b_done) refl refl
option_spelled S (Some e) k h = written (b_left (b_last (b_expr e h))) refl refl

module _ (l d : ℕ) (le : l ≤ d) (n : ℕ) where
  abbrev S : Setting
  S = setting l d le n

  -- its canonical lexemes spell it by the rule
  abbrev pub By : Rule Means tree.Stmt → tree.Stmt → Type 0
  By r s = PlainStmt s → (k : Option ℕ) → no_else k → Written S r k (stmt_lexemes s) (bare_stmt s)

  -- ---- what begins with a name

  abbrev b_named : {k : Option ℕ} (x : Word) → IsPlain x
      → Built S (either grammar.called (and_then grammar.index grammar.written)) (Some (a_mark sign.Semicolon)) → Built S grammar.named k
  b_named x h b = b_before (mark sign.Semicolon) refl (b_then b (b_name x h))

  -- what makes a spawn of the taker
  record IsChild (f : tree.Taker → tree.Stmt) : Type 0 where
    at : ℕ
    callee : Word
    arguments : List Expr
    few : Few l arguments
    is : (t : tree.Taker) → f t ≡ tree.spawn_at at t callee arguments

  child_given : Given (good l d n) grammar.child IsChild
  child_given =
      g_then g_word
      (λ at u. g_then g_name (λ f hf. g_then (moves.arguments_given l d le n)
      (λ es h. g_done (record { at = at; callee = f; arguments = es; few = h; is = λ t. refl }))))

  abbrev b_child : {k : Option ℕ} (f : Word) (es : List Expr) → Few l es → Built S grammar.child k
  b_child f es h = b_then (b_then (b_last (b_arguments es h)) (b_name f (names_are f.text))) (b_word key.Spawn)

  as_child : (r : Rule Means tree.Stmt) (f : tree.Taker → tree.Stmt) (c : IsChild f) (t : tree.Taker)
      → By r (tree.spawn_at c.at t c.callee c.arguments) → By r (f t)
  as_child r f c t b = subst (λ s. By r s) (sym (c.is t)) b

  called_given : Given (good l d n) grammar.called (λ f. (x : Word) → IsPlain x → By grammar.named (f x))
  called_given = g_between (g_either
      (g_then child_given (λ c hc. g_then (g_behind_commas g_expr) (λ es h. g_done (λ x px. as_child grammar.named c hc (tree.through x es) (λ pl k ne.
      written
      (b_named x px
      (b_left
      (b_skip (mark sign.OpenParenthesis) refl (b_before (mark sign.CloseParenthesis) refl
      (b_left (b_then (b_last (b_next es h)) (b_child hc.callee hc.arguments hc.few))))))) refl refl)))))
      (g_either (g_then (g_commas g_expr) (λ es h. g_done (λ x px pl k ne. calls es (at_least_few es h) x px k)))
      (g_done (λ x px pl k ne. calls [] made.no_more x px k))))
    where
      calls : (es : List Expr) → Few l es → (x : Word) → IsPlain x → (k : Option ℕ)
          → Written S grammar.named k (stmt_lexemes (tree.move (tree.call None x es))) (bare_stmt (tree.move (tree.call None x es)))
      calls es made.no_more x px k =
          written
          (b_named x px
          (b_left (b_skip (mark sign.OpenParenthesis) refl (b_before (mark sign.CloseParenthesis) refl (b_right (b_right b_done)))))) refl
          refl
      calls es (made.one_more {x = f} {xs = fs} h hs) x px k =
          written
          (b_named x px
          (b_left (b_skip (mark sign.OpenParenthesis) refl
          (b_before (mark sign.CloseParenthesis) refl (b_right (b_left (b_last (b_exprs f fs h hs)))))))) refl refl

  written_given : Given (good l d n) grammar.written (λ f. (i : Option Expr) → FewIndex l i → (x : Word) → IsPlain x → By grammar.named (f i x))
  written_given = g_either
      (g_then (moves.op_given l d le n) (λ o ho. g_either
      (g_then child_given (λ c hc. g_done (λ i hi x px. as_child grammar.named c hc (tree.into (grammar.target_at x i o)) (λ pl k ne.
      written
      (b_named x px
      (b_right (b_then (b_left (b_then (b_left (b_last (b_child hc.callee hc.arguments hc.few))) (b_of (ho _)))) (b_index i hi)))) refl
      refl))))
      (g_then g_value (λ v hv. g_done (λ i hi x px pl k ne. assigns o ho v hv i hi x px k)))))
      (g_then (moves.adjustment_given l d le n) (λ a ha. g_done
      (λ i hi x px pl k ne. written (b_named x px (b_right (b_then (b_right (b_last (b_of (ha _)))) (b_index i hi)))) refl refl)))
    where
      assigns : (o : Option BinOp) → moves.OpAgain l d le n o → (v : Value) → GoodValue l v → (i : Option Expr) → FewIndex l i → (x : Word)
          → IsPlain x → (k : Option ℕ)
          → Written S grammar.named k (stmt_lexemes (tree.move (assigned (grammar.target_at x i o) v)))
          (bare_stmt (tree.move (assigned (grammar.target_at x i o) v)))
      assigns o ho (computed e) hv i hi x px k =
          written
          (b_named x px
          (b_right (b_then (b_left (b_then (b_right (b_last (moves.b_value l d le n (computed e) hv))) (b_of (ho _)))) (b_index i hi))))
          refl refl
      assigns o ho (called f es) hv i hi x px k =
          written
          (b_named x px
          (b_right (b_then (b_left (b_then (b_right (b_last (moves.b_value l d le n (called f es) hv))) (b_of (ho _)))) (b_index i hi))))
          refl refl

  pub named_given : Given (good l d n) grammar.named (By grammar.named)
  named_given =
      g_before
      (g_then g_name (λ x px. g_either (g_use called_given (λ f h. h x px))
      (g_then (moves.index_given l d le n) (λ i hi. g_use written_given (λ f h. h i hi x px)))))

  -- ---- the others

  pub adjusting_given : Given (good l d n) grammar.adjusting (By grammar.named)
  adjusting_given = g_before (g_then (moves.adjusted_given l d le n) (λ m h. g_done (adjusts m h)))
    where
      adjusts : (m : tree.Move) → moves.GoodAdjust l d le n m → By grammar.named (tree.move m)
      adjusts (tree.adjust p a) h pl k ne = written (b_named p.name pl (b_right (b_then (b_right (b_last (b_of (h.1 _)))) (b_index p.index h.0)))) refl refl
      adjusts (tree.assign t e) h pl k ne = elim h [ ]
      adjusts (tree.call t f es) h pl k ne = elim h [ ]

  pub spawning_given : Given (good l d n) grammar.spawning (By grammar.spawning)
  spawning_given = g_before (g_then child_given (λ c hc. g_done (as_child grammar.spawning c hc tree.nothing (λ pl k ne.
      written (b_before (mark sign.Semicolon) refl (b_last (b_child hc.callee hc.arguments hc.few))) refl refl))))

  pub printing_given : Given (good l d n) grammar.printing (By grammar.printing)
  printing_given = g_skip (g_before (g_between (g_then g_literal (λ t u. g_then (g_behind_commas g_expr) (λ es h. g_done (λ pl k ne.
      written
      (b_skip (name (codes "printf")) refl (b_before (mark sign.Semicolon) refl
      (b_skip (mark sign.OpenParenthesis) refl (b_before (mark sign.CloseParenthesis) refl (b_then (b_last (b_next es h)) (b_literal t))))))
      refl refl))))))

  pub locking_by_given : (c : ℕ) (a : LockAction) → is c (Some (name_class (lock_word a))) ≡ true
      → Given (good l d n) (grammar.locking_by c a) (By (grammar.locking_by c a))
  locking_by_given c a e = g_skip (g_before (g_then (g_between g_name) (λ x hx. g_done (λ pl k ne.
      written
      (b_skip (name (lock_word a)) e (b_before (mark sign.Semicolon) refl
      (b_last (b_skip (mark sign.OpenParenthesis) refl (b_before (mark sign.CloseParenthesis) refl (b_name x hx)))))) refl refl))))

  pub alone_given : (w : Keyword) (f : ℕ → tree.Stmt) → ((at : ℕ) → ended (word w ∷ []) ≡ stmt_lexemes (f at))
      → ((at : ℕ) → f 0 ≡ bare_stmt (f at)) → Given (good l d n) (grammar.alone w f) (By (grammar.alone w f))
  alone_given w f e h = g_before (g_then g_word (λ at u. g_done (λ pl k ne. written (b_before (mark sign.Semicolon) refl (b_last (b_word w))) (e at) (h at))))

  pub returning_given : Given (good l d n) grammar.returning (By grammar.returning)
  returning_given =
      g_before
      (g_then g_word
      (λ at u. g_then option_given
      (λ v h. g_done
      (λ pl k ne. written (b_before (mark sign.Semicolon) refl (b_then (b_last (b_of (option_spelled S v _ h))) (b_word key.Return))) refl
      refl))))
    where
      option_given : Given (good l d n) (optional expression) (FewIndex l)
      option_given = g_either (g_then g_expr (λ e he. g_done he)) (g_done tt)

  -- ---- labels

  abbrev pub IntegerAgain : ℤ → Type 0
  IntegerAgain z = (k : Option ℕ) → Written S grammar.integer k (integer_lexemes z) z

  negative_again : (m : ℕ) → IntegerAgain (neg_ℤ (pos m))
  negative_again zero k = written (b_right (b_last (b_number 0))) refl refl
  negative_again (suc m) k = written (b_left (b_skip (mark sign.Minus) refl (b_last (b_number (suc m))))) refl refl

  pub integer_given : Given (good l d n) grammar.integer IntegerAgain
  integer_given =
      g_either (g_skip (g_then g_number (λ m u. g_done (negative_again m))))
      (g_then g_number (λ m u. g_done (λ k. written (b_right (b_last (b_number m))) refl refl)))

  abbrev pub LabelAgain : tree.Stmt → Type 0
  LabelAgain s = (k : Option ℕ) → Written S grammar.label k (stmt_lexemes s) (bare_stmt s)

  pub label_given : Given (good l d n) grammar.label LabelAgain
  label_given =
      g_before
      (g_either
      (g_then g_word (λ at u. g_then integer_given
      (λ z h. g_done (λ k. written (b_before (mark sign.Colon) refl (b_left (b_then (b_last (b_of (h _))) (b_word key.Case)))) refl refl))))
      (g_then g_word (λ at u. g_done (λ k. written (b_before (mark sign.Colon) refl (b_right (b_last (b_word key.Default)))) refl refl))))
