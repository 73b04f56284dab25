-- The canonical lexemes of a move spell it again.
use Rattle.std.proofs.Common.{ℕ, ◌≤◌, List, [], ◌∷◌, map, Option, Some, None, refl, inl, inr}
use Rattle.cilk_check.specs.lexeme.Lexeme.{Lexeme, mark}
use Rattle.cilk_check.specs.lexeme.declared.mark.Mark.TheVariants as sign
use Rattle.cilk_check.specs.syntax.Tree as tree
use Rattle.cilk_check.specs.syntax.Tree.{Word, Expr}
use Rattle.cilk_check.specs.syntax.declared.adjustment.Adjustment.{Adjustment}
use Rattle.cilk_check.specs.syntax.declared.operator.BinOp.{BinOp}
use Rattle.cilk_check.specs.syntax.Bare.{bare_word, bare_expr, bare_value, bare_move}
use Rattle.cilk_parse.specs.grammar.Rule.{skip}
use Rattle.cilk_parse_grammar.specs.Classes.{a_mark}
use Rattle.cilk_parse_grammar.specs.Expressions.{operators}
use Rattle.cilk_parse_grammar.proofs.ClassFacts.{names_are}
use Rattle.cilk_parse_grammar.specs.Parts.{Value, computed, called, assigned}
use Rattle.cilk_parse_grammar.specs.Forms.{expression, value, behind_commas, commas}
use Rattle.cilk_parse_grammar.specs.Grammar as grammar
use Rattle.cilk_parse_grammar.specs.Likes.{bare_written}
use Rattle.cilk_parse_grammar.specs.Spelling.{leaf_says, call}
use Rattle.cilk_parse_grammar.proofs.Nests.{says}
use Rattle.cilk_laws.specs.ExprLexemes.{in_parentheses, expr_lexemes}
use Rattle.cilk_laws.specs.StmtLexemes.{next_exprs_lexemes, exprs_lexemes, call_lexemes, index_lexemes, assign_mark, adjust_mark, move_lexemes}
use Rattle.cilk_laws.proofs.ReadExprs.{canonical_whole}
use Rattle.cilk_laws.proofs.Made as made
use Rattle.cilk_laws.proofs.Made.{EachMade}
use Rattle.cilk_laws.proofs.Built.{Setting, Spells, Written, Built, written, b_of, b_done, b_skip, b_then, b_last, b_left, b_right, b_before}
use Rattle.cilk_laws.proofs.Built.{b_name, b_expr, each_before}
use Rattle.cilk_laws.proofs.Given.{good, Few, GoodValue, AtLeastOne, Given, g_done, g_skip, g_then, g_either, g_use, g_between, g_commas}
use Rattle.cilk_laws.proofs.Given.{g_name, g_expr, g_value}

module _ (l d : ℕ) (le : l ≤ d) where
  abbrev pub setting : ℕ → Setting
  setting n = record { limit = l; says = says l d n; one = λ t k ts x s. s; expr = λ k e h. canonical_whole l d e le h }

  abbrev leaf_setting : Setting
  leaf_setting = record { limit = l; says = leaf_says l d; one = λ t k ts x s. s; expr = λ k e h. canonical_whole l d e le h }

-- ---- arguments

pub next_spelled : (S : Setting) (es : List Expr) (k : Option ℕ) → Few S.limit es
    → Spells S (behind_commas expression) k (next_exprs_lexemes es) (map bare_expr es)
next_spelled S es k h =
    each_before S (skip (a_mark sign.Comma) expression) (λ e. mark sign.Comma ∷ expr_lexemes e) bare_expr (λ e. operators e ≤ S.limit)
    (λ e j i. (b_skip {S = S} {c = a_mark sign.Comma} {p = expression} {k = j} (mark sign.Comma) refl (b_expr e i)).it) es k h

abbrev pub b_next : {S : Setting} {k : Option ℕ} (es : List Expr) → Few S.limit es → Built S (behind_commas expression) k
b_next {S = S} {k = k} es h = record { ls = next_exprs_lexemes es; means = map bare_expr es; it = next_spelled S es k h }

abbrev pub b_exprs : {S : Setting} {k : Option ℕ} (e : Expr) (es : List Expr) → operators e ≤ S.limit → Few S.limit es → Built S (commas expression) k
b_exprs e es h hs = b_then (b_last (b_next es hs)) (b_expr e h)

pub arguments_spelled : (S : Setting) (es : List Expr) (k : Option ℕ) → Few S.limit es
    → Written S grammar.arguments k (in_parentheses (exprs_lexemes es)) (map bare_expr es)
arguments_spelled S es k made.no_more =
    written (b_skip (mark sign.OpenParenthesis) refl (b_before (mark sign.CloseParenthesis) refl (b_right b_done))) refl refl
arguments_spelled S es k (made.one_more {x = f} {xs = fs} h hs) =
    written (b_skip (mark sign.OpenParenthesis) refl (b_before (mark sign.CloseParenthesis) refl (b_left (b_exprs f fs h hs)))) refl refl

abbrev pub b_arguments : {S : Setting} {k : Option ℕ} (es : List Expr) → Few S.limit es → Built S grammar.arguments k
b_arguments {S = S} {k = k} es h = b_of (arguments_spelled S es k h)

pub at_least_few : {A : Type 0} {R : A → Type 0} (xs : List A) → AtLeastOne R xs → EachMade R xs
at_least_few [] h = elim h [ ]
at_least_few (x ∷ xs) h = made.one_more h.0 h.1

abbrev pub FewIndex : ℕ → Option Expr → Type 0
FewIndex l None = Unit {0}
FewIndex l (Some e) = operators e ≤ l

pub index_spelled : (S : Setting) (i : Option Expr) (k : Option ℕ) → FewIndex S.limit i → Written S grammar.index k (index_lexemes i) (bare_value i)
index_spelled S None k h = written (b_right b_done) refl refl
index_spelled S (Some e) k h = written (b_left (b_last (b_skip (mark sign.OpenBracket) refl (b_before (mark sign.CloseBracket) refl (b_expr e h))))) refl refl

abbrev pub b_index : {S : Setting} {k : Option ℕ} (i : Option Expr) → FewIndex S.limit i → Built S grammar.index k
b_index {S = S} {k = k} i h = b_of (index_spelled S i k h)

module _ (l d : ℕ) (le : l ≤ d) (n : ℕ) where
  abbrev pub S : Setting
  S = setting l d le n

  pub arguments_given : Given (good l d n) grammar.arguments (Few l)
  arguments_given = g_between (g_either (g_use (g_commas g_expr) (λ es h. at_least_few es h)) (g_done made.no_more))

  pub index_given : Given (good l d n) grammar.index (FewIndex l)
  index_given = g_either (g_then (g_between g_expr) (λ e h. g_done h)) (g_done tt)

  -- ---- operators

  abbrev pub OpAgain : Option BinOp → Type 0
  OpAgain o = (k : Option ℕ) → Written S grammar.op k (mark (assign_mark o) ∷ []) o

  pub op_given : Given (good l d n) grammar.op OpAgain
  op_given =
      g_either (g_skip (g_done (λ k. written (b_left (b_skip (mark sign.Assign) refl b_done)) refl refl))) (
      g_either (g_skip (g_done (λ k. written (b_right (b_left (b_skip (mark sign.AddAssign) refl b_done))) refl refl))) (
      g_either (g_skip (g_done (λ k. written (b_right (b_right (b_left (b_skip (mark sign.SubtractAssign) refl b_done)))) refl refl))) (
      g_either (g_skip (g_done (λ k. written (b_right (b_right (b_right (b_left (b_skip (mark sign.MultiplyAssign) refl b_done))))) refl refl))) (
      g_either (g_skip (g_done (λ k. written (b_right (b_right (b_right (b_right (b_left (b_skip (mark sign.DivideAssign) refl b_done)))))) refl refl))) (
      g_either
      (g_skip
      (g_done (λ k. written (b_right (b_right (b_right (b_right (b_right (b_left (b_skip (mark sign.RemainderAssign) refl b_done))))))) refl
      refl))) (
      g_either
      (g_skip
      (g_done
      (λ k. written (b_right (b_right (b_right (b_right (b_right (b_right (b_left (b_skip (mark sign.ShiftLeftAssign) refl b_done))))))))
      refl refl))) (
      g_either
      (g_skip
      (g_done
      (λ k. written
      (b_right (b_right (b_right (b_right (b_right (b_right (b_right (b_left (b_skip (mark sign.ShiftRightAssign) refl b_done))))))))) refl
      refl))) (
      g_either
      (g_skip
      (g_done
      (λ k. written
      (b_right (b_right (b_right (b_right (b_right (b_right (b_right (b_right (b_left (b_skip (mark sign.BitAndAssign) refl b_done))))))))))
      refl refl))) (
      g_either
      (g_skip
      (g_done
      (λ k. written
      (b_right
      (b_right
      (b_right (b_right (b_right (b_right (b_right (b_right (b_right (b_left (b_skip (mark sign.BitXorAssign) refl b_done))))))))))) refl
      refl))) (
      g_skip
      (g_done
      (λ k. written
      (b_right
      (b_right
      (b_right (b_right (b_right (b_right (b_right (b_right (b_right (b_right (b_skip (mark sign.BitOrAssign) refl b_done))))))))))) refl
      refl))))))))))))

  abbrev pub AdjustAgain : Adjustment → Type 0
  AdjustAgain a = (k : Option ℕ) → Written S grammar.adjustment k (mark (adjust_mark a) ∷ []) a

  pub adjustment_given : Given (good l d n) grammar.adjustment AdjustAgain
  adjustment_given =
      record {
        it = (
          (λ k. written (b_left (b_skip (mark sign.Increment) refl b_done)) refl refl),
          (λ k. written (b_right (b_skip (mark sign.Decrement) refl b_done)) refl refl),
        );
      }

  -- ---- what an assignment writes

  abbrev pub written_lexemes : Value → List Lexeme
  written_lexemes (computed e) = expr_lexemes e
  written_lexemes (called f es) = call_lexemes f es

  pub value_spelled : (v : Value) (k : Option ℕ) → GoodValue l v → Written S value k (written_lexemes v) (bare_written v)
  value_spelled (computed e) k h = record { it = inl (record { expr = bare_expr e; spelled = canonical_whole l d e le h; meaning = refl }) }
  value_spelled (called f es) k h =
      let w : Written (leaf_setting l d le) call k (call_lexemes f es) (called (bare_word f) (map bare_expr es)) = written
      (b_then (b_last (b_arguments es h)) (b_name f (names_are f.text))) refl refl in
      record { it = inr w.it }

  abbrev pub b_value : {k : Option ℕ} (v : Value) → GoodValue l v → Built S value k
  b_value {k = k} v h = b_of (value_spelled v k h)

  -- ---- moves

  abbrev pub MoveAgain : tree.Move → Type 0
  MoveAgain m = (k : Option ℕ) → Written S grammar.move k (move_lexemes m) (bare_move m)

  move_of_place_given : Given (good l d n) grammar.move_of_place (λ f. (i : Option Expr) → FewIndex l i → (x : Word) → MoveAgain (f i x))
  move_of_place_given =
      g_either (g_then op_given (λ o ho. g_then g_value (λ v hv. g_done (assigns o ho v hv))))
      (g_then adjustment_given (λ a ha. g_done (λ i hi x k.
      written (b_left (b_then (b_right (b_then (b_right (b_last (b_of (ha k)))) (b_index i hi))) (b_name x (names_are x.text)))) refl refl)))
    where
      assigns : (o : Option BinOp) → OpAgain o → (v : Value) → GoodValue l v → (i : Option Expr) → FewIndex l i → (x : Word)
          → MoveAgain (assigned (grammar.target_at x i o) v)
      assigns o ho (computed e) hv i hi x k =
          written
          (b_left (b_then (b_right (b_then (b_left (b_then (b_last (b_value (computed e) hv)) (b_of (ho _)))) (b_index i hi)))
          (b_name x (names_are x.text)))) refl refl
      assigns o ho (called f es) hv i hi x k =
          written
          (b_left (b_then (b_right (b_then (b_left (b_then (b_last (b_value (called f es) hv)) (b_of (ho _)))) (b_index i hi)))
          (b_name x (names_are x.text)))) refl refl

  -- an increment or a decrement
  abbrev pub GoodAdjust : tree.Move → Type 0
  GoodAdjust (tree.adjust p a) = FewIndex l p.index × AdjustAgain a
  GoodAdjust m = ⊥

  pub adjusted_given : Given (good l d n) grammar.adjusted GoodAdjust
  adjusted_given = g_then adjustment_given (λ a ha. g_then (g_then g_name (λ x hx. g_then index_given (λ i hi. g_done hi))) (λ p hp. g_done (hp, ha)))

  adjust_again : (m : tree.Move) → GoodAdjust m → MoveAgain m
  adjust_again (tree.adjust p a) h k =
      written
      (b_left (b_then (b_right (b_then (b_right (b_last (b_of (h.1 k)))) (b_index p.index h.0))) (b_name p.name (names_are p.name.text))))
      refl refl
  adjust_again (tree.assign t e) h k = elim h [ ]
  adjust_again (tree.call t f es) h k = elim h [ ]

  pub move_given : Given (good l d n) grammar.move MoveAgain
  move_given = g_either
      (g_then g_name
      (λ x hx. g_either
      (g_then arguments_given
      (λ es h. g_done (λ k. written (b_left (b_then (b_left (b_last (b_arguments es h))) (b_name x hx))) refl refl)))
      (g_then index_given (λ i hi. g_use move_of_place_given (λ f h. h i hi x)))))
      (g_use adjusted_given adjust_again)
