-- Going on behind an expression, as a loop does.
use Rattle.std.proofs.Common.{◌≡◌, ℕ, suc, ◌<◌, ◌≤◌, List, length, Option, Some, None, Ok, Err, refl, sym, ap, ◌∙◌}
use Rattle.std.proofs.lemmas.Bool.{lt-ltb}
use Rattle.cilk_tree_syntax.specs.lexeme.Lexeme.{Piece}
use Rattle.cilk_tree_syntax.specs.lexeme.declared.mark.Mark.TheVariants as marks
use Rattle.cilk_tree_syntax.specs.declared.operator.BinOp.{BinOp}
use Rattle.cilk_tree_syntax.specs.Tree as tree
use Rattle.cilk_parse_grammar.specs.declared.fault.Fault.TheVariants.{TooDeep}
use Rattle.cilk_parse_grammar.specs.declared.fault.ReadError.{ReadError}
use Rattle.cilk_parse_grammar.specs.declared.fault.ReadError.TheVariants as errors
use Rattle.cilk_parse_grammar.specs.ReadsAs.{Fails}
use Rattle.cilk_parse_grammar.specs.Rule.{behind, token_at}
use Rattle.cilk_parse_grammar.specs.declared.operator.Infix.{Infix}
use Rattle.cilk_parse_grammar.specs.declared.operator.Infix.TheVariants.{Two, Choice}
use Rattle.cilk_parse_grammar.specs.Classes.{a_mark, cls}
use Rattle.cilk_parse_grammar.specs.Operators.{operand}
use Rattle.cilk_parse_grammar.specs.Front.{infix_at}
use Rattle.cilk_parse_grammar.specs.Reading.{Reads, expr_of, more_of, operand_at, choice_at, subscript_at}
use Rattle.cilk_parse_grammar.proofs.Loops.{fails_first}
use Rattle.cilk_parse_grammar.proofs.Tables.{level_high}
use Rattle.cilk_parse_grammar.proofs.Tools.{infix_next, Stops}
use Rattle.cilk_parse_grammar.proofs.Steps.{by_operand, step_operator, step_choice, step_full, step_stops}

pub none_from : {A : Type 0} (o : Option A) → ((x : A) → o ≡ Some x → ⊥) → o ≡ None
none_from None h = refl
none_from (Some x) h = absurd (h x refl)

pub operand_fails : (e : ReadError) (l d p n : ℕ) (ts : List Piece) → Fails e (operand_at l d n ts) → Fails e (expr_of l d p n ts)
operand_fails e l d p n ts h = rw by_operand (fails_first e _ _ h)

pub operand_read : (l d p n m : ℕ) (ts rest : List Piece) (a : tree.Expr) → operand_at l d n ts ≡ Ok ((a, m), rest)
    → more_of l d p m a rest ≡ expr_of l d p n ts
operand_read l d p n m ts rest a h = sym (by_operand l d p n ts ∙ rw h refl)

-- a subscript without its closing bracket
pub subscript_open : (x : ReadError) (l d n m k : ℕ) (w : tree.Word) (ts us : List Piece) (i : tree.Expr) → n < l → m ≡ suc n
    → expr_of l d 0 m (behind ts) ≡ Ok ((i, k), us) → Fails x (token_at cls (a_mark marks.CloseBracket) us)
    → Fails x (subscript_at l d n w ts)
unfolding subscript_at
subscript_open x l d n m k w ts us i lt e h f =
    let h' : expr_of l d 0 (suc n) (behind ts) ≡ Ok ((i, k), us) = (λ j. expr_of l d 0 (sym e j) (behind ts)) ∙ h in
    rw (lt-ltb n l lt, h') (fails_first x (token_at cls (a_mark marks.CloseBracket) us) _ f)

-- no operator binds as tightly as an operand
pub infix_low : (ts : List Piece) (q : ℕ) (w : Infix) → infix_at ts ≡ Some (q, w) → q < operand
infix_low ts q w e = let k = infix_next ts q w e in level_high (cls k.piece) q w k.is

module _ (l d p n : ℕ) (a : tree.Expr) (ts : List Piece) (all : Reads) (h : more_of l d p n a ts ≡ all) where
  pub ends_here : infix_at ts ≡ None → all ≡ Ok ((a, n), ts)
  ends_here at = let st : Stops p ts = rw at tt in sym h ∙ step_stops l d p n a ts st

  pub stops_here : (q : ℕ) (w : Infix) → infix_at ts ≡ Some (q, w) → q < p → all ≡ Ok ((a, n), ts)
  stops_here q w at lt = let st : Stops p ts = rw at lt in sym h ∙ step_stops l d p n a ts st

  pub full_here : (q : ℕ) (w : Infix) → infix_at ts ≡ Some (q, w) → p ≤ q → l ≤ n → all ≡ Err (TooDeep (length ts))
  full_here q w at le full = sym h ∙ step_full l d p q n a ts le w at full

  pub choice_here : (q m : ℕ) → infix_at ts ≡ Some (q, Choice) → p ≤ q → n < l → m ≡ suc n → choice_at l d m a (behind ts) ≡ all
  choice_here q m at le lt i = ap (λ j. choice_at l d j a (behind ts)) i ∙ sym (step_choice l d p q n a ts le at lt) ∙ h

  pub operator_fails : (q r : ℕ) (o : BinOp) (x : ReadError) (m : ℕ) → infix_at ts ≡ Some (q, Two o) → p ≤ q → n < l → r ≡ suc q → m ≡ suc n
      → Fails x (expr_of l d r m (behind ts)) → Fails x all
  operator_fails q r o x m at le lt e i k =
      rw (sym h ∙ step_operator l d p q n a ts le o at lt, ← e, ← i) (fails_first x _ _ k)

  pub operator_goes : (q r : ℕ) (o : BinOp) (b : tree.Expr) (rest : List Piece) (m k : ℕ) → infix_at ts ≡ Some (q, Two o) → p ≤ q → n < l
      → r ≡ suc q → m ≡ suc n → expr_of l d r m (behind ts) ≡ Ok ((b, k), rest)
      → more_of l d p k (tree.binary o a b) rest ≡ all
  operator_goes q r o b rest m k at le lt e i g =
      let g' : expr_of l d (suc q) (suc n) (behind ts) ≡ Ok ((b, k), rest) = (λ j. expr_of l d (sym e j) (sym i j) (behind ts)) ∙ g in
      sym (sym h ∙ step_operator l d p q n a ts le o at lt ∙ rw g' refl)
