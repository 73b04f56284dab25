use Rattle.std.proofs.Common.{◌≡◌, ℕ, List, length, nat_eq, true, false, inr, get_or, sym, ap, ◌∙◌, arith}
use Rattle.std.proofs.lemmas.Option.{slice_get_within}
use Rattle.cilk_explore.proofs.Marks.{link-read, none-more}
use Rattle.cilk_explore.proofs.marking.may_be_marked.Goals as goal

pub returns-then-has_mark-clause-may : goal.returns-then-has_mark-clause-may
returns-then-has_mark-clause-may c = λ e.
    inr (c.loop-i.i, get_or c.args.own.now c.loop-i.i 0, link-read c.args.own.now c.loop-i.i (omega arith), sym c.has_mark.ensures ∙ c.if-has_mark.true)

pub loop-i-preserved : goal.loop-i-preserved
loop-i-preserved c =
    none-more c.args.own.now c.args.marks.now c.loop-i.i (omega arith) (sym c.has_mark.ensures ∙ c.if-has_mark.false) c.loop-i.invariant

pub returns-clause-stays : goal.returns-clause-stays
returns-clause-stays c = λ e. record {
  some = λ none.
      let bad : true ≡ false = sym (ap (λ (xs : List ℕ). nat_eq (length xs) 0) none) ∙ sym c.is_empty.ensures ∙ c.if-is_empty.false in cc;
  each = λ place to there. let inside = slice_get_within c.args.own.now place to there in c.loop-i.invariant place to (omega arith) there;
}
