-- Two standings that are taken for one are over alike, and end alike.
use Rattle.std.proofs.Common.{◌≡◌, ℕ, Bool, List, sym, ap, ◌∙◌}
use Rattle.cilk_machine_agree.specs.labelled.Labelled.{Labelled}
use Rattle.cilk_machine_agree.specs.model.State.{Outcome}
use Rattle.cilk_machine_agree.specs.model.Run.{Standing}
use Rattle.cilk_machine_agree.specs.model.End.{end_by, is_stuck}
use Rattle.cilk_machine_agree.specs.runs.Hands.{EachInItsPlace}
use Rattle.cilk_machine_agree.proofs.runs_laws.Stuck.{stuck_exactly}
use Rattle.cilk_machine_agree.specs.explore.Ending.{Ending, ending_at, IsOver}
use Rattle.cilk_machine_agree.specs.explore.Same.{Same}
use Rattle.cilk_machine_agree.specs.explore.Laws.{TakenForOne}
use Rattle.cilk_machine_agree.proofs.explore.AtPaths.{same_test}
use Rattle.cilk_machine_agree.proofs.explore.Standings.{same_again, same_turned, same_both, sameness_is_kept}

-- one ending, where each is over if the other is
pub one_ending : (program : Labelled) (a b : Standing) → a.state.outcome ≡ b.state.outcome → a.state.output ≡ b.state.output
    → (IsOver program a → IsOver program b) → (IsOver program b → IsOver program a) → ending_at program a ≡ ending_at program b
one_ending program a b outcome output on back =
    let stuck : is_stuck program a ≡ is_stuck program b =
    same_test (is_stuck program a) (is_stuck program b)
    (λ h. let s = (stuck_exactly program a).0 h in (stuck_exactly program b).1 (sym outcome ∙ s.0, on s.1))
    (λ h. let s = (stuck_exactly program b).0 h in (stuck_exactly program a).1 (outcome ∙ s.0, back s.1)) in
    let told : Bool → Outcome → List ℕ → Ending = λ x o bytes. record { end = end_by program x o; output = bytes } in
    ap (λ x. told x a.state.outcome a.state.output) stuck ∙ ap (λ o. told (is_stuck program b) o a.state.output) outcome
    ∙ ap (told (is_stuck program b) b.state.outcome) output

module _ (alike : Standing → Standing → Type 0) (program : Labelled) (kept : TakenForOne alike program) (a b : Standing) (placed : EachInItsPlace a)
    (laid : EachInItsPlace b) (same : alike a b) where
  pub over_alike : IsOver program b → IsOver program a
  over_alike over choice free = let does = kept.onward a b placed laid same choice free in over does.other does.free

  over_back : IsOver program a → IsOver program b
  over_back over choice free = let does = kept.onward b a laid placed (kept.turned a b same) choice free in over does.other does.free

  pub end_alike : ending_at program a ≡ ending_at program b
  end_alike = one_ending program a b (kept.outcome a b same) (kept.output a b same) over_back over_alike

pub same_kept : (program : Labelled) → TakenForOne Same program
same_kept program = record {
  again = same_again;
  turned = same_turned;
  both = same_both;
  outcome = λ a b h. h.state.outcome;
  output = λ a b h. h.state.output;
  onward = λ a b placed laid h choice free.
      let goes = sameness_is_kept program a b placed laid h choice in
      record { other = choice; free = sym goes.refusal ∙ free; event = sym goes.event; next = goes.next };
}
