use Rattle.std.proofs.Common.{◌≡◌, ◌<◌, ◌-◌, ℕ, suc, List, length, sym, ◌∙◌, subst, arith}
use Rattle.std.proofs.lemmas.List.{length-set}
use Rattle.std.specs.Prelude.{slice_index}
use Rattle.cilk_races.specs.Links.{ArePast, IsFirst, IsPassed, bucket_at}
use Rattle.cilk_races.specs.Paired.{touches_of}
use Rattle.cilk_races.specs.Races.{Touch}
use Rattle.cilk_races.proofs.Leaving.{past-here, past-on, pasts-more}
use Rattle.cilk_races.proofs.streaks.lead_past.Goals.{then-goes_on, else-goes_on}
use Rattle.cilk_races.proofs.streaks.lead_past.Goals as goal

pub loop-place-preserved : goal.loop-place-preserved
loop-place-preserved c =
    let touches = c.args.touches.now in
    let count = length touches in
    let place = c.loop-place.place - 1 in
    let old = c.loop-place.invariant in
    let size = old.size in
    let within = old.within in
    let one : c.loop-place.place ≡ suc (c.loop-place.place - 1) = omega arith in
    let low : place < count = omega (arith, within) in
    let behind = slice_index c.args.next.now place in
    record {
      within = omega (arith, within);
      size = length-set c.loop-place.past place c.if-goes_on.past ∙ size;
      past = λ rows first linked.
          let meant : List Touch = touches_of rows touches in
          let h : ArePast c.args.streak count meant (suc place) c.loop-place.past =
          subst (λ (n : ℕ). ArePast c.args.streak count meant n c.loop-place.past) one (old.past rows first linked) in
          let f = linked.next place (omega arith) low in
          let is : IsFirst count meant (IsPassed c.args.streak count meant place) (bucket_at count meant place) (suc place) c.if-goes_on.past =
          elim c.if-goes_on.branch [
            | then-goes_on w ↦
                subst (IsFirst count meant (IsPassed c.args.streak count meant place) (bucket_at count meant place) (suc place)) (sym w.past-is)
                (past-on c.args.streak count meant place behind c.loop-place.past h f (c.goes_on.ensures.there w.if-goes_on.true)
                (c.goes_on.ensures.alike w.if-goes_on.true rows))
            | else-goes_on w ↦
                subst (IsFirst count meant (IsPassed c.args.streak count meant place) (bucket_at count meant place) (suc place)) (sym w.past-is)
                (past-here c.args.streak count meant place behind c.loop-place.past h f)
          ] in
          pasts-more c.args.streak count meant place behind c.loop-place.past h f c.if-goes_on.past is (omega (arith, size));
    }

pub returns : goal.returns
returns c = λ rows first linked.
    let end : c.loop-place.place ≡ 0 = omega arith in
    subst (λ (n : ℕ). ArePast c.args.streak (length c.args.touches.now) (touches_of rows c.args.touches.now) n c.loop-place.past) end
    (c.loop-place.invariant.past rows first linked)
