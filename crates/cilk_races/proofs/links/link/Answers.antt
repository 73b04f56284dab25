use Rattle.std.proofs.Common.{◌≡◌, ◌<◌, ◌-◌, ◌%◌, ◌∙◌, ℕ, suc, List, length, set, ap, subst, sym, arith}
use Rattle.std.specs.Prelude.{false, slice_index, slice_index_or}
use Rattle.std.proofs.lemmas.List.{length-replicate}
use Rattle.cilk_races.specs.Links.{AreLinked}
use Rattle.cilk_races.specs.Paired.{touches_of}
use Rattle.cilk_races.specs.Races.{Touch}
use Rattle.cilk_races.proofs.Linked.{kept-bucket, linked-more, linked-none}
use Rattle.cilk_races.proofs.links.link.Goals as goal

pub loop-place-init : goal.loop-place-init
loop-place-init c = (
  omega arith,
  linked-none (length c.args.touches.now) (touches_of c.args.rows.now c.args.touches.now) c.args.first.now c.args.next.now c.requires.first,
)

pub loop-place-preserved : goal.loop-place-preserved
loop-place-preserved c =
    let count = length c.args.touches.now in
    let meant : List Touch = touches_of c.args.rows.now c.args.touches.now in
    let place = c.loop-place.place - 1 in
    let one : c.loop-place.place ≡ suc (c.loop-place.place - 1) = omega arith in
    let low : place < count = omega arith in
    let bucket = c.hash_of.result % count in
    let there : bucket < count = omega arith in
    let left = slice_index_or c.args.left.now place false in
    let size : length c.args.first.now ≡ count = ap length c.requires.first ∙ length-replicate count count in (
      omega arith,
      subst
          (λ (v : ℕ). AreLinked count meant place (set c.loop-place.first bucket v) (set c.loop-place.next place (slice_index c.loop-place.first bucket)))
          (sym c.begun.ensures)
          (linked-more count meant place bucket low
          (kept-bucket c.args.rows.now c.args.touches.now place c.index-touches-place.result low (sym c.index-touches-place.is) c.hash_of.result
          c.hash_of.ensures)
          left (c.requires.left place) c.loop-place.first c.loop-place.next (omega (arith, size)) (omega arith) there
          (subst (λ n. AreLinked count meant n c.loop-place.first c.loop-place.next) one c.loop-place.invariant.1)),
    )
