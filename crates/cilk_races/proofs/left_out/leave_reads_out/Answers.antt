use Rattle.std.proofs.Common.{◌≡◌, ◌<◌, ◌-◌, ◌%◌, suc, List, length, sym, ap, ◌∙◌, subst, arith, true}
use Rattle.std.proofs.lemmas.List.{length-set}
use Rattle.cilk_races.specs.Links.{AreRead}
use Rattle.cilk_races.specs.Paired.{touches_of}
use Rattle.cilk_races.specs.Races.{Touch}
use Rattle.cilk_races.proofs.Leaving.{left-out-more, read-more, written-more}
use Rattle.cilk_races.proofs.Linked.{kept-bucket, kept-touch}
use Rattle.cilk_races.proofs.left_out.leave_reads_out.Goals as goal

pub loop-place-preserved-then-touch : goal.loop-place-preserved-then-touch
loop-place-preserved-then-touch c =
    let rows = c.args.rows.now in
    let touches = c.args.touches.now in
    let count = length touches in
    let meant : List Touch = touches_of rows touches in
    let place = c.loop-place.place - 1 in
    let old = c.loop-place.invariant in
    let size = old.written in
    let one : c.loop-place.place ≡ suc (c.loop-place.place - 1) = omega arith in
    let within = old.within in
    let low : place < count = omega (arith, within) in
    let bucket = c.hash_of.result % count in
    let is = kept-bucket rows touches place c.index-touches-place.result low (sym c.index-touches-place.is) c.hash_of.result c.hash_of.ensures in
    record {
      within = omega (arith, within);
      written = length-set c.loop-place.written bucket true ∙ size;
      size = old.size;
      read = written-more count meant place bucket is c.loop-place.written (omega (arith, size))
          (subst (λ n. AreRead count meant n c.loop-place.written) one old.read);
      left = old.left;
    }

pub loop-place-preserved-then-not-written-bucket : goal.loop-place-preserved-then-not-written-bucket
loop-place-preserved-then-not-written-bucket c =
    let rows = c.args.rows.now in
    let touches = c.args.touches.now in
    let count = length touches in
    let meant : List Touch = touches_of rows touches in
    let place = c.loop-place.place - 1 in
    let old = c.loop-place.invariant in
    let size = old.written in
    let marked = old.size in
    let one : c.loop-place.place ≡ suc (c.loop-place.place - 1) = omega arith in
    let within = old.within in
    let low : place < count = omega (arith, within) in
    let bucket = c.hash_of.result % count in
    let is = kept-bucket rows touches place c.index-touches-place.result low (sym c.index-touches-place.is) c.hash_of.result c.hash_of.ensures in
    let h : AreRead count meant (suc place) c.loop-place.written = subst (λ n. AreRead count meant n c.loop-place.written) one old.read in
    let reads = ap (λ (t : Touch). t.access.writes) (kept-touch rows touches place c.index-touches-place.result low (sym c.index-touches-place.is))
    ∙ c.if-touch.false in
    record {
      within = omega (arith, within);
      written = size;
      size = length-set c.loop-place.marks place true ∙ marked;
      read = read-more count meant place bucket is c.loop-place.written (omega (arith, size)) h reads;
      left = left-out-more count meant place bucket is c.loop-place.written (omega (arith, size)) h reads c.if-not-written-bucket.true c.loop-place.marks
          old.left;
    }

pub loop-place-preserved : goal.loop-place-preserved
loop-place-preserved c =
    let rows = c.args.rows.now in
    let touches = c.args.touches.now in
    let count = length touches in
    let meant : List Touch = touches_of rows touches in
    let place = c.loop-place.place - 1 in
    let old = c.loop-place.invariant in
    let size = old.written in
    let one : c.loop-place.place ≡ suc (c.loop-place.place - 1) = omega arith in
    let within = old.within in
    let low : place < count = omega (arith, within) in
    let bucket = c.hash_of.result % count in
    let is = kept-bucket rows touches place c.index-touches-place.result low (sym c.index-touches-place.is) c.hash_of.result c.hash_of.ensures in
    let h : AreRead count meant (suc place) c.loop-place.written = subst (λ n. AreRead count meant n c.loop-place.written) one old.read in
    let reads = ap (λ (t : Touch). t.access.writes) (kept-touch rows touches place c.index-touches-place.result low (sym c.index-touches-place.is))
    ∙ c.if-touch.false in
    record {
      within = omega (arith, within);
      written = size;
      size = old.size;
      read = read-more count meant place bucket is c.loop-place.written (omega (arith, size)) h reads;
      left = old.left;
    }
