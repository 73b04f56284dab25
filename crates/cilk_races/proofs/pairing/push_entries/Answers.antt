use Rattle.std.proofs.Common.{◌≡◌, ◌<◌, ◌%◌, ◌∙◌, ℕ, List, length, sym, ap, subst, arith}
use Rattle.std.specs.Prelude.{min}
use Rattle.std.proofs.lemmas.List.{append-nil, get_or_read, length-map}
use Rattle.cilk_races.specs.Links.{IsFirst, IsLeftOut, bucket_at}
use Rattle.cilk_races.specs.Paired.{entries_up_to, touch_at, touches_of}
use Rattle.cilk_races.specs.PairWords.{touch_of}
use Rattle.cilk_races.specs.Races.{Touch, entries_of}
use Rattle.cilk_races.proofs.Linked.{kept-bucket, linked-enough}
use Rattle.cilk_races.proofs.pairing.push_entries.Goals as goal

pub loop-first-init : goal.loop-first-init
loop-first-init c =
    let rows = c.args.rows.now in
    let touches = c.args.touches.now in
    let count = length touches in
    let meant : List Touch = touches_of rows touches in
    let size : length meant ≡ count = length-map touches (touch_of rows) in
    let second = c.args.second in
    let low = c.requires.there in
    let first = c.index-first.result.now in
    let links : List ℕ = c.args.links.now.first.items in
    let bucket = c.hash_of.result % count in
    let there : bucket < count = omega arith in
    let inside : bucket < length links = omega (arith, c.requires.first) in
    let is = kept-bucket rows touches second c.index-touches-second.result low (sym c.index-touches-second.is) c.hash_of.result c.hash_of.ensures in
    let f : IsFirst count meant (IsLeftOut count meant) (bucket_at count meant second) 0 first =
    subst (λ n. IsFirst count meant (IsLeftOut count meant) n 0 first) is
    (subst (IsFirst count meant (IsLeftOut count meant) bucket 0) (sym (get_or_read links bucket first inside c.index-first.ensures 0))
    (c.requires.linked.first bucket there)) in
    record {
      entries = λ program events blocked pairs told.
          told ∙ ap entries_of (sym (append-nil pairs)) ∙ sym (linked-enough program events meant count size second low pairs 0 first (omega arith) f);
      within = c.requires.within;
      falls = f.falls;
    }

pub loop-first-preserved : goal.loop-first-preserved
loop-first-preserved c =
    let rows = c.args.rows.now in
    let touches = c.args.touches.now in
    let meant : List Touch = touches_of rows touches in
    let second = c.args.second in
    let first = c.loop-first.first in
    let so_far : min first second ≡ first = omega arith in
    record {
      entries = λ program events blocked pairs told.
          c.in_ok-first.ensures.entries program events blocked pairs
          (c.loop-first.invariant.entries program events blocked pairs told
          ∙ ap (λ n. entries_up_to program events meant pairs n (touch_at meant second)) so_far);
      within = c.in_ok-first.ensures.within;
      falls = c.in_ok-first.ensures.falls;
    }

pub loop-first-smaller : goal.loop-first-smaller
loop-first-smaller c = let behind = c.in_ok-first.ensures.behind in omega (arith, behind)

pub returns-clause-entries : goal.returns-clause-entries
returns-clause-entries c program events blocked pairs told =
    let meant : List Touch = touches_of c.args.rows.now c.args.touches.now in
    let second = c.args.second in
    let end : min c.loop-first.first second ≡ second = omega arith in
    c.loop-first.invariant.entries program events blocked pairs told
    ∙ ap (λ n. entries_up_to program events meant pairs n (touch_at meant second)) end
