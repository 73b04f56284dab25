use Rattle.std.proofs.Common.{◌≡◌, ◌<◌, ◌++◌, ◌∷◌, [], ◌∙◌, suc, List, length, take, sym, ap, subst, arith, true}
use Rattle.std.proofs.lemmas.List.{append_assoc, length-map}
use Rattle.cilk_races.specs.Alike.{AreOfThread}
use Rattle.cilk_races.specs.Paired.{touch_at, touches_of, with_earlier}
use Rattle.cilk_races.specs.PairWords.{touch_of}
use Rattle.cilk_races.specs.Races.{Touch, entries_of, share_one}
use Rattle.cilk_races.proofs.Likeness.{kept-of-thread}
use Rattle.cilk_races.proofs.Linked.{kept-touch, link-falls, linked-enough, lock-enough, thread-enough}
use Rattle.cilk_races.proofs.Passed.{earlier-next}
use Rattle.cilk_races.proofs.pairing.push_or_pass.Goals as goal

pub returns-then-are_of_thread-clause-entries : goal.returns-then-are_of_thread-clause-entries
returns-then-are_of_thread-clause-entries c program events blocked pairs told =
    let rows = c.args.rows.now in
    let touches = c.args.touches.now in
    let count = length touches in
    let meant : List Touch = touches_of rows touches in
    let size : length meant ≡ count = length-map touches (touch_of rows) in
    let first = c.args.first in
    let second = c.args.second in
    let there = c.requires.there in
    let before = c.requires.before in
    let low : first < count = omega (arith, before, there) in
    let one = kept-touch rows touches first c.index-touches-first.result low (sym c.index-touches-first.is) in
    let other = kept-touch rows touches second c.index-touches-second.result there (sym c.index-touches-second.is) in
    let h : AreOfThread (touch_at meant first) (touch_at meant second) =
    subst (λ (a : Touch). AreOfThread a (touch_at meant second)) (sym one)
    (subst (λ (b : Touch). AreOfThread (touch_of rows c.index-touches-first.result) b) (sym other)
    (kept-of-thread rows c.index-touches-first.result c.index-touches-second.result (c.are_of_thread.ensures c.if-are_of_thread.true))) in
    told
    ∙ sym (thread-enough program events meant count size second there pairs first before c.index.result.now h
    (link-falls count meant _ first second c.requires.falls (suc first) c.args.links.now.threads.items c.index.result.now
    (omega (arith, low, c.requires.threads)) c.index.ensures (c.requires.by_thread.each first (omega arith) low)))

pub returns-then-share_one-clause-entries : goal.returns-then-share_one-clause-entries
returns-then-share_one-clause-entries c program events blocked pairs told =
    let rows = c.args.rows.now in
    let touches = c.args.touches.now in
    let count = length touches in
    let meant : List Touch = touches_of rows touches in
    let size : length meant ≡ count = length-map touches (touch_of rows) in
    let first = c.args.first in
    let second = c.args.second in
    let there = c.requires.there in
    let before = c.requires.before in
    let low : first < count = omega (arith, before, there) in
    let one = kept-touch rows touches first c.index-touches-first.result low (sym c.index-touches-first.is) in
    let other = kept-touch rows touches second c.index-touches-second.result there (sym c.index-touches-second.is) in
    let h : share_one (touch_at meant first).locks (touch_at meant second).locks ≡ true =
    (λ j. share_one (one j).locks (other j).locks)
    ∙ (λ j. share_one (sym c.as_slice.ensures.value j) (sym c.as_slice-2.ensures.value j)) ∙ sym c.share_one.ensures ∙ c.if-share_one.true in
    told
    ∙ sym (lock-enough program events meant count size second there pairs first before c.index-then-share_one.result.now h
    (link-falls count meant _ first second c.requires.falls (suc first) c.args.links.now.locks.items c.index-then-share_one.result.now
    (omega (arith, low, c.requires.locks)) c.index-then-share_one.ensures (c.requires.by_locks.each first (omega arith) low)))

pub returns-clause-behind : goal.returns-clause-behind
returns-clause-behind c =
    let count = length c.args.touches.now in
    let first = c.args.first in
    let there = c.requires.there in
    let before = c.requires.before in
    let low : first < count = omega (arith, before, there) in
    let f = link-falls count (touches_of c.args.rows.now c.args.touches.now) _ first c.args.second c.requires.falls (suc first) c.args.links.now.next.items
    c.index-2.result.now (omega (arith, low, c.requires.next)) c.index-2.ensures (c.requires.linked.next first (omega arith) low) in
    let behind = f.behind in
    omega (arith, behind)

pub returns-clause-falls : goal.returns-clause-falls
returns-clause-falls c =
    let count = length c.args.touches.now in
    let first = c.args.first in
    let there = c.requires.there in
    let before = c.requires.before in
    let low : first < count = omega (arith, before, there) in
    (link-falls count (touches_of c.args.rows.now c.args.touches.now) _ first c.args.second c.requires.falls (suc first) c.args.links.now.next.items
    c.index-2.result.now (omega (arith, low, c.requires.next)) c.index-2.ensures (c.requires.linked.next first (omega arith) low)).falls

pub returns-clause-entries : goal.returns-clause-entries
returns-clause-entries c program events blocked pairs told =
    let rows = c.args.rows.now in
    let touches = c.args.touches.now in
    let count = length touches in
    let meant : List Touch = touches_of rows touches in
    let size : length meant ≡ count = length-map touches (touch_of rows) in
    let first = c.args.first in
    let second = c.args.second in
    let there = c.requires.there in
    let before = c.requires.before in
    let low : first < count = omega (arith, before, there) in
    let b : Touch = touch_at meant second in
    c.in_ok-push_pair.ensures.entries program events blocked (pairs ++ with_earlier program events (take first meant) b) told
    ∙ ap entries_of (append_assoc pairs (with_earlier program events (take first meant) b) (with_earlier program events (touch_at meant first ∷ []) b)
    ∙ ap (λ xs. pairs ++ xs) (sym (earlier-next program events meant b first (omega (arith, low, size)))))
    ∙ sym (linked-enough program events meant count size second there pairs (suc first) c.index-2.result.now before
    (link-falls count meant _ first second c.requires.falls (suc first) c.args.links.now.next.items c.index-2.result.now (omega (arith, low, c.requires.next))
    c.index-2.ensures (c.requires.linked.next first (omega arith) low)))
