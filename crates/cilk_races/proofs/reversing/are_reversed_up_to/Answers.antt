use Rattle.std.proofs.Common.{◌≡◌, ◌<◌, ◌≤◌, ℕ, List, ap, ◌∙◌, subst}
use Rattle.cilk_races.specs.Paired.{pair_of, touches_of}
use Rattle.cilk_races.specs.Races.{Pair, Touch}
use Rattle.cilk_races.specs.PairWords.{touch_of}
use Rattle.cilk_races.specs.Reversals.{times}
use Rattle.cilk_races.proofs.reversing.are_reversed_up_to.Goals as goal

pub returns-in-Some : goal.returns-in-Some
returns-in-Some c = λ so.
    let rows = c.args.races.now.rows in
    let touches : List Touch = touches_of rows c.args.races.now.touches.items in
    let now : List Touch = touches_of c.args.watch.now.rows c.args.watch.now.touches.items in
    let p : Pair = pair_of rows c.args.races.now.touches.items c.args.entry in
    let choice = c.in-Some.choice in
    let first : touch_of rows c.touch_at-first.result.now ≡ p.first = c.touch_at-first.ensures in
    let second : touch_of rows c.touch_at-second.result.now ≡ p.second = c.touch_at-second.ensures in
    let often = c.made_in_run-often.ensures ∙ ap (λ (a : Touch). times a a.choice touches) first in
    let wanted = c.made_in_run-wanted.ensures ∙ ap (λ (a : Touch). times a a.choice touches) second in
    let made = c.made_by-made.ensures ∙ ap (λ (a : Touch). times a choice now) second in
    let before = c.made_by-before.ensures ∙ ap (λ (a : Touch). times a choice now) first in
    let later = c.made_by-later.ensures ∙ ap (λ (a : Touch). times a c.args.last now) first in
    let all = c.are_so_often.ensures so in
    record {
      choice = choice;
      second = subst (λ (n : ℕ). n ≤ times p.second choice now) wanted (subst (λ (n : ℕ). c.made_in_run-wanted.result ≤ n) made all.0);
      before = subst (λ (n : ℕ). n < times p.first p.first.choice touches) before (subst (λ (n : ℕ). c.made_by-before.result < n) often all.1.0);
      last = c.args.last;
      first = subst (λ (n : ℕ). n ≤ times p.first c.args.last now) often (subst (λ (n : ℕ). c.made_in_run-often.result ≤ n) later all.1.1);
    }
