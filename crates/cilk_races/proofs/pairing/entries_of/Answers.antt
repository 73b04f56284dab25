use Rattle.std.proofs.Common.{◌≡◌, ◌+◌, ◌∙◌, List, suc, length, take, ap, subst, sym, arith}
use Rattle.std.proofs.lemmas.List.{length-map, take_all}
use Rattle.cilk_races.specs.Paired.{pairs_told, touches_of}
use Rattle.cilk_races.specs.PairWords.{touch_of}
use Rattle.cilk_races.specs.Races.{Touch, entries_of, pairs_of}
use Rattle.cilk_races.proofs.Steps.{pairs-step}
use Rattle.cilk_races.proofs.pairing.entries_of.Goals as goal

pub loop-second-preserved : goal.loop-second-preserved
loop-second-preserved c =
    let rows = c.args.rows.now in
    let touches = c.args.touches.now in
    let meant : List Touch = touches_of rows touches in
    let k = c.loop-second.second in
    let size : length meant ≡ length touches = length-map touches (touch_of rows) in
    let more : suc k ≡ k + 1 = omega arith in
    record {
      entries = λ program events blocked.
          subst (λ n. pairs_told rows touches c.push_entries.new.entries.items ≡ entries_of (pairs_of program events (take n meant))) more
          (c.in_ok-push_entries.ensures.entries program events blocked (pairs_of program events (take k meant))
          (c.loop-second.invariant.entries program events blocked)
          ∙ ap entries_of (sym (pairs-step program events meant k (omega (arith, size)))));
      within = c.in_ok-push_entries.ensures.within;
    }

pub returns-clause-entries : goal.returns-clause-entries
returns-clause-entries c program events blocked =
    let rows = c.args.rows.now in
    let meant : List Touch = touches_of rows c.args.touches.now in
    let size : length meant ≡ length c.args.touches.now = length-map c.args.touches.now (touch_of rows) in
    c.loop-second.invariant.entries program events blocked
    ∙ ap (λ xs. entries_of (pairs_of program events xs)) (take_all c.loop-second.second meant (omega (arith, size)))
