-- All pairs of one access more.
use Rattle.std.proofs.Common.{◌≡◌, ◌<◌, ℕ, suc, List, [], ◌++◌, length, take, ap, ◌∙◌}
use Rattle.std.proofs.Math.Seq.{take-suc}
use Rattle.cilk_log_replay.specs.machine.model.labelled.Labelled.{Labelled}
use Rattle.cilk_log_replay.specs.machine.model.Event.{Event}
use Rattle.cilk_races.specs.Paired.{no_touch, touch_at, with_earlier}
use Rattle.cilk_races.specs.Races.{Touch, pairs_of}
use Rattle.cilk_races.proofs.Paired.{pairs-more}

pub pairs-step : (program : Labelled) (events : List Event) (touches : List Touch) (k : ℕ) → k < length touches
    → pairs_of program events (take (suc k) touches)
    ≡ pairs_of program events (take k touches) ++ with_earlier program events (take k touches) (touch_at touches k)
pairs-step program events touches k low =
    ap (pairs_of program events) (take-suc touches k no_touch low) ∙ pairs-more program events [] (take k touches) (touch_at touches k)
