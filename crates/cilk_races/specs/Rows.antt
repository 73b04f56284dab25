-- The races of worked runs.
use Rattle.std.specs.Prelude.{ℕ, List, map, Option, Some, None, option_map}
use Rattle.cilk_log_replay.specs.machine.model.syntax.Tree.{Program}
use Rattle.cilk_log_replay.specs.machine.model.labelled.Labelled.{Labelled}
use Rattle.cilk_log_replay.specs.machine.model.labelled.Bodies.{label}
use Rattle.cilk_log_replay.specs.machine.model.Choice.{Choice}
use Rattle.cilk_log_replay.specs.machine.model.Run.{after}
use Rattle.cilk_races.specs.Order.{race, order, inlets}
use Rattle.cilk_races.specs.Races.{Pair, touches_of, pairs_of, entries_of, count_of}

pub record Told : Type 0 where
  -- the choices of each entry, counted from 1
  pub choices : List (ℕ × ℕ)
  pub races : ℕ
  pub orders : ℕ
  pub inlets : ℕ

abbrev pub told_by : List Pair → Told
told_by pairs = record {
  choices = map (λ (p : Pair). (p.first.choice, p.second.choice)) pairs;
  races = count_of race pairs;
  orders = count_of order pairs;
  inlets = count_of inlets pairs;
}

abbrev pub races_by : Labelled → ℕ → List Choice → Option ℕ → Option Told
races_by program n choices None = None
races_by program n choices (Some main) =
    option_map (λ at. told_by (entries_of (pairs_of program at.events (touches_of program main n choices)))) (after program n choices)

abbrev pub races_of : Program → ℕ → List Choice → Option Told
races_of what n choices = races_by (label what) n choices (label what).main
