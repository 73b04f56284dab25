use Rattle.std.proofs.Common.{◌≡◌, ◌++◌, sym, ap, ◌∙◌, subst}
use Rattle.std.specs.Prelude.{flat_map}
use Rattle.cilk_log_replay.specs.machine.labelled.Bodies.{label}
use Rattle.cilk_races.specs.Order.{race}
use Rattle.cilk_races.specs.Races.{count_of}
use Rattle.cilk_races.specs.Found.{told_in}
use Rattle.cilk_races.specs.Met.{meetings_in}
use Rattle.cilk_races.specs.Raced.{AreRacesOf}
use Rattle.cilk_races.specs.RacesText.{count_line, meeting_text, pairs_in}
use Rattle.cilk_races.proofs.told.told_of.Goals as goal

pub returns-in-Ok : goal.returns-in-Ok
returns-in-Ok c t holds are =
    let races = c.args.races.now in
    let met = meetings_in races.rows races.touches.items c.in_ok-meetings.meetings.items in
    let pairs : pairs_in met ≡ told_in races = c.in_ok-meetings.ensures.pairs in
    record {
      meetings = met;
      races = subst (AreRacesOf t) (sym pairs) are;
      reversed = c.in_ok-meetings.ensures.reversed t holds;
      count_is = c.count_among.ensures ∙ ap (count_of race) (sym pairs);
      is = c.in-Ok.ensures
          ∙ (λ j. flat_map (meeting_text (label (holds.program j)))
          (meetings_in races.rows races.touches.items (c.as_slice.ensures.value j))
          ++ count_line (sym pairs j));
    }
