-- What is told of a run is that of its tape.
use Rattle.std.proofs.Common.{◌≡◌, ℕ, List, length, take, Option, Some, None, option_map}
use Rattle.std.proofs.Common.{refl, sym, ap, ◌∙◌, subst, arith, IfSome}
use Rattle.std.proofs.lemmas.List.{length-map, take_all}
use Rattle.cilk_log_replay.specs.Tape.{Tape, IsAt, position_at, tape_of}
use Rattle.cilk_log_replay.specs.machine.sched.Words.{choice_of}
use Rattle.cilk_log_replay.specs.machine.sched.declared.choice.Choice.{Choice}
use Rattle.cilk_log_replay.specs.machine.labelled.Bodies.{label}
use Rattle.cilk_log_replay.specs.machine.model.End.{end_now}
use Rattle.cilk_log_replay.specs.machine.syntax.Tree.{Program}
use Rattle.cilk_log_replay.proofs.Again.{led_in}
use Rattle.cilk_races.specs.Paired as paired
use Rattle.cilk_races.specs.Races.{Pair, Touch, touches_of}
use Rattle.cilk_races.specs.Found.{EndsAs, HoldsRun, IsReversalOf}
use Rattle.cilk_races.specs.Met.{reversal_by}
use Rattle.cilk_races.specs.Reversals.{AreReversed, Reverses, ReversesBy}
use Rattle.cilk_races.specs.Watched.{Watched}
use Rattle.cilk_races.specs.declared.races.Races.{Races}
use Rattle.cilk_races.specs.declared.reversal.Reversal as kept
use Rattle.cilk_races.specs.declared.watch.Watch.{Watch}

-- another run of the program whose accesses are in the other order
pub reverses : (t : Tape) (races : Races) → HoldsRun t races → (workers : ℕ) (choices : List Choice) (w : Watch)
    → IsAt (tape_of races.machine.program workers choices) (length choices) w.machine
    → Watched (tape_of races.machine.program workers choices) (length choices) w
    → (p : Pair) (r : kept.Reversal) → r.choices ≡ length choices → r.workers ≡ workers → EndsAs w.machine r.end
    → AreReversed (paired.touches_of races.rows races.touches.items) (paired.touches_of w.rows w.touches.items) p
    → Reverses t p (reversal_by r)
reverses t races holds workers choices w at watched p r size crew ends are =
    let s : Tape = tape_of t.program workers choices in
    let here : IsAt s (length choices) w.machine =
    subst (λ (q : Program). IsAt (tape_of q workers choices) (length choices) w.machine) holds.program at
    in
    let kept : Watched s (length choices) w = subst (λ (q : Program). Watched (tape_of q workers choices) (length choices) w) holds.program watched in
    let long : length s.choices ≡ length choices = length-map choices choice_of in
    let all : take (length choices) s.choices ≡ s.choices = take_all (length choices) s.choices (omega (arith, long)) in
    let touches : paired.touches_of w.rows w.touches.items ≡ touches_of (label t.program) holds.main workers s.choices =
    kept.touches holds.main holds.start ∙ ap (touches_of (label t.program) holds.main workers) all
    in
    record {
      schedule = s;
      program = refl;
      workers = sym crew;
      choices = long ∙ sym size;
      at = here.at;
      led = ap (position_at s) size ∙ led_in s (length choices) w.machine here;
      end =
          ends here.at.standing (record { choices = take (length choices) s.choices; events = here.at.events; led = here.led })
          ∙ ap (λ (q : Program). end_now (label q) here.at.standing) here.program;
      main = holds.main;
      start = holds.start;
      are =
          subst (λ (xs : List Touch). AreReversed xs (touches_of (label t.program) holds.main workers s.choices) p) holds.touches
          (subst (λ (xs : List Touch). AreReversed (paired.touches_of races.rows races.touches.items) xs p) touches are);
    }

pub reverses-by : (t : Tape) (races : Races) → HoldsRun t races → (workers : ℕ) (choices : List Choice) (w : Watch)
    → IsAt (tape_of races.machine.program workers choices) (length choices) w.machine
    → Watched (tape_of races.machine.program workers choices) (length choices) w
    → (p : Pair) (found : Option kept.Reversal) → IfSome found (IsReversalOf races w p (length choices) workers)
    → ReversesBy t p (option_map reversal_by found)
reverses-by t races holds workers choices w at watched p None is = tt
reverses-by t races holds workers choices w at watched p (Some r) is =
    reverses t races holds workers choices w at watched p r is.choices_is is.workers_is is.ends is.are
