-- Where all choices were made, each of them is possible.
use Rattle.std.proofs.Common.{◌≡◌, ◌∙◌, ℕ, List, ap, length, sym}
use Rattle.std.proofs.lemmas.List.{length-map}
use Rattle.cilk_log_replay.specs.machine.syntax.Tree.{Program}
use Rattle.cilk_log_replay.specs.machine.sched.Words.{choice_of}
use Rattle.cilk_log_replay.specs.machine.sched.declared.choice.Choice as code
use Rattle.cilk_log_replay.specs.machine.Situation.{Situation}
use Rattle.cilk_log_replay.specs.Tape.{IsAt, IsPlayable, Tape, position_at, tape_of}
use Rattle.cilk_log_replay.proofs.Again.{led_in}

pub playable : (p : Program) (workers : ℕ) (made : List code.Choice) (m : Situation) → IsAt (tape_of p workers made) (length made) m
    → IsPlayable (tape_of p workers made)
playable p workers made m a =
    let t : Tape = tape_of p workers made in
    let count : length made ≡ length t.choices = sym (length-map made choice_of) in
    record { at = a.at; led = ap (position_at t) (sym count) ∙ led_in t (length made) m a }
