-- The closing texts of a machine that is not moved any more, and of a replay.
use Rattle.std.proofs.Common.{◌≡◌, ℕ, List, length, take, sym, ap, ◌∙◌}
use Rattle.std.specs.Prelude.{Result, Ok, Err, IfOk}
use Rattle.std.proofs.lemmas.List.{length-map}
use Rattle.cilk_commands.specs.syntax.Tree.{Program}
use Rattle.cilk_commands.specs.labelled.Bodies.{label}
use Rattle.cilk_log_replay.specs.machine.model.Run.{Standing, after}
use Rattle.cilk_log_replay.specs.machine.model.End as end
use Rattle.cilk_log_replay.specs.log.choices.Words.{choice_of}
use Rattle.cilk_log_replay.specs.log.choices.declared.choice.Choice as code
use Rattle.cilk_log_replay.specs.machine.Situation.{Situation}
use Rattle.cilk_log_replay.specs.machine.Stands.{StandsAt}
use Rattle.cilk_log_replay.specs.Tape.{Tape, tape_of, IsAt}
use Rattle.cilk_commands.specs.declared.status.Status.{Status}
use Rattle.cilk_program_tapes.specs.declared.closing.Closing.{Closing}
use Rattle.cilk_program_tapes.specs.Replaying.{ClosesAt, IsReplayed, status_at}
use Rattle.cilk_program_tapes.specs.Taped.{IsOwnTape}

-- the closing text that is made of what a machine tells
pub closes_by : {E : Type 0} (closing : Result Closing E) (m : Situation) (output : List ℕ) (ended : end.End) (n : ℕ)
    → ((at : Standing) → StandsAt m at → output ≡ at.state.output) → ((at : Standing) → StandsAt m at → ended ≡ end.end_now (label m.program) at)
    → n ≡ m.choices → IfOk closing (λ c. c.status ≡ status_at ended) → IfOk closing (λ c. c.text.items ≡ end.ending output ended n)
    → IfOk closing (λ c. (at : Standing) → StandsAt m at → ClosesAt m at c.status c.text.items)
closes_by (Ok c) m output ended n printed ends counted status text = λ at there. record {
  tells = status ∙ ap status_at (ends at there);
  is = text ∙ (λ i. end.ending (printed at there i) (ends at there i) (counted i));
}
closes_by (Err e) m output ended n printed ends counted status text = tt

-- the closing text of a replay
pub replayed : (status : Status) (text bytes answer : List ℕ) (t : Tape) (n : ℕ) (m : Situation) → IsOwnTape text bytes t → n ≡ length t.choices → IsAt t n m
    → ((at : Standing) → StandsAt m at → ClosesAt m at status answer) → IsReplayed status text bytes answer
replayed status text bytes answer t n m is_tape count a closes =
    let there : StandsAt m a.at.standing = record { choices = take n t.choices; events = a.at.events; led = a.led } in
    let now : end.end_now (label m.program) a.at.standing ≡ end.end_now (label t.program) a.at.standing =
    ap (λ (q : Program). end.end_now (label q) a.at.standing) a.program in
    record {
      tape = t;
      is_tape = is_tape;
      at = a.at;
      led = (λ i. after (label (sym a.program i)) (sym a.workers i) (take (sym count i) t.choices)) ∙ a.led.led;
      tells = (closes a.at.standing there).tells ∙ ap status_at now;
      is = (closes a.at.standing there).is ∙ (λ i. end.ending a.at.standing.state.output (now i) ((a.choices ∙ count) i));
    }

-- where all of the choices were made again
pub all_replayed : (status : Status) (text bytes answer : List ℕ) (p : Program) (workers : ℕ) (made : List code.Choice) (m : Situation)
    → IsOwnTape text bytes (tape_of p workers made) → IsAt (tape_of p workers made) (length made) m
    → ((at : Standing) → StandsAt m at → ClosesAt m at status answer) → IsReplayed status text bytes answer
all_replayed status text bytes answer p workers made m is_tape a closes =
    replayed status text bytes answer (tape_of p workers made) (length made) m is_tape (sym (length-map made choice_of)) a closes
