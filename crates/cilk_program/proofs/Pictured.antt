-- What is told where there is no picture.
use Rattle.std.proofs.Common.{ℕ, List, Option}
use Rattle.std.specs.Prelude.{◌≢◌}
use Rattle.cilk_program_runs.specs.commands.Held.{Held, IsReadOf}
use Rattle.cilk_program_runs.proofs.commands_laws.WholeText.{whole_held}
use Rattle.cilk_program_runs.specs.commands.declared.status.Status.TheVariants as status
use Rattle.cilk_draw.specs.DrawFaults.{IsDrawFaultOf}
use Rattle.cilk_draw.specs.declared.fault.DrawFault.{DrawFault}
use Rattle.cilk_draw.specs.declared.fault.DrawFault.TheVariants as fault
use Rattle.cilk_draw.specs.replay.Tape.{Tape}
use Rattle.cilk_program.specs.Picturing.{DeclinesToDraw, failure_of}
use Rattle.cilk_program_runs.specs.Taped.{Declines, IsTape}
use Rattle.cilk_program_runs.specs.Telling.{status_of}
use Rattle.cilk_program_runs.specs.tapes.declared.failure.RecordFailure.{RecordFailure}
use Rattle.cilk_program_runs.specs.tapes.declared.failure.RecordFailure.TheVariants as why
use Rattle.cilk_program_runs.proofs.Told.{replay_reads}
use Rattle.cilk_program_runs.proofs.Whole.{unready_held}

-- why a schedule is not drawn is why there is no picture of the texts
pub undrawn : (text bytes : List ℕ) (named : Option (List ℕ)) (tape : Tape) (it : DrawFault) → IsTape text bytes named tape → IsDrawFaultOf named tape it
    → DeclinesToDraw text bytes (failure_of it)
undrawn text bytes named tape (fault.Replay found) is told = record { named = named; tape = tape; is = is; told = told }
undrawn text bytes named tape fault.TooLong is told =
    record { tape = tape; is_tape = record { named = named; is = is; own = told.0 }; whole = told.1 }

-- and none of the output
pub picture_reads : (it : DrawFault) → status_of (failure_of it) ≢ status.CannotWrite
picture_reads (fault.Replay found) bad = replay_reads found bad
picture_reads fault.TooLong bad = cc

-- why there is nothing to draw
pub undrawn_held : (known log : Option (List ℕ)) (text : List ℕ) (found : RecordFailure) → IsReadOf known text
    → Held log (λ bytes. DeclinesToDraw text bytes found) → Held known (λ t. Held log (λ bytes. DeclinesToDraw t bytes found))
undrawn_held known log text (why.Program found) read told = unready_held known log text found read told
undrawn_held known log text why.CannotRead read told = absurd told.are
undrawn_held known log text (why.Log fault) read told =
    whole_held known text (λ t. Held log (λ bytes. DeclinesToDraw t bytes (why.Log fault))) read told.are.ready.is.text.short told
undrawn_held known log text (why.Replay fault) read told =
    whole_held known text (λ t. Held log (λ bytes. DeclinesToDraw t bytes (why.Replay fault))) read told.are.is.ready.is.text.short told
undrawn_held known log text why.TooLong read told =
    whole_held known text (λ t. Held log (λ bytes. DeclinesToDraw t bytes why.TooLong)) read told.are.is_tape.is.ready.is.text.short told
undrawn_held known log text why.CannotStore read told = absurd told.are
undrawn_held known log text why.CannotStart read told = absurd told.are
undrawn_held known log text why.Commands read told = absurd told.are
undrawn_held known log text why.Answers read told = absurd told.are

-- what is no recorded schedule is not drawn either
pub declines_to_draw : (text bytes : List ℕ) (found : RecordFailure) → Declines text bytes found → DeclinesToDraw text bytes found
declines_to_draw text bytes (why.Program found) told = told
declines_to_draw text bytes why.CannotRead told = absurd told
declines_to_draw text bytes (why.Log fault) told = told
declines_to_draw text bytes (why.Replay fault) told = told
declines_to_draw text bytes why.TooLong told = absurd told
declines_to_draw text bytes why.CannotStore told = absurd told
declines_to_draw text bytes why.CannotStart told = absurd told
declines_to_draw text bytes why.Commands told = absurd told
declines_to_draw text bytes why.Answers told = absurd told
