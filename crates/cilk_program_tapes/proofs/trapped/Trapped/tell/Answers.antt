use Rattle.std.proofs.Common.{subst, sym}
use Rattle.cilk_log_replay.specs.machine.frame.Kinds.{kind_of}
use Rattle.cilk_commands.specs.Telling.{IsActionTold}
use Rattle.cilk_commands.proofs.Fronts.{front_either}
use Rattle.cilk_program_tapes.proofs.Said.{nothing_told, trap_told}
use Rattle.cilk_program_tapes.proofs.trapped.Trapped.tell.Goals as goal

pub returns-in_default : goal.returns-in_default
returns-in_default g c = λ answer closes. nothing_told answer c.args.name.now c.args.text.now _

pub returns : goal.returns
returns g c = λ answer closes.
    trap_told answer c.args.name.now c.args.text.now c.as_str.result.now c.trap_meaning.result.now (kind_of c.args.self.kind) c.args.self.n _ _ closes
    (subst (λ s. IsActionTold c.args.name.now c.args.text.now c.args.self.n s) (sym c.as_str.ensures.value)
    (rw c.in-Ok-Some.field-0-is at c.in-Ok-Some.ensures))
    c.trap_meaning.ensures (front_either _ _ _ _ c.write_trap.ensures.ok c.write_trap.ensures.front)
