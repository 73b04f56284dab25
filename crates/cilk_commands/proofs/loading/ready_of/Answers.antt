use Rattle.std.proofs.Common.{◌<◌, ◌∙◌, ap, arith}
use Rattle.std.specs.Prelude.{Err}
use Rattle.cilk_load.specs.labelled.Count.{count_program}
use Rattle.cilk_commands.proofs.loading.ready_of.Goals as goal

pub returns-in-Ok-load-clause-every_program : goal.returns-in-Ok-load-clause-every_program
returns-in-Ok-load-clause-every_program c = λ p is. c.in-Ok-load.ensures.value ∙ c.in-Ok.ensures.every_program p is.is

pub returns-in-Err-TooMany-clause-every_program : goal.returns-in-Err-TooMany-clause-every_program
returns-in-Err-TooMany-clause-every_program c = λ p is.
    let many : 65535 < count_program c.in-Ok.checked = c.load.ensures.too_many.0 (c.in-Err-TooMany.is ∙ ap Err c.in-Err-TooMany.field-0-is) in
    absurd (omega (arith, many, is.few, ap count_program (c.in-Ok.ensures.every_program p is.is)))

pub returns-in-Err-clause-every_program : goal.returns-in-Err-clause-every_program
returns-in-Err-clause-every_program c = λ p is. c.in-Err.ensures.every_program p is.is
