use Rattle.std.proofs.Common.{subst, string_bytes, rules}
use Rattle.cilk_commands.specs.Telling.{IsActionTold}
use Rattle.cilk_commands.proofs.explaining.action_told.Goals as goal

pub returns : goal.returns
returns c =
    subst (λ t. IsActionTold c.args.name.now t c.args.number (string_bytes c.in_ok-told.told)) c.in-Ok.ensures.cases.0
    (record { at = c.in-Some.at; begins = search rules; is = c.in_ok-told.ensures })
