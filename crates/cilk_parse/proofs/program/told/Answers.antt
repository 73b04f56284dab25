use Rattle.std.proofs.Common.{ap, ◌∙◌}
use Rattle.cilk_parse_grammar.specs.declared.fault.ReadError.TheVariants as errors
use Rattle.cilk_parse.proofs.FaultPlaces.{unexpected_left, too_deep_left}
use Rattle.cilk_parse.proofs.program.told.Goals as goal

pub place_left-requires-clause-in_tokens : goal.place_left-requires-clause-in_tokens
place_left-requires-clause-in_tokens c =
    unexpected_left c.args.text.now c.args.tokens.now c.args.error c.in-Fault-Unexpected.left
    (c.in-Fault-Unexpected.is ∙ ap (λ f. errors.Fault f) (rw c.in-Fault-Unexpected.is at c.in-Fault-Unexpected.field-0-is)) c.requires.met

pub place_left-requires-in-Fault-TooDeep-clause-in_tokens : goal.place_left-requires-in-Fault-TooDeep-clause-in_tokens
place_left-requires-in-Fault-TooDeep-clause-in_tokens c =
    too_deep_left c.args.text.now c.args.tokens.now c.args.error c.in-Fault-TooDeep.left
    (c.in-Fault-TooDeep.is ∙ ap (λ f. errors.Fault f) (rw c.in-Fault-TooDeep.is at c.in-Fault-TooDeep.field-0-is)) c.requires.met
