use Rattle.std.proofs.Common.{◌∙◌, ap, option_map, sym}
use Rattle.cilk_eval.specs.Known.{known_of}
use Rattle.cilk_frame.specs.nodes.Areas.{cells_of}
use Rattle.cilk_eval.proofs.KnownLaws.{none_left, some_left}
use Rattle.cilk_eval.proofs.seen.is_known_of.Goals as goal

pub returns-in-Some : goal.returns-in-Some
returns-in-Some c =
    some_left (known_of (cells_of c.args.slots.now) c.args.code.now) c.args.values.now c.in-Some.others.now c.is_empty.result
    (sym (ap (option_map (λ others. others.now)) c.in-Some.is) ∙ c.behind_known.ensures) c.is_empty.ensures

pub returns-in-None : goal.returns-in-None
returns-in-None c =
    none_left (known_of (cells_of c.args.slots.now) c.args.code.now) c.args.values.now
    (sym (ap (option_map (λ others. others.now)) c.in-None.is) ∙ c.behind_known.ensures)
