use Rattle.std.proofs.Common.{List, rules, sym, ap, ◌∙◌}
use Rattle.std.specs.Prelude.{option_copied, slice_get}
use Rattle.cilk_log_replay.specs.machine.labelled.Bodies.{label}
use Rattle.cilk_log_replay.specs.machine.nodes.declared.area.Area.TheVariants.{Global}
use Rattle.cilk_log_replay.specs.machine.nodes.declared.var.Var.{Var}
use Rattle.cilk_races.proofs.VariableNames.{name_in, var-name}
use Rattle.cilk_races.proofs.naming.top_name.Goals as goal

pub returns-in-None : goal.returns-in-None
returns-in-None c =
    ap name_in (ap option_copied (sym c.in-None.is) ∙ c.item.ensures ∙ ap (λ (vs : List Var). slice_get vs c.args.variable) c.globals.ensures)
    ∙ var-name Global 0 (label c.args.loaded.now).globals c.args.variable

pub returns-in-Some : goal.returns-in-Some
returns-in-Some c =
    let named =
    ap name_in (ap option_copied (sym c.in-Some.is) ∙ c.item.ensures ∙ ap (λ (vs : List Var). slice_get vs c.args.variable) c.globals.ensures)
    ∙ var-name Global 0 (label c.args.loaded.now).globals c.args.variable
    in
    search (rules, named)
