use Rattle.std.proofs.Common.{◌≡◌, List, Option, Some, map, rules, sym, ap, ◌∙◌}
use Rattle.std.specs.Prelude.{option_copied, slice_get}
use Rattle.cilk_log_replay.specs.machine.labelled.Bodies.{label}
use Rattle.cilk_log_replay.specs.machine.nodes.Bodies.{body_table}
use Rattle.cilk_log_replay.specs.machine.nodes.declared.body.Body.{Body}
use Rattle.cilk_log_replay.specs.machine.nodes.declared.var.Var.{Var}
use Rattle.cilk_races.proofs.VariableNames.{body-name, name_in, vars_in}
use Rattle.cilk_races.proofs.naming.own_name.Goals as goal

pub returns-in-None-item : goal.returns-in-None-item
returns-in-None-item c =
    let bodies = (label c.args.loaded.now).bodies in
    let found : slice_get (map body_table bodies) c.args.body ≡ Some c.in-Some.body.now = sym c.body.ensures ∙ ap option_copied c.in-Some.is in
    ap name_in (ap option_copied (sym c.in-None-item.is) ∙ c.item.ensures ∙ ap (λ (vs : List Var). slice_get vs c.args.variable) c.as_slice.ensures)
    ∙ ap (λ (o : Option Body). name_in (slice_get (vars_in o) c.args.variable)) (sym found)
    ∙ body-name bodies c.args.body c.args.variable

pub returns-in-Some-item : goal.returns-in-Some-item
returns-in-Some-item c =
    let bodies = (label c.args.loaded.now).bodies in
    let found : slice_get (map body_table bodies) c.args.body ≡ Some c.in-Some.body.now = sym c.body.ensures ∙ ap option_copied c.in-Some.is in
    let named =
    ap name_in (ap option_copied (sym c.in-Some-item.is) ∙ c.item.ensures ∙ ap (λ (vs : List Var). slice_get vs c.args.variable) c.as_slice.ensures)
    ∙ ap (λ (o : Option Body). name_in (slice_get (vars_in o) c.args.variable)) (sym found)
    ∙ body-name bodies c.args.body c.args.variable
    in
    search (rules, named)
