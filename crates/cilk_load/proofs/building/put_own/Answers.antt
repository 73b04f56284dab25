use Rattle.std.proofs.Common.{◌≡◌, ◌++◌, ◌∷◌, [], length, rules, ap, ◌∙◌, arith}
use Rattle.cilk_tree_syntax.specs.Tree as tree
use Rattle.cilk_tree_syntax.specs.ProgramView.{parameters_of}
use Rattle.cilk_load_nodes.specs.scopes.Parts.{owner_of}
use Rattle.cilk_load_nodes.specs.labelled.Bodies.{parameter_variables}
use Rattle.cilk_load_nodes.specs.declared.body.Body.{Body}
use Rattle.cilk_load.specs.BodyTables.{table_of}
use Rattle.cilk_load.proofs.TableLaws.{table-made}
use Rattle.cilk_load.proofs.building.put_own.Goals as goal

pub returns : goal.returns
returns c =
    let fits : c.in_ok-params.params ≡ c.len.result = search rules in
    let count : c.in_ok-params.params ≡ length c.put_parameters.new.vars.items = omega (arith, fits, c.len.ensures, c.put_parameters.new.vars.ok.0) in
    let own = owner_of c.args.definition.now.is_cilk c.args.definition.now.returns in
    c.in_ok-push.ensures.items
    ∙ ap (λ (b : Body). c.args.bodies.now.items ++ b ∷ [])
    (table-made c.args.at own c.owner_of.result c.definition.inside.name (parameter_variables (parameters_of c.definition.inside.parameters))
    c.definition.inside.body
    c.in_ok-copied.field-0 c.entry_of.result c.in_ok-params.params c.in_ok-cells-2.cells c.in_ok-cells.cells c.new-vars.result.items
    c.put_parameters.new.vars.items c.new.result
    c.in_ok-copied.ensures c.owner_of.ensures c.entry_of.ensures c.new-vars.ensures.items c.in_ok-cells.ensures.vars c.in_ok-cells.ensures.after count
    (c.new.ensures ∙ c.in_ok-cells-2.ensures.vars) c.in_ok-cells-2.ensures.after
    ∙ ap (λ (p : tree.Proc). table_of c.args.at own p.name (parameter_variables p.parameters) p.body) c.definition.view_is)
