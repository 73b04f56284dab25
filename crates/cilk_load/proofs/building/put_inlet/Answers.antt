use Rattle.std.proofs.Common.{◌≡◌, ◌++◌, ◌∷◌, [], length, map, pos, rules, refl, ap, ◌∙◌, arith}
use Rattle.cilk_load_nodes.specs.scopes.declared.owner.Owner.TheVariants as owner
use Rattle.cilk_load_nodes.specs.labelled.Bodies.{one_cell}
use Rattle.cilk_load_nodes.specs.declared.body.Body.{Body}
use Rattle.cilk_load.proofs.TableLaws.{table-made}
use Rattle.cilk_load.proofs.building.put_inlet.Goals as goal

pub returns : goal.returns
returns c =
    let fits : c.in_ok-params.params ≡ c.len.result = search rules in
    let count : c.in_ok-params.params ≡ length c.put_words.new.vars.items = omega (arith, fits, c.len.ensures, c.put_words.new.vars.ok.0) in
    c.in_ok-push.ensures.items
    ∙ ap (λ (b : Body). c.args.bodies.now.items ++ b ∷ [])
    (table-made c.args.at owner.Inlet owner.Inlet c.args.name.now (map (one_cell (pos 0)) c.args.parameters.now) c.args.body.now
    c.in_ok-copied.field-0 c.entry_of.result c.in_ok-params.params c.in_ok-cells-2.cells c.in_ok-cells.cells c.new-vars.result.items
    c.put_words.new.vars.items c.new.result
    c.in_ok-copied.ensures refl c.entry_of.ensures c.new-vars.ensures.items c.in_ok-cells.ensures.vars c.in_ok-cells.ensures.after count
    (c.new.ensures ∙ c.in_ok-cells-2.ensures.vars) c.in_ok-cells-2.ensures.after)
