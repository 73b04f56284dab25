-- The step of an instance in a worker's hand can be planned.
use Rattle.std.proofs.Common.{◌≡◌, sym, ap, ◌∙◌, subst}
use Rattle.std.proofs.lemmas.Option.{same_Some}
use Rattle.cilk_load.specs.scopes.WellFormed.{WellFormed}
use Rattle.cilk_machine_plan.proofs.effects_laws.KnownActions.{heads, follows}
use Rattle.cilk_machine_plan.specs.nodes.Areas.{sizes_of}
use Rattle.cilk_load.specs.labelled.Bodies.{label}
use Rattle.cilk_machine_plan.specs.model.State.{store_of}
use Rattle.cilk_machine_plan.specs.nodes.declared.node.Node.{Node}
use Rattle.cilk_machine_plan.specs.nodes.Table.{node_of}
use Rattle.cilk_machine_plan.specs.effects.Fits.{FitsAct}
use Rattle.cilk_machine_plan.proofs.effects_laws.Same.{act-fits}
use Rattle.cilk_machine_plan.specs.agree.Laws.{InHand, path_of, instance_of}
use Rattle.cilk_machine_plan.proofs.agree_laws.Asked.{asked}
use Rattle.cilk_machine_plan.specs.Plans.{input_in}
use Rattle.cilk_machine_plan.specs.StepInput.{cells_in}
use Rattle.cilk_machine_plan.proofs.Heads.{Sound, head-of, head, own_node, node-is, known}
use Rattle.cilk_machine_step.specs.Scenes.{HeadFits}

fits-by : (t : InHand) → Sound t.program → HeadFits (input_in t)
fits-by t sound node is =
    let same : own_node t sound ≡ node = same_Some (own_node t sound) node (sym (node-is t sound) ∙ ap (node_of t.program) (head-of t sound).number ∙ is) in
    subst (λ (x : Node). FitsAct (sizes_of (cells_in (input_in t))) x.action) same
    (act-fits (label t.program) (instance_of t).top.body (cells_in (input_in t)) (store_of t.at.state (path_of t) (instance_of t)) (asked t).seen
    (head t sound).act (known t sound))

pub head-fits : (t : InHand) → WellFormed t.program → HeadFits (input_in t)
head-fits t well =
    fits-by t (record {
      well = well;
      heads = λ b answers head there at. heads t.program b answers head well there at;
      follows = λ b answers answer head there at goes. follows t.program b answers answer head well there at goes;
    })
