-- A body is left: the plan is the step.
use Rattle.std.proofs.Common.{◌≡◌, ℕ, suc, ℤ, Bool, true, false, not, ◌&&◌, ◌==◌, List, [], ◌∷◌, length, Option, Some, None, Result, Ok, Err, refl}
use Rattle.std.proofs.Common.{sym, ap, ◌∙◌, subst, arith, if◌then◌else◌}
use Rattle.std.proofs.lemmas.Bool.{ne_eqb}
use Rattle.cilk_machine_agree.specs.model.declared.trap.Trap.{Trap}
use Rattle.cilk_machine_agree.specs.nodes.Areas.{slot_cell}
use Rattle.cilk_machine_agree.specs.labelled.Labelled.{Labelled}
use Rattle.cilk_machine_agree.specs.labelled.Bodies.{label}
use Rattle.cilk_machine_agree.specs.model.Values.{Reached, combined, cell_of}
use Rattle.cilk_machine_agree.specs.model.Instance as model
use Rattle.cilk_machine_agree.specs.model.Instance.{Instance}
use Rattle.cilk_machine_agree.specs.model.State as state
use Rattle.cilk_machine_agree.specs.model.State.{is_empty, store_of}
use Rattle.cilk_machine_agree.specs.model.Change as change
use Rattle.cilk_machine_agree.specs.model.Change.{leaves_function, after_return, after_leaving, resumed}
use Rattle.cilk_machine_agree.specs.model.Event.{acted, returned}
use Rattle.cilk_machine_agree.specs.model.Pick.{Step, goes_on, ends, step_by_leaving, step_by_answer, step_by_combined}
use Rattle.cilk_machine_agree.specs.nodes.declared.node.Node.{Node}
use Rattle.cilk_machine_agree.specs.nodes.Table.{node_of}
use Rattle.cilk_machine_agree.specs.nodes.Bodies.{body_of}
use Rattle.cilk_machine_agree.proofs.nodes_laws.Heads.{bodies-have}
use Rattle.cilk_machine_agree.specs.frame.declared.awaited.Await.{Await}
use Rattle.cilk_machine_agree.specs.frame.Frames.{top_of, left}
use Rattle.cilk_machine_agree.specs.frame.Stands.{StandsFor, AwaitsSame, AwaitsAt, bodies_of}
use Rattle.cilk_machine_agree.specs.frame.Reads.{Seen}
use Rattle.cilk_machine_agree.proofs.frame_laws.Tops.{depth-is}
use Rattle.cilk_machine_agree.proofs.frame_laws.Steps.{awaits-same, lent-seen}
use Rattle.cilk_machine_agree.proofs.frame_laws.Tops.{left-stands}
use Rattle.cilk_machine_agree.proofs.frame_laws.Values.{cell-same}
use Rattle.cilk_machine_agree.specs.spawn.Nodes.{has_live_child, is_synched}
use Rattle.cilk_machine_agree.specs.Laws.{InHand, path_of, instance_of}
use Rattle.cilk_machine_agree.specs.Asked.{Asked}
use Rattle.cilk_machine_agree.proofs.Alone.{holds}
use Rattle.cilk_machine_plan.specs.declared.plan.Plan.TheVariants as plan
use Rattle.cilk_machine_plan.specs.Made.{given, answered, answered_at, takes_by, target_of_node, is_function_body}
use Rattle.cilk_machine_plan.specs.Plans.{input_in, step_in, IsPlan}
use Rattle.cilk_machine_plan.specs.StepInput.{StepInput, cells_by, is_outer}

pub outer-is : (t : InHand) → is_outer (input_in t) ≡ is_empty (instance_of t).below
outer-is t = ap (λ d. d == 1) (depth-is (label t.program) t.frame (instance_of t) ((holds t).stands)) ∙ by_below (instance_of t).below
  where
    by_below : (ms : List model.Activation) → (suc (length ms) == 1) ≡ is_empty ms
    by_below [] = refl
    by_below (m ∷ ms) = ne_eqb (suc (suc (length ms))) 1 (λ h. omega (arith, h))

-- cells that hold what a body sees
pub input-seen : (t : InHand) (asked : Asked t) (f : Rattle.cilk_machine_agree.specs.frame.Frames.Frame) (i : Instance)
    → StandsFor (label t.program) f i → f.id ≡ t.frame.id → i.waiting ≡ (instance_of t).waiting
    → Seen (label t.program) i.top.body (cells_by (input_in t) f) (store_of t.at.state (path_of t) i)
input-seen t asked f i s own waiting =
    let o = t.agrees.outside in
    let same : is_synched t.machine.nodes f.id ≡ state.is_synched t.at.state (path_of t) i =
    ap (is_synched t.machine.nodes) own ∙ sym asked.synched
    ∙ ap (λ ws. not (state.has_live_child t.at.state.instances (path_of t)) && is_empty ws) (sym waiting) in
    subst
    (λ zs. Seen (label t.program) i.top.body (Rattle.cilk_machine_agree.specs.frame.Reads.lent f zs (is_synched t.machine.nodes f.id))
    (store_of t.at.state (path_of t) i)) (sym o.cells)
    (subst
    (λ y. Seen (label t.program) i.top.body (Rattle.cilk_machine_agree.specs.frame.Reads.lent f
    (Rattle.cilk_machine_agree.specs.nodes.Slots.flat t.at.state.globals) y) (store_of t.at.state (path_of t) i)) (sym same)
    (lent-seen (label t.program) f i t.at.state.globals (state.is_synched t.at.state (path_of t) i) s o.sizes))

module _ (t : InHand) (asked : Asked t) (m : ℕ) where
  abbrev program : Labelled
  program = label t.program

  abbrev g : StepInput
  g = input_in t

  abbrev i : Instance
  i = instance_of t

  abbrev s : state.State
  s = t.at.state

  stands : StandsFor program t.frame i
  stands = (holds t).stands

  answer-at : (z : ℤ) (caller : model.Activation) (below : List model.Activation) → i.below ≡ caller ∷ below → (w : Await) (r : Reached)
      → AwaitsAt program caller.body w r
      → step_in t ≡ step_by_answer s (path_of t) i m (Some r) z → IsPlan t (answered_at g m z w.index (target_of_node (node_of t.program w.n)))
  answer-at z caller below is w r a step =
      let target-is : target_of_node (node_of t.program w.n) ≡ Some a.target =
      ap target_of_node a.there ∙ ap Rattle.cilk_machine_plan.specs.Made.target_of_action a.calls in
      let back : StandsFor program (left t.frame) (record i { top = caller; below = below }) = left-stands program t.frame i caller below stands is in
      let resumed-is : resumed i ≡ record i { top = caller; below = below } = ap (Rattle.cilk_machine_agree.specs.model.Change.resumed_to i) is in
      let seen = input-seen t asked (left t.frame) (record i { top = caller; below = below }) back refl refl in
      let cell : slot_cell (cells_by g (left t.frame)) a.target.place.slot w.index ≡ cell_of (store_of s (path_of t) (resumed i)) r.cell.place r.cell.index =
      (λ j. slot_cell (cells_by g (left t.frame)) (a.same.slot_is j) (a.same.index_is j))
      ∙ cell-same program caller.body (cells_by g (left t.frame)) (store_of s (path_of t) (record i { top = caller; below = below })) seen
      r.cell.place r.cell.index a.same.there
      ∙ ap (λ x. cell_of (store_of s (path_of t) x) r.cell.place r.cell.index) (sym resumed-is) in
      let sum : combined a.target.op (slot_cell (cells_by g (left t.frame)) a.target.place.slot w.index) z
      ≡ combined r.op (cell_of (store_of s (path_of t) (resumed i)) r.cell.place r.cell.index) z =
      λ j. combined (a.op_is j) (cell j) z in
      subst (λ o. IsPlan t (answered_at g m z w.index o)) (sym target-is)
      (subst (λ x. IsPlan t (takes_by m x (λ y. plan.Answer m (record { slot = a.target.place.slot; index = w.index }) y))) (sym sum)
      (by_sum (combined r.op (cell_of (store_of s (path_of t) (resumed i)) r.cell.place r.cell.index) z) step))
    where
      by_sum : (x : Result ℤ Trap) → step_in t ≡ step_by_combined s (path_of t) i m r.cell x
          → IsPlan t (takes_by m x (λ y. plan.Answer m (record { slot = a.target.place.slot; index = w.index }) y))
      by_sum (Ok y) k = record { caller = record { caller = caller; below = below; is = is }; at = record { cell = r.cell; same = a.same }; step = k }
      by_sum (Err trap) k = k

  answer-plan : (z : ℤ) (caller : model.Activation) (below : List model.Activation) → i.below ≡ caller ∷ below → (w : Option Await) (r : Option Reached)
      → AwaitsSame program w r (bodies_of (caller ∷ below)) → step_in t ≡ step_by_answer s (path_of t) i m r z → IsPlan t (answered g m z w)
  answer-plan z caller below is None None h step = record { caller = record { caller = caller; below = below; is = is }; step = step }
  answer-plan z caller below is None (Some r) h step = absurd h
  answer-plan z caller below is (Some w) None h step = absurd h
  answer-plan z caller below is (Some w) (Some r) h step = answer-at z caller below is w r h step

  -- where the procedure itself returns, no child of it lives
  pub given-plan : (z : ℤ) (node : Node) → node.body ≡ i.top.body → (is_empty i.below ≡ true → has_live_child t.machine.nodes t.frame.id ≡ false)
      → step_in t ≡ step_by_leaving program s (path_of t) i m z → IsPlan t (given g m node z)
  given-plan z node body childless step = by_below i.below refl
    where
      function-is : is_function_body (body_of t.program node.body) ≡ leaves_function program i
      function-is = ap (λ c. is_function_body (body_of t.program c)) body
          ∙ ap is_function_body
          (bodies-have t.program i.top.body (Rattle.cilk_machine_agree.proofs.frame_laws.Tops.top-stands program t.frame i
          stands).acts.is_there)

      inner : Bool → Rattle.cilk_machine_plan.specs.declared.plan.Plan.Plan
      inner function = if function then answered g m z (top_of t.frame).awaits else plan.Leave m

      inner_step : Bool → Step
      inner_step function = if function then step_by_answer s (path_of t) i m i.top.awaits z else goes_on (after_leaving s (path_of t) i) (acted (path_of t) m)

      by_function : (caller : model.Activation) (below : List model.Activation) → i.below ≡ caller ∷ below → (function : Bool)
          → step_in t ≡ inner_step function → IsPlan t (inner function)
      by_function caller below is true k =
          answer-plan z caller below is (top_of t.frame).awaits i.top.awaits
          (subst (λ ms. AwaitsSame program (top_of t.frame).awaits i.top.awaits (bodies_of ms)) is (awaits-same program t.frame i stands)) k
      by_function caller below is false k = record { caller = record { caller = caller; below = below; is = is }; step = k }

      by_below : (ms : List model.Activation) → i.below ≡ ms → IsPlan t (given g m node z)
      by_below [] e =
          let empty : is_empty i.below ≡ true = ap is_empty e in
          subst (λ x. IsPlan t (if x then plan.Return m z else inner (is_function_body (body_of t.program node.body)))) (sym (outer-is t ∙ empty))
          (record {
            step = step ∙ ap (λ x. if x then ends (after_return s (path_of t) i z) (returned (path_of t) m) else inner_step (leaves_function program i)) empty;
            childless = childless empty;
          })
      by_below (caller ∷ below) e =
          let full : is_empty i.below ≡ false = ap is_empty e in
          let here : step_in t ≡ inner_step (leaves_function program i) =
          step ∙ ap (λ x. if x then ends (after_return s (path_of t) i z) (returned (path_of t) m) else inner_step (leaves_function program i)) full in
          subst (λ x. IsPlan t (if x then plan.Return m z else inner (is_function_body (body_of t.program node.body)))) (sym (outer-is t ∙ full))
          (subst (λ x. IsPlan t (inner x)) (sym function-is) (by_function caller below e (leaves_function program i) here))
