-- The head is acted: the plan by its effect is the step by that effect.
use Rattle.std.proofs.Common.{pos, ◌≡◌, ℕ, suc, ◌+◌, ◌≤◌, ℤ, Bool, true, false, nat_lt, nat_le, List, ◌∷◌, map, length, Option, Some, None, Ok, refl, sym}
use Rattle.std.proofs.Common.{ap, ◌∙◌, subst, arith}
use borrow.Author.Tests.{ltb-true}
use Rattle.std.proofs.lemmas.Bool.{lt-ltb, ltb-false}
use Rattle.std.proofs.lemmas.Bool.Decides.{nat_tests}
use Rattle.cilk_machine_agree.specs.syntax.declared.lock_action.LockAction.{LockAction}
use Rattle.cilk_machine_agree.specs.labelled.Term.{Term, rename}
use Rattle.cilk_machine_agree.specs.labelled.Value.{Environment}
use Rattle.cilk_machine_agree.specs.labelled.Labelled.{Declaration, Labelled, Into, Action, call, spawn}
use Rattle.cilk_machine_agree.specs.labelled.Bodies.{label}
use Rattle.cilk_eval.specs.effects.Heads.{GoesOn}
use Rattle.cilk_machine_agree.specs.model.Values.{Reached, environment}
use Rattle.cilk_machine_agree.specs.model.Instance.{Instance}
use Rattle.cilk_machine_agree.specs.model.State as state
use Rattle.cilk_machine_agree.specs.model.State.{store_of}
use Rattle.cilk_machine_agree.specs.model.Effect as effect
use Rattle.cilk_machine_agree.specs.model.Change as change
use Rattle.cilk_machine_agree.specs.model.Change.{after_call}
use Rattle.cilk_machine_agree.specs.model.Event.{acted}
use Rattle.cilk_machine_agree.specs.model.Pick.{goes_on, if_room, step_by_effect, step_by_lock_turn}
use Rattle.cilk_machine_agree.specs.nodes.declared.node.Node.{Node}
use Rattle.cilk_machine_agree.specs.nodes.Actions.{slotted_place, slotted_target, slotted}
use Rattle.cilk_machine_agree.specs.nodes.Slots.{slot_of}
use Rattle.cilk_machine_agree.specs.nodes.Table.{node_of}
use Rattle.cilk_machine_agree.specs.nodes.Bodies.{body_of}
use Rattle.cilk_machine_agree.proofs.nodes_laws.Heads.{bodies-have}
use Rattle.cilk_machine_agree.specs.frame.Frames.{depth}
use Rattle.cilk_machine_agree.specs.frame.Begins as starts
use Rattle.cilk_machine_agree.specs.frame.Cells.{HasCell}
use Rattle.cilk_machine_agree.specs.frame.Stands.{AwaitsSame, bodies_of}
use Rattle.cilk_machine_agree.proofs.frame_laws.Tops.{depth-is}
use Rattle.cilk_eval.specs.effects.Known as known
use Rattle.cilk_eval.specs.effects.Known.{KnownAct}
use Rattle.cilk_eval.specs.effects.Slotted.{ReachesCells, slotted_await, slotted_effect}
use Rattle.cilk_eval.proofs.effects_laws.Shapes.{named_by, Awaits, values-count}
use Rattle.cilk_eval.proofs.effects_laws.Shapes as shapes
use Rattle.cilk_machine_agree.specs.declared.lock.Lock.{Lock}
use Rattle.cilk_machine_agree.specs.Locks.{LockTurn, lock_turned, refused, blocked, lock_turn_among, lock_turn_named}
use Rattle.cilk_machine_agree.specs.Outside.{LockWithin}
use Rattle.cilk_machine_agree.specs.Laws.{InHand, path_of, instance_of}
use Rattle.cilk_machine_agree.specs.Actions.{IsNext}
use Rattle.cilk_machine_agree.specs.Asked.{Asked}
use Rattle.cilk_machine_plan.specs.Made as made
use Rattle.cilk_machine_plan.specs.Made.{next_of, by_effect, lock_turned_to}
use Rattle.cilk_machine_plan.specs.Plans.{input_in, step_in, IsPlan}
use Rattle.cilk_machine_plan.specs.StepInput.{StepInput}

-- the name of a place over slots
pub slot-named : (slots : Declaration → Rattle.cilk_machine_agree.specs.nodes.declared.slot.Slot.Slot)
    (t : Rattle.cilk_machine_agree.specs.labelled.Labelled.Target) → (slotted_place slots t).slot ≡ slots (named_by t)
slot-named slots (Rattle.cilk_machine_agree.specs.labelled.Labelled.variable d) = refl
slot-named slots (Rattle.cilk_machine_agree.specs.labelled.Labelled.element d s) = refl

-- a body that takes so many arguments
pub takes-from : (p : Rattle.cilk_machine_agree.specs.syntax.Tree.Program) (callee n : ℕ) (zs : List ℤ) → known.Accepts (label p) callee n
    → length zs ≡ n → starts.Takes (body_of p callee) zs
takes-from p callee n zs h e =
    subst (λ o. starts.Takes o zs) (sym (bodies-have p callee h.is_there)) (e ∙ sym h.parameters)

not-below : (a b : ℕ) → b ≤ a → nat_lt a b ≡ false
not-below a b low = grind (arith, nat_tests, low)

depth-room : (n k : ℕ) → n ≡ suc k → nat_lt n 256 ≡ nat_lt k 255
depth-room n k e = by_test (nat_lt k 255) refl
  where
    by_test : (few : Bool) → nat_lt k 255 ≡ few → nat_lt n 256 ≡ nat_lt k 255
    by_test true h = let below = ltb-true k 255 h in lt-ltb n 256 (omega (arith, e, below)) ∙ sym h
    by_test false h = let above = ltb-false k 255 h in not-below n 256 (omega (arith, e, above)) ∙ sym h

-- the facts of an instance whose head this action is, under number m
pub record Acting (t : InHand) (b m : ℕ) (act : Action) (node : Node) : Type 0 where
  pub body : b ≡ (instance_of t).top.body
  pub known : KnownAct (label t.program) b act
  pub there : node_of t.program m ≡ Some node
  pub action : node.action ≡ slotted (slot_of (label t.program) b) act
  pub node_body : node.body ≡ b
  pub goes : GoesOn act → (answer : ℤ) → IsNext t answer (next_of node answer)

module _ (t : InHand) (asked : Asked t) (b m : ℕ) where
  abbrev program : Labelled
  program = label t.program

  abbrev g : StepInput
  g = input_in t

  abbrev i : Instance
  i = instance_of t

  abbrev s : state.State
  s = t.at.state

  abbrev slots : Declaration → Rattle.cilk_machine_agree.specs.nodes.declared.slot.Slot.Slot
  slots = slot_of program b

  abbrev env : Environment Declaration
  env = environment (store_of s (path_of t) i)

  -- what an effect comes to, on both sides
  abbrev Planned : Node → effect.Effect → Type 0
  Planned node x = step_in t ≡ step_by_effect program s (path_of t) i m (Ok x) → ReachesCells program b x
      → IsPlan t (by_effect g m node (Ok (slotted_effect slots m x)))

  pub writes-plan : (act : Action) (node : Node) → Acting t b m act node → GoesOn act → (x : effect.Effect) → shapes.Written x → Planned node x
  writes-plan act node a goes x w = subst (Planned node) (sym w.is) (λ step there. record {
    at =
        record {
          cell = w.cell;
          same = record {
            slot_is = ap (λ c. slot_of program c w.cell.place) a.body;
            index_is = refl;
            there = subst
                (λ c. HasCell program c w.cell.place w.cell.index) a.body there;
          };
        };
    step = step;
    next = a.goes goes (pos 1);
  })

  pub answers-plan : (act : Action) (node : Node) → Acting t b m act node → GoesOn act → (x : effect.Effect) → shapes.Answered x → Planned node x
  answers-plan act node a goes x w =
      subst (Planned node) (sym w.is) (λ step there. record { answer = w.answer; step = step; next = a.goes goes w.answer })

  pub prints-plan : (act : Action) (node : Node) → Acting t b m act node → GoesOn act → (x : effect.Effect) → shapes.Printed x → Planned node x
  prints-plan act node a goes x w = subst (Planned node) (sym w.is) (λ step there. by_room (nat_le (length s.output + length w.bytes) 1048576) refl step)
    where
      by_room : (room : Bool) → nat_le (length s.output + length w.bytes) 1048576 ≡ room
          → step_in t ≡ if_room s (path_of t) m state.output room (goes_on (change.after_print s (path_of t) i w.bytes) (acted (path_of t) m))
          → IsPlan t (by_effect g m node (Ok (slotted_effect slots m (effect.writes_out w.bytes))))
      by_room room e step =
          let same : nat_le (g.printed + length w.bytes) 1048576
          ≡ room = ap (λ out. nat_le (length out + length w.bytes) 1048576) (sym t.agrees.outside.output) ∙ e in
          subst
          (λ r. IsPlan t (made.if_room r Rattle.cilk_machine_agree.specs.frame.declared.trap_kind.TrapKind.TheVariants.Output m
          (Rattle.cilk_machine_plan.specs.declared.plan.Plan.TheVariants.Print m w.bytes (next_of node (pos 1))))) (sym same)
          (by_case room step)
        where
          by_case : (room : Bool)
              → step_in t
              ≡ if_room s (path_of t) m state.output room (goes_on (change.after_print s (path_of t) i w.bytes) (acted (path_of t) m))
              → IsPlan t
              (made.if_room room Rattle.cilk_machine_agree.specs.frame.declared.trap_kind.TrapKind.TheVariants.Output m
              (Rattle.cilk_machine_plan.specs.declared.plan.Plan.TheVariants.Print m w.bytes (next_of node (pos 1))))
          by_case true step = record { step = step; next = a.goes goes (pos 1) }
          by_case false step = step

  pub marks-plan : (act : Action) (node : Node) → Acting t b m act node → GoesOn act → (x : effect.Effect) → x ≡ effect.marks → Planned node x
  marks-plan act node a goes x e = subst (Planned node) (sym e) (λ step there. record { step = step; next = a.goes goes (pos 1) })

  pub turns-lock-plan : (act : Action) (node : Node) → Acting t b m act node → GoesOn act → (what : LockAction) (lock : ℕ) (x : effect.Effect)
      → x ≡ effect.turns_lock what lock → Planned node x
  turns-lock-plan act node a goes what lock x e =
      subst (Planned node) (sym e)
      (λ step there. by_lock_turn (lock_turn_among g.locks t.frame.id what lock) (asked.lock_turned_within what lock)
      (step ∙ ap (step_by_lock_turn s (path_of t) i m lock) (asked.lock_turn what lock)))
    where
      by_lock_turn : (lock_turn : LockTurn) → ((now : Lock) → lock_turn ≡ lock_turned now → LockWithin (length t.machine.nodes) now)
          → step_in t
          ≡ step_by_lock_turn s (path_of t) i m lock (lock_turn_named (Rattle.cilk_machine_agree.specs.spawn.Nodes.path_at t.machine.nodes) lock_turn)
          → IsPlan t (lock_turned_to m (next_of node (pos 1)) lock lock_turn)
      by_lock_turn (lock_turned now) within step = record { step = step; within = within now refl; next = a.goes goes (pos 1) }
      by_lock_turn refused within step = step
      by_lock_turn blocked within step = step

  -- a call, whose place was reached
  awaits-same : (what : Option Into) (callee : ℕ) (es : List (Term Declaration)) (node : Node) → Acting t b m (call what callee es) node
      → (r : Option Reached) → Awaits env what r
      → Rattle.cilk_eval.specs.effects.Slotted.AwaitedCell program b r → AwaitsSame program (slotted_await m r) r (bodies_of (i.top ∷ i.below))
  awaits-same None callee es node a r h there = subst (λ x. AwaitsSame program (slotted_await m x) x (bodies_of (i.top ∷ i.below))) (sym h) tt
  awaits-same (Some what) callee es node a r (reached, is, of) there =
      subst
      (λ x. Rattle.cilk_eval.specs.effects.Slotted.AwaitedCell program b x
      → AwaitsSame program (slotted_await m x) x (bodies_of (i.top ∷ i.below))) (sym is)
      (λ cell. record {
        node = node;
        target = slotted_target slots what;
        callee = callee;
        arguments = map (rename slots) es;
        there = a.there;
        calls = a.action;
        op_is = sym of.op;
        same = record {
          slot_is = slot-named slots what.target ∙ ap slots (sym of.place) ∙ ap (λ c. slot_of program c reached.cell.place) a.body;
          index_is = refl;
          there = subst (λ c. HasCell program c reached.cell.place reached.cell.index) a.body cell;
        };
      }) there

  pub calls-plan : (what : Option Into) (callee : ℕ) (es : List (Term Declaration)) (node : Node) → Acting t b m (call what callee es) node
      → (x : effect.Effect)
      → shapes.Entered env what callee es x → Planned node x
  calls-plan what callee es node a x w = subst (Planned node) (sym w.is) (λ step there. by_room (nat_lt (length i.below) 255) refl step there)
    where
      stands : Rattle.cilk_machine_agree.specs.frame.Stands.StandsFor program t.frame i
      stands = (Rattle.cilk_machine_agree.proofs.Alone.holds t).stands

      by_case : (room : Bool) → nat_lt (length i.below) 255 ≡ room
          → step_in t ≡ if_room s (path_of t) m state.depth room (goes_on (after_call program s (path_of t) i w.awaits callee w.values) (acted (path_of t) m))
          → Rattle.cilk_eval.specs.effects.Slotted.AwaitedCell program b w.awaits
          → IsPlan t
          (made.if_room room Rattle.cilk_machine_agree.specs.frame.declared.trap_kind.TrapKind.TheVariants.Depth m
          (Rattle.cilk_machine_plan.specs.declared.plan.Plan.TheVariants.Call m (slotted_await m w.awaits) callee w.values
          (next_of node (pos 1))))
      by_case true e step there = record {
        awaited = w.awaits;
        same = awaits-same what callee es node a w.awaits w.awaits_is there;
        takes = takes-from t.program callee (length es) w.values a.known.1.takes (values-count env es w.values w.values_are);
        returns = a.known.1.returns;
        function = a.known.1.owner;
        depth = let below = ltb-true (length i.below) 255 e in let d = depth-is program t.frame i stands in omega arith;
        step = step;
        next = a.goes tt (pos 1);
      }
      by_case false e step there = step

      by_room : (room : Bool) → nat_lt (length i.below) 255 ≡ room
          → step_in t
          ≡ if_room s (path_of t) m state.depth (nat_lt (length i.below) 255)
          (goes_on (after_call program s (path_of t) i w.awaits callee w.values) (acted (path_of t) m))
          → Rattle.cilk_eval.specs.effects.Slotted.AwaitedCell program b w.awaits
          → IsPlan t (by_effect g m node (Ok (slotted_effect slots m (effect.enters w.awaits callee w.values))))
      by_room room e step there =
          let same : nat_lt (depth t.frame) 256 ≡ room = depth-room (depth t.frame) (length i.below) (depth-is program t.frame i stands) ∙ e in
          subst
          (λ r. IsPlan t (made.if_room r Rattle.cilk_machine_agree.specs.frame.declared.trap_kind.TrapKind.TheVariants.Depth m
          (Rattle.cilk_machine_plan.specs.declared.plan.Plan.TheVariants.Call m (slotted_await m w.awaits) callee w.values
          (next_of node (pos 1))))) (sym same)
          (by_case room e
          (step
          ∙ ap (λ r. if_room s (path_of t) m state.depth r
          (goes_on (after_call program s (path_of t) i w.awaits callee w.values) (acted (path_of t) m))) e) there)
