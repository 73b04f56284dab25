-- The head of the instance in a worker's hand, as nodes and items tell it.
use Rattle.std.proofs.Common.{ℤ, pos, ◌≡◌, ℕ, ◌<◌, true, List, ◌∷◌, length, Option, Some, None, refl, sym, ap, ◌∙◌, subst}
use Rattle.std.specs.Prelude.{is_some, IsSome, unwrap_or, option_map}
use Rattle.cilk_machine_agree.specs.scopes.WellFormed.{WellFormed}
use Rattle.cilk_machine_agree.specs.syntax.Tree.{Program}
use Rattle.cilk_machine_agree.specs.labelled.Labelled.{Labelled, Numbered}
use Rattle.cilk_machine_agree.specs.labelled.Items.{Items, opened, next, head_of, reached}
use Rattle.cilk_machine_agree.specs.labelled.Bodies.{label}
use Rattle.cilk_eval.specs.effects.Heads.{GoesOn}
use Rattle.cilk_machine_agree.specs.model.Instance.{Instance, body_at}
use Rattle.cilk_machine_agree.specs.nodes.declared.node.Node.{Node}
use Rattle.cilk_machine_agree.specs.nodes.Actions.{slotted}
use Rattle.cilk_machine_agree.specs.nodes.Slots.{slot_of}
use Rattle.cilk_machine_agree.specs.nodes.Table.{number_of, number_else, cases_of, node_at, node_of}
use Rattle.cilk_machine_agree.specs.nodes.Laws.{Reached}
use Rattle.cilk_machine_agree.proofs.nodes_laws.Heads.{nodes-stand}
use Rattle.cilk_machine_agree.proofs.nodes_laws.Successors.{successor-of}
use Rattle.cilk_machine_agree.specs.frame.Frames.{top_of}
use Rattle.cilk_machine_agree.specs.frame.Stands.{StandsFor}
use Rattle.cilk_machine_agree.proofs.frame_laws.Tops.{Stands, top-stands}
use Rattle.cilk_eval.specs.effects.Known.{KnownAct}
use Rattle.cilk_machine_agree.specs.Laws.{InHand, instance_of}
use Rattle.cilk_machine_agree.specs.Actions.{IsNext}
use Rattle.cilk_machine_agree.proofs.Alone.{holds}
use Rattle.cilk_machine_plan.specs.Made.{next_of}
use Rattle.cilk_machine_plan.specs.Plans.{input_in}
use Rattle.cilk_machine_plan.specs.StepInput.{head_number}

number-there : (o : Option Numbered) → is_some o ≡ true
    → option_map (λ (h : Numbered). h.number) o ≡ Some (unwrap_or (option_map (λ (h : Numbered). h.number) o) 0)
number-there None h = cc
number-there (Some x) h = refl

-- the head of these items, whose number is that of the frame
pub record HeadOf (items : Items) (n : ℕ) : Type 0 where
  pub head : Numbered
  pub is : head_of items ≡ Some head
  pub number : head.number ≡ n

head-by : (items : Items) (n : ℕ) (o : Option Numbered) → head_of items ≡ o → number_of items ≡ Some n → HeadOf items n
head-by items n None e h = let none : number_of items ≡ None = ap (λ (x : Option Numbered). option_map (λ (y : Numbered). y.number) x) e in cc
head-by items n (Some x) e h =
    let some : number_of items ≡ Some x.number = ap (λ (y : Option Numbered). option_map (λ (z : Numbered). z.number) y) e in
    record { head = x; is = e; number = cc }

-- what is known of the heads of a well-formed program
pub record Sound (p : Program) : Type 0 where
  pub well : WellFormed p
  pub heads : (b : ℕ) (answers : List ℤ) (head : Numbered) → b < length (label p).bodies
      → head_of (reached (body_at (label p) b) answers) ≡ Some head → KnownAct (label p) b head.act
  pub follows : (b : ℕ) (answers : List ℤ) (answer : ℤ) (head : Numbered) → b < length (label p).bodies
      → head_of (reached (body_at (label p) b) answers) ≡ Some head → GoesOn head.act
      → IsSome (head_of (reached (body_at (label p) b) (answer ∷ answers)))

module _ (t : InHand) (sound : Sound t.program) where
  abbrev program : Labelled
  program = label t.program

  abbrev i : Instance
  i = instance_of t

  abbrev b : ℕ
  b = i.top.body

  abbrev items : Items
  items = i.top.items

  pub stands : StandsFor program t.frame i
  stands = (holds t).stands

  top : Stands program (top_of t.frame) i.top i.below
  top = top-stands program t.frame i stands

  pub there : b < length program.bodies
  there = top.acts.is_there

  pub head-of : HeadOf items (head_number (input_in t))
  head-of = head-by items _ (head_of items) refl top.acts.node_is

  abbrev pub head : Numbered
  head = head-of.head

  -- the node of the head
  abbrev pub own_node : Node
  own_node = record {
    action = slotted (slot_of program b) head.act;
    next = number_else (pos 1) items;
    other = number_else (pos 0) items;
    cases = cases_of items;
    body = b;
  }

  node-here : node_at program b items ≡ Some own_node
  node-here =
      ap
      (option_map
      (λ (h : Numbered). record {
        action = slotted (slot_of program b) h.act;
        next = number_else (pos 1) items;
        other = number_else (pos 0) items;
        cases = cases_of items;
        body = b;
      })) head-of.is

  pub node-is : node_of t.program head.number ≡ Some own_node
  node-is =
      let at : Reached t.program b top.acts.answers head.number =
      record { is_there = there; number = ap number_of (sym top.acts.reached_by) ∙ top.acts.node_is ∙ ap Some (sym head-of.number) } in
      nodes-stand t.program b top.acts.answers head.number sound.well at
      ∙ ap (λ xs. node_at program b xs) (sym top.acts.reached_by)
      ∙ node-here

  pub known : KnownAct program b head.act
  known = sound.heads b top.acts.answers head there (ap head_of (sym top.acts.reached_by) ∙ head-of.is)

  -- behind a head that does not leave its body another one comes
  pub next-is : GoesOn head.act → (z : ℤ) → IsNext t z (next_of own_node z)
  next-is goes z =
      let at : head_of (reached (body_at program b) top.acts.answers) ≡ Some head = ap head_of (sym top.acts.reached_by) ∙ head-of.is in
      let some : IsSome (head_of (opened (next z items))) =
      subst (λ xs. IsSome (head_of (opened (next z xs)))) (sym top.acts.reached_by) (sound.follows b top.acts.answers z head there at goes) in
      number-there (head_of (opened (next z items))) some
      ∙ ap (λ o. Some (unwrap_or o 0)) (sym (successor-of program b items own_node node-here z))
