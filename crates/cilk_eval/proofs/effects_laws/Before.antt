-- What the instance of a frame has before it.
use Rattle.std.proofs.Common.{pos, ◌≡◌, ℕ, ◌<◌, ℤ, List, ◌∷◌, length, Option, Some, None, IsSome, refl, sym, ap, ◌∙◌, subst}
use Rattle.std.specs.Prelude.{option_map}
use Rattle.cilk_eval.specs.syntax.Tree.{Program}
use Rattle.cilk_eval.specs.scopes.WellFormed.{WellFormed}
use Rattle.cilk_eval.specs.labelled.Labelled.{Numbered}
use Rattle.cilk_eval.specs.labelled.Items.{Items, head_of, reached}
use Rattle.cilk_eval.specs.labelled.Bodies.{label}
use Rattle.cilk_eval.specs.model.Instance.{Instance, body_at}
use Rattle.cilk_eval.specs.effects.Heads.{GoesOn}
use Rattle.cilk_eval.specs.nodes.Slots.{slot_of}
use Rattle.cilk_eval.specs.nodes.Actions.{slotted}
use Rattle.cilk_eval.specs.nodes.declared.node.Node.{Node}
use Rattle.cilk_eval.specs.nodes.Table.{number_of, number_after, node_of, number_else, cases_of}
use Rattle.cilk_eval.specs.nodes.Bodies.{body_of}
use Rattle.cilk_eval.specs.nodes.Laws.{items_at}
use Rattle.cilk_eval.proofs.frame_laws.nodes_laws.Heads.{nodes-stand, bodies-have}
use Rattle.cilk_eval.specs.frame.Frames.{Frame, top_of}
use Rattle.cilk_eval.specs.frame.Stands.{StandsFor}
use Rattle.cilk_eval.specs.frame.Begins.{Takes}
use Rattle.cilk_eval.proofs.frame_laws.Tops.{top-stands}
use Rattle.cilk_eval.specs.effects.Known.{KnownAct}
use Rattle.cilk_eval.specs.effects.Before.{Before}
use Rattle.cilk_eval.proofs.effects_laws.KnownActions.{heads, follows}

record HasHead (items : Items) (n : ℕ) : Type 0 where
  head : Numbered
  first : head_of items ≡ Some head
  number : head.number ≡ n

has_head : (items : Items) (n : ℕ) → number_of items ≡ Some n → HasHead items n
has_head items n h = by_head (head_of items) refl h
  where
    by_head : (o : Option Numbered) → head_of items ≡ o → option_map (λ (x : Numbered). x.number) o ≡ Some n → HasHead items n
    by_head None is e = cc
    by_head (Some head) is e = record { head = head; first = is; number = cc }

has_number : (o : Option Numbered) → IsSome o → IsSome (option_map (λ (x : Numbered). x.number) o)
has_number None h = h
has_number (Some head) h = refl

-- an instance whose top is reached so
module _ (p : Program) (well : WellFormed p) (b : ℕ) (there : b < length (label p).bodies) (answers : List ℤ) (n : ℕ)
    (is_number : number_of (items_at p b answers) ≡ Some n) where
  record AtList (items : Items) : Type 0 where
    head : Numbered
    first : head_of items ≡ Some head
    number : head.number ≡ n
    node : node_of p n ≡ Some (record {
      action = slotted (slot_of (label p) b) head.act;
      next = number_else (pos 1) items;
      other = number_else (pos 0) items;
      cases = cases_of items;
      body = b;
    })
    known : KnownAct (label p) b head.act
    goes_on : GoesOn head.act → (answer : ℤ) → IsSome (number_after answer items)

  at_list : AtList (items_at p b answers)
  at_list =
      let items : Items = items_at p b answers in
      let node_by : Numbered → Node =
      λ x. record {
        action = slotted (slot_of (label p) b) x.act;
        next = number_else (pos 1) items;
        other = number_else (pos 0) items;
        cases = cases_of items;
        body = b;
      }
      in
      let h = has_head items n is_number in
      record {
        head = h.head;
        first = h.first;
        number = h.number;
        node = nodes-stand p b answers n well (record { is_there = there; number = is_number })
            ∙ ap (option_map node_by) h.first;
        known = heads p b answers h.head well there h.first;
        goes_on = λ on answer. has_number (head_of (reached (body_at (label p) b) (answer ∷ answers)))
            (follows p b answers answer h.head well there h.first on);
      }

pub before : (p : Program) (f : Frame) (i : Instance) → WellFormed p → StandsFor (label p) f i → Before p (top_of f).node i
before p f i well stands =
    let top = (top-stands (label p) f i stands).acts in
    let is_number : number_of (items_at p i.top.body top.answers) ≡ Some (top_of f).node = ap number_of (sym top.reached_by) ∙ top.node_is in
    let at =
    subst (AtList p well i.top.body top.is_there top.answers (top_of f).node is_number) (sym top.reached_by)
    (at_list p well i.top.body top.is_there top.answers (top_of f).node is_number) in
    record { head = at.head; first = at.first; number = at.number; node = at.node; known = at.known; goes_on = at.goes_on }

-- a body takes as many arguments as it has parameters
pub takes : (p : Program) (b : ℕ) (arguments : List ℤ) → b < length (label p).bodies → (body_at (label p) b).parameters ≡ length arguments
    → Takes (body_of p b) arguments
takes p b arguments there count =
    subst (λ o. Takes o arguments) (sym (bodies-have p b there)) (sym count)
