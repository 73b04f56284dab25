-- What an instance has before it, and the node that stands for it.
use Rattle.std.specs.Prelude.{ℤ, pos, ◌≡◌, ℕ, IsSome, Some}
use Rattle.cilk_eval.specs.syntax.Tree.{Program}
use Rattle.cilk_eval.specs.labelled.Labelled.{Numbered}
use Rattle.cilk_eval.specs.labelled.Items.{head_of}
use Rattle.cilk_eval.specs.labelled.Bodies.{label}
use Rattle.cilk_eval.specs.model.Instance.{Instance}
use Rattle.cilk_eval.specs.effects.Heads.{GoesOn}
use Rattle.cilk_eval.specs.nodes.Slots.{slot_of}
use Rattle.cilk_eval.specs.nodes.Actions.{slotted}
use Rattle.cilk_eval.specs.nodes.Table.{number_after, number_else, cases_of, node_of}
use Rattle.cilk_eval.specs.effects.Known.{KnownAct}

-- the action before an instance of p, where action n comes next: its node, what it uses, and that another one comes behind it unless it leaves the body
pub record Before (p : Program) (n : ℕ) (i : Instance) : Type 0 where
  pub head : Numbered
  pub first : head_of i.top.items ≡ Some head
  pub number : head.number ≡ n
  pub node : node_of p n ≡ Some (record {
    action = slotted (slot_of (label p) i.top.body) head.act;
    next = number_else (pos 1) i.top.items;
    other = number_else (pos 0) i.top.items;
    cases = cases_of i.top.items;
    body = i.top.body;
  })
  pub known : KnownAct (label p) i.top.body head.act
  pub goes_on : GoesOn head.act → (answer : ℤ) → IsSome (number_after answer i.top.items)
