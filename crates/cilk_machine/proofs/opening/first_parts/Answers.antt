use Rattle.std.proofs.Common.{List, length, replicate, Some, ap, ◌∙◌}
use Rattle.cilk_sched.specs.model.Hands.{with_hand}
use Rattle.cilk_machine_undo.specs.nodes.declared.var.Var.{Var}
use Rattle.cilk_machine_undo.specs.spawn.Family.{Family}
use Rattle.cilk_machine_undo.specs.agree.declared.lock.Lock.TheVariants.{Unset}
use Rattle.cilk_machine.specs.Opening.{cells_of}
use Rattle.cilk_machine.proofs.opening.first_parts.Goals as goal

pub returns : goal.returns
returns c = record {
  main = c.main-main.result;
  is_main = c.main-main.ensures;
  frame = c.in_ok-first_frame.field-0;
  starts = c.in_ok-first_frame.ensures;
  first = record {
    cells = c.in_ok-globals.ensures ∙ ap cells_of c.globals.ensures;
    locks = c.in_ok-locks.ensures ∙ ap (λ (vs : List Var). replicate (length vs) Unset) c.locks.ensures;
    output = c.new-3.ensures.items;
    nodes = ap (λ (t : Family). t.nodes) c.in_ok-tree.ensures;
    hands = c.give.ensures ∙ ap (λ ps. with_hand ps 1 (Some c.in_ok-first_frame.field-0)) c.in_ok-hands.ensures;
  };
}
