use Rattle.std.proofs.Common.{◌≡◌, ◌+◌, ◌++◌, drop, length, vec_len}
use Rattle.cilk_tree_syntax.specs.ProgramText.{items_lines}
use Rattle.cilk_load_nodes.specs.labelled.Count.{count_items}
use Rattle.cilk_load_nodes.specs.labelled.Lines.{items_action_lines}
use Rattle.cilk_load.proofs.lines.put_items.Given as goal

abbrev pub invariant-loop-item : goal.invariant-loop-item
invariant-loop-item l = record {
  lines : l.lines.items ++ items_action_lines l.line (drop l.item-index l.items) ≡ l.initial.lines.items ++ items_action_lines l.initial.line l.items;
  len : vec_len l.lines + count_items (drop l.item-index l.items) ≡ vec_len l.initial.lines + count_items l.items;
  line : l.line + length (items_lines (drop l.item-index l.items)) ≡ l.initial.line + length (items_lines l.items);
}
