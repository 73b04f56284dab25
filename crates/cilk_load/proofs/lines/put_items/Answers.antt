use Rattle.std.proofs.Common.{◌≡◌, ◌+◌, ◌++◌, List, ◌∷◌, length, vec_len, drop, sym, ap, ◌∙◌, append_assoc, append-nil, length-append}
use Rattle.std.proofs.lemmas.List.{at_drop_all, at_drop_more}
use Rattle.cilk_tree_syntax.specs.Tree as tree
use Rattle.cilk_tree_syntax.specs.ProgramText.{item_lines, items_lines}
use Rattle.cilk_load_nodes.specs.labelled.Count.{count_item, count_items}
use Rattle.cilk_load_nodes.specs.labelled.Lines.{item_action_lines, items_action_lines}
use Rattle.cilk_load.proofs.Further.{further}
use Rattle.cilk_load.proofs.lines.put_items.Goals as goal

pub loop-item-preserved : goal.loop-item-preserved
loop-item-preserved c =
    let before = c.loop-item.lines.items in
    let line = c.loop-item.line in
    let item = c.item-item.result in
    let rest = drop (c.loop-item.item-index + 1) c.args.items.now in
    let more : drop c.loop-item.item-index c.args.items.now ≡ item ∷ rest =
    at_drop_more (λ (xs : List tree.Item). xs) c.args.items.now c.loop-item.item-index item c.loop-item-test.true
    ∙ ap (λ (x : tree.Item). x ∷ rest) (sym c.item-item.is)
    in
    record {
      lines =
          (λ i. c.in_ok-line.ensures.lines i ++ items_action_lines (c.in_ok-line.ensures.after i) rest)
          ∙ append_assoc before (item_action_lines line item) (items_action_lines (line + length (item_lines item)) rest)
          ∙ ap (λ (xs : List tree.Item). before ++ items_action_lines line xs) (sym more)
          ∙ c.loop-item.invariant.lines;
      len = further (vec_len c.loop-item.lines) (count_item item) (count_items rest) _ _ _ c.in_ok-line.ensures.len (ap count_items more)
          c.loop-item.invariant.len;
      line =
          further line (length (item_lines item)) (length (items_lines rest)) _ _ _ c.in_ok-line.ensures.after
          (ap (λ (xs : List tree.Item). length (items_lines xs)) more ∙ length-append (item_lines item) (items_lines rest)) c.loop-item.invariant.line;
    }

pub returns-clause-lines : goal.returns-clause-lines
returns-clause-lines c =
    sym (append-nil _)
    ∙ (rw (at_drop_all (λ xs. items_action_lines c.loop-item.line xs) c.args.items.now c.loop-item.item-index c.loop-item-test.false)
    at c.loop-item.invariant.lines)
