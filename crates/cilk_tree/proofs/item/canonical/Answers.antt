use Rattle.std.proofs.Common.{◌≡◌, ◌++◌, [], map, string_bytes, sym, ap, ◌∙◌, append-nil}
use Rattle.std.proofs.lemmas.List.{at_drop_all}
use Rattle.cilk_tree_syntax.specs.Lines.{text_of}
use Rattle.cilk_tree_syntax.specs.ProgramText.{header_line, items_lines, program_text}
use Rattle.cilk_tree.proofs.Lines.{items_round, two_parts}
use Rattle.cilk_tree.proofs.item.canonical.Goals as goal

pub loop-item-preserved : goal.loop-item-preserved
loop-item-preserved c =
    let round = items_round (string_bytes c.loop-item.out) c.deref-item-items.result.now c.loop-item.item-index c.item-item.result
    c.loop-item-test.true c.item-item.is in
    rw c.in_ok-put_item.ensures (sym round ∙ c.loop-item.invariant)

pub returns : goal.returns
returns c =
    let items = c.deref-item-items.result.now in
    let second : string_bytes c.loop-item.out ≡ string_bytes c.put_headers.new.out ++ text_of [] (items_lines items) =
    sym (append-nil _) ∙ (rw (at_drop_all (λ xs. text_of [] (items_lines xs)) items c.loop-item.item-index c.loop-item-test.false) at c.loop-item.invariant) in
    second
    ∙ rw (c.in_ok-put_headers.ensures, c.new-out.ensures.bytes, c.deref-item-items.ensures.value, c.deref.ensures.value)
    (two_parts [] [] (map header_line c.program.inside.headers.items) (items_lines c.program.inside.items.items)
    ∙ ap program_text c.program.view_is)
