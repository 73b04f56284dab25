use Rattle.std.proofs.Common.{◌≡◌, ◌+◌, ◌++◌, List, [], ◌∷◌, max, map, pos, drop, refl, sym, ap, ◌∙◌, append-nil}
use Rattle.std.proofs.lemmas.List.{at_drop_all, at_drop_more}
use Rattle.cilk_tree_syntax.specs.Tree as tree
use Rattle.cilk_load_nodes.specs.declared.area.Area.TheVariants.{Own}
use Rattle.cilk_load_nodes.specs.declared.slot.Slot.{Slot}
use Rattle.cilk_load_nodes.specs.labelled.Labelled.{Variable}
use Rattle.cilk_load_nodes.specs.labelled.Bodies.{one_cell}
use Rattle.cilk_load_nodes.specs.Slots.{cells_of}
use Rattle.cilk_load_nodes.specs.Bodies.{vars_from}
use Rattle.cilk_load.proofs.Further.{further}
use Rattle.cilk_load.proofs.Cells.{joined, cells_of-append}
use Rattle.cilk_load.proofs.variables.put_words.Goals as goal

pub loop-word-preserved : goal.loop-word-preserved
loop-word-preserved c =
    let item = c.word-item.result in
    let before = c.loop-word.vars.items in
    let own : List Variable = one_cell (pos 0) item ∷ [] in
    let others = map (one_cell (pos 0)) (drop (c.loop-word.word-index + 1) c.args.words.now) in
    let next : map (one_cell (pos 0)) (drop c.loop-word.word-index c.args.words.now) ≡ own ++ others =
    at_drop_more (λ (xs : List tree.Word). map (one_cell (pos 0)) xs) c.args.words.now c.loop-word.word-index item c.loop-word-test.true
    ∙ ap (λ (x : tree.Word). one_cell (pos 0) x ∷ others) (sym c.word-item.is)
    in
    let one : c.put_variable.new.vars.items ≡ before ++ vars_from Own c.loop-word.cells own =
    c.in_ok-cells.ensures.vars
    ∙ ap (λ (s : Slot). before ++ vars_from s.area s.offset (record { name = item.text; length = s.length; initial = pos 0 } ∷ [])) c.own_slot.ensures
    in
    let behind : c.in_ok-cells.cells ≡ c.loop-word.cells + cells_of own =
    c.in_ok-cells.ensures.after ∙ ap (λ (s : Slot). s.offset + max s.length 1) c.own_slot.ensures
    in
    record {
      vars =
          joined Own c.loop-word.cells c.in_ok-cells.cells before c.put_variable.new.vars.items _ own others one behind refl
          ∙ ap (λ vs. before ++ vars_from Own c.loop-word.cells vs) (sym next)
          ∙ c.loop-word.invariant.vars;
      cells =
          further c.loop-word.cells (cells_of own) (cells_of others) _ _ _ behind (ap cells_of next ∙ cells_of-append own others)
          c.loop-word.invariant.cells;
    }

pub returns-clause-vars : goal.returns-clause-vars
returns-clause-vars c =
    sym (append-nil _)
    ∙ (rw (at_drop_all (λ xs. vars_from Own c.loop-word.cells (map (one_cell (pos 0)) xs)) c.args.words.now c.loop-word.word-index c.loop-word-test.false)
    at c.loop-word.invariant.vars)
