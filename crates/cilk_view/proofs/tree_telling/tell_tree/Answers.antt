use Rattle.std.proofs.Common.{◌≡◌, List, ℕ, ap, ◌∙◌, sym}
use Rattle.std.specs.Prelude.{flat_map}
use Rattle.cilk_load.specs.labelled.Bodies.{label}
use Rattle.cilk_machine_agree.specs.model.Run.{Position}
use Rattle.cilk_machine_agree.specs.model.ViewTrees.{in_order, path_line, tree_text}
use Rattle.cilk_view.specs.Shows.{machine_of, ShowsAt}
use Rattle.cilk_view.specs.Entries.{entries_text}
use Rattle.cilk_view.proofs.TreeLines.{line_told}
use Rattle.cilk_view.proofs.Tellings.{links_up, ok_weaker}
use Rattle.cilk_view.proofs.tree_telling.tell_tree.Goals as goal

pub new-requires-clause-up : goal.new-requires-clause-up
new-requires-clause-up c =
    links_up c.args.shown.now.tree.now.nodes c.in_ok-links.links.items c.next_id-next.ensures.tree c.in_ok-links.ensures

pub returns : goal.returns
returns c =
    let shown = c.args.shown.now in
    let p = shown.loaded.now in
    let links = c.in_ok-links.links.items in
    let entries = c.in_ok-entries.entries.items in
    ok_weaker c.new.result (λ (t : List ℕ). t ≡ entries_text links entries)
    (λ (t : List ℕ). (at : Position) → ShowsAt shown at → t ≡ tree_text (label p) at)
    (λ t is at s.
    is ∙ ap (λ ls. entries_text ls entries) (sym c.as_slice.ensures.value)
    ∙ c.in_ok-entries.ensures.told (path_line (label p) at)
    (λ i there. sym (line_told p (machine_of shown s.outcome) s.who at s.agrees s.placed s.fated i there))
    ∙ ap (λ ps. flat_map (path_line (label p) at) (in_order ps)) s.fated.paths)
    c.new.ensures
