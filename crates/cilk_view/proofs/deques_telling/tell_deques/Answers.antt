use Rattle.std.proofs.Common.{◌≡◌, List, ℕ, ap, ◌∙◌, sym}
use Rattle.cilk_machine_agree.specs.model.Run.{Position}
use Rattle.cilk_machine_agree.specs.model.Workers.{deques_text}
use Rattle.cilk_view.specs.Shows.{ShowsAt}
use Rattle.cilk_view.specs.Entries.{entries_text}
use Rattle.cilk_view.proofs.Links.{deques_are}
use Rattle.cilk_view.proofs.Tellings.{links_up, ok_weaker}
use Rattle.cilk_view.proofs.deques_telling.tell_deques.Goals as goal

pub new-requires-clause-up : goal.new-requires-clause-up
new-requires-clause-up c =
    links_up c.args.shown.now.tree.now.nodes c.in_ok-links.links.items c.next_id-next.ensures.tree c.in_ok-links.ensures

pub returns : goal.returns
returns c =
    let shown = c.args.shown.now in
    let links = c.in_ok-links.links.items in
    let entries = c.in_ok-entries.entries.items in
    ok_weaker c.new.result (λ (t : List ℕ). t ≡ entries_text links entries)
    (λ (t : List ℕ). (at : Position) → ShowsAt shown at → t ≡ deques_text 1 at.standing.scheduler.places)
    (λ t is at s.
    is ∙ ap (λ ls. entries_text ls entries) (sym c.as_slice.ensures.value)
    ∙ c.in_ok-entries.ensures.told
    ∙ deques_are shown.tree.now.nodes 1 shown.hands.now ∙ ap (deques_text 1) (sym s.agrees.places))
    c.new.ensures
