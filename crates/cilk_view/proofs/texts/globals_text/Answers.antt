use Rattle.std.proofs.Common.{◌≡◌, sym, ap, ◌∙◌}
use Rattle.cilk_machine_agree.specs.syntax.Tree as tree
use Rattle.cilk_machine_agree.specs.spawn.Nodes.{path_at}
use Rattle.cilk_machine_agree.specs.model.Globals.{globals_text}
use Rattle.cilk_view.specs.Globals.{globals_by}
use Rattle.cilk_view.proofs.Told.{from_empty}
use Rattle.cilk_view.proofs.Links.{globals_are}
use Rattle.cilk_view.proofs.texts.globals_text.Goals as goal

pub returns : goal.returns
returns c = λ at s.
    let up = path_at c.args.shown.now.tree.now.nodes in
    let items : c.as_slice-items.result.now ≡ c.args.shown.now.loaded.now.items =
    c.as_slice-items.ensures.value ∙ ap (λ (p : tree.Program). p.items) (c.behind-shown.view_is ∙ c.program.ensures.value) in
    from_empty _ _ _ c.in_ok-put_globals.ensures c.new-out.ensures.bytes
    ∙ (λ i. globals_by up (items i) (s.agrees.outside.cells i) c.args.shown.now.locks.now)
    ∙ globals_are up c.args.shown.now.loaded.now.items at.standing.state.globals c.args.shown.now.locks.now s.agrees.outside.sizes
    ∙ ap (globals_text c.args.shown.now.loaded.now.items at.standing.state.globals) (sym s.agrees.outside.locks)
