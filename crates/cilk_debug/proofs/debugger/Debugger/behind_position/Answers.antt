use Rattle.std.proofs.Common.{ap, ◌∙◌, subst}
use Rattle.cilk_debug_console.specs.choices.Words.{outcome_of}
use Rattle.cilk_debug.specs.Seeing.{line_behind}
use Rattle.cilk_log_replay.specs.Tape.{IsAt}
use Rattle.cilk_debug.specs.Working.{Working}
use Rattle.cilk_debug.proofs.Seen.{line_seen, put_behind}
use Rattle.cilk_debug.proofs.debugger.Debugger.behind_position.Goals as goal

pub returns : goal.returns
returns c =
    let d = c.args.self.now.shown in
    put_behind (line_behind d.tape d.position) c.args.text.now
    c.new-all.ensures.bytes c.in_ok-put_position.ensures c.in_ok-push_str.ensures.bytes
    (line_seen d c.program.result.now c.machine.result.now
    (c.program.ensures ∙ ap (λ (w : Working). w.shown.tape.program) c.self.view_is)
    (subst (λ (w : Working). IsAt w.shown.tape w.shown.position c.machine.result.now) c.self.view_is c.machine.ensures)
    (outcome_of c.outcome.result.now) c.position.result c.length.result c.outcome.ensures.stands c.position.ensures c.length.ensures)
