use Rattle.std.proofs.Common.{◌<◌, ◌∙◌, length, sym, ap, subst}
use Rattle.std.proofs.lemmas.List.{length-map}
use Rattle.cilk_machine.specs.sched.Words.{choice_of}
use Rattle.cilk_machine.specs.spawn.Nodes.{path_at}
use Rattle.cilk_log_replay.specs.Tracks.{action_of}
use Rattle.cilk_log_replay.proofs.Tracks.{track-on, track-kept, ok-by}
use Rattle.cilk_log_replay.proofs.track.follow.Goals as goal

pub returns-then-made-eq0-clause-next : goal.returns-then-made-eq0-clause-next
returns-then-made-eq0-clause-next c =
    ok-by c.keep.result c.keep.ensures.one (λ one t same track.
    track-kept t c.args.made c.args.track.now.last c.make_again.new.machine c.args.track.now.checkpoints.items c.args.track.now.actions.items
    c.push.new.self.items c.action_of.result track
    (subst (λ n. c.args.made < n) (sym (ap length same ∙ length-map c.args.choices.now choice_of)) c.requires.room)
    (c.in-Ok.ensures.next t same track.stands) c.in-Ok.ensures.tells c.in-Ok-push.ensures.items
    (c.action_of.ensures (path_at c.args.track.now.last.machine.nodes) (path_at c.make_again.new.machine.machine.nodes)
    ∙ sym (ap action_of (c.in-Ok.ensures.did t same track.stands)))
    c.keep.new.checkpoints.items c.if-made-eq0.true one)

pub returns-else-made-eq0-clause-next : goal.returns-else-made-eq0-clause-next
returns-else-made-eq0-clause-next c = λ t same track.
    track-on t c.args.made c.args.track.now.last c.make_again.new.machine c.args.track.now.checkpoints.items c.args.track.now.actions.items
    c.push.new.self.items c.action_of.result track
    (subst (λ n. c.args.made < n) (sym (ap length same ∙ length-map c.args.choices.now choice_of)) c.requires.room)
    (c.in-Ok.ensures.next t same track.stands) c.in-Ok.ensures.tells c.in-Ok-push.ensures.items
    (c.action_of.ensures (path_at c.args.track.now.last.machine.nodes) (path_at c.make_again.new.machine.machine.nodes)
    ∙ sym (ap action_of (c.in-Ok.ensures.did t same track.stands)))
    c.if-made-eq0.false
