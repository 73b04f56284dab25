use Rattle.std.proofs.Common.{sym, ap, ◌∙◌, option_copied}
use Rattle.cilk_machine_plan.proofs.spawn_laws.Taking.{sender_there}
use Rattle.cilk_machine_undo.proofs.reading.next_taken.Goals as goal

pub fate-fate-requires : goal.fate-fate-requires
fate-fate-requires c =
    sender_there c.args.tree.now.nodes c.args.id c.next_id-id.ensures.tree c.in-Some.delivery.now (sym c.first_delivery.ensures ∙ ap option_copied c.in-Some.is)
