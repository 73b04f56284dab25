use Rattle.cilk_machine_agree.proofs.Between.{hands-filled, hands-restored, hands-handed_on, senders-can-end, parents-outlive}
use Rattle.cilk_machine_agree.proofs.laws.steps_have_halves.Goals as goal

pub returns : goal.returns
returns c =
    record { filled = hands-filled; restored = hands-restored; handed_on = hands-handed_on; senders = senders-can-end; parents = parents-outlive }
