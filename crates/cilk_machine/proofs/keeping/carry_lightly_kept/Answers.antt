use Rattle.std.proofs.Common.{None, refl, ap, ◌∙◌, ◌∷◌}
use Rattle.cilk_machine_undo.specs.plans.Words.{plan_of}
use Rattle.cilk_machine_undo.specs.plans.declared.did.Outcome.TheVariants.{Running}
use Rattle.cilk_machine_undo.specs.plans.Ready.{frame_in}
use Rattle.cilk_machine_undo.proofs.plans_laws.Holds.{there}
use Rattle.cilk_machine_undo.specs.Records.{undo_of}
use Rattle.cilk_machine_undo.specs.Words.{undo_by, machine_in}
use Rattle.cilk_machine_carry.proofs.Whole.{hand-there}
use Rattle.cilk_machine.specs.Pasts.{kept_of}
use Rattle.cilk_machine.proofs.Undoes.{undoes}
use Rattle.cilk_machine.proofs.keeping.carry_lightly_kept.Goals as goal

pub returns-in-Ok-clause-adds : goal.returns-in-Ok-clause-adds
returns-in-Ok-clause-adds c = record {
  undo = undo_by c.in-Ok.undo;
  is = c.put_last.ensures.kept
      ∙ (λ j. undo_by c.in-Ok.undo ∷ kept_of (c.keep_small.ensures.same c.if-keep_small.false j).items)
      ∙ ap (λ us. undo_by c.in-Ok.undo ∷ kept_of us) c.reserve.ensures.items;
  undoes = c.in-Ok.ensures.undoes;
}

pub returns-then-keep_small-clause-adds : goal.returns-then-keep_small-clause-adds
returns-then-keep_small-clause-adds c =
    let parts = c.args.parts.now in
    let w = c.args.worker in
    let x = (plan_of c.args.light) in
    let f = frame_in parts.hands w in
    let held = there parts.hands w c.requires.in_hand.frame (hand-there c.args.choice parts w None x c.requires.in_hand c.requires.planned) in
    let u = undo_of (machine_in parts) w f x in
    record {
      undo = u;
      is = c.keep_small.ensures.kept c.if-keep_small.true ∙ ap (λ us. u ∷ kept_of us) c.reserve.ensures.items;
      undoes = undoes c.args.choice parts w None x c.requires f held c.depth_in_hand-depth.ensures.some c.depth_in_hand-depth.ensures.limit
          c.carry_lightly.new.parts (record { outcome = Running; did = c.carry_lightly.result }) u c.carry_lightly.ensures.becomes refl;
    }
