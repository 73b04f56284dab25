use Rattle.std.proofs.Common.{◌≡◌, option_map, sym, ap, ◌∙◌, arith}
use Rattle.std.proofs.lemmas.Int.{to_z-of_z}
use mir.Val.{of_z, to_z}
use mir.Syntax.{w32}
use Rattle.cilk_machine_plan.specs.model.Hands.{with_hand}
use Rattle.cilk_machine_plan.specs.frame.Frames.{gone_to, left}
use Rattle.cilk_machine_plan.specs.frame.Cells.{frame_put}
use Rattle.cilk_machine_plan.specs.agree.Outside as outside
use Rattle.cilk_machine_plan.specs.declared.plan.Plan.TheVariants as plan
use Rattle.cilk_machine_plan.specs.Words.{plan_of}
use Rattle.cilk_machine_plan.specs.declared.did.Did.TheVariants as did
use Rattle.cilk_machine_plan.specs.PartWords.{machine_of}
use Rattle.cilk_machine_plan.specs.Ready.{frame_in}
use Rattle.cilk_machine_carry.proofs.Arms.{by-arm}
use Rattle.cilk_machine_plan.proofs.Holds.{written}
use Rattle.cilk_machine_carry.proofs.lightly.carry_light.Goals as goal

pub returns-in-Write-clause-carried : goal.returns-in-Write-clause-carried
returns-in-Write-clause-carried c =
    let m = machine_of c.args.parts.now outside.running in
    let w = c.args.worker in
    let f = frame_in m.places w in
    let at = c.in-Write.reached in
    let to = c.in-Write.to in
    let z : to_z w32 (of_z w32 c.in-Write.value) ≡ c.in-Write.value = grind (arith, to_z-of_z) in
    let gone = c.go_on-in-Write.ensures ∙ ap (λ o. with_hand m.places w (option_map (gone_to to) o)) c.requires.held in
    let hands = written m.places w c.requires.worker (gone_to to f) (frame_put at.slot at.index (to_z w32 (of_z w32 c.in-Write.value)))
    c.go_on-in-Write.new.self c.write_cell-in-Write.new.hands gone c.write_cell-in-Write.ensures.hands in
    by-arm (ap plan_of c.in-Write.is ∙ (λ j. plan.Write c.in-Write.n at (sym z j) to)) (record {
      machine = λ j. record { outside = record m.outside { cells = c.write_cell-in-Write.ensures.globals j }; nodes = m.nodes; places = hands j };
      did = ap (λ k. did.Acted k c.in-Write.n) c.requires.id;
    })

pub returns-in-Answer-clause-carried : goal.returns-in-Answer-clause-carried
returns-in-Answer-clause-carried c =
    let m = machine_of c.args.parts.now outside.running in
    let w = c.args.worker in
    let f = frame_in m.places w in
    let at = c.in-Answer.reached in
    let z : to_z w32 (of_z w32 c.in-Answer.value) ≡ c.in-Answer.value = grind (arith, to_z-of_z) in
    let gone = c.withdraw-in-Answer.ensures.rest ∙ ap (λ o. with_hand m.places w (option_map left o)) c.requires.held in
    let hands = written m.places w c.requires.worker (left f) (frame_put at.slot at.index (to_z w32 (of_z w32 c.in-Answer.value)))
    c.withdraw-in-Answer.new.self c.write_cell-in-Answer.new.hands gone c.write_cell-in-Answer.ensures.hands in
    by-arm (ap plan_of c.in-Answer.is ∙ (λ j. plan.Answer c.in-Answer.n at (sym z j))) (record {
      machine = λ j. record { outside = record m.outside { cells = c.write_cell-in-Answer.ensures.globals j }; nodes = m.nodes; places = hands j };
      did = ap (λ k. did.Acted k c.in-Answer.n) c.requires.id;
    })
