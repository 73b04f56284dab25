use Rattle.std.proofs.Common.{sym, ap, ◌∙◌, ◌∷◌, option_copied}
use Rattle.cilk_machine_undo.specs.plans.Words.{plan_of}
use Rattle.cilk_machine_undo.specs.plans.declared.spent.Spent.TheVariants.{Nothing}
use Rattle.cilk_machine_undo.specs.Words.{machine_in}
use Rattle.cilk_machine_undo.proofs.Noted.{whole-noted, in-hand}
use Rattle.cilk_machine.specs.Pasts.{kept_of}
use Rattle.cilk_machine.proofs.keeping.keep_small.Goals as goal

pub returns-in-Go-clause-kept : goal.returns-in-Go-clause-kept
returns-in-Go-clause-kept c _ =
    let m = machine_in c.args.parts.now in
    let same = in-hand c.args.parts.now.hands c.args.worker c.in-Some.frame.now (sym c.hand.ensures ∙ ap option_copied c.in-Some.is) in
    let is = whole-noted m c.args.worker c.note_go.result (ap plan_of c.in-Go.is) same (c.note_go.ensures m c.in-Go.n c.in-Go.to Nothing tt) in
    c.put_last.ensures.kept ∙ ap (λ u. u ∷ kept_of c.args.records.now.items) is

pub returns-in-Write-clause-kept : goal.returns-in-Write-clause-kept
returns-in-Write-clause-kept c _ =
    let m = machine_in c.args.parts.now in
    let same = in-hand c.args.parts.now.hands c.args.worker c.in-Some.frame.now (sym c.hand.ensures ∙ ap option_copied c.in-Some.is) in
    let noted = c.note_write.ensures c.in-Write.n c.in-Write.to c.in-Write.value Nothing tt in
    let is = whole-noted m c.args.worker c.note_write.result (ap plan_of c.in-Write.is) same noted in
    c.put_last-in-Write.ensures.kept ∙ ap (λ u. u ∷ kept_of c.args.records.now.items) is
