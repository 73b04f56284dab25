use Rattle.std.proofs.Common.{◌≡◌, ◌≢◌, sym, subst, ◌∙◌, rules, inl, inr}
use Rattle.cilk_check_explain.specs.parse.declared.fault.ReadFault.TheVariants as read
use Rattle.cilk_load.specs.scopes.declared.fault.CheckFault.TheVariants as check
use Rattle.cilk_load.specs.scopes.WellFormed.{WellFormed}
use Rattle.cilk_commands.specs.Program.{IsText}
use Rattle.cilk_commands.proofs.program.checked_program.Goals as goal

pub returns-in-Err-clause-every_program : goal.returns-in-Err-clause-every_program
returns-in-Err-clause-every_program c = λ p is.
    let text : IsText c.in-Ok.text.now p = subst (λ t. IsText t p) (sym c.in-Ok.ensures.cases.0) is.text in
    let memory = c.in-Err.ensures.every_program p text.short text.spelled in
    let apart : c.in-Err.fault ≢ read.Memory = search rules in
    absurd (apart memory)

pub returns-in-Ok-check-clause-every_program : goal.returns-in-Ok-check-clause-every_program
returns-in-Ok-check-clause-every_program c = λ p is.
    let text : IsText c.in-Ok.text.now p = subst (λ t. IsText t p) (sym c.in-Ok.ensures.cases.0) is.text in
    c.in-Ok-check.ensures.value ∙ c.in-Ok-read.ensures.every_program p text.short text.spelled

pub returns-in-Err-check-clause-every_program : goal.returns-in-Err-check-clause-every_program
returns-in-Err-check-clause-every_program c = λ p is.
    let text : IsText c.in-Ok.text.now p = subst (λ t. IsText t p) (sym c.in-Ok.ensures.cases.0) is.text in
    let one : c.in-Ok-read.program ≡ p = c.in-Ok-read.ensures.every_program p text.short text.spelled in
    let apart : c.in-Err-check.fault ≢ check.Memory = search rules in
    elim c.in-Err-check.ensures.fault [
      | inl memory ↦ absurd (apart memory)
      | inr first ↦ absurd (subst (λ q. WellFormed q) (sym one) is.well_formed c.in-Err-check.fault first.is_told)
    ]
