use Rattle.std.proofs.Common.{◌≤◌, length, inl, inr}
use Rattle.std.proofs.lemmas.Bool.{cases_lt}
use Rattle.cilk_lex.specs.lexeme.Lexing.{text_limit}
use Rattle.cilk_lex.proofs.Within.{refused_within}
use Rattle.cilk_parse.proofs.FaultPlaces.{no_lex_fault, too_long_so}
use Rattle.cilk_parse.proofs.program.read.Goals as goal

pub returns-in-Err-clause-placed : goal.returns-in-Err-clause-placed
returns-in-Err-clause-placed c = rw c.of_tokens.ensures.place (refused_within c.args.text.now c.in-Err.fault c.in-Err.ensures.refused)

pub returns-in-Ok-clause-too_long : goal.returns-in-Ok-clause-too_long
returns-in-Ok-clause-too_long c = (
  λ e. too_long_so c.args.text.now _ c.program_by.ensures.refused e,
  λ h. let e = c.in-Ok.ensures.too_long.1 h in absurd cc,
)

pub returns-in-Ok-clause-every_lex_fault : goal.returns-in-Ok-clause-every_lex_fault
returns-in-Ok-clause-every_lex_fault c = λ f h.
    let short : length c.args.text.now
    ≤ text_limit = elim (cases_lt text_limit (length c.args.text.now))
    [ inl h ↦ (let e = c.in-Ok.ensures.too_long.1 h in absurd cc) | inr h ↦ h ] in
    absurd (no_lex_fault c.args.text.now _ f short c.in-Ok.ensures.tokens h)
