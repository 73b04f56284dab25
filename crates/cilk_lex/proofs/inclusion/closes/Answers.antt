use Rattle.std.proofs.Common.{◌≡◌, false, ◌&&◌, sym, ◌∙◌, refl}
use Rattle.std.specs.Prelude.{◌==◌}
use Rattle.std.proofs.lemmas.Bool.{eq-eqb, ne_eqb}
use Rattle.cilk_lex.specs.Sight.{ends_line}
use Rattle.cilk_lex_tokens.specs.Spelling.{closing_of}
use Rattle.cilk_lex.proofs.Headers.{closes_behind, closes_nothing}
use Rattle.cilk_lex.proofs.inclusion.closes.Goals as goal

pub returns-then-first-closing_of : goal.returns-then-first-closing_of
returns-then-first-closing_of c =
    let e = c.if-first-closing_of.true ∙ c.closing_of.ensures in
    rw (
      closes_behind c.args.opening c.in-Some.first.now c.args.text.now c.in-Some.rest.now c.in-Some.ensures.cases.0,
      eq-eqb
          c.in-Some.first.now (closing_of c.args.opening) e,
    ) c.ends_line.ensures

pub returns-else-first-closing_of : goal.returns-else-first-closing_of
returns-else-first-closing_of c =
    let apart : c.in-Some.first.now ≡ closing_of c.args.opening → ⊥ = λ e. c.if-first-closing_of.false (e ∙ sym c.closing_of.ensures) in
    let h : ((c.in-Some.first.now == closing_of c.args.opening) && ends_line c.in-Some.rest.now)
    ≡ false = rw (ne_eqb c.in-Some.first.now (closing_of c.args.opening) apart) refl in
    ne_eqb c.in-Some.first.now c.closing_of.result c.if-first-closing_of.false
    ∙ sym (closes_behind c.args.opening c.in-Some.first.now c.args.text.now c.in-Some.rest.now c.in-Some.ensures.cases.0 ∙ h)

pub returns-in-None : goal.returns-in-None
returns-in-None c = sym (closes_nothing c.args.opening c.args.text.now c.in-None.ensures.cases)
