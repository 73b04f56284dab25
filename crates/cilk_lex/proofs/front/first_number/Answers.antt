use Rattle.std.proofs.Common.{◌∙◌, sym, subst, ◌≡◌, true}
use Rattle.std.proofs.lemmas.Slice.{between_from_start}
use Rattle.cilk_lex_tokens.specs.Spelling.{has_number_form}
use Rattle.cilk_lex.proofs.Cuts.{number_cut, number_formed}
use Rattle.cilk_lex.proofs.Fronts.{seen_number, seen_no_number}
use Rattle.cilk_lex.proofs.front.first_number.Goals as goal

pub range-requires-clause-end_boundary : goal.range-requires-clause-end_boundary
range-requires-clause-end_boundary c =
    number_cut c.args.text.now c.number_end-end.result c.utf8.text c.requires.some c.requires.digit
    (rw c.as_bytes.ensures.value at c.number_end-end.ensures)

pub number_of-requires : goal.number_of-requires
number_of-requires c =
    subst (λ w. has_number_form w ≡ true) (sym (c.range.ensures.value ∙ between_from_start _ _))
    (number_formed c.args.text.now c.number_end-end.result c.requires.some c.requires.digit
    (rw c.as_bytes.ensures.value at c.number_end-end.ensures))

pub returns-in-Some : goal.returns-in-Some
returns-in-Some c =
    seen_number c.args.text.now c.range.result.now c.number_end-end.result c.args.at c.in-Some.value
    (rw c.as_bytes.ensures.value at c.number_end-end.ensures) (c.range.ensures.value ∙ between_from_start _ _) c.in-Some.ensures

pub returns-in-None : goal.returns-in-None
returns-in-None c =
    seen_no_number c.args.text.now c.range.result.now c.number_end-end.result c.args.at
    (rw c.as_bytes.ensures.value at c.number_end-end.ensures) (c.range.ensures.value ∙ between_from_start _ _) c.in-None.ensures
