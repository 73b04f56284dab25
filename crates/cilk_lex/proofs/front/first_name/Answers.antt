use Rattle.std.proofs.Common.{◌∙◌}
use Rattle.std.proofs.lemmas.Slice.{between_from_start}
use Rattle.cilk_lex.proofs.Cuts.{name_cut}
use Rattle.cilk_lex.proofs.Fronts.{seen_word, seen_name}
use Rattle.cilk_lex.proofs.front.first_name.Goals as goal

pub range-requires-clause-end_boundary : goal.range-requires-clause-end_boundary
range-requires-clause-end_boundary c =
    name_cut c.args.text.now c.name_end-end.result c.utf8.text c.requires.some c.requires.letter
    (rw c.as_bytes.ensures.value at c.name_end-end.ensures)

pub returns-in-Some : goal.returns-in-Some
returns-in-Some c =
    seen_word c.args.text.now c.range.result.now c.name_end-end.result c.in-Some.word
    (rw c.as_bytes.ensures.value at c.name_end-end.ensures) (c.range.ensures.value ∙ between_from_start _ _) c.in-Some.ensures

pub returns-in-None : goal.returns-in-None
returns-in-None c =
    seen_name c.args.text.now c.range.result.now c.name_end-end.result (rw c.as_bytes.ensures.value at c.name_end-end.ensures)
    (c.range.ensures.value ∙ between_from_start _ _) c.in-None.ensures
