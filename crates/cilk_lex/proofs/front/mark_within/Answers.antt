use Rattle.std.proofs.Common.{◌∙◌, arith}
use Rattle.std.proofs.lemmas.Slice.{between_from_start}
use Rattle.std.proofs.lemmas.Str.{IsCharBoundary-start}
use Rattle.cilk_lex.proofs.Fronts.{no_mark_cut, mark_told}
use Rattle.cilk_lex.proofs.front.mark_within.Goals as goal

pub returns-in_err-get : goal.returns-in_err-get
returns-in_err-get c =
    rw c.from_residual.ensures
    (no_mark_cut c.args.text.now c.args.end c.utf8.text
    (λ l cut. c.in_err-get.ensures.cases (omega arith) (IsCharBoundary-start c.args.text.now c.utf8.text) cut))

pub returns : goal.returns
returns c =
    mark_told c.args.text.now c.in_ok-get.field-0.now c.args.end c.mark_of.result c.in_ok-get.ensures.cases.2
    (c.in_ok-get.ensures.cases.0 ∙ between_from_start _ _) c.mark_of.ensures
