use Rattle.std.proofs.Common.{sym, ◌∙◌}
use Rattle.std.proofs.lemmas.Slice.Eq.{slice_eq-Decides}
use Rattle.std.proofs.lemmas.Bool.Decides.{Decides-int_eq}
use Rattle.cilk_frame.proofs.arguments.Arguments.same.Goals as goal

pub returns : goal.returns
returns c =
    let same = slice_eq-Decides Decides-int_eq c.as_slice.result.now c.as_slice-2.result.now c.eq.result c.eq.ensures in
    let mine = c.as_slice.ensures in
    let own = c.as_slice-2.ensures in
    (λ e. sym mine ∙ same.0 e ∙ own, λ e. same.1 (mine ∙ e ∙ sym own))
