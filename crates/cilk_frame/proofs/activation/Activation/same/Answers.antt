use Rattle.std.proofs.Common.{refl, sym, ap, ◌∙◌}
use Rattle.std.proofs.lemmas.Slice.Eq.{slice_eq-Decides}
use Rattle.std.proofs.lemmas.Bool.Decides.{Decides-int_eq}
use Rattle.cilk_frame.specs.Frames.{Activation}
use Rattle.cilk_frame.proofs.activation.Activation.same.Goals as goal

pub returns : goal.returns
returns c =
    let cells = slice_eq-Decides Decides-int_eq c.as_slice.result.now c.as_slice-2.result.now c.eq.result c.eq.ensures in
    let node = c.if-self-other.false in
    let awaits = c.if-not-is_same_await.ensures.0 refl in
    let here = c.self.view_is in
    let there = c.other.view_is in
    let mine = c.as_slice.ensures.value in
    let own = c.as_slice-2.ensures.value in (
      λ e.
          let values = sym mine ∙ cells.0 e ∙ own in
          sym here ∙ (λ i. record { node = node i; cells = values i; awaits = awaits i }) ∙ there,
      λ e. cells.1 (mine ∙ ap (λ (a : Activation). a.cells) (here ∙ e ∙ sym there) ∙ sym own),
    )
