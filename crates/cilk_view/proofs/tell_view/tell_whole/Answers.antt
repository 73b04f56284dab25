use Rattle.std.proofs.Common.{◌≡◌, List, ℕ, Some, ap, ◌∙◌, sym}
use Rattle.std.specs.Prelude.{string_bytes}
use Rattle.cilk_machine_agree.specs.model.Run.{Position}
use Rattle.cilk_machine_agree.specs.model.Views.{shown}
use Rattle.cilk_machine_agree.specs.frame.Asked.{what_of}
use Rattle.cilk_view.specs.Shows.{ShowsAt}
use Rattle.cilk_view.proofs.Told.{told_is, not_both}
use Rattle.cilk_view.proofs.tell_view.tell_whole.Goals as goal

pub returns-in-Ok-clause-text : goal.returns-in-Ok-clause-text
returns-in-Ok-clause-text c =
    let parts = c.args.parts.now in
    told_is c.whole.result c.begun.result (λ (t : List ℕ). t ≡ string_bytes c.in-Ok.text)
    (λ (t : List ℕ). (at : Position) → ShowsAt parts at → shown parts.loaded.now at (what_of c.args.what.now) ≡ Some t) c.begun.ensures.text c.whole.ensures
    (λ t is at s. c.in-Ok.ensures.text at s ∙ ap Some (sym is))

pub returns-in-Ok-clause-none : goal.returns-in-Ok-clause-none
returns-in-Ok-clause-none c = λ at s gone.
    absurd (not_both (shown c.args.parts.now.loaded.now at (what_of c.args.what.now)) (string_bytes c.in-Ok.text) (c.in-Ok.ensures.text at s) gone)
