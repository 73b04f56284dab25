-- Whose turn it is, and what that worker does.
use Rattle.std.proofs.Common.{◌≡◌, ℕ, List, [], ◌∷◌, Option, Some, None, refl, sym, ap, ◌∙◌, subst}
use Rattle.std.specs.Prelude.{option_map}
use Rattle.cilk_run.specs.choices.declared.choice.Choice as code
use Rattle.cilk_run.specs.labelled.Bodies.{label}
use Rattle.cilk_run.specs.labelled.Labelled.{Labelled}
use Rattle.cilk_run.specs.machine.Situation.{Situation}
use Rattle.cilk_run.specs.machine.Stands.{StandsAt}
use Rattle.cilk_run.specs.model.Run.{Standing}
use Rattle.cilk_run.specs.Drawing.{Draws, turn_with}
use Rattle.cilk_run.specs.Drawn.{Turn, one_of, state_behind, turn_of_worker, turn_among, movers}

module _ (program : Labelled) (n : ℕ) (at : Standing) where
  among_some : (found : List ℕ) (s : ℕ) (t : Turn) → (found ≡ [] → ⊥) → turn_of_worker program n at (state_behind found s) (one_of found s) ≡ t
      → turn_among program n at s found ≡ Some t
  among_some [] s t some is = absurd (some refl)
  among_some (w ∷ found) s t some is = ap (λ (x : Turn). Some x) is

  pub none-drawn : (found : List ℕ) (s : ℕ) → found ≡ movers program n at → found ≡ [] → turn_among program n at s (movers program n at) ≡ None
  none-drawn found s is none = ap (turn_among program n at s) (sym is ∙ none)

  pub some-drawn : (found : List ℕ) (s w state : ℕ) (t : Turn) → found ≡ movers program n at → (found ≡ [] → ⊥) → w ≡ one_of found s
      → state ≡ state_behind found s
      → turn_of_worker program n at state w ≡ t → turn_among program n at s (movers program n at) ≡ Some t
  some-drawn found s w state t is some worker behind made =
      ap (turn_among program n at s) (sym is)
      ∙ among_some found s t some ((λ i. turn_of_worker program n at (sym behind i) (sym worker i)) ∙ made)

-- what was drawn, whatever the values are called by which it was
pub drawn-as : (o : Option code.Choice) (m : Situation) (inside d : Draws) (state : ℕ)
    → ((at : Standing) → StandsAt m at
    → turn_among (label m.program) inside.workers at inside.state (movers (label m.program) inside.workers at) ≡ option_map (turn_with state) o)
    → inside ≡ d → (at : Standing) → StandsAt m at
    → turn_among (label m.program) d.workers at d.state (movers (label m.program) d.workers at) ≡ option_map (turn_with state) o
drawn-as o m inside d state h same =
    subst
    (λ (x : Draws). (at : Standing) → StandsAt m at
    → turn_among (label m.program) x.workers at x.state (movers (label m.program) x.workers at) ≡ option_map (turn_with state) o) same h
