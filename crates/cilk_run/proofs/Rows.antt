-- Worked rows: numbers of the generator, and the first choices that seeds name.
use Rattle.std.proofs.Common.{◌≡◌, [], ◌∷◌, refl}
use Rattle.cilk_run.specs.labelled.Bodies.{label}
use Rattle.cilk_run.specs.model.Rows.{s, p, t, steps}
use Rattle.cilk_run.specs.model.Trees.{counting, asking_late, crossing, summing}
use Rattle.cilk_run.specs.Drawn.{drawn}
use Rattle.cilk_run.specs.Generator.{next_state, number_at}

-- those of the published code
first_of_seed_0 : number_at (next_state 0) ≡ 0xe220a8397b1dcdaf
unfolding next_state number_at
first_of_seed_0 = refl

first_of_a_seed : number_at (next_state 1477776061723855037) ≡ 1985237415132408290
unfolding next_state number_at
first_of_a_seed = refl

second_of_a_seed : number_at (next_state (next_state 1477776061723855037)) ≡ 2979275885539914483
unfolding next_state number_at
second_of_a_seed = refl

-- of two workers: one loses a value, and another does not
loses : drawn (label counting) 2 1 20 ≡ s 1 ∷ t 2 1 ∷ s 2 ∷ s 2 ∷ s 1 ∷ s 1 ∷ s 2 ∷ s 2 ∷ p 2 ∷ s 1 ∷ s 2 ∷ s 2 ∷ []
unfolding next_state number_at
loses = refl

keeps : drawn (label counting) 2 2 20 ≡ s 1 ∷ t 2 1 ∷ s 2 ∷ s 2 ∷ s 2 ∷ s 1 ∷ s 1 ∷ s 2 ∷ p 2 ∷ s 1 ∷ s 2 ∷ s 2 ∷ []
unfolding next_state number_at
keeps = refl

-- the first of them
begins : drawn (label counting) 2 12 3 ≡ s 1 ∷ t 2 1 ∷ s 2 ∷ []
unfolding next_state number_at
begins = refl

-- private steps: where nothing else can be chosen, and behind a boundary
goes_round : drawn (label summing) 1 0 30 ≡ steps 24 1
unfolding next_state number_at
goes_round = refl

waits_late : drawn (label asking_late) 2 0 20 ≡ s 1 ∷ t 2 1 ∷ s 1 ∷ s 2 ∷ s 2 ∷ s 2 ∷ s 2 ∷ s 2 ∷ []
unfolding next_state number_at
waits_late = refl

-- each waits for the lock that the other has
gets_stuck : drawn (label crossing) 2 1 20 ≡ s 1 ∷ s 1 ∷ s 1 ∷ t 2 1 ∷ s 2 ∷ s 2 ∷ s 1 ∷ []
unfolding next_state number_at
gets_stuck = refl
