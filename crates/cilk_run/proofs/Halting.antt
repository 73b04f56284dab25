-- Where no worker may do anything, the program has ended or is stuck.
use Rattle.std.proofs.Common.{◌≡◌, ℕ, zero, suc, Bool, true, false, not, ◌&&◌, List, [], ◌∷◌, ◌++◌, length, map, Option, Some, None, cond, refl, sym, ap}
use Rattle.std.proofs.Common.{◌∙◌, if◌then◌else◌}
use Rattle.std.proofs.lemmas.Bool.{or_parts}
use Rattle.std.specs.Prelude.{is_some, is_none, filter}
use Rattle.std.specs.List.{list_all}
use Rattle.std.proofs.lemmas.List.Elements.{filter-append}
use Rattle.std.proofs.lemmas.List.Folds.{list_all-append, list_all-map}
use Rattle.cilk_run.proofs.machine_laws.agree_laws.Asked.{placed}
use Rattle.cilk_run.specs.labelled.Labelled.{Labelled}
use Rattle.cilk_run.specs.machine.Situation.{Situation, workers_of}
use Rattle.cilk_run.specs.machine.Stands.{StandsAt}
use Rattle.cilk_run.specs.machine.agree.Agrees.{read_off}
use Rattle.cilk_run.specs.model.Choice.{step, pop, steal, Choice}
use Rattle.cilk_run.specs.model.End as model
use Rattle.cilk_run.specs.model.End.{numbers, choices_of, choices_below, end_by, end_now}
use Rattle.cilk_run.specs.model.State.{Outcome, running, finished, trapped, is_empty}
use Rattle.cilk_run.specs.model.Run.{Standing, is_running, refusal_of}
use Rattle.cilk_run.specs.step.Private.{is_private}
use Rattle.cilk_run.specs.Drawn.{can, can_move, movers, turn_among, turn_of, victims}

some_is : {A : Type 0} (o : Option A) → is_none o ≡ false → is_some o ≡ true
some_is None h = cc
some_is (Some a) h = refl

none_of : (xs : List ℕ) → not (is_empty xs) ≡ false → xs ≡ []
none_of [] h = refl
none_of (x ∷ xs) h = cc

both_none : (xs ys : List ℕ) → xs ++ ys ≡ [] → (xs ≡ []) × (ys ≡ [])
both_none [] ys h = (refl, h)
both_none (x ∷ xs) ys h = cc

-- where nothing passes one test, all passes another
all_pass : (test other : ℕ → Bool) → ((x : ℕ) → test x ≡ false → other x ≡ true) → (xs : List ℕ) → filter test xs ≡ [] → list_all other xs ≡ true
all_pass test other turns [] h = refl
all_pass test other turns (x ∷ xs) h = by_test (λ k. all_pass test other turns xs k) (test x) refl h
  where
    by_test : (filter test xs ≡ [] → list_all other xs ≡ true) → (b : Bool) → test x ≡ b → cond b (x ∷ filter test xs) (filter test xs) ≡ []
        → (other x && list_all other xs) ≡ true
    by_test rest true e k = cc
    by_test rest false e k = λ i. turns x e i && rest k i

module _ (program : Labelled) (n : ℕ) (at : Standing) where
  abbrev told : Choice → Bool
  told c = is_some (refusal_of program at c)

  worker_refused : (w : ℕ) → can_move program n at w ≡ false → list_all told (choices_of w n) ≡ true
  worker_refused w h =
      let a = or_parts (can program at w step) _ h in
      let b = or_parts (can program at w pop) _ a.1 in
      let steals : list_all told (map (λ v. record { worker = w; act = steal v }) (numbers n)) ≡ true =
      list_all-map told (λ v. record { worker = w; act = steal v }) (numbers n)
      ∙ all_pass (λ v. can program at w (steal v)) (λ v. told (record { worker = w; act = steal v }))
      (λ v e. some_is (refusal_of program at (record { worker = w; act = steal v })) e) (numbers n) (none_of (victims program n at w) b.1) in
      λ i. some_is (refusal_of program at (record { worker = w; act = step })) a.0 i
      && (some_is (refusal_of program at (record { worker = w; act = pop })) b.0 i && steals i)

  one_not : (w : ℕ) (b : Bool) → can_move program n at w ≡ b → cond b (w ∷ []) [] ≡ [] → b ≡ false
  one_not w true e h = cc
  one_not w false e h = refl

  all_refused : (k : ℕ) → filter (can_move program n at) (numbers k) ≡ [] → list_all told (choices_below k n) ≡ true
  all_refused zero h = refl
  all_refused (suc k) h =
      let parts = both_none (filter (can_move program n at) (numbers k)) (filter (can_move program n at) (suc k ∷ []))
      (sym (filter-append (can_move program n at) (numbers k) (suc k ∷ [])) ∙ h) in
      let idle = one_not (suc k) (can_move program n at (suc k)) refl parts.1 in
      list_all-append told (choices_below k n) (choices_of (suc k) n)
      ∙ (λ i. all_refused k parts.0 i && worker_refused (suc k) idle i)

  by_outcome : (o : Outcome) (stuck : Bool) → stuck ≡ true → end_by program (is_running o && stuck) o ≡ model.limit → ⊥
  by_outcome running stuck e h = let bad : end_by program true running ≡ model.limit = ap (λ b. end_by program b running) (sym e) ∙ h in cc
  by_outcome (finished z) stuck e h = cc
  by_outcome (trapped kind path m) stuck e h = cc

  pub not-limit : movers program n at ≡ [] → length at.scheduler.places ≡ n → end_now program at ≡ model.limit → ⊥
  not-limit h crew =
      by_outcome at.state.outcome (list_all told (choices_below (length at.scheduler.places) (length at.scheduler.places)))
      (ap (λ m. list_all told (choices_below m m)) crew ∙ all_refused n h)

  -- no turn is anyone's only where no worker may do anything
  none_among : (s : ℕ) (found : List ℕ) → turn_among program n at s found ≡ None → found ≡ []
  none_among s [] h = refl
  none_among s (w ∷ found) h = cc

  pub no-movers : (last s : ℕ) → turn_of program n at last s ≡ None → movers program n at ≡ []
  no-movers last s = by_private (is_private program at last)
    where
      by_private : (b : Bool) → (if b then Some (Rattle.cilk_run.specs.Drawn.turn last step s) else turn_among program n at s (movers program n at)) ≡ None
          → movers program n at ≡ []
      by_private true h = cc
      by_private false h = none_among s (movers program n at) h

-- a machine has as many places as workers
pub crew-is : (m : Situation) (at : Standing) → StandsAt m at → length at.scheduler.places ≡ workers_of m
crew-is m at s = (placed m.program m.machine (read_off m.program m.machine at) at s.led.agrees).workers
