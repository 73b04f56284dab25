-- Where the root has returned, no instance lives and no lock is held.
use Rattle.std.proofs.Common.{◌≡◌, ℕ, zero, suc, ◌+◌, ◌≤◌, ℤ, Bool, true, false, not, ◌&&◌, List, [], ◌∷◌, length, length-append, Option, Some, None}
use Rattle.std.proofs.Common.{◌⊎◌, inl, inr, refl, sym, ap, ◌∙◌, arith}
use Rattle.std.specs.Prelude.{option_map}
use Rattle.cilk_model.specs.labelled.Labelled.{Labelled}
use Rattle.cilk_model.specs.Path.{Path, same_path, child_path, parent_of, is_child}
use Rattle.cilk_model.specs.Instance.{Instance}
use Rattle.cilk_model.specs.State.{Instances, State, running, finished, instance_at, is_live, has_live_child}
use Rattle.cilk_model.specs.Change.{after_return_to}
use Rattle.cilk_model.specs.Pick.{Step, step_of_live}
use Rattle.cilk_model.specs.Scheduler.{hand_of}
use Rattle.cilk_model.specs.Choice.{Act, step, pop, steal, Choice}
use Rattle.cilk_model.specs.Run.{Standing, Position, state_after, next_by_hand, next_by, after}
use Rattle.cilk_laws_model.specs.Hands.{EachInItsPlace}
use Rattle.cilk_laws_model.specs.Laws.{FinishedIsEmpty}
use Rattle.cilk_model.proofs.Runs.{at_each}
use Rattle.cilk_laws_model.proofs.Possible.{possible}
use Rattle.cilk_laws_model.proofs.Rows.{Row, headless, locked, parked, stopping, going, writing, calling, leaving, answering, spawning, printing}
use Rattle.cilk_laws_model.proofs.Rows.{turning_lock, marking, returning, placing, taking, aborting, step_row}
use Rattle.cilk_laws_model.proofs.Live.{Lives, row_lives}
use Rattle.cilk_laws_model.proofs.Family.{Family, is-child, child_seen, counted_live, family_of}
use Rattle.cilk_laws_model.proofs.Parked.{in_front}
use Rattle.cilk_laws_model.proofs.Kept.{by_choice, at_first}
use Rattle.cilk_laws_model.proofs.Locks.{each_holder_lives}

-- a path is the root's or a child's
record IsChild (q : Path) : Type 0 where
  parent : Path
  number : ℕ
  path : q ≡ child_path parent number

split_last : (q : Path) → (q ≡ []) ⊎ IsChild q
split_last [] = inl refl
split_last (k ∷ q) = elim (split_last q) [
  | inl root ↦ inr (record { parent = []; number = k; path = ap (λ r. k ∷ r) root })
  | inr c ↦ inr (record { parent = k ∷ c.parent; number = c.number; path = ap (λ r. k ∷ r) c.path })
]

module _ (entries : Instances) (family : Family entries) (alone : has_live_child entries [] ≡ false) where
  child_of_root : (q r : Path) (k : ℕ) → r ≡ [] → q ≡ child_path r k → is_live entries q ≡ true → ⊥
  child_of_root q r k root path live =
      let is : is_child [] q ≡ true = ap (is_child []) (path ∙ ap (λ x. child_path x k) root) ∙ is-child [] k in
      let both : true ≡ false = sym (child_seen [] q entries is live) ∙ alone in
      cc

  root_alone : (fuel : ℕ) (q : Path) → length q ≤ fuel → is_live entries q ≡ true → q ≡ []
  root_alone zero [] short live = refl
  root_alone zero (k ∷ q) short live = absurd (omega arith)
  root_alone (suc fuel) q short live = elim (split_last q) [
    | inl root ↦ root
    | inr c ↦
        let size : length q ≡ length c.parent + 1 = ap (λ (r : Path). length r) c.path ∙ length-append c.parent (c.number ∷ []) in
        let counts = family c.parent c.number (ap (is_live entries) (sym c.path) ∙ live) in
        let root = root_alone fuel c.parent (omega arith) (counted_live (instance_at entries c.parent) counts.number counts.there) in
        absurd (child_of_root q c.parent c.number root c.path live)
  ]

-- where it has finished, nothing lives
abbrev Emptied : State → Type 0
Emptied s = (z : ℤ) → s.outcome ≡ finished z → (q : Path) → is_live s.instances q ≡ false

no_parent : (p : Path) → parent_of p ≡ None → p ≡ []
no_parent [] e = refl
no_parent (k ∷ []) e = cc
no_parent (k ∷ l ∷ p) e = elim (split_last (l ∷ p)) [
  | inl root ↦ cc
  | inr c ↦ absurd (has_parent k (parent_of (l ∷ p)) (no_parent (l ∷ p)) e)
]
  where
    has_parent : (k : ℕ) (o : Option Path) → (o ≡ None → l ∷ p ≡ []) → option_map (λ (q : Path). k ∷ q) o ≡ None → ⊥
    has_parent k None h f = let both : l ∷ p ≡ [] = h refl in cc
    has_parent k (Some q) h f = cc

gone : (b l : Bool) → (l ≡ true → b ≡ true) → (not b && l) ≡ false
gone true l h = refl
gone false true h = let both : false ≡ true = h refl in cc
gone false false h = refl

same_root : (q p : Path) → q ≡ [] → p ≡ [] → same_path q p ≡ true
same_root q p e f = ap (λ x. same_path x p) e ∙ ap (same_path []) f

module _ (program : Labelled) (s : State) (p : Path) (i : Instance) (live : instance_at s.instances p ≡ Some i)
    (family : Family s.instances) (runs : s.outcome ≡ running) where
  still : {A : Type 0} (z : ℤ) → s.outcome ≡ finished z → A
  still z e = let both : running ≡ finished z = sym runs ∙ e in cc

  returned_empty : (z : ℤ) (o : Option Path) → parent_of p ≡ o → has_live_child s.instances p ≡ false
      → ((q : Path) → is_live (after_return_to o s p i z).instances q ≡ (not (same_path q p) && is_live s.instances q))
      → Emptied (after_return_to o s p i z)
  returned_empty z None e childless lives v end q =
      let root = no_parent p e in
      lives q ∙ gone (same_path q p) (is_live s.instances q)
      (λ l. same_root q p (root_alone s.instances family (ap (has_live_child s.instances) (sym root) ∙ childless) (length q) q (omega arith) l) root)
  returned_empty z (Some r) e childless lives v end q = still v end

  row_empty : {taken : Step} → Row program s p i taken → Lives s p taken → Emptied (state_after s taken)
  row_empty (headless first) lives = λ z e q. still z e
  row_empty (locked head first lock) lives = λ z e q. still z e
  row_empty (parked some) lives = λ z e q. still z e
  row_empty (stopping n kind) lives = λ z e q. cc
  row_empty (going head z heads) lives = λ z e q. still z e
  row_empty (writing head cell z heads) lives = λ v e q. still v e
  row_empty (calling head awaits callee zs heads room) lives = λ z e q. still z e
  row_empty (leaving n) lives = λ z e q. still z e
  row_empty (answering n cell z) lives = λ v e q. still v e
  row_empty (spawning head receiver callee zs heads few room) lives = λ z e q. still z e
  row_empty (printing head bytes heads room) lives = λ z e q. still z e
  row_empty (turning_lock head what k now heads becomes) lives = λ z e q. still z e
  row_empty (marking head heads) lives = λ z e q. still z e
  row_empty (returning n z none lockless unmarked) lives = returned_empty z (parent_of p) refl none lives.live
  row_empty (placing oldest others cell z n takes) lives = λ v e q. still v e
  row_empty (taking oldest others inlet zs n takes) lives = λ z e q. still z e
  row_empty (aborting aborted none) lives = λ z e q. still z e

live_empty : (program : Labelled) (s : State) (p : Path) → Family s.instances → s.outcome ≡ running → (o : Option Instance)
    → instance_at s.instances p ≡ o → Emptied (state_after s (step_of_live program s p o))
live_empty program s p family runs None e = λ z end q. let both : running ≡ finished z = sym runs ∙ end in cc
live_empty program s p family runs (Some i) e =
    row_empty program s p i e family runs (step_row program s p i) (row_lives program s p i e (step_row program s p i))

hand_empty : (program : Labelled) (at : Standing) (w : ℕ) (o : Option Path) → Family at.state.instances → at.state.outcome ≡ running
    → Emptied at.state → Emptied (next_by_hand program at w o).state
hand_empty program at w None family runs kept = kept
hand_empty program at w (Some p) family runs kept = live_empty program at.state p family runs (instance_at at.state.instances p) refl

act_empty : (program : Labelled) (at : Standing) (w : ℕ) (act : Act) → Family at.state.instances → at.state.outcome ≡ running
    → Emptied at.state → Emptied (next_by program at w act).state
act_empty program at w step family runs kept = hand_empty program at w (hand_of at.scheduler.places w) family runs kept
act_empty program at w pop family runs kept = kept
act_empty program at w (steal v) family runs kept = kept

emptied_at : (program : Labelled) (n : ℕ) (choices : List Choice) (at : Position) → after program n choices ≡ Some at → Emptied at.standing.state
emptied_at program n choices at h =
    (at_each program (λ x. EachInItsPlace x × Emptied x.state)
    (λ x c free holds. (
      by_choice program x c free holds.0,
      act_empty program x c.worker c.act (family_of x.state.instances holds.0.family.counted) (possible program x c free).runs holds.1,
    )) n choices at (λ main e. (at_first program main n e, λ z end q. cc)) h).1

none_there : (entries : Instances) → ((q : Path) → is_live entries q ≡ false) → entries ≡ []
none_there [] h = refl
none_there (e ∷ entries) h = let both : true ≡ false = sym (in_front e entries) ∙ h e.path in cc

pub finished_is_empty : FinishedIsEmpty
finished_is_empty program n choices at z h end =
    let none = emptied_at program n choices at h z end in (
      none_there at.standing.state.instances none,
      λ k q is. let both : true ≡ false = sym (each_holder_lives program n choices at h k q is) ∙ none q in cc,
    )
