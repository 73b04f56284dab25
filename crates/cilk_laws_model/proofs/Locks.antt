-- A lock that is held is held by a live instance.
use Rattle.std.proofs.Common.{◌≡◌, ℕ, zero, suc, ℤ, Bool, true, false, not, ◌&&◌, ◌||◌, List, [], ◌∷◌, map, length, replicate, Option, Some, None}
use Rattle.std.proofs.Common.{◌⊎◌, inl, inr, refl, sym, ap, ◌∙◌, slice_set, if◌then◌else◌}
use Rattle.std.proofs.lemmas.Bool.{or_right}
use Rattle.std.specs.Prelude.{slice_index_or, is_some}
use Rattle.std.specs.List.{list_any}
use Rattle.std.proofs.Math.Bool.{or-true}
use Rattle.cilk_model.specs.syntax.declared.lock_action.LockAction.{LockAction}
use Rattle.cilk_model.specs.syntax.declared.lock_action.LockAction.TheVariants.{Init, Unlock}
use Rattle.cilk_model.specs.syntax.declared.lock_action.LockAction.TheVariants as action
use Rattle.cilk_model.specs.labelled.Labelled.{Labelled}
use Rattle.cilk_model.specs.Path.{Path, same_path, parent_of}
use Rattle.cilk_model.specs.Instance.{Instance}
use Rattle.cilk_model.specs.State.{Lock, unset, free, held, State, instance_at, is_live, lock_at}
use Rattle.cilk_model.specs.Change.{lock_turned, refused, blocked, lock_turn_by, is_held_by, released, after_return_to}
use Rattle.cilk_model.specs.Pick.{Step, step_of_live}
use Rattle.cilk_model.specs.Scheduler.{hand_of}
use Rattle.cilk_model.specs.Choice.{Act, step, pop, steal}
use Rattle.cilk_model.specs.Run.{Standing, state_after, next_by_hand, next_by}
use Rattle.cilk_laws_model.specs.Locks.{HoldersLive, EachHolderLives}
use Rattle.cilk_laws_model.proofs.Entries.{same-is, same-self}
use Rattle.cilk_model.proofs.Runs.{at_each}
use Rattle.cilk_laws_model.proofs.Rows.{Row, headless, locked, parked, stopping, going, writing, calling, leaving, answering, spawning, printing}
use Rattle.cilk_laws_model.proofs.Rows.{turning_lock, marking, returning, placing, taking, aborting, step_row}
use Rattle.cilk_laws_model.proofs.Live.{Lives, row_lives}

-- what stands at place k
abbrev at_place : List Lock → ℕ → Lock
at_place locks k = slice_index_or locks k unset

set_by : (locks : List Lock) (j : ℕ) (now : Lock) (k : ℕ) → (at_place (slice_set locks j now) k ≡ now) ⊎ (at_place (slice_set locks j now) k ≡ at_place locks k)
set_by [] j now k = inr refl
set_by (lock ∷ locks) zero now zero = inl refl
set_by (lock ∷ locks) zero now (suc k) = inr refl
set_by (lock ∷ locks) (suc j) now zero = inr refl
set_by (lock ∷ locks) (suc j) now (suc k) = set_by locks j now k

lock_turned_by : (p q : Path) (what : LockAction) (lock : Lock) → lock_turn_by p what lock ≡ lock_turned (held q) → q ≡ p
lock_turned_by p q Init unset h = cc
lock_turned_by p q Init free h = cc
lock_turned_by p q Init (held r) h = cc
lock_turned_by p q action.Lock unset h = cc
lock_turned_by p q action.Lock free h = cc
lock_turned_by p q action.Lock (held r) h = absurd (by (same_path r p) h)
  where
    by : (b : Bool) → (if b then refused else blocked) ≡ lock_turned (held q) → ⊥
    by true h = cc
    by false h = cc
lock_turned_by p q Unlock unset h = cc
lock_turned_by p q Unlock free h = cc
lock_turned_by p q Unlock (held r) h = absurd (by (same_path r p) h)
  where
    by : (b : Bool) → (if b then lock_turned free else refused) ≡ lock_turned (held q) → ⊥
    by true h = cc
    by false h = cc

any_held : (p : Path) (locks : List Lock) (k : ℕ) → at_place locks k ≡ held p → list_any (is_held_by p) locks ≡ true
any_held p [] k h = cc
any_held p (lock ∷ locks) zero h = ap (λ l. is_held_by p l || list_any (is_held_by p) locks) h ∙ ap (λ b. b || list_any (is_held_by p) locks) (same-self p)
any_held p (lock ∷ locks) (suc k) h = ap (λ b. is_held_by p lock || b) (any_held p locks k h) ∙ or-true (is_held_by p lock)

-- what is still held after p let its locks go was held by another
released_by : (p q : Path) (lock : Lock) → released p lock ≡ held q → (lock ≡ held q) × (same_path q p ≡ false)
released_by p q unset h = cc
released_by p q free h = cc
released_by p q (held r) h = by (same_path r p) refl h
  where
    by : (b : Bool) → same_path r p ≡ b → (if b then free else held r) ≡ held q → (held r ≡ held q) × (same_path q p ≡ false)
    by true same h = cc
    by false same h = let is : r ≡ q = cc in (h, ap (λ x. same_path x p) (sym is) ∙ same)

released_at : (p q : Path) (locks : List Lock) (k : ℕ) → at_place (map (released p) locks) k ≡ held q → (at_place locks k ≡ held q) × (same_path q p ≡ false)
released_at p q [] k h = cc
released_at p q (lock ∷ locks) zero h = released_by p q lock h
released_at p q (lock ∷ locks) (suc k) h = released_at p q locks k h

return_locks : (s : State) (p : Path) (i : Instance) (z : ℤ) (o : Option Path) → (after_return_to o s p i z).locks ≡ s.locks
return_locks s p i z None = refl
return_locks s p i z (Some q) = refl

other_by : (p q : Path) (locks : List Lock) (k : ℕ) (b : Bool) → same_path q p ≡ b → list_any (is_held_by p) locks ≡ false
    → at_place locks k ≡ held q → b ≡ false
other_by p q locks k true same none h =
    let both : true ≡ false = sym (any_held p locks k (h ∙ ap held (same-is q p same))) ∙ none in cc
other_by p q locks k false same none h = refl

stays_live : (b l : Bool) → b ≡ false → l ≡ true → (not b && l) ≡ true
stays_live true l e h = cc
stays_live false l e h = h

module _ (program : Labelled) (s : State) (p : Path) (i : Instance) (live : instance_at s.instances p ≡ Some i) (kept : HoldersLive s) where
  lock_turned_live : (j : ℕ) (what : LockAction) (now : Lock) → lock_turn_by p what (lock_at s j) ≡ lock_turned now → (k : ℕ) (q : Path)
      → at_place (slice_set s.locks j now) k ≡ held q
      → is_live s.instances q ≡ true
  lock_turned_live j what now becomes k q h =
      elim (set_by s.locks j now k) [
        | inl is ↦
            let new : now ≡ held q = sym is ∙ h in
            ap (is_live s.instances) (lock_turned_by p q what (lock_at s j) (becomes ∙ ap lock_turned new)) ∙ ap is_some live
        | inr old ↦ kept k q (sym old ∙ h)
      ]

  row_holders : {taken : Step} → Row program s p i taken → Lives s p taken → HoldersLive (state_after s taken)
  row_holders (headless first) lives = kept
  row_holders (locked head first lock) lives = kept
  row_holders (parked some) lives = kept
  row_holders (stopping n kind) lives = kept
  row_holders (going head z heads) lives = λ k q h. lives.live q ∙ kept k q h
  row_holders (writing head cell z heads) lives = λ k q h. lives.live q ∙ kept k q h
  row_holders (calling head awaits callee zs heads room) lives = λ k q h. lives.live q ∙ kept k q h
  row_holders (leaving n) lives = λ k q h. lives.live q ∙ kept k q h
  row_holders (answering n cell z) lives = λ k q h. lives.live q ∙ kept k q h
  row_holders (spawning head receiver callee zs heads few room) lives = λ k q h. lives.live q ∙ or_right _ (is_live s.instances q) (kept k q h)
  row_holders (printing head bytes heads room) lives = λ k q h. lives.live q ∙ kept k q h
  row_holders (turning_lock head what j now heads becomes) lives = λ k q h. lives.live q ∙ lock_turned_live j what now becomes k q h
  row_holders (marking head heads) lives = λ k q h. lives.live q ∙ kept k q h
  row_holders (returning n z none lockless unmarked) lives = λ k q h.
      let before : lock_at s k ≡ held q = sym (ap (λ locks. at_place locks k) (return_locks s p i z (parent_of p))) ∙ h in
      lives.live q ∙ stays_live (same_path q p) (is_live s.instances q) (other_by p q s.locks k (same_path q p) refl lockless before) (kept k q before)
  row_holders (placing oldest others cell z n takes) lives = λ k q h. lives.live q ∙ kept k q h
  row_holders (taking oldest others inlet zs n takes) lives = λ k q h. lives.live q ∙ kept k q h
  row_holders (aborting aborted none) lives = λ k q h.
      let before = released_at p q s.locks k h in
      lives.live q ∙ stays_live (same_path q p) (is_live s.instances q) before.1 (kept k q before.0)

live_holders : (program : Labelled) (s : State) (p : Path) → HoldersLive s → (o : Option Instance) → instance_at s.instances p ≡ o
    → HoldersLive (state_after s (step_of_live program s p o))
live_holders program s p kept None e = kept
live_holders program s p kept (Some i) e =
    row_holders program s p i e kept (step_row program s p i) (row_lives program s p i e (step_row program s p i))

hand_holders : (program : Labelled) (at : Standing) (w : ℕ) (o : Option Path) → HoldersLive at.state → HoldersLive (next_by_hand program at w o).state
hand_holders program at w None kept = kept
hand_holders program at w (Some p) kept = live_holders program at.state p kept (instance_at at.state.instances p) refl

act_holders : (program : Labelled) (at : Standing) (w : ℕ) (act : Act) → HoldersLive at.state → HoldersLive (next_by program at w act).state
act_holders program at w step kept = hand_holders program at w (hand_of at.scheduler.places w) kept
act_holders program at w pop kept = kept
act_holders program at w (steal v) kept = kept

none_held : (n k : ℕ) (q : Path) → at_place (replicate n unset) k ≡ held q → ⊥
none_held zero k q h = cc
none_held (suc n) zero q h = cc
none_held (suc n) (suc k) q h = none_held n k q h

pub each_holder_lives : EachHolderLives
each_holder_lives program n choices at h =
    at_each program (λ x. HoldersLive x.state) (λ x c free kept. act_holders program x c.worker c.act kept) n choices at
    (λ main e k q is. absurd (none_held (length program.locks) k q is)) h
