-- Locks, whose holders go by their ids, and by their paths.
use Rattle.std.proofs.Common.{◌≡◌, ◌<◌, ℕ, zero, suc, Bool, true, false, ◌||◌, nat_eq, List, [], ◌∷◌, map, length, refl, sym, ap, ◌∙◌, subst, inl}
use Rattle.std.proofs.Common.{inr, slice_index_or, slice_set, All, if◌then◌else◌}
use Rattle.std.specs.List.{list_any}
use Rattle.std.proofs.lemmas.List.Elements.{All-head, All-tail, All-cons}
use Rattle.cilk_laws_model.specs.syntax.declared.lock_action.LockAction.{LockAction}
use Rattle.cilk_laws_model.specs.syntax.declared.lock_action.LockAction.TheVariants.{Init, Unlock}
use Rattle.cilk_laws_model.specs.syntax.declared.lock_action.LockAction.TheVariants as action
use Rattle.cilk_laws_model.specs.model.Path.{Path, same_path}
use Rattle.cilk_laws_model.specs.model.State as state
use Rattle.cilk_laws_model.specs.model.Change as change
use Rattle.cilk_spawn.specs.Nodes.{Node, IsTree, path_at}
use Rattle.cilk_spawn.proofs.Lists.{decide}
use Rattle.cilk_spawn.proofs.Grown.{same_number, other_number}
use Rattle.cilk_spawn.proofs.Paths.{same_here, other_there}
use Rattle.cilk_machine_agree.specs.declared.lock.Lock.{Lock}
use Rattle.cilk_machine_agree.specs.declared.lock.Lock.TheVariants.{Unset, Free, Held}
use Rattle.cilk_machine_agree.specs.Outside.{lock_by, LockWithin}
use Rattle.cilk_machine_agree.specs.Locks.{lock_turned, refused, blocked, lock_turn_at, lock_turn_among, lock_turn_named, is_held_by}

pub set_map : {A B : Type 0} (f : A → B) (xs : List A) (l : ℕ) (x : A) → slice_set (map f xs) l (f x) ≡ map f (slice_set xs l x)
set_map f [] l x = refl
set_map f (y ∷ xs) zero x = refl
set_map f (y ∷ xs) (suc l) x = ap (λ ys. f y ∷ ys) (set_map f xs l x)

get_map : {A B : Type 0} (f : A → B) (xs : List A) (l : ℕ) (d : A) → slice_index_or (map f xs) l (f d) ≡ f (slice_index_or xs l d)
get_map f [] l d = refl
get_map f (y ∷ xs) zero d = refl
get_map f (y ∷ xs) (suc l) d = get_map f xs l d

pub set_all : (n : ℕ) (xs : List Lock) (l : ℕ) (x : Lock) → LockWithin n x → All (LockWithin n) xs → All (LockWithin n) (slice_set xs l x)
set_all n [] l x new h = h
set_all n (y ∷ xs) zero x new h = All-cons (LockWithin n) x xs new (All-tail (LockWithin n) y xs h)
set_all n (y ∷ xs) (suc l) x new h =
    All-cons (LockWithin n) y (slice_set xs l x) (All-head (LockWithin n) y xs h) (set_all n xs l x new (All-tail (LockWithin n) y xs h))

-- the lock at a place, where an unset one stands past the end
lock-within : (n : ℕ) (xs : List Lock) (l : ℕ) → All (LockWithin n) xs → LockWithin n (slice_index_or xs l Unset)
lock-within n [] l h = tt
lock-within n (y ∷ xs) zero h = All-head (LockWithin n) y xs h
lock-within n (y ∷ xs) (suc l) h = lock-within n xs l (All-tail (LockWithin n) y xs h)

-- one that k may take, or let go
taken-or-not : (up : ℕ → Path) (a b : Bool) → a ≡ b → (if b then change.refused else change.blocked) ≡ lock_turn_named up (if a then refused else blocked)
taken-or-not up true true e = refl
taken-or-not up false false e = refl
taken-or-not up true false e = cc
taken-or-not up false true e = cc

freed-or-not : (up : ℕ → Path) (a b : Bool) → a ≡ b
    → (if b then change.lock_turned state.free else change.refused) ≡ lock_turn_named up (if a then lock_turned Free else refused)
freed-or-not up true true e = refl
freed-or-not up false false e = refl
freed-or-not up true false e = cc
freed-or-not up false true e = cc

freed-within : (n : ℕ) (b : Bool) (now : Lock) → (if b then lock_turned Free else refused) ≡ lock_turned now → LockWithin n now
freed-within n true now e = let is : Free ≡ now = cc in subst (LockWithin n) is tt
freed-within n false now e = cc

not-taken : (b : Bool) (now : Lock) → (if b then refused else blocked) ≡ lock_turned now → ⊥
not-taken true now e = cc
not-taken false now e = cc

module _ (ns : List Node) (t : IsTree ns) (k : ℕ) (there : k < length ns) where
  abbrev up : ℕ → Path
  up = path_at ns

  same-holder : (i : ℕ) → i < length ns → nat_eq i k ≡ same_path (up i) (up k)
  same-holder i h =
      elim (decide i k) [
        | inl e ↦ same_number i k e ∙ sym (same_here ns i k e)
        | inr ne ↦ other_number i k ne ∙ sym (other_there ns i k t h there ne)
      ]

  held-same : (x : Lock) → LockWithin (length ns) x → change.is_held_by (up k) (lock_by up x) ≡ is_held_by k x
  held-same Unset h = refl
  held-same Free h = refl
  held-same (Held i) h = sym (same-holder i h)

  -- whether it holds a lock
  pub holds-same : (xs : List Lock) → All (LockWithin (length ns)) xs → list_any (change.is_held_by (up k)) (map (lock_by up) xs) ≡ list_any (is_held_by k) xs
  holds-same [] h = refl
  holds-same (x ∷ xs) h =
      λ j. held-same x (All-head (LockWithin (length ns)) x xs h) j || holds-same xs (All-tail (LockWithin (length ns)) x xs h) j

  lock-turn-at : (what : LockAction) (x : Lock) → LockWithin (length ns) x
      → change.lock_turn_by (up k) what (lock_by up x) ≡ lock_turn_named up (lock_turn_at k what x)
  lock-turn-at Init Unset h = refl
  lock-turn-at Init Free h = refl
  lock-turn-at Init (Held i) h = refl
  lock-turn-at action.Lock Unset h = refl
  lock-turn-at action.Lock Free h = refl
  lock-turn-at action.Lock (Held i) h = taken-or-not up (nat_eq i k) (same_path (up i) (up k)) (same-holder i h)
  lock-turn-at Unlock Unset h = refl
  lock-turn-at Unlock Free h = refl
  lock-turn-at Unlock (Held i) h = freed-or-not up (nat_eq i k) (same_path (up i) (up k)) (same-holder i h)

  pub lock-turn-same : (what : LockAction) (xs : List Lock) (l : ℕ) → All (LockWithin (length ns)) xs
      → change.lock_turn_by (up k) what (slice_index_or (map (lock_by up) xs) l state.unset) ≡ lock_turn_named up (lock_turn_among xs k what l)
  lock-turn-same what xs l h = ap (change.lock_turn_by (up k) what) (get_map (lock_by up) xs l Unset)
      ∙ lock-turn-at what (slice_index_or xs l Unset) (lock-within (length ns) xs l h)

  lock-turned-at : (what : LockAction) (x now : Lock) → lock_turn_at k what x ≡ lock_turned now → LockWithin (length ns) now
  lock-turned-at Init Unset now e = let is : Free ≡ now = cc in subst (LockWithin (length ns)) is tt
  lock-turned-at Init Free now e = let is : Free ≡ now = cc in subst (LockWithin (length ns)) is tt
  lock-turned-at Init (Held i) now e = cc
  lock-turned-at action.Lock Unset now e = cc
  lock-turned-at action.Lock Free now e = let is : Held k ≡ now = cc in subst (LockWithin (length ns)) is there
  lock-turned-at action.Lock (Held i) now e = absurd (not-taken (nat_eq i k) now e)
  lock-turned-at Unlock Unset now e = cc
  lock-turned-at Unlock Free now e = cc
  lock-turned-at Unlock (Held i) now e = freed-within (length ns) (nat_eq i k) now e

  pub lock-turned-within : (what : LockAction) (xs : List Lock) (l : ℕ) (now : Lock)
      → lock_turn_among xs k what l ≡ lock_turned now → LockWithin (length ns) now
  lock-turned-within what xs l now e = lock-turned-at what (slice_index_or xs l Unset) now e
