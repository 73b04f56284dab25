-- The locks that an instance holds.
use Rattle.std.proofs.Common.{◌≡◌, ◌<◌, ℕ, zero, suc, Bool, true, false, ◌||◌, List, [], ◌∷◌, map, length, refl, sym, ap, ◌∙◌, arith, if◌then◌else◌}
use Rattle.std.specs.List.{All}
use Rattle.std.proofs.lemmas.List.Elements.{All-head, All-tail}
use Rattle.cilk_machine_plan.specs.model.Change as change
use Rattle.cilk_machine_plan.specs.spawn.Nodes.{Node, IsTree, path_at}
use Rattle.cilk_machine_plan.specs.agree.declared.lock.Lock.{Lock}
use Rattle.cilk_machine_plan.specs.agree.Locks.{is_held_by}
use Rattle.cilk_machine_plan.specs.agree.Outside.{LockWithin, lock_by}
use Rattle.cilk_machine_plan.specs.agree.Laws.{InHand, path_of}
use Rattle.cilk_machine_plan.specs.Plans.{input_in}
use Rattle.cilk_machine_plan.proofs.agree_laws.Alone.{inside}
use Rattle.cilk_machine_plan.proofs.agree_laws.Locks.{holds-same}
use Rattle.cilk_machine_step.specs.Accesses.{locks_from}
use Rattle.cilk_machine_step.specs.Shown.{held, held_from}

or-false : (a b : Bool) → (a || false) ≡ (b || false) → a ≡ b
or-false true true h = refl
or-false true false h = h
or-false false true h = h
or-false false false h = refl

all-one : {X : Type 0} (P : X → Type 0) (x : X) → P x → All P (x ∷ [])
all-one P x h zero d below = h
all-one P x h (suc k) d below = absurd (omega (arith, below))

module _ (ns : List Node) (tree : IsTree ns) (k : ℕ) (within : k < length ns) where
  one-lock : (x : Lock) → LockWithin (length ns) x → change.is_held_by (path_at ns k) (lock_by (path_at ns) x) ≡ is_held_by k x
  one-lock x h = or-false _ _ (holds-same ns tree k within (x ∷ []) (all-one (LockWithin (length ns)) x h))

  from-same : (n : ℕ) (xs : List Lock) → All (LockWithin (length ns)) xs
      → locks_from n (path_at ns k) (map (lock_by (path_at ns)) xs) ≡ held_from n k xs
  from-same n [] h = refl
  from-same n (x ∷ xs) h =
      let others = from-same (suc n) xs (All-tail (LockWithin (length ns)) x xs h) in
      λ j. if one-lock x (All-head (LockWithin (length ns)) x xs h) j then n ∷ others j else others j

pub locks-shown : (t : InHand) → held (input_in t) ≡ locks_from 0 (path_of t) t.at.state.locks
locks-shown t =
    sym (from-same t.machine.nodes t.agrees.tree t.frame.id (inside t) 0 t.machine.outside.locks t.agrees.outside.holders)
    ∙ ap (locks_from 0 (path_of t)) (sym t.agrees.outside.locks)
