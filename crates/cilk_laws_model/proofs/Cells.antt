-- What a write leaves in each cell.
use Rattle.std.proofs.Common.{◌≡◌, ◌≢◌, ℕ, zero, suc, ℤ, Bool, List, [], ◌∷◌, refl, sym, ap, subst, slice_set}
use Rattle.std.specs.Prelude.{option_map, slice_get, slice_index_or}
use Rattle.cilk_model.specs.labelled.Labelled.{Declaration, local, outer, global, of_lock, of_body, unknown}
use Rattle.cilk_model.specs.Values.{Values, Store}
use Rattle.cilk_model.specs.Instance.{Activation, outer_values}
use Rattle.cilk_model.specs.Change.{with_value, own_with, outer_with, globals_with, on_lowest}
use Rattle.cilk_model.specs.Written as written
use Rattle.cilk_model.specs.Written.{content, Writes, Holding}
use Rattle.cilk_laws_model.proofs.Decided.{at}

pub get_set_same : {A : Type 0} (xs : List A) (k : ℕ) (z : A) → slice_get (slice_set xs k z) k ≡ option_map (λ _. z) (slice_get xs k)
get_set_same [] k z = refl
get_set_same (x ∷ xs) zero z = refl
get_set_same (x ∷ xs) (suc k) z = get_set_same xs k z

pub get_set_other : {A : Type 0} (xs : List A) (k j : ℕ) (z : A) → (j ≡ k → ⊥) → slice_get (slice_set xs k z) j ≡ slice_get xs j
get_set_other [] k j z h = refl
get_set_other (x ∷ xs) zero zero z h = absurd (h refl)
get_set_other (x ∷ xs) zero (suc j) z h = refl
get_set_other (x ∷ xs) (suc k) zero z h = refl
get_set_other (x ∷ xs) (suc k) (suc j) z h = get_set_other xs k j z (λ e. h (ap suc e))

cell_same : (values : Values) (n k : ℕ) (z : ℤ)
    → slice_get (slice_index_or (with_value n k z values) n []) k ≡ option_map (λ _. z) (slice_get (slice_index_or values n []) k)
cell_same [] n k z = refl
cell_same (c ∷ values) zero k z = get_set_same c k z
cell_same (c ∷ values) (suc n) k z = cell_same values n k z

cell_other : (values : Values) (n k m j : ℕ) (z : ℤ) → (m ≡ n → j ≡ k → ⊥)
    → slice_get (slice_index_or (with_value n k z values) m []) j ≡ slice_get (slice_index_or values m []) j
cell_other [] n k m j z h = refl
cell_other (c ∷ values) zero k zero j z h = get_set_other c k j z (h refl)
cell_other (c ∷ values) zero k (suc m) j z h = refl
cell_other (c ∷ values) (suc n) k zero j z h = refl
cell_other (c ∷ values) (suc n) k (suc m) j z h = cell_other values n k m j z (λ e f. h (ap suc e) f)

abbrev store : Values → Values → Values → Bool → Store
store own beyond globals synched = record { own = own; outer = beyond; globals = globals; synched = synched }

module _ (own beyond globals : Values) (synched : Bool) (k : ℕ) (z : ℤ) where
  local_others : (n : ℕ) (d : Declaration) (j : ℕ) → at d j ≢ at (local n) k
      → content (store (with_value n k z own) beyond globals synched) (at d j) ≡ content (store own beyond globals synched) (at d j)
  local_others n (local m) j other = cell_other own n k m j z (λ e f. other (cc))
  local_others n (outer m) j other = refl
  local_others n (global m) j other = refl
  local_others n (of_lock m) j other = refl
  local_others n (of_body m) j other = refl
  local_others n unknown j other = refl

  outer_others : (n : ℕ) (d : Declaration) (j : ℕ) → at d j ≢ at (outer n) k
      → content (store own (with_value n k z beyond) globals synched) (at d j) ≡ content (store own beyond globals synched) (at d j)
  outer_others n (local m) j other = refl
  outer_others n (outer m) j other = cell_other beyond n k m j z (λ e f. other (cc))
  outer_others n (global m) j other = refl
  outer_others n (of_lock m) j other = refl
  outer_others n (of_body m) j other = refl
  outer_others n unknown j other = refl

  global_others : (n : ℕ) (d : Declaration) (j : ℕ) → at d j ≢ at (global n) k
      → content (store own beyond (with_value n k z globals) synched) (at d j) ≡ content (store own beyond globals synched) (at d j)
  global_others n (local m) j other = refl
  global_others n (outer m) j other = refl
  global_others n (global m) j other = cell_other globals n k m j z (λ e f. other (cc))
  global_others n (of_lock m) j other = refl
  global_others n (of_body m) j other = refl
  global_others n unknown j other = refl

  writes_by : (d : Declaration)
      → Writes (store own beyond globals synched)
      (store (own_with d k z own) (outer_with d k z beyond) (globals_with d k z globals) synched) (at d k) z
  writes_by (local n) = record { there = cell_same own n k z; others = λ other. local_others n other.place other.index }
  writes_by (outer n) = record { there = cell_same beyond n k z; others = λ other. outer_others n other.place other.index }
  writes_by (global n) = record { there = cell_same globals n k z; others = λ other. global_others n other.place other.index }
  writes_by (of_lock n) = record { there = refl; others = λ other h. refl }
  writes_by (of_body n) = record { there = refl; others = λ other h. refl }
  writes_by unknown = record { there = refl; others = λ other h. refl }

none_with : (d : Declaration) (k : ℕ) (z : ℤ) → [] ≡ outer_with d k z []
none_with (local n) k z = refl
none_with (outer n) k z = refl
none_with (global n) k z = refl
none_with (of_lock n) k z = refl
none_with (of_body n) k z = refl
none_with unknown k z = refl

outer_lowest : (f : Values → Values) → [] ≡ f [] → (below : List Activation) → outer_values (on_lowest f below) ≡ f (outer_values below)
outer_lowest f none [] = none
outer_lowest f none (a ∷ []) = refl
outer_lowest f none (a ∷ b ∷ []) = refl
outer_lowest f none (a ∷ b ∷ c ∷ below) = outer_lowest f none (b ∷ c ∷ below)

-- what a write leaves, as the top activation sees it
pub writes_at : (own : Values) (below : List Activation) (globals : Values) (synched : Bool) (d : Declaration) (k : ℕ) (z : ℤ)
    → Writes (store own (outer_values below) globals synched)
    (store (own_with d k z own) (outer_values (on_lowest (outer_with d k z) below)) (globals_with d k z globals) synched) (at d k) z
writes_at own below globals synched d k z =
    subst
    (λ (beyond : Values). Writes (store own (outer_values below) globals synched)
    (store (own_with d k z own) beyond (globals_with d k z globals) synched) (at d k) z)
    (sym (outer_lowest (outer_with d k z) (none_with d k z) below)) (writes_by own (outer_values below) globals synched k z d)

pub holding_at : (f : Values → Values) (below : List Activation) → Holding (f (outer_values below)) below (on_lowest f below)
holding_at f [] = written.none_waits
holding_at f (a ∷ []) = written.lowest a
holding_at f (a ∷ b ∷ below) = written.above a b below (on_lowest f (b ∷ below)) (holding_at f (b ∷ below))
