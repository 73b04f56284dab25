-- Variables lie one after another.
use Rattle.std.proofs.Common.{◌≡◌, ℕ, zero, suc, ◌+◌, ◌-◌, ◌<◌, ℤ, List, [], ◌∷◌, ◌++◌, length, map, refl, ap, ◌∙◌, arith}
use Rattle.std.specs.Prelude.{slice_set, slice_index_or}
use Rattle.std.proofs.lemmas.List.{set-append_left, set-append_right, get_or-append-add, get_or_append_left}
use Rattle.cilk_load_nodes.specs.model.Values.{Values}
use Rattle.cilk_load_nodes.specs.model.Change.{with_value}
use Rattle.cilk_load_nodes.specs.Slots.{flat}

-- how many cells come before variable n, where variables have these sizes
abbrev pub before : List ℕ → ℕ → ℕ
before [] n = 0
before (size ∷ sizes) zero = 0
before (size ∷ sizes) (suc n) = size + before sizes n

get-past : (v w : List ℤ) (k : ℕ) (d : ℤ) → slice_index_or (v ++ w) (length v + k) d ≡ slice_index_or w k d
get-past v w k d = get_or-append-add v w k d

get-in : (v w : List ℤ) (k : ℕ) (d : ℤ) → k < length v → slice_index_or (v ++ w) k d ≡ slice_index_or v k d
get-in v w k d h = get_or_append_left v w d k h

set-past : (v w : List ℤ) (k : ℕ) (z : ℤ) → slice_set (v ++ w) (length v + k) z ≡ v ++ slice_set w k z
set-past v w k z =
    let e : length v + k - length v ≡ k = omega arith in
    set-append_right v w (length v) (length v + k) z refl (omega arith) ∙ ap (λ n. v ++ slice_set w n z) e

pub flat-get : (values : Values) (n k : ℕ) (d : ℤ) → k < length (slice_index_or values n [])
    → slice_index_or (flat values) (before (map length values) n + k) d ≡ slice_index_or (slice_index_or values n []) k d
flat-get [] n k d h = absurd (omega arith)
flat-get (v ∷ values) zero k d h = let e : 0 + k ≡ k = omega arith in ap (λ n. slice_index_or (v ++ flat values) n d) e ∙ get-in v (flat values) k d h
flat-get (v ∷ values) (suc n) k d h =
    let e : length v + before (map length values) n + k ≡ length v + (before (map length values) n + k) = omega arith in
    ap (λ j. slice_index_or (v ++ flat values) j d) e ∙ get-past v (flat values) (before (map length values) n + k) d ∙ flat-get values n k d h

pub flat-set : (values : Values) (n k : ℕ) (z : ℤ) → k < length (slice_index_or values n [])
    → slice_set (flat values) (before (map length values) n + k) z ≡ flat (with_value n k z values)
flat-set [] n k z h = absurd (omega arith)
flat-set (v ∷ values) zero k z h = let e : 0 + k ≡ k = omega arith in ap (λ n. slice_set (v ++ flat values) n z) e ∙ set-append_left v (flat values) k z h
flat-set (v ∷ values) (suc n) k z h =
    let e : length v + before (map length values) n + k ≡ length v + (before (map length values) n + k) = omega arith in
    ap (λ j. slice_set (v ++ flat values) j z) e ∙ set-past v (flat values) (before (map length values) n + k) z ∙ ap (λ w. v ++ w) (flat-set values n k z h)
