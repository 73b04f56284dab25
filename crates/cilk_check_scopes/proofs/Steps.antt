-- One more element of a walk along a list.
use Rattle.std.proofs.Common.{◌≡◌, ℕ, suc, ◌+◌, ◌<◌, List, ◌∷◌, length, get_or, drop, Option, sym, ap, ◌∙◌, add-one}
use Rattle.std.specs.List.{flat_map}
use Rattle.std.proofs.Math.Seq.{drop-cons}
use Rattle.cilk_check_scopes.specs.declared.fault.CheckFault.{CheckFault}
use Rattle.cilk_check_scopes.specs.First.{first_among}
use Rattle.cilk_check_scopes.proofs.Firsts.{first_among-append}

pub drop_at : {X : Type 0} (xs : List X) (i : ℕ) (x : X) → i < length xs → x ≡ get_or xs i x → drop i xs ≡ x ∷ drop (i + 1) xs
drop_at xs i x h e = rw add-one (drop-cons xs i x h ∙ ap (λ y. y ∷ drop (suc i) xs) (sym e))

-- the first among the faults of the rest of a list, one element on
pub flat_map_more : {X : Type 0} (faults : X → List CheckFault) (found : Option CheckFault) (xs : List X) (i : ℕ) (x : X) → i < length xs → x ≡ get_or xs i x
    → first_among found (flat_map faults (drop i xs)) ≡ first_among (first_among found (faults x)) (flat_map faults (drop (i + 1) xs))
flat_map_more faults found xs i x h e =
    ap (λ ys. first_among found (flat_map faults ys)) (drop_at xs i x h e) ∙ first_among-append found (faults x) (flat_map faults (drop (i + 1) xs))
