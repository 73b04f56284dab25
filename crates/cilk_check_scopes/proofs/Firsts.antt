-- The first among faults that are listed one after another, or in another order.
use Rattle.std.proofs.Common.{◌≡◌, List, [], ◌∷◌, ◌++◌, Option, Some, refl, ap, ◌∙◌}
use Rattle.std.specs.List.{flat_map}
use Rattle.std.proofs.lemmas.List.Concat.{flat_map-append}
use Rattle.cilk_check_scopes.specs.declared.fault.CheckFault.{CheckFault}
use Rattle.cilk_check_scopes.specs.First.{first_of, first_among}

pub first_among-append : (found : Option CheckFault) (fs gs : List CheckFault) → first_among found (fs ++ gs) ≡ first_among (first_among found fs) gs
first_among-append found [] gs = refl
first_among-append found (f ∷ fs) gs = first_among-append (Some (first_of found f)) fs gs

-- the first among the faults of some and of others
pub first_among-flat_map : {X : Type 0} (faults : X → List CheckFault) (found : Option CheckFault) (xs ys : List X)
    → first_among found (flat_map faults (xs ++ ys)) ≡ first_among (first_among found (flat_map faults xs)) (flat_map faults ys)
first_among-flat_map faults found xs ys =
    ap (first_among found) (flat_map-append faults xs ys) ∙ first_among-append found (flat_map faults xs) (flat_map faults ys)
