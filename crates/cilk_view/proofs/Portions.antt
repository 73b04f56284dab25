-- A text that is written in portions.
use Rattle.std.proofs.Common.{◌≡◌, ℕ, List, [], ◌++◌, Option, sym, ap, ◌∙◌, subst, append_assoc}
use Rattle.std.specs.Io.KnownBytes.{Appends}
use Rattle.std.proofs.KnownBytes.{Appends-trans}
use Rattle.cilk_load.specs.Front.{AppendsFront}
use Rattle.cilk_load.proofs.Fronts.{Wrote, front_before, front_behind}

-- behind an empty portion nothing is left
pub none_left : (old portion rest : List ℕ) → old ≡ portion ++ rest → (portion ≡ [] → old ≡ []) → portion ≡ [] → rest ≡ []
none_left old portion rest told end none = sym (told ∙ ap (λ p. p ++ rest) none) ∙ end none

-- a portion is written, and the next one is there
pub next_taken : (old mid new : Option (List ℕ)) (bytes portion rest next behind : List ℕ) → Wrote old mid bytes (portion ++ rest) → Appends mid new portion
    → rest ≡ next ++ behind → Wrote old new bytes (next ++ behind)
next_taken old mid new bytes portion rest next behind before more told = record {
  front = before.front ++ portion;
  split = before.split ∙ sym (append_assoc before.front portion rest) ∙ ap (λ l. (before.front ++ portion) ++ l) told;
  written = Appends-trans old mid new before.front portion before.written more;
}

-- a portion is written in part
pub portion_begun : (old mid new : Option (List ℕ)) (bytes portion rest : List ℕ) → Wrote old mid bytes (portion ++ rest) → AppendsFront mid new portion
    → AppendsFront old new bytes
portion_begun old mid new bytes portion rest before begun =
    subst (AppendsFront old new) (append_assoc before.front portion rest ∙ sym before.split)
    (front_before old new (before.front ++ portion) rest (front_behind old mid new before.front portion before.written begun))
