-- A deque and its bottom, whatever stands in it.
use Rattle.std.proofs.Common.{◌≡◌, ◌<◌, ◌↔◌, ◌++◌, ◌∷◌, [], List, length, Option, Some, None, IsSome, option_to_list, append-nil, refl, ap, sym, ◌∙◌, arith}
use Rattle.cilk_load_nodes.specs.model.Hands.{bottom_of, above_bottom}

pub bottom_of-push : {A : Type 0} (deque : List A) (f : A) → bottom_of (deque ++ f ∷ []) ≡ Some f
bottom_of-push [] f = refl
bottom_of-push (g ∷ []) f = refl
bottom_of-push (g ∷ h ∷ deque) f = bottom_of-push (h ∷ deque) f

pub above_bottom-push : {A : Type 0} (deque : List A) (f : A) → above_bottom (deque ++ f ∷ []) ≡ deque
above_bottom-push [] f = refl
above_bottom-push (g ∷ []) f = refl
above_bottom-push (g ∷ h ∷ deque) f = ap (λ fs. g ∷ fs) (above_bottom-push (h ∷ deque) f)

-- what left a deque at its bottom, and what it left there
pub record Popped {A : Type 0} (left : Option A) (deque rest : List A) : Type 0 where
  pub bottom : left ≡ bottom_of deque
  pub above : rest ≡ above_bottom deque

pub popped : {A : Type 0} (left : Option A) (deque rest : List A) → deque ≡ rest ++ option_to_list left → (IsSome left ↔ (0 < length deque))
    → Popped left deque rest
popped (Some f) deque rest e some = record {
  bottom = sym (ap bottom_of e ∙ bottom_of-push rest f);
  above = sym (ap above_bottom e ∙ above_bottom-push rest f);
}
popped None [] rest e some = record { bottom = refl; above = sym (append-nil rest) ∙ sym e }
popped {A} None (f ∷ deque) rest e some = let there : IsSome {T = A} None = some.1 (omega arith) in cc
