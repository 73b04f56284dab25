-- Fates and births as one event more is told.
use Rattle.std.proofs.Common.{◌≡◌, ℕ, suc, ◌+◌, Bool, true, false, ◌||◌, if◌then◌else◌, List, [], ◌∷◌, ◌++◌, length, Some, None, refl, ap, ◌∙◌, arith}
use Rattle.std.specs.List.{list_any}
use Rattle.std.proofs.lemmas.List.Folds.{list_any-append}
use Rattle.std.proofs.Math.Bool.{or-false}
use Rattle.cilk_model.specs.Path.{Path, same_path}
use Rattle.cilk_model.specs.State.{TrapKind}
use Rattle.cilk_model.specs.Event.{Event, acted, trapped, moved}
use Rattle.cilk_model.specs.Fate.{Fate, lives, fate_by, fate_from, is_birth, was_made, fate_of}

-- the fate of a path that was made
abbrev pub told : List Event → Path → Fate
told events p = fate_from 1 p events lives

from-push : (k : ℕ) (p : Path) (events : List Event) (e : Event) (fate : Fate)
    → fate_from k p (events ++ e ∷ []) fate ≡ fate_by (k + length events) p e (fate_from k p events fate)
from-push k p [] e fate = let same : k ≡ k + 0 = omega arith in ap (λ n. fate_by n p e fate) same
from-push k p (x ∷ events) e fate =
    let same : suc k + length events ≡ k + length (x ∷ events) = omega arith in
    from-push (suc k) p events e (fate_by k p x fate) ∙ ap (λ n. fate_by n p e (fate_from k p (x ∷ events) fate)) same

pub told-push : (p : Path) (events : List Event) (e : Event) → told (events ++ e ∷ []) p ≡ fate_by (suc (length events)) p e (told events p)
told-push p events e =
    let same : 1 + length events ≡ suc (length events) = omega arith in
    from-push 1 p events e lives ∙ ap (λ n. fate_by n p e (told events p)) same

or_last : (a b c : Bool) → (a || (b || (c || false))) ≡ ((a || b) || c)
or_last true b c = refl
or_last false true c = refl
or_last false false true = refl
or_last false false false = refl

pub made-push : (p : Path) (events : List Event) (e : Event) → was_made (events ++ e ∷ []) p ≡ (was_made events p || is_birth p e)
made-push p events e =
    ap (λ b. same_path p [] || b) (list_any-append (is_birth p) events (e ∷ [])) ∙ or_last (same_path p []) (list_any (is_birth p) events) (is_birth p e)

-- an event that is of no fate and no birth
pub record IsPlain (e : Event) : Type 0 where
  pub fate : (k : ℕ) (p : Path) (fate : Fate) → fate_by k p e fate ≡ fate
  pub birth : (p : Path) → is_birth p e ≡ false

pub acted_plain : (p : Path) (n : ℕ) → IsPlain (acted p n)
acted_plain p n = record { fate = λ k q fate. refl; birth = λ q. refl }

pub trapped_plain : (kind : TrapKind) (p : Path) (n : ℕ) → IsPlain (trapped kind p n)
trapped_plain kind p n = record { fate = λ k q fate. refl; birth = λ q. refl }

pub moved_plain : IsPlain moved
moved_plain = record { fate = λ k q fate. refl; birth = λ q. refl }

pub told-plain : (events : List Event) (e : Event) → IsPlain e → (p : Path) → told (events ++ e ∷ []) p ≡ told events p
told-plain events e plain p = told-push p events e ∙ plain.fate (suc (length events)) p (told events p)

pub made-unborn : (events : List Event) (e : Event) (p : Path) → is_birth p e ≡ false → was_made (events ++ e ∷ []) p ≡ was_made events p
made-unborn events e p none = made-push p events e ∙ ap (λ b. was_made events p || b) none ∙ or-false (was_made events p)

pub fate-made : (events : List Event) (p : Path) → was_made events p ≡ true → fate_of events p ≡ Some (told events p)
fate-made events p made = by (was_made events p) made
  where
    by : (b : Bool) → b ≡ true → (if b then Some (told events p) else None) ≡ Some (told events p)
    by true e = refl
    by false e = cc

-- what is known of a path that has a fate
pub record HasFate (events : List Event) (p : Path) (fate : Fate) : Type 0 where
  pub made : was_made events p ≡ true
  pub is : told events p ≡ fate

pub has_fate : (events : List Event) (p : Path) (fate : Fate) → fate_of events p ≡ Some fate → HasFate events p fate
has_fate events p fate h = by (was_made events p) refl h
  where
    by : (b : Bool) → was_made events p ≡ b → (if b then Some (told events p) else None) ≡ Some fate → HasFate events p fate
    by true e h = record { made = e; is = cc }
    by false e h = cc
