-- Steps that did not fail, and which way a test went.
use Rattle.std.proofs.Common.{◌≡◌, Bool, true, false, if◌then◌else◌, Result, Ok, Err, refl, ap, ◌∙◌, ◌⊎◌, inl, inr}
use Rattle.cilk_parse_grammar.specs.declared.fault.Fault.{Fault}
use Rattle.cilk_parse_grammar.specs.Rule.{◌>>=◌}

-- the value of a step that did not fail
pub bind_ok : {A B : Type 0} (r : Result A Fault) (f : A → Result B Fault) (y : B) → (r >>= f) ≡ Ok y → (x : A) × (r ≡ Ok x) × (f x ≡ Ok y)
bind_ok (Ok x) f y e = (x, refl, e)
bind_ok (Err d) f y e = absurd cc

abbrev as_ok : {A : Type 0} → A → Result A Fault
as_ok x = Ok x

pub ok_is : {A : Type 0} (x y : A) → as_ok x ≡ as_ok y → x ≡ y
ok_is x y e = cc

-- which way a test went
pub chosen : {A : Type 0} (b : Bool) (x y z : A) → (if b then x else y) ≡ z → ((b ≡ true) × (x ≡ z)) ⊎ ((b ≡ false) × (y ≡ z))
chosen true x y z e = inl (refl, e)
chosen false x y z e = inr (refl, e)

pub bind_same : {A B : Type 0} (r r' : Result A Fault) (k k' : A → Result B Fault) → r ≡ r' → ((x : A) → r ≡ Ok x → k x ≡ k' x) → (r >>= k) ≡ (r' >>= k')
bind_same (Ok x) r' k k' e h = h x refl ∙ ap (λ q. q >>= k') e
bind_same (Err f) r' k k' e h = ap (λ q. q >>= k') e
