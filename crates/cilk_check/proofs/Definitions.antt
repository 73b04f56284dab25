-- Where two signatures are the same, and what one more leaves in a set of them.
use Rattle.std.proofs.Common.{◌≡◌, ◌<◌, ◌+◌, ℕ, Bool, true, false, cond, ◌&&◌, ◌||◌, ◌==◌, List, length, get_or, drop, refl, sym, ap, ◌∙◌, arith}
use Rattle.std.specs.List.{list_any}
use Rattle.std.specs.Str.{bytes_eq}
use Rattle.std.specs.declared.cmp.Ordering.{Ordering}
use Rattle.std.specs.declared.cmp.Ordering.TheVariants.{Less, Equal, Greater}
use Rattle.std.specs.Ordering.{is_eq, ordering_then, nat_cmp, bool_cmp}
use Rattle.std.proofs.lemmas.Bool.Decides.{nat_tests}
use Rattle.std.proofs.lemmas.Map.Text.{is_eq-slice_cmp}
use Rattle.std.specs.Cmp.Lexicographic.{slice_cmp}
use Rattle.std.proofs.Math.Bool.{or_assoc}
use Rattle.cilk_check_scopes.proofs.Steps.{drop_at}
use Rattle.cilk_check.specs.declared.signature.Signature.{Signature}
use Rattle.cilk_check.specs.NameFinds.{same_bool}
use Rattle.cilk_check.specs.Signatures.{signature_cmp}

is_eq-then : (a b : Ordering) → is_eq (ordering_then a b) ≡ (is_eq a && is_eq b)
is_eq-then Less b = refl
is_eq-then Equal b = refl
is_eq-then Greater b = refl

is_eq-bool_cmp : (a b : Bool) → is_eq (bool_cmp a b) ≡ same_bool a b
is_eq-bool_cmp false false = refl
is_eq-bool_cmp false true = refl
is_eq-bool_cmp true false = refl
is_eq-bool_cmp true true = refl

is_eq-nat_cmp : (a b : ℕ) → is_eq (nat_cmp a b) ≡ (a == b)
is_eq-nat_cmp a b = grind (arith, nat_tests)

-- signatures are at one place of the order exactly where their fields agree
pub same_signature : (s t : Signature)
    → is_eq (signature_cmp s t)
    ≡ (bytes_eq s.name.now t.name.now && (same_bool s.is_cilk t.is_cilk && (same_bool s.is_void t.is_void && s.count == t.count)))
same_signature s t =
    is_eq-then (slice_cmp nat_cmp s.name.now t.name.now) _
    ∙
    (λ i. is_eq-slice_cmp s.name.now t.name.now i && is_eq-then (bool_cmp s.is_cilk t.is_cilk)
    (ordering_then (bool_cmp s.is_void t.is_void) (nat_cmp s.count t.count)) i)
    ∙ (λ i. bytes_eq s.name.now t.name.now && (is_eq-bool_cmp s.is_cilk t.is_cilk i && is_eq-then (bool_cmp s.is_void t.is_void) (nat_cmp s.count t.count) i))
    ∙ (λ i. bytes_eq s.name.now t.name.now && (same_bool s.is_cilk t.is_cilk && (is_eq-bool_cmp s.is_void t.is_void i && is_eq-nat_cmp s.count t.count i)))

pub added : (b c : Bool) → cond b true c ≡ (c || b)
added true true = refl
added true false = refl
added false true = refl
added false false = refl

-- one element more of a list is looked at
pub one_more : {X : Type 0} (test : X → Bool) (xs : List X) (i : ℕ) (x : X) (had has : Bool) → i < length xs → x ≡ get_or xs i x → has ≡ (had || test x)
    → (has || list_any test (drop (i + 1) xs)) ≡ (had || list_any test (drop i xs))
one_more test xs i x had has within x_is gains =
    ap (λ b. b || list_any test (drop (i + 1) xs)) gains ∙ or_assoc had (test x) _ ∙ ap (λ ys. had || list_any test ys) (sym (drop_at xs i x within x_is))
