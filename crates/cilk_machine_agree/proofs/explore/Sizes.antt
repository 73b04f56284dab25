-- Where one instance stands at each path, as many live as there are such paths.
use Rattle.std.proofs.Common.{◌≡◌, ℕ, ◌+◌, ◌<◌, ◌≤◌, Bool, true, false, not, ◌||◌, cond, [], ◌∷◌, length, refl, sym, ◌∙◌, arith}
use Rattle.std.proofs.lemmas.Bool.{and_from, not_from_false}
use Rattle.std.proofs.lemmas.List.Sums.{length-filter, count_by-le-length}
use Rattle.cilk_machine_agree.specs.model.Path.{Path, same_path}
use Rattle.cilk_machine_agree.specs.model.State.{Entry, Instances, PathsAreApart, is_live, without}
use Rattle.cilk_machine_agree.proofs.runs_laws.Entries.{same-sym, times, times-cons, live-cons, live-without}
use Rattle.cilk_machine_agree.proofs.runs_laws.Parked.{in_front, behind}

abbrev AtMostOnce : Instances → Type 0
AtMostOnce entries = (q : Path) → times q entries ≤ 1

once_by : (n : ℕ) (b : Bool) → n ≡ cond b 1 0 → n ≤ 1
once_by n true e = omega (arith, e)
once_by n false e = omega (arith, e)

once : (entries : Instances) → PathsAreApart entries → AtMostOnce entries
once entries apart q = once_by (times q entries) (is_live entries q) (apart q)

counted_by : (e : Entry) (entries : Instances) (q : Path) (b : Bool) → (b || is_live entries q) ≡ true → (is_live entries q ≡ true → 1 ≤ times q entries)
    → 1 ≤ cond b 1 0 + times q entries
counted_by e entries q true live rest = omega arith
counted_by e entries q false live rest = let n = rest live in omega arith

-- what lives is counted
counted : (q : Path) (entries : Instances) → is_live entries q ≡ true → 1 ≤ times q entries
counted q [] live = cc
counted q (e ∷ entries) live =
    let n = counted_by e entries q (same_path e.path q) (sym (live-cons e entries q) ∙ live) (counted q entries) in
    omega (arith, n, times-cons e entries q)

no_more_left : (p : Path) (entries : Instances) → length (without p entries) ≤ length entries
no_more_left p entries =
    let test : Entry → Bool = λ e. not (same_path e.path p) in omega (arith, length-filter test entries, count_by-le-length test entries)

fewer_by : (p : Path) (e : Entry) (entries : Instances) (b : Bool) → (b || is_live entries p) ≡ true
    → (is_live entries p ≡ true → length (without p entries) < length entries)
    → length (cond (not b) (e ∷ without p entries) (without p entries)) < length (e ∷ entries)
fewer_by p e entries true live rest = omega (arith, no_more_left p entries)
fewer_by p e entries false live rest = let less = rest live in omega arith

-- without one that lives there are fewer
fewer : (p : Path) (entries : Instances) → is_live entries p ≡ true → length (without p entries) < length entries
fewer p [] live = cc
fewer p (e ∷ entries) live =
    fewer_by p e entries (same_path e.path p) (sym (live-cons e entries p) ∙ live) (fewer p entries)

module _ (e : Entry) (entries : Instances) (at_most : AtMostOnce (e ∷ entries)) where
  fewer_behind : AtMostOnce entries
  fewer_behind q = omega (arith, at_most q, times-cons e entries q)

  -- whoever lives behind e has another path
  other_by : (q : Path) (b : Bool) → same_path e.path q ≡ b → is_live entries q ≡ true → cond b 1 0 + times q entries ≤ 1 → b ≡ false
  other_by q true same live few = absurd (omega (arith, few, counted q entries live))
  other_by q false other live few = refl

  apart_behind : (q : Path) → is_live entries q ≡ true → same_path e.path q ≡ false
  apart_behind q live =
      other_by q (same_path e.path q) refl live (omega (arith, at_most q, times-cons e entries q))

-- where each that lives here lives there, there are no fewer there
no_fewer : (entries others : Instances) → AtMostOnce entries → ((q : Path) → is_live entries q ≡ true → is_live others q ≡ true)
    → length entries ≤ length others
no_fewer [] others at_most over = omega arith
no_fewer (e ∷ entries) others at_most over =
    let less = fewer e.path others (over e.path (in_front e entries)) in
    let rest = no_fewer entries (without e.path others) (fewer_behind e entries at_most)
    (λ q live. live-without e.path others q
    ∙ and_from (not (same_path q e.path)) (is_live others q)
    (not_from_false (same_path q e.path) (same-sym q e.path ∙ apart_behind e entries at_most q live))
    (over q (behind e entries q live))) in
    omega arith

pub as_many : (entries others : Instances) → PathsAreApart entries → PathsAreApart others → ((q : Path) → is_live entries q ≡ is_live others q)
    → length entries ≡ length others
as_many entries others apart beside same =
    omega (
      arith,
      no_fewer entries others (once entries apart) (λ q live. sym (same q) ∙ live),
      no_fewer others entries (once others beside) (λ q live. same q ∙ live),
    )
