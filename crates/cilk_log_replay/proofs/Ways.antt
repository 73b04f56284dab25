-- By which way a player goes, and what is true of its two machines.
use Rattle.std.proofs.Common.{◌≡◌, ◌+◌, ◌-◌, ◌*◌, ◌/◌, ◌%◌, ◌<◌, ℕ, Bool, true, false, length, ap, refl, sym, ◌∙◌, ◌&&◌, arith, if◌then◌else◌}
use Rattle.std.specs.Prelude.{leb, ltb}
use Rattle.std.proofs.lemmas.Bool.{and_parts, leb-true, ltb-true}
use Rattle.std.proofs.lemmas.Nat.{mod_below}
use Rattle.std.proofs.Math.Nat.{mul-div-le, mod-eq-sub-mul-div}
use Rattle.cilk_machine.specs.Situation.{Situation}
use Rattle.cilk_log_replay.specs.Playing.{Playing, Way, home, is_on, is_back, way}
use Rattle.cilk_log_replay.specs.Tape.{Tape}

-- how far the checkpoint before place k is
pub home-before : (k : ℕ) → k ≡ 1000 * (k / 1000) + k % 1000
home-before k =
    let left = mod-eq-sub-mul-div k 1000 in
    let low = mul-div-le k 1000 in
    omega (arith, left, low)

-- places between which no checkpoint lies are as far from it as from each other
pub same-home : (p k : ℕ) → p / 1000 ≡ k / 1000 → p % 1000 + k ≡ k % 1000 + p
same-home p k same =
    let here = home-before p in
    let there = home-before k in
    omega (arith, here, there, same)

few : (k : ℕ) → k % 1000 < 1000
few k = mod_below k 1000 (omega arith)

abbrev way_by : Bool → Bool → ℕ → ℕ → ℕ → Way
way_by on back kept p k =
    if on then record { cost = k - p; kept = kept + (k - p) } else
    if back then record { cost = p - k; kept = kept - (p - k) } else
    record { cost = k % 1000; kept = k % 1000 }

full-by : (on back : Bool) (kept p k : ℕ) → is_on p k ≡ on → is_back kept p k ≡ back → kept ≡ p % 1000 → (way_by on back kept p k).kept ≡ k % 1000
full-by true back kept p k on off full =
    let both = and_parts (leb p k) (leb (home k) p) on in
    let low = leb-true p k both.0 in
    let high = leb-true (home k) p both.1 in
    let here = home-before p in
    let there = home-before k in
    let few-here = few p in
    let few-there = few k in
    omega (arith, low, high, here, there, few-here, few-there, full)
full-by false true kept p k off back full =
    let parts = and_parts (ltb k p) (ltb (p - home k) 1000 && leb (p - k) kept) back in
    let rest = and_parts (ltb (p - home k) 1000) (leb (p - k) kept) parts.1 in
    let low = ltb-true k p parts.0 in
    let near = ltb-true (p - home k) 1000 rest.0 in
    let here = home-before p in
    let there = home-before k in
    let few-here = few p in
    let few-there = few k in
    omega (arith, low, near, here, there, few-here, few-there, full)
full-by false false kept p k off none full = refl

-- by each way there is a record then of each choice since the checkpoint before, if there was
pub full-way : (kept p k : ℕ) → kept ≡ p % 1000 → (way kept p k).kept ≡ k % 1000
full-way kept p k full = full-by (is_on p k) (is_back kept p k) kept p k refl refl full

-- and so of what contracts see
pub full-seen : (t : Tape) (m : Situation) (seen : Playing) → record { tape = t; place = m.choices; kept = length m.past } ≡ seen
    → length m.past ≡ m.choices % 1000 → seen.kept ≡ seen.place % 1000
full-seen t m seen is full = sym (ap (λ (q : Playing). q.kept) is) ∙ full ∙ ap (λ (q : Playing). q.place % 1000) is

-- and of a machine that is the same
pub full-at : (m n : Situation) (k : ℕ) → n ≡ m → m.choices ≡ k → length m.past ≡ k % 1000 → length n.past ≡ n.choices % 1000
full-at m n k is there kept =
    let at : n.choices ≡ k = ap (λ (s : Situation). s.choices) is ∙ there in
    ap (λ (s : Situation). length s.past) is ∙ kept ∙ ap (λ i. i % 1000) (sym at)

-- what contracts see of a player then
pub played : (seen : Playing) (t : Tape) (m n : Situation) (place kept : ℕ) → record { tape = t; place = m.choices; kept = length m.past } ≡ seen
    → n.choices ≡ place → length n.past ≡ kept
    → (let now : Playing = record { tape = t; place = n.choices; kept = length n.past } in now ≡ record seen { place = place; kept = kept })
played seen t m n place kept is there left = λ i. record { tape = (is i).tape; place = there i; kept = left i }
