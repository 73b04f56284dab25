-- The links of each log, as they stand in one list.
use Rattle.std.proofs.Common.{◌≡◌, ◌<◌, ◌≤◌, ◌+◌, ◌-◌, ℕ, zero, suc, List, [], ◌∷◌, ◌++◌, length, take, drop, Some, refl, sym, ap, ◌∙◌, subst, arith}
use Rattle.std.proofs.Common.{Bool, true, false, Result, Ok, OnOk, if◌then◌else◌, slice_get, slice_range, get_or, length-append, length-drop}
use Rattle.std.proofs.Common.{take_all, drop_of_length-le}
use Rattle.std.proofs.lemmas.List.{take-append-le, drop-append-le}
use Rattle.cilk_explore.specs.Links.{past_from, last_end, linkage_of, start_of, AreEnds}

pub past-length : (from : ℕ) (ends numbers : List ℕ) → length (past_from from ends numbers) ≡ length ends
past-length from [] numbers = refl
past-length from (end ∷ ends) numbers = ap suc (past-length end ends numbers)

-- the last end is not behind all that there is, and not before the first start
last-within : (from : ℕ) (ends : List ℕ) (size : ℕ) → AreEnds from ends size → (from ≤ last_end from ends) × (last_end from ends ≤ size)
last-within from [] size are = (omega arith, are)
last-within from (end ∷ ends) size are =
    let more = last-within end ends size are.1 in
    let low = are.0 in
    let first = more.0 in
    (omega (arith, low, first), more.1)

-- more numbers change no end
ends-more : (from : ℕ) (ends : List ℕ) (size more : ℕ) → AreEnds from ends size → size ≤ more → AreEnds from ends more
ends-more from [] size more are le = omega (arith, are, le)
ends-more from (end ∷ ends) size more are le = (are.0, ends-more end ends size more are.1 le)

-- one end more: all that there is
ends-push : (from : ℕ) (ends : List ℕ) (size : ℕ) → AreEnds from ends size → AreEnds from (ends ++ size ∷ []) size
ends-push from [] size are = (are, omega arith)
ends-push from (end ∷ ends) size are = (are.0, ends-push end ends size are.1)

last-push : (from : ℕ) (ends : List ℕ) (end : ℕ) → last_end from (ends ++ end ∷ []) ≡ end
last-push from [] end = refl
last-push from (x ∷ ends) end = last-push x ends end

range-push : (i j : ℕ) (xs : List ℕ) (x : ℕ) → i ≤ j → j ≤ length xs → slice_range (xs ++ x ∷ []) i j ≡ slice_range xs i j
range-push i j xs x le within =
    let size = length-drop i xs in
    ap (take (j - i)) (drop-append-le i xs (x ∷ []) (omega arith)) ∙ take-append-le (j - i) (drop i xs) (x ∷ []) (omega arith)

-- a number more is one of the log that is looked at
past-push : (from : ℕ) (ends numbers : List ℕ) (x : ℕ) → AreEnds from ends (length numbers)
    → past_from from ends (numbers ++ x ∷ []) ≡ past_from from ends numbers
past-push from [] numbers x are = refl
past-push from (end ∷ ends) numbers x are =
    let inside = last-within end ends (length numbers) are.1 in
    let low = inside.0 in
    let high = inside.1 in
    ap (λ (xs : List ℕ). xs ∷ past_from end ends (numbers ++ x ∷ [])) (range-push from end numbers x are.0 (omega arith))
    ∙ ap (λ (rest : List (List ℕ)). slice_range numbers from end ∷ rest) (past-push end ends numbers x are.1)

here-push : (from : ℕ) (ends numbers : List ℕ) (x : ℕ) → AreEnds from ends (length numbers)
    → drop (last_end from ends) (numbers ++ x ∷ []) ≡ drop (last_end from ends) numbers ++ x ∷ []
here-push from ends numbers x are =
    let inside = last-within from ends (length numbers) are in
    drop-append-le (last_end from ends) numbers (x ∷ []) inside.1

-- that log is one of those before, where an end is put down
past-close : (from : ℕ) (ends numbers : List ℕ)
    → past_from from (ends ++ length numbers ∷ []) numbers ≡ past_from from ends numbers ++ drop (last_end from ends) numbers ∷ []
past-close from [] numbers =
    let size = length-drop from numbers in
    ap (λ (xs : List ℕ). xs ∷ []) (take_all (length numbers - from) (drop from numbers) (omega arith))
past-close from (end ∷ ends) numbers = ap (λ (rest : List (List ℕ)). slice_range numbers from end ∷ rest) (past-close end ends numbers)

pub past-get : (from : ℕ) (ends numbers : List ℕ) (k end : ℕ) → slice_get ends k ≡ Some end
    → slice_get (past_from from ends numbers) k ≡ Some (slice_range numbers (start_of from ends k) end)
past-get from [] numbers k end h = cc
past-get from (x ∷ ends) numbers zero end h =
    let same : x ≡ end = cc in ap (λ (j : ℕ). Some (slice_range numbers from j)) same
past-get from (x ∷ ends) numbers (suc k) end h = past-get x ends numbers k end h

pub ends-get : (from : ℕ) (ends : List ℕ) (size k end : ℕ) → AreEnds from ends size → slice_get ends k ≡ Some end
    → (start_of from ends k ≤ end) × (end ≤ size)
ends-get from [] size k end are h = cc
ends-get from (x ∷ ends) size zero end are h =
    let same : x ≡ end = cc in
    let low = are.0 in
    let inside = last-within x ends size are.1 in
    let first = inside.0 in
    let last = inside.1 in
    (omega arith, omega arith)
ends-get from (x ∷ ends) size (suc k) end are h = ends-get x ends size k end are.1 h

-- the first begins at the front, and each other where the one before it ends
pub start-first : (ends : List ℕ) → start_of 0 ends 0 ≡ 0
start-first [] = refl
start-first (x ∷ ends) = refl

behind-read : (from : ℕ) (ends : List ℕ) (k : ℕ) → k < length ends → get_or ends k 0 ≡ start_of from ends (suc k)
behind-read from [] k lt = absurd (omega (arith, lt))
behind-read from (x ∷ []) zero lt = refl
behind-read from (x ∷ y ∷ ends) zero lt = refl
behind-read from (x ∷ ends) (suc k) lt = behind-read x ends k (omega (arith, lt))

pub start-read : (ends : List ℕ) (k : ℕ) → 0 < k → k ≤ length ends → get_or ends (k - 1) 0 ≡ start_of 0 ends k
start-read ends k some le =
    let next : suc (k - 1) ≡ k = omega arith in
    behind-read 0 ends (k - 1) (omega arith) ∙ ap (start_of 0 ends) next

-- what an answer says that is there
pub on-made : {A E P : Type 0} (r : Result A E) (x : A) → r ≡ Ok x → P → OnOk r P
on-made {P = P} r x is h = subst (λ s. OnOk s P) (sym is) h

-- what is pushed, where that may fail
pub ends-if : (b : Bool) (ends numbers now : List ℕ) (x : ℕ) → now ≡ (if b then numbers ++ x ∷ [] else numbers) → AreEnds 0 ends (length numbers)
    → AreEnds 0 ends (length now)
ends-if true ends numbers now x is are =
    let size : length now ≡ length numbers + 1 = ap length is ∙ length-append numbers (x ∷ []) in
    ends-more 0 ends (length numbers) (length now) are (omega arith)
ends-if false ends numbers now x is are = subst (λ (xs : List ℕ). AreEnds 0 ends (length xs)) (sym is) are

pub ends-closed : (b : Bool) (ends numbers now : List ℕ) (end : ℕ) → end ≡ length numbers → now ≡ (if b then ends ++ end ∷ [] else ends)
    → AreEnds 0 ends (length numbers) → AreEnds 0 now (length numbers)
ends-closed true ends numbers now end all is are =
    subst (λ (xs : List ℕ). AreEnds 0 xs (length numbers)) (ap (λ (j : ℕ). ends ++ j ∷ []) (sym all) ∙ sym is) (ends-push 0 ends (length numbers) are)
ends-closed false ends numbers now end all is are = subst (λ (xs : List ℕ). AreEnds 0 xs (length numbers)) (sym is) are

pub view-push : (ends numbers now : List ℕ) (x : ℕ) → now ≡ numbers ++ x ∷ [] → AreEnds 0 ends (length numbers)
    → linkage_of ends now ≡ record (linkage_of ends numbers) { here = (linkage_of ends numbers).here ++ x ∷ [] }
view-push ends numbers now x is are =
    let before : past_from 0 ends now ≡ past_from 0 ends numbers = ap (past_from 0 ends) is ∙ past-push 0 ends numbers x are in
    let last : drop (last_end 0 ends) now ≡ drop (last_end 0 ends) numbers ++ x ∷ [] = ap (drop (last_end 0 ends)) is ∙ here-push 0 ends numbers x are in
    λ i. record { past = before i; here = last i }

pub view-close : (ends numbers now : List ℕ) (end : ℕ) → end ≡ length numbers → now ≡ ends ++ end ∷ []
    → linkage_of now numbers ≡ record { past = (linkage_of ends numbers).past ++ (linkage_of ends numbers).here ∷ []; here = [] }
view-close ends numbers now end all is =
    let whole : now ≡ ends ++ length numbers ∷ [] = is ∙ ap (λ (j : ℕ). ends ++ j ∷ []) all in
    let before : past_from 0 now numbers ≡ past_from 0 ends numbers ++ drop (last_end 0 ends) numbers ∷ [] =
    ap (λ (xs : List ℕ). past_from 0 xs numbers) whole ∙ past-close 0 ends numbers in
    let last : drop (last_end 0 now) numbers ≡ [] =
    ap (λ (xs : List ℕ). drop (last_end 0 xs) numbers) whole ∙ ap (λ (j : ℕ). drop j numbers) (last-push 0 ends (length numbers))
    ∙ drop_of_length-le numbers {i = length numbers} (omega arith) in
    λ i. record { past = before i; here = last i }
