-- What stands before the last slash, and the slash.
use Rattle.std.proofs.Common.{◌≡◌, ◌≢◌, ℕ, ◌+◌, ◌-◌, ◌<◌, ◌≤◌, List, [], ◌∷◌, ◌++◌, length, get_or, take, drop, Some, None, true, eqb, ap, ◌∙◌, sym, arith}
use Rattle.std.proofs.Common.{length-drop, not}
use Rattle.std.proofs.lemmas.List.{get_or-drop, take_more}
use Rattle.std.proofs.lemmas.List.Sums.{suffix_len_is}
use Rattle.std.proofs.lemmas.Str.Pattern.{NoCharPasses-char}
use Rattle.std.specs.List.{suffix_len}
use Rattle.std.specs.Str.{NoCharPasses}
use Rattle.std.specs.Str.Pattern.{RFindsChar}
use Rattle.cilk_words.specs.Beside.{is_slash, folder_in}

differs : (b : ℕ) → b ≢ 47 → not (is_slash b) ≡ true
differs b h = grind (arith, h)

others : (bs : List ℕ) (j : ℕ) → NoCharPasses (λ d. eqb d 47) (drop j bs) → (k : ℕ) → j ≤ k → k < length bs → not (is_slash (get_or bs k 0)) ≡ true
others bs j h k low high =
    let back : j + (k - j) ≡ k = omega arith in
    differs (get_or bs k 0)
    (λ e. NoCharPasses-char 47 (drop j bs) (k - j) h (omega arith) (omega (arith, length-drop j bs))
    (get_or-drop j bs (k - j) 0 ∙ ap (λ n. get_or bs n 0) back ∙ e))

suffix_behind : (bs : List ℕ) (i j : ℕ) → RFindsChar 47 bs (Some (i, j)) → j ≤ length bs → suffix_len (λ b. not (is_slash b)) bs ≡ length bs - j
suffix_behind bs i j h inside =
    suffix_len_is (λ b. not (is_slash b)) bs j 0 inside (others bs j h.0)
    (λ _. ap (λ b. not (is_slash b)) (ap (λ n. get_or bs n 0) (omega (arith, h.1.ends)) ∙ h.1.byte (omega arith)))

pub folder_some : (bs front : List ℕ) (i j : ℕ) → RFindsChar 47 bs (Some (i, j)) → front ≡ take i bs → j ≤ length bs → front ++ 47 ∷ [] ≡ folder_in bs
folder_some bs front i j h e inside =
    let next : j ≡ i + 1 = omega (arith, h.1.ends) in
    ap (λ l. l ++ 47 ∷ []) e
    ∙ ap (λ b. take i bs ++ b ∷ []) (sym (h.1.byte (omega arith)))
    ∙ sym (take_more bs i 0 (omega (arith, next, inside)))
    ∙ ap (λ n. take n bs) (omega (arith, suffix_behind bs i j h inside, inside, next))

pub folder_none : (bs : List ℕ) → RFindsChar 47 bs None → [] ≡ folder_in bs
folder_none bs h =
    let all : suffix_len (λ b. not (is_slash b)) bs
    ≡ length bs - 0 = suffix_len_is (λ b. not (is_slash b)) bs 0 0 (omega arith) (others bs 0 h) (λ l. absurd (omega (arith, l)))
    in
    let start : 0 ≡ length bs - suffix_len (λ b. not (is_slash b)) bs = omega (arith, all) in
    ap (λ n. take n bs) start
