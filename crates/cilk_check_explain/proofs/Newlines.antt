-- What stands behind the last newline.
use Rattle.std.proofs.Common.{◌≡◌, ◌≢◌, ℕ, ◌+◌, ◌-◌, ◌<◌, ◌≤◌, List, length, get_or, drop, Some, None, true, eqb, ap, ◌∙◌, arith, length-drop, not}
use Rattle.std.proofs.lemmas.List.{get_or-drop}
use Rattle.std.proofs.lemmas.List.Sums.{suffix_len_is}
use Rattle.std.proofs.lemmas.Str.Pattern.{NoCharPasses-char}
use Rattle.std.specs.List.{after_last, suffix_len}
use Rattle.std.specs.Str.{NoCharPasses}
use Rattle.std.specs.Str.Pattern.{RFindsChar}
use Rattle.cilk_check_scopes.specs.lexeme.LineColumn.{is_newline}

differs : (b : ℕ) → b ≢ 10 → not (is_newline b) ≡ true
differs b h = grind (arith, h)

behind_others : (bs : List ℕ) (j : ℕ) → NoCharPasses (λ d. eqb d 10) (drop j bs) → (k : ℕ) → j ≤ k → k < length bs → not (is_newline (get_or bs k 0)) ≡ true
behind_others bs j h k low high =
    let back : j + (k - j) ≡ k = omega arith in
    differs (get_or bs k 0)
    (λ e. NoCharPasses-char 10 (drop j bs) (k - j) h (omega arith) (omega (arith, length-drop j bs))
    (get_or-drop j bs (k - j) 0 ∙ ap (λ n. get_or bs n 0) back ∙ e))

suffix_behind : (bs : List ℕ) (i j : ℕ) → RFindsChar 10 bs (Some (i, j)) → j ≤ length bs → suffix_len (λ x. not (is_newline x)) bs ≡ length bs - j
suffix_behind bs i j h inside =
    suffix_len_is (λ x. not (is_newline x)) bs j 0 inside (behind_others bs j h.0)
    (λ _. ap (λ b. not (is_newline b)) (ap (λ n. get_or bs n 0) (omega (arith, h.1.ends)) ∙ h.1.byte (omega arith)))

pub behind_last : (bs back : List ℕ) (i j : ℕ) → RFindsChar 10 bs (Some (i, j)) → back ≡ drop j bs → length back + j ≡ length bs
    → back ≡ after_last is_newline bs
behind_last bs back i j h e inside =
    e ∙ ap (λ n. drop n bs) (omega (arith, suffix_behind bs i j h (omega (arith, inside)), inside))

pub behind_none : (bs : List ℕ) → RFindsChar 10 bs None → bs ≡ after_last is_newline bs
behind_none bs h =
    let all : suffix_len (λ x. not (is_newline x)) bs
    ≡ length bs - 0 = suffix_len_is (λ x. not (is_newline x)) bs 0 0 (omega arith) (behind_others bs 0 h) (λ l. absurd (omega (arith, l)))
    in
    let start : 0 ≡ length bs - suffix_len (λ x. not (is_newline x)) bs = omega (arith, all) in
    ap (λ n. drop n bs) start
