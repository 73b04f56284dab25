-- A format that is read byte by byte.
use Rattle.std.proofs.Common.{◌≡◌, ◌≢◌, ℕ, suc, ◌+◌, ◌<◌, ◌≤◌, Bool, true, false, cond, List, [], ◌∷◌, length, get_or, drop, Option, Some, None}
use Rattle.std.proofs.Common.{nat_eq, refl, sym, ap, ◌∙◌, arith}
use Rattle.std.specs.Option.{option_map}
use Rattle.std.proofs.Math.ListN.{drop_of_length-le}
use Rattle.std.proofs.Math.Seq.{drop-cons}
use Rattle.std.proofs.lemmas.Bool.Decides.{nat_tests}
use Rattle.cilk_check_scopes.proofs.Steps.{drop_at}
use Rattle.cilk_check_scopes.specs.Format.{numbers_in}

-- how many there are, with n before, where a `%` may stand before
abbrev pub counted : ℕ → Bool → List ℕ → Option ℕ
counted n false [] = Some n
counted n true [] = None
counted n false (b ∷ bs) = counted n (nat_eq b 37) bs
counted n true (b ∷ bs) = cond (nat_eq b 100) (counted (n + 1) false bs) (cond (nat_eq b 37) (counted n false bs) None)

more_than : ℕ → Option ℕ → Option ℕ
more_than n o = option_map (λ k. n + k) o

one_more : (n : ℕ) (o : Option ℕ) → more_than (n + 1) o ≡ more_than n (option_map suc o)
unfolding more_than
one_more n None = refl
one_more n (Some k) = ap Some (omega arith)

last : (n : ℕ) (is_open : Bool) → counted n is_open [] ≡ more_than n (cond is_open None (Some 0))
unfolding more_than
last n true = refl
last n false = ap Some (omega arith)

next : (n : ℕ) (is_open d p : Bool) (c : ℕ) (bs : List ℕ) → counted (n + 1) false bs ≡ more_than (n + 1) (numbers_in bs)
    → counted n false bs ≡ more_than n (numbers_in bs) → counted n false (c ∷ bs) ≡ more_than n (numbers_in (c ∷ bs))
    → nat_eq c 100 ≡ d → nat_eq c 37 ≡ p
    → counted n is_open (c ∷ bs)
    ≡ more_than n (cond is_open (cond d (option_map suc (numbers_in bs)) (cond p (numbers_in bs) None)) (numbers_in (c ∷ bs)))
unfolding more_than
next n false d p c bs hd hp h ed ep = h
next n true true p c bs hd hp h ed ep = rw ed (hd ∙ one_more n (numbers_in bs))
next n true false true c bs hd hp h ed ep = rw (ed, ep) hp
next n true false false c bs hd hp h ed ep = rw (ed, ep) refl

counted_is : (n : ℕ) (bs : List ℕ) → counted n false bs ≡ more_than n (numbers_in bs)
unfolding more_than
counted_is n [] = ap Some (omega arith)
counted_is n (b ∷ []) = last n (nat_eq b 37)
counted_is n (b ∷ c ∷ bs) =
    next n (nat_eq b 37) (nat_eq c 100) (nat_eq c 37) c bs (counted_is (n + 1) bs) (counted_is n bs) (counted_is n (c ∷ bs)) refl refl

none_before : (o : Option ℕ) → more_than 0 o ≡ o
unfolding more_than
none_before None = refl
none_before (Some k) = ap Some (omega arith)

pub counted_all : (bs : List ℕ) → counted 0 false bs ≡ numbers_in bs
counted_all bs = counted_is 0 bs ∙ none_before (numbers_in bs)

-- one byte further
pub counted_more : (n : ℕ) (is_open : Bool) (bs : List ℕ) (i b : ℕ) → i < length bs → b ≡ get_or bs i b
    → counted n is_open (drop i bs) ≡ counted n is_open (b ∷ drop (i + 1) bs)
counted_more n is_open bs i b h e = ap (counted n is_open) (drop_at bs i b h e)

-- at the end
pub counted_end : (n : ℕ) (is_open : Bool) (bs : List ℕ) (i : ℕ) → length bs ≤ i → counted n is_open (drop i bs) ≡ counted 0 false bs
    → counted n is_open [] ≡ numbers_in bs
counted_end n is_open bs i h e = rw (drop_of_length-le bs h) at e ∙ counted_all bs

-- at another conversion
pub counted_other : (n : ℕ) (is_open : Bool) (bs : List ℕ) (i : ℕ) → i < length bs → is_open ≡ true → get_or bs i 0 ≢ 100
    → get_or bs i 0 ≢ 37 → counted n is_open (drop i bs) ≡ counted 0 false bs → None ≡ numbers_in bs
counted_other n is_open bs i h o d p e =
    let not_d : nat_eq (get_or bs i 0) 100 ≡ false = grind (arith, nat_tests, d) in
    let not_p : nat_eq (get_or bs i 0) 37 ≡ false = grind (arith, nat_tests, p) in
    let there : counted n true (get_or bs i 0 ∷ drop (suc i) bs) ≡ None = rw (not_d, not_p) refl in
    let here : counted n is_open (drop i bs) ≡ counted n true (get_or bs i 0 ∷ drop (suc i) bs) =
    ap (counted n is_open) (drop-cons bs i 0 h) ∙ ap (λ x. counted n x (get_or bs i 0 ∷ drop (suc i) bs)) o
    in
    sym there ∙ sym here ∙ e ∙ counted_all bs

pub ruleset formats = (counted_all, counted_more)
