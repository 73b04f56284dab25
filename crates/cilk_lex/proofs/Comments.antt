-- A comment goes to the first end of one.
use Rattle.std.proofs.Common.{◌≡◌, ℕ, suc, ◌+◌, ◌<◌, ◌≤◌, Bool, true, false, cond, ◌&&◌, List, [], ◌∷◌, ◌++◌, length, drop, codes, Option, Some, None}
use Rattle.std.proofs.Common.{refl, sym, ap, ◌∙◌, arith, length-append, append_assoc}
use Rattle.std.proofs.lemmas.Option.{same_Some}
use Rattle.std.specs.Prelude.{◌==◌}
use Rattle.std.proofs.lemmas.Bool.{eqb-true, and_parts}
use Rattle.cilk_lex_tokens.specs.declared.fault.LexFault.TheVariants.{OpenComment}
use Rattle.cilk_lex_tokens.specs.Lexing.{of_comment, open_comment}
use Rattle.cilk_lex.specs.Sight.{opens_comment, end_from, comment_shown, comment_sight, found, amiss}
use Rattle.cilk_lex_tokens.specs.Spelling.{NeverEnds, IsComment}
use Rattle.cilk_lex.proofs.Shows.{Shows, shown_at}

-- ---- where there is an end, one is found, and no later

record FoundBy (i m : ℕ) (t : List ℕ) : Type 0 where
  at : ℕ
  is : end_from i t ≡ Some at
  early : at ≤ m

found_on : (i m x : ℕ) (t : List ℕ) → 0 < length t → i ≤ m → FoundBy (suc i) m t → FoundBy i m (x ∷ t)
unfolding end_from
found_on i m x [] l e f = absurd (omega (arith, l))
found_on i m x (y ∷ ys) l e f = at_test ((x == 42) && (y == 47)) refl
  where
    at_test : (c : Bool) → ((x == 42) && (y == 47)) ≡ c → FoundBy i m (x ∷ y ∷ ys)
    at_test true h = record { at = i; is = rw h refl; early = e }
    at_test false h = record { at = f.at; is = rw h f.is; early = f.early }

found_by : (i : ℕ) (v rest : List ℕ) → FoundBy i (i + length v) (v ++ (codes "*/" ++ rest))
unfolding end_from
found_by i [] rest = record { at = i; is = refl; early = omega arith }
found_by i (x ∷ v) rest =
    let f = found_by (suc i) v rest in
    found_on i (i + length (x ∷ v)) x (v ++ (codes "*/" ++ rest)) (omega (arith, length-append v (codes "*/" ++ rest))) (omega arith)
    (record { at = f.at; is = f.is; early = omega (arith, f.early) })

pub ends_never : (i : ℕ) (t : List ℕ) → end_from i t ≡ None → NeverEnds t
ends_never i t h v rest e = let f = found_by i v rest in let g : None ≡ Some f.at = sym h ∙ ap (end_from i) e ∙ f.is in cc

-- ---- what is found is the end of a comment

pub record EndAt (i n : ℕ) (t : List ℕ) : Type 0 where
  pub inside : List ℕ
  pub rest : List ℕ
  pub form : t ≡ inside ++ (codes "*/" ++ rest)
  pub long : n ≡ i + length inside

pub end_at : (i n : ℕ) (t : List ℕ) → end_from i t ≡ Some n → EndAt i n t
unfolding end_from
end_at i n [] e = absurd cc
end_at i n (a ∷ []) e = absurd cc
end_at i n (a ∷ b ∷ bs) e = at_test ((a == 42) && (b == 47)) refl e (λ f. end_at (suc i) n (b ∷ bs) f)
  where
    at_test : (c : Bool) → ((a == 42) && (b == 47)) ≡ c → cond c (Some i) (end_from (suc i) (b ∷ bs)) ≡ Some n
        → (end_from (suc i) (b ∷ bs) ≡ Some n → EndAt (suc i) n (b ∷ bs)) → EndAt i n (a ∷ b ∷ bs)
    at_test true h f k =
        let p = and_parts (a == 42) (b == 47) h in
        record { inside = []; rest = bs; form = rw (eqb-true a 42 p.0, eqb-true b 47 p.1) refl; long = omega (arith, same_Some i n f) }
    at_test false h f k =
        let r = k f in
        record { inside = a ∷ r.inside; rest = r.rest; form = ap (λ t. a ∷ t) r.form; long = omega (arith, r.long) }

pub inside_never : (i n : ℕ) (t inside rest : List ℕ) → end_from i t ≡ Some n → t ≡ inside ++ (codes "*/" ++ rest) → n ≡ i + length inside → NeverEnds inside
inside_never i n t inside rest e form long v more h =
    let f = found_by i v (more ++ (codes "*/" ++ rest)) in
    let g : t ≡ v ++ (codes "*/" ++ (more ++ (codes "*/" ++ rest))) = form ∙ ap (λ x. x ++ (codes "*/" ++ rest)) h
    ∙ append_assoc v (codes "*/" ++ more) (codes "*/" ++ rest) in
    let k : n ≡ f.at = same_Some n f.at (sym e ∙ ap (end_from i) g ∙ f.is) in
    omega (arith, k, f.early, long, ap length h, length-append v (codes "*/" ++ more))

pub comment_sees : (fresh : Bool) (at : ℕ) (text : List ℕ) → opens_comment text ≡ true → Shows fresh at text (comment_sight at text)
unfolding comment_sight comment_shown opens_comment
comment_sees fresh at [] h = absurd cc
comment_sees fresh at (a ∷ []) h = absurd cc
comment_sees fresh at (a ∷ b ∷ t) h = is (end_from 0 t) refl
  where
    opened : (a ≡ 47) × (b ≡ 42)
    opened = let p = and_parts (a == 47) (b == 42) h in (eqb-true a 47 p.0, eqb-true b 42 p.1)

    is : (r : Option ℕ) → end_from 0 t ≡ r → Shows fresh at (a ∷ b ∷ t) (comment_shown at r)
    is None e = open_comment t (ends_never 0 t e) (rw (opened.0, opened.1) refl) refl
    is (Some n) e =
        let r = end_at 0 n t e in
        let parts : t ≡ (r.inside ++ codes "*/") ++ r.rest = r.form ∙ sym (append_assoc r.inside (codes "*/") r.rest) in
        shown_at {rest = r.rest} fresh at (4 + n) (a ∷ b ∷ t)
        (of_comment (record { inside = r.inside; never_ends = inside_never 0 n t r.inside r.rest e r.form r.long; form = refl }))
        (rw (opened.0, opened.1) (ap (λ t. 47 ∷ 42 ∷ t) parts))
        (omega (arith, r.long, length-append r.inside (codes "*/")))

-- ---- the other way round

no_end : (a : ℕ) → ((a == 42) && (42 == 47)) ≡ false
no_end a = at (a == 42)
  where
    at : (c : Bool) → (c && false) ≡ false
    at true = refl
    at false = refl

pub end_seen : (i : ℕ) (inside rest : List ℕ) → NeverEnds inside → end_from i (inside ++ (codes "*/" ++ rest)) ≡ Some (i + length inside)
unfolding end_from
end_seen i [] rest h = ap (λ (k : ℕ). Some k) (omega arith)
end_seen i (a ∷ []) rest h = rw (no_end a) (ap (λ (k : ℕ). Some k) (omega arith))
end_seen i (a ∷ b ∷ bs) rest h =
    at_test ((a == 42) && (b == 47)) refl (end_seen (suc i) (b ∷ bs) rest (λ v more e. h (a ∷ v) more (ap (λ t. a ∷ t) e)))
  where
    at_test : (c : Bool) → ((a == 42) && (b == 47)) ≡ c → end_from (suc i) (b ∷ (bs ++ (codes "*/" ++ rest))) ≡ Some (suc i + length (b ∷ bs))
        → cond ((a == 42) && (b == 47)) (Some i) (end_from (suc i) (b ∷ (bs ++ (codes "*/" ++ rest)))) ≡ Some (i + length (a ∷ b ∷ bs))
    at_test true e k = let p = and_parts (a == 42) (b == 47) e in absurd (h [] bs (rw (eqb-true a 42 p.0, eqb-true b 47 p.1) refl))
    at_test false e k = rw e (k ∙ ap (λ (j : ℕ). Some j) (omega arith))

pub comment_seen : (at : ℕ) (w rest : List ℕ) → IsComment w → comment_sight at (w ++ rest) ≡ found (length w) None
unfolding comment_sight comment_shown
comment_seen at w rest c =
    let t = ap (λ t. drop 2 (t ++ rest)) c.form ∙ append_assoc c.inside (codes "*/") rest in
    rw (t, end_seen 0 c.inside rest c.never_ends) (ap (λ (n : ℕ). found n None) (omega (arith, ap length c.form, length-append c.inside (codes "*/"))))

pub open_seen : (at : ℕ) (rest : List ℕ) → NeverEnds rest → comment_sight at (codes "/*" ++ rest) ≡ amiss (OpenComment at)
unfolding comment_sight comment_shown
open_seen at rest h = is (end_from 0 rest) refl
  where
    is : (r : Option ℕ) → end_from 0 rest ≡ r → comment_shown at (end_from 0 rest) ≡ amiss (OpenComment at)
    is None e = rw e refl
    is (Some n) e = let r = end_at 0 n rest e in absurd (h r.inside r.rest r.form)
