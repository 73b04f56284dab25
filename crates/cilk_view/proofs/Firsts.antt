-- The map of the first actions, and the lines of a text.
use Rattle.std.proofs.Common.{◌≡◌, ℕ, zero, suc, ◌+◌, ◌<◌, ◌≤◌, length-drop, ◌++◌, Bool, true, false, cond, not, List, [], ◌∷◌, drop, take, length}
use Rattle.std.proofs.Common.{refl, sym, ap, subst, ◌∙◌, arith, append_assoc}
use Rattle.std.proofs.lemmas.Grind.{common_steps}
use Rattle.std.specs.Prelude.{◌==◌, slice_get, Option, Some, None, if◌then◌else◌, IsSome}
use Rattle.std.specs.BTreeMap.{BTreeMap, Updates}
use Rattle.std.specs.List.{before_first, after_first, position_or_len}
use Rattle.std.specs.Ordering.{nat_cmp}
use Rattle.cilk_load.specs.labelled.Labelled.{Labelled}
use Rattle.cilk_machine_agree.specs.model.End.{line_of}
use Rattle.cilk_machine_agree.specs.model.Listing.{lines_in, first_on, numbered_text}
use Rattle.cilk_machine_agree.specs.model.Listing.{before_first as with_first}
use Rattle.cilk_view.specs.Listing.{HasFirsts, numbered_line}

none_past : (xs : List ℕ) (n : ℕ) → slice_get xs n ≡ None → drop n xs ≡ []
none_past [] zero h = refl
none_past [] (suc n) h = refl
none_past (x ∷ xs) zero h = cc
none_past (x ∷ xs) (suc n) h = none_past xs n h

none_later : (xs : List ℕ) (n : ℕ) → slice_get xs n ≡ None → drop (suc n) xs ≡ []
none_later [] n h = refl
none_later (x ∷ xs) zero h = cc
none_later (x ∷ xs) (suc n) h = none_later xs n h

some_at : (xs : List ℕ) (n x : ℕ) → slice_get xs n ≡ Some x → drop n xs ≡ x ∷ drop (suc n) xs
some_at [] zero x h = cc
some_at [] (suc n) x h = cc
some_at (y ∷ xs) zero x h = let e : y ≡ x = cc in ap (λ z. z ∷ xs) e
some_at (y ∷ xs) (suc n) x h = some_at xs n x h

inserted : (a b : BTreeMap ℕ ℕ) (n line : ℕ) (lines : List ℕ) → HasFirsts a (suc n) lines → Updates nat_cmp a b line (Some n) → HasFirsts b n (line ∷ lines)
inserted a b n line lines has u k = grind (arith, common_steps, u.0 k, has k)

-- with one action more in front
pub one_more : (program : Labelled) (n m : ℕ) (a b : BTreeMap ℕ ℕ) (line : ℕ) → n ≡ m + 1 → Some line ≡ line_of program n
    → HasFirsts a (n + 1) (drop n program.lines) → Updates nat_cmp a b line (Some n) → HasFirsts b (m + 1) (drop m program.lines)
one_more program n m a b line is there has u =
    let e : n ≡ suc m = omega (arith, is) in
    let next : n + 1 ≡ suc n = omega arith in
    let at : slice_get program.lines m ≡ Some line = sym (there ∙ ap (line_of program) e) in
    let whole : line ∷ drop n program.lines ≡ drop m program.lines = ap (λ i. line ∷ drop i program.lines) e ∙ sym (some_at program.lines m line at) in
    subst (λ xs. HasFirsts b (m + 1) xs) whole (subst (λ i. HasFirsts b i (line ∷ drop n program.lines)) is
    (inserted a b n line (drop n program.lines) (subst (λ i. HasFirsts a i (drop n program.lines)) next has) u))

pub none_more : (program : Labelled) (n m : ℕ) (a : BTreeMap ℕ ℕ) → n ≡ m + 1 → None ≡ line_of program n
    → HasFirsts a (n + 1) (drop n program.lines) → HasFirsts a (m + 1) (drop m program.lines)
none_more program n m a is none has =
    let e : n ≡ suc m = omega (arith, is) in
    let at : slice_get program.lines m ≡ None = sym (none ∙ ap (line_of program) e) in
    let here : [] ≡ drop m program.lines = sym (none_past program.lines m at) in
    let behind : drop n program.lines ≡ [] = ap (λ i. drop i program.lines) e ∙ none_later program.lines m at in
    subst (λ xs. HasFirsts a (m + 1) xs) here (λ k. has k ∙ ap (λ xs. first_on (n + 1) xs k) behind)

-- before the first
pub begins : (program : Labelled) (n : ℕ) (a : BTreeMap ℕ ℕ) (o : Option ℕ) → a.entries ≡ [] → o ≡ line_of program (n + 1) → (IsSome o → ⊥)
    → HasFirsts a (n + 1) (drop n program.lines)
begins program n a (Some l) empty is none = absurd (none refl)
begins program n a None empty is none =
    let e : n + 1 ≡ suc n = omega arith in
    let at : slice_get program.lines n ≡ None = sym (is ∙ ap (line_of program) e) in
    subst (λ xs. HasFirsts a (n + 1) xs) (sym (none_past program.lines n at)) (λ k. rw empty refl)

abbrev newline : ℕ → Bool
newline b = b == 10

abbrev to_line : List ℕ → ℕ
to_line text = position_or_len newline text

module _ (b : ℕ) (text : List ℕ) where
  far : newline b ≡ false → to_line (b ∷ text) ≡ suc (to_line text)
  far other = ap (λ x. cond (not x) (1 + to_line text) 0) other ∙ omega arith

  near : newline b ≡ true → to_line (b ∷ text) ≡ 0
  near same = ap (λ x. cond (not x) (1 + to_line text) 0) same

  ends-here : newline b ≡ true → lines_in (b ∷ text) ≡ before_first newline (b ∷ text) ∷ lines_in (after_first newline (b ∷ text))
  ends-here same =
      ap (λ x. if x then [] ∷ lines_in text else with_first b (lines_in text)) same
      ∙ sym (ap (λ n. take n (b ∷ text) ∷ lines_in (drop (n + 1) (b ∷ text))) (near same))

  ends-later : newline b ≡ false → lines_in text ≡ before_first newline text ∷ lines_in (after_first newline text)
      → lines_in (b ∷ text) ≡ before_first newline (b ∷ text) ∷ lines_in (after_first newline (b ∷ text))
  ends-later other rest =
      let next : suc (to_line text) + 1 ≡ suc (to_line text + 1) = omega arith in
      ap (λ x. if x then [] ∷ lines_in text else with_first b (lines_in text)) other
      ∙ ap (with_first b) rest
      ∙ sym
      (ap (λ n. take n (b ∷ text) ∷ lines_in (drop (n + 1) (b ∷ text))) (far other)
      ∙ ap (λ n. (b ∷ before_first newline text) ∷ lines_in (drop n (b ∷ text))) next)

cut_by : (b : ℕ) (text : List ℕ) (c : Bool) → newline b ≡ c → to_line (b ∷ text) < length (b ∷ text)
    → (to_line text < length text → lines_in text ≡ before_first newline text ∷ lines_in (after_first newline text))
    → lines_in (b ∷ text) ≡ before_first newline (b ∷ text) ∷ lines_in (after_first newline (b ∷ text))
cut_by b text true same within rest = ends-here b text same
cut_by b text false other within rest = let e = far b text other in ends-later b text other (rest (omega (arith, within, e)))

-- a text with a newline begins with a line
pub cut : (text : List ℕ) → to_line text < length text → lines_in text ≡ before_first newline text ∷ lines_in (after_first newline text)
cut [] within = absurd (omega (arith, within))
cut (b ∷ text) within = cut_by b text (newline b) refl within (λ h. cut text h)

uncut_by : (b : ℕ) (text : List ℕ) (c : Bool) (lines : List (List ℕ)) → newline b ≡ c → to_line (b ∷ text) ≡ length (b ∷ text)
    → (to_line text ≡ length text → with_first b (lines_in text) ≡ lines) → lines_in (b ∷ text) ≡ lines
uncut_by b text true lines same all rest = let e = near b text same in absurd (omega (arith, all, e))
uncut_by b text false lines other all rest =
    let e = far b text other in
    ap (λ x. if x then [] ∷ lines_in text else with_first b (lines_in text)) other ∙ rest (omega (arith, all, e))

-- one without is a line
pub uncut : (b : ℕ) (text : List ℕ) → to_line (b ∷ text) ≡ length (b ∷ text) → lines_in (b ∷ text) ≡ (b ∷ text) ∷ []
uncut b [] all = uncut_by b [] (newline b) ((b ∷ []) ∷ []) refl all (λ h. refl)
uncut b (c ∷ text) all = uncut_by b (c ∷ text) (newline b) ((b ∷ c ∷ text) ∷ []) refl all (λ h. ap (with_first b) (uncut c text h))

one_line : (actions : List ℕ) (k : ℕ) (line : List ℕ) (lines : List (List ℕ))
    → numbered_text actions k (line ∷ lines) ≡ numbered_line (first_on 1 actions k) k line ++ numbered_text actions (suc k) lines
one_line actions k line lines = simp append_assoc

-- the text so far, and one line more
pub line_more : (actions : List ℕ) (k : ℕ) (old now whole line rest others : List ℕ) (first : Option ℕ)
    → now ≡ old ++ numbered_line first k line → first ≡ first_on 1 actions k
    → lines_in rest ≡ line ∷ lines_in others → old ++ numbered_text actions k (lines_in rest) ≡ whole
    → now ++ numbered_text actions (k + 1) (lines_in others) ≡ whole
line_more actions k old now whole line rest others first is has begin so_far =
    let next : k + 1 ≡ suc k = omega arith in
    ap (λ xs. xs ++ numbered_text actions (k + 1) (lines_in others)) is
    ∙ append_assoc old (numbered_line first k line) (numbered_text actions (k + 1) (lines_in others))
    ∙ (λ i. old ++ (numbered_line (has i) k line ++ numbered_text actions (next i) (lines_in others)))
    ∙ ap (λ xs. old ++ xs) (sym (one_line actions k line (lines_in others)) ∙ ap (numbered_text actions k) (sym begin))
    ∙ so_far

-- and the last line, which no newline ends
pub last_line : (actions : List ℕ) (k : ℕ) (old whole rest : List ℕ) (first : Option ℕ) → first ≡ first_on 1 actions k
    → (length rest == 0) ≡ false → to_line rest ≡ length rest → old ++ numbered_text actions k (lines_in rest) ≡ whole
    → old ++ numbered_line first k rest ≡ whole
last_line actions k old whole [] first has some all so_far = cc
last_line actions k old whole (b ∷ rest) first has some all so_far =
    (λ i. old ++ numbered_line (has i) k (b ∷ rest)) ∙ ap (λ lines. old ++ numbered_text actions k lines) (sym (uncut b rest all)) ∙ so_far

-- what is behind a line is shorter
pub shorter : (text others : List ℕ) → others ≡ after_first newline text → to_line text < length text → length others + 1 ≤ length text
shorter text others is within = let e = ap length is in grind (arith, length-drop, e, within)
