-- What the code finds at the front of a text is what is seen there.
use Rattle.std.proofs.Common.{◌≡◌, ◌≢◌, ℕ, ◌+◌, ◌<◌, ◌≤◌, Bool, true, false, cond, inl, inr, List, [], ◌∷◌, ◌++◌, length, get_or}
use Rattle.std.proofs.Common.{take, drop, codes, Option, Some, None, Result, Ok, Err, MatchOption, refl, sym, ap, ◌∙◌, subst, arith, length-append}
use Rattle.std.proofs.Common.{length-drop, append_assoc}
use Rattle.std.specs.Prelude.{IsCharBoundary, IsUtf8}
use Rattle.std.specs.Char.{is_ascii_digit}
use Rattle.std.specs.List.{prefix_len}
use Rattle.std.specs.Str.Pattern.{FindsText}
use Rattle.std.proofs.lemmas.Bool.{le-leb, ne_eqb}
use Rattle.std.proofs.lemmas.List.{take-append-drop, length-take-le, drop_at}
use Rattle.cilk_lex_tokens.specs.declared.fault.LexFault.{LexFault}
use Rattle.cilk_lex_tokens.specs.declared.fault.LexFault.TheVariants.{BadByte, BadNumber, OpenComment}
use Rattle.cilk_lex_tokens.specs.declared.keyword.Keyword.{Keyword}
use Rattle.cilk_lex_tokens.specs.declared.mark.Mark.{Mark}
use Rattle.cilk_lex_tokens.specs.declared.token.TokenKind.TheVariants as kind
use Rattle.cilk_lex_tokens.specs.Byte.{is_blank, begins_name, continues_name, continues_number}
use Rattle.cilk_lex.specs.Sight.{Sight, found, amiss, name_sight, number_in, number_shown, number_sight, mark_in, mark_shown, mark_sight}
use Rattle.cilk_lex.specs.Sight.{opens_comment, end_from, comment_shown, comment_sight, text_sight, include_sight, sight}
use Rattle.cilk_lex_tokens.specs.Spelling.{spelling, mark_spelling, NeverEnds}
use Rattle.cilk_lex.proofs.Comments.{end_seen, end_at}
use Rattle.cilk_lex.proofs.Forms.{IsPlain}
use Rattle.cilk_lex.proofs.Marks.{mark_form, mark_is, no_mark_is, mark_or, MarkOr}
use Rattle.cilk_lex.proofs.Seen.{comment_opened}
use Rattle.cilk_lex.proofs.Words.{named_word, named_name}
use Rattle.cilk_lex.specs.declared.found.Found.{Found}
use Rattle.cilk_lex.specs.Front.{IsSeen, Finds}
use Rattle.cilk_lex.proofs.Cuts.{plain_cut}

-- ---- names and numbers

pub seen_word : (t w : List ℕ) (n : ℕ) (k : Keyword) → n ≡ prefix_len continues_name t → w ≡ take n t → w ≡ spelling k
    → IsSeen t (name_sight t) (record { kind = Some (kind.Word k); end = n })
unfolding name_sight
seen_word t w n k e f g = rw (← e, ← f, g, named_word k) refl

pub seen_name : (t w : List ℕ) (n : ℕ) → n ≡ prefix_len continues_name t → w ≡ take n t → ((k : Keyword) → w ≢ spelling k)
    → IsSeen t (name_sight t) (record { kind = Some kind.Name; end = n })
unfolding name_sight
seen_name t w n e f g = rw (← e, ← f, named_name w g) refl

pub seen_number : (t w : List ℕ) (n at v : ℕ) → n ≡ prefix_len continues_number t → w ≡ take n t → Some v ≡ number_in w
    → IsSeen t (number_sight at t) (record { kind = Some (kind.Number v); end = n })
unfolding number_sight number_shown
seen_number t w n at v e f g = rw (← e, ← f, ← g) refl

pub seen_no_number : (t w : List ℕ) (n at : ℕ) → n ≡ prefix_len continues_number t → w ≡ take n t → None ≡ number_in w
    → number_sight at t ≡ amiss (BadNumber at)
unfolding number_sight number_shown
seen_no_number t w n at e f g = rw (← e, ← f, ← g) refl

-- ---- marks

pub mark_told : (t w : List ℕ) (n : ℕ) (r : Option Mark) → n ≤ length t → w ≡ take n t
    → MatchOption r ((m : Mark) → w ≢ mark_spelling m) (λ m. w ≡ mark_spelling m) → r ≡ mark_in n t
unfolding mark_in
mark_told t w n None l e h = rw (le-leb n (length t) l, ← e, no_mark_is w h) refl
mark_told t w n (Some m) l e h = rw (le-leb n (length t) l, ← e, mark_is w m h) refl

-- where a text may not be cut, no mark ends
pub no_mark_cut : (t : List ℕ) (n : ℕ) → IsUtf8 t → (n ≤ length t → IsCharBoundary t n → ⊥) → None ≡ mark_in n t
no_mark_cut t n u h = is (mark_or n t)
  where
    is : MarkOr n t → None ≡ mark_in n t
    is (inl i) = let f = mark_form i.0 in absurd (h i.1 (plain_cut t n u i.1 (subst (λ w. IsPlain w) (sym i.2) (f.some, f.ascii))))
    is (inr i) = sym i.1

pub three : (t : List ℕ) (at : ℕ) (m : Mark) → Some m ≡ mark_in 3 t → IsSeen t (mark_sight at t) (record { kind = Some (kind.Mark m); end = 3 })
unfolding mark_sight mark_shown
three t at m e = rw (← e) refl

pub two : (t : List ℕ) (at : ℕ) (m : Mark) → None ≡ mark_in 3 t → Some m ≡ mark_in 2 t
    → IsSeen t (mark_sight at t) (record { kind = Some (kind.Mark m); end = 2 })
unfolding mark_sight mark_shown
two t at m e f = rw (← e, ← f) refl

pub one : (t : List ℕ) (at : ℕ) (m : Mark) → None ≡ mark_in 3 t → None ≡ mark_in 2 t → Some m ≡ mark_in 1 t
    → IsSeen t (mark_sight at t) (record { kind = Some (kind.Mark m); end = 1 })
unfolding mark_sight mark_shown
one t at m e f g = rw (← e, ← f, ← g) refl

pub none : (t : List ℕ) (at : ℕ) → None ≡ mark_in 3 t → None ≡ mark_in 2 t → None ≡ mark_in 1 t → mark_sight at t ≡ amiss (BadByte at)
unfolding mark_sight mark_shown
none t at e f g = rw (← e, ← f, ← g) refl

-- ---- comments

pub no_end : (t : List ℕ) → FindsText (codes "*/") t None → end_from 0 t ≡ None
no_end t h = is (end_from 0 t) refl
  where
    is : (r : Option ℕ) → end_from 0 t ≡ r → end_from 0 t ≡ None
    is None e = e
    is (Some n) e =
        let r = end_at 0 n t e
        in absurd
        (h (length r.inside) (omega (arith, ap length r.form, length-append r.inside (codes "*/" ++ r.rest))) r.rest
        (ap (λ u. drop (length r.inside) u) r.form ∙ drop_at r.inside (codes "*/" ++ r.rest) (length r.inside) refl))

pub an_end : (t : List ℕ) (i j : ℕ) → FindsText (codes "*/") t (Some (i, j)) → end_from 0 t ≡ Some i
an_end t i j h =
    let fits : i ≤ length t = omega (arith, ap length h.1.split, length-drop i t) in
    let long : length (take i t) ≡ i = length-take-le i t fits in
    let never : NeverEnds (take i t) = λ v rest e.
    let whole : t ≡ v ++ (codes "*/" ++ (rest ++ drop i t)) = sym (take-append-drop i t) ∙ ap (λ u. u ++ drop i t) e
    ∙ append_assoc v (codes "*/" ++ rest) (drop i t) in
    let before : length v < i = omega (arith, long, ap length e, length-append v (codes "*/" ++ rest)) in
    h.0 (length v) before (rest ++ drop i t) (ap (λ u. drop (length v) u) whole ∙ drop_at v (codes "*/" ++ (rest ++ drop i t)) (length v) refl)
    in
    let parts : t ≡ take i t ++ (codes "*/" ++ drop j t) = sym (take-append-drop i t) ∙ ap (λ u. take i t ++ u) h.1.split in
    ap (end_from 0) parts ∙ end_seen 0 (take i t) (drop j t) never ∙ ap (λ (k : ℕ). Some k) (omega (arith, long))

pub seen_comment : (text t : List ℕ) (at i : ℕ) → text ≡ codes "/*" ++ t → end_from 0 t ≡ Some i
    → IsSeen text (comment_sight at text) (record { kind = None; end = i + 4 })
unfolding comment_sight comment_shown
seen_comment text t at i e f = rw (e, f) (ap (λ (n : ℕ). found n None) (omega arith))

pub seen_no_end : (text t : List ℕ) (at : ℕ) → text ≡ codes "/*" ++ t → end_from 0 t ≡ None → comment_sight at text ≡ amiss (OpenComment at)
unfolding comment_sight comment_shown
seen_no_end text t at e f = rw (e, f) refl

-- ---- by the first byte

-- the first byte is neither a blank nor a letter
pub record Other (t : List ℕ) : Type 0 where
  pub some : 0 < length t
  pub no_blank : is_blank (get_or t 0 0) ≡ false
  pub no_name : begins_name (get_or t 0 0) ≡ false

-- the text does not begin with these bytes
abbrev pub Lacks : List ℕ → List ℕ → Type 0
Lacks w t = (rest : List ℕ) → t ≢ w ++ rest

pub other : (t : List ℕ) → 0 < length t → is_blank (get_or t 0 0) ≡ false → begins_name (get_or t 0 0) ≡ false → Other t
other t l b n = record { some = l; no_blank = b; no_name = n }

module _ (fresh : Bool) (at : ℕ) where
  pub at_blank : (t : List ℕ) → 0 < length t → is_blank (get_or t 0 0) ≡ true → sight fresh at t ≡ found 1 None
  unfolding sight
  at_blank [] l h = absurd (omega (arith, l))
  at_blank (b ∷ bs) l h = rw h refl

  pub at_name : (t : List ℕ) → 0 < length t → is_blank (get_or t 0 0) ≡ false → begins_name (get_or t 0 0) ≡ true → sight fresh at t ≡ name_sight t
  unfolding sight
  at_name [] l h i = absurd (omega (arith, l))
  at_name (b ∷ bs) l h i = rw (h, i) refl

  pub at_digit : (t : List ℕ) → Other t → is_ascii_digit (get_or t 0 0) ≡ true → sight fresh at t ≡ number_sight at t
  unfolding sight
  at_digit [] o h = absurd (omega (arith, o.some))
  at_digit (b ∷ bs) o h = rw (o.no_blank, o.no_name, h) refl

  pub at_quote : (t rest : List ℕ) → t ≡ codes "\"" ++ rest → sight fresh at t ≡ text_sight at t
  unfolding sight
  at_quote t rest e = rw e refl

  pub at_directive : (t rest : List ℕ) → t ≡ codes "#" ++ rest → sight fresh at t ≡ include_sight fresh at t
  unfolding sight
  at_directive t rest e = rw e refl

  pub at_comment : (t rest : List ℕ) → t ≡ codes "/*" ++ rest → sight fresh at t ≡ comment_sight at t
  unfolding sight opens_comment
  at_comment t rest e = rw e refl

  pub at_mark : (t : List ℕ) → Other t → is_ascii_digit (get_or t 0 0) ≡ false
      → Lacks (codes "\"") t → Lacks (codes "#") t → Lacks (codes "/*") t → sight fresh at t ≡ mark_sight at t
  unfolding sight
  at_mark [] o d q r c = absurd (omega (arith, o.some))
  at_mark (b ∷ bs) o d q r c =
      rw (o.no_blank, o.no_name, d, ne_eqb b 34 (λ e. q bs (rw e refl)), ne_eqb b 35 (λ e. r bs (rw e refl)))
      (is (opens_comment (b ∷ bs)) refl)
    where
      is : (h : Bool) → opens_comment (b ∷ bs) ≡ h → cond (opens_comment (b ∷ bs)) (comment_sight at (b ∷ bs)) (mark_sight at (b ∷ bs)) ≡ mark_sight at (b ∷ bs)
      is true e = let o = comment_opened (b ∷ bs) e in absurd (c o.0 o.1)
      is false e = rw e refl

-- what was found at a sight was found at the same sight
pub finds_at : (t : List ℕ) (s u : Sight) (r : Result Found LexFault) → s ≡ u → Finds t u r → Finds t s r
finds_at t s u (Ok f) e h = e ∙ h
finds_at t s u (Err f) e h = e ∙ h
