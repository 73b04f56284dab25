-- What a rule makes of parts that are the same but for places, a step of the rule at a time.
use Rattle.std.proofs.Common.{◌≡◌, ℕ, Bool, List, ◌∷◌, map, refl}
use Rattle.cilk_parse_grammar.specs.Rule.{Rule, done, skip, part, and_then, either, many, nearest, by_value}
use Rattle.cilk_parse_grammar.specs.Alike as alike
use Rattle.cilk_parse_grammar.specs.Alike.{EachAlike, no_more, one_more}
use Rattle.cilk_parse_grammar.proofs.Moved as moved
use Rattle.cilk_tree_syntax.specs.lexeme.declared.keyword.Keyword.{Keyword}
use Rattle.cilk_parse_grammar.specs.Parts.{token, the_literal, the_header, Means}
use Rattle.cilk_tree_syntax.specs.Bare.{bare_word, bare_literal, bare_expr, bare_stmt, bare_local}
use Rattle.cilk_parse_grammar.specs.Forms.{commas, behind_commas, keyword_place, name_of, number, expression, value, statement, unbraced, inlet}
use Rattle.cilk_parse_grammar.specs.Likes.{likes, bare_written}

-- whatever the parts, the two things made of them are in R
pub record Kept {A : Type 0} (r : Rule Means A) (R : A → A → Type 0) : Type 0 where
  pub it : alike.Keeps likes r R

weaker : {A : Type 0} (r : Rule Means A) (S R : A → A → Type 0) → alike.Keeps likes r S → ((x y : A) → S x y → R x y) → alike.Keeps likes r R
weaker (done a) S R k f = f a a k
weaker (skip c p) S R k f = weaker p S R k f
weaker (part p) S R k f = λ x y h. f x y (k x y h)
weaker (and_then p q) S R k f = weaker p _ _ k (λ b c h. weaker q _ _ h (λ g g' i. f (g b) (g' c) i))
weaker (either p q) S R k f = (weaker p S R k.0 f, weaker q S R k.1 f)
weaker (many p) S R k f = λ xs ys h. f xs ys (k xs ys h)
weaker (nearest p a) S R k f = (weaker p S R k.0 f, f a a k.1)
weaker (by_value v p q r) S R k f = weaker p _ _ k (λ b c h. (weaker q _ _ h.0 (λ g g' i. f (g b) (g' c) i), weaker r _ _ h.1 (λ g g' i. f (g b) (g' c) i)))

pub k_done : {A : Type 0} {a : A} {R : A → A → Type 0} → R a a → Kept (done a) R
k_done h = record { it = h }

pub k_skip : {A : Type 0} {c : ℕ} {p : Rule Means A} {R : A → A → Type 0} → Kept p R → Kept (skip c p) R
k_skip k = record { it = k.it }

pub k_then : {A B : Type 0} {p : Rule Means B} {q : Rule Means (B → A)} {S : B → B → Type 0} {R : A → A → Type 0} → Kept p S
    → ((b c : B) → S b c → Kept q (λ f g. R (f b) (g c))) → Kept (and_then p q) R
k_then {p = p} {q = q} {S = S} {R = R} k h = record { it = weaker p S (λ b c. alike.Keeps likes q (λ f g. R (f b) (g c))) k.it (λ b c s. (h b c s).it) }

pub k_either : {A : Type 0} {p q : Rule Means A} {R : A → A → Type 0} → Kept p R → Kept q R → Kept (either p q) R
k_either k h = record { it = (k.it, h.it) }

pub k_nearest : {A : Type 0} {p : Rule Means A} {a : A} {R : A → A → Type 0} → Kept p R → R a a → Kept (nearest p a) R
k_nearest k h = record { it = (k.it, h) }

pub k_by : {A B : Type 0} {v : B → Bool} {p : Rule Means B} {q r : Rule Means (B → A)} {S : B → B → Type 0} {R : A → A → Type 0} → Kept p S
    → ((b c : B) → S b c → Kept q (λ f g. R (f b) (g c))) → ((b c : B) → S b c → Kept r (λ f g. R (f b) (g c)))
    → Kept (by_value v p q r) R
k_by {p = p} {q = q} {r = r} {S = S} {R = R} k h i =
    record {
      it = weaker p S (λ b c. alike.Keeps likes q (λ f g. R (f b) (g c)) × alike.Keeps likes r (λ f g. R (f b) (g c))) k.it
          (λ b c s. ((h b c s).it, (i b c s).it));
    }

pub k_use : {A : Type 0} {p : Rule Means A} {S R : A → A → Type 0} → Kept p S → ((x y : A) → S x y → R x y) → Kept p R
k_use {p = p} {S = S} {R = R} k f = record { it = weaker p S R k.it f }

-- of what is kept in each, all is
pub each_kept : {A B : Type 0} (p : Rule Means A) (f : A → B) → Kept p (λ x y. f x ≡ f y) → (xs ys : List A)
    → EachAlike (λ x y. alike.Alike likes p x y) xs ys → map f xs ≡ map f ys
each_kept p f k xs ys no_more = refl
each_kept p f k xs ys (one_more {x = x} {y = y} {xs = us} {ys = vs} h t) = λ i. moved.keeps likes p (λ x y. f x ≡ f y) x y k.it h i ∷ each_kept p f k us vs t i

pub k_many : {A B : Type 0} {p : Rule Means A} {f : A → B} → Kept p (λ x y. f x ≡ f y) → Kept (many p) (λ xs ys. map f xs ≡ map f ys)
k_many {p = p} {f = f} k = record { it = λ xs ys h. each_kept p f k xs ys h }

-- ---- parts

pub k_word : {w : Keyword} → Kept (keyword_place w) (λ x y. Unit {0})
k_word = record { it = λ x y h. h }

pub k_name : {cs : List ℕ} → Kept (name_of cs) (λ x y. bare_word x ≡ bare_word y)
k_name = record { it = λ x y h. h }

pub k_number : Kept number (λ x y. x ≡ y)
k_number = record { it = λ x y h. h }

pub k_literal : Kept (part (token the_literal)) (λ x y. bare_literal x ≡ bare_literal y)
k_literal = record { it = λ x y h. h }

pub k_header : Kept (part (token the_header)) (λ x y. x ≡ y)
k_header = record { it = λ x y h. h }

pub k_expr : Kept expression (λ x y. bare_expr x ≡ bare_expr y)
k_expr = record { it = λ x y h. h }

pub k_value : Kept value (λ x y. bare_written x ≡ bare_written y)
k_value = record { it = λ x y h. h }

pub k_statement : Kept statement (λ x y. bare_stmt x ≡ bare_stmt y)
k_statement = record { it = λ x y h. h }

pub k_unbraced : Kept unbraced (λ x y. bare_stmt x ≡ bare_stmt y)
k_unbraced = record { it = λ x y h. h }

pub k_inlet : Kept inlet (λ x y. bare_local x ≡ bare_local y)
k_inlet = record { it = λ x y h. h }

-- ---- forms

pub k_before : {A : Type 0} {c : ℕ} {p : Rule Means A} {R : A → A → Type 0} → Kept p R → Kept (and_then p (skip c (done (λ x. x)))) R
k_before k = k_then k (λ x y h. k_skip (k_done h))

pub k_between : {A : Type 0} {b c : ℕ} {p : Rule Means A} {R : A → A → Type 0} → Kept p R → Kept (skip b (and_then p (skip c (done (λ x. x))))) R
k_between k = k_skip (k_before k)

pub k_behind_commas : {A B : Type 0} (f : A → B) {p : Rule Means A} → Kept p (λ x y. f x ≡ f y) → Kept (behind_commas p) (λ xs ys. map f xs ≡ map f ys)
k_behind_commas f k = k_many {f = f} (k_skip k)

pub k_commas : {A B : Type 0} (f : A → B) {p : Rule Means A} → Kept p (λ x y. f x ≡ f y) → Kept (commas p) (λ xs ys. map f xs ≡ map f ys)
k_commas f k = k_then k (λ x y h. k_then (k_behind_commas f k) (λ xs ys hs. k_done (λ i. h i ∷ hs i)))
