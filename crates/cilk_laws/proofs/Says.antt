-- Lines that say actions: among more lines, behind others, and one level deeper.
use Rattle.std.proofs.Common.{◌≡◌, ℕ, zero, suc, ◌+◌, List, [], ◌∷◌, ◌++◌, length, codes, Some, refl, sym, ap, ◌∙◌, subst, arith, append_assoc}
use Rattle.std.specs.Prelude.{slice_get, option_map}
use Rattle.std.specs.List.{AllZip}
use Rattle.std.proofs.lemmas.List.{length-map}
use Rattle.std.proofs.lemmas.Option.{slice_get-map, none-some, same_Some}
use Rattle.cilk_tree.specs.syntax.Lines.{one_deeper, deeper}
use Rattle.cilk_laws.specs.Said.{Said}
use Rattle.cilk_laws.specs.Actions.{margin, IsLine, SaysOne, Say}

-- what stands in the first of two lists, and in the second

pub get-first : {A : Type 0} (xs ys : List A) (k : ℕ) (x : A) → slice_get xs k ≡ Some x → slice_get (xs ++ ys) k ≡ Some x
get-first [] ys k x h = absurd (none-some x h)
get-first (y ∷ xs) ys zero x h = h
get-first (y ∷ xs) ys (suc k) x h = get-first xs ys k x h

pub get-behind : {A : Type 0} (xs ys : List A) (k : ℕ) → slice_get (xs ++ ys) (length xs + k) ≡ slice_get ys k
get-behind [] ys k = let e : 0 + k ≡ k = omega arith in ap (slice_get ys) e
get-behind (x ∷ xs) ys k =
    let e : suc (length xs) + k ≡ suc (length xs + k) = omega arith in
    ap (slice_get (x ∷ xs ++ ys)) e ∙ get-behind xs ys k

-- two lists, element by element

module _ {A B : Type 0} (R : A → B → Type 0) where
  zip-weaker : (S : A → B → Type 0) → ((x : A) (y : B) → R x y → S x y) → (xs : List A) (ys : List B) → AllZip R xs ys → AllZip S xs ys
  zip-weaker S f [] [] h = h
  zip-weaker S f [] (y ∷ ys) h = h
  zip-weaker S f (x ∷ xs) [] h = h
  zip-weaker S f (x ∷ xs) (y ∷ ys) h = (f x y h.0, zip-weaker S f xs ys h.1)

  zip-append : (xs vs : List A) (ys ws : List B) → AllZip R xs ys → AllZip R vs ws → AllZip R (xs ++ vs) (ys ++ ws)
  zip-append [] vs [] ws h more = more
  zip-append [] vs (y ∷ ys) ws h more = absurd h
  zip-append (x ∷ xs) vs [] ws h more = absurd h
  zip-append (x ∷ xs) vs (y ∷ ys) ws h more = (h.0, zip-append xs vs ys ws h.1 more)

  -- what the second list has at a place, and what stands there in the first
  pub zip-at : (xs : List A) (ys : List B) (k : ℕ) (y : B) → AllZip R xs ys → slice_get ys k ≡ Some y → (x : A) × (slice_get xs k ≡ Some x) × R x y
  zip-at [] [] k y h there = absurd (none-some y there)
  zip-at [] (z ∷ ys) k y h there = absurd h
  zip-at (x ∷ xs) [] k y h there = absurd h
  zip-at (x ∷ xs) (z ∷ ys) zero y h there = (x, refl, subst (R x) (same_Some z y there) h.0)
  zip-at (x ∷ xs) (z ∷ ys) (suc k) y h there = zip-at xs ys k y h.1 there

module _ (first : ℕ) where
  -- a line and its number, among others

  pub top_line : (line : List ℕ) (more : List (List ℕ)) → IsLine first (line ∷ more) first line
  top_line line more = record { before = 0; number = omega arith; depth = 0; is = refl }

  line_among : (lines more : List (List ℕ)) (n : ℕ) (line : List ℕ) → IsLine first lines n line → IsLine first (lines ++ more) n line
  line_among lines more n line h = record {
    before = h.before;
    number = h.number;
    depth = h.depth;
    is = get-first lines more h.before (margin h.depth ++ line) h.is;
  }

  line_behind : (others lines : List (List ℕ)) (n : ℕ) (line : List ℕ) → IsLine (first + length others) lines n line
      → IsLine first (others ++ lines) n line
  line_behind others lines n line h = record {
    before = length others + h.before;
    number = omega (arith, h.number);
    depth = h.depth;
    is = get-behind others lines h.before ∙ h.is;
  }

  line_deeper : (lines : List (List ℕ)) (n : ℕ) (line : List ℕ) → IsLine first lines n line → IsLine first (deeper lines) n line
  line_deeper lines n line h = record {
    before = h.before;
    number = h.number;
    depth = suc h.depth;
    is =
        slice_get-map one_deeper lines h.before ∙ ap (option_map one_deeper) h.is
        ∙ ap (λ text. Some text) (sym (append_assoc (codes "    ") (margin h.depth) line));
  }

  -- the line that closes a body
  pub last_line : (opening line : List ℕ) (lines : List (List ℕ)) → IsLine first (opening ∷ (deeper lines ++ line ∷ [])) (first + (length lines + 1)) line
  last_line opening line lines =
      let size : length (deeper lines) ≡ length lines = length-map lines one_deeper in
      let e : length lines + 1 ≡ suc (length (deeper lines) + 0) = omega (arith, size) in
      record {
        before = length lines + 1;
        number = refl;
        depth = 0;
        is = ap (slice_get (opening ∷ (deeper lines ++ line ∷ []))) e ∙ get-behind (deeper lines) (line ∷ []) 0;
      }

  -- what lines say

  pub say_among : (lines more : List (List ℕ)) (ns : List ℕ) (saids : List Said) → Say first lines ns saids → Say first (lines ++ more) ns saids
  say_among lines more ns saids h =
      zip-weaker (SaysOne first lines) (SaysOne first (lines ++ more)) (λ n said is. line_among lines more n said.line is) ns saids h

  pub say_behind : (others lines : List (List ℕ)) (ns : List ℕ) (saids : List Said) → Say (first + length others) lines ns saids
      → Say first (others ++ lines) ns saids
  say_behind others lines ns saids h =
      zip-weaker (SaysOne (first + length others) lines) (SaysOne first (others ++ lines))
      (λ n said is. line_behind others lines n said.line is) ns saids h

  pub say_deeper : (lines : List (List ℕ)) (ns : List ℕ) (saids : List Said) → Say first lines ns saids → Say first (deeper lines) ns saids
  say_deeper lines ns saids h =
      zip-weaker (SaysOne first lines) (SaysOne first (deeper lines)) (λ n said is. line_deeper lines n said.line is) ns saids h

  pub say_both : (lines : List (List ℕ)) (ns ms : List ℕ) (saids others : List Said) → Say first lines ns saids → Say first lines ms others
      → Say first lines (ns ++ ms) (saids ++ others)
  say_both lines ns ms saids others h more = zip-append (SaysOne first lines) ns ms saids others h more

-- lines one level deeper, behind the line that opens a body
pub say_inside : (first : ℕ) (opening : List ℕ) (lines more : List (List ℕ)) (ns : List ℕ) (saids : List Said) → Say (first + 1) lines ns saids
    → Say first (opening ∷ (deeper lines ++ more)) ns saids
say_inside first opening lines more ns saids h =
    say_behind first (opening ∷ []) (deeper lines ++ more) ns saids
    (say_among (first + 1) (deeper lines) more ns saids (say_deeper (first + 1) lines ns saids h))
