-- What the code finds on a line that includes a header.
use Rattle.std.proofs.Common.{◌≡◌, ◌≢◌, ℕ, ◌+◌, Bool, true, false, cond, ◌&&◌, List, [], ◌∷◌, ◌++◌, length, take, drop, codes, Option, Some, None}
use Rattle.std.proofs.Common.{refl, sym, ap, ◌∙◌, arith}
use Rattle.std.specs.Prelude.{◌==◌, bytes_eq}
use Rattle.std.specs.Bool.{then_some}
use Rattle.std.specs.List.{prefix_len}
use Rattle.std.proofs.lemmas.List.{length-take-le}
use Rattle.std.proofs.lemmas.List.Sums.{prefix_len-le-length}
use Rattle.cilk_lex_tokens.specs.declared.fault.LexFault.TheVariants.{BadDirective}
use Rattle.cilk_lex_tokens.specs.declared.header.Header.{Header}
use Rattle.cilk_lex_tokens.specs.declared.token.TokenKind.TheVariants as kind
use Rattle.cilk_lex_tokens.specs.Byte.{is_line_blank, continues_name, continues_header, opens_header}
use Rattle.cilk_lex.specs.Sight.{amiss, ends_line, closes, closed_at, all_headers, header_among, header_at, behind_word, word_at, include_in}
use Rattle.cilk_lex.specs.Sight.{include_shown, include_sight}
use Rattle.cilk_lex_tokens.specs.Spelling.{header_spelling, closing_of}
use Rattle.cilk_lex.proofs.Inclusions.{header_again, no_header}
use Rattle.cilk_lex.specs.Front.{IsSeen}

-- ---- the header's name

pub closes_behind : (q a : ℕ) (t rest : List ℕ) → t ≡ a ∷ rest → closes q t ≡ ((a == closing_of q) && ends_line rest)
unfolding closes
closes_behind q a t rest e = rw e refl

pub closes_nothing : (q : ℕ) (t : List ℕ) → length t ≡ 0 → closes q t ≡ false
unfolding closes
closes_nothing q [] l = refl
closes_nothing q (b ∷ bs) l = absurd (omega (arith, l))

pub no_header_here : (i : ℕ) (t : List ℕ) → length t ≡ 0 → header_at i t ≡ None
unfolding header_at
no_header_here i [] l = refl
no_header_here i (b ∷ bs) l = absurd (omega (arith, l))

module _ (i q : ℕ) (t rest : List ℕ) (e : t ≡ q ∷ rest) where
  pub not_opened : opens_header q ≡ false → header_at i t ≡ None
  unfolding header_at
  not_opened h = rw (e, h) refl

  module _ (name behind : List ℕ) (h : opens_header q ≡ true) (n : name ≡ take (prefix_len continues_header rest) rest)
      (b : behind ≡ drop (prefix_len continues_header rest) rest) where
    pub no_name : ((k : Header) → name ≢ header_spelling k) → header_at i t ≡ None
    unfolding header_at closed_at
    no_name k = rw (e, h, ← n, no_header name k) refl

    shown : (c : Bool) (k : Header) (m j : ℕ) → m ≡ j → cond {A = Option (Header × ℕ)} c (Some (k, m)) None ≡ then_some c (k, j)
    shown true k m j e = ap (λ (x : ℕ). Some (k, x)) e
    shown false k m j e = refl

    pub a_name : (k : Header) → name ≡ header_spelling k → header_at i t ≡ then_some (closes q behind) (k, i + 2 + length name)
    unfolding header_at closed_at
    a_name k s =
        let l : length name ≡ prefix_len continues_header rest = ap length n
        ∙ length-take-le (prefix_len continues_header rest) rest (prefix_len-le-length continues_header rest) in
        rw (e, h, ← n, ap (header_among all_headers) s ∙ header_again k, ← b) (shown (closes q behind) k _ _ (omega (arith, l)))

-- ---- the line

module _ (t before rest word more : List ℕ) (b : before ≡ take (prefix_len is_line_blank t) t) (r : rest ≡ drop (prefix_len is_line_blank t) t)
    (w : word ≡ take (prefix_len continues_name rest) rest) (m : more ≡ drop (prefix_len continues_name rest) rest) where
  cut_length : (class : ℕ → Bool) (u v : List ℕ) → u ≡ take (prefix_len class v) v → prefix_len class v ≡ length u
  cut_length class u v e = sym (ap length e ∙ length-take-le (prefix_len class v) v (prefix_len-le-length class v))

  pub no_word : bytes_eq word (codes "include") ≡ false → include_in t ≡ None
  unfolding include_in word_at
  no_word e = rw (← r, ← w, e) refl

  pub behind_word_at : (between last : List ℕ) → bytes_eq word (codes "include") ≡ true
      → between ≡ take (prefix_len is_line_blank more) more → last ≡ drop (prefix_len is_line_blank more) more
      → include_in t ≡ header_at (1 + length before + length word + length between) last
  unfolding include_in word_at behind_word
  behind_word_at between last e f g =
      rw (← r, ← w, e, ← m, ← g, cut_length is_line_blank before t b, cut_length continues_name word rest w, cut_length is_line_blank between more f) refl

-- ---- the front of the text

module _ (text line : List ℕ) (at : ℕ) (e : text ≡ codes "#" ++ line) where
  pub not_fresh : include_sight false at text ≡ amiss (BadDirective at)
  unfolding include_sight include_shown
  not_fresh = refl

  pub not_included : None ≡ include_in line → include_sight true at text ≡ amiss (BadDirective at)
  unfolding include_sight include_shown
  not_included i = rw (e, ← i) refl

  pub is_included : (h : Header) (n : ℕ) → Some (h, n) ≡ include_in line
      → IsSeen text (include_sight true at text) (record { kind = Some (kind.Include h); end = n })
  unfolding include_sight include_shown
  is_included h n i = rw (e, ← i) refl
