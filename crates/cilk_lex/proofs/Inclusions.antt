-- Lines that include a header.
use Rattle.std.proofs.Common.{◌≡◌, ◌≢◌, ℕ, suc, ◌+◌, Bool, true, false, cond, ◌&&◌, List, [], ◌∷◌, ◌++◌, length, take, drop, codes, Option, Some}
use Rattle.std.proofs.Common.{None, refl, sym, ap, ◌∙◌, subst, arith, length-append, append_assoc}
use Rattle.std.specs.Prelude.{◌==◌, bytes_eq}
use Rattle.std.specs.List.{list_all, prefix_len}
use Rattle.std.proofs.lemmas.Bool.{eqb-true, eq-eqb, and_parts, and_from}
use Rattle.std.proofs.lemmas.Bool.Decides.{nat_tests}
use Rattle.std.proofs.lemmas.List.{take_at, drop_at, take-append-drop, length-take-le}
use Rattle.std.proofs.lemmas.List.Sums.{prefix_len-le-length}
use Rattle.std.proofs.lemmas.Slice.Eq.{bytes_eq-Decides}
use Rattle.cilk_lex_tokens.specs.declared.fault.LexFault.TheVariants.{BadDirective}
use Rattle.cilk_lex_tokens.specs.declared.header.Header.{Header}
use Rattle.cilk_lex_tokens.specs.declared.header.Header.TheVariants as head
use Rattle.cilk_lex_tokens.specs.Byte.{is_line_blank, is_line_end, continues_name, continues_header, opens_header}
use Rattle.cilk_lex_tokens.specs.Lexeme.{inclusion}
use Rattle.cilk_lex_tokens.specs.Lexing.{EndsBefore, AtLineEnd, EndsLine, of_include, bad_directive}
use Rattle.cilk_lex.specs.Sight.{all_headers, header_among, ends_line, closes, closed_at, header_at, behind_word, word_at, include_in}
use Rattle.cilk_lex.specs.Sight.{include_shown, include_sight, found, amiss}
use Rattle.cilk_lex_tokens.specs.Spelling.{header_spelling, closing_of, IsInclude}
use Rattle.cilk_lex.proofs.Runs.{run_passes, run_length}
use Rattle.cilk_lex.proofs.Shows.{Shows, shown_at}

-- ---- the end of the line

ends : (trailing more : List ℕ) → list_all is_line_end trailing ≡ true → AtLineEnd more → ends_line (trailing ++ more) ≡ true
unfolding ends_line
ends [] [] h e = refl
ends [] (b ∷ bs) h e = rw e refl
ends (b ∷ bs) more h e = let p = and_parts (is_line_end b) (list_all is_line_end bs) h in at (b == 10) (and_from (is_line_end b) _ p.0 (ends bs more p.1 e))
  where
    at : (c : Bool) → (is_line_end b && ends_line (bs ++ more)) ≡ true → cond c true (is_line_end b && ends_line (bs ++ more)) ≡ true
    at true k = refl
    at false k = k

pub line_seen : {rest : List ℕ} → EndsLine rest → ends_line rest ≡ true
line_seen e = rw (e.form) (ends e.trailing e.more e.blank e.at_end)

pub line_is : (rest : List ℕ) → ends_line rest ≡ true → EndsLine rest
unfolding ends_line
line_is [] h = record { trailing = []; more = []; blank = refl; at_end = tt; form = refl }
line_is (b ∷ bs) h = at (b == 10) refl h (line_is bs)
  where
    at : (c : Bool) → (b == 10) ≡ c → cond c true (is_line_end b && ends_line bs) ≡ true → (ends_line bs ≡ true → EndsLine bs) → EndsLine (b ∷ bs)
    at true e k r = record { trailing = []; more = b ∷ bs; blank = refl; at_end = eqb-true b 10 e; form = refl }
    at false e k r =
        let p = and_parts (is_line_end b) (ends_line bs) k in
        let q = r p.1 in
        record { trailing = b ∷ q.trailing; more = q.more; blank = and_from (is_line_end b) _ p.0 q.blank; at_end = q.at_end; form = ap (λ t. b ∷ t) q.form }

-- ---- the names of headers

header_passes : (h : Header) → list_all continues_header (header_spelling h) ≡ true
header_passes head.Cilk = refl
header_passes head.CilkLib = refl
header_passes head.CilkLibCilkh = refl
header_passes head.Stdio = refl
header_passes head.Stdlib = refl

pub header_again : (h : Header) → header_among all_headers (header_spelling h) ≡ Some h
unfolding header_among all_headers
header_again head.Cilk = refl
header_again head.CilkLib = refl
header_again head.CilkLibCilkh = refl
header_again head.Stdio = refl
header_again head.Stdlib = refl

header_is : (hs : List Header) (w : List ℕ) (h : Header) → header_among hs w ≡ Some h → w ≡ header_spelling h
unfolding header_among
header_is [] w h e = absurd cc
header_is (k ∷ hs) w h e = at (bytes_eq w (header_spelling k)) refl e (header_is hs w h)
  where
    at : (c : Bool) → bytes_eq w (header_spelling k) ≡ c → cond c (Some k) (header_among hs w) ≡ Some h
        → (header_among hs w ≡ Some h → w ≡ header_spelling h) → w ≡ header_spelling h
    at true t f r = let s : k ≡ h = cc in (bytes_eq-Decides w (header_spelling k)).0 t ∙ ap header_spelling s
    at false t f r = r f

pub no_header : (w : List ℕ) → ((h : Header) → w ≢ header_spelling h) → header_among all_headers w ≡ None
no_header w n = is (header_among all_headers w) refl
  where
    is : (r : Option Header) → header_among all_headers w ≡ r → header_among all_headers w ≡ None
    is (Some h) e = absurd (n h (header_is all_headers w h e))
    is None e = e

-- ---- what the rule says is computed

module _ (class : ℕ → Bool) (w rest : List ℕ) (p : list_all class w ≡ true) (e : EndsBefore class rest) where
  cut_len : prefix_len class (w ++ rest) ≡ length w
  cut_len = run_length class w rest p e

  cut_take : take (prefix_len class (w ++ rest)) (w ++ rest) ≡ w
  cut_take = take_at w rest _ (sym cut_len)

  cut_drop : drop (prefix_len class (w ++ rest)) (w ++ rest) ≡ rest
  cut_drop = drop_at w rest _ (sym cut_len)

closing_ends : (q : ℕ) → opens_header q ≡ true → continues_header (closing_of q) ≡ false
closing_ends q h = at (q == 60)
  where
    at : (c : Bool) → continues_header (cond c 62 34) ≡ false
    at true = refl
    at false = refl

opening_ends : (q : ℕ) → opens_header q ≡ true → is_line_blank q ≡ false
opening_ends q h = grind (arith, nat_tests)

opening_no_name : (q : ℕ) → opens_header q ≡ true → continues_name q ≡ false
opening_no_name q h = grind (arith, nat_tests)

blank_no_name : (b : ℕ) → is_line_blank b ≡ true → continues_name b ≡ false
blank_no_name b h = grind (arith, nat_tests)

word_ends : (between more : List ℕ) (q : ℕ) → list_all is_line_blank between ≡ true → opens_header q ≡ true → EndsBefore continues_name (between ++ (q ∷ more))
word_ends [] more q h o = opening_no_name q o
word_ends (b ∷ bs) more q h o = blank_no_name b (and_parts (is_line_blank b) (list_all is_line_blank bs) h).0

module _ (rest : List ℕ) (h : Header) (q : ℕ) (o : opens_header q ≡ true) (line : EndsLine rest) where
  -- the name of the header, with what closes it
  abbrev name_closed : List ℕ
  name_closed = header_spelling h ++ (closing_of q ∷ rest)

  header_seen : (i : ℕ) → header_at i (q ∷ name_closed) ≡ Some (h, 2 + i + length (header_spelling h))
  unfolding header_at closed_at closes
  header_seen i =
      let e = closing_ends q o in
      let w = header_spelling h in
      rw (
        o,
        cut_take continues_header w (closing_of q ∷ rest) (header_passes h) e,
        cut_drop continues_header w (closing_of q ∷ rest)
            (header_passes h) e,
        header_again h,
        eq-eqb (closing_of q) (closing_of q) refl,
        line_seen line,
      )
      (ap (λ (k : ℕ). Some (h, k)) (omega (arith, cut_len continues_header w (closing_of q ∷ rest) (header_passes h) e)))

  behind_seen : (i : ℕ) (between : List ℕ) → list_all is_line_blank between ≡ true
      → behind_word i (between ++ (q ∷ name_closed)) ≡ Some (h, 2 + i + length between + length (header_spelling h))
  unfolding behind_word
  behind_seen i w b =
      let e = opening_ends q o in
      rw (cut_drop is_line_blank w (q ∷ name_closed) b e)
      (header_seen _ ∙ ap (λ (k : ℕ). Some (h, k)) (omega (arith, cut_len is_line_blank w (q ∷ name_closed) b e)))

  word_seen : (i : ℕ) (between : List ℕ) → list_all is_line_blank between ≡ true
      → word_at i (codes "include" ++ (between ++ (q ∷ name_closed))) ≡ Some (h, 9 + i + length between + length (header_spelling h))
  unfolding word_at
  word_seen i w b =
      let e = word_ends w name_closed q b o in
      let v = codes "include" in
      rw (cut_take continues_name v (w ++ (q ∷ name_closed)) refl e, cut_drop continues_name v (w ++ (q ∷ name_closed)) refl e)
      (behind_seen _ w b ∙ ap (λ (k : ℕ). Some (h, k)) (omega (arith, cut_len continues_name v (w ++ (q ∷ name_closed)) refl e)))

  include_in_seen : (before between : List ℕ) → list_all is_line_blank before ≡ true → list_all is_line_blank between ≡ true
      → include_in (before ++ (codes "include" ++ (between ++ (q ∷ name_closed)))) ≡ Some (h, 10 + length before + length between + length (header_spelling h))
  unfolding include_in
  include_in_seen v w a b =
      let t = codes "include" ++ (w ++ (q ∷ name_closed)) in
      rw (cut_drop is_line_blank v t a refl) (word_seen _ w b ∙ ap (λ (k : ℕ). Some (h, k)) (omega (arith, cut_len is_line_blank v t a refl)))

-- ---- what is computed is what the rule says

record HeaderAt (i : ℕ) (t : List ℕ) (x : Header × ℕ) : Type 0 where
  opening : ℕ
  rest : List ℕ
  opens : opens_header opening ≡ true
  line : EndsLine rest
  form : t ≡ opening ∷ (header_spelling x.0 ++ (closing_of opening ∷ rest))
  long : x.1 ≡ 2 + i + length (header_spelling x.0)

found_is : (h : Header) (i : ℕ) (x : Header × ℕ) → ◌≡◌ {A = Option (Header × ℕ)} (Some (h, i)) (Some x) → (h ≡ x.0) × (i ≡ x.1)
found_is h i x e = let f : ◌≡◌ {A = Header × ℕ} (h, i) x = cc in (ap (λ (y : Header × ℕ). y.0) f, ap (λ (y : Header × ℕ). y.1) f)

closed_is : (q i : ℕ) (w more : List ℕ) (x : Header × ℕ) (r : Option Header) → opens_header q ≡ true → header_among all_headers w ≡ r
    → closed_at q (suc i + length w) r more ≡ Some x
    → HeaderAt i (q ∷ (w ++ more)) x
unfolding closed_at closes
closed_is q i w more x None o e c = absurd cc
closed_is q i w [] x (Some h) o e c = absurd cc
closed_is q i w (b ∷ bs) x (Some h) o e c = at ((b == closing_of q) && ends_line bs) refl c
  where
    at : (d : Bool) → ((b == closing_of q) && ends_line bs) ≡ d → cond d (Some (h, suc (suc i + length w))) None ≡ Some x → HeaderAt i (q ∷ (w ++ (b ∷ bs))) x
    at false t f = absurd cc
    at true t f =
        let p = and_parts (b == closing_of q) (ends_line bs) t in
        let y = found_is h _ x f in
        let s : w ≡ header_spelling x.0 = header_is all_headers w h e ∙ ap header_spelling y.0 in
        record {
          opening = q;
          rest = bs;
          opens = o;
          line = line_is bs p.1;
          form = rw (s, eqb-true b (closing_of q) p.0) refl;
          long = omega
              (arith, y.1, ap length s);
        }

header_at_is : (i : ℕ) (t : List ℕ) (x : Header × ℕ) → header_at i t ≡ Some x → HeaderAt i t x
unfolding header_at
header_at_is i [] x e = absurd cc
header_at_is i (q ∷ bs) x e = at (opens_header q) refl e
  where
    at : (c : Bool) → opens_header q ≡ c
        → cond c
        (closed_at q (suc i + prefix_len continues_header bs) (header_among all_headers (take (prefix_len continues_header bs) bs))
        (drop (prefix_len continues_header bs) bs)) None ≡ Some x
        → HeaderAt i (q ∷ bs) x
    at false o f = absurd cc
    at true o f =
        let n = prefix_len continues_header bs in
        let l : length (take n bs) ≡ n = length-take-le n bs (prefix_len-le-length continues_header bs) in
        let c : closed_at q (suc i + length (take n bs)) (header_among all_headers (take n bs)) (drop n bs) ≡ Some x = rw l f in
        subst (λ t. HeaderAt i (q ∷ t) x) (take-append-drop n bs) (closed_is q i (take n bs) (drop n bs) x _ o refl c)

record BehindAt (i : ℕ) (t : List ℕ) (x : Header × ℕ) : Type 0 where
  between : List ℕ
  tail : List ℕ
  blank : list_all is_line_blank between ≡ true
  header : HeaderAt (i + length between) tail x
  form : t ≡ between ++ tail

behind_is : (i : ℕ) (t : List ℕ) (x : Header × ℕ) → behind_word i t ≡ Some x → BehindAt i t x
unfolding behind_word
behind_is i t x e =
    let n = prefix_len is_line_blank t in
    let l : length (take n t) ≡ n = length-take-le n t (prefix_len-le-length is_line_blank t) in
    let c : header_at (i + length (take n t)) (drop n t) ≡ Some x = rw l e in
    record { between = take n t; tail = drop n t; blank = run_passes is_line_blank t; header = header_at_is _ _ x c; form = sym (take-append-drop n t) }

record WordAt (i : ℕ) (t : List ℕ) (x : Header × ℕ) : Type 0 where
  tail : List ℕ
  behind : BehindAt (7 + i) tail x
  form : t ≡ codes "include" ++ tail

word_is : (i : ℕ) (t : List ℕ) (x : Header × ℕ) → word_at i t ≡ Some x → WordAt i t x
unfolding word_at
word_is i t x e = at (bytes_eq (take (prefix_len continues_name t) t) (codes "include")) refl e
  where
    at : (c : Bool) → bytes_eq (take (prefix_len continues_name t) t) (codes "include") ≡ c
        → cond c (behind_word (i + prefix_len continues_name t) (drop (prefix_len continues_name t) t)) None ≡ Some x → WordAt i t x
    at false b f = absurd cc
    at true b f =
        let n = prefix_len continues_name t in
        let w = (bytes_eq-Decides (take n t) (codes "include")).0 b in
        let l : n ≡ 7 = sym (length-take-le n t (prefix_len-le-length continues_name t)) ∙ ap length w in
        let k : i + n ≡ 7 + i = omega (arith, l) in
        record {
          tail = drop n t;
          behind = behind_is _ _ x (subst (λ j. behind_word j (drop n t) ≡ Some x) k f);
          form = sym (take-append-drop n t)
              ∙ ap (λ v. v ++ drop n t) w;
        }

-- a line that includes a header, cut behind the header's name
pub record IncludeAt (t : List ℕ) (x : Header × ℕ) : Type 0 where
  pub bytes : List ℕ
  pub rest : List ℕ
  pub is : IsInclude bytes x.0
  pub line : EndsLine rest
  pub form : 35 ∷ t ≡ bytes ++ rest
  pub long : x.1 ≡ length bytes

pub include_is : (t : List ℕ) (x : Header × ℕ) → include_in t ≡ Some x → IncludeAt t x
unfolding include_in
include_is t x e =
    let n = prefix_len is_line_blank t in
    let before = take n t in
    let l : length before ≡ n = length-take-le n t (prefix_len-le-length is_line_blank t) in
    let w = word_is (1 + n) (drop n t) x e in
    let b = w.behind in
    let h = b.header in
    let name : List ℕ = header_spelling x.0 in
    let last : List ℕ = h.opening ∷ (name ++ (closing_of h.opening ∷ [])) in
    let line : List ℕ = before ++ (codes "include" ++ (b.between ++ last)) in
    let close : b.tail ≡ last ++ h.rest = h.form ∙ ap (λ t. h.opening ∷ t) (sym (append_assoc name (closing_of h.opening ∷ []) h.rest)) in
    let behind : w.tail ≡ (b.between ++ last) ++ h.rest = b.form ∙ ap (λ t. b.between ++ t) close ∙ sym (append_assoc b.between last h.rest) in
    let after : drop n t ≡ (codes "include" ++ (b.between ++ last)) ++ h.rest = w.form ∙ ap (λ t. codes "include" ++ t) behind in
    let all : t ≡ line ++ h.rest = sym (take-append-drop n t) ∙ ap (λ u. before ++ u) after
    ∙ sym (append_assoc before (codes "include" ++ (b.between ++ last)) h.rest) in
    record {
      bytes = 35 ∷ line;
      rest = h.rest;
      is =
          record {
            before = before;
            between = b.between;
            opening = h.opening;
            blank_before = run_passes is_line_blank t;
            blank_between = b.blank;
            opens = h.opens;
            form = refl;
          };
      line = h.line;
      form = ap (λ t. 35 ∷ t) all;
      long =
          omega (
            arith,
            h.long,
            l,
            length-append before (codes "include" ++ (b.between ++ last)),
            length-append b.between last,
            length-append name
                (closing_of h.opening ∷ []),
          );
    }

-- ---- the front of a text that begins with a `#`

pub include_seen : (at : ℕ) (w rest : List ℕ) (h : Header) → IsInclude w h → EndsLine rest
    → include_sight true at (w ++ rest) ≡ found (length w) (Some (inclusion h))
unfolding include_sight include_shown
include_seen at w rest h x line =
    let name = header_spelling h in
    let close : (name ++ (closing_of x.opening ∷ [])) ++ rest ≡ name ++ (closing_of x.opening ∷ rest) = append_assoc name (closing_of x.opening ∷ []) rest in
    let last : List ℕ = x.opening ∷ (name ++ (closing_of x.opening ∷ [])) in
    let behind : (x.between ++ last) ++ rest ≡ x.between ++ (x.opening ∷ (name ++ (closing_of x.opening ∷ rest))) =
    append_assoc x.between last rest ∙ ap (λ t. x.between ++ (x.opening ∷ t)) close in
    let all : w ++ rest ≡ 35 ∷ (x.before ++ (codes "include" ++ (x.between ++ (x.opening ∷ (name ++ (closing_of x.opening ∷ rest)))))) =
    ap (λ t. t ++ rest) x.form
    ∙ ap (λ t. 35 ∷ t)
    (append_assoc x.before (codes "include" ++ (x.between ++ last)) rest ∙ ap (λ t. x.before ++ (codes "include" ++ t)) behind) in
    let long : 10 + length x.before + length x.between + length name ≡ length w =
    omega (
      arith,
      ap length x.form,
      length-append x.before (codes "include" ++ (x.between ++ last)),
      length-append x.between last,
      length-append
          name (closing_of x.opening ∷ []),
    ) in
    rw (all, include_in_seen rest h x.opening x.opens line x.before x.between x.blank_before x.blank_between, long) refl

-- a `#` that begins no such line
pub directive_seen : (fresh : Bool) (at : ℕ) (text rest : List ℕ) → text ≡ codes "#" ++ rest
    → ((w more : List ℕ) (h : Header) → fresh ≡ true → text ≡ w ++ more → IsInclude w h → EndsLine more → ⊥)
    → include_sight fresh at text ≡ amiss (BadDirective at)
unfolding include_sight include_shown
directive_seen false at text rest e none = refl
directive_seen true at text rest e none = rw e (is (include_in rest) refl)
  where
    is : (r : Option (Header × ℕ)) → include_in rest ≡ r → include_shown at (include_in rest) ≡ amiss (BadDirective at)
    is None i = rw i refl
    is (Some x) i = let f = include_is rest x i in absurd (none f.bytes f.rest x.0 refl (e ∙ f.form) f.is f.line)

pub include_sees : (fresh : Bool) (at : ℕ) (t : List ℕ) → Shows fresh at (35 ∷ t) (include_sight fresh at (35 ∷ t))
unfolding include_sight include_shown
include_sees false at t = bad_directive t refl (λ w more h f. absurd cc) refl
include_sees true at t = is (include_in t) refl
  where
    clashes : (w more : List ℕ) (h : Header) → include_in t ≡ None → 35 ∷ t ≡ w ++ more → IsInclude w h → EndsLine more → ⊥
    clashes w more h i e x line =
        let n : include_sight true at (35 ∷ t) ≡ amiss (BadDirective at) = rw i refl in
        let f : amiss (BadDirective at) ≡ found (length w) (Some (inclusion h)) = sym n ∙ ap (include_sight true at) e ∙ include_seen at w more h x line in
        absurd cc

    is : (r : Option (Header × ℕ)) → include_in t ≡ r → Shows true at (35 ∷ t) (include_shown at r)
    is (Some x) i = let f = include_is t x i in shown_at true at x.1 (35 ∷ t) (of_include x.0 refl f.is f.line) f.form f.long
    is None i = bad_directive t refl (λ w more h f e x line. clashes w more h i e x line) refl
