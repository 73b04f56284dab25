-- Bytes of an input that are taken one part after the other.
use Rattle.std.proofs.Common.{◌≡◌, ℕ, ◌+◌, ◌<◌, ◌≤◌, true, not, Bool, false, cond, List, [], ◌∷◌, ◌++◌, length, take, drop, Option, Some, None, refl}
use Rattle.std.proofs.Common.{sym, ap, ◌∙◌, append_assoc, append-nil, arith, length-append, subst, suc, drop-cons, add-one, ◌-◌}
use Rattle.std.specs.Prelude.{◌==◌}
use Rattle.std.specs.List.{prefix_len, slice_range}
use Rattle.std.proofs.lemmas.List.{drop-take, drop-drop, length-take, take-append-drop, take_all, drop_all}
use Rattle.std.specs.Io.KnownBytes.{Consumes, Keeps, IsAtEnd}
use Rattle.std.proofs.KnownBytes.{Consumes-kept, Consumes-nil, Consumes-trans}
use Rattle.std.proofs.lemmas.List.Folds.{list_all-append, length-prefix_len}
use Rattle.std.proofs.lemmas.List.Sums.{prefix_len_stops}
use Rattle.std.proofs.lemmas.Bool.Decides.{nat_tests}
use Rattle.cilk_debug_console.specs.Input.{longest, most_lines}
use Rattle.cilk_debug_console.specs.Taking.{ahead, Reading, IsPlain, TakesNext, IsLong, IsTooMany}
use Rattle.cilk_debug_console.specs.Parts.{EndsLine, UsesAll, IsOver, FailsAt, FailsIn, LineAsks}
use Rattle.std.specs.Prelude.{Result, Ok, Err, IfOk}
use Rattle.cilk_debug_console.specs.declared.next.NextLine.{NextLine}
use Rattle.cilk_debug_console.specs.declared.next.NextLine.TheVariants.{Line, Last, End}
use Rattle.cilk_debug_console.specs.declared.fault.InputFault.TheVariants.{Device, LineTooLong, TooManyLines}
use Rattle.cilk_debug_console.specs.declared.fault.LineFault.{LineFault}
use Rattle.cilk_debug_console.specs.declared.fault.LineFault.TheVariants.{Read, Memory}

-- some were taken, and more of those in hand
pub more : (old left : Option (List ℕ)) (unread line part rest : List ℕ) → unread ≡ part ++ rest → Consumes old (ahead unread left) line
    → Consumes old (ahead rest left) (line ++ part)
more None left unread line part rest is taken = tt
more (Some xs) None unread line part rest is taken = taken
more (Some xs) (Some ys) unread line part rest is taken =
    taken ∙ ap (λ u. line ++ (u ++ ys)) is ∙ ap (λ u. line ++ u) (append_assoc part rest ys) ∙ sym (append_assoc line part (rest ++ ys))

pub plain_more : (line part : List ℕ) → IsPlain line → IsPlain part → IsPlain (line ++ part)
plain_more line part p q = list_all-append (λ b. not (b == 10)) line part ∙ rw (p, q) refl

pub ends : (old left : Option (List ℕ)) (unread new line after : List ℕ) → EndsLine unread new line after
    → Consumes old (ahead unread left) line → Consumes old (ahead new left) (after ++ 10 ∷ [])
ends old left unread new line after part taken =
    let split : unread ≡ (part.part ++ 10 ∷ []) ++ new = part.split ∙ sym (append_assoc part.part (10 ∷ []) new) in
    let all : line ++ (part.part ++ 10 ∷ []) ≡ after ++ 10 ∷ [] = sym (append_assoc line part.part (10 ∷ [])) ∙ ap (λ l. l ++ 10 ∷ []) (sym part.line) in
    subst (Consumes old (ahead new left)) all (more old left unread line (part.part ++ 10 ∷ []) new split taken)

pub uses : (old left : Option (List ℕ)) (unread new line after : List ℕ) → UsesAll unread new line after
    → Consumes old (ahead unread left) line → Consumes old (ahead new left) after
uses old left unread new line after part taken =
    let split : unread ≡ unread ++ new = rw part.none (sym (append-nil unread)) in
    subst (Consumes old (ahead new left)) (sym part.line) (more old left unread line unread new split taken)

over : (old left : Option (List ℕ)) (unread line : List ℕ) → IsPlain line → Consumes old (ahead unread left) line → IsOver unread line → IsLong old
over old left unread line plain taken part = record {
  front = line ++ part.part;
  plain = plain_more line part.part plain part.plain;
  long = omega (arith, part.long, length-append line part.part);
  more = ahead part.rest left;
  taken = more old left unread line part.part part.rest part.split taken;
}

pub fails_part : (old left : Option (List ℕ)) (unread line : List ℕ) (why : LineFault) → IsPlain line
    → Consumes old (ahead unread left) line → FailsAt unread line why → FailsIn old left why
fails_part old left unread line (Read LineTooLong) plain taken at = over old left unread line plain taken at
fails_part old left unread line (Read Device) plain taken at = absurd at
fails_part old left unread line (Read TooManyLines) plain taken at = absurd at
fails_part old left unread line Memory plain taken at = tt

-- the bytes before the first newline
plain_at : (b : ℕ) (bytes : List ℕ) (n : ℕ) (c : Bool) → not (b == 10) ≡ c → IsPlain (take n bytes) → IsPlain (take (cond c (1 + n) 0) (b ∷ bytes))
plain_at b bytes n true e p = let one : 1 + n ≡ suc n = omega arith in rw (one, e) p
plain_at b bytes n false e p = refl

before_newline : (bytes : List ℕ) → IsPlain (take (prefix_len (λ b. not (b == 10)) bytes) bytes)
before_newline [] = refl
before_newline (b ∷ bytes) = plain_at b bytes (prefix_len (λ x. not (x == 10)) bytes) (not (b == 10)) refl (before_newline bytes)

at_newline : (b : ℕ) → not (b == 10) ≡ false → b ≡ 10
at_newline b e = grind (arith, nat_tests)

newline_behind : (bytes : List ℕ) → prefix_len (λ b. not (b == 10)) bytes < length bytes
    → drop (prefix_len (λ b. not (b == 10)) bytes) bytes ≡ 10 ∷ drop (prefix_len (λ b. not (b == 10)) bytes + 1) bytes
newline_behind bytes within =
    drop-cons bytes (prefix_len (λ b. not (b == 10)) bytes) 10 within
    ∙ rw (at_newline _ (prefix_len_stops (λ b. not (b == 10)) bytes 10 within), add-one (prefix_len (λ b. not (b == 10)) bytes)) refl

-- the bytes in hand are those from a start up to an end: more of them are skipped
pub skipped : (bytes : List ℕ) (start end count : ℕ) → start ≤ end → count ≤ length (slice_range bytes start end) → end ≤ length bytes
    → slice_range bytes (start + count) end ≡ drop count (slice_range bytes start end)
skipped bytes start end count first within last =
    let room : count ≤ end - start = omega (arith, within, length-take (end - start) (drop start bytes)) in
    let size : end - start ≡ count + (end - (start + count)) = omega arith in
    let left : take (end - (start + count)) (drop count (drop start bytes)) ≡ drop count (take (count + (end - (start + count))) (drop start bytes))
    = sym (drop-take count (end - (start + count)) (drop start bytes)) in
    ap (take (end - (start + count))) (sym (drop-drop count start bytes)) ∙ left ∙ ap (λ n. drop count (take n (drop start bytes))) (sym size)

-- ---- the bytes in hand up to the next newline, of which so many stand before it

abbrev pub newline_at : List ℕ → ℕ
newline_at bytes = prefix_len (λ b. not (b == 10)) bytes

pub too_long : (unread bytes line : List ℕ) (count : ℕ) → bytes ≡ unread → count ≡ newline_at bytes → length line ≤ longest
    → longest - length line < count → IsOver unread line
too_long unread bytes line count is counted short many = record {
  part = take (newline_at unread) unread;
  plain = before_newline unread;
  rest = drop (newline_at unread) unread;
  split = sym (take-append-drop (newline_at unread) unread);
  long =
      let same : count ≡ newline_at unread = counted ∙ ap newline_at is in
      let size : length (take (newline_at unread) unread) ≡ newline_at unread = length-prefix_len (λ b. not (b == 10)) unread in
      omega arith;
}

pub newline_found : (unread bytes new line after : List ℕ) (count skip : ℕ) → bytes ≡ unread → count ≡ newline_at bytes
    → length line ≤ longest → count ≤ longest - length line
    → after ≡ line ++ take count bytes → count < length bytes → skip ≡ count + 1 → new ≡ drop skip unread → EndsLine unread new line after
newline_found unread bytes new line after count skip is counted short room extended within skips left =
    let same : count ≡ newline_at unread = counted ∙ ap newline_at is in
    let inside : newline_at unread < length unread = rw (← same, ← is) within in
    let size : length (take (newline_at unread) unread) ≡ newline_at unread = length-prefix_len (λ b. not (b == 10)) unread in
    let rest : drop (newline_at unread) unread ≡ 10 ∷ new = newline_behind unread inside ∙ ap (λ n. 10 ∷ drop (n + 1) unread) (sym same)
    ∙ ap (λ n. 10 ∷ drop n unread) (sym skips) ∙ ap (λ t. 10 ∷ t) (sym left) in
    let all : after ≡ line ++ take (newline_at unread) unread = extended ∙ rw (same, is) refl in
    record {
      part = take (newline_at unread) unread;
      plain = before_newline unread;
      split = sym (take-append-drop (newline_at unread) unread) ∙ ap (λ t. take (newline_at unread) unread ++ t) rest;
      line = all;
      short = rw all (omega (arith, length-append line (take (newline_at unread) unread)));
    }

pub none_found : (unread bytes new line after : List ℕ) (count skip : ℕ) → bytes ≡ unread → count ≡ newline_at bytes → length line ≤ longest
    → count ≤ longest - length line
    → after ≡ line ++ take count bytes → length bytes ≤ count → skip ≡ count → new ≡ drop skip unread → UsesAll unread new line after
none_found unread bytes new line after count skip is counted short room extended past skips left =
    let whole : take count unread ≡ unread = take_all count unread (rw (← is) past) in
    let plain : IsPlain (take count unread) = rw (counted ∙ ap newline_at is) (before_newline unread) in
    let all : after ≡ line ++ unread = extended ∙ rw (is, whole) refl in
    let size : length (take (newline_at unread) unread) ≡ newline_at unread = length-prefix_len (λ b. not (b == 10)) unread in
    let same : count ≡ newline_at unread = counted ∙ ap newline_at is in
    let length_is : length unread ≡ count = (ap length (sym whole)) ∙ (rw same size) in
    record {
      plain = rw whole at plain;
      none = left ∙ drop_all skip unread (rw (skips, ← is) past);
      line = all;
      short = rw all (omega (arith, length-append line unread));
    }

-- ---- a line was taken

-- some byte is there
pub first_of : (old left : Option (List ℕ)) (unread : List ℕ) → Keeps old (ahead unread left) → 0 < length unread → (k : ℕ) → most_lines ≤ k → IsTooMany k old
first_of None left unread kept some k full = record { full = full; first = 0; more = None; taken = tt }
first_of (Some xs) None unread kept some k full = absurd kept
first_of (Some xs) (Some ys) [] kept some k full = absurd (omega (arith, some))
first_of (Some xs) (Some ys) (b ∷ unread) kept some k full = record { full = full; first = b; more = Some (unread ++ ys); taken = sym kept }

kept_before : (a b c : Option (List ℕ)) (bs : List ℕ) → Keeps a b → Consumes b c bs → Consumes a c bs
kept_before a b c bs kept taken = Consumes-trans a b c [] bs (Consumes-kept a a b [] (Consumes-nil a) kept) taken

-- a line behind k others, of which the first bytes were brought in hand
module _ (at now : Reading) (before mid left : Option (List ℕ)) (kept : Keeps (ahead at.unread before) mid) (room : at.taken < most_lines) where
  pub gives_line : (r : Result NextLine LineFault) (line : List ℕ) (has : Bool) → IfOk r (LineAsks line has) → now.taken ≡ suc at.taken
      → IsPlain line → length line ≤ longest
      → (has ≡ false → 0 < length line) → (has ≡ true → Consumes mid (ahead now.unread left) (line ++ 10 ∷ []))
      → (has ≡ false → Consumes mid (ahead now.unread left) line) → (has ≡ false → IsAtEnd (ahead now.unread left)) → IfOk r (TakesNext at now before left)
  gives_line (Err why) line has tells one plain short some whole last end = tt
  gives_line (Ok (Line command)) line true tells one plain short some whole last end = (
    record {
      line = line;
      is = record { plain = plain; short = short; room = room };
      asks = tells;
      taken = kept_before (ahead at.unread before) mid (ahead now.unread left) (line ++ 10 ∷ []) kept (whole refl);
    },
    one,
  )
  gives_line (Ok (Line command)) line false tells one plain short some whole last end = absurd tells
  gives_line (Ok (Last command)) line true tells one plain short some whole last end = absurd tells
  gives_line (Ok (Last command)) line false tells one plain short some whole last end = record {
    line = line;
    is = record { plain = plain; short = short; room = room };
    some = some refl;
    asks = tells;
    taken = kept_before (ahead at.unread before) mid (ahead now.unread left) line kept (last refl);
    end = end refl;
  }
  gives_line (Ok End) line true tells one plain short some whole last end = absurd tells
  gives_line (Ok End) line false tells one plain short some whole last end = absurd tells
