-- A text is its lines, each with its newline.
use Rattle.std.proofs.Common.{◌≡◌, ℕ, ◌^◌, ◌<◌, Bool, true, false, cond, not, List, [], ◌∷◌, ◌++◌, flat_map, decimal, refl, ap, ◌∙◌}
use Rattle.std.proofs.Common.{append_assoc, eqb-true, arith}
use Rattle.std.proofs.lemmas.Bool.{and_parts, and_from}
use Rattle.std.specs.Prelude.{◌==◌}
use Rattle.std.specs.Char.{is_ascii_digit}
use Rattle.std.specs.Str.{all_ascii_digits}
use Rattle.std.specs.List.{list_all, AllByRecursion}
use Rattle.std.proofs.lemmas.List.{length-append}
use Rattle.std.proofs.lemmas.List.Folds.{list_all-append}
use Rattle.std.proofs.lemmas.Bool.Decides.{nat_tests}
use Rattle.cilk_sched.specs.model.Choice.{Act, step, pop, steal, Choice}
use Rattle.cilk_log.specs.Choices.{ActFits, ChoiceFits, act_text, choice_text}
use Rattle.cilk_log.specs.Text.{with_newline}
use Rattle.cilk_log.specs.Reading.{Lines, lines_of, behind_byte, TellsFirst}
use Rattle.cilk_log.proofs.Acts.{choice_written}
use Rattle.cilk_log.proofs.Decimals.{decimal_digits}
use Rattle.cilk_log.proofs.Lines.{parted}

-- ---- the text of lines

is_other : (b : ℕ) → not (b == 10) ≡ true → (b == 10) ≡ false
is_other b h = grind (arith, nat_tests)

lines_line : (line more : List ℕ) → list_all (λ b. not (b == 10)) line ≡ true → lines_of (line ++ 10 ∷ more) ≡ parted line more
lines_line [] more p = refl
lines_line (b ∷ line) more p =
    let q = and_parts (not (b == 10)) (list_all (λ b. not (b == 10)) line) p in
    rw (is_other b q.0, lines_line line more q.1) refl

abbrev pub IsPlain : List ℕ → Type 0
IsPlain line = list_all (λ b. not (b == 10)) line ≡ true

pub lines_flat : (ls : List (List ℕ)) → AllByRecursion IsPlain ls → lines_of (flat_map with_newline ls) ≡ record { whole = ls; rest = [] }
lines_flat [] p = refl
lines_flat (line ∷ ls) p =
    let one : with_newline line ++ flat_map with_newline ls ≡ line ++ 10 ∷ flat_map with_newline ls = append_assoc line (10 ∷ []) (flat_map with_newline ls) in
    rw (one, lines_line line (flat_map with_newline ls) p.0, lines_flat ls p.1) refl

-- ---- the lines of a text

byte_text : (b : ℕ) (bs : List ℕ) (whole : List (List ℕ)) (rest : List ℕ) (c : Bool) → (b == 10) ≡ c → bs ≡ flat_map with_newline whole ++ rest
    → b ∷ bs ≡ flat_map with_newline (cond c (record { whole = [] ∷ whole; rest = rest }) (behind_byte b whole rest)).whole
    ++ (cond c (record { whole = [] ∷ whole; rest = rest }) (behind_byte b whole rest)).rest
byte_text b bs whole rest true e f = let t : b ≡ 10 = eqb-true b 10 e in cc
byte_text b bs [] rest false e f = ap (λ t. b ∷ t) f
byte_text b bs (line ∷ whole) rest false e f = ap (λ t. b ∷ t) f

pub text_of_lines : (bs : List ℕ) → bs ≡ flat_map with_newline (lines_of bs).whole ++ (lines_of bs).rest
text_of_lines [] = refl
text_of_lines (b ∷ bs) = byte_text b bs (lines_of bs).whole (lines_of bs).rest (b == 10) refl (text_of_lines bs)

-- ---- the line of a choice

digit_is_plain : (b : ℕ) → is_ascii_digit b ≡ true → not (b == 10) ≡ true
digit_is_plain b h = grind (arith, nat_tests)

digits_are_plain : (ds : List ℕ) → all_ascii_digits ds ≡ true → list_all (λ b. not (b == 10)) ds ≡ true
digits_are_plain [] e = refl
digits_are_plain (b ∷ ds) e =
    let p = and_parts (is_ascii_digit b) (all_ascii_digits ds) e in
    and_from (not (b == 10)) _ (digit_is_plain b p.0) (digits_are_plain ds p.1)

pub decimal_is_plain : (n : ℕ) → n < 2 ^ 64 → list_all (λ b. not (b == 10)) (decimal n) ≡ true
decimal_is_plain n h = digits_are_plain (decimal n) (decimal_digits n h)

act_is_plain : (act : Act) → ActFits act → list_all (λ b. not (b == 10)) (act_text act) ≡ true
act_is_plain step f = refl
act_is_plain pop f = refl
act_is_plain (steal victim) f = decimal_is_plain victim (omega arith)

pub choice_is_plain : (choice : Choice) → ChoiceFits choice → list_all (λ b. not (b == 10)) (choice_text choice) ≡ true
choice_is_plain choice f =
    list_all-append (λ b. not (b == 10)) (decimal choice.worker) (act_text choice.act)
    ∙ and_from _ _ (decimal_is_plain choice.worker (omega (arith, f.worker))) (act_is_plain choice.act f.act)

-- ---- a choice in front of a text

pub line_of_choice : (choice : Choice) (behind : List ℕ) → ChoiceFits choice → TellsFirst (choice_text choice ++ 10 ∷ behind) choice behind
line_of_choice choice behind f =
    let parts : lines_of (choice_text choice ++ 10 ∷ behind)
    ≡ parted (choice_text choice) behind = lines_line (choice_text choice) behind (choice_is_plain choice f) in
    record {
      line = choice_text choice;
      whole = ap (λ (l : Lines). l.whole) parts;
      rest = ap (λ (l : Lines). l.rest) parts;
      tells = choice_written choice f;
      shorter = rw (length-append (choice_text choice) (10 ∷ behind)) (omega arith);
    }
