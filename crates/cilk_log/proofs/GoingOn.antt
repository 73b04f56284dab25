-- How the lines behind the first choices go on.
use Rattle.std.proofs.Common.{◌≡◌, ℕ, ◌+◌, Bool, true, false, cond, List, [], ◌∷◌, ◌++◌, length, Some, None, Result, Err, refl, ap, append_assoc, eq-eqb}
use Rattle.std.specs.Prelude.{◌==◌}
use Rattle.cilk_sched.specs.model.Choice.{Choice}
use Rattle.cilk_log.specs.Reading.{Lines, lines_of, behind_byte, Fault, wrong_line, told_in, choice_in, count_in, closed, counted, ended}

-- behind these choices
abbrev pub goes_on : List Choice → Lines → Result (List Choice) Fault
goes_on choices lines =
    ended (length (choices ++ (told_in lines.whole).choices) + 3) (choices ++ (told_in lines.whole).choices) (told_in lines.whole).others lines.rest

pub append_nil : {A : Type 0} (l : List A) → l ++ [] ≡ l
append_nil [] = refl
append_nil (x ∷ l) = ap (λ r. x ∷ r) (append_nil l)

pub another : (choices : List Choice) (lines more : Lines) (line : List ℕ) (choice : Choice) → lines.whole ≡ line ∷ more.whole → lines.rest ≡ more.rest
    → choice_in line ≡ Some choice → goes_on choices lines ≡ goes_on (choices ++ choice ∷ []) more
another choices lines more line choice w r e = rw (w, r, e, append_assoc) refl

pub last : (choices : List Choice) (lines more : Lines) (line : List ℕ) → lines.whole ≡ line ∷ more.whole → lines.rest ≡ more.rest → choice_in line ≡ None
    → goes_on choices lines ≡ counted (count_in line) (length choices + 3) more.whole more.rest choices
last choices lines more line w r e = rw (w, r, e, append_nil choices) refl

at_byte : (number b : ℕ) (choices : List Choice) (whole : List (List ℕ)) (rest : List ℕ) (c : Bool)
    → closed number (cond c (record { whole = [] ∷ whole; rest = rest }) (behind_byte b whole rest)).whole
    (cond c (record { whole = [] ∷ whole; rest = rest }) (behind_byte b whole rest)).rest choices ≡ Err (wrong_line (number + 1))
at_byte number b choices whole rest true = refl
at_byte number b choices [] rest false = refl
at_byte number b choices (line ∷ whole) rest false = refl

more_behind : (number : ℕ) (bs : List ℕ) (choices : List Choice) → false ≡ (length bs == 0)
    → closed number (lines_of bs).whole (lines_of bs).rest choices ≡ Err (wrong_line (number + 1))
more_behind number [] choices h = absurd cc
more_behind number (b ∷ bs) choices h = at_byte number b choices (lines_of bs).whole (lines_of bs).rest (b == 10)

pub counted_more : (line : List ℕ) (told count number : ℕ) (behind : List ℕ) (choices : List Choice) → Some told ≡ count_in line → told ≡ count
    → false ≡ (length behind == 0) → length choices ≡ count
    → counted (count_in line) number (lines_of behind).whole (lines_of behind).rest choices ≡ Err (wrong_line (number + 1))
counted_more line told count number behind choices e t h l = rw (← e, t, l, eq-eqb count count refl) (more_behind number behind choices h)
