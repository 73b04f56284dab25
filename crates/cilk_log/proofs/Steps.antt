-- The step of a worker of one digit in front of a text.
use Rattle.std.proofs.Common.{◌≡◌, ℕ, ◌+◌, ◌-◌, ◌<◌, ◌≤◌, List, [], ◌∷◌, ◌++◌, length, take, drop, sym, ◌∙◌, arith}
use Rattle.std.specs.Prelude.{codes, slice_index_or}
use Rattle.std.proofs.lemmas.Fmt.{decimal_digit}
use Rattle.std.proofs.lemmas.List.{take_all}
use Rattle.cilk_sched.specs.model.Choice.{step}
use Rattle.cilk_log.specs.Reading.{TellsFirst}
use Rattle.cilk_log.proofs.Breaks.{line_of_choice}

in_front : (worker : ℕ) (behind : List ℕ) → worker < 10
    → TellsFirst ((48 + worker) ∷ (codes " step\n" ++ behind)) (record { worker = worker; act = step }) behind
in_front worker behind small =
    rw (decimal_digit worker small) at
    (line_of_choice (record { worker = worker; act = step }) behind (record { worker = omega (arith, small); act = tt }))

pub at_front : (text behind : List ℕ) → 1 ≤ length text → 49 ≤ slice_index_or text 0 0 → slice_index_or text 0 0 ≤ 57
    → take (length text - 1) (drop 1 text) ≡ codes " step\n" ++ behind
    → TellsFirst text (record { worker = slice_index_or text 0 0 - 48; act = step }) behind
at_front [] behind some low high back = absurd (omega arith)
at_front (digit ∷ rest) behind some low high back =
    let all : take (length (digit ∷ rest) - 1) rest ≡ rest = take_all (length (digit ∷ rest) - 1) rest (omega arith) in
    let is : 48 + (digit - 48) ≡ digit = omega (arith, low) in
    rw (sym all ∙ back) (rw is at (in_front (digit - 48) behind (omega (arith, high))))
