-- One worker has nothing to draw: its runs are alike, whatever their seeds are.
use Rattle.std.proofs.Common.{◌≡◌, ◌+◌, ◌<◌, ◌∙◌, arith, refl, sym, ap, ℕ, zero, suc, Bool, true, false, cond, ◌||◌}
use Rattle.std.proofs.Common.{List, [], ◌∷◌, length}
use Rattle.std.specs.Global.{Vec}
use Rattle.std.specs.Prelude.{Option, Some, None, Result, Ok, Err, IfOk, if◌then◌else◌}
use Rattle.cilk_run.specs.labelled.Labelled.{Labelled}
use Rattle.cilk_run.specs.model.Choice.{Choice, step, pop, steal}
use Rattle.cilk_run.specs.model.Run.{Standing, after, next_of, opening}
use Rattle.cilk_run.specs.step.Private.{is_private}
use Rattle.cilk_run.specs.Drawn.{Turn, turn, can, can_move, movers, one_of, state_behind, turn_of_worker, turn_among, drawn_by, drawn_from, drawn_in, drawn}
use Rattle.cilk_run.specs.Tallied.{Outcome, Row, outcome_at, outcome_of, outcomes_from, tally}
use Rattle.cilk_run.specs.Tallying.{added, new_row, rows_by}
use Rattle.cilk_run.specs.declared.row.Row as code
use Rattle.cilk_run.proofs.Bumps.{same-self, tally-step}

module _ (program : Labelled) where
  -- what is drawn behind a turn
  abbrev behind : ℕ → Standing → Turn → List Choice
  behind k at t = drawn_from program 1 k (next_of program at t.choice) t.choice.worker t.state

  abbrev Alike : ℕ → Type 0
  Alike k = (at : Standing) (last s z : ℕ) → drawn_from program 1 k at last s ≡ drawn_from program 1 k at last z

  behind-alike : (k : ℕ) → Alike k → (at : Standing) (t u : Turn) → t.choice ≡ u.choice → t.choice ∷ behind k at t ≡ u.choice ∷ behind k at u
  behind-alike k alike at t u same =
      ap (λ (c : Choice). c ∷ drawn_from program 1 k (next_of program at c) c.worker t.state) same
      ∙ ap (λ choices. u.choice ∷ choices) (alike (next_of program at u.choice) u.choice.worker t.state u.state)

  -- what worker 1 does, by what it may do
  abbrev made : Bool → Bool → Bool → ℕ → Turn
  made steps pops steals s =
      if steps then turn 1 step s
      else (if pops then turn 1 pop s
      else turn 1 (steal (one_of (cond steals (1 ∷ []) []) s)) (state_behind (cond steals (1 ∷ []) []) s))

  made-alike : (steps pops steals : Bool) (s z : ℕ) → (made steps pops steals s).choice ≡ (made steps pops steals z).choice
  made-alike true pops steals s z = refl
  made-alike false true steals s z = refl
  made-alike false false true s z = refl
  made-alike false false false s z = refl

  worker-alike : (at : Standing) (s z : ℕ) → (turn_of_worker program 1 at s 1).choice ≡ (turn_of_worker program 1 at z 1).choice
  worker-alike at s z = made-alike (can program at 1 step) (can program at 1 pop) (can program at 1 (steal 1)) s z

  among-alike : (k : ℕ) → Alike k → (at : Standing) (s z : ℕ) (moves : Bool)
      → drawn_by (behind k at) (turn_among program 1 at s (cond moves (1 ∷ []) []))
      ≡ drawn_by (behind k at) (turn_among program 1 at z (cond moves (1 ∷ []) []))
  among-alike k alike at s z true =
      behind-alike k alike at (turn_of_worker program 1 at s 1) (turn_of_worker program 1 at z 1) (worker-alike at s z)
  among-alike k alike at s z false = refl

  choices-alike : (k : ℕ) → Alike k
  choices-alike zero at last s z = refl
  choices-alike (suc k) at last s z = go (choices-alike k) (is_private program at last)
    where
      go : Alike k → (private : Bool)
          → drawn_by (behind k at) (if private then Some (turn last step s) else turn_among program 1 at s (movers program 1 at))
          ≡ drawn_by (behind k at) (if private then Some (turn last step z) else turn_among program 1 at z (movers program 1 at))
      go alike true = behind-alike k alike at (turn last step s) (turn last step z) refl
      go alike false = among-alike k alike at s z (can_move program 1 at 1)

  drawn-alike : (limit s z : ℕ) → drawn program 1 s limit ≡ drawn program 1 z limit
  drawn-alike limit s z = go program.main
    where
      go : (main : Option ℕ) → drawn_in program 1 s limit main ≡ drawn_in program 1 z limit main
      go None = refl
      go (Some main) = choices-alike limit (opening program main 1) 1 s z

  outcome-alike : (limit s z : ℕ) → outcome_of program 1 limit s ≡ outcome_of program 1 limit z
  outcome-alike limit s z = ap (λ choices. outcome_at program (after program 1 choices)) (drawn-alike limit s z)

-- one run more has the outcome of the only row
counted : (o : Outcome) (count seed at : ℕ)
    → added o at (record { outcome = o; count = count; first = seed } ∷ []) ≡ record { outcome = o; count = count + 1; first = seed } ∷ []
counted o count seed at = λ i.
    (if same-self o i then record { outcome = o; count = count + 1; first = seed } else record { outcome = o; count = count; first = seed })
    ∷ new_row (same-self o i || false) o at

-- so many runs of one worker have one row
tally-alone : (program : Labelled) (limit seed k : ℕ)
    → tally seed (outcomes_from program 1 limit seed (suc k)) ≡ record { outcome = outcome_of program 1 limit seed; count = suc k; first = seed } ∷ []
tally-alone program limit seed zero =
    let alike = outcome-alike program limit (seed + 0) seed in
    let first_is : seed + 0 ≡ seed = omega arith in
    tally-step seed [] (outcome_of program 1 limit (seed + 0)) ∙ (λ i. record { outcome = alike i; count = 1; first = first_is i } ∷ [])
tally-alone program limit seed (suc k) =
    let runs = outcomes_from program 1 limit seed (suc k) in
    let o = outcome_of program 1 limit seed in
    let more : suc k + 1 ≡ suc (suc k) = omega arith in
    tally-step seed runs (outcome_of program 1 limit (seed + suc k))
    ∙ (λ i. added (outcome-alike program limit (seed + suc k) seed i) (seed + length runs) (tally-alone program limit seed k i))
    ∙ counted o (suc k) seed (seed + length runs)
    ∙ (λ i. record { outcome = o; count = more i; first = seed } ∷ [])

-- the rows of all the runs, by the only one that is made
alone-told : (program : Labelled) (workers limit seed runs first : ℕ) (o : Outcome) (rows : List Row) → workers ≡ 1 → 0 < runs → first ≡ seed
    → o ≡ outcome_of program workers limit first → rows ≡ record { outcome = o; count = runs; first = first } ∷ []
    → rows ≡ tally seed (outcomes_from program workers limit seed runs)
alone-told program workers limit seed zero first o rows alone some from is told = absurd (omega (arith, some))
alone-told program workers limit seed (suc k) first o rows alone some from is told =
    told
    ∙ (λ i. record { outcome = (is ∙ (λ j. outcome_of program (alone j) limit (from j))) i; count = suc k; first = from i } ∷ [])
    ∙ sym (tally-alone program limit seed k)
    ∙ ap (λ w. tally seed (outcomes_from program w limit seed (suc k))) (sym alone)

pub alone-ok : {E : Type 0} (program : Labelled) (workers limit seed runs first : ℕ) (o : Outcome) (result : Result (Vec code.Row) E)
    → workers ≡ 1 → 0 < runs → first ≡ seed → o ≡ outcome_of program workers limit first
    → IfOk result (λ rows. rows_by rows.items ≡ record { outcome = o; count = runs; first = first } ∷ [])
    → IfOk result (λ rows. rows_by rows.items ≡ tally seed (outcomes_from program workers limit seed runs))
alone-ok program workers limit seed runs first o (Ok rows) alone some from is told =
    alone-told program workers limit seed runs first o (rows_by rows.items) alone some from is told
alone-ok program workers limit seed runs first o (Err e) alone some from is told = tt
