-- Which choices may be possible behind a log, and a search at its start.
use Rattle.std.proofs.Common.{◌≡◌, ◌≤◌, ◌+◌, ℕ, List, [], ◌∷◌, ◌++◌, length, Option, Some, None, is_none, refl, sym, ap, ◌∙◌}
use Rattle.std.proofs.Common.{arith, if◌then◌else◌}
use Rattle.cilk_machine.specs.labelled.Labelled.{Labelled}
use Rattle.cilk_machine.specs.model.Choice.{Act, step, pop, steal, Choice, Refusal}
use Rattle.cilk_machine.specs.model.Run.{Position, after, refusal_of, one_more, position_after}
use Rattle.cilk_machine.proofs.runs_laws.model_laws.Runs.{after-push}
use Rattle.cilk_machine.proofs.runs_laws.Crew.{crew_stays}
use Rattle.cilk_machine.proofs.runs_laws.Hands.{steal_free}
use Rattle.cilk_machine.proofs.runs_laws.Possible.{possible}
use Rattle.cilk_machine.proofs.runs_laws.Stuck.{within}
use Rattle.cilk_machine.specs.explore.Ending.{IsOver}
use Rattle.cilk_machine.specs.explore.Search.{Known}
use Rattle.cilk_machine.proofs.explore_laws.Onward.{free_by}
use Rattle.cilk_explore.specs.LogLooking.{IsLooking, IsClosed, AreClosedBy, AreClosed}
use Rattle.cilk_explore.proofs.Fronts.{one-there}

module _ (program : Labelled) (n : ℕ) (log : List Choice) where
  -- where the last choice was made
  pub record From (choice : Choice) : Type 0 where
    pub before : Position
    pub leads : after program n log ≡ Some before
    pub free : refusal_of program before.standing choice ≡ None

  from_by : (choice : Choice) (at : Position) (o : Option Position) → after program n log ≡ o → one_more program choice o ≡ Some at → From choice
  from_by choice at None e h = cc
  from_by choice at (Some x) e h =
      record { before = x; leads = e; free = free_by (refusal_of program x.standing choice) (Some (position_after program x choice)) at h }

  pub made-from : (choice : Choice) (at : Position) → after program n (log ++ choice ∷ []) ≡ Some at → From choice
  made-from choice at h = from_by choice at (after program n log) refl (sym (after-push program n log choice) ∙ h)

  -- only a worker makes a choice
  pub worker-within : (choice : Choice) (at : Position) → after program n (log ++ choice ∷ []) ≡ Some at → (1 ≤ choice.worker) × (choice.worker ≤ n)
  worker-within choice at h =
      let from = made-from choice at h in
      let crew = crew_stays program n log from.before from.leads in
      let inside = within from.before.standing.scheduler.places choice.worker (possible program from.before.standing choice from.free).worker in
      (inside.0, omega (arith, crew, inside.1))

  -- and steals from one
  pub victim-within : (w v : ℕ) (at : Position) → after program n (log ++ record { worker = w; act = steal v } ∷ []) ≡ Some at → (1 ≤ v) × (v ≤ n)
  victim-within w v at h =
      let choice : Choice = record { worker = w; act = steal v } in
      let from = made-from choice at h in
      let crew = crew_stays program n log from.before from.leads in
      let act = (possible program from.before.standing choice from.free).act in
      let inside = within from.before.standing.scheduler.places v (steal_free from.before.standing.scheduler.places w v act).victim in
      (inside.0, omega (arith, crew, inside.1))

  -- what is made behind a log leads to where the choice leads from there
  pub made-to : (choice : Choice) (before at : Position) → after program n log ≡ Some before → after program n (log ++ choice ∷ []) ≡ Some at
      → (refusal_of program before.standing choice ≡ None) × (position_after program before choice ≡ at)
  made-to choice before at here h =
      let led : one_more program choice (Some before) ≡ Some at =
      ap (one_more program choice) (sym here) ∙ sym (after-push program n log choice) ∙ h in
      let free = free_by (refusal_of program before.standing choice) (Some (position_after program before choice)) at led in
      let both : Some (position_after program before choice) ≡ Some at =
      sym (ap (λ (o : Option Refusal). if is_none o then Some (position_after program before choice) else None) free) ∙ led in
      (free, cc)

  -- what holds of where a choice leads, if it is possible
  abbrev pub IfMade : (Position → Type 0) → Choice → Type 0
  IfMade P choice = (at : Position) → after program n (log ++ choice ∷ []) ≡ Some at → P at

  -- holds of each where none is possible
  pub over-made : (P : Position → Type 0) → ((at : Position) → after program n log ≡ Some at → IsOver program at.standing) → (choice : Choice) → IfMade P choice
  over-made P over choice at h =
      let from = made-from choice at h in
      absurd (over from.before from.leads choice from.free)

  -- of each choice of a worker, if of its step, its pop and each steal from a worker
  pub acts-made : (P : Position → Type 0) (w : ℕ) → IfMade P (record { worker = w; act = step }) → IfMade P (record { worker = w; act = pop })
      → ((v : ℕ) → 1 ≤ v → v ≤ n → IfMade P (record { worker = w; act = steal v })) → (act : Act) → IfMade P (record { worker = w; act = act })
  acts-made P w steps pops steals step = steps
  acts-made P w steps pops steals pop = pops
  acts-made P w steps pops steals (steal v) = λ at h.
      let inside = victim-within w v at h in
      steals v inside.0 inside.1 at h

  -- of each, if of those of each worker
  pub all-made : (P : Position → Type 0) → ((w : ℕ) → 1 ≤ w → w ≤ n → (act : Act) → IfMade P (record { worker = w; act = act })) → (choice : Choice)
      → IfMade P choice
  all-made P by choice at h =
      let inside = worker-within choice at h in
      by choice.worker inside.0 inside.1 choice.act at h

  pub closed-acts : (logs : List (List Choice)) (w : ℕ) → IsClosed program n logs log (record { worker = w; act = step })
      → IsClosed program n logs log (record { worker = w; act = pop })
      → ((v : ℕ) → 1 ≤ v → v ≤ n → IsClosed program n logs log (record { worker = w; act = steal v })) → AreClosedBy program n logs log w
  closed-acts logs = acts-made (λ (at : Position). Known program n logs at.standing (length log + 1))

  pub closed-all : (logs : List (List Choice)) → ((w : ℕ) → 1 ≤ w → w ≤ n → AreClosedBy program n logs log w) → AreClosed program n logs log
  closed-all logs = all-made (λ (at : Position). Known program n logs at.standing (length log + 1))

-- the log without choices alone
pub looks-first : (program : Labelled) (n : ℕ) (at : Position) → after program n [] ≡ Some at → IsLooking program n ([] ∷ []) 0 []
looks-first program n at leads = record {
  search = record {
    first = refl;
    leads = λ k log h. let one = one-there [] log k h in (at, ap (after program n) (sym one.1) ∙ leads);
    in_order = λ j k short long le hj hk.
        let one = one-there [] short j hj in
        let other = one-there [] long k hk in
        let size : length short ≡ 0 = ap length (sym one.1) in
        omega arith;
    closed = λ k log choice to lt h after. absurd (omega (arith, lt));
  };
  near = λ j log next hj hn.
      let one = one-there [] log j hj in
      let size : length log ≡ 0 = ap length (sym one.1) in
      omega arith;
  tells = record {
    looked = λ j entry h. cc;
    each = λ k log ending lt h leads. absurd (omega (arith, lt));
    once = λ i j one other hi hj same. cc;
  };
}
