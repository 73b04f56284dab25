-- Choices that are drawn, one after another.
use Rattle.std.proofs.Common.{◌≡◌, ℕ, zero, suc, ◌+◌, ◌-◌, ◌<◌, ◌≤◌, Bool, true, false, List, [], ◌∷◌, ◌++◌, length, map, Option, Some, None, refl, sym, ap}
use Rattle.std.proofs.Common.{◌∙◌, subst, arith, append_assoc, if◌then◌else◌}
use Rattle.std.proofs.lemmas.List.{append-nil, length-map, length-append, map-append}
use Rattle.cilk_run.specs.locked.Histories.{Locked}
use Rattle.cilk_run.specs.Runs.{Stops}
use Rattle.std.specs.Prelude.{Result, Ok, Err, IfOk}
use Rattle.cilk_run.specs.choices.Words.{choice_of}
use Rattle.cilk_run.specs.labelled.Bodies.{label}
use Rattle.cilk_run.specs.labelled.Labelled.{Labelled}
use Rattle.cilk_run.specs.machine.Situation.{workers_of}
use Rattle.cilk_run.specs.machine.Stands.{Led, StandsAt, Opens}
use Rattle.cilk_run.specs.model.Run.{Standing, Position, is_crew, opening, after, after_main, next_of}
use Rattle.cilk_run.specs.syntax.Tree.{Program}
use Rattle.cilk_run.specs.Drawn.{Turn, turn_of, drawn_by, drawn_from, drawn_in, drawn}
use Rattle.cilk_run.specs.Drawing.{Draws, turn_with, Goes, Follows}
use Rattle.cilk_run.proofs.Halting.{not-limit, no-movers, crew-is}

-- where a program stands before any choice
opens_by : (program : Labelled) (n seed limit : ℕ) (x : Position) (o : Option ℕ) → after_main program n o [] ≡ Some x
    → drawn_from program n limit x.standing 1 seed ≡ drawn_in program n seed limit o
opens_by program n seed limit x None h = cc
opens_by program n seed limit x (Some main) h = by_crew (is_crew n) h
  where
    by_crew : (b : Bool) → (if b then Some (record { standing = opening program main n; events = [] }) else None) ≡ Some x
        → drawn_from program n limit x.standing 1 seed ≡ drawn_from program n limit (opening program main n) 1 seed
    by_crew true e =
        let same : record { standing = opening program main n; events = [] } ≡ x = cc in
        ap (λ (y : Position). drawn_from program n limit y.standing 1 seed) (sym same)
    by_crew false e = cc

pub follows-first : (p : Program) (n seed limit : ℕ) (l : Locked) (d : Draws) → l.machine.program ≡ p → workers_of l.machine ≡ n → l.history ≡ []
    → Opens l.machine → d ≡ record { workers = n; last = 1; state = seed } → Follows p n seed limit 0 l d
follows-first p n seed limit l d program crew none (at, led) is = record {
  program = program;
  crew = crew;
  workers = ap (λ (x : Draws). x.workers) is;
  count = ap length none;
  events = [];
  at = at;
  led = subst (λ h. Led l.machine (map choice_of h) [] at) (sym none) led;
  rest =
      let whole : limit - 0 ≡ limit = omega arith in
      let opened : after (label p) n [] ≡ Some (record { standing = at; events = [] }) =
      (λ i. after (label (sym program i)) (sym crew i) []) ∙ led.led in
      (λ i. map choice_of (none i) ++ drawn_from (label p) n (whole i) at (is i).last (is i).state)
      ∙ opens_by (label p) n seed limit (record { standing = at; events = [] }) (label p).main opened;
}

-- one choice more
next_drawn : (program : Labelled) (n : ℕ) (at : Standing) (last s j k : ℕ) (t : Turn) → k ≡ suc j → turn_of program n at last s ≡ Some t
    → drawn_from program n k at last s ≡ t.choice ∷ drawn_from program n j (next_of program at t.choice) t.choice.worker t.state
next_drawn program n at last s j k t more is =
    ap (λ m. drawn_from program n m at last s) more
    ∙ ap (drawn_by (λ x. drawn_from program n j (next_of program at x.choice) x.choice.worker x.state)) is

pub follows-next : (p : Program) (n seed limit k : ℕ) (old new : Locked) (before behind : Draws) → k < limit → Follows p n seed limit k old before
    → Goes old new before behind → Follows p n seed limit (k + 1) new behind
follows-next p n seed limit k old new before behind within f g =
    let choices = map choice_of old.history in
    let c = choice_of g.choice in
    let leads = g.made.leads choices f.events f.at f.led in
    let grown : map choice_of new.history ≡ choices ++ c ∷ [] = ap (map choice_of) g.history ∙ map-append choice_of old.history (g.choice ∷ []) in
    let same : next_of (label old.machine.program) f.at c ≡ next_of (label p) f.at c = ap (λ q. next_of (label q) f.at c) f.program in
    let more : limit - k ≡ suc (limit - (k + 1)) = omega (arith, within) in
    let there : StandsAt old.machine f.at = record { choices = choices; events = f.events; led = f.led } in
    let turn : turn_of (label p) n f.at before.last before.state ≡ Some (turn_with behind.state g.choice) =
    (λ i. turn_of (label (sym f.program i)) (sym f.workers i) f.at before.last before.state) ∙ g.is_drawn f.at there in
    record {
      program = g.made.program ∙ f.program;
      crew = g.made.workers ∙ f.crew;
      workers = g.workers ∙ f.workers;
      count = ap length g.history ∙ length-append old.history (g.choice ∷ []) ∙ ap (λ m. m + 1) f.count;
      events = f.events ++ g.did ∷ [];
      at = next_of (label old.machine.program) f.at c;
      led = subst (λ cs. Led new.machine cs (f.events ++ g.did ∷ []) (next_of (label old.machine.program) f.at c)) (sym grown) leads.led;
      rest =
          (λ i. grown i ++ drawn_from (label p) n (limit - (k + 1)) (same i) (g.last i) behind.state)
          ∙ append_assoc choices (c ∷ []) (drawn_from (label p) n (limit - (k + 1)) (next_of (label p) f.at c) g.choice.worker behind.state)
          ∙ ap (λ cs. choices ++ cs)
          (sym (next_drawn (label p) n f.at before.last before.state (limit - (k + 1)) (limit - k) (turn_with behind.state g.choice) more turn))
          ∙ f.rest;
    }

-- where the limit is reached, or no worker may do anything, none is left
none_left : (program : Labelled) (n : ℕ) (at : Standing) (last s k : ℕ) → turn_of program n at last s ≡ None → drawn_from program n k at last s ≡ []
none_left program n at last s zero is = refl
none_left program n at last s (suc k) is =
    ap (drawn_by (λ x. drawn_from program n k (next_of program at x.choice) x.choice.worker x.state)) is

pub all-drawn : (p : Program) (n seed limit : ℕ) (l : Locked) (d : Draws) → Follows p n seed limit limit l d
    → map choice_of l.history ≡ drawn (label p) n seed limit
all-drawn p n seed limit l d f =
    let none : limit - limit ≡ 0 = omega arith in
    sym (append-nil (map choice_of l.history))
    ∙ ap (λ k. map choice_of l.history ++ drawn_from (label p) n k f.at d.last d.state) (sym none)
    ∙ f.rest

module _ (p : Program) (n seed limit k : ℕ) (l : Locked) (d : Draws) (f : Follows p n seed limit k l d)
    (over : (at : Standing) → StandsAt l.machine at → turn_of (label l.machine.program) d.workers at d.last d.state ≡ None) where
  here : StandsAt l.machine f.at
  here = record { choices = map choice_of l.history; events = f.events; led = f.led }

  no_turn : turn_of (label p) n f.at d.last d.state ≡ None
  no_turn = (λ i. turn_of (label (sym f.program i)) (sym f.workers i) f.at d.last d.state) ∙ over f.at here

  pub over-drawn : map choice_of l.history ≡ drawn (label p) n seed limit
  over-drawn =
      sym (append-nil (map choice_of l.history))
      ∙ ap (λ cs. map choice_of l.history ++ cs) (sym (none_left (label p) n f.at d.last d.state (limit - k) no_turn))
      ∙ f.rest

  pub over-stops : k ≤ limit → Stops limit l.machine
  over-stops within = record {
    within = omega (arith, sym f.led.counted, length-map l.history choice_of, f.count, within);
    whole = λ at s ends. absurd (not-limit (label l.machine.program) d.workers at
        (no-movers (label l.machine.program) d.workers at d.last d.state (over at s)) (crew-is l.machine at s ∙ f.crew ∙ sym f.workers) ends);
  }

-- so many choices were made
pub full-stops : (p : Program) (n seed limit : ℕ) (l : Locked) (d : Draws) → Follows p n seed limit limit l d → Stops limit l.machine
full-stops p n seed limit l d f =
    let made : l.machine.choices ≡ limit = sym f.led.counted ∙ length-map l.history choice_of ∙ f.count in
    record { within = omega (arith, made); whole = λ at s ends. made }

-- a run has the choices of its history
-- what is so of all schedules that the choices may follow is so of the one that they do
pub followed-drawn : {E : Type 0} (p : Program) (n seed limit : ℕ) (l : Locked) (d : Draws) (result : Result Locked E) → Follows p n seed limit 0 l d
    → IfOk result (λ m. (q : Program) (k s : ℕ) → Follows q k s limit 0 l d → map choice_of m.history ≡ drawn (label q) k s limit)
    → IfOk result (λ m. map choice_of m.history ≡ drawn (label p) n seed limit)
followed-drawn p n seed limit l d (Ok m) follows all = all p n seed follows
followed-drawn p n seed limit l d (Err e) follows all = tt

pub followed-stops : {E : Type 0} (p : Program) (n seed limit : ℕ) (l : Locked) (d : Draws) (result : Result Locked E) → Follows p n seed limit 0 l d
    → IfOk result (λ m. (q : Program) (k s : ℕ) → Follows q k s limit 0 l d → Stops limit m.machine) → IfOk result (λ m. Stops limit m.machine)
followed-stops p n seed limit l d (Ok m) follows all = all p n seed follows
followed-stops p n seed limit l d (Err e) follows all = tt
