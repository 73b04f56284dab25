-- Numbers that are told of a run are no greater than its events.
use Rattle.std.proofs.Common.{◌≡◌, ◌<◌, ◌≤◌, ◌+◌, ◌-◌, ◌^◌, ℕ, zero, suc, max, Bool, true, false, if◌then◌else◌, List, [], ◌∷◌, ◌++◌, length}
use Rattle.std.proofs.Common.{Option, Some, None}
use Rattle.std.proofs.Common.{sym, subst, arith}
use Rattle.cilk_log_replay.specs.machine.labelled.Labelled.{Labelled}
use Rattle.cilk_log_replay.specs.machine.model.Path.{Path, same_path}
use Rattle.cilk_log_replay.specs.machine.model.Event.{Event, acted, spawned, delivered, returned, ended, trapped, moved}
use Rattle.cilk_races.specs.Acts.{act_of}
use Rattle.cilk_races.specs.Inside.{Inside, outside, without_top, by_kind, by_act, by_entry, by_value, parent_path, inside_by, inside_from, inside_of}
use Rattle.cilk_races.specs.Steps.{Step, listed, step_of, steps_from, steps_of}
use Rattle.cilk_races.specs.Span.{Ranked, follows, top, ranked, ranked_from, all_ranked}
use Rattle.cilk_races.proofs.Tops.{if_so, top-push}
use Rattle.cilk_races.specs.Cells.{next}

pub next-is : (n : ℕ) → n < 2 ^ 64 - 1 → next n ≡ suc n
next-is n h = omega (arith, h)

-- a body more for each event, at most
top-less : (n : ℕ) (o : Option Path) → (without_top n o).above ≤ n
top-less zero o = omega arith
top-less (suc zero) o = omega arith
top-less (suc (suc n)) o = omega arith

kind-less : (a b : Bool) (i : Inside) → (by_kind a b i).above ≤ suc i.above
kind-less true b i = let low = top-less i.above i.taking in omega (arith, low)
kind-less false true i = omega arith
kind-less false false i = omega arith

entry-less : (b : Bool) (c : Path) (i : Inside) → (by_entry b c i).above ≤ suc i.above
entry-less true c i = omega arith
entry-less false c i = omega arith

if-less : (b : Bool) (x i : Inside) → x.above ≤ suc i.above → (if b then x else i).above ≤ suc i.above
if-less true x i h = h
if-less false x i h = omega arith

pub by-less : (program : Labelled) (p : Path) (e : Event) (i : Inside) → (inside_by program p e i).above ≤ suc i.above
by-less program p (acted q n) i = if-less (same_path q p) (by_act (act_of program n) i) i (kind-less _ _ i)
by-less program p (spawned c n) i = omega arith
by-less program p (delivered c n) i = if-less (same_path (parent_path c) p) (by_value (act_of program n) c i) i (entry-less _ c i)
by-less program p (returned q n) i = omega arith
by-less program p (ended q) i = omega arith
by-less program p (trapped kind q n) i = omega arith
by-less program p moved i = omega arith

from-less : (program : Labelled) (p : Path) (events : List Event) (i : Inside) → (inside_from program p events i).above ≤ i.above + length events
from-less program p [] i = omega arith
from-less program p (e ∷ events) i =
    let one = by-less program p e i in
    let rest = from-less program p events (inside_by program p e i) in
    omega (arith, one, rest)

pub above-fits : (program : Labelled) (events : List Event) (p : Path) → (inside_of program events p).above ≤ length events
above-fits program events p = let h = from-less program p events outside in omega (arith, h)

-- a step for each event, at most
one-listed : (o : Option Step) → length (listed o) ≤ 1
one-listed None = omega arith
one-listed (Some s) = omega arith

steps_from-fits : (program : Labelled) (before events : List Event) → length (steps_from program before events) ≤ length events
steps_from-fits program before [] = omega arith
steps_from-fits program before (e ∷ events) =
    let o : Option Step = step_of program before e in
    let rest : List Step = steps_from program (before ++ e ∷ []) events in
    let sum : length (listed o ++ rest) ≡ length (listed o) + length rest = Rattle.std.proofs.Common.length-append (listed o) rest in
    let low = steps_from-fits program (before ++ e ∷ []) events in
    let one = one-listed o in
    omega (arith, sum, low, one)

pub steps-fit : (program : Labelled) (events : List Event) → length (steps_of program events) ≤ length events
steps-fit program events = steps_from-fits program [] events

-- a rank more for each step, at most
either-fits : (b : Bool) (k n x : ℕ) → x ≤ n → k ≤ suc n → max x (if_so b k) ≤ suc n
either-fits true k n x h g = omega (arith, h, g)
either-fits false k n x h g = omega (arith, h)

ranked_from-fit : (n : ℕ) (before : List Ranked) (steps : List Step) → ((f : Step → Bool) → top f before ≤ n)
    → (f : Step → Bool) → top f (ranked_from before steps) ≤ n + length steps
ranked_from-fit n before [] low f = let h = low f in omega (arith, h)
ranked_from-fit n before (s ∷ steps) low f =
    let own = low (follows s) in
    let more : (g : Step → Bool) → top g (before ++ ranked before s ∷ []) ≤ suc n =
    λ g. subst (λ k. k ≤ suc n) (sym (top-push g before (ranked before s)))
    (either-fits (g s) (suc (top (follows s) before)) n (top g before) (low g) (omega (arith, own))) in
    let rest = ranked_from-fit (suc n) (before ++ ranked before s ∷ []) steps more f in
    omega (arith, rest)

pub ranks-fit : (f : Step → Bool) (steps : List Step) → top f (all_ranked steps) ≤ length steps
ranks-fit f steps = let h = ranked_from-fit 0 [] steps (λ g. omega arith) f in omega (arith, h)
