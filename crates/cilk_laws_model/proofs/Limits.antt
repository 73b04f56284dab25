-- No limit is passed.
use Rattle.std.proofs.Common.{◌≡◌, ℕ, ℤ, ◌^◌, ◌-◌, ◌≤◌, List, [], ◌∷◌, length, length-append, Option, Some, None, refl, arith}
use Rattle.cilk_model.specs.labelled.Labelled.{Labelled}
use Rattle.cilk_model.specs.Values.{Values, Cell}
use Rattle.cilk_model.specs.Path.{Path, parent_of}
use Rattle.cilk_model.specs.Instance.{Activation, Instance}
use Rattle.cilk_model.specs.State.{State, instance_at}
use Rattle.cilk_model.specs.Change.{outer_with, on_lowest, put, resumed_to, after_return_to}
use Rattle.cilk_model.specs.Pick.{Step, waits, parks, goes_on, ends, spawns, step_of_live, step_of}
use Rattle.cilk_model.specs.Scheduler.{hand_of}
use Rattle.cilk_model.specs.Choice.{Act, step, pop, steal, Choice}
use Rattle.cilk_model.specs.Run.{Standing, Position, state_after, next_by_hand, next_by, after}
use Rattle.cilk_laws_model.specs.Laws.{LimitsAreKept}
use Rattle.cilk_model.proofs.Runs.{at_each}
use Rattle.cilk_laws_model.proofs.Rows.{Row, headless, locked, parked, stopping, going, writing, calling, leaving, answering, spawning, printing}
use Rattle.cilk_laws_model.proofs.Rows.{turning_lock, marking, returning, placing, taking, aborting, step_row}
use Rattle.cilk_laws_model.proofs.Live.{Lives, step_lives}
use Rattle.cilk_laws_model.proofs.Each.{Keeps, held_at}

abbrev Within : Instance → Type 0
Within i = (length i.below ≤ 255) × (i.children ≤ 2 ^ 32 - 1)

lowest_size : (f : Values → Values) (below : List Activation) → length (on_lowest f below) ≡ length below
lowest_size f [] = refl
lowest_size f (a ∷ []) = refl
lowest_size f (a ∷ b ∷ below) = let rest = lowest_size f (b ∷ below) in omega arith

caller_within : (i : Instance) (below : List Activation) → Within i → length below ≤ 255 → Within (resumed_to i below)
caller_within i [] h size = h
caller_within i (caller ∷ below) h size = (omega arith, h.1)

filled_within : (i : Instance) (cell : Cell) (z : ℤ) → Within i → Within (put cell z i)
filled_within i cell z h =
    let size = lowest_size (outer_with cell.place cell.index z) i.below in
    let within = h.0 in
    (omega arith, h.1)

keeps_within : (program : Labelled) → Keeps program (λ p. Within)
keeps_within program = record {
  on = λ p i head z first stays h. h;
  filled = λ p. filled_within;
  entered = λ p i b zs awaits room h. (omega arith, h.1);
  left = λ p i h. caller_within i i.below h h.0;
  waiting = λ p i deliveries h. h;
  counted = λ p i room h. (h.0, omega arith);
  marked = λ p q i below h. h;
  born = λ p k b zs aborted receiver. (omega arith, omega arith);
  root = λ main. (omega arith, omega arith);
}

-- how much was printed, and how many live
abbrev Few : State → Type 0
Few s = (length s.output ≤ 1048576) × (length s.instances ≤ 65536)

few_live : (s : State) (p : Path) (taken : Step) → length s.instances ≤ 65536 → Lives s p taken → length (state_after s taken).instances ≤ 65536
few_live s p waits few lives = few
few_live s p parks few lives = few
few_live s p (goes_on t did) few lives = let same = lives.size in omega arith
few_live s p (ends t did) few lives = let fewer = lives.size in omega arith
few_live s p (spawns c t did) few lives =
    let more = lives.size in
    let room = lives.room in
    omega arith

return_prints : (s : State) (p : Path) (i : Instance) (z : ℤ) (o : Option Path) → length s.output ≤ 1048576
    → length (after_return_to o s p i z).output ≤ 1048576
return_prints s p i z None few = few
return_prints s p i z (Some q) few = few

row_prints : {program : Labelled} {s : State} {p : Path} {i : Instance} {taken : Step} → Row program s p i taken → length s.output ≤ 1048576
    → length (state_after s taken).output ≤ 1048576
row_prints (headless first) few = few
row_prints (locked head first lock) few = few
row_prints (parked some) few = few
row_prints (stopping n kind) few = few
row_prints (going head z heads) few = few
row_prints (writing head cell z heads) few = few
row_prints (calling head awaits callee zs heads room) few = few
row_prints (leaving n) few = few
row_prints (answering n cell z) few = few
row_prints (spawning head receiver callee zs heads some room) few = few
row_prints {s = s} (printing head bytes heads room) few = let size = length-append s.output bytes in omega arith
row_prints (turning_lock head what k now heads becomes) few = few
row_prints (marking head heads) few = few
row_prints {s = s} {p = p} {i = i} (returning n z none lockless unmarked) few = return_prints s p i z (parent_of p) few
row_prints (placing oldest others cell z n takes) few = few
row_prints (taking oldest others inlet zs n takes) few = few
row_prints (aborting aborted none) few = few

live_prints : (program : Labelled) (s : State) (p : Path) (o : Option Instance) → length s.output ≤ 1048576
    → length (state_after s (step_of_live program s p o)).output ≤ 1048576
live_prints program s p None few = few
live_prints program s p (Some i) few = row_prints (step_row program s p i) few

hand_few : (program : Labelled) (at : Standing) (w : ℕ) (o : Option Path) → Few at.state → Few (next_by_hand program at w o).state
hand_few program at w None few = few
hand_few program at w (Some p) few = (
  live_prints program at.state p (instance_at at.state.instances p) few.0,
  few_live at.state p (step_of program at.state p) few.1 (step_lives program at.state p),
)

act_few : (program : Labelled) (at : Standing) (w : ℕ) (act : Act) → Few at.state → Few (next_by program at w act).state
act_few program at w step few = hand_few program at w (hand_of at.scheduler.places w) few
act_few program at w pop few = few
act_few program at w (steal v) few = few

few_at : (program : Labelled) (n : ℕ) (choices : List Choice) (at : Position) → after program n choices ≡ Some at → Few at.standing.state
few_at program n choices at h =
    at_each program (λ x. Few x.state) (λ x c free few. act_few program x c.worker c.act few) n choices at (λ main e. (omega arith, omega arith)) h

pub limits_are_kept : LimitsAreKept
limits_are_kept program n choices at h =
    let few = few_at program n choices at h in
    let within = held_at program (λ q. Within) (keeps_within program) n choices at h in
    record {
      instances = few.1;
      children = λ p i live. (within p i live).1;
      activations = λ p i live. let size = (within p i live).0 in omega arith;
      output = few.0;
    }
