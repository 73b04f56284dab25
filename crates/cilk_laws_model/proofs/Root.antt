-- The root lives as long as the program runs: no `abort` marks it.
use Rattle.std.proofs.Common.{◌≡◌, ℕ, ℤ, Bool, true, false, not, ◌&&◌, ◌||◌, List, [], ◌∷◌, Option, Some, None, refl, sym, ap, ◌∙◌}
use Rattle.std.proofs.Math.Bool.{or-true}
use Rattle.cilk_model.specs.labelled.Labelled.{Labelled}
use Rattle.cilk_model.specs.Path.{Path, same_path, parent_of, is_below}
use Rattle.cilk_model.specs.Instance.{Activation, Instance}
use Rattle.cilk_model.specs.State.{State, running, instance_at, is_live}
use Rattle.cilk_model.specs.Change.{resumed_to, after_return_to}
use Rattle.cilk_model.specs.Pick.{Step, waits, parks, goes_on, ends, spawns, step_of_live, step_of}
use Rattle.cilk_model.specs.Scheduler.{hand_of}
use Rattle.cilk_model.specs.Choice.{Act, step, pop, steal, Choice}
use Rattle.cilk_model.specs.Run.{Standing, Position, state_after, next_by_hand, next_by, after}
use Rattle.cilk_laws_model.proofs.Entries.{same-is}
use Rattle.cilk_model.proofs.Runs.{at_each}
use Rattle.cilk_laws_model.proofs.Possible.{possible}
use Rattle.cilk_laws_model.proofs.Rows.{Row, headless, locked, parked, stopping, going, writing, calling, leaving, answering, spawning, printing}
use Rattle.cilk_laws_model.proofs.Rows.{turning_lock, marking, returning, placing, taking, aborting, step_row}
use Rattle.cilk_laws_model.proofs.Live.{Lives, step_lives}
use Rattle.cilk_laws_model.proofs.Family.{not_root}
use Rattle.cilk_laws_model.proofs.Each.{Keeps, Each, found, act_each}

-- the root is not marked
abbrev Unmarked : Path → Instance → Type 0
Unmarked p i = p ≡ [] → i.aborted ≡ false

pub resumed_mark : (i : Instance) (below : List Activation) → (resumed_to i below).aborted ≡ i.aborted
resumed_mark i [] = refl
resumed_mark i (caller ∷ below) = refl

root_above : (p : Path) → is_below p [] ≡ false
root_above [] = refl
root_above (k ∷ p) = refl

not_marked : (p q : Path) → is_below p q ≡ true → q ≡ [] → ⊥
not_marked p q below e =
    let both : true ≡ false = sym below ∙ ap (is_below p) e ∙ root_above p in cc

keeps_unmarked : (program : Labelled) → Keeps program Unmarked
keeps_unmarked program = record {
  on = λ p i head z first stays h. h;
  filled = λ p i cell z h. h;
  entered = λ p i b zs awaits room h. h;
  left = λ p i h e. resumed_mark i i.below ∙ h e;
  waiting = λ p i deliveries h. h;
  counted = λ p i room h. h;
  marked = λ p q i below h e. absurd (not_marked p q below e);
  born = λ p k b zs aborted receiver e. absurd (not_root p k (sym e));
  root = λ main e. refl;
}

-- an end after which the program runs is no end of the root
abbrev EndsChild : Path → Step → Type 0
EndsChild p waits = Unit {0}
EndsChild p parks = Unit {0}
EndsChild p (goes_on t did) = Unit {0}
EndsChild p (ends t did) = t.outcome ≡ running → same_path [] p ≡ false
EndsChild p (spawns child t did) = Unit {0}

other_by : (p : Path) (b : Bool) → same_path [] p ≡ b → ([] ≡ p → ⊥) → b ≡ false
other_by p true same h = absurd (h (same-is [] p same))
other_by p false same h = refl

return_child : (s : State) (p : Path) (i : Instance) (z : ℤ) (o : Option Path) → parent_of p ≡ o
    → (after_return_to o s p i z).outcome ≡ running → same_path [] p ≡ false
return_child s p i z None e runs = cc
return_child s p i z (Some q) e runs =
    other_by p (same_path [] p) refl (λ root. let both : None ≡ Some q = ap parent_of root ∙ e in cc)

row_ends : {program : Labelled} {s : State} {p : Path} {i : Instance} {taken : Step} → Unmarked p i → Row program s p i taken → EndsChild p taken
row_ends h (headless first) = tt
row_ends h (locked head first lock) = tt
row_ends h (parked some) = tt
row_ends h (stopping n kind) = tt
row_ends h (going head z heads) = tt
row_ends h (writing head cell z heads) = tt
row_ends h (calling head awaits callee zs heads room) = tt
row_ends h (leaving n) = tt
row_ends h (answering n cell z) = tt
row_ends h (spawning head receiver callee zs heads few room) = tt
row_ends h (printing head bytes heads room) = tt
row_ends h (turning_lock head what k now heads becomes) = tt
row_ends h (marking head heads) = tt
row_ends {s = s} {p = p} {i = i} h (returning n z none lockless unmarked) = return_child s p i z (parent_of p) refl
row_ends h (placing oldest others cell z n takes) = tt
row_ends h (taking oldest others inlet zs n takes) = tt
row_ends {p = p} h (aborting aborted none) =
    λ runs. other_by p (same_path [] p) refl (λ root. let both : true ≡ false = sym aborted ∙ h (sym root) in cc)

live_ends : (program : Labelled) (s : State) (p : Path) → Each program Unmarked (keeps_unmarked program) s.instances → (o : Option Instance)
    → instance_at s.instances p ≡ o → EndsChild p (step_of_live program s p o)
live_ends program s p all None e = tt
live_ends program s p all (Some i) e =
    row_ends (found program Unmarked (keeps_unmarked program) s.instances p i all e) (step_row program s p i)

abbrev RootLives : State → Type 0
RootLives s = s.outcome ≡ running → is_live s.instances [] ≡ true

step_rooted : (s : State) (p : Path) (taken : Step) → is_live s.instances [] ≡ true → Lives s p taken → EndsChild p taken → RootLives (state_after s taken)
step_rooted s p waits root lives child runs = root
step_rooted s p parks root lives child runs = root
step_rooted s p (goes_on t did) root lives child runs = lives.live [] ∙ root
step_rooted s p (ends t did) root lives child runs =
    lives.live [] ∙ ap (λ b. not b && is_live s.instances []) (child runs) ∙ root
step_rooted s p (spawns c t did) root lives child runs =
    lives.live [] ∙ ap (λ b. same_path c [] || b) root ∙ or-true (same_path c [])

hand_rooted : (program : Labelled) (at : Standing) (w : ℕ) (o : Option Path) → at.state.outcome ≡ running
    → Each program Unmarked (keeps_unmarked program) at.state.instances → RootLives at.state → RootLives (next_by_hand program at w o).state
hand_rooted program at w None runs all root = root
hand_rooted program at w (Some p) runs all root =
    step_rooted at.state p (step_of program at.state p) (root runs) (step_lives program at.state p)
    (live_ends program at.state p all (instance_at at.state.instances p) refl)

act_rooted : (program : Labelled) (at : Standing) (w : ℕ) (act : Act) → at.state.outcome ≡ running
    → Each program Unmarked (keeps_unmarked program) at.state.instances → RootLives at.state → RootLives (next_by program at w act).state
act_rooted program at w step runs all root = hand_rooted program at w (hand_of at.scheduler.places w) runs all root
act_rooted program at w pop runs all root = root
act_rooted program at w (steal v) runs all root = root

pub root_lives : (program : Labelled) (n : ℕ) (choices : List Choice) (at : Position) → after program n choices ≡ Some at
    → at.standing.state.outcome ≡ running → is_live at.standing.state.instances [] ≡ true
root_lives program n choices at h =
    (at_each program (λ x. Each program Unmarked (keeps_unmarked program) x.state.instances × RootLives x.state)
    (λ x c free holds. (
      act_each program Unmarked (keeps_unmarked program) x c.worker c.act holds.0,
      act_rooted program x c.worker c.act (possible program x c free).runs holds.0 holds.1,
    )) n choices at (λ main e. (((λ root. refl), tt), λ runs. refl)) h).1
