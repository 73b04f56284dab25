-- Standings that are the same but for the names of the workers.
use Rattle.std.proofs.Common.{◌≡◌, ℕ, ◌+◌, ◌-◌, suc, cond, List, [], ◌∷◌, length, None, refl, sym, ap, subst, ◌∙◌, arith, slice_index_or}
use Rattle.std.proofs.Common.{IsPermutation}
use Rattle.std.specs.List.Sorted.{apply_swaps, SwapsInRange}
use Rattle.std.proofs.lemmas.List.Sorted.{IsPermutation-refl, IsPermutation-sym, IsPermutation-trans, sum_by-IsPermutation}
use Rattle.cilk_machine_agree.specs.labelled.Labelled.{Labelled}
use Rattle.cilk_machine_agree.specs.model.Scheduler.{Worker, no_place, worker_at}
use Rattle.cilk_machine_agree.specs.model.Choice.{Choice}
use Rattle.cilk_machine_agree.specs.model.Run.{Standing, refusal_of, next_of}
use Rattle.cilk_machine_agree.specs.runs.Hands.{times_held, Descends, worker_paths, EachInItsPlace}
use Rattle.cilk_machine_agree.specs.explore.Same.{Same}
use Rattle.cilk_machine_agree.specs.explore.Names.{exchanged, renamed, renamed_choice, SameButNames}
use Rattle.cilk_machine_agree.specs.explore.Laws.{DoesAsWell, SamenessButNamesIsKept}
use Rattle.cilk_machine_agree.proofs.explore.Standings.{same_again, same_turned, same_both, sameness_is_kept}
use Rattle.cilk_machine_agree.proofs.explore.Exchanges.{one_less, swap_there}
use Rattle.cilk_machine_agree.proofs.explore.Renaming.{moved_long, names_do_not_matter}
use Rattle.cilk_machine_agree.proofs.runs_laws.Crew.{act_size}

-- a worker has what another had
lines_moved : (places : List Worker) (moves : List (ℕ × ℕ)) → SwapsInRange (length places) moves → ((w : ℕ) → Descends (worker_paths (worker_at places w)))
    → (w : ℕ) → Descends (worker_paths (worker_at (apply_swaps places moves) w))
lines_moved places [] below lines w = lines w
lines_moved places (p ∷ moves) below lines w =
    let long = moved_long places moves in
    let one = below.0 in
    let other = below.1 in
    let before = apply_swaps places moves in
    let k = exchanged p (w - 1) in
    let is : worker_at before (suc k) ≡ worker_at (apply_swaps places (p ∷ moves)) w =
    ap (λ m. slice_index_or before m no_place) (one_less k) ∙ sym (swap_there before p.0 p.1 (w - 1) no_place (omega arith) (omega arith)) in
    subst (λ (x : Worker). Descends (worker_paths x)) is (lines_moved places moves below.2 lines (suc k))

pub renamed_placed : (at : Standing) (moves : List (ℕ × ℕ)) → SwapsInRange (length at.scheduler.places) moves → EachInItsPlace at
    → EachInItsPlace (renamed moves at)
renamed_placed at moves below placed = record {
  once = λ p.
      let held = sum_by-IsPermutation (times_held p) at.scheduler.places (apply_swaps at.scheduler.places moves)
      (record { moves = moves; below = below; is = refl }) in
      ap (λ n. n + cond (at.scheduler.parked p) 1 0) held ∙ placed.once p;
  family = placed.family;
  lines = lines_moved at.scheduler.places moves below placed.lines;
  parked = placed.parked;
}

-- what is the same has other names at most
pub same_names : (a b : Standing) → Same a b → SameButNames a b
same_names a b h =
    record { state = h.state; places = subst (λ (ps : List Worker). IsPermutation a.scheduler.places ps) h.places (IsPermutation-refl a.scheduler.places) }

pub names_again : (a : Standing) → SameButNames a a
names_again a = same_names a a (same_again a)

-- by exchanges of places it becomes the same
pub by_moves : (a b : Standing) → (h : SameButNames a b) → Same (renamed h.places.moves a) b
by_moves a b h = record { state = h.state; places = sym h.places.is }

pub names_turned : (a b : Standing) → SameButNames a b → SameButNames b a
names_turned a b h = record {
  state = (same_turned (renamed h.places.moves a) b (by_moves a b h)).state;
  places = IsPermutation-sym a.scheduler.places b.scheduler.places h.places;
}

pub names_both : (a b c : Standing) → SameButNames a b → SameButNames b c → SameButNames a c
names_both a b c h k =
    let beside : Standing = record c { scheduler = b.scheduler } in
    let all = same_both (renamed h.places.moves a) b beside (by_moves a b h) (record { state = k.state; places = refl }) in
    record {
      state = all.state;
      places = IsPermutation-trans a.scheduler.places b.scheduler.places c.scheduler.places h.places k.places;
    }

-- what leads on by other names
pub renamed_next : (program : Labelled) (at : Standing) (moves : List (ℕ × ℕ)) (c : Choice) → SwapsInRange (length at.scheduler.places) moves
    → SameButNames (next_of program at c) (renamed moves (next_of program at c))
renamed_next program at moves c below =
    let now = next_of program at c in
    record {
      state = (same_again now).state;
      places = record {
        moves = moves;
        below = subst (λ n. SwapsInRange n moves) (sym (act_size program at c.worker c.act)) below;
        is = refl;
      };
    }

names_onward : (program : Labelled) (a b : Standing) → EachInItsPlace a → EachInItsPlace b → SameButNames a b → (c : Choice)
    → refusal_of program a c ≡ None → DoesAsWell SameButNames program a b c
names_onward program a b placed laid h c free =
    let moves = h.places.moves in
    let mid = renamed moves a in
    let goes = names_do_not_matter program a moves h.places.below c in
    let alike = sameness_is_kept program mid b (renamed_placed a moves h.places.below placed) laid (by_moves a b h) (renamed_choice moves c) in
    let led : SameButNames (next_of program a c) (next_of program mid (renamed_choice moves c)) =
    subst (SameButNames (next_of program a c)) (sym (goes.next free)) (renamed_next program a moves c h.places.below) in
    record {
      other = renamed_choice moves c;
      free = sym alike.refusal ∙ goes.refusal ∙ free;
      event = sym alike.event ∙ goes.event free;
      next = names_both (next_of program a c) (next_of program mid (renamed_choice moves c)) (next_of program b (renamed_choice moves c)) led
          (same_names (next_of program mid (renamed_choice moves c)) (next_of program b (renamed_choice moves c)) alike.next);
    }

pub names_kept : SamenessButNamesIsKept
names_kept program = record {
  again = names_again;
  turned = names_turned;
  both = names_both;
  outcome = λ a b h. h.state.outcome;
  output = λ a b h. h.state.output;
  onward = names_onward program;
}
