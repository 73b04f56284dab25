-- Each instance is in its place at the start, and stays in a place.
use Rattle.std.proofs.Common.{◌≡◌, ℕ, zero, suc, ◌≤◌, Bool, true, false, List, [], length, replicate, Some, None, is_some, refl, ap, ◌∙◌, if◌then◌else◌, arith}
use Rattle.std.proofs.lemmas.List.{length-replicate}
use Rattle.std.proofs.lemmas.Bool.{and_parts, leb-true}
use Rattle.std.proofs.lemmas.List.Sums.{sum_by-cons}
use Rattle.cilk_model.specs.labelled.Labelled.{Labelled}
use Rattle.cilk_model.specs.Path.{Path, same_path}
use Rattle.cilk_model.specs.Instance.{Instance, started}
use Rattle.cilk_model.specs.State.{is_live, opening_state}
use Rattle.cilk_model.specs.Scheduler.{no_place, hand_of}
use Rattle.cilk_model.specs.Choice.{Choice}
use Rattle.cilk_model.specs.Run.{Standing, Position, refusal_of, next_of, opening, is_crew, after}
use Rattle.cilk_laws_model.specs.Hands.{times_held, EachInItsPlace}
use Rattle.cilk_laws_model.specs.Laws.{PlacesAreKept}
use Rattle.cilk_laws_model.proofs.Entries.{same-sym, times-cons}
use Rattle.cilk_model.proofs.Runs.{at_each}
use Rattle.cilk_laws_model.proofs.Possible.{possible}
use Rattle.cilk_laws_model.proofs.Family.{root_family, counted, family_of}
use Rattle.cilk_laws_model.proofs.Hands.{once, held, given, Placed, keeps_places}
use Rattle.cilk_laws_model.proofs.Deques.{act_lines, opening_lines}
use Rattle.cilk_laws_model.proofs.Parked.{act_have, none_parked}

none_held : (q : Path) (n : ℕ) → held q (replicate n no_place) ≡ 0
none_held q zero = refl
none_held q (suc n) = omega (arith, sum_by-cons (times_held q) no_place (replicate n no_place), none_held q n)

no_hand : (n : ℕ) → hand_of {A = Path} (replicate n no_place) 1 ≡ None
no_hand zero = refl
no_hand (suc n) = refl

one_live : (b : Bool) (i : Instance) → is_some (if b then Some i else None) ≡ b
one_live true i = refl
one_live false i = refl

opens : (program : Labelled) (main n : ℕ) → 1 ≤ n → Placed (opening program main n)
opens program main n some = record {
  each = λ q.
      let size : length (replicate n (no_place {A = Path})) ≡ n = length-replicate n no_place in
      let g = given q (replicate n no_place) 1 [] (omega arith) (no_hand n) in
      let z = none_held q n in
      let l : once (is_live (opening_state program main).instances q)
      ≡ once (same_path q []) = ap once (one_live (same_path [] q) (started program main []) ∙ same-sym [] q) in
      omega arith;
  paths = λ q.
      let t = times-cons (record { path = []; instance = started program main [] }) [] q in
      let l : once (is_live (opening_state program main).instances q) ≡ once (same_path [] q) = ap once (one_live (same_path [] q) (started program main [])) in
      omega arith;
  family = root_family (started program main []);
}

pub crew : (n : ℕ) → is_crew n ≡ true → 1 ≤ n
crew n h = leb-true 1 n (and_parts _ _ h).0

pub at_first : (program : Labelled) (main n : ℕ) → is_crew n ≡ true → EachInItsPlace (opening program main n)
at_first program main n h =
    let placed = opens program main n (crew n h) in
    record {
      once = placed.each;
      family = record { apart = placed.paths; counted = counted (opening_state program main).instances placed.family };
      lines = opening_lines program main n (crew n h);
      parked = none_parked program main n;
    }

pub by_choice : (program : Labelled) (at : Standing) (choice : Choice) → refusal_of program at choice ≡ None → EachInItsPlace at
    → EachInItsPlace (next_of program at choice)
by_choice program at choice free kept =
    let p = possible program at choice free in
    let before : Placed at = record { each = kept.once; paths = kept.family.apart; family = family_of at.state.instances kept.family.counted } in
    let after = keeps_places program at choice free before in
    record {
      once = after.each;
      family = record { apart = after.paths; counted = counted (next_of program at choice).state.instances after.family };
      lines = act_lines program at choice.worker choice.act p.worker p.act kept.once kept.lines;
      parked = act_have program at choice.worker choice.act kept.parked;
    }

pub always : (program : Labelled) (n : ℕ) (choices : List Choice) (at : Position) → after program n choices ≡ Some at → EachInItsPlace at.standing
always program n choices at h = at_each program EachInItsPlace (by_choice program) n choices at (λ main e. at_first program main n e) h

pub places_are_kept : PlacesAreKept
places_are_kept = record { at_first = at_first; by_choice = by_choice; always = always }
