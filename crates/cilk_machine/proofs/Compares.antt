-- Two machines of one program whose parts tell the same.
use Rattle.std.proofs.Common.{◌≡◌, ◌<◌, ℕ, suc, List, [], ◌∷◌, length, map, refl, sym, ap, ◌∙◌, subst, arith, slice_index_or}
use Rattle.cilk_machine_undo.specs.agree.scopes.WellFormed.{WellFormed}
use Rattle.cilk_machine_undo.specs.syntax.Tree.{Program}
use Rattle.cilk_machine_undo.specs.labelled.Bodies.{label}
use Rattle.cilk_machine_undo.specs.spawn.Nodes.{path_at}
use Rattle.cilk_machine_undo.specs.agree.Outside.{lock_by, outcome_by}
use Rattle.cilk_machine_undo.specs.agree.Agrees.{Agrees, read_off}
use Rattle.cilk_machine_undo.proofs.runs_laws.Kept.{places_are_kept}
use Rattle.cilk_sched.specs.model.Run.{Standing}
use Rattle.cilk_sched.specs.Words.{outcome_of}
use Rattle.cilk_view.specs.explore.Alike.{SameTree, SamePlacesBut, SameParts}
use Rattle.cilk_view.specs.explore.Names.{SameButNames}
use Rattle.cilk_view.proofs.explore_laws.ByNames.{stand_so}
use Rattle.cilk_machine.specs.Situation.{Situation, workers_of}
use Rattle.cilk_machine.specs.Stands.{StandsAt}

-- place by place, by two functions
pub map_same : {A B : Type 0} (f g : A → B) (d : A) (xs ys : List A) → length xs ≡ length ys
    → ((k : ℕ) → k < length xs → f (slice_index_or xs k d) ≡ g (slice_index_or ys k d)) → map f xs ≡ map g ys
map_same f g d [] [] n h = refl
map_same f g d [] (y ∷ ys) n h = absurd (omega (arith, n))
map_same f g d (x ∷ xs) [] n h = absurd (omega (arith, n))
map_same f g d (x ∷ xs) (y ∷ ys) n h =
    let first = h 0 (omega arith) in
    let rest = map_same f g d xs ys (omega (arith, n)) (λ k lt. h (suc k) (omega (arith, lt))) in
    λ i. first i ∷ rest i

-- by its outcome the program's parts tell the outcome
told_outcome : (m : Situation) (at : Standing) → StandsAt m at → outcome_by (path_at m.machine.nodes) m.machine.outside.outcome ≡ outcome_of m.outcome
told_outcome m at s = sym s.led.agrees.outside.outcome ∙ sym s.led.outcome

pub standings_same_but_names : (m n : Situation) → n.program ≡ m.program → WellFormed m.program → m.outcome ≡ n.outcome
    → m.machine.outside.cells ≡ n.machine.outside.cells → m.machine.outside.output ≡ n.machine.outside.output
    → map (lock_by (path_at m.machine.nodes)) m.machine.outside.locks ≡ map (lock_by (path_at n.machine.nodes)) n.machine.outside.locks
    → SameTree m.machine.nodes n.machine.nodes → SamePlacesBut m.machine.nodes n.machine.nodes m.machine.places n.machine.places
    → (a b : Standing) → StandsAt m a → StandsAt n b → SameButNames a b
standings_same_but_names m n program well outcome cells output locks tree but a b s t =
    let here = s.led.agrees in
    let there = subst (λ (p : Program). Agrees p n.machine (read_off p n.machine b) b) program t.led.agrees in
    let placed = places_are_kept.always (label m.program) (workers_of m) s.choices (record { standing = a; events = s.events }) s.led.led in
    let parts : SameParts (record m.machine { places = but.places }) n.machine = record {
      cells = cells;
      locks = locks;
      output = output;
      outcome = told_outcome m a s ∙ ap outcome_of outcome ∙ sym (told_outcome n b t);
      tree = tree;
      places = but.same;
    } in
    stand_so m.program m.machine n.machine (read_off m.program m.machine a) (read_off m.program n.machine b) a b well here there placed
    (record { places = but.places; order = but.order; same = parts })
