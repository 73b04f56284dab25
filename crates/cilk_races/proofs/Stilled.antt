-- An event that does no step.
use Rattle.std.proofs.Common.{◌≡◌, ◌<◌, ◌≤◌, ◌+◌, ℕ, Bool, List, [], ◌∷◌, ◌++◌, length, Option, None, sym, ap, ◌∙◌, subst, arith}
use Rattle.std.proofs.lemmas.List.{append-nil, length_push}
use Rattle.cilk_log_replay.specs.machine.labelled.Labelled.{Labelled}
use Rattle.cilk_log_replay.specs.machine.model.Path.{Path, same_path, parent_of}
use Rattle.cilk_log_replay.specs.machine.model.Event.{Event}
use Rattle.cilk_races.specs.Inside.{Inside, inside_by, inside_of}
use Rattle.cilk_races.specs.Steps.{Step, listed, step_of, steps_of}
use Rattle.cilk_races.specs.Span.{is_of_thread, is_joined, takes, top, all_ranked}
use Rattle.cilk_races.specs.Measure.{depth_of}
use Rattle.cilk_races.proofs.Pushes.{inside-push, steps-push}
use Rattle.cilk_races.specs.declared.cell.Cell.{Cell}
use Rattle.cilk_races.specs.Cells.{cell_at}
use Rattle.cilk_races.specs.CellsKept.{Keeps, Known, Each, rank_of}
use Rattle.cilk_races.proofs.Known.{map-same, there-more, known-same, each-more}

-- an event that does no step keeps what is kept
pub keeps-still : (program : Labelled) (events : List Event) (e : Event) (up now : ℕ → Path) (count more : ℕ) (cells : List Cell)
    → step_of program events e ≡ None → ((p : Path) (i : Inside) → inside_by program p e i ≡ i) → ((i : ℕ) → i < count → now i ≡ up i) → more ≡ count
    → Keeps program up count events cells → Keeps program now more (events ++ e ∷ []) cells
keeps-still program events e up now count more cells none calm same size keeps =
    let few = keeps.few in
    let longer : length (events ++ e ∷ []) ≡ length events + 1 = length_push events e in
    let steps : steps_of program (events ++ e ∷ []) ≡ steps_of program events =
    steps-push program events e ∙ ap (λ (o : Option Step). steps_of program events ++ listed o) none ∙ append-nil (steps_of program events)
    in
    let grows : count ≤ more = omega (arith, size) in
    let ranks : (f : Step → Bool)
    → rank_of program (events ++ e ∷ []) f ≡ rank_of program events f = λ f. ap (λ (ss : List Step). top f (all_ranked ss)) steps in
    let bodies : (p : Path) → inside_of program (events ++ e ∷ []) p ≡ inside_of program events p =
    λ p. inside-push program p events e ∙ calm p (inside_of program events p)
    in
    record {
      entries = keeps.entries ∙ sym size;
      few = omega (arith, few, longer, size);
      each = λ i h.
          let low : i < count = omega (arith, h, size) in
          let k = keeps.each i low in
          let is : now i ≡ up i = same i low in
          let above = k.low in
          record {
            parent = ap parent_of is ∙ k.parent ∙ sym (map-same up now count same (cell_at cells i).parent k.parent_there);
            parent_there = there-more count more grows (cell_at cells i).parent k.parent_there;
            depth = k.depth ∙ ap depth_of (sym is);
            inside = bodies (now i) ∙ ap (inside_of program events) is ∙ k.inside
                ∙ (λ j. record { above = (cell_at cells i).above; taking = sym (map-same up now count same (cell_at cells i).taking k.taking_there) j });
            low = omega (arith, above, longer);
            taking_there = there-more count more grows (cell_at cells i).taking k.taking_there;
            thread = k.thread ∙ sym (ranks (is_of_thread (up i))) ∙ ap (λ (q : Path). rank_of program (events ++ e ∷ []) (is_of_thread q)) (sym is);
            joined = k.joined ∙ sym (ranks (is_joined (up i))) ∙ ap (λ (q : Path). rank_of program (events ++ e ∷ []) (is_joined q)) (sym is);
            taken = k.taken ∙ sym (ranks (takes (up i))) ∙ ap (λ (q : Path). rank_of program (events ++ e ∷ []) (takes q)) (sym is);
          };
      unmade = λ p new. bodies p ∙ keeps.unmade p (λ i h. ap (λ (q : Path). same_path q p) (sym (same i h)) ∙ new i (omega (arith, h, size)));
      known = subst (Each (Known now more)) (sym steps)
          (each-more (Known up count) (Known now more) (known-same up now count more same grows) (steps_of program events) keeps.known);
    }
