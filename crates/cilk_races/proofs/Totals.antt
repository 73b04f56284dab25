-- The greatest numbers, behind one event more.
use Rattle.std.proofs.Common.{◌≡◌, ◌<◌, ◌≤◌, ◌+◌, ◌-◌, ◌^◌, ℕ, suc, max, Bool, true, false, cond, if◌then◌else◌, List, [], ◌∷◌, ◌++◌}
use Rattle.std.proofs.Common.{map, length, Option, Some, None}
use Rattle.std.proofs.Common.{sym, ap, ◌∙◌, subst, arith}
use Rattle.std.specs.Prelude.{count_by}
use Rattle.std.proofs.lemmas.List.{length_push, append-nil, map_push}
use Rattle.std.proofs.lemmas.List.Sums.{sum_by_push, count_by-le-length}
use Rattle.cilk_log_replay.specs.machine.labelled.Labelled.{Labelled}
use Rattle.cilk_log_replay.specs.machine.model.Path.{Path, same_path, parent_of, is_that}
use Rattle.cilk_log_replay.specs.machine.model.Event.{Event}
use Rattle.cilk_log_replay.specs.machine.model.Made.{made, born}
use Rattle.cilk_log_replay.specs.machine.plans.declared.did.Did.{Did}
use Rattle.cilk_log_replay.proofs.machine_laws.agree_laws.Made.{made-more}
use Rattle.cilk_races.specs.Inside.{Inside, inside_by, inside_of}
use Rattle.cilk_races.specs.Steps.{Step, listed, step_of, steps_of}
use Rattle.cilk_races.specs.Span.{span_of}
use Rattle.cilk_races.specs.Measure.{greatest, most, is_end, living, depth_of, bodies_at}
use Rattle.cilk_races.proofs.Pushes.{steps-push, greatest-push, most-push, most-last}
use Rattle.cilk_races.proofs.Tops.{span-more}
use Rattle.cilk_races.specs.declared.motion.Motion.{Motion}
use Rattle.cilk_races.specs.Cells.{cell_at, next}
use Rattle.cilk_races.specs.Tallies.{Tally, highest, settled, child_cell, plus, stepped_by, stepped, is_ending, ended_after, counted}
use Rattle.cilk_races.specs.CellsKept.{Named}
use Rattle.cilk_races.specs.Held.{Totals, Held}
use Rattle.cilk_races.proofs.Bounds.{next-is, by-less}
use Rattle.cilk_races.proofs.Doings.{Means}
use Rattle.cilk_races.proofs.Fields.{settled-length}
use Rattle.cilk_races.proofs.Followed.{steps-more, rank-is, keeps-on, keeps-born}

counted-more : (f : Event → Bool) (events : List Event) (e : Event) → count_by f (events ++ e ∷ []) ≡ count_by f events + cond (f e) 1 0
counted-more f events e = sum_by_push (λ (x : Event). cond (f x) 1 0) events e

one-more : (b : Bool) (n k : ℕ) → k ≡ n → n < 2 ^ 60 → (if b then next k else k) ≡ n + cond b 1 0
one-more true n k e h = let is = next-is k (omega (arith, e, h)) in omega (arith, is, e)
one-more false n k e h = omega (arith, e)

module _ (program : Labelled) (events : List Event) (e : Event) (did : Did) (t : Tally) (short : length events < 2 ^ 60)
    (is_end_too : is_ending did ≡ is_end e) (totals : Totals program events t) where
  -- those that have ended
  pub ended-more : ended_after did t.ended ≡ count_by is_end (events ++ e ∷ [])
  ended-more =
      let few = count_by-le-length is_end events in
      ap (λ b. if b then next t.ended else t.ended) is_end_too
      ∙ one-more (is_end e) (count_by is_end events) t.ended totals.ended (omega (arith, few, short))
      ∙ sym (counted-more is_end events e)

  pub live-more : (n : ℕ) → n ≡ length (made (events ++ e ∷ [])) → max t.live (n - ended_after did t.ended) ≡ most living (events ++ e ∷ [])
  live-more n size = (λ j. max (totals.live j) (size j - ended-more j)) ∙ sym (most-push living events e)

-- an event that does no step
pub held-still : (program : Labelled) (events : List Event) (e : Event) (t : Tally)
    → step_of program events e ≡ None → born e ≡ [] → is_end e ≡ false → Totals program events t → Totals program (events ++ e ∷ []) t
held-still program events e t none bare going totals =
    let steps : steps_of program (events ++ e ∷ []) ≡ steps_of program events =
    steps-push program events e ∙ ap (λ (o : Option Step). steps_of program events ++ listed o) none ∙ append-nil (steps_of program events)
    in
    let births : made (events ++ e ∷ []) ≡ made events = made-more events e ∙ ap (λ (ps : List Path). made events ++ ps) bare ∙ append-nil (made events) in
    let ends : count_by is_end (events ++ e ∷ []) ≡ count_by is_end events =
    counted-more is_end events e ∙ ap (λ b. count_by is_end events + cond b 1 0) going ∙ omega arith
    in
    let alive : living (events ++ e ∷ []) ≡ living events = λ j. length (births j) - ends j in
    let last = most-last living events in
    let push = most-push living events e in
    record {
      instances = totals.instances ∙ ap length (sym births);
      span = totals.span ∙ ap span_of (sym steps);
      bodies = totals.bodies ∙ ap (λ (ss : List Step). greatest (map bodies_at ss)) (sym steps);
      depth = totals.depth ∙ ap (λ (ps : List Path). greatest (map depth_of ps)) (sym births);
      ended = totals.ended ∙ sym ends;
      live = totals.live ∙ omega (arith, alive, last, push);
    }

-- a step, by places and by paths
module _ (program : Labelled) (events : List Event) (e : Event) (did : Did) (up now : ℕ → Path) (count more : ℕ) (t : Tally) (m : Motion) (s : Step)
    (short : length events < 2 ^ 60) (named : Named up count) (held : Held program up count events t)
    (means : Means program events e up count m s) (same : (i : ℕ) → i < count → now i ≡ up i) (grows : count ≤ more)
    (fresh : (i : ℕ) → i < count → is_that (up i) s.child ≡ false) (is_end_too : is_ending did ≡ is_end e) where
  span-is : max t.span (next (highest t.cells m)) ≡ span_of (steps_of program (events ++ e ∷ []))
  span-is =
      (λ j. max (held.totals.span j)
      (rank-is program events e up now count more t.cells m s short named held.cells means same grows fresh j))
      ∙ sym (span-more (steps_of program events) s)
      ∙ ap span_of (sym (steps-more program events e up now count more t.cells m s short named held.cells means same grows fresh))

  bodies-is : max t.bodies (plus (cell_at t.cells m.place).depth m.above) ≡ greatest (map bodies_at (steps_of program (events ++ e ∷ [])))
  bodies-is =
      let k = held.cells.each m.place means.place in
      let low = k.low in
      let step = by-less program (up m.place) e (inside_of program events (up m.place)) in
      let own : (inside_by program (up m.place) e (inside_of program events (up m.place))).above ≡ m.above = ap (λ (x : Inside). x.above) means.own in
      let before : (inside_of program events (up m.place)).above ≡ (cell_at t.cells m.place).above = ap (λ (x : Inside). x.above) k.inside in
      let sum : plus (cell_at t.cells m.place).depth m.above ≡ (cell_at t.cells m.place).depth + m.above = omega (arith, low, step, own, before, short) in
      let at : (cell_at t.cells m.place).depth + m.above ≡ bodies_at s =
      λ j. (k.depth ∙ ap depth_of (sym means.path)) j + sym means.above j
      in
      (λ j. max (held.totals.bodies j) ((sum ∙ at) j))
      ∙ sym (greatest-push (map bodies_at (steps_of program events)) (bodies_at s))
      ∙ ap greatest (sym (map_push bodies_at (steps_of program events) s))
      ∙ ap (λ (ss : List Step). greatest (map bodies_at ss))
      (sym (steps-more program events e up now count more t.cells m s short named held.cells means same grows fresh))

  -- no instance is born
  pub held-on : more ≡ count → s.child ≡ None → born e ≡ []
      → Held program now more (events ++ e ∷ []) (counted did (stepped_by false m (next (highest t.cells m)) (cell_at t.cells m.place).depth t))
  held-on size child bare =
      let births : made (events ++ e ∷ []) ≡ made events = made-more events e ∙ ap (λ (ps : List Path). made events ++ ps) bare ∙ append-nil (made events) in
      let cells : length (settled m (next (highest t.cells m)) t.cells) ≡ length (made (events ++ e ∷ [])) =
      settled-length m (next (highest t.cells m)) t.cells ∙ held.totals.instances ∙ ap length (sym births)
      in
      record {
        cells = keeps-on program events e up now count more t.cells m s short named held.cells means same grows fresh size child;
        totals = record {
          instances = cells;
          span = span-is;
          bodies = bodies-is;
          depth = held.totals.depth ∙ ap (λ (ps : List Path). greatest (map depth_of ps)) (sym births);
          ended = ended-more program events e did t short is_end_too held.totals;
          live = live-more program events e did t short is_end_too held.totals (length (settled m (next (highest t.cells m)) t.cells)) cells;
        };
      }

  -- a child is born
  pub held-born : (c : Path) → more ≡ suc count → now count ≡ c → parent_of c ≡ Some (up m.place) → length c ≡ suc (length (up m.place))
      → s.child ≡ Some c → born e ≡ c ∷ [] → s.taking ≡ None → ((i : ℕ) → i < count → same_path (up i) c ≡ false)
      → ((i : ℕ) → i < count → same_path c (up i) ≡ false)
      → Held program now more (events ++ e ∷ []) (counted did (stepped_by true m (next (highest t.cells m)) (cell_at t.cells m.place).depth t))
  held-born c size last parent long child bears thread new anew =
      let births : made (events ++ e ∷ []) ≡ made events ++ c ∷ [] = made-more events e ∙ ap (λ (ps : List Path). made events ++ ps) bears in
      let pushed = length_push (settled m (next (highest t.cells m)) t.cells) (child_cell m.place (cell_at t.cells m.place).depth (next (highest t.cells m))) in
      let cells : length (settled m (next (highest t.cells m)) t.cells ++ child_cell m.place (cell_at t.cells m.place).depth (next (highest t.cells m)) ∷ [])
      ≡ length (made (events ++ e ∷ [])) =
      pushed ∙ ap (λ n. n + 1) (settled-length m (next (highest t.cells m)) t.cells ∙ held.totals.instances)
      ∙ sym (length_push (made events) c) ∙ ap length (sym births)
      in
      let k = held.cells.each m.place means.place in
      let low = k.low in
      let deeper : next (cell_at t.cells m.place).depth ≡ depth_of c =
      next-is (cell_at t.cells m.place).depth (omega (arith, low, short)) ∙ ap suc (k.depth ∙ sym long)
      in
      record {
        cells =
            keeps-born program events e up now count more t.cells m s short named held.cells means same grows fresh c size last parent long
            child thread new anew;
        totals = record {
          instances = cells;
          span = span-is;
          bodies = bodies-is;
          depth = (λ j. max (held.totals.depth j) (deeper j)) ∙ sym (greatest-push (map depth_of (made events)) (depth_of c))
              ∙ ap greatest (sym (map_push depth_of (made events) c)) ∙ ap (λ (ps : List Path). greatest (map depth_of ps)) (sym births);
          ended = ended-more program events e did t short is_end_too held.totals;
          live = live-more program events e did t short is_end_too held.totals _ cells;
        };
      }

  -- either, as the motion says
  pub held-unless : (b : Bool) → m.bears ≡ b → b ≡ false → more ≡ count → s.child ≡ None → born e ≡ []
      → Held program now more (events ++ e ∷ []) (counted did (stepped m t))
  held-unless b bears none size child bare =
      subst (λ k. Held program now more (events ++ e ∷ []) (counted did (stepped_by k m (next (highest t.cells m)) (cell_at t.cells m.place).depth t)))
      (sym (bears ∙ none)) (held-on size child bare)
