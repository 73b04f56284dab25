-- One step more is kept.
use Rattle.std.proofs.Common.{◌⊎◌, ◌≡◌, ◌<◌, ◌≤◌, ◌+◌, ◌-◌, ◌^◌, ℕ, suc, max, Bool, true, false, ◌&&◌, ◌||◌, nat_eq, if◌then◌else◌, List, [], ◌∷◌, ◌++◌}
use Rattle.std.proofs.Common.{length, Option, Some, None, is_some, is_none, option_map, refl, sym, ap, ◌∙◌, subst, arith, inl, inr}
use Rattle.std.proofs.lemmas.Bool.{cases_lt, cond-true, cond-false, eqb-true, or_right}
use Rattle.std.proofs.lemmas.List.{get_or_append_left, get_or_push, length_push}
use Rattle.std.proofs.Math.Bool.{or-false}
use Rattle.cilk_log_replay.specs.machine.labelled.Labelled.{Labelled}
use Rattle.cilk_log_replay.specs.machine.model.Path.{Path, same_path, parent_of, is_that, is_child}
use Rattle.cilk_log_replay.specs.machine.model.Event.{Event}
use Rattle.cilk_races.specs.Inside.{Inside, outside, inside_by, inside_of}
use Rattle.cilk_races.specs.Steps.{Step, listed, steps_of}
use Rattle.cilk_races.specs.Span.{is_of_thread, is_joined, takes, comes_before, follows, top, all_ranked}
use Rattle.cilk_races.specs.Measure.{depth_of}
use Rattle.cilk_races.proofs.Pushes.{inside-push, steps-push}
use Rattle.cilk_races.proofs.Tops.{if_so, next_rank, top-more, top-either, top-none}
use Rattle.cilk_log_replay.proofs.machine_laws.spawn_laws.Paths.{same_self}
use Rattle.cilk_races.specs.declared.cell.Cell.{Cell}
use Rattle.cilk_races.specs.declared.motion.Motion.{Motion}
use Rattle.cilk_races.specs.Cells.{cell_at, no_cell, next}
use Rattle.cilk_races.specs.Tallies.{highest_by, highest, settled, child_cell}
use Rattle.cilk_races.specs.CellsKept.{Named, IsThere, Kept, Keeps, Known, IsUnmade, Each, rank_of}
use Rattle.cilk_races.proofs.Bounds.{next-is, by-less, ranks-fit, steps-fit}
use Rattle.cilk_races.proofs.Doings.{Means}
use Rattle.cilk_races.proofs.Fields.{Changed, changed, settled-at, settled-length, settled_cell, parent_at}
use Rattle.cilk_races.proofs.Known.{map-same, there-more, known-same, each-push, each-more, unseen}
use Rattle.cilk_races.proofs.Ids.{hits, other-place, that-place}

none-map : (up : ℕ → Path) (o : Option ℕ) → is_none (option_map up o) ≡ is_none o
none-map up None = refl
none-map up (Some i) = refl

some-map : (up : ℕ → Path) (o : Option ℕ) → is_some (option_map up o) ≡ is_some o
some-map up None = refl
some-map up (Some i) = refl

joined-max : (a b : Bool) (n x : ℕ) → max (max x (if_so b n)) (if_so a n) ≡ max x (if_so (a || b) n)
joined-max true true n x = omega arith
joined-max true false n x = omega arith
joined-max false true n x = omega arith
joined-max false false n x = omega arith

highest-if : (b : Bool) (x y : ℕ) → (if b then max x y else x) ≡ max x (if b then y else 0)
highest-if true x y = refl
highest-if false x y = omega arith

-- a step of an event, by places and by paths, behind which the instances go by these paths
module _ (program : Labelled) (events : List Event) (e : Event) (up now : ℕ → Path) (count more : ℕ) (cells : List Cell) (m : Motion) (s : Step)
    (short : length events < 2 ^ 60) (named : Named up count) (keeps : Keeps program up count events cells)
    (means : Means program events e up count m s) (same : (i : ℕ) → i < count → now i ≡ up i) (grows : count ≤ more)
    (fresh : (i : ℕ) → i < count → is_that (up i) s.child ≡ false) where
  abbrev at_rank : ℕ
  at_rank = next_rank (steps_of program events) s

  pub steps-more : steps_of program (events ++ e ∷ []) ≡ steps_of program events ++ s ∷ []
  steps-more = steps-push program events e ∙ ap (λ (o : Option Step). steps_of program events ++ listed o) means.step

  pub rank-more : (f : Step → Bool)
      → rank_of program (events ++ e ∷ []) f ≡ max (rank_of program events f) (if_so (f s) (next_rank (steps_of program events) s))
  rank-more f = ap (λ (ss : List Step). top f (all_ranked ss)) steps-more ∙ top-more f (steps_of program events) s

  joins-by : (b : Bool) (q : Path) → rank_of program events (λ d. b && is_joined q d) ≡ (if b then rank_of program events (is_joined q) else 0)
  joins-by true q = refl
  joins-by false q = top-none (λ d. false) (λ d. refl) (all_ranked (steps_of program events))

  none-highest : rank_of program events (comes_before None s)
      ≡ max (rank_of program events (is_of_thread s.path)) (if s.joins then rank_of program events (is_joined s.path) else 0)
  none-highest =
      top-either (is_of_thread s.path) (λ d. s.joins && is_joined s.path d) (all_ranked (steps_of program events))
      ∙ ap (max (rank_of program events (is_of_thread s.path))) (joins-by s.joins s.path)

  highest-by : (o : Option ℕ) → IsThere count o → highest_by o cells m ≡ rank_of program events (comes_before (option_map up o) s)
  highest-by None there =
      let k = keeps.each m.place means.place in
      let path : up m.place ≡ s.path = sym means.path in
      let joins : m.joins ≡ s.joins = sym means.joins in
      highest-if m.joins (cell_at cells m.place).thread (cell_at cells m.place).joined
      ∙ (λ j. max (k.thread j) (if m.joins then k.joined j else 0))
      ∙ (λ j. max (rank_of program events (is_of_thread (path j))) (if joins j then rank_of program events (is_joined (path j)) else 0))
      ∙ sym none-highest
  highest-by (Some i) there =
      let k = keeps.each i there in
      (λ j. max (k.thread j) (k.taken j)) ∙ sym (top-either (is_of_thread (up i)) (takes (up i)) (all_ranked (steps_of program events)))

  highest-is : highest cells m ≡ rank_of program events (follows s)
  highest-is =
      highest-by m.taking means.taking_there ∙ ap (λ (o : Option Path). rank_of program events (comes_before o s)) (sym means.taking)

  pub rank-is : next (highest cells m) ≡ next_rank (steps_of program events) s
  rank-is =
      let low = ranks-fit (follows s) (steps_of program events) in
      let few = steps-fit program events in
      let room : rank_of program events (follows s) < 2 ^ 64 - 1 = omega (arith, low, few, short) in
      ap next highest-is ∙ next-is (rank_of program events (follows s)) room

  abbrev rank : ℕ
  rank = next (highest cells m)

  module _ (i : ℕ) (h : i < count) where
    -- what the tests say of the step
    path-is : same_path s.path (up i) ≡ nat_eq i m.place
    path-is = ap (λ (q : Path). same_path q (up i)) means.path ∙ other-place up count named i m.place h means.place

    thread-is : is_of_thread (up i) s ≡ (nat_eq i m.place && is_none m.taking)
    thread-is =
        let none : is_none s.taking ≡ is_none m.taking = ap is_none means.taking ∙ none-map up m.taking in
        (λ j. (path-is j && none j) || fresh i h j) ∙ or-false (nat_eq i m.place && is_none m.taking)

    joined-is : is_joined (up i) s ≡ (hits (parent_at cells m) i || (nat_eq i m.place && is_some m.taking))
    joined-is =
        let some : is_some s.taking ≡ is_some m.taking = ap is_some means.taking ∙ some-map up m.taking in
        let k = keeps.each m.place means.place in
        let child : is_child (up i) s.path ≡ hits (parent_at cells m) i =
        ap (is_child (up i)) means.path ∙ ap (is_that (up i)) k.parent ∙ that-place up count named (parent_at cells m) i k.parent_there h
        in
        (λ j. child j || (path-is j && some j))

    taken-is : takes (up i) s ≡ hits m.taking i
    taken-is = ap (is_that (up i)) means.taking ∙ that-place up count named m.taking i means.taking_there h

    inside-by : (b : Bool) → nat_eq i m.place ≡ b
        → inside_by program (up i) e (inside_of program events (up i))
        ≡ record {
          above = if nat_eq i m.place then m.above else (cell_at cells i).above;
          taking = option_map up (if nat_eq i m.place then m.inlet else (cell_at cells i).taking);
        }
    inside-by true is =
        let at : i ≡ m.place = eqb-true i m.place is in
        ap (λ k. inside_by program (up k) e (inside_of program events (up k))) at ∙ means.own
        ∙ (λ j. record {
          above = sym (cond-true (nat_eq i m.place) m.above (cell_at cells i).above is) j;
          taking = option_map up (sym (cond-true (nat_eq i m.place) m.inlet (cell_at cells i).taking is) j);
        })
    inside-by false is =
        let different : same_path (up m.place) (up i) ≡ false = other-place up count named i m.place h means.place ∙ is in
        means.others (up i) (inside_of program events (up i)) different ∙ (keeps.each i h).inside
        ∙ (λ j. record {
          above = sym (cond-false (nat_eq i m.place) m.above (cell_at cells i).above is) j;
          taking = option_map up (sym (cond-false (nat_eq i m.place) m.inlet (cell_at cells i).taking is) j);
        })

    if-there : (b : Bool) (o u : Option ℕ) → IsThere count o → IsThere count u → IsThere count (if b then o else u)
    if-there true o u x y = x
    if-there false o u x y = y

    -- what is kept of an instance that was there
    pub kept-on : Kept program now more (events ++ e ∷ []) i (settled_cell (parent_at cells m) m rank i (cell_at cells i))
    kept-on =
        let c : Cell = cell_at cells i in
        let k = keeps.each i h in
        let new : Cell = settled_cell (parent_at cells m) m rank i c in
        let ch : Changed (hits (parent_at cells m) i) (hits m.taking i) (nat_eq i m.place) m rank c new =
        changed (hits (parent_at cells m) i) (hits m.taking i) (nat_eq i m.place) m rank c
        in
        let named_so : now i ≡ up i = same i h in
        let bodies : inside_of program (events ++ e ∷ []) (up i) ≡ record { above = new.above; taking = option_map up new.taking } =
        inside-push program (up i) events e ∙ inside-by (nat_eq i m.place) refl
        ∙ (λ j. record { above = sym ch.above j; taking = option_map up (sym ch.taking j) })
        in
        let step = by-less program (up i) e (inside_of program events (up i)) in
        let pushed : (inside_by program (up i) e (inside_of program events (up i))).above ≡ new.above =
        ap (λ (x : Inside). x.above) (sym (inside-push program (up i) events e) ∙ bodies)
        in
        let before : (inside_of program events (up i)).above ≡ c.above = ap (λ (x : Inside). x.above) k.inside in
        let longer : length (events ++ e ∷ []) ≡ length events + 1 = length_push events e in
        let low = k.low in
        let deep = ch.depth in
        let taking_there : IsThere count new.taking =
        subst (IsThere count) (sym ch.taking) (if-there (nat_eq i m.place) m.inlet c.taking means.inlet_there k.taking_there)
        in
        let parent_there : IsThere count new.parent = subst (IsThere count) (sym ch.parent) k.parent_there in
        record {
          parent = ap parent_of named_so ∙ k.parent ∙ ap (option_map up) (sym ch.parent) ∙ sym (map-same up now count same new.parent parent_there);
          parent_there = there-more count more grows new.parent parent_there;
          depth = ch.depth ∙ k.depth ∙ ap depth_of (sym named_so);
          low = omega (arith, step, pushed, before, longer, low, deep);
          inside = ap (inside_of program (events ++ e ∷ [])) named_so ∙ bodies
              ∙ (λ j. record { above = new.above; taking = sym (map-same up now count same new.taking taking_there) j });
          taking_there = there-more count more grows new.taking taking_there;
          thread = ch.thread ∙ (λ j. max (k.thread j) (if_so (sym thread-is j) (rank-is j))) ∙ sym (rank-more (is_of_thread (up i)))
              ∙ ap (λ (q : Path). rank_of program (events ++ e ∷ []) (is_of_thread q)) (sym named_so);
          joined = ch.joined ∙ joined-max (hits (parent_at cells m) i) (nat_eq i m.place && is_some m.taking) rank c.joined
              ∙ (λ j. max (k.joined j) (if_so (sym joined-is j) (rank-is j))) ∙ sym (rank-more (is_joined (up i)))
              ∙ ap (λ (q : Path). rank_of program (events ++ e ∷ []) (is_joined q)) (sym named_so);
          taken = ch.taken ∙ (λ j. max (k.taken j) (if_so (sym taken-is j) (rank-is j))) ∙ sym (rank-more (takes (up i)))
              ∙ ap (λ (q : Path). rank_of program (events ++ e ∷ []) (takes q)) (sym named_so);
        }

  pub known-more : (o : Option ℕ) → s.child ≡ option_map now o → IsThere more o → Each (Known now more) (steps_of program (events ++ e ∷ []))
  known-more o child there =
      let place = means.place in
      subst (Each (Known now more)) (sym steps-more)
      (each-push (Known now more) (steps_of program events) s
      (each-more (Known up count) (Known now more) (known-same up now count more same grows) (steps_of program events) keeps.known)
      (record {
        place = m.place;
        within = omega (arith, place, grows);
        path = means.path ∙ sym (same m.place means.place);
        taking = m.taking;
        taking_is = means.taking ∙ sym (map-same up now count same m.taking means.taking_there);
        taking_there = there-more count more grows m.taking means.taking_there;
        child = o;
        child_is = child;
        child_there = there;
      }))

  -- whatever was not made ran nothing
  pub unmade-on : (p : Path) → ((i : ℕ) → i < count → same_path (up i) p ≡ false) → inside_of program (events ++ e ∷ []) p ≡ outside
  unmade-on p none =
      inside-push program p events e ∙ means.others p (inside_of program events p) (none m.place means.place) ∙ keeps.unmade p none

  pub unmade-more : (p : Path) → IsUnmade now more p → inside_of program (events ++ e ∷ []) p ≡ outside
  unmade-more p none =
      unmade-on p (λ i h. ap (λ (q : Path). same_path q p) (sym (same i h)) ∙ none i (omega (arith, h, grows)))

  -- no instance is born
  pub keeps-on : more ≡ count → s.child ≡ None → Keeps program now more (events ++ e ∷ []) (settled m (next (highest cells m)) cells)
  keeps-on size child =
      let few = keeps.few in
      let longer : length (events ++ e ∷ []) ≡ length events + 1 = length_push events e in
      record {
        entries = settled-length m (next (highest cells m)) cells ∙ keeps.entries ∙ sym size;
        few = omega (arith, few, longer, size);
        each = λ i h.
            let low : i < count = omega (arith, h, size) in
            let entries = keeps.entries in
            let there : i < length cells = omega (arith, low, entries) in
            subst (Kept program now more (events ++ e ∷ []) i) (sym (settled-at m (next (highest cells m)) cells i there)) (kept-on i low);
        unmade = unmade-more;
        known = known-more None child tt;
      }

  -- a child is born
  module _ (c : Path) (size : more ≡ suc count) (last : now count ≡ c) (parent : parent_of c ≡ Some (up m.place)) (long : length c ≡ suc (length (up m.place)))
      (bears : s.child ≡ Some c) (thread : s.taking ≡ None) (new : (i : ℕ) → i < count → same_path (up i) c ≡ false)
      (anew : (i : ℕ) → i < count → same_path c (up i) ≡ false) where
    that-none : (o : Option ℕ) → IsThere count o → is_that c (option_map up o) ≡ false
    that-none None h = refl
    that-none (Some i) h = anew i h

    -- nothing that was known is of the child
    no-thread : (x : Step) → Known up count x → is_of_thread c x ≡ false
    no-thread x k =
        let path : same_path x.path c ≡ false = ap (λ (q : Path). same_path q c) k.path ∙ new k.place k.within in
        let child : is_that c x.child ≡ false = ap (is_that c) k.child_is ∙ that-none k.child k.child_there in
        (λ j. (path j && is_none x.taking) || child j)

    no-joined : (x : Step) → (i : ℕ) → i < count → x.path ≡ up i → is_joined c x ≡ false
    no-joined x i h is =
        let path : same_path x.path c ≡ false = ap (λ (q : Path). same_path q c) is ∙ new i h in
        let k = keeps.each i h in
        let child : is_child c x.path ≡ false =
        ap (is_child c) is ∙ ap (is_that c) k.parent ∙ that-none (cell_at cells i).parent k.parent_there
        in
        (λ j. child j || (path j && is_some x.taking))

    no-takes : (x : Step) → Known up count x → takes c x ≡ false
    no-takes x k = ap (is_that c) k.taking_is ∙ that-none k.taking k.taking_there

    none-yet : (f : Step → Bool) → ((x : Step) → Known up count x → f x ≡ false) → rank_of program events f ≡ 0
    none-yet f none =
        unseen f [] (steps_of program events)
        (each-more (Known up count) (λ x. f x ≡ false) none (steps_of program events) keeps.known)

    from-zero : (b : Bool) (n k : ℕ) → b ≡ true → k ≡ 0 → max k (if_so b n) ≡ n
    from-zero true n k e z = omega (arith, z)
    from-zero false n k e z = cc

    still-zero : (b : Bool) (n k : ℕ) → b ≡ false → k ≡ 0 → max k (if_so b n) ≡ 0
    still-zero true n k e z = cc
    still-zero false n k e z = omega (arith, z)

    own-thread : is_of_thread c s ≡ true
    own-thread = or_right _ (is_that c s.child) (ap (is_that c) bears ∙ same_self c c refl)

    deeper : next (cell_at cells m.place).depth ≡ suc (cell_at cells m.place).depth
    deeper =
        let low = (keeps.each m.place means.place).low in
        next-is (cell_at cells m.place).depth (omega (arith, low, short))

    pub kept-born : Kept program now more (events ++ e ∷ []) count (child_cell m.place (cell_at cells m.place).depth (next (highest cells m)))
    kept-born =
        let k = keeps.each m.place means.place in
        let place = means.place in
        let longer : length (events ++ e ∷ []) ≡ length events + 1 = length_push events e in
        let low = k.low in
        let bare : inside_of program (events ++ e ∷ []) c ≡ outside = unmade-on c new in
        record {
          parent = ap parent_of last ∙ parent ∙ ap Some (sym (same m.place means.place));
          parent_there = omega (arith, place, size);
          depth = deeper ∙ ap suc (k.depth ∙ sym long) ∙ ap depth_of (sym last);
          inside = ap (inside_of program (events ++ e ∷ [])) last ∙ bare;
          low = omega (arith, low, longer, deeper);
          taking_there = tt;
          thread =
              rank-is
              ∙ sym
              (from-zero (is_of_thread c s) at_rank (rank_of program events (is_of_thread c)) own-thread
              (none-yet (is_of_thread c) no-thread))
              ∙ sym (rank-more (is_of_thread c)) ∙ ap (λ (q : Path). rank_of program (events ++ e ∷ []) (is_of_thread q)) (sym last);
          joined = sym (still-zero (is_joined c s) at_rank (rank_of program events (is_joined c)) (no-joined s m.place means.place means.path)
              (none-yet (is_joined c) (λ x y. no-joined x y.place y.within y.path)))
              ∙ sym (rank-more (is_joined c)) ∙ ap (λ (q : Path). rank_of program (events ++ e ∷ []) (is_joined q)) (sym last);
          taken = sym (still-zero (takes c s) at_rank (rank_of program events (takes c)) (ap (is_that c) thread) (none-yet (takes c) no-takes))
              ∙ sym (rank-more (takes c)) ∙ ap (λ (q : Path). rank_of program (events ++ e ∷ []) (takes q)) (sym last);
        }

    each-at : (i : ℕ) → i < more → (i < count) ⊎ (count ≤ i)
        → Kept program now more (events ++ e ∷ []) i
        (cell_at (settled m (next (highest cells m)) cells ++ child_cell m.place (cell_at cells m.place).depth (next (highest cells m)) ∷ []) i)
    each-at i h (inl low) =
        let entries = keeps.entries in
        let there : i < length cells = omega (arith, low, entries) in
        let kept : length (settled m (next (highest cells m)) cells) ≡ length cells = settled-length m (next (highest cells m)) cells in
        let inside : i < length (settled m (next (highest cells m)) cells) = omega (arith, kept, there) in
        subst (Kept program now more (events ++ e ∷ []) i)
        (sym (get_or_append_left (settled m (next (highest cells m)) cells) _ no_cell i inside ∙ settled-at m (next (highest cells m)) cells i there))
        (kept-on i low)
    each-at i h (inr high) =
        let at : i ≡ count = omega (arith, h, high, size) in
        let kept : length (settled m (next (highest cells m)) cells) ≡ count = settled-length m (next (highest cells m)) cells ∙ keeps.entries in
        subst (λ k. Kept program now more (events ++ e ∷ []) k
        (cell_at (settled m (next (highest cells m)) cells ++ child_cell m.place (cell_at cells m.place).depth (next (highest cells m)) ∷ []) k)) (sym at)
        (subst (Kept program now more (events ++ e ∷ []) count)
        (sym (get_or_push (settled m (next (highest cells m)) cells) _ no_cell count kept)) kept-born)

    pub keeps-born : Keeps program now more (events ++ e ∷ [])
        (settled m (next (highest cells m)) cells ++ child_cell m.place (cell_at cells m.place).depth (next (highest cells m)) ∷ [])
    keeps-born =
        let few = keeps.few in
        let longer : length (events ++ e ∷ []) ≡ length events + 1 = length_push events e in
        let pushed = length_push (settled m (next (highest cells m)) cells) (child_cell m.place (cell_at cells m.place).depth (next (highest cells m))) in
        let kept : length (settled m (next (highest cells m)) cells) ≡ count = settled-length m (next (highest cells m)) cells ∙ keeps.entries in
        record {
          entries = pushed ∙ omega (arith, kept, size);
          few = omega (arith, few, longer, size);
          each = λ i h. each-at i h (cases_lt i count);
          unmade = unmade-more;
          known = known-more (Some count) (bears ∙ ap Some (sym last)) (omega (arith, size));
        }
