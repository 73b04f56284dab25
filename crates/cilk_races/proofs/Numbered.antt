-- Each child that is born is the next one of its parent: the events tell how many there are.
use Rattle.std.proofs.Common.{◌≡◌, ◌+◌, ℕ, suc, Bool, true, false, not, ◌||◌, ◌&&◌, pos, cond, if◌then◌else◌, List, [], ◌∷◌, ◌++◌, Option, Some, None}
use Rattle.std.proofs.Common.{is_none, is_some, unwrap_or}
use Rattle.std.proofs.Common.{refl, sym, ap, subst, ◌∙◌, arith}
use Rattle.std.specs.Prelude.{option_map}
use Rattle.std.proofs.lemmas.Option.{same_Some}
use Rattle.std.proofs.lemmas.Bool.{or_left}
use Rattle.cilk_log_replay.specs.machine.model.labelled.Labelled.{Labelled}
use Rattle.cilk_log_replay.specs.machine.model.Path.{Path, same_path, child_path}
use Rattle.cilk_log_replay.specs.machine.model.Change.{gone_on}
use Rattle.cilk_log_replay.specs.machine.model.Instance.{Instance, started}
use Rattle.cilk_log_replay.specs.machine.model.State.{Instances, State, instance_at, is_live, changed}
use Rattle.cilk_log_replay.specs.machine.model.Event.{Event, spawned, moved}
use Rattle.cilk_log_replay.specs.machine.model.Fate.{is_birth, was_made}
use Rattle.cilk_log_replay.specs.machine.model.Pick.{Step, waits, parks, goes_on, ends, spawns, step_of_live}
use Rattle.cilk_log_replay.specs.machine.model.Scheduler.{hand_of}
use Rattle.cilk_log_replay.specs.machine.model.Choice.{Act, step, pop, steal, Choice}
use Rattle.cilk_log_replay.specs.machine.model.Run.{Standing, Position, refusal_of, state_after, event_of_step, next_by_hand, next_by, next_of, event_by_hand}
use Rattle.cilk_log_replay.specs.machine.model.Run.{event_by, event_of, after_from, opening, is_crew, after_main, after}
use Rattle.cilk_log_replay.proofs.machine_laws.runs_laws.Entries.{same-is, same-self, same-sym, live-changed, children_at, either_of, at-push}
use Rattle.cilk_log_replay.proofs.machine_laws.runs_laws.Events.{made-push, made-unborn}
use Rattle.cilk_log_replay.proofs.machine_laws.runs_laws.Family.{parent-child, counted_live}
use Rattle.cilk_log_replay.proofs.machine_laws.runs_laws.Fates.{act_goes_on, told_at}
use Rattle.cilk_log_replay.proofs.machine_laws.runs_laws.Live.{Fewer, Lives, More, row_lives}
use Rattle.cilk_log_replay.proofs.machine_laws.runs_laws.Rows.{Row, headless, locked, parked, stopping, going, writing, calling, leaving, answering}
use Rattle.cilk_log_replay.proofs.machine_laws.runs_laws.Rows.{spawning, printing, turning_lock, marking, returning, placing, taking, aborting, step_row}
use Rattle.cilk_log_replay.proofs.machine_laws.runs_laws.Told.{Told}
use Rattle.cilk_races.specs.Inside.{parent_path}
use Rattle.cilk_races.specs.Order.{bears, children_of}
use Rattle.cilk_races.proofs.Pushed.{children-more}

-- the events tell how many children each live instance has, and none of what was not made
pub record Numbered (events : List Event) (entries : Instances) : Type 0 where
  pub there : (p : Path) (m : ℕ) → children_at entries p ≡ Some m → children_of events p ≡ m
  pub unmade : (p : Path) → was_made events p ≡ false → children_of events p ≡ 0

-- an event by which none is born
pub record IsBare (did : Event) : Type 0 where
  pub bears_none : (p : Path) → bears p did ≡ false
  pub birth : (p : Path) → is_birth p did ≡ false

pub record IsNewborn (s : State) (c : Path) (t : State) (did : Event) : Type 0 where
  pub n : ℕ
  pub is : did ≡ spawned c n
  pub childless : is_live s.instances c ≡ false → children_at t.instances c ≡ Some 0

abbrev pub Bears : State → Step → Type 0
Bears s waits = Unit {0}
Bears s parks = Unit {0}
Bears s (goes_on t did) = IsBare did
Bears s (ends t did) = IsBare did
Bears s (spawns c t did) = IsNewborn s c t did

last-count : (entries : Instances) (c : Path) (child : Instance) → is_live entries c ≡ false
    → children_at (entries ++ record { path = c; instance = child } ∷ []) c ≡ Some child.children
last-count entries c child none =
    ap (option_map (λ (i : Instance). i.children)) (at-push entries (record { path = c; instance = child }) c) ∙ by (instance_at entries c) none
  where
    by : (o : Option Instance) → is_some o ≡ false
        → option_map (λ (i : Instance). i.children) (either_of o (if same_path c c then Some child else None)) ≡ Some child.children
    by (Some x) h = cc
    by None h = ap (λ b. option_map (λ (i : Instance). i.children) (if b then Some child else None)) (same-self c)

row_bears : (program : Labelled) (s : State) (p : Path) (i : Instance) {taken : Step} → Row program s p i taken → Bears s taken
row_bears program s p i (headless first) = tt
row_bears program s p i (locked head first lock) = tt
row_bears program s p i (parked some) = tt
row_bears program s p i (stopping n kind) = record { bears_none = λ q. refl; birth = λ q. refl }
row_bears program s p i (going head z heads) = record { bears_none = λ q. refl; birth = λ q. refl }
row_bears program s p i (writing head cell z heads) = record { bears_none = λ q. refl; birth = λ q. refl }
row_bears program s p i (calling head awaits callee zs heads room) = record { bears_none = λ q. refl; birth = λ q. refl }
row_bears program s p i (leaving n) = record { bears_none = λ q. refl; birth = λ q. refl }
row_bears program s p i (answering n cell z) = record { bears_none = λ q. refl; birth = λ q. refl }
row_bears program s p i (spawning head receiver callee zs heads few room) = record {
  n = head.number;
  is = refl;
  childless = λ none.
      last-count (changed p (λ _. record (gone_on (pos 1) i) { spawned = true; children = i.children + 1 }) s.instances) (child_path p (i.children + 1)) _
      (live-changed p (λ _. record (gone_on (pos 1) i) { spawned = true; children = i.children + 1 }) s.instances (child_path p (i.children + 1)) ∙ none);
}
row_bears program s p i (printing head bytes heads room) = record { bears_none = λ q. refl; birth = λ q. refl }
row_bears program s p i (turning_lock head what k now heads becomes) = record { bears_none = λ q. refl; birth = λ q. refl }
row_bears program s p i (marking head heads) = record { bears_none = λ q. refl; birth = λ q. refl }
row_bears program s p i (returning n z none lockless unmarked) = record { bears_none = λ q. refl; birth = λ q. refl }
row_bears program s p i (placing oldest others cell z n takes) = record { bears_none = λ q. refl; birth = λ q. refl }
row_bears program s p i (taking oldest others inlet zs n takes) = record { bears_none = λ q. refl; birth = λ q. refl }
row_bears program s p i (aborting aborted none) = record { bears_none = λ q. refl; birth = λ q. refl }

bare-numbered : (events : List Event) (did : Event) (entries later : Instances) → IsBare did
    → ((p : Path) (m : ℕ) → children_at later p ≡ Some m → children_at entries p ≡ Some m) → Numbered events entries
    → Numbered (events ++ did ∷ []) later
bare-numbered events did entries later bare kept h = record {
  there = λ p m is. as_many p ∙ h.there p m (kept p m is);
  unmade = λ p none. as_many p ∙ h.unmade p (sym (made-unborn events did p (bare.birth p)) ∙ none);
}
  where
    as_many : (p : Path) → children_of (events ++ did ∷ []) p ≡ children_of events p
    as_many p = children-more events did p ∙ ap (λ b. children_of events p + cond b 1 0) (bare.bears_none p) ∙ plus (children_of events p)
      where
        plus : (n : ℕ) → n + 0 ≡ n
        plus n = omega arith

fewer-kept : (p : Path) (entries later : Instances) → Fewer p entries later → (q : Path) (m : ℕ) → children_at later q ≡ Some m
    → children_at entries q ≡ Some m
fewer-kept p entries later fewer q m is = by (same_path q p) refl
  where
    by : (b : Bool) → same_path q p ≡ b → children_at entries q ≡ Some m
    by true e =
        let live : is_live later q ≡ true = counted_live (instance_at later q) m is in
        let none : is_live later q ≡ false = fewer.live q ∙ ap (λ b. not b && is_live entries q) e in
        let both : true ≡ false = sym live ∙ none in
        cc
    by false e = sym (fewer.children q e) ∙ is

-- a child is born
module _ (events : List Event) (entries later : Instances) (p c : Path) (n : ℕ) (told : Told events entries) (h : Numbered events entries)
    (more : More p c entries later) (childless : is_live entries c ≡ false → children_at later c ≡ Some 0) where
  parent : parent_path c ≡ p
  parent = ap parent_path more.child ∙ ap (λ (o : Option Path). unwrap_or o []) (parent-child p (more.number + 1))

  -- it is the next child of its parent
  pub next-child : c ≡ child_path (parent_path c) (suc (children_of events (parent_path c)))
  next-child =
      let count : more.number + 1 ≡ suc (children_of events (parent_path c)) =
      let size = h.there p more.number more.before in
      let same : children_of events (parent_path c) ≡ children_of events p = ap (children_of events) parent in
      omega (arith, size, same)
      in
      more.child ∙ (λ j. child_path (sym parent j) (count j))

  fresh : (b : Bool) → was_made events c ≡ b → b ≡ false
  fresh true e = let last = told.counted p (more.number + 1) more.number (ap (was_made events) (sym more.child) ∙ e) more.before in absurd (omega arith)
  fresh false e = refl

  unmade_yet : was_made events c ≡ false
  unmade_yet = fresh (was_made events c) refl

  not_live : (b : Bool) → is_live entries c ≡ b → b ≡ false
  not_live true e = let both : true ≡ false = sym (told.made c e) ∙ unmade_yet in cc
  not_live false e = refl

  abbrev did : Event
  did = spawned c n

  adds : (q : Path) → children_of (events ++ did ∷ []) q ≡ children_of events q + cond (same_path p q) 1 0
  adds q = children-more events did q ∙ ap (λ x. children_of events q + cond (same_path x q) 1 0) parent

  apart : (q : Path) → same_path p q ≡ false → children_of (events ++ did ∷ []) q ≡ children_of events q
  apart q other = adds q ∙ ap (λ b. children_of events q + cond b 1 0) other ∙ plus (children_of events q)
    where
      plus : (n : ℕ) → n + 0 ≡ n
      plus n = omega arith

  there_by : (q : Path) (m : ℕ) (b : Bool) → same_path q p ≡ b → children_at later q ≡ Some m → children_of (events ++ did ∷ []) q ≡ m
  there_by q m true e is =
      let here : q ≡ p = same-is q p e in
      let size : more.number + 1 ≡ m = same_Some (more.number + 1) m (sym more.parent ∙ ap (children_at later) (sym here) ∙ is) in
      let old : children_of events q ≡ more.number = ap (children_of events) here ∙ h.there p more.number more.before in
      let one : ◌≡◌ {A = ℕ} (cond (same_path p q) 1 0) 1 = ap (λ x. cond (same_path p x) 1 0) here ∙ ap (λ b. cond b 1 0) (same-self p) in
      let sum = adds q in
      omega (arith, size, old, one, sum)
  there_by q m false e is = beside (is_live entries q) refl
    where
      beside : (live : Bool) → is_live entries q ≡ live → children_of (events ++ did ∷ []) q ≡ m
      beside true live = apart q (same-sym p q ∙ e) ∙ h.there q m (sym (more.children q e live) ∙ is)
      beside false none =
          let born : (same_path c q || is_live entries q) ≡ true = sym (more.live q) ∙ counted_live (instance_at later q) m is in
          let new : same_path c q ≡ true = either (same_path c q) (is_live entries q) none born in
          let here : c ≡ q = same-is c q new in
          let size : 0 ≡ m = same_Some 0 m (sym (childless (not_live (is_live entries c) refl)) ∙ ap (children_at later) here ∙ is) in
          apart q (same-sym p q ∙ e) ∙ ap (children_of events) (sym here) ∙ h.unmade c unmade_yet ∙ size
        where
          either : (a b : Bool) → b ≡ false → (a || b) ≡ true → a ≡ true
          either true b e h = refl
          either false true e h = cc
          either false false e h = cc

  parent_made : was_made events p ≡ true
  parent_made = told.made p (counted_live (instance_at entries p) more.number more.before)

  not_parent : (q : Path) (b : Bool) → same_path p q ≡ b → was_made events q ≡ false → b ≡ false
  not_parent q true e none = let both : true ≡ false = sym parent_made ∙ ap (was_made events) (same-is p q e) ∙ none in cc
  not_parent q false e none = refl

  before-made : (q : Path) (b : Bool) → was_made events q ≡ b → was_made (events ++ did ∷ []) q ≡ false → b ≡ false
  before-made q true e none =
      let both : true ≡ false = sym (or_left (was_made events q) (is_birth q did) e) ∙ sym (made-push q events did) ∙ none in cc
  before-made q false e none = refl

  pub newborn-numbered : Numbered (events ++ did ∷ []) later
  newborn-numbered = record {
    there = λ q m is. there_by q m (same_path q p) refl is;
    unmade = λ q none.
        let old : was_made events q ≡ false = before-made q (was_made events q) refl none in
        apart q (not_parent q (same_path p q) refl old) ∙ h.unmade q old;
  }

-- what a step keeps, and what it shows of a child
pub record Counts (events : List Event) (did : Event) (later : Instances) : Type 0 where
  pub now : Numbered (events ++ did ∷ []) later
  pub child : (c : Path) (n : ℕ) → did ≡ spawned c n → c ≡ child_path (parent_path c) (suc (children_of events (parent_path c)))

bare-counts : (events : List Event) (did : Event) (entries later : Instances) → IsBare did
    → ((p : Path) (m : ℕ) → children_at later p ≡ Some m → children_at entries p ≡ Some m) → Numbered events entries → Counts events did later
bare-counts events did entries later bare kept h = record {
  now = bare-numbered events did entries later bare kept h;
  child = λ c n is.
      let both : true ≡ false = sym (same-self c) ∙ ap (is_birth c) (sym is) ∙ bare.birth c in
      cc;
}

moved-counts : (events : List Event) (entries : Instances) → Numbered events entries → Counts events moved entries
moved-counts events entries h = bare-counts events moved entries entries (record { bears_none = λ p. refl; birth = λ p. refl }) (λ p m is. is) h

step-counts : (events : List Event) (s : State) (p : Path) (taken : Step) → Told events s.instances → Numbered events s.instances → Lives s p taken
    → Bears s taken → Counts events (event_of_step taken) (state_after s taken).instances
step-counts events s p waits told h lives bears_it = moved-counts events s.instances h
step-counts events s p parks told h lives bears_it = moved-counts events s.instances h
step-counts events s p (goes_on t did) told h alike bare =
    bare-counts events did s.instances t.instances bare (λ q m is. sym (alike.children q) ∙ is) h
step-counts events s p (ends t did) told h fewer bare = bare-counts events did s.instances t.instances bare (fewer-kept p s.instances t.instances fewer) h
step-counts events s p (spawns c t did) told h more new =
    subst (λ (e : Event). Counts events e t.instances) (sym new.is)
    (record {
      now = newborn-numbered events s.instances t.instances p c new.n told h more new.childless;
      child = λ d n is.
          let same : c ≡ d = born_of is in
          subst (λ x. x ≡ child_path (parent_path x) (suc (children_of events (parent_path x)))) same
          (next-child events s.instances t.instances p c new.n told h more new.childless);
    })
  where
    born_of : {d : Path} {n : ℕ} → spawned c new.n ≡ spawned d n → c ≡ d
    born_of e = cc

live-counts : (program : Labelled) (events : List Event) (s : State) (p : Path) (o : Option Instance) → instance_at s.instances p ≡ o
    → Told events s.instances → Numbered events s.instances
    → Counts events (event_of_step (step_of_live program s p o)) (state_after s (step_of_live program s p o)).instances
live-counts program events s p None e told h = moved-counts events s.instances h
live-counts program events s p (Some i) e told h =
    let row = step_row program s p i in
    step-counts events s p (step_of_live program s p (Some i)) told h (row_lives program s p i e row) (row_bears program s p i row)

hand-counts : (program : Labelled) (events : List Event) (at : Standing) (w : ℕ) (o : Option Path) → Told events at.state.instances
    → Numbered events at.state.instances
    → Counts events (event_by_hand program at.state o) (next_by_hand program at w o).state.instances
hand-counts program events at w None told h = moved-counts events at.state.instances h
hand-counts program events at w (Some p) told h = live-counts program events at.state p (instance_at at.state.instances p) refl told h

act-counts : (program : Labelled) (events : List Event) (at : Standing) (w : ℕ) (act : Act) → Told events at.state.instances
    → Numbered events at.state.instances → Counts events (event_by program at w act) (next_by program at w act).state.instances
act-counts program events at w step told h = hand-counts program events at w (hand_of at.scheduler.places w) told h
act-counts program events at w pop told h = moved-counts events at.state.instances h
act-counts program events at w (steal v) told h = moved-counts events at.state.instances h

-- both, at each position
record Holds (events : List Event) (at : Standing) : Type 0 where
  told : Told events at.state.instances
  numbered : Numbered events at.state.instances

module _ (program : Labelled) where
  keeps : (events : List Event) (at : Standing) (c : Choice) → Holds events at → Holds (events ++ event_of program at c ∷ []) (next_of program at c)
  keeps events at c h = record {
    told = (act_goes_on program events at c.worker c.act h.told).now;
    numbered = (act-counts program events at c.worker c.act h.told h.numbered).now;
  }

  at-next : (at : Standing) (events : List Event) (choices : List Choice) (end : Position) (b : Bool)
      → (after_from program at events choices ≡ Some end → Holds end.events end.standing)
      → (if b then after_from program at events choices else None) ≡ Some end → Holds end.events end.standing
  at-next at events choices end true f h = f h
  at-next at events choices end false f h = cc

  each-from : (at : Standing) (events : List Event) (choices : List Choice) (end : Position) → Holds events at
      → after_from program at events choices ≡ Some end → Holds end.events end.standing
  each-from at events [] end holds h =
      let e : record { standing = at; events = events } ≡ end = cc in
      subst (λ (q : Position). Holds q.events q.standing) e holds
  each-from at events (c ∷ choices) end holds h =
      at-next (next_of program at c) (events ++ event_of program at c ∷ []) choices end (is_none (refusal_of program at c))
      (each-from (next_of program at c) (events ++ event_of program at c ∷ []) choices end (keeps events at c holds)) h

  opening-count : (main : ℕ) (p : Path) (m : ℕ) (b : Bool)
      → option_map (λ (i : Instance). i.children) (if b then Some (started program main []) else None) ≡ Some m → 0 ≡ m
  opening-count main p m true e = cc
  opening-count main p m false e = cc

  -- no choice was made
  opens : (n main : ℕ) → program.main ≡ Some main → is_crew n ≡ true → Holds [] (opening program main n)
  opens n main start crew = record {
    told = told_at program n [] (record { standing = opening program main n; events = [] })
        (ap (λ o. after_main program n o []) start ∙ ap (λ b. if b then Some (record { standing = opening program main n; events = [] }) else None) crew);
    numbered = record { there = λ p m is. opening-count main p m (same_path [] p) is; unmade = λ p none. refl };
  }

  each-main : (n : ℕ) (o : Option ℕ) (choices : List Choice) (end : Position) → program.main ≡ o → after_main program n o choices ≡ Some end
      → Holds end.events end.standing
  each-main n None choices end e h = cc
  each-main n (Some main) choices end e h = by (is_crew n) refl h
    where
      by : (b : Bool) → is_crew n ≡ b → (if b then after_from program (opening program main n) [] choices else None) ≡ Some end
          → Holds end.events end.standing
      by true crew h = each-from (opening program main n) [] choices end (opens n main e crew) h
      by false crew h = cc

  -- a child that one choice more bears is the next of its parent
  pub child-next : (n : ℕ) (choices : List Choice) (at : Position) (choice : Choice) → after program n choices ≡ Some at
      → (c : Path) (k : ℕ) → event_of program at.standing choice ≡ spawned c k
      → c ≡ child_path (parent_path c) (suc (children_of at.events (parent_path c)))
  child-next n choices at choice h c k is =
      let all = each-main n program.main choices at refl h in
      (act-counts program at.events at.standing choice.worker choice.act all.told all.numbered).child c k is
