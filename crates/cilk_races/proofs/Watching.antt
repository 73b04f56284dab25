-- One choice more of a tape, and what is kept of it.
use Rattle.std.proofs.Common.{◌≡◌, ◌<◌, ◌≤◌, ◌^◌, ℕ, suc, Bool, true, false, if◌then◌else◌, List, [], ◌∷◌, ◌++◌, length, map, take, Option, Some, None}
use Rattle.std.proofs.Common.{is_none, refl, sym, ap, ◌∙◌, subst, arith, All, slice_get}
use Rattle.std.proofs.Math.Seq.{take-suc}
use Rattle.std.proofs.lemmas.Option.{slice_get_within, get_or_from_slice_get}
use Rattle.std.proofs.lemmas.List.{append-nil, length-map, length-take-le}
use Rattle.cilk_races.specs.Gauged.{events_at, events_in}
use Rattle.cilk_races.specs.Held.{Held}
use Rattle.cilk_races.specs.Motions.{motion_of}
use Rattle.cilk_races.specs.Tallies.{noted, noted_by}
use Rattle.cilk_races.specs.declared.motion.Motion.{Motion}
use Rattle.cilk_log_replay.specs.Tape.{Tape, IsAt}
use Rattle.cilk_log_replay.specs.machine.agree.Fated.{Fated}
use Rattle.cilk_log_replay.specs.machine.agree.scopes.WellFormed.{WellFormed}
use Rattle.cilk_log_replay.specs.machine.plans.PartWords.{event_by}
use Rattle.cilk_log_replay.specs.machine.plans.declared.did.Did.{Did}
use Rattle.cilk_log_replay.specs.machine.plans.declared.did.Did.TheVariants as did
use Rattle.cilk_log_replay.specs.machine.sched.declared.choice.Choice.{Choice}
use Rattle.cilk_log_replay.specs.machine.sched.Words.{choice_of}
use Rattle.cilk_log_replay.specs.machine.labelled.Bodies.{label}
use Rattle.cilk_log_replay.specs.machine.labelled.Labelled.{Labelled}
use Rattle.cilk_log_replay.specs.machine.model.Choice as model
use Rattle.cilk_log_replay.specs.machine.model.Event.{Event, spawned}
use Rattle.cilk_log_replay.specs.machine.model.Path.{Path, child_path}
use Rattle.cilk_log_replay.specs.machine.model.Run.{event_of, one_more, position_after, refusal_of}
use Rattle.cilk_log_replay.specs.machine.spawn.Nodes.{Node, path_at}
use Rattle.cilk_log_replay.specs.machine.syntax.Tree.{Program}
use Rattle.cilk_races.specs.Inside.{parent_path}
use Rattle.cilk_races.specs.Steps.{Step, step_of}
use Rattle.cilk_races.proofs.Numbered.{child-next}
use Rattle.cilk_races.proofs.Births.{grows, stays}
use Rattle.cilk_races.proofs.Doings.{Means}
use Rattle.cilk_races.proofs.Gauges.{did-is, events-long, events-next, noted-by}
use Rattle.cilk_races.proofs.Known.{map-same}
use Rattle.cilk_races.proofs.Moving.{Says, motion-says}
use Rattle.cilk_log_replay.proofs.Again.{led_in, chosen, step_down}
use Rattle.cilk_races.specs.Kept.{children_in, path_in, syncs_in}
use Rattle.cilk_races.specs.Line.{Line}
use Rattle.cilk_races.specs.Order.{children_of, syncs_of}
use Rattle.cilk_races.specs.Paired as paired
use Rattle.cilk_races.specs.Races as races
use Rattle.cilk_races.specs.Races.{placed_at, touch, touches_at, touches_of}
use Rattle.cilk_races.specs.PairWords.{placed_of}
use Rattle.cilk_log_replay.specs.machine.step.CellWords.{access_of}
use Rattle.cilk_races.specs.Looked.{AdvancesWatch}
use Rattle.cilk_races.specs.Noted.{KnowsTouch, NotesBy, number_of, placed_by, touch_by}
use Rattle.cilk_races.specs.Watched.{TellsLines, Watched}
use Rattle.cilk_races.specs.declared.look.Look.{Look}
use Rattle.cilk_races.specs.declared.watch.Watch.{Watch}
use Rattle.cilk_races.proofs.Noting.{TellsBy, told-noted}
use Rattle.cilk_races.proofs.Shown.{none-shown, own-there, touches-shown}
use Rattle.cilk_races.proofs.Touched.{children-is, known-more, path-told, syncs-is, touches-by, touches-push, touches-same}

number-is : (up now : ℕ → Path) (x : Did) → races.number_of (event_by up now x) ≡ number_of x
number-is up now did.Moved = refl
number-is up now (did.Acted id n) = refl
number-is up now (did.Spawned id n) = refl
number-is up now (did.Delivered id n) = refl
number-is up now (did.Returned id n) = refl
number-is up now (did.Ended id) = refl
number-is up now (did.Trapped kind id n) = refl

is-true : {A : Type 0} (b : Bool) (x y : A) → (if b then Some x else None) ≡ Some y → b ≡ true
is-true true x y h = refl
is-true false x y h = cc

module _ (t : Tape) (xs : List Choice) (k : ℕ) (old new : Watch) (well : WellFormed t.program) (same : t.choices ≡ map choice_of xs) (within : k < length xs)
    (few : k < 2 ^ 60) (at : IsAt t k old.machine) (next : IsAt t (suc k) new.machine) (done : AdvancesWatch t xs k old new) (kept : Watched t k old) where
  abbrev program : Labelled
  program = label t.program

  abbrev ns : List Node
  ns = old.machine.machine.nodes

  abbrev now : List Node
  now = new.machine.machine.nodes

  abbrev x : Did
  x = done.did

  abbrev look : Look
  look = done.look

  abbrev e : Event
  e = event_by (path_at ns) (path_at now) x

  abbrev choice : model.Choice
  choice = choice_of done.choice

  is : slice_get t.choices k ≡ Some choice
  is = chosen t xs k done.choice same done.chosen

  low : k ≤ length t.choices
  low = let size : length t.choices ≡ length xs = ap length same ∙ length-map xs choice_of in omega (arith, within, size)

  events : events_at t (suc k) ≡ events_at t k ++ e ∷ []
  events = events-next t k old.machine new.machine at next choice e is done.is

  here : events_at t k ≡ at.at.events
  here = ap events_in (led_in t k old.machine at)

  there : events_at t (suc k) ≡ next.at.events
  there = ap events_in (led_in t (suc k) new.machine next)

  short : length (events_at t k) < 2 ^ 60
  short = let long : length (events_at t k) ≡ k = events-long t k old.machine at low in omega (arith, long, few)

  before : Fated program ns (events_at t k)
  before =
      subst (λ (p : Program). Fated (label p) ns (events_at t k)) at.program (subst (Fated (label old.machine.program) ns) (sym here) at.led.fated)

  behind : Fated program now (events_at t k ++ e ∷ [])
  behind =
      subst (λ (p : Program). Fated (label p) now (events_at t k ++ e ∷ [])) next.program
      (subst (Fated (label new.machine.program) now) (sym there ∙ events) next.led.fated)

  held : Held program (path_at now) (length now) (events_at t k ++ e ∷ []) (noted t.program now x old.tally)
  held = noted-by t.program ns now (events_at t k) old.tally short at.led.agrees.tree next.led.agrees.tree before kept.tally x behind

  -- the choice is possible, and did this
  free : is_none (refusal_of program at.at.standing choice) ≡ true
  free =
      is-true (is_none (refusal_of program at.at.standing choice)) (position_after program at.at choice) next.at
      (sym (step_down t k choice is ∙ ap (one_more program choice) (led_in t k old.machine at)) ∙ led_in t (suc k) new.machine next)

  did_this : event_of program at.at.standing choice ≡ e
  did_this = did-is t k old.machine new.machine at next choice e is done.is

  numbers : (c : Path) (n : ℕ) → e ≡ spawned c n → c ≡ child_path (parent_path c) (suc (children_of (events_at t k) (parent_path c)))
  numbers c n is =
      subst (λ (es : List Event). c ≡ child_path (parent_path c) (suc (children_of es (parent_path c)))) (sym here)
      (child-next program t.workers (take k t.choices) at.at choice (led_in t k old.machine at) c n (did_this ∙ is))

  stay : (i : ℕ) → i < length ns → path_at now i ≡ path_at ns i
  stay = stays program ns now (events_at t k) e at.led.agrees.tree next.led.agrees.tree before behind

  longer : length ns ≤ length now
  longer = grows program ns now (events_at t k) e at.led.agrees.tree next.led.agrees.tree before behind

  own-low : look.own < length ns
  own-low = own-there old.machine (subst WellFormed (sym at.program) well) (take k t.choices) at.at.events at.at.standing at.led done.choice look done.looks

  through : take (suc k) t.choices ≡ take k t.choices ++ choice ∷ []
  through =
      take-suc t.choices k choice (slice_get_within t.choices k choice is)
      ∙ ap (λ (c : model.Choice). take k t.choices ++ c ∷ []) (get_or_from_slice_get t.choices k choice choice is)

  -- what the definition adds for it
  added : (main : ℕ) → program.main ≡ Some main → touches_of program main t.workers (take (suc k) t.choices)
      ≡ touches_of program main t.workers (take k t.choices) ++ touches_at program at.at.standing at.at.events (suc k) choice
  added main start =
      ap (touches_of program main t.workers) through
      ∙ touches-push program choice t.workers main (take k t.choices) at.at start (led_in t k old.machine at)
      ∙ ap (λ n. touches_of program main t.workers (take k t.choices) ++ touches_at program at.at.standing at.at.events (suc n) choice)
      (length-take-le k t.choices low)

  -- in the words of the machine's program
  module _ (st : Step) (step : step_of program at.at.events e ≡ Some st) where
    abbrev Shown : Program → Type 0
    Shown p =
        touches_at (label p) at.at.standing at.at.events (suc k) choice
        ≡ map (touch (suc k) (placed_at (label p) at.at.events st) (races.number_of e) look.locks.items look.procedure)
        (map (access_of (path_at ns look.own)) look.accesses.items)

    shown : Shown t.program
    shown =
        let its = sym at.program in
        subst Shown at.program
        (touches-shown old.machine (subst WellFormed its well) (take k t.choices) at.at.events at.at.standing at.led done.choice (suc k) e st look
        (subst (λ (p : Program). is_none (refusal_of (label p) at.at.standing choice) ≡ true) its free)
        (subst (λ (p : Program). event_of (label p) at.at.standing choice ≡ e) its did_this)
        (subst (λ (p : Program). step_of (label p) at.at.events e ≡ Some st) its step) done.looks)

  abbrev Bare : Program → Type 0
  Bare p = touches_at (label p) at.at.standing at.at.events (suc k) choice ≡ []

  bare : step_of program at.at.events e ≡ None → Bare t.program
  bare step =
      let its = sym at.program in
      subst Bare at.program
      (none-shown old.machine (subst WellFormed its well) (take k t.choices) at.at.events at.at.standing at.led done.choice (suc k) e
      (subst (λ (p : Program). event_of (label p) at.at.standing choice ≡ e) its did_this)
      (subst (λ (p : Program). step_of (label p) at.at.events e ≡ None) its step))

  abbrev Behind : List Line → Type 0
  Behind rows = TellsLines program (path_at now) (length now) (events_at t k ++ e ∷ []) rows

  -- the paths of those that were made are as they were
  paths-same : (rows : List Line) → Behind rows → (i : ℕ) → i < length ns → path_in rows i ≡ path_in old.rows i
  paths-same rows tells i h =
      let more = longer in
      path-told program (path_at now) (length now) (events_at t k ++ e ∷ []) rows tells i (omega (arith, h, more)) ∙ stay i h
      ∙ sym (path-told program (path_at ns) (length ns) (events_at t k) old.rows kept.rows i h)

  old-same : (rows : List Line) → Behind rows → (main : ℕ) → program.main ≡ Some main
      → paired.touches_of rows old.touches.items ≡ touches_of program main t.workers (take k t.choices)
  old-same rows tells main start =
      touches-same old.rows rows (length ns) (paths-same rows tells) old.touches.items kept.known ∙ kept.touches main start

  -- a step m
  module _ (m : Motion) (st : Step) (means : Means program (events_at t k) e (path_at ns) (length ns) m st) (rows : List Line) (tells : Behind rows) where
    up-to : (i : ℕ) → i < length ns → path_in rows i ≡ path_at ns i
    up-to i h =
        let more = longer in
        path-told program (path_at now) (length now) (events_at t k ++ e ∷ []) rows tells i (omega (arith, h, more)) ∙ stay i h

    placed-is : placed_of rows (placed_by old.rows m) ≡ placed_at program at.at.events st
    placed-is =
        let place = up-to m.place means.place ∙ sym means.path in
        let taking = map-same (path_at ns) (path_in rows) (length ns) up-to m.taking means.taking_there ∙ sym means.taking in
        let line = kept.rows.each m.place means.place in
        let syncs : syncs_in old.rows m.place ≡ syncs_of program at.at.events st.path =
        syncs-is old.rows m.place ∙ line.syncs ∙ (λ j. syncs_of program (here j) (sym means.path j))
        in
        let children : children_in old.rows m.place ≡ children_of at.at.events st.path =
        children-is old.rows m.place ∙ line.children ∙ (λ j. children_of (here j) (sym means.path j))
        in
        λ j. record { path = place j; taking = taking j; syncs = syncs j; children = children j }

    new-same : map (touch_by rows (suc k) look.own (placed_by old.rows m) (number_of x) look.locks.items look.procedure) look.accesses.items
        ≡ touches_at program at.at.standing at.at.events (suc k) choice
    new-same =
        touches-by rows (suc k) look.own (number_of x) (placed_by old.rows m) look.locks.items look.procedure
        (placed_at program at.at.events st) (path_at ns look.own) placed-is (up-to look.own own-low) look.accesses.items
        ∙ ap (λ n. map (touch (suc k) (placed_at program at.at.events st) n look.locks.items look.procedure)
        (map (access_of (path_at ns look.own)) look.accesses.items))
        (sym (number-is (path_at ns) (path_at now) x))
        ∙ sym (shown st (ap (λ (es : List Event). step_of program es e) (sym here) ∙ means.step))

  finish : (o : Option Motion) → noted t.program now x old.tally ≡ noted_by o x old.tally → NotesBy t.program now look (suc k) x o old new
      → TellsBy t.program ns now (events_at t k) old.tally.cells old.rows short at.led.agrees.tree next.led.agrees.tree before kept.tally.cells
      kept.rows x o
      → Says t.program ns now (events_at t k) old.tally.cells short at.led.agrees.tree next.led.agrees.tree before kept.tally.cells x o
      → Watched t (suc k) new
  finish None is_noted same_all told says =
      let rows : Behind new.rows = subst Behind (sym same_all.rows) told in
      record {
        tally = subst (λ (es : List Event). Held program (path_at now) (length now) es new.tally) (sym events)
            (subst (Held program (path_at now) (length now) (events_at t k ++ e ∷ [])) (is_noted ∙ sym same_all.tally) held);
        rows = subst (λ (es : List Event). TellsLines program (path_at now) (length now) es new.rows) (sym events) rows;
        known = subst (All (KnowsTouch (length now))) (sym same_all.touches) (known-more (length ns) (length now) longer old.touches.items kept.known);
        touches = λ main start.
            ap (paired.touches_of new.rows) same_all.touches ∙ old-same new.rows rows main start
            ∙ sym (added main start
            ∙ ap (λ ys. touches_of program main t.workers (take k t.choices) ++ ys)
            (bare (ap (λ (es : List Event). step_of program es e) (sym here) ∙ says))
            ∙ append-nil (touches_of program main t.workers (take k t.choices)));
      }
  finish (Some m) is_noted notes told says =
      let rows : Behind new.rows = subst Behind (sym notes.rows) told in
      let means = says.1 in
      record {
        tally = subst (λ (es : List Event). Held program (path_at now) (length now) es new.tally) (sym events)
            (subst (Held program (path_at now) (length now) (events_at t k ++ e ∷ [])) (sym notes.tally) held);
        rows = subst (λ (es : List Event). TellsLines program (path_at now) (length now) es new.rows) (sym events) rows;
        known = known-more (length ns) (length now) longer new.touches.items
            (notes.touches.known (length ns) own-low (record { place = means.place; taking = means.taking_there }) kept.known);
        touches = λ main start.
            notes.touches.touches new.rows
            ∙ (λ j. old-same new.rows rows main start j ++ new-same m says.0 means new.rows rows j)
            ∙ sym (added main start);
      }

  pub watched-next : Watched t (suc k) new
  watched-next =
      finish (motion_of t.program now old.tally.cells x) refl
      (subst (λ (p : Program). NotesBy p now look (suc k) x (motion_of p now old.tally.cells x) old new) next.program done.noted)
      (told-noted t.program ns now (events_at t k) old.tally.cells old.rows short at.led.agrees.tree next.led.agrees.tree before kept.tally.cells
      kept.rows x behind numbers)
      (motion-says t.program ns now (events_at t k) old.tally.cells short at.led.agrees.tree next.led.agrees.tree before kept.tally.cells x behind)
