-- One choice more of a tape, with what is kept of it.
use Rattle.std.proofs.Common.{◌≡◌, ◌<◌, ◌≤◌, ◌^◌, ℕ, suc, max, Bool, true, false, if◌then◌else◌, List, [], ◌∷◌, ◌++◌, map, take, length}
use Rattle.std.proofs.Common.{Option, Some, None, unwrap_or, is_none, Result, Ok, Err, IfOk, refl, sym, ap, ◌∙◌, subst, arith, slice_get}
use Rattle.std.specs.Prelude.{count_by}
use Rattle.std.proofs.lemmas.Bool.{false_from_ne_true}
use Rattle.std.proofs.lemmas.List.{length-map, take_all, length-take-le, nil_from_length}
use Rattle.std.proofs.Math.Seq.{take-suc}
use Rattle.std.proofs.lemmas.Option.{slice_get_within, get_or_from_slice_get}
use Rattle.cilk_log_replay.specs.machine.syntax.Tree.{Program}
use Rattle.cilk_log_replay.specs.machine.labelled.Bodies.{label}
use Rattle.cilk_log_replay.specs.machine.labelled.Labelled.{Labelled}
use Rattle.cilk_log_replay.specs.machine.model.Path.{Path, same_path, parent_of, is_that}
use Rattle.cilk_log_replay.specs.machine.model.Choice as model
use Rattle.cilk_log_replay.specs.machine.model.Event.{Event, acted, spawned, delivered, returned, ended, trapped, moved}
use Rattle.cilk_log_replay.specs.machine.model.Made.{born}
use Rattle.cilk_log_replay.specs.machine.model.Change.{is_sync}
use Rattle.cilk_log_replay.specs.machine.model.Run.{Position, refusal_of, event_of, position_after, one_more}
use Rattle.cilk_log_replay.specs.machine.sched.declared.choice.Choice.{Choice}
use Rattle.cilk_log_replay.specs.machine.sched.Words.{choice_of}
use Rattle.cilk_log_replay.specs.machine.spawn.Nodes.{Node, IsTree, node_at, path_at}
use Rattle.cilk_log_replay.specs.machine.frame.Kinds.{kind_of}
use Rattle.cilk_log_replay.specs.machine.agree.Fated.{Fated}
use Rattle.cilk_log_replay.specs.machine.plans.declared.did.Did.{Did}
use Rattle.cilk_log_replay.specs.machine.plans.declared.did.Did.TheVariants as did
use Rattle.cilk_log_replay.specs.machine.plans.PartWords.{event_by}
use Rattle.cilk_log_replay.specs.machine.Situation.{Situation, workers_of}
use Rattle.cilk_log_replay.proofs.machine_laws.spawn_laws.Paths.{same_is}
use Rattle.cilk_log_replay.proofs.machine_laws.spawn_laws.Trees.{names}
use Rattle.cilk_log_replay.proofs.machine_laws.runs_laws.Fates.{each_choice_is_an_event}
use Rattle.cilk_log_replay.specs.Tape.{Tape, did_by, did_at, IsAt}
use Rattle.cilk_log_replay.proofs.Again.{led_in, step_down, chosen}
use Rattle.cilk_races.specs.Acts.{act_of, is_so}
use Rattle.cilk_races.specs.Inside.{parent_path}
use Rattle.cilk_races.specs.Steps.{Step, step_at, step_within}
use Rattle.cilk_races.specs.Deeds.{Deed, deeds_of, is_work_of, in_deque}
use Rattle.cilk_races.specs.Measure.{greatest, most, is_end, depth_of}
use Rattle.cilk_races.proofs.Pushes.{deeds-push}
use Rattle.cilk_races.specs.declared.cell.Cell.{Cell}
use Rattle.cilk_races.specs.declared.gauge.Gauge.{Gauge}
use Rattle.cilk_races.specs.declared.motion.Motion.{Motion}
use Rattle.cilk_races.specs.Cells.{cell_at}
use Rattle.cilk_races.specs.Motions as motion
use Rattle.cilk_races.specs.Motions.{place_among, acted_by, delivered_by}
use Rattle.cilk_races.specs.Tallies.{Tally, first, stepped, is_ending, counted, noted}
use Rattle.cilk_races.specs.CellsKept.{Named, Kept}
use Rattle.cilk_races.specs.Held.{Held, Counted, Gauged}
use Rattle.cilk_races.specs.Gauged.{Advances, IsMeasureOf, events_in, events_at}
use Rattle.cilk_races.specs.Seats.{Counts, no_counts, told}
use Rattle.cilk_races.proofs.Births.{named-by, made-length, made-at, stays, none-born, one-born, last-born, parented-by}
use Rattle.cilk_races.proofs.Ids.{place-within, place-path}
use Rattle.cilk_races.proofs.Doings.{Means, acted-means, spawned-means, delivered-means, returned-means, ended-means, trapped-means}
use Rattle.cilk_races.proofs.Stilled.{keeps-still}
use Rattle.cilk_races.proofs.Totals.{held-still, held-born, held-unless}
use Rattle.cilk_races.proofs.Counting.{moved-too, spawned-too, counted-more, counted-first, by_worker}

-- what a choice did, noted
module _ (program : Program) (ns now : List Node) (events : List Event) (t : Tally) (short : length events < 2 ^ 60) (tree : IsTree ns)
    (after : IsTree now) (before : Fated (label program) ns events) (held : Held (label program) (path_at ns) (length ns) events t) where
  abbrev Behind : Did → Type 0
  Behind x =
      Fated (label program) now (events ++ event_by (path_at ns) (path_at now) x ∷ [])
      → Held (label program) (path_at now) (length now) (events ++ event_by (path_at ns) (path_at now) x ∷ []) (noted program now x t)

  named : Named (path_at ns) (length ns)
  named = named-by ns tree

  entries : length t.cells ≡ length ns
  entries = held.cells.entries

  place-low : (id : ℕ) → place_among (length t.cells) id < length ns
  place-low id =
      let some = tree.some in
      let low : place_among (length t.cells) id < length t.cells = place-within (length t.cells) id (omega (arith, some, entries)) in
      omega (arith, low, entries)

  place-is : (id : ℕ) → path_at ns id ≡ path_at ns (place_among (length t.cells) id)
  place-is id = sym (ap (λ n. path_at ns (place_among n id)) entries ∙ place-path (path_at ns) (length ns) named id)

  -- what the nodes tell of each other, behind what a choice did
  module _ (x : Did) (behind : Fated (label program) now (events ++ event_by (path_at ns) (path_at now) x ∷ [])) where
    same : (i : ℕ) → i < length ns → path_at now i ≡ path_at ns i
    same = stays (label program) ns now events (event_by (path_at ns) (path_at now) x) tree after before behind

    -- a step by which none is born
    quiet : (m : Motion) (s : Step) → Means (label program) events (event_by (path_at ns) (path_at now) x) (path_at ns) (length ns) m s
        → m.bears ≡ false → s.child ≡ None → born (event_by (path_at ns) (path_at now) x) ≡ []
        → is_ending x ≡ is_end (event_by (path_at ns) (path_at now) x)
        → Held (label program) (path_at now) (length now) (events ++ event_by (path_at ns) (path_at now) x ∷ []) (counted x (stepped m t))
    quiet m s means bears child bare ending =
        let size : length now ≡ length ns =
        none-born (label program) ns now events (event_by (path_at ns) (path_at now) x) tree after before behind bare
        in
        held-unless (label program) events (event_by (path_at ns) (path_at now) x) x (path_at ns) (path_at now) (length ns) (length now) t m s short named held
        means same (omega (arith, size)) (λ i h. ap (is_that (path_at ns i)) child) ending m.bears refl bears size child bare

  acted-calm : (a b w : Bool) (c : Cell) (p : ℕ) → (acted_by a b w c p).bears ≡ false
  acted-calm true b w c p = refl
  acted-calm false true w c p = refl
  acted-calm false false w c p = refl

  delivered-calm : (a : Bool) (c : Cell) (p k : ℕ) → (delivered_by a c p k).bears ≡ false
  delivered-calm true c p k = refl
  delivered-calm false c p k = refl

  -- a child was spawned
  spawned-noted : (id n : ℕ) → Behind (did.Spawned id n)
  spawned-noted id n behind =
      let c : Path = path_at now id in
      let x : Did = did.Spawned id n in
      let size : length now ≡ suc (length ns) = one-born (label program) ns now events (spawned c n) tree after before behind c refl in
      let last : path_at now (length ns) ≡ c = last-born (label program) ns now events (spawned c n) tree after before behind c refl in
      let stay : (i : ℕ) → i < length ns → path_at now i ≡ path_at ns i = same x behind in
      let child = parented-by ns now c tree after size last stay (node_at now (length ns)).parent refl in
      let p : ℕ = child.at in
      let where_is : unwrap_or (node_at now (length t.cells)).parent 0 ≡ p =
      ap (λ k. unwrap_or (node_at now k).parent 0) entries ∙ ap (λ (o : Option ℕ). unwrap_or o 0) child.is
      in
      let path : parent_path c ≡ path_at ns p = ap (λ (o : Option Path). unwrap_or o []) child.parent in
      let apart : (i : ℕ) → i < length ns → path_at ns i ≡ c → ⊥ =
      λ i h is.
      let at : i ≡ length ns = names now after i (length ns) (omega (arith, h, size)) (omega (arith, size)) (stay i h ∙ is ∙ sym last) in
      omega (arith, at, h)
      in
      let new : (i : ℕ) → i < length ns → same_path (path_at ns i) c ≡ false =
      λ i h. false_from_ne_true (same_path (path_at ns i) c) (λ is. apart i h (same_is (path_at ns i) c is))
      in
      let anew : (i : ℕ) → i < length ns → same_path c (path_at ns i) ≡ false =
      λ i h. false_from_ne_true (same_path c (path_at ns i)) (λ is. apart i h (sym (same_is c (path_at ns i) is)))
      in
      subst
      (λ k. Held (label program) (path_at now) (length now) (events ++ spawned c n ∷ []) (counted (did.Spawned id n) (stepped (motion.born t.cells k) t)))
      (sym where_is)
      (held-born (label program) events (spawned c n) x (path_at ns) (path_at now) (length ns) (length now) t (motion.born t.cells p)
      (step_at (label program) events (spawned c n) (parent_path c) None (Some c) false) short named held
      (spawned-means (label program) events (path_at ns) (length ns) t.cells short named held.cells c n p child.within path)
      stay (omega (arith, size)) new refl c size last child.parent child.long refl refl refl new anew)

  pub noted-by : (x : Did) → Behind x
  noted-by did.Moved behind =
      let size : length now ≡ length ns = none-born (label program) ns now events moved tree after before behind refl in
      record {
        cells =
            keeps-still (label program) events moved (path_at ns) (path_at now) (length ns) (length now) t.cells refl (λ p i. refl)
            (same did.Moved behind) size held.cells;
        totals = held-still (label program) events moved t refl refl refl held.totals;
      }
  noted-by (did.Acted id n) behind =
      let p : ℕ = place_among (length t.cells) id in
      quiet (did.Acted id n) behind (motion.acted (act_of (label program) n) t.cells p)
      (step_within (label program) events (acted (path_at ns id) n) (path_at ns id) (is_so is_sync (act_of (label program) n)))
      (acted-means (label program) events (path_at ns) (length ns) t.cells short named held.cells (path_at ns id) n p (place-low id) (place-is id))
      (acted-calm _ _ _ _ _) refl refl refl
  noted-by (did.Spawned id n) behind = spawned-noted id n behind
  noted-by (did.Delivered id n) behind =
      let p : ℕ = place_among (length t.cells) id in
      quiet (did.Delivered id n) behind (motion.delivered (act_of (label program) n) t.cells p)
      (step_at (label program) events (delivered (path_at ns id) n) (parent_path (path_at ns id)) (Some (path_at ns id)) None false)
      (delivered-means (label program) events (path_at ns) (length ns) t.cells short named held.cells (path_at ns id) n p (place-low id) (place-is id))
      (delivered-calm _ _ _ _) refl refl refl
  noted-by (did.Returned id n) behind =
      let p : ℕ = place_among (length t.cells) id in
      quiet (did.Returned id n) behind (motion.ended t.cells p) (step_at (label program) events (returned (path_at ns id) n) (path_at ns id) None None true)
      (returned-means (label program) events (path_at ns) (length ns) t.cells short named held.cells (path_at ns id) n p (place-low id) (place-is id))
      refl refl refl refl
  noted-by (did.Ended id) behind =
      let p : ℕ = place_among (length t.cells) id in
      quiet (did.Ended id) behind (motion.ended t.cells p) (step_at (label program) events (ended (path_at ns id)) (path_at ns id) None None true)
      (ended-means (label program) events (path_at ns) (length ns) t.cells short named held.cells (path_at ns id) p (place-low id) (place-is id))
      refl refl refl refl
  noted-by (did.Trapped kind id n) behind =
      let p : ℕ = place_among (length t.cells) id in
      quiet (did.Trapped kind id n) behind (motion.trapped t.cells p)
      (step_within (label program) events (trapped (kind_of kind) (path_at ns id) n) (path_at ns id) false)
      (trapped-means (label program) events (path_at ns) (length ns) t.cells short named held.cells (kind_of kind) (path_at ns id) n p
      (place-low id) (place-is id))
      refl refl refl refl

-- as many deeds as events
deeds-long : (choices : List model.Choice) (events : List Event) → length choices ≡ length events → length (deeds_of choices events) ≡ length events
deeds-long [] [] same = refl
deeds-long [] (e ∷ events) same = absurd (omega (arith, same))
deeds-long (c ∷ choices) [] same = absurd (omega (arith, same))
deeds-long (c ∷ choices) (e ∷ events) same = ap suc (deeds-long choices events (omega (arith, same)))

-- one choice more of a tape
module _ (t : Tape) (k : ℕ) (m n : Situation) (at : IsAt t k m) (next : IsAt t (suc k) n) where
  record Goes (choice : model.Choice) : Type 0 where
    events : next.at.events ≡ at.at.events ++ event_of (label t.program) at.at.standing choice ∷ []

  goes-by : (choice : model.Choice) (b : Bool) → is_none (refusal_of (label t.program) at.at.standing choice) ≡ b
      → (if b then Some (position_after (label t.program) at.at choice) else None) ≡ Some next.at → Goes choice
  goes-by choice true e h =
      let is : position_after (label t.program) at.at choice ≡ next.at = cc in
      record { events = sym (ap (λ (p : Position). p.events) is) }
  goes-by choice false e h = cc

  goes : (choice : model.Choice) → slice_get t.choices k ≡ Some choice → Goes choice
  goes choice is =
      goes-by choice (is_none (refusal_of (label t.program) at.at.standing choice)) refl
      (sym (step_down t k choice is ∙ ap (one_more (label t.program) choice) (led_in t k m at)) ∙ led_in t (suc k) n next)

  pub did-is : (choice : model.Choice) (e : Event) → slice_get t.choices k ≡ Some choice → did_at t k ≡ Some e
      → event_of (label t.program) at.at.standing choice ≡ e
  did-is choice e is does =
      let same : Some (event_of (label t.program) at.at.standing choice) ≡ Some e =
      sym ((λ j. did_by t.program (led_in t k m at j) (is j))) ∙ does
      in
      cc

  pub events-next : (choice : model.Choice) (e : Event) → slice_get t.choices k ≡ Some choice → did_at t k ≡ Some e
      → events_at t (suc k) ≡ events_at t k ++ e ∷ []
  events-next choice e is does =
      let go = goes choice is in
      ap events_in (led_in t (suc k) n next) ∙ go.events
      ∙ (λ j. events_in (sym (led_in t k m at) j) ++ did-is choice e is does j ∷ [])

-- so many events as choices
pub events-long : (t : Tape) (k : ℕ) (m : Situation) → IsAt t k m → k ≤ length t.choices → length (events_at t k) ≡ k
events-long t k m at low =
    ap (λ (o : Option Position). length (events_in o)) (led_in t k m at)
    ∙ each_choice_is_an_event (label m.program) (workers_of m) (take k t.choices)
    (record { standing = at.at.standing; events = at.at.events }) at.led.led ∙ length-take-le k t.choices low

-- one choice more, and what is kept of it
pub gauged-next : (t : Tape) (xs : List Choice) (k : ℕ) (old new : Gauge) → t.choices ≡ map choice_of xs → k < length xs → k < 2 ^ 60
    → IsAt t k old.machine → IsAt t (suc k) new.machine → Advances t xs k old new → Gauged t k old → Gauged t (suc k) new
gauged-next t xs k old new same within few at next done kept =
    let x : Did = done.did in
    let up : ℕ → Path = path_at old.machine.machine.nodes in
    let now : ℕ → Path = path_at new.machine.machine.nodes in
    let e : Event = event_by up now x in
    let choice : model.Choice = choice_of done.choice in
    let is : slice_get t.choices k ≡ Some choice = chosen t xs k done.choice same done.chosen in
    let size : length t.choices ≡ length xs = ap length same ∙ length-map xs choice_of in
    let events : events_at t (suc k) ≡ events_at t k ++ e ∷ [] = events-next t k old.machine new.machine at next choice e is done.is in
    let here : events_at t k ≡ at.at.events = ap events_in (led_in t k old.machine at) in
    let there : events_at t (suc k) ≡ next.at.events = ap events_in (led_in t (suc k) new.machine next) in
    let long : length (events_at t k) ≡ k = events-long t k old.machine at (omega (arith, within, size)) in
    let before : Fated (label t.program) old.machine.machine.nodes (events_at t k) =
    subst (λ (p : Program). Fated (label p) old.machine.machine.nodes (events_at t k)) at.program
    (subst (Fated (label old.machine.program) old.machine.machine.nodes) (sym here) at.led.fated)
    in
    let behind : Fated (label t.program) new.machine.machine.nodes (events_at t k ++ e ∷ []) =
    subst (λ (p : Program). Fated (label p) new.machine.machine.nodes (events_at t k ++ e ∷ [])) next.program
    (subst (Fated (label new.machine.program) new.machine.machine.nodes) (sym there ∙ events) next.led.fated)
    in
    let held : Held (label t.program) now (length new.machine.machine.nodes) (events_at t k ++ e ∷ [])
    (noted t.program new.machine.machine.nodes x old.tally) =
    noted-by t.program old.machine.machine.nodes new.machine.machine.nodes (events_at t k) old.tally (omega (arith, long, few)) at.led.agrees.tree
    next.led.agrees.tree before kept.tally x behind
    in
    let tally : noted t.program new.machine.machine.nodes x old.tally ≡ new.tally =
    ap (λ (p : Program). noted p new.machine.machine.nodes x old.tally) (sym next.program) ∙ sym done.tally
    in
    let through : take (suc k) t.choices ≡ take k t.choices ++ choice ∷ [] =
    take-suc t.choices k choice (slice_get_within t.choices k choice is)
    ∙ ap (λ (c : model.Choice). take k t.choices ++ c ∷ []) (get_or_from_slice_get t.choices k choice choice is)
    in
    let count : length (take k t.choices) ≡ length (events_at t k) = length-take-le k t.choices (omega (arith, within, size)) ∙ sym long in
    let deeds : deeds_of (take (suc k) t.choices) (events_at t (suc k))
    ≡ deeds_of (take k t.choices) (events_at t k) ++ record { choice = choice; did = e } ∷ [] =
    (λ j. deeds_of (through j) (events j)) ∙ deeds-push (take k t.choices) (events_at t k) choice e count
    in
    let all : length (deeds_of (take k t.choices) (events_at t k)) ≡ k = deeds-long (take k t.choices) (events_at t k) count ∙ long in
    record {
      tally = subst (λ (es : List Event). Held (label t.program) now (length new.machine.machine.nodes) es new.tally) (sym events)
          (subst (Held (label t.program) now (length new.machine.machine.nodes) (events_at t k ++ e ∷ [])) tally held);
      counts = subst (λ (ds : List Deed). Counted t.workers ds new.counts) (sym deeds)
          (subst (Counted t.workers (deeds_of (take k t.choices) (events_at t k) ++ record { choice = choice; did = e } ∷ [])) (sym done.counts)
          (counted-more t.workers (deeds_of (take k t.choices) (events_at t k)) old.counts (omega (arith, all, few)) kept.counts e done.choice x
          (moved-too up now x) (spawned-too up now x)));
    }

-- before any choice
pub first-held : (program : Labelled) (ns : List Node) → IsTree ns → Fated program ns [] → Held program (path_at ns) (length ns) [] first
first-held program ns tree fated =
    let size : length ns ≡ 1 = made-length program ns [] fated in
    let some = tree.some in
    let root : path_at ns 0 ≡ [] = made-at program ns [] fated 0 some in
    record {
      cells = record {
        entries = sym size;
        few = omega (arith, size);
        each = λ i h.
            let at : i ≡ 0 = omega (arith, h, size) in
            subst (λ k. Kept program (path_at ns) (length ns) [] k (cell_at first.cells k)) (sym at)
            (record {
              parent = ap parent_of root;
              parent_there = tt;
              depth = ap depth_of (sym root);
              inside = refl;
              low = omega arith;
              taking_there = tt;
              thread = refl;
              joined = refl;
              taken = refl;
            });
        unmade = λ p none. refl;
        known = tt;
      };
      totals = record { instances = refl; span = refl; bodies = refl; depth = refl; ended = refl; live = refl };
    }

pub gauged-first : (t : Tape) (g : Gauge) (n : ℕ) → n ≡ t.workers → IsAt t 0 g.machine → g.tally ≡ first → g.counts ≡ no_counts n → Gauged t 0 g
gauged-first t g n crew at tally counts =
    let here : events_at t 0 ≡ [] = nil_from_length (events_at t 0) (events-long t 0 g.machine at (omega arith)) in
    let there : at.at.events ≡ [] = sym (ap events_in (led_in t 0 g.machine at)) ∙ here in
    let fated : Fated (label t.program) g.machine.machine.nodes [] =
    subst (λ (p : Program). Fated (label p) g.machine.machine.nodes []) at.program
    (subst (Fated (label g.machine.program) g.machine.machine.nodes) there at.led.fated)
    in
    record {
      tally = subst (λ (es : List Event). Held (label t.program) (path_at g.machine.machine.nodes) (length g.machine.machine.nodes) es g.tally) (sym here)
          (subst (Held (label t.program) (path_at g.machine.machine.nodes) (length g.machine.machine.nodes) []) (sym tally)
          (first-held (label t.program) g.machine.machine.nodes at.led.agrees.tree fated));
      counts = subst (λ (c : Counts). Counted t.workers [] c) (sym counts) (subst (λ w. Counted w [] (no_counts n)) crew (counted-first n));
    }

-- the numbers that are told of all choices
pub measured : (t : Tape) (g : Gauge) → IsAt t (length t.choices) g.machine → Gauged t (length t.choices) g → IsMeasureOf t (told g.tally g.counts)
measured t g at kept =
    let events : events_at t (length t.choices) ≡ at.at.events = ap events_in (led_in t (length t.choices) g.machine at) in
    let all : take (length t.choices) t.choices ≡ t.choices = take_all (length t.choices) t.choices (omega arith) in
    let deeds : deeds_of (take (length t.choices) t.choices) (events_at t (length t.choices)) ≡ deeds_of t.choices at.at.events =
    λ j. deeds_of (all j) (events j)
    in
    let held : Held (label t.program) (path_at g.machine.machine.nodes) (length g.machine.machine.nodes) at.at.events g.tally =
    subst (λ (es : List Event). Held (label t.program) (path_at g.machine.machine.nodes) (length g.machine.machine.nodes) es g.tally) events kept.tally
    in
    let counted_all : Counted t.workers (deeds_of t.choices at.at.events) g.counts = subst
    (λ (ds : List Deed). Counted t.workers ds g.counts) deeds kept.counts in
    let totals = held.totals in
    let shares = by_worker t.workers g.counts.seats (λ s. s.share) (λ w. count_by (is_work_of w) (deeds_of t.choices at.at.events)) counted_all.entries
    (λ i h. (counted_all.each i h).share)
    in
    let longest = by_worker t.workers g.counts.seats (λ s. s.longest) (λ w. most (in_deque w) (deeds_of t.choices at.at.events)) counted_all.entries
    (λ i h. (counted_all.each i h).longest)
    in
    record {
      at = at.at;
      led = led_in t (length t.choices) g.machine at;
      is = λ j. record {
        work = counted_all.work j;
        span = totals.span j;
        instances = totals.instances j;
        live = totals.live j;
        depth = totals.depth j;
        bodies = max (totals.depth j) (totals.bodies j);
        deque = greatest (longest j);
        steals = counted_all.steals j;
        pops = counted_all.pops j;
        parks = counted_all.parks j;
        shares = shares j;
      };
    }

-- what holds of a value, where there is one
pub if-ok : {A E : Type 0} (P Q : A → Type 0) → ((x : A) → P x → Q x) → (r : Result A E) → IfOk r P → IfOk r Q
if-ok P Q f (Ok x) h = f x h
if-ok P Q f (Err e) h = tt
