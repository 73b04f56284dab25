-- A machine goes on by one choice, and back.
use Rattle.std.proofs.Common.{◌≡◌, ◌≢◌, ◌<◌, ◌≤◌, ◌+◌, ◌-◌, ℕ, suc, false, List, [], ◌∷◌, ◌++◌, length, map, take, reverse, Option, Some}
use Rattle.std.proofs.Common.{None, is_none, refl, sym}
use Rattle.std.proofs.Common.{ap, ◌∙◌, subst, arith, if◌then◌else◌, slice_get, option_map, append_assoc}
use Rattle.std.proofs.lemmas.Option.{slice_get-map, get_or_from_slice_get}
use Rattle.std.proofs.Math.Seq.{take-suc, take-length}
use Rattle.std.proofs.lemmas.List.{reverse-append, reverse-reverse, length-reverse, length-take-le, length-map, map-append}
use Rattle.cilk_machine.specs.syntax.Tree.{Program}
use Rattle.cilk_machine.specs.labelled.Bodies.{label}
use Rattle.cilk_machine.specs.model.Choice as model
use Rattle.cilk_machine.specs.model.Choice.{Choice}
use Rattle.cilk_machine.specs.model.Event.{Event}
use Rattle.cilk_machine.specs.model.Run.{Position, after, next_of, one_more, position_after}
use Rattle.cilk_machine.specs.sched.declared.choice.Choice as code
use Rattle.cilk_machine.specs.sched.declared.refusal.Refusal.{Refusal}
use Rattle.cilk_machine.specs.sched.declared.refusal.Refusal.TheVariants.{Over, NoWorker, HandEmpty, Busy, DequeEmpty, Waiting, Memory, Stale}
use Rattle.cilk_machine.specs.sched.declared.outcome.Outcome.TheVariants.{Running}
use Rattle.cilk_machine.specs.sched.Words.{choice_of, reason_of}
use Rattle.cilk_machine.specs.Situation.{Before, Situation, workers_of, before_of, kept_by}
use Rattle.cilk_machine.specs.Stands.{Led, StandsAt}
use Rattle.cilk_machine.specs.Made.{Makes, IsRefused}
use Rattle.cilk_machine.specs.Kept.{situation_at}
use Rattle.cilk_machine.proofs.Again.{ran}
use Rattle.cilk_machine.proofs.Kept.{led-past}
use Rattle.cilk_machine.proofs.runs_laws.model_laws.Runs.{after-push}
use Rattle.cilk_explore.specs.Walks.{Walk, position_of, walk_of, Was, WasBehind, IsWalk}
use Rattle.cilk_explore.proofs.Fronts.{one-entry, take-fewer}

module _ (m : Situation) (log : List Choice) (w : IsWalk m log) where
  -- the log leads to where it stands
  pub leads-here : after (label m.program) (workers_of m) log ≡ Some (record { standing = w.at; events = w.events })
  leads-here = w.led.led

  pub stands-here : StandsAt m w.at
  stands-here = record { choices = log; events = w.events; led = w.led }

  pub stands-there : (a : Position) → after (label m.program) (workers_of m) log ≡ Some a → StandsAt m a.standing
  stands-there a h =
      let own : Position = record { standing = w.at; events = w.events } in
      let same : own ≡ a = one-entry (after (label m.program) (workers_of m) log) own a leads-here h in
      subst (λ (p : Position). StandsAt m p.standing) same stands-here

  was-here : m.outcome ≡ Running → Was m.program (workers_of m) (reverse (reverse log)) (before_of m)
  was-here runs = record {
    crew = refl;
    events = w.events;
    at = w.at;
    led = subst (λ (choices : List Choice). Led (situation_at m.program (before_of m)) choices w.events w.at) (sym (reverse-reverse log))
        (subst (λ (s : Situation). Led s log w.events w.at)
        (λ i. record { program = m.program; machine = m.machine; outcome = runs i; choices = m.choices; keeps = false; past = [] })
        (led-past m false [] log w.events w.at w.led));
  }

  pub goes-on : (n : Situation) (choice : Choice) (did : Event) → Makes m n choice did → IsWalk n (log ++ choice ∷ [])
  goes-on n choice did made =
      let leads = made.leads log w.events w.at w.led in
      let past : n.past ≡ before_of m ∷ m.past = made.past ∙ ap (λ b. kept_by b (before_of m) m.past) w.keeps in
      let turned : reverse (log ++ choice ∷ []) ≡ choice ∷ reverse log = reverse-append log (choice ∷ []) in
      let behind : WasBehind m.program (workers_of m) (choice ∷ reverse log) (before_of m ∷ m.past) =
      (was-here (ran m n choice did w.at stands-here made), w.past) in
      record {
        keeps = made.keeps ∙ w.keeps;
        events = w.events ++ did ∷ [];
        at = next_of (label m.program) w.at choice;
        led = leads.led;
        past =
            subst (λ (p : Program). WasBehind p (workers_of n) (reverse (log ++ choice ∷ [])) n.past) (sym made.program)
            (subst (λ (k : ℕ). WasBehind m.program k (reverse (log ++ choice ∷ [])) n.past) (sym made.workers)
            (subst (λ (r : List Choice). WasBehind m.program (workers_of m) r n.past) (sym turned)
            (subst (WasBehind m.program (workers_of m) (choice ∷ reverse log)) (sym past) behind)));
      }

  -- what is refused for a reason of the program's leads nowhere
  pub not-possible : (choice : Choice) (why : model.Refusal) → IsRefused m choice (Some why)
      → after (label m.program) (workers_of m) (log ++ choice ∷ []) ≡ None
  not-possible choice why refused =
      let own : Position = record { standing = w.at; events = w.events } in
      after-push (label m.program) (workers_of m) log choice ∙ ap (one_more (label m.program) choice) leads-here
      ∙ ap (λ (o : Option model.Refusal). if is_none o then Some (position_after (label m.program) own choice) else None) (refused w.at stands-here)

-- each reason but want of memory is one of the program's
pub reason-is : (r : Refusal) → r ≢ Memory → (why : model.Refusal) × (reason_of r ≡ Some why)
reason-is Over h = (model.over, refl)
reason-is NoWorker h = (model.no_worker, refl)
reason-is HandEmpty h = (model.hand_empty, refl)
reason-is Busy h = (model.busy, refl)
reason-is DequeEmpty h = (model.deque_empty, refl)
reason-is Waiting h = (model.waiting, refl)
reason-is Memory h = absurd (h refl)
reason-is Stale h = (model.stale, refl)

-- no record is missing
pub none-missing : (program : Program) (n : ℕ) (turned : List Choice) (bs : List Before) → bs ≡ [] → WasBehind program n turned bs → turned ≡ []
none-missing program n [] bs none h = refl
none-missing program n (c ∷ turned) [] none h = absurd h
none-missing program n (c ∷ turned) (b ∷ bs) none h = cc

pub some-record : (m : Situation) (log : List Choice) → IsWalk m log → m.past ≡ [] → 0 < length log → ⊥
some-record m log w none some =
    let turned = none-missing m.program (workers_of m) (reverse log) m.past none w.past in
    let size : length (reverse log) ≡ 0 = ap length turned in
    omega (arith, size, length-reverse log, some)

-- with one choice more
pub walk-next : (m n : Situation) (log now : List code.Choice) (choice : code.Choice) (did : Event) → IsWalk m (map choice_of log)
    → Makes m n (choice_of choice) did → now ≡ log ++ choice ∷ [] → IsWalk n (map choice_of now)
walk-next m n log now choice did w made is =
    subst (IsWalk n) (sym (ap (map choice_of) is ∙ map-append choice_of log (choice ∷ []))) (goes-on m (map choice_of log) w n (choice_of choice) did made)

-- the same of a walk as contracts see it
pub seen-there : (m : Situation) (log : List code.Choice) (walk : Walk) → walk_of m log ≡ walk → IsWalk m (map choice_of log) → (a : Position)
    → position_of walk ≡ Some a → StandsAt m a.standing
seen-there m log walk is w a h = stands-there m (map choice_of log) w a (ap position_of is ∙ h)

pub seen-leads : (m : Situation) (log : List code.Choice) (walk : Walk) → walk_of m log ≡ walk → (w : IsWalk m (map choice_of log))
    → (at : Position) × (position_of walk ≡ Some at)
seen-leads m log walk is w =
    let at : Position = record { standing = w.at; events = w.events } in
    (at, sym (ap position_of is) ∙ leads-here m (map choice_of log) w)

-- a front of a log with one choice fewer
pub record Fewer (whole now : List Choice) (count : ℕ) : Type 0 where
  pub high : count ≤ length now
  pub front : now ≡ take (length now) whole

pub front-fewer : (whole log now : List Choice) (count : ℕ) → count < length log → log ≡ take (length log) whole → now ≡ take (length log - 1) log
    → Fewer whole now count
front-fewer whole log now count long front is =
    let more : suc (length log - 1) ≡ length log = omega (arith, long) in
    let size : length now ≡ length log - 1 = ap length is ∙ length-take-le (length log - 1) log (omega arith) in
    let one : take (length log - 1) log ≡ take (length log - 1) whole =
    ap (take (length log - 1)) (front ∙ ap (λ j. take j whole) (sym more)) ∙ take-fewer whole (length log - 1) in
    record {
      high = omega (arith, size, long);
      front = is ∙ one ∙ ap (λ j. take j whole) (sym size);
    }

-- and with one more
pub front-more : (log : List code.Choice) (i : ℕ) (x : code.Choice) (begun now next : List Choice) → i < length log → slice_get log i ≡ Some x
    → now ≡ begun ++ take i (map choice_of log) → next ≡ now ++ choice_of x ∷ [] → next ≡ begun ++ take (i + 1) (map choice_of log)
front-more log i x begun now next lt there front is =
    let mapped : slice_get (map choice_of log) i ≡ Some (choice_of x) = slice_get-map choice_of log i ∙ ap (option_map choice_of) there in
    let inside : i < length (map choice_of log) = omega (arith, lt, length-map log choice_of) in
    let one : i + 1 ≡ suc i = omega arith in
    let whole : take i (map choice_of log) ++ choice_of x ∷ [] ≡ take (i + 1) (map choice_of log) =
    ap (λ (y : Choice). take i (map choice_of log) ++ y ∷ []) (sym (get_or_from_slice_get (map choice_of log) i (choice_of x) (choice_of x) mapped))
    ∙ sym (take-suc (map choice_of log) i (choice_of x) inside) ∙ ap (λ j. take j (map choice_of log)) (sym one) in
    is ∙ ap (λ (xs : List Choice). xs ++ choice_of x ∷ []) front ∙ append_assoc begun (take i (map choice_of log)) (choice_of x ∷ [])
    ∙ ap (λ (xs : List Choice). begun ++ xs) whole

pub front-all : (log : List code.Choice) (i : ℕ) (begun now : List Choice) → length log ≤ i → i ≤ length log → now ≡ begun ++ take i (map choice_of log)
    → now ≡ begun ++ map choice_of log
front-all log i begun now low high front =
    let same : i ≡ length (map choice_of log) = omega (arith, low, high, length-map log choice_of) in
    front ∙ ap (λ j. begun ++ take j (map choice_of log)) same ∙ ap (λ (xs : List Choice). begun ++ xs) (take-length (map choice_of log))
