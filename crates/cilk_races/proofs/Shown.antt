-- What was looked at is what the choice touches.
use Rattle.std.proofs.Common.{◌≡◌, ℕ, Bool, true, false, not, List, [], map, length, ◌<◌, Option, Some, None, option_map, refl, sym, ap, ◌∙◌}
use Rattle.std.proofs.Common.{subst, inl, inr, if◌then◌else◌, is_none}
use Rattle.cilk_log_replay.specs.machine.Situation.{Situation}
use Rattle.cilk_log_replay.specs.machine.Stands.{Led}
use Rattle.cilk_log_replay.specs.machine.agree.Laws.{InHand, instance_of, path_of}
use Rattle.cilk_log_replay.specs.machine.agree.Agrees.{name_in}
use Rattle.cilk_log_replay.specs.machine.agree.scopes.WellFormed.{WellFormed}
use Rattle.cilk_log_replay.specs.machine.sched.declared.act.Act.{Act}
use Rattle.cilk_log_replay.specs.machine.sched.declared.act.Act.TheVariants as does
use Rattle.cilk_log_replay.specs.machine.sched.declared.choice.Choice as code
use Rattle.cilk_log_replay.specs.machine.sched.Words.{act_of, choice_of}
use Rattle.cilk_log_replay.specs.machine.labelled.Bodies.{label}
use Rattle.cilk_log_replay.specs.machine.labelled.Labelled.{Labelled}
use Rattle.cilk_log_replay.specs.machine.model.Choice as model
use Rattle.cilk_log_replay.specs.machine.model.Event.{Event}
use Rattle.cilk_log_replay.specs.machine.model.Hands.{IsWorker, hand_of}
use Rattle.cilk_log_replay.specs.machine.model.Path.{Path}
use Rattle.cilk_log_replay.specs.machine.model.Scheduler as sched
use Rattle.cilk_log_replay.specs.machine.model.State.{State, instance_at}
use Rattle.cilk_log_replay.specs.machine.model.Run.{Standing, act_refusal, event_of, is_running, is_worker, refusal_of}
use Rattle.cilk_log_replay.specs.machine.spawn.Nodes.{path_at}
use Rattle.cilk_races.specs.Steps.{Step, step_of}
use Rattle.cilk_log_replay.proofs.machine_laws.Refusals.{hand-is, in-hand-of, there, worker-is}
use Rattle.cilk_log_replay.specs.machine.agree.Alike.{lowest_body}
use Rattle.cilk_log_replay.proofs.machine_laws.agree_laws.Actions.{told as node-told}
use Rattle.cilk_log_replay.proofs.machine_laws.agree_laws.Alone.{inside}
use Rattle.cilk_log_replay.proofs.machine_laws.agree_laws.Asked.{asked}
use Rattle.cilk_races.specs.Order.{Placed}
use Rattle.cilk_races.specs.Races.{Touch, number_of, placed_at, touch, touches_at, touches_by, touches_in}
use Rattle.cilk_log_replay.specs.machine.step.Accesses.{accesses_of, locks_from}
use Rattle.cilk_log_replay.specs.machine.step.Shown.{held, own_path, touched}
use Rattle.cilk_log_replay.specs.machine.step.CellWords.{access_of}
use Rattle.cilk_log_replay.specs.machine.step.plan.StepInput.{StepInput, id_of, own_node}
use Rattle.cilk_log_replay.proofs.machine_laws.step_laws.Shown.{accesses-shown}
use Rattle.cilk_log_replay.proofs.machine_laws.step_laws.Holding.{locks-shown}
use Rattle.cilk_races.specs.Looked.{IsNothing, Looks, LooksAt, LooksBy, SeesNone}
use Rattle.cilk_races.specs.declared.look.Look.{Look}

-- a worker that can choose is one
possible : (running worker : Bool) (o : Option model.Refusal)
    → is_none (if not running then Some model.over else (if not worker then Some model.no_worker else o)) ≡ true → worker ≡ true
possible true true o h = refl
possible true false o h = cc
possible false worker o h = cc

-- an event that does no step touches nothing
no-step : (program : Labelled) (s : State) (before : List Event) (k : ℕ) (e : Event) (o : Option Path) → step_of program before e ≡ None
    → touches_in program s before k e o ≡ []
no-step program s before k e None none = refl
no-step program s before k e (Some p) none = ap (λ (st : Option Step). touches_by program s before k e st p (instance_at s.instances p)) none

module _ (m : Situation) (well : WellFormed m.program) (choices : List model.Choice) (events : List Event) (at : Standing) (h : Led m choices events at) where
  abbrev program : Labelled
  program = label m.program

  -- the accesses of a step st
  abbrev shown : ℕ → Event → Step → Look → List Touch
  shown k e st look =
      map (touch k (placed_at program events st) (number_of e) look.locks.items look.procedure)
      (map (access_of (path_at m.machine.nodes look.own)) look.accesses.items)

  -- of no accesses
  bare : (k : ℕ) (e : Event) (st : Step) (look : Look) → look.accesses.items ≡ [] → [] ≡ shown k e st look
  bare k e st look none =
      let named : Placed = placed_at program events st in
      ap (λ xs. map (touch k named (number_of e) look.locks.items look.procedure) (map (access_of (path_at m.machine.nodes look.own)) xs)) (sym none)

  in-hand : (w k : ℕ) (e : Event) (st : Step) (look : Look) → step_of program events e ≡ Some st → Looks m w look
      → touches_in program at.state events k e (sched.hand_of at.scheduler.places w) ≡ shown k e st look
  in-hand w k e st look step looks =
      let ahead = looks.ahead in
      let g = looks.input in
      let f = ahead.frame in
      let t : InHand = in-hand-of m choices events at h w f ahead.worker ahead.held in
      let hand : sched.hand_of at.scheduler.places w ≡ Some (path_of t) =
      hand-is m well choices events at h w ∙ ap (option_map (name_in m.machine.nodes)) ahead.held
      in
      let path : own_path g ≡ path_at m.machine.nodes look.own =
      ap own_path ahead.is ∙ ap (path_at m.machine.nodes) (sym (looks.own ∙ ap id_of ahead.is))
      in
      let accesses : accesses_of program at.state (path_of t) (instance_of t) ≡ map (access_of (path_at m.machine.nodes look.own)) look.accesses.items =
      sym (accesses-shown t well) ∙ ap touched (sym ahead.is) ∙ sym looks.cells ∙ ap (λ q. map (access_of q) look.accesses.items) path
      in
      let locks : locks_from 0 (path_of t) at.state.locks ≡ look.locks.items =
      sym (locks-shown t) ∙ ap held (sym ahead.is) ∙ sym looks.locks
      in
      let procedure : lowest_body (instance_of t) ≡ look.procedure =
      sym (node-told t).procedure ∙ ap (λ (x : StepInput). (own_node x).procedure) (sym ahead.is) ∙ sym looks.procedure
      in
      ap (touches_in program at.state events k e) hand
      ∙ (λ j. touches_by program at.state events k e (step j) (path_of t) ((asked t).there j))
      ∙ (λ j. map (touch k (placed_at program events st) (number_of e) (locks j) (procedure j)) (accesses j))

  nothing : (w k : ℕ) (e : Event) (st : Step) (look : Look) → is_worker at.scheduler.places w ≡ true → SeesNone m w look
      → touches_in program at.state events k e (sched.hand_of at.scheduler.places w) ≡ shown k e st look
  nothing w k e st look worker none =
      let is_one : IsWorker m.machine.places w = there m.machine.places w (worker-is m well choices events at h w ∙ worker) in
      let hand : sched.hand_of at.scheduler.places w ≡ None =
      hand-is m well choices events at h w ∙ ap (option_map (name_in m.machine.nodes)) (none.empty is_one)
      in
      ap (touches_in program at.state events k e) hand
      ∙ bare k e st look none.nothing.cells

  shown-by : (w k : ℕ) (act : Act) (e : Event) (st : Step) (look : Look) → event_of program at (record { worker = w; act = act_of act }) ≡ e
      → step_of program events e ≡ Some st → is_worker at.scheduler.places w ≡ true → LooksBy m w act look
      → touches_at program at events k (record { worker = w; act = act_of act }) ≡ shown k e st look
  shown-by w k does.Step e st look is step worker (inl looks) =
      ap (λ x. touches_in program at.state events k x (sched.hand_of at.scheduler.places w)) is ∙ in-hand w k e st look step looks
  shown-by w k does.Step e st look is step worker (inr none) =
      ap (λ x. touches_in program at.state events k x (sched.hand_of at.scheduler.places w)) is ∙ nothing w k e st look worker none
  shown-by w k does.Pop e st look is step worker none = bare k e st look none.cells
  shown-by w k (does.Steal v) e st look is step worker none = bare k e st look none.cells

  is-one : (choice : code.Choice) → is_none (refusal_of program at (choice_of choice)) ≡ true → is_worker at.scheduler.places choice.worker ≡ true
  is-one choice free =
      possible (is_running at.state.outcome) (is_worker at.scheduler.places choice.worker) (act_refusal program at choice.worker (act_of choice.act)) free

  -- what a possible choice touches
  pub touches-shown : (choice : code.Choice) (k : ℕ) (e : Event) (st : Step) (look : Look) → is_none (refusal_of program at (choice_of choice)) ≡ true
      → event_of program at (choice_of choice) ≡ e → step_of program events e ≡ Some st → LooksAt m choice look
      → touches_at program at events k (choice_of choice) ≡ shown k e st look
  touches-shown choice k e st look free is step looks =
      shown-by choice.worker k choice.act e st look is step (is-one choice free) looks

  none-by : (w k : ℕ) (act : Act) (e : Event) → event_of program at (record { worker = w; act = act_of act }) ≡ e → step_of program events e ≡ None
      → touches_at program at events k (record { worker = w; act = act_of act }) ≡ []
  none-by w k does.Step e is step =
      ap (λ x. touches_in program at.state events k x (sched.hand_of at.scheduler.places w)) is
      ∙ no-step program at.state events k e (sched.hand_of at.scheduler.places w) step
  none-by w k does.Pop e is step = refl
  none-by w k (does.Steal v) e is step = refl

  pub none-shown : (choice : code.Choice) (k : ℕ) (e : Event) → event_of program at (choice_of choice) ≡ e → step_of program events e ≡ None
      → touches_at program at events k (choice_of choice) ≡ []
  none-shown choice k e is step = none-by choice.worker k choice.act e is step

  -- the instance whose step it is was made
  nothing-there : (look : Look) → IsNothing look → look.own < length m.machine.nodes
  nothing-there look none = subst (λ i. i < length m.machine.nodes) (sym none.own) h.agrees.tree.some

  there-by : (w : ℕ) (act : Act) (look : Look) → LooksBy m w act look → look.own < length m.machine.nodes
  there-by w does.Step look (inl looks) =
      let ahead = looks.ahead in
      subst (λ i. i < length m.machine.nodes) (sym (looks.own ∙ ap id_of ahead.is))
      (inside (in-hand-of m choices events at h w ahead.frame ahead.worker ahead.held))
  there-by w does.Step look (inr none) = nothing-there look none.nothing
  there-by w does.Pop look none = nothing-there look none
  there-by w (does.Steal v) look none = nothing-there look none

  pub own-there : (choice : code.Choice) (look : Look) → LooksAt m choice look → look.own < length m.machine.nodes
  own-there choice look looks = there-by choice.worker choice.act look looks
