-- The step of the instance in a worker's hand, carried out.
use Rattle.std.proofs.Common.{◌≡◌, ℕ, suc, ◌+◌, ◌++◌, ◌∷◌, [], length, Bool, Option, Some, None, refl, sym, ap, ◌∙◌, subst, arith}
use Rattle.std.specs.Prelude.{List, option_map}
use Rattle.cilk_machine_undo.specs.syntax.Tree.{Program}
use Rattle.cilk_machine_undo.specs.agree.scopes.WellFormed.{WellFormed}
use Rattle.cilk_machine_undo.specs.labelled.Bodies.{label}
use Rattle.cilk_sched.specs.model.Choice as model
use Rattle.cilk_sched.specs.model.Event.{Event}
use Rattle.cilk_sched.specs.model.Path.{Path}
use Rattle.cilk_sched.specs.model.State as state
use Rattle.cilk_sched.specs.model.Run.{Standing, next_by_hand, event_by_hand}
use Rattle.cilk_sched.specs.model.Hands.{IsWorker, hand_of}
use Rattle.cilk_machine_undo.specs.nodes.declared.body.Body.{Body}
use Rattle.cilk_machine_undo.proofs.effects_laws.Room.{variables, globals}
use Rattle.cilk_machine_undo.specs.frame.Frames.{Frame}
use Rattle.cilk_machine_undo.specs.spawn.Nodes.{Node, path_at, IsTree}
use Rattle.cilk_machine_undo.specs.agree.Outside as outside
use Rattle.cilk_machine_undo.specs.agree.Agrees.{MachineParts, Agrees, name_in}
use Rattle.cilk_machine_undo.specs.agree.Fated.{Follows, Fated}
use Rattle.cilk_machine_undo.specs.agree.Laws.{InHand}
use Rattle.cilk_machine_undo.specs.plans.declared.plan.Plan.{Plan}
use Rattle.cilk_machine_undo.specs.plans.declared.plan.Plan.TheVariants as plan
use Rattle.cilk_machine_undo.specs.plans.Made.{planned}
use Rattle.cilk_machine_undo.specs.plans.Plans.{step_in, IsPlan}
use Rattle.cilk_machine_undo.specs.plans.StepInput.{StepInput}
use Rattle.cilk_machine_undo.specs.plans.declared.did.Did.{Did}
use Rattle.cilk_machine_undo.specs.plans.declared.did.Done.{Done}
use Rattle.cilk_machine_undo.specs.plans.declared.parts.Parts.{Parts}
use Rattle.cilk_machine_undo.specs.plans.PartWords as carries
use Rattle.cilk_machine_undo.specs.plans.PartWords.{machine_of, event_by}
use Rattle.cilk_machine_undo.specs.plans.Carried.{after_plan}
use Rattle.cilk_machine_carry.specs.Carries.{Becomes, CellsAreFew, Starts, Planned, CanCarry, Carries}
use Rattle.cilk_machine_undo.specs.plans.Ready.{Ready}
use Rattle.cilk_machine_undo.specs.Growth.{MachineGrows}
use Rattle.cilk_machine_carry.proofs.Whole.{ready-there}
use Rattle.cilk_machine_undo.proofs.Growth.{plan-grows}
use Rattle.cilk_machine_undo.proofs.Printed.{plan-prints}
use Rattle.cilk_machine_undo.proofs.Within.{taken-once}
use Rattle.cilk_machine_step.specs.Scenes.{HeadFits}
use Rattle.cilk_machine_step.proofs.Fits.{head-fits}
use Rattle.cilk_sched.specs.declared.act.Act.TheVariants.{Step}
use Rattle.cilk_sched.specs.declared.outcome.Outcome.{Outcome}
use Rattle.cilk_sched.specs.declared.outcome.Outcome.TheVariants.{Running}
use Rattle.cilk_sched.specs.Words.{outcome_of}
use Rattle.cilk_machine.specs.Situation.{Before, Situation, input_at, outcome_at, workers_of}
use Rattle.cilk_machine.specs.Stands.{Led, IsSound}
use Rattle.cilk_machine.specs.Refused.{planned_by, planned_in, refused_by}
use Rattle.cilk_machine.specs.Made.{Makes, Does}
use Rattle.cilk_machine.specs.Told.{event_in, HasPaths, started_number, body_numbered, body_started, trapped_path, outcome_with, trapper_of, IsTrapPath}
use Rattle.cilk_machine.proofs.Refusals.{in-hand-of, plan-in, hand-is}
use Rattle.cilk_machine.proofs.Told.{event-told, paths-there, trapped-there, outcome-told, outcome-at}
use Rattle.cilk_machine.proofs.Leading.{moved_to, Next, makes, after-one, fated-on, free-is}
use Rattle.cilk_machine.proofs.Free.{Frees, frees, Steps, step-free, free-old}

few-cells : (p : Program) → WellFormed p → CellsAreFew (label p)
few-cells p well = record {
  own = λ b there. let room = variables p well b there in let low = room.few_cells in omega (arith, low);
  globals = let room = globals p well in let low = room.few_cells in omega (arith, low);
}

starts-it : (p : Program) (x : Plan) → Starts p (body_started p x) x
starts-it p plan.Wait = tt
starts-it p plan.Park = tt
starts-it p plan.End = tt
starts-it p (plan.Trap kind n) = tt
starts-it p (plan.Take child n reached z) = tt
starts-it p (plan.Enter child n inlet arguments) = refl
starts-it p (plan.Go n to) = tt
starts-it p (plan.Write n reached z to) = tt
starts-it p (plan.Call n awaits callee arguments to) = refl
starts-it p (plan.Leave n) = tt
starts-it p (plan.Answer n reached z) = tt
starts-it p (plan.Return n z) = tt
starts-it p (plan.Spawn n receiver callee arguments to) = refl
starts-it p (plan.Print n bytes to) = tt
starts-it p (plan.TurnLock n lock now to) = tt
starts-it p (plan.Abort n to) = tt

abbrev pub stepping : ℕ → model.Choice
stepping w = record { worker = w; act = model.step }

-- worker w can step
module _ (m : Situation) (w : ℕ) (sound : IsSound m) (free : refused_by m (record { worker = w; act = Step }) ≡ None) where
  known : Frees m (record { worker = w; act = Step })
  known = frees m (record { worker = w; act = Step }) free

  pub it : Steps m w
  it = step-free m w free

  abbrev f : Frame
  f = it.frame

  abbrev in-hand : (choices : List model.Choice) (events : List Event) (at : Standing) → Led m choices events at → InHand
  in-hand choices events at h = in-hand-of m choices events at h w f known.worker it.held

  pub plan-here : planned_in m w ≡ planned (input_at m f)
  plan-here = ap (planned_by m) it.held

  -- the plan is that of the step
  is-plan : (x : Plan) → x ≡ planned_in m w → (choices : List model.Choice) (events : List Event) (at : Standing)
      (h : Led m choices events at) → IsPlan (in-hand choices events at h) x
  is-plan x is choices events at h =
      subst (IsPlan (in-hand choices events at h)) (sym (is ∙ plan-here)) (plan-in m sound.well_formed choices events at h w f known.worker it.held)

  pub paths : (x : Plan) → x ≡ planned_in m w → HasPaths m.machine.nodes f.id x
  paths x is =
      let s = sound.stands in
      paths-there (in-hand s.choices s.events sound.at s.led) x (is-plan x is s.choices s.events sound.at s.led)

  -- what the choice does is what its step does
  hand-here : (choices : List model.Choice) (events : List Event) (at : Standing) (h : Led m choices events at)
      → Rattle.cilk_sched.specs.model.Scheduler.hand_of at.scheduler.places w ≡ Some (path_at m.machine.nodes f.id)
  hand-here choices events at h =
      hand-is m sound.well_formed choices events at h w ∙ ap (option_map (name_in m.machine.nodes)) it.held

  pub does : (x : Plan) → x ≡ planned_in m w → Does m (stepping w) (event_in m.machine.nodes f.id x)
  does x is at s =
      event-told (in-hand s.choices s.events at s.led) x (is-plan x is s.choices s.events at s.led)
      ∙ ap (event_by_hand (label m.program) at.state) (sym (hand-here s.choices s.events at s.led))

  module _ (parts : Parts) (is_parts : m.machine ≡ machine_of parts outside.running) (body : Option Body) (x : Plan)
      (is : x ≡ planned_in m w) (starts : body ≡ body_started m.program x) where
    planned_there : (choices : List model.Choice) (events : List Event) (at : Standing) (h : Led m choices events at)
        → Planned parts w body x (in-hand choices events at h)
    planned_there choices events at h = record {
      machine = is_parts;
      worker = refl;
      is_plan = is-plan x is choices events at h;
      starts = subst (λ b. Starts m.program b x) (sym starts) (starts-it m.program x);
    }

    pub can-carry : CanCarry parts w body x
    can-carry =
        let s = sound.stands in
        record {
          goes = λ e. it.goes (sym (is ∙ plan-here) ∙ e);
          in_hand = in-hand s.choices s.events sound.at s.led;
          planned = planned_there s.choices s.events sound.at s.led;
          few = few-cells m.program sound.well_formed;
        }

    -- where it leads
    next-there : (now : Parts) (done : Done) (path : Path) → path ≡ trapped_path m.machine.nodes f.id x → Carries (m.choices + 1) parts w body x now done
        → (choices : List model.Choice) (events : List Event) (at : Standing) → Led m choices events at
        → Next m (machine_of now (carries.outcome_of done.outcome)) (outcome_with path done.outcome) (stepping w)
        (event_by (path_at m.machine.nodes) (path_at now.tree.nodes) done.did) at
    next-there now done path named carried choices events at h =
        let t = in-hand choices events at h in
        let s = carried t (planned_there choices events at h) in
        let hand = hand-here choices events at h in
        let runs : at.state.outcome ≡ state.running = sym h.outcome ∙ ap outcome_of known.runs_on in
        let agrees = subst
        (λ o. Agrees m.program (machine_of now (carries.outcome_of done.outcome)) s.who (next_by_hand (label m.program) at w o)) (sym hand)
        s.agrees in
        record {
          possible = free-is m sound.well_formed (record { worker = w; act = Step }) free choices events at h;
          event = s.event ∙ ap (event_by_hand (label m.program) at.state) (sym hand);
          outcome_is =
              outcome-told (path_at now.tree.nodes) path done.outcome _ s.agrees.outside.outcome
              (subst (λ q. Rattle.cilk_machine.proofs.Told.TrappedAt q
              (Rattle.cilk_sched.specs.model.Run.state_after at.state (step_in t)).outcome) (sym named)
              (trapped-there t runs x (is-plan x is choices events at h)))
              ∙ ap (λ o. (next_by_hand (label m.program) at w o).state.outcome) (sym hand);
          who = s.who;
          agrees = agrees;
          follows = subst (Follows (label m.program) (m.choices + 1) m.machine.nodes now.tree.nodes) (sym s.event) s.follows;
        }

    -- what had ended and what was printed are as they were
    step-grows : (now : Parts) (done : Done) (path : Path) → path ≡ trapped_path m.machine.nodes f.id x → Carries (m.choices + 1) parts w body x now done
        → Becomes (m.choices + 1) parts w body x now done → MachineGrows (m.choices + 1) m.machine (machine_of now (carries.outcome_of done.outcome))
    step-grows now done path named carried becomes =
        let s = sound.stands in
        let old : MachineParts = machine_of parts outside.running in
        let new = machine_of now (carries.outcome_of done.outcome) in
        let did = event_by (path_at m.machine.nodes) (path_at now.tree.nodes) done.did in
        let next = next-there now done path named carried s.choices s.events sound.at s.led in
        let held : hand_of parts.hands w ≡ Some f = ap (λ (y : MachineParts). hand_of y.places w) (sym is_parts) ∙ it.held in
        let tree = subst (λ (y : MachineParts). IsTree y.nodes) is_parts s.led.agrees.tree in
        let ready = ready-there (m.choices + 1) parts w body x can-carry f held in
        let number : m.choices + 1 ≡ suc (length s.choices) = (let counted = s.led.counted in omega (arith, counted)) in
        let later : new ≡ after_plan (m.choices + 1) old w f body x = (becomes f held).machine in
        let fated = fated-on m new (outcome_with path done.outcome) (stepping w) did s.choices s.events sound.at s.led next in
        let once = taken-once (label m.program) (workers_of m) s.choices (stepping w) _ _ s.led.led
        (after-one m new (outcome_with path done.outcome) (stepping w) did s.choices s.events sound.at s.led next) old w f body x tree
        (subst (λ n. Ready n parts.tree.nodes parts.globals.items f body x) number ready)
        (subst (λ (y : MachineParts). Fated (label m.program) y.nodes s.events) is_parts s.led.fated)
        (subst (λ n. Fated (label m.program) (after_plan n old w f body x).nodes (s.events ++ did ∷ [])) number
        (subst (λ (y : MachineParts). Fated (label m.program) y.nodes (s.events ++ did ∷ [])) later fated)) in
        subst (λ (y : MachineParts). MachineGrows (m.choices + 1) y new) (sym is_parts)
        (subst (MachineGrows (m.choices + 1) old) (sym later) (record {
          nodes = plan-grows (m.choices + 1) old w f body x tree ready once;
          output = plan-prints (m.choices + 1) old w f body x;
        }))

    pub step-made : (now : Parts) (done : Done) (path : Path) → path ≡ trapped_path m.machine.nodes f.id x → Carries (m.choices + 1) parts w body x now done
        → Becomes (m.choices + 1) parts w body x now done
        → Makes m
        (moved_to m (machine_of now (outcome_at (trapper_of done.outcome) (outcome_with path done.outcome)))
        (outcome_with path done.outcome)) (stepping w)
        (event_by (path_at m.machine.nodes) (path_at now.tree.nodes) done.did)
    step-made now done path named carried becomes =
        subst
        (λ o. Makes m (moved_to m (machine_of now o) (outcome_with path done.outcome)) (stepping w)
        (event_by (path_at m.machine.nodes) (path_at now.tree.nodes) done.did))
        (sym (outcome-at path done.outcome))
        (makes m (machine_of now (carries.outcome_of done.outcome)) (outcome_with path done.outcome) (stepping w) _ sound
        (next-there now done path named carried) (step-grows now done path named carried becomes))

-- the same of a frame that was looked at
one_frame : (f g : Frame) (o : Option Frame) → Some f ≡ o → o ≡ Some g → g ≡ f
one_frame f g o a b = let e : Some f ≡ Some g = a ∙ b in cc

module _ (m : Situation) (w : ℕ) (sound : IsSound m) (free : refused_by m (record { worker = w; act = Step }) ≡ None) (g : Frame)
    (looked : Some g ≡ hand_of m.machine.places w) where
  pub same-frame : (it m w sound free).frame ≡ g
  same-frame =
      let s = it m w sound free in
      one_frame g s.frame (hand_of m.machine.places w) looked s.held

  module _ (ns : List Node) (k : ℕ) (x : Plan) (is : x ≡ planned_in m w) (nodes_are : ns ≡ m.machine.nodes) (id_is : k ≡ g.id) where
    -- what the step is to do, by the number of the instance
    by-number : {A : Type 0} (P : List Node → ℕ → Plan → A) → P m.machine.nodes (it m w sound free).frame.id x ≡ P ns k x
    by-number P = λ j. P (sym nodes_are j) ((ap (λ (f : Frame). f.id) same-frame ∙ sym id_is) j) x

    pub paths-here : HasPaths ns k x
    paths-here = by-type (paths m w sound free x is)
      where
        by-type : HasPaths m.machine.nodes (it m w sound free).frame.id x → HasPaths ns k x
        by-type h =
            subst (λ i. HasPaths ns i x) (ap (λ (f : Frame). f.id) same-frame ∙ sym id_is)
            (subst (λ l. HasPaths l (it m w sound free).frame.id x) (sym nodes_are) h)

    pub does-here : (did : Event) → did ≡ event_in ns k x → Does m (stepping w) did
    does-here did told at s = told ∙ sym (by-number event_in) ∙ does m w sound free x is at s

    pub path-here : (path : Path) → path ≡ trapped_path ns k x → path ≡ trapped_path m.machine.nodes (it m w sound free).frame.id x
    path-here path named = named ∙ sym (by-number trapped_path)

-- the step of the instance in a hand can be planned
pub fits-here : (m : Situation) → IsSound m → (w : ℕ) → IsWorker m.machine.places w → (f : Frame) → Some f ≡ hand_of m.machine.places w
    → (g : StepInput) → g ≡ input_at m f → HeadFits g
fits-here m sound w worker f looked g is =
    let s = sound.stands in
    subst HeadFits (sym is) (head-fits (in-hand-of m s.choices s.events sound.at s.led w f worker (sym looked)) sound.well_formed)

-- what a machine is to carry out, and the path of the instance where that is a trap
pub record Carrying (m : Situation) (w : ℕ) (x : Plan) (path : Path) : Type 0 where
  pub sound : IsSound m
  pub free : refused_by m (record { worker = w; act = Step }) ≡ None
  pub planned : x ≡ planned_in m w
  pub trap : IsTrapPath m w x path

pub carrying : (m now : Situation) (w : ℕ) (x : Plan) (path : Path) → m ≡ now → IsSound m
    → refused_by now (record { worker = w; act = Step }) ≡ None → x ≡ planned_in now w
    → IsTrapPath now w x path → Carrying m w x path
carrying m now w x path is sound free planned trap = record {
  sound = sound;
  free = free-old m now (record { worker = w; act = Step }) is free;
  planned = planned ∙ ap (λ (y : Situation). planned_in y w) (sym is);
  trap = subst (λ (y : Situation). IsTrapPath y w x path) (sym is) trap;
}

pub carrying-runs : (m : Situation) (w : ℕ) (x : Plan) (path : Path) → Carrying m w x path → m.outcome ≡ Running
carrying-runs m w x path c = let known = frees m (record { worker = w; act = Step }) c.free in known.runs_on

-- from the parts of a machine
module _ (program : Program) (parts : Parts) (trapper : ℕ) (outcome : Outcome) (choices : ℕ) (keeps : Bool) (past : List Before) where
  abbrev pub whole : Situation
  whole = record {
    program = program;
    machine = machine_of parts (outcome_at trapper outcome);
    outcome = outcome;
    choices = choices;
    keeps = keeps;
    past = past;
  }

  module _ (w : ℕ) (x : Plan) (path : Path) (c : Carrying whole w x path) (body : Option Body) (number : Option ℕ)
      (body_is : body ≡ body_numbered program number) (number_is : number ≡ started_number x) where
    parts_are : machine_of parts (outcome_at trapper outcome) ≡ machine_of parts outside.running
    parts_are =
        let known = frees whole (record { worker = w; act = Step }) c.free in
        ap (λ o. machine_of parts (outcome_at trapper o)) known.runs_on

    starts_is : body ≡ body_started program x
    starts_is = body_is ∙ ap (body_numbered program) number_is

    pub whole-carries : CanCarry parts w body x
    whole-carries = can-carry whole w c.sound c.free parts parts_are body x c.planned starts_is

    pub whole-made : (now : Parts) (done : Done) (came : ℕ) (stands : Outcome) → Carries (choices + 1) parts w body x now done
        → Becomes (choices + 1) parts w body x now done
        → came ≡ trapper_of done.outcome → stands ≡ outcome_with path done.outcome
        → Makes whole (moved_to whole (machine_of now (outcome_at came stands)) stands) (stepping w)
        (event_by (path_at parts.tree.nodes) (path_at now.tree.nodes) done.did)
    whole-made now done came stands carried becomes came_is stands_is =
        let s = it whole w c.sound c.free in
        subst
        (λ i. Makes whole (moved_to whole (machine_of now (outcome_at i stands)) stands) (stepping w)
        (event_by (path_at parts.tree.nodes) (path_at now.tree.nodes) done.did)) (sym came_is)
        (subst (λ o. Makes whole (moved_to whole (machine_of now (outcome_at (trapper_of done.outcome) o)) o) (stepping w)
        (event_by (path_at parts.tree.nodes) (path_at now.tree.nodes) done.did)) (sym stands_is)
        (step-made whole w c.sound c.free parts parts_are body x c.planned starts_is now done path (c.trap s.frame s.held) carried
        becomes))

-- a machine by another name
pub made-old : (m old n : Situation) (w : ℕ) (ns : List Node) (did : Did) → m ≡ old
    → Makes m n (stepping w) (event_by (path_at m.machine.nodes) (path_at ns) did)
    → Makes old n (stepping w) (event_by (path_at old.machine.nodes) (path_at ns) did)
made-old m old n w ns did is made =
    subst (λ (x : Situation). Makes x n (stepping w) (event_by (path_at x.machine.nodes) (path_at ns) did)) is made
