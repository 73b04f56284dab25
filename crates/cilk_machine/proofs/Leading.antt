-- A choice that is made leads on with every list of choices.
use Rattle.std.proofs.Common.{◌≡◌, ℕ, suc, ◌+◌, ◌≤◌, List, [], ◌∷◌, ◌++◌, length, Option, Some, None, is_none, is_some, refl, sym, ap, ◌∙◌, subst}
use Rattle.std.proofs.Common.{length-append, arith, if◌then◌else◌}
use Rattle.cilk_machine_undo.specs.agree.scopes.WellFormed.{WellFormed}
use Rattle.cilk_machine_undo.specs.labelled.Bodies.{label}
use Rattle.cilk_sched.specs.model.Choice as model
use Rattle.cilk_sched.specs.model.Event as event
use Rattle.cilk_sched.specs.model.Event.{Event}
use Rattle.cilk_sched.specs.model.Instance.{Instance}
use Rattle.cilk_sched.specs.model.Run.{Standing, after, one_more, position_after, next_of, event_of}
use Rattle.cilk_sched.specs.model.Hands.{popped_by, stolen_by}
use Rattle.cilk_machine_undo.proofs.runs_laws.model_laws.Runs.{after-push}
use Rattle.cilk_machine_undo.proofs.runs_laws.Crew.{crew_stays}
use Rattle.cilk_machine_undo.proofs.runs_laws.Fates.{the_living_live, each_choice_is_an_event}
use Rattle.cilk_machine_undo.specs.agree.FateLaws.{LivingAreTold}
use Rattle.cilk_machine_undo.proofs.agree_laws.Kept.{fates-are-kept}
use Rattle.cilk_machine_undo.specs.spawn.Nodes.{path_at}
use Rattle.cilk_machine_undo.specs.agree.Agrees.{MachineParts, Agrees, read_off}
use Rattle.cilk_machine_undo.specs.agree.Fated.{Follows, Fated}
use Rattle.cilk_machine_undo.proofs.agree_laws.Asked.{placed}
use Rattle.cilk_machine_undo.proofs.agree_laws.Found.{read-agrees}
use Rattle.cilk_machine_undo.proofs.agree_laws.Waits.{pop, steal}
use Rattle.cilk_machine_undo.specs.Growth.{MachineGrows}
use Rattle.cilk_machine_undo.proofs.Growth.{pops-grow, steals-grow}
use Rattle.cilk_machine_undo.proofs.Printed.{prints-none}
use Rattle.cilk_sched.specs.declared.choice.Choice.{Choice}
use Rattle.cilk_sched.specs.declared.act.Act.TheVariants.{Pop, Steal}
use Rattle.cilk_sched.specs.declared.outcome.Outcome.{Outcome}
use Rattle.cilk_sched.specs.Words.{choice_of, outcome_of}
use Rattle.cilk_machine.specs.Situation.{Situation, workers_of, past_behind}
use Rattle.cilk_machine.specs.Stands.{Led, IsSound}
use Rattle.cilk_machine.specs.Refused.{refused_by}
use Rattle.cilk_machine.specs.Made.{refused, Leads, Makes, Does}
use Rattle.cilk_machine.proofs.Refusals.{reason_by, refusal-is}

-- the machine after a choice
abbrev pub moved_to : Situation → MachineParts → Outcome → Situation
moved_to m now outcome = record {
  program = m.program;
  machine = now;
  outcome = outcome;
  choices = m.choices + 1;
  keeps = m.keeps;
  past = past_behind m;
}

-- what is to be shown of the next standing
pub record Next (m : Situation) (now : MachineParts) (outcome : Outcome) (choice : model.Choice) (did : Event) (at : Standing) : Type 0 where
  pub possible : refused m at choice ≡ None
  pub event : did ≡ event_of (label m.program) at choice
  pub outcome_is : outcome_of outcome ≡ (next_of (label m.program) at choice).state.outcome
  pub who : ℕ → Instance
  pub agrees : Agrees m.program now who (next_of (label m.program) at choice)
  pub follows : Follows (label m.program) (m.choices + 1) m.machine.nodes now.nodes did

-- whatever list of choices led here
abbrev pub Goes : Situation → MachineParts → Outcome → model.Choice → Event → Type 0
Goes m now outcome choice did =
    (choices : List model.Choice) (events : List Event) (at : Standing) → Led m choices events at → Next m now outcome choice did at

module _ (m : Situation) (now : MachineParts) (outcome : Outcome) (choice : model.Choice) (did : Event) where
  -- one choice more was made from the start
  pub after-one : (choices : List model.Choice) (events : List Event) (at : Standing) → Led m choices events at → Next m now outcome choice did at
      → after (label m.program) (workers_of m) (choices ++ choice ∷ [])
      ≡ Some (record { standing = next_of (label m.program) at choice; events = events ++ did ∷ [] })
  after-one choices events at h n =
      after-push (label m.program) (workers_of m) choices choice
      ∙ ap (one_more (label m.program) choice) h.led
      ∙ ap
      (λ (o : Option model.Refusal). if is_none o then Some
      (position_after (label m.program) (record { standing = at; events = events }) choice) else None) n.possible
      ∙ (λ i. Some (record { standing = next_of (label m.program) at choice; events = events ++ sym n.event i ∷ [] }))

  -- there are as many workers as before
  same_crew : (choices : List model.Choice) (events : List Event) (at : Standing) → Led m choices events at → Next m now outcome choice did at
      → length now.places ≡ workers_of m
  same_crew choices events at h n =
      let known = placed m.program now n.who (next_of (label m.program) at choice) n.agrees in
      sym known.workers
      ∙ crew_stays (label m.program) (workers_of m) (choices ++ choice ∷ [])
      (record { standing = next_of (label m.program) at choice; events = events ++ did ∷ [] })
      (after-one choices events at h n)

  -- whoever lives is told so
  told_alive : (choices : List model.Choice) (events : List Event) (at : Standing) → Led m choices events at → Next m now outcome choice did at
      → LivingAreTold now.nodes (events ++ did ∷ [])
  told_alive choices events at h n i live =
      let known = placed m.program now n.who (next_of (label m.program) at choice) n.agrees in
      (the_living_live (label m.program) (workers_of m) (choices ++ choice ∷ [])
      (record { standing = next_of (label m.program) at choice; events = events ++ did ∷ [] })
      (after-one choices events at h n) (path_at now.nodes i)).1
      (ap is_some (known.found i live))

  pub fated-on : (choices : List model.Choice) (events : List Event) (at : Standing) → Led m choices events at → Next m now outcome choice did at
      → Fated (label m.program) now.nodes (events ++ did ∷ [])
  fated-on choices events at h n =
      let many = each_choice_is_an_event (label m.program) (workers_of m) choices (record { standing = at; events = events }) h.led in
      let number : m.choices + 1 ≡ suc (length events) = (let c = h.counted in omega (arith, many, c)) in
      fates-are-kept (label m.program) m.machine.nodes now.nodes events did n.agrees.tree h.fated
      (subst (λ k. Follows (label m.program) k m.machine.nodes now.nodes did) number n.follows) (told_alive choices events at h n)

  leads_on : length now.places ≡ workers_of m → (choices : List model.Choice) (events : List Event) (at : Standing) → Led m choices events at
      → Next m now outcome choice did at → Leads m (moved_to m now outcome) choice did choices events at
  leads_on crew choices events at h n = record {
    possible = n.possible;
    event = n.event;
    led = record {
      led = ap (λ k. after (label m.program) k (choices ++ choice ∷ [])) crew ∙ after-one choices events at h n;
      counted = length-append choices (choice ∷ []) ∙ ap (λ k. k + 1) h.counted;
      outcome = n.outcome_is;
      agrees = read-agrees m.program now n.who (next_of (label m.program) at choice) n.agrees;
      fated = fated-on choices events at h n;
    };
  }

  pub makes : IsSound m → Goes m now outcome choice did → MachineGrows (m.choices + 1) m.machine now → Makes m (moved_to m now outcome) choice did
  makes sound goes grows =
      let old = sound.stands in
      let crew = same_crew old.choices old.events sound.at old.led (goes old.choices old.events sound.at old.led) in
      record {
        program = refl;
        workers = crew;
        choices = refl;
        keeps = refl;
        past = refl;
        leads = λ choices events at h. leads_on crew choices events at h (goes choices events at h);
        grows = grows;
      }

  -- a machine after a choice is sound again
  pub still-sound : IsSound m → Makes m (moved_to m now outcome) choice did → IsSound (moved_to m now outcome)
  still-sound sound made =
      let old = sound.stands in
      let new = made.leads old.choices old.events sound.at old.led in
      record {
        well_formed = sound.well_formed;
        some = subst (λ n. 1 ≤ n) (sym made.workers) sound.some;
        limit = subst (λ n. n ≤ 64) (sym made.workers) sound.limit;
        at = next_of (label m.program) sound.at choice;
        stands = record { choices = old.choices ++ choice ∷ []; events = old.events ++ did ∷ []; led = new.led };
      }

-- what is done goes by another name
pub told-as : (m n : Situation) (choice : model.Choice) (did other : Event) → Makes m n choice did → Does m choice other → Makes m n choice other
told-as m n choice did other made does = record {
  program = made.program;
  workers = made.workers;
  choices = made.choices;
  keeps = made.keeps;
  past = made.past;
  leads = λ choices events at h.
      let leads = made.leads choices events at h in
      let same : did ≡ other = leads.event ∙ sym (does at (record { choices = choices; events = events; led = h })) in
      subst (λ (e : Event). Leads m n choice e choices events at) same leads;
  grows = made.grows;
}

pub free-is : (m : Situation) → WellFormed m.program → (choice : Choice) → refused_by m choice ≡ None
    → (choices : List model.Choice) (events : List Event) (at : Standing) → Led m choices events at → refused m at (choice_of choice) ≡ None
free-is m well choice free choices events at h = refusal-is m well choices events at h choice ∙ ap reason_by free

-- no fate is changed
moved-follows : (m : Situation) → Follows (label m.program) (m.choices + 1) m.machine.nodes m.machine.nodes event.moved
moved-follows m = record { births = refl; stays = λ i lt. record { path = refl; procedure = refl; fate = refl } }

-- a frame is moved, and nothing else
pub makes-pop : (m : Situation) → IsSound m → (w : ℕ) → refused_by m (record { worker = w; act = Pop }) ≡ None
    → Makes m (moved_to m (record m.machine { places = popped_by m.machine.places w }) m.outcome) (record { worker = w; act = model.pop }) event.moved
makes-pop m sound w free =
    makes m _ m.outcome (record { worker = w; act = model.pop }) event.moved sound
    (λ choices events at h. record {
      possible = free-is m sound.well_formed (record { worker = w; act = Pop }) free choices events at h;
      event = refl;
      outcome_is = h.outcome;
      who = read_off m.program m.machine at;
      agrees = pop m.program m.machine (read_off m.program m.machine at) at h.agrees w;
      follows = moved-follows m;
    }) (record { nodes = pops-grow (m.choices + 1) m.machine w; output = prints-none m.machine.outside.output })

pub makes-steal : (m : Situation) → IsSound m → (w v : ℕ) → refused_by m (record { worker = w; act = Steal v }) ≡ None
    → Makes m (moved_to m (record m.machine { places = stolen_by m.machine.places w v }) m.outcome) (record { worker = w; act = model.steal v }) event.moved
makes-steal m sound w v free =
    makes m _ m.outcome (record { worker = w; act = model.steal v }) event.moved sound
    (λ choices events at h. record {
      possible = free-is m sound.well_formed (record { worker = w; act = Steal v }) free choices events at h;
      event = refl;
      outcome_is = h.outcome;
      who = read_off m.program m.machine at;
      agrees = steal m.program m.machine (read_off m.program m.machine at) at h.agrees w v;
      follows = moved-follows m;
    }) (record { nodes = steals-grow (m.choices + 1) m.machine w v; output = prints-none m.machine.outside.output })
