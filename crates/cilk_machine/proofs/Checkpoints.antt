-- What later machines tell of earlier ones, and a machine that is put back.
use Rattle.std.proofs.Common.{◌≡◌, ◌≤◌, ◌+◌, ℕ, Bool, true, List, [], length, sym, ap, ◌∙◌, subst, arith, refl}
use Rattle.cilk_machine_undo.specs.syntax.Tree.{Program}
use Rattle.cilk_machine_undo.specs.labelled.Bodies.{label}
use Rattle.cilk_machine_undo.specs.agree.Agrees.{MachineParts}
use Rattle.cilk_machine_undo.specs.plans.declared.parts.Parts.{Parts}
use Rattle.cilk_machine_undo.specs.plans.PartWords.{machine_of}
use Rattle.cilk_machine_undo.specs.Growth.{AreWithin}
use Rattle.cilk_machine_undo.specs.Moment.{IsBefore, running_as}
use Rattle.cilk_machine_undo.specs.Undo.{Undo}
use Rattle.cilk_machine_undo.specs.Words.{machine_in}
use Rattle.cilk_machine_undo.proofs.runs_laws.Fates.{each_choice_is_an_event}
use Rattle.cilk_machine_undo.proofs.Moments.{machines-tell, machines-go-on}
use Rattle.cilk_machine_undo.proofs.Within.{fated-within}
use Rattle.cilk_sched.specs.declared.outcome.Outcome.{Outcome}
use Rattle.cilk_machine.specs.Situation.{Situation, workers_of, outcome_at}
use Rattle.cilk_machine.specs.Stands.{IsSound}
use Rattle.cilk_machine.specs.Kept.{IsWhole}
use Rattle.cilk_machine.specs.Pasts.{situation_of}
use Rattle.cilk_machine.specs.Checkpoints.{without_past, TellsItself, GoesOnTelling}
use Rattle.cilk_machine.proofs.Kept.{sound-past}
use Rattle.cilk_machine.proofs.Rooms.{few-idle}

-- no fate tells of a choice that was not made
within-now : (m : Situation) → IsSound m → AreWithin m.choices m.machine.nodes
within-now m sound =
    let s = sound.stands in
    let many = each_choice_is_an_event (label m.program) (workers_of m) s.choices (record { standing = sound.at; events = s.events }) s.led.led in
    let counted = s.led.counted in
    let number : length s.events ≡ m.choices = omega (arith, many, counted) in
    subst (λ n. AreWithin n m.machine.nodes) number (fated-within (label m.program) m.machine.nodes s.events s.led.fated)

pub tells-itself : TellsItself
tells-itself m sound = record {
  program = refl;
  workers = refl;
  order = omega arith;
  before = machines-tell m.choices m.machine (within-now m sound);
}

pub goes-on-telling : GoesOnTelling
goes-on-telling m now later choice did e made =
    let more = made.choices in
    let order = e.order in
    record {
      program = made.program ∙ e.program;
      workers = made.workers ∙ e.workers;
      order = omega (arith, more, order);
      before = machines-go-on m.choices (now.choices + 1) m.machine now.machine later.machine (omega (arith, order)) e.before made.grows;
    }

-- the machine with this outcome
abbrev ending-so : MachineParts → Rattle.cilk_machine_undo.specs.agree.Outside.Outcome → MachineParts
ending-so m o = record m { outside = record m.outside { outcome = o } }

-- how it stands, by what was kept of that
pub stands-so : (m : Situation) (trapper kept : ℕ) (outcome same : Outcome) → m.machine.outside.outcome ≡ outcome_at kept m.outcome → trapper ≡ kept
    → outcome ≡ same → same ≡ m.outcome → outcome_at trapper outcome ≡ m.machine.outside.outcome
stands-so m trapper kept outcome same named trapper_is outcome_is same_is =
    (λ i. outcome_at (trapper_is i) (outcome_is i)) ∙ ap (outcome_at kept) same_is ∙ sym named

-- parts that are those of a machine again, but for how it stands
module _ (m : Situation) (sound : IsSound m) (parts : Parts) (again : machine_in parts ≡ running_as m.machine) (program : Program)
    (own : m.program ≡ program) (trapper : ℕ) (outcome : Outcome) (choices : ℕ) (keeps : Bool)
    (stands : outcome_at trapper outcome ≡ m.machine.outside.outcome) (outcome_is : outcome ≡ m.outcome) (choices_is : choices ≡ m.choices) where
  machine_again : machine_of parts (outcome_at trapper outcome) ≡ m.machine
  machine_again =
      ap (λ (y : MachineParts). ending-so y (outcome_at trapper outcome)) again
      ∙ ap (ending-so m.machine) stands

  pub situation-again : situation_of program parts trapper outcome choices keeps [] ≡ without_past keeps m
  situation-again =
      let machine = machine_again in
      λ i. record { program = sym own i; machine = machine i; outcome = outcome_is i; choices = choices_is i; keeps = keeps; past = [] }

  pub crew-again : length parts.hands ≡ workers_of m
  crew-again = ap (λ (y : MachineParts). length y.places) machine_again

  pub returned-whole : (workers : ℕ) → workers ≡ length parts.hands → (us : List Undo) → us ≡ [] → (count capacity : ℕ) → count ≡ 0
      → (keeps ≡ true → 64 ≤ capacity)
      → IsWhole program parts trapper outcome choices keeps us workers count capacity
  returned-whole workers crew us none count capacity empty room =
      subst (λ (vs : List Undo). IsWhole program parts trapper outcome choices keeps vs workers count capacity) (sym none) (record {
        sound = subst IsSound (sym situation-again) (sound-past m keeps [] sound);
        crew = crew;
        all = tt;
        none = λ e. refl;
        room = λ e.
            let few = few-idle parts.hands in
            let enough = room e in
            let limit = sound.limit in
            omega (arith, few, enough, limit, crew-again, empty);
      })

-- what a later machine tells, by its parts
pub before-in : (c n : ℕ) (m : MachineParts) (later : Situation) (program : Program) (parts : Parts) (trapper : ℕ) (outcome : Outcome) (choices : ℕ)
    (keeps : Bool) (us : List Undo) → situation_of program parts trapper outcome choices keeps us ≡ later → c ≡ n → IsBefore n m later.machine
    → IsBefore c m (machine_in parts)
before-in c n m later program parts trapper outcome choices keeps us view is before =
    let there = subst (λ (y : Situation). IsBefore n m y.machine) (sym view) before in
    let here = subst (λ i. IsBefore i m (machine_of parts (outcome_at trapper outcome))) (sym is) there in
    record { nodes = here.nodes; output = here.output }
