-- One choice after another is made again.
use Rattle.std.proofs.Common.{◌≡◌, ◌≢◌, ℕ, suc, ◌+◌, List, [], ◌∷◌, ◌++◌, map, take, Option, Some, refl, sym, ap, ◌∙◌, subst, slice_get, option_map, arith}
use Rattle.std.proofs.lemmas.Option.{slice_get-map, slice_get_within, get_or_from_slice_get}
use Rattle.std.proofs.Math.Seq.{take-suc}
use Rattle.cilk_machine.specs.syntax.Tree.{Program}
use Rattle.cilk_machine.specs.labelled.Bodies.{label}
use Rattle.cilk_machine.specs.model.Choice as model
use Rattle.cilk_machine.specs.model.Choice.{Choice, Refusal}
use Rattle.cilk_machine.specs.model.Event.{Event}
use Rattle.cilk_machine.specs.model.Run.{Position, after, refusal_of, next_of, event_of, one_more}
use Rattle.cilk_machine.proofs.runs_laws.model_laws.Runs.{after-push}
use Rattle.cilk_machine.specs.spawn.Nodes.{path_at}
use Rattle.cilk_machine.specs.plans.declared.did.Did.{Did}
use Rattle.cilk_machine.specs.plans.PartWords.{event_by}
use Rattle.cilk_machine.specs.sched.declared.refusal.Refusal as code
use Rattle.cilk_machine.specs.sched.declared.refusal.Refusal.TheVariants as refusal
use Rattle.cilk_machine.specs.sched.declared.choice.Choice as coded
use Rattle.cilk_machine.specs.sched.Words.{choice_of, reason_of}
use Rattle.cilk_machine.specs.Situation.{Situation, workers_of}
use Rattle.cilk_machine.specs.Stands.{Led, Opens}
use Rattle.cilk_machine.specs.Made.{Makes, MakesBy, IsRefused}
use Rattle.cilk_log_replay.specs.ReplayFaults.{IsFirst}
use Rattle.cilk_log_replay.specs.Tape.{Tape, position_at, did_by, did_at, IsAt, IsBad}

-- where a machine is, these choices lead
pub led_in : (t : Tape) (k : ℕ) (m : Situation) (h : IsAt t k m) → position_at t k ≡ Some h.at
led_in t k m h =
    subst (λ (p : Program). after (label p) t.workers (take k t.choices) ≡ Some h.at) h.program
    (subst (λ (w : ℕ). after (label m.program) w (take k t.choices) ≡ Some h.at) h.workers h.led.led)

module _ (t : Tape) (k : ℕ) (choice : Choice) (is : slice_get t.choices k ≡ Some choice) where
  -- the choices up to it
  through : take (suc k) t.choices ≡ take k t.choices ++ choice ∷ []
  through = take-suc t.choices k choice (slice_get_within t.choices k choice is)
      ∙ ap (λ (c : Choice). take k t.choices ++ c ∷ []) (get_or_from_slice_get t.choices k choice choice is)

  pub at_next : (m n : Situation) (did : Event) → IsAt t k m → Makes m n choice did → IsAt t (suc k) n
  at_next m n did h made =
      let leads = made.leads (take k t.choices) h.at.events h.at.standing h.led in
      record {
        program = made.program ∙ h.program;
        workers = made.workers ∙ h.workers;
        choices = made.choices ∙ ap (λ c. c + 1) h.choices ∙ omega arith;
        at = record { standing = next_of (label m.program) h.at.standing choice; events = h.at.events ++ did ∷ [] };
        led = subst (λ (cs : List Choice). Led n cs (h.at.events ++ did ∷ []) (next_of (label m.program) h.at.standing choice)) (sym through) leads.led;
      }

  pub bad_at : (m : Situation) (why : Refusal) → IsAt t k m → IsRefused m choice (Some why) → IsBad t k why
  bad_at m why h refused = record {
    at = h.at;
    led = led_in t k m h;
    choice = choice;
    is = is;
    refused = subst (λ (p : Program). refusal_of (label p) h.at.standing choice ≡ Some why) h.program
        (refused h.at.standing (record { choices = take k t.choices; events = h.at.events; led = h.led }));
  }

-- what a choice that was made, or refused, says of each tape
pub next_by : (m n : Situation) (choice : Choice) (did : Did) → MakesBy m n choice did
    → (t : Tape) (k : ℕ) → IsAt t k m → slice_get t.choices k ≡ Some choice → IsAt t (suc k) n
next_by m n choice did made t k h is = at_next t k choice is m n (event_by (path_at m.machine.nodes) (path_at n.machine.nodes) did) h made

pub did_by_it : (m n : Situation) (choice : Choice) (did : Did) → MakesBy m n choice did
    → (t : Tape) (k : ℕ) → IsAt t k m → slice_get t.choices k ≡ Some choice
    → did_at t k ≡ Some (event_by (path_at m.machine.nodes) (path_at n.machine.nodes) did)
did_by_it m n choice did made t k h is =
    let leads = made.leads (take k t.choices) h.at.events h.at.standing h.led in
    ap (λ (o : Option Position). did_by t.program o (slice_get t.choices k)) (led_in t k m h)
    ∙ ap (λ (o : Option Choice). did_by t.program (Some h.at) o) is
    ∙ ap Some (ap (λ (p : Program). event_of (label p) h.at.standing choice) (sym h.program) ∙ sym leads.event)

pub bad_by : (m : Situation) (choice : Choice) (r : code.Refusal) → IsRefused m choice (reason_of r)
    → (t : Tape) (k : ℕ) → IsAt t k m → slice_get t.choices k ≡ Some choice → (why : Refusal) → reason_of r ≡ Some why → IsBad t k why
bad_by m choice r refused t k h is why reason = bad_at t k choice is m why h (subst (λ (o : Option Refusal). IsRefused m choice o) reason refused)

-- the choice of a number, on each tape of the choices
pub chosen : (t : Tape) (xs : List coded.Choice) (k : ℕ) (x : coded.Choice) → t.choices ≡ map choice_of xs → slice_get xs k ≡ Some x
    → slice_get t.choices k ≡ Some (choice_of x)
chosen t xs k x same is = ap (λ (cs : List Choice). slice_get cs k) same ∙ slice_get-map choice_of xs k ∙ ap (option_map choice_of) is

-- before any choice, on each tape of the program and the workers
pub at_start : (m : Situation) (program : Program) (workers : ℕ) → m.program ≡ program → workers_of m ≡ workers → m.choices ≡ 0 → Opens m
    → (choices : List Choice) → IsAt (record { program = program; workers = workers; choices = choices }) 0 m
at_start m program workers same crew none opens choices = record {
  program = same;
  workers = crew;
  choices = none;
  at = record { standing = opens.0; events = [] };
  led = opens.1;
}

-- a choice that is refused for a reason of the program's is the first that is not possible
pub first_by : (t : Tape) (k : ℕ) (r : code.Refusal) → r ≢ refusal.Memory → ((why : Refusal) → reason_of r ≡ Some why → IsBad t k why) → IsFirst t (k + 1) r
first_by t k refusal.Over not bad = record { before = k; counted = omega arith; reason = model.over; is = refl; bad = bad model.over refl }
first_by t k refusal.NoWorker not bad = record { before = k; counted = omega arith; reason = model.no_worker; is = refl; bad = bad model.no_worker refl }
first_by t k refusal.HandEmpty not bad = record { before = k; counted = omega arith; reason = model.hand_empty; is = refl; bad = bad model.hand_empty refl }
first_by t k refusal.Busy not bad = record { before = k; counted = omega arith; reason = model.busy; is = refl; bad = bad model.busy refl }
first_by t k refusal.DequeEmpty not bad = record { before = k; counted = omega arith; reason = model.deque_empty; is = refl; bad = bad model.deque_empty refl }
first_by t k refusal.Waiting not bad = record { before = k; counted = omega arith; reason = model.waiting; is = refl; bad = bad model.waiting refl }
first_by t k refusal.Memory not bad = absurd (not refl)
first_by t k refusal.Stale not bad = record { before = k; counted = omega arith; reason = model.stale; is = refl; bad = bad model.stale refl }

-- where all choices are possible, so are the first of them
pub step_down : (t : Tape) (k : ℕ) (choice : Choice) → slice_get t.choices k ≡ Some choice
    → position_at t (suc k) ≡ one_more (label t.program) choice (position_at t k)
step_down t k choice is =
    ap (after (label t.program) t.workers) (through t k choice is) ∙ after-push (label t.program) t.workers (take k t.choices) choice
