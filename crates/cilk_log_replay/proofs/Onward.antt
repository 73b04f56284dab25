-- A machine with records goes on among the choices of a tape, and back.
use Rattle.std.proofs.Common.{◌≡◌, ◌≤◌, ◌∷◌, [], ℕ, Bool, true, false, take, length, Some, refl, sym, ap, ◌∙◌, subst, slice_get, arith}
use Rattle.std.proofs.lemmas.Option.{slice_get_within}
use Rattle.cilk_machine.specs.model.Choice.{Choice}
use Rattle.cilk_machine.specs.model.Event.{Event}
use Rattle.cilk_machine.specs.sched.declared.outcome.Outcome.TheVariants.{Running}
use Rattle.cilk_machine.specs.Situation.{Situation, before_of, kept_by}
use Rattle.cilk_machine.specs.Stands.{Led}
use Rattle.cilk_machine.specs.Made.{Makes, TakesBack}
use Rattle.cilk_machine.specs.Kept.{situation_at}
use Rattle.cilk_machine.specs.Checkpoints.{without_past}
use Rattle.cilk_machine.proofs.Again.{ran}
use Rattle.cilk_machine.proofs.Kept.{led-past}
use Rattle.cilk_log_replay.specs.Tape.{Tape, IsAt}
use Rattle.cilk_log_replay.specs.Going.{WasAt, AreThere, Goes}
use Rattle.cilk_log_replay.proofs.Again.{at_next}

-- where the machine is before a choice
was-at : (t : Tape) (m : Situation) → IsAt t m.choices m → m.outcome ≡ Running → WasAt t (before_of m)
was-at t m h runs = record {
  program = refl;
  workers = h.workers;
  choices = refl;
  at = h.at;
  led = subst (λ (s : Situation). Led s (take m.choices t.choices) h.at.events h.at.standing)
      (λ i. record { program = h.program i; machine = m.machine; outcome = runs i; choices = m.choices; keeps = false; past = [] })
      (led-past m false [] (take m.choices t.choices) h.at.events h.at.standing h.led);
}

pub goes-on : (t : Tape) (k : ℕ) (choice : Choice) → slice_get t.choices k ≡ Some choice → (m n : Situation) (did : Event) → m.choices ≡ k
    → Goes t m → Makes m n choice did → Goes t n
goes-on t k choice is m n did here g made =
    let there = subst (λ j. slice_get t.choices j ≡ Some choice) (sym here) is in
    let inside = slice_get_within t.choices m.choices choice there in
    let more = made.choices in
    let next = at_next t m.choices choice there m n did g.stands made in
    let runs = ran m n choice did g.stands.at.standing (record { choices = take m.choices t.choices; events = g.stands.at.events; led = g.stands.led }) made in
    let past : n.past ≡ before_of m ∷ m.past = made.past ∙ ap (λ b. kept_by b (before_of m) m.past) g.keeps in
    record {
      within = omega (arith, inside, more);
      stands = subst (λ j. IsAt t j n) (sym next.choices) next;
      keeps = made.keeps ∙ g.keeps;
      past = subst (AreThere t) (sym past) (was-at t m g.stands runs, g.past);
    }

pub goes-back : (t : Tape) (m n : Situation) → Goes t m → TakesBack m n → Goes t n
goes-back t m n g back =
    let all : AreThere t (before_of n ∷ n.past) = subst (AreThere t) (sym back.past) g.past in
    let was : WasAt t (before_of n) = all.0 in
    let fewer = back.choices in
    let within = g.within in
    let program : n.program ≡ t.program = back.program ∙ g.stands.program in
    let stands = back.outcome in
    record {
      within = omega (arith, fewer, within);
      stands = record {
        program = program;
        workers = was.workers;
        choices = refl;
        at = was.at;
        led = subst (λ (s : Situation). Led s (take n.choices t.choices) was.at.events was.at.standing)
            (λ i. record { program = sym program i; machine = n.machine; outcome = sym stands i; choices = n.choices; keeps = n.keeps; past = n.past })
            (led-past (situation_at t.program (before_of n)) n.keeps n.past (take n.choices t.choices) was.at.events was.at.standing was.led);
      };
      keeps = back.keeps ∙ g.keeps;
      past = all.1;
    }

-- it is put somewhere, without records
pub goes-there : (t : Tape) (k : ℕ) (m n : Situation) (keeps : Bool) → k ≤ length t.choices → IsAt t k m → keeps ≡ true → n ≡ without_past keeps m → Goes t n
goes-there t k m n keeps within h is put =
    subst (Goes t) (sym put) (record {
      within = subst (λ j. j ≤ length t.choices) (sym h.choices) within;
      stands = subst (λ j. IsAt t j (without_past keeps m)) (sym h.choices) (record {
        program = h.program;
        workers = h.workers;
        choices = h.choices;
        at = h.at;
        led = led-past m keeps [] (take k t.choices) h.at.events h.at.standing h.led;
      });
      keeps = is;
      past = tt;
    })
