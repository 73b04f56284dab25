-- Where all choices are possible, each of them is.
use Rattle.std.proofs.Common.{◌≡◌, ℕ, zero, suc, ◌+◌, ◌≤◌, ◌-◌, length, Option, Some, None, is_none, refl, sym, ap, ◌∙◌, get_or, arith, if◌then◌else◌}
use Rattle.std.proofs.lemmas.Option.{slice_get-get_or, slice_get_within}
use Rattle.cilk_machine.specs.labelled.Bodies.{label}
use Rattle.cilk_machine.specs.labelled.Labelled.{Labelled}
use Rattle.cilk_machine.specs.model.Choice.{Choice, Refusal, step}
use Rattle.cilk_machine.specs.model.Run.{Position, refusal_of, one_more, position_after}
use Rattle.cilk_log_replay.specs.Tape.{Tape, position_at, IsPlayable, IsBad}
use Rattle.cilk_log_replay.proofs.Again.{step_down}

-- the first k choices lead somewhere
pub record Leads (t : Tape) (k : ℕ) : Type 0 where
  pub at : Position
  pub led : position_at t k ≡ Some at

before_more : (t : Tape) (k : ℕ) (choice : Choice) (o : Option Position) (end : Position) → position_at t k ≡ o
    → one_more (label t.program) choice o ≡ Some end → Leads t k
before_more t k choice None end e h = cc
before_more t k choice (Some at) end e h = record { at = at; led = e }

any_choice : Choice
any_choice = record { worker = 0; act = step }

leads_down : (t : Tape) → IsPlayable t → (d k : ℕ) → k + d ≡ length t.choices → Leads t k
leads_down t whole zero k e = record { at = whole.at; led = ap (position_at t) (omega arith) ∙ whole.led }
leads_down t whole (suc d) k e =
    let later = leads_down t whole d (suc k) (omega arith) in
    let choice = get_or t.choices k any_choice in
    before_more t k choice (position_at t k) later.at refl
    (sym (step_down t k choice (slice_get-get_or t.choices k any_choice (omega arith))) ∙ later.led)

pub leads_at : (t : Tape) → IsPlayable t → (k : ℕ) → k ≤ length t.choices → Leads t k
leads_at t whole k within = leads_down t whole (length t.choices - k) k (omega arith)

refused_none : (program : Labelled) (choice : Choice) (at end : Position) (o : Option Refusal) (why : Refusal) → refusal_of program at.standing choice ≡ o
    → o ≡ Some why → (if is_none o then Some (position_after program at choice) else None) ≡ Some end → ⊥
refused_none program choice at end None why e is h = cc
refused_none program choice at end (Some r) why e is h = cc

-- so none is bad
pub no-bad : (t : Tape) → IsPlayable t → (k : ℕ) (why : Refusal) → IsBad t k why → ⊥
no-bad t whole k why bad =
    let later = leads_at t whole (suc k) (slice_get_within t.choices k bad.choice bad.is) in
    refused_none (label t.program) bad.choice bad.at later.at (refusal_of (label t.program) bad.at.standing bad.choice) why refl bad.refused
    (sym (step_down t k bad.choice bad.is ∙ ap (one_more (label t.program) bad.choice) bad.led) ∙ later.led)
