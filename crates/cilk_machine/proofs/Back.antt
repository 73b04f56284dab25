-- The last choice is taken back by its record.
use Rattle.std.proofs.Common.{◌≡◌, ◌≤◌, ◌<◌, ◌+◌, ◌-◌, ◌∷◌, [], ℕ, Bool, List, length, refl, sym, ap, ◌∙◌, subst, arith}
use Rattle.cilk_machine_undo.specs.syntax.Tree.{Program}
use Rattle.cilk_machine_undo.specs.agree.Agrees.{MachineParts}
use Rattle.cilk_machine_undo.specs.plans.declared.parts.Parts.{Parts}
use Rattle.cilk_sched.specs.declared.outcome.Outcome.{Outcome}
use Rattle.cilk_sched.specs.declared.outcome.Outcome.TheVariants.{Running}
use Rattle.cilk_machine_undo.specs.Undo.{Undo, undone}
use Rattle.cilk_machine_undo.specs.Able.{CanTakeBack}
use Rattle.cilk_machine_undo.specs.Words.{machine_in, IsTakenBack}
use Rattle.cilk_machine.specs.Situation.{Before, Situation}
use Rattle.cilk_machine.specs.Stands.{IsSound}
use Rattle.cilk_machine.specs.Made.{TakesBack}
use Rattle.cilk_machine.specs.Pasts.{before_by, pasts, running_at, situation_of}
use Rattle.cilk_machine.specs.Kept.{situation_at, AllKept, idle_hands, IsWhole}
use Rattle.cilk_machine.proofs.Kept.{sound-past}
use Rattle.cilk_machine.proofs.Rooms.{back-idle, back-crew}

-- a machine by another name
pub taken-old : (m old n : Situation) → m ≡ old → TakesBack m n → TakesBack old n
taken-old m old n is taken = subst (λ (x : Situation). TakesBack x n) is taken

no-first : (u : Undo) (us rest : List Undo) → us ≡ u ∷ rest → us ≡ [] → rest ≡ []
no-first u us rest is none = let bad : u ∷ rest ≡ [] = sym is ∙ none in cc

module _ {p : Program} {parts : Parts} {trapper : ℕ} {outcome : Outcome} {choices : ℕ} {keeps : Bool} {us : List Undo} {workers count capacity : ℕ}
    (inv : IsWhole p parts trapper outcome choices keeps us workers count capacity) (u : Undo) (rest : List Undo) (is : us ≡ u ∷ rest) where
  first : AllKept p (u ∷ rest) (running_at parts choices)
  first = subst (λ vs. AllKept p vs (running_at parts choices)) is inv.all

  pub can-take : CanTakeBack u (machine_in parts)
  can-take = first.0.can

  pub some-choice : 0 < choices
  some-choice = first.0.counted

  module _ (now : Parts) (taken : IsTakenBack u parts now) (came : ℕ) where
    before-is : running_at now (choices - 1) ≡ before_by u (running_at parts choices)
    before-is = λ i. record { machine = taken i; choices = choices - 1 }

    crew-is : length now.hands ≡ length parts.hands
    crew-is = ap (λ (m : MachineParts). length m.places) taken ∙ back-crew u (machine_in parts)

    pub takes : TakesBack (situation_of p parts trapper outcome choices keeps us) (situation_of p now came Running (choices - 1) keeps rest)
    takes = record {
      program = refl;
      workers = crew-is;
      outcome = refl;
      choices = (let some = some-choice in omega (arith, some));
      keeps = refl;
      past =
          ap (λ (b : Before). b ∷ pasts rest b) before-is ∙ sym (ap (λ vs. pasts vs (running_at parts choices)) is);
    }

    pub whole-back : (fewer room : ℕ) → fewer + 1 ≤ count → capacity ≤ room
        → IsWhole p now came Running (choices - 1) keeps rest workers fewer room
    whole-back fewer room less wider = record {
      sound =
          sound-past (situation_at p (running_at now (choices - 1))) keeps (pasts rest (running_at now (choices - 1)))
          (subst (λ (b : Before). IsSound (situation_at p b)) (sym before-is) first.0.sound);
      crew = inv.crew ∙ sym crew-is;
      all = subst (λ (b : Before). AllKept p rest b) (sym before-is) first.1;
      none = λ e. no-first u us rest is (inv.none e);
      room = λ e.
          let before = inv.room e in
          let one = back-idle u (machine_in parts) in
          let hands : idle_hands now.hands ≡ idle_hands (undone u (machine_in parts)).places = ap (λ (m : MachineParts). idle_hands m.places) taken in
          omega (arith, before, one, hands, less, wider);
    }
