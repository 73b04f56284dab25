-- One choice more is kept.
use Rattle.std.proofs.Common.{List, [], ◌∷◌, ◌++◌, map, sym, subst}
use Rattle.std.proofs.lemmas.List.{map-append}
use Rattle.cilk_machine.specs.labelled.Bodies.{label}
use Rattle.cilk_machine.specs.model.Event.{Event}
use Rattle.cilk_machine.specs.model.Run.{next_of}
use Rattle.cilk_log.specs.choices.Words.{choice_of}
use Rattle.cilk_log.specs.choices.declared.choice.Choice as code
use Rattle.cilk_machine.specs.Situation.{Situation}
use Rattle.cilk_machine.specs.Made.{Makes}
use Rattle.cilk_machine.specs.Stands.{Led}
use Rattle.cilk_run_locked.specs.Histories.{IsLedBy}

pub led-on : (made : List code.Choice) (m n : Situation) (choice : code.Choice) (did : Event) → Makes m n (choice_of choice) did
    → IsLedBy m made → IsLedBy n (made ++ choice ∷ [])
led-on made m n choice did makes l = record {
  events = l.events ++ did ∷ [];
  at = next_of (label m.program) l.at (choice_of choice);
  led = subst (λ cs. Led n cs (l.events ++ did ∷ []) (next_of (label m.program) l.at (choice_of choice))) (sym (map-append choice_of made (choice ∷ [])))
      (makes.leads (map choice_of made) l.events l.at l.led).led;
}
