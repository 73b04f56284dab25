-- What a machine was before the choices whose records it keeps.
use Rattle.std.specs.Prelude.{◌-◌, ◌∷◌, ℕ, Bool, List, [], map, reverse}
use Rattle.cilk_machine_undo.specs.syntax.Tree.{Program}
use Rattle.cilk_machine_undo.specs.plans.declared.parts.Parts.{Parts}
use Rattle.cilk_machine_undo.specs.plans.PartWords.{machine_of}
use Rattle.cilk_sched.specs.declared.outcome.Outcome.{Outcome}
use Rattle.cilk_machine_undo.specs.declared.undo.Undo as code
use Rattle.cilk_machine_undo.specs.Undo.{Undo, undone}
use Rattle.cilk_machine_undo.specs.Words.{undo_by, machine_in}
use Rattle.cilk_machine.specs.Situation.{Before, Situation, outcome_at}

-- what it was before the choice of this record, where it is this behind it
abbrev pub before_by : Undo → Before → Before
before_by u b = record { machine = undone u b.machine; choices = b.choices - 1 }

-- the record of the last choice comes first
abbrev pub pasts : List Undo → Before → List Before
pasts [] b = []
pasts (u ∷ us) b = before_by u b ∷ pasts us (before_by u b)

-- what the records of the code mean, which are in the order of their choices
abbrev pub kept_of : List code.Undo → List Undo
kept_of records = map undo_by (reverse records)

-- the machine of these parts behind so many choices, where its program runs
abbrev pub running_at : Parts → ℕ → Before
running_at parts choices = record { machine = machine_in parts; choices = choices }

-- what contracts see of a machine with these records
abbrev pub situation_of : Program → Parts → ℕ → Outcome → ℕ → Bool → List Undo → Situation
situation_of p parts trapper outcome choices keeps us = record {
  program = p;
  machine = machine_of parts (outcome_at trapper outcome);
  outcome = outcome;
  choices = choices;
  keeps = keeps;
  past = pasts us (running_at parts choices);
}
