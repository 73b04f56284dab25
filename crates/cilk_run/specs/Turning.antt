-- What a turn does.
use Rattle.std.specs.Prelude.{◌≡◌, ◌⊎◌, ◌||◌, ◌+◌, ℕ, Bool, true, List, [], ◌∷◌, ◌++◌, Option, Some, slice_get}
use Rattle.cilk_run.specs.choices.declared.act.Act.{Act}
use Rattle.cilk_run.specs.step.Peeks.{code_at}
use Rattle.cilk_run.specs.machine.nodes.declared.slot.Slot.{Slot}
use Rattle.cilk_run.specs.labelled.Term.{Term}
use Rattle.cilk_run.specs.syntax.Tree.{Program}
use Rattle.cilk_run.specs.Histories.{Posted}
use Rattle.cilk_run.specs.Runs.{Stops}
use Rattle.cilk_run.specs.declared.post.Begun.{Begun}
use Rattle.cilk_run.specs.declared.post.Begun.TheVariants.{Over, Seen}
use Rattle.cilk_run.specs.declared.post.TurnEnd.{TurnEnd}
use Rattle.cilk_run.specs.declared.post.TurnEnd.TheVariants.{Made, Idle, Stop}

-- all are to end for a reason that is not the machine's
abbrev pub is_broken : Posted → Bool
is_broken t = t.stopped || t.short

-- no turn will make a choice
abbrev pub IsOver : ℕ → Posted → Type 0
IsOver limit t = (is_broken t ≡ true) ⊎ Stops limit t.machine

-- what a turn of worker w did, by how the worker goes on
abbrev pub IsTurn : ℕ → ℕ → Posted → TurnEnd → Posted → Type 0
-- a choice of its own is the last one now
IsTurn limit w old Made new = (act : Act) × (new.history ≡ old.history ++ record { worker = w; act = act } ∷ [])
-- nothing was changed
IsTurn limit w old Idle new = new ≡ old
IsTurn limit w old Stop new = (new.history ≡ old.history) × IsOver limit new

-- how far worker w came who began a turn: to its end, or no further than to look at its own step
abbrev pub IsBegun : ℕ → ℕ → Posted → Begun → Posted → Type 0
IsBegun limit w old (Over turn) new = IsTurn limit w old turn new
IsBegun limit w old (Seen n) new = new ≡ old

-- expressions that stand where those of the program's actions do that may be seen beforehand, from action 1 on
abbrev pub IsListed : Program → List (Option (Term Slot)) → Type 0
IsListed p expressions = (k : ℕ) (t : Term Slot) → slice_get expressions k ≡ Some (Some t) → code_at p (k + 1) ≡ Some t
