-- What is known of a labelled program where the forms of its text have no fault.
use Rattle.std.specs.Prelude.{◌≡◌, ◌≢◌, ℕ, true, All, List, Some, None}
use Rattle.cilk_check.specs.syntax.Tree.{Program}
use Rattle.cilk_check.specs.scopes.declared.fault.CheckFault.{CheckFault}
use Rattle.cilk_check.specs.scopes.declared.fault.CheckFault.TheVariants.{NoLoop}
use Rattle.cilk_check.specs.scopes.Forms.{Faulty}
use Rattle.cilk_laws_model.specs.labelled.Bodies.{label}
use Rattle.cilk_laws_model.specs.labelled.Items.{head_of}
use Rattle.cilk_laws_model.specs.model.Path.{Path}
use Rattle.cilk_laws_model.specs.model.Instance.{Activation, Instance}
use Rattle.cilk_laws_model.specs.model.State.{instance_at}
use Rattle.cilk_laws_model.specs.model.Choice.{Choice}
use Rattle.cilk_laws_model.specs.model.Run.{Position, after}
use Rattle.cilk_laws_model.specs.model.End.{is_stuck}
use Rattle.cilk_laws_model.specs.Loops.{breaks_fit}
use Rattle.cilk_laws_model.specs.Locks.{AllWait}

-- nothing is wrong with the forms of the text
abbrev pub FormsAreRight : Program → Type 0
FormsAreRight p = (f : CheckFault) → ¬ Faulty p f

abbrev pub BreaksStandInLoops : Type 0
BreaksStandInLoops = (p : Program) → ((at : ℕ) → ¬ Faulty p (NoLoop at)) → breaks_fit (label p) ≡ true

-- after every list of possible choices each activation of each live instance has a head
abbrev pub EachHasHead : Type 0
EachHasHead = (p : Program) → FormsAreRight p → (n : ℕ) (choices : List Choice) (at : Position) → after (label p) n choices ≡ Some at
    → (q : Path) (i : Instance) → instance_at at.standing.state.instances q ≡ Some i
    → (head_of i.top.items ≢ None) × All (λ (a : Activation). head_of a.items ≢ None) i.below

-- after every list of possible choices a program is stuck only where each worker with a full hand waits for a lock
abbrev pub StuckOnLocks : Type 0
StuckOnLocks = (p : Program) → FormsAreRight p → (n : ℕ) (choices : List Choice) (at : Position) → after (label p) n choices ≡ Some at
    → is_stuck (label p) at.standing ≡ true → AllWait at.standing
