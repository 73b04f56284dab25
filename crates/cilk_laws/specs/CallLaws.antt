-- What is known of the calls, spawns and inlets of a well-formed program, after it is labelled too.
use Rattle.std.specs.Prelude.{◌≡◌, ℕ, ℤ, true, List, [], Some}
use Rattle.cilk_check.specs.syntax.Tree.{Program}
use Rattle.cilk_check.specs.scopes.WellFormed.{WellFormed}
use Rattle.cilk_laws_model.specs.labelled.Labelled.{sync}
use Rattle.cilk_laws_model.specs.labelled.Bodies.{label}
use Rattle.cilk_laws_model.specs.model.Path.{Path, child_path}
use Rattle.cilk_laws_model.specs.model.Instance.{through, Instance}
use Rattle.cilk_laws_model.specs.model.Event.{delivered}
use Rattle.cilk_laws_model.specs.model.Fate.{was_made}
use Rattle.cilk_laws_model.specs.model.Choice.{Choice}
use Rattle.cilk_laws_model.specs.model.Run.{Position, event_of, after}
use Rattle.cilk_laws.specs.Moments.{Acts, Settled}
use Rattle.cilk_laws.specs.Calls as calls
use Rattle.cilk_laws.specs.Inlets.{in_inlet, IsStep, Alone, HasStarted}
use Rattle.cilk_laws.specs.ChildLaws.{Leads, IsTaken}

abbrev pub CallsSuit : Type 0
CallsSuit = (p : Program) → WellFormed p → calls.calls_suit (label p) ≡ true

-- over every list of possible choices
abbrev pub EachInletStarts : Type 0
EachInletStarts = (p : Program) → WellFormed p → (n : ℕ) (choices : List Choice) (choice : Choice) (at next : Position)
    → Leads (label p) n choices choice at next → (c : Path) (k : ℕ) → event_of (label p) at.standing choice ≡ delivered c k
    → (taken : IsTaken at.standing c) (inlet m : ℕ) (others : List ℤ) → taken.delivery.receiver ≡ through inlet others m
    → HasStarted (label p) taken.parent taken.instance next.standing.state.instances

abbrev pub InletsRunAlone : Type 0
InletsRunAlone = (p : Program) → WellFormed p → (n : ℕ) (choices : List Choice) (choice : Choice) (at next : Position)
    → Leads (label p) n choices choice at next → (q : Path) (i : Instance) → IsStep at.standing choice q i → in_inlet (label p) i ≡ true
    → Alone (label p) (event_of (label p) at.standing choice) q i next.standing.state.instances

abbrev pub OnlyProceduresSync : Type 0
OnlyProceduresSync = (p : Program) → WellFormed p → (n : ℕ) (choices : List Choice) (choice : Choice) (at : Position)
    → after (label p) n choices ≡ Some at → (q : Path) (acts : Acts (label p) at.standing choice q sync) → acts.instance.below ≡ []

-- and so each child that was spawned before is settled there
abbrev pub EachSyncSettlesChildren : Type 0
EachSyncSettlesChildren = (p : Program) → WellFormed p → (n : ℕ) (choices : List Choice) (choice : Choice) (at next : Position)
    → Leads (label p) n choices choice at next → (q : Path) → Acts (label p) at.standing choice q sync
    → (k : ℕ) → was_made at.events (child_path q k) ≡ true → Settled (label p) n choices at (child_path q k)
