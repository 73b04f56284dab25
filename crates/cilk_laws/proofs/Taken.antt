-- A delivery is taken at a boundary, where it waits first.
use Rattle.std.proofs.Common.{◌≡◌, ℕ, List, ◌∷◌, Option, Some, ◌⊎◌, inl, inr, sym, ap, subst, ◌∙◌}
use Rattle.std.specs.Prelude.{option_map}
use Rattle.cilk_laws_model.specs.labelled.Labelled.{Labelled}
use Rattle.cilk_laws_model.specs.model.Path.{Path, parent_of}
use Rattle.cilk_laws_model.specs.model.Instance.{Delivery, Instance}
use Rattle.cilk_laws_model.specs.model.State.{State}
use Rattle.cilk_laws_model.specs.model.Event.{moved, delivered}
use Rattle.cilk_laws_model.specs.model.Pick.{Step, step_of_instance}
use Rattle.cilk_laws_model.specs.model.Choice.{Choice}
use Rattle.cilk_laws_model.specs.model.Run.{Position, event_of, event_of_step, after}
use Rattle.cilk_laws_model.proofs.Boundaries.{boundary_of}
use Rattle.cilk_laws_model.proofs.Fates.{told_at}
use Rattle.cilk_laws_model.proofs.Sound.{Sound}
use Rattle.cilk_laws.specs.ChildLaws.{IsTaken, TakenAtBoundaries}
use Rattle.cilk_laws.proofs.Runs.{Stepped, Rested, what_happens}
use Rattle.cilk_laws.proofs.Ways.{Taking, Way, resting, parking, ending, stopping, going, writing, entering, quitting, answering, returning}
use Rattle.cilk_laws.proofs.Ways.{starting, printing, turning_lock, aborts, placing, letting_in, way_of}

-- the delivery of a Delivered event
pub record Takes (i : Instance) (c : Path) : Type 0 where
  pub oldest : Delivery
  pub others : List Delivery
  pub taking : Taking i oldest others
  pub brings : oldest.child ≡ c

pub takes_by : (program : Labelled) (s : State) (p : Path) (i : Instance) (c : Path) (k : ℕ) (step : Step) → Way program s p i step
    → event_of_step step ≡ delivered c k → Takes i c
takes_by program s p i c k _ (placing oldest others cell z n taking) h = record { oldest = oldest; others = others; taking = taking; brings = cc }
takes_by program s p i c k _ (letting_in oldest others inlet ys zs n taking is) h = record { oldest = oldest; others = others; taking = taking; brings = cc }
takes_by program s p i c k _ (resting unmarked) h = cc
takes_by program s p i c k _ (parking why) h = cc
takes_by program s p i c k _ (ending marked) h = cc
takes_by program s p i c k _ (stopping n kind unmarked) h = cc
takes_by program s p i c k _ (going head z acting sort) h = cc
takes_by program s p i c k _ (writing head cell z acting sort) h = cc
takes_by program s p i c k _ (entering head awaits callee zs acting sort) h = cc
takes_by program s p i c k _ (quitting head acting sort above) h = cc
takes_by program s p i c k _ (answering head cell z acting sort above) h = cc
takes_by program s p i c k _ (returning head z acting sort alone) h = cc
takes_by program s p i c k _ (starting head receiver callee zs acting spawns) h = cc
takes_by program s p i c k _ (printing head bytes acting sort) h = cc
takes_by program s p i c k _ (turning_lock head k2 now acting sort) h = cc
takes_by program s p i c k _ (aborts head acting sort) h = cc

stepped_taken : (program : Labelled) (n : ℕ) (choices : List Choice) (choice : Choice) (at : Position) → after program n choices ≡ Some at
    → (c : Path) (k : ℕ) → event_of program at.standing choice ≡ delivered c k
    → Stepped program at.standing choice ⊎ Rested program at.standing choice → IsTaken at.standing c
stepped_taken program n choices choice at known c k h (inl stepped) =
    let s = at.standing.state in
    let p = stepped.path in
    let i = stepped.instance in
    let takes = takes_by program s p i c k (step_of_instance program s p i) (way_of program s p i) (sym stepped.did ∙ h) in
    let told = told_at program n choices at known in
    let waits = told.waits p i.waiting (ap (λ (o : Option Instance). option_map (λ (x : Instance). x.waiting) o) stepped.lives) in
    let sound : Sound at.events p (takes.oldest ∷ takes.others) = subst (Sound at.events p) takes.taking.waits waits in
    record {
      parent = p;
      is_parent = ap parent_of (sym takes.brings) ∙ sound.0;
      instance = i;
      lives = stepped.lives;
      boundary = boundary_of i takes.taking.boundary;
      delivery = takes.oldest;
      others = takes.others;
      first = takes.taking.waits;
      brings = takes.brings;
    }
stepped_taken program n choices choice at known c k h (inr rested) = let none : moved ≡ delivered c k = sym rested.did ∙ h in cc

pub taken_at_boundaries : TakenAtBoundaries
taken_at_boundaries program n choices choice at next leads c k h =
    stepped_taken program n choices choice at leads.before c k h (what_happens program at.standing choice)
