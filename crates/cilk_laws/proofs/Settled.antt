-- As an instance passes a `sync` or returns, its children are settled.
use Rattle.std.proofs.Common.{◌≡◌, ℕ, true, false, ◌&&◌, ◌||◌, List, [], Option, Some, None, ◌⊎◌, inl, inr, is_some, refl, sym, ap, subst, ◌∙◌}
use Rattle.std.proofs.lemmas.Bool.{and_from, or_right}
use Rattle.std.specs.Prelude.{option_map}
use Rattle.cilk_laws_model.specs.labelled.Labelled.{Labelled, Numbered, Action, call, spawn, sync, abort, return_with, return_nothing, close}
use Rattle.cilk_laws_model.specs.model.Path.{Path, child_path}
use Rattle.cilk_laws_model.specs.model.Instance.{Receiver, Instance}
use Rattle.cilk_laws_model.specs.model.State.{State, instance_at, is_live, has_live_child, is_empty}
use Rattle.cilk_laws_model.specs.model.Change.{leaves, is_sync, waits_here}
use Rattle.cilk_laws_model.specs.model.Event.{Event, returned, moved}
use Rattle.cilk_laws_model.specs.model.Fate.{Fate, lives, has_returned, was_delivered, was_aborted}
use Rattle.cilk_laws_model.specs.model.Pick.{step_of_instance}
use Rattle.cilk_laws_model.specs.model.Choice.{Choice}
use Rattle.cilk_laws_model.specs.model.Run.{Standing, event_of, after}
use Rattle.cilk_laws_model.proofs.Ground.{empty_is}
use Rattle.cilk_laws_model.proofs.Synched.{unseen}
use Rattle.cilk_laws_model.proofs.Family.{parent-child}
use Rattle.cilk_laws_model.proofs.Events.{told, fate-made}
use Rattle.cilk_laws_model.proofs.Told.{Told}
use Rattle.cilk_laws_model.proofs.Fates.{told_at}
use Rattle.cilk_laws.specs.Moments.{Settles, passes, returns, EndsBy, taken, untaken, stopped}
use Rattle.cilk_laws.specs.ChildLaws.{ChildrenAreSettled}
use Rattle.cilk_laws.proofs.Runs.{Stepped, Rested, what_happens, each_later}
use Rattle.cilk_laws.proofs.Effects.{leaving, sort_of}
use Rattle.cilk_laws.proofs.Ways.{Acting, way_of}
use Rattle.cilk_laws.proofs.Marks.{returns_by, stood}
use Rattle.cilk_laws.proofs.Track.{has, Track, keeps_track, first_track}

-- p has nothing to wait for
record Waitless (s : State) (p : Path) : Type 0 where
  pub instance : Instance
  pub lives : instance_at s.instances p ≡ Some instance
  pub quiet : instance.waiting ≡ []
  pub childless : has_live_child s.instances p ≡ false

leaves_by : (act : Action) → sort_of act ≡ leaving → leaves act ≡ true
leaves_by (return_with e) h = refl
leaves_by return_nothing h = refl
leaves_by close h = refl
leaves_by (call what callee es) h = cc
leaves_by (spawn taker callee es) h = cc
leaves_by abort h = cc
leaves_by other h = cc

waitless : (s : State) (p : Path) (i : Instance) (head : Numbered) → instance_at s.instances p ≡ Some i → Acting s p i head
    → waits_here i head.act ≡ true → Waitless s p
waitless s p i head here acting waits =
    record { instance = i; lives = here; quiet = empty_is i.waiting (acting.quiet waits); childless = acting.childless waits }

returned_waitless : (program : Labelled) (at : Standing) (choice : Choice) (p : Path) (k : ℕ) → event_of program at choice ≡ returned p k
    → Stepped program at choice ⊎ Rested program at choice → Waitless at.state p
returned_waitless program at choice p k h (inl stepped) =
    let q = stepped.path in
    let i = stepped.instance in
    let is = returns_by program at.state q i p k (step_of_instance program at.state q i) (way_of program at.state q i) (sym stepped.did ∙ h) in
    subst (Waitless at.state) is.same
    (waitless at.state q i is.head stepped.lives is.acting
    (and_from _ _ is.alone (or_right (is_sync is.head.act) _ (leaves_by is.head.act is.sort))))
returned_waitless program at choice p k h (inr rested) = let none : moved ≡ returned p k = sym rested.did ∙ h in cc

settling : (program : Labelled) (at : Standing) (choice : Choice) (p : Path) → Settles program at choice p → Waitless at.state p
settling program at choice p (passes acts alone) =
    let i = acts.instance in
    waitless at.state p i acts.head acts.lives (stood program at choice p sync acts).acting
    (ap (λ (x : Action). is_empty i.below && (is_sync x || leaves x)) acts.is ∙ ap (λ bs. is_empty bs && true) alone)
settling program at choice p (returns k h) = returned_waitless program at choice p k h (what_happens program at choice)

unreceived : (o : Option Receiver) → false ≡ is_some o → EndsBy o has_returned
unreceived None h = untaken
unreceived (Some receiver) h = cc

received : (o : Option Receiver) (k : ℕ) → is_some o ≡ true → EndsBy o (was_delivered k)
received None k h = cc
received (Some receiver) k h = taken receiver k

ends_by : (s : State) (p : Path) (k : ℕ) (events : List Event) (receiver : Option Receiver) → Waitless s p → Told events s.instances
    → is_live s.instances (child_path p k) ≡ false
    → Track (child_path p k) receiver events s.instances → (fate : Fate) → told events (child_path p k) ≡ fate → EndsBy receiver fate
ends_by s p k events receiver free h gone track lives e =
    let both : true ≡ false = sym (h.living (child_path p k) track.made e) ∙ gone in cc
ends_by s p k events receiver free h gone track has_returned e =
    let waits = track.waits e p free.instance.waiting (parent-child p k) (ap (option_map (λ (i : Instance). i.waiting)) free.lives) in
    unreceived receiver (sym (ap (has (child_path p k)) free.quiet) ∙ waits)
ends_by s p k events receiver free h gone track (was_delivered n) e = received receiver n (track.taken n e)
ends_by s p k events receiver free h gone track (was_aborted n) e = stopped receiver n

pub children_are_settled : ChildrenAreSettled
children_are_settled program n choices choice at next leads p settles k made =
    let s = at.standing.state in
    let c = child_path p k in
    let free = settling program at.standing choice p settles in
    let h = told_at program n choices at leads.before in
    let gone = unseen p k s.instances free.childless in
    record {
      gone = gone;
      fate = told at.events c;
      is = fate-made at.events c made;
      ends = λ front rest early i parts there here.
          let track = each_later program n (λ cs x. Track c i.receiver x.events x.standing.state.instances)
          (λ cs d x known free_choice t. keeps_track program n cs d x known free_choice c i.receiver t)
          front rest early at there
          (first_track early.events early.standing.state.instances c i (told_at program n front early there) here)
          (ap (after program n) (sym parts) ∙ leads.before) in
          ends_by s p k at.events i.receiver free h gone track (told at.events c) refl;
    }
