-- One that is marked takes no value of a child.
use Rattle.std.proofs.Common.{◌≡◌, ℕ, Bool, true, false, not, List, [], ◌∷◌, Some, ◌⊎◌, inl, inr, is_some, refl, sym, ap, subst, ◌∙◌}
use Rattle.std.proofs.lemmas.List.{append-nil}
use Rattle.std.proofs.lemmas.Option.{same_Some}
use Rattle.std.specs.Prelude.{option_map}
use Rattle.cilk_laws_model.specs.labelled.Labelled.{Labelled}
use Rattle.cilk_laws_model.specs.model.Path.{Path, parent_of}
use Rattle.cilk_laws_model.specs.model.Instance.{Instance}
use Rattle.cilk_laws_model.specs.model.State.{instance_at}
use Rattle.cilk_laws_model.specs.model.Event.{Event, acted, spawned, delivered, returned, ended, trapped, moved}
use Rattle.cilk_laws_model.specs.model.Fate.{lives, was_aborted}
use Rattle.cilk_laws_model.specs.model.Pick.{step_of_instance}
use Rattle.cilk_laws_model.specs.model.Choice.{Choice}
use Rattle.cilk_laws_model.specs.model.Run.{Position, event_of, after}
use Rattle.cilk_laws_model.proofs.Entries.{same-is}
use Rattle.cilk_laws_model.proofs.Fates.{told_at}
use Rattle.cilk_laws_model.proofs.Sound.{Sound}
use Rattle.cilk_laws.specs.Moments.{is_delivery}
use Rattle.cilk_laws.specs.ChildLaws.{Further, TheMarkedTakeNothing}
use Rattle.cilk_laws.proofs.Runs.{Stepped, Rested, what_happens, each_later}
use Rattle.cilk_laws.proofs.Ways.{way_of}
use Rattle.cilk_laws.proofs.Taken.{takes_by}
use Rattle.cilk_laws.proofs.Silent.{marked_live, Struck, alive, dead, struck_next, further}

module _ (program : Labelled) (n : ℕ) (choices : List Choice) (choice : Choice) (at : Position) (known : after program n choices ≡ Some at)
    (p c : Path) (parent : parent_of c ≡ Some p) (struck : Struck at.events at.standing.state.instances p) where
  -- p lives and is not marked
  unmarked_not : (i : Instance) → instance_at at.standing.state.instances p ≡ Some i → i.aborted ≡ false → Struck at.events at.standing.state.instances p → ⊥
  unmarked_not i here unmarked (alive made fate is) =
      let both : Some true ≡ Some false = sym is ∙ ap (option_map (λ (x : Instance). x.aborted)) here ∙ ap (λ b. Some b) unmarked in cc
  unmarked_not i here unmarked (dead made l fate) =
      let both : was_aborted l ≡ lives = sym fate ∙ (told_at program n choices at known).alive p (ap is_some here) in cc

  delivered_by : (k : ℕ) → event_of program at.standing choice ≡ delivered c k → Stepped program at.standing choice ⊎ Rested program at.standing choice → ⊥
  delivered_by k h (inr rested) = let none : moved ≡ delivered c k = sym rested.did ∙ h in cc
  delivered_by k h (inl stepped) =
      let s = at.standing.state in
      let q = stepped.path in
      let i = stepped.instance in
      let takes = takes_by program s q i c k (step_of_instance program s q i) (way_of program s q i) (sym stepped.did ∙ h) in
      let waits = (told_at program n choices at known).waits q i.waiting (ap (option_map (λ (x : Instance). x.waiting)) stepped.lives) in
      let sound : Sound at.events q (takes.oldest ∷ takes.others) = subst (Sound at.events q) takes.taking.waits waits in
      let same : q ≡ p = same_Some q p (sym sound.0 ∙ ap parent_of takes.brings ∙ parent) in
      unmarked_not i (ap (instance_at s.instances) (sym same) ∙ stepped.lives) takes.taking.unmarked struck

  nothing_by : (e : Event) → event_of program at.standing choice ≡ e → (b : Bool) → is_delivery c e ≡ b → b ≡ false
  nothing_by e h false f = refl
  nothing_by (delivered x k) h true f = absurd (delivered_by k (h ∙ ap (λ y. delivered y k) (same-is x c f)) (what_happens program at.standing choice))
  nothing_by (returned x k) h true f = cc
  nothing_by (acted x k) h true f = cc
  nothing_by (spawned x k) h true f = cc
  nothing_by (ended x) h true f = cc
  nothing_by (trapped kind x k) h true f = cc
  nothing_by moved h true f = cc

  nothing_taken : is_delivery c (event_of program at.standing choice) ≡ false
  nothing_taken = nothing_by (event_of program at.standing choice) refl (is_delivery c (event_of program at.standing choice)) refl

pub the_marked_take_nothing : TheMarkedTakeNothing
the_marked_take_nothing program n front rest early late before later p is c parent =
    let f : Event → Bool = λ e. not (is_delivery c e) in
    let told_early = told_at program n front early before in
    let live = marked_live (instance_at early.standing.state.instances p) true is in
    (each_later program n (λ cs x. Struck x.events x.standing.state.instances p × Further early.events x.events f)
    (λ cs d x there free h. (
      struck_next program n cs d x there p free h.0,
      further early.events x.events f (event_of program x.standing d) (ap not (nothing_taken program n cs d x there p c parent h.0)) h.1,
    ))
    front rest early late before
    (alive (told_early.made p live) (told_early.alive p live) is, record { new = []; is = sym (append-nil early.events); each = refl })
    later).1
