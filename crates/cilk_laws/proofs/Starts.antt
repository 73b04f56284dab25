-- A delivery that an inlet takes starts that inlet.
use Rattle.std.proofs.Common.{◌≡◌, ℕ, ℤ, true, ◌||◌, List, [], ◌∷◌, Some, None, ◌⊎◌, inl, inr, sym, ap, subst, ◌∙◌, if◌then◌else◌}
use Rattle.std.specs.Prelude.{option_map}
use Rattle.std.proofs.lemmas.Bool.{and_parts}
use Rattle.std.proofs.lemmas.Option.{same_Some}
use Rattle.cilk_laws_model.specs.labelled.Labelled.{Labelled}
use Rattle.cilk_laws_model.specs.labelled.Items.{head_of}
use Rattle.cilk_laws_model.specs.model.Path.{Path, parent_of}
use Rattle.cilk_laws_model.specs.model.Instance.{through, Delivery, Instance, entered}
use Rattle.cilk_laws_model.specs.model.State.{State, instance_at, is_empty}
use Rattle.cilk_laws_model.specs.model.Change.{above, head_waits, at_boundary, after_inlet}
use Rattle.cilk_laws_model.specs.model.Event.{delivered, moved}
use Rattle.cilk_laws_model.specs.model.Pick.{step_by_receiver, step_at_boundary, step_by_head, step_of_aborted, step_of_instance}
use Rattle.cilk_laws_model.specs.model.Choice.{Choice}
use Rattle.cilk_laws_model.specs.model.Run.{Position, next_of, event_of, state_after, after}
use Rattle.cilk_laws_model.proofs.Ground.{empty_is}
use Rattle.cilk_laws_model.proofs.Entries.{at-changed_same}
use Rattle.cilk_laws_model.proofs.Fates.{told_at}
use Rattle.cilk_laws_model.proofs.Sound.{Sound}
use Rattle.cilk_laws.specs.Calls.{action_suits, calls_suit}
use Rattle.cilk_laws.specs.Inlets.{in_inlet, HasStarted}
use Rattle.cilk_laws.specs.ChildLaws.{IsTaken, EachInletStarts, OnlyProceduresSync}
use Rattle.cilk_laws.proofs.Runs.{Stepped, Rested, what_happens, led}
use Rattle.cilk_laws.proofs.Ways.{Taking, way_of}
use Rattle.cilk_laws.proofs.Taken.{takes_by}
use Rattle.cilk_laws.proofs.Suited.{head_suits, let_in, each_suits}
use Rattle.cilk_check.specs.FormFinds.{is_inlet}
use Rattle.cilk_machine.specs.plans.effects.Known.{owner_of}

first_is : {A : Type 0} (x y : A) (xs ys : List A) → x ∷ xs ≡ y ∷ ys → x ≡ y
first_is x y xs ys e = cc

-- the step that is taken there
inlet_step : (program : Labelled) (s : State) (p : Path) (i : Instance) (oldest : Delivery) (others : List Delivery) (inlet m : ℕ)
    (ys : List ℤ) → Taking i oldest others → oldest.receiver ≡ through inlet ys m
    → state_after s (step_of_instance program s p i) ≡ after_inlet program s p i others inlet (oldest.value ∷ ys)
inlet_step program s p i oldest others inlet m ys taking is =
    ap (state_after s)
    (ap
    (λ b. if b then step_of_aborted s p else (if at_boundary i then step_at_boundary program s p i i.waiting else step_by_head program s p i
    (head_of i.top.items))) taking.unmarked
    ∙ ap (λ b. if b then step_at_boundary program s p i i.waiting else step_by_head program s p i (head_of i.top.items)) taking.boundary
    ∙ ap (step_at_boundary program s p i) taking.waits
    ∙ ap (step_by_receiver program s p i others oldest.child oldest.value) is)

has_started : (program : Labelled) (s : State) (p : Path) (i : Instance) → instance_at s.instances p ≡ Some i
    → (others : List Delivery) (inlet : ℕ) (zs : List ℤ) → at_boundary i ≡ true
    → is_inlet (owner_of program inlet) ≡ true → HasStarted program p i (after_inlet program s p i others inlet zs).instances
has_started program s p i here others inlet zs boundary is =
    let later : Instance = above (entered program inlet zs None) (record i { waiting = others }) in
    let alone = empty_is i.below (and_parts (is_empty i.below) (i.spawned || head_waits i (head_of i.top.items)) boundary).0 in
    let below : later.below ≡ i.top ∷ [] = ap (λ bs. i.top ∷ bs) alone in
    record {
      later = later;
      lives = at-changed_same p (λ _. later) s.instances ∙ ap (option_map (λ (x : Instance). later)) here;
      runs = ap (λ bs. in_inlet program (record later { below = bs })) below ∙ is;
      below = below;
    }

stepped_starts : (program : Labelled) → calls_suit program ≡ true → (n : ℕ) (choices : List Choice) (choice : Choice) (at : Position)
    → after program n choices ≡ Some at → (c : Path) (k : ℕ)
    → event_of program at.standing choice ≡ delivered c k → (taken : IsTaken at.standing c) (inlet m : ℕ) (ys : List ℤ)
    → taken.delivery.receiver ≡ through inlet ys m
    → Stepped program at.standing choice ⊎ Rested program at.standing choice
    → HasStarted program taken.parent taken.instance (next_of program at.standing choice).state.instances
stepped_starts program suits n choices choice at known c k h taken inlet m ys is (inr rested) = let none : moved ≡ delivered c k = sym rested.did ∙ h in cc
stepped_starts program suits n choices choice at known c k h taken inlet m ys is (inl stepped) =
    let s = at.standing.state in
    let p = stepped.path in
    let i = stepped.instance in
    let takes = takes_by program s p i c k (step_of_instance program s p i) (way_of program s p i) (sym stepped.did ∙ h) in
    let waits = (told_at program n choices at known).waits p i.waiting (ap (option_map (λ (x : Instance). x.waiting)) stepped.lives) in
    let sound : Sound at.events p (takes.oldest ∷ takes.others) = subst (Sound at.events p) takes.taking.waits waits in
    let parent : p ≡ taken.parent = same_Some p taken.parent (sym sound.0 ∙ ap parent_of takes.brings ∙ taken.is_parent) in
    let same : i ≡ taken.instance = same_Some i taken.instance (sym stepped.lives ∙ ap (instance_at s.instances) parent ∙ taken.lives) in
    let first : takes.oldest ≡ taken.delivery =
    first_is takes.oldest taken.delivery takes.others taken.others (sym takes.taking.waits ∙ ap (λ (x : Instance). x.waiting) same ∙ taken.first) in
    let receives : takes.oldest.receiver ≡ through inlet ys m = ap (λ (d : Delivery). d.receiver) first ∙ is in
    let owned = let_in program suits s p i stepped.lives (each_suits program suits n choices at known) takes.oldest takes.others inlet ys
    (takes.oldest.value ∷ ys) m takes.taking receives in
    let started = has_started program s p i stepped.lives takes.others inlet (takes.oldest.value ∷ ys) takes.taking.boundary owned in
    subst (λ (x : State). HasStarted program taken.parent taken.instance x.instances)
    (sym (stepped.leads ∙ inlet_step program s p i takes.oldest takes.others inlet m ys takes.taking receives))
    (subst (λ x. HasStarted program taken.parent x (after_inlet program s p i takes.others inlet (takes.oldest.value ∷ ys)).instances) same
    (subst (λ x. HasStarted program x i (after_inlet program s p i takes.others inlet (takes.oldest.value ∷ ys)).instances) parent started))

pub each_inlet_starts : EachInletStarts
each_inlet_starts program suits n choices choice at next leads c k h taken inlet m ys is =
    subst (λ (x : Position). HasStarted program taken.parent taken.instance x.standing.state.instances)
    (sym (led program n choices choice at next leads).result)
    (stepped_starts program suits n choices choice at leads.before c k h taken inlet m ys is (what_happens program at.standing choice))

pub only_procedures_sync : OnlyProceduresSync
only_procedures_sync program suits n choices choice at known p acts =
    let i = acts.instance in
    let suited = each_suits program suits n choices at known p i acts.lives in
    empty_is i.below
    (ap (action_suits program (is_empty i.below)) (sym acts.is) ∙ head_suits program i.top i.below acts.head suited.stack acts.first)
