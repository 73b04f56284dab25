-- What an `abort` does, and what it leaves.
use Rattle.std.proofs.Common.{◌≡◌, ℕ, ℤ, pos, true, false, List, Option, Some, None, ◌⊎◌, inl, inr, is_some, refl, sym, ap, subst, ◌∙◌}
use Rattle.std.proofs.lemmas.Option.{same_Some}
use Rattle.std.specs.Prelude.{option_map}
use Rattle.cilk_laws_model.specs.labelled.Labelled.{Labelled, Numbered, Action, abort}
use Rattle.cilk_laws_model.specs.labelled.Items.{head_of}
use Rattle.cilk_laws_model.specs.model.Path.{Path, is_below}
use Rattle.cilk_laws_model.specs.model.Instance.{Instance}
use Rattle.cilk_laws_model.specs.model.State.{Instances, State, instance_at, is_live, changed, is_empty}
use Rattle.cilk_laws_model.specs.model.Change.{gone_on, after_marks, after_return}
use Rattle.cilk_laws_model.specs.model.Event.{acted, returned, moved}
use Rattle.cilk_laws_model.specs.model.Pick.{Step, step_of_instance}
use Rattle.cilk_laws_model.specs.model.Choice.{Choice}
use Rattle.cilk_laws_model.specs.model.Run.{Standing, Position, next_of, event_of_step, state_after}
use Rattle.cilk_laws_model.proofs.Entries.{live-changed}
use Rattle.cilk_laws_model.proofs.Lookups.{marked, at-marked_below, at-marked_beside}
use Rattle.cilk_laws_model.proofs.Waits.{still-replaced, still-marked}
use Rattle.cilk_laws.specs.Moments.{mark_at, deliveries_at, Acts}
use Rattle.cilk_laws.specs.ChildLaws.{Leads, AbortMarks, AbortSparesOthers, AbortKeepsDeliveries}
use Rattle.cilk_laws.proofs.Runs.{Stepped, Rested, what_happens, led}
use Rattle.cilk_laws.proofs.Effects.{Sort, plain, calling, marking, leaving, sort_of}
use Rattle.cilk_laws.proofs.Fields.{field-replaced}
use Rattle.cilk_laws.proofs.Ways.{Acting, Way, resting, parking, ending, stopping, going, writing, entering, quitting, answering, returning}
use Rattle.cilk_laws.proofs.Ways.{starting, printing, turning_lock, aborts, placing, letting_in, way_of}

-- a step whose event is that an action was acted
pub record Acted (s : State) (p : Path) (i : Instance) (step : Step) (q : Path) : Type 0 where
  pub same : p ≡ q
  pub head : Numbered
  pub acting : Acting s p i head
  pub marks : sort_of head.act ≡ marking → state_after s step ≡ after_marks s p i

no_marks : {A : Type 0} (act : Action) (sort : Sort) → sort_of act ≡ sort → (sort ≡ marking → ⊥) → sort_of act ≡ marking → A
no_marks act sort is other h = absurd (other (sym is ∙ h))

pub acted_by : (program : Labelled) (s : State) (p : Path) (i : Instance) (q : Path) (k : ℕ) (step : Step) → Way program s p i step
    → event_of_step step ≡ acted q k → Acted s p i step q
acted_by program s p i q k _ (going head z acting sort) h =
    record { same = cc; head = head; acting = acting; marks = no_marks head.act plain sort (λ e. cc) }
acted_by program s p i q k _ (writing head cell z acting sort) h =
    record { same = cc; head = head; acting = acting; marks = no_marks head.act plain sort (λ e. cc) }
acted_by program s p i q k _ (entering head awaits callee zs acting sort) h =
    record { same = cc; head = head; acting = acting; marks = no_marks head.act (calling callee) sort (λ e. cc) }
acted_by program s p i q k _ (quitting head acting sort above) h =
    record { same = cc; head = head; acting = acting; marks = no_marks head.act leaving sort (λ e. cc) }
acted_by program s p i q k _ (answering head cell z acting sort above) h =
    record { same = cc; head = head; acting = acting; marks = no_marks head.act leaving sort (λ e. cc) }
acted_by program s p i q k _ (printing head bytes acting sort) h =
    record { same = cc; head = head; acting = acting; marks = no_marks head.act plain sort (λ e. cc) }
acted_by program s p i q k _ (turning_lock head l now acting sort) h =
    record { same = cc; head = head; acting = acting; marks = no_marks head.act plain sort (λ e. cc) }
acted_by program s p i q k _ (aborts head acting sort) h = record { same = cc; head = head; acting = acting; marks = λ e. refl }
acted_by program s p i q k _ (resting unmarked) h = cc
acted_by program s p i q k _ (parking why) h = cc
acted_by program s p i q k _ (ending is_marked) h = cc
acted_by program s p i q k _ (stopping n kind unmarked) h = cc
acted_by program s p i q k _ (returning head z acting sort alone) h = cc
acted_by program s p i q k _ (starting head receiver callee zs acting spawns) h = cc
acted_by program s p i q k _ (placing oldest others cell z n taking) h = cc
acted_by program s p i q k _ (letting_in oldest others inlet ys zs n taking is) h = cc

-- a step whose event is that an instance returned
pub record Returns (s : State) (p : Path) (i : Instance) (step : Step) (q : Path) : Type 0 where
  pub same : p ≡ q
  pub head : Numbered
  pub acting : Acting s p i head
  pub sort : sort_of head.act ≡ leaving
  pub alone : is_empty i.below ≡ true
  pub value : ℤ
  pub leads : state_after s step ≡ after_return s p i value

pub returns_by : (program : Labelled) (s : State) (p : Path) (i : Instance) (q : Path) (k : ℕ) (step : Step) → Way program s p i step
    → event_of_step step ≡ returned q k → Returns s p i step q
returns_by program s p i q k _ (returning head z acting sort alone) h =
    record { same = cc; head = head; acting = acting; sort = sort; alone = alone; value = z; leads = refl }
returns_by program s p i q k _ (resting unmarked) h = cc
returns_by program s p i q k _ (parking why) h = cc
returns_by program s p i q k _ (ending is_marked) h = cc
returns_by program s p i q k _ (stopping n kind unmarked) h = cc
returns_by program s p i q k _ (going head z acting sort) h = cc
returns_by program s p i q k _ (writing head cell z acting sort) h = cc
returns_by program s p i q k _ (entering head awaits callee zs acting sort) h = cc
returns_by program s p i q k _ (quitting head acting sort above) h = cc
returns_by program s p i q k _ (answering head cell z acting sort above) h = cc
returns_by program s p i q k _ (starting head receiver callee zs acting written) h = cc
returns_by program s p i q k _ (printing head bytes acting sort) h = cc
returns_by program s p i q k _ (turning_lock head l now acting sort) h = cc
returns_by program s p i q k _ (aborts head acting sort) h = cc
returns_by program s p i q k _ (placing oldest others cell z n taking) h = cc
returns_by program s p i q k _ (letting_in oldest others inlet ys zs n taking is) h = cc

-- what is known as p acts
pub record Stood (program : Labelled) (at : Standing) (choice : Choice) (p : Path) (i : Instance) (head : Numbered) : Type 0 where
  pub acting : Acting at.state p i head
  pub marks : sort_of head.act ≡ marking → (next_of program at choice).state ≡ after_marks at.state p i

stood_at : (program : Labelled) (at : Standing) (choice : Choice) (p q : Path) (i j : Instance) (head first : Numbered) → p ≡ q → i ≡ j → head ≡ first
    → Stood program at choice p i head → Stood program at choice q j first
stood_at program at choice p q i j head first e f g h =
    subst (λ x. Stood program at choice q j x) g (subst (λ x. Stood program at choice q x head) f (subst (λ x. Stood program at choice x i head) e h))

stepped_stood : (program : Labelled) (at : Standing) (choice : Choice) (p : Path) (act : Action) (acts : Acts program at choice p act)
    → Stepped program at choice ⊎ Rested program at choice
    → Stood program at choice p acts.instance acts.head
stepped_stood program at choice p act acts (inl stepped) =
    let q = stepped.path in
    let j = stepped.instance in
    let is = acted_by program at.state q j p acts.head.number (step_of_instance program at.state q j) (way_of program at.state q j)
    (sym stepped.did ∙ acts.did) in
    let same : j ≡ acts.instance = same_Some j acts.instance (sym stepped.lives ∙ ap (instance_at at.state.instances) is.same ∙ acts.lives) in
    let heads : is.head ≡ acts.head = same_Some is.head acts.head (sym is.acting.first ∙ ap (λ (x : Instance). head_of x.top.items) same ∙ acts.first) in
    stood_at program at choice q p j acts.instance is.head acts.head is.same same heads
    (record { acting = is.acting; marks = λ e. stepped.leads ∙ is.marks e })
stepped_stood program at choice p act acts (inr rested) = let none : moved ≡ acted p acts.head.number = sym rested.did ∙ acts.did in cc

pub stood : (program : Labelled) (at : Standing) (choice : Choice) (p : Path) (act : Action) (acts : Acts program at choice p act)
    → Stood program at choice p acts.instance acts.head
stood program at choice p act acts = stepped_stood program at choice p act acts (what_happens program at choice)

-- where an `abort` leads
marks_to : (program : Labelled) (n : ℕ) (choices : List Choice) (choice : Choice) (at next : Position)
    → Leads program n choices choice at next → (p : Path) (acts : Acts program at.standing choice p abort)
    → next.standing.state ≡ after_marks at.standing.state p acts.instance
marks_to program n choices choice at next leads p acts =
    ap (λ (x : Position). x.standing.state) (led program n choices choice at next leads).result
    ∙ (stood program at.standing choice p abort acts).marks (ap sort_of acts.is)

module _ (s : State) (p : Path) (i : Instance) (lives : instance_at s.instances p ≡ Some i) where
  abbrev going_on : Instances
  going_on = changed p (λ _. gone_on (pos 1) i) s.instances

  marked_of : (o : Option Instance) → is_some o ≡ true → option_map (λ (x : Instance). x.aborted) (option_map marked o) ≡ Some true
  marked_of None h = cc
  marked_of (Some x) h = refl

  pub marks_below : (q : Path) → is_below p q ≡ true → is_live s.instances q ≡ true → mark_at (after_marks s p i).instances q ≡ Some true
  marks_below q below live =
      ap (option_map (λ (x : Instance). x.aborted)) (at-marked_below p q going_on below)
      ∙ marked_of (instance_at going_on q) (live-changed p (λ _. gone_on (pos 1) i) s.instances q ∙ live)

  pub spares : (q : Path) → is_below p q ≡ false → mark_at (after_marks s p i).instances q ≡ mark_at s.instances q
  spares q beside =
      ap (option_map (λ (x : Instance). x.aborted)) (at-marked_beside p q going_on beside)
      ∙ field-replaced (λ (x : Instance). x.aborted) p i (gone_on (pos 1) i) s.instances lives refl q

  pub keeps_waiting : (q : Path) → deliveries_at (after_marks s p i).instances q ≡ deliveries_at s.instances q
  keeps_waiting q = still-marked p going_on q ∙ still-replaced p i (gone_on (pos 1) i) s.instances lives refl q

pub abort_marks : AbortMarks
abort_marks program n choices choice at next leads p acts q below live =
    ap (λ (s : State). mark_at s.instances q) (marks_to program n choices choice at next leads p acts)
    ∙ marks_below at.standing.state p acts.instance acts.lives q below live

pub abort_spares_others : AbortSparesOthers
abort_spares_others program n choices choice at next leads p acts q beside =
    ap (λ (s : State). mark_at s.instances q) (marks_to program n choices choice at next leads p acts)
    ∙ spares at.standing.state p acts.instance acts.lives q beside

pub abort_keeps_deliveries : AbortKeepsDeliveries
abort_keeps_deliveries program n choices choice at next leads p acts q =
    ap (λ (s : State). deliveries_at s.instances q) (marks_to program n choices choice at next leads p acts)
    ∙ keeps_waiting at.standing.state p acts.instance acts.lives q
