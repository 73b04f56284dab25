-- Who is marked after a choice, and that the marked give no value.
use Rattle.std.proofs.Common.{◌≡◌, ◌≢◌, pos, ℕ, suc, ◌+◌, Bool, true, false, not, ◌&&◌, ◌||◌, List, [], ◌∷◌, ◌++◌, length, Option, Some, None, ◌⊎◌, inl}
use Rattle.std.proofs.Common.{inr, is_some, refl, sym, ap, subst, ◌∙◌, if◌then◌else◌}
use Rattle.std.specs.Prelude.{option_map}
use Rattle.std.specs.List.{list_all}
use Rattle.std.proofs.lemmas.Bool.{and_parts, cond-false, false_from_ne_true, or_cases, or_left, or_right, true≢false}
use Rattle.std.proofs.lemmas.List.{append-nil, append_assoc}
use Rattle.cilk_laws_model.specs.labelled.Labelled.{Labelled, Action, call, spawn, abort, return_with, return_nothing, close}
use Rattle.cilk_laws_model.specs.model.Path.{Path, same_path, child_path, is_below}
use Rattle.cilk_laws_model.specs.model.Instance.{Instance, started}
use Rattle.cilk_laws_model.specs.model.State.{Instances, State, instance_at, is_live, changed}
use Rattle.cilk_laws_model.specs.model.Change.{gone_on, after_marks, after_start}
use Rattle.cilk_laws_model.specs.model.Event.{Event, acted, spawned, delivered, returned, ended, trapped, moved}
use Rattle.cilk_laws_model.specs.model.Fate.{Fate, lives, has_returned, was_aborted, fate_by, is_birth, was_made}
use Rattle.cilk_laws_model.specs.model.Pick.{Step, waits, parks, goes_on, ends, spawns, step_of_instance}
use Rattle.cilk_laws_model.specs.model.Choice.{Choice}
use Rattle.cilk_laws_model.specs.model.Run.{Standing, Position, refusal_of, next_of, event_of, event_of_step, state_after, after, position_after}
use Rattle.cilk_laws_model.proofs.Entries.{same-is, same-self, live-changed, either_of, at-push}
use Rattle.cilk_laws_model.proofs.Rows.{step_row}
use Rattle.cilk_laws_model.proofs.Live.{Lives, row_lives}
use Rattle.cilk_laws_model.proofs.Events.{told, told-push, made-push}
use Rattle.cilk_laws_model.proofs.Told.{Told}
use Rattle.cilk_laws_model.proofs.Fates.{told_at}
use Rattle.cilk_laws.specs.Moments.{mark_at, gives_value}
use Rattle.cilk_laws.specs.ChildLaws.{TheNewAreUnmarked, MarkedBy, OnlyAnAbortMarks, Further, TheMarkedAreSilent}
use Rattle.cilk_laws.proofs.Runs.{Stepped, Rested, what_happens, led, possible_after, each_later}
use Rattle.cilk_laws.proofs.Effects.{marking, sort_of}
use Rattle.cilk_laws.proofs.Ways.{Way, resting, parking, ending, stopping, going, writing, entering, quitting, answering, returning, starting}
use Rattle.cilk_laws.proofs.Ways.{printing, turning_lock, aborts, placing, letting_in, way_of}
use Rattle.cilk_laws.proofs.Fields.{Kept, AbortStep, fixed_mark, way_kept}
use Rattle.cilk_laws.proofs.Marks.{returns_by, marks_below, spares}
use Rattle.cilk_laws.proofs.Once.{Finds, finds}

abbrev mark_of : Instance → Bool
mark_of i = i.aborted

-- one that is marked lives
pub marked_live : (o : Option Instance) (b : Bool) → option_map mark_of o ≡ Some b → is_some o ≡ true
marked_live None b h = cc
marked_live (Some i) b h = refl

pushed_mark : (o : Option Instance) (b : Bool) (x : Instance) → is_some o ≡ false → b ≡ true → x.aborted ≡ false
    → option_map mark_of (either_of o (if b then Some x else None)) ≡ Some false
pushed_mark (Some y) b x none same unmarked = cc
pushed_mark None true x none same unmarked = ap Some unmarked
pushed_mark None false x none same unmarked = cc

abbrev makes : Path → Step → Bool
makes c (spawns child t did) = same_path child c
makes c other = false

module _ (program : Labelled) (s : State) (p : Path) (i : Instance) where
  new_mark : (c : Path) (parent child : Instance) → is_live s.instances c ≡ false → child.aborted ≡ false
      → mark_at (changed p (λ _. parent) s.instances ++ record { path = c; instance = child } ∷ []) c ≡ Some false
  new_mark c parent child fresh unmarked =
      let before = changed p (λ _. parent) s.instances in
      ap (option_map mark_of) (at-push before (record { path = c; instance = child }) c)
      ∙ pushed_mark (instance_at before c) (same_path c c) child (live-changed p (λ _. parent) s.instances c ∙ fresh) (same-self c) unmarked

  -- a child that is born, as the step says or as its event does
  born_unmarked : (c : Path) (step : Step) → Way program s p i step → (makes c step || is_birth c (event_of_step step)) ≡ true
      → is_live s.instances c ≡ false → mark_at (state_after s step).instances c ≡ Some false
  born_unmarked c _ (starting head receiver callee zs acting written) h fresh =
      let child = child_path p (i.children + 1) in
      let is : child ≡ c = same-is child c (elim (or_cases (same_path child c) (same_path child c) h) [
        | inl e ↦ e
        | inr e ↦ e
      ]) in
      subst (λ x. mark_at (after_start program s p i receiver callee zs).instances x ≡ Some false) is
      (new_mark child (record (gone_on (pos 1) i) { spawned = true; children = i.children + 1 })
      (record (started program callee zs) { aborted = i.aborted; receiver = receiver }) (ap (is_live s.instances) is ∙ fresh) acting.unmarked)
  born_unmarked c _ (resting unmarked) h fresh = cc
  born_unmarked c _ (parking why) h fresh = cc
  born_unmarked c _ (ending is_marked) h fresh = cc
  born_unmarked c _ (stopping n kind unmarked) h fresh = cc
  born_unmarked c _ (going head z acting sort) h fresh = cc
  born_unmarked c _ (writing head cell z acting sort) h fresh = cc
  born_unmarked c _ (entering head awaits callee zs acting sort) h fresh = cc
  born_unmarked c _ (quitting head acting sort above) h fresh = cc
  born_unmarked c _ (answering head cell z acting sort above) h fresh = cc
  born_unmarked c _ (returning head z acting sort alone) h fresh = cc
  born_unmarked c _ (printing head bytes acting sort) h fresh = cc
  born_unmarked c _ (turning_lock head l now acting sort) h fresh = cc
  born_unmarked c _ (aborts head acting sort) h fresh = cc
  born_unmarked c _ (placing oldest others cell z n taking) h fresh = cc
  born_unmarked c _ (letting_in oldest others inlet ys zs n taking is) h fresh = cc

-- what was not made does not live
pub fresh_of : (events : List Event) (entries : Instances) (c : Path) → Told events entries → was_made events c ≡ false → is_live entries c ≡ false
fresh_of events entries c h unmade = false_from_ne_true (is_live entries c) (λ live. true≢false (sym (h.made c live) ∙ unmade))

new_by : (program : Labelled) (n : ℕ) (choices : List Choice) (choice : Choice) (at : Position) → after program n choices ≡ Some at
    → (c : Path) (k : ℕ) → event_of program at.standing choice ≡ spawned c k
    → Stepped program at.standing choice ⊎ Rested program at.standing choice → mark_at (next_of program at.standing choice).state.instances c ≡ Some false
new_by program n choices choice at known c k h (inl stepped) =
    let s = at.standing.state in
    let found : Finds at.events (spawned c k) = subst (Finds at.events) h (finds program n choices choice at known) in
    let fresh = fresh_of at.events s.instances c (told_at program n choices at known) found.0 in
    let taken = step_of_instance program s stepped.path stepped.instance in
    ap (λ (t : State). mark_at t.instances c) stepped.leads
    ∙ born_unmarked program s stepped.path stepped.instance c taken (way_of program s stepped.path stepped.instance)
    (or_right (makes c taken) _ (ap (is_birth c) (sym stepped.did ∙ h) ∙ same-self c)) fresh
new_by program n choices choice at known c k h (inr rested) = let none : moved ≡ spawned c k = sym rested.did ∙ h in cc

pub the_new_are_unmarked : TheNewAreUnmarked
the_new_are_unmarked program n choices choice at next leads c k h =
    ap (λ (x : Position). mark_at x.standing.state.instances c) (led program n choices choice at next leads).result
    ∙ new_by program n choices choice at leads.before c k h (what_happens program at.standing choice)

is_abort : (act : Action) → sort_of act ≡ marking → act ≡ abort
is_abort abort h = refl
is_abort (call what callee es) h = cc
is_abort (spawn taker callee es) h = cc
is_abort (return_with e) h = cc
is_abort return_nothing h = cc
is_abort close h = cc
is_abort other h = cc

-- a step of p, and what stands at q afterwards
module _ (program : Labelled) (s : State) (p : Path) (i : Instance) (here : instance_at s.instances p ≡ Some i) (q : Path) where
  abort_stays : (step : Step) → AbortStep s p i step → is_live s.instances q ≡ true → mark_at s.instances q ≡ Some true
      → mark_at (state_after s step).instances q ≡ Some true
  abort_stays step aborted live is = ap (λ (t : State). mark_at t.instances q) aborted.leads ∙ by (is_below p q) refl
    where
      by : (b : Bool) → is_below p q ≡ b → mark_at (after_marks s p i).instances q ≡ Some true
      by true e = marks_below s p i here q e live
      by false e = spares s p i here q e ∙ is

  stays_by : (step : Step) → Kept mark_of s.instances (state_after s step).instances ⊎ AbortStep s p i step → is_live s.instances q ≡ true
      → is_live (state_after s step).instances q ≡ true
      → mark_at s.instances q ≡ Some true → mark_at (state_after s step).instances q ≡ Some true
  stays_by step (inl kept) live still is = kept q live still ∙ is
  stays_by step (inr aborted) live still is = abort_stays step aborted live is

  -- a mark stays as long as its instance lives
  pub mark_stays : is_live (state_after s (step_of_instance program s p i)).instances q ≡ true → mark_at s.instances q ≡ Some true
      → mark_at (state_after s (step_of_instance program s p i)).instances q ≡ Some true
  mark_stays still is =
      stays_by (step_of_instance program s p i) (way_kept mark_of fixed_mark program s p i here (way_of program s p i))
      (marked_live (instance_at s.instances q) true is) still is

  -- where a mark is new
  abort_marked : (step : Step) → AbortStep s p i step → mark_at s.instances q ≢ Some true
      → mark_at (state_after s step).instances q ≡ Some true → (is_below p q ≡ true) × AbortStep s p i step
  abort_marked step aborted unmarked is = by (is_below p q) refl
    where
      by : (b : Bool) → is_below p q ≡ b → (is_below p q ≡ true) × AbortStep s p i step
      by true e = (e, aborted)
      by false e = absurd (unmarked (sym (spares s p i here q e) ∙ ap (λ (t : State). mark_at t.instances q) (sym aborted.leads) ∙ is))

  new_by_kept : (step : Step) → Kept mark_of s.instances (state_after s step).instances → Way program s p i step → Lives s p step
      → mark_at s.instances q ≢ Some true
      → mark_at (state_after s step).instances q ≡ Some true → ⊥
  new_by_kept step kept way alive unmarked is = by (is_live s.instances q) refl
    where
      still : is_live (state_after s step).instances q ≡ true
      still = marked_live (instance_at (state_after s step).instances q) true is

      unborn : (taken : Step) → Way program s p i taken → Lives s p taken → is_live s.instances q ≡ false
          → mark_at (state_after s taken).instances q ≡ Some true → ⊥
      unborn waits w l none m = let both : true ≡ false = sym (marked_live (instance_at s.instances q) true m) ∙ none in cc
      unborn parks w l none m = let both : true ≡ false = sym (marked_live (instance_at s.instances q) true m) ∙ none in cc
      unborn (goes_on t did) w l none m = let both : true ≡ false = sym (marked_live (instance_at t.instances q) true m) ∙ l.live q ∙ none in cc
      unborn (ends t did) w l none m =
          true≢false
          (sym (and_parts (not (same_path q p)) (is_live s.instances q) (sym (l.live q) ∙ marked_live (instance_at t.instances q) true m)).1 ∙ none)
      unborn (spawns c t did) w l none m = child_by (same_path c q) refl
        where
          child_by : (b : Bool) → same_path c q ≡ b → ⊥
          child_by true e =
              let now = ap (λ x. mark_at t.instances x) (same-is c q e) ∙ m in
              let was = born_unmarked program s p i c (spawns c t did) w (or_left (same_path c c) _ (same-self c))
              (ap (is_live s.instances) (same-is c q e) ∙ none) in
              let both : Some true ≡ Some false = sym now ∙ was in
              cc
          child_by false e =
              let both : true ≡ false = sym (marked_live (instance_at t.instances q) true m) ∙ l.live q ∙ ap (λ b. b || is_live s.instances q) e ∙ none in cc

      by : (b : Bool) → is_live s.instances q ≡ b → ⊥
      by true e = unmarked (sym (kept q e still) ∙ is)
      by false e = unborn step way alive e is

  new_mark_by : Kept mark_of s.instances (state_after s (step_of_instance program s p i)).instances
      ⊎ AbortStep s p i (step_of_instance program s p i) → mark_at s.instances q ≢ Some true
      → mark_at (state_after s (step_of_instance program s p i)).instances q ≡ Some true → (is_below p q ≡ true)
      × AbortStep s p i (step_of_instance program s p i)
  new_mark_by (inl kept) unmarked is =
      absurd (new_by_kept (step_of_instance program s p i) kept (way_of program s p i) (row_lives program s p i here (step_row program s p i)) unmarked is)
  new_mark_by (inr aborted) unmarked is = abort_marked (step_of_instance program s p i) aborted unmarked is

  pub newly_marked : mark_at s.instances q ≢ Some true → mark_at (state_after s (step_of_instance program s p i)).instances q ≡ Some true
      → (is_below p q ≡ true) × AbortStep s p i (step_of_instance program s p i)
  newly_marked = new_mark_by (way_kept mark_of fixed_mark program s p i here (way_of program s p i))

marked_by : (program : Labelled) (at : Standing) (choice : Choice) (q : Path) → mark_at at.state.instances q ≢ Some true
    → mark_at (next_of program at choice).state.instances q ≡ Some true
    → Stepped program at choice ⊎ Rested program at choice → MarkedBy program at choice q
marked_by program at choice q unmarked is (inl stepped) =
    let new = newly_marked program at.state stepped.path stepped.instance stepped.lives q unmarked
    (ap (λ (t : State). mark_at t.instances q) (sym stepped.leads) ∙ is) in
    let step = new.1 in
    record {
      path = stepped.path;
      acts = record {
        instance = stepped.instance;
        lives = stepped.lives;
        head = step.head;
        first = step.acting.first;
        is = is_abort step.head.act step.sort;
        did = stepped.did ∙ step.did;
      };
      above = new.0;
    }
marked_by program at choice q unmarked is (inr rested) = absurd (unmarked (ap (λ (t : State). mark_at t.instances q) (sym rested.leads) ∙ is))

pub only_an_abort_marks : OnlyAnAbortMarks
only_an_abort_marks program n choices choice at next leads q unmarked is =
    marked_by program at.standing choice q unmarked
    (ap (λ (x : Position). mark_at x.standing.state.instances q) (sym (led program n choices choice at next leads).result) ∙ is)
    (what_happens program at.standing choice)

-- a mark stays over a choice, as long as its instance lives
stays_at : (program : Labelled) (at : Standing) (choice : Choice) (q : Path) → is_live (next_of program at choice).state.instances q ≡ true
    → mark_at at.state.instances q ≡ Some true
    → Stepped program at choice ⊎ Rested program at choice → mark_at (next_of program at choice).state.instances q ≡ Some true
stays_at program at choice q still is (inl stepped) =
    ap (λ (t : State). mark_at t.instances q) stepped.leads
    ∙ mark_stays program at.state stepped.path stepped.instance stepped.lives q (ap (λ (t : State). is_live t.instances q) (sym stepped.leads) ∙ still) is
stays_at program at choice q still is (inr rested) = ap (λ (t : State). mark_at t.instances q) rested.leads ∙ is

-- what returns is not marked
unmarked_returns : (program : Labelled) (at : Standing) (choice : Choice) (q : Path) (k : ℕ) → event_of program at choice ≡ returned q k
    → Stepped program at choice ⊎ Rested program at choice
    → mark_at at.state.instances q ≡ Some false
unmarked_returns program at choice q k h (inl stepped) =
    let s = at.state in
    let is = returns_by program s stepped.path stepped.instance q k (step_of_instance program s stepped.path stepped.instance)
    (way_of program s stepped.path stepped.instance) (sym stepped.did ∙ h) in
    ap (mark_at s.instances) (sym is.same) ∙ ap (option_map mark_of) stepped.lives ∙ ap Some is.acting.unmarked
unmarked_returns program at choice q k h (inr rested) = let none : moved ≡ returned q k = sym rested.did ∙ h in cc

-- marked and alive, or ended after an `abort`
pub data Struck (events : List Event) (entries : Instances) (q : Path) : Type 0 where
  alive : was_made events q ≡ true → told events q ≡ lives → mark_at entries q ≡ Some true → Struck events entries q
  dead : was_made events q ≡ true → (k : ℕ) → told events q ≡ was_aborted k → Struck events entries q

-- what gives no value of q leaves its fate, or ends it
fate_quiet : (k : ℕ) (q : Path) (e : Event) (fate : Fate) → gives_value q e ≡ false → (fate_by k q e fate ≡ fate) ⊎ (fate_by k q e fate ≡ was_aborted k)
fate_quiet k q (acted x n) fate h = inl refl
fate_quiet k q (spawned x n) fate h = inl refl
fate_quiet k q (delivered x n) fate h = inl (cond-false (same_path x q) _ _ h)
fate_quiet k q (returned x n) fate h = inl (cond-false (same_path x q) _ _ h)
fate_quiet k q (ended x) fate h = by (same_path x q)
  where
    by : (b : Bool) → ((if b then was_aborted k else fate) ≡ fate) ⊎ ((if b then was_aborted k else fate) ≡ was_aborted k)
    by true = inr refl
    by false = inl refl
fate_quiet k q (trapped kind x n) fate h = inl refl
fate_quiet k q moved fate h = inl refl

pub made_still : (events : List Event) (e : Event) (q : Path) → was_made events q ≡ true → was_made (events ++ e ∷ []) q ≡ true
made_still events e q made = made-push q events e ∙ ap (λ b. b || is_birth q e) made

-- a path that is struck gives no value now
module _ (program : Labelled) (n : ℕ) (choices : List Choice) (choice : Choice) (at : Position) (known : after program n choices ≡ Some at) (q : Path) where
  abbrev did : Event
  did = event_of program at.standing choice

  returned_not : (k : ℕ) → did ≡ returned q k → Struck at.events at.standing.state.instances q → ⊥
  returned_not k h (alive made fate is) =
      let both : Some true ≡ Some false = sym is ∙ unmarked_returns program at.standing choice q k h (what_happens program at.standing choice) in cc
  returned_not k h (dead made l fate) =
      let found : told at.events q ≡ lives = subst (Finds at.events) h (finds program n choices choice at known) in
      let both : was_aborted l ≡ lives = sym fate ∙ found in cc

  delivered_not : (k : ℕ) → did ≡ delivered q k → Struck at.events at.standing.state.instances q → ⊥
  delivered_not k h (alive made fate is) =
      let found : told at.events q ≡ has_returned = subst (Finds at.events) h (finds program n choices choice at known) in
      let both : lives ≡ has_returned = sym fate ∙ found in cc
  delivered_not k h (dead made l fate) =
      let found : told at.events q ≡ has_returned = subst (Finds at.events) h (finds program n choices choice at known) in
      let both : was_aborted l ≡ has_returned = sym fate ∙ found in cc

  quiet_by : (e : Event) → did ≡ e → Struck at.events at.standing.state.instances q → (b : Bool) → gives_value q e ≡ b → b ≡ false
  quiet_by e h struck false f = refl
  quiet_by (returned x k) h struck true f = absurd (returned_not k (h ∙ ap (λ y. returned y k) (same-is x q f)) struck)
  quiet_by (delivered x k) h struck true f = absurd (delivered_not k (h ∙ ap (λ y. delivered y k) (same-is x q f)) struck)
  quiet_by (acted x k) h struck true f = cc
  quiet_by (spawned x k) h struck true f = cc
  quiet_by (ended x) h struck true f = cc
  quiet_by (trapped kind x k) h struck true f = cc
  quiet_by moved h struck true f = cc

  quiet : Struck at.events at.standing.state.instances q → gives_value q did ≡ false
  quiet struck = quiet_by did refl struck (gives_value q did) refl

  module _ (free : refusal_of program at.standing choice ≡ None) where
    next_told : Told (at.events ++ did ∷ []) (next_of program at.standing choice).state.instances
    next_told = told_at program n (choices ++ choice ∷ []) (position_after program at choice) (possible_after program n choices choice at known free)

    struck_by : Struck at.events at.standing.state.instances q
        → (fate_by (suc (length at.events)) q did (told at.events q) ≡ told at.events q)
        ⊎ (fate_by (suc (length at.events)) q did (told at.events q) ≡ was_aborted (suc (length at.events)))
        → Struck (at.events ++ did ∷ []) (next_of program at.standing choice).state.instances q
    struck_by (alive made fate is) (inl same) =
        let still = made_still at.events did q made in
        let now = told-push q at.events did ∙ same ∙ fate in
        alive still now (stays_at program at.standing choice q (next_told.living q still now) is (what_happens program at.standing choice))
    struck_by (alive made fate is) (inr ends_it) = dead (made_still at.events did q made) (suc (length at.events)) (told-push q at.events did ∙ ends_it)
    struck_by (dead made l fate) (inl same) = dead (made_still at.events did q made) l (told-push q at.events did ∙ same ∙ fate)
    struck_by (dead made l fate) (inr ends_it) = dead (made_still at.events did q made) (suc (length at.events)) (told-push q at.events did ∙ ends_it)

    pub struck_next : Struck at.events at.standing.state.instances q → Struck (at.events ++ did ∷ []) (next_of program at.standing choice).state.instances q
    struck_next struck = struck_by struck (fate_quiet (suc (length at.events)) q did (told at.events q) (quiet struck))

all_push : (f : Event → Bool) (events : List Event) (e : Event) → list_all f events ≡ true → f e ≡ true → list_all f (events ++ e ∷ []) ≡ true
all_push f [] e h k = ap (λ b. b && true) k
all_push f (x ∷ events) e h k =
    let parts = and_parts (f x) (list_all f events) h in
    ap (λ b. b && list_all f (events ++ e ∷ [])) parts.0 ∙ all_push f events e parts.1 k

pub further : (before after : List Event) (f : Event → Bool) (e : Event) → f e ≡ true → Further before after f → Further before (after ++ e ∷ []) f
further before after f e h k = record {
  new = k.new ++ e ∷ [];
  is = ap (λ es. es ++ e ∷ []) k.is ∙ append_assoc before k.new (e ∷ []);
  each = all_push f k.new e k.each h;
}

pub the_marked_are_silent : TheMarkedAreSilent
the_marked_are_silent program n front rest early late before later p is =
    let f : Event → Bool = λ e. not (gives_value p e) in
    let told_early = told_at program n front early before in
    let live = marked_live (instance_at early.standing.state.instances p) true is in
    (each_later program n (λ cs x. Struck x.events x.standing.state.instances p × Further early.events x.events f)
    (λ cs c x there free h. (
      struck_next program n cs c x there p free h.0,
      further early.events x.events f (event_of program x.standing c) (ap not (quiet program n cs c x there p h.0)) h.1,
    ))
    front rest early late before
    (alive (told_early.made p live) (told_early.alive p live) is, record { new = []; is = sym (append-nil early.events); each = refl })
    later).1
