-- What stays of each live instance over a step: what takes its value, its mark.
use Rattle.std.proofs.Common.{◌≡◌, ℤ, pos, ◌+◌, Bool, true, false, not, ◌&&◌, List, [], ◌∷◌, ◌++◌, Option, Some, None, is_some, refl, sym, ap, ◌∙◌}
use Rattle.std.proofs.Common.{if◌then◌else◌, ◌⊎◌, inl, inr}
use Rattle.std.specs.Prelude.{option_map}
use Rattle.cilk_laws_model.specs.labelled.Labelled.{Labelled, Numbered}
use Rattle.cilk_laws_model.specs.model.Values.{Cell}
use Rattle.cilk_laws_model.specs.model.Path.{Path, same_path, parent_of}
use Rattle.cilk_laws_model.specs.model.Instance.{Activation, Delivery, Instance, entered}
use Rattle.cilk_laws_model.specs.model.State.{Entry, Instances, State, instance_at, is_live, changed, without}
use Rattle.cilk_laws_model.specs.model.Change.{gone_on, put, above, resumed_to, resumed, with_deliveries, deliveries, after_return_to, after_marks}
use Rattle.cilk_laws_model.specs.model.Event.{acted}
use Rattle.cilk_laws_model.specs.model.Pick.{Step}
use Rattle.cilk_laws_model.specs.model.Run.{state_after, event_of_step}
use Rattle.cilk_laws_model.proofs.Entries.{same-is, at-changed_same, at-changed_other, at-without_other, live-changed, live-without, either_of, at-push}
use Rattle.cilk_laws_model.proofs.Root.{resumed_mark}
use Rattle.cilk_laws.proofs.Effects.{marking, sort_of}
use Rattle.cilk_laws.proofs.Ways.{Acting, Way, resting, parking, ending, stopping, going, writing, entering, quitting, answering, returning}
use Rattle.cilk_laws.proofs.Ways.{starting, printing, turning_lock, aborts, placing, letting_in}

-- f of the live instance at a path
abbrev pub field : {A : Type 0} → (Instance → A) → Instances → Path → Option A
field f entries q = option_map f (instance_at entries q)

-- f of what lives before and after
abbrev pub Kept : {A : Type 0} → (Instance → A) → Instances → Instances → Type 0
Kept f entries after = (q : Path) → is_live entries q ≡ true → is_live after q ≡ true → field f after q ≡ field f entries q

-- no change of one instance but a mark changes f
pub record Fixed {A : Type 0} (f : Instance → A) : Type 0 where
  pub gone : (z : ℤ) (i : Instance) → f (gone_on z i) ≡ f i
  pub filled : (cell : Cell) (z : ℤ) (i : Instance) → f (put cell z i) ≡ f i
  pub entered : (a : Activation) (i : Instance) → f (above a i) ≡ f i
  pub left : (i : Instance) → f (resumed i) ≡ f i
  pub parted : (ds : List Delivery) (i : Instance) → f (record i { waiting = ds }) ≡ f i
  pub counted : (i : Instance) → f (record (gone_on (pos 1) i) { spawned = true; children = i.children + 1 }) ≡ f i

-- an `abort` is acted
pub record AbortStep (s : State) (p : Path) (i : Instance) (step : Step) : Type 0 where
  pub head : Numbered
  pub acting : Acting s p i head
  pub sort : sort_of head.act ≡ marking
  pub did : event_of_step step ≡ acted p head.number
  pub leads : state_after s step ≡ after_marks s p i

module _ {A : Type 0} (f : Instance → A) where
  at_replaced : (p : Path) (i j : Instance) (entries : Instances) → instance_at entries p ≡ Some i → field f (changed p (λ _. j) entries) p ≡ Some (f j)
  at_replaced p i j entries live =
      ap (option_map f) (at-changed_same p (λ _. j) entries) ∙ ap (λ o. option_map f (option_map (λ (x : Instance). j) o)) live

  replaced_by : (p q : Path) (i j : Instance) (entries : Instances) → instance_at entries p ≡ Some i → f j ≡ f i → (b : Bool) → same_path q p ≡ b
      → field f (changed p (λ _. j) entries) q ≡ field f entries q
  replaced_by p q i j entries live same true e =
      ap (field f (changed p (λ _. j) entries)) (same-is q p e) ∙ at_replaced p i j entries live ∙ ap Some same
      ∙ sym (ap (option_map f) live) ∙ sym (ap (field f entries) (same-is q p e))
  replaced_by p q i j entries live same false e = ap (option_map f) (at-changed_other p q (λ _. j) entries e)

  pub field-replaced : (p : Path) (i j : Instance) (entries : Instances) → instance_at entries p ≡ Some i → f j ≡ f i → (q : Path)
      → field f (changed p (λ _. j) entries) q ≡ field f entries q
  field-replaced p i j entries live same q = replaced_by p q i j entries live same (same_path q p) refl

  mapped_by : (g : Instance → Instance) (o : Option Instance) → ((x : Instance) → f (g x) ≡ f x) → option_map f (option_map g o) ≡ option_map f o
  mapped_by g None h = refl
  mapped_by g (Some x) h = ap Some (h x)

  changed_by : (r q : Path) (g : Instance → Instance) (entries : Instances) → ((x : Instance) → f (g x) ≡ f x) → (b : Bool)
      → same_path q r ≡ b → field f (changed r g entries) q ≡ field f entries q
  changed_by r q g entries h true e =
      ap (field f (changed r g entries)) (same-is q r e) ∙ ap (option_map f) (at-changed_same r g entries)
      ∙ mapped_by g (instance_at entries r) h ∙ sym (ap (field f entries) (same-is q r e))
  changed_by r q g entries h false e = ap (option_map f) (at-changed_other r q g entries e)

  pub field-changed : (r : Path) (g : Instance → Instance) (entries : Instances) → ((x : Instance) → f (g x) ≡ f x) → (q : Path)
      → field f (changed r g entries) q ≡ field f entries q
  field-changed r g entries h q = changed_by r q g entries h (same_path q r) refl

  live_either : (o r : Option Instance) → is_some o ≡ true → option_map f (either_of o r) ≡ option_map f o
  live_either None r h = cc
  live_either (Some x) r h = refl

  pub field-pushed : (entries : Instances) (e : Entry) (q : Path) → is_live entries q ≡ true → field f (entries ++ e ∷ []) q ≡ field f entries q
  field-pushed entries e q live =
      ap (option_map f) (at-push entries e q) ∙ live_either (instance_at entries q) (if same_path e.path q then Some e.instance else None) live

  not_out : (a l : Bool) → (not a && l) ≡ true → a ≡ false
  not_out true l h = cc
  not_out false l h = refl

  without_kept : (p : Path) (entries : Instances) → Kept f entries (without p entries)
  without_kept p entries q live still =
      ap (option_map f) (at-without_other p q entries (not_out (same_path q p) (is_live entries q) (sym (live-without p entries q) ∙ still)))

  module _ (fixed : Fixed f) (program : Labelled) (s : State) (p : Path) (i : Instance) (lives : instance_at s.instances p ≡ Some i) where
    replaced : (j : Instance) → f j ≡ f i → Kept f s.instances (changed p (λ _. j) s.instances)
    replaced j same q live still = field-replaced p i j s.instances lives same q

    returned_kept : (z : ℤ) (o : Option Path) → Kept f s.instances (after_return_to o s p i z).instances
    returned_kept z None = without_kept p s.instances
    returned_kept z (Some r) = λ q live still.
        let g : Instance → Instance = with_deliveries (deliveries p z i.receiver i.aborted) in
        field-changed r g (without p s.instances) (λ x. fixed.parted _ x) q
        ∙ without_kept p s.instances q live (sym (live-changed r g (without p s.instances) q) ∙ still)

    started_kept : (j : Instance) (e : Entry) → f j ≡ f i → Kept f s.instances (changed p (λ _. j) s.instances ++ e ∷ [])
    started_kept j e same q live still =
        field-pushed (changed p (λ _. j) s.instances) e q (live-changed p (λ _. j) s.instances q ∙ live) ∙ field-replaced p i j s.instances lives same q

    pub way_kept : {step : Step} → Way program s p i step → Kept f s.instances (state_after s step).instances ⊎ AbortStep s p i step
    way_kept (resting unmarked) = inl (λ q live still. refl)
    way_kept (parking why) = inl (λ q live still. refl)
    way_kept (ending marked) = inl (without_kept p s.instances)
    way_kept (stopping n kind unmarked) = inl (λ q live still. refl)
    way_kept (going head z acting sort) = inl (replaced (gone_on z i) (fixed.gone z i))
    way_kept (writing head cell z acting sort) =
        inl (replaced (put cell z (gone_on (pos 1) i)) (fixed.filled cell z (gone_on (pos 1) i) ∙ fixed.gone (pos 1) i))
    way_kept (entering head awaits callee zs acting sort) =
        inl
        (replaced (above (entered program callee zs awaits) (gone_on (pos 1) i))
        (fixed.entered (entered program callee zs awaits) (gone_on (pos 1) i) ∙ fixed.gone (pos 1) i))
    way_kept (quitting head acting sort up) = inl (replaced (resumed i) (fixed.left i))
    way_kept (answering head cell z acting sort up) = inl (replaced (put cell z (resumed i)) (fixed.filled cell z (resumed i) ∙ fixed.left i))
    way_kept (returning head z acting sort alone) = inl (returned_kept z (parent_of p))
    way_kept (starting head receiver callee zs acting written) = inl (started_kept _ _ (fixed.counted i))
    way_kept (printing head bytes acting sort) = inl (replaced (gone_on (pos 1) i) (fixed.gone (pos 1) i))
    way_kept (turning_lock head k now acting sort) = inl (replaced (gone_on (pos 1) i) (fixed.gone (pos 1) i))
    way_kept (aborts head acting sort) = inr (record { head = head; acting = acting; sort = sort; did = refl; leads = refl })
    way_kept (placing oldest others cell z n taking) =
        let j : Instance = record i { waiting = others } in
        inl (replaced (put cell z j) (fixed.filled cell z j ∙ fixed.parted others i))
    way_kept (letting_in oldest others inlet ys zs n taking is) =
        let j : Instance = record i { waiting = others } in
        inl (replaced (above (entered program inlet zs None) j) (fixed.entered (entered program inlet zs None) j ∙ fixed.parted others i))

resumed_receiver : (i : Instance) (below : List Activation) → (resumed_to i below).receiver ≡ i.receiver
resumed_receiver i [] = refl
resumed_receiver i (caller ∷ below) = refl

pub fixed_mark : Fixed (λ (i : Instance). i.aborted)
fixed_mark = record {
  gone = λ z i. refl;
  filled = λ cell z i. refl;
  entered = λ a i. refl;
  left = λ i. resumed_mark i i.below;
  parted = λ ds i. refl;
  counted = λ i. refl;
}

pub fixed_receiver : Fixed (λ (i : Instance). i.receiver)
fixed_receiver = record {
  gone = λ z i. refl;
  filled = λ cell z i. refl;
  entered = λ a i. refl;
  left = λ i. resumed_receiver i i.below;
  parted = λ ds i. refl;
  counted = λ i. refl;
}
