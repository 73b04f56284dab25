-- What the events tell after an instance has ended.
use Rattle.std.proofs.Common.{◌≡◌, ℕ, ◌≤◌, Bool, true, false, not, ◌&&◌, List, ◌++◌, Option, Some, None, is_some, refl, sym, ap, subst, ◌∙◌}
use Rattle.std.proofs.lemmas.Option.{same_Some}
use Rattle.std.specs.Prelude.{option_map}
use Rattle.cilk_model.specs.Path.{Path, same_path, child_path, parent_of}
use Rattle.cilk_model.specs.Instance.{Delivery, Instance}
use Rattle.cilk_model.specs.State.{Instances, instance_at, is_live}
use Rattle.cilk_model.specs.Event.{Event}
use Rattle.cilk_model.specs.Fate.{Fate, lives, has_returned, was_made}
use Rattle.cilk_laws_model.proofs.Entries.{same-is, same-sym, children_at}
use Rattle.cilk_laws_model.proofs.Live.{Fewer}
use Rattle.cilk_laws_model.proofs.Family.{counted_live}
use Rattle.cilk_laws_model.proofs.Events.{told}
use Rattle.cilk_laws_model.proofs.Waits.{waits_at}
use Rattle.cilk_laws_model.proofs.Tales.{Brought}
use Rattle.cilk_laws_model.proofs.Sound.{Sound, sound_but, lacks_living, sound_brought}
use Rattle.cilk_laws_model.proofs.Told.{Told, FateBecomes, stays_alive, was_alive}

both_parts : (a l : Bool) → (not a && l) ≡ true → (a ≡ false) × (l ≡ true)
both_parts true l h = cc
both_parts false l h = (refl, h)

live_still : (a l : Bool) → a ≡ false → l ≡ true → (not a && l) ≡ true
live_still true l e h = cc
live_still false l e h = h

pub waits_live : (o : Option Instance) (ds : List Delivery) → option_map (λ (i : Instance). i.waiting) o ≡ Some ds → is_some o ≡ true
waits_live None ds h = cc
waits_live (Some i) ds h = refl

module _ (events after : List Event) (entries later : Instances) (p : Path) (fate : Fate) (dead : fate ≡ lives → ⊥)
    (here : is_live entries p ≡ true) (h : Told events entries) (becomes : FateBecomes p events after fate) (fewer : Fewer p entries later) where
  was_live : (x : Path) → is_live later x ≡ true → (same_path x p ≡ false) × (is_live entries x ≡ true)
  was_live x live = both_parts (same_path x p) (is_live entries x) (sym (fewer.live x) ∙ live)

  not_ended : (x : Path) → was_made events x ≡ false → same_path p x ≡ true → ⊥
  not_ended x none same =
      let both : true ≡ false = sym (h.made p here) ∙ ap (was_made events) (same-is p x same) ∙ none in cc

  counted_by : (x : Path) (j n : ℕ) → was_made events (child_path x j) ≡ true → children_at later x ≡ Some n → j ≤ n
  counted_by x j n made there =
      let was = was_live x (counted_live (instance_at later x) n there) in
      h.counted x j n made (sym (fewer.children x was.0) ∙ there)

  -- what is told of all but the deliveries
  ended_told : ((q : Path) (ds : List Delivery) → waits_at later q ≡ Some ds → Sound after q ds) → Told after later
  ended_told waits = record {
    made = λ x live. becomes.made x ∙ h.made x (was_live x live).1;
    alive = λ x live. let was = was_live x live in becomes.beside x (same-sym p x ∙ was.0) ∙ h.alive x was.1;
    living = λ x made alive.
        let was = was_alive p events after fate becomes x dead alive in
        fewer.live x ∙ live_still (same_path x p) (is_live entries x) (same-sym x p ∙ was.0) (h.living x (sym (becomes.made x) ∙ made) was.1);
    unmade = λ x none.
        let before = sym (becomes.made x) ∙ none in
        stays_alive p events after fate becomes x (not_ended x before) (h.unmade x before);
    counted = λ x j n made there. counted_by x j n (sym (becomes.made (child_path x j)) ∙ made) there;
    parents = λ x j made. becomes.made x ∙ h.parents x j (sym (becomes.made (child_path x j)) ∙ made);
    waits = waits;
  }

  -- of those that waited and wait still
  old_sound : (q : Path) (ds : List Delivery) → waits_at entries q ≡ Some ds → Sound after q ds
  old_sound q ds there =
      let old = h.waits q ds there in
      sound_but events after p q ds becomes.beside (lacks_living events p q ds (h.alive p here) old) old

  away : (q : Path) (ds : List Delivery) → waits_at later q ≡ Some ds → same_path q p ≡ false
  away q ds there = (was_live q (waits_live (instance_at later q) ds there)).0

  pub left_told : ((q : Path) → same_path q p ≡ false → waits_at later q ≡ waits_at entries q) → Told after later
  left_told beside = ended_told (λ q ds there. old_sound q ds (sym (beside q (away q ds there)) ∙ there))

  module _ (brought : Brought p entries later) (now : told after p ≡ has_returned) where
    parent_by : (r : Path) (ds : List Delivery) (o : Option (List Delivery)) → parent_of p ≡ Some r → waits_at entries r ≡ o
        → option_map (λ xs. xs ++ brought.new) o ≡ Some ds → Sound after r ds
    parent_by r ds None e is there = cc
    parent_by r ds (Some old) e is there =
        let same : old ++ brought.new ≡ ds = cc in
        subst (Sound after r) same
        (sound_brought after p r old brought.new brought.is_own (old_sound r old is) (lacks_living events p r old (h.alive p here) (h.waits r old is)) e now)

    parent_waits : (q r : Path) (ds : List Delivery) (b : Bool) → parent_of p ≡ Some r → same_path q r ≡ b → waits_at later q ≡ Some ds → Sound after q ds
    parent_waits q r ds true e same there =
        let is = same-is q r same in
        let at_r : waits_at later r ≡ Some ds = ap (waits_at later) (sym is) ∙ there in
        subst (λ x. Sound after x ds) (sym is) (parent_by r ds (waits_at entries r) e refl (sym (brought.parent r e (away r ds at_r)) ∙ at_r))
    parent_waits q r ds false e other there =
        old_sound q ds
        (sym (brought.beside q (away q ds there) (λ x f. let same : r ≡ x = same_Some _ _ (sym e ∙ f) in ap (same_path q) (sym same) ∙ other))
        ∙ there)

    waits_by : (q : Path) (ds : List Delivery) (o : Option Path) → parent_of p ≡ o → waits_at later q ≡ Some ds → Sound after q ds
    waits_by q ds None e there =
        old_sound q ds (sym (brought.beside q (away q ds there) (λ x f. let both : None ≡ Some x = sym e ∙ f in cc)) ∙ there)
    waits_by q ds (Some r) e there = parent_waits q r ds (same_path q r) e refl there

    pub brought_told : Told after later
    brought_told = ended_told (λ q ds there. waits_by q ds (parent_of p) refl there)
