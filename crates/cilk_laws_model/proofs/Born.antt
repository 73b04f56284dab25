-- What the events tell after a child was born.
use Rattle.std.proofs.Common.{◌≡◌, ℕ, ◌+◌, ◌≤◌, Bool, true, false, ◌||◌, List, [], ◌∷◌, ◌++◌, length, length-append, Some, ◌⊎◌, inl, inr, refl, sym}
use Rattle.std.proofs.Common.{ap, subst, ◌∙◌, arith}
use Rattle.std.proofs.lemmas.Option.{same_Some}
use Rattle.std.proofs.lemmas.Bool.{or_cases, or_left, or_right, or_parts}
use Rattle.cilk_model.specs.Path.{Path, same_path, child_path, parent_of}
use Rattle.cilk_model.specs.Instance.{Delivery}
use Rattle.cilk_model.specs.State.{Instances, instance_at, is_live}
use Rattle.cilk_model.specs.Event.{Event, spawned}
use Rattle.cilk_model.specs.Fate.{lives, was_made}
use Rattle.cilk_laws_model.proofs.Entries.{same-is, same-self, children_at}
use Rattle.cilk_laws_model.proofs.Live.{More}
use Rattle.cilk_laws_model.proofs.Family.{parent-child, same-number, counted_live}
use Rattle.cilk_laws_model.proofs.Events.{told, told-push, made-push}
use Rattle.cilk_laws_model.proofs.Waits.{waits_at}
use Rattle.cilk_laws_model.proofs.Tales.{Started}
use Rattle.cilk_laws_model.proofs.Sound.{Sound, sound_same}
use Rattle.cilk_laws_model.proofs.Told.{Told}

module _ (events : List Event) (entries later : Instances) (p c : Path) (n : ℕ) (h : Told events entries) (more : More p c entries later)
    (started : Started c entries later) where
  abbrev after : List Event
  after = events ++ spawned c n ∷ []

  pub same : (x : Path) → told after x ≡ told events x
  same x = told-push x events (spawned c n)

  pub same_made : (x : Path) → was_made after x ≡ (was_made events x || same_path c x)
  same_made x = made-push x events (spawned c n)

  fresh_by : (b : Bool) → was_made events c ≡ b → b ≡ false
  fresh_by true e =
      let last = h.counted p (more.number + 1) more.number (ap (was_made events) (sym more.child) ∙ e) more.before in absurd (omega arith)
  fresh_by false e = refl

  pub fresh : was_made events c ≡ false
  fresh = fresh_by (was_made events c) refl

  parent_live : is_live entries p ≡ true
  parent_live = counted_live (instance_at entries p) more.number more.before

  parent : (q : Path) (k : ℕ) → same_path c (child_path q k) ≡ true → p ≡ q
  parent q k e =
      same_Some p q (sym (parent-child p (more.number + 1)) ∙ ap parent_of (sym more.child ∙ same-is c (child_path q k) e) ∙ parent-child q k)

  new_live : (x : Path) → is_live later x ≡ true → (same_path c x ≡ true) ⊎ (is_live entries x ≡ true)
  new_live x live = or_cases (same_path c x) (is_live entries x) (sym (more.live x) ∙ live)

  new_made : (x : Path) → was_made after x ≡ true → (was_made events x ≡ true) ⊎ (same_path c x ≡ true)
  new_made x made = or_cases (was_made events x) (same_path c x) (sym (same_made x) ∙ made)

  own_counted : (k : ℕ) (m : ℕ) → was_made after (child_path p k) ≡ true → children_at later p ≡ Some m → k ≤ m
  own_counted k m made there =
      let size = same_Some (more.number + 1) m (sym more.parent ∙ there) in
      elim (new_made (child_path p k) made) [
        | inl old ↦ let within = h.counted p k more.number old more.before in omega arith
        | inr new ↦
            let last = same-number p (more.number + 1) k (sym more.child ∙ same-is c (child_path p k) new) in
            omega arith
      ]

  no_own_child : (k : ℕ) → was_made after (child_path c k) ≡ true → ⊥
  no_own_child k made = elim (new_made (child_path c k) made) [
    | inl old ↦ let both : true ≡ false = sym (h.parents c k old) ∙ fresh in cc
    | inr new ↦
        let is = same-is c (child_path c k) new in
        let size : length c ≡ length (child_path c k) = ap (λ (x : Path). length x) is in
        let more_by = length-append c (k ∷ []) in
        omega arith
  ]

  other_by : (q : Path) (k m : ℕ) (b : Bool) → is_live entries q ≡ b → same_path q p ≡ false → was_made after (child_path q k) ≡ true
      → children_at later q ≡ Some m → k ≤ m
  other_by q k m true live other made there =
      elim (new_made (child_path q k) made) [
        | inl old ↦ h.counted q k m old (sym (more.children q other live) ∙ there)
        | inr new ↦
            let both : true ≡ false = sym (same-self q) ∙ ap (same_path q) (sym (parent q k new)) ∙ other in
            cc
      ]
  other_by q k m false none other made there =
      elim (new_live q (counted_live (instance_at later q) m there)) [
        | inl is ↦ absurd (no_own_child k (ap (λ x. was_made after (child_path x k)) (same-is c q is) ∙ made))
        | inr live ↦ let both : true ≡ false = sym live ∙ none in cc
      ]

  counted_by : (q : Path) (k m : ℕ) (b : Bool) → same_path q p ≡ b → was_made after (child_path q k) ≡ true → children_at later q ≡ Some m → k ≤ m
  counted_by q k m true e made there =
      let is = same-is q p e in
      own_counted k m (ap (λ x. was_made after (child_path x k)) (sym is) ∙ made) (ap (children_at later) (sym is) ∙ there)
  counted_by q k m false e made there = other_by q k m (is_live entries q) refl e made there

  waits_by : (q : Path) (ds : List Delivery) (b : Bool) → same_path c q ≡ b → waits_at later q ≡ Some ds → Sound after q ds
  waits_by q ds true e there =
      let none : [] ≡ ds = same_Some [] ds (sym (started.now (unborn (is_live entries c) refl)) ∙ ap (waits_at later) (same-is c q e) ∙ there) in
      subst (Sound after q) none tt
    where
      unborn : (b : Bool) → is_live entries c ≡ b → b ≡ false
      unborn true live = let both : true ≡ false = sym (h.made c live) ∙ fresh in cc
      unborn false live = refl
  waits_by q ds false e there = sound_same events after q ds same (h.waits q ds (sym (started.beside q e) ∙ there))

  made_by : (x : Path) → (same_path c x ≡ true) ⊎ (is_live entries x ≡ true) → (was_made events x || same_path c x) ≡ true
  made_by x (inl is) = or_right (was_made events x) (same_path c x) is
  made_by x (inr old) = or_left (was_made events x) (same_path c x) (h.made x old)

  alive_by : (x : Path) → (same_path c x ≡ true) ⊎ (is_live entries x ≡ true) → told events x ≡ lives
  alive_by x (inl is) = h.unmade x (ap (was_made events) (sym (same-is c x is)) ∙ fresh)
  alive_by x (inr old) = h.alive x old

  living_by : (x : Path) → told after x ≡ lives → (was_made events x ≡ true) ⊎ (same_path c x ≡ true) → (same_path c x || is_live entries x) ≡ true
  living_by x alive (inl old) = or_right (same_path c x) (is_live entries x) (h.living x old (sym (same x) ∙ alive))
  living_by x alive (inr is) = or_left (same_path c x) (is_live entries x) is

  parents_by : (q : Path) (k : ℕ) → (was_made events (child_path q k) ≡ true) ⊎ (same_path c (child_path q k) ≡ true) → was_made events q ≡ true
  parents_by q k (inl old) = h.parents q k old
  parents_by q k (inr new) = ap (was_made events) (sym (parent q k new)) ∙ h.made p parent_live

  pub born_told : Told after later
  born_told = record {
    made = λ x live. same_made x ∙ made_by x (new_live x live);
    alive = λ x live. same x ∙ alive_by x (new_live x live);
    living = λ x made alive. more.live x ∙ living_by x alive (new_made x made);
    unmade = λ x none. same x ∙ h.unmade x (or_parts (was_made events x) (same_path c x) (sym (same_made x) ∙ none)).0;
    counted = λ q k m made there. counted_by q k m (same_path q p) refl made there;
    parents = λ q k made. same_made q ∙ or_left (was_made events q) (same_path c q) (parents_by q k (new_made (child_path q k) made));
    waits = λ q ds there. waits_by q ds (same_path c q) refl there;
  }
