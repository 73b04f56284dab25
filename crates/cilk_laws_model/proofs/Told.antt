-- What the events tell of the instances, and what they tell after one more step.
use Rattle.std.proofs.Common.{◌≡◌, ℕ, suc, ◌≤◌, Bool, true, false, List, [], ◌∷◌, ◌++◌, length, Some, refl, sym, ap, subst, ◌∙◌, if◌then◌else◌}
use Rattle.std.proofs.lemmas.Option.{same_Some}
use Rattle.cilk_model.specs.Path.{Path, same_path, child_path, parent_of}
use Rattle.cilk_model.specs.Instance.{Delivery}
use Rattle.cilk_model.specs.State.{Instances, is_live}
use Rattle.cilk_model.specs.Event.{Event, delivered, returned, ended}
use Rattle.cilk_model.specs.Fate.{Fate, lives, has_returned, was_delivered, was_aborted, was_made}
use Rattle.cilk_laws_model.proofs.Entries.{same-is, same-self, children_at}
use Rattle.cilk_laws_model.proofs.Live.{Alike}
use Rattle.cilk_laws_model.proofs.Events.{told, told-push, IsPlain, told-plain, made-unborn}
use Rattle.cilk_laws_model.proofs.Waits.{waits_at}
use Rattle.cilk_laws_model.proofs.Tales.{Still, Taken}
use Rattle.cilk_laws_model.proofs.Sound.{Lacks, Sound, sound_but, sound_same, lacks_foreign}

pub record Told (events : List Event) (entries : Instances) : Type 0 where
  pub made : (p : Path) → is_live entries p ≡ true → was_made events p ≡ true
  pub alive : (p : Path) → is_live entries p ≡ true → told events p ≡ lives
  pub living : (p : Path) → was_made events p ≡ true → told events p ≡ lives → is_live entries p ≡ true
  pub unmade : (p : Path) → was_made events p ≡ false → told events p ≡ lives
  pub counted : (p : Path) (k n : ℕ) → was_made events (child_path p k) ≡ true → children_at entries p ≡ Some n → k ≤ n
  pub parents : (p : Path) (k : ℕ) → was_made events (child_path p k) ≡ true → was_made events p ≡ true
  pub waits : (q : Path) (ds : List Delivery) → waits_at entries q ≡ Some ds → Sound events q ds

-- after an event that is of no fate and no birth
pub plain_told : (events : List Event) (e : Event) (entries after : Instances) → IsPlain e → Told events entries → Alike entries after
    → Still entries after → Told (events ++ e ∷ []) after
plain_told events e entries after plain h alike still = record {
  made = λ p live. same_made p ∙ h.made p (sym (alike.live p) ∙ live);
  alive = λ p live. same p ∙ h.alive p (sym (alike.live p) ∙ live);
  living = λ p made fate. alike.live p ∙ h.living p (sym (same_made p) ∙ made) (sym (same p) ∙ fate);
  unmade = λ p none. same p ∙ h.unmade p (sym (same_made p) ∙ none);
  counted = λ p k n made there. h.counted p k n (sym (same_made (child_path p k)) ∙ made) (sym (alike.children p) ∙ there);
  parents = λ p k made. same_made p ∙ h.parents p k (sym (same_made (child_path p k)) ∙ made);
  waits = λ q ds there. sound_same events (events ++ e ∷ []) q ds same (h.waits q ds (sym (still q) ∙ there));
}
  where
    same : (x : Path) → told (events ++ e ∷ []) x ≡ told events x
    same x = told-plain events e plain x

    same_made : (x : Path) → was_made (events ++ e ∷ []) x ≡ was_made events x
    same_made x = made-unborn events e x (plain.birth x)

-- the fate of c alone is another
pub record FateBecomes (c : Path) (events after : List Event) (fate : Fate) : Type 0 where
  pub now : told after c ≡ fate
  pub beside : (x : Path) → same_path c x ≡ false → told after x ≡ told events x
  pub made : (x : Path) → was_made after x ≡ was_made events x

chosen : (c x : Path) (fate other : Fate) → same_path c x ≡ true → (if same_path c x then fate else other) ≡ fate
chosen c x fate other e = by (same_path c x) e
  where
    by : (b : Bool) → b ≡ true → (if b then fate else other) ≡ fate
    by true h = refl
    by false h = cc

passed : (c x : Path) (fate other : Fate) → same_path c x ≡ false → (if same_path c x then fate else other) ≡ other
passed c x fate other e = by (same_path c x) e
  where
    by : (b : Bool) → b ≡ false → (if b then fate else other) ≡ other
    by true h = cc
    by false h = refl

pub delivered_fate : (c : Path) (n : ℕ) (events : List Event) → FateBecomes c events (events ++ delivered c n ∷ []) (was_delivered (suc (length events)))
delivered_fate c n events = record {
  now = told-push c events (delivered c n) ∙ chosen c c _ _ (same-self c);
  beside = λ x other. told-push x events (delivered c n) ∙ passed c x _ _ other;
  made = λ x. made-unborn events (delivered c n) x refl;
}

pub returned_fate : (c : Path) (n : ℕ) (events : List Event) → FateBecomes c events (events ++ returned c n ∷ []) has_returned
returned_fate c n events = record {
  now = told-push c events (returned c n) ∙ chosen c c _ _ (same-self c);
  beside = λ x other. told-push x events (returned c n) ∙ passed c x _ _ other;
  made = λ x. made-unborn events (returned c n) x refl;
}

pub ended_fate : (c : Path) (events : List Event) → FateBecomes c events (events ++ ended c ∷ []) (was_aborted (suc (length events)))
ended_fate c events = record {
  now = told-push c events (ended c) ∙ chosen c c _ _ (same-self c);
  beside = λ x other. told-push x events (ended c) ∙ passed c x _ _ other;
  made = λ x. made-unborn events (ended c) x refl;
}

-- whether x is c, or its fate stays
module _ (c : Path) (events after : List Event) (fate : Fate) (becomes : FateBecomes c events after fate) where
  alive_by : (x : Path) (b : Bool) → same_path c x ≡ b → (b ≡ true → ⊥) → told events x ≡ lives → told after x ≡ lives
  alive_by x true e other alive = absurd (other refl)
  alive_by x false e other alive = becomes.beside x e ∙ alive

  pub stays_alive : (x : Path) → (same_path c x ≡ true → ⊥) → told events x ≡ lives → told after x ≡ lives
  stays_alive x other alive = alive_by x (same_path c x) refl other alive

  living_by : (x : Path) (b : Bool) → same_path c x ≡ b → (fate ≡ lives → ⊥) → told after x ≡ lives → (b ≡ false) × (told events x ≡ lives)
  living_by x true e dead alive = absurd (dead (sym becomes.now ∙ ap (told after) (same-is c x e) ∙ alive))
  living_by x false e dead alive = (refl, sym (becomes.beside x e) ∙ alive)

  pub was_alive : (x : Path) → (fate ≡ lives → ⊥) → told after x ≡ lives → (same_path c x ≡ false) × (told events x ≡ lives)
  was_alive x dead alive = living_by x (same_path c x) refl dead alive

-- after a delivery is taken
module _ (events after : List Event) (entries later : Instances) (p c : Path) (k : ℕ) (h : Told events entries)
    (becomes : FateBecomes c events after (was_delivered k)) (alike : Alike entries later) (taken : Taken p c entries later) where
  before : Sound events p (taken.oldest ∷ taken.others)
  before = h.waits p (taken.oldest ∷ taken.others) taken.before

  pub was_returned : told events c ≡ has_returned
  was_returned = ap (told events) (sym taken.child) ∙ before.1

  parent : parent_of c ≡ Some p
  parent = ap parent_of (sym taken.child) ∙ before.0

  lacks_others : Lacks c taken.others
  lacks_others = subst (λ x. Lacks x taken.others) taken.child before.2

  not_alive : (x : Path) → told events x ≡ lives → same_path c x ≡ true → ⊥
  not_alive x alive same = let both : has_returned ≡ lives = sym was_returned ∙ ap (told events) (same-is c x same) ∙ alive in cc

  waits_by : (q : Path) (ds : List Delivery) (b : Bool) → same_path q p ≡ b → waits_at later q ≡ Some ds → Sound after q ds
  waits_by q ds true e there =
      let same = same-is q p e in
      let is : taken.others ≡ ds = same_Some taken.others ds (sym taken.now ∙ ap (waits_at later) (sym same) ∙ there) in
      subst (λ x. Sound after x ds) (sym same) (subst (Sound after p) is (sound_but events after c p taken.others becomes.beside lacks_others before.3))
  waits_by q ds false e there =
      let old = h.waits q ds (sym (taken.beside q e) ∙ there) in
      sound_but events after c q ds becomes.beside (lacks_foreign events c p q ds parent e old) old

  pub taken_told : Told after later
  taken_told = record {
    made = λ x live. becomes.made x ∙ h.made x (sym (alike.live x) ∙ live);
    alive = λ x live. let alive = h.alive x (sym (alike.live x) ∙ live) in stays_alive c events after _ becomes x (not_alive x alive) alive;
    living = λ x made alive. alike.live x ∙ h.living x (sym (becomes.made x) ∙ made) (was_alive c events after _ becomes x (λ e. cc) alive).1;
    unmade = λ x none. let alive = h.unmade x (sym (becomes.made x) ∙ none) in stays_alive c events after _ becomes x (not_alive x alive) alive;
    counted = λ x j n made there. h.counted x j n (sym (becomes.made (child_path x j)) ∙ made) (sym (alike.children x) ∙ there);
    parents = λ x j made. becomes.made x ∙ h.parents x j (sym (becomes.made (child_path x j)) ∙ made);
    waits = λ q ds there. waits_by q ds (same_path q p) refl there;
  }
