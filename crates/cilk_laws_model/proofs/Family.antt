-- The parent of a live child lives, and has counted it.
use Rattle.std.proofs.Common.{◌≡◌, ℕ, ◌+◌, ◌≤◌, Bool, true, false, not, ◌||◌, [], ◌∷◌, Option, Some, None, is_some, refl, sym, ap, ◌∙◌}
use Rattle.std.proofs.Common.{if◌then◌else◌, arith}
use Rattle.std.proofs.lemmas.Option.{same_Some}
use Rattle.std.proofs.lemmas.Bool.{or_right, and_parts}
use Rattle.std.specs.Prelude.{option_map}
use Rattle.cilk_model.specs.Path.{Path, same_path, child_path, parent_of, is_that, is_child}
use Rattle.cilk_model.specs.Instance.{Instance}
use Rattle.cilk_model.specs.State.{Entry, Instances, Counted, State, instance_at, is_live, has_live_child}
use Rattle.cilk_model.specs.Pick.{Step, waits, parks, goes_on, ends, spawns}
use Rattle.cilk_model.specs.Run.{state_after}
use Rattle.cilk_laws_model.specs.Family.{ChildrenAreCounted}
use Rattle.cilk_laws_model.proofs.Entries.{same-is, same-self, live-cons, children_at}
use Rattle.cilk_laws_model.proofs.Live.{Alike, Fewer, More, Lives, Waited}

pub parent-child : (p : Path) (k : ℕ) → parent_of (child_path p k) ≡ Some p
parent-child [] k = refl
parent-child (a ∷ []) k = refl
parent-child (a ∷ b ∷ p) k = ap (option_map (λ q. a ∷ q)) (parent-child (b ∷ p) k)

pub same-parent : (p q : Path) (k j : ℕ) → child_path p k ≡ child_path q j → p ≡ q
same-parent p q k j e =
    let same : Some p ≡ Some q = sym (parent-child p k) ∙ ap parent_of e ∙ parent-child q j in
    cc

pub same-number : (p : Path) (k j : ℕ) → child_path p k ≡ child_path p j → k ≡ j
same-number [] k j e = cc
same-number (a ∷ p) k j e = let rest : child_path p k ≡ child_path p j = cc in same-number p k j rest

pub is-child : (p : Path) (k : ℕ) → is_child p (child_path p k) ≡ true
is-child p k = ap (is_that p) (parent-child p k) ∙ same-self p

seen_by : (p c : Path) (e : Entry) (b rest live : Bool) → is_child p c ≡ true → same_path e.path c ≡ b → (live ≡ true → rest ≡ true)
    → (b || live) ≡ true → (is_child p e.path || rest) ≡ true
seen_by p c e true rest live is same later h =
    ap (λ b. b || rest) (ap (is_child p) (same-is e.path c same) ∙ is)
seen_by p c e false rest live is same later h = or_right (is_child p e.path) rest (later h)

-- a live child is seen
pub child_seen : (p c : Path) (entries : Instances) → is_child p c ≡ true → is_live entries c ≡ true → has_live_child entries p ≡ true
child_seen p c [] is h = cc
child_seen p c (e ∷ entries) is h =
    seen_by p c e (same_path e.path c) (has_live_child entries p) (is_live entries c) is refl (child_seen p c entries is)
    (sym (live-cons e entries c) ∙ h)

-- the parent of child k has counted it
pub record Counts (entries : Instances) (p : Path) (k : ℕ) : Type 0 where
  pub number : ℕ
  pub there : children_at entries p ≡ Some number
  pub first : 1 ≤ k
  pub within : k ≤ number

abbrev pub Family : Instances → Type 0
Family entries = (p : Path) (k : ℕ) → is_live entries (child_path p k) ≡ true → Counts entries p k

alike_family : (entries after : Instances) → Family entries → Alike entries after → Family after
alike_family entries after family alike p k live =
    let c = family p k (sym (alike.live (child_path p k)) ∙ live) in
    record { number = c.number; there = alike.children p ∙ c.there; first = c.first; within = c.within }

fewer_by : (r : Path) (entries after : Instances) → Fewer r entries after → has_live_child entries r ≡ false → (p : Path) (k : ℕ)
    → is_live entries (child_path p k) ≡ true → Counts entries p k
    → (b : Bool) → same_path p r ≡ b → Counts after p k
fewer_by r entries after fewer childless p k live c true same =
    let one = child_seen r (child_path r k) entries (is-child r k) (ap (λ x. is_live entries (child_path x k)) (sym (same-is p r same)) ∙ live) in
    let both : true ≡ false = sym one ∙ childless in
    cc
fewer_by r entries after fewer childless p k live c false other =
    record { number = c.number; there = fewer.children p other ∙ c.there; first = c.first; within = c.within }

fewer_family : (r : Path) (entries after : Instances) → Family entries → Fewer r entries after → has_live_child entries r ≡ false → Family after
fewer_family r entries after family fewer childless p k live =
    let before = (and_parts (not (same_path (child_path p k) r)) (is_live entries (child_path p k)) (sym (fewer.live (child_path p k)) ∙ live)).1 in
    fewer_by r entries after fewer childless p k before (family p k before) (same_path p r) refl

pub counted_live : (o : Option Instance) (n : ℕ) → option_map (λ (i : Instance). i.children) o ≡ Some n → is_some o ≡ true
counted_live None n h = cc
counted_live (Some i) n h = refl

module _ (p c : Path) (entries after : Instances) (family : Family entries) (more : More p c entries after) where
  older_by : (q : Path) (k : ℕ) → Counts entries q k → (b : Bool) → same_path q p ≡ b → Counts after q k
  older_by q k old true same =
      let number = same_Some old.number more.number (sym old.there ∙ ap (children_at entries) (same-is q p same) ∙ more.before) in
      let first = old.first in
      let within = old.within in
      record { number = more.number + 1; there = ap (children_at after) (same-is q p same) ∙ more.parent; first = omega arith; within = omega arith }
  older_by q k old false other =
      record {
        number = old.number;
        there = more.children q other (counted_live (instance_at entries q) old.number old.there)
            ∙ old.there;
        first = old.first;
        within = old.within;
      }

  more_by : (q : Path) (k : ℕ) (b : Bool) → same_path c (child_path q k) ≡ b → (b || is_live entries (child_path q k)) ≡ true → Counts after q k
  more_by q k true same h =
      let is : child_path p (more.number + 1) ≡ child_path q k = sym more.child ∙ same-is c (child_path q k) same in
      let parent = same-parent p q (more.number + 1) k is in
      let number = same-number q (more.number + 1) k (ap (λ x. child_path x (more.number + 1)) (sym parent) ∙ is) in
      record { number = more.number + 1; there = ap (children_at after) (sym parent) ∙ more.parent; first = omega arith; within = omega arith }
  more_by q k false other h = older_by q k (family q k h) (same_path q p) refl

  more_family : Family after
  more_family q k live =
      more_by q k (same_path c (child_path q k)) refl (sym (more.live (child_path q k)) ∙ live)

  fresh_by : (b : Bool) → is_live entries c ≡ b → b ≡ false
  fresh_by true live =
      let old = family p (more.number + 1) (ap (is_live entries) (sym more.child) ∙ live) in
      let number = same_Some old.number more.number (sym old.there ∙ more.before) in
      let within = old.within in
      absurd (omega arith)
  fresh_by false live = refl

  -- the new child was not there before
  pub fresh : is_live entries c ≡ false
  fresh = fresh_by (is_live entries c) refl

pub step_family : (s : State) (p : Path) (taken : Step) → Family s.instances → Lives s p taken → Waited s p taken → Family (state_after s taken).instances
step_family s p waits family lives waited = family
step_family s p parks family lives waited = family
step_family s p (goes_on t did) family lives waited = alike_family s.instances t.instances family lives
step_family s p (ends t did) family lives waited = fewer_family p s.instances t.instances family lives waited
step_family s p (spawns child t did) family lives waited = more_family p child s.instances t.instances family lives

pub not_root : (p : Path) (k : ℕ) → [] ≡ child_path p k → ⊥
not_root [] k e = cc
not_root (a ∷ p) k e = cc

alone_by : (p : Path) (k : ℕ) (i : Instance) (b : Bool) → same_path [] (child_path p k) ≡ b → is_some (if b then Some i else None) ≡ true → ⊥
alone_by p k i true e h = not_root p k (same-is [] (child_path p k) e)
alone_by p k i false e h = cc

-- the root is no child
pub root_family : (i : Instance) → Family (record { path = []; instance = i } ∷ [])
root_family i p k live = absurd (alone_by p k i (same_path [] (child_path p k)) refl live)

counted_by : (entries : Instances) (p : Path) (k : ℕ) (o : Option Instance) → instance_at entries p ≡ o → (c : Counts entries p k)
    → option_map (λ (i : Instance). i.children) o ≡ Some c.number → Counted entries p k
counted_by entries p k None e c h = cc
counted_by entries p k (Some i) e c h =
    let same : i.children ≡ c.number = cc in
    let within = c.within in
    record { parent = i; lives = e; first = c.first; within = omega arith }

-- the family as the definitions have it
pub counted : (entries : Instances) → Family entries → ChildrenAreCounted entries
counted entries family p k live =
    let c = family p k live in counted_by entries p k (instance_at entries p) refl c c.there

pub family_of : (entries : Instances) → ChildrenAreCounted entries → Family entries
family_of entries children p k live =
    let c = children p k live in
    record { number = c.parent.children; there = ap (option_map (λ (i : Instance). i.children)) c.lives; first = c.first; within = c.within }
