-- Which instances live after a step.
use Rattle.std.proofs.Common.{◌≡◌, ℕ, ℤ, pos, ◌+◌, ◌<◌, ◌≤◌, Bool, true, false, not, ◌&&◌, ◌||◌, cond, List, [], ◌∷◌, ◌++◌, map, length, length-append}
use Rattle.std.proofs.Common.{Option, Some, None, refl, sym, ap, ◌∙◌, if◌then◌else◌, arith}
use Rattle.std.specs.Prelude.{option_map}
use Rattle.std.proofs.lemmas.List.Sums.{length-filter, count_by-le-length}
use Rattle.std.proofs.lemmas.List.{length-map}
use Rattle.cilk_model.specs.labelled.Labelled.{Labelled}
use Rattle.cilk_model.specs.Path.{Path, same_path, child_path, parent_of, is_below}
use Rattle.cilk_model.specs.Instance.{Activation, Instance, entered}
use Rattle.cilk_model.specs.State.{Entry, Instances, State, instance_at, is_live, change, changed, without, has_live_child}
use Rattle.cilk_model.specs.Change.{gone_on, put, above, resumed_to, resumed, mark, after_return_to}
use Rattle.cilk_model.specs.Pick.{Step, waits, parks, goes_on, ends, spawns, step_of_live, step_of}
use Rattle.cilk_laws_model.proofs.Entries.{times, live-cons, times-cons, live-changed, times-changed, live-without, times-without, children_at}
use Rattle.cilk_laws_model.proofs.Entries.{children-changed, at-changed_same, at-changed_other, at-without_other, either_of, at-push, live-push}
use Rattle.cilk_laws_model.proofs.Entries.{times-push, live_some}
use Rattle.cilk_laws_model.proofs.Waits.{mark_path}
use Rattle.cilk_laws_model.proofs.Rows.{Row, headless, locked, parked, stopping, going, writing, calling, leaving, answering, spawning, printing}
use Rattle.cilk_laws_model.proofs.Rows.{turning_lock, marking, returning, placing, taking, aborting, step_row}

-- the same paths live, with as many children
pub record Alike (entries after : Instances) : Type 0 where
  pub live : (q : Path) → is_live after q ≡ is_live entries q
  pub times : (q : Path) → times q after ≡ times q entries
  pub children : (q : Path) → children_at after q ≡ children_at entries q
  pub size : length after ≡ length entries

-- the same paths but p live
pub record Fewer (p : Path) (entries after : Instances) : Type 0 where
  pub live : (q : Path) → is_live after q ≡ (not (same_path q p) && is_live entries q)
  pub times : (q : Path) → times q after ≡ cond (same_path q p) 0 (times q entries)
  pub children : (q : Path) → same_path q p ≡ false → children_at after q ≡ children_at entries q
  pub size : length after ≤ length entries

-- one path more lives, which is the next child of p
pub record More (p c : Path) (entries after : Instances) : Type 0 where
  pub number : ℕ
  pub before : children_at entries p ≡ Some number
  pub child : c ≡ child_path p (number + 1)
  pub live : (q : Path) → is_live after q ≡ (same_path c q || is_live entries q)
  pub times : (q : Path) → times q after ≡ cond (same_path c q) 1 0 + times q entries
  pub parent : children_at after p ≡ Some (number + 1)
  pub children : (q : Path) → same_path q p ≡ false → is_live entries q ≡ true → children_at after q ≡ children_at entries q
  pub size : length after ≡ length entries + 1
  pub room : length entries < 65536

pub alike : (entries : Instances) → Alike entries entries
alike entries = record { live = λ q. refl; times = λ q. refl; children = λ q. refl; size = refl }

alike_both : (first second third : Instances) → Alike first second → Alike second third → Alike first third
alike_both first second third h k = record {
  live = λ q. k.live q ∙ h.live q;
  times = λ q. k.times q ∙ h.times q;
  children = λ q. k.children q ∙ h.children q;
  size = k.size ∙ h.size;
}

-- where each entry keeps its path and its count of children
alike_front : (e f : Entry) (entries after : Instances) → f.path ≡ e.path → f.instance.children ≡ e.instance.children → Alike entries after
    → Alike (e ∷ entries) (f ∷ after)
alike_front e f entries after same as_many h = record {
  live =
      λ q. live-cons f after q ∙ ap (λ (r : Path). same_path r q || is_live after q) same ∙ ap (λ b. same_path e.path q || b) (h.live q)
      ∙ sym (live-cons e entries q);
  times =
      λ q. times-cons f after q ∙ ap (λ (r : Path). cond (same_path r q) 1 0 + times q after) same
      ∙ ap (λ n. cond (same_path e.path q) 1 0 + n) (h.times q) ∙ sym (times-cons e entries q);
  children = λ q.
      ap (λ (r : Path). count_in (if same_path r q then Some f.instance else instance_at after q)) same ∙ front_children q (same_path e.path q) (h.children q);
  size = let same : length after ≡ length entries = h.size in omega arith;
}
  where
    count_in : Option Instance → Option ℕ
    count_in o = option_map (λ (i : Instance). i.children) o

    front_children : (q : Path) (b : Bool) → children_at after q ≡ children_at entries q
        → count_in (if b then Some f.instance else instance_at after q) ≡ count_in (if b then Some e.instance else instance_at entries q)
    front_children q true rest = ap Some as_many
    front_children q false rest = rest

changed_alike : (p : Path) (f : Instance → Instance) (entries : Instances)
    → ((i : Instance) → instance_at entries p ≡ Some i → (f i).children ≡ i.children) → Alike entries (changed p f entries)
changed_alike p f entries h = record {
  live = live-changed p f entries;
  times = times-changed p f entries;
  children = children-changed p f entries h;
  size = length-map entries (change p f);
}

mark_children : (e : Entry) (b : Bool) → (if b then record e { instance = record e.instance { aborted = true } } else e).instance.children ≡ e.instance.children
mark_children e true = refl
mark_children e false = refl

marks_alike : (p : Path) (entries : Instances) → Alike entries (map (mark p) entries)
marks_alike p [] = alike []
marks_alike p (e ∷ entries) =
    alike_front e (mark p e) entries (map (mark p) entries) (mark_path e (is_below p e.path)) (mark_children e (is_below p e.path)) (marks_alike p entries)

without_fewer : (p : Path) (entries : Instances) → Fewer p entries (without p entries)
without_fewer p entries = record {
  live = live-without p entries;
  times = times-without p entries;
  children = λ q other. ap (option_map (λ (i : Instance). i.children)) (at-without_other p q entries other);
  size = let test : Entry → Bool = λ e. not (same_path e.path p) in omega (arith, length-filter test entries, count_by-le-length test entries);
}

changed_fewer : (p : Path) (entries after : Instances) (r : Path) (f : Instance → Instance) → ((i : Instance) → (f i).children ≡ i.children)
    → Fewer p entries after → Fewer p entries (changed r f after)
changed_fewer p entries after r f h k = record {
  live = λ q. live-changed r f after q ∙ k.live q;
  times = λ q. times-changed r f after q ∙ k.times q;
  children = λ q other. children-changed r f after (λ i e. h i) q ∙ k.children q other;
  size = let same : length (changed r f after) ≡ length after = length-map after (change r f) in let fewer = k.size in omega arith;
}

birth_more : (s : State) (p : Path) (i parent child : Instance) → instance_at s.instances p ≡ Some i → parent.children ≡ i.children + 1
    → length s.instances < 65536
    → More p (child_path p (i.children + 1)) s.instances
    (changed p (λ _. parent) s.instances ++ record { path = child_path p (i.children + 1); instance = child } ∷ [])
birth_more s p i parent child live counted few =
    let c = child_path p (i.children + 1) in
    let parents = changed p (λ _. parent) s.instances in
    let born : Entry = record { path = c; instance = child } in
    let here : instance_at parents p ≡ Some parent = at-changed_same p (λ _. parent) s.instances ∙ ap (option_map (λ _. parent)) live in
    record {
      number = i.children;
      before = ap (option_map (λ (x : Instance). x.children)) live;
      child = refl;
      live = λ q. live-push parents born q ∙ ap (λ b. same_path c q || b) (live-changed p (λ _. parent) s.instances q);
      times = λ q. times-push parents born q ∙ ap (λ n. cond (same_path c q) 1 0 + n) (times-changed p (λ _. parent) s.instances q);
      parent =
          ap (option_map (λ (x : Instance). x.children))
          (at-push parents born p ∙ ap (λ o. either_of o (if same_path c p then Some child else None)) here) ∙ ap Some counted;
      children = λ q other there.
          ap (option_map (λ (x : Instance). x.children)) (at-push parents born q
          ∙ live_some parents q (instance_at parents q) (live-changed p (λ _. parent) s.instances q ∙ there) _
          ∙ at-changed_other p q (λ _. parent) s.instances other);
      size =
          let same : length parents ≡ length s.instances = length-map s.instances (change p (λ _. parent))
          in omega (arith, length-append parents (born ∷ []));
      room = few;
    }

-- what is to be shown of a step
abbrev pub Lives : State → Path → Step → Type 0
Lives s p waits = Unit {0}
Lives s p parks = Unit {0}
Lives s p (goes_on t did) = Alike s.instances t.instances
Lives s p (ends t did) = Fewer p s.instances t.instances
Lives s p (spawns child t did) = More p child s.instances t.instances

children-resumed : (i : Instance) (below : List Activation) → (resumed_to i below).children ≡ i.children
children-resumed i [] = refl
children-resumed i (caller ∷ below) = refl

module _ (program : Labelled) (s : State) (p : Path) (i : Instance) (live : instance_at s.instances p ≡ Some i) where
  as_many : (j : Instance) → j.children ≡ i.children → (x : Instance) → instance_at s.instances p ≡ Some x → j.children ≡ x.children
  as_many j h x e =
      let same : Some i ≡ Some x = sym live ∙ e in
      let is : i ≡ x = cc in
      h ∙ ap (λ (y : Instance). y.children) is

  -- the instance at p is another, with as many children
  replaced : (j : Instance) → j.children ≡ i.children → Alike s.instances (changed p (λ _. j) s.instances)
  replaced j h = changed_alike p (λ _. j) s.instances (as_many j h)

  return_lives : (z : ℤ) (o : Option Path) → Fewer p s.instances (after_return_to o s p i z).instances
  return_lives z None = without_fewer p s.instances
  return_lives z (Some q) = changed_fewer p s.instances (without p s.instances) q _ (λ x. refl) (without_fewer p s.instances)

  pub row_lives : {step : Step} → Row program s p i step → Lives s p step
  row_lives (headless first) = tt
  row_lives (locked head first lock) = tt
  row_lives (parked some) = tt
  row_lives (stopping n kind) = alike s.instances
  row_lives (going head z heads) = replaced (gone_on z i) refl
  row_lives (writing head cell z heads) = replaced (put cell z (gone_on (pos 1) i)) refl
  row_lives (calling head awaits callee zs heads room) = replaced (above (entered program callee zs awaits) (gone_on (pos 1) i)) refl
  row_lives (leaving n) = replaced (resumed i) (children-resumed i i.below)
  row_lives (answering n cell z) = replaced (put cell z (resumed i)) (children-resumed i i.below)
  row_lives (spawning head receiver callee zs heads few room) = birth_more s p i _ _ live refl few
  row_lives (printing head bytes heads room) = replaced (gone_on (pos 1) i) refl
  row_lives (turning_lock head what k now heads becomes) = replaced (gone_on (pos 1) i) refl
  row_lives (marking head heads) =
      alike_both s.instances (changed p (λ _. gone_on (pos 1) i) s.instances) _ (replaced (gone_on (pos 1) i) refl)
      (marks_alike p (changed p (λ _. gone_on (pos 1) i) s.instances))
  row_lives (returning n z none lockless unmarked) = return_lives z (parent_of p)
  row_lives (placing oldest others cell z n takes) = replaced (put cell z (record i { waiting = others })) refl
  row_lives (taking oldest others inlet zs n takes) = replaced (above (entered program inlet zs None) (record i { waiting = others })) refl
  row_lives (aborting aborted none) = without_fewer p s.instances

live_lives : (program : Labelled) (s : State) (p : Path) (o : Option Instance) → instance_at s.instances p ≡ o → Lives s p (step_of_live program s p o)
live_lives program s p None e = tt
live_lives program s p (Some i) e = row_lives program s p i e (step_row program s p i)

pub step_lives : (program : Labelled) (s : State) (p : Path) → Lives s p (step_of program s p)
step_lives program s p = live_lives program s p (instance_at s.instances p) refl

-- what an instance that is parked or ends waits for, or does not
abbrev pub Waited : State → Path → Step → Type 0
Waited s p waits = Unit {0}
Waited s p parks = has_live_child s.instances p ≡ true
Waited s p (goes_on t did) = Unit {0}
Waited s p (ends t did) = has_live_child s.instances p ≡ false
Waited s p (spawns child t did) = Unit {0}

row_waited : {program : Labelled} {s : State} {p : Path} {i : Instance} {step : Step} → Row program s p i step → Waited s p step
row_waited (headless first) = tt
row_waited (locked head first lock) = tt
row_waited (parked some) = some
row_waited (stopping n kind) = tt
row_waited (going head z heads) = tt
row_waited (writing head cell z heads) = tt
row_waited (calling head awaits callee zs heads room) = tt
row_waited (leaving n) = tt
row_waited (answering n cell z) = tt
row_waited (spawning head receiver callee zs heads few room) = tt
row_waited (printing head bytes heads room) = tt
row_waited (turning_lock head what k now heads becomes) = tt
row_waited (marking head heads) = tt
row_waited (returning n z none lockless unmarked) = none
row_waited (placing oldest others cell z n takes) = tt
row_waited (taking oldest others inlet zs n takes) = tt
row_waited (aborting aborted none) = none

live_waited : (program : Labelled) (s : State) (p : Path) (o : Option Instance) → Waited s p (step_of_live program s p o)
live_waited program s p None = tt
live_waited program s p (Some i) = row_waited (step_row program s p i)

pub step_waited : (program : Labelled) (s : State) (p : Path) → Waited s p (step_of program s p)
step_waited program s p = live_waited program s p (instance_at s.instances p)
