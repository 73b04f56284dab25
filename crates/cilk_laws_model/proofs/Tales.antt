-- What each step tells, and what it does to the deliveries that wait.
use Rattle.std.proofs.Common.{◌≡◌, ℕ, ℤ, pos, Bool, true, false, List, [], ◌∷◌, ◌++◌, Option, Some, None, refl, sym, ap, ◌∙◌}
use Rattle.std.proofs.lemmas.Option.{same_Some}
use Rattle.std.specs.Prelude.{option_map}
use Rattle.cilk_model.specs.labelled.Labelled.{Labelled}
use Rattle.cilk_model.specs.Path.{Path, same_path, parent_of}
use Rattle.cilk_model.specs.Instance.{Activation, Receiver, Delivery, Instance, entered}
use Rattle.cilk_model.specs.State.{Instances, State, instance_at, is_live, changed, without}
use Rattle.cilk_model.specs.Change.{gone_on, put, above, resumed_to, resumed, deliveries, with_deliveries, after_return_to}
use Rattle.cilk_model.specs.Event.{Event, spawned, delivered, returned, ended}
use Rattle.cilk_model.specs.Pick.{Step, waits, parks, goes_on, ends, spawns}
use Rattle.cilk_laws_model.proofs.Entries.{same-self, live-changed}
use Rattle.cilk_laws_model.proofs.Rows.{Row, headless, locked, parked, stopping, going, writing, calling, leaving, answering, spawning, printing}
use Rattle.cilk_laws_model.proofs.Rows.{turning_lock, marking, returning, placing, taking, aborting}
use Rattle.cilk_laws_model.proofs.Events.{IsPlain, acted_plain, trapped_plain}
use Rattle.cilk_laws_model.proofs.Waits.{waits_at, at-replaced, beside-changed, beside-without, still-replaced, at-brought, still-marked}
use Rattle.cilk_laws_model.proofs.Waits.{still-pushed, at-pushed}

-- the same deliveries wait everywhere
abbrev pub Still : Instances → Instances → Type 0
Still entries after = (q : Path) → waits_at after q ≡ waits_at entries q

-- what a child brings: one delivery of its own, or none
abbrev pub IsOf : Path → List Delivery → Type 0
IsOf p [] = Unit {0}
IsOf p (d ∷ []) = d.child ≡ p
IsOf p (d ∷ e ∷ ds) = ⊥

pub record Taken (p c : Path) (entries after : Instances) : Type 0 where
  pub oldest : Delivery
  pub others : List Delivery
  pub child : oldest.child ≡ c
  pub before : waits_at entries p ≡ Some (oldest ∷ others)
  pub now : waits_at after p ≡ Some others
  pub beside : (q : Path) → same_path q p ≡ false → waits_at after q ≡ waits_at entries q

pub record Started (c : Path) (entries after : Instances) : Type 0 where
  pub now : is_live entries c ≡ false → waits_at after c ≡ Some []
  pub beside : (q : Path) → same_path c q ≡ false → waits_at after q ≡ waits_at entries q

pub record Brought (p : Path) (entries after : Instances) : Type 0 where
  pub new : List Delivery
  pub is_own : IsOf p new
  pub parent : (r : Path) → parent_of p ≡ Some r → same_path r p ≡ false → waits_at after r ≡ option_map (λ ds. ds ++ new) (waits_at entries r)
  pub beside : (q : Path) → same_path q p ≡ false → ((r : Path) → parent_of p ≡ Some r → same_path q r ≡ false) → waits_at after q ≡ waits_at entries q

pub data Tale (s : State) (p : Path) : Step → Type 0 where
  rests : Tale s p waits
  parks_it : Tale s p parks
  acts : (t : State) (did : Event) → IsPlain did → Still s.instances t.instances → Tale s p (goes_on t did)
  takes : (t : State) (c : Path) (n : ℕ) → Taken p c s.instances t.instances → Tale s p (goes_on t (delivered c n))
  starts : (t : State) (c : Path) (n : ℕ) → Started c s.instances t.instances → Tale s p (spawns c t (spawned c n))
  brings : (t : State) (n : ℕ) → Brought p s.instances t.instances → Tale s p (ends t (returned p n))
  leaves : (t : State) → ((q : Path) → same_path q p ≡ false → waits_at t.instances q ≡ waits_at s.instances q) → Tale s p (ends t (ended p))

waits-caller : (i : Instance) (below : List Activation) → (resumed_to i below).waiting ≡ i.waiting
waits-caller i [] = refl
waits-caller i (caller ∷ below) = refl

brings_own : (p : Path) (z : ℤ) (o : Option Receiver) (aborted : Bool) → IsOf p (deliveries p z o aborted)
brings_own p z None aborted = tt
brings_own p z (Some receiver) true = tt
brings_own p z (Some receiver) false = refl

module _ (program : Labelled) (s : State) (p : Path) (i : Instance) (live : instance_at s.instances p ≡ Some i) where
  still : (j : Instance) → j.waiting ≡ i.waiting → Still s.instances (changed p (λ _. j) s.instances)
  still j same = still-replaced p i j s.instances live same

  taken : (oldest : Delivery) (others : List Delivery) → i.waiting ≡ oldest ∷ others → (j : Instance) → j.waiting ≡ others
      → Taken p oldest.child s.instances (changed p (λ _. j) s.instances)
  taken oldest others here j same = record {
    oldest = oldest;
    others = others;
    child = refl;
    before = ap (option_map (λ (x : Instance). x.waiting)) live ∙ ap Some here;
    now = at-replaced p i j s.instances live ∙ ap Some same;
    beside = λ q other. beside-changed p q (λ _. j) s.instances other;
  }

  brought : (z : ℤ) (o : Option Path) → parent_of p ≡ o → Brought p s.instances (after_return_to o s p i z).instances
  brought z None e = record {
    new = [];
    is_own = tt;
    parent = λ r f other. let both : None ≡ Some r = sym e ∙ f in cc;
    beside = λ q other away. beside-without p q s.instances other;
  }
  brought z (Some r) e =
      let new = deliveries p z i.receiver i.aborted in
      record {
        new = new;
        is_own = brings_own p z i.receiver i.aborted;
        parent = λ x f other.
            let same : r ≡ x = same_Some _ _ (sym e ∙ f) in
            ap (λ y. waits_at (changed y (with_deliveries new) (without p s.instances)) x) same ∙ at-brought x new (without p s.instances)
            ∙ ap (option_map (λ ds. ds ++ new)) (beside-without p x s.instances other);
        beside = λ q other away. beside-changed r q (with_deliveries new) (without p s.instances) (away r e) ∙ beside-without p q s.instances other;
      }

  born : (parent child : Instance) → parent.waiting ≡ i.waiting → child.waiting ≡ [] → (c : Path)
      → Started c s.instances (changed p (λ _. parent) s.instances ++ record { path = c; instance = child } ∷ [])
  born parent child same none c = record {
    now =
        λ fresh. at-pushed (changed p (λ _. parent) s.instances) (record { path = c; instance = child })
        (live-changed p (λ _. parent) s.instances c ∙ fresh) (same-self c) ∙ ap Some none;
    beside = λ q other. still-pushed (changed p (λ _. parent) s.instances) (record { path = c; instance = child }) q other ∙ still parent same q;
  }

  pub row_tale : {step : Step} → Row program s p i step → Tale s p step
  row_tale (headless first) = rests
  row_tale (locked head first lock) = rests
  row_tale (parked some) = parks_it
  row_tale (stopping n kind) = acts _ _ (trapped_plain kind p n) (λ q. refl)
  row_tale (going head z heads) = acts _ _ (acted_plain p head.number) (still (gone_on z i) refl)
  row_tale (writing head cell z heads) = acts _ _ (acted_plain p head.number) (still (put cell z (gone_on (pos 1) i)) refl)
  row_tale (calling head awaits callee zs heads room) =
      acts _ _ (acted_plain p head.number) (still (above (entered program callee zs awaits) (gone_on (pos 1) i)) refl)
  row_tale (leaving n) = acts _ _ (acted_plain p n) (still (resumed i) (waits-caller i i.below))
  row_tale (answering n cell z) = acts _ _ (acted_plain p n) (still (put cell z (resumed i)) (waits-caller i i.below))
  row_tale (spawning head receiver callee zs heads few room) = starts _ _ head.number (born _ _ refl refl _)
  row_tale (printing head bytes heads room) = acts _ _ (acted_plain p head.number) (still (gone_on (pos 1) i) refl)
  row_tale (turning_lock head what k now heads becomes) = acts _ _ (acted_plain p head.number) (still (gone_on (pos 1) i) refl)
  row_tale (marking head heads) =
      acts _ _ (acted_plain p head.number) (λ q. still-marked p (changed p (λ _. gone_on (pos 1) i) s.instances) q ∙ still (gone_on (pos 1) i) refl q)
  row_tale (returning n z none lockless unmarked) = brings _ n (brought z (parent_of p) refl)
  row_tale (placing oldest others cell z n taking_it) =
      takes _ _ n (taken oldest others taking_it.waits (put cell z (record i { waiting = others })) refl)
  row_tale (taking oldest others inlet zs n taking_it) =
      takes _ _ n (taken oldest others taking_it.waits (above (entered program inlet zs None) (record i { waiting = others })) refl)
  row_tale (aborting aborted none) = leaves _ (λ q other. beside-without p q s.instances other)
