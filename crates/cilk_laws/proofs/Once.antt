-- No path is spawned twice, and no value is taken twice.
use Rattle.std.proofs.Common.{◌≡◌, ℕ, suc, ◌+◌, ◌≤◌, Bool, true, false, ◌||◌, cond, List, [], ◌∷◌, ◌++◌, length, Some, ◌⊎◌, inl, inr, is_some, refl}
use Rattle.std.proofs.Common.{sym, ap, subst, ◌∙◌, if◌then◌else◌, arith, count_by}
use Rattle.std.proofs.lemmas.List.Sums.{sum_by_push}
use Rattle.std.proofs.lemmas.Bool.{or_right}
use Rattle.std.proofs.Math.Bool.{or-false}
use Rattle.cilk_laws_model.specs.labelled.Labelled.{Labelled}
use Rattle.cilk_laws_model.specs.model.Path.{Path, same_path}
use Rattle.cilk_laws_model.specs.model.State.{State, is_live}
use Rattle.cilk_laws_model.specs.model.Event.{Event, acted, spawned, delivered, returned, ended, trapped, moved}
use Rattle.cilk_laws_model.specs.model.Fate.{Fate, lives, has_returned, was_delivered, was_aborted, fate_by, is_birth, was_made}
use Rattle.cilk_laws_model.specs.model.Pick.{Step}
use Rattle.cilk_laws_model.specs.model.Choice.{Choice}
use Rattle.cilk_laws_model.specs.model.Run.{Position, event_of, event_of_step, after}
use Rattle.cilk_laws_model.proofs.Entries.{same-is, same-self}
use Rattle.cilk_laws_model.proofs.Rows.{step_row}
use Rattle.cilk_laws_model.proofs.Live.{Lives, row_lives}
use Rattle.cilk_laws_model.proofs.Family.{not_root}
use Rattle.cilk_laws_model.proofs.Events.{told, told-push, made-push, IsPlain}
use Rattle.cilk_laws_model.proofs.Tales.{Tale, rests, parks_it, acts, takes, starts, brings, leaves, row_tale}
use Rattle.cilk_laws_model.proofs.Told.{Told, delivered_fate, was_returned}
use Rattle.cilk_laws_model.proofs.Born.{fresh}
use Rattle.cilk_laws_model.proofs.Fates.{told_at}
use Rattle.cilk_laws.specs.Moments.{is_delivery}
use Rattle.cilk_laws.specs.ChildLaws.{TheMadeAreSpawnedOnce, DeliveredOnce}
use Rattle.cilk_laws.proofs.Runs.{each_position, Stepped, Rested, what_happens}

-- what an event finds of the fate that it changes
abbrev pub Finds : List Event → Event → Type 0
Finds events (spawned c n) = (was_made events c ≡ false) × (c ≡ [] → ⊥)
Finds events (delivered c n) = told events c ≡ has_returned
Finds events (returned p n) = told events p ≡ lives
Finds events (ended p) = told events p ≡ lives
Finds events other = Unit {0}

plain_finds : (events : List Event) (e : Event) → IsPlain e → Finds events e
plain_finds events (acted p n) plain = tt
plain_finds events (spawned c n) plain =
    let both : true ≡ false = sym (same-self c) ∙ plain.birth c in cc
plain_finds events (delivered c n) plain = by (same_path c c) (same-self c) (plain.fate 0 c lives)
  where
    by : (b : Bool) → b ≡ true → (if b then was_delivered 0 else lives) ≡ lives → told events c ≡ has_returned
    by true e h = cc
    by false e h = cc
plain_finds events (returned p n) plain = by (same_path p p) (same-self p) (plain.fate 0 p lives)
  where
    by : (b : Bool) → b ≡ true → (if b then has_returned else lives) ≡ lives → told events p ≡ lives
    by true e h = cc
    by false e h = cc
plain_finds events (ended p) plain = by (same_path p p) (same-self p) (plain.fate 0 p lives)
  where
    by : (b : Bool) → b ≡ true → (if b then was_aborted 0 else lives) ≡ lives → told events p ≡ lives
    by true e h = cc
    by false e h = cc
plain_finds events (trapped kind p n) plain = tt
plain_finds events moved plain = tt

step_finds : (events : List Event) (s : State) (p : Path) {taken : Step} → is_live s.instances p ≡ true → Tale s p taken → Lives s p taken
    → Told events s.instances → Finds events (event_of_step taken)
step_finds events s p live rests alive h = tt
step_finds events s p live parks_it alive h = tt
step_finds events s p live (acts t did plain still) alive h = plain_finds events did plain
step_finds events s p live (takes t c n taking) alive h =
    was_returned events (events ++ delivered c n ∷ []) s.instances t.instances p c (suc (length events)) h (delivered_fate c n events) alive taking
step_finds events s p live (starts t c n started) alive h =
    (fresh events s.instances t.instances p c n h alive started, λ e. not_root p (alive.number + 1) (sym e ∙ alive.child))
step_finds events s p live (brings t n brought) alive h = h.alive p live
step_finds events s p live (leaves t beside) alive h = h.alive p live

stepped_finds : (program : Labelled) (at : Position) (choice : Choice) → Told at.events at.standing.state.instances
    → Stepped program at.standing choice ⊎ Rested program at.standing choice
    → Finds at.events (event_of program at.standing choice)
stepped_finds program at choice h (inl stepped) =
    let s = at.standing.state in
    let p = stepped.path in
    let i = stepped.instance in
    let row = step_row program s p i in
    subst (Finds at.events) (sym stepped.did)
    (step_finds at.events s p (ap is_some stepped.lives) (row_tale program s p i stepped.lives row) (row_lives program s p i stepped.lives row) h)
stepped_finds program at choice h (inr rested) = subst (Finds at.events) (sym rested.did) tt

pub finds : (program : Labelled) (n : ℕ) (choices : List Choice) (choice : Choice) (at : Position) → after program n choices ≡ Some at
    → Finds at.events (event_of program at.standing choice)
finds program n choices choice at known =
    stepped_finds program at choice (told_at program n choices at known) (what_happens program at.standing choice)

-- how many Delivered events a fate tells of
abbrev deliveries_of : Fate → ℕ
deliveries_of (was_delivered k) = 1
deliveries_of other = 0

abbrev Counts : List Event → Path → Type 0
Counts events p = count_by (is_delivery p) events ≡ deliveries_of (told events p)

counts_by : (events : List Event) (p : Path) (e : Event) → Finds events e → Counts events p
    → count_by (is_delivery p) events + cond (is_delivery p e) 1 0 ≡ deliveries_of (fate_by (suc (length events)) p e (told events p))
counts_by events p (acted q n) f h = omega (arith, h)
counts_by events p (spawned q n) f h = omega (arith, h)
counts_by events p (delivered q n) f h = by (same_path q p) refl
  where
    by : (b : Bool) → same_path q p ≡ b
        → count_by (is_delivery p) events + cond b 1 0 ≡ deliveries_of (if b then was_delivered (suc (length events)) else told events p)
    by true e =
        let none : count_by (is_delivery p) events ≡ 0 = h ∙ ap deliveries_of (sym (ap (told events) (same-is q p e)) ∙ f) in omega arith
    by false e = omega (arith, h)
counts_by events p (returned q n) f h = by (same_path q p) refl
  where
    by : (b : Bool) → same_path q p ≡ b → count_by (is_delivery p) events + 0 ≡ deliveries_of (if b then has_returned else told events p)
    by true e =
        let none : count_by (is_delivery p) events ≡ 0 = h ∙ ap deliveries_of (sym (ap (told events) (same-is q p e)) ∙ f) in omega arith
    by false e = omega (arith, h)
counts_by events p (ended q) f h = by (same_path q p) refl
  where
    by : (b : Bool) → same_path q p ≡ b → count_by (is_delivery p) events + 0 ≡ deliveries_of (if b then was_aborted (suc (length events)) else told events p)
    by true e =
        let none : count_by (is_delivery p) events ≡ 0 = h ∙ ap deliveries_of (sym (ap (told events) (same-is q p e)) ∙ f) in omega arith
    by false e = omega (arith, h)
counts_by events p (trapped kind q n) f h = omega (arith, h)
counts_by events p moved f h = omega (arith, h)

counts_push : (events : List Event) (p : Path) (e : Event) → Finds events e → Counts events p → Counts (events ++ e ∷ []) p
counts_push events p e f h =
    sum_by_push (λ x. cond (is_delivery p x) 1 0) events e ∙ counts_by events p e f h ∙ ap deliveries_of (sym (told-push p events e))

counted_at : (program : Labelled) (n : ℕ) (choices : List Choice) (at : Position) → after program n choices ≡ Some at → (p : Path) → Counts at.events p
counted_at program n choices at known p =
    each_position program n (λ cs x. Counts x.events p)
    (λ cs c x there free h. counts_push x.events p (event_of program x.standing c) (finds program n cs c x there) h)
    choices at (λ m first. refl) known

at_most_one : (fate : Fate) → deliveries_of fate ≤ 1
at_most_one lives = omega arith
at_most_one has_returned = omega arith
at_most_one (was_delivered k) = omega arith
at_most_one (was_aborted k) = omega arith

pub delivered_once : DeliveredOnce
delivered_once program n choices at known p =
    let counted = counted_at program n choices at known p in
    let few = at_most_one (told at.events p) in
    omega arith

-- how often a path was spawned: the root never
abbrev births_of : Bool → Bool → ℕ
births_of true made = 0
births_of false true = 1
births_of false false = 0

abbrev Births : List Event → Path → Type 0
Births events p = count_by (is_birth p) events ≡ births_of (same_path p []) (was_made events p)

once_by : (root made : Bool) → births_of root made ≤ 1
once_by true made = omega arith
once_by false true = omega arith
once_by false false = omega arith

same_births : (events : List Event) (p : Path) (e : Event) → is_birth p e ≡ false → Births events p → Births (events ++ e ∷ []) p
same_births events p e none h =
    sum_by_push (λ x. cond (is_birth p x) 1 0) events e ∙ ap (λ b. count_by (is_birth p) events + cond b 1 0) none
    ∙ subst (λ m. count_by (is_birth p) events + 0 ≡ births_of (same_path p []) m)
    (sym (made-push p events e ∙ ap (λ b. was_made events p || b) none ∙ or-false (was_made events p)))
    (omega (arith, h))

new_birth : (events : List Event) (p : Path) (k : ℕ) → was_made events p ≡ false → (p ≡ [] → ⊥) → Births events p → Births (events ++ spawned p k ∷ []) p
new_birth events p k unmade child h = root_by (same_path p []) refl
  where
    root_by : (b : Bool) → same_path p [] ≡ b → Births (events ++ spawned p k ∷ []) p
    root_by true e = absurd (child (same-is p [] e))
    root_by false e =
        let before : count_by (is_birth p) events ≡ 0 = h ∙ ap (λ b. births_of b (was_made events p)) e ∙ ap (births_of false) unmade in
        let pushed : count_by (is_birth p) (events ++ spawned p k ∷ []) ≡ count_by (is_birth p) events + 1 =
        sum_by_push (λ x. cond (is_birth p x) 1 0) events (spawned p k) ∙ ap (λ b. count_by (is_birth p) events + cond b 1 0) (same-self p) in
        let made : was_made (events ++ spawned p k ∷ []) p ≡ true = made-push p events (spawned p k)
        ∙ or_right (was_made events p) (same_path p p) (same-self p) in
        let after : births_of (same_path p []) (was_made (events ++ spawned p k ∷ []) p) ≡ 1 =
        ap (λ b. births_of b (was_made (events ++ spawned p k ∷ []) p)) e ∙ ap (births_of false) made in
        omega (arith, before, pushed, after)

births_push : (events : List Event) (p : Path) (e : Event) → Finds events e → Births events p → Births (events ++ e ∷ []) p
births_push events p (acted q n) f h = same_births events p (acted q n) refl h
births_push events p (spawned q n) f h = by (same_path q p) refl
  where
    by : (b : Bool) → same_path q p ≡ b → Births (events ++ spawned q n ∷ []) p
    by true e =
        let is = same-is q p e in
        subst (λ x. Births (events ++ spawned x n ∷ []) p) (sym is)
        (new_birth events p n (ap (was_made events) (sym is) ∙ f.0) (λ none. f.1 (is ∙ none)) h)
    by false e = same_births events p (spawned q n) e h
births_push events p (delivered q n) f h = same_births events p (delivered q n) refl h
births_push events p (returned q n) f h = same_births events p (returned q n) refl h
births_push events p (ended q) f h = same_births events p (ended q) refl h
births_push events p (trapped kind q n) f h = same_births events p (trapped kind q n) refl h
births_push events p moved f h = same_births events p moved refl h

opening_births : (p : Path) → Births [] p
opening_births p = by (same_path p [])
  where
    by : (b : Bool) → 0 ≡ births_of b (b || false)
    by true = refl
    by false = refl

births_at : (program : Labelled) (n : ℕ) (choices : List Choice) (at : Position) → after program n choices ≡ Some at → (p : Path) → Births at.events p
births_at program n choices at known p =
    each_position program n (λ cs x. Births x.events p)
    (λ cs c x there free h. births_push x.events p (event_of program x.standing c) (finds program n cs c x there) h)
    choices at (λ m first. opening_births p) known

pub the_made_are_spawned_once : TheMadeAreSpawnedOnce
the_made_are_spawned_once program n choices at known = record {
  each = λ p.
      let births = births_at program n choices at known p in
      let few = once_by (same_path p []) (was_made at.events p) in
      omega arith;
  root = births_at program n choices at known [];
}
