-- What becomes of a child, by what took its value where it lived.
use Rattle.std.proofs.Common.{◌≡◌, ℕ, suc, ℤ, pos, Bool, true, false, not, ◌||◌, List, [], ◌∷◌, ◌++◌, length, Option, Some, None, ◌⊎◌, inl, inr}
use Rattle.std.proofs.Common.{is_some, refl, sym, ap, subst, ◌∙◌, if◌then◌else◌}
use Rattle.std.specs.Prelude.{option_map}
use Rattle.std.specs.List.{list_any}
use Rattle.std.proofs.lemmas.List.Folds.{list_any-append}
use Rattle.std.proofs.lemmas.Option.{same_Some}
use Rattle.std.proofs.lemmas.Bool.{and_parts, cond-true, cond-false, not-true}
use Rattle.std.proofs.Math.Bool.{or-false}
use Rattle.cilk_laws_model.specs.labelled.Labelled.{Labelled}
use Rattle.cilk_laws_model.specs.model.Path.{Path, same_path, parent_of, is_below}
use Rattle.cilk_laws_model.specs.model.Instance.{Receiver, Delivery, Instance}
use Rattle.cilk_laws_model.specs.model.State.{Instances, State, instance_at, is_live, changed, without}
use Rattle.cilk_laws_model.specs.model.Change.{gone_on, deliveries, after_return_to, after_marks}
use Rattle.cilk_laws_model.specs.model.Event.{Event, acted, spawned, delivered, returned, ended, trapped, moved}
use Rattle.cilk_laws_model.specs.model.Fate.{Fate, lives, has_returned, was_delivered, was_aborted, fate_by, was_made}
use Rattle.cilk_laws_model.specs.model.Pick.{Step, ends, step_of_instance}
use Rattle.cilk_laws_model.specs.model.Choice.{Choice}
use Rattle.cilk_laws_model.specs.model.Run.{Position, refusal_of, next_of, event_of, event_of_step, state_after, after, position_after}
use Rattle.cilk_laws_model.proofs.Entries.{same-is, same-self, same-sym}
use Rattle.cilk_laws_model.proofs.Rows.{step_row}
use Rattle.cilk_laws_model.proofs.Live.{Fewer, Lives, row_lives}
use Rattle.cilk_laws_model.proofs.Lookups.{marked, at-marked_below, at-marked_beside}
use Rattle.cilk_laws_model.proofs.Paths.{Origin, origin}
use Rattle.cilk_laws_model.proofs.Events.{told, told-push, told-plain}
use Rattle.cilk_laws_model.proofs.Waits.{waits_at, beside-without, at-brought}
use Rattle.cilk_laws_model.proofs.Tales.{IsOf, Brought, Tale, rests, parks_it, acts, takes, starts, brings, leaves, row_tale}
use Rattle.cilk_laws_model.proofs.Sound.{Lacks, Sound, lacks_living}
use Rattle.cilk_laws_model.proofs.Told.{Told, delivered_fate, was_returned}
use Rattle.cilk_laws_model.proofs.Ended.{waits_live}
use Rattle.cilk_laws_model.proofs.Born.{fresh}
use Rattle.cilk_laws_model.proofs.Fates.{told_at}
use Rattle.cilk_laws.proofs.Runs.{Stepped, Rested, what_happens, possible_after}
use Rattle.cilk_laws.proofs.Ways.{Way, way_of}
use Rattle.cilk_laws.proofs.Fields.{field, field-replaced, Kept, AbortStep, fixed_receiver, way_kept}
use Rattle.cilk_laws.proofs.Marks.{Returns, returns_by}
use Rattle.cilk_laws.proofs.Silent.{made_still}

abbrev receiver_of : Instance → Option Receiver
receiver_of i = i.receiver

-- whether c's value waits
abbrev pub has : Path → List Delivery → Bool
has c ds = list_any (λ d. same_path d.child c) ds

-- c, whose value this takes
pub record Track (c : Path) (receiver : Option Receiver) (events : List Event) (entries : Instances) : Type 0 where
  pub made : was_made events c ≡ true
  pub alive : told events c ≡ lives → field receiver_of entries c ≡ Some receiver
  pub waits : told events c ≡ has_returned → (q : Path) (ds : List Delivery) → parent_of c ≡ Some q → waits_at entries q ≡ Some ds → has c ds ≡ is_some receiver
  pub taken : (k : ℕ) → told events c ≡ was_delivered k → is_some receiver ≡ true

-- what lives after an event lived before
lived_before : (k : ℕ) (c : Path) (e : Event) (fate : Fate) → fate_by k c e fate ≡ lives → fate ≡ lives
lived_before k c (acted x n) fate h = h
lived_before k c (spawned x n) fate h = h
lived_before k c (delivered x n) fate h = by (same_path x c) h
  where
    by : (b : Bool) → (if b then was_delivered k else fate) ≡ lives → fate ≡ lives
    by true e = cc
    by false e = e
lived_before k c (returned x n) fate h = by (same_path x c) h
  where
    by : (b : Bool) → (if b then has_returned else fate) ≡ lives → fate ≡ lives
    by true e = cc
    by false e = e
lived_before k c (ended x) fate h = by (same_path x c) h
  where
    by : (b : Bool) → (if b then was_aborted k else fate) ≡ lives → fate ≡ lives
    by true e = cc
    by false e = e
lived_before k c (trapped kind x n) fate h = h
lived_before k c moved fate h = h

-- what takes a value is not changed by a mark
marked_same : (o : Option Instance) → option_map receiver_of (option_map marked o) ≡ option_map receiver_of o
marked_same None = refl
marked_same (Some x) = refl

receiver_kept : (s : State) (p : Path) (i : Instance) → instance_at s.instances p ≡ Some i → (q : Path)
    → field receiver_of (after_marks s p i).instances q ≡ field receiver_of s.instances q
receiver_kept s p i here q = by (is_below p q) refl
  where
    going : field receiver_of (changed p (λ _. gone_on (pos 1) i) s.instances) q ≡ field receiver_of s.instances q
    going = field-replaced receiver_of p i (gone_on (pos 1) i) s.instances here refl q

    by : (b : Bool) → is_below p q ≡ b → field receiver_of (after_marks s p i).instances q ≡ field receiver_of s.instances q
    by true e =
        ap (option_map receiver_of) (at-marked_below p q (changed p (λ _. gone_on (pos 1) i) s.instances) e)
        ∙ marked_same (instance_at (changed p (λ _. gone_on (pos 1) i) s.instances) q) ∙ going
    by false e = ap (option_map receiver_of) (at-marked_beside p q (changed p (λ _. gone_on (pos 1) i) s.instances) e) ∙ going

-- no delivery of c
lacks_has : (c : Path) (ds : List Delivery) → Lacks c ds → has c ds ≡ false
lacks_has c [] h = refl
lacks_has c (d ∷ ds) h = ap (λ b. b || has c ds) (same-sym d.child c ∙ h.0) ∙ lacks_has c ds h.1

foreign_has : (p c : Path) (ds : List Delivery) → IsOf p ds → same_path p c ≡ false → has c ds ≡ false
foreign_has p c [] own other = refl
foreign_has p c (d ∷ []) own other = ap (λ x. same_path x c || false) own ∙ ap (λ b. b || false) other
foreign_has p c (d ∷ e ∷ ds) own other = absurd own

own_has : (p : Path) (z : ℤ) (o : Option Receiver) (aborted : Bool) → aborted ≡ false → has p (deliveries p z o aborted) ≡ is_some o
own_has p z None aborted h = refl
own_has p z (Some receiver) true h = cc
own_has p z (Some receiver) false h = ap (λ b. b || false) (same-self p)

has-append : (c : Path) (ds new : List Delivery) → has c (ds ++ new) ≡ (has c ds || has c new)
has-append c ds new = list_any-append (λ d. same_path d.child c) ds new

appended : (o : Option (List Delivery)) (new ds : List Delivery) → option_map (λ xs. xs ++ new) o ≡ Some ds → (old : List Delivery)
    × (o ≡ Some old) × (old ++ new ≡ ds)
appended None new ds h = cc
appended (Some old) new ds h = (old, refl, cc)

parent_made : (events : List Event) (entries : Instances) (c q : Path) → Told events entries → was_made events c ≡ true
    → parent_of c ≡ Some q → was_made events q ≡ true
parent_made events entries c q h made parent =
    let at = subst (λ o. Origin c o) parent (origin c) in
    h.parents q at.0 (ap (was_made events) (sym at.1) ∙ made)

module _ (program : Labelled) (s : State) (p : Path) (i : Instance) (here : instance_at s.instances p ≡ Some i) (events : List Event)
    (h : Told events s.instances) (c : Path) (receiver : Option Receiver) (track : Track c receiver events s.instances) where
  live_p : is_live s.instances p ≡ true
  live_p = ap is_some here

  alive_next : (step : Step) → Way program s p i step → Told (events ++ event_of_step step ∷ []) (state_after s step).instances
      → told (events ++ event_of_step step ∷ []) c ≡ lives → field receiver_of (state_after s step).instances c ≡ Some receiver
  alive_next step way next fate = by (way_kept receiver_of fixed_receiver program s p i here way)
    where
      before : told events c ≡ lives
      before = lived_before (suc (length events)) c (event_of_step step) (told events c) (sym (told-push c events (event_of_step step)) ∙ fate)

      by : Kept receiver_of s.instances (state_after s step).instances ⊎ AbortStep s p i step
          → field receiver_of (state_after s step).instances c ≡ Some receiver
      by (inl kept) =
          kept c (h.living c track.made before) (next.living c (made_still events (event_of_step step) c track.made) fate) ∙ track.alive before
      by (inr aborted) = ap (λ (t : State). field receiver_of t.instances c) aborted.leads ∙ receiver_kept s p i here c ∙ track.alive before

  -- a fate of Delivered is old, or c's value was taken now
  taken_next : (step : Step) → is_live s.instances p ≡ true → Tale s p step → Lives s p step → (k : ℕ)
      → told (events ++ event_of_step step ∷ []) c ≡ was_delivered k → is_some receiver ≡ true
  taken_next step live rests alive k fate = track.taken k (sym (told-push c events moved) ∙ fate)
  taken_next step live parks_it alive k fate = track.taken k (sym (told-push c events moved) ∙ fate)
  taken_next step live (acts t did plain still) alive k fate = track.taken k (sym (told-plain events did plain c) ∙ fate)
  taken_next step live (takes t x n taking) alive k fate = by (same_path x c) refl
    where
      by : (b : Bool) → same_path x c ≡ b → is_some receiver ≡ true
      by true e =
          let is = same-is x c e in
          let was = was_returned events (events ++ delivered x n ∷ []) s.instances t.instances p x (suc (length events)) h
          (delivered_fate x n events) alive taking in
          let sound : Sound events p (taking.oldest ∷ taking.others) = h.waits p (taking.oldest ∷ taking.others) taking.before in
          let first : same_path taking.oldest.child c ≡ true = ap (λ y. same_path y c) (taking.child ∙ is) ∙ same-self c in
          sym
          (track.waits (ap (told events) (sym is) ∙ was) p (taking.oldest ∷ taking.others)
          (ap parent_of (sym is ∙ sym taking.child) ∙ sound.0) taking.before)
          ∙ ap (λ b. b || has c taking.others) first
      by false e = track.taken k (sym (told-push c events (delivered x n) ∙ cond-false (same_path x c) _ _ e) ∙ fate)
  taken_next step live (starts t x n started) alive k fate = track.taken k (sym (told-push c events (spawned x n)) ∙ fate)
  taken_next step live (brings t n brought) alive k fate = by (same_path p c) refl
    where
      by : (b : Bool) → same_path p c ≡ b → is_some receiver ≡ true
      by true e = let both : has_returned ≡ was_delivered k = sym (told-push c events (returned p n) ∙ cond-true (same_path p c) _ _ e) ∙ fate in cc
      by false e = track.taken k (sym (told-push c events (returned p n) ∙ cond-false (same_path p c) _ _ e) ∙ fate)
  taken_next step live (leaves t beside) alive k fate = by (same_path p c) refl
    where
      by : (b : Bool) → same_path p c ≡ b → is_some receiver ≡ true
      by true e =
          let both : was_aborted (suc (length events)) ≡ was_delivered k = sym (told-push c events (ended p) ∙ cond-true (same_path p c) _ _ e)
          ∙ fate in cc
      by false e = track.taken k (sym (told-push c events (ended p) ∙ cond-false (same_path p c) _ _ e) ∙ fate)

  -- nothing waits at what ended
  away : (t : State) → Fewer p s.instances t.instances → (q : Path) (ds : List Delivery) → waits_at t.instances q ≡ Some ds → same_path q p ≡ false
  away t fewer q ds there =
      let lives = sym (fewer.live q) ∙ waits_live (instance_at t.instances q) ds there in
      not-true (same_path q p) (and_parts (not (same_path q p)) (is_live s.instances q) lives).0

  -- what c brings as it returns
  own_waits : (t : State) (n : ℕ) → same_path p c ≡ true → Fewer p s.instances t.instances → Returns s p i (ends t (returned p n)) p
      → (q : Path) (ds : List Delivery)
      → parent_of c ≡ Some q → waits_at t.instances q ≡ Some ds → has c ds ≡ is_some receiver
  own_waits t n same fewer is q ds parent there =
      let at : p ≡ c = same-is p c same in
      let new = deliveries p is.value i.receiver i.aborted in
      let other : same_path q p ≡ false = away t fewer q ds there in
      let leads : t ≡ after_return_to (Some q) s p i is.value = is.leads ∙ ap (λ o. after_return_to o s p i is.value) (ap parent_of at ∙ parent) in
      let brought : option_map (λ xs. xs ++ new) (waits_at s.instances q) ≡ Some ds =
      ap (option_map (λ xs. xs ++ new)) (sym (beside-without p q s.instances other)) ∙ sym (at-brought q new (without p s.instances))
      ∙ ap (λ (x : State). waits_at x.instances q) (sym leads) ∙ there in
      let parts = appended (waits_at s.instances q) new ds brought in
      let fate : told events c ≡ lives = ap (told events) (sym at) ∙ h.alive p live_p in
      let old : has c parts.0 ≡ false = lacks_has c parts.0 (lacks_living events c q parts.0 fate (h.waits q parts.0 parts.1)) in
      let takes_it : receiver ≡ i.receiver =
      same_Some receiver i.receiver (sym (track.alive fate) ∙ ap (field receiver_of s.instances) (sym at) ∙ ap (option_map receiver_of) here) in
      ap (has c) (sym parts.2) ∙ has-append c parts.0 new ∙ ap (λ b. b || has c new) old
      ∙ ap (λ x. has x new) (sym at) ∙ own_has p is.value i.receiver i.aborted is.acting.unmarked ∙ ap is_some (sym takes_it)

  -- another child of the same parent returned, or one of another
  other_waits : (t : State) (n : ℕ) → same_path p c ≡ false → told events c ≡ has_returned → Fewer p s.instances t.instances
      → Brought p s.instances t.instances → (q : Path) (ds : List Delivery)
      → parent_of c ≡ Some q → waits_at t.instances q ≡ Some ds → has c ds ≡ is_some receiver
  other_waits t n differs fate fewer brought q ds parent there = by (parent_of p) refl
    where
      other : same_path q p ≡ false
      other = away t fewer q ds there

      beside_it : ((r : Path) → parent_of p ≡ Some r → same_path q r ≡ false) → has c ds ≡ is_some receiver
      beside_it apart = track.waits fate q ds parent (sym (brought.beside q other apart) ∙ there)

      with_it : parent_of p ≡ Some q → has c ds ≡ is_some receiver
      with_it e =
          let parts = appended (waits_at s.instances q) brought.new ds (sym (brought.parent q e other) ∙ there) in
          ap (has c) (sym parts.2) ∙ has-append c parts.0 brought.new ∙ ap (λ b. has c parts.0 || b) (foreign_has p c brought.new brought.is_own differs)
          ∙ or-false (has c parts.0) ∙ track.waits fate q parts.0 parent parts.1

      by : (o : Option Path) → parent_of p ≡ o → has c ds ≡ is_some receiver
      by None e = beside_it (λ r f. let both : None ≡ Some r = sym e ∙ f in cc)
      by (Some r) e = same_by (same_path q r) refl
        where
          same_by : (b : Bool) → same_path q r ≡ b → has c ds ≡ is_some receiver
          same_by true f = with_it (e ∙ ap (λ x. Some x) (sym (same-is q r f)))
          same_by false f = beside_it (λ x g. ap (same_path q) (same_Some x r (sym g ∙ e)) ∙ f)

  waits_next : (step : Step) → Tale s p step → Lives s p step → Way program s p i step
      → told (events ++ event_of_step step ∷ []) c ≡ has_returned → (q : Path) (ds : List Delivery)
      → parent_of c ≡ Some q → waits_at (state_after s step).instances q ≡ Some ds → has c ds ≡ is_some receiver
  waits_next step rests alive way fate q ds parent there = track.waits (sym (told-push c events moved) ∙ fate) q ds parent there
  waits_next step parks_it alive way fate q ds parent there = track.waits (sym (told-push c events moved) ∙ fate) q ds parent there
  waits_next step (acts t did plain still) alive way fate q ds parent there =
      track.waits (sym (told-plain events did plain c) ∙ fate) q ds parent (sym (still q) ∙ there)
  waits_next step (takes t x n taking) alive way fate q ds parent there = by (same_path x c) refl
    where
      at_p : told events c ≡ has_returned → same_path x c ≡ false → q ≡ p → has c ds ≡ is_some receiver
      at_p before other is =
          let rest : taking.others ≡ ds = same_Some taking.others ds (sym taking.now ∙ ap (waits_at t.instances) (sym is) ∙ there) in
          let first : same_path taking.oldest.child c ≡ false = ap (λ y. same_path y c) taking.child ∙ other in
          ap (has c) (sym rest) ∙ ap (λ b. b || has c taking.others) (sym first)
          ∙ track.waits before p (taking.oldest ∷ taking.others) (parent ∙ ap (λ y. Some y) is) taking.before

      at_by : told events c ≡ has_returned → same_path x c ≡ false → (b : Bool) → same_path q p ≡ b → has c ds ≡ is_some receiver
      at_by before other true e = at_p before other (same-is q p e)
      at_by before other false e = track.waits before q ds parent (sym (taking.beside q e) ∙ there)

      by : (b : Bool) → same_path x c ≡ b → has c ds ≡ is_some receiver
      by true e =
          let both : was_delivered (suc (length events))
          ≡ has_returned = sym (told-push c events (delivered x n) ∙ cond-true (same_path x c) _ _ e) ∙ fate in cc
      by false e = at_by (sym (told-push c events (delivered x n) ∙ cond-false (same_path x c) _ _ e) ∙ fate) e (same_path q p) refl
  waits_next step (starts t x n started) alive way fate q ds parent there = by (same_path x q) refl
    where
      by : (b : Bool) → same_path x q ≡ b → has c ds ≡ is_some receiver
      by true e =
          let unmade = fresh events s.instances t.instances p x n h alive started in
          let made = ap (was_made events) (same-is x q e) ∙ parent_made events s.instances c q h track.made parent in
          let both : true ≡ false = sym made ∙ unmade in cc
      by false e = track.waits (sym (told-push c events (spawned x n)) ∙ fate) q ds parent (sym (started.beside q e) ∙ there)
  waits_next step (brings t n brought) alive way fate q ds parent there = by (same_path p c) refl
    where
      by : (b : Bool) → same_path p c ≡ b → has c ds ≡ is_some receiver
      by true e = own_waits t n e alive (returns_by program s p i p n (ends t (returned p n)) way refl) q ds parent there
      by false e = other_waits t n e (sym (told-push c events (returned p n) ∙ cond-false (same_path p c) _ _ e) ∙ fate) alive brought q ds parent there
  waits_next step (leaves t beside) alive way fate q ds parent there = by (same_path p c) refl
    where
      by : (b : Bool) → same_path p c ≡ b → has c ds ≡ is_some receiver
      by true e =
          let both : was_aborted (suc (length events)) ≡ has_returned = sym (told-push c events (ended p) ∙ cond-true (same_path p c) _ _ e)
          ∙ fate in cc
      by false e =
          track.waits (sym (told-push c events (ended p) ∙ cond-false (same_path p c) _ _ e) ∙ fate) q ds parent
          (sym (beside q (away t alive q ds there)) ∙ there)

  pub step_track : Told (events ++ event_of_step (step_of_instance program s p i) ∷ []) (state_after s (step_of_instance program s p i)).instances
      → Track c receiver (events ++ event_of_step (step_of_instance program s p i) ∷ []) (state_after s (step_of_instance program s p i)).instances
  step_track next =
      let step = step_of_instance program s p i in
      let row = step_row program s p i in
      let way = way_of program s p i in
      let tale = row_tale program s p i here row in
      let alive = row_lives program s p i here row in
      record {
        made = made_still events (event_of_step step) c track.made;
        alive = alive_next step way next;
        waits = waits_next step tale alive way;
        taken = taken_next step live_p tale alive;
      }

moved_track : (c : Path) (receiver : Option Receiver) (events : List Event) (entries : Instances) → Track c receiver events entries
    → Track c receiver (events ++ moved ∷ []) entries
moved_track c receiver events entries track =
    let same : told (events ++ moved ∷ []) c ≡ told events c = told-push c events moved in
    record {
      made = made_still events moved c track.made;
      alive = λ fate. track.alive (sym same ∙ fate);
      waits = λ fate. track.waits (sym same ∙ fate);
      taken = λ k fate. track.taken k (sym same ∙ fate);
    }

-- over one choice
pub keeps_track : (program : Labelled) (n : ℕ) (choices : List Choice) (choice : Choice) (at : Position) → after program n choices ≡ Some at
    → refusal_of program at.standing choice ≡ None
    → (c : Path) (receiver : Option Receiver) → Track c receiver at.events at.standing.state.instances
    → Track c receiver (position_after program at choice).events (position_after program at choice).standing.state.instances
keeps_track program n choices choice at known free c receiver track = by (what_happens program at.standing choice)
  where
    next_told : Told (at.events ++ event_of program at.standing choice ∷ []) (next_of program at.standing choice).state.instances
    next_told = told_at program n (choices ++ choice ∷ []) (position_after program at choice) (possible_after program n choices choice at known free)

    to : (e : Event) (t : State) → event_of program at.standing choice ≡ e → (next_of program at.standing choice).state ≡ t
        → (Told (at.events ++ e ∷ []) t.instances → Track c receiver (at.events ++ e ∷ []) t.instances)
        → Track c receiver (at.events ++ event_of program at.standing choice ∷ []) (next_of program at.standing choice).state.instances
    to e t is leads f =
        subst (λ x. Track c receiver (at.events ++ x ∷ []) (next_of program at.standing choice).state.instances) (sym is)
        (subst (λ (x : State). Track c receiver (at.events ++ e ∷ []) x.instances) (sym leads)
        (f (subst (λ (x : State). Told (at.events ++ e ∷ []) x.instances) leads
        (subst (λ x. Told (at.events ++ x ∷ []) (next_of program at.standing choice).state.instances) is next_told))))

    by : Stepped program at.standing choice ⊎ Rested program at.standing choice
        → Track c receiver (at.events ++ event_of program at.standing choice ∷ []) (next_of program at.standing choice).state.instances
    by (inl stepped) =
        to _ _ stepped.did stepped.leads
        (step_track program at.standing.state stepped.path stepped.instance stepped.lives at.events (told_at program n choices at known) c receiver track)
    by (inr rested) = to moved at.standing.state rested.did rested.leads (λ k. moved_track c receiver at.events at.standing.state.instances track)

-- where c lives
pub first_track : (events : List Event) (entries : Instances) (c : Path) (i : Instance) → Told events entries
    → instance_at entries c ≡ Some i → Track c i.receiver events entries
first_track events entries c i h here =
    let fate : told events c ≡ lives = h.alive c (ap is_some here) in
    record {
      made = h.made c (ap is_some here);
      alive = λ f. ap (option_map receiver_of) here;
      waits = λ f. let both : lives ≡ has_returned = sym fate ∙ f in cc;
      taken = λ k f. let both : lives ≡ was_delivered k = sym fate ∙ f in cc;
    }
