-- What the events tell holds at each position, and fates move on.
use Rattle.std.proofs.Common.{◌≡◌, ℕ, suc, ◌+◌, Bool, true, false, ◌||◌, List, [], ◌∷◌, ◌++◌, length, length-append, Option, Some, None, is_none}
use Rattle.std.proofs.Common.{is_some, refl, sym, ap, subst, ◌∙◌, if◌then◌else◌, arith}
use Rattle.std.proofs.lemmas.Bool.{or_left}
use Rattle.std.specs.Prelude.{option_map}
use Rattle.cilk_model.specs.labelled.Labelled.{Labelled}
use Rattle.cilk_model.specs.Path.{Path, same_path, child_path}
use Rattle.cilk_model.specs.Instance.{Delivery, Instance, started}
use Rattle.cilk_model.specs.State.{Instances, State, instance_at, is_live, opening_state}
use Rattle.cilk_model.specs.Event.{Event, spawned, delivered, returned, ended, moved}
use Rattle.cilk_model.specs.Fate.{Fate, lives, has_returned, was_delivered, was_aborted, was_made, fate_of}
use Rattle.cilk_model.specs.Pick.{Step, step_of_live}
use Rattle.cilk_model.specs.Scheduler.{hand_of}
use Rattle.cilk_model.specs.Choice.{Act, step, pop, steal, Choice}
use Rattle.cilk_model.specs.Run.{Standing, Position, refusal_of, state_after, event_of_step, next_by_hand, next_by, next_of, event_by_hand, event_by}
use Rattle.cilk_model.specs.Run.{event_of, after_from, opening, is_crew, after_main, after, one_more}
use Rattle.cilk_laws_model.proofs.Entries.{same-is}
use Rattle.cilk_model.proofs.Runs.{after-push, went}
use Rattle.cilk_laws_model.proofs.Rows.{step_row}
use Rattle.cilk_laws_model.proofs.Live.{alike, Lives, row_lives}
use Rattle.cilk_laws_model.proofs.Family.{not_root}
use Rattle.cilk_laws_model.specs.FateLaws.{EachChoiceIsAnEvent, TheLivingLive, Moves, stays, returns, is_delivered, is_aborted, FatesMoveOn}
use Rattle.cilk_laws_model.proofs.Events.{told, moved_plain, IsPlain, told-plain, made-unborn, fate-made, HasFate, has_fate}
use Rattle.cilk_laws_model.proofs.Tales.{Tale, rests, parks_it, acts, takes, starts, brings, leaves, row_tale}
use Rattle.cilk_laws_model.proofs.Told.{Told, plain_told, FateBecomes, delivered_fate, returned_fate, ended_fate, was_returned, taken_told}
use Rattle.cilk_laws_model.proofs.Sound.{Sound}
use Rattle.cilk_laws_model.proofs.Ended.{left_told, brought_told}
use Rattle.cilk_laws_model.proofs.Born.{same, same_made, born_told}

still_told : (events : List Event) (entries : Instances) → Told events entries → Told (events ++ moved ∷ []) entries
still_told events entries h = plain_told events moved entries entries moved_plain h (alike entries) (λ q. refl)

step_told : (events : List Event) (s : State) (p : Path) {taken : Step} → is_live s.instances p ≡ true → Tale s p taken → Lives s p taken
    → Told events s.instances
    → Told (events ++ event_of_step taken ∷ []) (state_after s taken).instances
step_told events s p live rests alive h = still_told events s.instances h
step_told events s p live parks_it alive h = still_told events s.instances h
step_told events s p live (acts t did plain still) alive h = plain_told events did s.instances t.instances plain h alive still
step_told events s p live (takes t c n taking) alive h =
    taken_told events (events ++ delivered c n ∷ []) s.instances t.instances p c (suc (length events)) h (delivered_fate c n events) alive taking
step_told events s p live (starts t c n started) alive h = born_told events s.instances t.instances p c n h alive started
step_told events s p live (brings t n brought) alive h =
    let becomes = returned_fate p n events in
    brought_told events (events ++ returned p n ∷ []) s.instances t.instances p has_returned (λ e. cc) live h becomes alive brought becomes.now
step_told events s p live (leaves t beside) alive h =
    left_told events (events ++ ended p ∷ []) s.instances t.instances p (was_aborted (suc (length events))) (λ e. cc) live h (ended_fate p events) alive beside

-- what one more choice does to the fate of x
abbrev MovesAt : ℕ → Fate → List Event → Path → Type 0
MovesAt k fate events x = (later : Fate) × (fate_of events x ≡ Some later) × Moves k fate later

stays_at : (events after : List Event) (k : ℕ) (x : Path) (fate : Fate) → HasFate events x fate → told after x ≡ told events x
    → (was_made events x ≡ true → was_made after x ≡ true) → MovesAt k fate after x
stays_at events after k x fate has same made = (fate, fate-made after x (made has.made) ∙ ap Some (same ∙ has.is), stays fate)

plain_moves : (events : List Event) (e : Event) (k : ℕ) (x : Path) (fate : Fate) → IsPlain e → HasFate events x fate → MovesAt k fate (events ++ e ∷ []) x
plain_moves events e k x fate plain has =
    stays_at events (events ++ e ∷ []) k x fate has (told-plain events e plain x) (λ made. made-unborn events e x (plain.birth x) ∙ made)

fate_moved_by : (events after : List Event) (c : Path) (new : Fate) (k : ℕ) → FateBecomes c events after new → Moves k (told events c) new
    → (x : Path) (fate : Fate) (b : Bool) → same_path c x ≡ b → HasFate events x fate → MovesAt k fate after x
fate_moved_by events after c new k becomes moves x fate true e has =
    let is = same-is c x e in
    let was : told events c ≡ fate = ap (told events) is ∙ has.is in
    (new, fate-made after x (becomes.made x ∙ has.made) ∙ ap Some (ap (told after) (sym is) ∙ becomes.now), subst (λ f. Moves k f new) was moves)
fate_moved_by events after c new k becomes moves x fate false e has =
    stays_at events after k x fate has (becomes.beside x e) (λ made. becomes.made x ∙ made)

step_moves : (events : List Event) (s : State) (p : Path) {taken : Step} → is_live s.instances p ≡ true → Tale s p taken → Lives s p taken
    → Told events s.instances → (x : Path) (fate : Fate) → HasFate events x fate
    → MovesAt (suc (length events)) fate (events ++ event_of_step taken ∷ []) x
step_moves events s p live rests alive h x fate has = plain_moves events moved (suc (length events)) x fate moved_plain has
step_moves events s p live parks_it alive h x fate has = plain_moves events moved (suc (length events)) x fate moved_plain has
step_moves events s p live (acts t did plain still) alive h x fate has = plain_moves events did (suc (length events)) x fate plain has
step_moves events s p live (takes t c n taking) alive h x fate has =
    let becomes = delivered_fate c n events in
    let was = was_returned events (events ++ delivered c n ∷ []) s.instances t.instances p c (suc (length events)) h becomes alive taking in
    fate_moved_by events (events ++ delivered c n ∷ []) c (was_delivered (suc (length events))) (suc (length events)) becomes
    (subst (λ f. Moves (suc (length events)) f (was_delivered (suc (length events)))) (sym was) is_delivered) x fate (same_path c x) refl has
step_moves events s p live (starts t c n started) alive h x fate has =
    stays_at events (events ++ spawned c n ∷ []) (suc (length events)) x fate has (same events s.instances t.instances p c n h alive started x)
    (λ made. same_made events s.instances t.instances p c n h alive started x ∙ or_left (was_made events x) (same_path c x) made)
step_moves events s p live (brings t n brought) alive h x fate has =
    fate_moved_by events (events ++ returned p n ∷ []) p has_returned (suc (length events)) (returned_fate p n events)
    (subst (λ f. Moves (suc (length events)) f has_returned) (sym (h.alive p live)) returns) x fate (same_path p x) refl has
step_moves events s p live (leaves t beside) alive h x fate has =
    fate_moved_by events (events ++ ended p ∷ []) p (was_aborted (suc (length events))) (suc (length events)) (ended_fate p events)
    (subst (λ f. Moves (suc (length events)) f (was_aborted (suc (length events)))) (sym (h.alive p live)) is_aborted) x fate (same_path p x) refl has

-- both, of one choice
pub record GoesOn (events : List Event) (entries : Instances) (did : Event) (later : Instances) : Type 0 where
  pub now : Told (events ++ did ∷ []) later
  pub moves : (x : Path) (fate : Fate) → HasFate events x fate → MovesAt (suc (length events)) fate (events ++ did ∷ []) x

still_goes_on : (events : List Event) (entries : Instances) → Told events entries → GoesOn events entries moved entries
still_goes_on events entries h =
    record { now = still_told events entries h; moves = λ x fate has. plain_moves events moved (suc (length events)) x fate moved_plain has }

pub live_goes_on : (program : Labelled) (events : List Event) (s : State) (p : Path) (o : Option Instance) → instance_at s.instances p ≡ o
    → Told events s.instances
    → GoesOn events s.instances (event_of_step (step_of_live program s p o)) (state_after s (step_of_live program s p o)).instances
live_goes_on program events s p None e h = still_goes_on events s.instances h
live_goes_on program events s p (Some i) e h =
    let row = step_row program s p i in
    let here : is_live s.instances p ≡ true = ap is_some e in
    let alive = row_lives program s p i e row in
    let tale = row_tale program s p i e row in
    record {
      now = step_told events s p here tale alive h;
      moves = step_moves events s p here tale alive h;
    }

hand_goes_on : (program : Labelled) (events : List Event) (at : Standing) (w : ℕ) (o : Option Path) → Told events at.state.instances
    → GoesOn events at.state.instances (event_by_hand program at.state o) (next_by_hand program at w o).state.instances
hand_goes_on program events at w None h = still_goes_on events at.state.instances h
hand_goes_on program events at w (Some p) h = live_goes_on program events at.state p (instance_at at.state.instances p) refl h

pub act_goes_on : (program : Labelled) (events : List Event) (at : Standing) (w : ℕ) (act : Act) → Told events at.state.instances
    → GoesOn events at.state.instances (event_by program at w act) (next_by program at w act).state.instances
act_goes_on program events at w step h = hand_goes_on program events at w (hand_of at.scheduler.places w) h
act_goes_on program events at w pop h = still_goes_on events at.state.instances h
act_goes_on program events at w (steal v) h = still_goes_on events at.state.instances h

-- what holds of the events and the instances at the opening, and is kept by each choice, holds at each position
module _ (program : Labelled) (Holds : List Event → Standing → Type 0)
    (keeps : (events : List Event) (at : Standing) (c : Choice) → Holds events at
    → Holds (events ++ event_of program at c ∷ []) (next_of program at c)) where
  at_next : (at : Standing) (events : List Event) (choices : List Choice) (end : Position) (b : Bool)
      → (after_from program at events choices ≡ Some end → Holds end.events end.standing)
      → (if b then after_from program at events choices else None) ≡ Some end → Holds end.events end.standing
  at_next at events choices end true f h = f h
  at_next at events choices end false f h = cc

  each_from : (at : Standing) (events : List Event) (choices : List Choice) (end : Position) → Holds events at
      → after_from program at events choices ≡ Some end → Holds end.events end.standing
  each_from at events [] end holds h =
      let e : record { standing = at; events = events } ≡ end = cc in
      subst (λ (q : Position). Holds q.events q.standing) e holds
  each_from at events (c ∷ choices) end holds h =
      at_next (next_of program at c) (events ++ event_of program at c ∷ []) choices end (is_none (refusal_of program at c))
      (each_from (next_of program at c) (events ++ event_of program at c ∷ []) choices end (keeps events at c holds)) h

  each_main : (n : ℕ) (main : Option ℕ) (choices : List Choice) (end : Position) → ((m : ℕ) → Holds [] (opening program m n))
      → after_main program n main choices ≡ Some end → Holds end.events end.standing
  each_main n None choices end opens h = cc
  each_main n (Some m) choices end opens h =
      at_next (opening program m n) [] choices end (is_crew n) (each_from (opening program m n) [] choices end (opens m)) h

unborn_root : (p : Path) (k : ℕ) → (same_path (child_path p k) [] || false) ≡ true → ⊥
unborn_root p k h = not_root p k (sym (same-is (child_path p k) [] (by (same_path (child_path p k) []) h)))
  where
    by : (b : Bool) → (b || false) ≡ true → b ≡ true
    by true e = refl
    by false e = cc

root_by : (p : Path) (i : Instance) (b : Bool) → same_path [] p ≡ b → is_some (if b then Some i else None) ≡ true → [] ≡ p
root_by p i true e h = same-is [] p e
root_by p i false e h = cc

root_made : (p : Path) → [] ≡ p → was_made [] p ≡ true
root_made p e = ap (was_made []) (sym e)

made_root : (p : Path) (b : Bool) → same_path p [] ≡ b → (b || false) ≡ true → p ≡ []
made_root p true e h = same-is p [] e
made_root p false e h = cc

waits_none : (i : Instance) (ds : List Delivery) (b : Bool) → i.waiting ≡ []
    → option_map (λ (x : Instance). x.waiting) (if b then Some i else None) ≡ Some ds → [] ≡ ds
waits_none i ds true e h = let same : i.waiting ≡ ds = cc in sym e ∙ same
waits_none i ds false e h = cc

opening_told : (program : Labelled) (main : ℕ) → Told [] (opening_state program main).instances
opening_told program main =
    let root = started program main [] in
    record {
      made = λ p live. root_made p (root_by p root (same_path [] p) refl live);
      alive = λ p live. refl;
      living = λ p made alive. ap (is_live (opening_state program main).instances) (made_root p (same_path p []) refl made);
      unmade = λ p none. refl;
      counted = λ p k n made there. absurd (unborn_root p k made);
      parents = λ p k made. absurd (unborn_root p k made);
      waits = λ q ds there. let none = waits_none root ds (same_path [] q) refl there in subst (λ xs. Sound [] q xs) none tt;
    }

pub told_at : (program : Labelled) (n : ℕ) (choices : List Choice) (at : Position) → after program n choices ≡ Some at
    → Told at.events at.standing.state.instances
told_at program n choices at h =
    each_main program (λ events x. Told events x.state.instances)
    (λ events x c holds. (act_goes_on program events x c.worker c.act holds).now) n program.main choices at
    (λ main. opening_told program main) h

pub the_living_live : TheLivingLive
the_living_live program n choices at h p =
    let all = told_at program n choices at h in (
      λ fate. let has = has_fate at.events p lives fate in all.living p has.made has.is,
      λ live. fate-made at.events p (all.made p live) ∙ ap Some (all.alive p live),
    )

counts_next : (program : Labelled) (c : Choice) (at : Standing) (e : Event) (events : List Event) (choices : List Choice) (end : Position) (b : Bool)
    → (after_from program at (events ++ e ∷ []) choices ≡ Some end → length end.events ≡ length (events ++ e ∷ []) + length choices)
    → (if b then after_from program at (events ++ e ∷ []) choices else None) ≡ Some end → length end.events ≡ length events + length (c ∷ choices)
counts_next program c at e events choices end true rest h =
    let size = length-append events (e ∷ []) in
    let more = rest h in
    omega arith
counts_next program c at e events choices end false rest h = cc

counts_from : (program : Labelled) (at : Standing) (events : List Event) (choices : List Choice) (end : Position)
    → after_from program at events choices ≡ Some end → length end.events ≡ length events + length choices
counts_from program at events [] end h =
    let same : record { standing = at; events = events } ≡ end = cc in
    let size : length events ≡ length end.events = ap (λ (q : Position). length q.events) same in
    omega arith
counts_from program at events (c ∷ choices) end h =
    counts_next program c (next_of program at c) (event_of program at c) events choices end (is_none (refusal_of program at c))
    (counts_from program (next_of program at c) (events ++ event_of program at c ∷ []) choices end) h

counts_main : (program : Labelled) (n : ℕ) (main : Option ℕ) (choices : List Choice) (end : Position)
    → after_main program n main choices ≡ Some end → length end.events ≡ length choices
counts_main program n None choices end h = cc
counts_main program n (Some main) choices end h = by (is_crew n) h
  where
    by : (b : Bool) → (if b then after_from program (opening program main n) [] choices else None) ≡ Some end → length end.events ≡ length choices
    by true k = let size = counts_from program (opening program main n) [] choices end k in omega arith
    by false k = cc

pub each_choice_is_an_event : EachChoiceIsAnEvent
each_choice_is_an_event program n choices at h = counts_main program n program.main choices at h

pub fates_move_on : FatesMoveOn
fates_move_on program n choices choice at next before later p fate has =
    let one = went program choice at next (ap (one_more program choice) (sym before) ∙ sym (after-push program n choices choice) ∙ later) in
    let goes = act_goes_on program at.events at.standing choice.worker choice.act (told_at program n choices at before) in
    let moves = goes.moves p fate (has_fate at.events p fate has) in
    let size : suc (length at.events) ≡ suc (length choices) = ap suc (each_choice_is_an_event program n choices at before) in (
      moves.0,
      ap (λ (q : Position). fate_of q.events p) one.result ∙ moves.1,
      subst (λ k. Moves k fate moves.0) size moves.2,
    )
