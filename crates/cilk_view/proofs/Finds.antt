-- The frame of a live instance is the one that stands for it.
use Rattle.std.proofs.Common.{◌≡◌, ℕ, zero, suc, ◌+◌, ◌<◌, Bool, true, false, nat_eq, cond, List, [], ◌∷◌, drop, map, length, Option, Some, None}
use Rattle.std.proofs.Common.{refl, sym, ap, ◌∙◌, subst, arith, All, inl, inr, sum_by, count_by}
use Rattle.std.specs.Prelude.{slice_get, IfSome, is_some, option_map}
use Rattle.std.specs.Option.{option_or}
use Rattle.std.proofs.lemmas.Bool.Decides.{Decides-eqb}
use Rattle.std.proofs.lemmas.List.Elements.{All-head, All-tail}
use Rattle.std.proofs.lemmas.List.Sums.{sum_by-cons}
use Rattle.cilk_machine_agree.specs.syntax.Tree.{Program}
use Rattle.cilk_load.specs.labelled.Bodies.{label}
use Rattle.cilk_machine_agree.specs.model.Path.{Path, same_path, is_that}
use Rattle.cilk_machine_agree.specs.model.Instance.{Instance}
use Rattle.cilk_machine_agree.specs.model.State.{is_live, instance_at}
use Rattle.cilk_machine_agree.specs.model.Hands.{WorkerOf, named}
use Rattle.cilk_machine_agree.specs.model.Run.{Standing}
use Rattle.cilk_machine_agree.specs.runs.Hands.{times_held, EachInItsPlace}
use Rattle.cilk_machine_agree.proofs.runs_laws.Entries.{same-is}
use Rattle.cilk_machine_agree.specs.frame.Frames.{Frame}
use Rattle.cilk_machine_agree.specs.frame.Stands.{StandsFor}
use Rattle.cilk_machine_agree.specs.spawn.Nodes as nodes
use Rattle.cilk_machine_agree.specs.spawn.Nodes.{Node, IsTree, node_at, live_ids, path_at}
use Rattle.cilk_machine_agree.proofs.spawn_laws.Lists.{decide, those_pass}
use Rattle.cilk_machine_agree.proofs.spawn_laws.Trees.{live_there}
use Rattle.cilk_machine_agree.proofs.spawn_laws.Paths.{other_there}
use Rattle.cilk_machine_agree.specs.sched.Count.{AllAt, AllHeld}
use Rattle.cilk_machine_agree.proofs.sched_laws.Count.{AllHeld-weaker}
use Rattle.cilk_machine_agree.specs.Agrees.{MachineParts, Held, Agrees, entry_of, name_in}
use Rattle.cilk_machine_agree.proofs.Found.{found}
use Rattle.cilk_view.specs.Finding.{frame_among, frame_at_by, frame_at, frame_held, frame_live}

pub among_here : (id : ℕ) (deque : List Frame) (i : ℕ) (f : Frame) → Some f ≡ slice_get deque i → nat_eq f.id id ≡ true → Some f ≡ frame_among id (drop i deque)
among_here id [] i f e is = cc
among_here id (g ∷ deque) zero f e is =
    let same : g ≡ f = cc in
    sym (ap (λ (x : Frame). cond (nat_eq x.id id) (Some x) (frame_among id deque)) same ∙ ap (λ b. cond b (Some f) (frame_among id deque)) is)
among_here id (g ∷ deque) (suc i) f e is = among_here id deque i f e is

past_here : (id : ℕ) (deque : List Frame) (i : ℕ) (f : Frame) → Some f ≡ slice_get deque i → nat_eq f.id id ≡ false
    → frame_among id (drop (suc i) deque) ≡ frame_among id (drop i deque)
past_here id [] i f e is = cc
past_here id (g ∷ deque) zero f e is =
    let same : g ≡ f = cc in
    sym (ap (λ (x : Frame). cond (nat_eq x.id id) (Some x) (frame_among id deque)) same ∙ ap (λ b. cond b (Some f) (frame_among id deque)) is)
past_here id (g ∷ deque) (suc i) f e is = past_here id deque i f e is

past_end : (id : ℕ) (deque : List Frame) (i : ℕ) → None ≡ slice_get deque i → frame_among id (drop (suc i) deque) ≡ frame_among id (drop i deque)
past_end id [] zero e = refl
past_end id [] (suc i) e = refl
past_end id (g ∷ deque) zero e = cc
past_end id (g ∷ deque) (suc i) e = past_end id deque i e

pub among_later : (id : ℕ) (deque : List Frame) (i : ℕ) (f : Frame) → Some f ≡ slice_get deque i → nat_eq f.id id ≡ false
    → frame_among id (drop (i + 1) deque) ≡ frame_among id (drop i deque)
among_later id deque i f e is = let next : i + 1 ≡ suc i = omega arith in rw next (past_here id deque i f e is)

pub among_end : (id : ℕ) (deque : List Frame) (i : ℕ) → None ≡ slice_get deque i → frame_among id (drop (i + 1) deque) ≡ frame_among id (drop i deque)
among_end id deque i e = let next : i + 1 ≡ suc i = omega arith in rw next (past_end id deque i e)

same_id : (i j : ℕ) → nat_eq i j ≡ true → i ≡ j
same_id i j e = (Decides-eqb i j).0 e

-- the frame that is found is that of the instance, and what holds of all holds of it
record Is (P : Frame → Type 0) (id : ℕ) (f : Frame) : Type 0 where
  pub own : f.id ≡ id
  pub holds : P f

module _ (P : Frame → Type 0) (id : ℕ) (f : Frame) where
  first_is : (g : Frame) (b : Bool) (later : Option Frame) → nat_eq g.id id ≡ b → P g → (later ≡ Some f → Is P id f)
      → cond b (Some g) later ≡ Some f → Is P id f
  first_is g true later is holds behind e =
      let same : g ≡ f = cc in
      record { own = ap (λ (x : Frame). x.id) (sym same) ∙ same_id g.id id is; holds = subst P same holds }
  first_is g false later is holds behind e = behind e

  among_is : (deque : List Frame) → All P deque → frame_among id deque ≡ Some f → Is P id f
  among_is [] all e = cc
  among_is (g ∷ deque) all e =
      first_is g (nat_eq g.id id) (frame_among id deque) refl (All-head P g deque all) (among_is deque (All-tail P g deque all)) e

  at_is_by : (hand : Option Frame) (deque : List Frame) → IfSome hand P → All P deque → frame_at_by id hand deque ≡ Some f → Is P id f
  at_is_by None deque hand all e = among_is deque all e
  at_is_by (Some g) deque hand all e = first_is g (nat_eq g.id id) (frame_among id deque) refl hand (among_is deque all) e

  or_is : (o later : Option Frame) → (o ≡ Some f → Is P id f) → (later ≡ Some f → Is P id f) → option_or o later ≡ Some f → Is P id f
  or_is None later first behind e = behind e
  or_is (Some g) later first behind e = first e

  held_is : (places : List (WorkerOf Frame)) → AllHeld P places → frame_held id places ≡ Some f → Is P id f
  held_is [] all e = cc
  held_is (at ∷ places) all e =
      let here = All-head (AllAt P) at places all in
      or_is (frame_at id at) (frame_held id places) (at_is_by at.hand at.deque here.0 here.1) (held_is places (All-tail (AllAt P) at places all)) e

abbrev pub Made : List Node → Frame → Type 0
Made ns f = f.id < length ns

abbrev once : Bool → ℕ
once b = cond b 1 0

-- where none is found, none is there
module _ (ns : List Node) (t : IsTree ns) (id : ℕ) (there : id < length ns) where
  apart : (g : Frame) (later : Option Frame) → Made ns g → cond (nat_eq g.id id) (Some g) later ≡ None → same_path (path_at ns id) (name_in ns g) ≡ false
  apart g later within none =
      elim (decide id g.id) [
        | inl same ↦
            let yes : nat_eq g.id id ≡ true = (Decides-eqb g.id id).1 (sym same) in
            let some : Some g ≡ None = sym (ap (λ b. cond b (Some g) later) yes) ∙ none in
            cc
        | inr other ↦ other_there ns id g.id t there within other
      ]

  rest_none : (g : Frame) (b : Bool) (later : Option Frame) → cond b (Some g) later ≡ None → later ≡ None
  rest_none g true later e = cc
  rest_none g false later e = e

  none_among : (deque : List Frame) → All (Made ns) deque → frame_among id deque ≡ None → count_by (same_path (path_at ns id)) (map (name_in ns) deque) ≡ 0
  none_among [] all none = refl
  none_among (g ∷ deque) all none =
      let here : once (same_path (path_at ns id) (name_in ns g)) ≡ 0 = ap once (apart g (frame_among id deque) (All-head (Made ns) g deque all) none) in
      let rest = none_among deque (All-tail (Made ns) g deque all) (rest_none g (nat_eq g.id id) (frame_among id deque) none) in
      let both = sum_by-cons (λ (p : Path). once (same_path (path_at ns id) p)) (name_in ns g) (map (name_in ns) deque) in
      omega (arith, here, rest, both)

  none_at : (hand : Option Frame) (deque : List Frame) → IfSome hand (Made ns) → All (Made ns) deque → frame_at_by id hand deque ≡ None
      → once (is_that (path_at ns id) (option_map (name_in ns) hand)) + count_by (same_path (path_at ns id)) (map (name_in ns) deque) ≡ 0
  none_at None deque hand all none = let rest = none_among deque all none in omega (arith, rest)
  none_at (Some g) deque hand all none =
      let here : once (same_path (path_at ns id) (name_in ns g)) ≡ 0 = ap once (apart g (frame_among id deque) hand none) in
      let rest = none_among deque all (rest_none g (nat_eq g.id id) (frame_among id deque) none) in
      omega (arith, here, rest)

  or_none : (o later : Option Frame) → option_or o later ≡ None → (o ≡ None) × (later ≡ None)
  or_none None later e = (refl, e)
  or_none (Some g) later e = cc

  none_held : (places : List (WorkerOf Frame)) → AllHeld (Made ns) places → frame_held id places ≡ None
      → sum_by (times_held (path_at ns id)) (named (name_in ns) places) ≡ 0
  none_held [] all none = refl
  none_held (at ∷ places) all none =
      let both = or_none (frame_at id at) (frame_held id places) none in
      let own = All-head (AllAt (Made ns)) at places all in
      let here = none_at at.hand at.deque own.0 own.1 both.0 in
      let rest = none_held places (All-tail (AllAt (Made ns)) at places all) both.1 in
      let whole = sum_by-cons (times_held (path_at ns id))
      (record { hand = option_map (name_in ns) at.hand; deque = map (name_in ns) at.deque }) (named (name_in ns) places) in
      omega (arith, here, rest, whole)

module _ (p : Program) (m : MachineParts) (who : ℕ → Instance) (at : Standing) (agrees : Agrees p m who at) where
  -- the instances at a path that no live one has
  pub no_instance : (path : Path) → ((id : ℕ) → nodes.is_live (node_at m.nodes id) ≡ true → path_at m.nodes id ≡ path → ⊥)
      → instance_at at.state.instances path ≡ None
  no_instance path none =
      ap (λ es. instance_at es path) agrees.instances
      ∙ among (live_ids m.nodes) (λ k d lt. those_pass (λ j. nodes.is_live (node_at m.nodes j)) (length m.nodes) k d lt)
    where
      Lives : ℕ → Type 0
      Lives j = nodes.is_live (node_at m.nodes j) ≡ true

      differs : (x : ℕ) (b : Bool) → Lives x → same_path (path_at m.nodes x) path ≡ b → b ≡ false
      differs x true live e = absurd (none x live (same-is (path_at m.nodes x) path e))
      differs x false live e = refl

      among : (xs : List ℕ) → All Lives xs → instance_at (map (entry_of m.nodes who) xs) path ≡ None
      among [] all = refl
      among (x ∷ xs) all =
          ap (λ b. cond b (Some (who x)) (instance_at (map (entry_of m.nodes who) xs) path))
          (differs x (same_path (path_at m.nodes x) path) (All-head Lives x xs all) refl)
          ∙ among xs (All-tail Lives x xs all)

  pub instance_there : (id : ℕ) → nodes.is_live (node_at m.nodes id) ≡ true → instance_at at.state.instances (path_at m.nodes id) ≡ Some (who id)
  instance_there id live = ap (λ es. instance_at es (path_at m.nodes id)) agrees.instances ∙ found m.nodes who id agrees.tree live

  by_parked : (id : ℕ) (f : Frame) (o : Option Frame) → nodes.is_live (node_at m.nodes id) ≡ true → (node_at m.nodes id).parked ≡ o
      → option_or o (frame_held id m.places) ≡ Some f → StandsFor (label p) f (who id)
  by_parked id f (Some g) live is e =
      let same : g ≡ f = cc in
      (agrees.waits id f live (is ∙ ap (λ (x : Frame). Some x) same)).stands
  by_parked id f None live is e =
      let h = held_is (Held p m.nodes who) id f m.places agrees.held e in
      subst (λ k. StandsFor (label p) f (who k)) h.own h.holds.stands

  -- the frame that is found stands for the instance
  pub frame_stands : (id : ℕ) (f : Frame) → nodes.is_live (node_at m.nodes id) ≡ true → frame_live m.nodes m.places id ≡ Some f → StandsFor (label p) f (who id)
  frame_stands id f live e = by_parked id f (node_at m.nodes id).parked live refl e

  -- a live instance has one
  pub frame_there : (id : ℕ) → nodes.is_live (node_at m.nodes id) ≡ true → EachInItsPlace at → frame_live m.nodes m.places id ≡ None → ⊥
  frame_there id live placed none =
      let q = path_at m.nodes id in
      let both = no_frame (node_at m.nodes id).parked (frame_held id m.places) none in
      let there = live_there m.nodes id live in
      let unparked : once (at.scheduler.parked q) ≡ 0 = ap once (agrees.parked id there ∙ ap is_some both.0) in
      let held : sum_by (times_held q) at.scheduler.places ≡ 0 =
      ap (sum_by (times_held q)) agrees.places
      ∙ none_held m.nodes agrees.tree id there m.places
      (AllHeld-weaker (Held p m.nodes who) (Made m.nodes) (λ f h. live_there m.nodes f.id h.live) m.places agrees.held) both.1
      in
      let lives : once (is_live at.state.instances q) ≡ 1 = ap (λ (o : Option Instance). once (is_some o)) (instance_there id live) in
      let once = placed.once q in
      absurd (omega (arith, unparked, held, lives, once))
    where
      no_frame : (o later : Option Frame) → option_or o later ≡ None → (o ≡ None) × (later ≡ None)
      no_frame None later e = (refl, e)
      no_frame (Some g) later e = cc
