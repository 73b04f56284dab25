-- What each step keeps of an instance holds of each live instance at every position.
use Rattle.std.proofs.Common.{◌≡◌, ℕ, ℤ, pos, ◌^◌, ◌+◌, ◌-◌, ◌<◌, Bool, true, false, not, cond, List, [], ◌∷◌, ◌++◌, map, length, Option, Some, None, refl}
use Rattle.std.proofs.Common.{sym, subst, if◌then◌else◌, arith}
use Rattle.cilk_model.specs.labelled.Labelled.{Labelled, Numbered}
use Rattle.cilk_model.specs.labelled.Items.{head_of}
use Rattle.cilk_model.specs.Values.{Cell, Reached}
use Rattle.cilk_model.specs.Path.{Path, same_path, child_path, parent_of, is_below}
use Rattle.cilk_model.specs.Instance as instance
use Rattle.cilk_model.specs.Instance.{Activation, Receiver, Delivery, Instance, started}
use Rattle.cilk_model.specs.State.{Entry, Instances, State, instance_at, changed, without, is_empty}
use Rattle.cilk_model.specs.Change.{leaves, gone_on, put, above, resumed, mark, after_return_to}
use Rattle.cilk_model.specs.Pick.{Step, step_of_live}
use Rattle.cilk_model.specs.Scheduler.{hand_of}
use Rattle.cilk_model.specs.Choice.{Act, step, pop, steal, Choice}
use Rattle.cilk_model.specs.Run.{Standing, Position, state_after, next_by_hand, next_by, after}
use Rattle.cilk_laws_model.proofs.Entries.{same-is}
use Rattle.cilk_model.proofs.Runs.{at_each}
use Rattle.cilk_laws_model.proofs.Rows.{Heads, Row, headless, locked, parked, stopping, going, writing, calling, leaving, answering, spawning}
use Rattle.cilk_laws_model.proofs.Rows.{printing, turning_lock, marking, returning, placing, taking, aborting, step_row}

pub record Keeps (program : Labelled) (Holds : Path → Instance → Type 0) : Type 0 where
  pub on : (p : Path) (i : Instance) (head : Numbered) (z : ℤ) → head_of i.top.items ≡ Some head → leaves head.act ≡ false
      → Holds p i → Holds p (gone_on z i)
  pub filled : (p : Path) (i : Instance) (cell : Cell) (z : ℤ) → Holds p i → Holds p (put cell z i)
  pub entered : (p : Path) (i : Instance) (b : ℕ) (zs : List ℤ) (awaits : Option Reached) → length i.below < 255 → Holds p i
      → Holds p (above (instance.entered program b zs awaits) i)
  pub left : (p : Path) (i : Instance) → Holds p i → Holds p (resumed i)
  pub waiting : (p : Path) (i : Instance) (deliveries : List Delivery) → Holds p i → Holds p (record i { waiting = deliveries })
  pub counted : (p : Path) (i : Instance) → i.children < 2 ^ 32 - 1 → Holds p i → Holds p (record i { spawned = true; children = i.children + 1 })
  pub marked : (p q : Path) (i : Instance) → is_below p q ≡ true → Holds q i → Holds q (record i { aborted = true })
  pub born : (p : Path) (k b : ℕ) (zs : List ℤ) (aborted : Bool) (receiver : Option Receiver)
      → Holds (child_path p k) (record (started program b zs) { aborted = aborted; receiver = receiver })
  pub root : (main : ℕ) → Holds [] (started program main [])

alone_room : (below : List Activation) → is_empty below ≡ true → length below < 255
alone_room [] e = omega arith
alone_room (a ∷ below) e = cc

module _ (program : Labelled) (Holds : Path → Instance → Type 0) (keeps : Keeps program Holds) where
  abbrev pub Each : Instances → Type 0
  Each [] = Unit {0}
  Each (e ∷ entries) = Holds e.path e.instance × Each entries

  abbrev Held : Entry → Type 0
  Held e = Holds e.path e.instance

  change_each : (p : Path) (b : Bool) (f : Instance → Instance) (e : Entry) → same_path e.path p ≡ b
      → ((x : Instance) → Holds p x → Holds p (f x)) → Held e → Held (if b then record e { instance = f e.instance } else e)
  change_each p true f e same h k =
      let is = same-is e.path p same in
      subst (λ (q : Path). Holds q (f e.instance)) (sym is) (h e.instance (subst (λ (q : Path). Holds q e.instance) is k))
  change_each p false f e same h k = k

  changed_each : (p : Path) (f : Instance → Instance) (entries : Instances) → ((x : Instance) → Holds p x → Holds p (f x)) → Each entries
      → Each (changed p f entries)
  changed_each p f [] h all = tt
  changed_each p f (e ∷ entries) h all =
      (change_each p (same_path e.path p) f e refl h all.0, changed_each p f entries h all.1)

  mark_each : (p : Path) (b : Bool) (e : Entry) → is_below p e.path ≡ b → Held e
      → Held (if b then record e { instance = record e.instance { aborted = true } } else e)
  mark_each p true e below h = keeps.marked p e.path e.instance below h
  mark_each p false e below h = h

  marked_each : (p : Path) (entries : Instances) → Each entries → Each (map (mark p) entries)
  marked_each p [] all = tt
  marked_each p (e ∷ entries) all = (mark_each p (is_below p e.path) e refl all.0, marked_each p entries all.1)

  without_by : (b : Bool) (e : Entry) (entries : Instances) → Held e → Each entries → Each (cond b (e ∷ entries) entries)
  without_by true e entries h all = (h, all)
  without_by false e entries h all = all

  without_each : (p : Path) (entries : Instances) → Each entries → Each (without p entries)
  without_each p [] all = tt
  without_each p (e ∷ entries) all =
      without_by (not (same_path e.path p)) e (without p entries) all.0 (without_each p entries all.1)

  push_each : (entries : Instances) (e : Entry) → Each entries → Held e → Each (entries ++ e ∷ [])
  push_each [] e all h = (h, tt)
  push_each (x ∷ entries) e all h = (all.0, push_each entries e all.1 h)

  found_by : (p : Path) (b : Bool) (e : Entry) (o : Option Instance) (i : Instance) → same_path e.path p ≡ b
      → (if b then Some e.instance else o) ≡ Some i → Held e → (o ≡ Some i → Holds p i) → Holds p i
  found_by p true e o i same h held rest =
      let is : e.instance ≡ i = cc in
      subst (Holds p) is (subst (λ (q : Path). Holds q e.instance) (same-is e.path p same) held)
  found_by p false e o i same h held rest = rest h

  pub found : (entries : Instances) (p : Path) (i : Instance) → Each entries → instance_at entries p ≡ Some i → Holds p i
  found [] p i all e = cc
  found (x ∷ entries) p i all e =
      found_by p (same_path x.path p) x (instance_at entries p) i refl e all.0 (found entries p i all.1)

  return_each : (s : State) (p : Path) (i : Instance) (z : ℤ) (o : Option Path) → Each s.instances → Each (after_return_to o s p i z).instances
  return_each s p i z None all = without_each p s.instances all
  return_each s p i z (Some q) all =
      changed_each q _ (without p s.instances) (λ x h. keeps.waiting q x _ h) (without_each p s.instances all)

  module _ (s : State) (p : Path) (i : Instance) (all : Each s.instances) (here : Holds p i) where
    replaced : (j : Instance) → Holds p j → Each (changed p (λ _. j) s.instances)
    replaced j h = changed_each p (λ _. j) s.instances (λ x k. h) all

    gone : (head : Numbered) (z : ℤ) → Heads i head → Holds p (gone_on z i)
    gone head z heads = keeps.on p i head z heads.first heads.stays here

    row_each : {taken : Step} → Row program s p i taken → Each (state_after s taken).instances
    row_each (headless first) = all
    row_each (locked head first lock) = all
    row_each (parked some) = all
    row_each (stopping n kind) = all
    row_each (going head z heads) = replaced (gone_on z i) (gone head z heads)
    row_each (writing head cell z heads) =
        replaced (put cell z (gone_on (pos 1) i)) (keeps.filled p (gone_on (pos 1) i) cell z (gone head (pos 1) heads))
    row_each (calling head awaits callee zs heads room) =
        replaced (above (instance.entered program callee zs awaits) (gone_on (pos 1) i))
        (keeps.entered p (gone_on (pos 1) i) callee zs awaits room (gone head (pos 1) heads))
    row_each (leaving n) = replaced (resumed i) (keeps.left p i here)
    row_each (answering n cell z) = replaced (put cell z (resumed i)) (keeps.filled p (resumed i) cell z (keeps.left p i here))
    row_each (spawning head receiver callee zs heads few room) =
        let parent : Instance = record (gone_on (pos 1) i) { spawned = true; children = i.children + 1 } in
        push_each (changed p (λ _. parent) s.instances) _ (replaced parent (keeps.counted p (gone_on (pos 1) i) room (gone head (pos 1) heads)))
        (keeps.born p (i.children + 1) callee zs i.aborted receiver)
    row_each (printing head bytes heads room) = replaced (gone_on (pos 1) i) (gone head (pos 1) heads)
    row_each (turning_lock head what k now heads becomes) = replaced (gone_on (pos 1) i) (gone head (pos 1) heads)
    row_each (marking head heads) =
        marked_each p (changed p (λ _. gone_on (pos 1) i) s.instances) (replaced (gone_on (pos 1) i) (gone head (pos 1) heads))
    row_each (returning n z none lockless unmarked) = return_each s p i z (parent_of p) all
    row_each (placing oldest others cell z n takes) =
        let j : Instance = record i { waiting = others } in
        replaced (put cell z j) (keeps.filled p j cell z (keeps.waiting p i others here))
    row_each (taking oldest others inlet zs n takes) =
        let j : Instance = record i { waiting = others } in
        replaced (above (instance.entered program inlet zs None) j)
        (keeps.entered p j inlet zs None (alone_room i.below takes.alone) (keeps.waiting p i others here))
    row_each (aborting aborted none) = without_each p s.instances all

  live_each : (s : State) (p : Path) → Each s.instances → (o : Option Instance) → instance_at s.instances p ≡ o
      → Each (state_after s (step_of_live program s p o)).instances
  live_each s p all None e = all
  live_each s p all (Some i) e = row_each s p i all (found s.instances p i all e) (step_row program s p i)

  hand_each : (at : Standing) (w : ℕ) (o : Option Path) → Each at.state.instances → Each (next_by_hand program at w o).state.instances
  hand_each at w None all = all
  hand_each at w (Some p) all = live_each at.state p all (instance_at at.state.instances p) refl

  pub act_each : (at : Standing) (w : ℕ) (act : Act) → Each at.state.instances → Each (next_by program at w act).state.instances
  act_each at w step all = hand_each at w (hand_of at.scheduler.places w) all
  act_each at w pop all = all
  act_each at w (steal v) all = all

  pub each_at : (n : ℕ) (choices : List Choice) (at : Position) → after program n choices ≡ Some at → Each at.standing.state.instances
  each_at n choices at h =
      at_each program (λ x. Each x.state.instances) (λ x c free all. act_each x c.worker c.act all) n choices at
      (λ main e. (keeps.root main, tt)) h

  -- so of each instance that is found
  pub held_at : (n : ℕ) (choices : List Choice) (at : Position) → after program n choices ≡ Some at → (p : Path) (i : Instance)
      → instance_at at.standing.state.instances p ≡ Some i → Holds p i
  held_at n choices at h p i live = found at.standing.state.instances p i (each_at n choices at h) live
