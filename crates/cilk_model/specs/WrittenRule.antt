-- The written rule: what one step of an instance may do to the state, said of what stands at each path, in each cell and at each lock.
use Rattle.std.specs.Prelude.{◌≡◌, ◌≢◌, ℕ, ◌+◌, ◌<◌, ◌≤◌, ℤ, pos, Bool, true, false, ◌⊎◌, List, [], ◌∷◌, ◌++◌, length, Option, Some, None}
use Rattle.std.specs.Prelude.{option_map, Ok, Err, slice_get}
use Rattle.cilk_check_scopes.specs.syntax.declared.lock_action.LockAction.{LockAction}
use Rattle.cilk_check_scopes.specs.syntax.declared.lock_action.LockAction.TheVariants.{Init, Lock, Unlock}
use Rattle.cilk_model.specs.declared.trap.Trap.{Trap}
use Rattle.cilk_model.specs.labelled.Term.{Term}
use Rattle.cilk_model.specs.labelled.Value.{value_of, values_of}
use Rattle.cilk_model.specs.labelled.Labelled.{Labelled, Declaration, Into, Taker, Action, assign, call, spawn, print, locking, null, break_off}
use Rattle.cilk_model.specs.labelled.Labelled.{go_round, tests, sync, abort}
use Rattle.cilk_model.specs.labelled.Items.{opened, next}
use Rattle.cilk_model.specs.Values.{Values, Cell, Reached, read_at, reached_at, reached_if, combined}
use Rattle.cilk_model.specs.Path.{Path, child_path, is_below}
use Rattle.cilk_model.specs.Instance.{Activation, Receiver, place, through, Delivery, Instance, entered, started, outer_values}
use Rattle.cilk_model.specs.State as state
use Rattle.cilk_model.specs.State.{TrapKind, of_value, finished, trapped, running, unset, free, held, State, instance_at, has_live_child, is_synched}
use Rattle.cilk_model.specs.State.{PathsAreApart, store_of, lock_at}
use Rattle.cilk_model.specs.Printing.{printed}
use Rattle.cilk_model.specs.Written.{Writes, Holding, taker_place, others_of, Receives, Delivers, LeavesWith, Heads, AtBoundary, Lets, HoldsNone, Free}
use Rattle.cilk_model.specs.Fails.{here, InFunction, InInlet, MayPass, Fails}

-- i stands at p in s, and t is the state after the step
module _ (program : Labelled) (s : State) (p : Path) (i : Instance) (t : State) where
  -- every other instance is as it was
  abbrev pub Elsewhere : Type 0
  Elsewhere = (q : Path) → q ≢ p → instance_at t.instances q ≡ instance_at s.instances q

  -- an action of the procedure's own takes the mark of a spawn away, and one of another activation leaves it
  pub record Flags (flag : Bool) : Type 0 where
    pub cleared : i.below ≡ [] → flag ≡ false
    pub left : i.below ≢ [] → flag ≡ i.spawned

  -- the instance past its head, which, if it is a test, has this value; any other action goes on as by 1
  abbrev pub past : ℤ → Bool → Instance
  past value flag = record i { top = record i.top { items = opened (next value i.top.items) }; spawned = flag }

  -- p goes on past its head, and no value is changed
  pub record GoesOn (value : ℤ) : Type 0 where
    pub flag : Bool
    pub flags : Flags flag
    pub at_p : instance_at t.instances p ≡ Some (past value flag)
    pub elsewhere : Elsewhere

  -- p is j now, but that z stands in the cell, which j's top activation sees
  pub record Puts (j : Instance) (cell : Cell) (z : ℤ) : Type 0 where
    pub own : Values
    pub procedure : Values
    pub below : List Activation
    pub holding : Holding procedure j.below below
    pub writes : Writes (store_of s p j) (record { own = own; outer = outer_values below; globals = t.globals; synched = is_synched s p j }) cell z
    pub at_p : instance_at t.instances p ≡ Some (record j { top = record j.top { values = own }; below = below })
    pub elsewhere : Elsewhere
    pub still : t ≡ record s { globals = t.globals; instances = t.instances }

  pub record PutsOn (cell : Cell) (z : ℤ) : Type 0 where
    pub flag : Bool
    pub flags : Flags flag
    pub puts : Puts (past (pos 1) flag) cell z

  -- a C function starts; its caller stands at what follows the call (C 1990, 6.3.2.2)
  pub record Enters (callee : ℕ) (arguments : List ℤ) (awaits : Option Reached) : Type 0 where
    pub room : length i.below < 255
    pub flag : Bool
    pub flags : Flags flag
    pub at_p : instance_at t.instances p ≡ Some (record (past (pos 1) flag) {
      top = entered program callee arguments awaits;
      below = record i.top { items = opened (next (pos 1) i.top.items) } ∷ i.below;
    })
    pub elsewhere : Elsewhere
    pub still : t ≡ record s { instances = t.instances }

  -- the activation below goes on, and no value is changed
  pub record Resumes (caller : Activation) (below : List Activation) : Type 0 where
    pub at_p : instance_at t.instances p ≡ Some (record i { top = caller; below = below })
    pub elsewhere : Elsewhere
    pub still : t ≡ record s { instances = t.instances }

  -- what awaits the value z of a C function takes it; the place is read now
  pub data Answers (caller : Activation) (below : List Activation) (z : ℤ) : Option Reached → Type 0 where
    to_nothing : Resumes caller below → Answers caller below z None
    to_place : (reached : Reached) (y : ℤ)
        → combined reached.op (read_at (store_of s p (record i { top = caller; below = below })) reached.cell) z ≡ Ok y
        → Puts (record i { top = caller; below = below }) reached.cell y → Answers caller below z (Some reached)

  -- p goes on, and its next child starts; an aborted instance's child is aborted from its birth (Cilk 5.4 manual, `spawn`, `abort`)
  pub record Births (callee : ℕ) (arguments : List ℤ) (receiver : Option Receiver) : Type 0 where
    pub few : length s.instances < 65536
    pub few_children : i.children < 4294967295
    pub at_p : instance_at t.instances p ≡ Some (record (past (pos 1) true) { children = i.children + 1 })
    pub at_child : instance_at t.instances (child_path p (i.children + 1))
        ≡ Some (record (started program callee arguments) { aborted = i.aborted; receiver = receiver })
    pub elsewhere : (q : Path) → q ≢ p → q ≢ child_path p (i.children + 1) → instance_at t.instances q ≡ instance_at s.instances q
    pub still : t ≡ record s { instances = t.instances }

  -- the root ends with z, and so does the program (C 1990, 5.1.2.2.3)
  pub record RootEnds (z : ℤ) : Type 0 where
    pub root : p ≡ []
    pub gone : instance_at t.instances p ≡ None
    pub elsewhere : Elsewhere
    pub still : t ≡ record s { outcome = finished z; instances = t.instances }

  -- p, which is child k of q, ends with z, and what it delivers waits behind the other deliveries of q (Cilk 5.4 manual, `return`)
  pub record ChildEnds (z : ℤ) : Type 0 where
    pub q : Path
    pub k : ℕ
    pub child : p ≡ child_path q k
    pub gone : instance_at t.instances p ≡ None
    pub parent : Instance
    pub lives : instance_at s.instances q ≡ Some parent
    pub delivered : List Delivery
    pub delivers : Delivers p i z delivered
    pub at_parent : instance_at t.instances q ≡ Some (record parent { waiting = parent.waiting ++ delivered })
    pub elsewhere : (r : Path) → r ≢ p → r ≢ q → instance_at t.instances r ≡ instance_at s.instances r
    pub still : t ≡ record s { instances = t.instances }

  -- each live child of p and each live descendant of one is marked (Cilk 5.4 manual, `abort`)
  pub record Marks : Type 0 where
    pub flag : Bool
    pub flags : Flags flag
    pub at_p : instance_at t.instances p ≡ Some (past (pos 1) flag)
    pub below : (q : Path) → is_below p q ≡ true
        → instance_at t.instances q ≡ option_map {T = Instance} (λ j. record j { aborted = true }) (instance_at s.instances q)
    pub elsewhere : (q : Path) → q ≢ p → is_below p q ≡ false → instance_at t.instances q ≡ instance_at s.instances q
    pub still : t ≡ record s { instances = t.instances }

  -- what a call of a lock makes of it (Cilk 5.4 manual, locks)
  pub data TurnsLock : LockAction → state.Lock → state.Lock → Type 0 where
    inits_unset : TurnsLock Init unset free
    inits_free : TurnsLock Init free free
    takes_free : TurnsLock Lock free (held p)
    lets_go : TurnsLock Unlock (held p) free

  pub record Locks (what : LockAction) (k : ℕ) : Type 0 where
    pub before : state.Lock
    pub after : state.Lock
    pub turns_lock : TurnsLock what before after
    pub was : lock_at s k ≡ before
    pub is : slice_get t.locks k ≡ option_map (λ _. after) (slice_get s.locks k)
    pub others : (j : ℕ) → j ≢ k → slice_get t.locks j ≡ slice_get s.locks j
    pub goes_on : GoesOn (pos 1)
    pub still : t ≡ record s { locks = t.locks; instances = t.instances }

  -- a trap changes the outcome alone
  abbrev pub Traps : ℕ → TrapKind → Type 0
  Traps n kind = t ≡ record s { outcome = trapped kind p n }

  -- nothing but p's own place in its body is changed
  pub record GoesBy (value : ℤ) : Type 0 where
    pub goes_on : GoesOn value
    pub still : t ≡ record s { instances = t.instances }

  -- the actions that change nothing else (C 1990, 6.6.3, 6.6.6.2, 6.6.6.3)
  pub data Bare : Action → Type 0 where
    null_is : Bare null
    break_is : Bare break_off
    continue_is : Bare go_round

  -- the head, action n, is acted (C 1990, 6.3.2.2, 6.3.16, 6.5.7, 6.6, 7.9.6.3; Cilk 5.4 manual)
  pub data Acts (n : ℕ) : Action → Type 0 where
    -- the value is there before the old one is read
    assigns : (what : Into) (e : Term Declaration) (reached : Reached) (z y : ℤ)
        → reached_at (here program s p i) what ≡ Ok reached → value_of (here program s p i) e ≡ Ok z
        → combined reached.op (read_at (store_of s p i) reached.cell) z ≡ Ok y → PutsOn reached.cell y → Acts n (assign what e)
    goes_by : (act : Action) → Bare act → GoesBy (pos 1) → Acts n act
    -- C 1990, 6.6.4, 6.6.5
    answers_test : (e : Term Declaration) (z : ℤ) → value_of (here program s p i) e ≡ Ok z → GoesBy z → Acts n (tests e)
    calls : (what : Option Into) (callee : ℕ) (es : List (Term Declaration)) (reached : Option Reached) (zs : List ℤ)
        → reached_if (here program s p i) what ≡ Ok reached → values_of (here program s p i) es ≡ Ok zs
        → Enters callee zs reached → Acts n (call what callee es)
    leaves_function : (act : Action) (z : ℤ) (caller : Activation) (below : List Activation) → InFunction program s p i
        → LeavesWith (here program s p i) act z → i.below ≡ caller ∷ below → Answers caller below z i.top.awaits → Acts n act
    leaves_inlet : (act : Action) (z : ℤ) (caller : Activation) (below : List Activation) → InInlet program s p i → HoldsNone s p
        → LeavesWith (here program s p i) act z → i.below ≡ caller ∷ below → Resumes caller below → Acts n act
    leaves_procedure : (act : Action) (z : ℤ) → i.below ≡ [] → Free s p i
        → LeavesWith (here program s p i) act z → RootEnds z ⊎ ChildEnds z → Acts n act
    spawns : (taker : Taker) (callee : ℕ) (es : List (Term Declaration)) (reached : Option Reached) (zs ys : List ℤ) (receiver : Option Receiver)
        → HoldsNone s p → reached_if (here program s p i) (taker_place taker) ≡ Ok reached
        → values_of (here program s p i) es ≡ Ok zs → values_of (here program s p i) (others_of taker) ≡ Ok ys
        → Receives n taker reached ys receiver → Births callee zs receiver → Acts n (spawn taker callee es)
    passes : MayPass program s p i → GoesBy (pos 1) → Acts n sync
    marks : Marks → Acts n abort
    locks : (what : LockAction) (k : ℕ) → Locks what k → Acts n (locking what k)
    prints : (format : List ℕ) (es : List (Term Declaration)) (zs : List ℤ) → values_of (here program s p i) es ≡ Ok zs
        → length s.output + length (printed format zs) ≤ 1048576 → GoesOn (pos 1)
        → t ≡ record s { output = s.output ++ printed format zs; instances = t.instances } → Acts n (print format es)
    traps : (act : Action) (kind : TrapKind) → Fails program s p i act kind → Traps n kind → Acts n act

  -- an inlet starts, before which the procedure stands where it stood; the mark of a spawn stays (Cilk 5.4 manual, `inlet`)
  pub record Starts (left : List Delivery) (inlet : ℕ) (arguments : List ℤ) : Type 0 where
    pub at_p : instance_at t.instances p
        ≡ Some (record i { top = entered program inlet arguments None; below = i.top ∷ i.below; waiting = left })
    pub elsewhere : Elsewhere
    pub still : t ≡ record s { instances = t.instances }

  -- a delivery that waits is taken: by its place, which is read now, or by its inlet
  pub data Takes (left : List Delivery) (c : Path) (z : ℤ) : Receiver → Type 0 where
    by_place : (reached : Reached) (n : ℕ) (y : ℤ) → combined reached.op (read_at (store_of s p i) reached.cell) z ≡ Ok y
        → Puts (record i { waiting = left }) reached.cell y → Takes left c z (place reached n)
    place_traps : (reached : Reached) (n : ℕ) (trap : Trap) → combined reached.op (read_at (store_of s p i) reached.cell) z ≡ Err trap
        → Traps n (of_value trap) → Takes left c z (place reached n)
    by_inlet : (inlet : ℕ) (others : List ℤ) (n : ℕ) → Starts left inlet (z ∷ others) → Takes left c z (through inlet others n)

  -- an aborted instance without a live child is no more; it delivers nothing (Cilk 5.4 manual, `abort`)
  pub record Ends : Type 0 where
    pub aborted : i.aborted ≡ true
    pub childless : has_live_child s.instances p ≡ false
    pub gone : instance_at t.instances p ≡ None
    pub elsewhere : Elsewhere
    pub locks : (k : ℕ) → Lets p (slice_get s.locks k) (slice_get t.locks k)
    pub still : t ≡ record s { locks = t.locks; instances = t.instances }

  pub data Steps : Type 0 where
    -- at a boundary any delivery that waits may be taken (Cilk 5.4 manual, `inlet`)
    takes : AtBoundary i → (before : List Delivery) (delivery : Delivery) (behind : List Delivery)
        → i.waiting ≡ before ++ delivery ∷ behind → Takes (before ++ behind) delivery.child delivery.value delivery.receiver → Steps
    acts : (n : ℕ) (act : Action) → Heads i n act → Acts n act → Steps
    ends : Ends → Steps

-- s allows t by a step of p
pub record Allows (program : Labelled) (s : State) (p : Path) (t : State) : Type 0 where
  pub runs : s.outcome ≡ running
  pub apart : PathsAreApart s.instances
  pub instance : Instance
  pub live : instance_at s.instances p ≡ Some instance
  pub step : Steps program s p instance t
