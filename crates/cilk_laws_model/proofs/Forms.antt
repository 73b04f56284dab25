-- What each action that the written rule allows comes to: one form for each head.
use Rattle.std.proofs.Common.{◌≡◌, ◌≢◌, ℕ, ◌+◌, ◌≤◌, nat_lt, nat_le, ◌⊎◌, inl, inr, ℤ, pos, Bool, true, false, not, ◌&&◌, ◌||◌, List, [], ◌∷◌, ◌++◌}
use Rattle.std.proofs.Common.{length, Option, Some, None, Result, Ok, Err, refl, sym, ap, subst, ◌∙◌, if◌then◌else◌}
use Rattle.std.specs.Prelude.{option_map, slice_get}
use Rattle.std.proofs.lemmas.Bool.{lt-ltb, le-ltb, le-leb, lt-leb, and_left, and_right, and_from, or_from, or_right, cond-true}
use Rattle.cilk_model.specs.syntax.declared.lock_action.LockAction.{LockAction}
use Rattle.cilk_model.specs.syntax.declared.lock_action.LockAction.TheVariants.{Init, Lock, Unlock}
use Rattle.cilk_model.specs.declared.trap.Trap.{Trap}
use Rattle.cilk_model.specs.labelled.Term.{Term}
use Rattle.cilk_model.specs.labelled.Value.{Environment, value_of, values_of, ◌>>=◌}
use Rattle.cilk_model.specs.labelled.Labelled.{Labelled, Declaration, Into, Taker, nothing, into, through, Action, assign, call, spawn, print}
use Rattle.cilk_model.specs.labelled.Labelled.{tests, sync}
use Rattle.cilk_model.specs.Values.{Cell, Reached, read_at, reached_at, reached_if, combined}
use Rattle.cilk_model.specs.Effect.{Effect, writes, answers, enters, gives, starts, writes_out, turns_lock, marks, start_of, effect_of}
use Rattle.cilk_model.specs.Path.{Path, same_path}
use Rattle.cilk_model.specs.Instance.{Activation, Receiver, place, through, Delivery, Instance, owner_at}
use Rattle.cilk_model.specs.State as state
use Rattle.cilk_model.specs.State.{TrapKind, of_value, lock, held_lock, depth, instances, output, State, unset, free, held, is_empty}
use Rattle.cilk_model.specs.State.{store_of, lock_at}
use Rattle.cilk_model.specs.Change.{is_function, leaves_function, ends_thread, holds_lock, LockTurn, lock_turned, refused, blocked, lock_turn_by}
use Rattle.cilk_model.specs.Printing.{printed}
use Rattle.cilk_model.specs.Written as written
use Rattle.cilk_model.specs.Written.{Leaves, LeavesWith, Receives, taker_place, others_of}
use Rattle.cilk_model.specs.Fails as fails
use Rattle.cilk_model.specs.Fails.{here, InFunction, InInlet, MayLeave, MayPass, EndsThread, HasNoValue, MayNot, Fails}
use Rattle.cilk_model.specs.WrittenRule as rule
use Rattle.cilk_model.specs.WrittenRule.{GoesOn, GoesBy, Puts, PutsOn, Enters, Resumes, Answers, Births, RootEnds, ChildEnds}
use Rattle.cilk_model.specs.WrittenRule.{Marks, TurnsLock, Traps, Bare}
use Rattle.cilk_model.specs.WrittenRule.{Acts, Starts, Takes}
use Rattle.cilk_laws_model.proofs.Entries.{same-is, same-self}
use Rattle.cilk_laws_model.proofs.LockForms.{holds_seen, none_seen}
use Rattle.cilk_laws_model.proofs.Ground.{not_empty, no_function}

-- what is left of a place that was reached, and of what may be missing
some_reached : (r : Result Reached Trap) (reached : Reached) → (r >>= λ x. Ok (Some x)) ≡ Ok (Some reached) → r ≡ Ok reached
some_reached (Ok x) reached e = cc
some_reached (Err trap) reached e = cc

no_reached : (r : Result Reached Trap) (trap : Trap) → (r >>= λ x. Ok (Some x)) ≡ Err trap → r ≡ Err trap
no_reached (Ok x) trap e = cc
no_reached (Err other) trap e = cc

is_one : (r : Result Reached Trap) (o : Option Reached) → (r >>= λ x. Ok (Some x)) ≡ Ok o → (reached : Reached) × (r ≡ Ok reached)
is_one (Ok x) o e = (x, refl)
is_one (Err trap) o e = cc

module _ (program : Labelled) (s : State) (p : Path) (i : Instance) where
  abbrev env : Environment Declaration
  env = here program s p i

  -- what is printed, and what is made of a lock
  pub record Prints (bytes : List ℕ) (t : State) : Type 0 where
    pub goes_on : GoesOn program s p i t (pos 1)
    pub still : t ≡ record s { output = s.output ++ bytes; instances = t.instances }

  pub record LocksTo (k : ℕ) (now : state.Lock) (t : State) : Type 0 where
    pub is : slice_get t.locks k ≡ option_map (λ _. now) (slice_get s.locks k)
    pub others : (j : ℕ) → j ≢ k → slice_get t.locks j ≡ slice_get s.locks j
    pub goes_on : GoesOn program s p i t (pos 1)
    pub still : t ≡ record s { locks = t.locks; instances = t.instances }

  abbrev pub FitsRoom : ℕ → TrapKind → Type 0 → State → Bool → Type 0
  FitsRoom n kind A t true = A
  FitsRoom n kind A t false = Traps program s p i t n kind

  abbrev pub FitsLockTurn : ℕ → ℕ → State → LockTurn → Type 0
  FitsLockTurn n k t (lock_turned now) = LocksTo k now t
  FitsLockTurn n k t refused = Traps program s p i t n lock
  FitsLockTurn n k t blocked = ⊥

  abbrev pub FitsCombined : ℕ → State → Instance → Cell → Result ℤ Trap → Type 0
  FitsCombined n t j cell (Ok y) = Puts program s p i t j cell y
  FitsCombined n t j cell (Err trap) = Traps program s p i t n (of_value trap)

  abbrev pub FitsAnswer : ℕ → State → ℤ → Activation → List Activation → Option Reached → Type 0
  FitsAnswer n t z caller below None = Resumes program s p i t caller below
  FitsAnswer n t z caller below (Some reached) =
      FitsCombined n t (record i { top = caller; below = below }) reached.cell
      (combined reached.op (read_at (store_of s p (record i { top = caller; below = below })) reached.cell) z)

  abbrev pub FitsLeaving : ℕ → State → ℤ → List Activation → Bool → Type 0
  FitsLeaving n t z [] function = RootEnds program s p i t z ⊎ ChildEnds program s p i t z
  FitsLeaving n t z (caller ∷ below) true = FitsAnswer n t z caller below i.top.awaits
  FitsLeaving n t z (caller ∷ below) false = Resumes program s p i t caller below

  abbrev pub FitsEffect : ℕ → State → Result Effect Trap → Type 0
  FitsEffect n t (Err trap) = Traps program s p i t n (of_value trap)
  FitsEffect n t (Ok (writes cell z)) = PutsOn program s p i t cell z
  FitsEffect n t (Ok (answers z)) = GoesBy program s p i t z
  FitsEffect n t (Ok (enters awaits callee zs)) = FitsRoom n depth (Enters program s p i t callee zs awaits) t (nat_lt (length i.below) 255)
  FitsEffect n t (Ok (gives z)) = FitsLeaving n t z i.below (leaves_function program i)
  FitsEffect n t (Ok (starts receiver callee zs)) =
      FitsRoom n instances (Births program s p i t callee zs receiver) t (nat_lt (length s.instances) 65536 && nat_lt i.children 4294967295)
  FitsEffect n t (Ok (writes_out bytes)) = FitsRoom n output (Prints bytes t) t (nat_le (length s.output + length bytes) 1048576)
  FitsEffect n t (Ok (turns_lock what k)) = FitsLockTurn n k t (lock_turn_by p what (lock_at s k))
  FitsEffect n t (Ok marks) = Marks program s p i t

  -- a lock is held where a thread ends, or the action comes to this
  abbrev pub Fits : ℕ → State → Bool → Result Effect Trap → Type 0
  Fits n t true r = Traps program s p i t n held_lock
  Fits n t false r = FitsEffect n t r

  abbrev pub held_at : Action → Bool
  held_at act = ends_thread program i act && holds_lock s p

  fits_by : (n : ℕ) (act : Action) (t : State) (b : Bool) (r : Result Effect Trap) → held_at act ≡ b → effect_of env n act ≡ r → Fits n t b r
      → Fits n t (held_at act) (effect_of env n act)
  fits_by n act t b r e f h = subst (λ x. Fits n t x (effect_of env n act)) (sym e) (subst (Fits n t b) (sym f) h)

  -- leaving
  leave_unheld : MayLeave program s p i → ((is_empty i.below || not (is_function (owner_at program i))) && holds_lock s p) ≡ false
  leave_unheld (fails.of_procedure alone whole) = and_right _ _ (none_seen s p whole.lockless)
  leave_unheld (fails.of_inlet inside none) = and_right _ _ (none_seen s p none)
  leave_unheld (fails.of_function inside) =
      and_left _ _ (or_from _ _ (not_empty i.below inside.above) (ap (λ owner. not (is_function owner)) inside.function))

  given_unheld : (act : Action) (z : ℤ) → LeavesWith env act z → MayLeave program s p i → held_at act ≡ false
  given_unheld act z (written.gives_value e y is) leave = leave_unheld leave
  given_unheld act z written.gives_nothing leave = leave_unheld leave
  given_unheld act z written.gives_brace leave = leave_unheld leave

  given_effect : (n : ℕ) (act : Action) (z : ℤ) → LeavesWith env act z → effect_of env n act ≡ Ok (gives z)
  given_effect n act z (written.gives_value e y is) = ap (λ (r : Result ℤ Trap). r >>= λ x. Ok (gives x)) is
  given_effect n act z written.gives_nothing = refl
  given_effect n act z written.gives_brace = refl

  leaves_fit : (n : ℕ) (act : Action) (z : ℤ) (t : State) → LeavesWith env act z → MayLeave program s p i
      → FitsLeaving n t z i.below (leaves_function program i) → Fits n t (held_at act) (effect_of env n act)
  leaves_fit n act z t given leave h = fits_by n act t false (Ok (gives z)) (given_unheld act z given leave) (given_effect n act z given) h

  above_function : (n : ℕ) (t : State) (z : ℤ) (caller : Activation) (below : List Activation) → InFunction program s p i → i.below ≡ caller ∷ below
      → FitsAnswer n t z caller below i.top.awaits → FitsLeaving n t z i.below (leaves_function program i)
  above_function n t z caller below inside is h =
      subst (λ xs. FitsLeaving n t z xs (leaves_function program i)) (sym is)
      (subst (FitsLeaving n t z (caller ∷ below)) (sym (ap is_function inside.function)) h)

  above_inlet : (n : ℕ) (t : State) (z : ℤ) (caller : Activation) (below : List Activation) → InInlet program s p i → i.below ≡ caller ∷ below
      → Resumes program s p i t caller below → FitsLeaving n t z i.below (leaves_function program i)
  above_inlet n t z caller below inside is h =
      subst (λ xs. FitsLeaving n t z xs (leaves_function program i)) (sym is)
      (subst (FitsLeaving n t z (caller ∷ below)) (sym (no_function (owner_at program i) inside.no_function)) h)

  answers_fit : (n : ℕ) (t : State) (z : ℤ) (caller : Activation) (below : List Activation) (awaits : Option Reached)
      → Answers program s p i t caller below z awaits → FitsAnswer n t z caller below awaits
  answers_fit n t z caller below awaits (rule.to_nothing h) = h
  answers_fit n t z caller below awaits (rule.to_place reached y comes h) =
      subst (FitsCombined n t (record i { top = caller; below = below }) reached.cell) (sym comes) h

  -- starting a child
  room_of : (n : ℕ) (kind : TrapKind) (A : Type 0) (t : State) (b : Bool) → b ≡ true → A → FitsRoom n kind A t b
  room_of n kind A t b e h = subst (FitsRoom n kind A t) (sym e) h

  no_room_of : (n : ℕ) (kind : TrapKind) (A : Type 0) (t : State) (b : Bool) → b ≡ false → Traps program s p i t n kind → FitsRoom n kind A t b
  no_room_of n kind A t b e h = subst (FitsRoom n kind A t) (sym e) h

  no_room : (m k : ℕ) → (65536 ≤ m) ⊎ (4294967295 ≤ k) → (nat_lt m 65536 && nat_lt k 4294967295) ≡ false
  no_room m k (inl h) = and_left _ _ (le-ltb m 65536 h)
  no_room m k (inr h) = and_right _ _ (le-ltb k 4294967295 h)

  module _ (n callee : ℕ) (es : List (Term Declaration)) where
    starts_effect : (taker : Taker) (reached : Option Reached) (zs ys : List ℤ) (receiver : Option Receiver) → reached_if env (taker_place taker) ≡ Ok reached
        → values_of env es ≡ Ok zs → values_of env (others_of taker) ≡ Ok ys → Receives n taker reached ys receiver
        → start_of env n taker callee es ≡ Ok (starts receiver callee zs)
    starts_effect taker reached zs ys receiver is are others written.by_nothing = ap (λ (r : Result (List ℤ) Trap). r >>= λ xs. Ok (starts None callee xs)) are
    starts_effect taker reached zs ys receiver is are others (written.by_place what x) =
        ap (λ (r : Result Reached Trap). r >>= λ x. values_of env es >>= λ xs. Ok (starts (Some (place x n)) callee xs))
        (some_reached (reached_at env what) x is)
        ∙ ap (λ (r : Result (List ℤ) Trap). r >>= λ xs. Ok (starts (Some (place x n)) callee xs)) are
    starts_effect taker reached zs ys receiver is are others (written.by_inlet inlet arguments xs) =
        ap (λ (r : Result (List ℤ) Trap). r >>= λ xs. values_of env arguments >>= λ ys. Ok (starts (Some (through inlet ys n)) callee xs)) are
        ∙ ap (λ (r : Result (List ℤ) Trap). r >>= λ ys. Ok (starts (Some (through inlet ys n)) callee zs)) others

    no_place : (taker : Taker) (trap : Trap) → reached_if env (taker_place taker) ≡ Err trap → start_of env n taker callee es ≡ Err trap
    no_place nothing trap is = cc
    no_place (into what) trap is =
        ap (λ (r : Result Reached Trap). r >>= λ x. values_of env es >>= λ xs. Ok (starts (Some (place x n)) callee xs))
        (no_reached (reached_at env what) trap is)
    no_place (through inlet arguments) trap is = cc

    no_argument : (taker : Taker) (reached : Option Reached) (trap : Trap) → reached_if env (taker_place taker) ≡ Ok reached → values_of env es ≡ Err trap
        → start_of env n taker callee es ≡ Err trap
    no_argument nothing reached trap is are = ap (λ (r : Result (List ℤ) Trap). r >>= λ xs. Ok (starts None callee xs)) are
    no_argument (into what) reached trap is are =
        let found = is_one (reached_at env what) reached is in
        ap (λ (r : Result Reached Trap). r >>= λ x. values_of env es >>= λ xs. Ok (starts (Some (place x n)) callee xs)) found.1
        ∙ ap (λ (r : Result (List ℤ) Trap). r >>= λ xs. Ok (starts (Some (place found.0 n)) callee xs)) are
    no_argument (through inlet arguments) reached trap is are =
        ap (λ (r : Result (List ℤ) Trap). r >>= λ xs. values_of env arguments >>= λ ys. Ok (starts (Some (through inlet ys n)) callee xs)) are

    no_other : (taker : Taker) (zs : List ℤ) (trap : Trap) → values_of env es ≡ Ok zs → values_of env (others_of taker) ≡ Err trap
        → start_of env n taker callee es ≡ Err trap
    no_other nothing zs trap are is = cc
    no_other (into what) zs trap are is = cc
    no_other (through inlet arguments) zs trap are is =
        ap (λ (r : Result (List ℤ) Trap). r >>= λ xs. values_of env arguments >>= λ ys. Ok (starts (Some (through inlet ys n)) callee xs)) are
        ∙ ap (λ (r : Result (List ℤ) Trap). r >>= λ ys. Ok (starts (Some (through inlet ys n)) callee zs)) is

    -- where the place and the values are there, it is started, or there is no other argument's value
    started_or : (taker : Taker) (reached : Option Reached) (zs ys : List ℤ) → reached_if env (taker_place taker) ≡ Ok reached
        → values_of env es ≡ Ok zs → values_of env (others_of taker) ≡ Ok ys → (receiver : Option Receiver)
        × (start_of env n taker callee es ≡ Ok (starts receiver callee zs))
    started_or nothing reached zs ys is are others = (None, ap (λ (r : Result (List ℤ) Trap). r >>= λ xs. Ok (starts None callee xs)) are)
    started_or (into what) reached zs ys is are others =
        let found = is_one (reached_at env what) reached is in (
          Some (place found.0 n),
          ap (λ (r : Result Reached Trap). r >>= λ x. values_of env es >>= λ xs. Ok (starts (Some (place x n)) callee xs)) found.1
              ∙ ap (λ (r : Result (List ℤ) Trap). r >>= λ xs. Ok (starts (Some (place found.0 n)) callee xs)) are,
        )
    started_or (through inlet arguments) reached zs ys is are others = (
      Some (through inlet ys n),
      ap (λ (r : Result (List ℤ) Trap). r >>= λ xs. values_of env arguments >>= λ ys. Ok (starts (Some (through inlet ys n)) callee xs)) are
          ∙ ap (λ (r : Result (List ℤ) Trap). r >>= λ ys. Ok (starts (Some (through inlet ys n)) callee zs)) others,
    )

  -- assignments and calls
  module _ (n : ℕ) (what : Into) (e : Term Declaration) where
    abbrev assign_from : Result Reached Trap → Result Effect Trap
    assign_from r = r >>= λ reached. value_of env e >>= λ z. combined reached.op (read_at (store_of s p i) reached.cell) z >>= λ y. Ok (writes reached.cell y)

    abbrev value_from : Reached → Result ℤ Trap → Result Effect Trap
    value_from reached r = r >>= λ z. combined reached.op (read_at (store_of s p i) reached.cell) z >>= λ y. Ok (writes reached.cell y)

    assign_effect : (reached : Reached) (z : ℤ) (r : Result ℤ Trap) → reached_at env what ≡ Ok reached → value_of env e ≡ Ok z
        → combined reached.op (read_at (store_of s p i) reached.cell) z ≡ r → effect_of env n (assign what e) ≡ (r >>= λ y. Ok (writes reached.cell y))
    assign_effect reached z r is value comes =
        ap assign_from is ∙ ap (value_from reached) value ∙ ap (λ (r : Result ℤ Trap). r >>= λ y. Ok (writes reached.cell y)) comes

  call_effect : (n : ℕ) (what : Option Into) (callee : ℕ) (es : List (Term Declaration)) (reached : Option Reached) (r : Result (List ℤ) Trap)
      → reached_if env what ≡ Ok reached → values_of env es ≡ r → effect_of env n (call what callee es) ≡ (r >>= λ zs. Ok (enters reached callee zs))
  call_effect n what callee es reached r is are =
      ap (λ (r : Result (Option Reached) Trap). r >>= λ x. values_of env es >>= λ zs. Ok (enters x callee zs)) is
      ∙ ap (λ (r : Result (List ℤ) Trap). r >>= λ zs. Ok (enters reached callee zs)) are

  -- no value
  no_value_effect : (n : ℕ) (act : Action) (trap : Trap) → HasNoValue program s p i trap act → effect_of env n act ≡ Err trap
  no_value_effect n act trap (fails.of_place what e is) = ap (assign_from n what e) is
  no_value_effect n act trap (fails.of_right_side what e reached is value) = ap (assign_from n what e) is ∙ ap (value_from n what e reached) value
  no_value_effect n act trap (fails.of_operator what e reached z is value comes) = assign_effect n what e reached z (Err trap) is value comes
  no_value_effect n act trap (fails.of_call_place what callee es is) =
      ap (λ (r : Result (Option Reached) Trap). r >>= λ x. values_of env es >>= λ zs. Ok (enters x callee zs)) is
  no_value_effect n act trap (fails.of_call_argument what callee es reached is are) = call_effect n what callee es reached (Err trap) is are
  no_value_effect n act trap (fails.of_spawn_place taker callee es none is) = no_place n callee es taker trap is
  no_value_effect n act trap (fails.of_spawn_argument taker callee es reached none is are) = no_argument n callee es taker reached trap is are
  no_value_effect n act trap (fails.of_inlet_argument taker callee es reached zs none is are others) = no_other n callee es taker zs trap are others
  no_value_effect n act trap (fails.of_print_argument format es are) = ap (λ (r : Result (List ℤ) Trap). r >>= λ zs. Ok (writes_out (printed format zs))) are
  no_value_effect n act trap (fails.of_test e is) = ap (λ (r : Result ℤ Trap). r >>= λ z. Ok (answers z)) is
  no_value_effect n act trap (fails.of_result e leave is) = ap (λ (r : Result ℤ Trap). r >>= λ z. Ok (gives z)) is

  no_value_unheld : (act : Action) (trap : Trap) → HasNoValue program s p i trap act → held_at act ≡ false
  no_value_unheld act trap (fails.of_place what e is) = refl
  no_value_unheld act trap (fails.of_right_side what e reached is value) = refl
  no_value_unheld act trap (fails.of_operator what e reached z is value comes) = refl
  no_value_unheld act trap (fails.of_call_place what callee es is) = refl
  no_value_unheld act trap (fails.of_call_argument what callee es reached is are) = refl
  no_value_unheld act trap (fails.of_spawn_place taker callee es none is) = none_seen s p none
  no_value_unheld act trap (fails.of_spawn_argument taker callee es reached none is are) = none_seen s p none
  no_value_unheld act trap (fails.of_inlet_argument taker callee es reached zs none is are others) = none_seen s p none
  no_value_unheld act trap (fails.of_print_argument format es are) = refl
  no_value_unheld act trap (fails.of_test e is) = refl
  no_value_unheld act trap (fails.of_result e leave is) = leave_unheld leave

  -- a lock is held where a thread ends
  leave_ends : (act : Action) → Leaves act → (is_empty i.below || not (is_function (owner_at program i))) ≡ true → ends_thread program i act ≡ true
  leave_ends act (written.by_value e) h = h
  leave_ends act written.by_no_value h = h
  leave_ends act written.by_brace h = h

  pub thread_ends : (act : Action) → EndsThread program s p i act → ends_thread program i act ≡ true
  thread_ends act fails.at_sync = refl
  thread_ends act (fails.at_procedure_end a leaving alone) =
      leave_ends a leaving (ap (λ xs. is_empty xs || not (is_function (owner_at program i))) alone)
  thread_ends act (fails.at_inlet_end a leaving inside) =
      leave_ends a leaving (or_right (is_empty i.below) _ (ap not (no_function (owner_at program i) inside.no_function)))
  thread_ends act (fails.at_spawn taker callee es) = refl

  -- locks
  other_refused : (before : state.Lock) → before ≢ held p → lock_turn_by p Unlock before ≡ refused
  other_refused unset h = refl
  other_refused free h = refl
  other_refused (held q) h = other_by q (same_path q p) refl (λ e. h (ap held e))
    where
      other_by : (q : Path) (b : Bool) → same_path q p ≡ b → q ≢ p → (if b then lock_turned free else refused) ≡ refused
      other_by q true e h = absurd (h (same-is q p e))
      other_by q false e h = refl

  may_not_turn_lock : (k : ℕ) (what : LockAction) → MayNot program s p i k what → lock_turn_by p what (lock_at s k) ≡ refused
  may_not_turn_lock k what (fails.init_held q e) = ap (lock_turn_by p Init) e
  may_not_turn_lock k what (fails.lock_unset e) = ap (lock_turn_by p Lock) e
  may_not_turn_lock k what (fails.lock_own e) = ap (lock_turn_by p Lock) e ∙ cond-true (same_path p p) refused blocked (same-self p)
  may_not_turn_lock k what (fails.unlock_other h) = other_refused (lock_at s k) h

  lock_turn_is : (t : State) (what : LockAction) (before after : state.Lock)
      → TurnsLock program s p i t what before after → lock_turn_by p what before ≡ lock_turned after
  lock_turn_is t what before after rule.inits_unset = refl
  lock_turn_is t what before after rule.inits_free = refl
  lock_turn_is t what before after rule.takes_free = refl
  lock_turn_is t what before after rule.lets_go = cond-true (same_path p p) (lock_turned free) refused (same-self p)

  -- traps
  fails_fit : (n : ℕ) (act : Action) (kind : TrapKind) (t : State) → Fails program s p i act kind → Traps program s p i t n kind
      → Fits n t (held_at act) (effect_of env n act)
  fails_fit n act kind t (fails.has_no_value a trap h) trapped = fits_by n a t false (Err trap) (no_value_unheld a trap h) (no_value_effect n a trap h) trapped
  fails_fit n act kind t (fails.holds_lock a ending holding) trapped =
      fits_by n a t true (effect_of env n a) (and_from _ _ (thread_ends a ending) (holds_seen s p holding)) refl trapped
  fails_fit n act kind t (fails.may_not what k h) trapped = subst (FitsLockTurn n k t) (sym (may_not_turn_lock k what h)) trapped
  fails_fit n act kind t (fails.too_deep what callee es reached zs is are deep) trapped =
      fits_by n (call what callee es) t false (Ok (enters reached callee zs)) refl (call_effect n what callee es reached (Ok zs) is are)
      (no_room_of n depth _ t _ (le-ltb (length i.below) 255 deep) trapped)
  fails_fit n act kind t (fails.too_many taker callee es reached zs ys none is are others many) trapped =
      let did = started_or n callee es taker reached zs ys is are others in
      fits_by n (spawn taker callee es) t false (Ok (starts did.0 callee zs)) (none_seen s p none) did.1
      (no_room_of n instances _ t _ (no_room (length s.instances) i.children many) trapped)
  fails_fit n act kind t (fails.too_long format es zs are long) trapped =
      fits_by n (print format es) t false (Ok (writes_out (printed format zs))) refl
      (ap (λ (r : Result (List ℤ) Trap). r >>= λ xs. Ok (writes_out (printed format xs))) are)
      (no_room_of n output _ t _ (lt-leb _ _ long) trapped)
  fails_fit n act kind t (fails.of_caller a z trap caller below reached inside given is awaits comes) trapped =
      leaves_fit n a z t given (fails.of_function inside) (above_function n t z caller below inside is
      (subst (FitsAnswer n t z caller below) (sym awaits)
      (subst (FitsCombined n t (record i { top = caller; below = below }) reached.cell) (sym comes) trapped)))

  pass_unheld : MayPass program s p i → holds_lock s p ≡ false
  pass_unheld (fails.in_procedure alone whole) = none_seen s p whole.lockless
  pass_unheld (fails.elsewhere above none) = none_seen s p none

  bare_fit : (n : ℕ) (act : Action) (t : State) → Bare program s p i t act → GoesBy program s p i t (pos 1) → Fits n t (held_at act) (effect_of env n act)
  bare_fit n act t rule.null_is h = h
  bare_fit n act t rule.break_is h = h
  bare_fit n act t rule.continue_is h = h

  pub acts_fit : (n : ℕ) (act : Action) (t : State) → Acts program s p i t n act → Fits n t (held_at act) (effect_of env n act)
  acts_fit n act t (rule.assigns what e reached z y is value comes h) =
      fits_by n (assign what e) t false (Ok (writes reached.cell y)) refl (assign_effect n what e reached z (Ok y) is value comes) h
  acts_fit n act t (rule.goes_by a bare h) = bare_fit n a t bare h
  acts_fit n act t (rule.answers_test e z is h) =
      fits_by n (tests e) t false (Ok (answers z)) refl (ap (λ (r : Result ℤ Trap). r >>= λ x. Ok (answers x)) is) h
  acts_fit n act t (rule.calls what callee es reached zs is are h) =
      fits_by n (call what callee es) t false (Ok (enters reached callee zs)) refl (call_effect n what callee es reached (Ok zs) is are)
      (room_of n depth _ t _ (lt-ltb (length i.below) 255 h.room) h)
  acts_fit n act t (rule.leaves_function a z caller below inside given is h) =
      leaves_fit n a z t given (fails.of_function inside) (above_function n t z caller below inside is (answers_fit n t z caller below i.top.awaits h))
  acts_fit n act t (rule.leaves_inlet a z caller below inside none given is h) =
      leaves_fit n a z t given (fails.of_inlet inside none) (above_inlet n t z caller below inside is h)
  acts_fit n act t (rule.leaves_procedure a z alone whole given h) =
      leaves_fit n a z t given (fails.of_procedure alone whole) (subst (λ xs. FitsLeaving n t z xs (leaves_function program i)) (sym alone) h)
  acts_fit n act t (rule.spawns taker callee es reached zs ys receiver none is are others receives h) =
      fits_by n (spawn taker callee es) t false (Ok (starts receiver callee zs)) (none_seen s p none)
      (starts_effect n callee es taker reached zs ys receiver is are others receives)
      (room_of n instances _ t _ (and_from _ _ (lt-ltb (length s.instances) 65536 h.few) (lt-ltb i.children 4294967295 h.few_children)) h)
  acts_fit n act t (rule.passes pass h) = fits_by n sync t false (Ok (answers (pos 1))) (pass_unheld pass) refl h
  acts_fit n act t (rule.marks h) = h
  acts_fit n act t (rule.locks what k h) =
      subst (FitsLockTurn n k t) (sym (ap (lock_turn_by p what) h.was ∙ lock_turn_is t what h.before h.after h.turns_lock))
      (record { is = h.is; others = h.others; goes_on = h.goes_on; still = h.still })
  acts_fit n act t (rule.prints format es zs are few h still) =
      fits_by n (print format es) t false (Ok (writes_out (printed format zs))) refl
      (ap (λ (r : Result (List ℤ) Trap). r >>= λ xs. Ok (writes_out (printed format xs))) are)
      (room_of n output _ t _ (le-leb _ _ few) (record { goes_on = h; still = still }))
  acts_fit n act t (rule.traps a kind h trapped) = fails_fit n a kind t h trapped

  -- a delivery is taken
  abbrev pub Taken : ℤ → Receiver → List Delivery → State → Type 0
  Taken z (place reached n) left t =
      FitsCombined n t (record i { waiting = left }) reached.cell (combined reached.op (read_at (store_of s p i) reached.cell) z)
  Taken z (through inlet others n) left t = Starts program s p i t left inlet (z ∷ others)

  pub takes_fit : (left : List Delivery) (c : Path) (z : ℤ) (receiver : Receiver) (t : State) → Takes program s p i t left c z receiver
      → Taken z receiver left t
  takes_fit left c z receiver t (rule.by_place reached n y comes h) = subst (FitsCombined n t (record i { waiting = left }) reached.cell) (sym comes) h
  takes_fit left c z receiver t (rule.place_traps reached n trap comes h) = subst (FitsCombined n t (record i { waiting = left }) reached.cell) (sym comes) h
  takes_fit left c z receiver t (rule.by_inlet inlet others n h) = h
