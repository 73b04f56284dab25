-- What the program has outside its instances: the machine names an instance by its id, and the definitions by its path.
use Rattle.std.specs.Prelude.{◌≡◌, ◌<◌, ℕ, ℤ, ⊤, List, All, length, map}
use Rattle.cilk_laws_model.specs.labelled.Labelled.{Labelled}
use Rattle.cilk_laws_model.specs.model.Path.{Path}
use Rattle.cilk_laws_model.specs.model.State as state
use Rattle.cilk_laws_model.specs.model.State.{TrapKind, State}
use Rattle.cilk_sched.specs.nodes.Slots.{size_of, flat}
use Rattle.cilk_machine_agree.specs.declared.lock.Lock.{Lock}
use Rattle.cilk_machine_agree.specs.declared.lock.Lock.TheVariants.{Unset, Free, Held}

pub data Outcome : Type 0 where
  running : Outcome
  finished : (value : ℤ) → Outcome
  trapped : (kind : TrapKind) (id n : ℕ) → Outcome

pub record Outside : Type 0 where
  -- those of the variables of the top level, one variable after another
  pub cells : List ℤ
  pub locks : List Lock
  pub output : List ℕ
  pub outcome : Outcome

-- where each id goes by its path
abbrev pub lock_by : (ℕ → Path) → Lock → state.Lock
lock_by up Unset = state.unset
lock_by up Free = state.free
lock_by up (Held i) = state.held (up i)

abbrev pub outcome_by : (ℕ → Path) → Outcome → state.Outcome
outcome_by up running = state.running
outcome_by up (finished z) = state.finished z
outcome_by up (trapped kind i n) = state.trapped kind (up i) n

-- the ids are among the first n
abbrev pub LockWithin : ℕ → Lock → Type 0
LockWithin n Unset = ⊤
LockWithin n Free = ⊤
LockWithin n (Held i) = i < n

abbrev pub OutcomeWithin : ℕ → Outcome → Type 0
OutcomeWithin n running = ⊤
OutcomeWithin n (finished z) = ⊤
OutcomeWithin n (trapped kind i k) = i < n

pub record SameOutside (program : Labelled) (up : ℕ → Path) (n : ℕ) (o : Outside) (s : State) : Type 0 where
  pub cells : o.cells ≡ flat s.globals
  pub sizes : map length s.globals ≡ map size_of program.globals
  pub locks : s.locks ≡ map (lock_by up) o.locks
  pub holders : All (LockWithin n) o.locks
  pub output : s.output ≡ o.output
  pub outcome : s.outcome ≡ outcome_by up o.outcome
  pub trapper : OutcomeWithin n o.outcome
