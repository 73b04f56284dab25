-- The state of a program that runs.
use Rattle.std.specs.Prelude.{◌≡◌, ℕ, ◌≤◌, ℤ, Bool, true, false, not, ◌&&◌, cond, slice_index_or, List, [], ◌∷◌, map, replicate, length, Option, Some, None}
use Rattle.std.specs.Prelude.{is_some, if◌then◌else◌, filter, count_by}
use Rattle.std.specs.List.{list_any}
use Rattle.cilk_model.specs.declared.trap.Trap.{Trap}
use Rattle.cilk_model.specs.labelled.Labelled.{Labelled}
use Rattle.cilk_model.specs.Values.{Values, Store, initial_values}
use Rattle.cilk_model.specs.Path.{Path, same_path, is_child}
use Rattle.cilk_model.specs.Instance.{Instance, started, outer_values}

-- why a program is stopped
pub data TrapKind : Type 0 where
  -- an expression has no value (C 1990, 6.3)
  of_value : (trap : Trap) → TrapKind
  -- a lock is taken or let go by one that may not (Cilk 5.4 manual, `Cilk_lock`)
  lock : TrapKind
  -- a lock is held where a Cilk thread ends
  held_lock : TrapKind
  -- too many activations of one instance, live instances, bytes of output
  depth : TrapKind
  instances : TrapKind
  output : TrapKind

-- how the program stands
pub data Outcome : Type 0 where
  running : Outcome
  -- the root's value (C 1990, 5.1.2.2.3)
  finished : (value : ℤ) → Outcome
  -- the instance that met the trap, and the number of its action
  trapped : (kind : TrapKind) (path : Path) (n : ℕ) → Outcome

-- a lock (Cilk 5.4 manual, `Cilk_lockvar`)
pub data Lock : Type 0 where
  unset : Lock
  free : Lock
  held : (by : Path) → Lock

-- a live instance at its path
pub record Entry : Type 0 where
  pub path : Path
  pub instance : Instance

-- the live instances in the order of their birth, at most one at each path: a finite map from paths to instances
abbrev pub Instances : Type 0
Instances = List Entry

abbrev pub instance_at : Instances → Path → Option Instance
instance_at [] p = None
instance_at (e ∷ entries) p = if same_path e.path p then Some e.instance else instance_at entries p

abbrev pub is_live : Instances → Path → Bool
is_live entries p = is_some (instance_at entries p)

abbrev pub change : Path → (Instance → Instance) → Entry → Entry
change p f e = if same_path e.path p then record e { instance = f e.instance } else e

-- the instance at p is changed
abbrev pub changed : Path → (Instance → Instance) → Instances → Instances
changed p f entries = map (change p f) entries

-- the instance at p is taken out
abbrev pub without : Path → Instances → Instances
without p entries = filter (λ e. not (same_path e.path p)) entries

abbrev pub has_live_child : Instances → Path → Bool
has_live_child entries p = list_any (λ e. is_child p e.path) entries

-- one entry stands at each path that lives, and no two have one path
abbrev pub PathsAreApart : Instances → Type 0
PathsAreApart entries = (p : Path) → count_by (λ e. same_path e.path p) entries ≡ cond (is_live entries p) 1 0

-- p lives, and has counted its child k; children are numbered from 1
pub record Counted (entries : Instances) (p : Path) (k : ℕ) : Type 0 where
  pub parent : Instance
  pub lives : instance_at entries p ≡ Some parent
  pub first : 1 ≤ k
  pub within : k ≤ parent.children

pub record State : Type 0 where
  -- what the variables of the top level hold
  pub globals : Values
  -- the locks, in the order of their declarations
  pub locks : List Lock
  -- what was printed
  pub output : List ℕ
  pub outcome : Outcome
  pub instances : Instances

-- the state in which the root alone is at the start of `main`
abbrev pub opening_state : Labelled → ℕ → State
opening_state program main = record {
  globals = initial_values program.globals;
  locks = replicate (length program.locks) unset;
  output = [];
  outcome = running;
  instances = record { path = []; instance = started program main [] } ∷ [];
}

abbrev pub is_empty : {A : Type 0} → List A → Bool
is_empty [] = true
is_empty (x ∷ xs) = false

-- nothing to wait for: no live child, and no delivery that waits (Cilk 5.4 manual, `SYNCHED`)
abbrev pub is_synched : State → Path → Instance → Bool
is_synched s p i = not (has_live_child s.instances p) && is_empty i.waiting

-- what the top activation sees
abbrev pub store_of : State → Path → Instance → Store
store_of s p i = record {
  own = i.top.values;
  outer = outer_values i.below;
  globals = s.globals;
  synched = is_synched s p i;
}

abbrev pub lock_at : State → ℕ → Lock
lock_at s k = slice_index_or s.locks k unset
