-- Which two steps of a run the program does not order: by the paths of their instances, the `sync`s passed and the children spawned before them.
use Rattle.std.specs.Prelude.{ℕ, ◌==◌, nat_le, Bool, true, false, not, ◌&&◌, if◌then◌else◌, List, [], ◌∷◌, ◌++◌, Option, Some, None, count_by}
use Rattle.cilk_log_replay.specs.machine.model.labelled.Labelled.{Labelled}
use Rattle.cilk_log_replay.specs.machine.model.Path.{Path, same_path}
use Rattle.cilk_log_replay.specs.machine.model.Change.{is_sync}
use Rattle.cilk_log_replay.specs.machine.model.Event.{Event, acted, spawned}
use Rattle.cilk_races.specs.Acts.{act_of, is_so}
use Rattle.cilk_races.specs.Inside.{parent_path}

-- a step: its instance, the child whose value it takes or whose inlet it is of, and what its instance did before
pub record Placed : Type 0 where
  pub path : Path
  pub taking : Option Path
  pub syncs : ℕ
  pub children : ℕ

abbrev pub passes : Labelled → Path → Event → Bool
passes program p (acted q n) = same_path q p && is_so is_sync (act_of program n)
passes program p other = false

abbrev pub syncs_of : Labelled → List Event → Path → ℕ
syncs_of program events p = count_by (passes program p) events

abbrev pub bears : Path → Event → Bool
bears p (spawned c n) = same_path (parent_path c) p
bears p other = false

abbrev pub children_of : List Event → Path → ℕ
children_of events p = count_by (bears p) events

-- how many `sync`s its parent had passed when a path was born
abbrev pub block_from : Labelled → List Event → List Event → Path → ℕ
block_from program before [] c = 0
block_from program before (spawned d n ∷ events) c =
    if same_path d c then syncs_of program before (parent_path c) else block_from program (before ++ spawned d n ∷ []) events c
block_from program before (e ∷ events) c = block_from program (before ++ e ∷ []) events c

abbrev pub block_of : Labelled → List Event → Path → ℕ
block_of program events c = block_from program [] events c

-- the deepest common instance of two, and the number of its child that each is, or is below
pub record Parting : Type 0 where
  pub front : Path
  pub first : Option ℕ
  pub second : Option ℕ

abbrev pub next_of : Path → Option ℕ
next_of [] = None
next_of (k ∷ p) = Some k

abbrev pub parting_from : Path → Path → Path → Parting
parting_from front [] q = record { front = front; first = None; second = next_of q }
parting_from front (k ∷ p) [] = record { front = front; first = Some k; second = None }
parting_from front (k ∷ p) (l ∷ q) =
    if k == l then parting_from (front ++ k ∷ []) p q else record { front = front; first = Some k; second = Some l }

pub data Relation : Type 0 where
  ordered : Relation
  -- below two children of an instance, or below one and in its thread or an inlet
  race : Relation
  -- in one instance: an inlet and the thread, or two inlets, each of which is whole, but in either order
  order : Relation
  inlets : Relation

abbrev pub if_so : Bool → Relation → Relation
if_so true relation = relation
if_so false relation = ordered

-- whether a step of the thread of an instance lies beside its child number k of this block: behind the spawn, and before a `sync`
abbrev pub is_beside : Placed → ℕ → ℕ → Bool
is_beside a k block = nat_le k a.children && (a.syncs == block)

abbrev pub last_of : Path → ℕ
last_of [] = 0
last_of (k ∷ []) = k
last_of (k ∷ l ∷ p) = last_of (l ∷ p)

module _ (program : Labelled) (events : List Event) where
  abbrev pub block : Path → ℕ → ℕ
  block p k = block_of program events (p ++ k ∷ [])

  abbrev pub block_at : Path → ℕ
  block_at c = block_of program events c

  -- a step of p itself, by what it takes, beside its child number k
  abbrev pub with_child : Option Path → Placed → Path → ℕ → Relation
  with_child None a p k = if_so (is_beside a k (block p k)) race
  with_child (Some c) a p k = if_so (not (same_path c (p ++ k ∷ [])) && (block_at c == block p k)) race

  -- a thread's step of one instance beside what takes the value of child c
  abbrev pub with_value : Placed → Path → Relation
  with_value a c = if_so (nat_le (last_of c) a.children && (a.syncs == block_at c)) order

  abbrev pub within_one : Option Path → Option Path → Placed → Placed → Relation
  within_one None None a b = ordered
  within_one None (Some c) a b = with_value a c
  within_one (Some c) None a b = with_value b c
  within_one (Some c) (Some d) a b = if_so (not (same_path c d) && (block_at c == block_at d)) inlets

  abbrev pub by_branches : Path → Option ℕ → Option ℕ → Placed → Placed → Relation
  by_branches p None None a b = within_one a.taking b.taking a b
  by_branches p None (Some k) a b = with_child a.taking a p k
  by_branches p (Some k) None a b = with_child b.taking b p k
  by_branches p (Some k) (Some l) a b = if_so (block p k == block p l) race

  -- the first one was taken before the second
  abbrev pub relation_of : Placed → Placed → Relation
  relation_of a b =
      by_branches (parting_from [] a.path b.path).front (parting_from [] a.path b.path).first (parting_from [] a.path b.path).second a b
