-- The races of a run: two accesses of one cell that the program does not order, at least one of which writes, with no lock held at both.
use Rattle.std.specs.Prelude.{ℕ, suc, ◌==◌, Bool, true, false, not, ◌&&◌, ◌||◌, if◌then◌else◌, List, [], ◌∷◌, ◌++◌, map, filter, length}
use Rattle.std.specs.Prelude.{Option, Some, None}
use Rattle.std.specs.List.{list_any}
use Rattle.cilk_log_replay.specs.machine.model.labelled.Labelled.{Labelled}
use Rattle.cilk_log_replay.specs.machine.model.Path.{Path, same_path}
use Rattle.cilk_log_replay.specs.machine.model.Choice.{Choice}
use Rattle.cilk_log_replay.specs.machine.model.Event.{Event, acted, spawned, delivered, returned, ended, trapped, moved}
use Rattle.cilk_log_replay.specs.machine.model.State.{State, instance_at}
use Rattle.cilk_log_replay.specs.machine.model.Instance.{Instance}
use Rattle.cilk_log_replay.specs.machine.model.Run.{Standing, next_of, event_of, opening}
use Rattle.cilk_log_replay.specs.machine.model.Scheduler.{hand_of}
use Rattle.cilk_races.specs.Deeds.{is_step}
use Rattle.cilk_races.specs.Steps.{Step, step_of}
use Rattle.cilk_log_replay.specs.machine.step.plan.agree.Alike.{lowest_body}
use Rattle.cilk_log_replay.specs.machine.step.Accesses.{Where, global, own, output, synched, Access, accesses_of, locks_from}
use Rattle.cilk_races.specs.Order.{Placed, Relation, ordered, race, order, inlets, syncs_of, children_of, relation_of}

-- an access of a choice, counted from 1: by which action, and with which locks
pub record Touch : Type 0 where
  pub choice : ℕ
  pub placed : Placed
  pub n : ℕ
  pub access : Access
  pub locks : List ℕ
  -- the body of its instance's procedure, whose variables are the instance's own
  pub procedure : ℕ

abbrev pub number_of : Event → ℕ
number_of (acted p n) = n
number_of (spawned c n) = n
number_of (delivered c n) = n
number_of (returned p n) = n
number_of (ended p) = 0
number_of (trapped kind p n) = n
number_of moved = 0

abbrev pub placed_at : Labelled → List Event → Step → Placed
placed_at program before s =
    record { path = s.path; taking = s.taking; syncs = syncs_of program before s.path; children = children_of before s.path }

abbrev pub touch : ℕ → Placed → ℕ → List ℕ → ℕ → Access → Touch
touch k placed n locks procedure access =
    record { choice = k; placed = placed; n = n; access = access; locks = locks; procedure = procedure }

abbrev pub touches_by : Labelled → State → List Event → ℕ → Event → Option Step → Path → Option Instance → List Touch
touches_by program s before k e None p i = []
touches_by program s before k e (Some st) p None = []
touches_by program s before k e (Some st) p (Some i) =
    map (touch k (placed_at program before st) (number_of e) (locks_from 0 p s.locks) (lowest_body i)) (accesses_of program s p i)

abbrev pub touches_in : Labelled → State → List Event → ℕ → Event → Option Path → List Touch
touches_in program s before k e None = []
touches_in program s before k e (Some p) = touches_by program s before k e (step_of program before e) p (instance_at s.instances p)

-- those of the instance in the hand of a worker that steps
abbrev pub touches_at : Labelled → Standing → List Event → ℕ → Choice → List Touch
touches_at program at before k choice =
    if is_step choice.act then touches_in program at.state before k (event_of program at choice) (hand_of at.scheduler.places choice.worker) else []

abbrev pub touches_from : Labelled → Standing → List Event → ℕ → List Choice → List Touch
touches_from program at before k [] = []
touches_from program at before k (choice ∷ choices) =
    touches_at program at before (suc k) choice
    ++ touches_from program (next_of program at choice) (before ++ event_of program at choice ∷ []) (suc k) choices

abbrev pub touches_of : Labelled → ℕ → ℕ → List Choice → List Touch
touches_of program main n choices = touches_from program (opening program main n) [] 0 choices

-- one cell
abbrev pub same_cell : Where → Where → Bool
same_cell (global n k) (global m l) = (n == m) && (k == l)
same_cell (own p n k) (own q m l) = same_path p q && ((n == m) && (k == l))
same_cell output output = true
same_cell (synched p) (synched q) = same_path p q
same_cell _ _ = false

-- one variable, of whatever element
abbrev pub same_variable : Where → Where → Bool
same_variable (global n k) (global m l) = n == m
same_variable (own p n k) (own q m l) = same_path p q && (n == m)
same_variable output output = true
same_variable (synched p) (synched q) = same_path p q
same_variable _ _ = false

abbrev pub share_one : List ℕ → List ℕ → Bool
share_one locks others = list_any (λ k. list_any (λ l. k == l) others) locks

abbrev pub meet : Touch → Touch → Bool
meet a b = same_cell a.access.at b.access.at && ((a.access.writes || b.access.writes) && not (share_one a.locks b.locks))

pub record Pair : Type 0 where
  pub first : Touch
  pub second : Touch
  pub relation : Relation

abbrev pub is_ordered : Relation → Bool
is_ordered ordered = true
is_ordered other = false

abbrev pub paired : Labelled → List Event → Touch → Touch → Pair
paired program events a b = record { first = a; second = b; relation = relation_of program events a.placed b.placed }

-- each pair, in the order of the second one; those before these are given
abbrev pub pairs_from : Labelled → List Event → List Touch → List Touch → List Pair
pairs_from program events before [] = []
pairs_from program events before (b ∷ touches) =
    filter (λ p. not (is_ordered p.relation)) (map (λ a. paired program events a b) (filter (λ a. meet a b) before))
    ++ pairs_from program events (before ++ b ∷ []) touches

abbrev pub pairs_of : Labelled → List Event → List Touch → List Pair
pairs_of program events touches = pairs_from program events [] touches

abbrev pub same_relation : Relation → Relation → Bool
same_relation race race = true
same_relation order order = true
same_relation inlets inlets = true
same_relation ordered ordered = true
same_relation _ _ = false

-- told as one: of one variable, by the same two actions, and related alike
abbrev pub same_entry : Pair → Pair → Bool
same_entry p q =
    same_variable p.first.access.at q.first.access.at
    && ((p.first.n == q.first.n) && ((p.second.n == q.second.n) && same_relation p.relation q.relation))

-- the first one of each entry
abbrev pub entries_of : List Pair → List Pair
entries_of [] = []
entries_of (p ∷ pairs) = p ∷ filter (λ q. not (same_entry p q)) (entries_of pairs)

abbrev pub count_of : Relation → List Pair → ℕ
count_of relation pairs = length (filter (λ p. same_relation relation p.relation) pairs)
