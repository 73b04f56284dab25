-- What each choice of a run did: work, or a frame was moved.
use Rattle.std.specs.Prelude.{ℕ, ◌-◌, ◌==◌, Bool, true, false, not, ◌&&◌, ◌||◌, List, [], ◌∷◌, count_by}
use Rattle.cilk_log_replay.specs.machine.nodes.model.Choice.{Act, step, pop, steal, Choice}
use Rattle.cilk_log_replay.specs.machine.nodes.model.Event.{Event, spawned, moved}

pub record Deed : Type 0 where
  pub choice : Choice
  pub did : Event

abbrev pub deeds_of : List Choice → List Event → List Deed
deeds_of [] events = []
deeds_of (choice ∷ choices) [] = []
deeds_of (choice ∷ choices) (e ∷ events) = record { choice = choice; did = e } ∷ deeds_of choices events

abbrev pub is_step : Act → Bool
is_step step = true
is_step other = false

abbrev pub is_pop : Act → Bool
is_pop pop = true
is_pop other = false

abbrev pub is_steal : Act → Bool
is_steal (steal victim) = true
is_steal other = false

abbrev pub only_moves : Event → Bool
only_moves moved = true
only_moves other = false

-- a step that does more than to move a frame is work; one that does no more parks it
abbrev pub is_work : Deed → Bool
is_work d = is_step d.choice.act && not (only_moves d.did)

abbrev pub is_park : Deed → Bool
is_park d = is_step d.choice.act && only_moves d.did

abbrev pub pops : Deed → Bool
pops d = is_pop d.choice.act

abbrev pub steals : Deed → Bool
steals d = is_steal d.choice.act

abbrev pub is_by : ℕ → Deed → Bool
is_by w d = d.choice.worker == w

abbrev pub is_work_of : ℕ → Deed → Bool
is_work_of w d = is_by w d && is_work d

-- a spawn puts the parent into the deque of its worker, and a pop and a steal take a frame out of one (Cilk 5.4 manual, work stealing)
abbrev pub is_spawn : Event → Bool
is_spawn (spawned child n) = true
is_spawn other = false

abbrev pub puts : ℕ → Deed → Bool
puts w d = is_work_of w d && is_spawn d.did

abbrev pub is_from : ℕ → Act → Bool
is_from w (steal victim) = victim == w
is_from w other = false

abbrev pub takes_out : ℕ → Deed → Bool
takes_out w d = (is_by w d && pops d) || is_from w d.choice.act

abbrev pub in_deque : ℕ → List Deed → ℕ
in_deque w deeds = count_by (puts w) deeds - count_by (takes_out w) deeds
