-- Which paths were ever made, and the procedure of each, as the events tell it.
use Rattle.std.specs.Prelude.{ℕ, ◌==◌, if◌then◌else◌, List, [], ◌∷◌, flat_map, Option, Some, None, option_and_then}
use Rattle.std.specs.Option.{option_or}
use Rattle.cilk_model.specs.labelled.Labelled.{Action, spawn, Stmt, action, choose, while, repeat, loop, select, at_label, nested, Stmts, none, also}
use Rattle.cilk_model.specs.labelled.Labelled.{Body, Labelled}
use Rattle.cilk_model.specs.Path.{Path, same_path}
use Rattle.cilk_model.specs.Event.{Event, spawned}

abbrev pub callee_by : Action → Option ℕ
callee_by (spawn taker callee arguments) = Some callee
callee_by other = None

abbrev mutual
  -- no test is a spawn, and no part of the header of a `for` is one
  pub callee_in : ℕ → Stmt → Option ℕ
  callee_in n (action what) = if what.number == n then callee_by what.act else None
  callee_in n (choose test body other) = option_or (callee_among n body) (callee_among n other)
  callee_in n (while test body) = callee_among n body
  callee_in n (repeat body test) = callee_among n body
  callee_in n (loop first test advance body) = callee_among n body
  callee_in n (select test body) = callee_among n body
  callee_in n (at_label value) = None
  callee_in n (nested inside) = callee_among n inside

  pub callee_among : ℕ → Stmts → Option ℕ
  callee_among n none = None
  callee_among n (also first others) = option_or (callee_in n first) (callee_among n others)

abbrev pub callee_by_bodies : ℕ → List Body → Option ℕ
callee_by_bodies n [] = None
callee_by_bodies n (body ∷ bodies) = option_or (callee_among n body.stmts) (callee_by_bodies n bodies)

-- the body that spawn n starts (Cilk 5.4 manual, `spawn`)
abbrev pub callee_of : Labelled → ℕ → Option ℕ
callee_of program n = callee_by_bodies n program.bodies

-- the number of the spawn of p
abbrev pub spawn_by : Path → Event → Option ℕ
spawn_by p (spawned child n) = if same_path child p then Some n else None
spawn_by p other = None

abbrev pub spawn_of : List Event → Path → Option ℕ
spawn_of [] p = None
spawn_of (e ∷ events) p = option_or (spawn_by p e) (spawn_of events p)

-- the body of its procedure: that of the root is `main`
abbrev pub procedure_of : Labelled → List Event → Path → Option ℕ
procedure_of program events [] = program.main
procedure_of program events (k ∷ p) = option_and_then (callee_of program) (spawn_of events (k ∷ p))

abbrev pub born : Event → List Path
born (spawned child n) = child ∷ []
born other = []

-- the root, and each child that was spawned, in the order of their birth
abbrev pub made : List Event → List Path
made events = [] ∷ flat_map born events
