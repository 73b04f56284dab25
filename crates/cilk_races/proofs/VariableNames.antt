-- The names of variables, in the tables and in the program.
use Rattle.std.proofs.Common.{◌≡◌, ◌+◌, ℕ, zero, suc, List, [], ◌∷◌, Option, Some, None, map, refl, slice_get}
use Rattle.cilk_log_replay.specs.machine.nodes.declared.area.Area.{Area}
use Rattle.cilk_log_replay.specs.machine.nodes.declared.area.Area.TheVariants.{Own}
use Rattle.cilk_log_replay.specs.machine.labelled.Labelled.{Body, Variable}
use Rattle.cilk_log_replay.specs.machine.nodes.Bodies.{body_table, vars_from}
use Rattle.cilk_log_replay.specs.machine.nodes.Slots.{size_of}
use Rattle.cilk_log_replay.specs.machine.nodes.declared.body.Body as table
use Rattle.cilk_log_replay.specs.machine.nodes.declared.var.Var.{Var}
use Rattle.cilk_races.specs.RacesText.{name_by, own_name}

abbrev pub name_in : Option Var → List ℕ
name_in None = []
name_in (Some v) = v.name

pub var-name : (area : Area) (at : ℕ) (vs : List Variable) (n : ℕ) → name_in (slice_get (vars_from area at vs) n) ≡ name_by (slice_get vs n)
var-name area at [] n = refl
var-name area at (v ∷ vs) zero = refl
var-name area at (v ∷ vs) (suc n) = var-name area (at + size_of v) vs n

abbrev pub vars_in : Option table.Body → List Var
vars_in None = []
vars_in (Some body) = body.vars

pub body-name : (bodies : List Body) (b n : ℕ) → name_in (slice_get (vars_in (slice_get (map body_table bodies) b)) n) ≡ own_name n (slice_get bodies b)
body-name [] b n = refl
body-name (body ∷ bodies) zero n = var-name Own 0 body.variables n
body-name (body ∷ bodies) (suc b) n = body-name bodies b n
