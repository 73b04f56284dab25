-- What the actions of a body use is there: variables and arrays, bodies that take the arguments, locks.
use Rattle.std.specs.Prelude.{◌≡◌, ◌≢◌, ℕ, suc, ◌<◌, ◌≤◌, All, Bool, true, false, IsTrue, ⊤, length, Option, Some, None, is_some}
use Rattle.cilk_eval.specs.syntax.declared.return_type.ReturnType.{ReturnType}
use Rattle.cilk_eval.specs.syntax.declared.return_type.ReturnType.TheVariants.{Int, Void}
use Rattle.cilk_eval.specs.scopes.declared.owner.Owner.{Owner}
use Rattle.cilk_eval.specs.scopes.declared.owner.Owner.TheVariants.{Function, Procedure, Inlet}
use Rattle.cilk_eval.specs.scopes.Format.{numbers_in}
use Rattle.cilk_eval.specs.scopes.Forms.{returned_by}
use Rattle.cilk_eval.specs.labelled.Labelled.{Target, variable, element, Into, Taker, nothing, into, through, Action, assign, call, spawn, print}
use Rattle.cilk_eval.specs.labelled.Labelled.{locking, null, break_off, go_round, tests, sync, abort, return_with, return_nothing, close, Labelled}
use Rattle.cilk_eval.specs.labelled.Bodies.{is_procedure}
use Rattle.cilk_eval.specs.model.Instance.{body_at}
use Rattle.cilk_eval.specs.frame.Reads.{IsVariable, IsArray, IsKnown}

-- the owner of body b
abbrev pub owner_of : Labelled → ℕ → Owner
owner_of program b = (body_at program b).owner

-- body b stands in procedure h: it is that of h, or of an inlet in it, which stands behind (Cilk 5.4 manual, `inlet`)
pub record StandsIn (program : Labelled) (b h : ℕ) : Type 0 where
  pub not_before : h ≤ b
  pub owner : IsTrue (is_procedure (owner_of program h))
  pub inlets : (k : ℕ) → h < k → k ≤ b → owner_of program k ≡ Inlet

abbrev pub KnownTarget : Labelled → ℕ → Target → Type 0
KnownTarget program b (variable d) = IsVariable program b d
KnownTarget program b (element d subscript) = IsArray program b d × IsKnown program b subscript

abbrev pub KnownPlace : Labelled → ℕ → Option Into → Type 0
KnownPlace program b None = ⊤
KnownPlace program b (Some place) = KnownTarget program b place.target

-- a body that takes n arguments (C 1990, 6.3.2.2)
pub record Accepts (program : Labelled) (callee n : ℕ) : Type 0 where
  pub is_there : callee < length program.bodies
  pub parameters : (body_at program callee).parameters ≡ n

-- what is returned may be taken (C 1990, 6.2.2.2)
abbrev pub ReturnsIfTaken : Bool → ReturnType → Type 0
ReturnsIfTaken is_taken returns = is_taken ≡ true → returns ≡ Int

-- a C function, whose value may be taken
pub record Calls (program : Labelled) (callee n : ℕ) (is_taken : Bool) : Type 0 where
  pub takes : Accepts program callee n
  pub returns : ReturnType
  pub owner : owner_of program callee ≡ Function returns
  pub gives : ReturnsIfTaken is_taken returns

-- a Cilk procedure, which is not the one that the program starts with (Cilk 5.4 manual, `spawn`)
pub record Spawns (program : Labelled) (callee n : ℕ) (is_taken : Bool) : Type 0 where
  pub takes : Accepts program callee n
  pub returns : ReturnType
  pub owner : owner_of program callee ≡ Procedure returns
  pub gives : ReturnsIfTaken is_taken returns
  pub not_main : program.main ≢ Some callee

-- an inlet in procedure h, given the value of a child first (Cilk 5.4 manual, `inlet`)
pub record Feeds (program : Labelled) (h inlet n : ℕ) : Type 0 where
  pub takes : Accepts program inlet n
  pub owner : owner_of program inlet ≡ Inlet
  pub stands_in : StandsIn program inlet h

abbrev pub KnownTaker : Labelled → ℕ → Taker → Type 0
KnownTaker program b nothing = ⊤
KnownTaker program b (into place) = KnownTarget program b place.target
KnownTaker program b (through inlet others) = Feeds program b inlet (suc (length others)) × All (IsKnown program b) others

abbrev pub takes_value : Taker → Bool
takes_value nothing = false
takes_value (into place) = true
takes_value (through inlet others) = true

-- what an action of body b uses is there, and the body may have such an action
abbrev pub KnownAct : Labelled → ℕ → Action → Type 0
KnownAct program b (assign place value) = KnownTarget program b place.target × IsKnown program b value
KnownAct program b (call place callee arguments) =
    KnownPlace program b place × Calls program callee (length arguments) (is_some place) × All (IsKnown program b) arguments
KnownAct program b (spawn taker callee arguments) =
    IsTrue (is_procedure (owner_of program b)) × KnownTaker program b taker × Spawns program callee (length arguments) (takes_value taker)
    × All (IsKnown program b) arguments
-- C 1990, 7.9.6.1
KnownAct program b (print format arguments) = (numbers_in format ≡ Some (length arguments)) × All (IsKnown program b) arguments
KnownAct program b (locking what lock) = lock < length program.locks
KnownAct program b null = ⊤
KnownAct program b break_off = ⊤
KnownAct program b go_round = ⊤
KnownAct program b (tests value) = IsKnown program b value
-- Cilk 5.4 manual, `sync`, `abort`
KnownAct program b sync = IsTrue (is_procedure (owner_of program b))
KnownAct program b abort = owner_of program b ≡ Inlet
-- C 1990, 6.6.6.4
KnownAct program b (return_with value) = (returned_by (owner_of program b) ≡ Int) × IsKnown program b value
KnownAct program b return_nothing = returned_by (owner_of program b) ≡ Void
KnownAct program b close = ⊤
