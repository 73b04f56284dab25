-- Where actions stand: the line that is told of each says it, and the number of each is that of its place in the text.
use Rattle.std.specs.Prelude.{◌≡◌, ℕ, zero, suc, ◌+◌, ◌<◌, ◌≤◌, List, [], ◌∷◌, ◌++◌, codes, length, slice_get, Option, Some, None}
use Rattle.std.specs.List.{All, AllZip}
use Rattle.cilk_check.specs.syntax.Tree as tree
use Rattle.cilk_tree.specs.syntax.ProgramText.{program_lines}
use Rattle.cilk_laws_model.specs.labelled.Labelled.{close, Numbered, Stmt, action, choose, while, repeat, loop, select, at_label, nested, Stmts}
use Rattle.cilk_laws_model.specs.labelled.Labelled.{none, also, Body}
use Rattle.cilk_laws_model.specs.labelled.Names.{Names}
use Rattle.cilk_laws_model.specs.labelled.Lines.{action_lines}
use Rattle.cilk_laws_model.specs.labelled.Bodies.{label}
use Rattle.cilk_laws.specs.Said.{Said, program_said}

-- an indent of so many levels
abbrev pub margin : ℕ → List ℕ
margin zero = []
margin (suc n) = codes "    " ++ margin n

-- of these lines, the first of which is line `first`, line n is this behind some indent
pub record IsLine (first : ℕ) (lines : List (List ℕ)) (n : ℕ) (line : List ℕ) : Type 0 where
  -- how many lines stand before it
  pub before : ℕ
  pub number : n ≡ first + before
  pub depth : ℕ
  pub is : slice_get lines before ≡ Some (margin depth ++ line)

-- of these lines, line n says this action
abbrev pub SaysOne : ℕ → List (List ℕ) → ℕ → Said → Type 0
SaysOne first lines n said = IsLine first lines n said.line

-- the lines of these numbers say these actions, one each, in this order
abbrev pub Say : ℕ → List (List ℕ) → List ℕ → List Said → Type 0
Say first lines ns saids = AllZip (SaysOne first lines) ns saids

-- these lines are told from the top down, all from one line on and before another; an action may stand on the line of the one before it
abbrev pub GoDown : ℕ → List ℕ → ℕ → Type 0
GoDown from [] to = from ≤ to
GoDown from (n ∷ ns) to = (from ≤ n) × (n < to) × GoDown n ns to

-- the line of each action of a program is one of the canonical text, and says that action
abbrev pub EachLineSaysItsAction : Type 0
EachLineSaysItsAction = (p : tree.Program) → Say 1 (program_lines p) (action_lines p) (program_said p)

abbrev pub LinesGoDown : Type 0
LinesGoDown = (p : tree.Program) → GoDown 1 (action_lines p) (length (program_lines p) + 1)

-- the actions of labelled statements, in the order of the text
abbrev pub part_actions : Option Numbered → List Numbered
part_actions None = []
part_actions (Some what) = what ∷ []

abbrev mutual
  pub stmt_actions : Stmt → List Numbered
  stmt_actions (action what) = what ∷ []
  stmt_actions (choose test body other) = test ∷ (stmts_actions body ++ stmts_actions other)
  stmt_actions (while test body) = test ∷ stmts_actions body
  stmt_actions (repeat body test) = stmts_actions body ++ test ∷ []
  stmt_actions (loop first test advance body) = part_actions first ++ (test ∷ (part_actions advance ++ stmts_actions body))
  stmt_actions (select test body) = test ∷ stmts_actions body
  stmt_actions (at_label value) = []
  stmt_actions (nested inside) = stmts_actions inside

  pub stmts_actions : Stmts → List Numbered
  stmts_actions none = []
  stmts_actions (also first others) = stmt_actions first ++ stmts_actions others

-- those of a body, its closing brace the last
abbrev pub body_actions : Body → List Numbered
body_actions b = stmts_actions b.stmts ++ record { number = b.closing; act = close } ∷ []

-- of what is said there, the first having the number `first`, the one with this number says this action
pub record IsSaid (first : ℕ) (saids : List Said) (what : Numbered) : Type 0 where
  -- how many are said before it
  pub before : ℕ
  pub number : what.number ≡ first + before
  pub said : Said
  pub there : slice_get saids before ≡ Some said
  -- what names mean there
  pub names : Names
  pub does : what.act ≡ said.act names

-- of a program, the line that is told of this action, in the list of all lines by numbers, is one of the canonical text, and says it
pub record StandsOnItsLine (p : tree.Program) (what : Numbered) : Type 0 where
  pub place : IsSaid 1 (program_said p) what
  pub line : ℕ
  pub told : slice_get (label p).lines place.before ≡ Some line
  pub says : SaysOne 1 (program_lines p) line place.said

-- so it is of each action of each body
abbrev pub EachActionStandsOnItsLine : Type 0
EachActionStandsOnItsLine = (p : tree.Program) → All (λ b. All (StandsOnItsLine p) (body_actions b)) (label p).bodies
