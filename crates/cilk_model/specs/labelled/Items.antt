-- What remains of an activation: a list of items, its head, and what comes next.
use Rattle.std.specs.Prelude.{Bool, true, false, not, ℤ, List, [], ◌∷◌, Option, Some, None}
use Rattle.std.specs.Ordering.{int_eq}
use Rattle.cilk_model.specs.labelled.Arithmetic.{is_zero}
use Rattle.cilk_model.specs.labelled.Labelled.{Action, break_off, go_round, return_with, return_nothing, close}
use Rattle.cilk_model.specs.labelled.Labelled.{Numbered, Stmt, action, choose, while, repeat, loop, select, at_label, nested, Stmts, none, also, Body}

-- a loop that is being run: only a `for` may have an advance
pub record Round : Type 0 where
  pub test : Numbered
  pub advance : Option Numbered
  pub body : Stmts

pub data Item : Type 0 where
  -- a statement, an initialiser or the closing brace
  piece : (stmt : Stmt) → Item
  -- the marks of a loop: its test is next, or its advance is, and then its test
  at_test : (round : Round) → Item
  at_advance : (advance : Numbered) (round : Round) → Item
  -- the mark of a `switch` that is being run, at the end of its body (C 1990, 6.6.4.2)
  at_end : Item

abbrev pub Items : Type 0
Items = List Item

-- a block's items, before others (C 1990, 6.6.2)
abbrev pub pieces : Stmts → Items → Items
pieces none items = items
pieces (also first others) items = piece first ∷ pieces others items

-- the mark of a `while` or a `do` (C 1990, 6.6.5.1, 6.6.5.2)
abbrev pub plain_round : Numbered → Stmts → Item
plain_round test body = at_test (record { test = test; advance = None; body = body })

-- a `for` begins with its first part, if there is one (C 1990, 6.6.5.3)
abbrev pub open_first : Option Numbered → Items → Items
open_first None items = items
open_first (Some first) items = piece (action first) ∷ items

abbrev mutual
  -- a statement is opened before these items, until an action or the mark of a loop stands in front; the last argument is the list
  -- without it, opened
  pub open_stmt : Stmt → Items → Items → Items
  open_stmt (action what) items without = piece (action what) ∷ items
  open_stmt (choose test body other) items without = piece (choose test body other) ∷ items
  open_stmt (while test body) items without = plain_round test body ∷ items
  open_stmt (repeat body test) items without = open_stmts body (plain_round test body ∷ items) (plain_round test body ∷ items)
  open_stmt (loop first test advance body) items without =
      open_first first (at_test (record { test = test; advance = advance; body = body }) ∷ items)
  open_stmt (select test body) items without = piece (select test body) ∷ items
  -- a label says only where to go on
  open_stmt (at_label value) items without = without
  open_stmt (nested inside) items without = open_stmts inside items without

  pub open_stmts : Stmts → Items → Items → Items
  open_stmts none items without = without
  open_stmts (also first others) items without = open_stmt first (pieces others items) (open_stmts others items without)

-- an action or the mark of a loop is put in front; the end of a `switch` in front is passed
abbrev pub opened : Items → Items
opened [] = []
opened (piece stmt ∷ items) = open_stmt stmt items (opened items)
opened (at_test round ∷ items) = at_test round ∷ items
opened (at_advance advance round ∷ items) = at_advance advance round ∷ items
opened (at_end ∷ items) = opened items

-- the action with which a statement in front of an opened list begins
abbrev pub head_of_stmt : Stmt → Option Numbered
head_of_stmt (action what) = Some what
head_of_stmt (choose test body other) = Some test
head_of_stmt (while test body) = None
head_of_stmt (repeat body test) = None
head_of_stmt (loop first test advance body) = None
head_of_stmt (select test body) = Some test
head_of_stmt (at_label value) = None
head_of_stmt (nested inside) = None

-- the head of an opened list
abbrev pub head_of : Items → Option Numbered
head_of [] = None
head_of (piece stmt ∷ items) = head_of_stmt stmt
head_of (at_test round ∷ items) = Some round.test
head_of (at_advance advance round ∷ items) = Some advance
head_of (at_end ∷ items) = None

-- what follows the innermost loop or `switch` that is being run (C 1990, 6.6.6.3)
abbrev pub past_mark : Items → Items
past_mark [] = []
past_mark (piece stmt ∷ items) = past_mark items
past_mark (at_test round ∷ items) = items
past_mark (at_advance advance round ∷ items) = items
past_mark (at_end ∷ items) = items

-- the own mark of the innermost loop that is being run, and what follows (C 1990, 6.6.6.2)
abbrev pub from_mark : Items → Items
from_mark [] = []
from_mark (piece stmt ∷ items) = from_mark items
from_mark (at_test round ∷ items) = at_test round ∷ items
from_mark (at_advance advance round ∷ items) = at_advance advance round ∷ items
from_mark (at_end ∷ items) = from_mark items

-- what remains behind an action: nothing of a body that is left (C 1990, 6.6.6)
abbrev pub after_action : Action → Items → Items
after_action break_off items = past_mark items
after_action go_round items = from_mark items
after_action (return_with value) items = []
after_action return_nothing items = []
after_action close items = []
after_action other items = items

-- the mark behind a loop's body
abbrev pub next_mark : Round → Option Numbered → Item
next_mark round None = at_test round
next_mark round (Some advance) = at_advance advance round

-- ---- where a `switch` goes on (C 1990, 6.6.4.2)

-- whether two labels say the same: of a `case` with one value each, or of `default` both
abbrev pub same_label : Option ℤ → Option ℤ → Bool
same_label None None = true
same_label None (Some b) = false
same_label (Some a) None = false
same_label (Some a) (Some b) = int_eq a b

-- whether a statement is this label
abbrev pub is_label : Option ℤ → Stmt → Bool
is_label value (at_label own) = same_label value own
is_label value other = false

abbrev pub behind_by : Bool → Stmts → Option Stmts → Option Stmts
behind_by true others later = Some others
behind_by false others later = later

-- the statements behind this label, if there is one
abbrev pub behind_label : Option ℤ → Stmts → Option Stmts
behind_label value none = None
behind_label value (also first others) = behind_by (is_label value first) others (behind_label value others)

abbrev pub first_there : Option Stmts → Option Stmts → Option Stmts
first_there None other = other
first_there (Some stmts) other = Some stmts

-- those behind the `case` of this value, else those behind `default`, wherever it stands
abbrev pub chosen : ℤ → Stmts → Option Stmts
chosen z body = first_there (behind_label (Some z) body) (behind_label None body)

-- these, and then the end of the `switch`; where no label is meant, only what follows it
abbrev pub selected : Option Stmts → Items → Items
selected None items = items
selected (Some stmts) items = pieces stmts (at_end ∷ items)

-- ---- what comes next

-- whether the value of a test is another than 0 (C 1990, 6.6.4.1, 6.6.5)
abbrev pub holds : ℤ → Bool
holds z = not (is_zero z)

abbrev pub after_choice : Bool → Stmts → Stmts → Items → Items
after_choice true body other items = pieces body items
after_choice false body other items = pieces other items

-- behind a statement in front of an opened list, whose test has this value
abbrev pub after_stmt : ℤ → Stmt → Items → Items
after_stmt z (action what) items = after_action what.act items
after_stmt z (choose test body other) items = after_choice (holds z) body other items
after_stmt z (while test body) items = items
after_stmt z (repeat body test) items = items
after_stmt z (loop first test advance body) items = items
after_stmt z (select test body) items = selected (chosen z body) items
after_stmt z (at_label value) items = items
after_stmt z (nested inside) items = items

abbrev pub after_test : Bool → Round → Items → Items
after_test true round items = pieces round.body (next_mark round round.advance ∷ items)
after_test false round items = items

-- what remains behind the head of an opened list; only a test heeds the value, which is its own
abbrev pub next : ℤ → Items → Items
next z [] = []
next z (piece stmt ∷ items) = after_stmt z stmt items
next z (at_test round ∷ items) = after_test (holds z) round items
next z (at_advance advance round ∷ items) = at_test round ∷ items
next z (at_end ∷ items) = items

-- a body's items at its start: its closing brace is the last
abbrev pub start_items : Body → Items
start_items body = pieces body.stmts (piece (action (record { number = body.closing; act = close })) ∷ [])

-- the opened list after tests with these values, the last one first; a value is given to each action
abbrev pub reached : Body → List ℤ → Items
reached body [] = opened (start_items body)
reached body (z ∷ zs) = opened (next z (reached body zs))
