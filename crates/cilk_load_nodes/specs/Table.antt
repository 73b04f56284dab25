-- The table of nodes: what each action does, and the numbers of those that come next.
use Rattle.std.specs.Prelude.{ℕ, suc, ℤ, pos, Bool, false, nat_eq, if◌then◌else◌, List, [], ◌∷◌, ◌++◌, Option, Some, None, map, option_map}
use Rattle.std.specs.List.{find}
use Rattle.std.specs.Ordering.{int_eq}
use Rattle.cilk_model.specs.syntax.Tree as tree
use Rattle.cilk_load_nodes.specs.declared.slot.Slot.{Slot}
use Rattle.cilk_model.specs.labelled.Labelled.{Declaration, close, Numbered, Stmt, action, choose, while, repeat, loop, select, at_label, nested, Stmts}
use Rattle.cilk_model.specs.labelled.Labelled.{none, also, Body, Labelled}
use Rattle.cilk_model.specs.labelled.Items.{Round, piece, at_test, at_advance, at_end, Items, pieces, plain_round, opened, head_of, next_mark, next}
use Rattle.cilk_model.specs.labelled.Items.{holds, behind_label, selected}
use Rattle.cilk_model.specs.labelled.Bodies.{label}
use Rattle.cilk_load_nodes.specs.declared.case.Case.{Case}
use Rattle.cilk_load_nodes.specs.declared.node.Node.{Node}
use Rattle.cilk_load_nodes.specs.Slots.{slot_of}
use Rattle.cilk_load_nodes.specs.Actions.{slotted}

-- the number of the action in front of an opened list
abbrev pub number_of : Items → Option ℕ
number_of items = option_map (λ (h : Numbered). h.number) (head_of items)

-- the first case of this value
abbrev pub case_of : ℤ → List Case → Option Case
case_of z cases = find (λ (c : Case). int_eq z c.value) cases

abbrev pub successor_by : Node → ℤ → Option Case → Option ℕ
successor_by node z (Some c) = c.to
successor_by node z None = if holds z then node.next else node.other

-- what comes next where a test has this value (C 1990, 6.6.4, 6.6.5)
abbrev pub successor : Node → ℤ → Option ℕ
successor node z = successor_by node z (case_of z node.cases)

-- the number of what comes next
abbrev pub number_after : ℤ → Items → Option ℕ
number_after z items = number_of (opened (next z items))

-- the number of what comes next by a value that no `case` has
abbrev pub number_else : ℤ → Items → Option ℕ
number_else z (piece (select test body) ∷ items) = number_of (opened (selected (behind_label None body) items))
number_else z items = number_after z items

-- a statement of the body of a `switch`, in front of these items, and the cases behind it
abbrev pub with_case : Stmt → Items → List Case → List Case
with_case (at_label (Some z)) items cases = record { value = z; to = number_of (opened items) } ∷ cases
with_case other items cases = cases

-- the cases of a `switch` whose body stands before these items
abbrev pub label_cases : Stmts → Items → List Case
label_cases none items = []
label_cases (also first others) items = with_case first (pieces others items) (label_cases others items)

-- those of the action in front of an opened list
abbrev pub cases_of : Items → List Case
cases_of (piece (select test body) ∷ items) = label_cases body (at_end ∷ items)
cases_of items = []

-- the node of the action in front of an opened list of body b, with these slots
abbrev pub node_over : (Declaration → Slot) → ℕ → Items → Option Node
node_over slots b items =
    option_map
    (λ (h : Numbered). record {
      action = slotted slots h.act;
      next = number_else (pos 1) items;
      other = number_else (pos 0) items;
      cases = cases_of items;
      body = b;
    }) (head_of items)

abbrev pub node_at : Labelled → ℕ → Items → Option Node
node_at program b items = node_over (slot_of program b) b items

-- The opened lists in front of which the actions of a statement stand, which comes before these items.

abbrev pub first_lists : Option Numbered → Round → Items → List Items
first_lists None round items = []
first_lists (Some first) round items = (piece (action first) ∷ at_test round ∷ items) ∷ []

abbrev pub advance_lists : Option Numbered → Round → Items → List Items
advance_lists None round items = []
advance_lists (Some advance) round items = (at_advance advance round ∷ items) ∷ []

abbrev pub round_of : Numbered → Option Numbered → Stmts → Round
round_of test advance body = record { test = test; advance = advance; body = body }

abbrev mutual
  pub stmt_lists : Stmt → Items → List Items
  stmt_lists (action what) items = (piece (action what) ∷ items) ∷ []
  stmt_lists (choose test body other) items =
      (piece (choose test body other) ∷ items) ∷ (stmts_lists body items ++ stmts_lists other items)
  stmt_lists (while test body) items = (plain_round test body ∷ items) ∷ stmts_lists body (plain_round test body ∷ items)
  -- the test of a `do` stands behind its body
  stmt_lists (repeat body test) items = stmts_lists body (plain_round test body ∷ items) ++ (plain_round test body ∷ items) ∷ []
  stmt_lists (loop first test advance body) items =
      first_lists first (round_of test advance body) items
      ++ (at_test (round_of test advance body) ∷ items)
      ∷ (advance_lists advance (round_of test advance body) items
      ++ stmts_lists body (next_mark (round_of test advance body) advance ∷ items))
  stmt_lists (select test body) items = (piece (select test body) ∷ items) ∷ stmts_lists body (at_end ∷ items)
  stmt_lists (at_label value) items = []
  stmt_lists (nested inside) items = stmts_lists inside items

  pub stmts_lists : Stmts → Items → List Items
  stmts_lists none items = []
  stmts_lists (also first others) items = stmt_lists first (pieces others items) ++ stmts_lists others items

-- the closing brace of a body
abbrev pub closing_items : ℕ → Items
closing_items n = piece (action (record { number = n; act = close })) ∷ []

-- those of a body
abbrev pub body_lists : Body → List Items
body_lists body = stmts_lists body.stmts (closing_items body.closing) ++ closing_items body.closing ∷ []

-- an opened list, and the number of its body
pub record Row : Type 0 where
  pub body : ℕ
  pub items : Items

abbrev pub row : ℕ → Items → Row
row b items = record { body = b; items = items }

-- those of these bodies, the first of which is body b
abbrev pub rows_from : ℕ → List Body → List Row
rows_from b [] = []
rows_from b (body ∷ bodies) = map (row b) (body_lists body) ++ rows_from (suc b) bodies

abbrev pub has_number : ℕ → Option ℕ → Bool
has_number n None = false
has_number n (Some m) = nat_eq n m

-- the node of the list among these that has action n in front
abbrev pub node_among : Labelled → ℕ → List Row → Option Node
node_among program n [] = None
node_among program n (r ∷ rows) =
    if has_number n (number_of r.items) then node_at program r.body r.items else node_among program n rows

-- the node of action n, counted from 1
abbrev pub node_of : tree.Program → ℕ → Option Node
node_of p n = node_among (label p) n (rows_from 0 (label p).bodies)
