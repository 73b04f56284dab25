-- A list that ends with the closing brace of its body has a head.
use Rattle.std.proofs.Common.{ℤ, ◌≡◌, Bool, true, false, List, [], ◌∷◌, ◌⊎◌, inl, inr, Option, Some, None, IsSome, IsNone, refl, sym, ap, subst, ◌∙◌}
use Rattle.std.specs.Prelude.{⊤}
use Rattle.cilk_eval.specs.labelled.Labelled.{Action, break_off, go_round, return_with, return_nothing, close}
use Rattle.cilk_eval.specs.labelled.Labelled.{Numbered, Stmt, action, choose, while, repeat, loop, select, at_label, nested, Stmts, none, also, Body}
use Rattle.cilk_eval.specs.labelled.Items.{Round, Item, piece, at_test, at_advance, at_end, Items, pieces, plain_round, open_stmt, open_stmts, opened}
use Rattle.cilk_eval.specs.labelled.Items.{head_of, past_mark, from_mark, after_action, next_mark, chosen, selected, holds, after_choice, after_test}
use Rattle.cilk_eval.specs.labelled.Items.{next, start_items, reached}
use Rattle.cilk_eval.specs.effects.Heads.{Inside, in_a_loop, MayStand, LeavesInLoops, GoesOn}
use Rattle.cilk_eval.proofs.effects_laws.Items.{running, Each, reached_each}

abbrev IsClose : Action → Type 0
IsClose close = ⊤
IsClose other = ⊥

abbrev IsBrace : Item → Type 0
IsBrace (piece (action what)) = IsClose what.act
IsBrace other = ⊥

-- its last item is the closing brace
abbrev Closes : Items → Type 0
Closes [] = ⊥
Closes (item ∷ items) = (IsBrace item × (items ≡ [])) ⊎ Closes items

closes_pieces : (stmts : Stmts) (items : Items) → Closes items → Closes (pieces stmts items)
closes_pieces none items c = c
closes_pieces (also first others) items c = inr (closes_pieces others items c)

mutual
  open_stmt_closes : (stmt : Stmt) (items without : Items) → Closes items → Closes without → Closes (open_stmt stmt items without)
  open_stmt_closes (action what) items without c w = inr c
  open_stmt_closes (choose test body other) items without c w = inr c
  open_stmt_closes (while test body) items without c w = inr c
  open_stmt_closes (repeat body test) items without c w =
      open_stmts_closes body (plain_round test body ∷ items) (plain_round test body ∷ items) (inr c) (inr c)
  open_stmt_closes (loop None test advance body) items without c w = inr c
  open_stmt_closes (loop (Some first) test advance body) items without c w = inr (inr c)
  open_stmt_closes (select test body) items without c w = inr c
  open_stmt_closes (at_label value) items without c w = w
  open_stmt_closes (nested inside) items without c w = open_stmts_closes inside items without c w

  open_stmts_closes : (stmts : Stmts) (items without : Items) → Closes items → Closes without → Closes (open_stmts stmts items without)
  open_stmts_closes none items without c w = w
  open_stmts_closes (also first others) items without c w =
      open_stmt_closes first (pieces others items) (open_stmts others items without) (closes_pieces others items c) (open_stmts_closes others items without c w)

opened_closes : (items : Items) → Closes items → Closes (opened items)
opened_closes [] c = c
opened_closes (piece (action what) ∷ items) c = c
opened_closes (piece stmt ∷ items) (inl b) = absurd b.0
opened_closes (piece stmt ∷ items) (inr c) = open_stmt_closes stmt items (opened items) c (opened_closes items c)
opened_closes (at_test round ∷ items) c = c
opened_closes (at_advance advance round ∷ items) c = c
opened_closes (at_end ∷ items) (inl b) = absurd b.0
opened_closes (at_end ∷ items) (inr c) = opened_closes items c

past_closes : (items : Items) → (running items).loop_or_switch ≡ true → Closes items → Closes (past_mark items)
past_closes [] there c = c
past_closes (piece stmt ∷ items) there (inl (b, e)) = let false≡true : false ≡ true = sym (ap (λ xs. (running xs).loop_or_switch) e) ∙ there in cc
past_closes (piece stmt ∷ items) there (inr c) = past_closes items there c
past_closes (at_test round ∷ items) there (inl b) = absurd b.0
past_closes (at_test round ∷ items) there (inr c) = c
past_closes (at_advance advance round ∷ items) there (inl b) = absurd b.0
past_closes (at_advance advance round ∷ items) there (inr c) = c
past_closes (at_end ∷ items) there (inl b) = absurd b.0
past_closes (at_end ∷ items) there (inr c) = c

from_closes : (items : Items) → (running items).loop ≡ true → Closes items → Closes (from_mark items)
from_closes [] there c = c
from_closes (piece stmt ∷ items) there (inl (b, e)) = let false≡true : false ≡ true = sym (ap (λ xs. (running xs).loop) e) ∙ there in cc
from_closes (piece stmt ∷ items) there (inr c) = from_closes items there c
from_closes (at_test round ∷ items) there c = c
from_closes (at_advance advance round ∷ items) there c = c
from_closes (at_end ∷ items) there (inl b) = absurd b.0
from_closes (at_end ∷ items) there (inr c) = from_closes items there c

-- behind an action the closing brace still comes, unless it leaves the body
acted_closes : (act : Action) (items : Items) → MayStand (running items) act → (IsClose act × (items ≡ [])) ⊎ Closes items
    → Closes (after_action act items) ⊎ ((after_action act items ≡ []) × ¬ GoesOn act)
acted_closes break_off items may (inl b) = absurd b.0
acted_closes break_off items may (inr c) = inl (past_closes items may c)
acted_closes go_round items may (inl b) = absurd b.0
acted_closes go_round items may (inr c) = inl (from_closes items may c)
acted_closes (return_with value) items may c = inr (refl, λ on. on)
acted_closes return_nothing items may c = inr (refl, λ on. on)
acted_closes close items may c = inr (refl, λ on. on)
acted_closes other items may (inl b) = absurd b.0
acted_closes other items may (inr c) = inl c

round_closes : (round : Round) (advance : Option Numbered) (items : Items) → Closes items → Closes (pieces round.body (next_mark round advance ∷ items))
round_closes round None items c = closes_pieces round.body (at_test round ∷ items) (inr c)
round_closes round (Some advance) items c = closes_pieces round.body (at_advance advance round ∷ items) (inr c)

choice_closes : (answer : Bool) (body other : Stmts) (items : Items) → Closes items → Closes (after_choice answer body other items)
choice_closes true body other items c = closes_pieces body items c
choice_closes false body other items c = closes_pieces other items c

test_closes : (answer : Bool) (round : Round) (items : Items) → Closes items → Closes (after_test answer round items)
test_closes true round items c = round_closes round round.advance items c
test_closes false round items c = c

selected_closes : (o : Option Stmts) (items : Items) → Closes items → Closes (selected o items)
selected_closes None items c = c
selected_closes (Some stmts) items c = closes_pieces stmts (at_end ∷ items) (inr c)

-- the head of the list leaves the body
abbrev Leaves : Items → Type 0
Leaves items = (head : Numbered) → head_of items ≡ Some head → ¬ GoesOn head.act

next_closes : (answer : ℤ) (items : Items) → Each MayStand items → Closes items → Closes (next answer items) ⊎ ((next answer items ≡ []) × Leaves items)
next_closes answer [] k c = absurd c
next_closes answer (piece (action what) ∷ items) k c =
    elim (acted_closes what.act items k.0 c) [
      | inl closes ↦ inl closes
      | inr (empty, leaves) ↦
          inr (empty, λ head first on. let same : head ≡ what = cc in leaves (subst (λ (x : Numbered). GoesOn x.act) same on))
    ]
next_closes answer (piece stmt ∷ items) k (inl b) = absurd b.0
next_closes answer (piece (choose test body other) ∷ items) k (inr c) = inl (choice_closes (holds answer) body other items c)
next_closes answer (piece (select test body) ∷ items) k (inr c) = inl (selected_closes (chosen answer body) items c)
next_closes answer (piece stmt ∷ items) k (inr c) = inl c
next_closes answer (at_test round ∷ items) k (inl b) = absurd b.0
next_closes answer (at_test round ∷ items) k (inr c) = inl (test_closes (holds answer) round items c)
next_closes answer (at_advance advance round ∷ items) k (inl b) = absurd b.0
next_closes answer (at_advance advance round ∷ items) k (inr c) = inl (inr c)
next_closes answer (at_end ∷ items) k (inl b) = absurd b.0
next_closes answer (at_end ∷ items) k (inr c) = inl c

mutual
  open_stmt_head : (stmt : Stmt) (items without : Items) → IsSome (head_of without) → IsSome (head_of (open_stmt stmt items without))
  open_stmt_head (action what) items without h = refl
  open_stmt_head (choose test body other) items without h = refl
  open_stmt_head (while test body) items without h = refl
  open_stmt_head (repeat body test) items without h =
      open_stmts_head body (plain_round test body ∷ items) (plain_round test body ∷ items) refl
  open_stmt_head (loop None test advance body) items without h = refl
  open_stmt_head (loop (Some first) test advance body) items without h = refl
  open_stmt_head (select test body) items without h = refl
  open_stmt_head (at_label value) items without h = h
  open_stmt_head (nested inside) items without h = open_stmts_head inside items without h

  open_stmts_head : (stmts : Stmts) (items without : Items) → IsSome (head_of without) → IsSome (head_of (open_stmts stmts items without))
  open_stmts_head none items without h = h
  open_stmts_head (also first others) items without h =
      open_stmt_head first (pieces others items) (open_stmts others items without) (open_stmts_head others items without h)

opened_head : (items : Items) → Closes items → IsSome (head_of (opened items))
opened_head [] c = absurd c
opened_head (piece (action what) ∷ items) c = refl
opened_head (piece stmt ∷ items) (inl b) = absurd b.0
opened_head (piece stmt ∷ items) (inr c) = open_stmt_head stmt items (opened items) (opened_head items c)
opened_head (at_test round ∷ items) c = refl
opened_head (at_advance advance round ∷ items) c = refl
opened_head (at_end ∷ items) (inl b) = absurd b.0
opened_head (at_end ∷ items) (inr c) = opened_head items c

start_closes : (body : Body) → Closes (start_items body)
start_closes body = closes_pieces body.stmts (piece (action (record { number = body.closing; act = close })) ∷ []) (inl (tt, refl))

pub in_any : (l : Inside) (act : Action) → MayStand l act → MayStand in_a_loop act
in_any l break_off h = refl
in_any l go_round h = refl
in_any l other h = tt

reached_may : (body : Body) (answers : List ℤ) → LeavesInLoops body → Each MayStand (reached body answers)
reached_may body answers may = reached_each MayStand in_any body answers tt may

-- a list is empty, or the closing brace still comes
abbrev Remains : Items → Type 0
Remains items = (items ≡ []) ⊎ Closes items

opened_remains : (items : Items) → Remains items → Remains (opened items)
opened_remains items (inl empty) = inl (ap opened empty)
opened_remains items (inr c) = inr (opened_closes items c)

next_remains : (answer : ℤ) (items : Items) → Each MayStand items → Remains items → Remains (next answer items)
next_remains answer items may (inl empty) = inl (ap (next answer) empty)
next_remains answer items may (inr c) =
    elim (next_closes answer items may c) [ inl closes ↦ inr closes | inr (empty, leaves) ↦ inl empty ]

reached_remains : (body : Body) (answers : List ℤ) → LeavesInLoops body → Remains (reached body answers)
reached_remains body [] may = inr (opened_closes (start_items body) (start_closes body))
reached_remains body (answer ∷ answers) may =
    opened_remains (next answer (reached body answers))
    (next_remains answer (reached body answers) (reached_may body answers may) (reached_remains body answers may))

pub starts : (body : Body) → LeavesInLoops body → IsSome (head_of (reached body []))
starts body may = opened_head (start_items body) (start_closes body)

pub goes_on : (body : Body) (answers : List ℤ) (answer : ℤ) (head : Numbered) → LeavesInLoops body
    → head_of (reached body answers) ≡ Some head → GoesOn head.act
    → IsSome (head_of (reached body (answer ∷ answers)))
goes_on body answers answer head may first on =
    elim (reached_remains body answers may) [
      | inl empty ↦ let no_head : head_of [] ≡ Some head = sym (ap head_of empty) ∙ first in cc
      | inr closes ↦
          elim (next_closes answer (reached body answers) (reached_may body answers may) closes) [
            | inl c ↦ opened_head (next answer (reached body answers)) c
            | inr (empty, leaves) ↦ absurd (leaves head first on)
          ]
    ]

no_head : (items : Items) → Remains items → IsNone (head_of (opened items)) → opened items ≡ []
no_head items (inl empty) missing = ap opened empty
no_head items (inr c) missing = both (head_of (opened items)) (opened_head items c) missing
  where
    both : (o : Option Numbered) → IsSome o → IsNone o → opened items ≡ []
    both None there missing = cc
    both (Some head) there missing = cc

pub ends : (body : Body) (answers : List ℤ) → LeavesInLoops body → IsNone (head_of (reached body answers)) → reached body answers ≡ []
ends body [] may missing = no_head (start_items body) (inr (start_closes body)) missing
ends body (answer ∷ answers) may missing =
    no_head (next answer (reached body answers))
    (next_remains answer (reached body answers) (reached_may body answers may) (reached_remains body answers may)) missing
