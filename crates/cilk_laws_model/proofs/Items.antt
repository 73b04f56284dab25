-- What remains of an activation ends with the closing brace of its body, and has a head.
use Rattle.std.proofs.Common.{◌≡◌, ◌≢◌, ℤ, Bool, true, false, ◌&&◌, [], ◌∷◌, Option, Some, None, refl, sym, ap, ◌∙◌}
use Rattle.std.proofs.lemmas.Bool.{and_parts}
use Rattle.cilk_model.specs.labelled.Labelled.{Action, assign, call, spawn, print, locking, null, break_off, go_round, tests, sync, abort}
use Rattle.cilk_model.specs.labelled.Labelled.{return_with, return_nothing, close, Numbered, Stmt, action, choose, while, repeat, loop, select}
use Rattle.cilk_model.specs.labelled.Labelled.{at_label, nested, Stmts, none, also, Body}
use Rattle.cilk_model.specs.labelled.Items.{Round, Item, piece, at_test, at_advance, at_end, Items, pieces, plain_round, open_stmt, open_stmts}
use Rattle.cilk_model.specs.labelled.Items.{opened, head_of, past_mark, from_mark, after_action, next_mark, is_label, behind_by, behind_label}
use Rattle.cilk_model.specs.labelled.Items.{first_there, chosen, selected, holds, after_choice, after_test, next, start_items}
use Rattle.cilk_model.specs.Change.{leaves}
use Rattle.cilk_laws_model.specs.Loops.{may_stand, stmt_fits, stmts_fit}

-- whether a loop or a `switch` is being run, whose mark stands among the items
abbrev mark_behind : Items → Bool
mark_behind [] = false
mark_behind (piece stmt ∷ items) = mark_behind items
mark_behind (at_test round ∷ items) = true
mark_behind (at_advance advance round ∷ items) = true
mark_behind (at_end ∷ items) = true

-- whether a loop is
abbrev loop_behind : Items → Bool
loop_behind [] = false
loop_behind (piece stmt ∷ items) = loop_behind items
loop_behind (at_test round ∷ items) = true
loop_behind (at_advance advance round ∷ items) = true
loop_behind (at_end ∷ items) = loop_behind items

abbrev IsBrace : Item → Type 0
IsBrace (piece (action what)) = what.act ≡ close
IsBrace other = ⊥

-- each `break` and `continue` of an item has its mark, in the item or among those behind
abbrev ItemFits : Item → Items → Type 0
ItemFits (piece stmt) items = stmt_fits (mark_behind items) (loop_behind items) stmt ≡ true
ItemFits (at_test round) items = stmts_fit true true round.body ≡ true
ItemFits (at_advance advance round) items = stmts_fit true true round.body ≡ true
ItemFits at_end items = Unit {0}

-- the last item is the closing brace
abbrev pub Closes : Items → Type 0
Closes [] = ⊥
Closes (item ∷ []) = IsBrace item
Closes (item ∷ other ∷ items) = ItemFits item (other ∷ items) × Closes (other ∷ items)

-- there is an action to go on with
abbrev pub GoesOn : Items → Type 0
GoesOn items = Closes items × (head_of items ≢ None)

before : (item : Item) (items : Items) → ItemFits item items → Closes items → Closes (item ∷ items)
before item [] fits h = absurd h
before item (other ∷ items) fits h = (fits, h)

-- statements fit in front of these items
abbrev Fit : Stmts → Items → Type 0
Fit stmts items = stmts_fit (mark_behind items) (loop_behind items) stmts ≡ true

same_mark : (stmts : Stmts) (items : Items) → mark_behind (pieces stmts items) ≡ mark_behind items
same_mark none items = refl
same_mark (also first others) items = same_mark others items

same_loop : (stmts : Stmts) (items : Items) → loop_behind (pieces stmts items) ≡ loop_behind items
same_loop none items = refl
same_loop (also first others) items = same_loop others items

first_fits : (first : Stmt) (others : Stmts) (items : Items) → stmt_fits (mark_behind items) (loop_behind items) first ≡ true
    → stmt_fits (mark_behind (pieces others items)) (loop_behind (pieces others items)) first ≡ true
first_fits first others items h =
    ap (λ b. stmt_fits b (loop_behind (pieces others items)) first) (same_mark others items)
    ∙ ap (λ b. stmt_fits (mark_behind items) b first) (same_loop others items) ∙ h

pieces_close : (stmts : Stmts) (items : Items) → Fit stmts items → Closes items → Closes (pieces stmts items)
pieces_close none items fits h = h
pieces_close (also first others) items fits h =
    let parts = and_parts (stmt_fits (mark_behind items) (loop_behind items) first) (stmts_fit (mark_behind items) (loop_behind items) others) fits in
    before (piece first) (pieces others items) (first_fits first others items parts.0) (pieces_close others items parts.1 h)

any_in_loop : (act : Action) → may_stand true true act ≡ true
any_in_loop (assign what e) = refl
any_in_loop (call what callee es) = refl
any_in_loop (spawn taker callee es) = refl
any_in_loop (print format es) = refl
any_in_loop (locking what lock) = refl
any_in_loop null = refl
any_in_loop break_off = refl
any_in_loop go_round = refl
any_in_loop (tests e) = refl
any_in_loop sync = refl
any_in_loop abort = refl
any_in_loop (return_with e) = refl
any_in_loop return_nothing = refl
any_in_loop close = refl

mutual
  stmt_opens : (stmt : Stmt) (items without : Items) → stmt_fits (mark_behind items) (loop_behind items) stmt ≡ true → Closes items → GoesOn without
      → GoesOn (open_stmt stmt items without)
  stmt_opens (action what) items without fits h rest = (before (piece (action what)) items fits h, λ e. cc)
  stmt_opens (choose test body other) items without fits h rest = (before (piece (choose test body other)) items fits h, λ e. cc)
  stmt_opens (while test body) items without fits h rest = (before (plain_round test body) items fits h, λ e. cc)
  stmt_opens (repeat body test) items without fits h rest =
      stmts_open body (plain_round test body ∷ items) (plain_round test body ∷ items) fits (before (plain_round test body) items fits h)
      (before (plain_round test body) items fits h, λ e. cc)
  stmt_opens (loop None test advance body) items without fits h rest =
      (before (at_test (record { test = test; advance = advance; body = body })) items fits h, λ e. cc)
  stmt_opens (loop (Some first) test advance body) items without fits h rest = (
    before (piece (action first)) (at_test (record { test = test; advance = advance; body = body }) ∷ items) (any_in_loop first.act)
        (before (at_test (record { test = test; advance = advance; body = body })) items fits h),
    λ e. cc,
  )
  stmt_opens (select test body) items without fits h rest = (before (piece (select test body)) items fits h, λ e. cc)
  stmt_opens (at_label value) items without fits h rest = rest
  stmt_opens (nested inside) items without fits h rest = stmts_open inside items without fits h rest

  stmts_open : (stmts : Stmts) (items without : Items) → Fit stmts items → Closes items → GoesOn without → GoesOn (open_stmts stmts items without)
  stmts_open none items without fits h rest = rest
  stmts_open (also first others) items without fits h rest =
      let parts = and_parts (stmt_fits (mark_behind items) (loop_behind items) first) (stmts_fit (mark_behind items) (loop_behind items) others) fits in
      stmt_opens first (pieces others items) (open_stmts others items without) (first_fits first others items parts.0) (pieces_close others items parts.1 h)
      (stmts_open others items without parts.1 h rest)

pub goes_on : (items : Items) → Closes items → GoesOn (opened items)
goes_on [] h = absurd h
goes_on (piece (action what) ∷ []) h = (h, λ e. cc)
goes_on (piece (choose test body other) ∷ []) h = absurd h
goes_on (piece (while test body) ∷ []) h = absurd h
goes_on (piece (repeat body test) ∷ []) h = absurd h
goes_on (piece (loop first test advance body) ∷ []) h = absurd h
goes_on (piece (select test body) ∷ []) h = absurd h
goes_on (piece (at_label value) ∷ []) h = absurd h
goes_on (piece (nested inside) ∷ []) h = absurd h
goes_on (at_test round ∷ []) h = absurd h
goes_on (at_advance advance round ∷ []) h = absurd h
goes_on (at_end ∷ []) h = absurd h
goes_on (piece stmt ∷ other ∷ items) h = stmt_opens stmt (other ∷ items) (opened (other ∷ items)) h.0 h.1 (goes_on (other ∷ items) h.1)
goes_on (at_test round ∷ other ∷ items) h = (h, λ e. cc)
goes_on (at_advance advance round ∷ other ∷ items) h = (h, λ e. cc)
goes_on (at_end ∷ other ∷ items) h = goes_on (other ∷ items) h.1

past_closes : (items : Items) → mark_behind items ≡ true → Closes items → Closes (past_mark items)
past_closes [] mark h = absurd h
past_closes (piece stmt ∷ []) mark h = cc
past_closes (piece stmt ∷ other ∷ items) mark h = past_closes (other ∷ items) mark h.1
past_closes (at_test round ∷ []) mark h = absurd h
past_closes (at_test round ∷ other ∷ items) mark h = h.1
past_closes (at_advance advance round ∷ []) mark h = absurd h
past_closes (at_advance advance round ∷ other ∷ items) mark h = h.1
past_closes (at_end ∷ []) mark h = absurd h
past_closes (at_end ∷ other ∷ items) mark h = h.1

from_closes : (items : Items) → loop_behind items ≡ true → Closes items → Closes (from_mark items)
from_closes [] mark h = absurd h
from_closes (piece stmt ∷ []) mark h = cc
from_closes (piece stmt ∷ other ∷ items) mark h = from_closes (other ∷ items) mark h.1
from_closes (at_test round ∷ items) mark h = h
from_closes (at_advance advance round ∷ items) mark h = h
from_closes (at_end ∷ []) mark h = cc
from_closes (at_end ∷ other ∷ items) mark h = from_closes (other ∷ items) mark h.1

act_closes : (act : Action) (items : Items) → may_stand (mark_behind items) (loop_behind items) act ≡ true → leaves act ≡ false → Closes items
    → Closes (after_action act items)
act_closes (assign what e) items fits stays h = h
act_closes (call what callee es) items fits stays h = h
act_closes (spawn taker callee es) items fits stays h = h
act_closes (print format es) items fits stays h = h
act_closes (locking what lock) items fits stays h = h
act_closes null items fits stays h = h
act_closes break_off items fits stays h = past_closes items fits h
act_closes go_round items fits stays h = from_closes items fits h
act_closes (tests e) items fits stays h = h
act_closes sync items fits stays h = h
act_closes abort items fits stays h = h
act_closes (return_with e) items fits stays h = cc
act_closes return_nothing items fits stays h = cc
act_closes close items fits stays h = cc

round_closes : (round : Round) (advance : Option Numbered) (items : Items) → stmts_fit true true round.body ≡ true → Closes items
    → Closes (pieces round.body (next_mark round advance ∷ items))
round_closes round None items fits h = pieces_close round.body (at_test round ∷ items) fits (before (at_test round) items fits h)
round_closes round (Some advance) items fits h =
    pieces_close round.body (at_advance advance round ∷ items) fits (before (at_advance advance round) items fits h)

choose_closes : (b : Bool) (body other : Stmts) (items : Items)
    → (stmts_fit (mark_behind items) (loop_behind items) body && stmts_fit (mark_behind items) (loop_behind items) other) ≡ true → Closes items
    → Closes (after_choice b body other items)
choose_closes true body other items fits h =
    pieces_close body items
    (and_parts (stmts_fit (mark_behind items) (loop_behind items) body) (stmts_fit (mark_behind items) (loop_behind items) other) fits).0 h
choose_closes false body other items fits h =
    pieces_close other items
    (and_parts (stmts_fit (mark_behind items) (loop_behind items) body) (stmts_fit (mark_behind items) (loop_behind items) other) fits).1 h

-- the statements that a label leads to fit where all of them do
abbrev SomeFit : Bool → Option Stmts → Type 0
SomeFit in_loop None = Unit {0}
SomeFit in_loop (Some stmts) = stmts_fit true in_loop stmts ≡ true

behind_fits : (in_loop : Bool) (value : Option ℤ) (body : Stmts) → stmts_fit true in_loop body ≡ true → SomeFit in_loop (behind_label value body)
behind_fits in_loop value none fits = tt
behind_fits in_loop value (also first others) fits =
    let parts = and_parts (stmt_fits true in_loop first) (stmts_fit true in_loop others) fits in
    by (is_label value first) parts.1 (behind_fits in_loop value others parts.1)
  where
    by : (b : Bool) → stmts_fit true in_loop others ≡ true → SomeFit in_loop (behind_label value others)
        → SomeFit in_loop (behind_by b others (behind_label value others))
    by true own later = own
    by false own later = later

either_fits : (in_loop : Bool) (first other : Option Stmts) → SomeFit in_loop first → SomeFit in_loop other → SomeFit in_loop (first_there first other)
either_fits in_loop None other h k = k
either_fits in_loop (Some stmts) other h k = h

chosen_fits : (in_loop : Bool) (z : ℤ) (body : Stmts) → stmts_fit true in_loop body ≡ true → SomeFit in_loop (chosen z body)
chosen_fits in_loop z body fits =
    either_fits in_loop (behind_label (Some z) body) (behind_label None body) (behind_fits in_loop (Some z) body fits) (behind_fits in_loop None body fits)

select_closes : (stmts : Option Stmts) (items : Items) → SomeFit (loop_behind items) stmts → Closes items → Closes (selected stmts items)
select_closes None items fits h = h
select_closes (Some stmts) items fits h = pieces_close stmts (at_end ∷ items) fits (before at_end items tt h)

test_closes : (b : Bool) (round : Round) (items : Items) → stmts_fit true true round.body ≡ true → Closes items → Closes (after_test b round items)
test_closes true round items fits h = round_closes round round.advance items fits h
test_closes false round items fits h = h

next_closes : (z : ℤ) (items : Items) (head : Numbered) → Closes items → head_of items ≡ Some head → leaves head.act ≡ false → Closes (next z items)
next_closes z [] head h first stays = absurd h
next_closes z (piece (action what) ∷ []) head h first stays =
    let same : what ≡ head = cc in
    let both : true ≡ false = ap leaves (sym h) ∙ ap (λ (x : Numbered). leaves x.act) same ∙ stays in
    cc
next_closes z (piece (action what) ∷ other ∷ items) head h first stays =
    let same : what ≡ head = cc in
    act_closes what.act (other ∷ items) h.0 (ap (λ (x : Numbered). leaves x.act) same ∙ stays) h.1
next_closes z (piece (choose test body else_body) ∷ []) head h first stays = absurd h
next_closes z (piece (choose test body else_body) ∷ other ∷ items) head h first stays = choose_closes (holds z) body else_body (other ∷ items) h.0 h.1
next_closes z (piece (while test body) ∷ items) head h first stays = cc
next_closes z (piece (repeat body test) ∷ items) head h first stays = cc
next_closes z (piece (loop begin test advance body) ∷ items) head h first stays = cc
next_closes z (piece (select test body) ∷ []) head h first stays = absurd h
next_closes z (piece (select test body) ∷ other ∷ items) head h first stays =
    select_closes (chosen z body) (other ∷ items) (chosen_fits (loop_behind (other ∷ items)) z body h.0) h.1
next_closes z (piece (at_label value) ∷ items) head h first stays = cc
next_closes z (piece (nested inside) ∷ items) head h first stays = cc
next_closes z (at_test round ∷ []) head h first stays = absurd h
next_closes z (at_test round ∷ other ∷ items) head h first stays = test_closes (holds z) round (other ∷ items) h.0 h.1
next_closes z (at_advance advance round ∷ []) head h first stays = absurd h
next_closes z (at_advance advance round ∷ other ∷ items) head h first stays = before (at_test round) (other ∷ items) h.0 h.1
next_closes z (at_end ∷ items) head h first stays = cc

-- behind a head that does not leave the body the activation goes on
pub next_goes_on : (z : ℤ) (items : Items) (head : Numbered) → GoesOn items → head_of items ≡ Some head → leaves head.act ≡ false
    → GoesOn (opened (next z items))
next_goes_on z items head h first stays = goes_on (next z items) (next_closes z items head h.0 first stays)

pub start_goes_on : (body : Body) → stmts_fit false false body.stmts ≡ true → GoesOn (opened (start_items body))
start_goes_on body fits =
    goes_on (start_items body) (pieces_close body.stmts (piece (action (record { number = body.closing; act = close })) ∷ []) fits refl)
