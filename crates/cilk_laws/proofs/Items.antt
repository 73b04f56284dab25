-- What holds of each action of a body holds of each action that remains of it.
use Rattle.std.proofs.Common.{◌≡◌, ℕ, zero, suc, ℤ, Bool, true, false, ◌&&◌, List, [], ◌∷◌, Option, Some, None, refl, sym, ap, ◌∙◌}
use Rattle.std.specs.Prelude.{slice_index_or}
use Rattle.std.specs.List.{list_all}
use Rattle.std.proofs.lemmas.Bool.{and_parts}
use Rattle.cilk_laws_model.specs.labelled.Labelled.{Labelled, Body, Action, assign, call, spawn, print, locking, null, break_off, go_round, tests}
use Rattle.cilk_laws_model.specs.labelled.Labelled.{sync, abort, return_with, return_nothing, close, Numbered, Stmt, action, choose, while, repeat}
use Rattle.cilk_laws_model.specs.labelled.Labelled.{loop, select, at_label, nested, Stmts, none, also}
use Rattle.cilk_laws_model.specs.labelled.Items.{Round, Item, piece, at_test, at_advance, at_end, Items, pieces, plain_round, open_first}
use Rattle.cilk_laws_model.specs.labelled.Items.{open_stmt, open_stmts, opened, head_of_stmt, head_of, past_mark, from_mark, after_action}
use Rattle.cilk_laws_model.specs.labelled.Items.{next_mark, is_label, behind_by, behind_label, first_there, chosen, selected, holds}
use Rattle.cilk_laws_model.specs.labelled.Items.{after_choice, after_test, next, start_items}
use Rattle.cilk_laws_model.specs.labelled.Bodies.{is_procedure}
use Rattle.cilk_laws_model.specs.model.Instance.{no_body, body_at}
use Rattle.cilk_laws.specs.Calls.{action_suits, part_suits, taker_suits, stmt_suits, stmts_suit, body_suits, calls_suit}

abbrev HoldsPart : (Action → Bool) → Option Numbered → Type 0
HoldsPart P None = Unit {0}
HoldsPart P (Some what) = P what.act ≡ true

abbrev mutual
  pub HoldsStmt : (Action → Bool) → Stmt → Type 0
  HoldsStmt P (action what) = P what.act ≡ true
  HoldsStmt P (choose test body other) = (P test.act ≡ true) × HoldsStmts P body × HoldsStmts P other
  HoldsStmt P (while test body) = (P test.act ≡ true) × HoldsStmts P body
  HoldsStmt P (repeat body test) = (P test.act ≡ true) × HoldsStmts P body
  HoldsStmt P (loop first test advance body) = HoldsPart P first × (P test.act ≡ true) × HoldsPart P advance × HoldsStmts P body
  HoldsStmt P (select test body) = (P test.act ≡ true) × HoldsStmts P body
  HoldsStmt P (at_label value) = Unit {0}
  HoldsStmt P (nested inside) = HoldsStmts P inside

  pub HoldsStmts : (Action → Bool) → Stmts → Type 0
  HoldsStmts P none = Unit {0}
  HoldsStmts P (also first others) = HoldsStmt P first × HoldsStmts P others

abbrev HoldsRound : (Action → Bool) → Round → Type 0
HoldsRound P round = (P round.test.act ≡ true) × HoldsPart P round.advance × HoldsStmts P round.body

abbrev HoldsItem : (Action → Bool) → Item → Type 0
HoldsItem P (piece stmt) = HoldsStmt P stmt
HoldsItem P (at_test round) = HoldsRound P round
HoldsItem P (at_advance advance round) = (P advance.act ≡ true) × HoldsRound P round
HoldsItem P at_end = Unit {0}

abbrev pub HoldsItems : (Action → Bool) → Items → Type 0
HoldsItems P [] = Unit {0}
HoldsItems P (item ∷ items) = HoldsItem P item × HoldsItems P items

module _ (P : Action → Bool) where
  pieces_hold : (stmts : Stmts) (items : Items) → HoldsStmts P stmts → HoldsItems P items → HoldsItems P (pieces stmts items)
  pieces_hold none items h k = k
  pieces_hold (also first others) items h k = (h.0, pieces_hold others items h.1 k)

  first_hold : (first : Option Numbered) (items : Items) → HoldsPart P first → HoldsItems P items → HoldsItems P (open_first first items)
  first_hold None items h k = k
  first_hold (Some first) items h k = (h, k)

  mutual
    open_stmt_holds : (stmt : Stmt) (items without : Items) → HoldsStmt P stmt → HoldsItems P items → HoldsItems P without
        → HoldsItems P (open_stmt stmt items without)
    open_stmt_holds (action what) items without h k l = (h, k)
    open_stmt_holds (choose test body other) items without h k l = (h, k)
    open_stmt_holds (while test body) items without h k l = ((h.0, tt, h.1), k)
    open_stmt_holds (repeat body test) items without h k l =
        let mark : HoldsItems P (plain_round test body ∷ items) = ((h.0, tt, h.1), k) in
        open_stmts_hold body (plain_round test body ∷ items) (plain_round test body ∷ items) h.1 mark mark
    open_stmt_holds (loop first test advance body) items without h k l = first_hold first _ h.0 ((h.1, h.2, h.3), k)
    open_stmt_holds (select test body) items without h k l = (h, k)
    open_stmt_holds (at_label value) items without h k l = l
    open_stmt_holds (nested inside) items without h k l = open_stmts_hold inside items without h k l

    open_stmts_hold : (stmts : Stmts) (items without : Items) → HoldsStmts P stmts → HoldsItems P items → HoldsItems P without
        → HoldsItems P (open_stmts stmts items without)
    open_stmts_hold none items without h k l = l
    open_stmts_hold (also first others) items without h k l =
        open_stmt_holds first (pieces others items) (open_stmts others items without) h.0 (pieces_hold others items h.1 k)
        (open_stmts_hold others items without h.1 k l)

  pub opened_holds : (items : Items) → HoldsItems P items → HoldsItems P (opened items)
  opened_holds [] h = tt
  opened_holds (piece stmt ∷ items) h = open_stmt_holds stmt items (opened items) h.0 h.1 (opened_holds items h.1)
  opened_holds (at_test round ∷ items) h = h
  opened_holds (at_advance advance round ∷ items) h = h
  opened_holds (at_end ∷ items) h = opened_holds items h.1

  past_holds : (items : Items) → HoldsItems P items → HoldsItems P (past_mark items)
  past_holds [] h = tt
  past_holds (piece stmt ∷ items) h = past_holds items h.1
  past_holds (at_test round ∷ items) h = h.1
  past_holds (at_advance advance round ∷ items) h = h.1
  past_holds (at_end ∷ items) h = h.1

  from_holds : (items : Items) → HoldsItems P items → HoldsItems P (from_mark items)
  from_holds [] h = tt
  from_holds (piece stmt ∷ items) h = from_holds items h.1
  from_holds (at_test round ∷ items) h = h
  from_holds (at_advance advance round ∷ items) h = h
  from_holds (at_end ∷ items) h = from_holds items h.1

  after_holds : (act : Action) (items : Items) → HoldsItems P items → HoldsItems P (after_action act items)
  after_holds break_off items h = past_holds items h
  after_holds go_round items h = from_holds items h
  after_holds (return_with value) items h = tt
  after_holds return_nothing items h = tt
  after_holds close items h = tt
  after_holds (assign what e) items h = h
  after_holds (call what callee es) items h = h
  after_holds (spawn taker callee es) items h = h
  after_holds (print format es) items h = h
  after_holds (locking what k) items h = h
  after_holds null items h = h
  after_holds (tests e) items h = h
  after_holds sync items h = h
  after_holds abort items h = h

  mark_holds : (round : Round) (advance : Option Numbered) → HoldsPart P advance → HoldsRound P round → HoldsItem P (next_mark round advance)
  mark_holds round None h k = k
  mark_holds round (Some advance) h k = (h, k)

  choice_holds : (b : Bool) (body other : Stmts) (items : Items) → HoldsStmts P body → HoldsStmts P other → HoldsItems P items
      → HoldsItems P (after_choice b body other items)
  choice_holds true body other items h k l = pieces_hold body items h l
  choice_holds false body other items h k l = pieces_hold other items k l

  test_holds : (b : Bool) (round : Round) (items : Items) → HoldsRound P round → HoldsItems P items → HoldsItems P (after_test b round items)
  test_holds true round items h k = pieces_hold round.body _ h.2 (mark_holds round round.advance h.1 h, k)
  test_holds false round items h k = k

  -- the statements that a label leads to
  abbrev HoldsSome : Option Stmts → Type 0
  HoldsSome None = Unit {0}
  HoldsSome (Some stmts) = HoldsStmts P stmts

  behind_holds : (value : Option ℤ) (stmts : Stmts) → HoldsStmts P stmts → HoldsSome (behind_label value stmts)
  behind_holds value none h = tt
  behind_holds value (also first others) h = by (is_label value first) h.1 (behind_holds value others h.1)
    where
      by : (b : Bool) → HoldsStmts P others → HoldsSome (behind_label value others) → HoldsSome (behind_by b others (behind_label value others))
      by true own later = own
      by false own later = later

  either_holds : (first other : Option Stmts) → HoldsSome first → HoldsSome other → HoldsSome (first_there first other)
  either_holds None other h k = k
  either_holds (Some stmts) other h k = h

  selected_holds : (stmts : Option Stmts) (items : Items) → HoldsSome stmts → HoldsItems P items → HoldsItems P (selected stmts items)
  selected_holds None items h k = k
  selected_holds (Some stmts) items h k = pieces_hold stmts (at_end ∷ items) h (tt, k)

  pub next_holds : (z : ℤ) (items : Items) → HoldsItems P items → HoldsItems P (next z items)
  next_holds z [] h = tt
  next_holds z (piece (action what) ∷ items) h = after_holds what.act items h.1
  next_holds z (piece (choose test body other) ∷ items) h = choice_holds (holds z) body other items h.0.1 h.0.2 h.1
  next_holds z (piece (while test body) ∷ items) h = h.1
  next_holds z (piece (repeat body test) ∷ items) h = h.1
  next_holds z (piece (loop first test advance body) ∷ items) h = h.1
  next_holds z (piece (select test body) ∷ items) h =
      selected_holds (chosen z body) items
      (either_holds (behind_label (Some z) body) (behind_label None body) (behind_holds (Some z) body h.0.1) (behind_holds None body h.0.1)) h.1
  next_holds z (piece (at_label value) ∷ items) h = h.1
  next_holds z (piece (nested inside) ∷ items) h = h.1
  next_holds z (at_test round ∷ items) h = test_holds (holds z) round items h.0 h.1
  next_holds z (at_advance advance round ∷ items) h = (h.0.1, h.1)
  next_holds z (at_end ∷ items) h = h.1

  stmt_head : (stmt : Stmt) (head : Numbered) → HoldsStmt P stmt → head_of_stmt stmt ≡ Some head → P head.act ≡ true
  stmt_head (action what) head h e = let is : what ≡ head = cc in ap (λ (x : Numbered). P x.act) (sym is) ∙ h
  stmt_head (choose test body other) head h e = let is : test ≡ head = cc in ap (λ (x : Numbered). P x.act) (sym is) ∙ h.0
  stmt_head (while test body) head h e = cc
  stmt_head (repeat body test) head h e = cc
  stmt_head (loop first test advance body) head h e = cc
  stmt_head (select test body) head h e = let is : test ≡ head = cc in ap (λ (x : Numbered). P x.act) (sym is) ∙ h.0
  stmt_head (at_label value) head h e = cc
  stmt_head (nested inside) head h e = cc

  pub head_holds : (items : Items) (head : Numbered) → HoldsItems P items → head_of items ≡ Some head → P head.act ≡ true
  head_holds [] head h e = cc
  head_holds (piece stmt ∷ items) head h e = stmt_head stmt head h.0 e
  head_holds (at_test round ∷ items) head h e = let is : round.test ≡ head = cc in ap (λ (x : Numbered). P x.act) (sym is) ∙ h.0.0
  head_holds (at_advance advance round ∷ items) head h e = let is : advance ≡ head = cc in ap (λ (x : Numbered). P x.act) (sym is) ∙ h.0.0
  head_holds (at_end ∷ items) head h e = cc

  pub start_holds : (body : Body) → P close ≡ true → HoldsStmts P body.stmts → HoldsItems P (opened (start_items body))
  start_holds body h k = opened_holds (start_items body) (pieces_hold body.stmts _ k (h, tt))

-- of the definition's tests
module _ (program : Labelled) (own : Bool) where
  part_of : (part : Option Numbered) → part_suits program own part ≡ true → HoldsPart (action_suits program own) part
  part_of None h = tt
  part_of (Some what) h = h

  mutual
    stmt_of : (stmt : Stmt) → stmt_suits program own stmt ≡ true → HoldsStmt (action_suits program own) stmt
    stmt_of (action what) h = h
    stmt_of (choose test body other) h =
        let parts = and_parts (action_suits program own test.act) (stmts_suit program own body && stmts_suit program own other) h in
        let both = and_parts (stmts_suit program own body) (stmts_suit program own other) parts.1 in
        (parts.0, stmts_of body both.0, stmts_of other both.1)
    stmt_of (while test body) h =
        let parts = and_parts (action_suits program own test.act) (stmts_suit program own body) h in (parts.0, stmts_of body parts.1)
    stmt_of (repeat body test) h =
        let parts = and_parts (action_suits program own test.act) (stmts_suit program own body) h in (parts.0, stmts_of body parts.1)
    stmt_of (loop first test advance body) h =
        let parts = and_parts (part_suits program own first)
        (action_suits program own test.act && (part_suits program own advance && stmts_suit program own body)) h in
        let more = and_parts (action_suits program own test.act) (part_suits program own advance && stmts_suit program own body) parts.1 in
        let last = and_parts (part_suits program own advance) (stmts_suit program own body) more.1 in
        (part_of first parts.0, more.0, part_of advance last.0, stmts_of body last.1)
    stmt_of (select test body) h =
        let parts = and_parts (action_suits program own test.act) (stmts_suit program own body) h in (parts.0, stmts_of body parts.1)
    stmt_of (at_label value) h = tt
    stmt_of (nested inside) h = stmts_of inside h

    pub stmts_of : (stmts : Stmts) → stmts_suit program own stmts ≡ true → HoldsStmts (action_suits program own) stmts
    stmts_of none h = tt
    stmts_of (also first others) h =
        let parts = and_parts (stmt_suits program own first) (stmts_suit program own others) h in (stmt_of first parts.0, stmts_of others parts.1)

body_by : (program : Labelled) (bodies : List Body) (b : ℕ) → list_all (body_suits program) bodies ≡ true
    → body_suits program (slice_index_or bodies b no_body) ≡ true
body_by program [] b h = refl
body_by program (body ∷ bodies) zero h = (and_parts (body_suits program body) (list_all (body_suits program) bodies) h).0
body_by program (body ∷ bodies) (suc b) h = body_by program bodies b (and_parts (body_suits program body) (list_all (body_suits program) bodies) h).1

-- a body at its start
pub body_holds : (program : Labelled) → calls_suit program ≡ true → (b : ℕ) (own : Bool) → is_procedure (body_at program b).owner ≡ own
    → HoldsItems (action_suits program own) (opened (start_items (body_at program b)))
body_holds program suits b own e =
    start_holds (action_suits program own) (body_at program b) refl
    (stmts_of program own (body_at program b).stmts (ap (λ o. stmts_suit program o (body_at program b).stmts) (sym e) ∙ body_by program program.bodies b suits))

-- what suits another body suits a procedure's own
pub freer : (program : Labelled) (own : Bool) (act : Action) → action_suits program own act ≡ true → action_suits program true act ≡ true
freer program own (call what callee es) h = h
freer program own (spawn taker callee es) h = (and_parts own (taker_suits program taker) h).1
freer program own (assign what e) h = refl
freer program own (print format es) h = refl
freer program own (locking what k) h = refl
freer program own null h = refl
freer program own break_off h = refl
freer program own go_round h = refl
freer program own (tests e) h = refl
freer program own sync h = refl
freer program own abort h = refl
freer program own (return_with e) h = refl
freer program own return_nothing h = refl
freer program own close h = refl

module _ (P Q : Action → Bool) (weaker : (act : Action) → P act ≡ true → Q act ≡ true) where
  part_weaker : (part : Option Numbered) → HoldsPart P part → HoldsPart Q part
  part_weaker None h = tt
  part_weaker (Some what) h = weaker what.act h

  mutual
    stmt_weaker : (stmt : Stmt) → HoldsStmt P stmt → HoldsStmt Q stmt
    stmt_weaker (action what) h = weaker what.act h
    stmt_weaker (choose test body other) h = (weaker test.act h.0, stmts_weaker body h.1, stmts_weaker other h.2)
    stmt_weaker (while test body) h = (weaker test.act h.0, stmts_weaker body h.1)
    stmt_weaker (repeat body test) h = (weaker test.act h.0, stmts_weaker body h.1)
    stmt_weaker (loop first test advance body) h =
        (part_weaker first h.0, weaker test.act h.1, part_weaker advance h.2, stmts_weaker body h.3)
    stmt_weaker (select test body) h = (weaker test.act h.0, stmts_weaker body h.1)
    stmt_weaker (at_label value) h = tt
    stmt_weaker (nested inside) h = stmts_weaker inside h

    stmts_weaker : (stmts : Stmts) → HoldsStmts P stmts → HoldsStmts Q stmts
    stmts_weaker none h = tt
    stmts_weaker (also first others) h = (stmt_weaker first h.0, stmts_weaker others h.1)

  round_weaker : (round : Round) → HoldsRound P round → HoldsRound Q round
  round_weaker round h = (weaker round.test.act h.0, part_weaker round.advance h.1, stmts_weaker round.body h.2)

  pub items_weaker : (items : Items) → HoldsItems P items → HoldsItems Q items
  items_weaker [] h = tt
  items_weaker (piece stmt ∷ items) h = (stmt_weaker stmt h.0, items_weaker items h.1)
  items_weaker (at_test round ∷ items) h = (round_weaker round h.0, items_weaker items h.1)
  items_weaker (at_advance advance round ∷ items) h = ((weaker advance.act h.0.0, round_weaker round h.0.1), items_weaker items h.1)
  items_weaker (at_end ∷ items) h = (tt, items_weaker items h.1)
