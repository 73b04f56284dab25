-- The node of a spawn names the procedure that the program's spawn of its number names.
use Rattle.std.proofs.Common.{pos, ◌≡◌, ℕ, suc, ◌+◌, Bool, true, false, nat_eq, List, [], ◌∷◌, ◌++◌, map, length, Option, Some, None, option_map, refl}
use Rattle.std.proofs.Common.{sym, ap, ◌∙◌, if◌then◌else◌, eqb-true}
use Rattle.std.specs.Prelude.{⊤, ◌==◌}
use Rattle.std.specs.Option.{option_or}
use Rattle.cilk_machine_agree.specs.syntax.Tree as tree
use Rattle.cilk_machine_agree.specs.syntax.Tree.{Program}
use Rattle.cilk_machine_agree.specs.labelled.Term.{Term}
use Rattle.cilk_machine_agree.specs.nodes.declared.slot.Slot.{Slot}
use Rattle.cilk_machine_agree.specs.labelled.Labelled.{Declaration, Action, assign, call, spawn, print, locking, null, break_off, go_round, tests}
use Rattle.cilk_machine_agree.specs.labelled.Labelled.{sync, abort, return_with, return_nothing, close}
use Rattle.cilk_machine_agree.specs.labelled.Labelled.{Numbered, Stmt, action, choose, while, repeat, loop, select, at_label, nested, Stmts, none, also, Body}
use Rattle.cilk_machine_agree.specs.labelled.Labelled.{Labelled}
use Rattle.cilk_machine_agree.specs.labelled.Items.{Items, pieces, plain_round, at_end, head_of, next_mark}
use Rattle.cilk_machine_agree.specs.labelled.Names.{Names, with_words, with_local, local_count, entered, in_inlet}
use Rattle.cilk_machine_agree.specs.labelled.Count.{count_option, count_stmt, count_local, count_locals, count_block, count_item}
use Rattle.cilk_machine_agree.specs.labelled.Label.{label_part, label_initialiser, label_local, label_locals, label_stmt, label_stmts, label_block}
use Rattle.cilk_machine_agree.specs.labelled.Label.{block_variables, stmt_variables, locals_variables, names_behind}
use Rattle.cilk_machine_agree.specs.labelled.Bodies.{one_cell, parameter_variables, inlet_body, inlet_bodies, block_locals, procedure_names}
use Rattle.cilk_machine_agree.specs.labelled.Bodies.{body_count, item_bodies, items_bodies, file_names, label}
use Rattle.cilk_machine_agree.specs.model.Made.{callee_by, callee_in, callee_among, callee_by_bodies, callee_of}
use Rattle.cilk_machine_agree.specs.nodes.declared.node.Node.{Node}
use Rattle.cilk_machine_agree.specs.nodes.declared.taker.Taker.{Taker}
use Rattle.cilk_machine_agree.specs.nodes.declared.action.Action.TheVariants.{Spawn}
use Rattle.cilk_machine_agree.specs.nodes.Actions.{slotted}
use Rattle.cilk_machine_agree.specs.nodes.Slots.{slot_of}
use Rattle.cilk_machine_agree.specs.nodes.Table.{number_else, cases_of, has_number, node_at, first_lists, advance_lists, round_of}
use Rattle.cilk_machine_agree.specs.nodes.Table.{stmt_lists}
use Rattle.cilk_machine_agree.specs.nodes.Table.{stmts_lists, closing_items, body_lists, Row, row, rows_from, node_among}
use Rattle.cilk_machine_agree.proofs.Made.{option_or-none, option_or-assoc}

-- what spawn n starts, if it stands in front
abbrev head-callee : ℕ → Option Numbered → Option ℕ
head-callee n None = None
head-callee n (Some h) = if h.number == n then callee_by h.act else None

abbrev found : ℕ → List Items → Option ℕ
found n [] = None
found n (items ∷ lists) = option_or (head-callee n (head_of items)) (found n lists)

found-append : (n : ℕ) (xs ys : List Items) → found n (xs ++ ys) ≡ option_or (found n xs) (found n ys)
found-append n [] ys = refl
found-append n (x ∷ xs) ys =
    ap (option_or (head-callee n (head_of x))) (found-append n xs ys) ∙ option_or-assoc (head-callee n (head_of x)) (found n xs) (found n ys)

abbrev Quiet : Numbered → Type 0
Quiet h = callee_by h.act ≡ None

abbrev QuietPart : Option Numbered → Type 0
QuietPart None = ⊤
QuietPart (Some h) = Quiet h

-- no spawn stands in front
head-quiet : (n : ℕ) (h : Numbered) → Quiet h → head-callee n (Some h) ≡ None
head-quiet n h q = by (h.number == n)
  where
    by : (b : Bool) → (if b then callee_by h.act else None) ≡ None
    by true = q
    by false = refl

abbrev mutual
  -- no test and no part of the header of a `for` is a spawn
  Plain : Stmt → Type 0
  Plain (action what) = ⊤
  Plain (choose test body other) = Quiet test × Plains body × Plains other
  Plain (while test body) = Quiet test × Plains body
  Plain (repeat body test) = Quiet test × Plains body
  Plain (loop first test advance body) = QuietPart first × Quiet test × QuietPart advance × Plains body
  Plain (select test body) = Quiet test × Plains body
  Plain (at_label value) = ⊤
  Plain (nested inside) = Plains inside

  Plains : Stmts → Type 0
  Plains none = ⊤
  Plains (also first others) = Plain first × Plains others

module _ (n : ℕ) where
  first-found : (first : Option Numbered) (test : Numbered) (advance : Option Numbered) (body : Stmts) (items : Items) (rest : List Items) → QuietPart first
      → found n (first_lists first (round_of test advance body) items ++ rest) ≡ found n rest
  first-found None test advance body items rest q = refl
  first-found (Some h) test advance body items rest q = ap (λ o. option_or o (found n rest)) (head-quiet n h q)

  advance-found : (advance : Option Numbered) (first : Option Numbered) (test : Numbered) (body : Stmts) (items : Items) (rest : List Items) → QuietPart first
      → found n (advance_lists first (round_of test advance body) items ++ rest) ≡ found n rest
  advance-found advance None test body items rest q = refl
  advance-found advance (Some h) test body items rest q = ap (λ o. option_or o (found n rest)) (head-quiet n h q)

  mutual
    stmt-found : (stmt : Stmt) (items : Items) → Plain stmt → found n (stmt_lists stmt items) ≡ callee_in n stmt
    stmt-found (action what) items p = option_or-none (if what.number == n then callee_by what.act else None)
    stmt-found (choose test body other) items (q, b, o) =
        ap (λ x. option_or x (found n (stmts_lists body items ++ stmts_lists other items))) (head-quiet n test q)
        ∙ found-append n (stmts_lists body items) (stmts_lists other items)
        ∙ (λ j. option_or (stmts-found body items b j) (stmts-found other items o j))
    stmt-found (while test body) items (q, b) =
        let after : Items = plain_round test body ∷ items in
        ap (λ x. option_or x (found n (stmts_lists body after))) (head-quiet n test q) ∙ stmts-found body after b
    stmt-found (repeat body test) items (q, b) =
        let after : Items = plain_round test body ∷ items in
        found-append n (stmts_lists body after) (after ∷ [])
        ∙ (λ j. option_or (stmts-found body after b j) (option_or (head-quiet n test q j) None))
        ∙ option_or-none (callee_among n body)
    stmt-found (loop first test advance body) items (f, q, a, b) =
        first-found first test advance body items _ f
        ∙ ap
        (λ x. option_or x
        (found n (advance_lists advance (round_of test advance body) items
        ++ stmts_lists body (next_mark (round_of test advance body) advance ∷ items))))
        (head-quiet n test q)
        ∙ advance-found advance advance test body items (stmts_lists body (next_mark (round_of test advance body) advance ∷ items)) a
        ∙ stmts-found body _ b
    stmt-found (select test body) items (q, b) =
        ap (λ x. option_or x (found n (stmts_lists body (at_end ∷ items)))) (head-quiet n test q) ∙ stmts-found body (at_end ∷ items) b
    stmt-found (at_label value) items p = refl
    stmt-found (nested inside) items p = stmts-found inside items p

    stmts-found : (stmts : Stmts) (items : Items) → Plains stmts → found n (stmts_lists stmts items) ≡ callee_among n stmts
    stmts-found none items p = refl
    stmts-found (also first others) items (p, ps) =
        found-append n (stmt_lists first (pieces others items)) (stmts_lists others items)
        ∙ (λ j. option_or (stmt-found first (pieces others items) p j) (stmts-found others items ps j))

  body-found : (body : Body) → Plains body.stmts → found n (body_lists body) ≡ callee_among n body.stmts
  body-found body p =
      found-append n (stmts_lists body.stmts (closing_items body.closing)) (closing_items body.closing ∷ [])
      ∙
      (λ j. option_or (stmts-found body.stmts (closing_items body.closing) p j)
      (option_or (head-quiet n (record { number = body.closing; act = close }) refl j) None))
      ∙ option_or-none (callee_among n body.stmts)

  abbrev in-rows : List Row → Option ℕ
  in-rows [] = None
  in-rows (r ∷ rows) = option_or (head-callee n (head_of r.items)) (in-rows rows)

  rows-found : (b : ℕ) (lists : List Items) (rest : List Row) → in-rows (map (row b) lists ++ rest) ≡ option_or (found n lists) (in-rows rest)
  rows-found b [] rest = refl
  rows-found b (x ∷ lists) rest =
      ap (option_or (head-callee n (head_of x))) (rows-found b lists rest) ∙ option_or-assoc (head-callee n (head_of x)) (found n lists) (in-rows rest)

  abbrev AllPlain : List Body → Type 0
  AllPlain [] = ⊤
  AllPlain (body ∷ bodies) = Plains body.stmts × AllPlain bodies

  bodies-found : (b : ℕ) (bodies : List Body) → AllPlain bodies → in-rows (rows_from b bodies) ≡ callee_by_bodies n bodies
  bodies-found b [] p = refl
  bodies-found b (body ∷ bodies) (p, ps) =
      rows-found b (body_lists body) (rows_from (suc b) bodies) ∙ (λ j. option_or (body-found body p j) (bodies-found (suc b) bodies ps j))

  both-plain : (xs ys : List Body) → AllPlain xs → AllPlain ys → AllPlain (xs ++ ys)
  both-plain [] ys p q = q
  both-plain (x ∷ xs) ys (p, ps) q = (p, both-plain xs ys ps q)

  -- a spawn over slots names what the spawn named
  spawn-named : (slots : Declaration → Slot) (act : Action) (taker : Taker) (callee : ℕ) (arguments : List (Term Slot))
      → slotted slots act ≡ Spawn taker callee arguments
      → callee_by act ≡ Some callee
  spawn-named slots (assign place value) taker callee arguments e = cc
  spawn-named slots (call place c es) taker callee arguments e = cc
  spawn-named slots (spawn t c es) taker callee arguments e = cc
  spawn-named slots (print format es) taker callee arguments e = cc
  spawn-named slots (locking what lock) taker callee arguments e = cc
  spawn-named slots null taker callee arguments e = cc
  spawn-named slots break_off taker callee arguments e = cc
  spawn-named slots go_round taker callee arguments e = cc
  spawn-named slots (tests value) taker callee arguments e = cc
  spawn-named slots sync taker callee arguments e = cc
  spawn-named slots abort taker callee arguments e = cc
  spawn-named slots (return_with value) taker callee arguments e = cc
  spawn-named slots return_nothing taker callee arguments e = cc
  spawn-named slots close taker callee arguments e = cc

  module _ (program : Labelled) (node : Node) (taker : Taker) (callee : ℕ) (arguments : List (Term Slot))
      (spawns : node.action ≡ Spawn taker callee arguments) where
    here : (b : ℕ) (items : Items) (h : Numbered) → head_of items ≡ Some h → nat_eq n h.number ≡ true → node_at program b items ≡ Some node
        → head-callee n (head_of items) ≡ Some callee
    here b items h e same is =
        let is_node : option_map
        (λ (x : Numbered). record {
          action = slotted (slot_of program b) x.act;
          next = number_else (pos 1) items;
          other = number_else (pos 0) items;
          cases = cases_of items;
          body = b;
        }) (Some h) ≡ Some node =
        ap
        (option_map
        (λ (x : Numbered). record {
          action = slotted (slot_of program b) x.act;
          next = number_else (pos 1) items;
          other = number_else (pos 0) items;
          cases = cases_of items;
          body = b;
        })) (sym e) ∙ is in
        let act_is : slotted (slot_of program b) h.act ≡ node.action = cc in
        let number : n ≡ h.number = eqb-true n h.number same in
        ap (head-callee n) e
        ∙ ap (λ m. if h.number == m then callee_by h.act else None) number
        ∙ ap (λ x. if x then callee_by h.act else None) (itself h.number)
        ∙ spawn-named (slot_of program b) h.act taker callee arguments (act_is ∙ spawns)
      where
        itself : (k : ℕ) → (k == k) ≡ true
        itself k = Rattle.std.proofs.Common.eq-eqb k k refl

    elsewhere : (h : Numbered) → nat_eq n h.number ≡ false → head-callee n (Some h) ≡ None
    elsewhere h other = by (h.number == n) refl
      where
        by : (x : Bool) → (h.number == n) ≡ x → (if x then callee_by h.act else None) ≡ None
        by true e =
            let same : h.number ≡ n = eqb-true h.number n e in
            let yes : nat_eq n h.number ≡ true = Rattle.std.proofs.Common.eq-eqb n h.number (sym same) in
            cc
        by false e = refl

    abbrev Names-it : List Row → Type 0
    Names-it rows = node_among program n rows ≡ Some node → in-rows rows ≡ Some callee

    by-number : (r : Row) (rows : List Row) (h : Numbered) → head_of r.items ≡ Some h → Names-it rows → (x : Bool) → nat_eq n h.number ≡ x
        → (if x then node_at program r.body r.items else node_among program n rows) ≡ Some node → in-rows (r ∷ rows) ≡ Some callee
    by-number r rows h is rest true same given = ap (λ x. option_or x (in-rows rows)) (here r.body r.items h is same given)
    by-number r rows h is rest false same given =
        ap (λ x. option_or (head-callee n x) (in-rows rows)) is ∙ ap (λ x. option_or x (in-rows rows)) (elsewhere h same) ∙ rest given

    by-head : (r : Row) (rows : List Row) (o : Option Numbered) → head_of r.items ≡ o → Names-it rows
        → (if has_number n (option_map (λ (y : Numbered). y.number) o) then node_at program r.body r.items else node_among program n rows) ≡ Some node
        → in-rows (r ∷ rows) ≡ Some callee
    by-head r rows None is rest given = ap (λ x. option_or (head-callee n x) (in-rows rows)) is ∙ rest given
    by-head r rows (Some h) is rest given = by-number r rows h is rest (nat_eq n h.number) refl given

    among-named : (rows : List Row) → Names-it rows
    among-named [] e = cc
    among-named (r ∷ rows) e = by-head r rows (head_of r.items) refl (among-named rows) e

part-quiet : (names : Names) (at : ℕ) (part : Option tree.Move) → QuietPart (label_part names at part)
part-quiet names at None = tt
part-quiet names at (Some (tree.assign target value)) = refl
part-quiet names at (Some (tree.adjust place by)) = refl
part-quiet names at (Some (tree.call target callee arguments)) = refl

initialiser-plain : (names : Names) (at : ℕ) (place : tree.Place) (shape : tree.Shape) (others : Stmts) → Plains others
    → Plains (label_initialiser names at place shape others)
initialiser-plain names at place (tree.variable None) others p = p
initialiser-plain names at place (tree.variable (Some value)) others p = (tt, p)
initialiser-plain names at place (tree.array length) others p = p

local-plain : (names : Names) (at : ℕ) (l : tree.Local) (others : Stmts) → Plains others → Plains (label_local names at l others)
local-plain names at (tree.declared d) others p = initialiser-plain names at (record { name = d.name; index = None }) d.shape others p
local-plain names at (tree.inlet_at place name parameters body) others p = p

locals-plain : (names : Names) (at n : ℕ) (ls : tree.Locals) (others : Stmts) → Plains others → Plains (label_locals names at n ls others)
locals-plain names at n tree.no_locals others p = p
locals-plain names at n (tree.and_local first rest) others p =
    local-plain (with_local names n first) at first _
    (locals-plain (with_local names n first) (at + count_local first) (n + local_count first) rest others p)

mutual
  stmt-plain : (names : Names) (at n : ℕ) (s : tree.Stmt) → Plain (label_stmt names at n s)
  stmt-plain names at n (tree.move what) = tt
  stmt-plain names at n (tree.spawn_at place taker callee arguments) = tt
  stmt-plain names at n (tree.print format arguments) = tt
  stmt-plain names at n (tree.locking what name) = tt
  stmt-plain names at n tree.null = tt
  stmt-plain names at n (tree.sync_at place) = tt
  stmt-plain names at n (tree.abort_at place) = tt
  stmt-plain names at n (tree.break_at place) = tt
  stmt-plain names at n (tree.continue_at place) = tt
  stmt-plain names at n (tree.return_at place value) = tt
  stmt-plain names at n (tree.when value body) = (refl, block-plain (entered names) (at + 1) n body, tt)
  stmt-plain names at n (tree.either value body other) =
      (refl, block-plain (entered names) (at + 1) n body, block-plain (entered names) (at + (1 + count_block body)) (n + length (block_variables body)) other)
  stmt-plain names at n (tree.while value body) = (refl, block-plain (entered names) (at + 1) n body)
  stmt-plain names at n (tree.repeat body value) = (refl, block-plain (entered names) at n body)
  stmt-plain names at n (tree.loop first value advance body) = (
    part-quiet names at first,
    refl,
    part-quiet names (at + (count_option first + 1)) advance,
    block-plain (entered names) (at + (count_option first + (1 + count_option advance))) n body,
  )
  stmt-plain names at n (tree.switch value body) = (refl, block-plain (entered names) (at + 1) n body)
  stmt-plain names at n (tree.labelled label) = tt
  stmt-plain names at n (tree.nested inside) = block-plain (entered names) at n inside

  stmts-plain : (names : Names) (at n : ℕ) (ss : tree.Stmts) → Plains (label_stmts names at n ss)
  stmts-plain names at n tree.none = tt
  stmts-plain names at n (tree.also first others) =
      (stmt-plain names at n first, stmts-plain names (at + count_stmt first) (n + length (stmt_variables first)) others)

  block-plain : (names : Names) (at n : ℕ) (b : tree.Block) → Plains (label_block names at n b)
  block-plain names at n (tree.block locals stmts) =
      locals-plain names at n locals _
      (stmts-plain (names_behind names n locals) (at + count_locals locals) (n + length (locals_variables locals)) stmts)

module _ (m : ℕ) where
  inlet-plain : (names : Names) (at : ℕ) (l : tree.Local) → AllPlain m (inlet_body names at l)
  inlet-plain names at (tree.declared d) = tt
  inlet-plain names at (tree.inlet_at place name parameters body) =
      (block-plain (with_words (in_inlet names) 0 parameters) at (length (map (one_cell (Rattle.std.specs.Prelude.pos 0)) parameters)) body, tt)

  inlets-plain : (names : Names) (at n : ℕ) (ls : tree.Locals) → AllPlain m (inlet_bodies names at n ls)
  inlets-plain names at n tree.no_locals = tt
  inlets-plain names at n (tree.and_local first others) =
      both-plain m (inlet_body (with_local names n first) at first) _ (inlet-plain (with_local names n first) at first)
      (inlets-plain (with_local names n first) (at + count_local first) (n + local_count first) others)

  item-plain : (names : Names) (at : ℕ) (item : tree.Item) → AllPlain m (item_bodies names at item)
  item-plain names at (tree.global g) = tt
  item-plain names at (tree.lock name) = tt
  item-plain names at (tree.prototype q) = tt
  item-plain names at (tree.procedure p) =
      let inner = procedure_names (record names { bodies = suc names.bodies }) p in (
        block-plain inner at (length (parameter_variables p.parameters)) p.body,
        inlets-plain inner at (length (parameter_variables p.parameters)) (block_locals p.body),
      )

  items-plain : (names : Names) (at : ℕ) (items : List tree.Item) → AllPlain m (items_bodies names at items)
  items-plain names at [] = tt
  items-plain names at (first ∷ others) =
      both-plain m (item_bodies names at first) _ (item-plain names at first)
      (items-plain (record names { bodies = names.bodies + body_count first }) (at + count_item first) others)

pub callee-named : (p : Program) (n : ℕ) (node : Node) (taker : Taker) (callee : ℕ) (arguments : List (Term Slot))
    → node_among (label p) n (rows_from 0 (label p).bodies) ≡ Some node → node.action ≡ Spawn taker callee arguments → callee_of (label p) n ≡ Some callee
callee-named p n node taker callee arguments there spawns =
    sym (bodies-found n 0 (label p).bodies (items-plain n (file_names p.items) 1 p.items))
    ∙ among-named n (label p) node taker callee arguments spawns (rows_from 0 (label p).bodies) there
