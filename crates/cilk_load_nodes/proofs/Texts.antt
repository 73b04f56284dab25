-- The lists of all bodies in the order of the text: those of an inlet stand between the initialisers of its procedure.
use Rattle.std.proofs.Common.{◌≡◌, ◌⊎◌, ℕ, suc, ◌+◌, List, [], ◌∷◌, ◌++◌, length, map, Some, None, inl, inr, refl, sym, ap, subst, ◌∙◌, arith}
use Rattle.std.proofs.Common.{pos, append_assoc}
use Rattle.cilk_model.specs.syntax.Tree as tree
use Rattle.cilk_model.specs.syntax.Tree.{Word}
use Rattle.cilk_model.specs.scopes.declared.owner.Owner.{Owner}
use Rattle.cilk_model.specs.scopes.declared.owner.Owner.TheVariants.{Inlet}
use Rattle.cilk_model.specs.scopes.Parts.{owner_of}
use Rattle.cilk_model.proofs.scopes_laws.Elements.{Has, Has-append_left, Has-append_right, Has-append_cases}
use Rattle.cilk_model.specs.labelled.Labelled.{Stmts, Variable, Body}
use Rattle.cilk_model.specs.labelled.Items.{Items, piece, pieces}
use Rattle.cilk_model.specs.labelled.Names.{Names, with_local, with_words, in_inlet}
use Rattle.cilk_model.specs.labelled.Count.{count_shape, count_locals, count_stmts, count_block, count_item, count_items}
use Rattle.cilk_model.specs.labelled.Label.{single, label_move, label_initialiser, label_locals, label_stmts, label_block, names_behind, locals_variables}
use Rattle.cilk_model.specs.labelled.Bodies.{one_cell, parameter_variables, label_body, inlet_bodies, block_locals, procedure_names}
use Rattle.cilk_model.specs.labelled.Bodies.{body_count, item_bodies, items_bodies}
use Rattle.cilk_load_nodes.specs.Table.{number_of, stmts_lists, closing_items, body_lists, Row, row, rows_from}
use Rattle.cilk_load_nodes.specs.Plain.{PlainBlock, OuterLocals, OuterBlock, PlainItem, PlainItems}
use Rattle.cilk_load_nodes.proofs.BodyCounts.{length-item}
use Rattle.cilk_load_nodes.proofs.Spans.{Spans, spans-append, spans-end, spans-at, block-spans, stmts-spans}

-- the row of an initialiser, before what follows
abbrev pub shape_rows : Names → ℕ → ℕ → tree.Place → tree.Shape → Stmts → Items → List Row
shape_rows names b at place (tree.variable None) others items = []
shape_rows names b at place (tree.variable (Some value)) others items =
    row b (piece (single at (label_move names (tree.assign (record { place = place; op = None }) value))) ∷ pieces others items) ∷ []
shape_rows names b at place (tree.array n) others items = []

abbrev pub named_place : Word → tree.Place
named_place name = record { name = name; index = None }

abbrev pub body_of_inlet : Names → ℕ → Word → List Word → tree.Block → Body
body_of_inlet names at name parameters body =
    label_body (with_words (in_inlet names) 0 parameters) at Inlet name (map (one_cell (pos 0)) parameters) body

-- the rows of body b from its declarations on; its next inlet has body k
abbrev pub locals_rows : Names → ℕ → ℕ → ℕ → ℕ → tree.Locals → Stmts → Items → List Row
locals_rows names b k at n tree.no_locals others items = map (row b) (stmts_lists others items)
locals_rows names b k at n (tree.and_local (tree.declared d) rest) others items =
    shape_rows (with_local names n (tree.declared d)) b at (named_place d.name) d.shape
    (label_locals (with_local names n (tree.declared d)) (at + count_shape d.shape) (n + 1) rest others) items
    ++ locals_rows (with_local names n (tree.declared d)) b k (at + count_shape d.shape) (n + 1) rest others items
locals_rows names b k at n (tree.and_local (tree.inlet_at place name parameters body) rest) others items =
    map (row k) (body_lists (body_of_inlet (with_local names n (tree.inlet_at place name parameters body)) at name parameters body))
    ++ locals_rows (with_local names n (tree.inlet_at place name parameters body)) b (suc k) (at + (count_block body + 1)) (n + 0) rest others items

-- those of a body of which n variables are parameters, and of its inlets
abbrev pub body_rows : Names → ℕ → ℕ → ℕ → tree.Block → List Row
body_rows names b at n (tree.block ls ss) =
    locals_rows names b (suc b) at n ls (label_stmts (names_behind names n ls) (at + count_locals ls) (n + length (locals_variables ls)) ss)
    (closing_items (at + (count_locals ls + count_stmts ss)))
    ++ row b (closing_items (at + (count_locals ls + count_stmts ss))) ∷ []

abbrev pub item_rows : Names → ℕ → ℕ → tree.Item → List Row
item_rows names b at (tree.global g) = []
item_rows names b at (tree.lock name) = []
item_rows names b at (tree.prototype q) = []
item_rows names b at (tree.procedure p) =
    body_rows (procedure_names (record names { bodies = suc names.bodies }) p) b at (length (parameter_variables p.parameters)) p.body

abbrev pub items_rows : Names → ℕ → ℕ → List tree.Item → List Row
items_rows names b at [] = []
items_rows names b at (first ∷ others) =
    item_rows names b at first ++ items_rows (record names { bodies = names.bodies + body_count first }) (b + body_count first) (at + count_item first) others

-- the heads' numbers go up by one
abbrev pub RowsSpan : ℕ → ℕ → List Row → Type 0
RowsSpan n m [] = n ≡ m
RowsSpan n m (r ∷ rows) = (number_of r.items ≡ Some n) × RowsSpan (n + 1) m rows

rows-at : (n k m : ℕ) (rows : List Row) → n ≡ k → RowsSpan n m rows → RowsSpan k m rows
rows-at n k m rows e h = subst (λ i. RowsSpan i m rows) e h

rows-append : (n m k : ℕ) (xs ys : List Row) → RowsSpan n m xs → RowsSpan m k ys → RowsSpan n k (xs ++ ys)
rows-append n m k [] ys e h = rows-at m n k ys (sym e) h
rows-append n m k (x ∷ xs) ys h g = (h.0, rows-append (n + 1) m k xs ys h.1 g)

rows-of : (b n m : ℕ) (xs : List Items) → Spans n m xs → RowsSpan n m (map (row b) xs)
rows-of b n m [] h = h
rows-of b n m (x ∷ xs) h = (h.0, rows-of b (n + 1) m xs h.1)

shape-span : (names : Names) (b at : ℕ) (place : tree.Place) (shape : tree.Shape) (others : Stmts) (items : Items)
    → RowsSpan at (at + count_shape shape) (shape_rows names b at place shape others items)
shape-span names b at place (tree.variable None) others items = omega arith
shape-span names b at place (tree.variable (Some value)) others items = (refl, refl)
shape-span names b at place (tree.array n) others items = omega arith

pub inlet-spans : (names : Names) (at : ℕ) (name : Word) (parameters : List Word) (body : tree.Block) → PlainBlock body
    → Spans at (at + (count_block body + 1)) (body_lists (body_of_inlet names at name parameters body))
inlet-spans names at name parameters body plain =
    let closing : Items = closing_items (at + count_block body) in
    let inside : Names = with_words (in_inlet names) 0 parameters in
    let count : ℕ = length (map (one_cell (pos 0)) parameters) in
    let last : at + count_block body + 1 ≡ at + (count_block body + 1) = omega arith in
    spans-append at (at + count_block body) _ (stmts_lists (label_block inside at count body) closing) (closing ∷ [])
    (block-spans inside at count body closing plain) (refl, last)

locals-span : (names : Names) (b k at n : ℕ) (ls : tree.Locals) (others : Stmts) (m : ℕ) (items : Items) → OuterLocals ls
    → Spans (at + count_locals ls) m (stmts_lists others items) → RowsSpan at m (locals_rows names b k at n ls others items)
locals-span names b k at n tree.no_locals others m items plain h =
    rows-of b at m (stmts_lists others items) (spans-at _ _ m (stmts_lists others items) (omega arith) h)
locals-span names b k at n (tree.and_local (tree.declared d) rest) others m items plain h =
    let inner : Names = with_local names n (tree.declared d) in
    let behind : ℕ = at + count_shape d.shape in
    let e : at + (count_shape d.shape + count_locals rest) ≡ behind + count_locals rest = omega arith in
    rows-append at behind m (shape_rows inner b at (named_place d.name) d.shape (label_locals inner behind (n + 1) rest others) items)
    (locals_rows inner b k behind (n + 1) rest others items)
    (shape-span inner b at (named_place d.name) d.shape (label_locals inner behind (n + 1) rest others) items)
    (locals-span inner b k behind (n + 1) rest others m items plain (spans-at _ _ m (stmts_lists others items) e h))
locals-span names b k at n (tree.and_local (tree.inlet_at place name parameters body) rest) others m items plain h =
    let inner : Names = with_local names n (tree.inlet_at place name parameters body) in
    let behind : ℕ = at + (count_block body + 1) in
    let e : at + (count_block body + 1 + count_locals rest) ≡ behind + count_locals rest = omega arith in
    rows-append at behind m (map (row k) (body_lists (body_of_inlet inner at name parameters body)))
    (locals_rows inner b (suc k) behind (n + 0) rest others items)
    (rows-of k at behind (body_lists (body_of_inlet inner at name parameters body)) (inlet-spans inner at name parameters body plain.0))
    (locals-span inner b (suc k) behind (n + 0) rest others m items plain.1 (spans-at _ _ m (stmts_lists others items) e h))

body-span : (names : Names) (b at n : ℕ) (body : tree.Block) → OuterBlock body → RowsSpan at (at + (count_block body + 1)) (body_rows names b at n body)
body-span names b at n (tree.block ls ss) plain =
    let inner : Names = names_behind names n ls in
    let m : ℕ = n + length (locals_variables ls) in
    let last : ℕ = at + (count_locals ls + count_stmts ss) in
    let others : Stmts = label_stmts inner (at + count_locals ls) m ss in
    let e : at + count_locals ls + count_stmts ss ≡ last = omega arith in
    let end : last + 1 ≡ at + (count_locals ls + count_stmts ss + 1) = omega arith in
    rows-append at last _ (locals_rows names b (suc b) at n ls others (closing_items last)) (row b (closing_items last) ∷ [])
    (locals-span names b (suc b) at n ls others last (closing_items last) plain.0
    (spans-end _ _ _ (stmts_lists others (closing_items last)) e
    (stmts-spans inner (at + count_locals ls) m ss (closing_items last) plain.1)))
    (refl, end)

item-span : (names : Names) (b at : ℕ) (x : tree.Item) → PlainItem x → RowsSpan at (at + count_item x) (item_rows names b at x)
item-span names b at (tree.global g) plain = omega arith
item-span names b at (tree.lock name) plain = omega arith
item-span names b at (tree.prototype q) plain = omega arith
item-span names b at (tree.procedure p) plain =
    body-span (procedure_names (record names { bodies = suc names.bodies }) p) b at (length (parameter_variables p.parameters)) p.body plain

pub items-span : (names : Names) (b at : ℕ) (items : List tree.Item) → PlainItems items → RowsSpan at (at + count_items items) (items_rows names b at items)
items-span names b at [] plain = omega arith
items-span names b at (x ∷ xs) plain =
    let behind : ℕ = at + count_item x in
    let e : behind + count_items xs ≡ at + (count_item x + count_items xs) = omega arith in
    let rest : List Row = items_rows (record names { bodies = names.bodies + body_count x }) (b + body_count x) behind xs in
    rows-append at behind _ (item_rows names b at x) rest (item-span names b at x plain.0)
    (subst (λ i. RowsSpan behind i rest) e (items-span (record names { bodies = names.bodies + body_count x }) (b + body_count x) behind xs plain.1))

-- a row of a body stands in the text, and the other way round

shape-rows-are : (names : Names) (b at : ℕ) (place : tree.Place) (shape : tree.Shape) (others : Stmts) (items : Items)
    → map (row b) (stmts_lists (label_initialiser names at place shape others) items) ≡ shape_rows names b at place shape others items
    ++ map (row b) (stmts_lists others items)
shape-rows-are names b at place (tree.variable None) others items = refl
shape-rows-are names b at place (tree.variable (Some value)) others items = refl
shape-rows-are names b at place (tree.array n) others items = refl

abbrev own_rows : Names → ℕ → ℕ → ℕ → tree.Locals → Stmts → Items → List Row
own_rows names b at n ls others items = map (row b) (stmts_lists (label_locals names at n ls others) items)

to-text : (names : Names) (b k at n : ℕ) (ls : tree.Locals) (others : Stmts) (items : Items) (r : Row)
    → Has (own_rows names b at n ls others items) r ⊎ Has (rows_from k (inlet_bodies names at n ls)) r
    → Has (locals_rows names b k at n ls others items) r
to-text names b k at n tree.no_locals others items r (inl h) = h
to-text names b k at n tree.no_locals others items r (inr h) = absurd h
to-text names b k at n (tree.and_local (tree.declared d) rest) others items r h = by_side h (to-text inner b k behind (n + 1) rest others items r)
  where
    inner : Names
    inner = with_local names n (tree.declared d)

    behind : ℕ
    behind = at + count_shape d.shape

    first : List Row
    first = shape_rows inner b at (named_place d.name) d.shape (label_locals inner behind (n + 1) rest others) items

    text : List Row
    text = locals_rows inner b k behind (n + 1) rest others items

    by_side : Has (own_rows names b at n (tree.and_local (tree.declared d) rest) others items) r ⊎ Has (rows_from k (inlet_bodies inner behind (n + 1) rest)) r
        →
        (Has (own_rows inner b behind (n + 1) rest others items) r ⊎ Has (rows_from k (inlet_bodies inner behind (n + 1) rest)) r
        → Has text r) → Has (first ++ text) r
    by_side (inl own) later =
        elim
        (Has-append_cases first (own_rows inner b behind (n + 1) rest others items) r
        (subst (λ xs. Has xs r) (shape-rows-are inner b at (named_place d.name) d.shape (label_locals inner behind (n + 1) rest others)
        items) own)) [
          | inl x ↦ Has-append_left first text r x
          | inr x ↦ Has-append_right first text r (later (inl x))
        ]
    by_side (inr inlets) later = Has-append_right first text r (later (inr inlets))
to-text names b k at n (tree.and_local (tree.inlet_at place name parameters body) rest) others items r h =
    by_side h (to-text inner b (suc k) behind (n + 0) rest others items r)
  where
    inner : Names
    inner = with_local names n (tree.inlet_at place name parameters body)

    behind : ℕ
    behind = at + (count_block body + 1)

    first : List Row
    first = map (row k) (body_lists (body_of_inlet inner at name parameters body))

    own_part : List Row
    own_part = own_rows inner b behind (n + 0) rest others items

    inlets_part : List Row
    inlets_part = rows_from (suc k) (inlet_bodies inner behind (n + 0) rest)

    text : List Row
    text = locals_rows inner b (suc k) behind (n + 0) rest others items

    by_side : Has own_part r ⊎ Has (first ++ inlets_part) r → (Has own_part r ⊎ Has inlets_part r → Has text r) → Has (first ++ text) r
    by_side (inl own) later = Has-append_right first text r (later (inl own))
    by_side (inr inlets) later = elim (Has-append_cases first inlets_part r inlets) [
      | inl x ↦ Has-append_left first text r x
      | inr x ↦ Has-append_right first text r (later (inr x))
    ]

from-text : (names : Names) (b k at n : ℕ) (ls : tree.Locals) (others : Stmts) (items : Items) (r : Row)
    → Has (locals_rows names b k at n ls others items) r → Has (own_rows names b at n ls others items) r
    ⊎ Has (rows_from k (inlet_bodies names at n ls)) r
from-text names b k at n tree.no_locals others items r h = inl h
from-text names b k at n (tree.and_local (tree.declared d) rest) others items r h =
    elim (Has-append_cases first (locals_rows inner b k behind (n + 1) rest others items) r h) [
      | inl x ↦ inl (back (Has-append_left first _ r x))
      | inr x ↦ elim (from-text inner b k behind (n + 1) rest others items r x)
          [ inl own ↦ inl (back (Has-append_right first _ r own)) | inr inlets ↦ inr inlets ]
    ]
  where
    inner : Names
    inner = with_local names n (tree.declared d)

    behind : ℕ
    behind = at + count_shape d.shape

    first : List Row
    first = shape_rows inner b at (named_place d.name) d.shape (label_locals inner behind (n + 1) rest others) items

    back : Has (first ++ own_rows inner b behind (n + 1) rest others items) r
        → Has (own_rows names b at n (tree.and_local (tree.declared d) rest) others items) r
    back x = subst (λ xs. Has xs r) (sym (shape-rows-are inner b at (named_place d.name) d.shape (label_locals inner behind (n + 1) rest others) items)) x
from-text names b k at n (tree.and_local (tree.inlet_at place name parameters body) rest) others items r h =
    elim (Has-append_cases first (locals_rows inner b (suc k) behind (n + 0) rest others items) r h) [
      | inl x ↦ inr (Has-append_left first _ r x)
      | inr x ↦ elim (from-text inner b (suc k) behind (n + 0) rest others items r x)
          [ inl own ↦ inl own | inr inlets ↦ inr (Has-append_right first _ r inlets) ]
    ]
  where
    inner : Names
    inner = with_local names n (tree.inlet_at place name parameters body)

    behind : ℕ
    behind = at + (count_block body + 1)

    first : List Row
    first = map (row k) (body_lists (body_of_inlet inner at name parameters body))

map-append : (b : ℕ) (xs ys : List Items) → map (row b) (xs ++ ys) ≡ map (row b) xs ++ map (row b) ys
map-append b [] ys = refl
map-append b (x ∷ xs) ys = ap (λ l. row b x ∷ l) (map-append b xs ys)

module _ (names : Names) (b at : ℕ) (owner : Owner) (name : Word) (parameters : List Variable) where
  -- a body and its inlets
  abbrev pub and_inlets : tree.Block → List Body
  and_inlets body = label_body names at owner name parameters body ∷ inlet_bodies names at (length parameters) (block_locals body)

  pub body-to-text : (body : tree.Block) (r : Row) → Has (rows_from b (and_inlets body)) r → Has (body_rows names b at (length parameters) body) r
  body-to-text (tree.block ls ss) r h =
      elim (Has-append_cases (map (row b) (own ++ closing ∷ [])) inlets r h) [
        | inl x ↦ elim (Has-append_cases (map (row b) own) (row b closing ∷ []) r (subst (λ xs. Has xs r) (map-append b own (closing ∷ [])) x)) [
          | inl y ↦ Has-append_left text _ r (to-text names b (suc b) at (length parameters) ls others closing r (inl y))
          | inr y ↦ Has-append_right text _ r y
        ]
        | inr x ↦ Has-append_left text _ r (to-text names b (suc b) at (length parameters) ls others closing r (inr x))
      ]
    where
      closing : Items
      closing = closing_items (at + (count_locals ls + count_stmts ss))

      others : Stmts
      others = label_stmts (names_behind names (length parameters) ls) (at + count_locals ls) (length parameters + length (locals_variables ls)) ss

      own : List Items
      own = stmts_lists (label_locals names at (length parameters) ls others) closing

      inlets : List Row
      inlets = rows_from (suc b) (inlet_bodies names at (length parameters) ls)

      text : List Row
      text = locals_rows names b (suc b) at (length parameters) ls others closing

  pub body-from-text : (body : tree.Block) (r : Row) → Has (body_rows names b at (length parameters) body) r → Has (rows_from b (and_inlets body)) r
  body-from-text (tree.block ls ss) r h =
      elim (Has-append_cases text (row b closing ∷ []) r h) [
        | inl x ↦ elim (from-text names b (suc b) at (length parameters) ls others closing r x) [
          | inl y ↦ Has-append_left (map (row b) (own ++ closing ∷ [])) inlets r (own-row (Has-append_left (map (row b) own) (row b closing ∷ []) r y))
          | inr y ↦ Has-append_right (map (row b) (own ++ closing ∷ [])) inlets r y
        ]
        | inr x ↦ Has-append_left (map (row b) (own ++ closing ∷ [])) inlets r (own-row (Has-append_right (map (row b) own) (row b closing ∷ []) r x))
      ]
    where
      closing : Items
      closing = closing_items (at + (count_locals ls + count_stmts ss))

      others : Stmts
      others = label_stmts (names_behind names (length parameters) ls) (at + count_locals ls) (length parameters + length (locals_variables ls)) ss

      own : List Items
      own = stmts_lists (label_locals names at (length parameters) ls others) closing

      inlets : List Row
      inlets = rows_from (suc b) (inlet_bodies names at (length parameters) ls)

      text : List Row
      text = locals_rows names b (suc b) at (length parameters) ls others closing

      own-row : Has (map (row b) own ++ row b closing ∷ []) r → Has (map (row b) (own ++ closing ∷ [])) r
      own-row x = subst (λ xs. Has xs r) (sym (map-append b own (closing ∷ []))) x

rows-from-append : (b : ℕ) (xs ys : List Body) → rows_from b (xs ++ ys) ≡ rows_from b xs ++ rows_from (b + length xs) ys
rows-from-append b [] ys = ap (λ i. rows_from i ys) (none-more b)
  where
    none-more : (i : ℕ) → i ≡ i + 0
    none-more i = omega arith
rows-from-append b (x ∷ xs) ys =
    ap (λ rows. map (row b) (body_lists x) ++ rows) (rows-from-append (suc b) xs ys ∙ ap (λ i. rows_from (suc b) xs ++ rows_from i ys) (one-more b (length xs)))
    ∙ sym (append_assoc (map (row b) (body_lists x)) (rows_from (suc b) xs) (rows_from (b + suc (length xs)) ys))
  where
    one-more : (i j : ℕ) → suc i + j ≡ i + suc j
    one-more i j = omega arith

item-to-text : (names : Names) (b at : ℕ) (x : tree.Item) (r : Row) → Has (rows_from b (item_bodies names at x)) r → Has (item_rows names b at x) r
item-to-text names b at (tree.global g) r h = h
item-to-text names b at (tree.lock name) r h = h
item-to-text names b at (tree.prototype q) r h = h
item-to-text names b at (tree.procedure p) r h =
    body-to-text (procedure_names (record names { bodies = suc names.bodies }) p) b at (owner_of p.is_cilk p.returns) p.name
    (parameter_variables p.parameters) p.body r h

item-from-text : (names : Names) (b at : ℕ) (x : tree.Item) (r : Row) → Has (item_rows names b at x) r → Has (rows_from b (item_bodies names at x)) r
item-from-text names b at (tree.global g) r h = h
item-from-text names b at (tree.lock name) r h = h
item-from-text names b at (tree.prototype q) r h = h
item-from-text names b at (tree.procedure p) r h =
    body-from-text (procedure_names (record names { bodies = suc names.bodies }) p) b at (owner_of p.is_cilk p.returns) p.name
    (parameter_variables p.parameters) p.body r h

rows-split : (names : Names) (b at : ℕ) (x : tree.Item) (ys : List Body)
    → rows_from b (item_bodies names at x ++ ys) ≡ rows_from b (item_bodies names at x) ++ rows_from (b + body_count x) ys
rows-split names b at x ys =
    rows-from-append b (item_bodies names at x) ys ∙ ap (λ i. rows_from b (item_bodies names at x) ++ rows_from (b + i) ys) (length-item names at x)

pub items-to-text : (names : Names) (b at : ℕ) (xs : List tree.Item) (r : Row) → Has (rows_from b (items_bodies names at xs)) r
    → Has (items_rows names b at xs) r
items-to-text names b at [] r h = h
items-to-text names b at (x ∷ xs) r h =
    let others : List Body = items_bodies (record names { bodies = names.bodies + body_count x }) (at + count_item x) xs in
    elim
    (Has-append_cases (rows_from b (item_bodies names at x)) (rows_from (b + body_count x) others) r
    (subst (λ l. Has l r) (rows-split names b at x others) h)) [
      | inl y ↦ Has-append_left (item_rows names b at x) _ r (item-to-text names b at x r y)
      | inr y ↦ Has-append_right (item_rows names b at x) _ r
          (items-to-text (record names { bodies = names.bodies + body_count x }) (b + body_count x) (at + count_item x) xs r y)
    ]

pub items-from-text : (names : Names) (b at : ℕ) (xs : List tree.Item) (r : Row) → Has (items_rows names b at xs) r
    → Has (rows_from b (items_bodies names at xs)) r
items-from-text names b at [] r h = h
items-from-text names b at (x ∷ xs) r h =
    let others : List Body = items_bodies (record names { bodies = names.bodies + body_count x }) (at + count_item x) xs in
    let inner : Names = record names { bodies = names.bodies + body_count x } in
    subst (λ l. Has l r) (sym (rows-split names b at x others))
    (elim (Has-append_cases (item_rows names b at x) (items_rows inner (b + body_count x) (at + count_item x) xs) r h) [
      | inl y ↦ Has-append_left (rows_from b (item_bodies names at x)) _ r (item-from-text names b at x r y)
      | inr y ↦ Has-append_right (rows_from b (item_bodies names at x)) _ r (items-from-text inner (b + body_count x) (at + count_item x) xs r y)
    ])
