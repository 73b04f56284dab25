-- Each list that a body reaches stands in the text at its head's number.
use Rattle.std.proofs.Common.{◌≡◌, ℕ, zero, suc, ◌+◌, ◌<◌, ◌≤◌, ℤ, Bool, true, false, cond, List, [], ◌∷◌, length, map, Option, Some, None}
use Rattle.std.proofs.Common.{inl, inr, refl, sym, ap, subst, ◌∙◌, arith, unwrap_or}
use Rattle.std.specs.Prelude.{⊤, slice_get, slice_index_or}
use Rattle.std.proofs.lemmas.Bool.{false≢true}
use Rattle.std.proofs.lemmas.Bool.Decides.{Decides-eqb}
use Rattle.cilk_model.specs.syntax.Tree as tree
use Rattle.cilk_model.proofs.scopes_laws.Elements.{Has, Has-append_left, Has-append_right}
use Rattle.cilk_model.specs.scopes.WellFormed.{WellFormed}
use Rattle.cilk_model.specs.labelled.Labelled.{Body, Labelled, Stmt, action, choose, while, repeat, loop, select, at_label, nested, Stmts, none, also}
use Rattle.cilk_model.specs.labelled.Items.{Items, pieces, plain_round, open_stmt, open_stmts, reached}
use Rattle.cilk_model.specs.labelled.Bodies.{label, file_names}
use Rattle.cilk_model.specs.labelled.Count.{count_program}
use Rattle.cilk_model.specs.Instance.{body_at, no_body}
use Rattle.cilk_load_nodes.specs.declared.body.Body as table
use Rattle.cilk_load_nodes.specs.declared.node.Node.{Node}
use Rattle.cilk_load_nodes.specs.Table.{number_of, successor, node_at, closing_items, body_lists, Row, row, rows_from, has_number}
use Rattle.cilk_load_nodes.specs.Table.{node_among, node_of}
use Rattle.cilk_load_nodes.specs.Bodies.{body_table, body_of}
use Rattle.cilk_load_nodes.specs.Laws.{Reached, items_at}
use Rattle.cilk_load_nodes.proofs.Inner.{well_formed-plain}
use Rattle.cilk_load_nodes.proofs.Members.{At, at-from-has, has-map}
use Rattle.cilk_load_nodes.proofs.Opens.{opened-pieces}
use Rattle.cilk_load_nodes.proofs.Kept.{Kept, reached-kept}
use Rattle.cilk_load_nodes.proofs.Successors.{successor-of}
use Rattle.cilk_load_nodes.proofs.Texts.{RowsSpan, items_rows, items-span, items-to-text}

-- all rows of a program, by bodies and in the order of the text
abbrev pub rows_of : tree.Program → List Row
rows_of p = rows_from 0 (label p).bodies

abbrev pub text_of : tree.Program → List Row
text_of p = items_rows (file_names p.items) 0 1 p.items

pub text-spans : (p : tree.Program) → WellFormed p → RowsSpan 1 (1 + count_program p) (text_of p)
text-spans p ok = items-span (file_names p.items) 0 1 p.items (well_formed-plain p ok)

-- the row at a place has the number of the place
pub row-number : (n m : ℕ) (rows : List Row) (k : ℕ) (r : Row) → RowsSpan n m rows → slice_get rows k ≡ Some r → number_of r.items ≡ Some (n + k)
row-number n m [] k r h e = cc
row-number n m (s ∷ rows) zero r h e =
    let same : s ≡ r = cc in
    let z : n ≡ n + 0 = omega arith in
    ap (λ (x : Row). number_of x.items) (sym same) ∙ h.0 ∙ ap (λ i. Some i) z
row-number n m (s ∷ rows) (suc k) r h e =
    let z : n + 1 + k ≡ n + suc k = omega arith in
    row-number (n + 1) m rows k r h.1 e ∙ ap (λ i. Some i) z

rows-le : (n m : ℕ) (rows : List Row) → RowsSpan n m rows → n ≤ m
rows-le n m [] h = omega (arith, h)
rows-le n m (r ∷ rows) h = omega (arith, rows-le (n + 1) m rows h.1)

pub row-within : (n m : ℕ) (rows : List Row) (k : ℕ) (r : Row) → RowsSpan n m rows → slice_get rows k ≡ Some r → n + k < m
row-within n m [] k r h e = cc
row-within n m (s ∷ rows) zero r h e = omega (arith, rows-le (n + 1) m rows h.1)
row-within n m (s ∷ rows) (suc k) r h e = omega (arith, row-within (n + 1) m rows k r h.1 e)

-- the lists of body b are among the rows
in-table : (k : ℕ) (bodies : List Body) (b : ℕ) (x : Items) → b < length bodies → Has (body_lists (slice_index_or bodies b no_body)) x
    → Has (rows_from k bodies) (row (k + b) x)
in-table k [] b x below h = absurd (omega arith)
in-table k (body ∷ bodies) zero x below h =
    let e : k ≡ k + 0 = omega arith in
    subst (λ c. Has (rows_from k (body ∷ bodies)) (row c x)) e
    (Has-append_left (map (row k) (body_lists body)) (rows_from (suc k) bodies) (row k x) (has-map (row k) (body_lists body) x h))
in-table k (body ∷ bodies) (suc b) x below h =
    let e : suc k + b ≡ k + suc b = omega arith in
    subst (λ c. Has (rows_from k (body ∷ bodies)) (row c x)) e
    (Has-append_right (map (row k) (body_lists body)) (rows_from (suc k) bodies) (row (suc k + b) x)
    (in-table (suc k) bodies b x (omega arith) h))

-- an opened body has a head
abbrev NonEmpty : Items → Type 0
NonEmpty [] = ⊥
NonEmpty (x ∷ xs) = ⊤

mutual
  open-some : (s : Stmt) (items without : Items) → NonEmpty without → NonEmpty (open_stmt s items without)
  open-some (action what) items without h = tt
  open-some (choose test body other) items without h = tt
  open-some (while test body) items without h = tt
  open-some (repeat body test) items without h = opens-some body (plain_round test body ∷ items) (plain_round test body ∷ items) tt
  open-some (loop None test advance body) items without h = tt
  open-some (loop (Some first) test advance body) items without h = tt
  open-some (select test body) items without h = tt
  open-some (at_label value) items without h = h
  open-some (nested inside) items without h = opens-some inside items without h

  opens-some : (ss : Stmts) (items without : Items) → NonEmpty without → NonEmpty (open_stmts ss items without)
  opens-some none items without h = h
  opens-some (also s ss) items without h = open-some s (pieces ss items) (open_stmts ss items without) (opens-some ss items without h)

starts-some : (body : Body) → NonEmpty (reached body [])
starts-some body =
    subst NonEmpty (sym (opened-pieces body.stmts (closing_items body.closing)))
    (opens-some body.stmts (closing_items body.closing) (closing_items body.closing) tt)

has_number-same : (n : ℕ) (o : Option ℕ) → has_number n o ≡ true → o ≡ Some n
has_number-same n None e = cc
has_number-same n (Some m) e = ap (λ i. Some i) (sym ((Decides-eqb n m).0 e))

has_number-itself : (n : ℕ) (o : Option ℕ) → o ≡ Some n → has_number n o ≡ true
has_number-itself n o e = ap (has_number n) e ∙ (Decides-eqb n n).1 refl

-- where one row alone has the number, its node is found
pub among-is : (program : Labelled) (n : ℕ) (r : Row) (rows : List Row) → ((s : Row) → Has rows s → number_of s.items ≡ Some n → s ≡ r)
    → Has rows r → number_of r.items ≡ Some n → node_among program n rows ≡ node_at program r.body r.items
among-is program n r [] only h e = absurd h
among-is program n r (s ∷ rows) only h e = by_test (has_number n (number_of s.items)) refl h (λ k. among-is program n r rows (λ x m. only x (inr m)) k e)
  where
    by_test : (b : Bool) → has_number n (number_of s.items) ≡ b → Has (s ∷ rows) r
        → (Has rows r → node_among program n rows ≡ node_at program r.body r.items)
        → cond b (node_at program s.body s.items) (node_among program n rows) ≡ node_at program r.body r.items
    by_test true t k later = ap (λ (x : Row). node_at program x.body x.items) (only s (inl refl) (has_number-same n (number_of s.items) t))
    by_test false t (inl same) later =
        absurd (false≢true (sym t ∙ has_number-itself n (number_of s.items) (ap (λ (x : Row). number_of x.items) same ∙ e)))
    by_test false t (inr k) later = later k

pub among-none : (program : Labelled) (n : ℕ) (rows : List Row) → ((s : Row) → Has rows s → number_of s.items ≡ Some n → ⊥) → node_among program n rows ≡ None
among-none program n [] missing = refl
among-none program n (s ∷ rows) missing = by_test (has_number n (number_of s.items)) refl (among-none program n rows (λ x m. missing x (inr m)))
  where
    by_test : (b : Bool) → has_number n (number_of s.items) ≡ b → node_among program n rows ≡ None
        → cond b (node_at program s.body s.items) (node_among program n rows) ≡ None
    by_test true t later = absurd (missing s (inl refl) (has_number-same n (number_of s.items) t))
    by_test false t later = later

get-table : (bodies : List Body) (b : ℕ) (t : table.Body) → slice_get (map body_table bodies) b ≡ Some t → (b < length bodies)
    × (body_table (slice_index_or bodies b no_body) ≡ t)
get-table [] b t e = cc
get-table (body ∷ bodies) zero t e = let same : body_table body ≡ t = cc in (omega arith, same)
get-table (body ∷ bodies) (suc b) t e = let h = get-table bodies b t e in (omega (arith, h.0), h.1)

table-at : (bodies : List Body) (b : ℕ) → b < length bodies → slice_get (map body_table bodies) b ≡ Some (body_table (slice_index_or bodies b no_body))
table-at [] b h = absurd (omega arith)
table-at (body ∷ bodies) zero h = refl
table-at (body ∷ bodies) (suc b) h = table-at bodies b (omega arith)

entry-from : (o : Option ℕ) (n m : ℕ) → o ≡ Some n → unwrap_or o 0 ≡ m → o ≡ Some m
entry-from o n m e h = let k : n ≡ m = ap (λ (x : Option ℕ). unwrap_or x 0) (sym e) ∙ h in e ∙ ap (λ i. Some i) k

module _ (p : tree.Program) (ok : WellFormed p) where
  pub text-place : (r : Row) → Has (rows_of p) r → At (text_of p) r
  text-place r h = at-from-has (text_of p) r (items-to-text (file_names p.items) 0 1 p.items r h)

  pub numbered : (r : Row) (h : Has (rows_of p) r) → number_of r.items ≡ Some (1 + (text-place r h).place)
  numbered r h = row-number 1 (1 + count_program p) (text_of p) (text-place r h).place r (text-spans p ok) (text-place r h).found

  below-count : (r : Row) (h : Has (rows_of p) r) → 1 + (text-place r h).place ≤ count_program p
  below-count r h =
      omega (arith, row-within 1 (1 + count_program p) (text_of p) (text-place r h).place r (text-spans p ok) (text-place r h).found)

  -- the number of a row tells it
  pub one-row : (r s : Row) → Has (rows_of p) r → Has (rows_of p) s → number_of r.items ≡ number_of s.items → r ≡ s
  one-row r s h g e =
      let k : ℕ = (text-place r h).place in
      let m : ℕ = (text-place s g).place in
      let some : Some (1 + k) ≡ Some (1 + m) = sym (numbered r h) ∙ e ∙ numbered s g in
      let more : 1 + k ≡ 1 + m = cc in
      let place : k ≡ m = omega (arith, more) in
      let rows : Some r ≡ Some s = sym (text-place r h).found ∙ ap (λ i. slice_get (text_of p) i) place ∙ (text-place s g).found in
      cc

  kept-row : (b : ℕ) (x : Items) → b < length (label p).bodies → Has (body_lists (body_at (label p) b)) x → Has (rows_of p) (row b x)
  kept-row b x below h =
      let e : 0 + b ≡ b = omega arith in
      subst (λ c. Has (rows_of p) (row c x)) e (in-table 0 (label p).bodies b x below h)

  pub found-row : (b : ℕ) (answers : List ℤ) (n : ℕ) → Reached p b answers n → Has (rows_of p) (row b (items_at p b answers))
  found-row b answers n h = by_cases (reached-kept (body_at (label p) b) answers)
    where
      by_cases : Kept (body_at (label p) b) (items_at p b answers) → Has (rows_of p) (row b (items_at p b answers))
      by_cases (inl empty) = let missing : number_of (items_at p b answers) ≡ None = ap number_of empty in let there = h.number in cc
      by_cases (inr k) = kept-row b (items_at p b answers) h.is_there k

  pub no-head : (b : ℕ) (answers : List ℤ) → b < length (label p).bodies → number_of (items_at p b answers) ≡ None → items_at p b answers ≡ []
  no-head b answers below e = by_cases (reached-kept (body_at (label p) b) answers)
    where
      by_cases : Kept (body_at (label p) b) (items_at p b answers) → items_at p b answers ≡ []
      by_cases (inl empty) = empty
      by_cases (inr k) = let there = numbered (row b (items_at p b answers)) (kept-row b (items_at p b answers) below k) in cc

  starts : (b : ℕ) → b < length (label p).bodies → (n : ℕ) × (number_of (items_at p b []) ≡ Some n)
  starts b below = by_cases (reached-kept (body_at (label p) b) []) (starts-some (body_at (label p) b))
    where
      by_cases : Kept (body_at (label p) b) (items_at p b []) → NonEmpty (items_at p b []) → (n : ℕ) × (number_of (items_at p b []) ≡ Some n)
      by_cases (inl empty) some = absurd (subst NonEmpty empty some)
      by_cases (inr k) some =
          let r : Has (rows_of p) (row b (items_at p b [])) = kept-row b (items_at p b []) below k
          in (1 + (text-place (row b (items_at p b [])) r).place, numbered (row b (items_at p b [])) r)

pub heads-tell : (p : tree.Program) (b c : ℕ) (answers others : List ℤ) (n : ℕ) → WellFormed p → Reached p b answers n
    → Reached p c others n → (b ≡ c) × (items_at p b answers ≡ items_at p c others)
heads-tell p b c answers others n ok h g =
    let one : row b (items_at p b answers)
    ≡ row c (items_at p c others) = one-row p ok _ _ (found-row p ok b answers n h) (found-row p ok c others n g) (h.number ∙ sym g.number)
    in
    (ap (λ (r : Row). r.body) one, ap (λ (r : Row). r.items) one)

pub no-head-tells : (p : tree.Program) (b : ℕ) (answers : List ℤ) → WellFormed p → b < length (label p).bodies
    → number_of (items_at p b answers) ≡ None → items_at p b answers ≡ []
no-head-tells p b answers ok below e = no-head p ok b answers below e

pub numbers-within : (p : tree.Program) (b : ℕ) (answers : List ℤ) (n : ℕ) → WellFormed p → Reached p b answers n → (1 ≤ n) × (n ≤ count_program p)
numbers-within p b answers n ok h =
    let r = found-row p ok b answers n h in
    let some : Some n ≡ Some (1 + (text-place p ok (row b (items_at p b answers)) r).place) = sym h.number ∙ numbered p ok (row b (items_at p b answers)) r in
    let is : n ≡ 1 + (text-place p ok (row b (items_at p b answers)) r).place = cc in
    (omega (arith, is), omega (arith, is, below-count p ok (row b (items_at p b answers)) r))

pub nodes-stand : (p : tree.Program) (b : ℕ) (answers : List ℤ) (n : ℕ) → WellFormed p → Reached p b answers n
    → node_of p n ≡ node_at (label p) b (items_at p b answers)
nodes-stand p b answers n ok h =
    among-is (label p) n (row b (items_at p b answers)) (rows_of p)
    (λ s k e. one-row p ok s (row b (items_at p b answers)) k (found-row p ok b answers n h) (e ∙ sym h.number))
    (found-row p ok b answers n h) h.number

pub successors-stand : (p : tree.Program) (b : ℕ) (answers : List ℤ) (n : ℕ) (node : Node) → WellFormed p → Reached p b answers n
    → node_of p n ≡ Some node → (z : ℤ) → successor node z ≡ number_of (items_at p b (z ∷ answers))
successors-stand p b answers n node ok h e z =
    successor-of (label p) b (items_at p b answers) node (sym (nodes-stand p b answers n ok h) ∙ e) z

pub entries-stand : (p : tree.Program) (b : ℕ) (t : table.Body) → WellFormed p → body_of p b ≡ Some t → Reached p b [] t.entry
entries-stand p b t ok e =
    let h = get-table (label p).bodies b t e in
    let s = starts p ok b h.0 in
    record { is_there = h.0; number = entry-from _ s.0 t.entry s.1 (ap (λ (x : table.Body). x.entry) h.1) }

pub bodies-have : (p : tree.Program) (b : ℕ) → b < length (label p).bodies → body_of p b ≡ Some (body_table (body_at (label p) b))
bodies-have p b h = table-at (label p).bodies b h

pub tables-have : (p : tree.Program) (b : ℕ) (t : table.Body) → body_of p b ≡ Some t → (b < length (label p).bodies) × (t ≡ body_table (body_at (label p) b))
tables-have p b t e = let h = get-table (label p).bodies b t e in (h.0, sym h.1)
