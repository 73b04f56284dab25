-- What is kept at a place, where some of it was changed.
use Rattle.std.proofs.Common.{◌⊎◌, ◌≡◌, ◌<◌, ℕ, Bool, true, false, ◌&&◌, nat_eq, if◌then◌else◌, max, List, length, Option, Some, None}
use Rattle.std.proofs.Common.{is_some, is_none, refl, sym, ap, ◌∙◌, subst, arith, inl, inr, slice_set, length-set, get_or-set_same, get_or-set_other}
use Rattle.std.proofs.lemmas.Bool.{cases_eq, eq-eqb, ne_eqb}
use Rattle.cilk_races.proofs.Tops.{if_so}
use Rattle.cilk_races.specs.declared.cell.Cell.{Cell}
use Rattle.cilk_races.specs.declared.edge.Edge.TheVariants.{Taken, Joined}
use Rattle.cilk_races.specs.declared.motion.Motion.{Motion}
use Rattle.cilk_races.specs.Cells.{cell_at, no_cell}
use Rattle.cilk_races.specs.Tallies.{own_by, own_after, raised, at_place, settled}
use Rattle.cilk_races.proofs.Ids.{hits}

abbrev pub when : Bool → (Cell → Cell) → Cell → Cell
when true f c = f c
when false f c = c

pub at_place-length : (o : Option ℕ) (f : Cell → Cell) (cells : List Cell) → length (at_place o f cells) ≡ length cells
at_place-length None f cells = refl
at_place-length (Some i) f cells = length-set cells i (f (cell_at cells i))

pub at_place-at : (o : Option ℕ) (f : Cell → Cell) (cells : List Cell) (i : ℕ) → i < length cells
    → cell_at (at_place o f cells) i ≡ when (hits o i) f (cell_at cells i)
at_place-at None f cells i h = refl
at_place-at (Some j) f cells i h = by (cases_eq i j)
  where
    by : (i ≡ j) ⊎ (i ≡ j → ⊥) → cell_at (slice_set cells j (f (cell_at cells j))) i ≡ when (nat_eq i j) f (cell_at cells i)
    by (inl e) =
        subst (λ k. cell_at (slice_set cells k (f (cell_at cells k))) i ≡ f (cell_at cells i)) e (get_or-set_same cells i (f (cell_at cells i)) no_cell h)
        ∙ sym (ap (λ b. when b f (cell_at cells i)) (eq-eqb i j e))
    by (inr ne) =
        get_or-set_other cells j i (f (cell_at cells j)) no_cell ne ∙ sym (ap (λ b. when b f (cell_at cells i)) (ne_eqb i j ne))

-- the parent of the instance of a motion
abbrev pub parent_at : List Cell → Motion → Option ℕ
parent_at cells m = (cell_at cells m.place).parent

abbrev pub settled_cell : Option ℕ → Motion → ℕ → ℕ → Cell → Cell
settled_cell parent m rank i c =
    when (hits parent i) (raised Joined rank) (when (hits m.taking i) (raised Taken rank) (when (hits (Some m.place) i) (own_after m rank) c))

pub settled-length : (m : Motion) (rank : ℕ) (cells : List Cell) → length (settled m rank cells) ≡ length cells
settled-length m rank cells =
    let one : List Cell = at_place (Some m.place) (own_after m rank) cells in
    let two : List Cell = at_place m.taking (raised Taken rank) one in
    at_place-length (parent_at cells m) (raised Joined rank) two ∙ at_place-length m.taking (raised Taken rank) one
    ∙ at_place-length (Some m.place) (own_after m rank) cells

pub settled-at : (m : Motion) (rank : ℕ) (cells : List Cell) (i : ℕ) → i < length cells
    → cell_at (settled m rank cells) i ≡ settled_cell (parent_at cells m) m rank i (cell_at cells i)
settled-at m rank cells i h =
    let one : List Cell = at_place (Some m.place) (own_after m rank) cells in
    let two : List Cell = at_place m.taking (raised Taken rank) one in
    let first : length one ≡ length cells = at_place-length (Some m.place) (own_after m rank) cells in
    let second : length two ≡ length one = at_place-length m.taking (raised Taken rank) one in
    let h1 : i < length one = omega (arith, first, h) in
    let h2 : i < length two = omega (arith, second, h1) in
    at_place-at (parent_at cells m) (raised Joined rank) two i h2
    ∙ ap (when (hits (parent_at cells m) i) (raised Joined rank))
    (at_place-at m.taking (raised Taken rank) one i h1
    ∙ ap (when (hits m.taking i) (raised Taken rank)) (at_place-at (Some m.place) (own_after m rank) cells i h))

-- what each change makes of a cell
record OfParent (b : Bool) (rank : ℕ) (old new : Cell) : Type 0 where
  parent : new.parent ≡ old.parent
  depth : new.depth ≡ old.depth
  above : new.above ≡ old.above
  taking : new.taking ≡ old.taking
  thread : new.thread ≡ old.thread
  joined : new.joined ≡ max old.joined (if_so b rank)
  taken : new.taken ≡ old.taken

of_parent : (b : Bool) (rank : ℕ) (c : Cell) → OfParent b rank c (when b (raised Joined rank) c)
of_parent true rank c = record { parent = refl; depth = refl; above = refl; taking = refl; thread = refl; joined = refl; taken = refl }
of_parent false rank c = record { parent = refl; depth = refl; above = refl; taking = refl; thread = refl; joined = omega arith; taken = refl }

record OfChild (b : Bool) (rank : ℕ) (old new : Cell) : Type 0 where
  parent : new.parent ≡ old.parent
  depth : new.depth ≡ old.depth
  above : new.above ≡ old.above
  taking : new.taking ≡ old.taking
  thread : new.thread ≡ old.thread
  joined : new.joined ≡ old.joined
  taken : new.taken ≡ max old.taken (if_so b rank)

of_child : (b : Bool) (rank : ℕ) (c : Cell) → OfChild b rank c (when b (raised Taken rank) c)
of_child true rank c = record { parent = refl; depth = refl; above = refl; taking = refl; thread = refl; joined = refl; taken = refl }
of_child false rank c = record { parent = refl; depth = refl; above = refl; taking = refl; thread = refl; joined = refl; taken = omega arith }

record OfOwn (b : Bool) (o : Option ℕ) (m : Motion) (rank : ℕ) (old new : Cell) : Type 0 where
  parent : new.parent ≡ old.parent
  depth : new.depth ≡ old.depth
  above : new.above ≡ (if b then m.above else old.above)
  taking : new.taking ≡ (if b then m.inlet else old.taking)
  thread : new.thread ≡ max old.thread (if_so (b && is_none o) rank)
  joined : new.joined ≡ max old.joined (if_so (b && is_some o) rank)
  taken : new.taken ≡ old.taken

of_own : (b : Bool) (o : Option ℕ) (m : Motion) (rank : ℕ) (c : Cell) → OfOwn b o m rank c (when b (own_by o m rank) c)
of_own true None m rank c = record { parent = refl; depth = refl; above = refl; taking = refl; thread = refl; joined = omega arith; taken = refl }
of_own true (Some k) m rank c = record { parent = refl; depth = refl; above = refl; taking = refl; thread = omega arith; joined = refl; taken = refl }
of_own false o m rank c = record {
  parent = refl;
  depth = refl;
  above = refl;
  taking = refl;
  thread = omega arith;
  joined = omega arith;
  taken = refl;
}

-- a cell of the instance, of the child whose value it takes, of the parent, or of none of these
pub record Changed (a b t : Bool) (m : Motion) (rank : ℕ) (old new : Cell) : Type 0 where
  pub parent : new.parent ≡ old.parent
  pub depth : new.depth ≡ old.depth
  pub above : new.above ≡ (if t then m.above else old.above)
  pub taking : new.taking ≡ (if t then m.inlet else old.taking)
  pub thread : new.thread ≡ max old.thread (if_so (t && is_none m.taking) rank)
  pub joined : new.joined ≡ max (max old.joined (if_so (t && is_some m.taking) rank)) (if_so a rank)
  pub taken : new.taken ≡ max old.taken (if_so b rank)

pub changed : (a b t : Bool) (m : Motion) (rank : ℕ) (c : Cell)
    → Changed a b t m rank c (when a (raised Joined rank) (when b (raised Taken rank) (when t (own_after m rank) c)))
changed a b t m rank c =
    let c1 : Cell = when t (own_after m rank) c in
    let c2 : Cell = when b (raised Taken rank) c1 in
    let own = of_own t m.taking m rank c in
    let child = of_child b rank c1 in
    let up = of_parent a rank c2 in
    record {
      parent = up.parent ∙ child.parent ∙ own.parent;
      depth = up.depth ∙ child.depth ∙ own.depth;
      above = up.above ∙ child.above ∙ own.above;
      taking = up.taking ∙ child.taking ∙ own.taking;
      thread = up.thread ∙ child.thread ∙ own.thread;
      joined = up.joined ∙ ap (λ x. max x (if_so a rank)) (child.joined ∙ own.joined);
      taken = up.taken ∙ child.taken ∙ ap (λ x. max x (if_so b rank)) own.taken;
    }
