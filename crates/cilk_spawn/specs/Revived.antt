-- An instance that has ended lives again.
use Rattle.std.specs.Prelude.{◌≡◌, ◌≢◌, ◌==◌, ◌++◌, ◌∷◌, [], ℕ, List, length, Some, None, cond, slice_set}
use Rattle.cilk_spawn.specs.declared.record.Record.{Record}
use Rattle.cilk_spawn.specs.declared.fate.Fate.TheVariants.{Live}
use Rattle.cilk_spawn.specs.Nodes.{Node, node_at}
use Rattle.cilk_spawn.specs.Records.{nodes_of, child_at, place_at}
use Rattle.cilk_spawn.specs.Remains.{Remains}

abbrev pub alive : Remains → Node → Node
alive r n = record n { fate = Live; receiver = r.receiver; waiting = r.waiting; parked = None }

abbrev pub revived : List Node → ℕ → Remains → List Node
revived ns e r = slice_set ns e (alive r (node_at ns e))

-- e has no children, its parent has it again, and it stands behind the others that live
pub record Revived (rs now : List Record) (ids more : List ℕ) (e : ℕ) : Type 0 where
  pub none_of : (k : ℕ) → child_at now e k ≡ None
  pub gained : (q k : ℕ) → (node_at (nodes_of rs) e).parent ≡ Some q
      → child_at now q k ≡ cond ((node_at (nodes_of rs) e).ordinal == k) (Some e) (child_at rs q k)
  pub others : (q k : ℕ) → q ≢ e → ((node_at (nodes_of rs) e).parent ≡ Some q → ⊥) → child_at now q k ≡ child_at rs q k
  pub ids_are : more ≡ ids ++ e ∷ []
  pub placed : place_at now e ≡ length ids
  pub places : (j : ℕ) → j ≢ e → place_at now j ≡ place_at rs j

-- the parent of e, if it has one, has it again
pub record Regained (rs now : List Record) (e : ℕ) : Type 0 where
  pub len : length now ≡ length rs
  pub nodes : nodes_of now ≡ nodes_of rs
  pub gained : (q k : ℕ) → (node_at (nodes_of rs) e).parent ≡ Some q → child_at now q k ≡ cond ((node_at (nodes_of rs) e).ordinal == k) (Some e)
      (child_at rs q k)
  pub others : (q k : ℕ) → ((node_at (nodes_of rs) e).parent ≡ Some q → ⊥) → child_at now q k ≡ child_at rs q k
  pub places : (i : ℕ) → place_at now i ≡ place_at rs i
