-- The records of those that live, and how a tree's records are made of them.
use Rattle.std.specs.Prelude.{◌≡◌, ◌<◌, ℕ, List, length, nat_lt, if◌then◌else◌, Some, slice_index_or}
use Rattle.cilk_spawn.specs.declared.life.Life.{Life}
use Rattle.cilk_spawn.specs.declared.life.Life.TheVariants.{Live, Returned, Delivered, Aborted}
use Rattle.cilk_spawn.specs.declared.record.Record.{Record}
use Rattle.cilk_spawn.specs.Copied.{Copied}
use Rattle.cilk_spawn.specs.Records.{node_of, record_at, child_of, live_index}

-- the id of the one at place k
abbrev pub id_at : List ℕ → ℕ → ℕ
id_at ids k = slice_index_or ids k 0

-- i is the child with ordinal k of the one at place a
pub record IsListed (rs : List Record) (ids : List ℕ) (a k i : ℕ) : Type 0 where
  pub place : ℕ
  pub within : place < length ids
  pub is : id_at ids place ≡ i
  pub parent : (node_of (record_at rs place)).parent ≡ Some (id_at ids a)
  pub ordinal : (node_of (record_at rs place)).ordinal ≡ k

-- each has its live children by their ordinals, and its place, and no id stands there twice
pub record AreLiving (rs : List Record) (ids : List ℕ) : Type 0 where
  pub len : length rs ≡ length ids
  pub found : (a k i : ℕ) → a < length ids → child_of (record_at rs a).life k ≡ Some i → IsListed rs ids a k i
  pub listed : (a b : ℕ) → a < length ids → b < length ids → (node_of (record_at rs b)).parent ≡ Some (id_at ids a)
      → child_of (record_at rs a).life (node_of (record_at rs b)).ordinal ≡ Some (id_at ids b)
  pub place : (a : ℕ) → a < length ids → live_index (record_at rs a).life ≡ a
  pub apart : (a b : ℕ) → a < length ids → b < length ids → id_at ids a ≡ id_at ids b → a ≡ b

-- what was kept behind choice c of one that had ended then. Of others this tells nothing.
abbrev pub cut_life : ℕ → Life → Life
cut_life c (Live l) = Returned
cut_life c Returned = Returned
cut_life c (Delivered d) = if nat_lt c d then Returned else Delivered d
cut_life c (Aborted d) = Aborted d

abbrev pub cut_record : ℕ → Record → Record
cut_record c r = record r { life = cut_life c r.life }

-- the first n of those that live stand at their ids now, and the others are as they were
pub record PutTo (n : ℕ) (ids : List ℕ) (rs old made : List Record) : Type 0 where
  pub len : length made ≡ length old
  pub put : (a : ℕ) → a < n → Copied (record_at rs a) (record_at made (id_at ids a))
  pub others : (i : ℕ) → ((a : ℕ) → a < n → id_at ids a ≡ i → ⊥) → record_at made i ≡ record_at old i

-- those at these ids
pub record CopiedOf (n : ℕ) (ids : List ℕ) (rs made : List Record) : Type 0 where
  pub len : length made ≡ n
  pub same : (a : ℕ) → a < n → Copied (record_at rs (id_at ids a)) (record_at made a)
