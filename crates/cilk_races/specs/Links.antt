-- Accesses of a run, linked where their cells have one hash.
use Rattle.std.specs.Prelude.{◌≡◌, ◌<◌, ◌≤◌, ◌%◌, ◌⊎◌, ℕ, suc, Bool, true, false, List, slice_index, slice_index_or}
use Rattle.cilk_log_replay.specs.machine.step.Accesses.{Where, global, own, output, synched}
use Rattle.cilk_races.specs.Alike.{AreAlike, AreOfThread}
use Rattle.cilk_races.specs.declared.streak.Streak.{Streak}
use Rattle.cilk_races.specs.declared.streak.Streak.TheVariants.{Thread, Locks}
use Rattle.cilk_races.specs.Mixed.{mixed, mixed_all}
use Rattle.cilk_races.specs.Paired.{touch_at}
use Rattle.cilk_races.specs.Races.{Touch}

-- no path has a number of 2^32 or more, so cells of these four kinds seldom share a bucket
abbrev pub hash_of : Where → ℕ
hash_of (global variable index) = mixed (mixed variable 4294967296) index
hash_of (own path variable index) = mixed (mixed (mixed_all 0 path) variable) index
hash_of output = 4294967297
hash_of (synched path) = mixed (mixed_all 0 path) 4294967298

-- the bucket of an access, among so many
abbrev pub bucket_of : ℕ → Touch → ℕ
bucket_of count touch = hash_of touch.access.at % count

abbrev pub bucket_at : ℕ → List Touch → ℕ → ℕ
bucket_at count touches place = bucket_of count (touch_at touches place)

-- an earlier one is like it
pub record IsTwin (touches : List Touch) (place : ℕ) : Type 0 where
  pub earlier : ℕ
  pub before : earlier < place
  pub alike : AreAlike (touch_at touches earlier) (touch_at touches place)

-- those that are marked are
abbrev pub AreTwins : List Touch → List Bool → Type 0
AreTwins touches marks = (k : ℕ) → slice_index_or marks k false ≡ true → IsTwin touches k

-- it reads, and none behind it that is of its bucket writes
pub record MeetsNoLater (count : ℕ) (touches : List Touch) (place : ℕ) : Type 0 where
  pub reads : (touch_at touches place).access.writes ≡ false
  pub behind : (k : ℕ) → place < k → k < count → bucket_at count touches k ≡ bucket_at count touches place → (touch_at touches k).access.writes ≡ false

-- no later one has to be compared with it
abbrev pub IsLeftOut : ℕ → List Touch → ℕ → Type 0
IsLeftOut count touches place = MeetsNoLater count touches place ⊎ IsTwin touches place

abbrev pub AreLeftOut : ℕ → List Touch → List Bool → Type 0
AreLeftOut count touches marks = (k : ℕ) → slice_index_or marks k false ≡ true → IsLeftOut count touches k

-- from there on, a bucket without a mark has none that writes
abbrev pub AreRead : ℕ → List Touch → ℕ → List Bool → Type 0
AreRead count touches low written =
    (bucket k : ℕ) → slice_index_or written bucket false ≡ false → low ≤ k → k < count → bucket_at count touches k ≡ bucket
    → (touch_at touches k).access.writes ≡ false

-- the first place from there on of an access of a bucket behind such as may be passed over, or the number of accesses
pub record IsFirst (count : ℕ) (touches : List Touch) (Passes : ℕ → Type 0) (bucket low place : ℕ) : Type 0 where
  pub behind : low ≤ place
  pub within : place ≤ count
  pub none : (k : ℕ) → low ≤ k → k < place → bucket_at count touches k ≡ bucket → Passes k
  pub falls : place < count → bucket_at count touches place ≡ bucket

-- from there on, the first place of each bucket is told, and of each access the next one of its bucket
pub record AreLinked (count : ℕ) (touches : List Touch) (low : ℕ) (firsts nexts : List ℕ) : Type 0 where
  pub first : (bucket : ℕ) → bucket < count → IsFirst count touches (IsLeftOut count touches) bucket low (slice_index firsts bucket)
  pub next : (place : ℕ) → low ≤ place → place < count
      → IsFirst count touches (IsLeftOut count touches) (bucket_at count touches place) (suc place) (slice_index nexts place)

-- what accesses of one streak have in common
abbrev pub AreInStreak : Streak → Touch → Touch → Type 0
AreInStreak Thread a b = AreOfThread a b
AreInStreak Locks a b = a.locks ≡ b.locks

-- with the streak of an access
abbrev pub IsPassed : Streak → ℕ → List Touch → ℕ → ℕ → Type 0
IsPassed streak count touches place k = IsLeftOut count touches k ⊎ AreInStreak streak (touch_at touches place) (touch_at touches k)

-- from there on, it is told where the streak of each access leads past
pub record ArePast (streak : Streak) (count : ℕ) (touches : List Touch) (low : ℕ) (pasts : List ℕ) : Type 0 where
  pub each : (place : ℕ) → low ≤ place → place < count
      → IsFirst count touches (IsPassed streak count touches place) (bucket_at count touches place) (suc place) (slice_index pasts place)
