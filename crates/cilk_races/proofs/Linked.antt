-- An access meets none that stands in another bucket, and how links lead through the others.
use Rattle.std.proofs.Common.{◌≡◌, ◌<◌, ◌≤◌, ℕ, suc, zero, Bool, true, false, not, ◌&&◌, ◌||◌, ◌==◌, ◌%◌, List, length}
use Rattle.std.proofs.Common.{set, refl, sym, ap, ◌∙◌, subst, inl, inr, arith}
use Rattle.std.proofs.Common.{if◌then◌else◌, get_or-set_same, get_or-set_other}
use Rattle.std.specs.Prelude.{min, replicate, slice_index, slice_index_or}
use Rattle.std.proofs.lemmas.List.{get_or-map, get_or-replicate, get_or_read}
use Rattle.std.proofs.lemmas.Bool.{and_parts, cases_eq, cases_lt, eqb-true, false≢true}
use Rattle.std.proofs.lemmas.Slice.Eq.{bytes_eq-Decides}
use Rattle.cilk_log_replay.specs.machine.model.labelled.Labelled.{Labelled}
use Rattle.cilk_log_replay.specs.machine.model.Event.{Event}
use Rattle.cilk_log_replay.specs.machine.model.Path.{same_path}
use Rattle.cilk_log_replay.specs.machine.step.Accesses.{Where, global, own, output, synched}
use Rattle.cilk_races.specs.Alike.{AreOfThread}
use Rattle.cilk_races.specs.declared.streak.Streak.TheVariants.{Thread, Locks}
use Rattle.cilk_races.specs.declared.touch.Touch as touched
use Rattle.cilk_races.specs.Line.{Line}
use Rattle.cilk_races.specs.Links.{AreLinked, IsFirst, IsLeftOut, IsPassed, MeetsNoLater, bucket_at, bucket_of, hash_of}
use Rattle.cilk_races.specs.PairWords.{touch_of}
use Rattle.cilk_races.specs.Paired.{entries_up_to, no_touch, touch_at, touches_of}
use Rattle.cilk_races.specs.Races.{Touch, Pair, meet, same_cell, share_one}
use Rattle.cilk_races.proofs.Likeness.{thread-back, thread-on}
use Rattle.cilk_races.proofs.Passed.{apart-none, lock-none, none-adds, thread-none, twin-adds-none}

cell-is : (a b : Where) → same_cell a b ≡ true → a ≡ b
cell-is (global n k) (global m l) h =
    let both = and_parts (n == m) (k == l) h in
    λ j. global (eqb-true n m both.0 j) (eqb-true k l both.1 j)
cell-is (global n k) (own q m l) h = cc
cell-is (global n k) output h = cc
cell-is (global n k) (synched q) h = cc
cell-is (own p n k) (global m l) h = cc
cell-is (own p n k) (own q m l) h =
    let all = and_parts (same_path p q) ((n == m) && (k == l)) h in
    let both = and_parts (n == m) (k == l) all.1 in
    λ j. own ((bytes_eq-Decides p q).0 all.0 j) (eqb-true n m both.0 j) (eqb-true k l both.1 j)
cell-is (own p n k) output h = cc
cell-is (own p n k) (synched q) h = cc
cell-is output (global m l) h = cc
cell-is output (own q m l) h = cc
cell-is output output h = refl
cell-is output (synched q) h = cc
cell-is (synched p) (global m l) h = cc
cell-is (synched p) (own q m l) h = cc
cell-is (synched p) output h = cc
cell-is (synched p) (synched q) h = ap synched ((bytes_eq-Decides p q).0 h)

-- two accesses that meet are of one bucket
meeting-falls : (count : ℕ) (a b : Touch) → meet a b ≡ true → bucket_of count a ≡ bucket_of count b
meeting-falls count a b h =
    let parts = and_parts (same_cell a.access.at b.access.at) ((a.access.writes || b.access.writes) && not (share_one a.locks b.locks)) h in
    ap (λ at. hash_of at % count) (cell-is a.access.at b.access.at parts.0)

-- a later one of its bucket does not meet it
reads-meet-none : (count : ℕ) (touches : List Touch) (k second : ℕ) → MeetsNoLater count touches k → k < second → second < count
    → bucket_at count touches second ≡ bucket_at count touches k → meet (touch_at touches k) (touch_at touches second) ≡ true → ⊥
reads-meet-none count touches k second alone before low same met =
    let a : Touch = touch_at touches k in
    let b : Touch = touch_at touches second in
    let writes = and_parts (a.access.writes || b.access.writes) (not (share_one a.locks b.locks))
    (and_parts (same_cell a.access.at b.access.at) ((a.access.writes || b.access.writes) && not (share_one a.locks b.locks)) met).1 in
    let reads = alone.behind second before low same in
    false≢true (sym (λ j. alone.reads j || reads j) ∙ writes.0)

-- what goes on alike from one place to another
all-on : (f : ℕ → List Pair) (low high : ℕ) → low ≤ high → ((k : ℕ) → low ≤ k → k < high → f (suc k) ≡ f k) → f high ≡ f low
all-on f low zero order same = let is : zero ≡ low = omega arith in ap f is
all-on f low (suc high) order same =
    elim (cases_lt low (suc high)) [
      | inl below ↦ same high (omega arith) (omega arith) ∙ all-on f low high (omega arith) (λ k above under. same k above (omega arith))
      | inr above ↦ let is : suc high ≡ low = omega arith in ap f is
    ]

-- an access of the run, with what was told before of those before it
module _ (program : Labelled) (events : List Event) (touches : List Touch) (count : ℕ) (size : length touches ≡ count) (second : ℕ)
    (low : second < count) (pairs : List Pair) where
  abbrev b : Touch
  b = touch_at touches second

  abbrev entries : ℕ → List Pair
  entries k = entries_up_to program events touches pairs k b

  left-out-adds-none : (k : ℕ) → k < second → bucket_at count touches k ≡ bucket_at count touches second → IsLeftOut count touches k
      → entries (suc k) ≡ entries k
  left-out-adds-none k before same (inl alone) =
      none-adds program events touches b pairs k (omega (arith, size))
      (apart-none program events (touch_at touches k) b (reads-meet-none count touches k second alone before low (sym same)))
  left-out-adds-none k before same (inr twin) = twin-adds-none program events touches b pairs k (omega (arith, size)) twin

  -- those in front of the place that is told, where none that may be passed over makes an entry
  module _ (Passes : ℕ → Type 0) (from place : ℕ) (before : from ≤ second) (f : IsFirst count touches Passes (bucket_at count touches second) from place)
      (none : (k : ℕ) → k < second → bucket_at count touches k ≡ bucket_at count touches second → Passes k → entries (suc k) ≡ entries k) where
    each-adds-none : (k : ℕ) → from ≤ k → k < min place second → entries (suc k) ≡ entries k
    each-adds-none k above under =
        elim (cases_eq (bucket_at count touches k) (bucket_at count touches second)) [
          | inl same ↦ none k (omega arith) same (f.none k above (omega arith) same)
          | inr differs ↦
              none-adds program events touches b pairs k (omega (arith, size))
              (apart-none program events (touch_at touches k) b (λ met. absurd (differs (meeting-falls count (touch_at touches k) b met))))
        ]

    pub first-enough : entries (min place second) ≡ entries from
    first-enough = let e = f.behind in all-on entries from (min place second) (omega (arith, e)) each-adds-none

  -- the first of a bucket, and the next one
  pub linked-enough : (from place : ℕ) → from ≤ second → IsFirst count touches (IsLeftOut count touches) (bucket_at count touches second) from place
      → entries (min place second) ≡ entries from
  linked-enough from place before f = first-enough (IsLeftOut count touches) from place before f left-out-adds-none

  -- behind one by the same thread, and its streak
  module _ (first : ℕ) (before : first < second) where
    abbrev a : Touch
    a = touch_at touches first

    pub thread-enough : (place : ℕ) → AreOfThread a b
        → IsFirst count touches (IsPassed Thread count touches first) (bucket_at count touches second) (suc first) place
        → entries (min place second) ≡ entries first
    thread-enough place h f =
        first-enough (IsPassed Thread count touches first) (suc first) place before f none
        ∙ none-adds program events touches b pairs first (omega (arith, size)) (thread-none program events a b h)
      where
        none : (k : ℕ) → k < second → bucket_at count touches k ≡ bucket_at count touches second → IsPassed Thread count touches first k
            → entries (suc k) ≡ entries k
        none k under same (inl left) = left-out-adds-none k under same left
        none k under same (inr on) =
            none-adds program events touches b pairs k (omega (arith, size))
            (thread-none program events (touch_at touches k) b (thread-on (touch_at touches k) a b (thread-back a (touch_at touches k) on) h))

    pub lock-enough : (place : ℕ) → share_one a.locks b.locks ≡ true
        → IsFirst count touches (IsPassed Locks count touches first) (bucket_at count touches second) (suc first) place
        → entries (min place second) ≡ entries first
    lock-enough place h f =
        first-enough (IsPassed Locks count touches first) (suc first) place before f none
        ∙ none-adds program events touches b pairs first (omega (arith, size)) (lock-none program events a b h)
      where
        none : (k : ℕ) → k < second → bucket_at count touches k ≡ bucket_at count touches second → IsPassed Locks count touches first k
            → entries (suc k) ≡ entries k
        none k under same (inl left) = left-out-adds-none k under same left
        none k under same (inr on) =
            none-adds program events touches b pairs k (omega (arith, size))
            (lock-none program events (touch_at touches k) b (ap (λ xs. share_one xs b.locks) (sym on) ∙ h))

-- the links, one access more at the front
module _ (count : ℕ) (touches : List Touch) where
  pub linked-none : (firsts nexts : List ℕ) → firsts ≡ replicate count count → AreLinked count touches count firsts nexts
  linked-none firsts nexts is = record {
    first = λ bucket low.
        subst (IsFirst count touches (IsLeftOut count touches) bucket count)
        (sym (ap (λ xs. slice_index xs bucket) is ∙ get_or-replicate count bucket count 0 low)) (record {
          behind = omega arith;
          within = omega arith;
          none = λ k above under same. absurd (omega arith);
          falls = λ under. absurd (omega arith);
        });
    next = λ place above under. absurd (omega arith);
  }

  module _ (place bucket : ℕ) (low : place < count) (is : bucket ≡ bucket_at count touches place) (left : Bool)
      (left_is : left ≡ true → IsLeftOut count touches place) (firsts nexts : List ℕ) (size : length firsts ≡ count)
      (next_size : length nexts ≡ count) (there : bucket < count) (h : AreLinked count touches (suc place) firsts nexts) where
    -- the same first place, with one access more before it, which is left out if it is of the bucket
    still : (other first : ℕ) → (other ≡ bucket → IsLeftOut count touches place) → IsFirst count touches (IsLeftOut count touches) other (suc place) first
        → IsFirst count touches (IsLeftOut count touches) other place first
    still other first alone f = record {
      behind = let e = f.behind in omega arith;
      within = f.within;
      none = λ k above under e.
          elim (cases_eq k place) [
            | inl same ↦ subst (IsLeftOut count touches) (sym same) (alone (sym e ∙ ap (bucket_at count touches) same ∙ sym is))
            | inr differs ↦ f.none k (omega arith) under e
          ];
      falls = f.falls;
    }

    begins : (out : Bool) → left ≡ out → IsFirst count touches (IsLeftOut count touches) bucket place (if out then slice_index firsts bucket else place)
    begins true so = still bucket (slice_index firsts bucket) (λ same. left_is so) (h.first bucket there)
    begins false so = record {
      behind = omega arith;
      within = omega arith;
      none = λ k above under same. absurd (omega arith);
      falls = λ under. sym is;
    }

    pub linked-more : AreLinked count touches place (set firsts bucket (if left then slice_index firsts bucket else place))
        (set nexts place (slice_index firsts bucket))
    linked-more = record {
      first = λ other low_other.
          elim (cases_eq other bucket) [
            | inl same ↦
                subst
                (λ n. IsFirst count touches (IsLeftOut count touches) n place
                (slice_index (set firsts bucket (if left then slice_index firsts bucket else place)) n)) (sym same)
                (subst (IsFirst count touches (IsLeftOut count touches) bucket place)
                (sym (get_or-set_same firsts bucket (if left then slice_index firsts bucket else place) 0 (omega (arith, size)))) (begins left refl))
            | inr differs ↦
                subst (IsFirst count touches (IsLeftOut count touches) other place)
                (sym (get_or-set_other firsts bucket other (if left then slice_index firsts bucket else place) 0 differs))
                (still other (slice_index firsts other) (λ same. absurd (differs same)) (h.first other low_other))
          ];
      next = λ k above under.
          elim (cases_eq k place) [
            | inl same ↦
                subst
                (λ n. IsFirst count touches (IsLeftOut count touches) (bucket_at count touches n) (suc n)
                (slice_index (set nexts place (slice_index firsts bucket)) n)) (sym same)
                (subst (IsFirst count touches (IsLeftOut count touches) (bucket_at count touches place) (suc place))
                (sym (get_or-set_same nexts place (slice_index firsts bucket) 0 (omega (arith, next_size))))
                (subst (λ n. IsFirst count touches (IsLeftOut count touches) n (suc place) (slice_index firsts bucket)) is (h.first bucket there)))
            | inr differs ↦
                subst (IsFirst count touches (IsLeftOut count touches) (bucket_at count touches k) (suc k))
                (sym (get_or-set_other nexts place k (slice_index firsts bucket) 0 differs)) (h.next k (omega arith) under)
          ];
    }

-- the bucket of an access that is kept
pub kept-bucket : (rows : List Line) (touches : List touched.Touch) (place : ℕ) (touch : touched.Touch) → place < length touches
    → slice_index_or touches place touch ≡ touch → (hash : ℕ) → hash ≡ hash_of (touch_of rows touch).access.at
    → hash % length touches ≡ bucket_at (length touches) (touches_of rows touches) place
kept-bucket rows touches place touch low is hash hash-is =
    ap (λ n. n % length touches) hash-is
    ∙ ap (bucket_of (length touches)) (sym (get_or-map (touch_of rows) touches place touch no_touch low ∙ ap (touch_of rows) is))

pub kept-touch : (rows : List Line) (touches : List touched.Touch) (place : ℕ) (touch : touched.Touch) → place < length touches
    → slice_index_or touches place touch ≡ touch → touch_at (touches_of rows touches) place ≡ touch_of rows touch
kept-touch rows touches place touch low is = get_or-map (touch_of rows) touches place touch no_touch low ∙ ap (touch_of rows) is

-- what a link leads to that was read, of an access of the bucket of another
pub link-falls : (count : ℕ) (touches : List Touch) (Passes : ℕ → Type 0) (first second : ℕ)
    → bucket_at count touches first ≡ bucket_at count touches second → (from : ℕ) (links : List ℕ) (place : ℕ) → first < length links
    → place ≡ slice_index_or links first place → IsFirst count touches Passes (bucket_at count touches first) from (slice_index links first)
    → IsFirst count touches Passes (bucket_at count touches second) from place
link-falls count touches Passes first second same from links place inside read f =
    subst (λ bucket. IsFirst count touches Passes bucket from place) same
    (subst (IsFirst count touches Passes (bucket_at count touches first) from) (sym (get_or_read links first place inside read 0)) f)
