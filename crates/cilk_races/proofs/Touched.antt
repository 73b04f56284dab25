-- What was kept of instances and accesses, by lists.
use Rattle.std.proofs.Common.{◌≡◌, ◌<◌, ◌≤◌, ◌+◌, ◌⊎◌, ℕ, zero, suc, Bool, true, false, List, [], ◌∷◌, ◌++◌, length, map, take, Some, None}
use Rattle.std.proofs.Common.{refl, sym, ap, ◌∙◌}
use Rattle.std.proofs.Common.{arith, inl, inr, All, if◌then◌else◌, is_none, slice_get, slice_index_or}
use Rattle.std.proofs.Math.Seq.{take-suc}
use Rattle.std.proofs.lemmas.Bool.{cases_lt}
use Rattle.std.proofs.lemmas.List.{append-nil, append_assoc, get_or_past, map-append}
use Rattle.std.proofs.lemmas.List.Elements.{All-head, All-push, All-tail}
use Rattle.cilk_log_replay.specs.machine.labelled.Labelled.{Labelled}
use Rattle.cilk_log_replay.specs.machine.model.Choice.{Choice}
use Rattle.cilk_log_replay.specs.machine.model.Event.{Event}
use Rattle.cilk_log_replay.specs.machine.model.Path.{Path}
use Rattle.cilk_log_replay.specs.machine.model.Run.{Standing, Position, after, after_from, after_main, event_of, is_crew, next_of, opening, refusal_of}
use Rattle.cilk_races.proofs.Known.{map-same, there-more}
use Rattle.cilk_races.specs.Kept.{Blocked, blocks_by, block_in, children_in, path_in, syncs_in}
use Rattle.cilk_races.specs.Line.{Line, no_line}
use Rattle.cilk_races.specs.Order.{Placed, block_of}
use Rattle.cilk_races.specs.Paired as paired
use Rattle.cilk_races.specs.Races.{Touch, touch, touches_at, touches_from, touches_of}
use Rattle.cilk_races.specs.PairWords.{placed_of, touch_of}
use Rattle.cilk_log_replay.specs.machine.step.CellWords.{access_of}
use Rattle.cilk_log_replay.specs.machine.step.declared.access.Access.{Access}
use Rattle.cilk_races.specs.declared.touch.Placed as coded
use Rattle.cilk_races.specs.declared.touch.Touch as kept
use Rattle.cilk_races.proofs.Pushed.{block-none}
use Rattle.cilk_races.specs.Noted.{KnowsTouch, ArePlaced, line_at, touch_by}
use Rattle.cilk_races.specs.Watched.{TellsLines}

pub path-is : (rows : List Line) (i : ℕ) → path_in rows i ≡ (line_at rows i).path
path-is [] zero = refl
path-is [] (suc i) = refl
path-is (line ∷ rows) zero = refl
path-is (line ∷ rows) (suc i) = path-is rows i

pub syncs-is : (rows : List Line) (i : ℕ) → syncs_in rows i ≡ (line_at rows i).syncs
syncs-is [] zero = refl
syncs-is [] (suc i) = refl
syncs-is (line ∷ rows) zero = refl
syncs-is (line ∷ rows) (suc i) = syncs-is rows i

pub children-is : (rows : List Line) (i : ℕ) → children_in rows i ≡ (line_at rows i).children
children-is [] zero = refl
children-is [] (suc i) = refl
children-is (line ∷ rows) zero = refl
children-is (line ∷ rows) (suc i) = children-is rows i

pub blocks-is : (rows : List Line) (i : ℕ) → blocks_by (slice_get rows i) ≡ (line_at rows i).blocks
blocks-is [] zero = refl
blocks-is [] (suc i) = refl
blocks-is (line ∷ rows) zero = refl
blocks-is (line ∷ rows) (suc i) = blocks-is rows i

-- the blocks that are kept are those of the events
module _ (program : Labelled) (up : ℕ → Path) (count : ℕ) (events : List Event) (rows : List Line) (tells : TellsLines program up count events rows) where
  pub path-told : (i : ℕ) → i < count → path_in rows i ≡ up i
  path-told i h = path-is rows i ∙ (tells.each i h).named

  past : (i : ℕ) → count ≤ i → path_in rows i ≡ []
  past i high = let entries = tells.entries in path-is rows i ∙ ap (λ (line : Line). line.path) (get_or_past rows i no_line (omega (arith, high, entries)))

  block-at : (i at : ℕ) → (i < count) ⊎ (count ≤ i) → at < length (path_in rows i)
      → block_in rows i at ≡ block_of program events (take (suc at) (path_in rows i))
  block-at i at (inl h) low =
      let way = path-told i h in
      let size : length (path_in rows i) ≡ length (up i) = ap length way in
      let along = (tells.each i h).along at (omega (arith, low, size)) in
      ap (λ bs. slice_index_or bs at 0) (blocks-is rows i) ∙ along.block ∙ ap (λ p. block_of program events (take (suc at) p)) (sym way)
  block-at i at (inr high) low =
      let size : length (path_in rows i) ≡ 0 = ap length (past i high) in
      absurd (omega (arith, low, size))

  pub blocked : Blocked program events rows
  blocked = record {
    along = λ i at low. block-at i at (cases_lt i count) low;
    root = block-none program [] events tells.root;
  }

-- accesses that were kept are as they were, where the paths of their instances are
module _ (rows now : List Line) (count : ℕ) (same : (i : ℕ) → i < count → path_in now i ≡ path_in rows i) where
  touch-same : (t : kept.Touch) → KnowsTouch count t → touch_of now t ≡ touch_of rows t
  touch-same t k =
      let taking = map-same (path_in rows) (path_in now) count same t.placed.taking k.placed.taking in
      λ j. record {
        choice = t.choice;
        placed = record { path = same t.placed.place k.placed.place j; taking = taking j; syncs = t.placed.syncs; children = t.placed.children };
        n = t.n;
        access = access_of (same t.own k.own j) t.access;
        locks = t.locks.items;
        procedure = t.procedure;
      }

  pub touches-same : (touches : List kept.Touch) → All (KnowsTouch count) touches → paired.touches_of now touches ≡ paired.touches_of rows touches
  touches-same [] all = refl
  touches-same (t ∷ touches) all =
      let first = touch-same t (All-head (KnowsTouch count) t touches all) in
      let others = touches-same touches (All-tail (KnowsTouch count) t touches all) in
      λ j. first j ∷ others j

pub known_push : (count : ℕ) (old : List kept.Touch) (t : kept.Touch) → All (KnowsTouch count) old → t.own < count → ArePlaced count t.placed
    → All (KnowsTouch count) (old ++ t ∷ [])
known_push count old t all own placed = All-push (KnowsTouch count) old t all (record { own = own; placed = placed })

-- one access more of a step
pub kept-more : (f : List Line → Access → Touch) (xs all : List Access) (i : ℕ) (d : Access) (old mid now : List kept.Touch) → xs ≡ all → i < length xs
    → ((rows : List Line) → paired.touches_of rows mid ≡ paired.touches_of rows old ++ map (f rows) (take i all))
    → ((rows : List Line) → paired.touches_of rows now ≡ paired.touches_of rows mid ++ f rows (slice_index_or xs i d) ∷ [])
    → (rows : List Line) → paired.touches_of rows now ≡ paired.touches_of rows old ++ map (f rows) (take (i + 1) all)
kept-more f xs all i d old mid now same low before more rows =
    let one : Access = slice_index_or xs i d in
    let next : i + 1 ≡ suc i = omega arith in
    let longer : take (i + 1) all ≡ take i all ++ one ∷ [] =
    ap (λ (ys : List Access). take (i + 1) ys) (sym same) ∙ ap (λ n. take n xs) next
    ∙ take-suc xs i d low ∙ ap (λ (ys : List Access). take i ys ++ one ∷ []) same
    in
    more rows ∙ ap (λ (ys : List Touch). ys ++ f rows one ∷ []) (before rows)
    ∙ append_assoc (paired.touches_of rows old) (map (f rows) (take i all)) (f rows one ∷ [])
    ∙ ap (λ (ys : List Touch). paired.touches_of rows old ++ ys) (sym (ap (map (f rows)) longer ∙ map-append (f rows) (take i all) (one ∷ [])))

pub known-more : (count more : ℕ) → count ≤ more → (touches : List kept.Touch) → All (KnowsTouch count) touches → All (KnowsTouch more) touches
known-more count more grows touches all i d low =
    let k = all i d low in
    let own = k.own in
    let place = k.placed.place in
    record {
      own = omega (arith, own, grows);
      placed = record { place = omega (arith, place, grows); taking = there-more count more grows _ k.placed.taking };
    }

-- the accesses of a step
pub touches-by : (rows : List Line) (k own n : ℕ) (placed : coded.Placed) (locks : List ℕ) (procedure : ℕ) (at : Placed) (path : Path)
    → placed_of rows placed ≡ at
    → path_in rows own ≡ path → (accesses : List Access)
    → map (touch_by rows k own placed n locks procedure) accesses ≡ map (touch k at n locks procedure) (map (access_of path) accesses)
touches-by rows k own n placed locks procedure at path placed_is path_is [] = refl
touches-by rows k own n placed locks procedure at path placed_is path_is (a ∷ accesses) =
    let others = touches-by rows k own n placed locks procedure at path placed_is path_is accesses in
    λ j. touch k (placed_is j) n locks procedure (access_of (path_is j) a) ∷ others j

-- those of one choice more
module _ (program : Labelled) (choice : Choice) where
  -- what a choice touches, in front of what others do
  abbrev Pushed : Standing → List Event → ℕ → List Choice → Position → Type 0
  Pushed at before k choices end =
      touches_from program at before k (choices ++ choice ∷ [])
      ≡ touches_from program at before k choices ++ touches_at program end.standing end.events (suc (k + length choices)) choice

  from-next : (at : Standing) (before behind : List Event) (k : ℕ) (c : Choice) (choices : List Choice) (end : Position)
      → Pushed (next_of program at c) behind (suc k) choices end
      → touches_at program at before (suc k) c ++ touches_from program (next_of program at c) behind (suc k) (choices ++ choice ∷ [])
      ≡ (touches_at program at before (suc k) c ++ touches_from program (next_of program at c) behind (suc k) choices)
      ++ touches_at program end.standing end.events (suc (k + suc (length choices))) choice
  from-next at before behind k c choices end pushed =
      let first : List Touch = touches_at program at before (suc k) c in
      let others : List Touch = touches_from program (next_of program at c) behind (suc k) choices in
      let number : suc k + length choices ≡ k + suc (length choices) = omega arith in
      ap (λ xs. first ++ xs) (pushed ∙ ap (λ x. others ++ touches_at program end.standing end.events (suc x) choice) number)
      ∙ sym (append_assoc first others (touches_at program end.standing end.events (suc (k + suc (length choices))) choice))

  from-push : (at : Standing) (before : List Event) (k : ℕ) (choices : List Choice) (end : Position) → after_from program at before choices ≡ Some end
      → Pushed at before k choices end
  from-push at before k [] end h =
      let is : record { standing = at; events = before } ≡ end = cc in
      let zero_more : k ≡ k + 0 = omega arith in
      append-nil (touches_at program at before (suc k) choice) ∙ (λ j. touches_at program (is j).standing (is j).events (suc (zero_more j)) choice)
  from-push at before k (c ∷ choices) end h =
      by (is_none (refusal_of program at c)) h (from-push (next_of program at c) (before ++ event_of program at c ∷ []) (suc k) choices end)
    where
      by : (b : Bool) → (if b then after_from program (next_of program at c) (before ++ event_of program at c ∷ []) choices else None) ≡ Some end
          → (after_from program (next_of program at c) (before ++ event_of program at c ∷ []) choices ≡ Some end
          → Pushed (next_of program at c) (before ++ event_of program at c ∷ []) (suc k) choices end)
          → Pushed at before k (c ∷ choices) end
      by true e rest = from-next at before (before ++ event_of program at c ∷ []) k c choices end (rest e)
      by false e rest = cc

  pub touches-push : (n main : ℕ) (choices : List Choice) (end : Position) → program.main ≡ Some main → after program n choices ≡ Some end
      → touches_of program main n (choices ++ choice ∷ [])
      ≡ touches_of program main n choices ++ touches_at program end.standing end.events (suc (length choices)) choice
  touches-push n main choices end start led = by (is_crew n) (ap (λ o. after_main program n o choices) (sym start) ∙ led)
    where
      by : (b : Bool) → (if b then after_from program (opening program main n) [] choices else None) ≡ Some end
          → touches_of program main n (choices ++ choice ∷ [])
          ≡ touches_of program main n choices ++ touches_at program end.standing end.events (suc (length choices)) choice
      by true e =
          let number : 0 + length choices ≡ length choices = omega arith in
          from-push (opening program main n) [] 0 choices end e
          ∙ ap (λ x. touches_of program main n choices ++ touches_at program end.standing end.events (suc x) choice) number
      by false e = cc
