-- What is kept of the instances, where a child is born.
use Rattle.std.proofs.Common.{◌≡◌, ◌<◌, ◌≤◌, ◌+◌, ◌^◌, ◌⊎◌, ℕ, suc, Bool, true, false, ◌||◌, nat_eq, cond, if◌then◌else◌, List, [], ◌∷◌, ◌++◌}
use Rattle.std.proofs.Common.{length, take, refl, sym, ap, ◌∙◌, subst, arith, inl, inr, slice_set, length-set, take_all}
use Rattle.std.proofs.lemmas.Bool.{cases_eq, cases_lt, ne_eqb, lt-ltb, false_from_ne_true, or_right}
use Rattle.std.proofs.lemmas.List.{get_or_append_left, get_or_push, length_push, take-append-le}
use Rattle.std.proofs.lemmas.List.Sums.{count_by-le-length}
use Rattle.cilk_log_replay.specs.machine.labelled.Labelled.{Labelled}
use Rattle.cilk_log_replay.specs.machine.model.Event.{Event, spawned}
use Rattle.cilk_log_replay.specs.machine.model.Path.{Path, same_path}
use Rattle.cilk_races.specs.Inside.{parent_path}
use Rattle.cilk_log_replay.proofs.machine_laws.spawn_laws.Paths.{same_is, same_self}
use Rattle.cilk_races.specs.Kept.{is_birth, is_born}
use Rattle.cilk_races.specs.Line.{Line, no_line}
use Rattle.cilk_races.specs.Order.{bears, block_of, children_of, syncs_of}
use Rattle.cilk_races.proofs.Pushed.{syncs-more, children-more, born-more, block-new}
use Rattle.cilk_races.specs.Noted.{bore, bore_at, child_of, line_at, next}
use Rattle.cilk_races.specs.Watched.{Along, IsUntold, TellsLines, TellsLine}
use Rattle.cilk_races.proofs.Rowed.{along-more, line-set, next-if, plus-none, still, unmade-before, untold}

module _ (program : Labelled) (events : List Event) (up now : ℕ → Path) (count after : ℕ) (rows : List Line) (tells : TellsLines program up count events rows)
    (same : (i : ℕ) → i < count → now i ≡ up i) (few : length events < 2 ^ 60) (place : ℕ) (there : place < count)
    (c : Path) (n : ℕ) (size : after ≡ suc count) (last : now count ≡ c)
    (is : c ≡ up place ++ suc (children_of events (up place)) ∷ []) (parent : parent_path c ≡ up place)
    (new : (i : ℕ) → i < count → same_path (up i) c ≡ false) (apart : (i : ℕ) → i < count → same_path (up place) (up i) ≡ nat_eq i place) where
  abbrev e : Event
  e = spawned c n

  abbrev more : List Event
  more = events ++ e ∷ []

  grows : count ≤ after
  grows = omega (arith, size)

  abbrev own : Line
  own = line_at rows place

  known : TellsLine program events (up place) own
  known = tells.each place there

  unborn : IsUntold program events c
  unborn = tells.unmade c new

  long : length c ≡ length (up place) + 1
  long = ap length is ∙ length_push (up place) (suc (children_of events (up place)))

  child-along : (at : ℕ) → at < length c → (at < length (up place)) ⊎ (length (up place) ≤ at) → Along program more c (own.blocks ++ own.syncs ∷ []) at
  child-along at low (inl h) =
      let way : take (suc at) c ≡ take (suc at) (up place) =
      ap (take (suc at)) is ∙ take-append-le (suc at) (up place) (suc (children_of events (up place)) ∷ []) (omega (arith, h))
      in
      let before = along-more program events e (up place) own.blocks at (known.along at h) in
      let blocks = known.size in
      record {
        born = ap (is_born more) way ∙ before.born;
        block = get_or_append_left own.blocks (own.syncs ∷ []) 0 at (omega (arith, h, blocks)) ∙ before.block ∙ ap (block_of program more) (sym way);
      }
  child-along at low (inr h) =
      let size_is = long in
      let blocks = known.size in
      let whole : take (suc at) c ≡ c = take_all (suc at) c (omega (arith, h, size_is)) in
      record {
        born = ap (is_born more) whole ∙ born-more events e c ∙ or_right (is_born events c) (same_path c c) (same_self c c refl);
        block = get_or_push own.blocks own.syncs 0 at (omega (arith, h, low, size_is, blocks)) ∙ known.syncs ∙ ap (syncs_of program events) (sym parent)
            ∙ sym (block-new program c events c n unborn.born (same_self c c refl)) ∙ ap (block_of program more) (sym whole);
      }

  bare : bears c e ≡ false
  bare = ap (λ q. same_path q c) parent ∙ new place there

  children-few : (i : ℕ) → i < count → (line_at rows i).children < 2 ^ 60
  children-few i h =
      let k = (tells.each i h).children in
      let low = count_by-le-length (bears (up i)) events in
      omega (arith, k, low, few)

  named-so : (child_of own).path ≡ c
  named-so =
      let few_there = children-few place there in
      let children = known.children in
      let count : next own.children ≡ suc (children_of events (up place)) =
      next-if own.children true few_there ∙ omega (arith, children)
      in
      (λ j. known.named j ++ count j ∷ []) ∙ sym is

  child-told : TellsLine program more c (child_of own)
  child-told =
      let blocks = known.size in
      let size_is = long in
      record {
        named = named-so;
        size = length_push own.blocks own.syncs ∙ omega (arith, blocks, size_is);
        along = λ at low. child-along at low (cases_lt at (length (up place)));
        syncs = sym (syncs-more program events e c ∙ ap (λ x. x + 0) unborn.syncs);
        children = sym (children-more events e c ∙ (λ j. unborn.children j + cond (bare j) 1 0));
      }

  within : place < length rows
  within = let entries = tells.entries in omega (arith, there, entries)

  abbrev set : List Line
  set = slice_set rows place (bore own)

  bore-is : bore_at place rows ≡ set ++ child_of own ∷ []
  bore-is = ap (λ b. if b then set ++ child_of own ∷ [] else rows) (lt-ltb place (length rows) within)

  set-size : length set ≡ count
  set-size = length-set rows place (bore own) ∙ tells.entries

  if-here : (i : ℕ) → (i ≡ place) ⊎ (i ≡ place → ⊥)
      → (if nat_eq i place then bore own else line_at rows i) ≡ (if nat_eq i place then bore (line_at rows i) else line_at rows i)
  if-here i (inl at) = ap (λ k. if nat_eq i place then bore (line_at rows k) else line_at rows i) (sym at)
  if-here i (inr ne) =
      (λ j. if ne_eqb i place ne j then bore own else line_at rows i)
      ∙ sym (λ j. if ne_eqb i place ne j then bore (line_at rows i) else line_at rows i)

  there-is : (i : ℕ) → i < count → line_at (bore_at place rows) i ≡ (if nat_eq i place then bore (line_at rows i) else line_at rows i)
  there-is i h =
      let entries = tells.entries in
      let size_is = set-size in
      ap (λ xs. line_at xs i) bore-is ∙ get_or_append_left set (child_of own ∷ []) no_line i (omega (arith, h, size_is))
      ∙ line-set rows place i (bore own) (omega (arith, h, entries)) ∙ if-here i (cases_eq i place)

  last-is : line_at (bore_at place rows) count ≡ child_of own
  last-is = ap (λ xs. line_at xs count) bore-is ∙ get_or_push set (child_of own) no_line count set-size

  bore-path : (b : Bool) (line : Line) → (if b then bore line else line).path ≡ line.path
  bore-path true line = refl
  bore-path false line = refl

  bore-blocks : (b : Bool) (line : Line) → (if b then bore line else line).blocks ≡ line.blocks
  bore-blocks true line = refl
  bore-blocks false line = refl

  bore-syncs : (b : Bool) (line : Line) → (if b then bore line else line).syncs ≡ line.syncs + 0
  bore-syncs true line = omega arith
  bore-syncs false line = omega arith

  bore-children : (b : Bool) (line : Line) → line.children < 2 ^ 60 → (if b then bore line else line).children ≡ line.children + cond b 1 0
  bore-children true line h = next-if line.children true h
  bore-children false line h = plus-none line.children false refl

  bearing : (i : ℕ) → i < count → bears (up i) e ≡ nat_eq i place
  bearing i h = ap (λ q. same_path q (up i)) parent ∙ apart i h

  each-at : (i : ℕ) → i < after → (i < count) ⊎ (count ≤ i) → TellsLine program more (now i) (line_at (bore_at place rows) i)
  each-at i h (inl low) =
      let b : Bool = nat_eq i place in
      let line : Line = line_at rows i in
      subst (λ q. TellsLine program more q (line_at (bore_at place rows) i)) (sym (same i low))
      (subst (TellsLine program more (up i)) (sym (there-is i low))
      (still program events e (up i) line (if b then bore line else line) (tells.each i low) (bore-path b line) (bore-blocks b line) (bore-syncs b line)
      (bore-children b line (children-few i low) ∙ ap (λ x. line.children + cond x 1 0) (sym (bearing i low)))))
  each-at i h (inr high) =
      let at : i ≡ count = omega (arith, h, high, size) in
      subst (λ k. TellsLine program more (now k) (line_at (bore_at place rows) k)) (sym at)
      (subst (λ q. TellsLine program more q (line_at (bore_at place rows) count)) (sym last)
      (subst (TellsLine program more c) (sym last-is) child-told))

  not-root : is_birth [] e ≡ false
  not-root =
      let size_is = long in
      false_from_ne_true (same_path c []) (λ h. let none : length c ≡ 0 = ap length (same_is c [] h) in omega (arith, none, size_is))

  pub born : TellsLines program now after more (bore_at place rows)
  born =
      let size_is = set-size in
      record {
        entries = ap length bore-is ∙ length_push set (child_of own) ∙ omega (arith, size_is, size);
        each = λ i h. each-at i h (cases_lt i count);
        unmade = λ p none.
            let before = unmade-before program events e up now count after rows tells same grows p none in
            untold program events e p (tells.unmade p before) refl (ap (λ q. same_path q p) parent ∙ before place there)
            (ap (λ q. same_path q p) (sym last) ∙ none count (omega (arith, size)));
        root = born-more events e [] ∙ (λ j. tells.root j || not-root j);
      }
