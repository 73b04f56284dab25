-- What is kept of the instances, one event more.
use Rattle.std.proofs.Common.{◌≡◌, ◌<◌, ◌≤◌, ◌+◌, ◌^◌, ◌⊎◌, ℕ, suc, Bool, true, false, ◌||◌, nat_eq, cond, if◌then◌else◌, List, []}
use Rattle.std.proofs.Common.{◌∷◌, ◌++◌}
use Rattle.std.proofs.Common.{length, take, refl, sym, ap, ◌∙◌, subst, arith, inl, inr, slice_set, length-set, get_or-set_same}
use Rattle.std.proofs.Common.{get_or-set_other}
use Rattle.std.proofs.lemmas.Bool.{cases_eq, eq-eqb, ne_eqb, lt-ltb}
use Rattle.std.proofs.lemmas.List.Sums.{count_by-le-length}
use Rattle.cilk_races.specs.CellsKept.{IsUnmade}
use Rattle.cilk_log_replay.specs.machine.labelled.Labelled.{Labelled}
use Rattle.cilk_log_replay.specs.machine.model.Event.{Event}
use Rattle.cilk_log_replay.specs.machine.model.Path.{Path, same_path}
use Rattle.cilk_races.specs.Kept.{is_birth}
use Rattle.cilk_races.specs.Line.{Line, no_line}
use Rattle.cilk_races.specs.Order.{passes, bears}
use Rattle.cilk_races.proofs.Pushed.{syncs-more, children-more, born-more, block-old}
use Rattle.cilk_races.specs.Noted.{line_at, next, passed, passed_at}
use Rattle.cilk_races.specs.Watched.{Along, IsUntold, TellsLines, TellsLine}

pub plus-none : (n : ℕ) (b : Bool) → b ≡ false → n ≡ n + cond b 1 0
plus-none n true e = cc
plus-none n false e = omega arith

pub next-if : (n : ℕ) (b : Bool) → n < 2 ^ 60 → (if b then next n else n) ≡ n + cond b 1 0
next-if n true h = omega (arith, h)
next-if n false h = omega arith

-- what is kept of one, changed in place
pub line-set : (rows : List Line) (k i : ℕ) (line : Line) → i < length rows
    → line_at (slice_set rows k line) i ≡ (if nat_eq i k then line else line_at rows i)
line-set rows k i line h = by (cases_eq i k)
  where
    by : (i ≡ k) ⊎ (i ≡ k → ⊥) → line_at (slice_set rows k line) i ≡ (if nat_eq i k then line else line_at rows i)
    by (inl e) =
        subst (λ n. line_at (slice_set rows n line) i ≡ line) e (get_or-set_same rows i line no_line h)
        ∙ sym (ap (λ b. if b then line else line_at rows i) (eq-eqb i k e))
    by (inr ne) =
        get_or-set_other rows k i line no_line ne ∙ sym (ap (λ b. if b then line else line_at rows i) (ne_eqb i k ne))

module _ (program : Labelled) (events : List Event) (e : Event) where
  abbrev more : List Event
  more = events ++ e ∷ []

  pub along-more : (path : Path) (blocks : List ℕ) (at : ℕ) → Along program events path blocks at → Along program more path blocks at
  along-more path blocks at a = record {
    born = born-more events e (take (suc at) path) ∙ ap (λ b. b || is_birth (take (suc at) path) e) a.born;
    block = a.block ∙ sym (block-old program (take (suc at) path) events e a.born);
  }

  -- of an instance that was there
  pub still : (path : Path) (old line : Line) → TellsLine program events path old → line.path ≡ old.path → line.blocks ≡ old.blocks
      → line.syncs ≡ old.syncs + cond (passes program path e) 1 0 → line.children ≡ old.children + cond (bears path e) 1 0
      → TellsLine program more path line
  still path old line k named blocks syncs children = record {
    named = named ∙ k.named;
    size = ap length blocks ∙ k.size;
    along = λ at low. subst (λ bs. Along program more path bs at) (sym blocks) (along-more path old.blocks at (k.along at low));
    syncs = syncs ∙ ap (λ n. n + cond (passes program path e) 1 0) k.syncs ∙ sym (syncs-more program events e path);
    children = children ∙ ap (λ n. n + cond (bears path e) 1 0) k.children ∙ sym (children-more events e path);
  }

  pub untold : (p : Path) → IsUntold program events p → passes program p e ≡ false → bears p e ≡ false → is_birth p e ≡ false → IsUntold program more p
  untold p u passed born birth = record {
    born = born-more events e p ∙ (λ j. u.born j || birth j);
    syncs = syncs-more program events e p ∙ (λ j. u.syncs j + cond (passed j) 1 0);
    children = children-more events e p ∙ (λ j. u.children j + cond (born j) 1 0);
  }

  module _ (up now : ℕ → Path) (count after : ℕ) (rows : List Line) (tells : TellsLines program up count events rows)
      (same : (i : ℕ) → i < count → now i ≡ up i) (grows : count ≤ after) where
    pub unmade-before : (p : Path) → IsUnmade now after p → IsUnmade up count p
    unmade-before p none i h = ap (λ q. same_path q p) (sym (same i h)) ∙ none i (omega (arith, h, grows))

    -- one that no instance is told of
    pub quiet : after ≡ count → ((p : Path) → passes program p e ≡ false) → ((p : Path) → bears p e ≡ false) → ((p : Path) → is_birth p e ≡ false)
        → TellsLines program now after more rows
    quiet size none bare birth = record {
      entries = tells.entries ∙ sym size;
      each = λ i h.
          let low : i < count = omega (arith, h, size) in
          let line : Line = line_at rows i in
          subst (λ q. TellsLine program more q line) (sym (same i low))
          (still (up i) line line (tells.each i low) refl refl (plus-none line.syncs (passes program (up i) e) (none (up i)))
          (plus-none line.children (bears (up i) e) (bare (up i))));
      unmade = λ p none_there. untold p (tells.unmade p (unmade-before p none_there)) (none p) (bare p) (birth p);
      root = born-more events e [] ∙ (λ j. tells.root j || birth [] j);
    }

    module _ (few : length events < 2 ^ 60) (place : ℕ) (there : place < count) where
      syncs-few : (i : ℕ) → i < count → (line_at rows i).syncs < 2 ^ 60
      syncs-few i h =
          let k = (tells.each i h).syncs in
          let low = count_by-le-length (passes program (up i)) events in
          omega (arith, k, low, few)

      children-few : (i : ℕ) → i < count → (line_at rows i).children < 2 ^ 60
      children-few i h =
          let k = (tells.each i h).children in
          let low = count_by-le-length (bears (up i)) events in
          omega (arith, k, low, few)

      within : place < length rows
      within = let entries = tells.entries in omega (arith, there, entries)

      -- a `sync` of the instance at a place
      passed-line : (b : Bool) (line : Line) → line.syncs < 2 ^ 60
          → (if b then passed line else line).syncs ≡ line.syncs + cond b 1 0
      passed-line true line h = next-if line.syncs true h
      passed-line false line h = plus-none line.syncs false refl

      passed-path : (b : Bool) (line : Line) → (if b then passed line else line).path ≡ line.path
      passed-path true line = refl
      passed-path false line = refl

      passed-blocks : (b : Bool) (line : Line) → (if b then passed line else line).blocks ≡ line.blocks
      passed-blocks true line = refl
      passed-blocks false line = refl

      passed-children : (b : Bool) (line : Line) → (if b then passed line else line).children ≡ line.children
      passed-children true line = refl
      passed-children false line = refl

      if-there : (i k : ℕ) → (if nat_eq i k then passed (line_at rows k) else line_at rows i) ≡ (if nat_eq i k then passed (line_at rows i) else line_at rows i)
      if-there i k = by (cases_eq i k)
        where
          by : (i ≡ k) ⊎ (i ≡ k → ⊥)
              → (if nat_eq i k then passed (line_at rows k) else line_at rows i) ≡ (if nat_eq i k then passed (line_at rows i) else line_at rows i)
          by (inl is) = ap (λ n. if nat_eq i k then passed (line_at rows n) else line_at rows i) (sym is)
          by (inr ne) =
              (λ j. if ne_eqb i k ne j then passed (line_at rows k) else line_at rows i)
              ∙ sym (λ j. if ne_eqb i k ne j then passed (line_at rows i) else line_at rows i)

      passed-at-is : passed_at place rows ≡ slice_set rows place (passed (line_at rows place))
      passed-at-is = ap (λ b. if b then slice_set rows place (passed (line_at rows place)) else rows) (lt-ltb place (length rows) within)

      passed-there : (i : ℕ) → i < count → line_at (passed_at place rows) i ≡ (if nat_eq i place then passed (line_at rows i) else line_at rows i)
      passed-there i h =
          let entries = tells.entries in
          ap (λ xs. line_at xs i) passed-at-is ∙ line-set rows place i (passed (line_at rows place)) (omega (arith, h, entries)) ∙ if-there i place

      passed-size : length (passed_at place rows) ≡ length rows
      passed-size = ap length passed-at-is ∙ length-set rows place (passed (line_at rows place))

      pub sync-passed : after ≡ count → ((i : ℕ) → i < count → passes program (up i) e ≡ nat_eq i place)
          → ((p : Path) → IsUnmade up count p → passes program p e ≡ false) → ((p : Path) → bears p e ≡ false) → ((p : Path) → is_birth p e ≡ false)
          → TellsLines program now after more (passed_at place rows)
      sync-passed size passing none bare birth = record {
        entries = passed-size ∙ tells.entries ∙ sym size;
        each = λ i h.
            let low : i < count = omega (arith, h, size) in
            let b : Bool = nat_eq i place in
            let line : Line = line_at rows i in
            subst (λ q. TellsLine program more q (line_at (passed_at place rows) i)) (sym (same i low))
            (subst (TellsLine program more (up i)) (sym (passed-there i low))
            (still (up i) line (if b then passed line else line) (tells.each i low) (passed-path b line) (passed-blocks b line)
            (passed-line b line (syncs-few i low) ∙ ap (λ x. line.syncs + cond x 1 0) (sym (passing i low)))
            (passed-children b line ∙ plus-none line.children (bears (up i) e) (bare (up i)))));
        unmade = λ p none_there.
            untold p (tells.unmade p (unmade-before p none_there)) (none p (unmade-before p none_there)) (bare p) (birth p);
        root = born-more events e [] ∙ (λ j. tells.root j || birth [] j);
      }
