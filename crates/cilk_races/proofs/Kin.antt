-- What is kept of the instances by their parents, where one is changed and where one more is kept.
use Rattle.std.proofs.Common.{◌≡◌, ◌<◌, ◌≤◌, ◌+◌, ◌⊎◌, ℕ, zero, suc, if◌then◌else◌, List, [], ◌∷◌, ◌++◌, length}
use Rattle.std.proofs.Common.{refl, sym, ap, subst, ◌∙◌, arith, inl, inr, slice_set, length-set, get_or-set_same, get_or-set_other}
use Rattle.std.specs.Prelude.{nat_lt}
use Rattle.std.proofs.lemmas.Bool.{cases_eq, cases_lt, lt-ltb, le-ltb}
use Rattle.std.proofs.lemmas.List.{ext_get_or, get_or_append_left, get_or_past, get_or_push, length_push, set-append_left}
use Rattle.std.proofs.lemmas.List.FromFn.{get_or-map-range_with_len, length-map-range_with_len}
use Rattle.cilk_races.specs.declared.row.Row.{Row}
use Rattle.cilk_races.specs.Kept.{path_in}
use Rattle.cilk_races.specs.Line.{Line, no_line}
use Rattle.cilk_races.specs.Mixed.{mixed, mixed_all}
use Rattle.cilk_races.specs.Noted.{bore, bore_at, child_of, line_at, next, passed, passed_at}
use Rattle.cilk_races.specs.Ways.{AreKin, blocks_up, branch_of, lines_of, no_row, path_of, path_up, row_at}
use Rattle.cilk_races.proofs.Touched.{path-is}
use Rattle.cilk_races.proofs.Upwards.{mixed-push}

pub lines-size : (rows : List Row) → length (lines_of rows) ≡ length rows
lines-size rows = length-map-range_with_len (branch_of rows) 0 (length rows)

-- what stands where no instance is tells nothing
pub line-is : (rows : List Row) (i : ℕ) → line_at (lines_of rows) i ≡ branch_of rows i
line-is rows i = by (cases_lt i (length rows))
  where
    by : (i < length rows) ⊎ (length rows ≤ i) → line_at (lines_of rows) i ≡ branch_of rows i
    by (inl low) = get_or-map-range_with_len (branch_of rows) 0 (length rows) i i no_line low (omega arith)
    by (inr high) =
        let size = lines-size rows in
        let none : row_at rows i ≡ no_row = get_or_past rows i no_row high in
        get_or_past (lines_of rows) i no_line (omega (arith, high, size))
        ∙ sym (λ j. record {
          path = path_up rows (none j).depth i;
          blocks = blocks_up rows (none j).depth i;
          syncs = (none j).syncs;
          children = (none j).children;
        })

pub path-kept : (rows : List Row) (i : ℕ) → path_in (lines_of rows) i ≡ path_of rows i
path-kept rows i = path-is (lines_of rows) i ∙ ap (λ (line : Line). line.path) (line-is rows i)

-- another of the same parent, and the same child of it
pub record IsLike (a b : Row) : Type 0 where
  pub parent : b.parent ≡ a.parent
  pub depth : b.depth ≡ a.depth
  pub ordinal : b.ordinal ≡ a.ordinal
  pub block : b.block ≡ a.block
  pub hash : b.hash ≡ a.hash

module _ (old new : List Row) (kin : AreKin old) (like : (i : ℕ) → i < length old → IsLike (row_at old i) (row_at new i)) where
  path-same : (depth i : ℕ) → i < length old → path_up new depth i ≡ path_up old depth i
  path-same zero i h = refl
  path-same (suc depth) i h =
      let front = ap (path_up new depth) (like i h).parent ∙ path-same depth (row_at old i).parent (kin.parent i h) in
      λ j. front j ++ (like i h).ordinal j ∷ []

  blocks-same : (depth i : ℕ) → i < length old → blocks_up new depth i ≡ blocks_up old depth i
  blocks-same zero i h = refl
  blocks-same (suc depth) i h =
      let front = ap (blocks_up new depth) (like i h).parent ∙ blocks-same depth (row_at old i).parent (kin.parent i h) in
      λ j. front j ++ (like i h).block j ∷ []

  path-of-same : (i : ℕ) → i < length old → path_of new i ≡ path_of old i
  path-of-same i h = ap (λ d. path_up new d i) (like i h).depth ∙ path-same (row_at old i).depth i h

  -- all but what the instance itself did
  abbrev pub line_with : ℕ → Row → Line
  line_with i row = record { path = path_of old i; blocks = blocks_up old (row_at old i).depth i; syncs = row.syncs; children = row.children }

  line-like : (i : ℕ) → i < length old → branch_of new i ≡ line_with i (row_at new i)
  line-like i h =
      let path = path-of-same i h in
      let blocks = ap (λ d. blocks_up new d i) (like i h).depth ∙ blocks-same (row_at old i).depth i h in
      λ j. record { path = path j; blocks = blocks j; syncs = (row_at new i).syncs; children = (row_at new i).children }

  hash-like : (i : ℕ) → i < length old → (row_at new i).hash ≡ mixed_all 0 (path_of new i)
  hash-like i h = (like i h).hash ∙ kin.hash i h ∙ ap (mixed_all 0) (sym (path-of-same i h))

-- one is changed
module _ (old : List Row) (kin : AreKin old) (place : ℕ) (row : Row) (there : place < length old) (is_like : IsLike (row_at old place) row) where
  abbrev pub set : List Row
  set = slice_set old place row

  there-is : row_at set place ≡ row
  there-is = get_or-set_same old place row no_row there

  pub set-like : (i : ℕ) → i < length old → IsLike (row_at old i) (row_at set i)
  set-like i h = by (cases_eq i place)
    where
      by : (i ≡ place) ⊎ (i ≡ place → ⊥) → IsLike (row_at old i) (row_at set i)
      by (inl is) =
          subst (λ n. IsLike (row_at old n) (row_at set n)) (sym is) (subst (IsLike (row_at old place)) (sym there-is) is_like)
      by (inr other) =
          let same : row_at set i ≡ row_at old i = get_or-set_other old place i row no_row other in
          subst (IsLike (row_at old i)) (sym same) (record { parent = refl; depth = refl; ordinal = refl; block = refl; hash = refl })

  pub set-kin : AreKin set
  set-kin =
      let size = length-set old place row in
      record {
        parent = λ i h.
            let low : i < length old = omega (arith, h, size) in
            let same = (set-like i low).parent in
            let within = kin.parent i low in
            omega (arith, same, within, size);
        depth = λ i h.
            let low : i < length old = omega (arith, h, size) in
            let same = (set-like i low).depth in
            let within = kin.depth i low in
            omega (arith, same, within, size);
        hash = λ i h. hash-like old set kin set-like i (omega (arith, h, size));
      }

  abbrev pub changed : Line
  changed = line_with old set kin set-like place row

  pub set-lines : lines_of set ≡ slice_set (lines_of old) place changed
  set-lines =
      let size = lines-size set ∙ length-set old place row ∙ sym (lines-size old) ∙ sym (length-set (lines_of old) place changed) in
      ext_get_or no_line (lines_of set) (slice_set (lines_of old) place changed) size (λ i h. each i h (cases_eq i place))
    where
      each : (i : ℕ) → i < length (lines_of set) → (i ≡ place) ⊎ (i ≡ place → ⊥) → line_at (lines_of set) i ≡ line_at (slice_set (lines_of old) place changed) i
      each i h (inl is) =
          let size = lines-size old in
          ap (line_at (lines_of set)) is ∙ line-is set place ∙ line-like old set kin set-like place there
          ∙ ap (line_with old set kin set-like place) there-is
          ∙ sym (get_or-set_same (lines_of old) place changed no_line (omega (arith, there, size)))
          ∙ ap (line_at (slice_set (lines_of old) place changed)) (sym is)
      each i h (inr other) =
          let size = lines-size set ∙ length-set old place row in
          let low : i < length old = omega (arith, h, size) in
          line-is set i ∙ line-like old set kin set-like i low
          ∙ ap (line_with old set kin set-like i) (get_or-set_other old place i row no_row other)
          ∙ sym (line-is old i) ∙ sym (get_or-set_other (lines_of old) place i changed no_line other)

-- one more is kept, of one that was
module _ (old : List Row) (kin : AreKin old) (child : Row) (there : child.parent < length old) (deep : child.depth ≡ suc (row_at old child.parent).depth)
    (mixes : child.hash ≡ mixed (row_at old child.parent).hash child.ordinal) where
  abbrev pub more : List Row
  more = old ++ child ∷ []

  older : (i : ℕ) → i < length old → row_at more i ≡ row_at old i
  older i h = get_or_append_left old (child ∷ []) no_row i h

  newest : row_at more (length old) ≡ child
  newest = get_or_push old child no_row (length old) refl

  pub push-like : (i : ℕ) → i < length old → IsLike (row_at old i) (row_at more i)
  push-like i h =
      subst (IsLike (row_at old i)) (sym (older i h)) (record { parent = refl; depth = refl; ordinal = refl; block = refl; hash = refl })

  path-new : path_of more (length old) ≡ path_of old child.parent ++ child.ordinal ∷ []
  path-new =
      ap (λ d. path_up more d (length old)) (ap (λ (r : Row). r.depth) newest ∙ deep)
      ∙ ap (λ (r : Row). path_up more (row_at old child.parent).depth r.parent ++ r.ordinal ∷ []) newest
      ∙ ap (λ p. p ++ child.ordinal ∷ []) (path-same old more kin push-like (row_at old child.parent).depth child.parent there)

  blocks-new : blocks_up more (row_at more (length old)).depth (length old)
      ≡ blocks_up old (row_at old child.parent).depth child.parent ++ child.block ∷ []
  blocks-new =
      ap (λ d. blocks_up more d (length old)) (ap (λ (r : Row). r.depth) newest ∙ deep)
      ∙ ap (λ (r : Row). blocks_up more (row_at old child.parent).depth r.parent ++ r.block ∷ []) newest
      ∙ ap (λ p. p ++ child.block ∷ []) (blocks-same old more kin push-like (row_at old child.parent).depth child.parent there)

  pub push-kin : AreKin more
  push-kin =
      let size = length_push old child in
      record {
        parent = λ i h. parent-by i h (cases_lt i (length old));
        depth = λ i h. depth-by i h (cases_lt i (length old));
        hash = λ i h. hash-by i h (cases_lt i (length old));
      }
    where
      last : (i : ℕ) → i < length more → length old ≤ i → i ≡ length old
      last i h high = let size = length_push old child in omega (arith, h, high, size)

      parent-by : (i : ℕ) → i < length more → (i < length old) ⊎ (length old ≤ i) → (row_at more i).parent < length more
      parent-by i h (inl low) =
          let size = length_push old child in
          let same : (row_at more i).parent ≡ (row_at old i).parent = ap (λ (r : Row). r.parent) (older i low) in
          let within = kin.parent i low in
          omega (arith, same, within, size)
      parent-by i h (inr high) =
          let size = length_push old child in
          let same : (row_at more i).parent ≡ child.parent =
          ap (λ k. (row_at more k).parent) (last i h high) ∙ ap (λ (r : Row). r.parent) newest
          in
          omega (arith, same, there, size)

      depth-by : (i : ℕ) → i < length more → (i < length old) ⊎ (length old ≤ i) → (row_at more i).depth < length more
      depth-by i h (inl low) =
          let size = length_push old child in
          let same : (row_at more i).depth ≡ (row_at old i).depth = ap (λ (r : Row). r.depth) (older i low) in
          let within = kin.depth i low in
          omega (arith, same, within, size)
      depth-by i h (inr high) =
          let size = length_push old child in
          let same : (row_at more i).depth ≡ child.depth =
          ap (λ k. (row_at more k).depth) (last i h high) ∙ ap (λ (r : Row). r.depth) newest
          in
          let within = kin.depth child.parent there in
          omega (arith, same, deep, within, size)

      hash-by : (i : ℕ) → i < length more → (i < length old) ⊎ (length old ≤ i) → (row_at more i).hash ≡ mixed_all 0 (path_of more i)
      hash-by i h (inl low) = hash-like old more kin push-like i low
      hash-by i h (inr high) =
          subst (λ k. (row_at more k).hash ≡ mixed_all 0 (path_of more k)) (sym (last i h high))
          (ap (λ (r : Row). r.hash) newest ∙ mixes ∙ ap (λ x. mixed x child.ordinal) (kin.hash child.parent there)
          ∙ sym (mixed-push 0 (path_of old child.parent) child.ordinal) ∙ ap (mixed_all 0) (sym path-new))

  abbrev pub newborn : Line
  newborn = record {
    path = path_of old child.parent ++ child.ordinal ∷ [];
    blocks = blocks_up old (row_at old child.parent).depth child.parent ++ child.block ∷ [];
    syncs = child.syncs;
    children = child.children;
  }

  pub push-lines : lines_of more ≡ lines_of old ++ newborn ∷ []
  push-lines =
      let before = lines-size old in
      let size = lines-size more ∙ length_push old child ∙ ap (λ k. k + 1) (sym before) ∙ sym (length_push (lines_of old) newborn) in
      ext_get_or no_line (lines_of more) (lines_of old ++ newborn ∷ []) size (λ i h. each i h (cases_lt i (length old)))
    where
      each : (i : ℕ) → i < length (lines_of more) → (i < length old) ⊎ (length old ≤ i) → line_at (lines_of more) i ≡ line_at (lines_of old ++ newborn ∷ []) i
      each i h (inl low) =
          let before = lines-size old in
          line-is more i ∙ line-like old more kin push-like i low ∙ ap (line_with old more kin push-like i) (older i low) ∙ sym (line-is old i)
          ∙ sym (get_or_append_left (lines_of old) (newborn ∷ []) no_line i (omega (arith, low, before)))
      each i h (inr high) =
          let size = lines-size more ∙ length_push old child in
          let at : i ≡ length old = omega (arith, h, high, size) in
          ap (line_at (lines_of more)) at ∙ line-is more (length old)
          ∙ (λ j. record { path = path-new j; blocks = blocks-new j; syncs = (newest j).syncs; children = (newest j).children })
          ∙ sym (get_or_push (lines_of old) newborn no_line i (lines-size old ∙ sym at))

-- one passes a `sync`, and one spawns a child
module _ (rows : List Row) (lines : List Line) (is : lines_of rows ≡ lines) (kin : AreKin rows) (place : ℕ) (there : place < length rows) where
  abbrev own : Row
  own = row_at rows place

  there-too : place < length lines
  there-too = let size = ap length (sym is) ∙ lines-size rows in omega (arith, there, size)

  pub passed-view : (row : Row) → row ≡ record own { syncs = next own.syncs } → lines_of (slice_set rows place row) ≡ passed_at place lines
  passed-view row made =
      let like : IsLike own row =
      subst (IsLike own) (sym made) (record { parent = refl; depth = refl; ordinal = refl; block = refl; hash = refl })
      in
      let line : changed rows kin place row there like ≡ passed (line_at lines place) =
      (λ j. record {
        path = path_of rows place;
        blocks = blocks_up rows (row_at rows place).depth place;
        syncs = (made j).syncs;
        children = (made j).children;
      })
      ∙ ap passed (sym (line-is rows place) ∙ ap (λ ls. line_at ls place) is)
      in
      set-lines rows kin place row there like ∙ (λ j. slice_set (is j) place (line j))
      ∙ sym (ap (λ b. if b then slice_set lines place (passed (line_at lines place)) else lines) (lt-ltb place (length lines) there-too))

  abbrev pub child : Row
  child = record {
    parent = place;
    depth = own.depth + 1;
    ordinal = next own.children;
    block = own.syncs;
    syncs = 0;
    children = 0;
    hash = mixed own.hash (next own.children);
  }

  module _ (row : Row) (made : row ≡ record own { children = next own.children }) where
    deep : child.depth ≡ suc own.depth
    deep = omega arith

    abbrev longer : List Row
    longer = rows ++ child ∷ []

    longer-kin : AreKin longer
    longer-kin = push-kin rows kin child there deep refl

    longer-there : place < length longer
    longer-there = let size = length_push rows child in omega (arith, there, size)

    own-is : row_at longer place ≡ own
    own-is = get_or_append_left rows (child ∷ []) no_row place there

    row-like : IsLike (row_at longer place) row
    row-like =
        subst (λ (r : Row). IsLike r row) (sym own-is)
        (subst (IsLike own) (sym made) (record { parent = refl; depth = refl; ordinal = refl; block = refl; hash = refl }))

    pub bore-kin : AreKin (slice_set longer place row)
    bore-kin = set-kin longer longer-kin place row longer-there row-like

    newborn-is : newborn rows kin child there deep refl ≡ child_of (line_at lines place)
    newborn-is = ap child_of (sym (line-is rows place) ∙ ap (λ ls. line_at ls place) is)

    lines-now : lines_of longer ≡ lines ++ child_of (line_at lines place) ∷ []
    lines-now = push-lines rows kin child there deep refl ∙ (λ j. is j ++ newborn-is j ∷ [])

    line-now : changed longer longer-kin place row longer-there row-like ≡ bore (line_at lines place)
    line-now =
        (λ j. record {
          path = path_of longer place;
          blocks = blocks_up longer (row_at longer place).depth place;
          syncs = (made j).syncs;
          children = (made j).children;
        })
        ∙ (λ j. record {
          path = path_of longer place;
          blocks = blocks_up longer (row_at longer place).depth place;
          syncs = (sym own-is j).syncs;
          children = next (sym own-is j).children;
        })
        ∙ ap bore (sym (line-is longer place) ∙ ap (λ ls. line_at ls place) lines-now
        ∙ get_or_append_left lines (child_of (line_at lines place) ∷ []) no_line place there-too)

    pub bore-view : lines_of (slice_set longer place row) ≡ bore_at place lines
    bore-view =
        set-lines longer longer-kin place row longer-there row-like ∙ (λ j. slice_set (lines-now j) place (line-now j))
        ∙ set-append_left lines (child_of (line_at lines place) ∷ []) place (bore (line_at lines place)) there-too
        ∙ sym (ap (λ b. if b then slice_set lines place (bore (line_at lines place)) ++ child_of (line_at lines place) ∷ [] else lines)
        (lt-ltb place (length lines) there-too))

  -- as the code makes it
  module _ (got : Row) (it : got ≡ own) (children hash : ℕ) (count : children ≡ next got.children) (mixes : hash ≡ mixed got.hash children)
      (items : List Row) (pushed : items ≡ rows ++ record {
        parent = place;
        depth = got.depth + 1;
        ordinal = children;
        block = got.syncs;
        syncs = 0;
        children = 0;
        hash = hash;
      } ∷ []) where
    count-is : children ≡ next own.children
    count-is = count ∙ (λ j. next (it j).children)

    hash-is : hash ≡ mixed own.hash (next own.children)
    hash-is = mixes ∙ (λ j. mixed (it j).hash (count-is j))

    set-is : slice_set items place (record got { children = children }) ≡ slice_set (rows ++ child ∷ []) place (record own { children = next own.children })
    set-is =
        (λ j. slice_set (pushed j) place (record got { children = children }))
        ∙ (λ j. slice_set (rows ++ record {
          parent = place;
          depth = (it j).depth + 1;
          ordinal = count-is j;
          block = (it j).syncs;
          syncs = 0;
          children = 0;
          hash = hash-is j;
        } ∷ []) place (record (it j) { children = count-is j }))

    pub made-kin : AreKin (slice_set items place (record got { children = children }))
    made-kin = subst AreKin (sym set-is) (bore-kin (record own { children = next own.children }) refl)

    pub made-view : lines_of (slice_set items place (record got { children = children })) ≡ bore_at place lines
    made-view = ap lines_of set-is ∙ bore-view (record own { children = next own.children }) refl

-- where nothing is kept nothing is changed
pub else-same : (rows : List Row) (lines now : List Line) (place : ℕ) → lines_of rows ≡ lines → length rows ≤ place
    → lines ≡ (if nat_lt place (length lines) then now else lines)
else-same rows lines now place is high =
    let size = ap length (sym is) ∙ lines-size rows in
    sym (ap (λ b. if b then now else lines) (le-ltb place (length lines) (omega (arith, high, size))))
