-- What is asked of the instances that are kept by their parents, by the lines that contracts see.
use Rattle.std.proofs.Common.{◌≡◌, ◌<◌, ◌≤◌, ◌+◌, ◌-◌, ◌⊎◌, ℕ, Bool, false, if◌then◌else◌, List, length, take}
use Rattle.std.proofs.Common.{sym, ap, ◌∙◌, arith, inl, inr}
use Rattle.std.specs.Prelude.{slice_index_or}
use Rattle.std.proofs.lemmas.Bool.{cases_lt, ne_eqb}
use Rattle.std.proofs.lemmas.List.{get_or_past, length-take-le}
use Rattle.cilk_log_replay.specs.machine.model.Path.{same_path}
use Rattle.cilk_races.specs.declared.row.Row.{Row}
use Rattle.cilk_races.specs.Kept.{block_in, children_in, last_by, last_in, path_in, syncs_in}
use Rattle.cilk_races.specs.Line.{Line}
use Rattle.cilk_races.specs.Mixed.{mixed_all}
use Rattle.cilk_races.specs.Noted.{line_at}
use Rattle.cilk_races.specs.Ways.{AreKin, above, blocks_up, branch_of, lines_of, no_row, path_of, path_up, row_at}
use Rattle.cilk_races.proofs.Touched.{blocks-is, children-is, syncs-is}
use Rattle.cilk_races.proofs.Upwards.{block-at, blocks-size, number-at, path-size, take-way, unlike}
use Rattle.cilk_races.proofs.Kin.{line-is, path-kept}

module _ (rows : List Row) (lines : List Line) (is : lines_of rows ≡ lines) where
  pub path-view : (i : ℕ) → path_in lines i ≡ path_of rows i
  path-view i = ap (λ ls. path_in ls i) (sym is) ∙ path-kept rows i

  line-view : (i : ℕ) → line_at lines i ≡ branch_of rows i
  line-view i = ap (λ ls. line_at ls i) (sym is) ∙ line-is rows i

  blocks-view : (i at : ℕ) → block_in lines i at ≡ slice_index_or (blocks_up rows (row_at rows i).depth i) at 0
  blocks-view i at = ap (λ bs. slice_index_or bs at 0) (blocks-is lines i ∙ ap (λ (line : Line). line.blocks) (line-view i))

  module _ (i : ℕ) (row : Row) (it : row ≡ row_at rows i) where
    deep-is : row.depth ≡ (row_at rows i).depth
    deep-is = ap (λ (r : Row). r.depth) it

    pub depth-view : row.depth ≡ length (path_in lines i)
    depth-view = deep-is ∙ sym (path-size rows (row_at rows i).depth i) ∙ ap length (sym (path-view i))

    pub syncs-view : row.syncs ≡ syncs_in lines i
    syncs-view = ap (λ (r : Row). r.syncs) it ∙ sym (syncs-is lines i ∙ ap (λ (line : Line). line.syncs) (line-view i))

    pub children-view : row.children ≡ children_in lines i
    children-view = ap (λ (r : Row). r.children) it ∙ sym (children-is lines i ∙ ap (λ (line : Line). line.children) (line-view i))

    hash-by : AreKin rows → (i < length rows) ⊎ (length rows ≤ i) → (row_at rows i).hash ≡ mixed_all 0 (path_of rows i)
    hash-by kin (inl low) = kin.hash i low
    hash-by kin (inr high) =
        let none : row_at rows i ≡ no_row = get_or_past rows i no_row high in
        ap (λ (r : Row). r.hash) none ∙ ap (λ (r : Row). mixed_all 0 (path_up rows r.depth i)) (sym none)

    pub hash-view : AreKin rows → row.hash ≡ mixed_all 0 (path_in lines i)
    hash-view kin = ap (λ (r : Row). r.hash) it ∙ hash-by kin (cases_lt i (length rows)) ∙ ap (mixed_all 0) (sym (path-view i))

    -- the root has no block of its own
    pub last-root : row.depth ≡ 0 → 0 ≡ last_in lines i
    last-root root = ap (last_by lines i) (sym root ∙ depth-view)

    pub last-view : (row.depth ≡ 0 → ⊥) → row.block ≡ last_in lines i
    last-view below =
        let depth = depth-view in
        let size = deep-is in
        let here : 0 ≡ (row_at rows i).depth - (length (path_in lines i) - 1) - 1 = omega (arith, depth, size) in
        ap (λ (r : Row). r.block) it ∙ ap (λ d. (row_at rows (above rows d i)).block) here
        ∙ sym (block-at rows (row_at rows i).depth i (length (path_in lines i) - 1) (omega (arith, below, depth, size)))
        ∙ sym (blocks-view i (length (path_in lines i) - 1))
        ∙ sym (ap (λ b. if b then 0 else block_in lines i (length (path_in lines i) - 1))
        (ne_eqb (length (path_in lines i)) 0 (λ none. below (depth ∙ none))))

    -- what stands at a level of its path
    module _ (at place : ℕ) (found : Row) (up : place ≡ above rows (row.depth - at - 1) i) (there : found ≡ row_at rows place) where
      found-is : found ≡ row_at rows (above rows ((row_at rows i).depth - at - 1) i)
      found-is = there ∙ ap (row_at rows) (up ∙ ap (λ d. above rows (d - at - 1) i) deep-is)

      pub number-view : at < row.depth → found.ordinal ≡ slice_index_or (path_in lines i) at 0
      number-view low =
          let size = deep-is in
          ap (λ (r : Row). r.ordinal) found-is ∙ sym (number-at rows (row_at rows i).depth i at (omega (arith, low, size)))
          ∙ ap (λ p. slice_index_or p at 0) (sym (path-view i))

      pub block-view : at < row.depth → found.block ≡ block_in lines i at
      block-view low =
          let size = deep-is in
          ap (λ (r : Row). r.block) found-is ∙ sym (block-at rows (row_at rows i).depth i at (omega (arith, low, size)))
          ∙ sym (blocks-view i at)

    pub number-none : (at : ℕ) → row.depth ≤ at → 0 ≡ slice_index_or (path_in lines i) at 0
    number-none at high = let depth = depth-view in sym (get_or_past (path_in lines i) at 0 (omega (arith, high, depth)))

    pub block-none : (at : ℕ) → row.depth ≤ at → 0 ≡ block_in lines i at
    block-none at high =
        let size = blocks-size rows (row_at rows i).depth i in
        let depth = deep-is in
        sym (blocks-view i at ∙ get_or_past (blocks_up rows (row_at rows i).depth i) at 0 (omega (arith, high, size, depth)))

  -- whether a way leads to a child
  module _ (i child at : ℕ) (row long : Row) (it : row ≡ row_at rows i) (other : long ≡ row_at rows child) (within : at < length (path_in lines i)) where
    pub leads-deep : at < row.depth
    leads-deep = let depth = depth-view i row it in omega (arith, within, depth)

    pub leads-view : (place : ℕ) → place ≡ above rows (row.depth - long.depth) i → long.depth ≡ at + 1 → (same : Bool)
        → same ≡ same_path (path_up rows long.depth child) (path_up rows long.depth place)
        → same ≡ same_path (path_in lines child) (take (at + 1) (path_in lines i))
    leads-view place up level same told =
        let deep : row.depth ≡ (row_at rows i).depth = deep-is i row it in
        let reach = leads-deep in
        let front : take (at + 1) (path_in lines i) ≡ path_up rows long.depth place =
        (λ j. take (sym level j) (path-view i j)) ∙ take-way rows (row_at rows i).depth long.depth i (omega (arith, level, deep, reach))
        ∙ ap (path_up rows long.depth) (ap (λ d. above rows (d - long.depth) i) (sym deep) ∙ sym up)
        in
        let path : path_in lines child ≡ path_up rows long.depth child =
        path-view child ∙ ap (λ (r : Row). path_up rows r.depth child) (sym other)
        in
        told ∙ (λ j. same_path (sym path j) (sym front j))

    pub leads-else : (long.depth ≡ at + 1 → ⊥) → (same : Bool) → same ≡ false
        → same ≡ same_path (path_in lines child) (take (at + 1) (path_in lines i))
    leads-else differs same none =
        let size : length (take (at + 1) (path_in lines i)) ≡ at + 1 = length-take-le (at + 1) (path_in lines i) (omega (arith, within)) in
        let long_is = depth-view child long other in
        none ∙ sym (unlike (path_in lines child) (take (at + 1) (path_in lines i)) (λ same_size. differs (long_is ∙ same_size ∙ size)))
