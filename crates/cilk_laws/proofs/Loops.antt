-- Each `continue` of a text without faults stands in a loop, and each `break` in a loop or a `switch`, after it is labelled too.
use Rattle.std.proofs.Common.{◌≡◌, ℕ, ◌+◌, Bool, true, List, [], ◌∷◌, ◌++◌, length, Some, None, refl, sym, ap, ◌∙◌, arith}
use Rattle.std.specs.List.{Contains}
use Rattle.std.proofs.lemmas.Bool.{and_from}
use Rattle.std.proofs.lemmas.List.Elements.{Contains-append_left, Contains-append_right}
use Rattle.cilk_check.specs.syntax.Tree as tree
use Rattle.cilk_check.specs.scopes.declared.within.Within.{Within}
use Rattle.cilk_check.specs.scopes.Parts.{Around, Part, local, statement, PartInContext, inner, looped, switched, after_locals}
use Rattle.cilk_check.specs.scopes.Parts.{block_parts, locals_parts, stmts_parts, within_stmt}
use Rattle.cilk_check.proofs.FormBlocks.{still_within}
use Rattle.cilk_laws_model.specs.labelled.Labelled.{Stmts}
use Rattle.cilk_laws_model.specs.labelled.Names.{Names, with_local, local_count, entered}
use Rattle.cilk_laws_model.specs.labelled.Label.{locals_variables, names_behind, label_initialiser, label_local, label_locals, label_stmt}
use Rattle.cilk_laws_model.specs.labelled.Label.{label_stmts, label_block}
use Rattle.cilk_laws_model.specs.labelled.Count.{count_local, count_locals}
use Rattle.cilk_laws_model.specs.Loops.{stmt_fits, stmts_fit}

-- a `break` stands in a loop or a `switch`, and a `continue` in a loop
abbrev pub stands : Within → tree.Stmt → Bool
stands within (tree.break_at at) = within.in_loop_or_switch
stands within (tree.continue_at at) = within.in_loop
stands within other = true

abbrev pub part_stands : Within → Part → Bool
part_stands within (local what) = true
part_stands within (statement what) = stands within what

-- labelled statements fit where they stand
abbrev pub FitIn : Within → Stmts → Type 0
FitIn within stmts = stmts_fit within.in_loop_or_switch within.in_loop stmts ≡ true

-- each of these parts
abbrev pub Stand : List PartInContext → Type 0
Stand parts = (s : PartInContext) → Contains parts s → part_stands s.around.within s.part ≡ true

pub front : (xs ys : List PartInContext) → Stand (xs ++ ys) → Stand xs
front xs ys h s c = h s (Contains-append_left xs ys s c)

pub back : (xs ys : List PartInContext) → Stand (xs ++ ys) → Stand ys
back xs ys h s c = h s (Contains-append_right xs ys s c)

first : (x : PartInContext) (xs : List PartInContext) → Stand (x ∷ xs) → part_stands x.around.within x.part ≡ true
first x xs h = h x (0, omega arith, refl)

pub others : (x : PartInContext) (xs : List PartInContext) → Stand (x ∷ xs) → Stand xs
others x xs h = back (x ∷ []) xs h

initialiser_fits : (within : Within) (names : Names) (at : ℕ) (place : tree.Place) (shape : tree.Shape) (stmts : Stmts) → FitIn within stmts
    → FitIn within (label_initialiser names at place shape stmts)
initialiser_fits within names at place (tree.variable None) stmts h = h
initialiser_fits within names at place (tree.variable (Some value)) stmts h = h
initialiser_fits within names at place (tree.array n) stmts h = h

local_fits : (within : Within) (names : Names) (at : ℕ) (l : tree.Local) (stmts : Stmts) → FitIn within stmts
    → FitIn within (label_local names at l stmts)
local_fits within names at (tree.declared d) stmts h = initialiser_fits within names at (record { name = d.name; index = None }) d.shape stmts h
local_fits within names at (tree.inlet_at place name parameters body) stmts h = h

locals_fit : (within : Within) (names : Names) (at n : ℕ) (locals : tree.Locals) (stmts : Stmts) → FitIn within stmts
    → FitIn within (label_locals names at n locals stmts)
locals_fit within names at n tree.no_locals stmts h = h
locals_fit within names at n (tree.and_local l ls) stmts h =
    local_fits within (with_local names n l) at l _ (locals_fit within (with_local names n l) (at + count_local l) (n + local_count l) ls stmts h)

mutual
  label_stmt_fits : (a : Around) (names : Names) (at n : ℕ) (s : tree.Stmt) → stands a.within s ≡ true → Stand (within_stmt a s)
      → stmt_fits a.within.in_loop_or_switch a.within.in_loop (label_stmt names at n s) ≡ true
  label_stmt_fits a names at n (tree.move (tree.assign target value)) here h = refl
  label_stmt_fits a names at n (tree.move (tree.adjust place by)) here h = refl
  label_stmt_fits a names at n (tree.move (tree.call target callee arguments)) here h = refl
  label_stmt_fits a names at n (tree.spawn_at place taker callee arguments) here h = refl
  label_stmt_fits a names at n (tree.print format arguments) here h = refl
  label_stmt_fits a names at n (tree.locking what name) here h = refl
  label_stmt_fits a names at n tree.null here h = refl
  label_stmt_fits a names at n (tree.sync_at place) here h = refl
  label_stmt_fits a names at n (tree.abort_at place) here h = refl
  label_stmt_fits a names at n (tree.break_at place) here h = here
  label_stmt_fits a names at n (tree.continue_at place) here h = here
  label_stmt_fits a names at n (tree.return_at place None) here h = refl
  label_stmt_fits a names at n (tree.return_at place (Some value)) here h = refl
  label_stmt_fits a names at n (tree.when value body) here h =
      and_from (stmts_fit a.within.in_loop_or_switch a.within.in_loop (label_block (entered names) (at + 1) n body)) true
      (label_block_fits (inner a) (entered names) (at + 1) n body h) refl
  label_stmt_fits a names at n (tree.either value body other) here h =
      and_from (stmts_fit a.within.in_loop_or_switch a.within.in_loop (label_block (entered names) (at + 1) n body)) _
      (label_block_fits (inner a) (entered names) (at + 1) n body (front (block_parts (inner a) body) (block_parts (inner a) other) h))
      (label_block_fits (inner a) (entered names) _ _ other (back (block_parts (inner a) body) (block_parts (inner a) other) h))
  label_stmt_fits a names at n (tree.while value body) here h = label_block_fits (looped a) (entered names) (at + 1) n body h
  label_stmt_fits a names at n (tree.repeat body value) here h = label_block_fits (looped a) (entered names) at n body h
  label_stmt_fits a names at n (tree.loop begin value advance body) here h = label_block_fits (looped a) (entered names) _ n body h
  label_stmt_fits a names at n (tree.switch value body) here h = label_block_fits (switched a) (entered names) (at + 1) n body h
  label_stmt_fits a names at n (tree.labelled label) here h = refl
  label_stmt_fits a names at n (tree.nested inside) here h = label_block_fits (inner a) (entered names) at n inside h

  label_stmts_fit : (a : Around) (names : Names) (at n : ℕ) (ss : tree.Stmts) → Stand (stmts_parts a ss)
      → FitIn a.within (label_stmts names at n ss)
  label_stmts_fit a names at n tree.none h = refl
  label_stmts_fit a names at n (tree.also s ss) h =
      let here : PartInContext = record { around = a; part = statement s } in
      let rest = others here (within_stmt a s ++ stmts_parts a ss) h in
      and_from (stmt_fits a.within.in_loop_or_switch a.within.in_loop (label_stmt names at n s)) _
      (label_stmt_fits a names at n s (first here (within_stmt a s ++ stmts_parts a ss) h) (front (within_stmt a s) (stmts_parts a ss) rest))
      (label_stmts_fit a names _ _ ss (back (within_stmt a s) (stmts_parts a ss) rest))

  pub label_block_fits : (a : Around) (names : Names) (at n : ℕ) (b : tree.Block) → Stand (block_parts a b)
      → FitIn a.within (label_block names at n b)
  label_block_fits a names at n (tree.block locals stmts) h =
      let inside : Names = names_behind names n locals in
      let next : ℕ = at + count_locals locals in
      let many : ℕ = n + length (locals_variables locals) in
      let rest = label_stmts_fit (after_locals a locals) inside next many stmts (back (locals_parts a locals) (stmts_parts (after_locals a locals) stmts) h) in
      locals_fit a.within names at n locals (label_stmts inside next many stmts)
      (ap (λ (w : Within). stmts_fit w.in_loop_or_switch w.in_loop (label_stmts inside next many stmts)) (sym (still_within a locals)) ∙ rest)
