-- Where the labels of a `switch` lead: what the pass writes is what the lists of what remains tell.
use Rattle.std.proofs.Common.{◌≡◌, ℕ, ◌+◌, ℤ, Bool, true, false, List, ◌∷◌, ◌++◌, length, Option, Some, None, refl, sym, ap, ◌∙◌}
use Rattle.std.specs.Prelude.{is_none, if◌then◌else◌}
use Rattle.cilk_load.specs.syntax.Tree as tree
use Rattle.cilk_load.specs.labelled.Labelled.{Stmts, at_label}
use Rattle.cilk_load.specs.labelled.Items.{at_end, Items, pieces, opened, is_label, behind_by, behind_label, selected}
use Rattle.cilk_load.specs.labelled.Names.{Names, with_local}
use Rattle.cilk_load.specs.labelled.Count.{count_shape, count_stmt, count_stmts, count_locals, count_block}
use Rattle.cilk_load.specs.labelled.Label.{label_initialiser, label_locals, label_stmt, label_stmts, label_block, names_behind}
use Rattle.cilk_load.specs.labelled.Label.{stmt_variables, locals_variables}
use Rattle.cilk_load.specs.nodes.declared.case.Case.{Case}
use Rattle.cilk_load.specs.nodes.Table.{number_of, with_case, label_cases}
use Rattle.cilk_load.specs.nodes.Plain.{PlainStmts, PlainBlock}
use Rattle.cilk_load.specs.Firsts.{first_if}
use Rattle.cilk_load.specs.Pass.{value_in, is_default, value_case, cases_in, default_in}
use Rattle.cilk_load.proofs.Starts.{stmts-pieces}

-- ---- cases

with-label : (value : Option ℤ) (items : Items) (cases : List Case)
    → with_case (at_label value) items cases ≡ value_case value (number_of (opened items)) ++ cases
with-label None items cases = refl
with-label (Some z) items cases = refl

with-stmt : (names : Names) (at n : ℕ) (x : tree.Stmt) (items : Items) (cases : List Case)
    → with_case (label_stmt names at n x) items cases ≡ value_case (value_in x) (number_of (opened items)) ++ cases
with-stmt names at n (tree.move what) items cases = refl
with-stmt names at n (tree.spawn_at place taker callee arguments) items cases = refl
with-stmt names at n (tree.print format arguments) items cases = refl
with-stmt names at n (tree.locking what name) items cases = refl
with-stmt names at n tree.null items cases = refl
with-stmt names at n (tree.sync_at place) items cases = refl
with-stmt names at n (tree.abort_at place) items cases = refl
with-stmt names at n (tree.break_at place) items cases = refl
with-stmt names at n (tree.continue_at place) items cases = refl
with-stmt names at n (tree.return_at place value) items cases = refl
with-stmt names at n (tree.when value body) items cases = refl
with-stmt names at n (tree.either value body other) items cases = refl
with-stmt names at n (tree.while value body) items cases = refl
with-stmt names at n (tree.repeat body value) items cases = refl
with-stmt names at n (tree.loop first value advance body) items cases = refl
with-stmt names at n (tree.switch value body) items cases = refl
with-stmt names at n (tree.labelled label) items cases = with-label label.value items cases
with-stmt names at n (tree.nested inside) items cases = refl

stmts-cases : (names : Names) (at n : ℕ) (ss : tree.Stmts) (items : Items) → PlainStmts ss
    → cases_in at ss (number_of (opened items)) ≡ label_cases (label_stmts names at n ss) items
stmts-cases names at n tree.none items plain = refl
stmts-cases names at n (tree.also x xs) items plain =
    let behind : ℕ = at + count_stmt x in
    let m : ℕ = n + length (stmt_variables x) in
    let others : Stmts = label_stmts names behind m xs in
    (λ i. value_case (value_in x) (sym (stmts-pieces names behind m xs items plain.1) i) ++ stmts-cases names behind m xs items plain.1 i)
    ∙ sym (with-stmt names at n x (pieces others items) (label_cases others items))

-- an initialiser is no label
initialiser-cases : (names : Names) (at : ℕ) (place : tree.Place) (shape : tree.Shape) (others : Stmts) (items : Items)
    → label_cases (label_initialiser names at place shape others) items ≡ label_cases others items
initialiser-cases names at place (tree.variable None) others items = refl
initialiser-cases names at place (tree.variable (Some value)) others items = refl
initialiser-cases names at place (tree.array n) others items = refl

locals-cases : (names : Names) (at n : ℕ) (ls : tree.Locals) (others : Stmts) (items : Items)
    → label_cases (label_locals names at n ls others) items ≡ label_cases others items
locals-cases names at n tree.no_locals others items = refl
locals-cases names at n (tree.and_local (tree.declared d) rest) others items =
    let inner : Names = with_local names n (tree.declared d) in
    let behind : ℕ = at + count_shape d.shape in
    initialiser-cases inner at (record { name = d.name; index = None }) d.shape (label_locals inner behind (n + 1) rest others) items
    ∙ locals-cases inner behind (n + 1) rest others items
locals-cases names at n (tree.and_local (tree.inlet_at place name parameters body) rest) others items =
    locals-cases (with_local names n (tree.inlet_at place name parameters body)) (at + (count_block body + 1)) (n + 0) rest others items

pub block-cases : (names : Names) (at n : ℕ) (ls : tree.Locals) (ss : tree.Stmts) (items : Items) → PlainBlock (tree.block ls ss)
    → cases_in (at + count_locals ls) ss (number_of (opened items)) ≡ label_cases (label_block names at n (tree.block ls ss)) (at_end ∷ items)
block-cases names at n ls ss items plain =
    let inner : Names = names_behind names n ls in
    let behind : ℕ = at + count_locals ls in
    let m : ℕ = n + length (locals_variables ls) in
    stmts-cases inner behind m ss (at_end ∷ items) plain.1
    ∙ sym (locals-cases names at n ls (label_stmts inner behind m ss) (at_end ∷ items))

-- ---- `default`

default-label : (value : Option ℤ) → is_label None (at_label value) ≡ is_none value
default-label None = refl
default-label (Some z) = refl

default-stmt : (names : Names) (at n : ℕ) (x : tree.Stmt) → is_label None (label_stmt names at n x) ≡ is_default x
default-stmt names at n (tree.move what) = refl
default-stmt names at n (tree.spawn_at place taker callee arguments) = refl
default-stmt names at n (tree.print format arguments) = refl
default-stmt names at n (tree.locking what name) = refl
default-stmt names at n tree.null = refl
default-stmt names at n (tree.sync_at place) = refl
default-stmt names at n (tree.abort_at place) = refl
default-stmt names at n (tree.break_at place) = refl
default-stmt names at n (tree.continue_at place) = refl
default-stmt names at n (tree.return_at place value) = refl
default-stmt names at n (tree.when value body) = refl
default-stmt names at n (tree.either value body other) = refl
default-stmt names at n (tree.while value body) = refl
default-stmt names at n (tree.repeat body value) = refl
default-stmt names at n (tree.loop first value advance body) = refl
default-stmt names at n (tree.switch value body) = refl
default-stmt names at n (tree.labelled label) = default-label label.value
default-stmt names at n (tree.nested inside) = refl

stmts-default : (names : Names) (at n : ℕ) (ss : tree.Stmts) (items : Items) → PlainStmts ss
    → default_in at ss (number_of (opened items)) ≡ number_of (opened (selected (behind_label None (label_stmts names at n ss)) items))
stmts-default names at n tree.none items plain = refl
stmts-default names at n (tree.also x xs) items plain =
    by_default (label_stmts names (at + count_stmt x) (n + length (stmt_variables x)) xs) (is_default x)
    (stmts-pieces names (at + count_stmt x) (n + length (stmt_variables x)) xs (at_end ∷ items) plain.1)
    (stmts-default names (at + count_stmt x) (n + length (stmt_variables x)) xs items plain.1)
    ∙ ap
    (λ is. number_of (opened
    (selected (behind_by is (label_stmts names (at + count_stmt x) (n + length (stmt_variables x)) xs)
    (behind_label None (label_stmts names (at + count_stmt x) (n + length (stmt_variables x)) xs))) items)))
    (sym (default-stmt names at n x))
  where
    by_default : (others : Stmts) (is : Bool)
        → number_of (opened (pieces others (at_end ∷ items))) ≡ first_if (count_stmts xs) (at + count_stmt x) (number_of (opened items))
        → default_in (at + count_stmt x) xs (number_of (opened items)) ≡ number_of (opened (selected (behind_label None others) items))
        → (if is then first_if (count_stmts xs) (at + count_stmt x) (number_of (opened items))
        else default_in (at + count_stmt x) xs (number_of (opened items)))
        ≡ number_of (opened (selected (behind_by is others (behind_label None others)) items))
    by_default others true here later = sym here
    by_default others false here later = later

initialiser-default : (names : Names) (at : ℕ) (place : tree.Place) (shape : tree.Shape) (others : Stmts)
    → behind_label None (label_initialiser names at place shape others) ≡ behind_label None others
initialiser-default names at place (tree.variable None) others = refl
initialiser-default names at place (tree.variable (Some value)) others = refl
initialiser-default names at place (tree.array n) others = refl

locals-default : (names : Names) (at n : ℕ) (ls : tree.Locals) (others : Stmts)
    → behind_label None (label_locals names at n ls others) ≡ behind_label None others
locals-default names at n tree.no_locals others = refl
locals-default names at n (tree.and_local (tree.declared d) rest) others =
    let inner : Names = with_local names n (tree.declared d) in
    let behind : ℕ = at + count_shape d.shape in
    initialiser-default inner at (record { name = d.name; index = None }) d.shape (label_locals inner behind (n + 1) rest others)
    ∙ locals-default inner behind (n + 1) rest others
locals-default names at n (tree.and_local (tree.inlet_at place name parameters body) rest) others =
    locals-default (with_local names n (tree.inlet_at place name parameters body)) (at + (count_block body + 1)) (n + 0) rest others

pub block-default : (names : Names) (at n : ℕ) (ls : tree.Locals) (ss : tree.Stmts) (items : Items) → PlainBlock (tree.block ls ss)
    → default_in (at + count_locals ls) ss (number_of (opened items))
    ≡ number_of (opened (selected (behind_label None (label_block names at n (tree.block ls ss))) items))
block-default names at n ls ss items plain =
    let inner : Names = names_behind names n ls in
    let behind : ℕ = at + count_locals ls in
    let m : ℕ = n + length (locals_variables ls) in
    stmts-default inner behind m ss items plain.1
    ∙ ap (λ o. number_of (opened (selected o items))) (sym (locals-default names at n ls (label_stmts inner behind m ss)))
