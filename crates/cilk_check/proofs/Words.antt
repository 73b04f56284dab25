-- The first among the faults of words.
use Rattle.std.proofs.Common.{◌≡◌, ℕ, List, ◌++◌, ◌+◌, ◌<◌, length, get_or, drop, Option}
use Rattle.cilk_check_scopes.specs.declared.fault.CheckFault.{CheckFault}
use Rattle.cilk_check_scopes.specs.declared.owner.Owner.{Owner}
use Rattle.cilk_check_scopes.specs.First.{first_among}
use Rattle.cilk_check_scopes.proofs.Firsts.{first_among-append, first_among-flat_map}
use Rattle.cilk_check_scopes.proofs.Steps.{flat_map_more}
use Rattle.cilk_check_scopes.specs.syntax.Tree as tree
use Rattle.cilk_check.specs.FormFinds.{word_faults, words_faults, expr_faults, exprs_faults}

pub words-append : (found : Option CheckFault) (o : Owner) (xs ys : List ℕ)
    → first_among found (words_faults o (xs ++ ys)) ≡ first_among (first_among found (words_faults o xs)) (words_faults o ys)
words-append found o xs ys = first_among-flat_map (word_faults o) found xs ys

pub exprs-append : (found : Option CheckFault) (o : Owner) (xs ys : List tree.Expr)
    → first_among found (exprs_faults o (xs ++ ys)) ≡ first_among (first_among found (exprs_faults o xs)) (exprs_faults o ys)
exprs-append found o xs ys = first_among-flat_map (expr_faults o) found xs ys

pub exprs_more : (found : Option CheckFault) (o : Owner) (es : List tree.Expr) (i : ℕ) (e : tree.Expr) → i < length es → e ≡ get_or es i e
    → first_among found (exprs_faults o (drop i es)) ≡ first_among (first_among found (expr_faults o e)) (exprs_faults o (drop (i + 1) es))
exprs_more found o es i e h at = flat_map_more (expr_faults o) found es i e h at

pub ruleset words = (first_among-append, words-append, exprs-append, exprs_more)
