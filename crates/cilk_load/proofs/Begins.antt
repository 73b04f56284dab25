-- With which action a part of a body begins.
use Rattle.std.proofs.Common.{◌≡◌, ℕ, zero, suc, ◌+◌, ◌<◌, Bool, true, false, cond, nat_eq, nat_lt, Option, Some, refl, ap, arith}
use Rattle.std.proofs.lemmas.Bool.{lt-ltb}
use Rattle.std.proofs.lemmas.Bool.Decides.{Decides-eqb}
use Rattle.cilk_tree_syntax.specs.Tree as tree
use Rattle.cilk_load_nodes.specs.labelled.Count.{count_shape, count_local}
use Rattle.cilk_load.specs.Firsts.{first_if, is_initialised, locals_first}

pub first_if-some : (c at : ℕ) (o : Option ℕ) → 0 < c → first_if c at o ≡ Some at
first_if-some c at o h = by_test (nat_eq c 0) refl
  where
    by_test : (b : Bool) → nat_eq c 0 ≡ b → cond b o (Some at) ≡ Some at
    by_test true e = absurd (omega (arith, h, (Decides-eqb c 0).0 e))
    by_test false e = refl

pub first_if-none : (c at : ℕ) (o : Option ℕ) → c ≡ 0 → first_if c at o ≡ o
first_if-none c at o e = ap (λ k. first_if k at o) e

-- the first of some declarations is the first initialiser, or a later one is
pub first-here : (at : ℕ) (l : tree.Local) (ls : tree.Locals) (next : Option ℕ) → is_initialised l ≡ true → locals_first at (tree.and_local l ls) next ≡ Some at
first-here at (tree.declared d) ls next e = first_if-some (count_shape d.shape) at _ (above (count_shape d.shape) e)
  where
    above : (m : ℕ) → nat_lt 0 m ≡ true → 0 < m
    above zero k = cc
    above (suc m) k = omega arith
first-here at (tree.inlet_at place name parameters body) ls next e = cc

pub first-later : (at : ℕ) (l : tree.Local) (ls : tree.Locals) (next : Option ℕ) → is_initialised l ≡ false
    → locals_first at (tree.and_local l ls) next ≡ locals_first (at + count_local l) ls next
first-later at (tree.declared d) ls next e = first_if-none (count_shape d.shape) at _ (none (count_shape d.shape) e)
  where
    none : (m : ℕ) → nat_lt 0 m ≡ false → m ≡ 0
    none zero k = refl
    none (suc m) k = let above : nat_lt 0 (suc m) ≡ true = lt-ltb 0 (suc m) (omega arith) in cc
first-later at (tree.inlet_at place name parameters body) ls next e = refl
