-- How many bodies an item has, those of its inlets too, and that parameters add none.
use Rattle.std.proofs.Common.{◌≡◌, ℕ, suc, ◌+◌, List, [], ◌∷◌, length, refl, ap}
use Rattle.cilk_model.specs.syntax.Tree as tree
use Rattle.cilk_model.specs.syntax.Tree.{Word}
use Rattle.cilk_model.specs.scopes.Scopes.{parameter}
use Rattle.cilk_model.specs.labelled.Labelled.{local}
use Rattle.cilk_model.specs.labelled.Names.{Names, with_name, with_words, with_parameters, with_local}
use Rattle.cilk_model.specs.labelled.Count.{count_shape, count_block}
use Rattle.cilk_model.specs.labelled.Bodies.{parameter_variables, inlet_bodies, block_locals, procedure_names, inlet_count, body_count, item_bodies}

pub length-inlets : (names : Names) (at n : ℕ) (ls : tree.Locals) → length (inlet_bodies names at n ls) ≡ inlet_count ls
length-inlets names at n tree.no_locals = refl
length-inlets names at n (tree.and_local (tree.declared d) rest) = length-inlets (with_local names n (tree.declared d)) (at + count_shape d.shape) (n + 1) rest
length-inlets names at n (tree.and_local (tree.inlet_at place name parameters body) rest) =
    ap suc (length-inlets (with_local names n (tree.inlet_at place name parameters body)) (at + (count_block body + 1)) (n + 0) rest)

pub length-item : (names : Names) (at : ℕ) (x : tree.Item) → length (item_bodies names at x) ≡ body_count x
length-item names at (tree.global g) = refl
length-item names at (tree.lock name) = refl
length-item names at (tree.prototype q) = refl
length-item names at (tree.procedure p) =
    ap suc (length-inlets (procedure_names (record names { bodies = suc names.bodies }) p) at (length (parameter_variables p.parameters)) (block_locals p.body))

words-bodies : (names : Names) (n : ℕ) (words : List Word) → (with_words names n words).bodies ≡ names.bodies
words-bodies names n [] = refl
words-bodies names n (word ∷ words) = words-bodies (with_name names (local n) (parameter word)) (suc n) words

pub parameters-bodies : (names : Names) (parameters : tree.Parameters) → (with_parameters names parameters).bodies ≡ names.bodies
parameters-bodies names (tree.ints words) = words-bodies names 0 words
parameters-bodies names (tree.command_line count strings) = refl
