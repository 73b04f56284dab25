use Rattle.std.proofs.Common.{◌≡◌, ◌++◌, ◌∷◌, map}
use Rattle.cilk_parse_grammar.specs.syntax.Tree as tree
use Rattle.cilk_parse.proofs.variable.as_items.Given as goal

abbrev pub invariant-each : goal.invariant-each
invariant-each l = (l.items.items ++ map tree.global l.global-iterator.rest.items) ≡ map tree.global (l.fn.first ∷ l.fn.others.items)
