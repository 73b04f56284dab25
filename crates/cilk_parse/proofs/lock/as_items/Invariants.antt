use Rattle.std.proofs.Common.{◌≡◌, ◌++◌, map}
use Rattle.cilk_parse_grammar.specs.syntax.Tree as tree
use Rattle.cilk_parse.proofs.lock.as_items.Given as goal

abbrev pub invariant-each : goal.invariant-each
invariant-each l = (l.items.items ++ map tree.lock l.name-iterator.rest.items) ≡ map tree.lock l.fn.names.items
