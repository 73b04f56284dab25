use Rattle.std.proofs.Common.{◌≡◌, ◌++◌, map}
use Rattle.cilk_parse_grammar.specs.syntax.Tree as tree
use Rattle.cilk_parse.proofs.declaration.declared.Given as goal

abbrev pub invariant-each : goal.invariant-each
invariant-each l = (l.locals.items ++ map tree.declared l.declarator-iterator.rest.items) ≡ map tree.declared l.fn.declarators.items
