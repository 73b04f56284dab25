use Rattle.std.proofs.Common.{◌≡◌, ◌++◌}
use Rattle.cilk_parse_grammar.specs.Grammar.{named_of}
use Rattle.cilk_parse.proofs.parameter_list.named_of.Given as goal

abbrev pub invariant-each : goal.invariant-each
invariant-each l = (l.found.items ++ named_of l.name-iterator.rest.items) ≡ named_of l.fn.names.items
