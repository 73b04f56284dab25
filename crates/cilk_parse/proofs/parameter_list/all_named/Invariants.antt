use Rattle.std.proofs.Common.{◌≡◌, drop}
use Rattle.cilk_parse_grammar.specs.Grammar.{all_named}
use Rattle.cilk_parse.proofs.parameter_list.all_named.Given as goal

abbrev pub invariant-each : goal.invariant-each
invariant-each l = all_named (drop l.name-index l.names) ≡ all_named l.names
