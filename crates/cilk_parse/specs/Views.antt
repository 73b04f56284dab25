-- What stands behind the name of a function, as the rules of the grammar have it.
use Rattle.std.specs.Prelude.{suc, false, List, [], ◌∷◌, length, map}
use Rattle.cilk_parse_grammar.specs.syntax.Tree as tree
use Rattle.cilk_parse_grammar.specs.syntax.ProgramView.{parameters_of, global_shape_of}
use Rattle.cilk_parse_grammar.specs.syntax.declared.return_type.ReturnType.TheVariants as returns
use Rattle.cilk_parse_grammar.specs.Grammar as grammar
use Rattle.cilk_parse.specs.declared.int_tail.IntTail.{IntTail}
use Rattle.cilk_parse.specs.declared.int_tail.IntTail.TheVariants as ints
use Rattle.cilk_parse.specs.declared.main_tail.MainTail.{MainTail}
use Rattle.cilk_parse.specs.declared.main_tail.MainTail.TheVariants as main
use Rattle.cilk_parse.specs.declared.tail.Tail.{Tail}
use Rattle.cilk_parse.specs.declared.tail.Tail.TheVariants.{Declares, Defines}

abbrev pub tail_of : Tail → grammar.Tail
tail_of (Declares count) = grammar.declares count
tail_of (Defines parameters body) = grammar.defines (parameters_of parameters) body

abbrev pub main_tail_of : MainTail → tree.Word → grammar.Tail
main_tail_of (main.Declares others) x = grammar.declares (suc (length others.items))
main_tail_of (main.Defines others body) x = grammar.defines (tree.ints (x ∷ grammar.named_of others.items)) body
main_tail_of (main.CommandLine strings body) x = grammar.defines (tree.command_line x strings) body

-- the items whose first has the name
abbrev pub int_tail_of : IntTail → tree.Word → List tree.Item
int_tail_of (ints.Function tail) x = grammar.function false returns.Int (tail_of tail) x ∷ []
int_tail_of (ints.Variables shape others) x = map tree.global (grammar.global_at x (global_shape_of shape) ∷ others.items)
