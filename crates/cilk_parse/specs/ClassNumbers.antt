-- The number of a class of names.
use Rattle.std.specs.Prelude.{ℕ}
use Rattle.cilk_parse_grammar.specs.declared.name_class.NameClass.{NameClass}
use Rattle.cilk_parse_grammar.specs.declared.name_class.NameClass.TheVariants as class
use Rattle.cilk_parse_grammar.specs.Classes.{the_main, the_char, the_printf, the_lock_init, the_lock, the_unlock, other_name}

abbrev pub number_of : NameClass → ℕ
number_of class.Main = the_main
number_of class.Char = the_char
number_of class.Printf = the_printf
number_of class.LockInit = the_lock_init
number_of class.Lock = the_lock
number_of class.Unlock = the_unlock
number_of class.Other = other_name
