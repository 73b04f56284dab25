-- The classes of names, as a program tells them apart.
use Rattle.std.specs.Prelude.{ℕ, List, [], ◌∷◌, Option, Some, None}
use Rattle.cilk_tree_syntax.specs.lexeme.Lexeme.{Piece}
use Rattle.cilk_parse_grammar.specs.Rule.{class_at}
use Rattle.cilk_parse_grammar.specs.declared.name_class.NameClass.{NameClass}
use Rattle.cilk_parse_grammar.specs.declared.name_class.NameClass.TheVariants as class
use Rattle.cilk_parse_grammar.specs.Classes.{cls, the_main, the_char, the_printf, the_lock_init, the_lock, the_unlock, other_name}
use Rattle.cilk_parse_grammar.specs.Operators.{found}

abbrev pub name_classes : List (ℕ × NameClass)
name_classes =
    (the_main, class.Main) ∷ (the_char, class.Char) ∷ (the_printf, class.Printf) ∷ (the_lock_init, class.LockInit) ∷ (the_lock, class.Lock)
    ∷ (the_unlock, class.Unlock) ∷ (other_name, class.Other) ∷ []

abbrev pub named_class : ℕ → Option NameClass
named_class c = found name_classes c

abbrev pub named_in : Option ℕ → Option NameClass
named_in None = None
named_in (Some c) = named_class c

-- what the next token is, if it is a name
abbrev pub name_class_at : List Piece → Option NameClass
name_class_at ts = named_in (class_at cls ts)
