-- The word for what a procedure returns (C 1990, 6.5.2).
use Rattle.std.specs.Prelude.{ℕ, List, codes}
use Rattle.cilk_tree_syntax.specs.declared.return_type.ReturnType.{ReturnType}
use Rattle.cilk_tree_syntax.specs.declared.return_type.ReturnType.TheVariants.{Int, Void}

abbrev pub word_of : ReturnType → List ℕ
word_of Int = codes "int"
word_of Void = codes "void"
