-- Tests of what a program starts with.
use Rattle.std.specs.Prelude.{Bool, true, false, ◌&&◌, codes, bytes_eq}
use Rattle.cilk_tree_syntax.specs.declared.return_type.ReturnType.{ReturnType}
use Rattle.cilk_tree_syntax.specs.declared.return_type.ReturnType.TheVariants.{Int, Void}
use Rattle.cilk_tree_syntax.specs.Tree as tree
use Rattle.cilk_check_scopes.specs.Forms.{are_of_main}

-- whether an item is a procedure to start with
abbrev pub is_int : ReturnType → Bool
is_int Int = true
is_int Void = false

abbrev pub is_main : tree.Proc → Bool
is_main f = f.is_cilk && (is_int f.returns && (bytes_eq f.name.text (codes "main") && are_of_main f.parameters))

abbrev pub starts : tree.Item → Bool
starts (tree.procedure f) = is_main f
starts (tree.global g) = false
starts (tree.lock name) = false
starts (tree.prototype q) = false
