-- The variables and the locks of the top level.
use Rattle.std.specs.Prelude.{ℕ, List, [], ◌∷◌, ◌++◌, codes}
use Rattle.cilk_check_scopes.specs.syntax.Tree as tree
use Rattle.cilk_model.specs.labelled.Bodies.{shaped_variable}
use Rattle.cilk_model.specs.Path.{path_text}
use Rattle.cilk_model.specs.Values.{Values}
use Rattle.cilk_model.specs.State.{Lock, unset, free, held}
use Rattle.cilk_model.specs.Texts.{variable_text}

-- how a lock stands (Cilk 5.4 manual, locks)
abbrev pub lock_text : Lock → List ℕ
lock_text unset = codes "unset"
lock_text free = codes "free"
lock_text (held by) = codes "held " ++ path_text by

-- a line for each, in the order of the text: the first variable among the items has the first of these values, and the first lock stands as the first of these
abbrev pub globals_text : List tree.Item → Values → List Lock → List ℕ
globals_text [] values locks = []
globals_text (tree.global g ∷ items) [] locks = globals_text items [] locks
globals_text (tree.global g ∷ items) (cells ∷ values) locks =
    variable_text (shaped_variable g.name g.shape) cells ++ (codes "\n" ++ globals_text items values locks)
globals_text (tree.lock name ∷ items) values [] = globals_text items values []
globals_text (tree.lock name ∷ items) values (l ∷ locks) =
    name.text ++ (codes ": " ++ (lock_text l ++ (codes "\n" ++ globals_text items values locks)))
globals_text (tree.prototype q ∷ items) values locks = globals_text items values locks
globals_text (tree.procedure p ∷ items) values locks = globals_text items values locks
