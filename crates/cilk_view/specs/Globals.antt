-- The variables and the locks of the top level, as their cells and the holders' ids tell them.
use Rattle.std.specs.Prelude.{ℕ, ℤ, List, [], ◌∷◌, ◌++◌, take, drop, codes}
use Rattle.cilk_machine_agree.specs.syntax.Tree as tree
use Rattle.cilk_load.specs.labelled.Bodies.{shaped_variable}
use Rattle.cilk_machine_agree.specs.model.Path.{Path}
use Rattle.cilk_machine_agree.specs.nodes.Slots.{size_of}
use Rattle.cilk_machine_agree.specs.declared.lock.Lock.{Lock}
use Rattle.cilk_machine_agree.specs.Outside.{lock_by}
use Rattle.cilk_machine_agree.specs.model.Texts.{variable_text}
use Rattle.cilk_machine_agree.specs.model.Globals.{lock_text}

-- how many cells a variable of the top level has
abbrev pub width : tree.Global → ℕ
width g = size_of (shaped_variable g.name g.shape)

abbrev pub globals_by : (ℕ → Path) → List tree.Item → List ℤ → List Lock → List ℕ
globals_by up [] cells locks = []
globals_by up (tree.global g ∷ items) cells locks =
    variable_text (shaped_variable g.name g.shape) (take (width g) cells) ++ (codes "\n" ++ globals_by up items (drop (width g) cells) locks)
globals_by up (tree.lock name ∷ items) cells [] = globals_by up items cells []
globals_by up (tree.lock name ∷ items) cells (l ∷ locks) =
    name.text ++ (codes ": " ++ (lock_text (lock_by up l) ++ (codes "\n" ++ globals_by up items cells locks)))
globals_by up (tree.prototype q ∷ items) cells locks = globals_by up items cells locks
globals_by up (tree.procedure p ∷ items) cells locks = globals_by up items cells locks
