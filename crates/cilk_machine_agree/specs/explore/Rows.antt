-- Worked programs: how lists of choices end, and two of them that lead to the same.
use Rattle.std.specs.Prelude.{ℕ, List, [], ◌∷◌, map, Option, None, option_map, option_and_then, codes}
use Rattle.cilk_machine_agree.specs.syntax.declared.operator.BinOp.TheVariants.{Add}
use Rattle.cilk_machine_agree.specs.syntax.declared.return_type.ReturnType.TheVariants.{Int, Void}
use Rattle.cilk_machine_agree.specs.syntax.Tree as tree
use Rattle.cilk_machine_agree.specs.syntax.Tree.{Stmt, Program, number, binary}
use Rattle.cilk_machine_agree.specs.labelled.Bodies.{label}
use Rattle.cilk_machine_agree.specs.model.Path.{Path}
use Rattle.cilk_machine_agree.specs.model.Instance.{Instance}
use Rattle.cilk_machine_agree.specs.model.State.{instance_at}
use Rattle.cilk_machine_agree.specs.model.Scheduler.{Worker}
use Rattle.cilk_machine_agree.specs.model.Choice.{Choice}
use Rattle.cilk_machine_agree.specs.model.Run.{after}
use Rattle.cilk_machine_agree.specs.model.Trees.{word, name, assigns, int, returns, spawns, procedure, global, program}
use Rattle.cilk_machine_agree.specs.model.Rows.{s, p, t}
use Rattle.cilk_machine_agree.specs.explore.Ending.{Ending, ending_at}

abbrev pub ending_of : Program → ℕ → List Choice → Option Ending
ending_of what n choices = option_map (λ at. ending_at (label what) at.standing) (after (label what) n choices)

-- the paths of the live instances, in the order of their birth
abbrev pub births_of : Program → ℕ → List Choice → Option (List Path)
births_of what n choices = option_map (λ at. map (λ e. e.path) at.standing.state.instances) (after (label what) n choices)

-- what stands at these paths
abbrev pub instances_of : Program → ℕ → List Choice → List Path → List (Option Instance)
instances_of what n choices paths = map (λ q. option_and_then (λ at. instance_at at.standing.state.instances q) (after (label what) n choices)) paths

abbrev pub places_of : Program → ℕ → List Choice → Option (List Worker)
places_of what n choices = option_map (λ at. at.standing.scheduler.places) (after (label what) n choices)

abbrev pub adds : ℕ → Stmt
adds amount = tree.spawn_at 0 tree.nothing (word (codes "add")) (number amount ∷ [])

-- int total; cilk void add(int amount) { int before; before = total; total = before + amount; }
-- cilk int main(void) { spawn add(10); spawn add(20); sync; return total; }
abbrev pub racing : Program
racing = program (global (codes "total")
    ∷ procedure Void (codes "add") (word (codes "amount") ∷ []) (int (codes "before") None ∷ [])
    (assigns (codes "before") (name (codes "total"))
    ∷ assigns (codes "total") (binary Add (name (codes "before")) (name (codes "amount"))) ∷ [])
    ∷ procedure Int (codes "main") [] [] (adds 10 ∷ adds 20 ∷ tree.sync_at 0 ∷ returns (name (codes "total")) ∷ []) ∷ [])

-- one after the other; the second reads before the first writes, and writes behind it; it writes before it
abbrev pub kept : List Choice
kept = s 1 ∷ s 1 ∷ s 1 ∷ s 1 ∷ p 1 ∷ s 1 ∷ s 1 ∷ s 1 ∷ s 1 ∷ p 1 ∷ s 1 ∷ s 1 ∷ []

abbrev pub first_is_lost : List Choice
first_is_lost = s 1 ∷ s 1 ∷ t 2 1 ∷ s 2 ∷ s 2 ∷ s 1 ∷ s 1 ∷ t 1 2 ∷ s 2 ∷ s 2 ∷ s 1 ∷ s 1 ∷ []

abbrev pub second_is_lost : List Choice
second_is_lost = s 1 ∷ s 1 ∷ t 2 1 ∷ s 2 ∷ s 2 ∷ s 2 ∷ s 1 ∷ s 1 ∷ t 1 2 ∷ s 2 ∷ s 1 ∷ s 1 ∷ []

-- of two workers and of three: each of two children holds the lock that the other waits for
abbrev pub crossed : List Choice
crossed = s 1 ∷ s 1 ∷ s 1 ∷ t 2 1 ∷ s 2 ∷ s 1 ∷ s 2 ∷ []

abbrev pub crossed_by_three : List Choice
crossed_by_three = s 1 ∷ s 1 ∷ s 1 ∷ t 2 1 ∷ s 2 ∷ t 3 2 ∷ s 3 ∷ s 1 ∷ s 2 ∷ []

-- cilk void leaf(void) { } cilk void twig(void) { spawn leaf(); } cilk int main(void) { spawn twig(); spawn leaf(); return 0; }
abbrev pub branching : Program
branching = program (procedure Void (codes "leaf") [] [] []
    ∷ procedure Void (codes "twig") [] [] (spawns (codes "leaf") ∷ [])
    ∷ procedure Int (codes "main") [] [] (spawns (codes "twig") ∷ spawns (codes "leaf") ∷ returns (number 0) ∷ []) ∷ [])

-- the grandchild is born before the second child, or behind it
abbrev pub downwards : List Choice
downwards = s 1 ∷ t 2 1 ∷ s 1 ∷ s 2 ∷ []

abbrev pub sideways : List Choice
sideways = s 1 ∷ t 2 1 ∷ s 2 ∷ s 1 ∷ []

-- the places of workers 2 and 3 are exchanged
abbrev pub exchange : List (ℕ × ℕ)
exchange = (1, 2) ∷ []

-- of three workers the second steals, or the third
abbrev pub by_second : List Choice
by_second = s 1 ∷ s 1 ∷ t 2 1 ∷ s 2 ∷ []

abbrev pub by_third : List Choice
by_third = s 1 ∷ s 1 ∷ t 3 1 ∷ s 3 ∷ []
