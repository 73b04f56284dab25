-- Worked runs: the numbers that are told of them.
use Rattle.std.specs.Prelude.{ℕ, List, [], ◌∷◌, ◌++◌, Option, None, option_map, codes}
use Rattle.cilk_log_replay.specs.machine.nodes.model.syntax.declared.operator.BinOp.TheVariants.{Add}
use Rattle.cilk_log_replay.specs.machine.nodes.model.syntax.declared.return_type.ReturnType.TheVariants.{Int, Void}
use Rattle.cilk_log_replay.specs.machine.nodes.model.syntax.Tree as tree
use Rattle.cilk_log_replay.specs.machine.nodes.model.syntax.Tree.{Program, Stmt, number, binary}
use Rattle.cilk_log_replay.specs.machine.nodes.model.labelled.Bodies.{label}
use Rattle.cilk_log_replay.specs.machine.nodes.model.Choice.{Choice}
use Rattle.cilk_log_replay.specs.machine.nodes.model.Run.{after}
use Rattle.cilk_log_replay.specs.machine.nodes.model.Rows.{s, p, t}
use Rattle.cilk_log_replay.specs.machine.nodes.model.Trees.{program, procedure, global, int, assigns, name, returns, word}
use Rattle.cilk_races.specs.Measure.{measure_of}
use Rattle.cilk_races.specs.Text.{measure_text}

abbrev pub told_of : Program → ℕ → List Choice → Option (List ℕ)
told_of what n choices = option_map (λ at. measure_text (measure_of (label what) n choices at.events)) (after (label what) n choices)

abbrev pub adds : ℕ → Stmt
adds n = tree.spawn_at 0 tree.nothing (word (codes "add")) (number n ∷ [])

-- int total; cilk void add(int amount) { int before; before = total; total = before + amount; }
-- cilk int main(void) { spawn add(10); spawn add(20); sync; return total; }
abbrev pub racing : Program
racing = program (global (codes "total")
    ∷ procedure Void (codes "add") (word (codes "amount") ∷ []) (int (codes "before") None ∷ [])
    (assigns (codes "before") (name (codes "total")) ∷ assigns (codes "total") (binary Add (name (codes "before")) (name (codes "amount"))) ∷ [])
    ∷ procedure Int (codes "main") [] [] (adds 10 ∷ adds 20 ∷ tree.sync_at 0 ∷ returns (name (codes "total")) ∷ []) ∷ [])

-- a thief takes `main`, and both children read before one writes
abbrev pub lost : List Choice
lost = s 1 ∷ t 2 1 ∷ s 1 ∷ s 2 ∷ s 2 ∷ s 1 ∷ s 1 ∷ s 2 ∷ s 2 ∷ p 2 ∷ s 2 ∷ s 2 ∷ []

-- one child after the other
abbrev pub kept : List Choice
kept = s 1 ∷ s 1 ∷ s 1 ∷ s 1 ∷ p 1 ∷ s 1 ∷ s 1 ∷ s 1 ∷ s 1 ∷ p 1 ∷ s 1 ∷ s 1 ∷ []

abbrev pub lost_text : List ℕ
lost_text =
    codes "work 10 span 7 parallelism 1.4\ninstances 3 live 3 depth 2 bodies 2 deque 1\n"
    ++ codes "steals 1 pops 1 parks 0\nworker 1 steps 4\nworker 2 steps 6\n"

abbrev pub kept_text : List ℕ
kept_text =
    codes "work 10 span 7 parallelism 1.4\ninstances 3 live 2 depth 2 bodies 2 deque 1\n"
    ++ codes "steals 0 pops 2 parks 0\nworker 1 steps 10\n"

abbrev pub empty_text : List ℕ
empty_text =
    codes "work 0 span 0 parallelism 0.0\ninstances 1 live 1 depth 1 bodies 1 deque 0\n"
    ++ codes "steals 0 pops 0 parks 0\nworker 1 steps 0\nworker 2 steps 0\n"
