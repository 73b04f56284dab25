use Rattle.std.proofs.Common.{◌≡◌, ◌++◌, drop, map}
use Rattle.cilk_machine_plan.specs.nodes.Areas.{cells_of, environment}
use Rattle.cilk_machine_step.specs.Reads.{reads_in_all}
use Rattle.cilk_machine_step.specs.CellWords.{read_of}
use Rattle.cilk_machine_step.proofs.reading.push_all.Given as goal

abbrev pub invariant-loop-code : goal.invariant-loop-code
invariant-loop-code l =
    map read_of l.reads.items ++ reads_in_all (environment (cells_of l.slots)) (drop l.code-index l.codes)
    ≡ map read_of l.fn.reads.items ++ reads_in_all (environment (cells_of l.slots)) l.codes
