use Rattle.std.proofs.Common.{◌≡◌, ◌++◌, take, map}
use Rattle.cilk_machine_step.specs.Scenes.{input_of}
use Rattle.cilk_machine_step.specs.Shown.{reads_of}
use Rattle.cilk_machine_step.specs.CellWords.{read_of, told}
use Rattle.cilk_machine_step.proofs.spotting.push_read_cells.Given as goal

abbrev pub invariant-loop-read : goal.invariant-loop-read
invariant-loop-read l =
    told (input_of l.scene) l.accesses.items
    ≡ told (input_of l.scene) l.fn.accesses.items ++ reads_of (input_of l.scene) (map read_of (take l.read-index l.reads))
