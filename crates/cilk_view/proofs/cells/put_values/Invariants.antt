use Rattle.std.proofs.Common.{◌≡◌, ◌++◌, string_bytes, drop}
use Rattle.cilk_machine_agree.specs.model.Texts.{values_text}
use Rattle.cilk_view.proofs.cells.put_values.Given as goal

abbrev pub invariant-loop-cell : goal.invariant-loop-cell
invariant-loop-cell l = string_bytes l.out ++ values_text (drop l.cell-index l.cells) ≡ string_bytes l.initial.out ++ values_text l.cells
