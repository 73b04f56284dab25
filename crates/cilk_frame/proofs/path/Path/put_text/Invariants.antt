use Rattle.std.proofs.Common.{◌≡◌, ◌++◌, string_bytes, drop}
use Rattle.cilk_load_nodes.specs.model.Path.{numbers_text, path_text}
use Rattle.cilk_frame.proofs.path.Path.put_text.Given as goal

abbrev pub invariant-loop-number : goal.invariant-loop-number
invariant-loop-number l = string_bytes l.out ++ numbers_text (drop l.number-index l.numbers) ≡ string_bytes l.initial.out ++ path_text l.numbers
