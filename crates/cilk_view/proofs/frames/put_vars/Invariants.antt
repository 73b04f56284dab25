use Rattle.std.proofs.Common.{◌≡◌, ◌++◌, string_bytes, drop}
use Rattle.cilk_view.specs.Frames.{vars_text}
use Rattle.cilk_view.proofs.frames.put_vars.Given as goal

abbrev pub invariant-loop-var : goal.invariant-loop-var
invariant-loop-var l = string_bytes l.out ++ vars_text (drop l.var-index l.vars) l.cells ≡ string_bytes l.initial.out ++ vars_text l.vars l.fn.cells
