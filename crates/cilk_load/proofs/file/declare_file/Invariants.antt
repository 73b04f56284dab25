use Rattle.std.proofs.Common.{◌≡◌, ◌+◌, ◌-◌, ◌++◌, drop, length}
use Rattle.cilk_load.specs.Outer.{globals_count, locks_count, bodies_count, file_named}
use Rattle.cilk_load.proofs.file.declare_file.Given as goal

abbrev pub invariant-loop-i : goal.invariant-loop-i
invariant-loop-i l = record {
  names : l.names.innermost ≡ file_named l.globals l.before.globals l.before.locks l.before.bodies (drop (length l.items - l.i) l.items)
      ++ l.initial.names.innermost;
  outer : l.names.outer ≡ l.initial.names.outer;
  globals : l.before.globals + globals_count (drop (length l.items - l.i) l.items) ≡ globals_count l.items;
  locks : l.before.locks + locks_count (drop (length l.items - l.i) l.items) ≡ locks_count l.items;
  bodies : l.before.bodies + bodies_count (drop (length l.items - l.i) l.items) ≡ bodies_count l.items;
}
