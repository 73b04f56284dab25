use Rattle.std.proofs.Common.{◌<◌, ◌≤◌, ◌-◌, length}
use Rattle.std.specs.Io.KnownBytes.{Consumes}
use Rattle.cilk_debug_console.specs.Input.{longest}
use Rattle.cilk_debug_console.specs.Taking.{ahead, IsPlain}
use Rattle.cilk_debug_console.proofs.taking.take_line.Given as goal

abbrev pub invariant-loop-chunk : goal.invariant-loop-chunk
invariant-loop-chunk g l = record {
  some : 0 < length l.chunk;
  plain : IsPlain l.line.items;
  short : length l.line.items ≤ longest;
  taken : Consumes (ahead l.initial.chunk (g.R.Read.remaining l.initial.reader)) (ahead l.chunk (g.R.Read.remaining l.reader)) l.line.items;
}

abbrev pub decreases-loop-chunk : goal.decreases-loop-chunk
decreases-loop-chunk g l = longest - length l.line.items
