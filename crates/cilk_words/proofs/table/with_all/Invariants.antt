use Rattle.std.proofs.Common.{◌≡◌, drop}
use Rattle.clap.specs.Simple.{app_of}
use Rattle.cilk_words.specs.Described.{with_subcommands}
use Rattle.cilk_words.proofs.table.with_all.Given as goal

abbrev pub invariant-loop-row : goal.invariant-loop-row
invariant-loop-row l = with_subcommands (app_of l.command) (drop l.row-index l.rows) ≡ with_subcommands (app_of l.initial.command) l.rows
