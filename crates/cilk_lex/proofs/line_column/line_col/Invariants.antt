use Rattle.std.proofs.Common.{◌≡◌, ◌≤◌, ◌+◌}
use Rattle.cilk_lex_tokens.specs.LineColumn.{line_in, column_in}
use Rattle.cilk_lex.proofs.line_column.line_col.Given as goal

abbrev pub invariant-loop-byte : goal.invariant-loop-byte
invariant-loop-byte l = record {
  line : l.line ≡ line_in l.text l.byte-index;
  column : l.column ≡ column_in l.text l.byte-index;
  line_fits : l.line ≤ l.byte-index + 1;
  column_fits : l.column ≤ l.byte-index + 1;
}
