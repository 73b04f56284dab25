use Rattle.std.proofs.Common.{◌≡◌, ◌+◌, drop, length}
use Rattle.cilk_load.specs.Outer.{words_scope}
use Rattle.cilk_load.proofs.outer.put_words.Given as goal

abbrev pub invariant-loop-word : goal.invariant-loop-word
invariant-loop-word l = record {
  names : words_scope l.vars l.n (drop l.word-index l.words) l.names ≡ words_scope l.vars l.initial.n l.words l.initial.names;
  n : l.n + length (drop l.word-index l.words) ≡ l.initial.n + length l.words;
}
