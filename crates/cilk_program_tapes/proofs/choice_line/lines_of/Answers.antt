use Rattle.std.proofs.Common.{map, option_map, arith}
use Rattle.std.proofs.lemmas.List.{at_drop_all}
use Rattle.cilk_log_replay.specs.log.choices.Words.{choice_of}
use Rattle.cilk_program_tapes.proofs.ChoiceLines.{lines_behind, lines_counted}
use Rattle.cilk_program_tapes.proofs.choice_line.lines_of.Goals as goal

pub returns-clause-value : goal.returns-clause-value
returns-clause-value c =
    omega (
      arith,
      c.loop-choice.invariant.lines,
      at_drop_all (λ cs. lines_behind (option_map choice_of c.loop-choice.last) (map choice_of cs)) c.args.choices.now
          c.loop-choice.choice-index c.loop-choice-test.false,
      lines_counted (map choice_of c.args.choices.now),
    )
