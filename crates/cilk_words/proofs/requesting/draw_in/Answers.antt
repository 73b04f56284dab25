use Rattle.std.proofs.Common.{◌∙◌}
use Rattle.cilk_words.specs.CommandLine.{pictured_by}
use Rattle.cilk_words.proofs.requesting.draw_in.Goals as goal

pub returns : goal.returns
returns c =
    c.picture_by.ensures
    ∙ (λ i. pictured_by (c.log_in-log.ensures i) (c.word_in-from.ensures i) (c.word_in-to.ensures i) (c.flag_in-in_lines.ensures i))
