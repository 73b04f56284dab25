use Rattle.std.proofs.Common.{◌∙◌, sym}
use Rattle.std.proofs.lemmas.List.{at_drop_all}
use Rattle.clap.specs.Simple.{app_of}
use Rattle.cilk_words.specs.Described.{with_rules}
use Rattle.cilk_words.proofs.Built.{argument_more}
use Rattle.cilk_words.proofs.table.taking.Goals as goal

pub loop-row-preserved : goal.loop-row-preserved
loop-row-preserved c =
    argument_more c.args.rows.now c.loop-row.row-index _ c.arg.result _ _ c.loop-row-test.true c.in_ok-command.ensures c.arg.ensures.rule c.arg.ensures.local
    ∙ c.loop-row.invariant

pub returns : goal.returns
unfolding with_rules
returns c = sym (at_drop_all (with_rules (app_of c.loop-row.command)) c.args.rows.now c.loop-row.row-index c.loop-row-test.false) ∙ c.loop-row.invariant
