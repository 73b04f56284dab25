use Rattle.std.proofs.Common.{◌∙◌, sym}
use Rattle.std.proofs.lemmas.List.{at_drop_all}
use Rattle.clap.specs.Simple.{app_of}
use Rattle.cilk_words.specs.Described.{with_subcommands}
use Rattle.cilk_words.proofs.Built.{subcommand_more}
use Rattle.cilk_words.proofs.table.with_all.Goals as goal

pub loop-row-preserved : goal.loop-row-preserved
loop-row-preserved c =
    subcommand_more c.args.rows.now c.loop-row.row-index _ c.command.result _ _ c.loop-row-test.true c.command.ensures c.in_ok-command.ensures
    ∙ c.loop-row.invariant

pub returns : goal.returns
unfolding with_subcommands
returns c =
    sym (at_drop_all (with_subcommands (app_of c.loop-row.command)) c.args.rows.now c.loop-row.row-index c.loop-row-test.false) ∙ c.loop-row.invariant
