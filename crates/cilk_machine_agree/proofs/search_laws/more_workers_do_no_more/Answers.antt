use Rattle.cilk_machine_agree.proofs.explore.OrMore.{more_do_no_more, more_end_no_more}
use Rattle.cilk_machine_agree.proofs.search_laws.more_workers_do_no_more.Goals as goal

pub returns : goal.returns
returns c = record { ends = more_do_no_more; endless = more_end_no_more }
