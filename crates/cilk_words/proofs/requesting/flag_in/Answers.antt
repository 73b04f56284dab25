use Rattle.std.proofs.Common.{◌∙◌}
use Rattle.clap.specs.Words.{found_of}
use Rattle.cilk_words.proofs.Requests.{flag_given}
use Rattle.cilk_words.proofs.requesting.flag_in.Goals as goal

pub returns : goal.returns
returns c = c.unwrap_or.ensures ∙ flag_given _ (found_of c.args.found.now) c.args.name.now c.get_one.result c.get_one.ensures.none c.get_one.ensures.value
