use Rattle.clap.specs.Words.{kind_of}
use Rattle.cilk_words.specs.CommandLine.{texts_of}
use Rattle.cilk_words.proofs.Refusals.{told}
use Rattle.cilk_words.proofs.requesting.request_in.Goals as goal

pub returns-in-Err-clause-refusal : goal.returns-in-Err-clause-refusal
returns-in-Err-clause-refusal c =
    told (texts_of c.args.words.now) (kind_of c.in-Err.error) c.of_error.result c.in-Err.ensures.kinds c.of_error.ensures
