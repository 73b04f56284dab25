use Rattle.std.proofs.Common.{◌∙◌, ap, sym}
use Rattle.clap.specs.Words.{found_of}
use Rattle.cilk_words.specs.CommandLine.{request_of_any}
use Rattle.cilk_words.proofs.Requests.{met}
use Rattle.cilk_words.proofs.requesting.requested.Goals as goal

pub returns-in-Some : goal.returns-in-Some
returns-in-Some c =
    let found = found_of c.in-Some.found.now in
    c.request_named.ensures ∙ sym (ap request_of_any (met c.args.matches.now c.in-Some.name.now found c.in-Some.ensures.name c.in-Some.ensures.rows))
