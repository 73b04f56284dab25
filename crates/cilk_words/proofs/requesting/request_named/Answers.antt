use Rattle.std.proofs.Common.{◌∙◌, None, Some, ap}
use Rattle.clap.specs.Words.{found_of}
use Rattle.cilk_words.specs.CommandLine.{request_for, wanted_by}
use Rattle.cilk_words.proofs.Requests.{named_request}
use Rattle.cilk_words.proofs.requesting.request_named.Goals as goal

pub returns-in-None-text_for : goal.returns-in-None-text_for
returns-in-None-text_for c =
    named_request c.args.name.now (found_of c.args.found.now) (Some (wanted_by c.in-Some.task)) None c.in-Some.ensures c.in-None-text_for.ensures

pub returns-in-Some-text_for : goal.returns-in-Some-text_for
returns-in-Some-text_for c =
    let file = c.in-Some-text_for.name.now in
    let wanted = wanted_by c.in-Some.task in
    ap (request_for (Some wanted) (Some file)) c.flag_in.ensures
    ∙ named_request c.args.name.now (found_of c.args.found.now) (Some wanted) (Some file) c.in-Some.ensures c.in-Some-text_for.ensures
