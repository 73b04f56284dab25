use Rattle.std.proofs.Common.{codes, option_map}
use Rattle.clap.specs.Words.{found_of}
use Rattle.cilk_words.proofs.Requests.{value_given}
use Rattle.cilk_words.proofs.requesting.text_in.Goals as goal

pub returns : goal.returns
returns c = value_given (found_of c.args.found.now) (codes "F") (option_map (λ name. name.now) c.get_str.result) c.get_str.ensures
