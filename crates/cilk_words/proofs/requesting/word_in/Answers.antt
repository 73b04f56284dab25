use Rattle.std.proofs.Common.{sym}
use Rattle.clap.specs.Words.{found_of}
use Rattle.cilk_words.proofs.Requests.{no_word, word_read}
use Rattle.cilk_words.proofs.requesting.word_in.Goals as goal

pub returns-in-Some : goal.returns-in-Some
returns-in-Some c =
    sym (word_read (found_of c.args.found.now) c.args.name.now c.in-Some.number c.in-Some.ensures.none (λ t e. (c.in-Some.ensures.value t e).0))

pub returns-in-None : goal.returns-in-None
returns-in-None c = sym (no_word (found_of c.args.found.now) c.args.name.now (λ t e. (c.in-None.ensures.value t e).1.0))
