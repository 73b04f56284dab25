-- The command line has nothing but plain arguments, so that its words tell what they have and their faults.
use Rattle.std.proofs.Common.{◌≡◌, refl, true}
use Rattle.clap.specs.Words.{is_simple, is_simple_and_free}
use Rattle.clap.proofs.OnLiterals.{clap_on_literals}
use Rattle.cilk_words.specs.CommandLine.{command_line}

pub is_plain : is_simple command_line ≡ true
unfolding clap_on_literals
is_plain = refl

pub is_free : is_simple_and_free command_line ≡ true
unfolding clap_on_literals
is_free = refl
