use Rattle.std.proofs.Common.{append_assoc}
use Rattle.cilk_program_tapes.proofs.choice_line.put_words.Goals as goal

pub returns : goal.returns
returns c =
    rw (c.in_ok-write-2.ensures.bytes, c.in_ok-put_choice.ensures, c.in_ok-write.ensures.bytes, c.refusal_meaning-meaning.ensures) (simp append_assoc)
