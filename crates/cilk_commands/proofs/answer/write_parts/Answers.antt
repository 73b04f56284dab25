use Rattle.std.proofs.Common.{ℕ, List, [], Bor}
use Rattle.cilk_load.proofs.Fronts.{front_of_parts, on_err}
use Rattle.cilk_commands.proofs.answer.write_parts.Goals as goal

pub returns-in_err-write_whole-clause-front : goal.returns-in_err-write_whole-clause-front
returns-in_err-write_whole-clause-front g c =
    let f : Bor (List ℕ) → List ℕ = λ part. part.now in
    on_err _ _
    (front_of_parts f c.args.parts.now c.loop-part.part-index (record { ref_ptr = (0, 0); now = [] }) _ _ _ _ c.loop-part-test.true
    c.as_bytes.ensures.value
    c.loop-part.invariant c.in_err-write_whole.ensures.front)
