use Rattle.cilk_program_runs.proofs.asked.run_as_asked.Goals as goal

pub returns-in-None-clause-done : goal.returns-in-None-clause-done
returns-in-None-clause-done g c = rw c.in-None.is c.run_named.ensures.done

pub returns-in-None-clause-begun : goal.returns-in-None-clause-begun
returns-in-None-clause-begun g c = rw c.in-None.is c.run_named.ensures.begun

pub returns-in-None-seed-clause-done : goal.returns-in-None-seed-clause-done
returns-in-None-seed-clause-done g c = rw c.in-Some.is (rw c.in-None-seed.is (rw c.in-None-seed.is at c.run_named-in-None-seed.ensures.done))

pub returns-in-None-seed-clause-begun : goal.returns-in-None-seed-clause-begun
returns-in-None-seed-clause-begun g c = rw c.in-Some.is (rw c.in-None-seed.is (rw c.in-None-seed.is at c.run_named-in-None-seed.ensures.begun))

pub returns-in-Some-seed-clause-done : goal.returns-in-Some-seed-clause-done
returns-in-Some-seed-clause-done g c = rw c.in-Some.is (rw c.in-Some-seed.is (λ answer. (c.tally_text.ensures.only answer, c.tally_text.ensures.done answer)))

pub returns-in-Some-seed-clause-begun : goal.returns-in-Some-seed-clause-begun
returns-in-Some-seed-clause-begun g c = rw c.in-Some.is (rw c.in-Some-seed.is c.tally_text.ensures.begun)

pub returns-in-Some-seed-clause-quiet : goal.returns-in-Some-seed-clause-quiet
returns-in-Some-seed-clause-quiet g c = λ answer traps. c.tally_text.ensures.quiet answer

pub returns-in-None-clause-told : goal.returns-in-None-clause-told
returns-in-None-clause-told g c = c.run_named.ensures.told

pub returns-in-None-clause-usage : goal.returns-in-None-clause-usage
returns-in-None-clause-usage g c = c.run_named.ensures.usage

pub returns-in-None-clause-explained : goal.returns-in-None-clause-explained
returns-in-None-clause-explained g c = c.run_named.ensures.explained

pub returns-in-None-clause-quiet : goal.returns-in-None-clause-quiet
returns-in-None-clause-quiet g c = c.run_named.ensures.quiet

pub returns-in-None-clause-kept : goal.returns-in-None-clause-kept
returns-in-None-clause-kept g c = c.run_named.ensures.kept

pub returns-in-None-seed-clause-told : goal.returns-in-None-seed-clause-told
returns-in-None-seed-clause-told g c = c.run_named-in-None-seed.ensures.told

pub returns-in-None-seed-clause-usage : goal.returns-in-None-seed-clause-usage
returns-in-None-seed-clause-usage g c = c.run_named-in-None-seed.ensures.usage

pub returns-in-None-seed-clause-explained : goal.returns-in-None-seed-clause-explained
returns-in-None-seed-clause-explained g c = c.run_named-in-None-seed.ensures.explained

pub returns-in-None-seed-clause-quiet : goal.returns-in-None-seed-clause-quiet
returns-in-None-seed-clause-quiet g c = c.run_named-in-None-seed.ensures.quiet

pub returns-in-None-seed-clause-kept : goal.returns-in-None-seed-clause-kept
returns-in-None-seed-clause-kept g c = c.run_named-in-None-seed.ensures.kept

pub returns-in-Some-seed-clause-told : goal.returns-in-Some-seed-clause-told
returns-in-Some-seed-clause-told g c = c.tally_text.ensures.told

pub returns-in-Some-seed-clause-usage : goal.returns-in-Some-seed-clause-usage
returns-in-Some-seed-clause-usage g c = c.tally_text.ensures.usage

pub returns-in-Some-seed-clause-kept : goal.returns-in-Some-seed-clause-kept
returns-in-Some-seed-clause-kept g c = c.tally_text.ensures.kept
