use Rattle.std.proofs.Common.{◌≡◌, ◌+◌, ℕ, suc, ◌∙◌, subst, arith}
use Rattle.cilk_log_replay.specs.Tape.{IsAt}
use Rattle.cilk_log_replay.proofs.replaying.make_first.Goals as goal

pub loop-made-preserved : goal.loop-made-preserved
loop-made-preserved c =
    let more : suc c.loop-made.made ≡ c.loop-made.made + 1 = omega arith in (
      c.in-Ok.ensures.made ∙ more,
      λ t same h.
          subst (λ (k : ℕ). IsAt t k c.make_again.new.machine) more (c.in-Ok.ensures.next t same (c.loop-made.invariant.1 t same h)),
    )

pub returns-in-Err-clause-told : goal.returns-in-Err-clause-told
returns-in-Err-clause-told c t same h = c.in-Err.ensures.told t same (c.loop-made.invariant.1 t same h)
