use Rattle.std.proofs.Common.{◌≡◌, ◌+◌, ℕ, suc, ◌∙◌, subst, arith, length}
use Rattle.cilk_log_replay.specs.Tape.{IsAt}
use Rattle.cilk_races.specs.Held.{Gauged}
use Rattle.cilk_races.proofs.Gauges.{gauged-next}
use Rattle.cilk_races.proofs.measuring.go_through.Goals as goal

pub loop-made-preserved : goal.loop-made-preserved
loop-made-preserved c =
    let more : suc c.loop-made.made ≡ c.loop-made.made + 1 = omega arith in (
      c.in-Ok.ensures.made ∙ more,
      λ t same h.
          let kept = c.loop-made.invariant.1 t same h in
          let next = c.in-Ok.ensures.next t same kept.0 in (
            subst (λ (k : ℕ). IsAt t k c.advance.new.self.machine) more next,
            λ first.
                subst (λ (k : ℕ). Gauged t k c.advance.new.self) more
                (gauged-next t c.args.choices.now c.loop-made.made c.loop-made.gauge c.advance.new.self same (omega arith) (omega arith) kept.0 next
                (c.in-Ok.ensures.noted t same kept.0) (kept.1 first)),
          ),
    )

pub returns-in-Err-clause-told : goal.returns-in-Err-clause-told
returns-in-Err-clause-told c t same h = c.in-Err.ensures.told t same (c.loop-made.invariant.1 t same h).0

pub returns-clause-gauged : goal.returns-clause-gauged
returns-clause-gauged c t same h first =
    let kept = c.loop-made.invariant.1 t same h in
    let end : c.loop-made.made ≡ length c.args.choices.now = omega arith in
    subst (λ (k : ℕ). Gauged t k c.loop-made.gauge) end (kept.1 first)
