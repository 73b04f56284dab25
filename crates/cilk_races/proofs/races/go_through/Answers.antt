use Rattle.std.proofs.Common.{◌≡◌, ◌+◌, ℕ, suc, ◌∙◌, subst, arith, length}
use Rattle.cilk_log_replay.specs.Tape.{IsAt}
use Rattle.cilk_races.specs.Watched.{Watched}
use Rattle.cilk_races.proofs.Watching.{watched-next}
use Rattle.cilk_races.proofs.races.go_through.Goals as goal

pub loop-made-preserved : goal.loop-made-preserved
loop-made-preserved c =
    let more : suc c.loop-made.made ≡ c.loop-made.made + 1 = omega arith in (
      c.in-Ok.ensures.made ∙ more,
      λ t same h.
          let kept = c.loop-made.invariant.1 t same h in
          let next = c.in-Ok.ensures.next t same kept.0 in (
            subst (λ (k : ℕ). IsAt t k c.advance.new.self.machine) more next,
            λ well first.
                subst (λ (k : ℕ). Watched t k c.advance.new.self) more
                (watched-next t c.args.choices.now c.loop-made.made c.loop-made.watch c.advance.new.self well same (omega arith) (omega arith) kept.0 next
                (c.in-Ok.ensures.noted t same kept.0) (kept.1 well first)),
          ),
    )

pub returns-in-Err-clause-told : goal.returns-in-Err-clause-told
returns-in-Err-clause-told c t same h = c.in-Err.ensures.told t same (c.loop-made.invariant.1 t same h).0

pub returns-clause-watched : goal.returns-clause-watched
returns-clause-watched c t same h well first =
    let kept = c.loop-made.invariant.1 t same h in
    let end : c.loop-made.made ≡ length c.args.choices.now = omega arith in
    subst (λ (k : ℕ). Watched t k c.loop-made.watch) end (kept.1 well first)

pub returns-clause-stands : goal.returns-clause-stands
returns-clause-stands c t same h =
    let end : c.loop-made.made ≡ length c.args.choices.now = omega arith in
    subst (λ (k : ℕ). IsAt t k c.loop-made.watch.machine) end (c.loop-made.invariant.1 t same h).0
