use Rattle.std.proofs.Common.{◌≡◌, ◌∙◌, ap, arith}
use Rattle.std.specs.Prelude.{filter}
use Rattle.cilk_run.specs.labelled.Bodies.{label}
use Rattle.cilk_run.specs.model.End.{numbers}
use Rattle.cilk_run.specs.Drawn.{can_move}
use Rattle.cilk_run.proofs.Among.{next-found, few-found}
use Rattle.cilk_run.proofs.choosing.find_movers.Goals as goal

pub loop-before-preserved : goal.loop-before-preserved
loop-before-preserved c = (
  λ at s.
      next-found (can_move (label c.args.machine.now.program) c.args.workers at) c.loop-before.before c.loop-before.found.items _ c.in_ok-may.may
      (c.in_ok-may.ensures at s) (c.loop-before.invariant.0 at s) c.in_ok-push_if.ensures,
  few-found c.loop-before.before c.loop-before.found.items _ c.in_ok-may.may c.loop-before.invariant.1 c.in_ok-push_if.ensures,
)

pub returns-clause-found : goal.returns-clause-found
returns-clause-found c =
    let all : c.loop-before.before ≡ c.args.workers = omega (arith, c.loop-before-test.false, c.loop-before.auto.before-end) in
    λ at s.
    c.loop-before.invariant.0 at s
    ∙ ap (λ n. filter (can_move (label c.args.machine.now.program) c.args.workers at) (numbers n)) all
