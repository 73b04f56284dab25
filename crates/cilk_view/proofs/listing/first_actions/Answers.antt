use Rattle.std.proofs.Common.{◌≡◌, ◌+◌, ◌-◌, drop, subst, sym, arith}
use Rattle.cilk_load.specs.labelled.Bodies.{label}
use Rattle.cilk_load.specs.labelled.Lines.{action_lines}
use Rattle.cilk_view.specs.Listing.{HasFirsts}
use Rattle.cilk_view.proofs.Firsts.{begins}
use Rattle.cilk_view.proofs.listing.first_actions.Goals as goal

pub loop-passed-init : goal.loop-passed-init
loop-passed-init c =
    let all : c.count-count.result - 0 ≡ c.count-count.result = omega arith in
    subst (λ n. HasFirsts c.new-firsts.result (n + 1) (drop n (action_lines c.args.loaded.now))) (sym all)
    (begins (label c.args.loaded.now) c.count-count.result c.new-firsts.result c.line_of-none.result c.new-firsts.ensures.empty c.line_of-none.ensures.value
    (λ some. let within = (c.line_of-none.ensures.some.0 some).1 in let count = c.count-count.ensures.value in omega (arith, within, count)))
