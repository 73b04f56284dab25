use Rattle.std.proofs.Common.{◌≡◌, ◌+◌, drop, sym, ap, ◌∙◌, arith}
use Rattle.std.proofs.lemmas.List.{at_drop_more}
use Rattle.cilk_tree_syntax.specs.Tree as tree
use Rattle.cilk_tree_syntax.specs.Tree.{locals_of}
use Rattle.cilk_load_nodes.specs.labelled.Count.{count_local, count_locals}
use Rattle.cilk_load.specs.Firsts.{locals_first}
use Rattle.cilk_load.proofs.Begins.{first-here, first-later}
use Rattle.cilk_load.proofs.firsts.locals_first.Goals as goal

pub returns-then-is_initialised : goal.returns-then-is_initialised
returns-then-is_initialised c =
    let others = locals_of (drop (c.loop-local.local-index + 1) c.args.locals.now) in
    let more : locals_of (drop c.loop-local.local-index c.args.locals.now) ≡ tree.and_local c.local-item.result others =
    at_drop_more locals_of c.args.locals.now c.loop-local.local-index c.local-item.result c.loop-local-test.true
    ∙ ap (λ (x : tree.Local). tree.and_local x others) (sym c.local-item.is)
    in
    sym (first-here c.loop-local.at c.local-item.result others c.args.next (sym c.is_initialised.ensures ∙ c.if-is_initialised.true))
    ∙ ap (λ (ls : tree.Locals). locals_first c.loop-local.at ls c.args.next) (sym more)
    ∙ c.loop-local.invariant.first

pub loop-local-preserved : goal.loop-local-preserved
loop-local-preserved c =
    let others = locals_of (drop (c.loop-local.local-index + 1) c.args.locals.now) in
    let more : locals_of (drop c.loop-local.local-index c.args.locals.now) ≡ tree.and_local c.local-item.result others =
    at_drop_more locals_of c.args.locals.now c.loop-local.local-index c.local-item.result c.loop-local-test.true
    ∙ ap (λ (x : tree.Local). tree.and_local x others) (sym c.local-item.is)
    in
    let size : c.count_local-at.result ≡ count_local c.local-item.result = omega
    (arith, c.count_local-at.ensures, c.loop-local.invariant.at, ap count_locals more, c.requires) in
    record {
      first =
          ap (λ k. locals_first (c.loop-local.at + k) others c.args.next) size
          ∙ sym (first-later c.loop-local.at c.local-item.result others c.args.next (sym c.is_initialised.ensures ∙ c.if-is_initialised.false))
          ∙ ap (λ (ls : tree.Locals). locals_first c.loop-local.at ls c.args.next) (sym more)
          ∙ c.loop-local.invariant.first;
      at = omega (arith, size, c.loop-local.invariant.at, ap count_locals more);
    }
