use Rattle.std.proofs.Common.{◌≡◌, ◌+◌, ◌++◌, drop, sym, ap, ◌∙◌, append_assoc, append-nil}
use Rattle.std.proofs.lemmas.List.{at_drop_all, at_drop_more}
use Rattle.cilk_tree_syntax.specs.Tree as tree
use Rattle.cilk_tree_syntax.specs.Tree.{locals_of}
use Rattle.cilk_load_nodes.specs.labelled.Count.{count_local, count_locals}
use Rattle.cilk_load.specs.BodyTables.{inlet_tables}
use Rattle.cilk_load.proofs.Further.{further}
use Rattle.cilk_load.proofs.TableLaws.{tables-first}
use Rattle.cilk_load.proofs.building.put_inlets.Goals as goal

pub loop-local-preserved : goal.loop-local-preserved
loop-local-preserved c =
    let before = c.loop-local.bodies.items in
    let at = c.loop-local.at in
    let item = c.local-item.result in
    let rest = locals_of (drop (c.loop-local.local-index + 1) c.args.locals.now) in
    let more : locals_of (drop c.loop-local.local-index c.args.locals.now) ≡ tree.and_local item rest =
    at_drop_more locals_of c.args.locals.now c.loop-local.local-index item c.loop-local-test.true
    ∙ ap (λ (x : tree.Local). tree.and_local x rest) (sym c.local-item.is)
    in
    record {
      bodies =
          (λ i. c.in_ok-at.ensures.tables i ++ inlet_tables (c.in_ok-at.ensures.after i) rest)
          ∙ append_assoc before (inlet_tables at (tree.and_local item tree.no_locals)) (inlet_tables (at + count_local item) rest)
          ∙ ap (λ ts. before ++ ts) (sym (tables-first at item rest))
          ∙ ap (λ (ls : tree.Locals). before ++ inlet_tables at ls) (sym more)
          ∙ c.loop-local.invariant.bodies;
      at = further at (count_local item) (count_locals rest) _ _ _ c.in_ok-at.ensures.after (ap count_locals more) c.loop-local.invariant.at;
    }

pub returns : goal.returns
returns c =
    sym (append-nil _)
    ∙ (rw (at_drop_all (λ xs. inlet_tables c.loop-local.at (locals_of xs)) c.args.locals.now c.loop-local.local-index c.loop-local-test.false)
    at c.loop-local.invariant.bodies)
