use Rattle.std.proofs.Common.{◌≡◌, ◌+◌, ◌-◌, ◌<◌, ◌++◌, List, ◌∷◌, length, drop, get_or, sym, ap, ◌∙◌, arith, append_assoc}
use Rattle.std.proofs.lemmas.List.{at_drop_more}
use Rattle.cilk_tree_syntax.specs.Tree as tree
use Rattle.cilk_load_nodes.specs.labelled.Bodies.{item_globals, item_locks, body_count}
use Rattle.cilk_load.specs.Outer.{globals_count, locks_count, bodies_count, item_named, file_named}
use Rattle.cilk_load.proofs.file.declare_file.Goals as goal

pub loop-i-preserved : goal.loop-i-preserved
loop-i-preserved c =
    let globals = c.args.globals.now in
    let items = c.args.items.now in
    let around = c.args.names.now.innermost in
    let before = c.in_ok-before-2.before in
    let item = c.index-items-items.result in
    let place = length items - (c.loop-i.i + 1) in
    let others = drop (length items - c.loop-i.i) items in
    let here : length items - 1 - c.loop-i.i ≡ place = omega arith in
    let behind : place + 1 ≡ length items - c.loop-i.i = omega (arith, c.loop-i-test.true) in
    let there : place < length items = omega (arith, c.loop-i-test.true) in
    let more : drop place items ≡ item ∷ others =
    at_drop_more (λ (xs : List tree.Item). xs) items place item there
    ∙ ap (λ (x : tree.Item). x ∷ drop (place + 1) items) (sym (c.index-items-items.is ∙ ap (λ k. get_or items k item) here))
    ∙ ap (λ k. item ∷ drop k items) behind
    in
    let own = item_named globals before.globals before.locks before.bodies item in
    let later = file_named globals (before.globals + length (item_globals item)) (before.locks + length (item_locks item))
    (before.bodies + body_count item) others in
    let known = c.in_ok-before-2.ensures in
    record {
      names =
          known.named
          ∙ ap (λ es. own ++ es) (c.loop-i.invariant.names
          ∙ (λ j. file_named globals ((sym known.globals) j) ((sym known.locks) j) ((sym known.bodies) j) others ++ around))
          ∙ sym (append_assoc own later around)
          ∙ ap (λ (xs : List tree.Item). file_named globals before.globals before.locks before.bodies xs ++ around) (sym more);
      outer = known.names ∙ c.loop-i.invariant.outer;
      globals = omega (arith, known.globals, c.loop-i.invariant.globals, ap globals_count more);
      locks = omega (arith, known.locks, c.loop-i.invariant.locks, ap locks_count more);
      bodies = omega (arith, known.bodies, c.loop-i.invariant.bodies, ap bodies_count more);
    }
