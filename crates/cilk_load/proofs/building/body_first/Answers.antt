use Rattle.std.proofs.Common.{◌≡◌, ◌+◌, List, Some, ap, ◌∙◌, arith}
use Rattle.cilk_tree_syntax.specs.Tree as tree
use Rattle.cilk_tree_syntax.specs.Tree.{locals_of, stmts_of}
use Rattle.cilk_load_nodes.specs.labelled.Count.{count_locals, count_stmts}
use Rattle.cilk_load.specs.Firsts.{first_if, locals_first}
use Rattle.cilk_load.specs.BodyTables.{body_first}
use Rattle.cilk_load.proofs.building.body_first.Goals as goal

pub returns : goal.returns
returns c =
    let ls = locals_of c.block.inside.locals.items in
    let ss = stmts_of c.block.inside.stmts.items in
    let left : c.actions_of_stmts-stmts.result ≡ count_stmts ss =
    c.actions_of_stmts-stmts.ensures ∙ ap (λ (zs : List tree.Stmt). count_stmts (stmts_of zs)) c.deref-2.ensures.value
    in
    let size : c.actions_of_locals.result ≡ count_locals ls =
    c.actions_of_locals.ensures ∙ ap (λ (zs : List tree.Local). count_locals (locals_of zs)) c.deref.ensures.value
    in
    let behind : c.args.at + c.actions_of_locals.result ≡ c.args.at + count_locals ls = omega (arith, size) in
    let end : c.args.at + c.actions_of_locals.result + c.actions_of_stmts-stmts.result ≡ c.args.at + (count_locals ls + count_stmts ss) = omega
    (arith, size, left) in
    c.locals_first.ensures
    ∙ (λ i. locals_first c.args.at (locals_of (c.deref-3.ensures.value i)) ((c.first_if-first.ensures ∙ (λ j. first_if (left j) (behind j) (Some (end j)))) i))
    ∙ ap (body_first c.args.at) c.block.view_is
