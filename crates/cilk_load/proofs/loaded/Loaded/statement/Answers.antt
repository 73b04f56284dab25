use Rattle.std.proofs.Common.{◌≡◌, suc, List, rules, ap, sym, ◌∙◌, arith}
use Rattle.std.specs.Prelude.{slice_get, option_copied}
use Rattle.cilk_load.specs.nodes.Table.{node_of}
use Rattle.cilk_load.specs.nodes.declared.node.Node.{Node}
use Rattle.cilk_load.proofs.Got.{got}
use Rattle.cilk_load.proofs.loaded.Loaded.statement.Goals as goal

pub returns-in_err-index-clause-value : goal.returns-in_err-index-clause-value
returns-in_err-index-clause-value c =
    let zero : 0 ≡ c.args.n = omega (arith, c.in_err-index.ensures) in
    let is : c.tables.inside.program ≡ c.args.self.now = search rules in
    ap option_copied c.from_residual.ensures ∙ sym c.tables.invariant.none_is_0 ∙ (λ i. node_of (is i) (zero i))

pub returns-clause-value : goal.returns-clause-value
returns-clause-value c =
    let next : suc c.in_ok-index.index ≡ c.args.n = omega (arith, c.in_ok-index.ensures.0, c.in_ok-index.ensures.1) in
    let is : c.tables.inside.program ≡ c.args.self.now = search rules in
    let found : option_copied c.get.result ≡ slice_get c.tables.inside.nodes.items c.in_ok-index.index =
    got c.as_slice-nodes.result.now c.in_ok-index.index c.get.result c.get.ensures.lookup.0 c.get.ensures.lookup.1
    ∙ ap (λ (ns : List Node). slice_get ns c.in_ok-index.index) c.as_slice-nodes.ensures.value
    in
    found ∙ c.tables.invariant.nodes_are c.in_ok-index.index ∙ (λ i. node_of (is i) (next i))
