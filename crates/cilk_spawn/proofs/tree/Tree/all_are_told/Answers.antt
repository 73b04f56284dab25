use Rattle.std.proofs.Common.{ℕ, arith, below_more}
use Rattle.cilk_spawn.specs.Alike.{SameNode}
use Rattle.cilk_spawn.proofs.Compared.{living_there, each_living, place_more, roots_are_partners}
use Rattle.cilk_spawn.proofs.tree.Tree.all_are_told.Goals as goal

pub told-requires-clause-here : goal.told-requires-clause-here
told-requires-clause-here c =
    let rs = c.self.inside.records.items in
    let ids = c.self.inside.living.items in
    let long = c.self.inside.living.ok.0 in
    living_there rs ids c.args.self.now c.self.view_is c.self.invariant c.loop-k.k c.index-here.result.now (omega (arith, long)) c.index-here.ensures

pub loop-k-init : goal.loop-k-init
loop-k-init c = record {
  each = λ k lt. absurd (omega (arith, lt));
  near = record {
    path = roots_are_partners c.self.inside.records.items c.other.inside.records.items c.self.inside.living.items c.other.inside.living.items
        c.args.self.now c.args.other.now c.self.view_is c.other.view_is c.self.invariant c.other.invariant c.new-near.result c.new-by.result c.new-near.ensures
        c.new-by.ensures;
  };
}

pub loop-k-preserved : goal.loop-k-preserved
loop-k-preserved c =
    let ids = c.self.inside.living.items in
    let long = c.self.inside.living.ok.0 in
    record {
      each = below_more _ _ c.loop-k.invariant.each
          (place_more ids (λ i. (j : ℕ) × SameNode c.args.self.now.nodes c.args.other.now.nodes i j) c.loop-k.k c.index-here.result.now (omega (arith, long))
          c.index-here.ensures (c.in-Some.to, c.in-Some.ensures.same));
      near = record { path = c.in-Some.ensures.same.path };
    }

pub returns : goal.returns
returns c = λ e.
    let ids = c.self.inside.living.items in
    let long = c.self.inside.living.ok.0 in
    each_living c.self.inside.records.items ids c.args.self.now c.self.view_is c.self.invariant
    (λ i. (j : ℕ) × SameNode c.args.self.now.nodes c.args.other.now.nodes i j) (λ k lt. c.loop-k.invariant.each k (omega (arith, long, lt)))
