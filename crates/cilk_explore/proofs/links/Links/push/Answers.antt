use Rattle.std.proofs.Common.{◌∷◌, ◌++◌, [], is_ok, ap, ◌∙◌}
use Rattle.cilk_explore.specs.Links.{Linkage}
use Rattle.cilk_explore.proofs.LinkLists.{ends-if, view-push, on-made}
use Rattle.cilk_explore.proofs.links.Links.push.Goals as goal
use Rattle.cilk_explore.proofs.links.Links.push.Goals.{in-Ok, in-Err}

pub invariant_of-self : goal.invariant_of-self
invariant_of-self c =
    ends-if (is_ok c.push.result) c.self.inside.ends.items c.self.inside.numbers.items c.push.new.self.items c.args.number c.push.ensures.items
    c.self.invariant

pub returns : goal.returns
returns c = elim c.match-push.branch [
  | in-Ok w ↦
      on-made _ _ w.result-is
      (view-push c.self.inside.ends.items c.self.inside.numbers.items c.push.new.self.items c.args.number w.in-Ok.ensures.items c.self.invariant
      ∙ ap (λ (l : Linkage). let more : Linkage = record l { here = l.here ++ c.args.number ∷ [] } in more) c.self.view_is)
  | in-Err w ↦ rw w.result-is tt
]
