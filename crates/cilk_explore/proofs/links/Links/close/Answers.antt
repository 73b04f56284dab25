use Rattle.std.proofs.Common.{◌∷◌, ◌++◌, [], is_ok, ap, ◌∙◌}
use Rattle.cilk_explore.specs.Links.{Linkage}
use Rattle.cilk_explore.proofs.LinkLists.{ends-closed, view-close, on-made}
use Rattle.cilk_explore.proofs.links.Links.close.Goals as goal
use Rattle.cilk_explore.proofs.links.Links.close.Goals.{in-Ok, in-Err}

pub invariant_of-self : goal.invariant_of-self
invariant_of-self c =
    ends-closed (is_ok c.push.result) c.self.inside.ends.items c.self.inside.numbers.items c.push.new.self.items c.len-end.result
    (c.len-end.ensures ∙ c.self.inside.numbers.ok.0) c.push.ensures.items c.self.invariant

pub returns : goal.returns
returns c = elim c.match-push.branch [
  | in-Ok w ↦
      on-made _ _ w.result-is
      (view-close c.self.inside.ends.items c.self.inside.numbers.items c.push.new.self.items c.len-end.result
      (c.len-end.ensures ∙ c.self.inside.numbers.ok.0) w.in-Ok.ensures.items
      ∙ ap (λ (l : Linkage). let done : Linkage = record { past = l.past ++ l.here ∷ []; here = [] } in done) c.self.view_is)
  | in-Err w ↦ rw w.result-is tt
]
