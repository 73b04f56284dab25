use Rattle.std.proofs.Common.{◌<◌, ◌∙◌, Some, [], ◌∷◌, ap, arith, length, length-append}
use Rattle.cilk_view.proofs.Ups.{path_step}
use Rattle.cilk_view.proofs.Entries.{up_more, link_is}
use Rattle.cilk_view.proofs.spot.climb.Goals as goal

pub loop-link-preserved : goal.loop-link-preserved
loop-link-preserved c =
    let low = c.loop-link.invariant.1.0 in
    let there : c.loop-link.at < length c.args.links.now = let h = c.requires.there in omega (arith, low, h) in
    let is = link_is c.args.links.now c.loop-link.at c.number.result _ (Some c.in-Some.link) c.number.ensures there c.in-Some.is in
    let step = path_step c.args.links.now c.loop-link.at c.in-Some.link c.requires.up is in
    let long = ap length c.push_reserved.ensures.items in (
      up_more c.args.links.now c.loop-link.at c.in-Some.link c.loop-link.numbers.items c.push_reserved.new.self.items _ c.requires.up is
          c.push_reserved.ensures.items c.loop-link.invariant.0,
      (
        let below = step.1 in let grown = length-append c.loop-link.numbers.items (c.in-Some.link.ordinal ∷ []) in omega (arith, low, below, long, grown),
        c.push_reserved.ensures.capacity ∙ c.loop-link.invariant.1.1,
      ),
    )
