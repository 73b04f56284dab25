use Rattle.std.proofs.Common.{length}
use Rattle.std.proofs.lemmas.Option.{IfSome_then}
use Rattle.cilk_view.specs.Entries.{entries_text}
use Rattle.cilk_view.proofs.Tellings.{links_up, none_named, first_there, begun_told, told_more, fewer, here_there, told_all}
use Rattle.cilk_view.proofs.tree_telling.tree_entries.Goals as goal

pub loop-at-init : goal.loop-at-init
loop-at-init c =
    let ns = c.args.shown.now.tree.now.nodes in
    let t = c.next_id-next.ensures.tree in (
      none_named c.args.links.now c.new-entries.result.items c.new-entries.ensures.items,
      (
        first_there ns c.new.result t c.new.ensures,
        λ f tells. begun_told ns c.args.links.now c.new-entries.result.items c.new.result f t c.new-entries.ensures.items c.new.ensures,
      ),
    )

pub follower-at-requires : goal.follower-at-requires
follower-at-requires c = links_up c.args.shown.now.tree.now.nodes c.args.links.now c.next_id-next.ensures.tree c.requires.links

pub add_line-requires-clause-there : goal.add_line-requires-clause-there
add_line-requires-clause-there c = here_there (length c.args.shown.now.tree.now.nodes) c.loop-at.at c.in-Some.id c.in-Some.is c.loop-at.invariant.1.0

pub loop-at-preserved : goal.loop-at-preserved
loop-at-preserved c =
    let ns = c.args.shown.now.tree.now.nodes in
    let there = here_there (length ns) c.loop-at.at c.in-Some.id c.in-Some.is c.loop-at.invariant.1.0 in (
      c.in_ok-add_line-in-Some.ensures.named c.loop-at.invariant.0,
      (
        IfSome_then c.follower-at.result c.follower-at.ensures.there (λ next h. h ns c.requires.kin),
        told_more c.args.shown.now.loaded.now ns c.args.shown.now.hands.now c.args.links.now c.loop-at.entries.items c.add_line.new.entries.items c.loop-at.at
            c.in-Some.id c.follower-at.result c.in-Some.is there c.in_ok-add_line-in-Some.ensures
            (c.follower-at.ensures.rest ns c.next_id-next.ensures.tree c.requires.links c.requires.kin there) c.loop-at.invariant.1.1,
      ),
    )

pub loop-at-smaller : goal.loop-at-smaller
loop-at-smaller c =
    let ns = c.args.shown.now.tree.now.nodes in
    fewer ns c.loop-at.at c.in-Some.id c.follower-at.result c.in-Some.is
    (c.follower-at.ensures.rest ns c.next_id-next.ensures.tree c.requires.links c.requires.kin
    (here_there (length ns) c.loop-at.at c.in-Some.id c.in-Some.is c.loop-at.invariant.1.0))

pub returns-in-None-clause-told : goal.returns-in-None-clause-told
returns-in-None-clause-told c = λ f tells.
    told_all (entries_text c.args.links.now c.loop-at.entries.items) _ c.args.shown.now.tree.now.nodes f c.loop-at.at c.in-None.is
    (c.loop-at.invariant.1.1 f tells)
