use Rattle.cilk_view.proofs.Entries.{tells_root, link_is}
use Rattle.cilk_view.proofs.entry.add_name.Goals as goal

pub returns-in_ok-add_text-in-None : goal.returns-in_ok-add_text-in-None
returns-in_ok-add_text-in-None c =
    tells_root c.args.links.now c.add_text-in-None.result c.args.entries.now.items c.add_text.new.entries.items c.add_text-in-None.new.entries.items
    c.args.id _ _
    (link_is c.args.links.now c.args.id c.number.result _ _ c.number.ensures c.requires c.in-None.is) c.in_ok-from_str-in-None.ensures.ok
    (c.in_ok-add_text-in-None.ensures c.args.links.now) (c.add_text-in-None.ensures c.args.links.now)
