use Rattle.std.proofs.Common.{Some, None, sym, ap, ◌∙◌, reverse}
use Rattle.cilk_machine_agree.specs.model.Path.{numbers_text}
use Rattle.cilk_view.specs.Entries.{name_text}
use Rattle.cilk_view.proofs.Entries.{begins_at, entry_there, entry_gone}
use Rattle.cilk_view.proofs.spot.begin.Goals as goal

pub returns-in-None-clause-told : goal.returns-in-None-clause-told
returns-in-None-clause-told c =
    begins_at c.args.links.now c.args.entries.now c.args.spot.now.at None c.args.spot.now.numbers.items
    (entry_gone c.args.entries.now c.args.spot.now.at c.in-None.ensures.lookup.3) (ap (λ ns. numbers_text (reverse ns)) c.requires.none)

pub returns-in-None-name-clause-told : goal.returns-in-None-name-clause-told
returns-in-None-name-clause-told c =
    let there = c.in-Some.ensures.lookup.3 in
    begins_at c.args.links.now c.args.entries.now c.args.spot.now.at (Some c.in-Some.entry.now) c.args.spot.now.numbers.items
    (entry_there c.args.entries.now c.args.spot.now.at c.in-Some.entry.now there.0 (there.1 c.in-Some.entry.now))
    (ap (λ ns. numbers_text (reverse ns)) c.requires.none ∙ ap (name_text c.args.links.now) (sym c.in-None-name.is))

pub returns-in-Some-name-clause-told : goal.returns-in-Some-name-clause-told
returns-in-Some-name-clause-told c =
    let there = c.in-Some.ensures.lookup.3 in
    begins_at c.args.links.now c.args.entries.now c.args.spot.now.at (Some c.in-Some.entry.now) c.climb.new.numbers.items
    (entry_there c.args.entries.now c.args.spot.now.at c.in-Some.entry.now there.0 (there.1 c.in-Some.entry.now))
    (ap numbers_text c.climb.ensures.path ∙ ap (name_text c.args.links.now) (sym c.in-Some-name.is))
