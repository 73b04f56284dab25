use Rattle.std.proofs.Common.{◌+◌, ◌-◌, ◌<◌, ◌++◌, ◌∙◌, sym, ap, subst, arith, length, take, drop}
use Rattle.cilk_view.specs.Entries.{rest_text, left_text}
use Rattle.cilk_view.proofs.Entries.{entry_there, bytes_split, bytes_told, done_told, none_told, less_by_bytes, less_by_entry}
use Rattle.cilk_view.proofs.spot.tell_text.Goals as goal

pub returns-in-None-clause-end : goal.returns-in-None-clause-end
returns-in-None-clause-end c = λ _.
    none_told c.args.links.now c.args.entries.now c.args.spot.now.at c.args.spot.now.from c.args.spot.now.numbers.items c.requires.none
    c.in-None.ensures.lookup.3

pub returns-then-spot-text-clause-told : goal.returns-then-spot-text-clause-told
returns-then-spot-text-clause-told c =
    let there = c.in-Some.ensures.lookup.3 in
    let e = c.in-Some.entry.now in
    let front = c.split_at-then-spot-text.ensures.front
    ∙ ap (take c.min-count.result) (c.split_at.ensures.back ∙ ap (drop c.args.spot.now.from) c.as_bytes-text.ensures.value) in
    bytes_told c.args.links.now c.args.entries.now c.args.spot.now.at c.args.spot.now.from c.min-count.result e c.args.spot.now.numbers.items _
    c.args.portion.now c.put.new.self c.requires.none (entry_there c.args.entries.now c.args.spot.now.at e there.0 (there.1 e)) front c.put.ensures

pub returns-then-spot-text-clause-less : goal.returns-then-spot-text-clause-less
returns-then-spot-text-clause-less c = λ _.
    let there = c.in-Some.ensures.lookup.3 in
    let e = c.in-Some.entry.now in
    let front = c.split_at-then-spot-text.ensures.front
    ∙ ap (take c.min-count.result) (c.split_at.ensures.back ∙ ap (drop c.args.spot.now.from) c.as_bytes-text.ensures.value) in
    less_by_bytes (rest_text c.args.links.now c.args.entries.now c.args.spot.now)
    (left_text c.args.links.now c.args.entries.now c.args.spot.now.at (c.args.spot.now.from + c.min-count.result) c.args.spot.now.numbers.items)
    c.split_at-then-spot-text.result.0.now (length c.args.entries.now) c.args.spot.now.at
    (bytes_split c.args.links.now c.args.entries.now c.args.spot.now.at c.args.spot.now.from c.min-count.result e c.args.spot.now.numbers.items
    c.split_at-then-spot-text.result.0.now c.requires.none (entry_there c.args.entries.now c.args.spot.now.at e there.0 (there.1 e)) front)
    (let place = c.requires.place in let room = c.room.ensures in let count = c.min-count.ensures in let long = c.split_at-then-spot-text.ensures.front_len in
    let rest = c.split_at.ensures.back_len in let below = c.if-spot-text.true in
    omega (arith, place, room, count, long, rest, below, c.as_bytes-text.ensures.len))

pub returns-else-spot-text-clause-told : goal.returns-else-spot-text-clause-told
returns-else-spot-text-clause-told c =
    let there = c.in-Some.ensures.lookup.3 in
    let e = c.in-Some.entry.now in
    ap (λ t. c.args.portion.now ++ t)
    (done_told c.args.links.now c.args.entries.now c.args.spot.now.at c.args.spot.now.from e c.args.spot.now.numbers.items _ c.requires.none
    (entry_there c.args.entries.now c.args.spot.now.at e there.0 (there.1 e))
    (let past = c.if-spot-text.false in let all = ap length c.as_bytes-text.ensures.value in
    omega (arith, past, all, c.as_bytes-text.ensures.len)) c.begin.ensures.told)

pub returns-else-spot-text-clause-less : goal.returns-else-spot-text-clause-less
returns-else-spot-text-clause-less c = λ _.
    let there = c.in-Some.ensures.lookup.3 in
    let e = c.in-Some.entry.now in
    subst (λ at. length (rest_text c.args.links.now c.args.entries.now c.begin.new.spot) + (length c.args.entries.now - at)
    < length (rest_text c.args.links.now c.args.entries.now c.args.spot.now) + (length c.args.entries.now - c.args.spot.now.at)) (sym c.begin.ensures.at)
    (less_by_entry c.args.entries.now c.args.spot.now.at e (rest_text c.args.links.now c.args.entries.now c.args.spot.now)
    (rest_text c.args.links.now c.args.entries.now c.begin.new.spot) (entry_there c.args.entries.now c.args.spot.now.at e there.0 (there.1 e))
    (sym (done_told c.args.links.now c.args.entries.now c.args.spot.now.at c.args.spot.now.from e c.args.spot.now.numbers.items _ c.requires.none
    (entry_there c.args.entries.now c.args.spot.now.at e there.0 (there.1 e))
    (let past = c.if-spot-text.false in let all = ap length c.as_bytes-text.ensures.value in
    omega (arith, past, all, c.as_bytes-text.ensures.len)) c.begin.ensures.told)))
