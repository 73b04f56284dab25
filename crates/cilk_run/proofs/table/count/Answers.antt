use Rattle.std.proofs.Common.{refl, sym, subst, ap, ◌<◌, ◌-◌, ◌+◌, ◌^◌, ◌∙◌, length, slice_index, slice_set, arith}
use Rattle.std.proofs.lemmas.List.{get_or_read_under}
use Rattle.cilk_run.proofs.table.count.Goals as goal

pub overflow_add-index_mut : goal.overflow_add-index_mut
overflow_add-index_mut c =
    let ts = c.args.turns.now.items in
    let i = c.from.result - 1 in
    let there : i < length ts = omega (arith, c.requires.there, c.from.ensures) in
    let read = get_or_read_under ts i (length ts) c.index_mut.result.now 0 c.index_mut.ensures.value there refl in
    let room = subst (λ w. slice_index ts (w - 1) < 2 ^ 64 - 1) (sym c.from.ensures) c.requires.room in
    omega (arith, read, room)

pub returns : goal.returns
returns c =
    let ts = c.args.turns.now.items in
    let i = c.from.result - 1 in
    let there : i < length ts = omega (arith, c.requires.there, c.from.ensures) in
    let read = get_or_read_under ts i (length ts) c.index_mut.result.now 0 c.index_mut.ensures.value there refl in
    ap (λ v. slice_set ts i (v + 1)) read ∙ ap (λ w. slice_set ts (w - 1) (slice_index ts (w - 1) + 1)) c.from.ensures
