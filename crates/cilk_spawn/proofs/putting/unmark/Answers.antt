use Rattle.std.proofs.Common.{◌<◌, ◌++◌, ◌∷◌, [], ℕ, length, take, ap, sym, ◌∙◌, subst, arith}
use Rattle.std.proofs.lemmas.List.{take_more}
use Rattle.cilk_spawn.specs.Records.{nodes_of}
use Rattle.cilk_spawn.specs.Undone.{unmark, unmarked}
use Rattle.cilk_spawn.proofs.InPlace.{at_there}
use Rattle.cilk_spawn.proofs.Records.{At, alike_set, changed_is}
use Rattle.cilk_spawn.proofs.Undone.{unmarked_more}
use Rattle.cilk_spawn.proofs.putting.unmark.Goals as goal

pub loop-id-preserved : goal.loop-id-preserved
loop-id-preserved c =
    let rs = c.args.records.now.items in
    let now = c.loop-id.records.items in
    let ids = c.args.ids.now in
    let at = c.loop-id.id-index in
    let i = c.id-item.result in
    let inside : i < length rs = subst (λ (k : ℕ). k < length rs) (sym c.id-item.is) (c.requires at i c.loop-id-test.true) in
    let there : At now c.number.result c.index_mut.result.now =
    at_there now c.number.result i c.index_mut.result.now c.number.ensures c.index_mut.ensures.value (omega (arith, inside, c.loop-id.invariant.alike.len)) in
    record {
      nodes =
          changed_is now (unmarked (nodes_of rs) (take at ids)) c.number.result i c.index_mut.result.now c.unmark.new.self unmark there
          c.loop-id.invariant.nodes c.number.ensures c.unmark.ensures.node
          ∙ sym (unmarked_more (nodes_of rs) (take at ids) i)
          ∙ ap (unmarked (nodes_of rs)) (sym (take_more ids at i c.loop-id-test.true ∙ ap (λ (j : ℕ). take at ids ++ j ∷ []) (sym c.id-item.is)));
      alike = alike_set rs now c.number.result c.index_mut.result.now c.unmark.new.self c.loop-id.invariant.alike there c.unmark.ensures.beside;
    }
