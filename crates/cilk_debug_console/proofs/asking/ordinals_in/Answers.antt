use Rattle.std.proofs.Common.{ℕ, List, [], ◌∷◌, map, Bor, Some, ap, sym, ◌∙◌, rules, tests}
use Rattle.std.proofs.lemmas.Iterator.Consumers.{YieldsList-turn, YieldsList-end}
use Rattle.std.proofs.lemmas.Iterator.Splits.{YieldsList-from_slice_split}
use Rattle.std.specs.List.{slice_split}
use Rattle.std.specs.Slice.Iter.{split_rest, split_done, split_callee}
use Rattle.std.proofs.lemmas.List.{map-append}
use Rattle.std.specs.Prelude.{◌==◌}
use Rattle.cilk_debug_console.specs.Asking.{ordinals_in}
use Rattle.cilk_debug_console.proofs.Ordinals.{one_more, none_there}
use Rattle.cilk_debug_console.proofs.asking.ordinals_in.Goals as goal

pub loop-ordinal-init : goal.loop-ordinal-init
loop-ordinal-init c = ap Some (sym c.new-numbers.ensures.items)

pub returns-in-None-ordinal_in : goal.returns-in-None-ordinal_in
returns-in-None-ordinal_in c =
    let same = c.into_iter-ordinal-iterator.ensures.into_iter_gives in
    let t = YieldsList-turn
    (YieldsList-from_slice_split _ _ c.args.text.now (ap split_rest same ∙ c.split-ordinal-items.ensures.rest)
    (ap split_done same ∙ c.split-ordinal-items.ensures.done)
    (ap split_callee same ∙ c.split-ordinal-items.ensures.closure) (λ x r q k. search (rules, tests)))
    c.loop-ordinal.yielded _ c.loop-ordinal.yielded_by _ _ c.in-Some.ordinal c.in-Some.is c.next.ensures.steps in
    none_there (slice_split (λ b. b == 47) c.args.text.now) _ c.in-Some.ordinal.now t (sym c.in-None-ordinal_in.is ∙ c.ordinal_in.ensures)

pub loop-ordinal-preserved : goal.loop-ordinal-preserved
loop-ordinal-preserved c =
    ap ordinals_in (map-append (λ (t : Bor (List ℕ)). t.now) c.loop-ordinal.yielded (c.in-Some.ordinal ∷ []))
    ∙ one_more (map (λ (t : Bor (List ℕ)). t.now) c.loop-ordinal.yielded) c.in-Some.ordinal.now c.loop-ordinal.numbers.items
    c.in-Some-ordinal_in.number c.loop-ordinal.invariant (sym c.in-Some-ordinal_in.is ∙ c.ordinal_in.ensures)
    ∙ ap Some (sym c.in_ok-push-in-Some-ordinal_in.ensures.items)

pub returns : goal.returns
returns c =
    let same = c.into_iter-ordinal-iterator.ensures.into_iter_gives in
    let t = YieldsList-end
    (YieldsList-from_slice_split _ _ c.args.text.now (ap split_rest same ∙ c.split-ordinal-items.ensures.rest)
    (ap split_done same ∙ c.split-ordinal-items.ensures.done)
    (ap split_callee same ∙ c.split-ordinal-items.ensures.closure) (λ x r q k. search (rules, tests)))
    c.loop-ordinal.yielded _ c.loop-ordinal.yielded_by _ _ c.in-None.is c.next.ensures.steps in
    ap Some c.new.ensures ∙ sym c.loop-ordinal.invariant ∙ ap ordinals_in t.0
