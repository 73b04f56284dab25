-- Each choice is counted once.
use Rattle.std.proofs.Common.{◌≡◌, ℕ, ◌+◌, Bool, true, false, not, cond, ◌&&◌, List, [], ◌∷◌, length, refl, arith}
use Rattle.std.specs.Prelude.{count_by}
use Rattle.std.proofs.lemmas.List.Sums.{sum_by-cons}
use Rattle.cilk_log_replay.specs.machine.nodes.model.Choice.{Act, step, pop, steal}
use Rattle.cilk_races.specs.Deeds.{Deed, is_step, is_pop, is_steal, only_moves, is_work, is_park, pops, steals}

abbrev one : Bool → ℕ
one b = cond b 1 0

one_each : (act : Act) (moves : Bool)
    → one (is_step act && not moves) + (one (is_steal act) + (one (is_pop act) + one (is_step act && moves))) ≡ 1
one_each step true = refl
one_each step false = refl
one_each pop true = refl
one_each pop false = refl
one_each (steal victim) true = refl
one_each (steal victim) false = refl

pub once : (deeds : List Deed) → count_by is_work deeds + (count_by steals deeds + (count_by pops deeds + count_by is_park deeds)) ≡ length deeds
once [] = refl
once (d ∷ deeds) =
    let act = d.choice.act in
    let moves = only_moves d.did in
    let k = once deeds in
    let a : count_by is_work (d ∷ deeds) ≡ one (is_work d) + count_by is_work deeds = sum_by-cons (λ (x : Deed). cond (is_work x) 1 0) d deeds in
    let b : count_by steals (d ∷ deeds) ≡ one (steals d) + count_by steals deeds = sum_by-cons (λ (x : Deed). cond (steals x) 1 0) d deeds in
    let c : count_by pops (d ∷ deeds) ≡ one (pops d) + count_by pops deeds = sum_by-cons (λ (x : Deed). cond (pops x) 1 0) d deeds in
    let e : count_by is_park (d ∷ deeds) ≡ one (is_park d) + count_by is_park deeds = sum_by-cons (λ (x : Deed). cond (is_park x) 1 0) d deeds in
    let sum = one_each act moves in
    omega (arith, a, b, c, e, k, sum)
