-- Numbers from 1 on that pass a test, one number after another.
use Rattle.std.proofs.Common.{◌≡◌, ◌≢◌, ℕ, suc, ◌+◌, ◌≤◌, Bool, true, false, List, [], ◌∷◌, ◌++◌, length, cond, Some, None, sym, ap, ◌∙◌, arith}
use Rattle.std.specs.Prelude.{filter, is_none}
use Rattle.std.proofs.lemmas.List.{length-append}
use Rattle.std.proofs.lemmas.List.Elements.{filter-append}
use Rattle.cilk_run.specs.choices.Words.{act_of, reason_of}
use Rattle.cilk_run.specs.choices.declared.act.Act.{Act}
use Rattle.cilk_run.specs.choices.declared.refusal.Refusal.{Refusal}
use Rattle.cilk_run.specs.choices.declared.refusal.Refusal.TheVariants.{Memory}
use Rattle.cilk_run.specs.labelled.Bodies.{label}
use Rattle.cilk_run.specs.machine.Made.{IsRefused}
use Rattle.cilk_run.specs.machine.Situation.{Situation}
use Rattle.cilk_run.specs.machine.Stands.{StandsAt}
use Rattle.cilk_run.specs.model.End.{numbers}
use Rattle.cilk_run.specs.model.Run.{Standing}
use Rattle.cilk_run.specs.Drawn.{can}
use Rattle.cilk_run.proofs.machine_laws.Unseen.{reason-some}

found_more : (test : ℕ → Bool) (n : ℕ) (b : Bool) → b ≡ test (n + 1)
    → filter test (numbers n) ++ cond b ((n + 1) ∷ []) [] ≡ filter test (numbers (n + 1))
found_more test n b is =
    let next : n + 1 ≡ suc n = omega arith in
    ap (λ c. filter test (numbers n) ++ cond c ((n + 1) ∷ []) []) is
    ∙ ap (λ m. filter test (numbers n) ++ cond (test m) (m ∷ []) []) next
    ∙ sym (filter-append test (numbers n) (suc n ∷ []))
    ∙ ap (λ m. filter test (numbers m)) (sym next)

-- one number more
pub next-found : (test : ℕ → Bool) (n : ℕ) (xs ys : List ℕ) (b : Bool) → b ≡ test (n + 1) → xs ≡ filter test (numbers n)
    → ys ≡ xs ++ cond b ((n + 1) ∷ []) [] → ys ≡ filter test (numbers (n + 1))
next-found test n xs ys b is so_far grown =
    grown ∙ ap (λ zs. zs ++ cond b ((n + 1) ∷ []) []) so_far ∙ found_more test n b is

pub few-found : (n : ℕ) (xs ys : List ℕ) (b : Bool) → length xs ≤ n → ys ≡ xs ++ cond b ((n + 1) ∷ []) [] → length ys ≤ n + 1
few-found n xs ys true few grown = let e = length-append xs ((n + 1) ∷ []) in omega (arith, ap length grown, e, few)
few-found n xs ys false few grown = let e = length-append xs [] in omega (arith, ap length grown, e, few)

-- what is not refused may be done
pub can-so : (m : Situation) (w : ℕ) (act : Act) → IsRefused m (record { worker = w; act = act_of act }) None → (at : Standing) → StandsAt m at
    → true ≡ can (label m.program) at w (act_of act)
can-so m w act free at s = sym (ap is_none (free at s))

pub can-not : (m : Situation) (w : ℕ) (act : Act) (r : Refusal) → Some r ≢ Some Memory → IsRefused m (record { worker = w; act = act_of act }) (reason_of r)
    → (at : Standing) → StandsAt m at → false ≡ can (label m.program) at w (act_of act)
can-not m w act r told refused at s = sym (ap is_none (refused at s) ∙ reason-some r told)
