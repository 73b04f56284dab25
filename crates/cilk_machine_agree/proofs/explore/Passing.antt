-- Where some frame of the workers passes a test.
use Rattle.std.proofs.Common.{◌≡◌, ◌<◌, ℕ, ◌+◌, Bool, true, false, cond, List, [], ◌∷◌, Option, Some, None, refl, arith}
use Rattle.std.specs.Prelude.{All, IfSome, count_by}
use Rattle.std.proofs.lemmas.List.Sums.{sum_by-cons}
use Rattle.std.proofs.lemmas.List.Elements.{All-head, All-tail}
use Rattle.cilk_machine_agree.specs.model.Hands.{WorkerOf}
use Rattle.cilk_machine_agree.specs.frame.Frames.{Frame}
use Rattle.cilk_machine_agree.specs.sched.Count as hands
use Rattle.cilk_machine_agree.specs.sched.Count.{once, count_where, AllAt, AllHeld}

module _ (P : Frame → Type 0) (test : Frame → Bool) where
  pub record Passes : Type 0 where
    pub frame : Frame
    pub passes : test frame ≡ true
    pub holds : P frame

  by_test : (f : Frame) (b : Bool) → test f ≡ b → P f → (n : ℕ) → 0 < cond b 1 0 + n → (0 < n → Passes) → Passes
  by_test f true is here n some rest = record { frame = f; passes = is; holds = here }
  by_test f false is here n some rest = rest (omega (arith, some))

  in-hand : (hand : Option Frame) → IfSome hand P → (n : ℕ) → 0 < once test hand + n → (0 < n → Passes) → Passes
  in-hand None here n some rest = rest (omega (arith, some))
  in-hand (Some f) here n some rest = by_test f (test f) refl here n some rest

  in-deque : (deque : List Frame) → All P deque → (n : ℕ) → 0 < count_by test deque + n → (0 < n → Passes) → Passes
  in-deque [] all n some rest = rest (omega (arith, some))
  in-deque (f ∷ deque) all n some rest =
      by_test f (test f) refl (All-head P f deque all) (count_by test deque + n)
      (omega (arith, some, sum_by-cons (λ (g : Frame). cond (test g) 1 0) f deque))
      (λ more. in-deque deque (All-tail P f deque all) n more rest)

  pub in-places : (places : List (WorkerOf Frame)) → AllHeld P places → 0 < count_where test places → Passes
  in-places [] all some = absurd (omega (arith, some))
  in-places (at ∷ places) all some =
      let here = All-head (AllAt P) at places all in
      in-hand at.hand here.0 (count_by test at.deque + count_where test places)
      (omega (arith, some, sum_by-cons (hands.times_held test) at places))
      (λ more. in-deque at.deque here.1 (count_where test places) more (in-places places (All-tail (AllAt P) at places all)))

-- one that lives and is not parked is in a place
pub some_placed : (n : ℕ) (parked live : Bool) → n + cond parked 1 0 ≡ cond live 1 0 → live ≡ true → parked ≡ false → 0 < n
some_placed n true live e lives free = cc
some_placed n false true e lives free = omega (arith, e)
some_placed n false false e lives free = cc
