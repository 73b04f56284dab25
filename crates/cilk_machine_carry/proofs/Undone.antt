-- What finds no memory is undone.
use Rattle.std.proofs.Common.{◌≡◌, ℕ, zero, suc, ◌-◌, Bool, List, [], ◌∷◌, ◌++◌, length, Option, Some, refl, ap, ◌∙◌, slice_set}
use Rattle.std.specs.Prelude.{slice_index_or}
use Rattle.std.proofs.lemmas.List.{length-set}
use Rattle.cilk_machine_plan.specs.model.Hands.{WorkerOf, IsWorker, hand_of, deque_of, with_deque, bottom_of, above_bottom}
use Rattle.cilk_machine_plan.specs.frame.Frames.{Activation, Frame, no_activation, depth, activation_at, top_of, jumped, with_boundary}
use Rattle.cilk_machine_plan.proofs.frame_laws.Bottoms.{bottom_of-push, above_bottom-push}
use Rattle.cilk_machine_plan.proofs.sched_laws.Seats.{deque-same, hand-kept}
use Rattle.cilk_machine_plan.proofs.agree_laws.Frames.{set_again, given-back}

jump-again : (xs : List Activation) (k n : ℕ)
    → (let ys : List Activation = slice_set xs k (record (slice_index_or xs k no_activation) { node = n }) in
    slice_set ys k (record (slice_index_or ys k no_activation) { node = (slice_index_or xs k no_activation).node })) ≡ xs
jump-again [] k n = refl
jump-again (x ∷ xs) zero n = refl
jump-again (x ∷ xs) (suc k) n = λ i. x ∷ jump-again xs k n i

jump-undone : (to : ℕ) (b : Bool) (f : Frame) → with_boundary f.boundary (jumped (top_of f).node (with_boundary b (jumped to f))) ≡ f
jump-undone to b f =
    let xs = f.activations in
    let last = length xs - 1 in
    let ys : List Activation = slice_set xs last (record (slice_index_or xs last no_activation) { node = to }) in
    let size : length ys - 1 ≡ last = ap (λ k. k - 1) (length-set xs last (record (slice_index_or xs last no_activation) { node = to })) in
    (λ i. record f {
      activations = slice_set ys (size i) (record (slice_index_or ys (size i) no_activation) { node = (slice_index_or xs last no_activation).node });
    })
    ∙ ap (λ zs. record f { activations = zs }) (jump-again xs last to)

-- a jump from where the frame stood, back
pub undone : (f g x : Frame) (to n d : ℕ) (b c : Bool) → g ≡ with_boundary c (jumped to f) → d ≡ depth f → n ≡ (activation_at f (d - 1)).node
    → b ≡ f.boundary → x ≡ with_boundary b (jumped n g) → x ≡ f
undone f g x to n d b c past deep at flag is =
    is ∙ (λ i. with_boundary (flag i) (jumped ((at ∙ ap (λ k. (activation_at f (k - 1)).node) deep) i) (past i))) ∙ jump-undone to c f

deque-again : (places : List (WorkerOf Frame)) (w : ℕ) (deque : List Frame) → IsWorker places w
    → with_deque (with_deque places w deque) w (deque_of places w) ≡ places
deque-again places w deque worker =
    (λ i. slice_set (with_deque places w deque) (w - 1) (record { hand = hand-kept places w deque worker i; deque = deque_of places w }))
    ∙ set_again places (w - 1) (record { hand = hand_of places w; deque = deque }) (record { hand = hand_of places w; deque = deque_of places w })
    ∙ given-back places w

module _ (places now : List (WorkerOf Frame)) (w : ℕ) (g : Frame) (worker : IsWorker places w)
    (pushed : now ≡ with_deque places w (deque_of places w ++ g ∷ [])) where
  deque-now : deque_of now w ≡ deque_of places w ++ g ∷ []
  deque-now = ap (λ x. deque_of x w) pushed ∙ deque-same places w (deque_of places w ++ g ∷ []) worker

  pub bottom-now : (o : Option Frame) → o ≡ bottom_of (deque_of now w) → o ≡ Some g
  bottom-now o is = is ∙ ap bottom_of deque-now ∙ bottom_of-push (deque_of places w) g

  pub popped-again : (back : List (WorkerOf Frame)) → back ≡ with_deque now w (above_bottom (deque_of now w)) → back ≡ places
  popped-again back is =
      is ∙ (λ i. with_deque (pushed i) w ((ap above_bottom deque-now ∙ above_bottom-push (deque_of places w) g) i))
      ∙ deque-again places w (deque_of places w ++ g ∷ []) worker
