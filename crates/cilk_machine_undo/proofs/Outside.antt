-- What was changed outside the hands and the tree is put back.
use Rattle.std.proofs.Common.{◌≡◌, ◌<◌, ◌+◌, ◌++◌, ℕ, ℤ, Bool, true, false, nat_eq, List, length, map, refl, sym, ap, ◌∙◌, subst, arith, slice_set}
use Rattle.std.proofs.Common.{take_at, inl, inr}
use Rattle.std.specs.Prelude.{slice_index_or, if◌then◌else◌}
use Rattle.std.proofs.lemmas.List.{length-map}
use Rattle.std.proofs.Math.ListN.{get_or-map}
use Rattle.std.proofs.lemmas.Bool.Decides.{nat_tests}
use Rattle.cilk_machine_plan.specs.eval.declared.reached.Reached.{Reached}
use Rattle.cilk_machine_plan.specs.frame.Frames.{Frame}
use Rattle.cilk_machine_plan.specs.frame.Cells.{globals_put}
use Rattle.cilk_machine_plan.specs.agree.declared.lock.Lock.{Lock}
use Rattle.cilk_machine_plan.specs.agree.declared.lock.Lock.TheVariants.{Unset, Free, Held}
use Rattle.cilk_machine_plan.specs.agree.Laws.{released}
use Rattle.cilk_machine_plan.specs.agree.Outside as outside
use Rattle.cilk_machine_plan.specs.agree.Outside.{Outside}
use Rattle.cilk_machine_undo.specs.Writes.{all_set}
use Rattle.cilk_machine_undo.specs.Frames.{held_at}
use Rattle.cilk_machine_undo.specs.Undo.{outside_before, held_again}
use Rattle.cilk_machine_undo.specs.Undo as undo
use Rattle.cilk_machine_plan.specs.agree.Locks.{is_held_by}
use Rattle.cilk_machine_undo.specs.Records.{locks_of}
use Rattle.cilk_machine_undo.proofs.Back.{came_back, IsIn, Comes, all_set-is, all_back, is_in, passes}
use Rattle.cilk_machine_undo.proofs.Frames.{globals-back}

is-holder : (k : ℕ) (l : Lock) → is_held_by k l ≡ true → Held k ≡ l
is-holder k Unset e = cc
is-holder k Free e = cc
is-holder k (Held j) e = ap Held (grind (arith, nat_tests))

kept-by : (j : ℕ) (b : Bool) → b ≡ false → (if b then Free else Held j) ≡ Held j
kept-by j true e = cc
kept-by j false e = refl

kept-lock : (k : ℕ) (l : Lock) → is_held_by k l ≡ false → released k l ≡ l
kept-lock k Unset e = refl
kept-lock k Free e = refl
kept-lock k (Held j) e = kept-by j (nat_eq j k) e

came-lock : (k i : ℕ) (ks : List ℕ) (l : Lock) (b : Bool) → is_held_by k l ≡ b → (b ≡ true → IsIn i ks) → Comes (λ _. Held k) ks i (released k l) l
came-lock k i ks l true e there = inr (there refl, is-holder k l e)
came-lock k i ks l false e there = inl (kept-lock k l e)

module _ (o : Outside) (runs : o.outcome ≡ outside.running) where
  -- whatever the outcome became
  pub same-back : (p : outside.Outcome) → outside_before undo.nothing (record o { outcome = p }) ≡ o
  same-back p = λ i. record o { outcome = sym runs i }

  pub cell-back : (r : Reached) (z : ℤ) (f : Frame)
      → outside_before (undo.cell r (held_at r f o.cells)) (record o { cells = globals_put r.slot r.index z o.cells }) ≡ o
  cell-back r z f = λ i. record o { cells = globals-back r.slot.area (r.slot.offset + r.index) z f o.cells i; outcome = sym runs i }

  pub lock-back : (k : ℕ) (now : Lock) → outside_before (undo.lock k (slice_index_or o.locks k Unset)) (record o { locks = slice_set o.locks k now }) ≡ o
  lock-back k now = λ i. record o { locks = came_back Unset o.locks k now (λ _. slice_index_or o.locks k Unset) refl i; outcome = sym runs i }

  pub printed-back : (bytes : List ℕ) → outside_before (undo.printed (length o.output)) (record o { output = o.output ++ bytes }) ≡ o
  printed-back bytes = λ i. record o { output = take_at o.output bytes (length o.output) refl i; outcome = sym runs i }

  at-map : (k i : ℕ) → slice_index_or (map (released k) o.locks) i Unset ≡ released k (slice_index_or o.locks i Unset)
  at-map k i = get_or-map (released k) o.locks i Unset

  came-at : (k i : ℕ) → i < length o.locks
      → Comes (λ _. Held k) (locks_of k o.locks) i (released k (slice_index_or o.locks i Unset)) (slice_index_or o.locks i Unset)
      → Comes (λ _. Held k) (locks_of k o.locks) i (slice_index_or (map (released k) o.locks) i Unset) (slice_index_or o.locks i Unset)
  came-at k i h c = subst (λ (l : Lock). Comes (λ _. Held k) (locks_of k o.locks) i l (slice_index_or o.locks i Unset)) (sym (at-map k i)) c

  locks-back : (k : ℕ) → all_set (map (released k) o.locks) (locks_of k o.locks) (Held k) ≡ o.locks
  locks-back k =
      let test : ℕ → Bool = λ i. is_held_by k (slice_index_or o.locks i Unset) in
      all_set-is Unset (Held k) (locks_of k o.locks) (map (released k) o.locks)
      ∙ all_back Unset (λ _. Held k) (locks_of k o.locks) (map (released k) o.locks) o.locks (length-map o.locks (released k))
      (λ i h. let p = passes test (length o.locks) i h in (p.0, is-holder k (slice_index_or o.locks i Unset) p.1))
      (λ i h. came-at k i h
      (came-lock k i (locks_of k o.locks) (slice_index_or o.locks i Unset) (test i) refl (λ e. is_in test (length o.locks) i h e)))

  pub released-back : (k : ℕ) → held_again k (locks_of k o.locks) (record o { locks = map (released k) o.locks }) ≡ o
  released-back k = λ i. record o { locks = locks-back k i; outcome = sym runs i }
