-- Idle workers with_more: what the others can do is as before, and what an idle one can do one of the others can that is idle too.
use Rattle.std.proofs.Common.{◌≡◌, ◌<◌, ◌≤◌, ◌-◌, inl, inr, ℕ, zero, suc, Bool, true, false, not, ◌||◌, ◌==◌, nat_le, List, [], ◌∷◌}
use Rattle.std.proofs.Common.{◌++◌, length, Option, Some, None, is_some, refl, sym, ap, subst, ◌∙◌, if◌then◌else◌, arith, slice_index_or, slice_set, swap}
use Rattle.std.proofs.Common.{replicate, length-append}
use Rattle.std.proofs.lemmas.Bool.{and_from, le-leb, cases_lt}
use Rattle.std.proofs.lemmas.List.{get_or_past, set-get_or}
use Rattle.std.proofs.lemmas.List.Sorted.{IsPermutation-append_left}
use Rattle.cilk_machine_agree.specs.labelled.Labelled.{Labelled}
use Rattle.cilk_machine_agree.specs.model.State.{Outcome, running, is_empty}
use Rattle.cilk_machine_agree.specs.model.Scheduler.{Worker, no_place, worker_at, hand_of, deque_of}
use Rattle.cilk_machine_agree.specs.model.Choice.{Act, step, pop, steal, Choice, Refusal, over, no_worker, busy, deque_empty}
use Rattle.cilk_machine_agree.specs.model.Run.{Standing, is_running, is_worker, step_refusal, steal_refusal, act_refusal, refusal_of, next_by, next_of}
use Rattle.cilk_machine_agree.proofs.runs_laws.Possible.{possible}
use Rattle.cilk_machine_agree.proofs.runs_laws.Stuck.{within}
use Rattle.cilk_machine_agree.proofs.runs_laws.Hands.{steal_free}
use Rattle.cilk_machine_agree.specs.explore.Names.{exchanged, renamed_act, renamed, SameButNames}
use Rattle.cilk_machine_agree.specs.explore.OrMore.{IsIdle, HasIdle, DoesAs, IdleDoAlike}
use Rattle.cilk_machine_agree.proofs.explore.Exchanges.{one_less, ThenAt, first, second, neither, place_now, swap_reads}
use Rattle.cilk_machine_agree.proofs.explore.Carried.{stealing, popping, step_carried, pop_carried, steal_carried}
use Rattle.cilk_machine_agree.proofs.explore.Renaming.{names_do_not_matter}
use Rattle.cilk_machine_agree.proofs.explore.ButNames.{renamed_next, names_again}

past_end : {X : Type 0} (xs : List X) (k m : ℕ) (d : X) → slice_index_or (xs ++ replicate k d) m d ≡ slice_index_or xs m d
past_end [] zero m d = refl
past_end [] (suc k) zero d = refl
past_end [] (suc k) (suc m) d = past_end [] k m d
past_end (x ∷ xs) k zero d = refl
past_end (x ∷ xs) k (suc m) d = past_end xs k m d

set_front : {X : Type 0} (xs more : List X) (m : ℕ) (y : X) → m < length xs → slice_set (xs ++ more) m y ≡ slice_set xs m y ++ more
set_front [] more m y lt = absurd (omega (arith, lt))
set_front (x ∷ xs) more zero y lt = refl
set_front (x ∷ xs) more (suc m) y lt = ap (λ zs. x ∷ zs) (set_front xs more m y (omega arith))

-- nothing is changed where two that are equal are exchanged
swap_same : {X : Type 0} (xs : List X) (i j : ℕ) (d : X) → i < length xs → j < length xs → slice_index_or xs i d ≡ slice_index_or xs j d → swap xs i j ≡ xs
swap_same xs i j d p q e =
    swap_reads xs i j d p q ∙ ap (λ y. slice_set (slice_set xs i y) j (slice_index_or xs i d)) (sym e)
    ∙ ap (λ ys. slice_set ys j (slice_index_or xs i d)) (set-get_or xs i d) ∙ ap (λ y. slice_set xs j y) e ∙ set-get_or xs j d

full_by : (x y e : Bool) → (if x then Some no_worker else (if y then Some busy else (if e then Some deque_empty else None))) ≡ None → e ≡ false
full_by true y e h = cc
full_by false true e h = cc
full_by false false true h = cc
full_by false false false h = refl

-- a worker with something in its deque is one
busy_worker : (places : List Worker) (w : ℕ) → 1 ≤ w → is_empty (deque_of places w) ≡ false → is_worker places w ≡ true
busy_worker places w one full = elim (cases_lt (w - 1) (length places)) [
  | inl lt ↦ and_from (nat_le 1 w) (nat_le w (length places)) (le-leb 1 w one) (le-leb w (length places) (omega arith))
  | inr le ↦
      let none : is_empty (deque_of places w) ≡ true = ap (λ (x : Worker). is_empty x.deque) (get_or_past places (w - 1) no_place le) in
      let both : true ≡ false = sym none ∙ full in
      cc
]

free_from : (program : Labelled) (at : Standing) (c : Choice) → at.state.outcome ≡ running → is_worker at.scheduler.places c.worker ≡ true
    → act_refusal program at c.worker c.act ≡ None → refusal_of program at c ≡ None
free_from program at c runs worker act =
    let decides : Bool → Bool → Option Refusal → Option Refusal = λ x y o. if not x then Some over else (if not y then Some no_worker else o) in
    ap (λ (o : Outcome). decides (is_running o) (is_worker at.scheduler.places c.worker) (act_refusal program at c.worker c.act)) runs
    ∙ ap (λ y. decides true y (act_refusal program at c.worker c.act)) worker ∙ act

-- two that have the same exchange their names, and nothing else
module _ (program : Labelled) (at : Standing) (u l : ℕ) (i : u < length at.scheduler.places) (j : l < length at.scheduler.places)
    (same : slice_index_or at.scheduler.places u no_place ≡ slice_index_or at.scheduler.places l no_place) where
  abbrev moves : List (ℕ × ℕ)
  moves = (u, l) ∷ []

  there_now : renamed moves at ≡ at
  there_now =
      ap (λ (ps : List Worker). record at { scheduler = record at.scheduler { places = ps } }) (swap_same at.scheduler.places u l no_place i j same)

  number_by : (r : ℕ) → ThenAt u l l r → r ≡ u
  number_by r (first e) = e
  number_by r (second ne e) = refl
  number_by r (neither a other) = absurd (other refl)

  abbrev by : ℕ → Act → Choice
  by k act = record { worker = suc k; act = act }

  pub does_as : (act : Act) → refusal_of program at (by l act) ≡ None → DoesAs program at (suc u) (by l act)
  does_as act free =
      let goes = names_do_not_matter program at moves (i, j, tt) (by l act) in
      let now = renamed_act moves act in
      let number : exchanged (u, l) l ≡ u = number_by (exchanged (u, l) l) (place_now u l l) in
      let led : renamed moves (next_of program at (by l act)) ≡ next_of program at (by u now) =
      sym (goes.next free) ∙ ap (λ (x : Standing). next_of program x (by (exchanged (u, l) l) now)) there_now
      ∙ ap (λ m. next_of program at (by m now)) number in
      record {
        act = now;
        free = ap (λ m. refusal_of program at (by m now)) (sym number)
            ∙ ap (λ (x : Standing). refusal_of program x (by (exchanged (u, l) l) now)) (sym there_now) ∙ goes.refusal ∙ free;
        next = subst (SameButNames (next_of program at (by l act))) led (renamed_next program at moves (by l act) (i, j, tt));
      }

idle_by : (program : Labelled) (at : Standing) (u l : ℕ) (act : Act) → IsIdle at u → IsIdle at l
    → refusal_of program at (record { worker = l; act = act }) ≡ None → DoesAs program at u (record { worker = l; act = act })
idle_by program at zero l act mine its free = let inside = within at.scheduler.places zero mine.there in absurd (omega (arith, inside.0))
idle_by program at (suc u) zero act mine its free = let inside = within at.scheduler.places zero its.there in absurd (omega (arith, inside.0))
idle_by program at (suc u) (suc l) act mine its free =
    let inside = within at.scheduler.places (suc u) mine.there in
    let other = within at.scheduler.places (suc l) its.there in
    let empty : slice_index_or at.scheduler.places u no_place ≡ slice_index_or at.scheduler.places l no_place =
    ap (λ m. slice_index_or at.scheduler.places m no_place) (sym (one_less u)) ∙ mine.idle
    ∙ sym (ap (λ m. slice_index_or at.scheduler.places m no_place) (sym (one_less l)) ∙ its.idle) in
    does_as program at u l (omega (arith, inside.1)) (omega (arith, other.1)) empty act free

pub idle_do_alike : IdleDoAlike
idle_do_alike program at worker choice mine its free = idle_by program at worker choice.worker choice.act mine its free

-- so many idle workers with_more
abbrev pub with_idle : ℕ → Standing → Standing
with_idle k at = record at { scheduler = record at.scheduler { places = at.scheduler.places ++ replicate k no_place } }

module _ (n k : ℕ) where
  abbrev pub with_more : List Worker → List Worker
  with_more places = places ++ replicate k no_place

  pub reads : (places : List Worker) (w : ℕ) → length places ≡ n → is_worker places w ≡ true → worker_at (with_more places) w ≡ worker_at places w
  reads places w size worker = past_end places k (w - 1) no_place

  pub writes : (places : List Worker) (w : ℕ) (x : Worker) → length places ≡ n → is_worker places w ≡ true
      → slice_set (with_more places) (w - 1) x ≡ with_more (slice_set places (w - 1) x)
  writes places w x size worker =
      let inside = within places w worker in
      set_front places (replicate k no_place) (w - 1) x (omega (arith, inside.0, inside.1))

pub names_beside : (k : ℕ) (a b : Standing) → SameButNames a b → SameButNames (with_idle k a) (with_idle k b)
names_beside k a b h =
    record { state = h.state; places = IsPermutation-append_left (replicate k no_place) a.scheduler.places b.scheduler.places h.places }

module _ (program : Labelled) (k : ℕ) (at : Standing) where
  abbrev places : List Worker
  places = at.scheduler.places

  abbrev more : List Worker
  more = places ++ replicate k no_place

  abbrev b : Standing
  b = with_idle k at

  worker_more : (w : ℕ) → is_worker places w ≡ true → is_worker more w ≡ true
  worker_more w h =
      let inside = within places w h in
      let size = length-append places (replicate k no_place) in
      and_from (nat_le 1 w) (nat_le w (length more)) (le-leb 1 w inside.0) (le-leb w (length more) (omega (arith, inside.1, size)))

  there : (w : ℕ) → worker_at more w ≡ worker_at places w
  there w = past_end places k (w - 1) no_place

  steal_more : (w v : ℕ) → is_worker places v ≡ true → steal_refusal more w v ≡ steal_refusal places w v
  steal_more w v victim =
      ap (λ x. stealing x (v == w) (worker_at more w) (worker_at more v)) (worker_more v victim ∙ sym victim)
      ∙ ap (λ x. stealing (is_worker places v) (v == w) x (worker_at more v)) (there w)
      ∙ ap (λ x. stealing (is_worker places v) (v == w) (worker_at places w) x) (there v)

  act_more : (w : ℕ) (act : Act) → act_refusal program at w act ≡ None → act_refusal program b w act ≡ None
  act_more w step free = ap (λ (x : Worker). step_refusal program at.state x.hand) (there w) ∙ free
  act_more w pop free = ap popping (there w) ∙ free
  act_more w (steal v) free = steal_more w v (steal_free places w v free).victim ∙ free

  act_less : (w : ℕ) (act : Act) → act_refusal program b w act ≡ None → act_refusal program at w act ≡ None
  act_less w step free = sym (ap (λ (x : Worker). step_refusal program at.state x.hand) (there w)) ∙ free
  act_less w pop free = sym (ap popping (there w)) ∙ free
  act_less w (steal v) free =
      let inside = within more v (steal_free more w v free).victim in
      let full : is_empty (deque_of more v) ≡ false =
      full_by (not (is_worker more v) || (v == w)) (is_some (hand_of more w) || not (is_empty (deque_of more w))) (is_empty (deque_of more v)) free in
      let victim = busy_worker places v inside.0 (sym (ap (λ (x : Worker). is_empty x.deque) (there v)) ∙ full) in
      sym (steal_more w v victim) ∙ free

  -- what is possible stays so, and leads to the same with the idle ones with_more
  pub more_free : (c : Choice) → refusal_of program at c ≡ None → refusal_of program b c ≡ None
  more_free c free =
      let known = possible program at c free in
      free_from program b c known.runs (worker_more c.worker known.worker) (act_more c.worker c.act known.act)

  next_act : (w : ℕ) (act : Act) → is_worker places w ≡ true → act_refusal program at w act ≡ None
      → next_by program b w act ≡ with_idle k (next_by program at w act)
  next_act w step worker free =
      step_carried (length places) (with_more (length places) k) (λ v. v) (reads (length places) k) (writes (length places) k) program at w refl worker
  next_act w pop worker free =
      pop_carried (length places) (with_more (length places) k) (λ v. v) (reads (length places) k) (writes (length places) k) program at w refl worker
  next_act w (steal v) worker free =
      steal_carried (length places) (with_more (length places) k) (λ v. v) (reads (length places) k) (writes (length places) k) program at w refl worker v
      (steal_free places w v free).victim

  pub more_next : (c : Choice) → refusal_of program at c ≡ None → next_of program b c ≡ with_idle k (next_of program at c)
  more_next c free = let known = possible program at c free in next_act c.worker c.act known.worker known.act

  less_free : (c : Choice) → is_worker places c.worker ≡ true → refusal_of program b c ≡ None → refusal_of program at c ≡ None
  less_free c worker free = let known = possible program b c free in free_from program at c known.runs worker (act_less c.worker c.act known.act)

  -- one of them does the same
  pub record OneOfThem (c : Choice) : Type 0 where
    pub other : Choice
    pub free : refusal_of program at other ≡ None
    pub next : SameButNames (next_of program b c) (with_idle k (next_of program at other))

  -- one with_more them is idle
  beside_idle : (w : ℕ) → is_worker more w ≡ true → is_worker places w ≡ false → IsIdle b w
  beside_idle w worker none =
      let inside = within more w worker in
      let far : length places ≤ w - 1 = elim (cases_lt (w - 1) (length places)) [
        | inl lt ↦
            let yes = and_from (nat_le 1 w) (nat_le w (length places)) (le-leb 1 w inside.0) (le-leb w (length places) (omega (arith, lt, inside.0))) in
            let both : true ≡ false = sym yes ∙ none in cc
        | inr le ↦ le
      ] in
      record { there = worker; idle = there w ∙ get_or_past places (w - 1) no_place far }

  by_idle : HasIdle at → (c : Choice) → is_worker places c.worker ≡ false → refusal_of program b c ≡ None → OneOfThem c
  by_idle idle c none free =
      let known = possible program b c free in
      let u = idle.worker in
      let own : IsIdle b u = record { there = worker_more u idle.is.there; idle = there u ∙ idle.is.idle } in
      let does = idle_do_alike program b u c own (beside_idle c.worker known.worker none) free in
      let d : Choice = record { worker = u; act = does.act } in
      let less = less_free d idle.is.there does.free in
      record { other = d; free = less; next = subst (SameButNames (next_of program b c)) (more_next d less) does.next }

  pub one_of_them : HasIdle at → (c : Choice) → refusal_of program b c ≡ None → OneOfThem c
  one_of_them idle c free = by_worker (is_worker places c.worker) refl
    where
      by_worker : (x : Bool) → is_worker places c.worker ≡ x → OneOfThem c
      by_worker true worker =
          let less = less_free c worker free in
          record { other = c; free = less; next = subst (SameButNames (next_of program b c)) (more_next c less) (names_again (next_of program b c)) }
      by_worker false none = by_idle idle c none free
