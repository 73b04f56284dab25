-- Workers by other names choose the same, and it leads to the same by these names.
use Rattle.std.proofs.Common.{◌≡◌, ◌<◌, ◌-◌, ℕ, zero, suc, Bool, true, not, ◌==◌, nat_le, List, [], ◌∷◌, length, Option, Some, None, refl, sym}
use Rattle.std.proofs.Common.{ap, subst, ◌∙◌, if◌then◌else◌, arith, slice_index_or, slice_set, swap}
use Rattle.std.proofs.lemmas.Bool.{and_from, le-leb, eqb-true, eq-eqb}
use Rattle.std.specs.List.Sorted.{apply_swaps, SwapsInRange}
use Rattle.cilk_machine_agree.specs.labelled.Labelled.{Labelled}
use Rattle.cilk_machine_agree.specs.model.Scheduler.{Worker, no_place, worker_at}
use Rattle.cilk_machine_agree.specs.model.Choice.{Act, step, pop, steal, Choice, Refusal, over, no_worker}
use Rattle.cilk_machine_agree.specs.model.Run.{Standing, is_running, is_worker, step_refusal, steal_refusal, act_refusal, refusal_of, next_by, next_of}
use Rattle.cilk_machine_agree.specs.model.Run.{event_by_hand, event_by, event_of}
use Rattle.cilk_machine_agree.proofs.runs_laws.Possible.{possible}
use Rattle.cilk_machine_agree.proofs.runs_laws.Stuck.{within}
use Rattle.cilk_machine_agree.proofs.runs_laws.Hands.{steal_free}
use Rattle.cilk_machine_agree.specs.explore.Names.{exchanged, renamed_once, renamed_worker, renamed_act}
use Rattle.cilk_machine_agree.specs.explore.Names.{renamed_choice, renamed, GoesByOtherNames, NamesDoNotMatter}
use Rattle.cilk_machine_agree.proofs.explore.AtPaths.{same_test}
use Rattle.cilk_machine_agree.proofs.explore.Exchanges.{one_less, exchanged_within, exchanged_twice, swap_there, swap_long, swap_set}
use Rattle.cilk_machine_agree.proofs.explore.Carried.{stealing, popping, step_carried, pop_carried, steal_carried}

pub is_worker_from : (places : List Worker) (k : ℕ) → k < length places → is_worker places (suc k) ≡ true
is_worker_from places k h =
    and_from (nat_le 1 (suc k)) (nat_le (suc k) (length places)) (le-leb 1 (suc k) (omega arith)) (le-leb (suc k) (length places) (omega arith))

-- of n workers two exchange their places
module _ (n i j : ℕ) (p : i < n) (q : j < n) where
  abbrev turned : List Worker → List Worker
  turned places = swap places i j

  abbrev now : ℕ → ℕ
  now k = suc (exchanged (i, j) k)

  at_turned : (places : List Worker) (k : ℕ) → length places ≡ n → worker_at (turned places) (now k) ≡ worker_at places (suc k)
  at_turned places k size =
      ap (λ m. slice_index_or (turned places) m no_place) (one_less (exchanged (i, j) k))
      ∙ swap_there places i j (exchanged (i, j) k) no_place (omega arith) (omega arith)
      ∙ ap (λ m. slice_index_or places m no_place) (exchanged_twice i j k ∙ sym (one_less k))

  reads : (places : List Worker) (w : ℕ) → length places ≡ n → is_worker places w ≡ true
      → worker_at (turned places) (renamed_once (i, j) w) ≡ worker_at places w
  reads places zero size worker = let inside = within places zero worker in absurd (omega (arith, inside.0))
  reads places (suc k) size worker = at_turned places k size

  writes : (places : List Worker) (w : ℕ) (x : Worker) → length places ≡ n → is_worker places w ≡ true
      → slice_set (turned places) (renamed_once (i, j) w - 1) x ≡ turned (slice_set places (w - 1) x)
  writes places zero x size worker = let inside = within places zero worker in absurd (omega (arith, inside.0))
  writes places (suc k) x size worker =
      let inside = within places (suc k) worker in
      ap (λ m. slice_set (turned places) m x) (one_less (exchanged (i, j) k))
      ∙ sym (swap_set places i j k x (omega arith) (omega arith) (omega (arith, inside.1)))
      ∙ ap (λ m. turned (slice_set places m x)) (sym (one_less k))

  is_worker_turned : (places : List Worker) (w : ℕ) → length places ≡ n → is_worker (turned places) (renamed_once (i, j) w) ≡ is_worker places w
  is_worker_turned places zero size = refl
  is_worker_turned places (suc k) size =
      let long = swap_long places i j in
      same_test (is_worker (turned places) (now k)) (is_worker places (suc k))
      (λ h.
      let inside = within (turned places) (now k) h in
      let back = exchanged_within n i j (exchanged (i, j) k) p q (omega (arith, size, long, inside.1)) in
      let here : k < n = subst (λ m. m < n) (exchanged_twice i j k) back in
      is_worker_from places k (omega (arith, size, here)))
      (λ h.
      let inside = within places (suc k) h in
      let on = exchanged_within n i j k p q (omega (arith, size, inside.1)) in
      is_worker_from (turned places) (exchanged (i, j) k) (omega (arith, size, long, on)))

  module _ (program : Labelled) (at : Standing) (size : length at.scheduler.places ≡ n) where
    abbrev ps : List Worker
    ps = at.scheduler.places

    abbrev b : Standing
    b = renamed ((i, j) ∷ []) at

    abbrev choice_now : ℕ → Act → Choice
    choice_now w act = renamed_choice ((i, j) ∷ []) (record { worker = w; act = act })

    same_number : (k l : ℕ) → (now l == now k) ≡ (suc l == suc k)
    same_number k l =
        same_test (now l == now k) (suc l == suc k)
        (λ h.
        let e = eqb-true (now l) (now k) h in
        let f : exchanged (i, j) l ≡ exchanged (i, j) k = omega (arith, e) in
        let g : l ≡ k = sym (exchanged_twice i j l) ∙ ap (λ m. exchanged (i, j) m) f ∙ exchanged_twice i j k in
        eq-eqb (suc l) (suc k) (ap suc g))
        (λ h.
        let e = eqb-true (suc l) (suc k) h in
        let f : l ≡ k = omega (arith, e) in
        eq-eqb (now l) (now k) (ap (λ m. now m) f))

    steal_turned : (k v : ℕ) → steal_refusal (turned ps) (now k) (renamed_once (i, j) v) ≡ steal_refusal ps (suc k) v
    steal_turned k zero = refl
    steal_turned k (suc l) =
        let own = worker_at (turned ps) (now k) in
        let other = worker_at (turned ps) (now l) in
        ap (λ x. stealing x (now l == now k) own other) (is_worker_turned ps (suc l) size)
        ∙ ap (λ x. stealing (is_worker ps (suc l)) x own other) (same_number k l)
        ∙ ap (λ x. stealing (is_worker ps (suc l)) (suc l == suc k) x other) (at_turned ps k size)
        ∙ ap (λ x. stealing (is_worker ps (suc l)) (suc l == suc k) (worker_at ps (suc k)) x) (at_turned ps l size)

    act_turned : (k : ℕ) (act : Act) → act_refusal program b (now k) (renamed_act ((i, j) ∷ []) act) ≡ act_refusal program at (suc k) act
    act_turned k step = ap (λ (x : Worker). step_refusal program at.state x.hand) (at_turned ps k size)
    act_turned k pop = ap popping (at_turned ps k size)
    act_turned k (steal v) = steal_turned k v

    refusal_by : (w : ℕ) (act : Act) → refusal_of program b (choice_now w act) ≡ refusal_of program at (record { worker = w; act = act })
    refusal_by zero act = refl
    refusal_by (suc k) act =
        let decides : Bool → Option Refusal → Option Refusal =
        λ x o. if not (is_running at.state.outcome) then Some over else (if not x then Some no_worker else o) in
        ap (λ x. decides x (act_refusal program b (now k) (renamed_act ((i, j) ∷ []) act))) (is_worker_turned ps (suc k) size)
        ∙ ap (decides (is_worker ps (suc k))) (act_turned k act)

    event_by_act : (w : ℕ) (act : Act) → is_worker ps w ≡ true
        → event_by program b (renamed_once (i, j) w) (renamed_act ((i, j) ∷ []) act) ≡ event_by program at w act
    event_by_act w step worker = ap (λ (x : Worker). event_by_hand program at.state x.hand) (reads ps w size worker)
    event_by_act w pop worker = refl
    event_by_act w (steal v) worker = refl

    next_by_act : (w : ℕ) (act : Act) → is_worker ps w ≡ true → act_refusal program at w act ≡ None
        → next_by program b (renamed_once (i, j) w) (renamed_act ((i, j) ∷ []) act) ≡ renamed ((i, j) ∷ []) (next_by program at w act)
    next_by_act w step worker free = step_carried n turned (renamed_once (i, j)) reads writes program at w size worker
    next_by_act w pop worker free = pop_carried n turned (renamed_once (i, j)) reads writes program at w size worker
    next_by_act w (steal v) worker free =
        steal_carried n turned (renamed_once (i, j)) reads writes program at w size worker v (steal_free ps w v free).victim

    pub once_renamed : (c : Choice) → GoesByOtherNames program at ((i, j) ∷ []) c
    once_renamed c = record {
      refusal = refusal_by c.worker c.act;
      event = λ free. event_by_act c.worker c.act (possible program at c free).worker;
      next = λ free. let known = possible program at c free in next_by_act c.worker c.act known.worker known.act;
    }

-- there are as many places as before
pub moved_long : (places : List Worker) (moves : List (ℕ × ℕ)) → length (apply_swaps places moves) ≡ length places
moved_long _ [] = refl
moved_long places (p ∷ moves) = swap_long (apply_swaps places moves) p.0 p.1 ∙ moved_long places moves

-- each worker has by its other name what it had
pub named_at : (places : List Worker) (moves : List (ℕ × ℕ)) → SwapsInRange (length places) moves → (w : ℕ) → is_worker places w ≡ true
    → (is_worker (apply_swaps places moves) (renamed_worker moves w) ≡ true)
    × (worker_at (apply_swaps places moves) (renamed_worker moves w) ≡ worker_at places w)
named_at places [] below w worker = (worker, refl)
named_at places (p ∷ moves) below w worker =
    let before = named_at places moves below.2 w worker in
    let mid = apply_swaps places moves in
    let size = moved_long places moves in (
      is_worker_turned (length places) p.0 p.1 below.0 below.1 mid (renamed_worker moves w) size ∙ before.0,
      reads (length places) p.0 p.1 below.0 below.1 mid (renamed_worker moves w) size before.0 ∙ before.1,
    )

act_again : (p : ℕ × ℕ) (moves : List (ℕ × ℕ)) (act : Act) → renamed_act (p ∷ []) (renamed_act moves act) ≡ renamed_act (p ∷ moves) act
act_again p moves step = refl
act_again p moves pop = refl
act_again p moves (steal v) = refl

act_once : (act : Act) → renamed_act [] act ≡ act
act_once step = refl
act_once pop = refl
act_once (steal v) = refl

choice_again : (p : ℕ × ℕ) (moves : List (ℕ × ℕ)) (c : Choice) → renamed_choice (p ∷ []) (renamed_choice moves c) ≡ renamed_choice (p ∷ moves) c
choice_again p moves c = ap (λ (act : Act). record { worker = renamed_worker (p ∷ moves) c.worker; act = act }) (act_again p moves c.act)

choice_once : (c : Choice) → renamed_choice [] c ≡ c
choice_once c = ap (λ (act : Act). record { worker = c.worker; act = act }) (act_once c.act)

pub names_do_not_matter : NamesDoNotMatter
names_do_not_matter program at [] below c = record {
  refusal = ap (refusal_of program at) (choice_once c);
  event = λ free. ap (event_of program at) (choice_once c);
  next = λ free. ap (next_of program at) (choice_once c);
}
names_do_not_matter program at (p ∷ moves) below c =
    let before = names_do_not_matter program at moves below.2 c in
    let mid = renamed moves at in
    let last = once_renamed (length at.scheduler.places) p.0 p.1 below.0 below.1 program mid (moved_long at.scheduler.places moves) (renamed_choice moves c) in
    let same = choice_again p moves c in
    let here : refusal_of program at c ≡ None → refusal_of program mid (renamed_choice moves c) ≡ None = λ free. before.refusal ∙ free in
    record {
      refusal = ap (refusal_of program (renamed (p ∷ moves) at)) (sym same) ∙ last.refusal ∙ before.refusal;
      event = λ free. ap (event_of program (renamed (p ∷ moves) at)) (sym same) ∙ last.event (here free) ∙ before.event free;
      next = λ free. ap (next_of program (renamed (p ∷ moves) at)) (sym same) ∙ last.next (here free) ∙ ap (renamed (p ∷ [])) (before.next free);
    }
