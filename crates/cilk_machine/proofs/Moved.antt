-- A frame came from a deque to a hand, and goes back by its record.
use Rattle.std.proofs.Common.{◌≡◌, ◌≢◌, ◌<◌, ◌≤◌, ◌+◌, ℕ, Bool, true, List, Some, None, refl, sym, ap, ◌∙◌, subst, arith}
use Rattle.cilk_machine_undo.specs.syntax.Tree.{Program}
use Rattle.cilk_sched.specs.model.Hands.{WorkerOf, IsWorker, hand_of, deque_of, top_of, bottom_of, popped_by, stolen_by}
use Rattle.cilk_machine_undo.specs.frame.Frames.{Frame}
use Rattle.cilk_machine_undo.specs.plans.declared.parts.Parts.{Parts}
use Rattle.cilk_machine_undo.specs.plans.PartWords.{machine_of}
use Rattle.cilk_sched.specs.model.Choice as model
use Rattle.cilk_sched.specs.model.Event as event
use Rattle.cilk_sched.specs.model.Event.{Event}
use Rattle.cilk_sched.specs.declared.act.Act.TheVariants.{Pop, Steal}
use Rattle.cilk_sched.specs.declared.outcome.Outcome.{Outcome}
use Rattle.cilk_sched.specs.declared.outcome.Outcome.TheVariants.{Running}
use Rattle.cilk_machine_undo.specs.Undo.{Undo, undone, popped, stolen}
use Rattle.cilk_machine_undo.specs.Able.{CanTakeBack}
use Rattle.cilk_machine_undo.specs.Notes.{Undoes}
use Rattle.cilk_machine_undo.specs.Words.{machine_in}
use Rattle.cilk_machine_undo.proofs.Plans.{pops-back, steals-back}
use Rattle.cilk_machine_undo.proofs.Able.{pops-can, steals-can}
use Rattle.cilk_machine.specs.Situation.{Situation, outcome_at, kept_by}
use Rattle.cilk_machine.specs.Refused.{refused_by}
use Rattle.cilk_machine.specs.Made.{Makes}
use Rattle.cilk_machine.specs.Pasts.{situation_of}
use Rattle.cilk_machine.specs.Kept.{idle_hands, IsWhole, KeepsAs}
use Rattle.cilk_machine.proofs.Free.{frees, Pops, pop-free, Steals, steal-free, pop-makes, steal-makes}
use Rattle.cilk_machine.proofs.Leading.{moved_to}
use Rattle.cilk_machine.proofs.Kept.{moved-as, made-kept, whole-kept}
use Rattle.cilk_machine.proofs.Rooms.{pop-fills, steal-fills}

pop-undoes : (parts : Parts) (w : ℕ) (f : Frame) → IsWorker parts.hands w → hand_of parts.hands w ≡ None
    → bottom_of (deque_of parts.hands w) ≡ Some f → (places : List (WorkerOf Frame)) → places ≡ popped_by parts.hands w
    → Undoes (popped w) parts (record parts { hands = places })
pop-undoes parts w f worker empty bottom places is =
    let m = machine_in parts in
    record {
      can = subst (λ (ps : List (WorkerOf Frame)). CanTakeBack (popped w) (record m { places = ps })) (sym is) (pops-can m w f worker bottom);
      back = ap (λ (ps : List (WorkerOf Frame)). undone (popped w) (record m { places = ps })) is ∙ pops-back m w worker empty refl;
    }

steal-undoes : (parts : Parts) (w v : ℕ) (f : Frame) → IsWorker parts.hands w → IsWorker parts.hands v → v ≢ w → hand_of parts.hands w ≡ None
    → top_of (deque_of parts.hands v) ≡ Some f → (places : List (WorkerOf Frame)) → places ≡ stolen_by parts.hands w v
    → Undoes (stolen w v) parts (record parts { hands = places })
steal-undoes parts w v f worker victim other empty top places is =
    let m = machine_in parts in
    record {
      can = subst (λ (ps : List (WorkerOf Frame)). CanTakeBack (stolen w v) (record m { places = ps })) (sym is) (steals-can m w v f worker victim other top);
      back = ap (λ (ps : List (WorkerOf Frame)). undone (stolen w v) (record m { places = ps })) is ∙ steals-back m w v worker victim other empty refl;
    }

module _ {p : Program} {parts : Parts} {trapper : ℕ} {outcome : Outcome} {choices : ℕ} {keeps : Bool} {us : List Undo} {workers count capacity : ℕ}
    (inv : IsWhole p parts trapper outcome choices keeps us workers count capacity) where
  abbrev was : Situation
  was = situation_of p parts trapper outcome choices keeps us

  -- a record took the room of the hand
  module _ (places : List (WorkerOf Frame)) (kept : List Undo) (runs : outcome ≡ Running)
      (keeping : KeepsAs keeps parts (record parts { hands = places }) us kept) (choice : model.Choice)
      (made : Makes was (moved_to was (machine_of (record parts { hands = places }) (outcome_at trapper outcome)) outcome) choice event.moved)
      (fills : idle_hands places + 1 ≡ idle_hands parts.hands) where
    filled-whole : (more room : ℕ) → more ≤ count + 1 → room ≡ capacity
        → IsWhole p (record parts { hands = places }) trapper outcome (choices + 1) keeps kept workers more room
    filled-whole more room fewer same =
        whole-kept inv (record parts { hands = places }) trapper outcome kept runs keeping choice
        event.moved made more room
        (λ e. let before = inv.room e in omega (arith, before, fills, fewer, same))

  module _ (w : ℕ) (free : refused_by was (record { worker = w; act = Pop }) ≡ None) where
    pop-found : Pops was w
    pop-found = pop-free was w free

    pop-fewer : idle_hands (popped_by parts.hands w) + 1 ≡ idle_hands parts.hands
    pop-fewer = pop-fills parts.hands w pop-found.worker pop-found.empty pop-found.frame pop-found.bottom

    pub pop-room : keeps ≡ true → count < capacity
    pop-room e = let before = inv.room e in let fewer = pop-fewer in omega (arith, before, fewer)

    module _ (places : List (WorkerOf Frame)) (is : places ≡ popped_by parts.hands w) (kept : List Undo) (kept_is : kept ≡ kept_by keeps (popped w) us) where
      pop-runs : outcome ≡ Running
      pop-runs = let known = frees was (record { worker = w; act = Pop }) free in known.runs_on

      pop-as : KeepsAs keeps parts (record parts { hands = places }) us kept
      pop-as =
          moved-as keeps parts (record parts { hands = places }) us kept (popped w) kept_is inv.none
          (pop-undoes parts w pop-found.frame pop-found.worker pop-found.empty pop-found.bottom places is)

      pub pop-made : Makes was (situation_of p (record parts { hands = places }) trapper outcome (choices + 1) keeps kept)
          (record { worker = w; act = model.pop }) event.moved
      pop-made =
          made-kept inv (record parts { hands = places }) trapper outcome kept pop-runs pop-as
          (record { worker = w; act = model.pop }) event.moved (pop-makes was inv.sound w places free is)

      pub pop-whole : (more room : ℕ) → more ≤ count + 1 → room ≡ capacity
          → IsWhole p (record parts { hands = places }) trapper outcome (choices + 1) keeps kept workers more room
      pop-whole =
          filled-whole places kept pop-runs pop-as (record { worker = w; act = model.pop }) (pop-makes was inv.sound w places free is)
          (ap (λ (ps : List (WorkerOf Frame)). idle_hands ps + 1) is ∙ pop-fewer)

  module _ (w v : ℕ) (free : refused_by was (record { worker = w; act = Steal v }) ≡ None) where
    steal-found : Steals was w v
    steal-found = steal-free was w v free

    steal-fewer : idle_hands (stolen_by parts.hands w v) + 1 ≡ idle_hands parts.hands
    steal-fewer =
        let s = steal-found in
        steal-fills parts.hands w s.worker s.empty v s.frame s.victim s.other s.top

    pub steal-room : keeps ≡ true → count < capacity
    steal-room e = let before = inv.room e in let fewer = steal-fewer in omega (arith, before, fewer)

    module _ (places : List (WorkerOf Frame)) (is : places ≡ stolen_by parts.hands w v) (kept : List Undo)
        (kept_is : kept ≡ kept_by keeps (stolen w v) us) where
      steal-runs : outcome ≡ Running
      steal-runs = let known = frees was (record { worker = w; act = Steal v }) free in known.runs_on

      steal-as : KeepsAs keeps parts (record parts { hands = places }) us kept
      steal-as =
          let s = steal-found in
          moved-as keeps parts (record parts { hands = places }) us kept (stolen w v) kept_is inv.none
          (steal-undoes parts w v s.frame s.worker s.victim s.other s.empty s.top places is)

      pub steal-made : Makes was (situation_of p (record parts { hands = places }) trapper outcome (choices + 1) keeps kept)
          (record { worker = w; act = model.steal v }) event.moved
      steal-made =
          made-kept inv (record parts { hands = places }) trapper outcome kept steal-runs
          steal-as (record { worker = w; act = model.steal v }) event.moved (steal-makes was inv.sound w v places free is)

      pub steal-whole : (more room : ℕ) → more ≤ count + 1 → room ≡ capacity
          → IsWhole p (record parts { hands = places }) trapper outcome (choices + 1) keeps kept workers more room
      steal-whole =
          filled-whole places kept steal-runs steal-as (record { worker = w; act = model.steal v }) (steal-makes was inv.sound w v places free is)
          (ap (λ (ps : List (WorkerOf Frame)). idle_hands ps + 1) is ∙ steal-fewer)
