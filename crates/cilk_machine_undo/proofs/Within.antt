-- Fates tell of no choice that was not made yet, and in a run no value is taken twice.
use Rattle.std.proofs.Common.{◌≡◌, ◌<◌, ◌≤◌, ◌+◌, inl, inr, ℕ, suc, Bool, true, false, if◌then◌else◌, List, [], ◌∷◌, ◌++◌, drop, length}
use Rattle.std.proofs.Common.{Option, Some, None, refl, sym, ap, ◌∙◌, subst, arith, slice_get, length-set, get_or-set_same}
use Rattle.std.specs.Prelude.{⊤}
use Rattle.std.proofs.lemmas.Bool.{cases_lt}
use Rattle.cilk_machine_plan.specs.labelled.Labelled.{Labelled}
use Rattle.cilk_machine_plan.specs.model.Choice.{Choice}
use Rattle.cilk_machine_plan.specs.model.Event.{Event, acted, spawned, delivered, returned, ended, trapped, moved}
use Rattle.cilk_machine_plan.specs.model.Fate as model
use Rattle.cilk_machine_plan.specs.model.Fate.{fate_by, fate_from, fate_of}
use Rattle.cilk_machine_plan.specs.model.Path.{Path, same_path}
use Rattle.cilk_machine_plan.specs.model.Run.{Position, after}
use Rattle.cilk_machine_plan.specs.runs.FateLaws.{Moves}
use Rattle.cilk_machine_plan.specs.agree.Fated.{fate_named, Fated}
use Rattle.cilk_machine_plan.specs.spawn.declared.delivery.Delivery.{Delivery}
use Rattle.cilk_machine_plan.specs.spawn.declared.fate.Fate.{Fate}
use Rattle.cilk_machine_plan.specs.spawn.declared.fate.Fate.TheVariants.{Live, Returned, Delivered, Aborted}
use Rattle.cilk_machine_plan.specs.spawn.Nodes.{Node, IsTree, no_node, node_at, is_live, with_waiting, after_taking, value_taken, taken, path_at}
use Rattle.cilk_machine_plan.specs.declared.plan.Plan.TheVariants as plan
use Rattle.cilk_machine_plan.proofs.runs_laws.Events.{told, has_fate}
use Rattle.cilk_machine_plan.proofs.runs_laws.Fates.{each_choice_is_an_event, fates_move_on}
use Rattle.cilk_machine_plan.proofs.spawn_laws.Taking.{sender_there, path_taken}
use Rattle.cilk_machine_plan.proofs.spawn_laws.Trees.{live_there}
use Rattle.cilk_machine_undo.specs.Growth.{IsWithin, IsUntaken, IsUntakenFirst}
use Rattle.cilk_machine_undo.specs.GrowthLaws.{FatesStayWithin, FatedAreWithin, ValuesAreTakenOnce}
use Rattle.cilk_machine_undo.proofs.Trees.{set-part, live-fate}
use Rattle.cilk_machine_undo.proofs.Cut as cuts
use Rattle.cilk_machine_undo.proofs.Cut.{Later, later, named-one}

within-more : (c : ℕ) (fate : Fate) → IsWithin c fate → IsWithin (suc c) fate
within-more c Live h = tt
within-more c Returned h = tt
within-more c (Delivered d) h = omega arith
within-more c (Aborted d) h = omega arith

within-later : (c : ℕ) (f g : Fate) → IsWithin c f → Later (suc c) (fate_named f) (fate_named g) → IsWithin (suc c) g
within-later c f g h (cuts.same e) = subst (IsWithin (suc c)) (sym (named-one g f e)) (within-more c f h)
within-later c f g h (cuts.returned a b) = subst (IsWithin (suc c)) (sym (named-one g Returned b)) tt
within-later c f g h (cuts.delivered a b) =
    let last : suc c ≤ suc c = omega arith in
    subst (IsWithin (suc c)) (sym (named-one g (Delivered (suc c)) b)) last
within-later c f g h (cuts.aborted a b) =
    let last : suc c ≤ suc c = omega arith in
    subst (IsWithin (suc c)) (sym (named-one g (Aborted (suc c)) b)) last

pub stay-within : FatesStayWithin
stay-within c old new within grows i h =
    let f = (node_at old i).fate in
    let g = (node_at new i).fate in
    elim (cases_lt i (length old)) [
      | inl low ↦ within-later c f g (within i low) (later (suc c) (fate_named f) (fate_named g) (grows.each i low).fate)
      | inr high ↦ subst (IsWithin (suc c)) (sym (live-fate g (grows.born i high h))) tt
    ]

-- what events tell is of no later choice
abbrev Told : ℕ → model.Fate → Type 0
Told c model.lives = ⊤
Told c model.has_returned = ⊤
Told c (model.was_delivered d) = d ≤ c
Told c (model.was_aborted d) = d ≤ c

told-more : (c : ℕ) (fate : model.Fate) → Told c fate → Told (suc c) fate
told-more c model.lives h = tt
told-more c model.has_returned h = tt
told-more c (model.was_delivered d) h = omega arith
told-more c (model.was_aborted d) h = omega arith

told-if : (c : ℕ) (b : Bool) (x y : model.Fate) → Told c x → Told c y → Told c (if b then x else y)
told-if c true x y h g = h
told-if c false x y h g = g

told-by : (k : ℕ) (p : Path) (e : Event) (fate : model.Fate) → Told (suc k) fate → Told (suc k) (fate_by (suc k) p e fate)
told-by k p (acted q n) fate h = h
told-by k p (spawned q n) fate h = h
told-by k p (delivered q n) fate h =
    let last : suc k ≤ suc k = omega arith in
    told-if (suc k) (same_path q p) (model.was_delivered (suc k)) fate last h
told-by k p (returned q n) fate h = told-if (suc k) (same_path q p) model.has_returned fate tt h
told-by k p (ended q) fate h =
    let last : suc k ≤ suc k = omega arith in
    told-if (suc k) (same_path q p) (model.was_aborted (suc k)) fate last h
told-by k p (trapped kind q n) fate h = h
told-by k p moved fate h = h

told-from : (k : ℕ) (p : Path) (events : List Event) (fate : model.Fate) → Told k fate → Told (k + length events) (fate_from (suc k) p events fate)
told-from k p [] fate h = let same : k ≡ k + 0 = omega arith in subst (λ n. Told n fate) same h
told-from k p (e ∷ events) fate h =
    let same : suc k + length events ≡ k + length (e ∷ events) = omega arith in
    subst (λ n. Told n (fate_from (suc k) p (e ∷ events) fate)) same
    (told-from (suc k) p events (fate_by (suc k) p e fate) (told-by k p e fate (told-more k fate h)))

within-named : (c : ℕ) (fate : Fate) → Told c (fate_named fate) → IsWithin c fate
within-named c Live h = tt
within-named c Returned h = tt
within-named c (Delivered d) h = h
within-named c (Aborted d) h = h

pub fated-within : FatedAreWithin
fated-within program ns events fated i h =
    let f = (node_at ns i).fate in
    let p = path_at ns i in
    let has = has_fate events p (fate_named f) (fated.fates i h) in
    let size : 0 + length events ≡ length events = omega arith in
    within-named (length events) f
    (subst (Told (length events)) has.is (subst (λ n. Told n (told events p)) size (told-from 0 p events model.lives tt)))

-- a value that was taken is not taken again
untaken-by : (c : ℕ) (f : Fate) → IsWithin c f → Later (suc c) (fate_named f) (fate_named (after_taking (suc c) f)) → IsUntaken f
untaken-by c Live h l = tt
untaken-by c Returned h l = tt
untaken-by c (Delivered d) h (cuts.same e) =
    let is : model.was_delivered (suc c) ≡ model.was_delivered d = e in
    let one : suc c ≡ d = cc in
    omega arith
untaken-by c (Delivered d) h (cuts.returned a b) = let no : model.was_delivered d ≡ model.lives = a in cc
untaken-by c (Delivered d) h (cuts.delivered a b) = let no : model.was_delivered d ≡ model.has_returned = a in cc
untaken-by c (Delivered d) h (cuts.aborted a b) = let no : model.was_delivered d ≡ model.lives = a in cc
untaken-by c (Aborted d) h (cuts.same e) = let no : model.was_delivered (suc c) ≡ model.was_aborted d = e in cc
untaken-by c (Aborted d) h (cuts.returned a b) = let no : model.was_aborted d ≡ model.lives = a in cc
untaken-by c (Aborted d) h (cuts.delivered a b) = let no : model.was_aborted d ≡ model.has_returned = a in cc
untaken-by c (Aborted d) h (cuts.aborted a b) = let no : model.was_aborted d ≡ model.lives = a in cc

value-size : (n : ℕ) (ns : List Node) (o : Option Delivery) → length (value_taken o n ns) ≡ length ns
value-size n ns None = refl
value-size n ns (Some d) = length-set ns d.child (record (node_at ns d.child) { fate = after_taking n (node_at ns d.child).fate })

module _ (n : ℕ) (ns : List Node) (k : ℕ) where
  abbrev less : List Node
  less = with_waiting ns k (drop 1 (node_at ns k).waiting)

  less-size : length less ≡ length ns
  less-size = length-set ns k (record (node_at ns k) { waiting = drop 1 (node_at ns k).waiting })

  taken-size : length (taken ns k n) ≡ length ns
  taken-size = value-size n less (slice_get (node_at ns k).waiting 0) ∙ less-size

  taken-fate : (d : Delivery) → slice_get (node_at ns k).waiting 0 ≡ Some d → d.child < length ns
      → (node_at (taken ns k n) d.child).fate ≡ after_taking n (node_at ns d.child).fate
  taken-fate d e there =
      let within : d.child < length less = subst (λ m. d.child < m) (sym less-size) there in
      ap (λ (o : Option Delivery). (node_at (value_taken o n less) d.child).fate) e
      ∙ ap (λ (x : Node). x.fate)
      (get_or-set_same less d.child (record (node_at less d.child) { fate = after_taking n (node_at less d.child).fate }) no_node within)
      ∙ ap (after_taking n) (set-part (λ (x : Node). x.fate) ns k d.child (record (node_at ns k) { waiting = drop 1 (node_at ns k).waiting }) refl)

module _ (program : Labelled) (workers : ℕ) (choices : List Choice) (choice : Choice) (at next : Position)
    (first : after program workers choices ≡ Some at) (second : after program workers (choices ++ choice ∷ []) ≡ Some next) where
  abbrev number : ℕ
  number = suc (length choices)

  untaken-first : (ns : List Node) (k : ℕ) → IsTree ns → is_live (node_at ns k) ≡ true → Fated program ns at.events
      → Fated program (taken ns k number) next.events → IsUntakenFirst ns k
  untaken-first ns k t live was now d e =
      let i = d.child in
      let f = (node_at ns i).fate in
      let p = path_at ns i in
      let there : i < length ns = sender_there ns k t d e in
      let still : i < length (taken ns k number) = subst (λ m. i < m) (sym (taken-size number ns k)) there in
      let goes = fates_move_on program workers choices choice at next first second p (fate_named f) (was.fates i there) in
      let told : Some goes.0 ≡ Some (fate_named (after_taking number f)) =
      sym goes.1 ∙ ap (fate_of next.events) (sym (path_taken ns k number i t (live_there ns k live))) ∙ now.fates i still
      ∙ ap (λ (x : Fate). Some (fate_named x)) (taken-fate number ns k d e there) in
      let is : goes.0 ≡ fate_named (after_taking number f) = cc in
      let size : length at.events ≡ length choices = each_choice_is_an_event program workers choices at first in
      untaken-by (length choices) f (subst (λ c. IsWithin c f) size (fated-within program ns at.events was i there))
      (later number (fate_named f) (fate_named (after_taking number f)) (subst (Moves number (fate_named f)) is goes.2))

pub taken-once : ValuesAreTakenOnce
taken-once program workers choices choice at next first second m w f body (plan.Take child n reached z) t ready was now =
    untaken-first program workers choices choice at next first second m.nodes f.id t ready.acting.live was now
taken-once program workers choices choice at next first second m w f body (plan.Enter child n inlet arguments) t ready was now =
    untaken-first program workers choices choice at next first second m.nodes f.id t ready.acting.live was now
taken-once program workers choices choice at next first second m w f body x t ready was now = tt
