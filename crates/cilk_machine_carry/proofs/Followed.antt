-- The nodes keep what became of the instances, whatever a plan does.
use Rattle.std.proofs.Common.{◌≡◌, ◌≢◌, ◌<◌, ◌&&◌, not, ℕ, ℤ, Bool, true, false, nat_eq, List, drop, length, length-set, Option, Some, None, refl}
use Rattle.std.proofs.Common.{sym, ap, ◌∙◌, subst, arith, inl, inr, slice_get, slice_set, if◌then◌else◌}
use Rattle.std.proofs.lemmas.Bool.{eq-eqb, ne_eqb}
use Rattle.cilk_machine_plan.specs.labelled.Labelled.{Labelled}
use Rattle.cilk_machine_plan.specs.labelled.Bodies.{label}
use Rattle.cilk_machine_plan.specs.model.Path.{Path, same_path}
use Rattle.cilk_machine_plan.specs.model.Event as event
use Rattle.cilk_machine_plan.specs.model.Event.{Event}
use Rattle.cilk_machine_plan.specs.model.Made.{callee_of}
use Rattle.cilk_machine_plan.specs.spawn.declared.delivery.Delivery.{Delivery}
use Rattle.cilk_machine_plan.specs.spawn.declared.fate.Fate.{Fate}
use Rattle.cilk_machine_plan.specs.frame.declared.receiver.Receiver.{Receiver}
use Rattle.cilk_machine_plan.specs.frame.declared.receiver.Receiver.TheVariants.{Nothing}
use Rattle.cilk_machine_plan.specs.spawn.Nodes.{Node, IsTree, no_node, node_at, takes_value, with_child, with_parked, with_waiting, delivery_of}
use Rattle.cilk_machine_plan.specs.spawn.Nodes.{delivered_to, without_receiver, after_taking, value_taken, taken, ended, marked_below, path_at}
use Rattle.cilk_machine_plan.proofs.spawn_laws.Lists.{at_set}
use Rattle.cilk_machine_plan.proofs.spawn_laws.Trees.{Linked, linked_set, path_linked}
use Rattle.cilk_machine_plan.proofs.spawn_laws.Children.{parent_in}
use Rattle.cilk_machine_plan.proofs.spawn_laws.Grown.{grown, grown_parent, grown_other, grows, path_old}
use Rattle.cilk_machine_plan.proofs.spawn_laws.Marks.{marked_node, marked_length, marked_linked}
use Rattle.cilk_machine_plan.proofs.spawn_laws.Paths.{number_is_path}
use Rattle.cilk_machine_plan.specs.agree.Fated.{fate_after, Births, Follows}
use Rattle.cilk_machine_plan.specs.agree.Laws.{InHand, sent, can_go_on}
use Rattle.cilk_machine_plan.proofs.agree_laws.Alone.{inside}
use Rattle.cilk_machine_plan.specs.Carried.{nodes_awake}

-- the same instances, whose fates were changed so
pub record Fates (f : ℕ → Fate → Fate) (ns ms : List Node) : Type 0 where
  pub size : length ms ≡ length ns
  pub linked : (i : ℕ) → Linked (node_at ns i) (node_at ms i)
  pub procedures : (i : ℕ) → (node_at ms i).procedure ≡ (node_at ns i).procedure
  pub fates : (i : ℕ) → (node_at ms i).fate ≡ f i (node_at ns i).fate

-- no fate is changed
abbrev pub Same : List Node → List Node → Type 0
Same ns ms = Fates (λ i fate. fate) ns ms

-- that of k is
abbrev pub at_one : ℕ → (Fate → Fate) → ℕ → Fate → Fate
at_one k g i fate = if nat_eq i k then g fate else fate

linked-then : (a b c : Node) → Linked a b → Linked b c → Linked a c
linked-then a b c l r = record { parent = r.parent ∙ l.parent; ordinal = r.ordinal ∙ l.ordinal; children = omega (arith, l.children, r.children) }

pub same-all : (ns : List Node) → Same ns ns
same-all ns = record { size = refl; linked = λ i. record { parent = refl; ordinal = refl; children = omega arith }; procedures = λ i. refl; fates = λ i. refl }

pub chained : (f g : ℕ → Fate → Fate) (ns ms os : List Node) → Fates f ns ms → Fates g ms os → Fates (λ i fate. g i (f i fate)) ns os
chained f g ns ms os a b = record {
  size = b.size ∙ a.size;
  linked = λ i. linked-then (node_at ns i) (node_at ms i) (node_at os i) (a.linked i) (b.linked i);
  procedures = λ i. b.procedures i ∙ a.procedures i;
  fates = λ i. b.fates i ∙ ap (g i) (a.fates i);
}

module _ (f : ℕ → Fate → Fate) (ns : List Node) (k : ℕ) (n : Node) (there : k < length ns) (linked : Linked (node_at ns k) n)
    (procedure : n.procedure ≡ (node_at ns k).procedure) (own : n.fate ≡ f k (node_at ns k).fate)
    (others : (i : ℕ) → i ≢ k → (fate : Fate) → f i fate ≡ fate) where
  pub set-fates : Fates f ns (slice_set ns k n)
  set-fates = record {
    size = length-set ns k n;
    linked = linked_set ns k n there linked;
    procedures = λ i. elim (at_set ns k n i no_node there) [
      | inl e ↦ ap (λ (x : Node). x.procedure) e.1 ∙ procedure ∙ ap (λ j. (node_at ns j).procedure) (sym e.0)
      | inr e ↦ ap (λ (x : Node). x.procedure) e.1
    ];
    fates = λ i. elim (at_set ns k n i no_node there) [
      | inl e ↦ ap (λ (x : Node). x.fate) e.1 ∙ own ∙ ap (λ j. f j (node_at ns j).fate) (sym e.0)
      | inr e ↦ ap (λ (x : Node). x.fate) e.1 ∙ sym (others i e.0 (node_at ns i).fate)
    ];
  }

pub set-same : (ns : List Node) (k : ℕ) (n : Node) → k < length ns → Linked (node_at ns k) n → n.procedure ≡ (node_at ns k).procedure
    → n.fate ≡ (node_at ns k).fate → Same ns (slice_set ns k n)
set-same ns k n there linked procedure own = set-fates (λ i fate. fate) ns k n there linked procedure own (λ i ne fate. refl)

pub set-one : (g : Fate → Fate) (ns : List Node) (k : ℕ) (n : Node) → k < length ns → Linked (node_at ns k) n → n.procedure ≡ (node_at ns k).procedure
    → n.fate ≡ g (node_at ns k).fate → Fates (at_one k g) ns (slice_set ns k n)
set-one g ns k n there linked procedure own =
    set-fates (at_one k g) ns k n there linked procedure
    (own ∙ sym (ap (λ b. if b then g (node_at ns k).fate else (node_at ns k).fate) (eq-eqb k k refl)))
    (λ i ne fate. ap (λ b. if b then g fate else fate) (ne_eqb i k ne))

pub parked-same : (ns : List Node) (k : ℕ) (frame : _) → k < length ns → Same ns (with_parked ns k frame)
parked-same ns k frame there = set-same ns k _ there (record { parent = refl; ordinal = refl; children = omega arith }) refl refl

pub waiting-same : (ns : List Node) (k : ℕ) (deliveries : List Delivery) → k < length ns → Same ns (with_waiting ns k deliveries)
waiting-same ns k deliveries there = set-same ns k _ there (record { parent = refl; ordinal = refl; children = omega arith }) refl refl

pub marked-same : (ns : List Node) (k : ℕ) → Same ns (marked_below ns k)
marked-same ns k = record {
  size = marked_length ns k;
  linked = marked_linked ns k;
  procedures = λ i. ap (λ (n : Node). n.procedure) (marked_node ns k i);
  fates = λ i. ap (λ (n : Node). n.fate) (marked_node ns k i);
}

awake-by : (ns : List Node) (r : ℕ) (b : Bool) → r < length ns → Same ns (if b then with_parked ns r None else ns)
awake-by ns r true there = parked-same ns r None there
awake-by ns r false there = same-all ns

pub awake-same : (ns : List Node) (o : Option ℕ) → ((r : ℕ) → o ≡ Some r → r < length ns) → Same ns (nodes_awake ns o)
awake-same ns None there = same-all ns
awake-same ns (Some r) there = awake-by ns r (can_go_on ns r) (there r refl)

sent-by : (ns : List Node) (k : ℕ) (z : ℤ) (o : Option ℕ) → k < length ns → ((r : ℕ) → o ≡ Some r → r < length ns)
    → Same ns (delivered_to o ns (delivery_of ns k z))
sent-by ns k z None there above = same-all ns
sent-by ns k z (Some p) there above =
    let bare = without_receiver ns k in
    let first : Same ns bare = set-same ns k (record (node_at ns k) { receiver = Nothing }) there
    (record { parent = refl; ordinal = refl; children = omega arith }) refl refl in
    let within : p < length bare = subst (λ l. p < l) (sym first.size) (above p refl) in
    chained (λ i fate. fate) (λ i fate. fate) ns bare _ first (waiting-same bare p _ within)

sent-if : (ns ms : List Node) (b : Bool) → Same ns ms → Same ns (if b then ms else ns)
sent-if ns ms true h = h
sent-if ns ms false h = same-all ns

pub sent-same : (ns : List Node) (k : ℕ) (z : ℤ) → IsTree ns → k < length ns → Same ns (sent ns k z)
sent-same ns k z tree there =
    sent-if ns _ (takes_value (node_at ns k).receiver && not (node_at ns k).aborted)
    (sent-by ns k z (node_at ns k).parent there (λ r e. parent_in ns k r tree e))

pub ended-one : (ns : List Node) (k : ℕ) (fate : Fate) → k < length ns → Fates (at_one k (λ x. fate)) ns (ended ns k fate)
ended-one ns k fate there = set-one (λ x. fate) ns k _ there (record { parent = refl; ordinal = refl; children = omega arith }) refl refl

-- the oldest delivery is taken
pub taken-one : (ns : List Node) (k choice : ℕ) (d : Delivery) → k < length ns → d.child < length ns → slice_get (node_at ns k).waiting 0 ≡ Some d
    → Fates (at_one d.child (after_taking choice)) ns (taken ns k choice)
taken-one ns k choice d there within is =
    let fewer = with_waiting ns k (drop 1 (node_at ns k).waiting) in
    let first = waiting-same ns k (drop 1 (node_at ns k).waiting) there in
    subst (λ o. Fates (at_one d.child (after_taking choice)) ns (value_taken o choice fewer)) (sym is)
    (chained (λ i fate. fate) (at_one d.child (after_taking choice)) ns fewer _ first
    (set-one (after_taking choice) fewer d.child _ (subst (λ l. d.child < l) (sym first.size) within)
    (record { parent = refl; ordinal = refl; children = omega arith }) refl refl))

-- who ends, and hands back to its parent
pub ended-awake : (ns ms : List Node) (k : ℕ) (fate : Fate) (o : Option ℕ) → Same ns ms → k < length ns → ((r : ℕ) → o ≡ Some r → r < length ns)
    → Fates (at_one k (λ x. fate)) ns (nodes_awake (ended ms k fate) o)
ended-awake ns ms k fate o first there above =
    let last = ended-one ms k fate (subst (λ l. k < l) (sym first.size) there) in
    let up = awake-same (ended ms k fate) o (λ r e. subst (λ l. r < l) (sym (last.size ∙ first.size)) (above r e)) in
    chained (at_one k (λ x. fate)) (λ i x. x) ns (ended ms k fate) _ (chained (λ i x. x) (at_one k (λ x. fate)) ns ms (ended ms k fate) first last) up

module _ (program : Labelled) (choice : ℕ) (ns : List Node) (tree : IsTree ns) where
  pub followed : (f : ℕ → Fate → Fate) (ms : List Node) (did : Event) → Fates f ns ms → Births program ns ms did
      → ((i : ℕ) → i < length ns → (fate : Fate) → f i fate ≡ fate_after choice (path_at ns i) did fate) → Follows program choice ns ms did
  followed f ms did h births told = record {
    births = births;
    stays = λ i lt. record {
      path = path_linked ns ms tree h.linked i;
      procedure = h.procedures i;
      fate = h.fates i ∙ told i lt (node_at ns i).fate;
    };
  }

  -- the fate of the one at this path is changed
  pub by-path : (k : ℕ) (g : Fate → Fate) (p : Path) → k < length ns → path_at ns k ≡ p → (i : ℕ) → i < length ns → (fate : Fate)
      → at_one k g i fate ≡ (if same_path p (path_at ns i) then g fate else fate)
  by-path k g p there is i lt fate =
      ap (λ b. if b then g fate else fate) (number_is_path ns k i tree there lt ∙ ap (λ q. same_path q (path_at ns i)) is)

-- a spawn
module _ (t : InHand) (choice callee n : ℕ) (receiver : Receiver) where
  abbrev old : List Node
  old = t.machine.nodes

  abbrev new : List Node
  new = with_child old t.frame.id callee receiver

  fate-kept : (i : ℕ) → (node_at (grown old t.frame.id) i).fate ≡ (node_at old i).fate
  fate-kept i =
      (set-same old t.frame.id (grown_parent old t.frame.id) (inside t) (record { parent = refl; ordinal = refl; children = omega arith })
      refl refl).fates i

  procedure-kept : (i : ℕ) → (node_at (grown old t.frame.id) i).procedure ≡ (node_at old i).procedure
  procedure-kept i =
      (set-same old t.frame.id (grown_parent old t.frame.id) (inside t) (record { parent = refl; ordinal = refl; children = omega arith })
      refl refl).procedures i

  pub spawn-followed : (child : Path) → path_at new (length old) ≡ child → callee_of (label t.program) n ≡ Some callee
      → Follows (label t.program) choice old new (event.spawned child n)
  spawn-followed child named callee_is =
      let g = grows old t.frame.id callee receiver (inside t) in
      record {
        births = record {
          count = (let l = g.len in omega (arith, l));
          path = named;
          fate = ap (λ (x : Node). x.fate) g.child;
          procedure = callee_is ∙ ap (λ (x : Node). Some x.procedure) (sym g.child);
        };
        stays = λ i lt.
            let other : node_at new i ≡ node_at (grown old t.frame.id) i = grown_other old t.frame.id callee receiver i (λ e. omega (arith, lt, e)) in
            record {
              path = path_old old t.frame.id callee receiver (inside t) t.agrees.tree i lt;
              procedure = ap (λ (x : Node). x.procedure) other ∙ procedure-kept i;
              fate = ap (λ (x : Node). x.fate) other ∙ fate-kept i;
            };
      }
