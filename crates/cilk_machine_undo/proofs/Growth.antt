-- Each change of a tree lets it grow.
use Rattle.std.proofs.Common.{◌≡◌, ◌+◌, ◌||◌, ◌&&◌, ℕ, ℤ, zero, suc, Bool, true, false, if◌then◌else◌, List, [], ◌∷◌, ◌++◌, drop, length}
use Rattle.std.proofs.Common.{Option, Some, None, refl, sym, ap, ◌∙◌, subst, arith, slice_get, slice_set, length-set, length-append}
use Rattle.std.proofs.lemmas.List.{get_or_append_left}
use Rattle.std.proofs.Math.Seq.{get_or-append_seam}
use Rattle.cilk_machine_plan.specs.model.Fate as model
use Rattle.cilk_machine_plan.specs.runs.FateLaws.{Moves, stays, returns, is_delivered, is_aborted}
use Rattle.cilk_machine_plan.specs.agree.Fated.{fate_named}
use Rattle.cilk_machine_plan.specs.agree.Laws.{sent, can_go_on}
use Rattle.cilk_machine_plan.specs.Carried.{nodes_awake}
use Rattle.cilk_machine_plan.specs.frame.Frames.{Frame}
use Rattle.cilk_machine_plan.specs.spawn.declared.delivery.Delivery.{Delivery}
use Rattle.cilk_machine_plan.specs.spawn.declared.fate.Fate.{Fate}
use Rattle.cilk_machine_plan.specs.spawn.declared.fate.Fate.TheVariants.{Live, Returned, Delivered, Aborted}
use Rattle.cilk_machine_plan.specs.frame.declared.receiver.Receiver.{Receiver}
use Rattle.cilk_machine_plan.specs.frame.declared.receiver.Receiver.TheVariants.{Nothing}
use Rattle.cilk_machine_plan.specs.spawn.Nodes.{Node, IsTree, no_node, node_at, lives, is_live, descends, new_child, with_child, with_waiting}
use Rattle.cilk_machine_plan.specs.spawn.Nodes.{without_receiver, with_parked, delivery_of, delivered_to, after_taking, value_taken, taken, ended}
use Rattle.cilk_machine_plan.specs.spawn.Nodes.{marked_below}
use Rattle.cilk_machine_plan.specs.declared.plan.Plan.TheVariants as plan
use Rattle.cilk_machine_plan.proofs.spawn_laws.Marks.{marked_node, marked_length}
use Rattle.cilk_machine_undo.specs.Growth.{SameBirth, NodeGrows, Grows, IsUntaken, IsUntakenFirst}
use Rattle.cilk_machine_undo.specs.GrowthLaws.{PlansGrow, PopsGrow, StealsGrow}
use Rattle.cilk_machine_undo.specs.Records.{is_sent}
use Rattle.cilk_machine_undo.proofs.Trees.{set-part, live-fate}

pub same-birth : (a : Node) → SameBirth a a
same-birth a = record { parent = refl; ordinal = refl; procedure = refl }

pub both-births : (a b c : Node) → SameBirth a b → SameBirth b c → SameBirth a c
both-births a b c x y =
    record { parent = y.parent ∙ x.parent; ordinal = y.ordinal ∙ x.ordinal; procedure = y.procedure ∙ x.procedure }

-- a fate that has a name of the definitions
abbrev named_alive : model.Fate → Bool
named_alive model.lives = true
named_alive model.has_returned = false
named_alive (model.was_delivered d) = false
named_alive (model.was_aborted d) = false

named-lives : (fate : Fate) → named_alive (fate_named fate) ≡ lives fate
named-lives Live = refl
named-lives Returned = refl
named-lives (Delivered d) = refl
named-lives (Aborted d) = refl

named-stays : (n : ℕ) (a b : model.Fate) → Moves n a b → named_alive a ≡ false → named_alive b ≡ false
named-stays n a b (stays fate) e = e
named-stays n a b returns e = refl
named-stays n a b is_delivered e = refl
named-stays n a b is_aborted e = refl

-- who has ended does not live again
pub dead-stays : (n : ℕ) (f g : Fate) → Moves n (fate_named f) (fate_named g) → lives f ≡ false → lives g ≡ false
dead-stays n f g moves e = sym (named-lives g) ∙ named-stays n (fate_named f) (fate_named g) moves (named-lives f ∙ e)

-- birth and fate are as they were, and of one that has ended all is
record Keeps (a b : Node) : Type 0 where
  birth : SameBirth a b
  fate : b.fate ≡ a.fate
  rest : is_live a ≡ false → b ≡ a

keeps-self : (a : Node) → Keeps a a
keeps-self a = record { birth = same-birth a; fate = refl; rest = λ e. refl }

-- so it is of one that lives, where birth and fate are as they were
keeps-live : (a b : Node) → is_live a ≡ true → SameBirth a b → b.fate ≡ a.fate → Keeps a b
keeps-live a b live birth fate = record { birth = birth; fate = fate; rest = λ e. absurd (let no : true ≡ false = sym live ∙ e in cc) }

module _ (n : ℕ) where
  grows-self : (a : Node) → NodeGrows n a a
  grows-self a = record { birth = same-birth a; fate = stays (fate_named a.fate); rest = λ e. refl }

  keeps-grows : (a b c : Node) → Keeps a b → NodeGrows n b c → NodeGrows n a c
  keeps-grows a b c k g = record {
    birth = both-births a b c k.birth g.birth;
    fate = subst (λ (f : Fate). Moves n (fate_named f) (fate_named c.fate)) k.fate g.fate;
    rest = λ e. g.rest (ap lives k.fate ∙ e) ∙ ap (λ (x : Node). record x { fate = c.fate }) (k.rest e);
  }

  grows-keeps : (a b c : Node) → NodeGrows n a b → Keeps b c → NodeGrows n a c
  grows-keeps a b c g k = record {
    birth = both-births a b c g.birth k.birth;
    fate = subst (λ (f : Fate). Moves n (fate_named a.fate) (fate_named f)) (sym k.fate) g.fate;
    rest = λ e. k.rest (dead-stays n a.fate b.fate g.fate e) ∙ g.rest e ∙ ap (λ (f : Fate). record a { fate = f }) (sym k.fate);
  }

-- as many nodes, each of which is so
record KeepAll (ns ms : List Node) : Type 0 where
  size : length ms ≡ length ns
  each : (i : ℕ) → Keeps (node_at ns i) (node_at ms i)

record GrowAll (n : ℕ) (ns ms : List Node) : Type 0 where
  size : length ms ≡ length ns
  each : (i : ℕ) → NodeGrows n (node_at ns i) (node_at ms i)

-- a write makes of the node that is written what it makes, and leaves the others
set-makes : (R : Node → Node → Type 0) → ((x : Node) → R x x) → (ns : List Node) (j i : ℕ) (x : Node) → R (node_at ns j) x
    → R (node_at ns i) (node_at (slice_set ns j x) i)
set-makes R self [] j i x r = self no_node
set-makes R self (y ∷ ns) zero zero x r = r
set-makes R self (y ∷ ns) zero (suc i) x r = self (node_at ns i)
set-makes R self (y ∷ ns) (suc j) zero x r = self y
set-makes R self (y ∷ ns) (suc j) (suc i) x r = set-makes R self ns j i x r

keep-self : (ns : List Node) → KeepAll ns ns
keep-self ns = record { size = refl; each = λ i. keeps-self (node_at ns i) }

keep-set : (ns : List Node) (j : ℕ) (x : Node) → is_live (node_at ns j) ≡ true → SameBirth (node_at ns j) x → x.fate ≡ (node_at ns j).fate
    → KeepAll ns (slice_set ns j x)
keep-set ns j x live birth fate = record {
  size = length-set ns j x;
  each = λ i. set-makes Keeps keeps-self ns j i x (keeps-live (node_at ns j) x live birth fate);
}

keep-parked : (ns : List Node) (k : ℕ) (o : Option Frame) → is_live (node_at ns k) ≡ true → KeepAll ns (with_parked ns k o)
keep-parked ns k o live = keep-set ns k (record (node_at ns k) { parked = o }) live (record { parent = refl; ordinal = refl; procedure = refl }) refl

keep-waiting : (ns : List Node) (k : ℕ) (ds : List Delivery) → is_live (node_at ns k) ≡ true → KeepAll ns (with_waiting ns k ds)
keep-waiting ns k ds live = keep-set ns k (record (node_at ns k) { waiting = ds }) live (record { parent = refl; ordinal = refl; procedure = refl }) refl

keep-both : (n : ℕ) (ns ms ls : List Node) → KeepAll ns ms → GrowAll n ms ls → GrowAll n ns ls
keep-both n ns ms ls k g = record {
  size = g.size ∙ k.size;
  each = λ i. keeps-grows n (node_at ns i) (node_at ms i) (node_at ls i) (k.each i) (g.each i);
}

grow-both : (n : ℕ) (ns ms ls : List Node) → GrowAll n ns ms → KeepAll ms ls → GrowAll n ns ls
grow-both n ns ms ls g k = record {
  size = k.size ∙ g.size;
  each = λ i. grows-keeps n (node_at ns i) (node_at ms i) (node_at ls i) (g.each i) (k.each i);
}

grow-self : (n : ℕ) (ns : List Node) → GrowAll n ns ns
grow-self n ns = record { size = refl; each = λ i. grows-self n (node_at ns i) }

grow-kept : (n : ℕ) (ns ms : List Node) → KeepAll ns ms → GrowAll n ns ms
grow-kept n ns ms k = keep-both n ns ms ms k (grow-self n ms)

grow-set : (n : ℕ) (ns : List Node) (j : ℕ) (x : Node) → NodeGrows n (node_at ns j) x → GrowAll n ns (slice_set ns j x)
grow-set n ns j x g = record { size = length-set ns j x; each = λ i. set-makes (NodeGrows n) (grows-self n) ns j i x g }

-- nobody was born
none-born : (n : ℕ) (ns ms : List Node) → GrowAll n ns ms → Grows n ns ms
none-born n ns ms g =
    let size = g.size in
    record { size = omega arith; each = λ i h. g.each i; born = λ i low high. absurd (omega arith) }

-- a frame that is parked, or not any more
parked-grows : (n : ℕ) (ns : List Node) (k : ℕ) (o : Option Frame) → is_live (node_at ns k) ≡ true → Grows n ns (with_parked ns k o)
parked-grows n ns k o live = none-born n ns (with_parked ns k o) (grow-kept n ns (with_parked ns k o) (keep-parked ns k o live))

awake-by : (ns : List Node) (r : ℕ) (can : Bool) → is_live (node_at ns r) ≡ true → KeepAll ns (if can then with_parked ns r None else ns)
awake-by ns r true live = keep-parked ns r None live
awake-by ns r false live = keep-self ns

keep-awake : (ns : List Node) (o : Option ℕ) → ((r : ℕ) → o ≡ Some r → is_live (node_at ns r) ≡ true) → KeepAll ns (nodes_awake ns o)
keep-awake ns None live = keep-self ns
keep-awake ns (Some r) live = awake-by ns r (can_go_on ns r) (live r refl)

-- a value that is taken
fate-taken : (n : ℕ) (fate : Fate) → IsUntaken fate → Moves n (fate_named fate) (fate_named (after_taking n fate))
fate-taken n Live h = stays model.lives
fate-taken n Returned h = is_delivered
fate-taken n (Delivered d) h = absurd h
fate-taken n (Aborted d) h = absurd h

value-grows : (n : ℕ) (ns : List Node) (o : Option Delivery) → ((d : Delivery) → o ≡ Some d → IsUntaken (node_at ns d.child).fate)
    → GrowAll n ns (value_taken o n ns)
value-grows n ns None once = grow-self n ns
value-grows n ns (Some d) once =
    let was : Node = node_at ns d.child in
    grow-set n ns d.child (record was { fate = after_taking n was.fate }) (record {
      birth = record { parent = refl; ordinal = refl; procedure = refl };
      fate = fate-taken n was.fate (once d refl);
      rest = λ e. refl;
    })

taken-grows : (n : ℕ) (ns : List Node) (k : ℕ) → is_live (node_at ns k) ≡ true → IsUntakenFirst ns k → Grows n ns (taken ns k n)
taken-grows n ns k live once =
    let rest : List Delivery = drop 1 (node_at ns k).waiting in
    let less : List Node = with_waiting ns k rest in
    none-born n ns (taken ns k n)
    (keep-both n ns less (taken ns k n) (keep-waiting ns k rest live)
    (value-grows n less (slice_get (node_at ns k).waiting 0)
    (λ d e. subst IsUntaken (sym (set-part (λ (x : Node). x.fate) ns k d.child (record (node_at ns k) { waiting = rest }) refl)) (once d e))))

-- an instance that ends, whose parent may go on
ends-grow : (n : ℕ) (ns ms : List Node) (k : ℕ) (fate : Fate) (o : Option ℕ) → KeepAll ns ms → is_live (node_at ms k) ≡ true
    → Moves n model.lives (fate_named fate) → ((r : ℕ) → o ≡ Some r → is_live (node_at (ended ms k fate) r) ≡ true)
    → Grows n ns (nodes_awake (ended ms k fate) o)
ends-grow n ns ms k fate o keeps live moves outlives =
    let gone : List Node = ended ms k fate in
    let was : Node = node_at ms k in
    let over : GrowAll n ms gone = grow-set n ms k (record was { fate = fate; receiver = Nothing; waiting = []; parked = None }) (record {
      birth = record { parent = refl; ordinal = refl; procedure = refl };
      fate = subst (λ (f : Fate). Moves n (fate_named f) (fate_named fate)) (sym (live-fate was.fate live)) moves;
      rest = λ e. absurd (let no : true ≡ false = sym live ∙ e in cc);
    }) in
    none-born n ns (nodes_awake gone o)
    (keep-both n ns ms (nodes_awake gone o) keeps (grow-both n ms gone (nodes_awake gone o) over (keep-awake gone o outlives)))

-- a value that is sent
keep-then : (ns ms ls : List Node) → KeepAll ns ms → KeepAll ms ls → KeepAll ns ls
keep-then ns ms ls x y = record {
  size = y.size ∙ x.size;
  each = λ i. let a = x.each i in let b = y.each i in record {
    birth = both-births (node_at ns i) (node_at ms i) (node_at ls i) a.birth b.birth;
    fate = b.fate ∙ a.fate;
    rest = λ e. b.rest (ap lives a.fate ∙ e) ∙ a.rest e;
  };
}

sent-by : (ns : List Node) (k : ℕ) (z : ℤ) (o : Option ℕ) (does : Bool) → is_live (node_at ns k) ≡ true
    → ((p : ℕ) → o ≡ Some p → is_live (node_at ns p) ≡ true) → KeepAll ns (if does then delivered_to o ns (delivery_of ns k z) else ns)
sent-by ns k z None true live above = keep-self ns
sent-by ns k z (Some p) true live above =
    let bare : List Node = without_receiver ns k in
    let more : List Delivery = (node_at ns p).waiting ++ delivery_of ns k z ∷ [] in
    let still : is_live (node_at bare p) ≡ true = set-part is_live ns k p (record (node_at ns k) { receiver = Nothing }) refl ∙ above p refl in
    keep-then ns bare (with_waiting bare p more)
    (keep-set ns k (record (node_at ns k) { receiver = Nothing }) live (record { parent = refl; ordinal = refl; procedure = refl }) refl)
    (keep-waiting bare p more still)
sent-by ns k z o false live above = keep-self ns

keep-sent : (ns : List Node) (k : ℕ) (z : ℤ) → IsTree ns → is_live (node_at ns k) ≡ true → KeepAll ns (sent ns k z)
keep-sent ns k z t live = sent-by ns k z (node_at ns k).parent (is_sent ns k) live (λ p e. t.outlives k p e live)

-- a child that is born
born-grows : (n : ℕ) (ns : List Node) (k callee : ℕ) (receiver : Receiver) → is_live (node_at ns k) ≡ true → Grows n ns (with_child ns k callee receiver)
born-grows n ns k callee receiver live =
    let grown : Node = record (node_at ns k) { children = (node_at ns k).children + 1 } in
    let front : List Node = slice_set ns k grown in
    let child : Node = new_child ns k callee receiver in
    let now : List Node = front ++ child ∷ [] in
    let kept : KeepAll ns front = keep-set ns k grown live (record { parent = refl; ordinal = refl; procedure = refl }) refl in
    let same : length front ≡ length ns = kept.size in
    let more : length now ≡ length front + 1 = length-append front (child ∷ []) in
    record {
      size = omega arith;
      each = λ i h.
          subst (NodeGrows n (node_at ns i)) (sym (get_or_append_left front (child ∷ []) no_node i (omega arith)))
          (keeps-grows n (node_at ns i) (node_at front i) (node_at front i) (kept.each i) (grows-self n (node_at front i)));
      born = λ i low high.
          let at : i ≡ length front = omega arith in
          ap is_live (ap (node_at now) at ∙ get_or-append_seam front child [] no_node);
    }

-- an `abort`
dead-unmarked : (a l d : Bool) → l ≡ false → (a || (l && d)) ≡ a
dead-unmarked true l d e = refl
dead-unmarked false true d e = cc
dead-unmarked false false d e = refl

marks-grow : (n : ℕ) (ns : List Node) (k : ℕ) → Grows n ns (marked_below ns k)
marks-grow n ns k =
    none-born n ns (marked_below ns k) (grow-kept n ns (marked_below ns k) (record {
      size = marked_length ns k;
      each = λ i. subst (Keeps (node_at ns i)) (sym (marked_node ns k i)) (record {
        birth = record { parent = refl; ordinal = refl; procedure = refl };
        fate = refl;
        rest = λ e. ap (λ (b : Bool). record (node_at ns i) { aborted = b })
            (dead-unmarked (node_at ns i).aborted (is_live (node_at ns i)) (descends ns k i) e);
      });
    }))

same-grows : (n : ℕ) (ns : List Node) → Grows n ns ns
same-grows n ns = none-born n ns ns (grow-self n ns)

pub plan-grows : PlansGrow
plan-grows choice m w f body plan.Wait t ready once = absurd ready.needs
plan-grows choice m w f body plan.Park t ready once = parked-grows choice m.nodes f.id (Some f) ready.acting.live
plan-grows choice m w f body plan.End t ready once =
    ends-grow choice m.nodes m.nodes f.id (Aborted choice) (node_at m.nodes f.id).parent (keep-self m.nodes) ready.acting.live is_aborted
    ready.needs.outlives
plan-grows choice m w f body (plan.Trap kind n) t ready once = same-grows choice m.nodes
plan-grows choice m w f body (plan.Take child n reached z) t ready once = taken-grows choice m.nodes f.id ready.acting.live once
plan-grows choice m w f body (plan.Enter child n inlet arguments) t ready once = taken-grows choice m.nodes f.id ready.acting.live once
plan-grows choice m w f body (plan.Go n to) t ready once = same-grows choice m.nodes
plan-grows choice m w f body (plan.Write n reached z to) t ready once = same-grows choice m.nodes
plan-grows choice m w f body (plan.Call n awaits callee arguments to) t ready once = same-grows choice m.nodes
plan-grows choice m w f body (plan.Leave n) t ready once = same-grows choice m.nodes
plan-grows choice m w f body (plan.Answer n reached z) t ready once = same-grows choice m.nodes
plan-grows choice m w f body (plan.Return n z) t ready once =
    ends-grow choice m.nodes (sent m.nodes f.id z) f.id Returned (node_at m.nodes f.id).parent (keep-sent m.nodes f.id z t ready.acting.live)
    ready.needs.acting.live returns ready.needs.outlives
plan-grows choice m w f body (plan.Spawn n receiver callee arguments to) t ready once =
    born-grows choice m.nodes f.id callee receiver ready.acting.live
plan-grows choice m w f body (plan.Print n bytes to) t ready once = same-grows choice m.nodes
plan-grows choice m w f body (plan.TurnLock n lock now to) t ready once = same-grows choice m.nodes
plan-grows choice m w f body (plan.Abort n to) t ready once = marks-grow choice m.nodes f.id

pub pops-grow : PopsGrow
pops-grow choice m w = same-grows choice m.nodes

pub steals-grow : StealsGrow
steals-grow choice m w v = same-grows choice m.nodes
