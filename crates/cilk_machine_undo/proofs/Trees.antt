-- What was changed in the tree is put back.
use Rattle.std.proofs.Common.{◌≡◌, ◌≢◌, ◌<◌, ◌-◌, ◌+◌, ◌||◌, ◌&&◌, not, ℕ, ℤ, zero, suc, Bool, true, false, List, [], ◌∷◌, ◌++◌, drop, take, length}
use Rattle.std.proofs.Common.{length-set, length-append, take_at, Option, Some, None, refl, sym, ap, ◌∙◌, subst, arith, inl, inr, slice_get, slice_set}
use Rattle.std.proofs.Common.{if◌then◌else◌, get_or-set_same, get_or-set_other}
use Rattle.std.proofs.lemmas.List.{set-append_left, set-get_or, get_or_append_left}
use Rattle.cilk_machine_plan.specs.model.Hands.{bottom_of, above_bottom}
use Rattle.cilk_machine_plan.specs.frame.Frames.{Frame}
use Rattle.cilk_machine_plan.specs.spawn.declared.delivery.Delivery.{Delivery}
use Rattle.cilk_machine_plan.specs.spawn.declared.fate.Fate.{Fate}
use Rattle.cilk_machine_plan.specs.spawn.declared.fate.Fate.TheVariants.{Live, Returned, Delivered, Aborted}
use Rattle.cilk_machine_plan.specs.frame.declared.receiver.Receiver.{Receiver}
use Rattle.cilk_machine_plan.specs.frame.declared.receiver.Receiver.TheVariants.{Nothing}
use Rattle.cilk_machine_plan.specs.spawn.Nodes.{Node, IsTree, no_node, node_at, lives, is_live, is_live_below, new_child, with_child, with_waiting}
use Rattle.cilk_machine_plan.specs.spawn.Nodes.{without_receiver, with_fate, with_parked, delivery_of, delivered_to, after_taking, value_taken, taken, ended}
use Rattle.cilk_machine_plan.specs.spawn.Nodes.{marked_below, marked_at}
use Rattle.cilk_machine_plan.specs.spawn.Remains.{Remains}
use Rattle.cilk_machine_plan.specs.spawn.Dropped.{fewer, unborn}
use Rattle.cilk_machine_plan.specs.spawn.Revived.{alive, revived}
use Rattle.cilk_machine_plan.specs.spawn.Undone.{given_back, unsent, unmark, unmarked}
use Rattle.cilk_machine_plan.specs.agree.Laws.{sent, can_go_on}
use Rattle.cilk_machine_plan.specs.Carried.{nodes_awake, awake_in}
use Rattle.cilk_machine_plan.proofs.spawn_laws.Children.{parent_in}
use Rattle.cilk_machine_plan.proofs.spawn_laws.Marks.{marked_node, marked_length}
use Rattle.cilk_machine_plan.proofs.frame_laws.Bottoms.{bottom_of-push, above_bottom-push}
use Rattle.cilk_machine_undo.specs.Undo.{family_before, asleep, unsent_to}
use Rattle.cilk_machine_undo.specs.Records.{took_of, taken_of, is_new, marked_by, is_sent}
use Rattle.cilk_machine_plan.specs.Spends.{remains_in}
use Rattle.cilk_machine_undo.proofs.Back.{back_at, came_back, changes_swap, back_all, IsIn, Comes, all_back, is_in, passes}

pub born-back : (ns : List Node) (p procedure : ℕ) (receiver : Receiver) → p < length ns → unborn p (with_child ns p procedure receiver) ≡ ns
born-back ns p procedure receiver there =
    let grown : Node = record (node_at ns p) { children = (node_at ns p).children + 1 } in
    let front : List Node = slice_set ns p grown in
    let child : Node = new_child ns p procedure receiver in
    let size : length front ≡ length ns = length-set ns p grown in
    let own : node_at (front ++ child ∷ []) p ≡ node_at front p = get_or_append_left front (child ∷ []) no_node p (omega arith) in
    let less : (node_at ns p).children + 1 - 1 ≡ (node_at ns p).children = omega arith in
    let restored : back_at no_node front p fewer ≡ ns = came_back no_node ns p grown fewer (λ i. record (node_at ns p) { children = less i }) in
    let short : length (back_at no_node front p fewer) ≡ length (front ++ child ∷ []) - 1 =
    omega (arith, length-append front (child ∷ []), length-set front p (fewer (node_at front p))) in
    ap (take (length (front ++ child ∷ []) - 1))
    ((λ i. slice_set (front ++ child ∷ []) p (fewer (own i))) ∙ set-append_left front (child ∷ []) p (fewer (node_at front p)) (omega arith))
    ∙ take_at (back_at no_node front p fewer) (child ∷ []) (length (front ++ child ∷ []) - 1) short ∙ restored

fate-apart : (ns : List Node) (k c : ℕ) (rest : List Delivery) → (node_at (with_waiting ns k rest) c).fate ≡ (node_at ns c).fate
fate-apart [] k c rest = refl
fate-apart (n ∷ ns) zero zero rest = refl
fate-apart (n ∷ ns) zero (suc c) rest = refl
fate-apart (n ∷ ns) (suc k) zero rest = refl
fate-apart (n ∷ ns) (suc k) (suc c) rest = fate-apart ns k c rest

taken-back-by : (ns : List Node) (k choice : ℕ) (ds : List Delivery) → (node_at ns k).waiting ≡ ds
    → family_before (took_of (slice_get ds 0) k ns) (value_taken (slice_get ds 0) choice (with_waiting ns k (drop 1 ds))) ≡ ns
taken-back-by ns k choice [] is = (λ i. slice_set ns k (record (node_at ns k) { waiting = sym is i })) ∙ set-get_or ns k no_node
taken-back-by ns k choice (d ∷ rest) is =
    let less : List Node = with_waiting ns k rest in
    let c = d.child in
    let told : Node = record (node_at less c) { fate = after_taking choice (node_at less c).fate } in
    let was = (node_at ns c).fate in
    let again : Node → Node = λ n. record n { waiting = d ∷ n.waiting } in
    let fated : Node → Node = λ n. record n { fate = was } in
    let first : with_fate (slice_set less c told) c was ≡ less =
    came_back no_node less c told fated (λ i. record (node_at less c) { fate = sym (fate-apart ns k c rest) i }) in
    changes_swap no_node (slice_set less c told) k c again fated (λ n. refl)
    ∙ ap (λ ms. back_at no_node ms k again) first
    ∙ came_back no_node ns k (record (node_at ns k) { waiting = rest }) again (λ i. record (node_at ns k) { waiting = sym is i })

pub taken-back : (ns : List Node) (k choice : ℕ) → family_before (taken_of k ns) (taken ns k choice) ≡ ns
taken-back ns k choice = taken-back-by ns k choice (node_at ns k).waiting refl

pub parked-back : (ns : List Node) (k : ℕ) (o : Option Frame) → (node_at ns k).parked ≡ None → with_parked (with_parked ns k o) k None ≡ ns
parked-back ns k o free =
    came_back no_node ns k (record (node_at ns k) { parked = o }) (λ n. record n { parked = None }) (λ i. record (node_at ns k) { parked = sym free i })

pub parked-there : (ns : List Node) (k : ℕ) (o : Option Frame) → k < length ns → (node_at (with_parked ns k o) k).parked ≡ o
parked-there ns k o h = ap (λ (n : Node). n.parked) (get_or-set_same ns k (record (node_at ns k) { parked = o }) no_node h)

pub live-fate : (fate : Fate) → lives fate ≡ true → fate ≡ Live
live-fate Live e = refl
live-fate Returned e = cc
live-fate (Delivered choice) e = cc
live-fate (Aborted choice) e = cc

-- a part of a node that a write leaves as it was
pub set-part : {A : Type 0} (part : Node → A) (ns : List Node) (j k : ℕ) (n : Node) → part n ≡ part (node_at ns j)
    → part (node_at (slice_set ns j n) k) ≡ part (node_at ns k)
set-part part [] j k n e = refl
set-part part (x ∷ ns) zero zero n e = e
set-part part (x ∷ ns) zero (suc k) n e = refl
set-part part (x ∷ ns) (suc j) zero n e = refl
set-part part (x ∷ ns) (suc j) (suc k) n e = set-part part ns j k n e

abbrev parent_of : Node → Option ℕ
parent_of n = n.parent

awake-parent-by : (ns : List Node) (r k : ℕ) (can : Bool) → (node_at (if can then with_parked ns r None else ns) k).parent ≡ (node_at ns k).parent
awake-parent-by ns r k true = set-part parent_of ns r k (record (node_at ns r) { parked = None }) refl
awake-parent-by ns r k false = refl

pub awake-parent : (ns : List Node) (o : Option ℕ) (k : ℕ) → (node_at (nodes_awake ns o) k).parent ≡ (node_at ns k).parent
awake-parent ns None k = refl
awake-parent ns (Some r) k = awake-parent-by ns r k (can_go_on ns r)

pub ended-parent : (ns : List Node) (j k : ℕ) (fate : Fate) → (node_at (ended ns j fate) k).parent ≡ (node_at ns k).parent
ended-parent ns j k fate = set-part parent_of ns j k (record (node_at ns j) { fate = fate; receiver = Nothing; waiting = []; parked = None }) refl

pub asleep-parent : (o : Option ℕ) (hand : Option Frame) (ns : List Node) (k : ℕ) → (node_at (asleep o hand ns) k).parent ≡ (node_at ns k).parent
asleep-parent None hand ns k = refl
asleep-parent (Some r) None ns k = refl
asleep-parent (Some r) (Some g) ns k = set-part parent_of ns r k (record (node_at ns r) { parked = Some g }) refl

pub revived-parent : (ns : List Node) (j k : ℕ) (r : Remains) → (node_at (revived ns j r) k).parent ≡ (node_at ns k).parent
revived-parent ns j k r = set-part parent_of ns j k (alive r (node_at ns j)) refl

sent-part-by : {A : Type 0} (part : Node → A) (ns : List Node) (j k : ℕ) (z : ℤ) (o : Option ℕ) (does : Bool)
    → ((n : Node) (ds : List Delivery) → part (record n { waiting = ds }) ≡ part n) → ((n : Node) (r : Receiver) → part (record n { receiver = r }) ≡ part n)
    → part (node_at (if does then delivered_to o ns (delivery_of ns j z) else ns) k) ≡ part (node_at ns k)
sent-part-by part ns j k z None true waits takes = refl
sent-part-by part ns j k z (Some p) true waits takes =
    let bare : List Node = without_receiver ns j in
    let more : List Delivery = (node_at ns p).waiting ++ delivery_of ns j z ∷ [] in
    set-part part bare p k (record (node_at bare p) { waiting = more }) (waits (node_at bare p) more)
    ∙ set-part part ns j k (record (node_at ns j) { receiver = Nothing }) (takes (node_at ns j) Nothing)
sent-part-by part ns j k z o false waits takes = refl

-- who sends its value, and who is sent one, keep all but that
pub sent-part : {A : Type 0} (part : Node → A) (ns : List Node) (j k : ℕ) (z : ℤ)
    → ((n : Node) (ds : List Delivery) → part (record n { waiting = ds }) ≡ part n)
    → ((n : Node) (r : Receiver) → part (record n { receiver = r }) ≡ part n) → part (node_at (sent ns j z) k) ≡ part (node_at ns k)
sent-part part ns j k z waits takes = sent-part-by part ns j k z (node_at ns j).parent (is_sent ns j) waits takes

pub sent-parent : (ns : List Node) (j k : ℕ) (z : ℤ) → (node_at (sent ns j z) k).parent ≡ (node_at ns k).parent
sent-parent ns j k z = sent-part parent_of ns j k z (λ n ds. refl) (λ n r. refl)

module _ (ns : List Node) (k : ℕ) (fate : Fate) (live : is_live (node_at ns k) ≡ true) (free : (node_at ns k).parked ≡ None) where
  abbrev pub gone : List Node
  gone = ended ns k fate

  abbrev pub again : List Node → List Node
  again ms = revived ms k (remains_in ns k)

  pub ended-back : again gone ≡ ns
  ended-back =
      let n = node_at ns k in
      came_back no_node ns k (record n { fate = fate; receiver = Nothing; waiting = []; parked = None }) (alive (remains_in ns k))
      (λ i. record n { fate = sym (live-fate n.fate live) i; parked = sym free i })

  -- where a parent was taken out of the tree
  pub again-awake : (r : ℕ) → again (with_parked gone r None) ≡ with_parked ns r None
  again-awake r =
      let out : Node → Node = λ n. record n { parked = None } in
      changes_swap no_node gone r k out (alive (remains_in ns k)) (λ n. refl) ∙ ap (λ ms. back_at no_node ms r out) ended-back

  -- it was put into it again
  asleep-back-by : (r : ℕ) (can : Bool) (o : Option Frame) → r ≢ k → (node_at gone r).parked ≡ o
      → asleep (Some r) (if can then o else None) (again (if can then with_parked gone r None else gone)) ≡ ns
  asleep-back-by r false o apart is = ended-back
  asleep-back-by r true None apart is =
      ap again ((λ i. slice_set gone r (record (node_at gone r) { parked = sym is i })) ∙ set-get_or gone r no_node) ∙ ended-back
  asleep-back-by r true (Some g) apart is =
      let was : (node_at ns r).parked ≡ Some g =
      ap (λ (n : Node). n.parked)
      (sym (get_or-set_other ns k r (record (node_at ns k) { fate = fate; receiver = Nothing; waiting = []; parked = None }) no_node apart)) ∙ is in
      ap (λ ms. with_parked ms r (Some g)) (again-awake r)
      ∙ came_back no_node ns r (record (node_at ns r) { parked = None }) (λ n. record n { parked = Some g })
      (λ i. record (node_at ns r) { parked = sym was i })

  pub asleep-back : (o : Option ℕ) → ((r : ℕ) → o ≡ Some r → r ≢ k) → asleep o (awake_in gone o) (again (nodes_awake gone o)) ≡ ns
  asleep-back None apart = ended-back
  asleep-back (Some r) apart = asleep-back-by r (can_go_on gone r) (node_at gone r).parked (apart r refl) refl

waits-apart : (ns : List Node) (k p : ℕ) (r : Receiver)
    → (node_at (slice_set ns k (record (node_at ns k) { receiver = r })) p).waiting ≡ (node_at ns p).waiting
waits-apart [] k p r = refl
waits-apart (n ∷ ns) zero zero r = refl
waits-apart (n ∷ ns) zero (suc p) r = refl
waits-apart (n ∷ ns) (suc k) zero r = refl
waits-apart (n ∷ ns) (suc k) (suc p) r = waits-apart ns k p r

delivered-back : (ns : List Node) (k p : ℕ) (z : ℤ) → p < length ns → unsent (delivered_to (Some p) ns (delivery_of ns k z)) p k ≡ ns
delivered-back ns k p z there =
    let bare : List Node = without_receiver ns k in
    let waits = (node_at ns p).waiting in
    let d = delivery_of ns k z in
    let queued : Node = record (node_at bare p) { waiting = waits ++ d ∷ [] } in
    let more : List Node = slice_set bare p queued in
    let within : p < length bare = subst (λ n. p < n) (sym (length-set ns k (record (node_at ns k) { receiver = Nothing }))) there in
    let queue : (node_at more p).waiting ≡ waits ++ d ∷ [] = ap (λ (n : Node). n.waiting) (get_or-set_same bare p queued no_node within) in
    let last : bottom_of (node_at more p).waiting ≡ Some d = ap bottom_of queue ∙ bottom_of-push waits d in
    let rest : above_bottom (node_at more p).waiting ≡ waits = ap above_bottom queue ∙ above_bottom-push waits d in
    let gone : with_waiting more p waits ≡ bare =
    came_back no_node bare p queued (λ n. record n { waiting = waits }) (λ i. record (node_at bare p) { waiting = sym (waits-apart ns k p Nothing) i }) in
    (λ i. given_back (with_waiting more p (rest i)) k (last i)) ∙ ap (λ ms. given_back ms k (Some d)) gone
    ∙ came_back no_node ns k (record (node_at ns k) { receiver = Nothing }) (λ n. record n { receiver = d.receiver }) refl

sent-back-by : (ns : List Node) (k : ℕ) (z : ℤ) (o : Option ℕ) (does : Bool) → IsTree ns → (node_at ns k).parent ≡ o
    → unsent_to does o k (if does then delivered_to o ns (delivery_of ns k z) else ns) ≡ ns
sent-back-by ns k z None true t is = refl
sent-back-by ns k z (Some p) true t is = delivered-back ns k p z (parent_in ns k p t is)
sent-back-by ns k z None false t is = refl
sent-back-by ns k z (Some p) false t is = refl

pub sent-back : (ns : List Node) (k : ℕ) (z : ℤ) → IsTree ns → unsent_to (is_sent ns k) (node_at ns k).parent k (sent ns k z) ≡ ns
sent-back ns k z t = sent-back-by ns k z (node_at ns k).parent (is_sent ns k) t refl

-- nothing was sent
pub unsent-not : (ns : List Node) (k : ℕ) (o : Option ℕ) → unsent_to false o k ns ≡ ns
unsent-not ns k None = refl
unsent-not ns k (Some p) = refl

new-lives : (l a : Bool) → (l && not a) ≡ true → (l ≡ true) × (a ≡ false)
new-lives true true e = cc
new-lives true false e = (refl, refl)
new-lives false a e = cc

old-stays : (l a : Bool) → (l && not a) ≡ false → (a || l) ≡ a
old-stays true true e = refl
old-stays true false e = cc
old-stays false true e = refl
old-stays false false e = refl

pub unmarked-is : (ids : List ℕ) (ns : List Node) → unmarked ns ids ≡ back_all no_node unmark ids ns
unmarked-is [] ns = refl
unmarked-is (i ∷ ids) ns = unmarked-is ids (slice_set ns i (unmark (node_at ns i)))

module _ (ns : List Node) (k : ℕ) where
  unmarked-there : (i : ℕ) → is_new ns k i ≡ true → unmark (node_at ns i) ≡ node_at ns i
  unmarked-there i e =
      let h = new-lives (is_live_below ns k i) (node_at ns i).aborted e in
      λ j. record (node_at ns i) { aborted = sym h.1 j }

  old-there : (i : ℕ) → is_new ns k i ≡ false → marked_at ns k i ≡ node_at ns i
  old-there i e = λ j. record (node_at ns i) { aborted = old-stays (is_live_below ns k i) (node_at ns i).aborted e j }

  came-node : (i : ℕ) (b : Bool) → is_new ns k i ≡ b → (b ≡ true → IsIn i (marked_by k ns))
      → Comes unmark (marked_by k ns) i (node_at (marked_below ns k) i) (node_at ns i)
  came-node i true e there = inr (there refl, ap unmark (marked_node ns k i) ∙ unmarked-there i e)
  came-node i false e there = inl (marked_node ns k i ∙ old-there i e)

  pub marks-back : unmarked (marked_below ns k) (marked_by k ns) ≡ ns
  marks-back =
      unmarked-is (marked_by k ns) (marked_below ns k)
      ∙ all_back no_node unmark (marked_by k ns) (marked_below ns k) ns (marked_length ns k)
      (λ i h. let p = passes (is_new ns k) (length ns) i h in (p.0, unmarked-there i p.1))
      (λ i h. came-node i (is_new ns k i) refl (λ e. is_in (is_new ns k) (length ns) i h e))
