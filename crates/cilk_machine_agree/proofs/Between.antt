-- The machine between the halves of a step.
use Rattle.std.proofs.Common.{◌≡◌, ◌<◌, ◌≤◌, ◌-◌, ◌&&◌, not, ℕ, ℤ, Bool, true, false, List, [], ◌∷◌, ◌++◌, length, Option, Some, None, refl, sym, ap}
use Rattle.std.proofs.Common.{◌∙◌, subst, slice_set, get_or-set_same, get_or-set_other, if◌then◌else◌}
use Rattle.std.specs.List.{list_any}
use Rattle.cilk_laws_model.specs.model.Path.{is_child}
use Rattle.cilk_laws_model.specs.model.Hands.{IsWorker, hand_of, deque_of, with_hand}
use Rattle.cilk_spawn.specs.declared.fate.Fate.TheVariants.{Aborted}
use Rattle.cilk_spawn.specs.frame.declared.receiver.Receiver.TheVariants.{Nothing}
use Rattle.cilk_spawn.specs.Nodes.{Node, IsTree, no_node, node_at, is_live, has_live_child, takes_value, delivery_of, delivered, delivered_to}
use Rattle.cilk_spawn.specs.Nodes.{without_receiver, path_at}
use Rattle.cilk_spawn.proofs.Trees.{live_there}
use Rattle.cilk_spawn.proofs.Children.{parent_other, tree_delivered, path_delivered, ids_delivered}
use Rattle.cilk_spawn.proofs.Alive.{live_child_by}
use Rattle.cilk_sched.proofs.Seats.{deque-kept, workers-of-hand}
use Rattle.cilk_machine_agree.specs.Laws.{InHand, sent}
use Rattle.cilk_machine_agree.specs.Between.{HandsAreFilled, HandsAreRestored, HandsAreHandedOn, CanEnd, SendersCanEnd, ParentsOutlive}
use Rattle.cilk_machine_agree.proofs.Frames.{hand-over, given-back, set_again, seat-over}
use Rattle.cilk_machine_agree.proofs.Alone.{holds, inside, free}
use Rattle.cilk_machine_agree.proofs.Ends.{lives-after}
use Rattle.cilk_machine_agree.proofs.Sends.{live-parent, sends}

pub hands-filled : HandsAreFilled
hands-filled places w f worker = hand-over places w None (Some f) worker

pub hands-restored : HandsAreRestored
hands-restored places w worker = hand-over places w None (hand_of places w) worker ∙ given-back places w

pub hands-handed_on : HandsAreHandedOn
hands-handed_on places w f g worker =
    let rest = with_hand places w None in
    let deque = deque_of rest w ++ f ∷ [] in
    let there : IsWorker rest w = record { from_one = worker.from_one; within = subst (λ n. w ≤ n) (sym (workers-of-hand places w None)) worker.within } in
    seat-over rest w deque (Some g) there
    ∙ set_again places (w - 1) (record { hand = None; deque = deque_of places w }) (record { hand = Some g; deque = deque })
    ∙ (λ i. slice_set places (w - 1) (record { hand = Some g; deque = deque-kept places w None worker i ++ f ∷ [] }))
    ∙ sym (seat-over places w (deque_of places w ++ f ∷ []) (Some g) worker)

-- a node that lives as another does, is parked as it is and has its parent
record Like (a b : Node) : Type 0 where
  live : is_live b ≡ is_live a
  parked : b.parked ≡ a.parked
  parent : b.parent ≡ a.parent

like-by : (a b : Node) → b ≡ a → Like a b
like-by a b e = record { live = ap is_live e; parked = ap (λ (n : Node). n.parked) e; parent = ap (λ (n : Node). n.parent) e }

sent-like : (ns : List Node) (k : ℕ) (z : ℤ) (o : Option ℕ) → IsTree ns → k < length ns → (node_at ns k).parent ≡ o
    → Like (node_at ns k) (node_at (delivered_to o ns (delivery_of ns k z)) k)
sent-like ns k z None t there e = like-by (node_at ns k) (node_at ns k) refl
sent-like ns k z (Some r) t there e =
    let bare : List Node = without_receiver ns k in
    let own : node_at (delivered_to (Some r) ns (delivery_of ns k z)) k ≡ node_at bare k =
    get_or-set_other bare r k _ no_node (λ same. parent_other ns k r t e (sym same)) in
    let first : node_at bare k ≡ record (node_at ns k) { receiver = Nothing } = get_or-set_same ns k _ no_node there in
    record {
      live = ap is_live (own ∙ first);
      parked = ap (λ (n : Node). n.parked) (own ∙ first);
      parent = ap (λ (n : Node). n.parent) (own ∙ first);
    }

either-one : {A : Type 0} (P : A → Type 0) (b : Bool) (x y : A) → P x → P y → P (if b then x else y)
either-one P true x y h k = h
either-one P false x y h k = k

module _ (t : InHand) (z : ℤ) (childless : has_live_child t.machine.nodes t.frame.id ≡ false) where
  abbrev ns : List Node
  ns = t.machine.nodes

  abbrev k : ℕ
  k = t.frame.id

  abbrev ms : List Node
  ms = delivered ns k z

  like : Like (node_at ns k) (node_at ms k)
  like = sent-like ns k z (node_at ns k).parent t.agrees.tree (inside t) refl

  lives : is_live (node_at ms k) ≡ true
  lives = like.live ∙ (holds t).live

  none-lives : has_live_child ms k ≡ false
  none-lives =
      let tree = t.agrees.tree in
      let up : path_at ms ≡ path_at ns = λ j i. path_delivered ns k z i tree j in
      live_child_by ms k (tree_delivered ns k z tree) (live_there ms k lives)
      ∙ (λ j. list_any (λ i. is_child (up j k) (up j i)) (ids_delivered ns k z tree j))
      ∙ sym (live_child_by ns k tree (inside t)) ∙ childless

  pub can-end : CanEnd t (sent ns k z)
  can-end =
      either-one (CanEnd t) (takes_value (node_at ns k).receiver && not (node_at ns k).aborted) ms ns
      (record { live = lives; childless = none-lives; free = like.parked ∙ free t; parent = like.parent })
      (record { live = (holds t).live; childless = childless; free = free t; parent = refl })

pub senders-can-end : SendersCanEnd
senders-can-end t z childless = can-end t z childless

pub parents-outlive : ParentsOutlive
parents-outlive t z choice r parent childless = (
  (sends t r parent z childless).live,
  lives-after t.machine.nodes r t.frame.id (Aborted choice) refl (inside t)
      (parent_other t.machine.nodes t.frame.id r t.agrees.tree parent) (live-parent t r parent z childless),
)
