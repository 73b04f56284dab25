-- A value that is sent to the parent, whose child has ended.
use Rattle.std.proofs.Common.{◌≡◌, ◌≢◌, ◌<◌, ℕ, ℤ, true, false, Bool, not, ◌&&◌, List, [], ◌∷◌, ◌++◌, length, Option, Some, None, refl, sym, ap, ◌∙◌}
use Rattle.std.proofs.Common.{subst, arith, ◌⊎◌, inl, inr, append-nil, if◌then◌else◌}
use Rattle.std.proofs.lemmas.List.Elements.{All-push}
use Rattle.cilk_laws_model.specs.syntax.Tree.{Program}
use Rattle.cilk_laws_model.specs.labelled.Labelled.{Labelled}
use Rattle.cilk_laws_model.specs.labelled.Bodies.{label}
use Rattle.cilk_laws_model.specs.model.Path.{Path}
use Rattle.cilk_laws_model.specs.model.Instance as model
use Rattle.cilk_laws_model.specs.model.Instance.{Instance}
use Rattle.cilk_laws_model.specs.model.State.{State, changed, without}
use Rattle.cilk_laws_model.specs.model.Change.{deliveries, with_deliveries}
use Rattle.cilk_laws_model.specs.model.Scheduler as sched
use Rattle.cilk_laws_model.specs.model.Run.{Standing}
use Rattle.cilk_sched.specs.frame.Frames.{Frame}
use Rattle.cilk_sched.specs.frame.Stands.{StandsFor}
use Rattle.cilk_spawn.specs.declared.delivery.Delivery.{Delivery}
use Rattle.cilk_spawn.specs.declared.fate.Fate.TheVariants.{Returned}
use Rattle.cilk_spawn.specs.frame.declared.receiver.Receiver.{Receiver}
use Rattle.cilk_spawn.specs.frame.declared.receiver.Receiver.TheVariants as takers
use Rattle.cilk_spawn.specs.Nodes.{Node, IsFrom, node_at, is_live, has_live_child, takes_value, delivery_of, delivered, with_waiting, ended, path_at}
use Rattle.cilk_spawn.proofs.Trees.{live_there}
use Rattle.cilk_spawn.proofs.Children.{parent_other}
use Rattle.cilk_spawn.proofs.Grown.{ended_linked}
use Rattle.cilk_spawn.proofs.Returns.{returns_either_way}
use Rattle.cilk_machine_agree.specs.Alike.{NodeStandsFor, SameDeliveries, Receives, procedure_in, taker_of}
use Rattle.cilk_machine_agree.specs.Agrees.{Agrees, instead}
use Rattle.cilk_machine_agree.specs.Laws.{InHand, path_of, sent, without_frame}
use Rattle.cilk_machine_agree.proofs.Sets.{Sets, sets, keeps-all}
use Rattle.cilk_machine_agree.proofs.Alone.{holds, inside, free, others}
use Rattle.cilk_machine_agree.proofs.Ends.{outside-of, end-agrees, still-agrees, path-after, other-after}

push-delivery : (program : Labelled) (up : ℕ → Path) (b : ℕ) (ds : List Delivery) (es : List model.Delivery) (d : Delivery) (e : List model.Delivery)
    → SameDeliveries program up b ds es → SameDeliveries program up b (d ∷ []) e → SameDeliveries program up b (ds ++ d ∷ []) (es ++ e)
push-delivery program up b [] [] d e same new = new
push-delivery program up b [] (y ∷ es) d e same new = absurd same
push-delivery program up b (x ∷ ds) [] d e same new = absurd same
push-delivery program up b (x ∷ ds) (y ∷ es) d e same new = (same.0, push-delivery program up b ds es d e same.1 new)

-- what is sent, if anything is
abbrev Sent : Labelled → (ℕ → Path) → Path → ℕ → ℕ → ℤ → Receiver → Option model.Receiver → Bool → Bool → Type 0
Sent program up q b k z to o mark aborted =
    (((takes_value to && not mark) ≡ false) × (deliveries q z o aborted ≡ []))
    ⊎ (((takes_value to && not mark) ≡ true) × SameDeliveries program up b (record { child = k; value = z; receiver = to } ∷ []) (deliveries q z o aborted))

new-delivery : (program : Labelled) (up : ℕ → Path) (q : Path) (b k : ℕ) (z : ℤ) (to : Receiver) (o : Option model.Receiver) (mark aborted : Bool)
    → up k ≡ q → Receives program b to o → mark ≡ aborted → Sent program up q b k z to o mark aborted
new-delivery program up q b k z takers.Nothing None mark aborted is h e = inl (refl, refl)
new-delivery program up q b k z takers.Nothing (Some x) mark aborted is h e = absurd h
new-delivery program up q b k z (takers.Place op slot index spawn) None mark aborted is h e = absurd h
new-delivery program up q b k z (takers.Place op slot index spawn) (Some x) true true is h e = inl (refl, refl)
new-delivery program up q b k z (takers.Place op slot index spawn) (Some x) false false is h e = inr
    (refl, (record { child = is; value = refl; receiver = h }, tt))
new-delivery program up q b k z (takers.Place op slot index spawn) (Some x) true false is h e = cc
new-delivery program up q b k z (takers.Place op slot index spawn) (Some x) false true is h e = cc
new-delivery program up q b k z (takers.Call n args) None mark aborted is h e = absurd h
new-delivery program up q b k z (takers.Call n args) (Some x) true true is h e = inl (refl, refl)
new-delivery program up q b k z (takers.Call n args) (Some x) false false is h e = inr (refl, (record { child = is; value = refl; receiver = h }, tt))
new-delivery program up q b k z (takers.Call n args) (Some x) true false is h e = cc
new-delivery program up q b k z (takers.Call n args) (Some x) false true is h e = cc

module _ (t : InHand) (r : ℕ) (parent : (node_at t.machine.nodes t.frame.id).parent ≡ Some r) (z : ℤ)
    (childless : has_live_child t.machine.nodes t.frame.id ≡ false) where
  abbrev p : Program
  p = t.program

  abbrev ns : List Node
  ns = t.machine.nodes

  abbrev k : ℕ
  k = t.frame.id

  abbrev a : Instance
  a = t.who k

  abbrev es : List Node
  es = ended ns k Returned

  abbrev new : List model.Delivery
  new = deliveries (path_of t) z a.receiver a.aborted

  abbrev delivery : Delivery
  delivery = delivery_of ns k z

  apart : r ≢ k
  apart = parent_other ns k r t.agrees.tree parent

  pub live-parent : is_live (node_at ns r) ≡ true
  live-parent = t.agrees.tree.outlives k r parent (holds t).live

  abbrev gone : State
  gone = record t.at.state { instances = without (path_of t) t.at.state.instances }

  abbrev before : Standing
  before = record { state = gone; scheduler = sched.with_empty_hand t.at.scheduler t.worker }

  ends : Agrees p (without_frame t t.machine.outside ns Returned) t.who before
  ends =
      end-agrees p t.machine t.who t.at t.agrees k t.worker Returned refl (inside t) childless (free t) (others t) t.machine.outside gone
      (outside-of (label p) (path_at ns) (length ns) t.machine.outside t.at.state _ t.agrees.outside) refl

  same : node_at es r ≡ node_at ns r
  same = other-after ns r k Returned (inside t) apart

  lives : is_live (node_at es r) ≡ true
  lives = ap is_live same ∙ live-parent

  there : r < length es
  there = live_there es r lives

  up : path_at es r ≡ path_at ns r
  up = path-after ns r k Returned t.agrees.tree (inside t)

  own : NodeStandsFor (label p) (path_at ns) (procedure_in ns) (node_at ns k) a
  own = t.agrees.tells k (holds t).live

  other : NodeStandsFor (label p) (path_at es) (procedure_in es) (node_at es r) (t.who r)
  other = ends.tells r lives

  receives : Receives (label p) (node_at es r).procedure (node_at ns k).receiver a.receiver
  receives =
      subst (λ (n : Node). Receives (label p) n.procedure (node_at ns k).receiver a.receiver) (sym same)
      (subst (λ o. Receives (label p) (taker_of (procedure_in ns) o) (node_at ns k).receiver a.receiver) parent own.receiver)

  stands : (g : Frame) → StandsFor (label p) g (t.who r) → StandsFor (label p) g (with_deliveries new (t.who r))
  stands g h = record { activations = h.activations; inside = h.inside; flag = h.flag }

  -- the parent's node, once the value waits
  abbrev more : Node
  more = record (node_at es r) { waiting = (node_at es r).waiting ++ delivery ∷ [] }

  set-more : Sets es (with_waiting es r ((node_at es r).waiting ++ delivery ∷ [])) r more
  set-more =
      sets es r more ends.tree there (record { parent = refl; ordinal = refl; procedure = refl; live = refl; aborted = refl; children = omega arith })
      (All-push (IsFrom es r) (node_at es r).waiting delivery (ends.tree.sent r) ((ended_linked ns k Returned (inside t) k).parent ∙ parent))

  nodes : ended (delivered ns k z) k Returned ≡ with_waiting es r ((node_at es r).waiting ++ delivery ∷ [])
  nodes =
      returns_either_way ns k r z Returned t.agrees.tree parent
      ∙ ap (λ (n : Node). with_waiting es r (n.waiting ++ delivery ∷ [])) (sym same)

  abbrev now : ℕ → Instance
  now = instead t.who r (with_deliveries new (t.who r))

  abbrev left : State
  left = record gone { instances = changed (path_at ns r) (with_deliveries new) gone.instances }

  pub record Result (ms : List Node) : Type 0 where
    pub agrees : Agrees p (without_frame t t.machine.outside ms Returned) now
        (record { state = left; scheduler = sched.with_empty_hand t.at.scheduler t.worker })
    pub live : is_live (node_at (ended ms k Returned) r) ≡ true
    pub path : path_at (ended ms k Returned) r ≡ path_at ns r

  -- the same, of nodes where it has ended
  result : (ms ks : List Node) (n : Node) → Sets es ks r n → n.parked ≡ (node_at es r).parked
      → NodeStandsFor (label p) (path_at es) (procedure_in es) n (with_deliveries new (t.who r))
      → ended ms k Returned ≡ ks → Result ms
  result ms ks n set parked tells is = record {
    agrees =
        subst (λ xs. Agrees p (record t.machine { nodes = xs; places = (without_frame t t.machine.outside ns Returned).places }) now
        (record { state = left; scheduler = sched.with_empty_hand t.at.scheduler t.worker })) (sym is)
        (subst (λ q. Agrees p (record (without_frame t t.machine.outside ns Returned) { nodes = ks }) now
        (record {
          state = record gone {
            instances = changed q
                (with_deliveries new) gone.instances;
          };
          scheduler = sched.with_empty_hand t.at.scheduler t.worker;
        })) up
        (still-agrees p (without_frame t t.machine.outside ns Returned) t.who before ends r ks n (with_deliveries new) there set parked stands (λ _. tells)));
    live = ap (λ xs. is_live (node_at xs r)) is ∙ set.keeps.lives r ∙ lives;
    path = ap (λ xs. path_at xs r) is ∙ ap (λ (x : ℕ → Path). x r) set.keeps.up ∙ up;
  }

  pub sends : Result (sent ns k z)
  sends =
      elim (new-delivery (label p) (path_at es) (path_of t) (node_at es r).procedure k z (node_at ns k).receiver a.receiver (node_at ns k).aborted a.aborted
      (path-after ns k k Returned t.agrees.tree (inside t)) receives own.aborted) [
        | inl e ↦ subst (λ b. Result (if b then delivered ns k z else ns)) (sym e.0)
            (result ns es (node_at es r) (record { keeps = keeps-all es ends.tree; own = refl; others = λ i ne. refl }) refl (record {
              procedure = other.procedure;
              children = other.children;
              aborted = other.aborted;
              receiver = other.receiver;
              waiting =
                  subst (SameDeliveries (label p) (path_at es) (node_at es r).procedure (node_at es r).waiting)
                  (sym (append-nil (t.who r).waiting) ∙ ap (λ ds. (t.who r).waiting ++ ds) (sym e.1)) other.waiting;
            }) refl)
        | inr e ↦ subst (λ b. Result (if b then delivered ns k z else ns)) (sym e.0)
            (result (delivered ns k z) _ more set-more refl (record {
              procedure = other.procedure;
              children = other.children;
              aborted = other.aborted;
              receiver = other.receiver;
              waiting = push-delivery (label p) (path_at es) (node_at es r).procedure (node_at es r).waiting (t.who r).waiting delivery new other.waiting e.1;
            }) nodes)
      ]
