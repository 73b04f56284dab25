-- What is known of the instance whose frame is in a worker's hand: no other frame is its own.
use Rattle.std.proofs.Common.{◌≡◌, ◌≢◌, ℕ, ◌+◌, ◌<◌, Bool, true, false, cond, List, length, Option, Some, None, is_some, refl, sym, ap, ◌∙◌, subst, arith}
use Rattle.std.specs.Prelude.{IfSome, sum_by, count_by}
use Rattle.cilk_laws_model.specs.labelled.Bodies.{label}
use Rattle.cilk_laws_model.specs.model.Path.{Path, same_path, is_that}
use Rattle.cilk_laws_model.specs.model.Instance.{Instance}
use Rattle.cilk_laws_model.specs.model.State as state
use Rattle.cilk_laws_model.specs.model.Hands.{WorkerOf, hand_of, with_hand}
use Rattle.cilk_laws_model.specs.Hands.{times_held}
use Rattle.cilk_laws_model.proofs.Entries.{same-self}
use Rattle.cilk_sched.specs.frame.Frames.{Frame}
use Rattle.cilk_sched.specs.frame.Stands.{StandsFor}
use Rattle.cilk_spawn.specs.Nodes.{Node, node_at, path_at}
use Rattle.cilk_spawn.proofs.Trees.{live_there}
use Rattle.cilk_sched.specs.Count as hands
use Rattle.cilk_sched.specs.Count.{once, count_where, AllHeld, IsCounted}
use Rattle.cilk_sched.proofs.Count.{count-take, each-counted, AllHeld-weaker}
use Rattle.cilk_sched.proofs.PathNames.{named-held}
use Rattle.cilk_machine_agree.specs.Agrees.{Held, name_in, instead}
use Rattle.cilk_machine_agree.specs.Laws.{InHand, path_of}
use Rattle.cilk_machine_agree.proofs.Sets.{instead-there}
use Rattle.cilk_machine_agree.proofs.Frames.{held-at, held-with_hand, held-both}

-- how often a path is held, in the words of either crate
hand-times : (p : Path) (hand : Option Path) (n : ℕ) → cond (is_that p hand) 1 0 + n ≡ once (same_path p) hand + n
hand-times p None n = refl
hand-times p (Some q) n = refl

pub times-same : (p : Path) (places : List (WorkerOf Path)) → sum_by (times_held p) places ≡ sum_by (hands.times_held (same_path p)) places
times-same p places = ap (λ (f : WorkerOf Path → ℕ). sum_by f places) (λ j x. hand-times p x.hand (count_by (same_path p) x.deque) j)

-- a number of frames, that in the hand and that which is parked
record Numbers (n : ℕ) (parked : Bool) : Type 0 where
  rest : n ≡ 0
  parked_not : parked ≡ false

numbers : (n : ℕ) (parked live : Bool) → (n + 1) + cond parked 1 0 ≡ cond live 1 0 → Numbers n parked
numbers n true true h = absurd (omega (arith, h))
numbers n true false h = absurd (omega (arith, h))
numbers n false true h = record { rest = omega (arith, h); parked_not = refl }
numbers n false false h = absurd (omega (arith, h))

unparked : (o : Option Frame) → is_some o ≡ false → o ≡ None
unparked None h = refl
unparked (Some f) h = cc

none_of : (n : ℕ) → n ≡ 0 → 0 < n → ⊥
none_of n z h = omega (arith, z, h)

module _ (t : InHand) where
  abbrev ns : List Node
  ns = t.machine.nodes

  abbrev k : ℕ
  k = t.frame.id

  abbrev rest : List (WorkerOf Frame)
  rest = with_hand t.machine.places t.worker None

  pub holds : Held t.program ns t.who t.frame
  holds = subst (λ o. IfSome o (Held t.program ns t.who)) t.hand (held-at (Held t.program ns t.who) t.machine.places t.worker t.agrees.held).0

  pub inside : k < length ns
  inside = live_there ns k holds.live

  abbrev test : Frame → Bool
  test g = same_path (path_of t) (name_in ns g)

  counts : (count_where test rest + 1) + cond (t.at.scheduler.parked (path_of t)) 1 0 ≡ cond (state.is_live t.at.state.instances (path_of t)) 1 0
  counts =
      let taken : count_where test rest + once test (hand_of t.machine.places t.worker)
      ≡ count_where test t.machine.places = count-take test t.machine.places t.worker t.is_worker in
      let one : once test (hand_of t.machine.places t.worker) ≡ 1 = ap (once test) t.hand ∙ ap (λ b. cond b 1 0) (same-self (path_of t)) in
      let all : sum_by (times_held (path_of t)) t.at.scheduler.places ≡ count_where test t.machine.places = times-same (path_of t) t.at.scheduler.places
      ∙ ap (sum_by (hands.times_held (same_path (path_of t)))) t.agrees.places ∙ named-held (name_in ns) (path_of t) t.machine.places in
      let whole : sum_by (times_held (path_of t)) t.at.scheduler.places + cond (t.at.scheduler.parked (path_of t)) 1 0
      ≡ cond (state.is_live t.at.state.instances (path_of t)) 1 0 = t.placed.once (path_of t) in
      omega (arith, taken, one, all, whole)

  abbrev those : Numbers (count_where test rest) (t.at.scheduler.parked (path_of t))
  those = numbers (count_where test rest) (t.at.scheduler.parked (path_of t)) (state.is_live t.at.state.instances (path_of t)) counts

  pub not-parked : t.at.scheduler.parked (path_of t) ≡ false
  not-parked = those.parked_not

  pub free : (node_at ns k).parked ≡ None
  free = unparked (node_at ns k).parked (sym (t.agrees.parked k inside) ∙ not-parked)

  pub others : AllHeld (λ g. g.id ≢ k) rest
  others =
      AllHeld-weaker (IsCounted rest) (λ g. g.id ≢ k) (λ g c e. none_of (count_where test rest) those.rest
      (c test (ap (λ i. same_path (path_of t) (path_at ns i)) e ∙ same-self (path_of t)))) rest (each-counted rest)

  -- the others still stand, whatever its own instance becomes
  pub others-stand : (a : Instance) → AllHeld (Held t.program ns (instead t.who k a)) rest
  others-stand a =
      AllHeld-weaker (λ g. Held t.program ns t.who g × (g.id ≢ k)) (Held t.program ns (instead t.who k a))
      (λ g h. record { live = h.0.live; stands = subst (StandsFor (label t.program) g) (sym (instead-there t.who k a g.id h.1)) h.0.stands })
      rest (held-both (Held t.program ns t.who) (λ g. g.id ≢ k) rest
      (held-with_hand (Held t.program ns t.who) t.machine.places t.worker None t.agrees.held tt) others)
