-- A worker with an empty hand and an empty deque is idle where the machine stands.
use Rattle.std.proofs.Common.{◌≡◌, ℕ, nat_le, List, length, None, ap, ◌∙◌, arith}
use Rattle.std.proofs.lemmas.Bool.{and_from, le-leb}
use Rattle.std.proofs.lemmas.List.{nil_from_length}
use Rattle.cilk_machine_undo.specs.frame.Frames.{Frame}
use Rattle.cilk_machine_undo.specs.agree.Agrees.{name_in}
use Rattle.cilk_machine_undo.proofs.sched_laws.PathNames.{named-length, named-worker_at}
use Rattle.cilk_sched.specs.model.Path.{Path}
use Rattle.cilk_sched.specs.model.Hands.{WorkerOf, IsWorker, no_place, worker_at, hand_of, deque_of, place_named}
use Rattle.cilk_sched.specs.model.Run.{Standing}
use Rattle.cilk_view.specs.explore.OrMore.{IsIdle}
use Rattle.cilk_machine.specs.Situation.{Situation}
use Rattle.cilk_machine.specs.Stands.{StandsAt}

pub has_nothing : (places : List (WorkerOf Frame)) (w : ℕ) → hand_of places w ≡ None → length (deque_of places w) ≡ 0 → worker_at places w ≡ no_place
has_nothing places w hand none =
    let deque = nil_from_length (deque_of places w) none in
    λ i. record { hand = hand i; deque = deque i }

pub idle_there : (m : Situation) (at : Standing) (w : ℕ) → StandsAt m at → IsWorker m.machine.places w → worker_at m.machine.places w ≡ no_place → IsIdle at w
idle_there m at w s here none =
    let agrees = s.led.agrees in
    let name = name_in m.machine.nodes in
    let size : length at.scheduler.places ≡ length m.machine.places = ap length agrees.places ∙ named-length name m.machine.places in
    record {
      there = and_from (nat_le 1 w) (nat_le w (length at.scheduler.places)) (le-leb 1 w here.from_one)
          (le-leb w (length at.scheduler.places) (omega (arith, size, here.within)));
      idle = ap (λ (ps : List (WorkerOf Path)). worker_at ps w) agrees.places ∙ named-worker_at name m.machine.places w ∙ ap (place_named name) none;
    }
