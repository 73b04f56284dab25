-- The root alone, before any choice.
use Rattle.std.proofs.Common.{◌≡◌, ℕ, zero, suc, true, false, List, [], ◌∷◌, map, length, replicate, Some, is_some, refl, sym, ap, ◌∙◌}
use Rattle.std.proofs.lemmas.List.Elements.{All-nil, All-cons, All-replicate}
use Rattle.cilk_laws_model.specs.syntax.Tree.{Program}
use Rattle.cilk_laws_model.specs.labelled.Bodies.{label}
use Rattle.cilk_laws_model.specs.model.Path.{Path}
use Rattle.cilk_laws_model.specs.model.Instance as model
use Rattle.cilk_laws_model.specs.model.State as state
use Rattle.cilk_laws_model.specs.model.Hands.{no_place}
use Rattle.cilk_laws_model.specs.model.Scheduler as sched
use Rattle.cilk_laws_model.specs.model.Run as run
use Rattle.cilk_sched.specs.frame.Frames.{Frame}
use Rattle.cilk_sched.specs.frame.Stands.{StandsFor}
use Rattle.cilk_sched.proofs.frame_laws.Starts.{initial-sizes}
use Rattle.cilk_spawn.specs.Nodes.{Node, node_at, is_live, root_alone, path_at}
use Rattle.cilk_spawn.proofs.Grown.{tree_root}
use Rattle.cilk_sched.specs.Count.{AllAt, AllHeld}
use Rattle.cilk_sched.proofs.PathNames.{named-with_hand, named-none}
use Rattle.cilk_machine_agree.specs.declared.lock.Lock.TheVariants.{Unset}
use Rattle.cilk_machine_agree.specs.Outside.{lock_by, LockWithin}
use Rattle.cilk_machine_agree.specs.Alike.{NodeStandsFor, procedure_in}
use Rattle.cilk_machine_agree.specs.Agrees.{Agrees, Held, Parked, name_in}
use Rattle.cilk_machine_agree.specs.Laws.{opening_machine, OpeningAgrees}
use Rattle.cilk_machine_agree.proofs.Frames.{held-with_hand}

none_held : (P : Frame → Type 0) (n : ℕ) → AllHeld P (replicate n no_place)
none_held P zero = All-nil (AllAt P)
none_held P (suc n) = All-cons (AllAt P) no_place (replicate n no_place) (tt, All-nil P) (none_held P n)

locks_first : (up : ℕ → Path) (n : ℕ) → replicate n state.unset ≡ map (lock_by up) (replicate n Unset)
locks_first up zero = refl
locks_first up (suc n) = ap (λ ls. state.unset ∷ ls) (locks_first up n)

module _ (p : Program) (b : ℕ) (f : Frame) (own : f.id ≡ 0) (stands : StandsFor (label p) f (model.started (label p) b [])) where
  abbrev ns : List Node
  ns = root_alone b

  abbrev root : model.Instance
  root = model.started (label p) b []

  root_tells : (i : ℕ) → is_live (node_at ns i) ≡ true → NodeStandsFor (label p) (path_at ns) (procedure_in ns) (node_at ns i) root
  root_tells zero live = record { procedure = refl; children = refl; aborted = refl; waiting = tt; receiver = tt }
  root_tells (suc i) live = cc

  not_parked : (i : ℕ) → false ≡ is_some (node_at ns i).parked
  not_parked zero = refl
  not_parked (suc i) = refl

  none_waits : (i : ℕ) (g : Frame) → is_live (node_at ns i) ≡ true → (node_at ns i).parked ≡ Some g → Parked p i root g
  none_waits zero g live is = cc
  none_waits (suc i) g live is = cc

  pub opening : (n : ℕ) → Agrees p (opening_machine p b n f) (λ i. root) (run.opening (label p) b n)
  opening n = record {
    tree = tree_root b;
    outside = record {
      cells = refl;
      sizes = initial-sizes (label p).globals;
      locks = locks_first (path_at ns) (length (label p).locks);
      holders = All-replicate (LockWithin (length ns)) (length (label p).locks) Unset tt;
      output = refl;
      outcome = refl;
      trapper = tt;
    };
    instances = refl;
    tells = root_tells;
    places = sym (named-with_hand (name_in ns) (replicate n no_place) 1 (Some f)
        ∙ (λ i. sched.with_hand (named-none (name_in ns) n i) 1 (Some (path_at ns (own i)))));
    parked = λ i h. not_parked i;
    held =
        held-with_hand (Held p ns (λ i. root)) (replicate n no_place) 1 (Some f) (none_held _ n)
        (record { live = ap (λ k. is_live (node_at ns k)) own; stands = stands });
    waits = none_waits;
  }

pub opening-agrees : OpeningAgrees
opening-agrees p b n f own stands = opening p b f own stands n
