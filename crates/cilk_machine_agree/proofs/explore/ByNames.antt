-- Machines whose workers have the same by other names: one of them, its places exchanged, stands at the same as the other.
use Rattle.std.proofs.Common.{ℕ, List, refl, sym, subst}
use Rattle.std.specs.Prelude.{IsPermutation}
use Rattle.std.proofs.lemmas.List.Sorted.{All-permutation, IsPermutation-map}
use Rattle.cilk_machine_agree.specs.syntax.Tree.{Program}
use Rattle.cilk_machine_agree.specs.scopes.WellFormed.{WellFormed}
use Rattle.cilk_machine_agree.specs.model.Path.{Path}
use Rattle.cilk_machine_agree.specs.model.Instance.{Instance}
use Rattle.cilk_machine_agree.specs.model.Hands.{WorkerOf, place_named, named}
use Rattle.cilk_machine_agree.specs.model.Run.{Standing}
use Rattle.cilk_machine_agree.specs.runs.Hands.{EachInItsPlace}
use Rattle.cilk_machine_agree.specs.sched.Count.{AllAt}
use Rattle.cilk_machine_agree.specs.Agrees.{MachineParts, Agrees, Held, name_in}
use Rattle.cilk_machine_agree.specs.explore.Same.{Same}
use Rattle.cilk_machine_agree.specs.explore.Names.{renamed, SameButNames}
use Rattle.cilk_machine_agree.proofs.explore.ButNames.{renamed_placed}
use Rattle.cilk_machine_agree.specs.explore.Alike.{SamePartsBut}
use Rattle.cilk_machine_agree.specs.explore.AlikeLaws.{SamePartsButNamesStandSo}
use Rattle.cilk_machine_agree.proofs.explore.StandingsAlike.{stand_at_the_same}

module _ (p : Program) (well : WellFormed p) (m n : MachineParts) (who other : ℕ → Instance) (a b : Standing) (h : Agrees p m who a) (k : Agrees p n other b)
    (placed : EachInItsPlace a) (but : SamePartsBut m n) where
  -- the places in the order of the other machine, where each frame goes by its path
  abbrev there : List (WorkerOf Path)
  there = named (name_in m.nodes) but.places

  in_order : IsPermutation a.scheduler.places there
  in_order =
      subst (λ (ps : List (WorkerOf Path)). IsPermutation ps there) (sym h.places)
      (IsPermutation-map (place_named (name_in m.nodes)) m.places but.places but.order)

  abbrev turned : Standing
  turned = renamed in_order.moves a

  agrees_turned : Agrees p (record m { places = but.places }) who turned
  agrees_turned = record {
    tree = h.tree;
    outside = h.outside;
    instances = h.instances;
    tells = h.tells;
    places = sym in_order.is;
    parked = h.parked;
    held = All-permutation (AllAt (Held p m.nodes who)) m.places but.places but.order h.held;
    waits = h.waits;
  }

  alike : Same turned b
  alike =
      stand_at_the_same p (record m { places = but.places }) n who other turned b well agrees_turned k (renamed_placed a in_order.moves in_order.below placed)
      but.same

  pub stand_but_names : SameButNames a b
  stand_but_names = record {
    state = alike.state;
    places =
        subst (λ (ps : List (WorkerOf Path)). IsPermutation a.scheduler.places ps) alike.places
        (record { moves = in_order.moves; below = in_order.below; is = refl });
  }

pub stand_so : SamePartsButNamesStandSo
stand_so p m n who other a b well h k placed but = stand_but_names p well m n who other a b h k placed but
