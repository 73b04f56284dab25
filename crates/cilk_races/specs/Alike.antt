-- How two accesses are alike.
use Rattle.std.specs.Prelude.{◌≡◌, None}
use Rattle.cilk_races.specs.declared.touch.Touch as kept
use Rattle.cilk_races.specs.Races.{Touch}

-- nothing tells them apart but their choices
pub record AreAlike (a b : Touch) : Type 0 where
  pub placed : a.placed ≡ b.placed
  pub n : a.n ≡ b.n
  pub access : a.access ≡ b.access
  pub locks : a.locks ≡ b.locks

-- both are by the thread of one instance
pub record AreOfThread (a b : Touch) : Type 0 where
  pub path : a.placed.path ≡ b.placed.path
  pub first : a.placed.taking ≡ None
  pub second : b.placed.taking ≡ None

-- the same of what is kept
pub record AreKeptAlike (a b : kept.Touch) : Type 0 where
  pub own : a.own ≡ b.own
  pub placed : a.placed ≡ b.placed
  pub n : a.n ≡ b.n
  pub access : a.access ≡ b.access
  pub locks : a.locks.items ≡ b.locks.items

pub record AreKeptOfThread (a b : kept.Touch) : Type 0 where
  pub place : a.placed.place ≡ b.placed.place
  pub first : a.placed.taking ≡ None
  pub second : b.placed.taking ≡ None
