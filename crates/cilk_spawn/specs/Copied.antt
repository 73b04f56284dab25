-- Records that keep the same.
use Rattle.std.specs.Prelude.{◌≡◌, ℕ}
use Rattle.std.specs.Ordering.{nat_cmp}
use Rattle.std.specs.BTreeMap.{get}
use Rattle.cilk_spawn.specs.declared.life.Life.{Life}
use Rattle.cilk_spawn.specs.declared.life.Live.{Live}
use Rattle.cilk_spawn.specs.declared.record.Record.{Record}
use Rattle.cilk_spawn.specs.Records.{node_of, fate_of, receiver_of, waiting_of, parked_of, child_of, live_index, SameBeside}

pub record Copied (x r : Record) : Type 0 where
  pub node : node_of r ≡ node_of x
  pub beside : SameBeside x r

pub record SameLife (x l : Life) : Type 0 where
  pub fate : fate_of l ≡ fate_of x
  pub receiver : receiver_of l ≡ receiver_of x
  pub waiting : waiting_of l ≡ waiting_of x
  pub parked : parked_of l ≡ parked_of x
  pub children : (k : ℕ) → child_of l k ≡ child_of x k
  pub place : live_index l ≡ live_index x

pub record SameLive (x l : Live) : Type 0 where
  pub receiver : l.receiver ≡ x.receiver
  pub waiting : l.waiting.items ≡ x.waiting.items
  pub parked : l.parked ≡ x.parked
  pub children : (k : ℕ) → get nat_cmp l.living k ≡ get nat_cmp x.living k
  pub place : l.place ≡ x.place
