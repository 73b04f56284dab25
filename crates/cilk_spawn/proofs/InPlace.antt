-- One record that is written in its place.
use Rattle.std.proofs.Common.{◌≡◌, ◌<◌, ℕ, List, Result, Ok, Err, OnOk, true, length, sym, ap, ◌∙◌, subst, arith, slice_index_or, slice_set}
use Rattle.std.proofs.Common.{get_or-set_same}
use Rattle.cilk_spawn.specs.declared.record.Record.{Record}
use Rattle.cilk_spawn.specs.Nodes.{node_at, is_live}
use Rattle.cilk_spawn.specs.Records.{node_of, nodes_of, no_record, record_at, HasRoom}
use Rattle.cilk_spawn.proofs.Trees.{live_there}
use Rattle.cilk_spawn.proofs.Records.{At, at_is, record_is, nodes_length}

pub on_ok : {T E : Type 0} (r : Result T E) (P Q : Type 0) → (P → Q) → OnOk r P → OnOk r Q
on_ok (Ok x) P Q goes p = goes p
on_ok (Err e) P Q goes p = tt

module _ (rs : List Record) (n i : ℕ) (x : Record) (same : n ≡ i) (is : x ≡ slice_index_or rs n x) where
  pub at_there : i < length rs → At rs n x
  at_there h = record { there = subst (λ (k : ℕ). k < length rs) (sym same) h; is = is }

  module _ (live : is_live (node_at (nodes_of rs) i) ≡ true) where
    pub inside_live : i < length rs
    inside_live = let h = live_there (nodes_of rs) i live in omega (arith, nodes_length rs)

    pub at_live_one : At rs n x
    at_live_one = at_there inside_live

    pub lives_there : is_live (node_of x) ≡ true
    lives_there = ap is_live (sym (at_is rs n x at_live_one)) ∙ ap (λ (k : ℕ). is_live (node_at (nodes_of rs) k)) same ∙ live

  pub room_there : i < length rs → HasRoom (record_at rs i).life → HasRoom x.life
  room_there h room =
      subst (λ (r : Record). HasRoom r.life) (record_is rs n x (at_there h)) (subst (λ (k : ℕ). HasRoom (record_at rs k).life) (sym same) room)

  pub room_then : (r : Record) → i < length rs → HasRoom r.life → HasRoom (record_at (slice_set rs n r) i).life
  room_then r h room =
      subst (λ (y : Record). HasRoom y.life)
      (sym (ap (λ (k : ℕ). record_at (slice_set rs n r) k) (sym same) ∙ get_or-set_same rs n r no_record (at_there h).there)) room
