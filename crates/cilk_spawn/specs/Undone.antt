-- What a tree was before a value was sent or taken, and before instances were marked.
use Rattle.std.specs.Prelude.{ℕ, false, List, [], ◌∷◌, Option, None, Some, slice_set}
use Rattle.cilk_frame.specs.model.Hands.{bottom_of, above_bottom}
use Rattle.cilk_spawn.specs.declared.delivery.Delivery.{Delivery}
use Rattle.cilk_spawn.specs.declared.fate.Fate.{Fate}
use Rattle.cilk_frame.specs.declared.receiver.Receiver.{Receiver}
use Rattle.cilk_spawn.specs.Nodes.{Node, node_at, with_waiting, with_fate}

-- this delivery waits for k, in front of the others
abbrev pub waits_again : List Node → ℕ → Delivery → List Node
waits_again ns k d = with_waiting ns k (d ∷ (node_at ns k).waiting)

-- and its child had this fate
abbrev pub untaken : List Node → ℕ → Delivery → Fate → List Node
untaken ns k d fate = with_fate (waits_again ns k d) d.child fate

abbrev pub with_receiver : List Node → ℕ → Receiver → List Node
with_receiver ns k receiver = slice_set ns k (record (node_at ns k) { receiver = receiver })

-- k had what the delivery took along
abbrev pub given_back : List Node → ℕ → Option Delivery → List Node
given_back ns k None = ns
given_back ns k (Some d) = with_receiver ns k d.receiver

-- what waits for p behind all others did not wait, and k had its receiver
abbrev pub unsent : List Node → ℕ → ℕ → List Node
unsent ns p k = given_back (with_waiting ns p (above_bottom (node_at ns p).waiting)) k (bottom_of (node_at ns p).waiting)

abbrev pub unmark : Node → Node
unmark n = record n { aborted = false }

-- these were not marked
abbrev pub unmarked : List Node → List ℕ → List Node
unmarked ns [] = ns
unmarked ns (i ∷ ids) = unmarked (slice_set ns i (unmark (node_at ns i))) ids
