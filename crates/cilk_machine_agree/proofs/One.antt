-- A node tells the fate of its path, whatever the events were.
use Rattle.std.proofs.Common.{◌≡◌, ◌<◌, ℕ, Bool, true, false, List, length, Some, None, refl, sym, ap, ◌∙◌, if◌then◌else◌}
use Rattle.cilk_laws_model.specs.labelled.Labelled.{Labelled}
use Rattle.cilk_laws_model.specs.model.Path.{Path}
use Rattle.cilk_laws_model.specs.model.Event.{Event}
use Rattle.cilk_laws_model.specs.model.Fate.{lives, fate_from, was_made, fate_of}
use Rattle.cilk_spawn.specs.Nodes.{Node, node_at, path_at}
use Rattle.cilk_machine_agree.specs.Fated.{fate_named, Fated}
use Rattle.cilk_machine_agree.specs.FateLaws.{FatesAreRead, FatesAreOne}
use Rattle.cilk_machine_agree.proofs.Made.{Node_of, node-made}

unmade-none : (events : List Event) (p : Path) → was_made events p ≡ false → fate_of events p ≡ None
unmade-none events p e = ap (λ b. if b then Some (fate_from 1 p events lives) else None) e

pub fates-are-read : FatesAreRead
fates-are-read program ns events h = record { there = h.fates; nowhere = λ p none. by p none (was_made events p) refl }
  where
    by : (p : Path) → ((i : ℕ) → i < length ns → path_at ns i ≡ p → ⊥) → (b : Bool) → was_made events p ≡ b → fate_of events p ≡ None
    by p none true e = let it = node-made program ns events h p e in absurd (none it.id it.within it.is)
    by p none false e = unmade-none events p e

-- of a node's path
of-node : (program : Labelled) (ns : List Node) (events : List Event) → Fated program ns events → (p : Path) (it : Node_of ns p)
    → fate_of events p ≡ Some (fate_named (node_at ns it.id).fate)
of-node program ns events h p it = ap (fate_of events) (sym it.is) ∙ h.fates it.id it.within

pub fates-are-one : FatesAreOne
fates-are-one program ns events more h g p = by (was_made events p) refl (was_made more p) refl
  where
    at-node : Node_of ns p → fate_of events p ≡ fate_of more p
    at-node it = of-node program ns events h p it ∙ sym (of-node program ns more g p it)

    by : (b : Bool) → was_made events p ≡ b → (c : Bool) → was_made more p ≡ c → fate_of events p ≡ fate_of more p
    by true e c f = at-node (node-made program ns events h p e)
    by false e true f = at-node (node-made program ns more g p f)
    by false e false f = unmade-none events p e ∙ sym (unmade-none more p f)
