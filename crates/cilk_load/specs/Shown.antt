-- What the table of names shows.
use Rattle.std.specs.Prelude.{◌≡◌, ℕ, ◌≤◌, nat_lt, List, [], ◌∷◌, map, reverse, take, drop, length, if◌then◌else◌, bytes_eq, Option, Some, None}
use Rattle.std.specs.BTreeMap.{BTreeMap, get_by}
use Rattle.std.specs.Cmp.Lexicographic.{slice_cmp}
use Rattle.std.specs.Ordering.{nat_cmp}
use denote.Ref.{Bor}
use Rattle.cilk_load.specs.declared.entry.Entry.{Entry}
use Rattle.cilk_load.specs.declared.binding.Binding.{Binding}
use Rattle.cilk_load.specs.declared.nearest.Nearest.{Nearest}
use Rattle.cilk_load.specs.Scope.{Named, Scope, outward}

abbrev pub entry_named : Entry → Named
entry_named e = record { name = e.name.now.text; binding = e.binding }

-- what some entries declare, the newest first
abbrev pub shown : List Entry → List Named
shown es = map entry_named (reverse es)

-- of which those from a place on are of the innermost body
abbrev pub scope_of : ℕ → List Entry → Scope
scope_of mark es = record { innermost = shown (drop mark es); outer = shown (take mark es) }

-- the nearest declaration of a name, where the newest entry is the first
abbrev pub newest : List Entry → List ℕ → Option Nearest
newest [] name = None
newest (e ∷ es) name =
    if bytes_eq e.name.now.text name then Some (record { binding = e.binding; at = length es }) else newest es name

-- each entry knows what it hides
abbrev pub Hides : List Entry → Type 0
Hides [] = Unit {0}
Hides (e ∷ es) = (e.hidden ≡ newest es e.name.now.text) × Hides es

-- the map has the nearest declaration of each name
pub record IsTable (nearest : BTreeMap (Bor (List ℕ)) Nearest) (es : List Entry) (mark : ℕ) : Type 0 where
  pub within : mark ≤ length es
  pub found : (name : List ℕ) → get_by (λ k. slice_cmp nat_cmp name k.now) nearest ≡ newest (reverse es) name
  pub hides : Hides (reverse es)

-- what a declaration stands for in the innermost body
abbrev pub told : ℕ → Nearest → Binding
told mark n = if nat_lt n.at mark then outward n.binding else n.binding
