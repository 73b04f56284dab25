-- What the table of names shows.
use Rattle.std.specs.Prelude.{◌≡◌, ℕ, ◌≤◌, List, [], ◌∷◌, map, reverse, take, drop, length, if◌then◌else◌, bytes_eq, Option, Some, None}
use Rattle.std.specs.BTreeMap.{BTreeMap, get_by}
use Rattle.std.specs.Cmp.Lexicographic.{slice_cmp}
use Rattle.std.specs.Ordering.{nat_cmp}
use denote.Ref.{Bor}
use Rattle.cilk_check_scopes.specs.Scopes.{Declared, Scopes}
use Rattle.cilk_check.specs.declared.entry.Entry.{Entry}
use Rattle.cilk_check.specs.declared.nearest.Nearest.{Nearest}

-- what some entries declare, the newest first
abbrev pub shown : List Entry → List Declared
shown es = map (λ e. record { name = e.name.now; kind = e.kind }) (reverse es)

-- of which those from a place on are in the innermost scope
abbrev pub scopes_of : ℕ → List Entry → Scopes
scopes_of mark es = record { innermost = shown (drop mark es); outer = shown (take mark es) }

-- the nearest declaration of a name, where the newest entry is the first
abbrev pub newest : List Entry → List ℕ → Option Nearest
newest [] name = None
newest (e ∷ es) name =
    if bytes_eq e.name.now.text name then Some (record { kind = e.kind; at = length es }) else newest es name

-- each entry knows what it hides
abbrev pub Hides : List Entry → Type 0
Hides [] = Unit {0}
Hides (e ∷ es) = (e.hidden ≡ newest es e.name.now.text) × Hides es

-- the map has the nearest declaration of each name
pub record IsTable (nearest : BTreeMap (Bor (List ℕ)) Nearest) (es : List Entry) (mark : ℕ) : Type 0 where
  pub within : mark ≤ length es
  pub found : (name : List ℕ) → get_by (λ k. slice_cmp nat_cmp name k.now) nearest ≡ newest (reverse es) name
  pub hides : Hides (reverse es)
