-- What names stand for where something stands.
use Rattle.std.specs.Prelude.{ℕ, ◌-◌, List, [], ◌∷◌, ◌++◌, map, take, drop, length, bytes_eq, if◌then◌else◌}
use Rattle.cilk_load_nodes.specs.declared.area.Area.{Area}
use Rattle.cilk_load_nodes.specs.declared.area.Area.TheVariants.{Own, Outer, Global}
use Rattle.cilk_load_nodes.specs.Slots.{nowhere}
use Rattle.cilk_load.specs.declared.binding.Binding.{Binding}

pub record Named : Type 0 where
  pub name : List ℕ
  pub binding : Binding

-- the declarations of the innermost body and those around it, the nearest first
pub record Scope : Type 0 where
  pub innermost : List Named
  pub outer : List Named

abbrev pub unknown_name : Binding
unknown_name = record { slot = nowhere; number = 0 }

-- the nearest declaration of a name
abbrev pub found : List Named → List ℕ → Binding
found [] name = unknown_name
found (e ∷ es) name = if bytes_eq e.name name then e.binding else found es name

-- what stands in an activation is in the outer one for an inlet in it (Cilk 5.4 manual, `inlet`)
abbrev pub outward_area : Area → Area
outward_area Own = Outer
outward_area Outer = Outer
outward_area Global = Global

abbrev pub outward : Binding → Binding
outward k = record { slot = record { area = outward_area k.slot.area; offset = k.slot.offset; length = k.slot.length }; number = k.number }

abbrev pub outward_named : Named → Named
outward_named e = record { name = e.name; binding = outward e.binding }

abbrev pub visible : Scope → List Named
visible s = s.innermost ++ map outward_named s.outer

abbrev pub declared : Scope → Named → Scope
declared s e = record { innermost = e ∷ s.innermost; outer = s.outer }

abbrev pub entered : Scope → Scope
entered s = record { innermost = []; outer = s.innermost ++ s.outer }

-- of the declarations around a body, the last n are around the body around it
abbrev pub left_of : ℕ → List Named → Scope
left_of n es = record { innermost = take (length es - n) es; outer = drop (length es - n) es }
