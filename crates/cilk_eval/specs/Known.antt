-- Expressions over variables of which a value is known, and which expressions need no more than that.
use Rattle.std.specs.Prelude.{◌==◌, ◌&&◌, ℤ, pos, Bool, true, false, if◌then◌else◌, List, [], ◌∷◌, ◌++◌, map, Option, Some, None, Result, Ok, Err}
use Rattle.std.specs.Ordering.{int_eq}
use Rattle.cilk_frame.specs.model.declared.trap.Trap.{Trap}
use Rattle.cilk_frame.specs.model.declared.trap.Trap.TheVariants.{Index}
use Rattle.cilk_frame.specs.labelled.Term.{Term, number, variable, element, synched, unary, binary, choose}
use Rattle.cilk_frame.specs.labelled.Value.{Environment}
use Rattle.cilk_frame.specs.nodes.declared.area.Area.{Area}
use Rattle.cilk_frame.specs.nodes.declared.area.Area.TheVariants.{Own, Outer, Global}
use Rattle.cilk_frame.specs.nodes.declared.slot.Slot.{Slot}
use Rattle.cilk_eval.specs.declared.known.Known.{Known}
use Rattle.cilk_frame.specs.nodes.Areas.{Cells, slot_cell}

abbrev pub is_area : Area → Area → Bool
is_area Own Own = true
is_area Outer Outer = true
is_area Global Global = true
is_area _ _ = false

abbrev pub is_slot : Slot → Slot → Bool
is_slot a b = is_area a.area b.area && (a.offset == b.offset) && (a.length == b.length)

-- the value that is known of a variable: the first that stands there, and else 0
abbrev pub known_value : List Known → Slot → ℤ
known_value [] slot = pos 0
known_value (k ∷ ks) slot = if is_slot k.slot slot then k.value else known_value ks slot

-- variables have these values, and there are no arrays
abbrev pub known : List Known → Environment Slot
known ks = record { value = known_value ks; length = λ slot. 0; cell = λ slot k. pos 0; synched = false }

-- there is no such element
abbrev pub no_element : Result ℤ Trap → Result ℤ Trap
no_element (Ok k) = Err Index
no_element (Err trap) = Err trap

-- its variables from the left, evaluated or not, each as often as it stands there
abbrev pub variables_of : Term Slot → List Slot
variables_of (number n) = []
variables_of (variable slot) = slot ∷ []
variables_of (element slot subscript) = variables_of subscript
variables_of synched = []
variables_of (unary op t) = variables_of t
variables_of (binary op a b) = variables_of a ++ variables_of b
variables_of (choose t a b) = variables_of t ++ (variables_of a ++ variables_of b)

-- what cells hold of a variable
abbrev pub known_in : Cells → Slot → Known
known_in cells slot = record { slot = slot; value = slot_cell cells slot 0 }

-- what cells hold of the variables of an expression
abbrev pub known_of : Cells → Term Slot → List Known
known_of cells t = map (known_in cells) (variables_of t)

-- the same is known of the same variable
abbrev pub is_known : Known → Known → Bool
is_known a b = is_slot a.slot b.slot && int_eq a.value b.value

-- what stands behind the first of two lists in the second, if that begins with the first
abbrev pub behind_known : List Known → List Known → Option (List Known)
behind_known [] values = Some values
behind_known (k ∷ ks) [] = None
behind_known (k ∷ ks) (first ∷ others) = if is_known first k then behind_known ks others else None
