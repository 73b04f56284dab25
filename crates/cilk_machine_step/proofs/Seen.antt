-- A cell over slots is the cell over declarations, as others see it.
use Rattle.std.proofs.Common.{◌≡◌, ℕ, ℤ, pos, negsuc, Bool, true, false, nat_lt, List, [], ◌∷◌, ◌++◌, map, Option, Some, None, Result, Ok, Err, refl, sym, ap}
use Rattle.std.proofs.Common.{◌∙◌, if◌then◌else◌}
use Rattle.cilk_machine_plan.specs.syntax.declared.operator.BinOp.{BinOp}
use Rattle.cilk_machine_plan.specs.model.declared.trap.Trap.{Trap}
use Rattle.cilk_machine_plan.specs.model.declared.trap.Trap.TheVariants.{Index}
use Rattle.cilk_machine_plan.specs.labelled.Value.{value_of, ◌>>=◌}
use Rattle.cilk_machine_plan.specs.labelled.Labelled.{Labelled, Declaration, local, outer, global, of_lock, of_body, unknown, Target, variable, element}
use Rattle.cilk_machine_plan.specs.labelled.Labelled.{Variable}
use Rattle.cilk_machine_plan.specs.labelled.Bodies.{label}
use Rattle.cilk_machine_plan.specs.nodes.declared.area.Area.TheVariants.{Own, Outer, Global}
use Rattle.cilk_machine_plan.specs.nodes.declared.slot.Slot.{Slot}
use Rattle.cilk_machine_plan.specs.model.Path.{Path}
use Rattle.cilk_machine_plan.specs.model.Instance.{Instance, body_at}
use Rattle.cilk_machine_plan.specs.model.State.{is_empty}
use Rattle.cilk_machine_plan.specs.model.Values.{Store, environment, cell_at, element_cell}
use Rattle.cilk_machine_plan.specs.nodes.Actions.{slotted_place}
use Rattle.cilk_machine_plan.specs.nodes.Bodies.{vars_from}
use Rattle.cilk_machine_plan.specs.nodes.Slots.{slot_of, procedure_around}
use Rattle.cilk_machine_plan.specs.frame.Cells.{IsInlet}
use Rattle.cilk_machine_plan.specs.frame.Reads.{IsVariable, Seen}
use Rattle.cilk_machine_plan.specs.effects.Effects.{element_index, index_of}
use Rattle.cilk_machine_plan.specs.effects.Known.{KnownTarget}
use Rattle.cilk_machine_plan.specs.StepInput.{StepInput, own_node, cells_in, is_outer}
use Rattle.cilk_machine_plan.proofs.frame_laws.SlotLaws.{slot-area}
use Rattle.cilk_machine_plan.proofs.frame_laws.Values.{array-same, array-declared, value-same}
use Rattle.cilk_machine_step.specs.Reads.{Read, cell, whether}
use Rattle.cilk_machine_step.specs.Accesses as accesses
use Rattle.cilk_machine_step.specs.Accesses.{own, read, write}
use Rattle.cilk_machine_step.specs.Shown as shown
use Rattle.cilk_machine_step.specs.Shown.{own_path, own_vars, number_at}
use Rattle.cilk_machine_step.proofs.Numbers.{number-is, vars-are}
use Rattle.cilk_machine_step.proofs.Renamed.{renamed, EachKnown}

-- an activation of body b, above those below in i, which is the procedure's own or not
pub record Sees (g : StepInput) (alone : Bool) (b : ℕ) (i : Instance) : Type 0 where
  pub bare : is_empty i.below ≡ alone
  pub itself : alone ≡ true → (own_node g).procedure ≡ b
  pub around : IsInlet (label g.program) b → (own_node g).procedure ≡ procedure_around (label g.program) b

module _ (g : StepInput) (alone : Bool) (b : ℕ) (i : Instance) (sees : Sees g alone b i) where
  abbrev program : Labelled
  program = label g.program

  abbrev name : Declaration → Slot
  name = slot_of program b

  abbrev p : Path
  p = own_path g

  abbrev variables_in : ℕ → List Variable
  variables_in c = (body_at program c).variables

  own-number : (c n : ℕ) → (own_node g).procedure ≡ c → (offset : ℕ) → number_at offset (vars_from Own 0 (variables_in c)) ≡ n
      → number_at offset (own_vars g) ≡ n
  own-number c n is offset h =
      ap (number_at offset) (vars-are program.bodies (own_node g).procedure ∙ ap (λ x. vars_from Own 0 (variables_in x)) is) ∙ h

  pub seen-same : (d : Declaration) (k : ℕ) → IsVariable program b d → shown.seen g alone (name d) k ≡ accesses.seen p i d k
  seen-same (local n) k h = ap (λ a. shown.seen_in g alone a (name (local n)).offset k) (slot-area Own 0 (variables_in b) n h) ∙ by alone refl
    where
      by : (x : Bool) → alone ≡ x → shown.seen_in g alone Own (name (local n)).offset k ≡ accesses.seen p i (local n) k
      by true e =
          ap (λ x. shown.seen_in g x Own (name (local n)).offset k) e
          ∙ ap (λ m. own p m k ∷ []) (own-number b n (sees.itself e) (name (local n)).offset (number-is Own Own (variables_in b) n h))
          ∙ ap (λ x. if x then own p n k ∷ [] else []) (sym (sees.bare ∙ e))
      by false e =
          ap (λ x. shown.seen_in g x Own (name (local n)).offset k) e ∙ ap (λ x. if x then own p n k ∷ [] else []) (sym (sees.bare ∙ e))
  seen-same (outer n) k (inlet, h) =
      let around = procedure_around program b in
      ap (λ a. shown.seen_in g alone a (name (outer n)).offset k) (slot-area Outer 0 (variables_in around) n h)
      ∙ ap (λ m. own p m k ∷ [])
      (own-number around n (sees.around inlet) (name (outer n)).offset (number-is Outer Own (variables_in around) n h))
  seen-same (global n) k h =
      ap (λ a. shown.seen_in g alone a (name (global n)).offset k) (slot-area Global 0 program.globals n h)
      ∙ ap (λ m. accesses.global m k ∷ []) (number-is Global Global program.globals n h)
  seen-same (of_lock n) k h = absurd h
  seen-same (of_body n) k h = absurd h
  seen-same unknown k h = absurd h

  pub update-same : (op : Option BinOp) (d : Declaration) (k : ℕ) → IsVariable program b d
      → shown.update g alone op (name d) k ≡ accesses.update p i op (Ok (record { place = d; index = k }))
  update-same None d k h = ap (map write) (seen-same d k h)
  update-same (Some op) d k h = λ j. map read (seen-same d k h j) ++ map write (seen-same d k h j)

  module _ (top : alone ≡ is_outer g) where
    pub reads-seen : (rs : List (Read Declaration)) → EachKnown program b rs
        → shown.reads_of g (map (renamed name) rs) ≡ accesses.reads_of p i rs
    reads-seen [] h = refl
    reads-seen (cell d k ∷ rs) (v, h) =
        ap (λ x. map read (shown.seen g x (name d) k) ++ shown.reads_of g (map (renamed name) rs)) (sym top)
        ∙ (λ j. map read (seen-same d k v j) ++ reads-seen rs h j)
    reads-seen (whether ∷ rs) h = ap (λ xs. read (accesses.synched p) ∷ xs) (reads-seen rs h)

    there : (op : Option BinOp) (d : Declaration) (k : ℕ) → IsVariable program b d
        → shown.update_at g op (name d) (Ok k) ≡ accesses.update p i op (Ok (record { place = d; index = k }))
    there op d k h = ap (λ x. shown.update g x op (name d) k) (sym top) ∙ update-same op d k h

    nothing : (op : Option BinOp) (trap : Trap) → [] ≡ accesses.update p i op (Err trap)
    nothing None trap = refl
    nothing (Some op) trap = refl

    pub target-same : (store : Store) → Seen program b (cells_in g) store → (op : Option BinOp) (t : Target) → KnownTarget program b t
        → shown.update_at g op (slotted_place name t).slot (index_of (cells_in g) (slotted_place name t))
        ≡ accesses.update p i op (cell_at (environment store) t)
    target-same store s op (variable d) h = there op d 0 h
    target-same store s op (element d u) (array, known) =
        (λ j. shown.update_at g op (name d)
        (value-same program b (cells_in g) store u s known j >>= element_index ((array-same program b (cells_in g) store s d array).length j)))
        ∙ by_value (value_of (environment store) u)
      where
        by_test : (k : ℕ) (inside : Bool)
            → shown.update_at g op (name d) (if inside then Ok k else Err Index)
            ≡ accesses.update p i op (if inside then Ok (record { place = d; index = k }) else Err Index)
        by_test k true = there op d k (array-declared program b d array)
        by_test k false = nothing op Index

        by_value : (r : Result ℤ Trap)
            → shown.update_at g op (name d) (r >>= element_index ((environment store).length d))
            ≡ accesses.update p i op (r >>= element_cell (environment store) d)
        by_value (Ok (pos k)) = by_test k (nat_lt k ((environment store).length d))
        by_value (Ok (negsuc k)) = nothing op Index
        by_value (Err trap) = nothing op trap
