-- Expressions over slots read the cells that they read over declarations.
use Rattle.std.proofs.Common.{◌≡◌, ℕ, ℤ, pos, negsuc, Bool, true, false, nat_lt, List, [], ◌∷◌, ◌++◌, map, Result, Ok, Err, refl, sym, ap, ◌∙◌, if◌then◌else◌}
use Rattle.std.specs.Prelude.{⊤, is_some}
use Rattle.std.specs.List.{All}
use Rattle.std.proofs.lemmas.List.{map-append}
use Rattle.std.proofs.lemmas.List.Elements.{All-head, All-tail}
use Rattle.cilk_machine_plan.specs.syntax.declared.operator.BinOp.{BinOp}
use Rattle.cilk_machine_plan.specs.model.declared.trap.Trap.{Trap}
use Rattle.cilk_machine_plan.specs.labelled.Arithmetic.{is_zero}
use Rattle.cilk_machine_plan.specs.labelled.Term.{Term, number, variable, element, synched, unary, binary, choose, rename}
use Rattle.cilk_machine_plan.specs.labelled.Value.{Environment, value_of, settled_by_left}
use Rattle.cilk_machine_plan.specs.labelled.Labelled.{Declaration, Labelled}
use Rattle.cilk_machine_plan.specs.nodes.declared.slot.Slot.{Slot}
use Rattle.cilk_machine_plan.specs.nodes.Areas.{Cells}
use Rattle.cilk_machine_plan.specs.nodes.Areas as slots
use Rattle.cilk_machine_plan.specs.model.Values.{Store, environment}
use Rattle.cilk_machine_plan.specs.nodes.Slots.{slot_of}
use Rattle.cilk_machine_plan.specs.frame.Reads.{IsVariable, IsArray, IsKnown, Seen}
use Rattle.cilk_machine_plan.proofs.frame_laws.Values.{array-same, array-declared, value-same}
use Rattle.cilk_machine_step.specs.Reads.{Read, cell, whether, element_reads, right_reads, picked_reads, reads_in, behind, reads_in_all}

-- under other names for places
abbrev pub renamed : {P Q : Type 0} → (P → Q) → Read P → Read Q
renamed f (cell p k) = cell (f p) k
renamed f whether = whether

module _ (program : Labelled) (b : ℕ) where
  -- each cell is of a variable that the body sees
  abbrev pub EachKnown : List (Read Declaration) → Type 0
  EachKnown [] = ⊤
  EachKnown (cell d k ∷ rs) = IsVariable program b d × EachKnown rs
  EachKnown (whether ∷ rs) = EachKnown rs

  pub known-append : (rs ss : List (Read Declaration)) → EachKnown rs → EachKnown ss → EachKnown (rs ++ ss)
  known-append [] ss h k = k
  known-append (cell d n ∷ rs) ss (v, h) k = (v, known-append rs ss h k)
  known-append (whether ∷ rs) ss h k = known-append rs ss h k

  known-element : (env : Environment Declaration) (d : Declaration) (r : Result ℤ Trap) → IsVariable program b d → EachKnown (element_reads env d r)
  known-element env d (Ok (pos k)) h = by (nat_lt k (env.length d))
    where
      by : (inside : Bool) → EachKnown (if inside then cell d k ∷ [] else [])
      by true = (h, tt)
      by false = tt
  known-element env d (Ok (negsuc k)) h = tt
  known-element env d (Err trap) h = tt

  known-right : (op : BinOp) (r : Result ℤ Trap) (rs : List (Read Declaration)) → EachKnown rs → EachKnown (right_reads op r rs)
  known-right op (Ok z) rs h = by (is_some (settled_by_left op z))
    where
      by : (settled : Bool) → EachKnown (if settled then [] else rs)
      by true = tt
      by false = h
  known-right op (Err trap) rs h = tt

  known-picked : (r : Result ℤ Trap) (rs ss : List (Read Declaration)) → EachKnown rs → EachKnown ss → EachKnown (picked_reads r rs ss)
  known-picked (Ok z) rs ss h k = by (is_zero z)
    where
      by : (zero : Bool) → EachKnown (if zero then ss else rs)
      by true = k
      by false = h
  known-picked (Err trap) rs ss h k = tt

  pub known-reads : (env : Environment Declaration) (t : Term Declaration) → IsKnown program b t → EachKnown (reads_in env t)
  known-reads env (number n) h = tt
  known-reads env (variable d) h = (h, tt)
  known-reads env (element d t) (array, h) =
      known-append (reads_in env t) (element_reads env d (value_of env t)) (known-reads env t h)
      (known-element env d (value_of env t) (array-declared program b d array))
  known-reads env synched h = tt
  known-reads env (unary op t) h = known-reads env t h
  known-reads env (binary op t u) (h, k) =
      known-append (reads_in env t) (right_reads op (value_of env t) (reads_in env u)) (known-reads env t h)
      (known-right op (value_of env t) (reads_in env u) (known-reads env u k))
  known-reads env (choose t u v) (h, k, l) =
      known-append (reads_in env t) (picked_reads (value_of env t) (reads_in env u) (reads_in env v)) (known-reads env t h)
      (known-picked (value_of env t) (reads_in env u) (reads_in env v) (known-reads env u k) (known-reads env v l))

  known-behind : (r : Result ℤ Trap) (rs : List (Read Declaration)) → EachKnown rs → EachKnown (behind r rs)
  known-behind (Ok z) rs h = h
  known-behind (Err trap) rs h = tt

  pub known-all : (env : Environment Declaration) (ts : List (Term Declaration)) → All (IsKnown program b) ts → EachKnown (reads_in_all env ts)
  known-all env [] h = tt
  known-all env (t ∷ ts) h =
      known-append (reads_in env t) (behind (value_of env t) (reads_in_all env ts)) (known-reads env t (All-head (IsKnown program b) t ts h))
      (known-behind (value_of env t) (reads_in_all env ts) (known-all env ts (All-tail (IsKnown program b) t ts h)))

  module _ (cells : Cells) (store : Store) (s : Seen program b cells store) where
    abbrev name : Declaration → Slot
    name = slot_of program b

    abbrev over : Environment Slot
    over = slots.environment cells

    abbrev env : Environment Declaration
    env = environment store

    abbrev slotted : List (Read Declaration) → List (Read Slot)
    slotted rs = map (renamed name) rs

    element-same : (d : Declaration) (r : Result ℤ Trap) → IsArray program b d → element_reads over (name d) r ≡ slotted (element_reads env d r)
    element-same d (Ok (pos k)) array =
        ap (λ n. if nat_lt k n then cell (name d) k ∷ [] else []) ((array-same program b cells store s d array).length)
        ∙ by (nat_lt k (env.length d))
      where
        by : (inside : Bool) → (if inside then cell (name d) k ∷ [] else []) ≡ slotted (if inside then cell d k ∷ [] else [])
        by true = refl
        by false = refl
    element-same d (Ok (negsuc k)) array = refl
    element-same d (Err trap) array = refl

    right-same : (op : BinOp) (r : Result ℤ Trap) (rs : List (Read Declaration)) → right_reads op r (slotted rs) ≡ slotted (right_reads op r rs)
    right-same op (Ok z) rs = by (is_some (settled_by_left op z))
      where
        by : (settled : Bool) → (if settled then [] else slotted rs) ≡ slotted (if settled then [] else rs)
        by true = refl
        by false = refl
    right-same op (Err trap) rs = refl

    picked-same : (r : Result ℤ Trap) (rs ss : List (Read Declaration)) → picked_reads r (slotted rs) (slotted ss) ≡ slotted (picked_reads r rs ss)
    picked-same (Ok z) rs ss = by (is_zero z)
      where
        by : (zero : Bool) → (if zero then slotted ss else slotted rs) ≡ slotted (if zero then ss else rs)
        by true = refl
        by false = refl
    picked-same (Err trap) rs ss = refl

    pub reads-same : (t : Term Declaration) → IsKnown program b t → reads_in over (rename name t) ≡ slotted (reads_in env t)
    reads-same (number n) h = refl
    reads-same (variable d) h = refl
    reads-same (element d t) (array, h) =
        (λ i. reads-same t h i ++ element_reads over (name d) (value-same program b cells store t s h i))
        ∙ ap (λ rs. slotted (reads_in env t) ++ rs) (element-same d (value_of env t) array)
        ∙ sym (map-append (renamed name) (reads_in env t) (element_reads env d (value_of env t)))
    reads-same synched h = refl
    reads-same (unary op t) h = reads-same t h
    reads-same (binary op t u) (h, k) =
        (λ i. reads-same t h i ++ right_reads op (value-same program b cells store t s h i) (reads-same u k i))
        ∙ ap (λ rs. slotted (reads_in env t) ++ rs) (right-same op (value_of env t) (reads_in env u))
        ∙ sym (map-append (renamed name) (reads_in env t) (right_reads op (value_of env t) (reads_in env u)))
    reads-same (choose t u v) (h, k, l) =
        (λ i. reads-same t h i ++ picked_reads (value-same program b cells store t s h i) (reads-same u k i) (reads-same v l i))
        ∙ ap (λ rs. slotted (reads_in env t) ++ rs) (picked-same (value_of env t) (reads_in env u) (reads_in env v))
        ∙ sym (map-append (renamed name) (reads_in env t) (picked_reads (value_of env t) (reads_in env u) (reads_in env v)))

    behind-same : (r : Result ℤ Trap) (rs : List (Read Declaration)) → behind r (slotted rs) ≡ slotted (behind r rs)
    behind-same (Ok z) rs = refl
    behind-same (Err trap) rs = refl

    pub all-same : (ts : List (Term Declaration)) → All (IsKnown program b) ts → reads_in_all over (map (rename name) ts) ≡ slotted (reads_in_all env ts)
    all-same [] h = refl
    all-same (t ∷ ts) h =
        let first = All-head (IsKnown program b) t ts h in
        (λ i. reads-same t first i ++ behind (value-same program b cells store t s first i) (all-same ts (All-tail (IsKnown program b) t ts h) i))
        ∙ ap (λ rs. slotted (reads_in env t) ++ rs) (behind-same (value_of env t) (reads_in_all env ts))
        ∙ sym (map-append (renamed name) (reads_in env t) (behind (value_of env t) (reads_in_all env ts)))
