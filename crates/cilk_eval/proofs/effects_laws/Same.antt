-- What actions come to over slots is what they come to over declarations.
use Rattle.std.proofs.Common.{◌≡◌, ℕ, ◌<◌, ℤ, pos, negsuc, Bool, true, false, nat_lt, List, [], ◌∷◌, map, length, Option, Some, None}
use Rattle.std.proofs.Common.{Result, Ok, Err, refl, sym, ap, ◌∙◌, subst, arith, if◌then◌else◌}
use Rattle.std.specs.Prelude.{⊤, option_map}
use Rattle.std.specs.List.{All}
use Rattle.std.proofs.lemmas.List.Elements.{All-head, All-tail, All-map, All-weaker}
use borrow.Author.Tests.{ltb-true}
use Rattle.cilk_eval.specs.syntax.declared.operator.BinOp.{BinOp}
use Rattle.cilk_eval.specs.model.declared.trap.Trap.{Trap}
use Rattle.cilk_eval.specs.model.declared.trap.Trap.TheVariants.{Index}
use Rattle.cilk_eval.specs.labelled.Term.{Term, rename}
use Rattle.cilk_eval.specs.labelled.Value.{Environment, value_of, values_of, ◌>>=◌}
use Rattle.cilk_eval.specs.nodes.declared.slot.Slot.{Slot}
use Rattle.cilk_eval.specs.nodes.Areas.{Cells, slot_cell, sizes_of, SlotsLieWithin}
use Rattle.cilk_eval.specs.nodes.Areas as slots
use Rattle.cilk_eval.specs.labelled.Labelled.{Declaration, local, outer, global, of_lock, of_body, unknown, Labelled, Target, variable}
use Rattle.cilk_eval.specs.labelled.Labelled.{element, Into, Taker, nothing, into, through, Action, assign, call, spawn, print, locking, null}
use Rattle.cilk_eval.specs.labelled.Labelled.{break_off, go_round, tests, sync, abort, return_with, return_nothing, close}
use Rattle.cilk_eval.specs.model.Values.{Store, Cell, Reached, cells_of, cell_of, environment, element_cell, cell_at, reached_at, reached_if, combined}
use Rattle.cilk_eval.specs.model.Instance as model
use Rattle.cilk_eval.specs.model.Effect as effect
use Rattle.cilk_eval.specs.model.Effect.{effect_of, start_of}
use Rattle.cilk_eval.specs.model.Printing.{printed}
use Rattle.cilk_eval.specs.nodes.Slots.{slot_of}
use Rattle.cilk_eval.specs.nodes.Actions.{slotted_place, slotted_target, slotted_taker, slotted}
use Rattle.cilk_eval.specs.frame.Cells.{own_variables, outer_variables, HasCell}
use Rattle.cilk_eval.specs.frame.Reads.{IsArray, IsKnown, Seen}
use Rattle.cilk_eval.proofs.frame_laws.SlotLaws.{cells-size}
use Rattle.cilk_eval.proofs.frame_laws.Values.{array-inside, array-declared, array-same, declared-within, cell-same, value-same, slots-within}
use Rattle.cilk_eval.specs.declared.effect.Effect.{Effect}
use Rattle.cilk_eval.specs.declared.effect.Effect.TheVariants.{Writes, Answers, Enters, Gives, Starts, Prints}
use Rattle.cilk_eval.specs.frame.declared.receiver.Receiver as receiver
use Rattle.cilk_eval.specs.effects.Fits.{FitsPlace, FitsTarget, FitsTaker, FitsAct}
use Rattle.cilk_eval.specs.effects.Effects.{element_index, index_of, assigned, awaited, started, effect_in}
use Rattle.cilk_eval.specs.effects.Known.{KnownTarget, KnownPlace, KnownTaker, KnownAct}
use Rattle.cilk_eval.specs.effects.Slotted.{ReachesCells, slotted_await, slotted_result}
use Rattle.cilk_eval.proofs.effects_laws.ReachedCells.{variable_has}

-- what a target names
abbrev named_by : Target → Declaration
named_by (variable d) = d
named_by (element d t) = d

-- the index of the cell that it is
abbrev index_in : Environment Declaration → Target → Result ℕ Trap
index_in env (variable d) = Ok 0
index_in env (element d t) = value_of env t >>= element_index (env.length d)

abbrev cell_by : Declaration → ℕ → Cell
cell_by d k = record { place = d; index = k }

target-cell : (env : Environment Declaration) (t : Target) → cell_at env t ≡ index_in env t >>= λ k. Ok (cell_by (named_by t) k)
target-cell env (variable d) = refl
target-cell env (element d t) = by_value (value_of env t)
  where
    by_test : (k : ℕ) (inside : Bool) → (if inside then Ok (cell_by d k) else Err Index) ≡ (if inside then Ok k else Err Index) >>= λ j. Ok (cell_by d j)
    by_test k true = refl
    by_test k false = refl

    by_value : (r : Result ℤ Trap) → (r >>= element_cell env d) ≡ (r >>= element_index (env.length d)) >>= λ k. Ok (cell_by d k)
    by_value (Ok (pos k)) = by_test k (nat_lt k (env.length d))
    by_value (Ok (negsuc k)) = refl
    by_value (Err trap) = refl

index-below : (length k : ℕ) (r : Result ℤ Trap) → r >>= element_index length ≡ Ok k → k < length
index-below length k (Err trap) h = cc
index-below length k (Ok (negsuc j)) h = cc
index-below length k (Ok (pos j)) h = by_test (nat_lt j length) refl h
  where
    by_test : (inside : Bool) → nat_lt j length ≡ inside → (if inside then Ok j else Err Index) ≡ Ok k → k < length
    by_test true e h = let same : j ≡ k = cc in subst (λ m. m < length) same (ltb-true j length e)
    by_test false e h = cc

module _ (program : Labelled) (b : ℕ) (cells : Cells) (store : Store) (s : Seen program b cells store) where
  abbrev slot : Declaration → Slot
  slot = slot_of program b

  abbrev env : Environment Declaration
  env = environment store

  array-cell : (d : Declaration) (k : ℕ) → IsArray program b d → k < length (cells_of store d) → HasCell program b d k
  array-cell (local n) k h below =
      let inside = array-inside (own_variables program b) n h in
      let size = cells-size store.own (own_variables program b) n s.own_sizes inside in
      (inside, omega arith)
  array-cell (outer n) k (inlet, h) below =
      let inside = array-inside (outer_variables program b) n h in
      let size = cells-size store.outer (outer_variables program b) n (s.outer_sizes inlet) inside in
      (inlet, (inside, omega arith))
  array-cell (global n) k h below =
      let inside = array-inside program.globals n h in
      let size = cells-size store.globals program.globals n s.global_sizes inside in
      (inside, omega arith)
  array-cell (of_lock n) k h below = h
  array-cell (of_body n) k h below = h
  array-cell unknown k h below = h

  index-same : (t : Target) → KnownTarget program b t → index_of cells (slotted_place slot t) ≡ index_in env t
  index-same (variable d) h = refl
  index-same (element d t) (array, known) =
      λ i. value-same program b cells store t s known i >>= element_index ((array-same program b cells store s d array).length i)

  index-there : (t : Target) (k : ℕ) → KnownTarget program b t → index_in env t ≡ Ok k → HasCell program b (named_by t) k
  index-there (variable d) k h e = let zero : 0 ≡ k = cc in subst (λ j. HasCell program b d j) zero (variable_has program b d h)
  index-there (element d t) k (array, known) e = array-cell d k array (index-below (env.length d) k (value_of env t) e)

  values-same : (ts : List (Term Declaration)) → All (IsKnown program b) ts → values_of (slots.environment cells) (map (rename slot) ts) ≡ values_of env ts
  values-same [] h = refl
  values-same (t ∷ ts) h =
      λ i. value-same program b cells store t s (All-head (IsKnown program b) t ts h) i
      >>= λ z. values-same ts (All-tail (IsKnown program b) t ts h) i >>= λ zs. Ok (z ∷ zs)

  values-within : (ts : List (Term Declaration)) → All (IsKnown program b) ts → All (SlotsLieWithin (sizes_of cells)) (map (rename slot) ts)
  values-within ts h =
      All-map (SlotsLieWithin (sizes_of cells)) (rename slot) ts
      (All-weaker (IsKnown program b) (λ t. SlotsLieWithin (sizes_of cells) (rename slot t)) (λ t known. slots-within program b cells store t s known) ts h)

  place-fits : (t : Target) → KnownTarget program b t → FitsPlace (sizes_of cells) (slotted_place slot t)
  place-fits (variable d) h = record { slot = declared-within program b cells store s d h; subscript = tt }
  place-fits (element d t) (array, known) = record {
    slot = declared-within program b cells store s d (array-declared program b d array);
    subscript = slots-within program b cells store t s known;
  }

  target-fits : (what : Option Into) → KnownPlace program b what → FitsTarget (sizes_of cells) (option_map (slotted_target slot) what)
  target-fits None h = tt
  target-fits (Some what) h = place-fits what.target h

  taker-fits : (taker : Taker) → KnownTaker program b taker → FitsTaker (sizes_of cells) (slotted_taker slot taker)
  taker-fits nothing h = tt
  taker-fits (into what) h = place-fits what.target h
  taker-fits (through inlet others) (feeds, h) = values-within others h

  pub act-fits : (act : Action) → KnownAct program b act → FitsAct (sizes_of cells) (slotted slot act)
  act-fits (assign what e) (place, value) = (place-fits what.target place, slots-within program b cells store e s value)
  act-fits (call what callee es) (place, calls, values) = (target-fits what place, values-within es values)
  act-fits (spawn taker callee es) (here, place, spawns, values) = (taker-fits taker place, values-within es values)
  act-fits (print format es) (count, values) = values-within es values
  act-fits (locking what lock) h = tt
  act-fits null h = tt
  act-fits break_off h = tt
  act-fits go_round h = tt
  act-fits (tests e) value = slots-within program b cells store e s value
  act-fits sync h = tt
  act-fits abort h = tt
  act-fits (return_with e) (int, value) = slots-within program b cells store e s value
  act-fits return_nothing h = tt
  act-fits close h = tt

  -- what was reached, from the index of its cell
  abbrev reached_by : Option BinOp → Declaration → Result ℕ Trap → Result Reached Trap
  reached_by op d index = (index >>= λ k. Ok (cell_by d k)) >>= λ cell. Ok (record { op = op; cell = cell })

  reached-is : (what : Into) → reached_at env what ≡ reached_by what.op (named_by what.target) (index_in env what.target)
  reached-is what = ap (λ r. r >>= λ cell. Ok (record { op = what.op; cell = cell })) (target-cell env what.target)

  slot-named : (t : Target) → (slotted_place slot t).slot ≡ slot (named_by t)
  slot-named (variable d) = refl
  slot-named (element d t) = refl

  abbrev then_write : Result ℤ Trap → Reached → Result effect.Effect Trap
  then_write value r = value >>= λ z. combined r.op (cell_of store r.cell.place r.cell.index) z >>= λ y. Ok (effect.writes r.cell y)

  abbrev then_write_slot : Option BinOp → Slot → Result ℤ Trap → ℕ → Result Effect Trap
  then_write_slot op place value k = value >>= λ z. combined op (slot_cell cells place k) z >>= λ y. Ok (Writes (record { slot = place; index = k }) y)

  write-same : (n : ℕ) (op : Option BinOp) (d : Declaration) (value : Result ℤ Trap) (index : Result ℕ Trap) → ((k : ℕ) → index ≡ Ok k → HasCell program b d k)
      → (index >>= then_write_slot op (slot d) value) ≡ slotted_result slot n (reached_by op d index >>= then_write value)
  write-same n op d value (Err trap) h = refl
  write-same n op d (Err trap) (Ok k) h = refl
  write-same n op d (Ok z) (Ok k) h =
      ap (λ old. combined op old z >>= λ y. Ok (Writes (record { slot = slot d; index = k }) y)) (cell-same program b cells store s d k (h k refl))
      ∙ by_sum (combined op (cell_of store d k) z)
    where
      by_sum : (r : Result ℤ Trap)
          → (r >>= λ y. Ok (Writes (record { slot = slot d; index = k }) y))
          ≡ slotted_result slot n (r >>= λ y. Ok (effect.writes (cell_by d k) y))
      by_sum (Ok y) = refl
      by_sum (Err trap) = refl

  assign-same : (n : ℕ) (what : Into) (e : Term Declaration) → KnownTarget program b what.target → IsKnown program b e
      → assigned cells (slotted_target slot what) (rename slot e) ≡ slotted_result slot n (reached_at env what >>= then_write (value_of env e))
  assign-same n what e place value =
      (λ i. index-same what.target place i >>= then_write_slot what.op (slot-named what.target i) (value-same program b cells store e s value i))
      ∙ write-same n what.op (named_by what.target) (value_of env e) (index_in env what.target) (λ k. index-there what.target k place)
      ∙ ap (λ r. slotted_result slot n (r >>= then_write (value_of env e))) (sym (reached-is what))

  awaited-same : (n : ℕ) (what : Option Into) → KnownPlace program b what
      → awaited cells n (option_map (slotted_target slot) what) ≡ reached_if env what >>= λ r. Ok (slotted_await n r)
  awaited-same n None h = refl
  awaited-same n (Some what) h =
      ap (λ r. r >>= λ k. Ok (Some (record { n = n; index = k }))) (index-same what.target h)
      ∙ by_index (index_in env what.target)
      ∙ ap (λ r. (r >>= λ x. Ok (Some x)) >>= λ x. Ok (slotted_await n x)) (sym (reached-is what))
    where
      by_index : (index : Result ℕ Trap)
          → (index >>= λ k. Ok (Some (record { n = n; index = k })))
          ≡ (reached_by what.op (named_by what.target) index >>= λ r. Ok (Some r)) >>= λ r. Ok (slotted_await n r)
      by_index (Ok k) = refl
      by_index (Err trap) = refl

  call-same : (n callee : ℕ) (awaits : Result (Option Reached) Trap) (values : Result (List ℤ) Trap)
      → ((awaits >>= λ r. Ok (slotted_await n r)) >>= λ w. values >>= λ zs. Ok (Enters w callee zs))
      ≡ slotted_result slot n (awaits >>= λ r. values >>= λ zs. Ok (effect.enters r callee zs))
  call-same n callee (Err trap) values = refl
  call-same n callee (Ok r) (Err trap) = refl
  call-same n callee (Ok r) (Ok zs) = refl

  spawn-into : (n callee : ℕ) (op : Option BinOp) (d : Declaration) (index : Result ℕ Trap) (values : Result (List ℤ) Trap)
      → (index >>= λ k. values >>= λ zs. Ok (Starts (receiver.TheVariants.Place op (slot d) k n) callee zs))
      ≡ slotted_result slot n (reached_by op d index >>= λ r. values >>= λ zs. Ok (effect.starts (Some (model.place r n)) callee zs))
  spawn-into n callee op d (Err trap) values = refl
  spawn-into n callee op d (Ok k) (Err trap) = refl
  spawn-into n callee op d (Ok k) (Ok zs) = refl

  spawn-through : (n callee inlet : ℕ) (values others : Result (List ℤ) Trap)
      → (values >>= λ zs. others >>= λ ys. Ok (Starts (receiver.TheVariants.Call n ys) callee zs))
      ≡ slotted_result slot n (values >>= λ zs. others >>= λ ys. Ok (effect.starts (Some (model.through inlet ys n)) callee zs))
  spawn-through n callee inlet (Err trap) others = refl
  spawn-through n callee inlet (Ok zs) (Err trap) = refl
  spawn-through n callee inlet (Ok zs) (Ok ys) = refl

  spawn-nothing : (n callee : ℕ) (values : Result (List ℤ) Trap)
      → (values >>= λ zs. Ok (Starts receiver.TheVariants.Nothing callee zs)) ≡ slotted_result slot n (values >>= λ zs. Ok (effect.starts None callee zs))
  spawn-nothing n callee (Err trap) = refl
  spawn-nothing n callee (Ok zs) = refl

  spawn-same : (n : ℕ) (taker : Taker) (callee : ℕ) (es : List (Term Declaration)) → KnownTaker program b taker → All (IsKnown program b) es
      → started cells n (slotted_taker slot taker) callee (map (rename slot) es) ≡ slotted_result slot n (start_of env n taker callee es)
  spawn-same n nothing callee es h values =
      ap (λ r. r >>= λ zs. Ok (Starts receiver.TheVariants.Nothing callee zs)) (values-same es values) ∙ spawn-nothing n callee (values_of env es)
  spawn-same n (into what) callee es h values =
      (λ i. index-same what.target h i >>= λ k. values-same es values i
      >>= λ zs. Ok (Starts (receiver.TheVariants.Place what.op (slot-named what.target i) k n) callee zs))
      ∙ spawn-into n callee what.op (named_by what.target) (index_in env what.target) (values_of env es)
      ∙ ap (λ r. slotted_result slot n (r >>= λ x. values_of env es >>= λ zs. Ok (effect.starts (Some (model.place x n)) callee zs))) (sym (reached-is what))
  spawn-same n (through inlet others) callee es (feeds, h) values =
      (λ i. values-same es values i >>= λ zs. values-same others h i >>= λ ys. Ok (Starts (receiver.TheVariants.Call n ys) callee zs))
      ∙ spawn-through n callee inlet (values_of env es) (values_of env others)

  print-same : (n : ℕ) (format : List ℕ) (values : Result (List ℤ) Trap)
      → (values >>= λ zs. Ok (Prints (printed format zs))) ≡ slotted_result slot n (values >>= λ zs. Ok (effect.writes_out (printed format zs)))
  print-same n format (Ok zs) = refl
  print-same n format (Err trap) = refl

  test-same : (n : ℕ) (value : Result ℤ Trap)
      → (value >>= λ z. Ok (Answers z)) ≡ slotted_result slot n (value >>= λ z. Ok (effect.answers z))
  test-same n (Ok z) = refl
  test-same n (Err trap) = refl

  gift-same : (n : ℕ) (value : Result ℤ Trap) → (value >>= λ z. Ok (Gives z)) ≡ slotted_result slot n (value >>= λ z. Ok (effect.gives z))
  gift-same n (Ok z) = refl
  gift-same n (Err trap) = refl

  pub effect-same : (n : ℕ) (act : Action) → KnownAct program b act → effect_in cells n (slotted slot act) ≡ slotted_result slot n (effect_of env n act)
  effect-same n (assign what e) (place, value) = assign-same n what e place value
  effect-same n (call what callee es) (place, calls, values) =
      (λ i. awaited-same n what place i >>= λ w. values-same es values i >>= λ zs. Ok (Enters w callee zs))
      ∙ call-same n callee (reached_if env what) (values_of env es)
  effect-same n (spawn taker callee es) (here, place, spawns, values) = spawn-same n taker callee es place values
  effect-same n (print format es) (count, values) =
      ap (λ r. r >>= λ zs. Ok (Prints (printed format zs))) (values-same es values) ∙ print-same n format (values_of env es)
  effect-same n (locking what lock) h = refl
  effect-same n null h = refl
  effect-same n break_off h = refl
  effect-same n go_round h = refl
  effect-same n (tests e) value =
      ap (λ r. r >>= λ z. Ok (Answers z)) (value-same program b cells store e s value) ∙ test-same n (value_of env e)
  effect-same n sync h = refl
  effect-same n abort h = refl
  effect-same n (return_with e) (int, value) =
      ap (λ r. r >>= λ z. Ok (Gives z)) (value-same program b cells store e s value) ∙ gift-same n (value_of env e)
  effect-same n return_nothing h = refl
  effect-same n close h = refl

  -- where there is an effect, each cell that it reached is one that the body sees
  abbrev Good : Result effect.Effect Trap → Type 0
  Good (Ok e) = ReachesCells program b e
  Good (Err trap) = ⊤

  write-good : (op : Option BinOp) (d : Declaration) (value : Result ℤ Trap) (index : Result ℕ Trap) → ((k : ℕ) → index ≡ Ok k → HasCell program b d k)
      → Good (reached_by op d index >>= then_write value)
  write-good op d value (Err trap) h = tt
  write-good op d (Err trap) (Ok k) h = tt
  write-good op d (Ok z) (Ok k) h = by_sum (combined op (cell_of store d k) z)
    where
      by_sum : (r : Result ℤ Trap) → Good (r >>= λ y. Ok (effect.writes (cell_by d k) y))
      by_sum (Ok y) = h k refl
      by_sum (Err trap) = tt

  enter-good : (callee : ℕ) (op : Option BinOp) (d : Declaration) (values : Result (List ℤ) Trap) (index : Result ℕ Trap)
      → ((k : ℕ) → index ≡ Ok k → HasCell program b d k)
      → Good ((reached_by op d index >>= λ r. Ok (Some r)) >>= λ r. values >>= λ zs. Ok (effect.enters r callee zs))
  enter-good callee op d values (Err trap) h = tt
  enter-good callee op d (Err trap) (Ok k) h = tt
  enter-good callee op d (Ok zs) (Ok k) h = h k refl

  start-good : (n callee : ℕ) (op : Option BinOp) (d : Declaration) (values : Result (List ℤ) Trap) (index : Result ℕ Trap)
      → ((k : ℕ) → index ≡ Ok k → HasCell program b d k)
      → Good (reached_by op d index >>= λ r. values >>= λ zs. Ok (effect.starts (Some (model.place r n)) callee zs))
  start-good n callee op d values (Err trap) h = tt
  start-good n callee op d (Err trap) (Ok k) h = tt
  start-good n callee op d (Ok zs) (Ok k) h = h k refl

  values-good : (values : Result (List ℤ) Trap) (f : List ℤ → effect.Effect) → ((zs : List ℤ) → ReachesCells program b (f zs))
      → Good (values >>= λ zs. Ok (f zs))
  values-good (Ok zs) f h = h zs
  values-good (Err trap) f h = tt

  value-good : (value : Result ℤ Trap) (f : ℤ → effect.Effect) → ((z : ℤ) → ReachesCells program b (f z)) → Good (value >>= λ z. Ok (f z))
  value-good (Ok z) f h = h z
  value-good (Err trap) f h = tt

  two-good : (n callee inlet : ℕ) (values others : Result (List ℤ) Trap)
      → Good (values >>= λ zs. others >>= λ ys. Ok (effect.starts (Some (model.through inlet ys n)) callee zs))
  two-good n callee inlet (Err trap) others = tt
  two-good n callee inlet (Ok zs) (Err trap) = tt
  two-good n callee inlet (Ok zs) (Ok ys) = tt

  effect-good : (n : ℕ) (act : Action) → KnownAct program b act → Good (effect_of env n act)
  effect-good n (assign what e) (place, value) =
      subst (λ r. Good (r >>= then_write (value_of env e))) (sym (reached-is what))
      (write-good what.op (named_by what.target) (value_of env e) (index_in env what.target) (λ k. index-there what.target k place))
  effect-good n (call None callee es) (place, calls, values) = values-good (values_of env es) (λ zs. effect.enters None callee zs) (λ zs. tt)
  effect-good n (call (Some what) callee es) (place, calls, values) =
      subst (λ r. Good ((r >>= λ x. Ok (Some x)) >>= λ x. values_of env es >>= λ zs. Ok (effect.enters x callee zs))) (sym (reached-is what))
      (enter-good callee what.op (named_by what.target) (values_of env es) (index_in env what.target) (λ k. index-there what.target k place))
  effect-good n (spawn nothing callee es) h = values-good (values_of env es) (λ zs. effect.starts None callee zs) (λ zs. tt)
  effect-good n (spawn (into what) callee es) (here, place, spawns, values) =
      subst (λ r. Good (r >>= λ x. values_of env es >>= λ zs. Ok (effect.starts (Some (model.place x n)) callee zs))) (sym (reached-is what))
      (start-good n callee what.op (named_by what.target) (values_of env es) (index_in env what.target) (λ k. index-there what.target k place))
  effect-good n (spawn (through inlet others) callee es) h = two-good n callee inlet (values_of env es) (values_of env others)
  effect-good n (print format es) h = values-good (values_of env es) (λ zs. effect.writes_out (printed format zs)) (λ zs. tt)
  effect-good n (locking what lock) h = tt
  effect-good n null h = tt
  effect-good n break_off h = tt
  effect-good n go_round h = tt
  effect-good n (tests e) h = value-good (value_of env e) (λ z. effect.answers z) (λ z. tt)
  effect-good n sync h = tt
  effect-good n abort h = tt
  effect-good n (return_with e) h = value-good (value_of env e) (λ z. effect.gives z) (λ z. tt)
  effect-good n return_nothing h = tt
  effect-good n close h = tt

  pub effect-reaches : (n : ℕ) (act : Action) (e : effect.Effect) → KnownAct program b act → effect_of env n act ≡ Ok e → ReachesCells program b e
  effect-reaches n act e h is = subst Good is (effect-good n act h)
