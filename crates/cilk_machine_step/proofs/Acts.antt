-- The cells that an action touches over slots are those over declarations.
use Rattle.std.proofs.Common.{◌≡◌, ℕ, suc, true, ◌&&◌, ◌==◌, List, [], ◌∷◌, ◌++◌, length, map, Option, Some, None, refl, sym, ap, ◌∙◌}
use Rattle.std.proofs.Common.{subst, arith, option_map, if◌then◌else◌}
use Rattle.std.specs.List.{All}
use Rattle.std.proofs.lemmas.Bool.{ne_eqb}
use Rattle.std.proofs.lemmas.List.{append-nil, map-append}
use Rattle.cilk_machine_plan.specs.labelled.Term.{Term, rename}
use Rattle.cilk_machine_plan.specs.labelled.Value.{Environment}
use Rattle.cilk_machine_plan.specs.labelled.Labelled.{Labelled, Declaration, local, outer, global, of_lock, of_body, unknown, Target, variable, element}
use Rattle.cilk_machine_plan.specs.labelled.Labelled.{Into, Taker, nothing, into, through, Action, assign, call, spawn, print, locking, null, break_off}
use Rattle.cilk_machine_plan.specs.labelled.Labelled.{go_round, tests, sync, abort, return_with, return_nothing, close}
use Rattle.cilk_machine_plan.specs.labelled.Bodies.{label}
use Rattle.cilk_machine_plan.specs.nodes.declared.slot.Slot.{Slot}
use Rattle.cilk_machine_plan.specs.nodes.Areas as slots
use Rattle.cilk_machine_plan.specs.model.Path.{Path}
use Rattle.cilk_machine_plan.specs.model.Values.{Reached, environment, Store}
use Rattle.cilk_machine_plan.specs.model.Instance as model
use Rattle.cilk_machine_plan.specs.model.Instance.{Instance}
use Rattle.cilk_machine_plan.specs.model.State.{is_empty, store_of}
use Rattle.cilk_machine_plan.specs.model.Change as change
use Rattle.cilk_machine_plan.specs.model.Change.{leaves_function}
use Rattle.cilk_machine_plan.specs.nodes.Actions.{slotted_place, slotted_target, slotted_taker, slotted}
use Rattle.cilk_machine_plan.specs.nodes.Bodies.{body_of}
use Rattle.cilk_machine_plan.specs.nodes.Slots.{slot_of, procedure_around}
use Rattle.cilk_machine_plan.proofs.nodes_laws.Heads.{bodies-have}
use Rattle.cilk_machine_plan.specs.frame.declared.awaited.Await.{Await}
use Rattle.cilk_machine_plan.specs.frame.Cells.{HasCell, IsInlet}
use Rattle.cilk_machine_plan.specs.frame.Frames.{depth, top_of}
use Rattle.cilk_machine_plan.specs.frame.Reads.{IsVariable, IsKnown}
use Rattle.cilk_machine_plan.specs.frame.Stands.{AwaitsSame, AwaitsAt, AllInside, bodies_of, lowest_of}
use Rattle.cilk_machine_plan.proofs.frame_laws.Steps.{awaits-same}
use Rattle.cilk_machine_plan.proofs.frame_laws.Tops.{depth-is}
use Rattle.cilk_machine_plan.specs.effects.Known.{KnownTarget, KnownPlace, KnownTaker, KnownAct}
use Rattle.cilk_machine_plan.specs.agree.Laws.{InHand, path_of, instance_of}
use Rattle.cilk_machine_plan.specs.agree.Asked.{Asked}
use Rattle.cilk_machine_plan.proofs.agree_laws.Actions.{told}
use Rattle.cilk_machine_plan.specs.Made as made
use Rattle.cilk_machine_plan.specs.Made.{is_function_body, target_of_action, target_of_node}
use Rattle.cilk_machine_plan.specs.Plans.{input_in}
use Rattle.cilk_machine_plan.specs.StepInput.{StepInput, cells_in, is_outer}
use Rattle.cilk_machine_plan.proofs.Gifts.{outer-is}
use Rattle.cilk_machine_plan.proofs.Heads.{Sound, stands, there, head, own_node, known}
use Rattle.cilk_machine_step.specs.Reads.{Read, reads_in, reads_in_all}
use Rattle.cilk_machine_step.specs.Accesses as accesses
use Rattle.cilk_machine_step.specs.Accesses.{output, write, tail}
use Rattle.cilk_machine_step.specs.Shown as shown
use Rattle.cilk_machine_step.proofs.Renamed.{renamed, EachKnown, known-append, known-reads, known-all, reads-same, all-same}
use Rattle.cilk_machine_step.proofs.Seen.{Sees, reads-seen, target-same, update-same}

-- a cell that a body sees is of a variable that is there
pub cell-declared : (program : Labelled) (b : ℕ) (d : Declaration) (k : ℕ) → HasCell program b d k → IsVariable program b d
cell-declared program b (local n) k (h, l) = h
cell-declared program b (outer n) k (inlet, h) = (inlet, h.0)
cell-declared program b (global n) k (h, l) = h
cell-declared program b (of_lock n) k h = h
cell-declared program b (of_body n) k h = h
cell-declared program b unknown k h = h

-- whether an action leaves its body does not depend on how its variables are named
pub leaves-same : (name : Declaration → Slot) (act : Action) → made.leaves (slotted name act) ≡ change.leaves act
leaves-same name (assign place value) = refl
leaves-same name (call place callee arguments) = refl
leaves-same name (spawn taker callee arguments) = refl
leaves-same name (print format arguments) = refl
leaves-same name (locking what lock) = refl
leaves-same name null = refl
leaves-same name break_off = refl
leaves-same name go_round = refl
leaves-same name (tests value) = refl
leaves-same name sync = refl
leaves-same name abort = refl
leaves-same name (return_with value) = refl
leaves-same name return_nothing = refl
leaves-same name close = refl

pub lowest-alone : (b : ℕ) (ms : List model.Activation) → is_empty ms ≡ true → lowest_of b (bodies_of ms) ≡ b
lowest-alone b [] h = refl
lowest-alone b (m ∷ ms) h = cc

lowest-around : (program : Labelled) (b : ℕ) (ms : List model.Activation) → AllInside program (b ∷ bodies_of ms) → IsInlet program b
    → lowest_of b (bodies_of ms) ≡ procedure_around program b
lowest-around program b [] h inlet = cc
lowest-around program b (m ∷ ms) (none, around, others) inlet = around inlet

inside-below : (program : Labelled) (b : ℕ) (caller : model.Activation) (ms : List model.Activation)
    → AllInside program (b ∷ bodies_of (caller ∷ ms)) → AllInside program (caller.body ∷ bodies_of ms)
inside-below program b caller ms (none, around, others) = others

two-deep : (ms : List model.Activation) → (suc (suc (length ms)) == 2) ≡ is_empty ms
two-deep [] = refl
two-deep (m ∷ ms) = ne_eqb (suc (suc (suc (length ms)))) 2 (λ h. omega (arith, h))

module _ (t : InHand) (sound : Sound t.program) (asked : Asked t) where
  abbrev program : Labelled
  program = label t.program

  abbrev g : StepInput
  g = input_in t

  abbrev i : Instance
  i = instance_of t

  abbrev b : ℕ
  b = i.top.body

  abbrev p : Path
  p = path_of t

  abbrev store : Store
  store = store_of t.at.state p i

  abbrev env : Environment Declaration
  env = environment store

  abbrev over : Environment Slot
  over = slots.environment (cells_in g)

  abbrev name : Declaration → Slot
  name = slot_of program b

  pub top-sees : Sees g (is_outer g) b i
  top-sees = record {
    bare = sym (outer-is t);
    itself = λ e. (told t).procedure ∙ lowest-alone b i.below (sym (outer-is t) ∙ e);
    around = λ inlet. (told t).procedure ∙ lowest-around program b i.below (stands t sound).inside inlet;
  }

  -- the activation below, as it will be on top
  caller-sees : (caller : model.Activation) (ms : List model.Activation) → i.below ≡ caller ∷ ms
      → Sees g (depth t.frame == 2) caller.body (record i { below = tail i.below })
  caller-sees caller ms is =
      let deep : (depth t.frame == 2) ≡ is_empty ms =
      ap (λ d. d == 2) (depth-is program t.frame i (stands t sound)) ∙ ap (λ xs. suc (length xs) == 2) is ∙ two-deep ms in
      let lowest = (told t).procedure ∙ ap (λ xs. lowest_of b (bodies_of xs)) is in
      let inside = inside-below program b caller ms (subst (λ xs. AllInside program (b ∷ bodies_of xs)) is (stands t sound).inside) in
      record {
        bare = ap (λ xs. is_empty (tail xs)) is ∙ sym deep;
        itself = λ e. lowest ∙ lowest-alone caller.body ms (sym deep ∙ e);
        around = λ inlet. lowest ∙ lowest-around program caller.body ms inside inlet;
      }

  -- reads that are the same under the names of slots
  through-slots : (rs : List (Read Slot)) (qs : List (Read Declaration)) → rs ≡ map (renamed name) qs → EachKnown program b qs
      → shown.reads_of g rs ≡ accesses.reads_of p i qs
  through-slots rs qs is h = ap (shown.reads_of g) is ∙ reads-seen g (is_outer g) b i top-sees refl qs h

  both : (rs ss : List (Read Slot)) (qs os : List (Read Declaration)) → rs ≡ map (renamed name) qs → ss ≡ map (renamed name) os
      → rs ++ ss ≡ map (renamed name) (qs ++ os)
  both rs ss qs os e f = (λ j. e j ++ f j) ∙ sym (map-append (renamed name) qs os)

  subscript-same : (what : Target) → KnownTarget program b what
      → shown.subscript_reads over (slotted_place name what).subscript ≡ map (renamed name) (accesses.subscript_reads env what)
  subscript-same (variable d) h = refl
  subscript-same (element d u) (array, h) = reads-same program b (cells_in g) store asked.seen u h

  subscript-known : (what : Target) → KnownTarget program b what → EachKnown program b (accesses.subscript_reads env what)
  subscript-known (variable d) h = tt
  subscript-known (element d u) (array, h) = known-reads program b env u h

  place-same : (what : Option Into) → KnownPlace program b what
      → shown.place_reads over (option_map (slotted_target name) what) ≡ map (renamed name) (accesses.place_reads env what)
  place-same None h = refl
  place-same (Some what) h = subscript-same what.target h

  place-known : (what : Option Into) → KnownPlace program b what → EachKnown program b (accesses.place_reads env what)
  place-known None h = tt
  place-known (Some what) h = subscript-known what.target h

  taker-same : (taker : Taker) → KnownTaker program b taker
      → shown.taker_reads over (slotted_taker name taker) ≡ map (renamed name) (accesses.taker_reads env taker)
  taker-same nothing h = refl
  taker-same (into what) h = subscript-same what.target h
  taker-same (through inlet others) (feeds, h) = all-same program b (cells_in g) store asked.seen others h

  taker-known : (taker : Taker) → KnownTaker program b taker → EachKnown program b (accesses.taker_reads env taker)
  taker-known nothing h = tt
  taker-known (into what) h = subscript-known what.target h
  taker-known (through inlet others) (feeds, h) = known-all program b env others h

  one-read : (e : Term Declaration) → IsKnown program b e
      → shown.reads_of g (reads_in over (rename name e)) ++ [] ≡ accesses.reads_of p i (reads_in env e)
  one-read e h =
      append-nil (shown.reads_of g (reads_in over (rename name e)))
      ∙ through-slots (reads_in over (rename name e)) (reads_in env e) (reads-same program b (cells_in g) store asked.seen e h) (known-reads program b env e h)

  -- reads before arguments
  before-all : (rs : List (Read Slot)) (qs : List (Read Declaration)) (es : List (Term Declaration)) → rs ≡ map (renamed name) qs
      → EachKnown program b qs → All (IsKnown program b) es
      → shown.reads_of g (rs ++ reads_in_all over (map (rename name) es)) ≡ accesses.reads_of p i (qs ++ reads_in_all env es)
  before-all rs qs es is h values =
      through-slots (rs ++ reads_in_all over (map (rename name) es)) (qs ++ reads_in_all env es)
      (both rs (reads_in_all over (map (rename name) es)) qs (reads_in_all env es) is (all-same program b (cells_in g) store asked.seen es values))
      (known-append program b qs (reads_in_all env es) h (known-all program b env es values))

  action-same : (act : Action) → KnownAct program b act
      → shown.reads_of g (shown.act_reads over (slotted name act)) ++ shown.act_updates g (slotted name act) ≡ accesses.by_action env p i act
  action-same (assign what e) (place, value) =
      λ j. through-slots (shown.subscript_reads over (slotted_place name what.target).subscript ++ reads_in over (rename name e))
      (accesses.subscript_reads env what.target ++ reads_in env e)
      (both (shown.subscript_reads over (slotted_place name what.target).subscript) (reads_in over (rename name e))
      (accesses.subscript_reads env what.target) (reads_in env e) (subscript-same what.target place)
      (reads-same program b (cells_in g) store asked.seen e value))
      (known-append program b (accesses.subscript_reads env what.target) (reads_in env e) (subscript-known what.target place)
      (known-reads program b env e value)) j
      ++ target-same g (is_outer g) b i top-sees refl store asked.seen what.op what.target place j
  action-same (call what callee es) (place, calls, values) =
      append-nil (shown.reads_of g (shown.place_reads over (option_map (slotted_target name) what) ++ reads_in_all over (map (rename name) es)))
      ∙ before-all (shown.place_reads over (option_map (slotted_target name) what)) (accesses.place_reads env what) es (place-same what place)
      (place-known what place) values
  action-same (spawn taker callee es) (here, place, spawns, values) =
      append-nil (shown.reads_of g (shown.taker_reads over (slotted_taker name taker) ++ reads_in_all over (map (rename name) es)))
      ∙ before-all (shown.taker_reads over (slotted_taker name taker)) (accesses.taker_reads env taker) es (taker-same taker place)
      (taker-known taker place) values
  action-same (print format es) (count, values) =
      ap (λ xs. xs ++ write output ∷ [])
      (through-slots (reads_in_all over (map (rename name) es)) (reads_in_all env es) (all-same program b (cells_in g) store asked.seen es values)
      (known-all program b env es values))
  action-same (locking what lock) h = refl
  action-same null h = refl
  action-same break_off h = refl
  action-same go_round h = refl
  action-same (tests e) value = one-read e value
  action-same sync h = refl
  action-same abort h = refl
  action-same (return_with e) (int, value) = one-read e value
  action-same return_nothing h = refl
  action-same close h = refl

  abbrev caller_view : Instance
  caller_view = record i { below = tail i.below }

  awaited-at : (caller : model.Activation) (ms : List model.Activation) → i.below ≡ caller ∷ ms → (w : Await) (r : Reached)
      → AwaitsAt program caller.body w r → shown.awaited g (Some w) ≡ accesses.awaited p caller_view (Some r)
  awaited-at caller ms is w r a =
      ap (shown.awaited_at g w.index) (ap target_of_node a.there ∙ ap target_of_action a.calls)
      ∙ (λ j. shown.update g (depth t.frame == 2) (a.op_is j) (a.same.slot_is j) (a.same.index_is j))
      ∙ update-same g (depth t.frame == 2) caller.body caller_view (caller-sees caller ms is) r.op r.cell.place r.cell.index
      (cell-declared program caller.body r.cell.place r.cell.index a.same.there)

  awaited-same : (w : Option Await) (r : Option Reached) (ms : List model.Activation) → i.below ≡ ms → AwaitsSame program w r (bodies_of ms)
      → shown.awaited g w ≡ accesses.awaited p caller_view r
  awaited-same None None ms is h = refl
  awaited-same None (Some r) ms is h = absurd h
  awaited-same (Some w) None ms is h = absurd h
  awaited-same (Some w) (Some r) [] is h = absurd h
  awaited-same (Some w) (Some r) (caller ∷ ms) is h = awaited-at caller ms is w r h

  abbrev act : Action
  act = (head t sound).act

  function-is : is_function_body (body_of t.program b) ≡ leaves_function program i
  function-is = ap is_function_body (bodies-have t.program b (there t sound))

  leaving-same : shown.by_leaving g (own_node t sound) ≡ accesses.by_leaving program p i act
  leaving-same =
      (λ j. if leaves-same name act j && function-is j then shown.awaited g (top_of t.frame).awaits else [])
      ∙ ap (λ xs. if change.leaves act && leaves_function program i then xs else [])
      (awaited-same (top_of t.frame).awaits i.top.awaits i.below refl (awaits-same program t.frame i (stands t sound)))

  -- the head is acted
  pub acted-same : shown.acted g (own_node t sound) ≡ accesses.by_head program t.at.state p i (Some (head t sound))
  acted-same = λ j. action-same act (known t sound) j ++ leaving-same j
