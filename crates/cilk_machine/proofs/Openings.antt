-- A machine before any choice.
use Rattle.std.proofs.Common.{◌≡◌, ℕ, zero, suc, ◌+◌, ◌<◌, ◌≤◌, ℤ, pos, Bool, true, false, ◌&&◌, ◌⊎◌, inl, inr, List, [], ◌∷◌, ◌++◌, map, length}
use Rattle.std.proofs.Common.{replicate, Option, Some, None, refl, sym, ap, ◌∙◌, subst, arith, if◌then◌else◌}
use Rattle.std.proofs.lemmas.Option.{same_Some}
use Rattle.std.specs.Prelude.{max, slice_get, slice_index_or}
use Rattle.std.proofs.lemmas.Bool.{le-leb}
use Rattle.std.proofs.lemmas.List.{length-replicate, length-map}
use Rattle.cilk_machine_undo.specs.syntax.Tree.{Program}
use Rattle.cilk_machine_undo.specs.agree.scopes.WellFormed.{WellFormed}
use Rattle.cilk_machine_undo.specs.nodes.declared.area.Area.{Area}
use Rattle.cilk_machine_undo.specs.nodes.declared.area.Area.TheVariants.{Global}
use Rattle.cilk_machine_undo.specs.labelled.Labelled.{Variable}
use Rattle.cilk_machine_undo.specs.labelled.Labelled as labelled
use Rattle.cilk_machine_undo.specs.labelled.Bodies.{label}
use Rattle.cilk_sched.specs.model.Values.{initial_values}
use Rattle.cilk_sched.specs.model.Instance as model
use Rattle.cilk_sched.specs.model.Instance.{Instance, no_body, body_at, with_arguments}
use Rattle.cilk_sched.specs.model.Hands.{WorkerOf, no_place, with_hand}
use Rattle.cilk_sched.specs.model.Run.{Standing, is_crew, opening, after, after_main}
use Rattle.cilk_machine_undo.specs.nodes.declared.body.Body.{Body}
use Rattle.cilk_machine_undo.specs.nodes.Slots.{size_of, flat, is_inlet}
use Rattle.cilk_machine_undo.specs.nodes.Bodies.{body_table, body_of, vars_from, lock_variable, locks_of}
use Rattle.cilk_machine_undo.specs.frame.Frames.{Frame}
use Rattle.cilk_machine_undo.specs.frame.Starts.{activation_of}
use Rattle.cilk_machine_undo.specs.frame.Stands.{StandsFor}
use Rattle.cilk_machine_undo.specs.frame.Begins.{Takes, starts_with, started}
use Rattle.cilk_machine_undo.proofs.frame_laws.Steps.{start-stands}
use Rattle.cilk_machine_undo.specs.effects.Room.{IsTold, StartsWith}
use Rattle.cilk_machine_undo.proofs.effects_laws.Room.{parameters_first}
use Rattle.cilk_machine_undo.proofs.effects_laws.Start.{main_starts}
use Rattle.cilk_machine_undo.proofs.sched_laws.Seats.{workers-of-hand}
use Rattle.cilk_machine_undo.specs.agree.declared.lock.Lock.TheVariants.{Unset}
use Rattle.cilk_machine_undo.specs.agree.Outside as outside
use Rattle.cilk_machine_undo.specs.agree.Fated.{Fated}
use Rattle.cilk_machine_undo.proofs.agree_laws.Kept.{roots-are-fated}
use Rattle.cilk_machine_undo.specs.agree.Agrees.{Agrees, read_off}
use Rattle.cilk_machine_undo.specs.agree.Laws.{opening_machine}
use Rattle.cilk_machine_undo.proofs.agree_laws.Opens.{opening-agrees}
use Rattle.cilk_machine_undo.proofs.agree_laws.Found.{read-agrees}
use Rattle.cilk_machine_undo.specs.plans.declared.parts.Parts.{Parts}
use Rattle.cilk_machine_undo.specs.plans.PartWords.{machine_of}
use Rattle.cilk_sched.specs.declared.outcome.Outcome.TheVariants.{Running}
use Rattle.cilk_machine_undo.specs.Undo.{Undo}
use Rattle.cilk_machine.specs.Situation.{Before, Situation}
use Rattle.cilk_machine.specs.Pasts.{pasts, running_at}
use Rattle.cilk_machine.specs.Kept.{AllKept, IsWhole}
use Rattle.cilk_machine.specs.Stands.{Led, IsSound}
use Rattle.cilk_machine.specs.Opening.{cells_of, Begins, First, StartsMain}
use Rattle.cilk_machine_step.proofs.Numbers.{vars-length}
use Rattle.cilk_machine.proofs.Rooms.{few-idle}

-- the cells of the table of variables are those of the definition
first_cells : (area : Area) (at : ℕ) (variables : List Variable) → cells_of (vars_from area at variables) ≡ flat (initial_values variables)
first_cells area at [] = refl
first_cells area at (v ∷ variables) =
    ap (λ cells. replicate (max v.length 1) v.initial ++ cells) (first_cells area (at + size_of v) variables)

-- there is a lock for each name
count_locks : (p : Program) → length (locks_of p) ≡ length (label p).locks
count_locks p = vars-length Global 0 (map lock_variable (label p).locks) ∙ length-map (label p).locks lock_variable

-- a body that is there takes as many arguments as it has parameters
body-takes : (bodies : List labelled.Body) (b : ℕ) (arguments : List ℤ) → b < length bodies
    → length arguments ≡ (slice_index_or bodies b no_body).parameters → Takes (slice_get (map body_table bodies) b) arguments
body-takes [] b arguments h e = absurd (omega arith)
body-takes (body ∷ bodies) zero arguments h e = e
body-takes (body ∷ bodies) (suc b) arguments h e = body-takes bodies b arguments (omega arith) e

table-parameters : (body : Body) (bodies : List labelled.Body) (b : ℕ) → Some body ≡ slice_get (map body_table bodies) b
    → body.params ≡ (slice_index_or bodies b no_body).parameters
table-parameters body [] b e = cc
table-parameters body (x ∷ bodies) zero e = let same : body ≡ body_table x = cc in ap (λ (y : Body). y.params) same
table-parameters body (x ∷ bodies) (suc b) e = table-parameters body bodies b e

-- a parameter that holds 1 at first is told of 1
told-one : (variables : List Variable) (v : Variable) → slice_get variables 0 ≡ Some v → v.length ≡ 0 → v.initial ≡ pos 1
    → with_arguments (pos 1 ∷ []) (initial_values variables) ≡ initial_values variables
told-one [] v there scalar holds = cc
told-one (w ∷ variables) v there scalar holds =
    let same : w ≡ v = cc in
    let long : w.length ≡ 0 = ap (λ (x : Variable). x.length) same ∙ scalar in
    let first : w.initial ≡ pos 1 = ap (λ (x : Variable). x.initial) same ∙ holds in
    sym (λ i. replicate (max (long i) 1) (first i) ∷ initial_values variables)

-- a frame at the start of a body that was looked up
frame-is : (p : Program) (b : ℕ) (body : Body) (arguments : List ℤ) (f : Frame) (id : ℕ) → Some body ≡ body_of p b → id ≡ 0
    → f ≡ record { id = id; activations = activation_of body arguments None ∷ []; boundary = false } → f ≡ started p 0 b arguments
frame-is p b body arguments f id there first is =
    is ∙ (λ i. record { id = first i; activations = starts_with (there i) arguments None ∷ []; boundary = false })

-- the body of `main`
module _ (p : Program) (well : WellFormed p) (b : ℕ) (main : (label p).main ≡ Some b) where
  known : StartsWith (label p) b
  known =
      let it = main_starts p well in
      let same : it.0 ≡ b = same_Some it.0 b (sym it.1.is_main ∙ main) in
      subst (StartsWith (label p)) same it.1

  no_inlet : is_inlet (body_at (label p) b).owner ≡ false
  no_inlet = ap is_inlet known.owner

  stands-with : (arguments : List ℤ) → length arguments ≡ (body_at (label p) b).parameters
      → StandsFor (label p) (started p 0 b arguments) (model.started (label p) b arguments)
  stands-with arguments count = start-stands p 0 b arguments (body-takes (label p).bodies b arguments known.is_there count) no_inlet

  stands-alone : (body_at (label p) b).parameters ≡ 0 → StandsFor (label p) (started p 0 b []) (model.started (label p) b [])
  stands-alone none = stands-with [] (sym none)

  stands-told : IsTold (body_at (label p) b) → StandsFor (label p) (started p 0 b (pos 1 ∷ [])) (model.started (label p) b [])
  stands-told told =
      let order = parameters_first p well b known.is_there in
      let scalar : told.first.length ≡ 0 = order.scalars 0 told.first (omega (arith, told.one)) told.is_first in
      let values = told-one (body_at (label p) b).variables told.first told.is_first scalar told.holds_one in
      let same : model.started (label p) b (pos 1 ∷ []) ≡ model.started (label p) b [] =
      ap (λ vs. record (model.started (label p) b []) { top = record (model.entered (label p) b [] None) { values = vs } }) values in
      subst (StandsFor (label p) (started p 0 b (pos 1 ∷ []))) same (stands-with (pos 1 ∷ []) (sym told.one))

  starts-main : (arguments : List ℤ) (f : Frame) → f ≡ started p 0 b arguments
      → StandsFor (label p) (started p 0 b arguments) (model.started (label p) b []) → StartsMain p f
  starts-main arguments f is stands = record {
    main = b;
    is_main = main;
    own = ap (λ (g : Frame). g.id) is;
    stands = subst (λ g. StandsFor (label p) g (model.started (label p) b [])) (sym is) stands;
  }

  -- the entry of its table
  module _ (body : Body) (there : Some body ≡ body_of p b) where
    parameters-are : body.params ≡ (body_at (label p) b).parameters
    parameters-are = table-parameters body (label p).bodies b there

    is-told : (body.params ≡ 0 → ⊥) → IsTold (body_at (label p) b)
    is-told some = by_parameters known.parameters
      where
        by_parameters : ((body_at (label p) b).parameters ≡ 0) ⊎ IsTold (body_at (label p) b) → IsTold (body_at (label p) b)
        by_parameters (inl none) = absurd (some (parameters-are ∙ none))
        by_parameters (inr told) = told

    -- it has one parameter, or none
    pub takes-one : (body.params ≡ 0 → ⊥) → 1 ≡ body.params
    takes-one some = sym (parameters-are ∙ (is-told some).one)

    pub starts-alone : body.params ≡ 0 → (f : Frame) (id : ℕ) → id ≡ 0
        → f ≡ record { id = id; activations = activation_of body [] None ∷ []; boundary = false } → StartsMain p f
    starts-alone none f id first is =
        starts-main [] f (frame-is p b body [] f id there first is) (stands-alone (sym parameters-are ∙ none))

    pub starts-told : (body.params ≡ 0 → ⊥) → (f : Frame) (id : ℕ) → id ≡ 0
        → f ≡ record { id = id; activations = activation_of body (pos 1 ∷ []) None ∷ []; boundary = false } → StartsMain p f
    starts-told some f id first is =
        starts-main (pos 1 ∷ []) f (frame-is p b body (pos 1 ∷ []) f id there first is) (stands-told (is-told some))

crew_is : (n : ℕ) → 1 ≤ n → n ≤ 64 → is_crew n ≡ true
crew_is n low high = λ i. le-leb 1 n low i && le-leb n 64 high i

crew-of : (n : ℕ) (places : List (WorkerOf Frame)) (f : Frame) → places ≡ with_hand (replicate n no_place) 1 (Some f) → length places ≡ n
crew-of n places f h = ap length h ∙ workers-of-hand (replicate n no_place) 1 (Some f) ∙ length-replicate n no_place

abbrev pub before_any : Program → Parts → Bool → List Before → Situation
before_any p parts keeps past = record {
  program = p;
  machine = machine_of parts outside.running;
  outcome = Running;
  choices = 0;
  keeps = keeps;
  past = past;
}

module _ (p : Program) (n b : ℕ) (f : Frame) (parts : Parts) (keeps : Bool) (past : List Before) (low : 1 ≤ n) (high : n ≤ 64)
    (main : (label p).main ≡ Some b) (starts : StartsMain p f) (first : First p n b f parts) where
  abbrev at : Standing
  at = opening (label p) b n

  machine-is : machine_of parts outside.running ≡ opening_machine p b n f
  machine-is =
      let cells = first.cells ∙ first_cells Global 0 (label p).globals in
      let locks = first.locks ∙ ap (λ k. replicate k Unset) (count_locks p) in
      λ i. record {
        outside = record { cells = cells i; locks = locks i; output = first.output i; outcome = outside.running };
        nodes = first.nodes i;
        places = first.hands i;
      }

  stands : StandsFor (label p) f (model.started (label p) b [])
  stands =
      let same : starts.main ≡ b = same_Some starts.main b (sym starts.is_main ∙ main) in
      subst (λ (k : ℕ). StandsFor (label p) f (model.started (label p) k [])) same starts.stands

  agrees : Agrees p (machine_of parts outside.running) (read_off p (machine_of parts outside.running) at) at
  agrees =
      read-agrees p (machine_of parts outside.running) (λ i. model.started (label p) b []) at
      (subst (λ x. Agrees p x (λ i. model.started (label p) b []) at) (sym machine-is) (opening-agrees p b n f starts.own stands))

  opened-led : Led (before_any p parts keeps past) [] [] at
  opened-led = record {
    led =
        ap (λ k. after (label p) k []) (crew-of n parts.hands f first.hands)
        ∙ ap (λ (o : Option ℕ). after_main (label p) n o []) main
        ∙ ap (λ (c : Bool). if c then Some (record { standing = at; events = [] }) else None) (crew_is n low high);
    counted = refl;
    outcome = refl;
    agrees = agrees;
    fated = subst (λ ns. Fated (label p) ns []) (sym first.nodes) (roots-are-fated (label p) b main);
  }

  opened-sound : WellFormed p → IsSound (before_any p parts keeps past)
  opened-sound well =
      let crew = crew-of n parts.hands f first.hands in
      record {
        well_formed = well;
        some = subst (λ k. 1 ≤ k) (sym crew) low;
        limit = subst (λ k. k ≤ 64) (sym crew) high;
        at = at;
        stands = record { choices = []; events = []; led = opened-led };
      }

-- where all parts are those of the beginning
module _ (p : Program) (n : ℕ) (parts : Parts) (keeps : Bool) (past : List Before) (low : 1 ≤ n) (high : n ≤ 64) (begins : Begins p n parts) where
  pub begun-led : (at : Standing) × Led (before_any p parts keeps past) [] [] at
  begun-led = (
    opening (label p) begins.main n,
    opened-led p n begins.main begins.frame parts keeps past low high begins.is_main begins.starts begins.first,
  )

  pub begun-sound : WellFormed p → IsSound (before_any p parts keeps past)
  begun-sound = opened-sound p n begins.main begins.frame parts keeps past low high begins.is_main begins.starts begins.first

  pub begun-crew : n ≡ length parts.hands
  begun-crew = sym (crew-of n parts.hands begins.frame begins.first.hands)

-- and there are no records
pub begun-whole : (p : Program) (n : ℕ) (parts : Parts) (trapper : ℕ) (keeps : Bool) (us : List Undo) (count capacity : ℕ) → 1 ≤ n → n ≤ 64
    → Begins p n parts → WellFormed p → us ≡ [] → count ≡ 0 → (keeps ≡ true → 64 ≤ capacity)
    → IsWhole p parts trapper Running 0 keeps us n count capacity
begun-whole p n parts trapper keeps us count capacity low high begins well none counted room =
    let past = pasts us (running_at parts 0) in
    let crew = begun-crew p n parts keeps past low high begins in
    record {
      sound = begun-sound p n parts keeps past low high begins well;
      crew = crew;
      all = subst (λ vs. AllKept p vs (running_at parts 0)) (sym none) tt;
      none = λ e. none;
      room = λ e.
          let few = few-idle parts.hands in
          let wide = room e in
          omega (arith, few, wide, crew, high, counted);
    }
