-- Where calls and spawns suit, what runs above a procedure's own activation never spawns, and what takes a child's value is an inlet.
use Rattle.std.proofs.Common.{◌≡◌, ℕ, ℤ, pos, ◌+◌, Bool, true, false, not, List, [], ◌∷◌, ◌++◌, Option, Some, None, ◌⊎◌, inl, inr, is_some, refl}
use Rattle.std.proofs.Common.{sym, ap, subst, ◌∙◌, if◌then◌else◌}
use Rattle.std.specs.Prelude.{option_map}
use Rattle.std.proofs.lemmas.Bool.{and_parts, not-true}
use Rattle.std.proofs.lemmas.Option.{same_Some}
use Rattle.cilk_check.specs.scopes.declared.owner.Owner.{Owner}
use Rattle.cilk_check.specs.scopes.declared.owner.Owner.TheVariants.{Function, Procedure, Inlet}
use Rattle.cilk_laws_model.specs.labelled.Labelled as labelled
use Rattle.cilk_laws_model.specs.labelled.Labelled.{Labelled, Numbered, Taker, nothing, into, Action, call, spawn, abort, return_with, return_nothing, close}
use Rattle.cilk_laws_model.specs.labelled.Items.{head_of, next}
use Rattle.cilk_laws_model.specs.labelled.Bodies.{is_procedure}
use Rattle.cilk_laws_model.specs.model.Values.{Values, Cell, Reached}
use Rattle.cilk_laws_model.specs.model.Path.{Path, same_path, child_path, parent_of, is_below}
use Rattle.cilk_laws_model.specs.model.Instance.{Activation, Receiver, place, through, Delivery, Instance, entered, started}
use Rattle.cilk_laws_model.specs.model.State.{Entry, Instances, State, instance_at, is_live, changed, without, is_empty}
use Rattle.cilk_laws_model.specs.model.Change.{is_function, gone_on, put, on_lowest, above, resumed_to, resumed, deliveries, after_return_to, after_marks}
use Rattle.cilk_laws_model.specs.model.Pick.{Step}
use Rattle.cilk_laws_model.specs.model.Choice.{Choice}
use Rattle.cilk_laws_model.specs.model.Run.{Standing, Position, next_of, state_after, after}
use Rattle.cilk_laws_model.proofs.Entries.{same-is, at-changed_same, at-changed_other, at-without_other, live-without, either_of, at-push}
use Rattle.cilk_laws_model.proofs.Lookups.{marked, at-marked_below, at-marked_beside}
use Rattle.cilk_laws.specs.Calls.{taker_suits, action_suits, calls_suit}
use Rattle.cilk_laws.specs.Inlets.{runs_inlet, IsOfInlet}
use Rattle.cilk_laws.proofs.Runs.{Stepped, Rested, what_happens, each_position}
use Rattle.cilk_laws.proofs.Effects.{calling, spawning, sort_of, Fits, Spawns}
use Rattle.cilk_laws.proofs.Items.{HoldsItems, opened_holds, next_holds, head_holds, body_holds, freer, items_weaker}
use Rattle.cilk_laws.proofs.Ways.{Acting, Taking, Way, resting, parking, ending, stopping, going, writing, entering, quitting, answering}
use Rattle.cilk_laws.proofs.Ways.{returning, starting, printing, turning_lock, aborts, placing, letting_in, way_of}
use Rattle.cilk_check.specs.FormFinds.{is_inlet}
use Rattle.cilk_machine.specs.plans.effects.Known.{owner_of}

-- right above the procedure's own activation any other body's may stand, and above that only a C function's
abbrev pub MayStand : Labelled → Activation → List Activation → Type 0
MayStand program a [] = Unit {0}
MayStand program a (c ∷ below) = is_function (owner_of program a.body) ≡ true

-- the activations from the one that goes on down to the procedure's own
abbrev pub Stack : Labelled → Activation → List Activation → Type 0
Stack program a [] = HoldsItems (action_suits program true) a.items
Stack program a (b ∷ below) = HoldsItems (action_suits program false) a.items × MayStand program a below × Stack program b below

abbrev pub Receives : Labelled → Option Receiver → Type 0
Receives program (Some (through b ys n)) = is_inlet (owner_of program b) ≡ true
Receives program other = Unit {0}

abbrev pub AllReceive : Labelled → List Delivery → Type 0
AllReceive program [] = Unit {0}
AllReceive program (d ∷ ds) = Receives program (Some d.receiver) × AllReceive program ds

pub record Suited (program : Labelled) (i : Instance) : Type 0 where
  pub stack : Stack program i.top i.below
  pub receiver : Receives program i.receiver
  pub waiting : AllReceive program i.waiting

-- the head of the one that goes on
pub head_suits : (program : Labelled) (a : Activation) (below : List Activation) (head : Numbered) → Stack program a below
    → head_of a.items ≡ Some head → action_suits program (is_empty below) head.act ≡ true
head_suits program a [] head h e = head_holds (action_suits program true) a.items head h e
head_suits program a (b ∷ below) head h e = head_holds (action_suits program false) a.items head h.0 e

same_body : (program : Labelled) (a c : Activation) (below : List Activation) → c.body ≡ a.body → MayStand program a below → MayStand program c below
same_body program a c [] e h = tt
same_body program a c (d ∷ below) e h = ap (λ b. is_function (owner_of program b)) e ∙ h

function_stands : (program : Labelled) (a : Activation) (below : List Activation) → is_function (owner_of program a.body) ≡ true
    → MayStand program a below
function_stands program a [] h = tt
function_stands program a (c ∷ below) h = h

lowest_stands : (program : Labelled) (a : Activation) (below : List Activation) → is_empty below ≡ true → MayStand program a below
lowest_stands program a [] h = tt
lowest_stands program a (c ∷ below) h = cc

still_stands : (program : Labelled) (a : Activation) (f : Values → Values) (below : List Activation) → MayStand program a below
    → MayStand program a (on_lowest f below)
still_stands program a f [] h = h
still_stands program a f (b ∷ []) h = h
still_stands program a f (b ∷ c ∷ below) h = h

-- the one that goes on has other items or values
stack_top : (program : Labelled) (a c : Activation) (below : List Activation) → c.body ≡ a.body
    → ((own : Bool) → HoldsItems (action_suits program own) a.items → HoldsItems (action_suits program own) c.items)
    → Stack program a below → Stack program c below
stack_top program a c [] e h k = h true k
stack_top program a c (b ∷ below) e h k = (h false k.0, same_body program a c below e k.1, k.2)

lowest_stack : (program : Labelled) (a : Activation) (f : Values → Values) (below : List Activation) → Stack program a below
    → Stack program a (on_lowest f below)
lowest_stack program a f [] h = h
lowest_stack program a f (b ∷ []) h = h
lowest_stack program a f (b ∷ c ∷ below) h = (h.0, still_stands program a f (c ∷ below) h.1, lowest_stack program b f (c ∷ below) h.2)

-- where the activation right above the lowest is an inlet's, the one that goes on is that or a C function's
pub of_inlet : (program : Labelled) (a : Activation) (below : List Activation) → Stack program a below → runs_inlet program a below ≡ true
    → IsOfInlet program a below
of_inlet program a [] h inside = cc
of_inlet program a (b ∷ []) h inside = inside
of_inlet program a (b ∷ c ∷ below) h inside = h.1

all_more : (program : Labelled) (ds new : List Delivery) → AllReceive program ds → AllReceive program new → AllReceive program (ds ++ new)
all_more program [] new h k = k
all_more program (d ∷ ds) new h k = (h.0, all_more program ds new h.1 k)

brought : (program : Labelled) (p : Path) (z : ℤ) (o : Option Receiver) (aborted : Bool) → Receives program o → AllReceive program (deliveries p z o aborted)
brought program p z None aborted h = tt
brought program p z (Some receiver) true h = tt
brought program p z (Some receiver) false h = (h, tt)

no_procedure_by : (o : Owner) → is_function o ≡ true → is_procedure o ≡ false
no_procedure_by (Function returns) h = refl
no_procedure_by (Procedure returns) h = cc
no_procedure_by Inlet h = refl

no_procedure_in : (o : Owner) → is_inlet o ≡ true → is_procedure o ≡ false
no_procedure_in (Function returns) h = cc
no_procedure_in (Procedure returns) h = cc
no_procedure_in Inlet h = refl

called_by : (program : Labelled) (own : Bool) (act : Action) (callee : ℕ) → sort_of act ≡ calling callee
    → action_suits program own act ≡ true → is_function (owner_of program callee) ≡ true
called_by program own (call what b es) callee e h = let is : b ≡ callee = cc in ap (λ x. is_function (owner_of program x)) (sym is) ∙ h
called_by program own (spawn taker b es) callee e h = cc
called_by program own abort callee e h = cc
called_by program own (return_with v) callee e h = cc
called_by program own return_nothing callee e h = cc
called_by program own close callee e h = cc
called_by program own other callee e h = cc

-- what spawns stands in a procedure's own body, and its taker suits
pub spawned_by : (program : Labelled) (own : Bool) (act : Action) (taker : Taker) → sort_of act ≡ spawning taker
    → action_suits program own act ≡ true → (own ≡ true) × (taker_suits program taker ≡ true)
spawned_by program true (spawn t b es) taker e h = let is : t ≡ taker = cc in (refl, ap (taker_suits program) (sym is) ∙ h)
spawned_by program false (spawn t b es) taker e h = cc
spawned_by program own (call what b es) taker e h = cc
spawned_by program own abort taker e h = cc
spawned_by program own (return_with v) taker e h = cc
spawned_by program own return_nothing taker e h = cc
spawned_by program own close taker e h = cc
spawned_by program own other taker e h = cc

fits_receives : (program : Labelled) (taker : Taker) (o : Option Receiver) → Fits taker o → taker_suits program taker ≡ true → Receives program o
fits_receives program nothing None f h = tt
fits_receives program nothing (Some (place r n)) f h = tt
fits_receives program nothing (Some (through b ys n)) f h = absurd f
fits_receives program (into what) None f h = tt
fits_receives program (into what) (Some (place r n)) f h = tt
fits_receives program (into what) (Some (through b ys n)) f h = absurd f
fits_receives program (labelled.through inlet others) None f h = absurd f
fits_receives program (labelled.through inlet others) (Some (place r n)) f h = absurd f
fits_receives program (labelled.through inlet others) (Some (through b ys n)) f h = ap (λ x. is_inlet (owner_of program x)) f ∙ h

-- each instance that is found
abbrev pub Each : Labelled → Instances → Type 0
Each program entries = (q : Path) (j : Instance) → instance_at entries q ≡ Some j → Suited program j

module _ (program : Labelled) where
  mapped_by : (g : Instance → Instance) (o : Option Instance) (j : Instance) → ((x : Instance) → Suited program x → Suited program (g x))
      → ((x : Instance) → o ≡ Some x → Suited program x)
      → option_map g o ≡ Some j → Suited program j
  mapped_by g None j h k e = cc
  mapped_by g (Some x) j h k e = subst (Suited program) (same_Some (g x) j e) (h x (k x refl))

  changed_each : (r : Path) (g : Instance → Instance) (entries : Instances) → ((x : Instance) → Suited program x → Suited program (g x))
      → Each program entries → Each program (changed r g entries)
  changed_each r g entries h all q j e = by (same_path q r) refl
    where
      by : (b : Bool) → same_path q r ≡ b → Suited program j
      by true same =
          mapped_by g (instance_at entries r) j h (λ x f. all r x f)
          (sym (at-changed_same r g entries) ∙ ap (instance_at (changed r g entries)) (sym (same-is q r same)) ∙ e)
      by false other = all q j (sym (at-changed_other r q g entries other) ∙ e)

  without_each : (p : Path) (entries : Instances) → Each program entries → Each program (without p entries)
  without_each p entries all q j e =
      let both = and_parts (not (same_path q p)) (is_live entries q) (sym (live-without p entries q) ∙ ap is_some e) in
      all q j (sym (at-without_other p q entries (not-true (same_path q p) both.0)) ∙ e)

  pushed_by : (o : Option Instance) (b : Bool) (x j : Instance) → Suited program x → ((y : Instance) → o ≡ Some y → Suited program y)
      → either_of o (if b then Some x else None) ≡ Some j → Suited program j
  pushed_by (Some y) b x j h k e = k j e
  pushed_by None true x j h k e = subst (Suited program) (same_Some x j e) h
  pushed_by None false x j h k e = cc

  pushed_each : (entries : Instances) (e : Entry) → Each program entries → Suited program e.instance → Each program (entries ++ e ∷ [])
  pushed_each entries e all h q j f =
      pushed_by (instance_at entries q) (same_path e.path q) e.instance j h (λ y g. all q y g) (sym (at-push entries e q) ∙ f)

  return_each : (s : State) (p : Path) (i : Instance) (z : ℤ) (o : Option Path) → Suited program i → Each program s.instances
      → Each program (after_return_to o s p i z).instances
  return_each s p i z None h all = without_each p s.instances all
  return_each s p i z (Some r) h all =
      changed_each r _ (without p s.instances)
      (λ x k. record {
        stack = k.stack;
        receiver = k.receiver;
        waiting = all_more program x.waiting _ k.waiting
            (brought program p z i.receiver i.aborted h.receiver);
      })
      (without_each p s.instances all)

  module _ (suits : calls_suit program ≡ true) where
    -- a body is entered above another
    entered_suits : (b : ℕ) (zs : List ℤ) (awaits : Option Reached) → is_procedure (owner_of program b) ≡ false
        → HoldsItems (action_suits program false) (entered program b zs awaits).items
    entered_suits b zs awaits e = body_holds program suits b false e

    started_suits : (b : ℕ) (zs : List ℤ) (aborted : Bool) (receiver : Option Receiver) → Receives program receiver
        → Suited program (record (started program b zs) { aborted = aborted; receiver = receiver })
    started_suits b zs aborted receiver h = record {
      stack =
          items_weaker (action_suits program (is_procedure (owner_of program b))) (action_suits program true)
          (freer program (is_procedure (owner_of program b))) _
          (body_holds program suits b (is_procedure (owner_of program b)) refl);
      receiver = h;
      waiting = tt;
    }

    gone_suits : (z : ℤ) (i : Instance) → Suited program i → Suited program (gone_on z i)
    gone_suits z i h = record {
      stack =
          stack_top program i.top _ i.below refl
          (λ own k. opened_holds (action_suits program own) (next z i.top.items)
          (next_holds (action_suits program own) z i.top.items k)) h.stack;
      receiver = h.receiver;
      waiting = h.waiting;
    }

    put_suits : (cell : Cell) (z : ℤ) (i : Instance) → Suited program i → Suited program (put cell z i)
    put_suits cell z i h = record {
      stack = lowest_stack program _ _ i.below (stack_top program i.top _ i.below refl (λ own k. k) h.stack);
      receiver = h.receiver;
      waiting = h.waiting;
    }

    resumed_suits : (i : Instance) (below : List Activation) → i.below ≡ below → Suited program i → Suited program (resumed_to i below)
    resumed_suits i [] e h = h
    resumed_suits i (b ∷ below) e h = record {
      stack = (subst (Stack program i.top) e h.stack).2;
      receiver = h.receiver;
      waiting = h.waiting;
    }

    waiting_suits : (i : Instance) (oldest : Delivery) (others : List Delivery) → i.waiting ≡ oldest ∷ others → Suited program i
        → Suited program (record i { waiting = others })
    waiting_suits i oldest others e h = record { stack = h.stack; receiver = h.receiver; waiting = (subst (AllReceive program) e h.waiting).1 }

    module _ (s : State) (p : Path) (i : Instance) (here : instance_at s.instances p ≡ Some i) (all : Each program s.instances) where
      own : Suited program i
      own = all p i here

      head_here : (head : Numbered) → Acting s p i head → action_suits program (is_empty i.below) head.act ≡ true
      head_here head acting = head_suits program i.top i.below head own.stack acting.first

      replaced : (j : Instance) → Suited program j → Each program (changed p (λ _. j) s.instances)
      replaced j h = changed_each p (λ _. j) s.instances (λ x k. h) all

      marked_each : Each program (after_marks s p i).instances
      marked_each q j e = by (is_below p q) refl
        where
          going_each : Each program (changed p (λ _. gone_on (pos 1) i) s.instances)
          going_each = replaced (gone_on (pos 1) i) (gone_suits (pos 1) i own)

          by : (b : Bool) → is_below p q ≡ b → Suited program j
          by true below =
              mapped_by marked (instance_at (changed p (λ _. gone_on (pos 1) i) s.instances) q) j
              (λ x k. record { stack = k.stack; receiver = k.receiver; waiting = k.waiting })
              (λ x f. going_each q x f) (sym (at-marked_below p q (changed p (λ _. gone_on (pos 1) i) s.instances) below) ∙ e)
          by false beside = going_each q j (sym (at-marked_beside p q (changed p (λ _. gone_on (pos 1) i) s.instances) beside) ∙ e)

      call_each : (head : Numbered) (awaits : Option Reached) (callee : ℕ) (zs : List ℤ) → Acting s p i head → sort_of head.act ≡ calling callee
          → Each program (changed p (λ _. above (entered program callee zs awaits) (gone_on (pos 1) i)) s.instances)
      call_each head awaits callee zs acting sort =
          let on = gone_suits (pos 1) i own in
          let function = called_by program (is_empty i.below) head.act callee sort (head_here head acting) in
          replaced (above (entered program callee zs awaits) (gone_on (pos 1) i)) (record {
            stack = (
              entered_suits callee zs awaits (no_procedure_by (owner_of program callee) function),
              function_stands program (entered program callee zs awaits) i.below function,
              on.stack,
            );
            receiver = on.receiver;
            waiting = on.waiting;
          })

      start_each : (head : Numbered) (receiver : Option Receiver) (callee : ℕ) (zs : List ℤ) → Acting s p i head → Spawns head.act receiver
          → Each program (changed p (λ _. record (gone_on (pos 1) i) { spawned = true; children = i.children + 1 }) s.instances
          ++ record { path = child_path p (i.children + 1); instance = record (started program callee zs) { aborted = i.aborted; receiver = receiver } } ∷ [])
      start_each head receiver callee zs acting written =
          let on = gone_suits (pos 1) i own in
          let taker = spawned_by program (is_empty i.below) head.act written.taker written.is (head_here head acting) in
          pushed_each (changed p (λ _. record (gone_on (pos 1) i) { spawned = true; children = i.children + 1 }) s.instances)
          (record { path = child_path p (i.children + 1); instance = record (started program callee zs) { aborted = i.aborted; receiver = receiver } })
          (replaced (record (gone_on (pos 1) i) { spawned = true; children = i.children + 1 })
          (record { stack = on.stack; receiver = on.receiver; waiting = on.waiting }))
          (started_suits callee zs i.aborted receiver (fits_receives program written.taker receiver written.fits taker.1))

      pub let_in : (oldest : Delivery) (others : List Delivery) (inlet : ℕ) (ys zs : List ℤ) (n : ℕ) → Taking i oldest others
          → oldest.receiver ≡ through inlet ys n
          → is_inlet (owner_of program inlet) ≡ true
      let_in oldest others inlet ys zs n taking is =
          subst (λ x. Receives program (Some x)) is (subst (AllReceive program) taking.waits own.waiting).0

      inlet_each : (oldest : Delivery) (others : List Delivery) (inlet : ℕ) (ys zs : List ℤ) (n : ℕ) → Taking i oldest others
          → oldest.receiver ≡ through inlet ys n
          → Each program (changed p (λ _. above (entered program inlet zs None) (record i { waiting = others })) s.instances)
      inlet_each oldest others inlet ys zs n taking is =
          let on = waiting_suits i oldest others taking.waits own in
          replaced (above (entered program inlet zs None) (record i { waiting = others })) (record {
            stack = (
              entered_suits inlet zs None (no_procedure_in (owner_of program inlet) (let_in oldest others inlet ys zs n taking is)),
              lowest_stands program (entered program inlet zs None) i.below (and_parts (is_empty i.below) _ taking.boundary).0,
              on.stack,
            );
            receiver = on.receiver;
            waiting = on.waiting;
          })

      way_each : {step : Step} → Way program s p i step → Each program (state_after s step).instances
      way_each (resting unmarked) = all
      way_each (parking why) = all
      way_each (ending is_marked) = without_each p s.instances all
      way_each (stopping n kind unmarked) = all
      way_each (going head z acting sort) = replaced (gone_on z i) (gone_suits z i own)
      way_each (writing head cell z acting sort) = replaced (put cell z (gone_on (pos 1) i)) (put_suits cell z (gone_on (pos 1) i) (gone_suits (pos 1) i own))
      way_each (entering head awaits callee zs acting sort) = call_each head awaits callee zs acting sort
      way_each (quitting head acting sort up) = replaced (resumed i) (resumed_suits i i.below refl own)
      way_each (answering head cell z acting sort up) = replaced (put cell z (resumed i)) (put_suits cell z (resumed i) (resumed_suits i i.below refl own))
      way_each (returning head z acting sort alone) = return_each s p i z (parent_of p) own all
      way_each (starting head receiver callee zs acting written) = start_each head receiver callee zs acting written
      way_each (printing head bytes acting sort) = replaced (gone_on (pos 1) i) (gone_suits (pos 1) i own)
      way_each (turning_lock head k now acting sort) = replaced (gone_on (pos 1) i) (gone_suits (pos 1) i own)
      way_each (aborts head acting sort) = marked_each
      way_each (placing oldest others cell z n taking) =
          replaced (put cell z (record i { waiting = others }))
          (put_suits cell z (record i { waiting = others }) (waiting_suits i oldest others taking.waits own))
      way_each (letting_in oldest others inlet ys zs n taking is) = inlet_each oldest others inlet ys zs n taking is

    next_each : (at : Standing) (choice : Choice) → Each program at.state.instances → Stepped program at choice ⊎ Rested program at choice
        → Each program (next_of program at choice).state.instances
    next_each at choice all (inl stepped) =
        subst (λ (x : State). Each program x.instances) (sym stepped.leads)
        (way_each at.state stepped.path stepped.instance stepped.lives all (way_of program at.state stepped.path stepped.instance))
    next_each at choice all (inr rested) = subst (λ (x : State). Each program x.instances) (sym rested.leads) all

    root_by : (b : Bool) (i j : Instance) → Suited program i → (if b then Some i else None) ≡ Some j → Suited program j
    root_by true i j h e = subst (Suited program) (same_Some i j e) h
    root_by false i j h e = cc

    pub each_suits : (n : ℕ) (choices : List Choice) (at : Position) → after program n choices ≡ Some at → Each program at.standing.state.instances
    each_suits n choices at known =
        each_position program n (λ cs x. Each program x.standing.state.instances)
        (λ cs c x there free all. next_each x.standing c all (what_happens program x.standing c))
        choices at (λ m first q j e. root_by (same_path [] q) (started program m []) j (started_suits m [] false None tt) e) known
