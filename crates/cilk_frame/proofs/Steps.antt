-- What each call makes of a frame that stands for an instance.
use Rattle.std.proofs.Common.{◌≡◌, ℕ, suc, ℤ, pos, Bool, true, false, not, ◌&&◌, List, [], ◌∷◌, length, map, reverse, Option, Some, None, refl, sym, ap}
use Rattle.std.proofs.Common.{◌∙◌, subst, arith}
use Rattle.std.specs.Prelude.{slice_index_or, nat_lt}
use Rattle.std.proofs.lemmas.Bool.{lt-ltb}
use Rattle.std.proofs.lemmas.List.{reverse-append}
use Rattle.cilk_load_nodes.specs.syntax.Tree.{Program}
use Rattle.cilk_load_nodes.specs.labelled.Labelled.{Declaration, Labelled}
use Rattle.cilk_load_nodes.specs.labelled.Items.{opened, next}
use Rattle.cilk_load_nodes.specs.labelled.Bodies.{label, is_procedure}
use Rattle.cilk_load_nodes.specs.model.Values.{Values, Reached}
use Rattle.cilk_load_nodes.specs.model.State.{is_empty}
use Rattle.cilk_load_nodes.specs.model.Change.{gone_on, put}
use Rattle.cilk_load_nodes.specs.model.Instance as model
use Rattle.cilk_load_nodes.specs.model.Instance.{Receiver, Delivery, Instance, body_at, outer_values}
use Rattle.cilk_load_nodes.specs.Slots.{size_of, flat, is_inlet, procedure_around, slot_of}
use Rattle.cilk_load_nodes.specs.Table.{number_of}
use Rattle.cilk_load_nodes.specs.Bodies.{body_of}
use Rattle.cilk_frame.specs.declared.awaited.Await.{Await}
use Rattle.cilk_frame.specs.Frames.{Activation, Frame, no_activation, activation_at, depth, top_of, jumped, with_boundary, entered}
use Rattle.cilk_frame.specs.Begins.{Takes, first_activation, started}
use Rattle.cilk_frame.specs.Cells.{own_variables, outer_variables, IsInlet, HasCell, frame_put}
use Rattle.cilk_frame.specs.Stands.{AwaitsSame, Activates, AllActivate, bodies_of, lowest_of, AllInside, StandsFor}
use Rattle.cilk_frame.specs.Reads.{Seen, lent, seen_by}
use Rattle.cilk_frame.proofs.Starts.{start-activates, start-awaits}
use Rattle.cilk_frame.proofs.Tops.{top-stands, with_top-stands, entered-stands, depth-is}
use Rattle.cilk_frame.proofs.Puts.{lowest, lowest-body, lowest-values, lowest-activates, put-stands}

-- an instance in another light, whose activations and flag are the same
pub rest-stands : (program : Labelled) (f : Frame) (i : Instance) (waiting : List Delivery) (children : ℕ) (aborted : Bool) (receiver : Option Receiver)
    → StandsFor program f i
    → StandsFor program f (record i { waiting = waiting; children = children; aborted = aborted; receiver = receiver })
rest-stands program f i waiting children aborted receiver s = record { activations = s.activations; inside = s.inside; flag = s.flag }

pub start-stands : (p : Program) (id b : ℕ) (arguments : List ℤ) → Takes (body_of p b) arguments → is_inlet (body_at (label p) b).owner ≡ false
    → StandsFor (label p) (started p id b arguments) (model.started (label p) b arguments)
start-stands p id b arguments h inlet = record {
  activations = (start-activates p b arguments None None h, subst (λ w. AwaitsSame (label p) w None []) (sym (start-awaits p b arguments None h)) tt, tt);
  inside = inlet;
  flag = refl;
}

pub flag-stands : (program : Labelled) (f : Frame) (i : Instance) (b : Bool) → StandsFor program f i
    → StandsFor program (with_boundary b f) (record i { spawned = b })
flag-stands program f i b s = record { activations = s.activations; inside = s.inside; flag = refl }

pub jump-stands : (program : Labelled) (f : Frame) (i : Instance) (answer : ℤ) (n : ℕ) → StandsFor program f i
    → number_of (opened (next answer i.top.items)) ≡ Some n
    → StandsFor program (jumped n f) (record i { top = record i.top { items = opened (next answer i.top.items) } })
jump-stands program f i answer n s e =
    let t = top-stands program f i s in
    let h = t.acts in
    with_top-stands program f i _ _ s refl (record {
      acts = record {
        is_there = h.is_there;
        answers = answer ∷ h.answers;
        reached_by = ap (λ items. opened (next answer items)) h.reached_by;
        node_is = e;
        cells_are = h.cells_are;
        sizes_are = h.sizes_are;
      };
      awaits = t.awaits;
    })

-- whether the procedure goes on is seen by the depth
pub alone-is : (program : Labelled) (f : Frame) (i : Instance) → StandsFor program f i → nat_lt 1 (depth f) ≡ not (is_empty i.below)
alone-is program f i s = ap (nat_lt 1) (depth-is program f i s) ∙ by_below i.below
  where
    by_below : (ms : List model.Activation) → nat_lt 1 (suc (length ms)) ≡ not (is_empty ms)
    by_below [] = refl
    by_below (m ∷ ms) = lt-ltb 1 (suc (suc (length ms))) (omega arith)

-- an action that leaves the values of its body
pub goes_on-stands : (program : Labelled) (f : Frame) (i : Instance) (answer : ℤ) (n : ℕ) → StandsFor program f i
    → number_of (opened (next answer i.top.items)) ≡ Some n
    → StandsFor program (with_boundary (f.boundary && nat_lt 1 (depth f)) (jumped n f)) (gone_on answer i)
goes_on-stands program f i answer n s e =
    let flag : f.boundary && nat_lt 1 (depth f) ≡ i.spawned && not (is_empty i.below) = λ j. s.flag j && alone-is program f i s j in
    subst (λ b. StandsFor program (with_boundary b (jumped n f)) (gone_on answer i)) (sym flag)
    (flag-stands program (jumped n f) _ (i.spawned && not (is_empty i.below)) (jump-stands program f i answer n s e))

-- one that writes to a cell, once it went on
pub assign-stands : (program : Labelled) (f : Frame) (i : Instance) (d : Declaration) (k : ℕ) (z : ℤ) (m : ℕ) → StandsFor program f i
    → HasCell program i.top.body d k
    → number_of (opened (next (pos 1) i.top.items)) ≡ Some m
    → StandsFor program (frame_put (slot_of program i.top.body d) k z (with_boundary (f.boundary && nat_lt 1 (depth f)) (jumped m f)))
    (put (record { place = d; index = k }) z (gone_on (pos 1) i))
assign-stands program f i d k z m s there e =
    put-stands program _ (gone_on (pos 1) i) d k z (goes_on-stands program f i (pos 1) m s e) there

pub call-stands : (p : Program) (f : Frame) (i : Instance) (b : ℕ) (arguments : List ℤ) (w : Option Await) (r : Option Reached) → StandsFor (label p) f i
    → Takes (body_of p b) arguments
    → AwaitsSame (label p) w r (bodies_of (i.top ∷ i.below))
    → is_procedure (body_at (label p) b).owner ≡ false
    → (IsInlet (label p) b → lowest_of i.top.body (bodies_of i.below) ≡ procedure_around (label p) b)
    → StandsFor (label p) (entered (first_activation p b arguments w) f) (record i { top = model.entered (label p) b arguments r; below = i.top ∷ i.below })
call-stands p f i b arguments w r s takes same called inlet =
    entered-stands (label p) f i _ _ s (record {
      acts = start-activates p b arguments w r takes;
      awaits = subst (λ x. AwaitsSame (label p) x r (bodies_of (i.top ∷ i.below))) (sym (start-awaits p b arguments w takes)) same;
    }) (called, inlet, s.inside)

-- what awaits the value of the top activation
pub awaits-same : (program : Labelled) (f : Frame) (i : Instance) → StandsFor program f i
    → AwaitsSame program (top_of f).awaits i.top.awaits (bodies_of i.below)
awaits-same program f i s = let t = top-stands program f i s in t.awaits

-- the lowest activation of a frame stands for that of the instance
lowest-by : (program : Labelled) (f : Frame) (i : Instance) (acts : List Activation) → f.activations ≡ acts → StandsFor program f i
    → Activates program (slice_index_or acts 0 no_activation) (lowest i.top i.below)
lowest-by program f i [] e s =
    let none : AllActivate program (reverse []) (i.top ∷ i.below) = subst (λ xs. AllActivate program (reverse xs) (i.top ∷ i.below)) e s.activations in
    absurd none
lowest-by program f i (a ∷ acts) e s =
    lowest-activates program (reverse acts) a i.top i.below
    (subst (λ xs. AllActivate program xs (i.top ∷ i.below)) (reverse-append (a ∷ []) acts)
    (subst (λ xs. AllActivate program (reverse xs) (i.top ∷ i.below)) e s.activations))

pub lowest-stands : (program : Labelled) (f : Frame) (i : Instance) → StandsFor program f i → Activates program (activation_at f 0) (lowest i.top i.below)
lowest-stands program f i s = lowest-by program f i f.activations refl s

-- what an inlet sees of its procedure
record Around (program : Labelled) (f : Frame) (i : Instance) : Type 0 where
  are : (activation_at f 0).cells ≡ flat (outer_values i.below)
  sizes : map length (outer_values i.below) ≡ map size_of (outer_variables program i.top.body)

around-by : (program : Labelled) (f : Frame) (i : Instance) (ms : List model.Activation) → i.below ≡ ms → StandsFor program f i → IsInlet program i.top.body
    → Around program f i
around-by program f i [] is s inlet =
    let alone : is_inlet (body_at program i.top.body).owner ≡ false = subst (λ ms. AllInside program (bodies_of (i.top ∷ ms))) is s.inside in
    let clash : true ≡ false = sym inlet ∙ alone in
    cc
around-by program f i (b ∷ below) is s inlet =
    let inside : AllInside program (i.top.body ∷ b.body ∷ bodies_of below) = subst (λ ms. AllInside program (bodies_of (i.top ∷ ms))) is s.inside in
    let body : (lowest b below).body ≡ procedure_around program i.top.body = sym (lowest-body b below) ∙ inside.1 inlet in
    let stands : Activates program (activation_at f 0) (lowest b below) = subst (λ ms. Activates program (activation_at f 0) (lowest i.top ms)) is
    (lowest-stands program f i s) in
    let values : outer_values i.below ≡ (lowest b below).values = ap outer_values is ∙ lowest-values b below in
    record {
      are = stands.cells_are ∙ ap flat (sym values);
      sizes = ap (map length) values ∙ stands.sizes_are ∙ ap (λ c. map size_of (own_variables program c)) body;
    }

-- what the top of a frame lends is what the top of its instance sees
pub lent-seen : (program : Labelled) (f : Frame) (i : Instance) (globals : Values) (synched : Bool) → StandsFor program f i
    → map length globals ≡ map size_of program.globals
    → Seen program i.top.body (lent f (flat globals) synched) (seen_by i globals synched)
lent-seen program f i globals synched s sizes =
    let h = (top-stands program f i s).acts in
    record {
      own_are = h.cells_are;
      own_sizes = h.sizes_are;
      outer_are = λ inlet. (around-by program f i i.below refl s inlet).are;
      outer_sizes = λ inlet. (around-by program f i i.below refl s inlet).sizes;
      globals_are = refl;
      global_sizes = sizes;
      synched_is = refl;
    }
