-- A write to a cell that a body sees.
use Rattle.std.proofs.Common.{◌≡◌, ℕ, ◌+◌, ℤ, true, false, List, [], ◌∷◌, ◌++◌, length, map, reverse, refl, sym, ap, ◌∙◌, subst, arith}
use Rattle.std.specs.Prelude.{slice_set, slice_index_or}
use Rattle.std.proofs.lemmas.List.{reverse-append}
use Rattle.cilk_load_nodes.specs.declared.area.Area.TheVariants.{Own, Outer, Global}
use Rattle.cilk_load_nodes.specs.declared.area.Area.{Area}
use Rattle.cilk_load_nodes.specs.labelled.Labelled.{Declaration, local, outer, global, of_lock, of_body, unknown, Variable, Labelled}
use Rattle.cilk_load_nodes.specs.model.Values.{Values}
use Rattle.cilk_load_nodes.specs.model.Instance as model
use Rattle.cilk_load_nodes.specs.model.Instance.{Instance, body_at, outer_values}
use Rattle.cilk_load_nodes.specs.model.Change.{with_value, outer_with, globals_with, on_lowest, put}
use Rattle.cilk_load_nodes.specs.Slots.{size_of, flat, is_inlet, procedure_around, slot_from, slot_of}
use Rattle.cilk_frame.specs.Frames.{Activation, Frame, no_activation, top_place, top_of, with_cell}
use Rattle.cilk_frame.specs.Cells.{own_variables, outer_variables, IsInlet, HasIn, HasCell, put_in, frame_put, globals_in, globals_put}
use Rattle.cilk_frame.specs.Stands.{AwaitsSame, Activates, AllActivate, bodies_of, lowest_of, AllInside, StandsFor}
use Rattle.cilk_frame.proofs.Flat.{before, flat-set}
use Rattle.cilk_frame.proofs.SlotLaws.{slot-area, slot-offset, cells-size, sizes-stay}
use Rattle.cilk_frame.proofs.Tops.{top-stands, with_top-stands}

-- one cell of a body's variables becomes z
cell-activates : (program : Labelled) (a : Activation) (m : model.Activation) (variables : List Variable) (area : Area) (n k : ℕ) (z : ℤ)
    → Activates program a m
    → own_variables program m.body ≡ variables → HasIn variables n k
    → Activates program (record a { cells = slice_set a.cells ((slot_from area 0 variables n).offset + k) z })
    (record m { values = with_value n k z m.values })
cell-activates program a m variables area n k z h e (inside, below) =
    let sizes : map length m.values ≡ map size_of variables = h.sizes_are ∙ ap (map size_of) e in
    let size = cells-size m.values variables n sizes inside in
    let offset = slot-offset area 0 variables n inside in
    let starts = ap (λ ss. before ss n) sizes in
    let place : (slot_from area 0 variables n).offset + k ≡ before (map length m.values) n + k = omega arith in
    record {
      is_there = h.is_there;
      answers = h.answers;
      reached_by = h.reached_by;
      node_is = h.node_is;
      cells_are = (λ i. slice_set (h.cells_are i) (place i) z) ∙ flat-set m.values n k z (omega arith);
      sizes_are = sizes-stay m.values n k z ∙ h.sizes_are;
    }

-- the lowest activation
abbrev pub lowest : model.Activation → List model.Activation → model.Activation
lowest m [] = m
lowest m (n ∷ ms) = lowest n ms

pub lowest-body : (m : model.Activation) (ms : List model.Activation) → lowest_of m.body (bodies_of ms) ≡ (lowest m ms).body
lowest-body m [] = refl
lowest-body m (n ∷ ms) = lowest-body n ms

pub lowest-values : (m : model.Activation) (ms : List model.Activation) → outer_values (m ∷ ms) ≡ (lowest m ms).values
lowest-values m [] = refl
lowest-values m (n ∷ ms) = lowest-values n ms

pub lowest-activates : (program : Labelled) (xs : List Activation) (a : Activation) (m : model.Activation) (ms : List model.Activation)
    → AllActivate program (xs ++ a ∷ []) (m ∷ ms) → Activates program a (lowest m ms)
lowest-activates program [] a m [] h = h.0
lowest-activates program [] a m (n ∷ ms) h = absurd h.2
lowest-activates program (y ∷ []) a m [] h = absurd h.2
lowest-activates program (y ∷ x ∷ xs) a m [] h = absurd h.2
lowest-activates program (y ∷ xs) a m (n ∷ ms) h = lowest-activates program xs a n ms h.2

on_lowest-same : (g : Values → Values) → ((v : Values) → g v ≡ v) → (ms : List model.Activation) → on_lowest g ms ≡ ms
on_lowest-same g same [] = refl
on_lowest-same g same (m ∷ []) = ap (λ v. record m { values = v } ∷ []) (same m.values)
on_lowest-same g same (m ∷ n ∷ ms) = ap (λ rest. m ∷ rest) (on_lowest-same g same (n ∷ ms))

pub on_lowest-bodies : (g : Values → Values) (ms : List model.Activation) → bodies_of (on_lowest g ms) ≡ bodies_of ms
on_lowest-bodies g [] = refl
on_lowest-bodies g (m ∷ []) = refl
on_lowest-bodies g (m ∷ n ∷ ms) = ap (λ bodies. m.body ∷ bodies) (on_lowest-bodies g (n ∷ ms))

lowest-set : (program : Labelled) (g : Values → Values) (xs : List Activation) (a : Activation) (cells : List ℤ) (m : model.Activation)
    (ms : List model.Activation)
    → (Activates program a (lowest m ms) → Activates program (record a { cells = cells }) (record (lowest m ms) { values = g (lowest m ms).values }))
    → AllActivate program (xs ++ a ∷ []) (m ∷ ms) → AllActivate program (xs ++ record a { cells = cells } ∷ []) (on_lowest g (m ∷ ms))
lowest-set program g [] a cells m [] new h = (new h.0, h.1, tt)
lowest-set program g [] a cells m (n ∷ ms) new h = absurd h.2
lowest-set program g (y ∷ []) a cells m [] new h = absurd h.2
lowest-set program g (y ∷ x ∷ xs) a cells m [] new h = absurd h.2
lowest-set program g (y ∷ xs) a cells m (n ∷ ms) new h =
    (h.0, subst (AwaitsSame program y.awaits m.awaits) (sym (on_lowest-bodies g (n ∷ ms))) h.1, lowest-set program g xs a cells n ms new h.2)

own-put : (program : Labelled) (f : Frame) (i : Instance) (n k : ℕ) (z : ℤ) → StandsFor program f i → HasIn (own_variables program i.top.body) n k
    → StandsFor program (with_cell (top_place f) ((slot_from Own 0 (own_variables program i.top.body) n).offset + k) z f)
    (record i { top = record i.top { values = with_value n k z i.top.values } })
own-put program f i n k z s there =
    let top = top-stands program f i s in
    with_top-stands program f i _ _ s refl (record {
      acts = cell-activates program (top_of f) i.top (own_variables program i.top.body) Own n k z top.acts refl there;
      awaits = top.awaits;
    })

-- the lowest activation's cells, where the list of activations begins with it
outer-put-by : (program : Labelled) (f : Frame) (i : Instance) (b : model.Activation) (below : List model.Activation) (g : Values → Values) (place : ℕ)
    (z : ℤ) (acts : List Activation)
    → f.activations ≡ acts → i.below ≡ b ∷ below
    → ((a : Activation) → Activates program a (lowest b below)
    → Activates program (record a { cells = slice_set a.cells place z }) (record (lowest b below) { values = g (lowest b below).values }))
    → StandsFor program f i → StandsFor program (with_cell 0 place z f) (record i { below = on_lowest g i.below })
outer-put-by program f i b below g place z [] e is new s =
    let none : AllActivate program (reverse []) (i.top ∷ i.below) = subst (λ xs. AllActivate program (reverse xs) (i.top ∷ i.below)) e s.activations in
    absurd none
outer-put-by program f i b below g place z (a ∷ acts) e is new s =
    let x : Activation = record a { cells = slice_set a.cells place z } in
    let all : AllActivate program (reverse acts ++ a ∷ []) (i.top ∷ b ∷ below) =
    subst (λ xs. AllActivate program xs (i.top ∷ b ∷ below)) (reverse-append (a ∷ []) acts)
    (subst (λ ms. AllActivate program (reverse (a ∷ acts)) (i.top ∷ ms)) is
    (subst (λ xs. AllActivate program (reverse xs) (i.top ∷ i.below)) e s.activations)) in
    let now : AllActivate program (reverse acts ++ x ∷ []) (i.top ∷ on_lowest g (b ∷ below)) =
    lowest-set program g (reverse acts) a (slice_set a.cells place z) i.top (b ∷ below) (new a) all in
    record {
      activations =
          subst (λ xs. AllActivate program (reverse (slice_set xs 0
          (record (slice_index_or xs 0 no_activation) { cells = slice_set (slice_index_or xs 0 no_activation).cells place z })))
          (i.top ∷ on_lowest g i.below)) (sym e)
          (subst (λ ms. AllActivate program (reverse (x ∷ acts)) (i.top ∷ on_lowest g ms)) (sym is)
          (subst (λ xs. AllActivate program xs (i.top ∷ on_lowest g (b ∷ below))) (sym (reverse-append (x ∷ []) acts)) now));
      inside = subst (λ bodies. AllInside program (i.top.body ∷ bodies)) (sym (on_lowest-bodies g i.below)) s.inside;
      flag = s.flag;
    }

outer-put : (program : Labelled) (f : Frame) (i : Instance) (n k : ℕ) (z : ℤ) (ms : List model.Activation) → i.below ≡ ms → StandsFor program f i
    → IsInlet program i.top.body
    → HasIn (outer_variables program i.top.body) n k
    → StandsFor program (with_cell 0 ((slot_from Outer 0 (outer_variables program i.top.body) n).offset + k) z f)
    (record i { below = on_lowest (with_value n k z) i.below })
outer-put program f i n k z [] is s inlet there =
    let alone : is_inlet (body_at program i.top.body).owner ≡ false = subst (λ ms. AllInside program (bodies_of (i.top ∷ ms))) is s.inside in
    let clash : true ≡ false = sym inlet ∙ alone in
    cc
outer-put program f i n k z (b ∷ below) is s inlet there =
    let inside : AllInside program (i.top.body ∷ b.body ∷ bodies_of below) = subst (λ ms. AllInside program (bodies_of (i.top ∷ ms))) is s.inside in
    let body : (lowest b below).body ≡ procedure_around program i.top.body = sym (lowest-body b below) ∙ inside.1 inlet in
    outer-put-by program f i b below (with_value n k z) _ z f.activations refl is
    (λ a h. cell-activates program a (lowest b below) (outer_variables program i.top.body) Outer n k z h (ap (own_variables program) body) there) s

-- a write to any cell that the top activation sees
pub put-stands : (program : Labelled) (f : Frame) (i : Instance) (d : Declaration) (k : ℕ) (z : ℤ) → StandsFor program f i → HasCell program i.top.body d k
    → StandsFor program (frame_put (slot_of program i.top.body d) k z f) (put (record { place = d; index = k }) z i)
put-stands program f i (local n) k z s there =
    let variables = own_variables program i.top.body in
    subst (λ area. StandsFor program (put_in area ((slot_from Own 0 variables n).offset + k) z f) (put (record { place = local n; index = k }) z i))
    (sym (slot-area Own 0 variables n there.0))
    (subst (λ ms. StandsFor program (with_cell (top_place f) ((slot_from Own 0 variables n).offset + k) z f)
    (record i { top = record i.top { values = with_value n k z i.top.values }; below = ms }))
    (sym (on_lowest-same (outer_with (local n) k z) (λ v. refl) i.below)) (own-put program f i n k z s there))
put-stands program f i (outer n) k z s (inlet, there) =
    let variables = outer_variables program i.top.body in
    subst (λ area. StandsFor program (put_in area ((slot_from Outer 0 variables n).offset + k) z f) (put (record { place = outer n; index = k }) z i))
    (sym (slot-area Outer 0 variables n there.0))
    (outer-put program f i n k z i.below refl s inlet there)
put-stands program f i (global n) k z s there =
    subst (λ area. StandsFor program (put_in area ((slot_from Global 0 program.globals n).offset + k) z f) (put (record { place = global n; index = k }) z i))
    (sym (slot-area Global 0 program.globals n there.0))
    (subst (λ ms. StandsFor program f (record i { below = ms })) (sym (on_lowest-same (outer_with (global n) k z) (λ v. refl) i.below)) s)
put-stands program f i (of_lock n) k z s there = absurd there
put-stands program f i (of_body n) k z s there = absurd there
put-stands program f i unknown k z s there = absurd there

-- what the top level holds then
globals-by : (program : Labelled) (globals : Values) (n k : ℕ) (z : ℤ) → HasIn program.globals n k → map length globals ≡ map size_of program.globals
    → slice_set (flat globals) ((slot_from Global 0 program.globals n).offset + k) z ≡ flat (with_value n k z globals)
globals-by program globals n k z (inside, below) sizes =
    let size = cells-size globals program.globals n sizes inside in
    let offset = slot-offset Global 0 program.globals n inside in
    let starts = ap (λ ss. before ss n) sizes in
    let place : (slot_from Global 0 program.globals n).offset + k ≡ before (map length globals) n + k = omega arith in
    ap (λ j. slice_set (flat globals) j z) place ∙ flat-set globals n k z (omega arith)

pub put-globals : (program : Labelled) (b : ℕ) (globals : Values) (d : Declaration) (k : ℕ) (z : ℤ) → HasCell program b d k
    → map length globals ≡ map size_of program.globals
    → globals_put (slot_of program b d) k z (flat globals) ≡ flat (globals_with d k z globals)
put-globals program b globals (local n) k z there sizes =
    ap (λ area. globals_in area ((slot_from Own 0 (own_variables program b) n).offset + k) z (flat globals))
    (slot-area Own 0 (own_variables program b) n there.0)
put-globals program b globals (outer n) k z (inlet, there) sizes =
    ap (λ area. globals_in area ((slot_from Outer 0 (outer_variables program b) n).offset + k) z (flat globals))
    (slot-area Outer 0 (outer_variables program b) n there.0)
put-globals program b globals (global n) k z there sizes =
    ap (λ area. globals_in area ((slot_from Global 0 program.globals n).offset + k) z (flat globals)) (slot-area Global 0 program.globals n there.0)
    ∙ globals-by program globals n k z there sizes
put-globals program b globals (of_lock n) k z there sizes = absurd there
put-globals program b globals (of_body n) k z there sizes = absurd there
put-globals program b globals unknown k z there sizes = absurd there

pub put-sizes : (globals : Values) (d : Declaration) (k : ℕ) (z : ℤ) → map length (globals_with d k z globals) ≡ map length globals
put-sizes globals (local n) k z = refl
put-sizes globals (outer n) k z = refl
put-sizes globals (global n) k z = sizes-stay globals n k z
put-sizes globals (of_lock n) k z = refl
put-sizes globals (of_body n) k z = refl
put-sizes globals unknown k z = refl
