-- The top of a frame, and its lowest activation.
use Rattle.std.proofs.Common.{◌≡◌, suc, ◌-◌, List, [], ◌∷◌, ◌++◌, length, take, reverse, refl, sym, ap, ◌∙◌, subst, arith}
use Rattle.std.specs.Prelude.{slice_set, slice_index_or}
use Rattle.std.proofs.lemmas.List.{length_push, length-reverse, reverse-append, reverse-reverse}
use Rattle.std.proofs.Math.Seq.{get_or-append_seam, set-append_seam, take-append_seam}
use Rattle.cilk_load_nodes.specs.labelled.Labelled.{Labelled}
use Rattle.cilk_load_nodes.specs.model.Instance as model
use Rattle.cilk_load_nodes.specs.model.Instance.{Instance}
use Rattle.cilk_frame.specs.Frames.{Activation, Frame, no_activation, depth, top_place, top_of, with_activation, entered, left}
use Rattle.cilk_frame.specs.Stands.{AwaitsSame, Activates, AllActivate, bodies_of, AllInside, StandsFor}

-- the place of the last of a list
last_place : {X : Type 0} → (xs : List X) (x : X) → length (xs ++ x ∷ []) - 1 ≡ length xs
last_place xs x = let e = length_push xs x in omega arith

at-last : {X : Type 0} → (xs : List X) (x d : X) → slice_index_or (xs ++ x ∷ []) (length (xs ++ x ∷ []) - 1) d ≡ x
at-last xs x d = ap (λ n. slice_index_or (xs ++ x ∷ []) n d) (last_place xs x) ∙ get_or-append_seam xs x [] d

set-last : {X : Type 0} → (xs : List X) (x y : X) → slice_set (xs ++ x ∷ []) (length (xs ++ x ∷ []) - 1) y ≡ xs ++ y ∷ []
set-last xs x y = ap (λ n. slice_set (xs ++ x ∷ []) n y) (last_place xs x) ∙ set-append_seam xs x [] y

take-last : {X : Type 0} → (xs : List X) (x : X) → take (length (xs ++ x ∷ []) - 1) (xs ++ x ∷ []) ≡ xs
take-last xs x = ap (λ n. take n (xs ++ x ∷ [])) (last_place xs x) ∙ take-append_seam xs (x ∷ [])

-- an activation of a frame that stands for one of an instance, above these
pub record Stands (program : Labelled) (a : Activation) (m : model.Activation) (ms : List model.Activation) : Type 0 where
  pub acts : Activates program a m
  pub awaits : AwaitsSame program a.awaits m.awaits (bodies_of ms)

-- the activations, of which the last is the top
pub record Split (program : Labelled) (xs : List Activation) (m : model.Activation) (ms : List model.Activation) : Type 0 where
  pub front : List Activation
  pub last : Activation
  pub parts : xs ≡ front ++ last ∷ []
  pub top : Stands program last m ms
  pub below : AllActivate program (reverse front) ms

split_by : (program : Labelled) (xs ys : List Activation) (m : model.Activation) (ms : List model.Activation) → reverse xs ≡ ys
    → AllActivate program ys (m ∷ ms) → Split program xs m ms
split_by program xs [] m ms e h = absurd h
split_by program xs (a ∷ others) m ms e (top, awaits, below) = record {
  front = reverse others;
  last = a;
  parts = sym (reverse-reverse xs) ∙ ap reverse e ∙ reverse-append (a ∷ []) others;
  top = record { acts = top; awaits = awaits };
  below = subst (λ zs. AllActivate program zs ms) (sym (reverse-reverse others)) below;
}

pub split : (program : Labelled) (xs : List Activation) (m : model.Activation) (ms : List model.Activation) → AllActivate program (reverse xs) (m ∷ ms)
    → Split program xs m ms
split program xs m ms h = split_by program xs (reverse xs) m ms refl h

pub join : (program : Labelled) (front : List Activation) (a : Activation) (m : model.Activation) (ms : List model.Activation)
    → AllActivate program (reverse front) ms → Stands program a m ms → AllActivate program (reverse (front ++ a ∷ [])) (m ∷ ms)
join program front a m ms below top =
    subst (λ zs. AllActivate program zs (m ∷ ms)) (sym (reverse-append front (a ∷ []))) (top.acts, top.awaits, below)

-- the top of the frame stands for the top of the instance
top_is : (program : Labelled) (xs : List Activation) (m : model.Activation) (ms : List model.Activation) → Split program xs m ms
    → Stands program (slice_index_or xs (length xs - 1) no_activation) m ms
top_is program xs m ms s =
    subst (λ zs. Stands program (slice_index_or zs (length zs - 1) no_activation) m ms) (sym s.parts)
    (subst (λ a. Stands program a m ms) (sym (at-last s.front s.last no_activation)) s.top)

pub top-stands : (program : Labelled) (f : Frame) (i : Instance) → StandsFor program f i → Stands program (top_of f) i.top i.below
top-stands program f i s = top_is program f.activations i.top i.below (split program f.activations i.top i.below s.activations)

-- a frame whose top now stands for another top of the same body
pub with_top-stands : (program : Labelled) (f : Frame) (i : Instance) (a : Activation) (m : model.Activation) → StandsFor program f i
    → m.body ≡ i.top.body → Stands program a m i.below → StandsFor program (with_activation (top_place f) a f) (record i { top = m })
with_top-stands program f i a m s same h =
    let p = split program f.activations i.top i.below s.activations in
    record {
      activations = subst (λ zs. AllActivate program (reverse (slice_set zs (length zs - 1) a)) (m ∷ i.below)) (sym p.parts)
          (subst (λ zs. AllActivate program (reverse zs) (m ∷ i.below)) (sym (set-last p.front p.last a)) (join program p.front a m i.below p.below h));
      inside = subst (λ b. AllInside program (b ∷ bodies_of i.below)) (sym same) s.inside;
      flag = s.flag;
    }

-- a frame with one more activation
pub entered-stands : (program : Labelled) (f : Frame) (i : Instance) (a : Activation) (m : model.Activation) → StandsFor program f i
    → Stands program a m (i.top ∷ i.below) → AllInside program (bodies_of (m ∷ i.top ∷ i.below))
    → StandsFor program (entered a f) (record i { top = m; below = i.top ∷ i.below })
entered-stands program f i a m s h inside =
    record { activations = join program f.activations a m (i.top ∷ i.below) s.activations h; inside = inside; flag = s.flag }

-- a frame without its top
pub left-stands : (program : Labelled) (f : Frame) (i : Instance) (m : model.Activation) (ms : List model.Activation) → StandsFor program f i
    → i.below ≡ m ∷ ms
    → StandsFor program (left f) (record i { top = m; below = ms })
left-stands program f i m ms s e =
    let p = split program f.activations i.top i.below s.activations in
    let all : AllInside program (i.top.body ∷ m.body ∷ bodies_of ms) = subst (λ below. AllInside program (bodies_of (i.top ∷ below))) e s.inside in
    record {
      activations = subst (λ zs. AllActivate program (reverse (take (length zs - 1) zs)) (m ∷ ms)) (sym p.parts)
          (subst (λ zs. AllActivate program (reverse zs) (m ∷ ms)) (sym (take-last p.front p.last))
          (subst (AllActivate program (reverse p.front)) e p.below));
      inside = all.2;
      flag = s.flag;
    }

same-length : (program : Labelled) (xs : List Activation) (ms : List model.Activation) → AllActivate program xs ms → length xs ≡ length ms
same-length program [] [] h = refl
same-length program [] (m ∷ ms) h = absurd h
same-length program (a ∷ others) [] h = absurd h
same-length program (a ∷ others) (m ∷ ms) (top, awaits, below) = ap suc (same-length program others ms below)

pub depth-is : (program : Labelled) (f : Frame) (i : Instance) → StandsFor program f i → depth f ≡ suc (length i.below)
depth-is program f i s = sym (length-reverse f.activations) ∙ same-length program (reverse f.activations) (i.top ∷ i.below) s.activations
