-- What the activations of a frame tell is what those of its instance say.
use Rattle.std.proofs.Common.{pos, ◌≡◌, ℕ, ◌+◌, ◌++◌, List, [], ◌∷◌, drop, map, reverse, length, refl, sym, ap, ◌∙◌, append_assoc, Option}
use Rattle.std.proofs.Common.{Some, None, option_map}
use Rattle.std.specs.Prelude.{codes, decimal, flat_map, option_and_then}
use Rattle.std.proofs.lemmas.List.{reverse-reverse, reverse-append, map-append}
use Rattle.cilk_machine_agree.specs.syntax.Tree.{Program}
use Rattle.cilk_machine_agree.specs.scopes.WellFormed.{WellFormed}
use Rattle.cilk_machine_agree.specs.nodes.declared.area.Area.{Area}
use Rattle.cilk_machine_agree.specs.nodes.declared.area.Area.TheVariants.{Own}
use Rattle.cilk_load.specs.labelled.Labelled.{Numbered, Variable}
use Rattle.cilk_load.specs.labelled.Items.{Items, head_of}
use Rattle.cilk_load.specs.labelled.Bodies.{label}
use Rattle.cilk_machine_agree.specs.model.Values.{Values}
use Rattle.cilk_machine_agree.specs.model.Instance as model
use Rattle.cilk_machine_agree.specs.model.Instance.{Instance, body_at}
use Rattle.cilk_machine_agree.specs.nodes.declared.node.Node.{Node}
use Rattle.cilk_machine_agree.specs.nodes.Slots.{size_of, flat, slot_of}
use Rattle.cilk_machine_agree.specs.nodes.Actions.{slotted}
use Rattle.cilk_machine_agree.specs.nodes.Table.{number_of, number_else, cases_of, node_at, node_of}
use Rattle.cilk_machine_agree.specs.nodes.Bodies.{vars_from, body_table, body_of}
use Rattle.cilk_machine_agree.specs.nodes.Laws.{Reached, items_at}
use Rattle.cilk_machine_agree.proofs.nodes_laws.Heads.{nodes-stand, bodies-have}
use Rattle.cilk_machine_agree.specs.frame.Frames.{Activation, Frame}
use Rattle.cilk_machine_agree.specs.frame.Stands.{Activates, AllActivate, StandsFor}
use Rattle.cilk_machine_agree.specs.model.Texts.{length_text, values_text, line_at}
use Rattle.cilk_machine_agree.specs.model.Frames.{variables_text, activation_text, frame_text}
use Rattle.cilk_view.specs.WhereLines.{line_number}
use Rattle.cilk_view.specs.Frames.{body_with, vars_text, body_text, activation_by, frame_by}
use Rattle.cilk_view.proofs.Links.{take_front, drop_front, by_head}

pub vars_are : (area : Area) (at : ℕ) (variables : List Variable) (values : Values) → map length values ≡ map size_of variables
    → vars_text (vars_from area at variables) (flat values) ≡ variables_text variables values
vars_are area at [] values sizes = refl
vars_are area at (v ∷ variables) [] sizes = cc
vars_are area at (v ∷ variables) (own ∷ values) sizes =
    let size : length own ≡ size_of v = cc in
    let others : map length values ≡ map size_of variables = cc in
    ap (λ cells. codes "    " ++ (v.name ++ (length_text v.length ++ (codes " =" ++ (values_text cells
    ++ (codes "\n" ++ vars_text (vars_from area (at + size_of v) variables) (drop (size_of v) (own ++ flat values))))))))
    (take_front own (flat values) (size_of v) size)
    ∙ ap (λ cells. codes "    " ++ (v.name ++ (length_text v.length ++ (codes " =" ++ (values_text own
    ++ (codes "\n" ++ vars_text (vars_from area (at + size_of v) variables) cells))))))
    (drop_front own (flat values) (size_of v) size)
    ∙ ap (λ text. codes "    " ++ (v.name ++ (length_text v.length ++ (codes " =" ++ (values_text own ++ (codes "\n" ++ text))))))
    (vars_are area (at + size_of v) variables values others)
    ∙ ap (λ text. codes "    " ++ text) (sym (simp append_assoc))

body_by_head : (p : Program) (b : ℕ) (items : Items) (n : ℕ) (o : Option Node) → number_of items ≡ Some n → o ≡ node_at (label p) b items
    → option_and_then (λ (node : Node). body_of p node.body) o ≡ body_of p b
body_by_head p b items n o some is = ap (option_and_then (λ (node : Node). body_of p node.body)) is ∙ by_head_of (head_of items) some
  where
    by_head_of : (h : Option Numbered) → option_map (λ (x : Numbered). x.number) h ≡ Some n
        → option_and_then (λ (node : Node). body_of p node.body)
        (option_map (λ (x : Numbered). record {
          action = slotted (slot_of (label p) b) x.act;
          next = number_else (pos 1) items;
          other = number_else (pos 0) items;
          cases = cases_of items;
          body = b;
        }) h) ≡ body_of p b
    by_head_of None e = cc
    by_head_of (Some x) e = refl

map-reverse : {A B : Type 0} (f : A → B) (xs : List A) → map f (reverse xs) ≡ reverse (map f xs)
map-reverse f [] = refl
map-reverse f (x ∷ xs) =
    ap (map f) (reverse-append (x ∷ []) xs) ∙ map-append f (reverse xs) (x ∷ []) ∙ ap (λ ys. ys ++ f x ∷ []) (map-reverse f xs)
    ∙ sym (reverse-append (f x ∷ []) (map f xs))

joined : {A : Type 0} (f : A → List ℕ) (xs : List A) → flat_map f xs ≡ flat_map (λ (t : List ℕ). t) (map f xs)
joined f [] = refl
joined f (x ∷ xs) = ap (λ rest. f x ++ rest) (joined f xs)

module _ (p : Program) (ok : WellFormed p) where
  reached_at : (a : Activation) (m : model.Activation) (acts : Activates (label p) a m) → Reached p m.body acts.answers a.node
  reached_at a m acts = record { is_there = acts.is_there; number = ap number_of (sym acts.reached_by) ∙ acts.node_is }

  -- the node of an activation stands in its body
  pub body_is : (a : Activation) (m : model.Activation) → Activates (label p) a m → body_with p a.node ≡ Some (body_table (body_at (label p) m.body))
  body_is a m acts =
      let r = reached_at a m acts in
      body_by_head p m.body (items_at p m.body acts.answers) a.node (node_of p a.node) r.number (nodes-stand p m.body acts.answers a.node ok r)
      ∙ bodies-have p m.body acts.is_there

  pub activation_is : (a : Activation) (m : model.Activation) → Activates (label p) a m → activation_by p a ≡ activation_text (label p) m
  activation_is a m acts =
      let own = body_at (label p) m.body in
      let line : line_at (label p) m.items ≡ line_number p a.node = by_head (label p) (head_of m.items) a.node acts.node_is in
      ap (body_text p a.node a.cells) (body_is a m acts)
      ∙ ap (λ k. own.name ++ (codes " line " ++ (decimal k ++ (codes "\n" ++ vars_text (vars_from Own 0 own.variables) a.cells)))) (sym line)
      ∙ ap
      (λ cells. own.name
      ++ (codes " line " ++ (decimal (line_at (label p) m.items) ++ (codes "\n" ++ vars_text (vars_from Own 0 own.variables) cells))))
      acts.cells_are
      ∙ ap (λ text. own.name ++ (codes " line " ++ (decimal (line_at (label p) m.items) ++ (codes "\n" ++ text))))
      (vars_are Own 0 own.variables m.values acts.sizes_are)

  all_are : (xs : List Activation) (ms : List model.Activation) → AllActivate (label p) xs ms → map (activation_by p) xs ≡ map (activation_text (label p)) ms
  all_are [] [] h = refl
  all_are [] (m ∷ ms) h = absurd h
  all_are (a ∷ xs) [] h = absurd h
  all_are (a ∷ xs) (m ∷ ms) h = λ i. activation_is a m h.0 i ∷ all_are xs ms h.2 i

  -- a frame that stands for an instance tells what the definition says
  pub frame_is : (f : Frame) (i : Instance) → StandsFor (label p) f i → frame_by p f ≡ frame_text (label p) i
  frame_is f i stands =
      let same : map (activation_by p) (reverse f.activations)
      ≡ map (activation_text (label p)) (i.top ∷ i.below) = all_are (reverse f.activations) (i.top ∷ i.below) stands.activations in
      joined (activation_by p) f.activations
      ∙ ap (λ xs. flat_map (λ (t : List ℕ). t) (map (activation_by p) xs)) (sym (reverse-reverse f.activations))
      ∙ ap (flat_map (λ (t : List ℕ). t))
      (map-reverse (activation_by p) (reverse f.activations) ∙ ap reverse same
      ∙ sym (map-reverse (activation_text (label p)) (i.top ∷ i.below)))
      ∙ sym (joined (activation_text (label p)) (reverse (i.top ∷ i.below)))
