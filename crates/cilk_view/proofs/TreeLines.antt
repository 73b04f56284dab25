-- The line of an instance ever made is what the definition says.
use Rattle.std.proofs.Common.{◌≡◌, ℕ, zero, suc, ◌<◌, Bool, true, false, cond, ◌||◌, List, [], ◌∷◌, ◌++◌, map, length, Option, Some, None, refl, sym}
use Rattle.std.proofs.Common.{ap, ◌∙◌, subst, All, nat_eq, slice_index_or, if◌then◌else◌}
use Rattle.std.specs.Prelude.{codes, decimal, flat_map, is_some, option_map, slice_get}
use Rattle.std.specs.Global.{Vec}
use Rattle.std.specs.List.{list_any}
use Rattle.std.proofs.lemmas.List.Elements.{All-head, All-tail}
use Rattle.cilk_machine_agree.specs.syntax.Tree.{Program}
use Rattle.cilk_load.specs.labelled.Labelled.{Labelled, Body}
use Rattle.cilk_load.specs.labelled.Bodies.{label}
use Rattle.cilk_machine_agree.specs.model.Path.{Path, same_path, is_that, path_text}
use Rattle.cilk_machine_agree.specs.model.Instance as model
use Rattle.cilk_machine_agree.specs.model.Instance.{Instance, body_at, no_body}
use Rattle.cilk_machine_agree.specs.model.State.{instance_at}
use Rattle.cilk_machine_agree.specs.model.Hands.{WorkerOf, named}
use Rattle.cilk_machine_agree.specs.model.Run.{Position}
use Rattle.cilk_machine_agree.specs.runs.Hands.{EachInItsPlace}
use Rattle.cilk_machine_agree.specs.nodes.Bodies.{body_table}
use Rattle.cilk_machine_agree.specs.frame.Frames.{Frame, top_of}
use Rattle.cilk_machine_agree.specs.frame.Stands.{lowest_of, bodies_of}
use Rattle.cilk_machine_agree.specs.spawn.declared.delivery.Delivery.{Delivery}
use Rattle.cilk_machine_agree.specs.spawn.declared.fate.Fate.{Fate}
use Rattle.cilk_machine_agree.specs.spawn.declared.fate.Fate.TheVariants.{Live, Returned, Delivered, Aborted}
use Rattle.cilk_machine_agree.specs.spawn.Nodes as nodes
use Rattle.cilk_machine_agree.specs.spawn.Nodes.{Node, IsTree, node_at, path_at}
use Rattle.cilk_machine_agree.proofs.spawn_laws.Trees.{live_there, names}
use Rattle.cilk_machine_agree.proofs.spawn_laws.Paths.{number_is_path}
use Rattle.cilk_machine_agree.specs.sched.Count.{AllAt, AllHeld}
use Rattle.cilk_machine_agree.proofs.sched_laws.Count.{AllHeld-weaker}
use Rattle.std.specs.Prelude.{IfSome}
use Rattle.cilk_machine_agree.specs.Alike.{SameDeliveries}
use Rattle.cilk_machine_agree.specs.Agrees.{MachineParts, Held, Agrees, name_in}
use Rattle.cilk_machine_agree.specs.Fated.{fate_named, Fated}
use Rattle.cilk_machine_agree.specs.model.ViewTrees.{lowest, holder_text, place_text, waiting_text, aborted_text, live_text, name_of, fate_text}
use Rattle.cilk_machine_agree.specs.model.ViewTrees.{state_text, path_line}
use Rattle.cilk_machine_agree.specs.model.Texts.{line_at}
use Rattle.cilk_view.specs.WhereLines.{line_number}
use Rattle.cilk_view.specs.Finding.{frame_among, frame_live}
use Rattle.cilk_view.specs.Sorting.{IsMade, paths_in}
use Rattle.cilk_view.specs.Trees.{name_by, procedure_name, is_of, is_among, holder_by, place_by, live_by, state_by, line_by, lines_by}
use Rattle.cilk_view.proofs.Links.{line_is}
use Rattle.cilk_view.proofs.Finds.{Made, no_instance, instance_there, frame_stands, frame_there}

name_among : (bodies : List Body) (b : ℕ) → name_by (slice_get (map body_table bodies) b) ≡ (slice_index_or bodies b no_body).name
name_among [] zero = refl
name_among [] (suc b) = refl
name_among (body ∷ bodies) zero = refl
name_among (body ∷ bodies) (suc b) = name_among bodies b

name_is : (p : Program) (b : ℕ) → procedure_name p b ≡ (body_at (label p) b).name
name_is p b = name_among (label p).bodies b

lowest_is : (a : model.Activation) (below : List model.Activation) → lowest_of a.body (bodies_of below) ≡ (lowest a below).body
lowest_is a [] = refl
lowest_is a (b ∷ below) = lowest_is b below

same_count : (program : Labelled) (up : ℕ → Path) (b : ℕ) (ds : List Delivery) (es : List model.Delivery)
    → SameDeliveries program up b ds es → length ds ≡ length es
same_count program up b [] [] h = refl
same_count program up b [] (e ∷ es) h = absurd h
same_count program up b (d ∷ ds) [] h = absurd h
same_count program up b (d ∷ ds) (e ∷ es) h = ap suc (same_count program up b ds es h.1)

either : (b : Bool) (f : Frame) (o : Option Frame) → is_some (cond b (Some f) o) ≡ b || is_some o
either true f o = refl
either false f o = refl

module _ (ns : List Node) (t : IsTree ns) (id : ℕ) (there : id < length ns) where
  hand_is : (hand : Option Frame) → IfSome hand (Made ns) → is_of id hand ≡ is_that (path_at ns id) (option_map (name_in ns) hand)
  hand_is None made = refl
  hand_is (Some f) made = number_is_path ns id f.id t there made

  deque_is : (deque : List Frame) → All (Made ns) deque → is_among id deque ≡ list_any (same_path (path_at ns id)) (map (name_in ns) deque)
  deque_is [] made = refl
  deque_is (f ∷ deque) made =
      either (nat_eq f.id id) f (frame_among id deque)
      ∙ (λ i. number_is_path ns id f.id t there (All-head (Made ns) f deque made) i || deque_is deque (All-tail (Made ns) f deque made) i)

  holder_is : (w : ℕ) (places : List (WorkerOf Frame)) → AllHeld (Made ns) places
      → holder_by id w places ≡ holder_text w (named (name_in ns) places) (path_at ns id)
  holder_is w [] made = refl
  holder_is w (at ∷ places) made =
      let own = All-head (AllAt (Made ns)) at places made in
      let hand = hand_is at.hand own.0 in
      let deque = deque_is at.deque own.1 in
      let rest = holder_is (suc w) places (All-tail (AllAt (Made ns)) at places made) in
      λ i. if hand i then codes "hand " ++ decimal w else (if deque i then codes "deque " ++ decimal w else rest i)

module _ (p : Program) (m : MachineParts) (who : ℕ → Instance) (at : Position) (agrees : Agrees p m who at.standing) (placed : EachInItsPlace at.standing)
    (fated : Fated (label p) m.nodes at.events) where
  place_is : (id : ℕ) (o : Option Frame) → id < length m.nodes → (node_at m.nodes id).parked ≡ o
      → place_by m.places id o ≡ place_text at.standing.scheduler (path_at m.nodes id)
  place_is id (Some f) there e =
      sym (ap (λ b. if b then codes "parked" else holder_text 1 at.standing.scheduler.places (path_at m.nodes id)) (agrees.parked id there ∙ ap is_some e))
  place_is id None there e =
      holder_is m.nodes agrees.tree id there 1 m.places
      (AllHeld-weaker (Held p m.nodes who) (Made m.nodes) (λ f h. live_there m.nodes f.id h.live) m.places agrees.held)
      ∙ ap (λ places. holder_text 1 places (path_at m.nodes id)) (sym agrees.places)
      ∙ sym (ap (λ b. if b then codes "parked" else holder_text 1 at.standing.scheduler.places (path_at m.nodes id)) (agrees.parked id there ∙ ap is_some e))

  live_is : (id : ℕ) (o : Option Frame) → nodes.is_live (node_at m.nodes id) ≡ true → frame_live m.nodes m.places id ≡ o
      → live_by p m.nodes m.places id o ≡ live_text (label p) at.standing.scheduler (path_at m.nodes id) (who id)
  live_is id None live e = absurd (frame_there p m who at.standing agrees id live placed e)
  live_is id (Some f) live e =
      let i = who id in
      let there = live_there m.nodes id live in
      let tells = agrees.tells id live in
      let name : procedure_name p (node_at m.nodes id).procedure ≡ (body_at (label p) (lowest i.top i.below).body).name =
      name_is p (node_at m.nodes id).procedure ∙ ap (λ b. (body_at (label p) b).name) (tells.procedure ∙ lowest_is i.top i.below) in
      let place = place_is id (node_at m.nodes id).parked there refl in
      let line : line_number p (top_of f).node
      ≡ line_at (label p) i.top.items = sym (line_is (label p) f i (frame_stands p m who at.standing agrees id f live e)) in
      let waits : length (node_at m.nodes id).waiting ≡ length i.waiting =
      same_count (label p) (path_at m.nodes) (node_at m.nodes id).procedure (node_at m.nodes id).waiting i.waiting tells.waiting in
      λ j. name j ++ (codes " " ++ (place j ++ (codes " line " ++ (decimal (line j) ++ (waiting_text (waits j) ++ aborted_text (tells.aborted j))))))

  gone : (id : ℕ) → id < length m.nodes → nodes.is_live (node_at m.nodes id) ≡ false → instance_at at.standing.state.instances (path_at m.nodes id) ≡ None
  gone id there dead =
      no_instance p m who at.standing agrees (path_at m.nodes id)
      (λ j live same.
      let one : j ≡ id = names m.nodes agrees.tree j id (live_there m.nodes j live) there same in
      let lives : nodes.is_live (node_at m.nodes id) ≡ true = subst (λ k. nodes.is_live (node_at m.nodes k) ≡ true) one live in
      cc)

  ended_is : (id : ℕ) (fate : Fate) → id < length m.nodes → (node_at m.nodes id).fate ≡ fate → nodes.is_live (node_at m.nodes id) ≡ false
      → procedure_name p (node_at m.nodes id).procedure ++ fate_text (Some (fate_named fate))
      ≡ state_text (label p) at (path_at m.nodes id) (instance_at at.standing.state.instances (path_at m.nodes id))
  ended_is id fate there e dead =
      (λ j. name_is p (node_at m.nodes id).procedure j ++ fate_text (Some (fate_named fate)))
      ∙ sym (ap (state_text (label p) at (path_at m.nodes id)) (gone id there dead)
      ∙ (λ j. name_of (label p) (fated.procedures id there j) ++ fate_text (fated.fates id there j))
      ∙ ap (λ (f : Fate). name_of (label p) (Some (node_at m.nodes id).procedure) ++ fate_text (Some (fate_named f))) e)

  state_is : (id : ℕ) (fate : Fate) → id < length m.nodes → (node_at m.nodes id).fate ≡ fate
      → state_by p m.nodes m.places id fate ≡ state_text (label p) at (path_at m.nodes id) (instance_at at.standing.state.instances (path_at m.nodes id))
  state_is id Live there e =
      let live : nodes.is_live (node_at m.nodes id) ≡ true = ap (λ (f : Fate). nodes.lives f) e in
      live_is id (frame_live m.nodes m.places id) live refl
      ∙ sym (ap (state_text (label p) at (path_at m.nodes id)) (instance_there p m who at.standing agrees id live))
  state_is id Returned there e = ended_is id Returned there e (ap (λ (f : Fate). nodes.lives f) e)
  state_is id (Delivered k) there e = ended_is id (Delivered k) there e (ap (λ (f : Fate). nodes.lives f) e)
  state_is id (Aborted k) there e = ended_is id (Aborted k) there e (ap (λ (f : Fate). nodes.lives f) e)

  pub line_told : (id : ℕ) → id < length m.nodes → line_by p m.nodes m.places id (path_at m.nodes id) ≡ path_line (label p) at (path_at m.nodes id)
  line_told id there =
      ap (λ text. path_text (path_at m.nodes id) ++ (codes " " ++ (text ++ codes "\n"))) (state_is id (node_at m.nodes id).fate there refl)

  pub lines_are : (made : List (Vec ℕ × ℕ)) → All (IsMade m.nodes) made → lines_by p m.nodes m.places made ≡ flat_map (path_line (label p) at) (paths_in made)
  lines_are [] all = refl
  lines_are (one ∷ made) all =
      let own = All-head (IsMade m.nodes) one made all in
      let rest = lines_are made (All-tail (IsMade m.nodes) one made all) in
      let line : line_by p m.nodes m.places one.1 one.0.items ≡ path_line (label p) at one.0.items =
      ap (line_by p m.nodes m.places one.1) own.1 ∙ line_told one.1 own.0 ∙ ap (path_line (label p) at) (sym own.1) in
      λ j. line j ++ rest j
