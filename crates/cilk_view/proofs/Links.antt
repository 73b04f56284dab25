-- What the frames, cells and ids tell is what the views of a standing say.
use Rattle.std.proofs.Common.{◌≡◌, ℕ, zero, suc, ◌++◌, ℤ, List, [], ◌∷◌, drop, take, map, length, refl, ap, arith, append_assoc}
use Rattle.std.specs.Prelude.{codes, decimal, option_map, flat_map}
use Rattle.cilk_machine_agree.specs.syntax.Tree as tree
use Rattle.cilk_load.specs.labelled.Bodies.{item_globals}
use Rattle.cilk_machine_agree.specs.model.Path.{Path}
use Rattle.cilk_machine_agree.specs.model.Values.{Values}
use Rattle.cilk_machine_agree.specs.model.Hands.{WorkerOf, named}
use Rattle.cilk_machine_agree.specs.nodes.Slots.{size_of, flat}
use Rattle.cilk_machine_agree.specs.frame.Frames.{Frame}
use Rattle.cilk_machine_agree.specs.spawn.Nodes.{Node}
use Rattle.cilk_machine_agree.specs.declared.lock.Lock.{Lock}
use Rattle.cilk_machine_agree.specs.Outside.{lock_by}
use Rattle.cilk_machine_agree.specs.Agrees.{name_in}
use Rattle.cilk_machine_agree.specs.model.Globals.{globals_text}
use Rattle.cilk_machine_agree.specs.model.Workers.{deques_text}
use Rattle.cilk_view.specs.WhereLines.{by_worker, deque_line}
use Rattle.cilk_view.specs.Globals.{width, globals_by}
use Rattle.std.proofs.lemmas.List.Elements.{All-head, All-tail}
use Rattle.std.proofs.Common.{◌∙◌, sym}
use Rattle.std.specs.Prelude.{unwrap_or, option_and_then, IfSome, Option, Some, None}
use Rattle.cilk_machine_agree.specs.model.Path.{path_text}
use Rattle.cilk_machine_agree.specs.syntax.Tree.{Program}
use Rattle.cilk_load.specs.labelled.Labelled.{Numbered, Labelled}
use Rattle.cilk_load.specs.labelled.Items.{head_of}
use Rattle.cilk_load.specs.labelled.Bodies.{label}
use Rattle.cilk_machine_agree.specs.model.End.{line_of}
use Rattle.cilk_machine_agree.specs.model.Instance.{Instance}
use Rattle.cilk_machine_agree.specs.model.State.{instance_at}
use Rattle.cilk_machine_agree.specs.model.Run.{Standing}
use Rattle.cilk_machine_agree.specs.frame.Frames.{top_of}
use Rattle.cilk_machine_agree.specs.frame.Stands.{StandsFor}
use Rattle.cilk_machine_agree.proofs.frame_laws.Tops.{top-stands}
use Rattle.cilk_machine_agree.specs.spawn.Nodes.{path_at}
use Rattle.cilk_machine_agree.specs.sched.Count.{AllAt, AllHeld}
use Rattle.cilk_machine_agree.specs.Agrees.{MachineParts, Held, Agrees}
use Rattle.cilk_machine_agree.proofs.Found.{found}
use Rattle.cilk_machine_agree.specs.model.Texts.{line_at}
use Rattle.cilk_machine_agree.specs.model.Workers.{line_of_instance, where_path_text, where_text}
use Rattle.cilk_view.specs.WhereLines.{where_frame_text, where_line}

pub deques_are : (ns : List Node) (w : ℕ) (places : List (WorkerOf Frame)) → by_worker (deque_line ns) w places ≡ deques_text w (named (name_in ns) places)
deques_are ns w [] = refl
deques_are ns w (at ∷ places) = ap (λ rest. deque_line ns w at ++ rest) (deques_are ns (suc w) places) ∙ simp append_assoc

pub take_front : (xs ys : List ℤ) (n : ℕ) → length xs ≡ n → take n (xs ++ ys) ≡ xs
take_front [] ys zero h = refl
take_front [] ys (suc n) h = absurd (omega (arith, h))
take_front (x ∷ xs) ys zero h = absurd (omega (arith, h))
take_front (x ∷ xs) ys (suc n) h = ap (λ zs. x ∷ zs) (take_front xs ys n (omega (arith, h)))

pub drop_front : (xs ys : List ℤ) (n : ℕ) → length xs ≡ n → drop n (xs ++ ys) ≡ ys
drop_front [] ys zero h = refl
drop_front [] ys (suc n) h = absurd (omega (arith, h))
drop_front (x ∷ xs) ys zero h = absurd (omega (arith, h))
drop_front (x ∷ xs) ys (suc n) h = drop_front xs ys n (omega (arith, h))

-- the cells of the top level, one variable after another, tell what each variable holds
pub globals_are : (up : ℕ → Path) (items : List tree.Item) (values : Values) (locks : List Lock) → map length values ≡ map size_of (flat_map item_globals items)
    → globals_by up items (flat values) locks ≡ globals_text items values (map (lock_by up) locks)
globals_are up [] values locks sizes = refl
globals_are up (tree.global g ∷ items) [] locks sizes = cc
globals_are up (tree.global g ∷ items) (own ∷ values) locks sizes =
    let size : length own ≡ width g = cc in
    let others : map length values ≡ map size_of (flat_map item_globals items) = cc in
    rw (take_front own (flat values) (width g) size, drop_front own (flat values) (width g) size, globals_are up items values locks others) refl
globals_are up (tree.lock name ∷ items) values [] sizes = globals_are up items values [] sizes
globals_are up (tree.lock name ∷ items) values (l ∷ locks) sizes = rw (globals_are up items values locks sizes) refl
globals_are up (tree.prototype q ∷ items) values locks sizes = globals_are up items values locks sizes
globals_are up (tree.procedure p ∷ items) values locks sizes = globals_are up items values locks sizes

pub by_head : (program : Labelled) (o : Option Numbered) (n : ℕ) → option_map (λ (h : Numbered). h.number) o ≡ Some n
    → unwrap_or (option_and_then (λ (h : Numbered). line_of program h.number) o) 0 ≡ unwrap_or (line_of program n) 0
by_head program None n e = cc
by_head program (Some h) n e = let same : h.number ≡ n = cc in ap (λ k. unwrap_or (line_of program k) 0) same

-- the line of an instance is that of the node of its frame's top
pub line_is : (program : Labelled) (f : Frame) (i : Instance) → StandsFor program f i
    → line_at program i.top.items ≡ unwrap_or (line_of program (top_of f).node) 0
line_is program f i stands = by_head program (head_of i.top.items) (top_of f).node (top-stands program f i stands).acts.node_is

module _ (p : Program) (m : MachineParts) (who : ℕ → Instance) (at : Standing) (agrees : Agrees p m who at) where
  where_frame_is : (hand : Option Frame) → IfSome hand (Held p m.nodes who)
      → where_frame_text p m.nodes hand ≡ where_path_text (label p) at.state.instances (option_map (name_in m.nodes) hand)
  where_frame_is None held = refl
  where_frame_is (Some f) held =
      let there : instance_at at.state.instances (path_at m.nodes f.id) ≡ Some (who f.id) =
      ap (λ es. instance_at es (path_at m.nodes f.id)) agrees.instances ∙ found m.nodes who f.id agrees.tree held.live
      in
      ap (λ k. codes " at " ++ (path_text (path_at m.nodes f.id) ++ (codes " line " ++ decimal k)))
      (sym (ap (line_of_instance (label p)) there ∙ line_is (label p) f (who f.id) held.stands))

  pub where_lines_are : (w : ℕ) (places : List (WorkerOf Frame)) → AllHeld (Held p m.nodes who) places
      → by_worker (where_line p m.nodes) w places ≡ where_text (label p) at.state.instances w (named (name_in m.nodes) places)
  where_lines_are w [] held = refl
  where_lines_are w (x ∷ places) held =
      let here = where_frame_is x.hand (All-head (AllAt (Held p m.nodes who)) x places held).0 in
      let rest = where_lines_are (suc w) places (All-tail (AllAt (Held p m.nodes who)) x places held) in
      ap (λ xs. xs ++ by_worker (where_line p m.nodes) (suc w) places)
      (ap (λ t. codes "worker " ++ (decimal w ++ (t ++ codes "\n"))) here)
      ∙ ap (λ xs. (codes "worker " ++ (decimal w ++ (where_path_text (label p) at.state.instances (option_map (name_in m.nodes) x.hand)
      ++ codes "\n"))) ++ xs) rest
      ∙ simp append_assoc
