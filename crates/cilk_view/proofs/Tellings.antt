-- The views of the tree and of the deques, told entry by entry.
use Rattle.std.proofs.Common.{◌≡◌, ◌<◌, ◌+◌, ◌-◌, ℕ, zero, suc, List, [], ◌∷◌, ◌++◌}
use Rattle.std.proofs.Common.{length, map, drop, Option, Some, None, IfSome, refl, sym, ap, ◌∙◌, subst, arith}
use Rattle.std.proofs.Common.{append_assoc, append-nil, slice_index_or}
use Rattle.std.specs.Prelude.{codes, decimal, flat_map, Result, Ok, Err, OnOk, IfOk, option_map, slice_get}
use Rattle.cilk_machine_agree.specs.syntax.Tree.{Program}
use Rattle.cilk_machine_agree.specs.model.Path.{Path, path_text}
use Rattle.cilk_machine_agree.specs.model.Hands.{WorkerOf, no_place, worker_at}
use Rattle.cilk_machine_agree.specs.model.Workers.{hand_text, paths_text}
use Rattle.cilk_machine_agree.specs.frame.Frames.{Frame}
use Rattle.cilk_machine_agree.specs.spawn.Nodes.{Node, node_at, path_at, IsTree, IsBelow}
use Rattle.cilk_machine_agree.specs.Agrees.{name_in}
use Rattle.cilk_view.specs.declared.link.Link.{Link}
use Rattle.cilk_view.specs.declared.entry.Entry.{Entry}
use Rattle.cilk_view.specs.Ups.{links_of, linked_path, AreUp}
use Rattle.cilk_view.specs.Entries.{entries_text, NamesWithin, Gained}
use Rattle.cilk_view.specs.Trees.{line_by, TellsLines}
use Rattle.cilk_view.specs.Following.{all_paths, beyond, from_here}
use Rattle.cilk_view.specs.WhereLines.{by_worker, deque_line, queued_text}
use Rattle.cilk_view.proofs.Ups.{path_is, are_up}
use Rattle.cilk_view.proofs.Entries.{gained_then, gained_is}
use Rattle.cilk_view.proofs.Ahead.{from_root}
use Rattle.cilk_view.proofs.Lists.{one_queued}

map_long : (ns : List Node) → length (links_of ns) ≡ length ns
map_long [] = refl
map_long (n ∷ ns) = ap suc (map_long ns)

-- there is a link for each instance
pub link_within : (ns : List Node) (links : List (Option Link)) (i : ℕ) → links ≡ links_of ns → i < length ns → i < length links
link_within ns links i same h = subst (λ n. i < n) (sym (ap length same ∙ map_long ns)) h

pub links_up : (ns : List Node) (links : List (Option Link)) → IsTree ns → links ≡ links_of ns → AreUp links
links_up ns links t same = subst AreUp (sym same) (are_up ns t)

-- what an entry with a name says, by the nodes
pub named_is : {A E : Type 0} (ns : List Node) (links : List (Option Link)) (r : Result A E) (old new : List Entry) (i : ℕ) (text other : List ℕ)
    → links ≡ links_of ns
    → path_text (path_at ns i) ++ text ≡ other → OnOk r (Gained links old new (path_text (linked_path links i) ++ text)) → OnOk r (Gained links old new other)
named_is ns links (Ok x) old new i text other same is gained =
    gained_is links old new (path_text (linked_path links i) ++ text) other gained
    (ap (λ ls. path_text (linked_path ls i) ++ text) same ∙ ap (λ p. path_text p ++ text) (path_is ns i) ∙ is)
named_is ns links (Err e) old new i text other same is gained = tt

pub alone_is : {A E : Type 0} (links : List (Option Link)) (r : Result A E) (old new : List Entry) (text other : List ℕ) → text ≡ other
    → OnOk r (Gained links old new text) → OnOk r (Gained links old new other)
alone_is links r old new text other is gained = subst (λ (t : List ℕ). OnOk r (Gained links old new t)) is gained

-- a second part behind a first one
pub tells_then : {A E : Type 0} (links : List (Option Link)) (r : Result A E) (old now new : List Entry) (first second other : List ℕ) → first ++ second ≡ other
    → Gained links old now first → OnOk r (Gained links now new second) → OnOk r (Gained links old new other)
tells_then links (Ok x) old now new first second other is begun gained =
    gained_is links old new (first ++ second) other (gained_then links old now new first second begun gained) is
tells_then links (Err e) old now new first second other is begun gained = tt

pub ok_weaker : {A E : Type 0} (r : Result A E) (P Q : A → Type 0) → ((x : A) → P x → Q x) → IfOk r P → IfOk r Q
ok_weaker (Ok x) P Q weaker holds = weaker x holds
ok_weaker (Err e) P Q weaker holds = tt

-- ---- the tree

-- the text behind a path, put part by part
pub state_put : (b c d state : List ℕ) → b ≡ codes " " → c ≡ b ++ state → d ≡ c ++ codes "\n" → d ≡ codes " " ++ (state ++ codes "\n")
state_put b c d state first second third =
    third ∙ ap (λ t. t ++ codes "\n") (second ∙ ap (λ t. t ++ state) first) ∙ append_assoc (codes " ") state (codes "\n")

no_parent : (ns : List Node) (u : Option ℕ) → IsBelow u 0 → u ≡ None
no_parent ns None below = refl
no_parent ns (Some p) below = absurd (omega (arith, below))

-- nothing is told, and the root comes first
pub none_named : (links : List (Option Link)) (entries : List Entry) → entries ≡ [] → NamesWithin links entries
none_named links entries none = subst (NamesWithin links) (sym none) (λ k d h. absurd (omega (arith, h)))

pub first_there : (ns : List Node) (i : ℕ) → IsTree ns → i ≡ 0 → i < length ns
first_there ns i t is = subst (λ k. k < length ns) (sym is) t.some

pub begun_told : (ns : List Node) (links : List (Option Link)) (entries : List Entry) (i : ℕ) (f : Path → List ℕ) → IsTree ns → entries ≡ [] → i ≡ 0
    → entries_text links entries ++ flat_map f (from_here ns (Some i)) ≡ flat_map f (all_paths ns)
begun_told ns links entries i f t none is =
    (λ j. entries_text links (none j) ++ flat_map f (from_here ns (Some (is j))))
    ∙ ap (flat_map f) (from_root ns t 0 t.some (no_parent ns (node_at ns 0).parent (t.below 0)))

module _ (p : Program) (ns : List Node) (places : List (WorkerOf Frame)) (links : List (Option Link)) where
  -- so much is told, and what is left begins here
  abbrev pub Told : List Entry → Option ℕ → Type 0
  Told entries at = (f : Path → List ℕ) → TellsLines p ns places f → entries_text links entries ++ flat_map f (from_here ns at) ≡ flat_map f (all_paths ns)

  pub told_more : (old new : List Entry) (at : Option ℕ) (id : ℕ) (next : Option ℕ) → at ≡ Some id → id < length ns
      → Gained links old new (line_by p ns places id (path_at ns id)) → from_here ns next ≡ beyond (path_at ns id) (all_paths ns) → Told old at → Told new next
  told_more old new at id next is there gained rest told f tells =
      ap (λ t. t ++ flat_map f (from_here ns next)) gained.told
      ∙ append_assoc (entries_text links old) (line_by p ns places id (path_at ns id)) (flat_map f (from_here ns next))
      ∙ (λ i. entries_text links old ++ (sym (tells id there) i ++ flat_map f (rest i)))
      ∙ ap (λ o. entries_text links old ++ flat_map f (from_here ns o)) (sym is)
      ∙ told f tells

pub fewer : (ns : List Node) (at : Option ℕ) (id : ℕ) (next : Option ℕ) → at ≡ Some id → from_here ns next ≡ beyond (path_at ns id) (all_paths ns)
    → length (from_here ns next) < length (from_here ns at)
fewer ns at id next is rest =
    let a : length (from_here ns next) ≡ length (beyond (path_at ns id) (all_paths ns)) = ap length rest in
    let b : length (from_here ns at) ≡ suc (length (beyond (path_at ns id) (all_paths ns))) = ap (λ o. length (from_here ns o)) is in
    omega (arith, a, b)

pub here_there : (n : ℕ) (at : Option ℕ) (id : ℕ) → at ≡ Some id → IfSome at (λ i. i < n) → id < n
here_there n at id is h = subst (λ o. IfSome o (λ i. i < n)) is h

pub told_all : (told whole : List ℕ) (ns : List Node) (f : Path → List ℕ) (at : Option ℕ) → at ≡ None
    → told ++ flat_map f (from_here ns at) ≡ whole → told ≡ whole
told_all told whole ns f at is so_far = sym (append-nil told) ∙ ap (λ o. told ++ flat_map f (from_here ns o)) (sym is) ∙ so_far

-- ---- the deques

by_workers : (line : ℕ → WorkerOf Frame → List ℕ) (w n : ℕ) (places : List (WorkerOf Frame)) → n < length places
    → by_worker line w (drop n places) ≡ line w (slice_index_or places n no_place) ++ by_worker line (suc w) (drop (suc n) places)
by_workers line w n [] h = absurd (omega (arith, h))
by_workers line w zero (at ∷ places) h = refl
by_workers line w (suc n) (at ∷ places) h = by_workers line w n places (omega (arith, h))

pub place_told : (ns : List Node) (links : List (Option Link)) (places : List (WorkerOf Frame)) (old new : List Entry) (before : ℕ) (whole : List ℕ)
    → Gained links old new (deque_line ns (before + 1) (worker_at places (before + 1))) → before < length places
    → entries_text links old ++ by_worker (deque_line ns) (before + 1) (drop before places) ≡ whole
    → entries_text links new ++ by_worker (deque_line ns) (before + 1 + 1) (drop (before + 1) places) ≡ whole
place_told ns links places old new before whole gained h so_far =
    let index : before + 1 - 1 ≡ before = omega arith in
    let next : before + 1 ≡ suc before = omega arith in
    let after : before + 1 + 1 ≡ suc (before + 1) = omega arith in
    let line = deque_line ns (before + 1) (worker_at places (before + 1)) in
    ap (λ t. t ++ by_worker (deque_line ns) (before + 1 + 1) (drop (before + 1) places)) gained.told
    ∙ append_assoc (entries_text links old) line (by_worker (deque_line ns) (before + 1 + 1) (drop (before + 1) places))
    ∙ ap (λ t. entries_text links old ++ t)
    ((λ i. deque_line ns (before + 1) (slice_index_or places (index i) no_place) ++ by_worker (deque_line ns) (after i) (drop (next i) places))
    ∙ sym (by_workers (deque_line ns) (before + 1) before places h))
    ∙ so_far

pub line_gained : {A E : Type 0} (links : List (Option Link)) (r : Result A E) (ns : List Node) (w : ℕ) (at : WorkerOf Frame)
    (a b c d e f : List Entry) (head : List ℕ)
    → head ≡ decimal w ++ codes ": hand " → Gained links a b head
    → Gained links b c (hand_text (option_map (name_in ns) at.hand)) → Gained links c d (codes " deque")
    → Gained links d e (paths_text (map (name_in ns) at.deque)) → OnOk r (Gained links e f (codes "\n")) → OnOk r (Gained links a f (deque_line ns w at))
line_gained links r ns w at a b c d e f head is one two three four five =
    let hand = hand_text (option_map (name_in ns) at.hand) in
    let deque = paths_text (map (name_in ns) at.deque) in
    let all = gained_then links a d e (head ++ (hand ++ codes " deque")) deque
    (gained_then links a b d head (hand ++ codes " deque") one (gained_then links b c d hand (codes " deque") two three)) four in
    tells_then links r a e f ((head ++ (hand ++ codes " deque")) ++ deque) (codes "\n") (deque_line ns w at)
    (ap (λ h. ((h ++ (hand ++ codes " deque")) ++ deque) ++ codes "\n") is ∙ simp append_assoc) all five

pub queued_told : (ns : List Node) (links : List (Option Link)) (deque : List Frame) (old new : List Entry) (i : ℕ) (whole : List ℕ) → i < length deque
    → Gained links old new (queued_text ns (slice_get deque i))
    → entries_text links old ++ paths_text (map (name_in ns) (drop i deque)) ≡ whole
    → entries_text links new ++ paths_text (map (name_in ns) (drop (i + 1) deque)) ≡ whole
queued_told ns links deque old new i whole below gained so_far =
    one_queued ns deque i (entries_text links old) (entries_text links new) whole below gained.told so_far
