-- The logs of nodes.
use Rattle.std.proofs.Common.{◌≡◌, ◌≢◌, ◌<◌, ◌≤◌, ◌+◌, inl, inr, ℕ, zero, suc, max, List, [], ◌∷◌, ◌++◌, length, reverse, map, Some}
use Rattle.std.proofs.Common.{refl, sym, ap, ◌∙◌}
use Rattle.std.proofs.Common.{subst, arith, set, slice_get, slice_index_or, length-append, append_assoc}
use Rattle.std.proofs.lemmas.Option.{slice_get_within, get_or_from_slice_get}
use Rattle.std.proofs.lemmas.List.{reverse-append, length-map, length-reverse, length-set, get_or-set_other, set-append_left}
use Rattle.std.proofs.Math.Nat.{le-max_left, le-max_right}
use Rattle.std.proofs.Math.Seq.{set-append_seam}
use Rattle.cilk_machine.specs.model.Choice.{Choice}
use Rattle.cilk_machine.specs.sched.declared.choice.Choice as code
use Rattle.cilk_machine.specs.sched.Words.{choice_of}
use Rattle.cilk_explore.specs.declared.node.Node.{Node}
use Rattle.cilk_explore.proofs.Fronts.{get-front, get-cases, get-last, set-split, append-none, one-there, some-there}
use Rattle.cilk_explore.specs.Looking.{IsWay, IsLongerBy}
use Rattle.cilk_explore.specs.Logs.{log_behind, logs_behind, logs_of, AreGrown, HaveNoParentBehind}

-- logs of further nodes
pub behind-length : (logs : List (List Choice)) (nodes : List Node) → length (logs_behind logs nodes) ≡ length logs + length nodes
behind-length logs [] = omega arith
behind-length logs (node ∷ nodes) =
    let more = behind-length (logs ++ log_behind logs node ∷ []) nodes in
    let one = length-append logs (log_behind logs node ∷ []) in
    omega (arith, more, one)

pub behind-push : (logs : List (List Choice)) (nodes : List Node) (node : Node)
    → logs_behind logs (nodes ++ node ∷ []) ≡ logs_behind logs nodes ++ log_behind (logs_behind logs nodes) node ∷ []
behind-push logs [] node = refl
behind-push logs (x ∷ nodes) node = behind-push (logs ++ log_behind logs x ∷ []) nodes node

-- those before stay
pub behind-keeps : (logs : List (List Choice)) (nodes : List Node) (k : ℕ) (log : List Choice) → slice_get logs k ≡ Some log
    → slice_get (logs_behind logs nodes) k ≡ Some log
behind-keeps logs [] k log h = h
behind-keeps logs (x ∷ nodes) k log h =
    behind-keeps (logs ++ log_behind logs x ∷ []) nodes k log (get-front logs (log_behind logs x ∷ []) k log h)

-- a node's log is its parent's, and its choice
pub behind-step : (logs : List (List Choice)) (nodes : List Node) (k : ℕ) (node : Node) → slice_get nodes k ≡ Some node → node.parent < length logs + k
    → slice_get (logs_behind logs nodes) (length logs + k) ≡ Some (log_behind (logs_behind logs nodes) node)
behind-step logs [] k node h lt = cc
behind-step logs (x ∷ nodes) zero node h lt =
    let same : x ≡ node = cc in
    let now = logs ++ log_behind logs x ∷ [] in
    let parent = some-there logs node.parent (omega (arith, lt)) in
    let kept = behind-keeps now nodes node.parent parent.0 (get-front logs (log_behind logs x ∷ []) node.parent parent.0 parent.1) in
    let old : slice_index_or logs node.parent [] ≡ parent.0 = get_or_from_slice_get logs node.parent parent.0 [] parent.1 in
    let new : slice_index_or (logs_behind now nodes) node.parent [] ≡ parent.0 = get_or_from_slice_get (logs_behind now nodes) node.parent parent.0 [] kept in
    let whole : log_behind logs x ≡ log_behind (logs_behind now nodes) node =
    ap (log_behind logs) same ∙ ap (λ (front : List Choice). front ++ choice_of node.choice ∷ []) (old ∙ sym new) in
    let none_is : length logs + 0 ≡ length logs = omega arith in
    ap (λ i. slice_get (logs_behind now nodes) i) none_is
    ∙ behind-keeps now nodes (length logs) (log_behind logs x) (get-last logs (log_behind logs x)) ∙ ap Some whole
behind-step logs (x ∷ nodes) (suc k) node h lt =
    let now = logs ++ log_behind logs x ∷ [] in
    let one : length now ≡ length logs + 1 = length-append logs (log_behind logs x ∷ []) in
    let same : length logs + suc k ≡ length now + k = omega (arith, one) in
    ap (λ i. slice_get (logs_behind now nodes) i) same ∙ behind-step now nodes k node h (omega (arith, lt, one))

pub logs-length : (nodes : List Node) → length (logs_of nodes) ≡ length nodes
logs-length [] = refl
logs-length (x ∷ nodes) = behind-length ([] ∷ []) nodes ∙ omega arith

pub logs-push : (nodes : List Node) (node : Node) → 0 < length nodes
    → logs_of (nodes ++ node ∷ []) ≡ logs_of nodes ++ log_behind (logs_of nodes) node ∷ []
logs-push [] node lt = absurd (omega (arith, lt))
logs-push (x ∷ nodes) node lt = behind-push ([] ∷ []) nodes node

pub logs-first : (nodes : List Node) → 0 < length nodes → slice_get (logs_of nodes) 0 ≡ Some []
logs-first [] lt = absurd (omega (arith, lt))
logs-first (x ∷ nodes) lt = behind-keeps ([] ∷ []) nodes 0 [] refl

pub logs-step : (nodes : List Node) (k : ℕ) (node : Node) → AreGrown nodes → slice_get nodes k ≡ Some node → 0 < k
    → slice_get (logs_of nodes) k ≡ Some (log_behind (logs_of nodes) node)
logs-step [] k node grown h lt = cc
logs-step (x ∷ nodes) zero node grown h lt = absurd (omega (arith, lt))
logs-step (x ∷ nodes) (suc k) node grown h lt =
    let below = grown.below (suc k) node h (omega arith) in
    let first : List (List Choice) = [] ∷ [] in
    let place : suc k ≡ length first + k = omega arith in
    ap (slice_get (logs_behind first nodes)) place ∙ behind-step first nodes k node h (omega (arith, below))

-- another node in place of one that is no node's parent: its log is another, and no other is
behind-set : (logs : List (List Choice)) (nodes : List Node) (i : ℕ) (log : List Choice) → i < length logs
    → ((k : ℕ) (x : Node) → slice_get nodes k ≡ Some x → x.parent ≢ i) → logs_behind (set logs i log) nodes ≡ set (logs_behind logs nodes) i log
behind-set logs [] i log lt none = refl
behind-set logs (x ∷ nodes) i log lt none =
    let one = log_behind logs x in
    let same : log_behind (set logs i log) x ≡ one =
    ap (λ (front : List Choice). front ++ choice_of x.choice ∷ []) (get_or-set_other logs i x.parent log [] (none 0 x refl)) in
    let longer : length (logs ++ one ∷ []) ≡ length logs + 1 = length-append logs (one ∷ []) in
    ap (λ (l : List Choice). logs_behind (set logs i log ++ l ∷ []) nodes) same
    ∙ ap (λ (xs : List (List Choice)). logs_behind xs nodes) (sym (set-append_left logs (one ∷ []) i log lt))
    ∙ behind-set (logs ++ one ∷ []) nodes i log (omega (arith, lt, longer)) (λ k y h. none (suc k) y h)

behind-put : (logs : List (List Choice)) (nodes : List Node) (i : ℕ) (node : Node) → i < length nodes → node.parent < length logs + i
    → ((k : ℕ) (x : Node) → slice_get nodes k ≡ Some x → x.parent ≢ length logs + i)
    → logs_behind logs (set nodes i node) ≡ set (logs_behind logs nodes) (length logs + i) (log_behind (logs_behind logs nodes) node)
behind-put logs [] i node lt less none = absurd (omega (arith, lt))
behind-put logs (x ∷ nodes) zero node lt less none =
    let place : length logs + 0 ≡ length logs = omega arith in
    let old = log_behind logs x in
    let new = log_behind logs node in
    let now = logs ++ old ∷ [] in
    let longer : length now ≡ length logs + 1 = length-append logs (old ∷ []) in
    let parent = some-there logs node.parent (omega (arith, less)) in
    let kept = behind-keeps now nodes node.parent parent.0 (get-front logs (old ∷ []) node.parent parent.0 parent.1) in
    let front : slice_index_or logs node.parent [] ≡ parent.0 = get_or_from_slice_get logs node.parent parent.0 [] parent.1 in
    let whole : slice_index_or (logs_behind now nodes) node.parent [] ≡ parent.0 = get_or_from_slice_get (logs_behind now nodes) node.parent parent.0 [] kept in
    let same : new ≡ log_behind (logs_behind now nodes) node =
    ap (λ (log : List Choice). log ++ choice_of node.choice ∷ []) (front ∙ sym whole) in
    ap (λ (xs : List (List Choice)). logs_behind xs nodes) (sym (set-append_seam logs old [] new))
    ∙ behind-set now nodes (length logs) new (omega (arith, longer)) (λ k y h e. none (suc k) y h (e ∙ sym place))
    ∙ ap (λ (log : List Choice). set (logs_behind now nodes) (length logs) log) same
    ∙ ap (λ i. set (logs_behind now nodes) i (log_behind (logs_behind now nodes) node)) (sym place)
behind-put logs (x ∷ nodes) (suc i) node lt less none =
    let now = logs ++ log_behind logs x ∷ [] in
    let one : length now ≡ length logs + 1 = length-append logs (log_behind logs x ∷ []) in
    let same : length now + i ≡ length logs + suc i = omega (arith, one) in
    behind-put now nodes i node (omega (arith, lt)) (omega (arith, less, one)) (λ k y h e. none (suc k) y h (e ∙ same))
    ∙ ap (λ j. set (logs_behind now nodes) j (log_behind (logs_behind now nodes) node)) same

pub logs-put : (nodes : List Node) (number last : ℕ) (node : Node) → HaveNoParentBehind last nodes → last < number → number < length nodes
    → node.parent < number → logs_of (set nodes number node) ≡ set (logs_of nodes) number (log_behind (logs_of nodes) node)
logs-put [] number last node none far lt less = absurd (omega (arith, lt))
logs-put (x ∷ nodes) zero last node none far lt less = absurd (omega (arith, far))
logs-put (x ∷ nodes) (suc i) last node none far lt less =
    let first : List (List Choice) = [] ∷ [] in
    let place : length first + i ≡ suc i = omega arith in
    behind-put first nodes i node (omega (arith, lt)) (omega (arith, less))
    (λ k y h e. let low = none (suc k) y h in absurd (omega (arith, low, far, e)))
    ∙ ap (λ j. set (logs_behind first nodes) j (log_behind (logs_behind first nodes) node)) place

pub grown-put : (nodes : List Node) (number : ℕ) (node : Node) → AreGrown nodes → node.parent < number → AreGrown (set nodes number node)
grown-put nodes number node grown less = record {
  some = (let size = length-set nodes number node in let some = grown.some in omega (arith, size, some));
  below = λ k other h lt. elim (set-split nodes number node k other h) [
    | inl put ↦ subst (λ (x : Node). x.parent < k) (sym put.1) (omega (arith, less, put.0))
    | inr old ↦ grown.below k other old lt
  ];
}

-- no parent is further behind
pub parents-put : (last now : ℕ) (nodes : List Node) (number : ℕ) (node : Node) → HaveNoParentBehind last nodes → now ≡ max last node.parent
    → HaveNoParentBehind now (set nodes number node)
parents-put last now nodes number node none most k other h =
    let le = le-max_left last node.parent in
    let less : node.parent ≤ now = (let right = le-max_right last node.parent in omega (arith, right, most)) in
    elim (set-split nodes number node k other h) [
      | inl put ↦ subst (λ (x : Node). x.parent ≤ now) (sym put.1) less
      | inr old ↦ let low = none k other old in omega (arith, low, le, most)
    ]

pub parents-more : (last now : ℕ) (nodes all : List Node) (node : Node) → HaveNoParentBehind last nodes → now ≡ max last node.parent
    → all ≡ nodes ++ node ∷ [] → HaveNoParentBehind now all
parents-more last now nodes all node none most is =
    let le = le-max_left last node.parent in
    let less : node.parent ≤ now = (let right = le-max_right last node.parent in omega (arith, right, most)) in
    subst (HaveNoParentBehind now) (sym is) (λ k other h. elim (get-cases nodes (node ∷ []) k other h) [
      | inl old ↦ let low = none k other old in omega (arith, low, le, most)
      | inr new ↦ let one = one-there node other new.place new.there in subst (λ (x : Node). x.parent ≤ now) one.1 less
    ])

pub grown-more : (nodes now : List Node) (node : Node) → AreGrown nodes → node.parent < length nodes → now ≡ nodes ++ node ∷ [] → AreGrown now
grown-more nodes now node grown less is =
    subst AreGrown (sym is) (record {
      some = (let size = length-append nodes (node ∷ []) in let some = grown.some in omega (arith, size, some));
      below = λ k other h lt. elim (get-cases nodes (node ∷ []) k other h) [
        | inl old ↦ grown.below k other old lt
        | inr new ↦
            let one = one-there node other new.place new.there in
            let here = new.is in
            subst (λ (x : Node). x.parent < k) one.1 (omega (arith, less, here))
      ];
    })

-- a log is read from its last choice on: what is read stands behind the log of this number
pub record ReadsOn (nodes : List Node) (number at : ℕ) (items : List code.Choice) : Type 0 where
  pub within : at < length nodes
  pub whole : (front : List Choice) → slice_get (logs_of nodes) at ≡ Some front
      → slice_get (logs_of nodes) number ≡ Some (front ++ map choice_of (reverse items))

pub reads-first : (nodes : List Node) (number : ℕ) (items : List code.Choice) → number < length nodes → items ≡ [] → ReadsOn nodes number number items
reads-first nodes number items within none =
    subst (ReadsOn nodes number number) (sym none)
    (record { within = within; whole = λ front h. h ∙ ap Some (sym (append-none front)) })

pub reads-next : (nodes : List Node) (number at : ℕ) (items now : List code.Choice) (node : Node) → AreGrown nodes → slice_get nodes at ≡ Some node → 0 < at
    → ReadsOn nodes number at items → now ≡ items ++ node.choice ∷ [] → ReadsOn nodes number node.parent now
reads-next nodes number at items now node grown here lt reads is =
    let below = grown.below at node here lt in
    let within = reads.within in
    let turned : map choice_of (reverse now) ≡ choice_of node.choice ∷ map choice_of (reverse items) =
    ap (λ (xs : List code.Choice). map choice_of (reverse xs)) is ∙ ap (map choice_of) (reverse-append items (node.choice ∷ [])) in
    record {
      within = omega arith;
      whole = λ front h.
          let parent : slice_index_or (logs_of nodes) node.parent [] ≡ front = get_or_from_slice_get (logs_of nodes) node.parent front [] h in
          let there : slice_get (logs_of nodes) at ≡ Some (front ++ choice_of node.choice ∷ []) =
          logs-step nodes at node grown here lt ∙ ap (λ (xs : List Choice). Some (xs ++ choice_of node.choice ∷ [])) parent in
          reads.whole (front ++ choice_of node.choice ∷ []) there
          ∙ ap Some (append_assoc front (choice_of node.choice ∷ []) (map choice_of (reverse items)) ∙ ap (λ (xs : List Choice). front ++ xs) (sym turned));
    }

pub reads-all : (nodes : List Node) (number at : ℕ) (items now : List code.Choice) → AreGrown nodes → at ≡ 0 → ReadsOn nodes number at items
    → now ≡ reverse items
    → slice_get (logs_of nodes) number ≡ Some (map choice_of now)
reads-all nodes number at items now grown end reads is =
    reads.whole [] (ap (slice_get (logs_of nodes)) end ∙ logs-first nodes grown.some) ∙ ap (λ (xs : List code.Choice). Some (map choice_of xs)) (sym is)

-- the log of a node but the first is longer by a choice than that of its parent
pub longer-by : (nodes : List Node) (k : ℕ) (node : Node) → AreGrown nodes → slice_get nodes k ≡ Some node → 0 < k
    → IsLongerBy (logs_of nodes) k node.parent
longer-by nodes k node grown here lt =
    let below = grown.below k node here lt in
    let inside = slice_get_within nodes k node here in
    let size = logs-length nodes in
    let parent = some-there (logs_of nodes) node.parent (omega (arith, below, inside, size)) in
    let front : slice_index_or (logs_of nodes) node.parent [] ≡ parent.0 = get_or_from_slice_get (logs_of nodes) node.parent parent.0 [] parent.1 in
    record {
      front = parent.0;
      last = choice_of node.choice;
      below = below;
      here = logs-step nodes k node grown here lt ∙ ap (λ (log : List Choice). Some (log ++ choice_of node.choice ∷ [])) front;
      there = parent.1;
    }

-- a log is gone back from its last choice on: so many were taken back, and the log of this number is left
pub record ReadsBack (nodes : List Node) (number at back : ℕ) : Type 0 where
  pub items : List code.Choice
  pub size : length items ≡ back
  pub reads : ReadsOn nodes number at items

pub back-first : (nodes : List Node) (number : ℕ) → number < length nodes → ReadsBack nodes number number 0
back-first nodes number within = record { items = []; size = refl; reads = reads-first nodes number [] within refl }

pub back-next : (nodes : List Node) (number at back : ℕ) (node : Node) → AreGrown nodes → slice_get nodes at ≡ Some node → 0 < at
    → ReadsBack nodes number at back → ReadsBack nodes number node.parent (back + 1)
back-next nodes number at back node grown here lt reads =
    let items = reads.items in
    let size = length-append items (node.choice ∷ []) in
    record {
      items = items ++ node.choice ∷ [];
      size = (let old = reads.size in omega (arith, size, old));
      reads = reads-next nodes number at items (items ++ node.choice ∷ []) node grown here lt reads.reads refl;
    }

-- where both have come to one log
pub way-is : (nodes : List Node) (from to at back : ℕ) (items now : List code.Choice) → ReadsBack nodes from at back → ReadsOn nodes to at items
    → now ≡ reverse items → IsWay (logs_of nodes) from to back (map choice_of now)
way-is nodes from to at back items now left right is =
    let within = right.within in
    let size = logs-length nodes in
    let common = some-there (logs_of nodes) at (omega (arith, within, size)) in
    record {
      front = common.0;
      rest = map choice_of (reverse left.items);
      size = length-map (reverse left.items) choice_of ∙ length-reverse left.items ∙ left.size;
      here = left.reads.whole common.0 common.1;
      there = right.whole common.0 common.1 ∙ ap (λ (xs : List code.Choice). Some (common.0 ++ map choice_of xs)) (sym is);
    }
