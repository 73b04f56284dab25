-- What one changed node leaves of a tree, and what it makes of the instances.
use Rattle.std.proofs.Common.{◌≡◌, ◌≢◌, ◌<◌, ℕ, zero, suc, true, false, List, [], ◌∷◌, map, length, length-set, refl, sym, ap, ◌∙◌, arith, inl, inr}
use Rattle.std.proofs.Common.{slice_set, if◌then◌else◌}
use Rattle.std.proofs.lemmas.Simd.{map-map}
use Rattle.cilk_laws_model.specs.model.Path.{Path, same_path}
use Rattle.cilk_laws_model.specs.model.Instance.{Instance}
use Rattle.cilk_laws_model.specs.model.State.{Entry, change, changed}
use Rattle.cilk_spawn.specs.Nodes.{Node, IsTree, AreFrom, no_node, node_at, is_live, live_ids, marked_below, path_at}
use Rattle.cilk_spawn.proofs.Lists.{decide, at_set, map_those}
use Rattle.cilk_spawn.proofs.Trees.{Linked, SameLives, linked_set, lives_set, tree_set, ids_same, path_linked}
use Rattle.cilk_spawn.proofs.Grown.{same_number, other_number}
use Rattle.cilk_spawn.proofs.Paths.{same_here, other_there}
use Rattle.cilk_spawn.proofs.Marks.{marked_node, marked_length, marked_lives, tree_marked, path_marked}
use Rattle.cilk_machine_agree.specs.Alike.{SameLinks, procedure_in}
use Rattle.cilk_machine_agree.specs.Agrees.{instead, entry_of, instances_of}

-- the same ids at the same paths and of the same procedures, and the same of them live
pub record Keeps (ns ms : List Node) : Type 0 where
  pub tree : IsTree ms
  pub size : length ms ≡ length ns
  pub up : path_at ms ≡ path_at ns
  pub procedures : procedure_in ms ≡ procedure_in ns
  pub lives : SameLives ns ms

-- node k is n, and no other is changed
pub record Sets (ns ms : List Node) (k : ℕ) (n : Node) : Type 0 where
  pub keeps : Keeps ns ms
  pub own : node_at ms k ≡ n
  pub others : (i : ℕ) → i ≢ k → node_at ms i ≡ node_at ns i

pub keeps-all : (ns : List Node) → IsTree ns → Keeps ns ns
keeps-all ns t = record { tree = t; size = refl; up = refl; procedures = refl; lives = λ i. refl }

pub links-all : (n : Node) → SameLinks n n
links-all n = record { parent = refl; ordinal = refl; procedure = refl; live = refl; aborted = refl; children = omega arith }

linked : (a b : Node) → SameLinks a b → Linked a b
linked a b l = record { parent = l.parent; ordinal = l.ordinal; children = l.children }

procedure-set : (ns : List Node) (k : ℕ) (n : Node) → k < length ns → n.procedure ≡ (node_at ns k).procedure → (i : ℕ)
    → procedure_in (slice_set ns k n) i ≡ procedure_in ns i
procedure-set ns k n h e i =
    elim (at_set ns k n i no_node h) [
      | inl q ↦ ap (λ (m : Node). m.procedure) q.1 ∙ e ∙ ap (procedure_in ns) (sym q.0)
      | inr q ↦ ap (λ (m : Node). m.procedure) q.1
    ]

pub sets : (ns : List Node) (k : ℕ) (n : Node) → IsTree ns → k < length ns → SameLinks (node_at ns k) n → AreFrom ns k n.waiting
    → Sets ns (slice_set ns k n) k n
sets ns k n t h links from =
    let l = linked (node_at ns k) n links in
    record {
      keeps = record {
        tree = tree_set ns k n h l links.live links.aborted from t;
        size = length-set ns k n;
        up = λ j i. path_linked ns (slice_set ns k n) t (linked_set ns k n h l) i j;
        procedures = λ j i. procedure-set ns k n h links.procedure i j;
        lives = lives_set ns k n h links.live;
      };
      own = elim (at_set ns k n k no_node h) [
        | inl e ↦ e.1
        | inr e ↦ absurd (e.0 refl)
      ];
      others = λ i ne. elim (at_set ns k n i no_node h) [
        | inl e ↦ absurd (ne e.0)
        | inr e ↦ e.1
      ];
    }

-- marks change no name
pub keeps-marked : (ns : List Node) (k : ℕ) → IsTree ns → Keeps ns (marked_below ns k)
keeps-marked ns k t = record {
  tree = tree_marked ns k t;
  size = marked_length ns k;
  up = λ j i. path_marked ns k i t j;
  procedures = λ j i. ap (λ (n : Node). n.procedure) (marked_node ns k i) j;
  lives = marked_lives ns k;
}

pub instead-here : {A : Type 0} (f : ℕ → A) (k : ℕ) (x : A) (i : ℕ) → i ≡ k → instead f k x i ≡ x
instead-here f k x i e = ap (λ b. if b then x else f i) (same_number i k e)

pub instead-there : {A : Type 0} (f : ℕ → A) (k : ℕ) (x : A) (i : ℕ) → i ≢ k → instead f k x i ≡ f i
instead-there f k x i ne = ap (λ b. if b then x else f i) (other_number i k ne)

-- each live instance becomes what g makes of it
pub each-changes : (ns ms : List Node) (who now : ℕ → Instance) (g : Entry → Entry) → Keeps ns ms
    → ((i : ℕ) → i < length ns → entry_of ns now i ≡ g (entry_of ns who i))
    → instances_of ms now ≡ map g (instances_of ns who)
each-changes ns ms who now g keeps same =
    (λ j. map (λ i. record { path = keeps.up j i; instance = now i }) (ids_same ns ms keeps.size keeps.lives j))
    ∙ map_those (entry_of ns now) (λ i. g (entry_of ns who i)) (λ i. is_live (node_at ns i)) (length ns) (λ i h live. same i h)
    ∙ sym (map-map g (entry_of ns who) (live_ids ns))

change-here : (p : Path) (f : Instance → Instance) (e : Entry) → same_path e.path p ≡ true → change p f e ≡ record e { instance = f e.instance }
change-here p f e h = ap (λ b. if b then record e { instance = f e.instance } else e) h

change-there : (p : Path) (f : Instance → Instance) (e : Entry) → same_path e.path p ≡ false → change p f e ≡ e
change-there p f e h = ap (λ b. if b then record e { instance = f e.instance } else e) h

pub entry-changes : (ns : List Node) (who : ℕ → Instance) (k i : ℕ) (f : Instance → Instance) → IsTree ns → k < length ns → i < length ns
    → entry_of ns (instead who k (f (who k))) i ≡ change (path_at ns k) f (entry_of ns who i)
entry-changes ns who k i f t hk hi =
    elim (decide i k) [
      | inl e ↦
          (λ j. record { path = path_at ns i; instance = (instead-here who k (f (who k)) i e ∙ ap (λ l. f (who l)) (sym e)) j })
          ∙ sym (change-here (path_at ns k) f (entry_of ns who i) (same_here ns i k e))
      | inr ne ↦
          (λ j. record { path = path_at ns i; instance = instead-there who k (f (who k)) i ne j })
          ∙ sym (change-there (path_at ns k) f (entry_of ns who i) (other_there ns i k t hi hk ne))
    ]

-- one of them becomes what f makes of it
pub one-changes : (ns ms : List Node) (who : ℕ → Instance) (k : ℕ) (f : Instance → Instance) → Keeps ns ms → IsTree ns → k < length ns
    → instances_of ms (instead who k (f (who k))) ≡ changed (path_at ns k) f (instances_of ns who)
one-changes ns ms who k f keeps t h =
    each-changes ns ms who (instead who k (f (who k))) (change (path_at ns k) f) keeps (λ i hi. entry-changes ns who k i f t h hi)

-- what was written where it stood
pub set-same : (ns : List Node) (k : ℕ) → slice_set ns k (node_at ns k) ≡ ns
set-same [] k = refl
set-same (n ∷ ns) zero = refl
set-same (n ∷ ns) (suc k) = ap (λ ms. n ∷ ms) (set-same ns k)
