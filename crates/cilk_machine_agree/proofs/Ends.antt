-- An instance that ends; one that stays in its place, and whose node is changed; and a parked parent that comes to a hand.
use Rattle.std.proofs.Common.{◌≡◌, ◌≢◌, ◌<◌, ℕ, Bool, true, false, not, ◌&&◌, nat_eq, cond, List, [], ◌∷◌, map, length, length-set, Some, None}
use Rattle.std.proofs.Common.{is_some, refl, sym, ap, ◌∙◌, subst, arith, inl, inr, slice_set}
use Rattle.std.specs.List.{filter, range_with_len}
use Rattle.cilk_laws_model.specs.syntax.Tree.{Program}
use Rattle.cilk_laws_model.specs.labelled.Labelled.{Labelled}
use Rattle.cilk_laws_model.specs.labelled.Bodies.{label}
use Rattle.cilk_laws_model.specs.model.Path.{Path, same_path}
use Rattle.cilk_laws_model.specs.model.Instance.{Instance}
use Rattle.cilk_laws_model.specs.model.State.{Instances, State, changed, without}
use Rattle.cilk_laws_model.specs.model.Hands.{with_hand, named}
use Rattle.cilk_laws_model.specs.model.Scheduler as sched
use Rattle.cilk_laws_model.specs.model.Run.{Standing}
use Rattle.cilk_sched.specs.frame.Frames.{Frame}
use Rattle.cilk_sched.specs.frame.Stands.{StandsFor}
use Rattle.cilk_spawn.specs.declared.fate.Fate.{Fate}
use Rattle.cilk_spawn.specs.Nodes.{Node, IsTree, no_node, node_at, is_live, lives, live_ids, has_live_child, with_parked, ended, path_at}
use Rattle.cilk_spawn.proofs.Lists.{decide, at_set, those_same}
use Rattle.cilk_spawn.proofs.Trees.{path_linked, live_there}
use Rattle.cilk_spawn.proofs.Grown.{same_number, other_number, both_and, ids_ended, ended_node, ended_linked, ended_lives, tree_ended}
use Rattle.cilk_spawn.proofs.Paths.{same_here, other_there}
use Rattle.cilk_sched.specs.Count.{AllHeld}
use Rattle.cilk_sched.proofs.Count.{AllHeld-weaker}
use Rattle.cilk_sched.proofs.PathNames.{named-with_hand}
use Rattle.cilk_machine_agree.specs.Outside.{Outside, SameOutside}
use Rattle.cilk_machine_agree.specs.Alike.{NodeStandsFor, procedure_in}
use Rattle.cilk_machine_agree.specs.Agrees.{MachineParts, Held, Agrees, instead, entry_of, instances_of, name_in}
use Rattle.cilk_machine_agree.proofs.Sets.{Sets, sets, instead-here, instead-there}
use Rattle.cilk_machine_agree.proofs.Change.{change}
use Rattle.cilk_machine_agree.proofs.Waits.{instead-same, unchanged}
use Rattle.cilk_machine_agree.proofs.Frames.{held-with_hand, held-both}

-- the instances do not count for what is outside
pub outside-of : (program : Labelled) (up : ℕ → Path) (n : ℕ) (o : Outside) (s : State) (es : Instances) → SameOutside program up n o s
    → SameOutside program up n o (record s { instances = es })
outside-of program up n o s es h = record {
  cells = h.cells;
  sizes = h.sizes;
  locks = h.locks;
  holders = h.holders;
  output = h.output;
  outcome = h.outcome;
  trapper = h.trapper;
}

-- a filter of entries is one of their ids
kept_one : {A B : Type 0} (f : A → B) (p : B → Bool) (x : A) (b : Bool) (xs : List A) → filter p (map f xs) ≡ map f (filter (λ y. p (f y)) xs)
    → cond b (f x ∷ filter p (map f xs)) (filter p (map f xs)) ≡ map f (cond b (x ∷ filter (λ y. p (f y)) xs) (filter (λ y. p (f y)) xs))
kept_one f p x true xs e = ap (λ ys. f x ∷ ys) e
kept_one f p x false xs e = e

kept : {A B : Type 0} (f : A → B) (p : B → Bool) (xs : List A) → filter p (map f xs) ≡ map f (filter (λ y. p (f y)) xs)
kept f p [] = refl
kept f p (x ∷ xs) = kept_one f p x (p (f x)) xs (kept f p xs)

no_more : (l : Bool) → (l && false) ≡ true → ⊥
no_more true h = cc
no_more false h = cc

module _ (p : Program) (m : MachineParts) (who : ℕ → Instance) (at : Standing) (h : Agrees p m who at) where
  abbrev ns : List Node
  ns = m.nodes

  number : (i k : ℕ) → i < length ns → k < length ns → nat_eq i k ≡ same_path (path_at ns i) (path_at ns k)
  number i k hi hk =
      elim (decide i k) [
        | inl e ↦ same_number i k e ∙ sym (same_here ns i k e)
        | inr ne ↦ other_number i k ne ∙ sym (other_there ns i k h.tree hi hk ne)
      ]

  -- k ends, and leaves w's hand empty
  module _ (k w : ℕ) (fate : Fate) (over : lives fate ≡ false) (inside : k < length ns) (childless : has_live_child ns k ≡ false)
      (free : (node_at ns k).parked ≡ None)
      (others : AllHeld (λ g. g.id ≢ k) (with_hand m.places w None)) (o : Outside) (s : State) where
    abbrev ms : List Node
    ms = ended ns k fate

    up : path_at ms ≡ path_at ns
    up = λ j i. path_linked ns ms h.tree (ended_linked ns k fate inside) i j

    size : length ms ≡ length ns
    size = length-set ns k (ended_node ns k fate)

    other : (i : ℕ) → i ≢ k → node_at ms i ≡ node_at ns i
    other i ne = elim (at_set ns k (ended_node ns k fate) i no_node inside) [
      | inl e ↦ absurd (ne e.0)
      | inr e ↦ e.1
    ]

    as-parked : (i : ℕ) → (node_at ms i).parked ≡ (node_at ns i).parked
    as-parked i = elim (at_set ns k (ended_node ns k fate) i no_node inside) [
      | inl e ↦ ap (λ (n : Node). n.parked) e.1 ∙ sym free ∙ ap (λ j. (node_at ns j).parked) (sym e.0)
      | inr e ↦ ap (λ (n : Node). n.parked) e.1
    ]

    procedures : procedure_in ms ≡ procedure_in ns
    procedures = λ j i. elim (at_set ns k (ended_node ns k fate) i no_node inside) as (λ _. procedure_in ms i ≡ procedure_in ns i) [
      | inl e ↦ ap (λ (n : Node). n.procedure) e.1 ∙ ap (procedure_in ns) (sym e.0)
      | inr e ↦ ap (λ (n : Node). n.procedure) e.1
    ] j

    lives-other : (i : ℕ) → is_live (node_at ms i) ≡ true → i ≢ k
    lives-other i live e = no_more (is_live (node_at ns i))
        (ap (λ b. is_live (node_at ns i) && not b) (sym (same_number i k e)) ∙ sym (ended_lives ns k fate over inside i) ∙ live)

    entries : instances_of ms who ≡ without (path_at ns k) (instances_of ns who)
    entries =
        let live : ℕ → Bool = λ j. is_live (node_at ns j) in
        (λ j. map (λ i. record { path = up j i; instance = who i }) (ids_ended ns k fate over inside j))
        ∙ ap (map (entry_of ns who)) (sym (both_and live (λ j. not (nat_eq j k)) (range_with_len 0 (length ns)))
        ∙ those_same (λ j. live j && not (nat_eq j k)) (λ j. live j && not (same_path (path_at ns j) (path_at ns k))) (length ns)
        (λ j hj. ap (λ b. live j && not b) (number j k hj inside))
        ∙ both_and live (λ j. not (same_path (path_at ns j) (path_at ns k))) (range_with_len 0 (length ns)))
        ∙ sym (kept (entry_of ns who) (λ e. not (same_path e.path (path_at ns k))) (live_ids ns))

    pub end-agrees : SameOutside (label p) (path_at ns) (length ns) o s → s.instances ≡ without (path_at ns k) at.state.instances
        → Agrees p (record m { outside = o; nodes = ms; places = with_hand m.places w None }) who
        (record { state = s; scheduler = sched.with_empty_hand at.scheduler w })
    end-agrees same is = record {
      tree = tree_ended ns k fate over inside childless h.tree;
      outside = subst (λ x. SameOutside (label p) x (length ms) o s) (sym up) (subst (λ l. SameOutside (label p) (path_at ns) l o s) (sym size) same);
      instances = is ∙ ap (without (path_at ns k)) h.instances ∙ sym entries;
      tells = λ i live.
          let ne = lives-other i live in
          subst (λ x. NodeStandsFor (label p) x (procedure_in ms) (node_at ms i) (who i)) (sym up)
          (subst (λ x. NodeStandsFor (label p) (path_at ns) x (node_at ms i) (who i)) (sym procedures)
          (subst (λ n. NodeStandsFor (label p) (path_at ns) (procedure_in ns) n (who i)) (sym (other i ne))
          (h.tells i (ap is_live (sym (other i ne)) ∙ live))));
      places = ap (λ ps. sched.with_hand ps w None) h.places ∙ sym (named-with_hand (name_in ns) m.places w None)
          ∙ ap (λ (x : ℕ → Path). named (λ f. x f.id) (with_hand m.places w None)) (sym up);
      parked = λ i lt. ap (λ (x : ℕ → Path). at.scheduler.parked (x i)) up ∙ h.parked i (subst (λ l. i < l) size lt) ∙ ap is_some (sym (as-parked i));
      held = AllHeld-weaker (λ g. Held p ns who g × (g.id ≢ k)) (Held p ms who)
          (λ g x. record { live = ap is_live (other g.id x.1) ∙ x.0.live; stands = x.0.stands }) (with_hand m.places w None)
          (held-both (Held p ns who) (λ g. g.id ≢ k) (with_hand m.places w None) (held-with_hand (Held p ns who) m.places w None h.held tt) others);
      waits = λ i f live some. h.waits i f (ap is_live (sym (other i (lives-other i live))) ∙ live) (sym (as-parked i) ∙ some);
    }

  -- k and its node are changed, but for its frame
  pub still-agrees : (k : ℕ) (ks : List Node) (n : Node) (f : Instance → Instance) → k < length ns → Sets ns ks k n → n.parked ≡ (node_at ns k).parked
      → ((g : Frame) → StandsFor (label p) g (who k) → StandsFor (label p) g (f (who k)))
      → (is_live (node_at ns k) ≡ true → NodeStandsFor (label p) (path_at ns) (procedure_in ns) n (f (who k)))
      → Agrees p (record m { nodes = ks }) (instead who k (f (who k)))
      (record at { state = record at.state { instances = changed (path_at ns k) f at.state.instances } })
  still-agrees k ks n f there set parked stands tells = change p m who at h k ks n f m.outside m.places _ (record {
    there = there;
    sets = set;
    tells = tells;
    outside = outside-of (label p) (path_at ns) (length ns) m.outside at.state _ h.outside;
    instances = refl;
    places = h.places;
    parked = λ i lt. h.parked i lt ∙ elim (decide i k) [
      | inl e ↦ ap (λ j. is_some (node_at ns j).parked) e ∙ ap is_some (sym parked) ∙ sym (ap (λ (x : Node). is_some x.parked) (ap (node_at ks) e ∙ set.own))
      | inr ne ↦ sym (ap (λ (x : Node). is_some x.parked) (set.others i ne))
    ];
    held = AllHeld-weaker (Held p ns who) (Held p ns (instead who k (f (who k)))) (λ g x. record {
      live = x.live;
      stands = elim (decide g.id k) [
        | inl e ↦ subst (StandsFor (label p) g) (sym (instead-here who k (f (who k)) g.id e))
            (stands g (subst (λ i. StandsFor (label p) g (who i)) e x.stands))
        | inr ne ↦ subst (StandsFor (label p) g) (sym (instead-there who k (f (who k)) g.id ne)) x.stands
      ];
    }) m.places h.held;
    waits = λ g lives is. let x = h.waits k g lives (sym parked ∙ is) in record { own = x.own; stands = stands g x.stands };
  })

  -- r is parked, and comes to w's hand
  pub wake-agrees : (r w : ℕ) (g : Frame) → is_live (node_at ns r) ≡ true → (node_at ns r).parked ≡ Some g
      → Agrees p (record m { nodes = with_parked ns r None; places = with_hand m.places w (Some g) }) who
      (record at {
        scheduler = record {
          places = sched.with_hand at.scheduler.places w (Some (path_at ns r));
          parked = λ q. not
              (same_path q (path_at ns r)) && at.scheduler.parked q;
        };
      })
  wake-agrees r w g live parked =
      let there = live_there ns r live in
      let n : Node = record (node_at ns r) { parked = None } in
      let set = sets ns r n h.tree there (record { parent = refl; ordinal = refl; procedure = refl; live = refl; aborted = refl; children = omega arith })
      (h.tree.sent r) in
      let one = h.waits r g live parked in
      subst (λ x. Agrees p (record m { nodes = with_parked ns r None; places = with_hand m.places w (Some g) }) x
      (record at {
        scheduler = record {
          places = sched.with_hand at.scheduler.places w (Some (path_at ns r));
          parked = λ q. not
              (same_path q (path_at ns r)) && at.scheduler.parked q;
        };
      })) (instead-same who r)
      (change p m who at h r _ n (λ a. a) m.outside (with_hand m.places w (Some g)) _ (record {
        there = there;
        sets = set;
        tells = λ lives. let x = h.tells r lives in record {
          procedure = x.procedure;
          children = x.children;
          aborted = x.aborted;
          waiting = x.waiting;
          receiver = x.receiver;
        };
        outside = h.outside;
        instances = sym (unchanged (path_at ns r) at.state.instances);
        places = (λ j. sched.with_hand (h.places j) w (Some (path_at ns (sym one.own j)))) ∙ sym (named-with_hand (name_in ns) m.places w (Some g));
        parked = λ i lt. elim (decide i r) [
          | inl e ↦ ap (λ b. not b && at.scheduler.parked (path_at ns i)) (same_here ns i r e)
              ∙ sym (ap (λ (x : Node). is_some x.parked) (ap (node_at (slice_set ns r n)) e ∙ set.own))
          | inr ne ↦ ap (λ b. not b && at.scheduler.parked (path_at ns i)) (other_there ns i r h.tree lt there ne) ∙ h.parked i lt
              ∙ sym (ap (λ (x : Node). is_some x.parked) (set.others i ne))
        ];
        held = subst (λ x. AllHeld (Held p ns x) (with_hand m.places w (Some g))) (sym (instead-same who r))
            (held-with_hand (Held p ns who) m.places w (Some g) h.held
            (record {
              live = ap (λ i. is_live (node_at ns i)) one.own
                  ∙ live;
              stands = subst (λ i. StandsFor (label p) g (who i)) (sym one.own) one.stands;
            }));
        waits = λ x lives is. let none : None ≡ Some x = is in cc;
      }))

-- what the end of k leaves of another
pub other-after : (ns : List Node) (r k : ℕ) (fate : Fate) → k < length ns → r ≢ k → node_at (ended ns k fate) r ≡ node_at ns r
other-after ns r k fate h ne = elim (at_set ns k (ended_node ns k fate) r no_node h) [
  | inl e ↦ absurd (ne e.0)
  | inr e ↦ e.1
]

pub lives-after : (ns : List Node) (r k : ℕ) (fate : Fate) → lives fate ≡ false → k < length ns → r ≢ k → is_live (node_at ns r) ≡ true
    → is_live (node_at (ended ns k fate) r) ≡ true
lives-after ns r k fate over h ne live = ended_lives ns k fate over h r ∙ (λ j. live j && not (other_number r k ne j))

pub path-after : (ns : List Node) (r k : ℕ) (fate : Fate) → IsTree ns → k < length ns → path_at (ended ns k fate) r ≡ path_at ns r
path-after ns r k fate t h = path_linked ns (ended ns k fate) t (ended_linked ns k fate h) r
