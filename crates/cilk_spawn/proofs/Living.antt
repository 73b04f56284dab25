-- Small images: what is kept of those that live, and the tree that is made of it beside a later one.
use Rattle.std.proofs.Common.{◌≡◌, ◌<◌, ◌≤◌, [], ℕ, List, Bool, true, false, Some, None, length, map, take, nat_lt}
use Rattle.std.proofs.Common.{if◌then◌else◌, ext_get_or, refl, sym, ap, ◌∙◌, subst, arith, ◌⊎◌, inl, inr}
use Rattle.std.proofs.lemmas.Bool.{cases_Bool, cases_lt}
use Rattle.std.proofs.lemmas.List.{get_or-map, get_or-take, get_or_past, length-map, length-take-le}
use Rattle.cilk_spawn.specs.declared.fate.Fate.{Fate}
use Rattle.cilk_spawn.specs.declared.fate.Fate.TheVariants as fate
use Rattle.cilk_spawn.specs.declared.life.Life.{Life}
use Rattle.cilk_spawn.specs.declared.life.Life.TheVariants.{Live, Returned, Delivered, Aborted}
use Rattle.cilk_spawn.specs.declared.record.Record.{Record}
use Rattle.cilk_spawn.specs.Family.{Stands}
use Rattle.cilk_spawn.specs.Nodes.{Node, no_node, node_at, lives, is_live, live_ids, IsTree}
use Rattle.cilk_spawn.specs.Records.{node_of, nodes_of, fate_of, receiver_of, waiting_of, parked_of, no_record, record_at, child_of, child_at}
use Rattle.cilk_spawn.specs.Records.{place_at, IsChild, Kept}
use Rattle.cilk_spawn.specs.Cut.{cut, cut_node, IsCut}
use Rattle.cilk_spawn.specs.Living.{Living, IsLivingOf, WasThere}
use Rattle.cilk_spawn.specs.LivingRecords.{id_at, IsListed, AreLiving, cut_life, cut_record, PutTo, CopiedOf}
use Rattle.cilk_spawn.proofs.Records.{node_is, nodes_length}

-- what is kept of a tree
module _ (rs made : List Record) (ids : List ℕ) (kept : Kept rs ids) (copied : CopiedOf (length ids) ids rs made) where
  copy_is : (k : ℕ) → k < length ids → node_of (record_at made k) ≡ node_at (nodes_of rs) (id_at ids k)
  copy_is k h = (copied.same k h).node ∙ sym (node_is rs (id_at ids k))

  listed_as : (a k i : ℕ) → IsChild (nodes_of rs) (id_at ids a) k i → IsListed made ids a k i
  listed_as a k i c =
      let inside = kept.within i c.lives in
      let is = kept.place i c.lives in
      let node = copy_is (place_at rs i) inside ∙ ap (node_at (nodes_of rs)) is in
      record {
        place = place_at rs i;
        within = inside;
        is = is;
        parent = ap (λ (n : Node). n.parent) node ∙ c.parent;
        ordinal = ap (λ (n : Node). n.ordinal) node ∙ c.ordinal;
      }

  pub are-living : AreLiving made ids
  are-living = record {
    len = copied.len;
    found = λ a k i h e. listed_as a k i (kept.found (id_at ids a) k i (sym ((copied.same a h).beside.children k) ∙ e));
    listed = λ a b h g e.
        let node = copy_is b g in
        (copied.same a h).beside.children (node_of (record_at made b)).ordinal
        ∙ ap (child_at rs (id_at ids a)) (ap (λ (n : Node). n.ordinal) node)
        ∙ kept.listed (id_at ids b) (id_at ids a) (kept.lives b g) (sym (ap (λ (n : Node). n.parent) node) ∙ e);
    place = λ a h. (copied.same a h).beside.place ∙ kept.stands a h;
    apart = λ a b h g e. sym (kept.stands a h) ∙ ap (place_at rs) e ∙ kept.stands b g;
  }

  pub living-of : (living : Living) → living.count ≡ length rs → living.ids ≡ ids → living.nodes ≡ nodes_of made → IsLivingOf living (nodes_of rs)
  living-of living count ids_are nodes =
      let each : (k : ℕ) → k < length (nodes_of made) → node_at (nodes_of made) k ≡ node_at (map (node_at (nodes_of rs)) ids) k =
      λ k h. (
      let n : length (nodes_of made) ≡ length ids = nodes_length made ∙ copied.len in
      let inside : k < length ids = omega (arith, h, n) in
      node_is made k ∙ copy_is k inside ∙ sym (get_or-map (node_at (nodes_of rs)) ids k 0 no_node inside)) in
      let all : nodes_of made ≡ map (node_at (nodes_of rs)) ids =
      ext_get_or no_node (nodes_of made) (map (node_at (nodes_of rs)) ids)
      (nodes_length made ∙ copied.len ∙ sym (length-map ids (node_at (nodes_of rs)))) each in
      record {
        count = count ∙ sym (nodes_length rs);
        same = nodes ∙ all ∙ ap (map (node_at (nodes_of rs))) (sym ids_are);
        tree = kept.tree;
        listed = λ i live.
            subst (λ (xs : List ℕ). Stands xs i) (sym ids_are)
            (record { place = place_at rs i; within = kept.within i live; is = kept.place i live });
        lives = λ k h.
            ap (λ (xs : List ℕ). is_live (node_at (nodes_of rs) (id_at xs k))) ids_are
            ∙ kept.lives k (subst (λ (xs : List ℕ). k < length xs) ids_are h);
        counted = ap length ids_are ∙ kept.count;
      }

-- by other names for its parts
module _ (rs rs2 made : List Record) (ids ids2 own : List ℕ) (kept : Kept rs ids) (same : rs2 ≡ rs) (same_ids : ids2 ≡ ids) (own_is : own ≡ ids)
    (copied : CopiedOf (length ids2) ids2 rs2 made) where
  copied_there : CopiedOf (length ids) ids rs made
  copied_there = subst (λ xs. CopiedOf (length ids) ids xs made) same (subst (λ xs. CopiedOf (length xs) xs rs2 made) same_ids copied)

  pub living-made : AreLiving made own
  living-made = subst (AreLiving made) (sym own_is) (are-living rs made ids kept copied_there)

  pub living-is : (living : Living) (nodes : List Node) → nodes_of rs ≡ nodes → living.count ≡ length rs → living.ids ≡ own → living.nodes ≡ nodes_of made
      → IsLivingOf living nodes
  living-is living nodes nodes_is count ids_are nodes_are =
      subst (IsLivingOf living) nodes_is (living-of rs made ids kept copied_there living count (ids_are ∙ own_is) nodes_are)

-- who was delivered afterwards had returned
both_dead : (c d : ℕ) (b : Bool) → lives (if b then fate.Returned else fate.Delivered d) ≡ false
both_dead c d true = refl
both_dead c d false = refl

cut_lives : (c : ℕ) (f : Fate) → lives (cut c f) ≡ lives f
cut_lives c fate.Live = refl
cut_lives c fate.Returned = refl
cut_lives c (fate.Delivered d) = both_dead c d (nat_lt c d)
cut_lives c (fate.Aborted d) = refl

fate_by : (d : ℕ) (b : Bool) → fate_of (if b then Returned else Delivered d) ≡ (if b then fate.Returned else fate.Delivered d)
fate_by d true = refl
fate_by d false = refl

fate_cut : (c : ℕ) (l : Life) → lives (fate_of l) ≡ false → fate_of (cut_life c l) ≡ cut c (fate_of l)
fate_cut c (Live l) h = cc
fate_cut c Returned h = refl
fate_cut c (Delivered d) h = fate_by d (nat_lt c d)
fate_cut c (Aborted d) h = refl

-- nothing is kept of it
record IsEmpty (l : Life) : Type 0 where
  receiver : receiver_of l ≡ receiver_of Returned
  waiting : waiting_of l ≡ []
  parked : parked_of l ≡ None
  children : (k : ℕ) → child_of l k ≡ None

empty_by : (d : ℕ) (b : Bool) → IsEmpty (if b then Returned else Delivered d)
empty_by d true = record { receiver = refl; waiting = refl; parked = refl; children = λ k. refl }
empty_by d false = record { receiver = refl; waiting = refl; parked = refl; children = λ k. refl }

cut_empty : (c : ℕ) (l : Life) → IsEmpty (cut_life c l)
cut_empty c (Live l) = record { receiver = refl; waiting = refl; parked = refl; children = λ k. refl }
cut_empty c Returned = record { receiver = refl; waiting = refl; parked = refl; children = λ k. refl }
cut_empty c (Delivered d) = empty_by d (nat_lt c d)
cut_empty c (Aborted d) = record { receiver = refl; waiting = refl; parked = refl; children = λ k. refl }

dead_empty : (l : Life) → lives (fate_of l) ≡ false → IsEmpty l
dead_empty (Live l) h = cc
dead_empty Returned h = record { receiver = refl; waiting = refl; parked = refl; children = λ k. refl }
dead_empty (Delivered d) h = record { receiver = refl; waiting = refl; parked = refl; children = λ k. refl }
dead_empty (Aborted d) h = record { receiver = refl; waiting = refl; parked = refl; children = λ k. refl }

node_cut : (c : ℕ) (r : Record) → is_live (node_of r) ≡ false → node_of (cut_record c r) ≡ cut_node c (node_of r)
node_cut c r dead =
    let is = fate_cut c r.life dead in
    let now = cut_empty c r.life in
    let was = dead_empty r.life dead in
    let receiver = now.receiver ∙ sym was.receiver in
    let waiting = now.waiting ∙ sym was.waiting in
    let parked = now.parked ∙ sym was.parked in
    λ i. record {
      parent = r.parent;
      ordinal = r.ordinal;
      procedure = r.procedure;
      children = r.children;
      aborted = r.aborted;
      fate = is i;
      receiver = receiver i;
      waiting = waiting i;
      parked = parked i;
    }

-- the later tree has as many
pub count-within : (c : ℕ) (later : List Record) (living : Living) (was : WasThere c living (nodes_of later)) → living.count ≤ length later
count-within c later living was =
    let size = was.told.size in
    let count = was.kept.count in
    omega (arith, size, count, nodes_length later)

-- the tree is made of what lived and of the later one
module _ (c : ℕ) (later rs old made : List Record) (living : Living) (are : AreLiving rs living.ids)
    (nodes_are : living.nodes ≡ nodes_of rs) (count_is : living.count ≤ length later) (old_is : old ≡ map (cut_record c) (take living.count later))
    (put : PutTo (length living.ids) living.ids rs old made) where
  abbrev ids : List ℕ
  ids = living.ids

  old_length : length old ≡ living.count
  old_length = ap length old_is ∙ length-map (take living.count later) (cut_record c) ∙ length-take-le living.count later count_is

  old_at : (i : ℕ) → i < living.count → record_at old i ≡ cut_record c (record_at later i)
  old_at i h =
      let short = length-take-le living.count later count_is in
      ap (λ (xs : List Record). record_at xs i) old_is
      ∙ get_or-map (cut_record c) (take living.count later) i no_record no_record (omega (arith, h, short))
      ∙ ap (cut_record c) (get_or-take living.count later i no_record h)

  old_by : (i k : ℕ) → (i < living.count) ⊎ (living.count ≤ i) → child_of (record_at old i).life k ≡ None
  old_by i k (inl h) = ap (λ (x : Record). child_of x.life k) (old_at i h) ∙ (cut_empty c (record_at later i).life).children k
  old_by i k (inr ge) = ap (λ (x : Record). child_of x.life k) (get_or_past old i no_record (omega (arith, ge, old_length)))

  old_childless : (i k : ℕ) → child_of (record_at old i).life k ≡ None
  old_childless i k = old_by i k (cases_lt i living.count)

  module _ (nodes : List Node) (of : IsLivingOf living nodes) (told : IsCut c nodes (nodes_of later)) where
    put_is : (a : ℕ) → a < length ids → node_of (record_at made (id_at ids a)) ≡ node_at nodes (id_at ids a)
    put_is a h =
        (put.put a h).node ∙ sym (node_is rs a) ∙ ap (λ (xs : List Node). node_at xs a) (sym nodes_are ∙ of.same)
        ∙ get_or-map (node_at nodes) ids a 0 no_node h

    rs_is : (a : ℕ) → a < length ids → node_of (record_at rs a) ≡ node_at nodes (id_at ids a)
    rs_is a h = sym (put.put a h).node ∙ put_is a h

    no_place : (i : ℕ) → is_live (node_at nodes i) ≡ false → (a : ℕ) → a < length ids → id_at ids a ≡ i → ⊥
    no_place i dead a h e = let no : true ≡ false = sym (of.lives a h) ∙ ap (λ (j : ℕ). is_live (node_at nodes j)) e ∙ dead in cc

    node_by : (i : ℕ) → i < length nodes → (is_live (node_at nodes i) ≡ true) ⊎ (is_live (node_at nodes i) ≡ false)
        → node_of (record_at made i) ≡ node_at nodes i
    node_by i h (inl live) =
        let s = of.listed i live in
        ap (λ (j : ℕ). node_of (record_at made j)) (sym s.is) ∙ put_is s.place s.within ∙ ap (node_at nodes) s.is
    node_by i h (inr dead) =
        let was = told.ended i h dead in
        let inside : i < living.count = (let n = of.count in omega (arith, h, n)) in
        let dead_later : is_live (node_of (record_at later i)) ≡ false =
        ap is_live (sym (node_is later i)) ∙ sym (cut_lives c (node_at (nodes_of later) i).fate) ∙ ap is_live (sym was) ∙ dead in
        ap node_of (put.others i (no_place i dead) ∙ old_at i inside)
        ∙ node_cut c (record_at later i) dead_later
        ∙ ap (cut_node c) (sym (node_is later i))
        ∙ sym was

    made_length : length (nodes_of made) ≡ length nodes
    made_length = nodes_length made ∙ put.len ∙ old_length ∙ of.count

    pub nodes-again : nodes_of made ≡ nodes
    nodes-again =
        ext_get_or no_node (nodes_of made) nodes made_length
        (λ i h. node_is made i ∙ node_by i (omega (arith, h, made_length)) (cases_Bool (is_live (node_at nodes i))))

    again : (i : ℕ) → node_at (nodes_of made) i ≡ node_at nodes i
    again i = ap (λ (xs : List Node). node_at xs i) nodes-again

    child_again : (a k i : ℕ) → IsListed rs ids a k i → IsChild (nodes_of made) (id_at ids a) k i
    child_again a k i l =
        let inside = l.within in
        let node : node_at (nodes_of made) i ≡ node_of (record_at rs l.place) =
        again i ∙ ap (node_at nodes) (sym l.is) ∙ sym (rs_is l.place inside) in
        record {
          lives = ap is_live (again i ∙ ap (node_at nodes) (sym l.is)) ∙ of.lives l.place inside;
          parent = ap (λ (n : Node). n.parent) node ∙ l.parent;
          ordinal = ap (λ (n : Node). n.ordinal) node ∙ l.ordinal;
        }

    found_by : (p k i : ℕ) → (is_live (node_at nodes p) ≡ true) ⊎ (is_live (node_at nodes p) ≡ false) → child_at made p k ≡ Some i
        → IsChild (nodes_of made) p k i
    found_by p k i (inl live) e =
        let s = of.listed p live in
        let here : child_of (record_at rs s.place).life k ≡ Some i =
        sym ((put.put s.place s.within).beside.children k) ∙ ap (λ (j : ℕ). child_at made j k) s.is ∙ e in
        subst (λ (j : ℕ). IsChild (nodes_of made) j k i) s.is (child_again s.place k i (are.found s.place k i s.within here))
    found_by p k i (inr dead) e =
        let no : None ≡ Some i =
        sym (old_childless p k) ∙ ap (λ (x : Record). child_of x.life k) (sym (put.others p (no_place p dead))) ∙ e in
        cc

    listed_by : (i p : ℕ) → is_live (node_at nodes i) ≡ true → (node_at nodes i).parent ≡ Some p → child_at made p (node_at nodes i).ordinal ≡ Some i
    listed_by i p live up =
        let b = of.listed i live in
        let a = of.listed p (of.tree.outlives i p up live) in
        let node : node_of (record_at rs b.place) ≡ node_at nodes i = rs_is b.place b.within ∙ ap (node_at nodes) b.is in
        let parent : (node_of (record_at rs b.place)).parent ≡ Some (id_at ids a.place) =
        ap (λ (n : Node). n.parent) node ∙ up ∙ ap (λ (j : ℕ). Some j) (sym a.is) in
        ap (λ (j : ℕ). child_at made j (node_at nodes i).ordinal) (sym a.is)
        ∙ (put.put a.place a.within).beside.children (node_at nodes i).ordinal
        ∙ ap (child_of (record_at rs a.place).life) (sym (ap (λ (n : Node). n.ordinal) node))
        ∙ are.listed a.place b.place a.within b.within parent
        ∙ ap (λ (j : ℕ). Some j) b.is

    place_again : (i : ℕ) (s : Stands ids i) → place_at made i ≡ s.place
    place_again i s =
        ap (place_at made) (sym s.is) ∙ (put.put s.place s.within).beside.place ∙ are.place s.place s.within

    lived : (i : ℕ) → is_live (node_at (nodes_of made) i) ≡ true → is_live (node_at nodes i) ≡ true
    lived i live = ap is_live (sym (again i)) ∙ live

    pub kept-again : Kept made ids
    kept-again = record {
      tree = subst IsTree (sym nodes-again) of.tree;
      found = λ p k i e. found_by p k i (cases_Bool (is_live (node_at nodes p))) e;
      listed = λ i p live up.
          ap (λ (n : Node). child_at made p n.ordinal) (again i)
          ∙ listed_by i p (lived i live) (ap (λ (n : Node). n.parent) (sym (again i)) ∙ up);
      within = λ i live.
          let s = of.listed i (lived i live) in
          subst (λ (k : ℕ). k < length ids) (sym (place_again i s)) s.within;
      place = λ i live.
          let s = of.listed i (lived i live) in
          ap (id_at ids) (place_again i s) ∙ s.is;
      lives = λ k h. ap is_live (again (id_at ids k)) ∙ of.lives k h;
      stands = λ k h. (put.put k h).beside.place ∙ are.place k h;
      count = of.counted ∙ ap (λ (xs : List Node). length (live_ids xs)) (sym nodes-again);
    }

-- by other names for its parts
module _ (c : ℕ) (later later2 rs rs2 old made : List Record) (ids ids2 : List ℕ) (count : ℕ) (living : Living) (latest : List Node)
    (view_is : (let v : Living = record { count = count; ids = ids; nodes = nodes_of rs } in v ≡ living)) (latest_is : nodes_of later ≡ latest)
    (are : AreLiving rs ids) (same_later : later2 ≡ later) (same_rs : rs2 ≡ rs) (same_ids : ids2 ≡ ids)
    (old_is : old ≡ map (cut_record c) (take count later2)) (put : PutTo (length ids2) ids2 rs2 old made) where
  abbrev seen : Living
  seen = record { count = count; ids = ids; nodes = nodes_of rs }

  put_there : PutTo (length ids) ids rs old made
  put_there = subst (λ xs. PutTo (length ids) ids xs old made) same_rs (subst (λ xs. PutTo (length xs) xs rs2 old made) same_ids put)

  old_there : old ≡ map (cut_record c) (take count later)
  old_there = old_is ∙ ap (λ (xs : List Record). map (cut_record c) (take count xs)) same_later

  of_seen : (nodes : List Node) → IsLivingOf living nodes → IsLivingOf seen nodes
  of_seen nodes of = subst (λ l. IsLivingOf l nodes) (sym view_is) of

  told_there : (nodes : List Node) → IsCut c nodes latest → IsCut c nodes (nodes_of later)
  told_there nodes told = subst (IsCut c nodes) (sym latest_is) told

  few : (nodes : List Node) → IsLivingOf living nodes → IsCut c nodes latest → count ≤ length later
  few nodes of told =
      count-within c later seen (record { nodes = nodes; kept = of_seen nodes of; told = told_there nodes told })

  pub remade-nodes : (nodes : List Node) → IsLivingOf living nodes → IsCut c nodes latest → nodes_of made ≡ nodes
  remade-nodes nodes of told =
      nodes-again c later rs old made seen are refl (few nodes of told) old_there put_there nodes (of_seen nodes of) (told_there nodes told)

  pub remade-kept : (own : List ℕ) → own ≡ ids → WasThere c living latest → Kept made own
  remade-kept own own_is was =
      let kept = was.kept in
      let told = was.told in
      subst (Kept made) (sym own_is)
      (kept-again c later rs old made seen are refl (few was.nodes kept told) old_there put_there was.nodes (of_seen was.nodes kept)
      (told_there was.nodes told))
