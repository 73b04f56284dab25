-- What a choice did, by places and by paths.
use Rattle.std.proofs.Common.{◌≡◌, ◌<◌, ◌+◌, ◌-◌, ◌^◌, ℕ, zero, suc, Bool, true, false, List, [], ◌∷◌, ◌++◌, length, Option}
use Rattle.std.proofs.Common.{Some, None}
use Rattle.std.proofs.Common.{option_map, unwrap_or, refl, sym, ap, ◌∙◌, subst, arith}
use Rattle.std.proofs.lemmas.Bool.{cond-true, cond-false}
use Rattle.cilk_log_replay.specs.machine.labelled.Labelled.{Labelled, Action}
use Rattle.cilk_log_replay.specs.machine.model.Path.{Path, same_path}
use Rattle.cilk_log_replay.specs.machine.model.State.{TrapKind}
use Rattle.cilk_log_replay.specs.machine.model.Change.{leaves, is_sync}
use Rattle.cilk_log_replay.specs.machine.model.Event.{Event, acted, spawned, delivered, returned, ended, trapped}
use Rattle.cilk_log_replay.specs.machine.model.Made.{born}
use Rattle.cilk_log_replay.proofs.machine_laws.spawn_laws.Paths.{same_self}
use Rattle.cilk_races.specs.Acts.{act_of, is_call, goes_through, is_so}
use Rattle.cilk_races.specs.Inside.{Inside, without_top, by_kind, by_act, by_entry, by_value, parent_path, inside_by, inside_of}
use Rattle.cilk_races.specs.Steps.{Step, step_at, step_within, step_of}
use Rattle.cilk_races.proofs.Pushes.{inside-push}
use Rattle.cilk_races.specs.declared.cell.Cell.{Cell}
use Rattle.cilk_races.specs.declared.motion.Motion.{Motion}
use Rattle.cilk_races.specs.Cells.{cell_at, next}
use Rattle.cilk_races.specs.Motions as motion
use Rattle.cilk_races.specs.Motions.{fewer, inlet_left, acted_by, delivered_by, taker_of}
use Rattle.cilk_races.specs.CellsKept.{Named, IsThere, Keeps}
use Rattle.cilk_races.proofs.Bounds.{next-is}

-- what an event bears, and the child of its step
abbrev pub Births : Bool → Event → Step → Type 0
Births false e s = (s.child ≡ None) × (born e ≡ [])
Births true e s = (c : Path) × ((s.child ≡ Some c) × (born e ≡ c ∷ []))

-- a motion says what the step of an event is
pub record Means (program : Labelled) (events : List Event) (e : Event) (up : ℕ → Path) (count : ℕ) (m : Motion) (s : Step) : Type 0 where
  pub step : step_of program events e ≡ Some s
  pub place : m.place < count
  pub path : s.path ≡ up m.place
  pub taking : s.taking ≡ option_map up m.taking
  pub taking_there : IsThere count m.taking
  pub joins : s.joins ≡ m.joins
  pub above : s.above ≡ m.above
  pub own : inside_by program (up m.place) e (inside_of program events (up m.place)) ≡ record { above = m.above; taking = option_map up m.inlet }
  pub inlet_there : IsThere count m.inlet
  pub others : (p : Path) (i : Inside) → same_path (up m.place) p ≡ false → inside_by program p e i ≡ i
  pub births : Births m.bears e s

-- what is put together from parts
abbrev within : ℕ → Option Path → Inside
within above taking = record { above = above; taking = taking }

module _ (program : Labelled) (events : List Event) (up : ℕ → Path) (count : ℕ) (cells : List Cell)
    (short : length events < 2 ^ 60) (named : Named up count) (keeps : Keeps program up count events cells) where
  -- the bodies of the instance at a place
  bodies : (p : ℕ) → p < count → inside_of program events (up p) ≡ within (cell_at cells p).above (option_map up (cell_at cells p).taking)
  bodies p h = (keeps.each p h).inside

  room : (p : ℕ) → p < count → (cell_at cells p).above < 2 ^ 64 - 1
  room p h =
      let low = Rattle.cilk_races.proofs.Bounds.above-fits program events (up p) in
      let is : (inside_of program events (up p)).above ≡ (cell_at cells p).above = ap (λ (i : Inside). i.above) (bodies p h) in
      omega (arith, low, is, short)

  above-is : (e : Event) (q : Path) (p above : ℕ) (o : Option Path) → q ≡ up p
      → inside_by program (up p) e (inside_of program events (up p)) ≡ within above o → (inside_of program (events ++ e ∷ []) q).above ≡ above
  above-is e q p above o same own =
      ap (λ (x : Path). (inside_of program (events ++ e ∷ []) x).above) same ∙ ap (λ (i : Inside). i.above) (inside-push program (up p) events e)
      ∙ ap (λ (i : Inside). i.above) own

  -- one that changes nothing of the bodies
  calm : (p : ℕ) → p < count → (e : Event) → ((q : Path) (i : Inside) → inside_by program q e i ≡ i)
      → inside_by program (up p) e (inside_of program events (up p)) ≡ within (cell_at cells p).above (option_map up (cell_at cells p).taking)
  calm p h e none = none (up p) (inside_of program events (up p)) ∙ bodies p h

  top-left : (n : ℕ) (o : Option ℕ) → without_top n (option_map up o) ≡ within (fewer n) (option_map up (inlet_left n o))
  top-left zero o = refl
  top-left (suc zero) o = refl
  top-left (suc (suc n)) o =
      let less : suc n ≡ fewer (suc (suc n)) = omega arith in
      ap (λ k. within k (option_map up o)) less

  kind-is : (a b w : Bool) (p : ℕ) → p < count
      → by_kind a b (within (cell_at cells p).above (option_map up (cell_at cells p).taking))
      ≡ within (acted_by a b w (cell_at cells p) p).above (option_map up (acted_by a b w (cell_at cells p) p).inlet)
  kind-is true b w p h = top-left (cell_at cells p).above (cell_at cells p).taking
  kind-is false true w p h =
      let more : (cell_at cells p).above + 1 ≡ next (cell_at cells p).above =
      let is = next-is (cell_at cells p).above (room p h) in omega (arith, is)
      in
      ap (λ k. within k (option_map up (cell_at cells p).taking)) more
  kind-is false false w p h = refl

  inlet-left-there : (n : ℕ) (o : Option ℕ) → IsThere count o → IsThere count (inlet_left n o)
  inlet-left-there zero o h = tt
  inlet-left-there (suc zero) o h = tt
  inlet-left-there (suc (suc n)) o h = h

  record Acts (a b w : Bool) (p : ℕ) : Type 0 where
    place : (acted_by a b w (cell_at cells p) p).place ≡ p
    taking : (acted_by a b w (cell_at cells p) p).taking ≡ (cell_at cells p).taking
    joins : (acted_by a b w (cell_at cells p) p).joins ≡ w
    bears : (acted_by a b w (cell_at cells p) p).bears ≡ false
    inlet : IsThere count (acted_by a b w (cell_at cells p) p).inlet

  acts : (a b w : Bool) (p : ℕ) → p < count → Acts a b w p
  acts true b w p h = record {
    place = refl;
    taking = refl;
    joins = refl;
    bears = refl;
    inlet = inlet-left-there (cell_at cells p).above (cell_at cells p).taking (keeps.each p h).taking_there;
  }
  acts false true w p h = record { place = refl; taking = refl; joins = refl; bears = refl; inlet = (keeps.each p h).taking_there }
  acts false false w p h = record { place = refl; taking = refl; joins = refl; bears = refl; inlet = (keeps.each p h).taking_there }

  -- an action of a thread or of an inlet
  pub acted-means : (q : Path) (n p : ℕ) → p < count → q ≡ up p
      → Means program events (acted q n) up count (motion.acted (act_of program n) cells p)
      (step_within program events (acted q n) q (is_so is_sync (act_of program n)))
  acted-means q n p h same =
      let act : Option Action = act_of program n in
      let a : Bool = is_so leaves act in
      let b : Bool = is_so is_call act in
      let w : Bool = is_so is_sync act in
      let m : Motion = acted_by a b w (cell_at cells p) p in
      let is = acts a b w p h in
      let own : inside_by program (up p) (acted q n) (inside_of program events (up p)) ≡ within m.above (option_map up m.inlet) =
      cond-true (same_path q (up p)) (by_act act (inside_of program events (up p))) (inside_of program events (up p)) (same_self q (up p) same)
      ∙ ap (by_kind a b) (bodies p h) ∙ kind-is a b w p h
      in
      let there : up p ≡ up m.place = ap up (sym is.place) in
      record {
        step = refl;
        place = subst (λ k. k < count) (sym is.place) h;
        path = same ∙ there;
        taking = ap (λ (x : Path). (inside_of program events x).taking) same ∙ ap (λ (i : Inside). i.taking) (bodies p h)
            ∙ ap (option_map up) (sym is.taking);
        taking_there = subst (IsThere count) (sym is.taking) (keeps.each p h).taking_there;
        joins = sym is.joins;
        above = above-is (acted q n) q p m.above (option_map up m.inlet) same own;
        own = subst (λ k. inside_by program (up k) (acted q n) (inside_of program events (up k)) ≡ within m.above (option_map up m.inlet)) (sym is.place) own;
        inlet_there = is.inlet;
        others = λ x i e. cond-false (same_path q x) (by_act act i) i (ap (λ (y : Path). same_path y x) (same ∙ there) ∙ e);
        births = subst (λ k. Births k (acted q n) (step_within program events (acted q n) q w)) (sym is.bears) (refl, refl);
      }

  -- one that leaves the bodies of its instance as they are
  pub staying-means : (e : Event) (p : ℕ) (s : Step) (taking : Option ℕ) (joins bears : Bool) → p < count
      → ((q : Path) (i : Inside) → inside_by program q e i ≡ i) → step_of program events e ≡ Some s → s.path ≡ up p
      → s.above ≡ (inside_of program (events ++ e ∷ []) s.path).above
      → s.taking ≡ option_map up taking → IsThere count taking → s.joins ≡ joins → Births bears e s
      → Means program events e up count (motion.staying (cell_at cells p) p taking joins bears) s
  staying-means e p s taking joins bears h none is path above took there joined births = record {
    step = is;
    place = h;
    path = path;
    taking = took;
    taking_there = there;
    joins = joined;
    above = above ∙ above-is e s.path p (cell_at cells p).above (option_map up (cell_at cells p).taking) path (calm p h e none);
    own = calm p h e none;
    inlet_there = (keeps.each p h).taking_there;
    others = λ q i different. none q i;
    births = births;
  }

  pub trapped-means : (kind : TrapKind) (q : Path) (n p : ℕ) → p < count → q ≡ up p
      → Means program events (trapped kind q n) up count (motion.trapped cells p) (step_within program events (trapped kind q n) q false)
  trapped-means kind q n p h same =
      staying-means (trapped kind q n) p (step_within program events (trapped kind q n) q false) (cell_at cells p).taking false false h
      (λ x i. refl) refl same refl
      (ap (λ (x : Path). (inside_of program events x).taking) same ∙ ap (λ (i : Inside). i.taking) (bodies p h)) (keeps.each p h).taking_there refl (refl, refl)

  pub returned-means : (q : Path) (n p : ℕ) → p < count → q ≡ up p
      → Means program events (returned q n) up count (motion.ended cells p) (step_at program events (returned q n) q None None true)
  returned-means q n p h same =
      staying-means (returned q n) p (step_at program events (returned q n) q None None true) None true false h (λ x i. refl) refl same refl
      refl tt refl (refl, refl)

  pub ended-means : (q : Path) (p : ℕ) → p < count → q ≡ up p
      → Means program events (ended q) up count (motion.ended cells p) (step_at program events (ended q) q None None true)
  ended-means q p h same =
      staying-means (ended q) p (step_at program events (ended q) q None None true) None true false h (λ x i. refl) refl same refl refl tt refl (refl, refl)

  pub spawned-means : (c : Path) (n p : ℕ) → p < count → parent_path c ≡ up p
      → Means program events (spawned c n) up count (motion.born cells p) (step_at program events (spawned c n) (parent_path c) None (Some c) false)
  spawned-means c n p h same =
      staying-means (spawned c n) p (step_at program events (spawned c n) (parent_path c) None (Some c) false) None false true h (λ x i. refl) refl same refl
      refl tt refl (c, (refl, refl))

  root-up : (o : Option ℕ) → unwrap_or (option_map up o) [] ≡ up (unwrap_or o 0)
  root-up None = sym named.root
  root-up (Some i) = refl

  taker-within : (o : Option ℕ) → IsThere count o → unwrap_or o 0 < count
  taker-within None h = named.some
  taker-within (Some i) h = h

  record Enters (t : Bool) (p c : ℕ) (q : Path) : Type 0 where
    place : (delivered_by t (cell_at cells p) p c).place ≡ p
    taking : (delivered_by t (cell_at cells p) p c).taking ≡ Some c
    joins : (delivered_by t (cell_at cells p) p c).joins ≡ false
    bears : (delivered_by t (cell_at cells p) p c).bears ≡ false
    inlet : IsThere count (delivered_by t (cell_at cells p) p c).inlet
    is : by_entry t q (within (cell_at cells p).above (option_map up (cell_at cells p).taking))
        ≡ within (delivered_by t (cell_at cells p) p c).above (option_map up (delivered_by t (cell_at cells p) p c).inlet)

  enters : (t : Bool) (p c : ℕ) (q : Path) → p < count → c < count → q ≡ up c → Enters t p c q
  enters true p c q h g same =
      let more : (cell_at cells p).above + 1 ≡ next (cell_at cells p).above =
      let is = next-is (cell_at cells p).above (room p h) in omega (arith, is)
      in
      record {
        place = refl;
        taking = refl;
        joins = refl;
        bears = refl;
        inlet = g;
        is = λ j. within (more j) (Some (same j));
      }
  enters false p c q h g same = record {
    place = refl;
    taking = refl;
    joins = refl;
    bears = refl;
    inlet = (keeps.each p h).taking_there;
    is = refl;
  }

  pub delivered-means : (q : Path) (n c : ℕ) → c < count → q ≡ up c
      → Means program events (delivered q n) up count (motion.delivered (act_of program n) cells c)
      (step_at program events (delivered q n) (parent_path q) (Some q) None false)
  delivered-means q n c g same =
      let act : Option Action = act_of program n in
      let t : Bool = is_so goes_through act in
      let p : ℕ = taker_of cells c in
      let h : p < count = taker-within (cell_at cells c).parent (keeps.each c g).parent_there in
      let m : Motion = delivered_by t (cell_at cells p) p c in
      let is = enters t p c q h g same in
      let path : parent_path q ≡ up p =
      ap parent_path same ∙ ap (λ (o : Option Path). unwrap_or o []) (keeps.each c g).parent ∙ root-up (cell_at cells c).parent
      in
      let own : inside_by program (up p) (delivered q n) (inside_of program events (up p)) ≡ within m.above (option_map up m.inlet) =
      cond-true (same_path (parent_path q) (up p)) (by_value act q (inside_of program events (up p))) (inside_of program events (up p))
      (same_self (parent_path q) (up p) path)
      ∙ ap (by_entry t q) (bodies p h) ∙ is.is
      in
      let there : up p ≡ up m.place = ap up (sym is.place) in
      record {
        step = refl;
        place = subst (λ k. k < count) (sym is.place) h;
        path = path ∙ there;
        taking = ap Some same ∙ ap (option_map up) (sym is.taking);
        taking_there = subst (IsThere count) (sym is.taking) g;
        joins = sym is.joins;
        above = above-is (delivered q n) (parent_path q) p m.above (option_map up m.inlet) path own;
        own =
            subst (λ k. inside_by program (up k) (delivered q n) (inside_of program events (up k)) ≡ within m.above (option_map up m.inlet))
            (sym is.place) own;
        inlet_there = is.inlet;
        others = λ x i e. cond-false (same_path (parent_path q) x) (by_value act q i) i (ap (λ (y : Path). same_path y x) (path ∙ there) ∙ e);
        births = subst (λ k. Births k (delivered q n) (step_at program events (delivered q n) (parent_path q) (Some q) None false)) (sym is.bears) (refl, refl);
      }
