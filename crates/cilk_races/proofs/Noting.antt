-- What a choice did, and what is kept of the instances behind it.
use Rattle.std.proofs.Common.{◌≡◌, ◌<◌, ◌^◌, ℕ, suc, Bool, true, false, ◌&&◌, List, [], ◌∷◌, ◌++◌, length, Option, Some, None, unwrap_or}
use Rattle.std.proofs.Common.{refl, sym}
use Rattle.std.proofs.Common.{ap, ◌∙◌, subst, arith}
use Rattle.std.proofs.lemmas.Bool.{false_from_ne_true}
use Rattle.cilk_races.specs.CellsKept.{Keeps, Named}
use Rattle.cilk_races.specs.Motions.{motion_of}
use Rattle.cilk_races.specs.declared.cell.Cell.{Cell}
use Rattle.cilk_races.specs.declared.motion.Motion.{Motion}
use Rattle.cilk_log_replay.specs.machine.agree.Fated.{Fated}
use Rattle.cilk_log_replay.specs.machine.plans.PartWords.{event_by}
use Rattle.cilk_log_replay.specs.machine.plans.declared.did.Did.{Did}
use Rattle.cilk_log_replay.specs.machine.plans.declared.did.Did.TheVariants as did
use Rattle.cilk_log_replay.specs.machine.labelled.Bodies.{label}
use Rattle.cilk_log_replay.specs.machine.model.Change.{is_sync}
use Rattle.cilk_log_replay.specs.machine.model.Event.{Event, acted, spawned}
use Rattle.cilk_log_replay.specs.machine.model.Made as made
use Rattle.cilk_log_replay.specs.machine.model.Path.{Path, child_path, same_path}
use Rattle.cilk_log_replay.specs.machine.spawn.Nodes.{IsTree, Node, node_at, path_at}
use Rattle.cilk_log_replay.specs.machine.syntax.Tree.{Program}
use Rattle.cilk_races.specs.Acts.{act_of, is_so}
use Rattle.cilk_races.specs.Inside.{parent_path}
use Rattle.cilk_races.specs.Steps.{Step, step_within}
use Rattle.cilk_races.proofs.Births.{Parented, last-born, named-by, none-born, one-born, stays}
use Rattle.cilk_races.proofs.Doings.{Means}
use Rattle.cilk_races.proofs.Ids.{other-place}
use Rattle.cilk_races.proofs.Moving.{child-is, motion-says, parent-is}
use Rattle.cilk_log_replay.proofs.machine_laws.spawn_laws.Paths.{same_is}
use Rattle.cilk_log_replay.proofs.machine_laws.spawn_laws.Trees.{names}
use Rattle.cilk_races.specs.Kept.{is_birth}
use Rattle.cilk_races.specs.Line.{Line}
use Rattle.cilk_races.specs.Order.{bears, children_of, passes}
use Rattle.cilk_races.specs.Noted.{bore_at, passed_if, rows_after}
use Rattle.cilk_races.specs.Watched.{TellsLines}
use Rattle.cilk_races.proofs.Bearing.{born}
use Rattle.cilk_races.proofs.Rowed.{quiet, sync-passed}

and-true : (a : Bool) → (a && true) ≡ a
and-true true = refl
and-true false = refl

and-false : (a : Bool) → (a && false) ≡ false
and-false true = refl
and-false false = refl

module _ (program : Program) (ns now : List Node) (events : List Event) (cells : List Cell) (rows : List Line) (short : length events < 2 ^ 60)
    (tree : IsTree ns) (after : IsTree now) (before : Fated (label program) ns events)
    (keeps : Keeps (label program) (path_at ns) (length ns) events cells) (tells : TellsLines (label program) (path_at ns) (length ns) events rows) where
  abbrev did_it : Did → Event
  did_it x = event_by (path_at ns) (path_at now) x

  abbrev more : Did → List Event
  more x = events ++ did_it x ∷ []

  abbrev Behind : Did → Type 0
  Behind x = Fated (label program) now (more x)

  abbrev Told : Did → List Line → Type 0
  Told x lines = TellsLines (label program) (path_at now) (length now) (more x) lines

  abbrev pub TellsBy : Did → Option Motion → Type 0
  TellsBy x None = Told x rows
  TellsBy x (Some m) = Told x (rows_after x m rows)

  -- a child that is born is the next of its parent
  abbrev pub IsNextChild : Did → Type 0
  IsNextChild x = (d : Path) (n : ℕ) → did_it x ≡ spawned d n → d ≡ child_path (parent_path d) (suc (children_of events (parent_path d)))

  named : Named (path_at ns) (length ns)
  named = named-by ns tree

  same : (x : Did) → Behind x → (i : ℕ) → i < length ns → path_at now i ≡ path_at ns i
  same x behind = stays (label program) ns now events (did_it x) tree after before behind

  -- one by which none is born, and that passes no `sync`
  bare : (x : Did) → Behind x → made.born (did_it x) ≡ [] → ((p : Path) → passes (label program) p (did_it x) ≡ false)
      → ((p : Path) → bears p (did_it x) ≡ false) → ((p : Path) → is_birth p (did_it x) ≡ false) → Told x rows
  bare x behind unborn none bearing birth =
      let size : length now ≡ length ns = none-born (label program) ns now events (did_it x) tree after before behind unborn in
      quiet (label program) events (did_it x) (path_at ns) (path_at now) (length ns) (length now) rows tells (same x behind) (omega (arith, size)) size
      none bearing birth

  module _ (id n : ℕ) where
    abbrev waits : Bool
    waits = is_so is_sync (act_of (label program) n)

    abbrev q : Path
    q = path_at ns id

    -- an action
    acted-joins : (b : Bool) (place : ℕ) → place < length ns → Behind (did.Acted id n) → q ≡ path_at ns place → waits ≡ b
        → Told (did.Acted id n) (passed_if b place rows)
    acted-joins true place there behind path joins =
        let size : length now ≡ length ns = none-born (label program) ns now events (acted q n) tree after before behind refl in
        let passing : (p : Path) → passes (label program) p (acted q n) ≡ same_path (path_at ns place) p =
        λ p. (λ j. same_path (path j) p && joins j) ∙ and-true (same_path (path_at ns place) p)
        in
        sync-passed (label program) events (acted q n) (path_at ns) (path_at now) (length ns) (length now) rows tells (same (did.Acted id n) behind)
        (omega (arith, size)) short place there size
        (λ i h. passing (path_at ns i) ∙ other-place (path_at ns) (length ns) named i place h there)
        (λ p none. passing p ∙ none place there) (λ p. refl) (λ p. refl)
    acted-joins false place there behind path joins =
        bare (did.Acted id n) behind refl (λ p. ap (λ b. same_path q p && b) joins ∙ and-false (same_path q p)) (λ p. refl) (λ p. refl)

    acted-told : (m : Motion) (s : Step) → Behind (did.Acted id n) → Means (label program) events (acted q n) (path_at ns) (length ns) m s
        → Told (did.Acted id n) (passed_if m.joins m.place rows)
    acted-told m s behind means =
        let is : step_within (label program) events (acted q n) q waits ≡ s = one_step means.step in
        acted-joins m.joins m.place means.place behind (ap (λ (x : Step). x.path) is ∙ means.path) (ap (λ (x : Step). x.joins) is ∙ means.joins)
      where
        one_step : Some (step_within (label program) events (acted q n) q waits) ≡ Some s → step_within (label program) events (acted q n) q waits ≡ s
        one_step e = cc

    -- a child is born
    abbrev c : Path
    c = path_at now id

    spawned-told : Behind (did.Spawned id n) → IsNextChild (did.Spawned id n) → TellsBy (did.Spawned id n) (motion_of program now cells (did.Spawned id n))
    spawned-told behind numbers =
        let child : Parented ns now c = child-is program ns now events cells short tree after before keeps id n behind in
        let at : unwrap_or (node_at now (length cells)).parent 0 ≡ child.at =
        parent-is program ns now events cells short tree after before keeps id n behind
        in
        let size : length now ≡ suc (length ns) = one-born (label program) ns now events (spawned c n) tree after before behind c refl in
        let last : path_at now (length ns) ≡ c = last-born (label program) ns now events (spawned c n) tree after before behind c refl in
        let stay = same (did.Spawned id n) behind in
        let apart : (i : ℕ) → i < length ns → path_at ns i ≡ c → ⊥ =
        λ i h is.
        let there : i ≡ length ns = names now after i (length ns) (omega (arith, h, size)) (omega (arith, size)) (stay i h ∙ is ∙ sym last) in
        omega (arith, there, h)
        in
        let new : (i : ℕ) → i < length ns → same_path (path_at ns i) c ≡ false =
        λ i h. false_from_ne_true (same_path (path_at ns i) c) (λ is. apart i h (same_is (path_at ns i) c is))
        in
        let parent : parent_path c ≡ path_at ns child.at = ap (λ (o : Option Path). unwrap_or o []) child.parent in
        let is : c ≡ child_path (path_at ns child.at) (suc (children_of events (path_at ns child.at))) =
        numbers c n refl ∙ ap (λ p. child_path p (suc (children_of events p))) parent
        in
        subst (λ k. Told (did.Spawned id n) (bore_at k rows)) (sym at)
        (born (label program) events (path_at ns) (path_at now) (length ns) (length now) rows tells stay short child.at child.within c n
        size last is parent new
        (λ i h. other-place (path_at ns) (length ns) named i child.at h child.within))

  pub told-noted : (x : Did) → Behind x → IsNextChild x → TellsBy x (motion_of program now cells x)
  told-noted did.Moved behind numbers = bare did.Moved behind refl (λ p. refl) (λ p. refl) (λ p. refl)
  told-noted (did.Acted id n) behind numbers =
      let says = motion-says program ns now events cells short tree after before keeps (did.Acted id n) behind in
      acted-told id n _ says.0 behind says.1
  told-noted (did.Spawned id n) behind numbers = spawned-told id n behind numbers
  told-noted (did.Delivered id n) behind numbers = bare (did.Delivered id n) behind refl (λ p. refl) (λ p. refl) (λ p. refl)
  told-noted (did.Returned id n) behind numbers = bare (did.Returned id n) behind refl (λ p. refl) (λ p. refl) (λ p. refl)
  told-noted (did.Ended id) behind numbers = bare (did.Ended id) behind refl (λ p. refl) (λ p. refl) (λ p. refl)
  told-noted (did.Trapped kind id n) behind numbers = bare (did.Trapped kind id n) behind refl (λ p. refl) (λ p. refl) (λ p. refl)
