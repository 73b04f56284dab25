-- A motion is the step of the event.
use Rattle.std.proofs.Common.{◌≡◌, ◌<◌, ◌^◌, ℕ, suc, List, [], ◌∷◌, ◌++◌, length, Option, Some, None, unwrap_or, refl, sym, ap, ◌∙◌, subst, arith}
use Rattle.cilk_log_replay.specs.machine.labelled.Bodies.{label}
use Rattle.cilk_log_replay.specs.machine.syntax.Tree.{Program}
use Rattle.cilk_log_replay.specs.machine.model.Path.{Path}
use Rattle.cilk_log_replay.specs.machine.model.Event.{Event, spawned}
use Rattle.cilk_log_replay.specs.machine.frame.Kinds.{kind_of}
use Rattle.cilk_log_replay.specs.machine.spawn.Nodes.{Node, IsTree, node_at, path_at}
use Rattle.cilk_log_replay.specs.machine.agree.Fated.{Fated}
use Rattle.cilk_log_replay.specs.machine.plans.declared.did.Did.{Did}
use Rattle.cilk_log_replay.specs.machine.plans.declared.did.Did.TheVariants as did
use Rattle.cilk_log_replay.specs.machine.plans.PartWords.{event_by}
use Rattle.cilk_races.specs.Inside.{parent_path}
use Rattle.cilk_races.specs.Steps.{Step, step_of}
use Rattle.cilk_races.specs.declared.cell.Cell.{Cell}
use Rattle.cilk_races.specs.declared.motion.Motion.{Motion}
use Rattle.cilk_races.specs.Motions as motion
use Rattle.cilk_races.specs.Motions.{motion_of, place_among}
use Rattle.cilk_races.specs.CellsKept.{Keeps, Named}
use Rattle.cilk_races.proofs.Births.{Parented, named-by, stays, one-born, last-born, parented-by}
use Rattle.cilk_races.proofs.Doings.{Means, acted-means, spawned-means, delivered-means, returned-means, ended-means, trapped-means}
use Rattle.cilk_races.proofs.Ids.{place-within, place-path}

module _ (program : Program) (ns now : List Node) (events : List Event) (cells : List Cell) (short : length events < 2 ^ 60) (tree : IsTree ns)
    (after : IsTree now) (before : Fated (label program) ns events) (keeps : Keeps (label program) (path_at ns) (length ns) events cells) where
  abbrev pub did_this : Did → Event
  did_this x = event_by (path_at ns) (path_at now) x

  -- the step of the event
  abbrev pub Says : Did → Option Motion → Type 0
  Says x None = step_of (label program) events (did_this x) ≡ None
  Says x (Some m) = (s : Step) × Means (label program) events (did_this x) (path_at ns) (length ns) m s

  named : Named (path_at ns) (length ns)
  named = named-by ns tree

  place-low : (id : ℕ) → place_among (length cells) id < length ns
  place-low id =
      let some = tree.some in
      let entries = keeps.entries in
      let low : place_among (length cells) id < length cells = place-within (length cells) id (omega (arith, some, entries)) in
      omega (arith, low, entries)

  place-is : (id : ℕ) → path_at ns id ≡ path_at ns (place_among (length cells) id)
  place-is id = sym (ap (λ n. path_at ns (place_among n id)) keeps.entries ∙ place-path (path_at ns) (length ns) named id)

  -- a child that was spawned, and its parent
  module _ (id n : ℕ) (behind : Fated (label program) now (events ++ spawned (path_at now id) n ∷ [])) where
    abbrev c : Path
    c = path_at now id

    stay : (i : ℕ) → i < length ns → path_at now i ≡ path_at ns i
    stay = stays (label program) ns now events (spawned c n) tree after before behind

    pub child-is : Parented ns now c
    child-is =
        let size : length now ≡ suc (length ns) = one-born (label program) ns now events (spawned c n) tree after before behind c refl in
        let last : path_at now (length ns) ≡ c = last-born (label program) ns now events (spawned c n) tree after before behind c refl in
        parented-by ns now c tree after size last stay (node_at now (length ns)).parent refl

    pub parent-is : unwrap_or (node_at now (length cells)).parent 0 ≡ child-is.at
    parent-is =
        ap (λ k. unwrap_or (node_at now k).parent 0) keeps.entries ∙ ap (λ (o : Option ℕ). unwrap_or o 0) child-is.is

    spawned-says : Says (did.Spawned id n) (motion_of program now cells (did.Spawned id n))
    spawned-says =
        let child = child-is in
        let path : parent_path c ≡ path_at ns child.at = ap (λ (o : Option Path). unwrap_or o []) child.parent in
        subst (λ k. Says (did.Spawned id n) (Some (motion.born cells k))) (sym parent-is)
        (_, spawned-means (label program) events (path_at ns) (length ns) cells short named keeps c n child.at child.within path)

  pub motion-says : (x : Did) → Fated (label program) now (events ++ did_this x ∷ []) → Says x (motion_of program now cells x)
  motion-says did.Moved behind = refl
  motion-says (did.Acted id n) behind = (
    _,
    acted-means (label program) events (path_at ns) (length ns) cells short named keeps (path_at ns id) n
        (place_among (length cells) id) (place-low id) (place-is id),
  )
  motion-says (did.Spawned id n) behind = spawned-says id n behind
  motion-says (did.Delivered id n) behind = (
    _,
    delivered-means (label program) events (path_at ns) (length ns) cells short named keeps (path_at ns id) n
        (place_among (length cells) id) (place-low id) (place-is id),
  )
  motion-says (did.Returned id n) behind = (
    _,
    returned-means (label program) events (path_at ns) (length ns) cells short named keeps (path_at ns id) n
        (place_among (length cells) id) (place-low id) (place-is id),
  )
  motion-says (did.Ended id) behind = (
    _,
    ended-means (label program) events (path_at ns) (length ns) cells short named keeps (path_at ns id)
        (place_among (length cells) id) (place-low id) (place-is id),
  )
  motion-says (did.Trapped kind id n) behind = (
    _,
    trapped-means (label program) events (path_at ns) (length ns) cells short named keeps (kind_of kind) (path_at ns id) n
        (place_among (length cells) id) (place-low id) (place-is id),
  )
