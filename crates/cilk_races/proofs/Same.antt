-- What is kept behind a choice does not hang on the machine that was kept before.
use Rattle.std.proofs.Common.{◌≡◌, ℕ, List, Option, Some, None, ap, ◌∙◌, subst}
use Rattle.cilk_races.specs.Motions.{motion_of}
use Rattle.cilk_races.specs.Tallies.{Tally, noted}
use Rattle.cilk_races.specs.declared.motion.Motion.{Motion}
use Rattle.cilk_log_replay.specs.machine.plans.declared.did.Did.{Did}
use Rattle.cilk_log_replay.specs.machine.spawn.Nodes.{Node}
use Rattle.cilk_log_replay.specs.machine.syntax.Tree.{Program}
use Rattle.cilk_races.specs.Line.{Line}
use Rattle.cilk_races.specs.declared.touch.Touch as kept
use Rattle.cilk_races.specs.Noted.{IsNoted, KeepsTouches, NotesBy, number_of, placed_by, rows_after}
use Rattle.cilk_races.specs.declared.look.Look.{Look}
use Rattle.cilk_races.specs.declared.watch.Watch.{Watch}

module _ (program : Program) (ns : List Node) (look : Look) (k : ℕ) (did : Did) (mid old new : Watch) (tally : mid.tally ≡ old.tally)
    (rows : mid.rows ≡ old.rows) (touches : mid.touches.items ≡ old.touches.items) where
  by-motion : (o : Option Motion) → NotesBy program ns look k did o mid new → NotesBy program ns look k did o old new
  by-motion None h = record { touches = h.touches ∙ touches; rows = h.rows ∙ rows; tally = h.tally ∙ tally }
  by-motion (Some m) h = record {
    touches =
        subst (λ (lines : List Line). KeepsTouches k look.own (placed_by lines m) (number_of did) look.locks.items look.procedure look.accesses.items
        old.touches.items new.touches.items) rows
        (subst (λ (ts : List kept.Touch). KeepsTouches k look.own (placed_by mid.rows m) (number_of did) look.locks.items look.procedure
        look.accesses.items ts new.touches.items) touches h.touches);
    rows = h.rows ∙ ap (λ (lines : List Line). rows_after did m lines) rows;
    tally = h.tally ∙ ap (noted program ns did) tally;
  }

  pub noted-same : IsNoted program ns look k did mid new → IsNoted program ns look k did old new
  noted-same h =
      by-motion (motion_of program ns old.tally.cells did)
      (subst (λ (x : Tally). NotesBy program ns look k did (motion_of program ns x.cells did) mid new) tally h)
