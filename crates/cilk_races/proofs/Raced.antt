-- Before any choice of a tape, and behind all of them.
use Rattle.std.proofs.Common.{◌≡◌, ℕ, List, [], ◌∷◌, length, take, Option, Some, None, refl, sym, ap, ◌∙◌, subst, arith}
use Rattle.std.proofs.lemmas.List.{nil_from_length, take_all}
use Rattle.cilk_races.specs.Gauged.{events_at, events_in}
use Rattle.cilk_races.specs.Held.{Held}
use Rattle.cilk_races.specs.Tallies.{first}
use Rattle.cilk_log_replay.specs.Tape.{Tape, IsAt, position_at}
use Rattle.cilk_log_replay.specs.machine.Situation.{Situation}
use Rattle.cilk_log_replay.specs.machine.agree.Fated.{Fated}
use Rattle.cilk_log_replay.specs.machine.labelled.Bodies.{label}
use Rattle.cilk_log_replay.specs.machine.labelled.Labelled.{Labelled}
use Rattle.cilk_log_replay.specs.machine.model.Choice.{Choice}
use Rattle.cilk_log_replay.specs.machine.model.Event.{Event}
use Rattle.cilk_log_replay.specs.machine.model.Path.{Path}
use Rattle.cilk_log_replay.specs.machine.model.Run.{Position, after_main}
use Rattle.cilk_log_replay.specs.machine.spawn.Nodes.{IsTree, Node, path_at}
use Rattle.cilk_log_replay.specs.machine.syntax.Tree.{Program}
use Rattle.cilk_races.proofs.Births.{made-at, made-length}
use Rattle.cilk_races.proofs.Gauges.{events-long, first-held}
use Rattle.cilk_log_replay.proofs.Again.{led_in}
use Rattle.cilk_races.specs.Kept.{Blocked}
use Rattle.cilk_races.specs.Line.{no_line}
use Rattle.cilk_races.specs.Paired as paired
use Rattle.cilk_races.specs.Races.{Pair, entries_of, pairs_of, touches_of}
use Rattle.cilk_races.specs.Found.{HoldsRun, KeepsOf}
use Rattle.cilk_races.specs.Noted.{line_at}
use Rattle.cilk_races.specs.Raced.{AreRacesOf}
use Rattle.cilk_races.specs.Watched.{TellsLines, TellsLine, Watched}
use Rattle.cilk_races.specs.declared.races.Races.{Races}
use Rattle.cilk_races.specs.declared.watch.Watch.{Watch}
use Rattle.cilk_races.proofs.Touched.{blocked}

first-told : (program : Labelled) → TellsLine program [] [] no_line
first-told program = record {
  named = refl;
  size = refl;
  along = λ at low. absurd (omega (arith, low));
  syncs = refl;
  children = refl;
}

tells-first : (program : Labelled) (ns : List Node) → IsTree ns → Fated program ns [] → TellsLines program (path_at ns) (length ns) [] (no_line ∷ [])
tells-first program ns tree fated =
    let size : length ns ≡ 1 = made-length program ns [] fated in
    let some = tree.some in
    let root : path_at ns 0 ≡ [] = made-at program ns [] fated 0 some in
    record {
      entries = sym size;
      each = λ i h.
          let at : i ≡ 0 = omega (arith, h, size) in
          subst (λ k. TellsLine program [] (path_at ns k) (line_at (no_line ∷ []) k)) (sym at)
          (subst (λ (q : Path). TellsLine program [] q no_line) (sym root) (first-told program));
      unmade = λ p none. record { born = refl; syncs = refl; children = refl };
      root = refl;
    }

pub watched-first : (t : Tape) (w : Watch) → IsAt t 0 w.machine → w.tally ≡ first → w.rows ≡ no_line ∷ [] → w.touches.items ≡ [] → Watched t 0 w
watched-first t w at tally rows touches =
    let ns : List Node = w.machine.machine.nodes in
    let here : events_at t 0 ≡ [] = nil_from_length (events_at t 0) (events-long t 0 w.machine at (omega arith)) in
    let there : at.at.events ≡ [] = sym (ap events_in (led_in t 0 w.machine at)) ∙ here in
    let fated : Fated (label t.program) ns [] =
    subst (λ (p : Program). Fated (label p) ns []) at.program (subst (Fated (label w.machine.program) ns) there at.led.fated)
    in
    record {
      tally = subst (λ (es : List Event). Held (label t.program) (path_at ns) (length ns) es w.tally) (sym here)
          (subst (Held (label t.program) (path_at ns) (length ns) []) (sym tally) (first-held (label t.program) ns at.led.agrees.tree fated));
      rows = subst (λ (es : List Event). TellsLines (label t.program) (path_at ns) (length ns) es w.rows) (sym here)
          (subst (TellsLines (label t.program) (path_at ns) (length ns) []) (sym rows) (tells-first (label t.program) ns at.led.agrees.tree fated));
      known = λ i d low. let none : length w.touches.items ≡ 0 = ap length touches in absurd (omega (arith, low, none));
      touches = λ main start. ap (paired.touches_of w.rows) touches;
    }

-- where choices lead somewhere there is a `main`
starts : (program : Labelled) (n : ℕ) (choices : List Choice) (at : Position) (o : Option ℕ) → after_main program n o choices ≡ Some at
    → (main : ℕ) × (o ≡ Some main)
starts program n choices at None led = cc
starts program n choices at (Some main) led = (main, refl)

pub races-told : (t : Tape) (w : Watch) (n : ℕ) → n ≡ length t.choices → IsAt t n w.machine → Watched t n w → (entries : List Pair)
    → ((program : Labelled) (events : List Event) → Blocked program events w.rows
    → entries ≡ entries_of (pairs_of program events (paired.touches_of w.rows w.touches.items)))
    → AreRacesOf t entries
races-told t w n size at kept entries told =
    let program : Labelled = label t.program in
    let led : position_at t n ≡ Some at.at = led_in t n w.machine at in
    let all : take n t.choices ≡ t.choices = take_all n t.choices (omega (arith, size)) in
    let main = starts program t.workers (take n t.choices) at.at program.main led in
    let touches = kept.touches main.0 main.1 ∙ ap (touches_of program main.0 t.workers) all in
    let here : events_at t n ≡ at.at.events = ap events_in led in
    let ns : List Node = w.machine.machine.nodes in
    record {
      at = at.at;
      led = ap (position_at t) (sym size) ∙ led;
      main = main.0;
      start = main.1;
      are = told program (events_at t n) (blocked program (path_at ns) (length ns) (events_at t n) w.rows kept.rows)
          ∙ (λ j. entries_of (pairs_of program (here j) (touches j)));
    }

pub holds-run : (t : Tape) (w : Watch) (n : ℕ) → n ≡ length t.choices → IsAt t n w.machine → Watched t n w → (r : Races) → KeepsOf w r → HoldsRun t r
holds-run t w n size at kept r same =
    let program : Labelled = label t.program in
    let all : take n t.choices ≡ t.choices = take_all n t.choices (omega (arith, size)) in
    let main = starts program t.workers (take n t.choices) at.at program.main (led_in t n w.machine at) in
    record {
      program = ap (λ (m : Situation). m.program) same.machine ∙ at.program;
      main = main.0;
      start = main.1;
      touches =
          (λ j. paired.touches_of (same.rows j) (same.touches j).items) ∙ kept.touches main.0 main.1
          ∙ ap (touches_of program main.0 t.workers) all;
    }
