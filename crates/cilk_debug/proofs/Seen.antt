-- What is seen where a machine stands.
use Rattle.std.proofs.Common.{◌≡◌, ℕ, List, [], ◌++◌, take, length, Option, None, option_map, option_and_then, ap, ◌∙◌, sym, subst}
use Rattle.cilk_log_replay.specs.machine.syntax.Tree.{Program}
use Rattle.cilk_log_replay.specs.machine.labelled.Bodies.{label}
use Rattle.cilk_debug_console.specs.model.State as state
use Rattle.cilk_debug_console.specs.model.Run.{Standing, Position}
use Rattle.cilk_log_replay.proofs.machine_laws.runs_laws.Fates.{each_choice_is_an_event}
use Rattle.cilk_debug_console.specs.model.What.{What, where_it_stands}
use Rattle.cilk_debug_console.specs.model.Workers.{position_text}
use Rattle.cilk_debug_console.specs.model.Views.{shown, first_line, view}
use Rattle.cilk_log_replay.specs.machine.frame.declared.what.What as code
use Rattle.cilk_log_replay.specs.machine.frame.Asked.{what_of}
use Rattle.cilk_log_replay.specs.machine.Situation.{Situation, workers_of}
use Rattle.cilk_log_replay.specs.machine.Stands.{StandsAt}
use Rattle.cilk_log_replay.specs.Tape.{Tape, IsAt}
use Rattle.cilk_log_replay.proofs.Again.{led_in}
use Rattle.cilk_debug.specs.Debugging.{Debugging}
use Rattle.cilk_debug.specs.Seeing.{seen_behind, position_line, line_behind}

module _ (t : Tape) (k : ℕ) (m : Situation) (h : IsAt t k m) where
  pub stands : StandsAt m h.at.standing
  stands = record { choices = take k t.choices; events = h.at.events; led = h.led }

  as_many : length h.at.events ≡ k
  as_many = each_choice_is_an_event (label m.program) (workers_of m) (take k t.choices) h.at h.led.led ∙ h.led.counted ∙ h.choices

  seen_by : (what : What) → seen_behind t k what ≡ view t.program h.at (length t.choices) what
  seen_by what = ap (option_and_then (λ (at : Position). view t.program at (length t.choices) what)) (led_in t k m h)

  shown_by : (what : What) (o : Option (List ℕ)) → shown m.program h.at what ≡ o
      → seen_behind t k what ≡ option_map (λ (text : List ℕ). first_line t.program h.at (length t.choices) what ++ text) o
  shown_by what o e =
      seen_by what ∙ ap (option_map (λ (text : List ℕ). first_line t.program h.at (length t.choices) what ++ text))
      (subst (λ (p : Program). shown p h.at what ≡ o) h.program e)

  pub nothing : (what : code.What) → shown m.program h.at (what_of what) ≡ None → seen_behind t k (what_of what) ≡ None
  nothing what e = shown_by (what_of what) None e

  led_line : line_behind t k ≡ first_line t.program h.at (length t.choices) where_it_stands
  led_line = ap (position_line t) (led_in t k m h)

  pub line_here : (outcome : state.Outcome) (made all : ℕ) → outcome ≡ h.at.standing.state.outcome → made ≡ k → all ≡ length t.choices
      → position_text (label t.program) outcome made all ≡ line_behind t k
  line_here outcome made all stands made_is all_is =
      ap (λ (o : state.Outcome). position_text (label t.program) o made all) stands
      ∙ ap (λ (n : ℕ). position_text (label t.program) h.at.standing.state.outcome n all) (made_is ∙ sym as_many)
      ∙ ap (position_text (label t.program) h.at.standing.state.outcome (length h.at.events)) all_is
      ∙ sym led_line

-- the same as a debugger tells it
pub line_seen : (d : Debugging) (program : Program) (m : Situation) → program ≡ d.tape.program → IsAt d.tape d.position m
    → (outcome : state.Outcome) (made all : ℕ) → ((at : Standing) → StandsAt m at → outcome ≡ at.state.outcome) → made ≡ d.position
    → all ≡ length d.tape.choices
    → position_text (label program) outcome made all ≡ line_behind d.tape d.position
line_seen d program m is h outcome made all stood made_is all_is =
    ap (λ (p : Program). position_text (label p) outcome made all) is
    ∙ line_here d.tape d.position m h outcome made all (stood h.at.standing (stands d.tape d.position m h)) made_is all_is

pub put_behind : (wanted text : List ℕ) {empty before after line : List ℕ} → empty ≡ [] → before ≡ empty ++ line → after ≡ before ++ text → line ≡ wanted
    → after ≡ wanted ++ text
put_behind wanted text {line = line} none put pushed is =
    pushed ∙ ap (λ (b : List ℕ). b ++ text) (put ∙ ap (λ (b : List ℕ). b ++ line) none ∙ is)
