-- What comes of a machine behind the schedule that a seed names.
use Rattle.std.proofs.Common.{◌≡◌, ◌∙◌, ℕ, List, map, Some, sym, ap}
use Rattle.std.specs.Prelude.{Result, Ok, Err, IfOk, string_bytes}
use Rattle.cilk_run.specs.choices.Words.{choice_of}
use Rattle.cilk_run.specs.choices.declared.choice.Choice as choice
use Rattle.cilk_run.specs.labelled.Bodies.{label}
use Rattle.cilk_run.specs.locked.Histories.{IsLedBy}
use Rattle.cilk_run.specs.machine.Situation.{Situation, workers_of}
use Rattle.cilk_run.specs.machine.Stands.{StandsAt}
use Rattle.cilk_run.specs.model.End.{End, end_now}
use Rattle.cilk_run.specs.model.Run.{Position, Standing, after}
use Rattle.cilk_run.specs.syntax.Tree.{Program}
use Rattle.cilk_run.specs.Drawn.{drawn}
use Rattle.cilk_run.specs.Tallied.{end_words, outcome_at, outcome_of}
use Rattle.cilk_run.specs.Tallying.{outcome_by}
use Rattle.cilk_run.specs.declared.outcome.Outcome as code
use Rattle.cilk_run.proofs.Ran.{stands}

pub words-ok : {A E : Type 0} (bytes : A → List ℕ) (m : Situation) (end : End) (result : Result A E) → IfOk result (λ w. bytes w ≡ end_words end)
    → ((at : Standing) → StandsAt m at → end ≡ end_now (label m.program) at)
    → IfOk result (λ w. (at : Standing) → StandsAt m at → bytes w ≡ end_words (end_now (label m.program) at))
words-ok bytes m end (Ok w) is told = λ at there. is ∙ ap end_words (told at there)
words-ok bytes m end (Err e) is told = tt

pub outcome-is : (p : Program) (n limit seed : ℕ) (m : Situation) (made : List choice.Choice) (o : code.Outcome) → m.program ≡ p → workers_of m ≡ n
    → IsLedBy m made → map choice_of made ≡ drawn (label p) n seed limit → ((at : Standing) → StandsAt m at → o.printed.items ≡ at.state.output)
    → ((at : Standing) → StandsAt m at → string_bytes o.ended ≡ end_words (end_now (label m.program) at))
    → outcome_by o ≡ outcome_of (label p) n limit seed
outcome-is p n limit seed m made o program crew led are printed ended =
    let there = stands m made led in
    let at : Position = record { standing = led.at; events = led.events } in
    let behind : after (label p) n (drawn (label p) n seed limit) ≡ Some at = (λ i. after (label (sym program i)) (sym crew i) (sym are i)) ∙ led.led.led in
    let words = ended led.at there ∙ ap (λ (q : Program). end_words (end_now (label q) led.at)) program in
    (λ i. record { printed = printed led.at there i; ended = words i }) ∙ sym (ap (outcome_at (label p)) behind)
