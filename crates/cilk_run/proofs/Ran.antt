-- What a run gives.
use Rattle.std.proofs.Common.{◌≡◌, ◌≤◌, ℕ, Bool, true, false, List, length, map, Some, sym, ap, ◌∙◌, arith, subst}
use Rattle.std.proofs.lemmas.List.{length-map}
use Rattle.cilk_run.specs.syntax.Tree.{Program}
use Rattle.cilk_run.specs.labelled.Bodies.{label}
use Rattle.cilk_run.specs.labelled.Labelled.{Labelled}
use Rattle.cilk_run.specs.model.State.{Outcome, running, finished, trapped}
use Rattle.cilk_run.specs.model.Run.{Standing, after}
use Rattle.cilk_run.specs.model.End as model
use Rattle.cilk_run.specs.log.syntax.ProgramText.{program_text}
use Rattle.cilk_run.specs.choices.Words.{choice_of, end_of}
use Rattle.cilk_run.specs.log.Naming.{digest_of}
use Rattle.cilk_run.specs.choices.declared.choice.Choice as code
use Rattle.cilk_run.specs.machine.Situation.{Situation, workers_of}
use Rattle.cilk_run.specs.machine.Stands.{StandsAt}
use Rattle.cilk_run.specs.locked.Histories.{IsLedBy}
use Rattle.cilk_run.specs.Histories.{IsCounted}
use Rattle.cilk_run.specs.Runs.{Stops, IsRun}
use Rattle.cilk_run.specs.declared.run_result.Run.{Run}

-- as many choices as the machine counts
pub led-counted : (m : Situation) (made : List code.Choice) → IsLedBy m made → m.choices ≡ length made
led-counted m made l = sym l.led.counted ∙ length-map made choice_of

pub stands : (m : Situation) (made : List code.Choice) (l : IsLedBy m made) → StandsAt m l.at
stands m made l = record { choices = map choice_of made; events = l.events; led = l.led }

-- where it is stuck, some choice is not left
stuck_by : (program : Labelled) (b : Bool) (o : Outcome) → b ≡ true → model.end_by program b o ≡ model.limit → ⊥
stuck_by program true running is e = cc
stuck_by program true (finished z) is e = cc
stuck_by program true (trapped kind path n) is e = cc
stuck_by program false o is e = cc

pub ends-stuck : (limit : ℕ) (m seen : Situation) (made : List code.Choice) (b : Bool) → seen ≡ m → IsLedBy m made → length made ≤ limit
    → ((at : Standing) → StandsAt seen at → b ≡ model.is_stuck (label seen.program) at) → b ≡ true → Stops limit m
ends-stuck limit m seen made b same l within told is =
    let told' = subst (λ (s : Situation). (at : Standing) → StandsAt s at → b ≡ model.is_stuck (label s.program) at) same told in
    record {
      within = omega (arith, led-counted m made l, within);
      whole = λ at there ends. absurd (stuck_by (label m.program) (model.is_stuck (label m.program) at) at.state.outcome (sym (told' at there) ∙ is) ends);
    }

pub ran : (p : Program) (n limit : ℕ) (m seen : Situation) (made : List code.Choice) (r : Run) → seen ≡ m → m.program ≡ p → workers_of m ≡ n
    → IsLedBy m made → Stops limit m
    → r.log.program ≡ Some (digest_of (program_text p)) → r.log.workers ≡ n → r.log.choices ≡ made → IsCounted n r.turns made
    → ((at : Standing) → StandsAt seen at → r.output ≡ at.state.output)
    → ((at : Standing) → StandsAt seen at → end_of r.end ≡ model.end_now (label seen.program) at)
    → IsRun p n limit r
ran p n limit m seen made r same program crew l stops named workers choices counted output end =
    let there = subst (λ (s : Situation). StandsAt s l.at) (sym same) (stands m made l) in
    let count = led-counted m made l in
    let now : model.end_now (label m.program) l.at ≡ model.end_now (label p) l.at = ap (λ (q : Program). model.end_now (label q) l.at) program in
    let ended = subst (λ (s : Situation). end_of r.end ≡ model.end_now (label s.program) l.at) same (end l.at there) in
    record {
      program = named;
      workers = workers;
      at = record { standing = l.at; events = l.events };
      led = (λ i. after (label (sym program i)) (sym crew i) (map choice_of (choices i))) ∙ l.led.led;
      within = omega (arith, stops.within, count, ap length choices);
      output = output l.at there;
      end = ended ∙ now;
      whole = λ e. ap length choices ∙ sym count ∙ stops.whole l.at (stands m made l) (now ∙ e);
      counted = subst (λ cs. IsCounted n r.turns cs) (sym choices) counted;
    }
