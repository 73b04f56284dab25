use Rattle.std.proofs.Common.{◌≡◌, ◌≤◌, ◌∙◌, Some, ap, arith, inr, length, map, string_bytes}
use Rattle.std.proofs.lemmas.List.{length-map}
use Rattle.cilk_log_replay.specs.log.choices.Words.{choice_of}
use Rattle.cilk_log_replay.specs.log.Words.{log_of}
use Rattle.cilk_program_tapes.specs.ChoiceLines.{nth_choice}
use Rattle.cilk_program_tapes.proofs.ChoiceLines.{nth_seen, nth_within, words_told}
use Rattle.cilk_program_tapes.proofs.ChoiceStands.{choice_on_its_line}
use Rattle.cilk_program_tapes.proofs.choice_line.choice_told.Goals as goal

pub returns : goal.returns
returns c =
    let choices = c.args.log.now.choices in
    let seen : Some c.in-Some.choice ≡ nth_choice choices c.args.number = c.in-Some.ensures ∙ ap (λ cs. nth_choice cs c.args.number) c.as_slice.ensures in
    let within = nth_within choices c.args.number c.in-Some.choice seen in
    let most : c.args.number ≤ length (map choice_of choices) = omega (arith, within, length-map choices choice_of) in
    inr
    (record {
      choice = choice_of c.in-Some.choice;
      made = nth_seen choices c.args.number c.in-Some.choice seen;
      tells = choice_on_its_line (log_of c.args.log.now) c.args.number within.0 most;
      is = words_told (string_bytes c.new-told.result) (string_bytes c.put_words.new.told) c.args.number c.line_of_choice-line.result _
          (choice_of c.in-Some.choice) c.args.why.now c.new-told.ensures.bytes c.line_of_choice-line.ensures c.in_ok-put_words.ensures;
    })
