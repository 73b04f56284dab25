use Rattle.std.proofs.Common.{◌≡◌, subst, true}
use Rattle.std.proofs.lemmas.Result.{IfOk-weaker}
use Rattle.clap.specs.Words.{App, FailsBy, HasMatchesOf, fault_of, is_simple_and_free}
use Rattle.cilk_words.specs.CommandLine.{texts_of}
use Rattle.cilk_words.proofs.Simple.{is_free, is_plain}
use Rattle.cilk_words.proofs.arguments.parse.Goals as goal

pub returns-clause-kinds : goal.returns-clause-kinds
returns-clause-kinds c =
    let words = texts_of c.args.words.now in
    let result = c.try_get_matches_from.result in
    subst (λ (app : App). is_simple_and_free app ≡ true → FailsBy (fault_of app words) result) c.in_ok-command.ensures
    c.try_get_matches_from.ensures.kinds is_free

pub returns-clause-rows : goal.returns-clause-rows
returns-clause-rows c =
    let words = texts_of c.args.words.now in
    IfOk-weaker c.try_get_matches_from.result _ _
    (λ m has. (subst (λ (app : App). HasMatchesOf app words m) c.in_ok-command.ensures has is_plain).1) c.try_get_matches_from.ensures.matches
