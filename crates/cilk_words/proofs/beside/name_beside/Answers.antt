use Rattle.std.proofs.Common.{◌≡◌, ◌++◌, ℕ, List, arith, ap, ◌∙◌}
use Rattle.std.specs.Prelude.{codes, decimal}
use Rattle.std.proofs.lemmas.Result.{IfOk-weaker}
use Rattle.cilk_words.specs.Beside.{name_beside}
use Rattle.cilk_words.proofs.Folders.{folder_some, folder_none}
use Rattle.cilk_words.proofs.beside.name_beside.Goals as goal

pub returns-in-Some : goal.returns-in-Some
returns-in-Some c =
    let h = c.in-Some.ensures.cases in
    let at = folder_some c.args.path.now c.in-Some.parts.0.now h.0 h.1 h.2 h.3 (omega (arith, h.7)) in
    IfOk-weaker c.name_in.result _ (λ name. name.bytes ≡ name_beside c.args.path.now c.args.number)
    (λ name e. e ∙ ap (λ (folder : List ℕ). folder ++ (codes ".cilk-log-" ++ decimal c.args.number)) at) c.name_in.ensures

pub returns-in-None : goal.returns-in-None
returns-in-None c =
    let at = folder_none c.args.path.now c.in-None.ensures.cases in
    IfOk-weaker c.name_in-in-None.result _ (λ name. name.bytes ≡ name_beside c.args.path.now c.args.number)
    (λ name e. e ∙ ap (λ (folder : List ℕ). folder ++ (codes ".cilk-log-" ++ decimal c.args.number)) at) c.name_in-in-None.ensures
