-- What is told of a fault in a text that is not UTF-8: a sentence alone.
use Rattle.std.specs.Prelude.{◌≡◌, ℕ, List, [], ◌++◌, Result, Ok, Err, IfOk, IsUtf8, codes}
use Rattle.cilk_commands.specs.Telling.{IsTold}

pub sentence_alone : {A E : Type 0} (bytes : A → List ℕ) (r : Result A E) (text : List ℕ) (at : ℕ) → ¬ IsUtf8 text
    → IfOk r (λ s. (words : List ℕ) × (bytes s ≡ words ++ codes ".\n")) → IfOk r (λ s. IsTold text at (bytes s))
sentence_alone bytes (Ok s) text at other said = record { lines = []; words = said.0; is = said.1; marked = λ utf8 begins. absurd (other utf8) }
sentence_alone bytes (Err e) text at other said = tt
