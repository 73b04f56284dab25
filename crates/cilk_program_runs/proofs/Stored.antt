-- What was stored and written of the bytes that were read of a text is so of the text.
use Rattle.std.proofs.Common.{◌≤◌, ℕ, List, length, Option}
use Rattle.cilk_program_tapes.specs.commands.lex.declared.reading.TheConstants.{TEXT_LIMIT}
use Rattle.cilk_program_tapes.specs.commands.Held.{Held, IsReadOf}
use Rattle.cilk_program_tapes.proofs.commands_laws.WholeText.{whole_held}
use Rattle.cilk_program_runs.specs.Running.{Stores, StoresFront}

module _ (known : Option (List ℕ)) (text : List ℕ) (stored_old stored_new old new : Option (List ℕ)) (Are : List ℕ → List ℕ → List ℕ → Type 0)
    (short : (log answer : List ℕ) → Are text log answer → length text ≤ TEXT_LIMIT) (read : IsReadOf known text) where
  pub stores_whole : Stores (Are text) stored_old stored_new old new
      → Stores (λ log answer. Held known (λ bytes. Are bytes log answer)) stored_old stored_new old new
  stores_whole s = record {
    log = s.log;
    answer = s.answer;
    are = whole_held known text (λ bytes. Are bytes s.log s.answer) read (short s.log s.answer s.are) s.are;
    stored = s.stored;
    written = s.written;
  }

  pub stores_front_whole : StoresFront (Are text) stored_old stored_new old new
      → StoresFront (λ log answer. Held known (λ bytes. Are bytes log answer)) stored_old stored_new old new
  stores_front_whole s = record {
    log = s.log;
    answer = s.answer;
    are = whole_held known text (λ bytes. Are bytes s.log s.answer) read (short s.log s.answer s.are) s.are;
    stored = s.stored;
    begun = s.begun;
  }
