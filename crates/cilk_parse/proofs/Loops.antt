-- A loop that reads one after another by a rule.
use Rattle.std.proofs.Common.{◌≡◌, ℕ, ◌<◌, true, false, List, [], ◌∷◌, ◌++◌, Ok, length}
use Rattle.cilk_parse_grammar.specs.lexeme.Lexeme.{Piece}
use Rattle.cilk_parse_grammar.specs.declared.fault.ReadError.{ReadError}
use Rattle.cilk_parse_grammar.specs.ReadsAs.{Fails, onto}
use Rattle.cilk_parse_grammar.specs.Rule as rule
use Rattle.cilk_parse_grammar.specs.Rule.{Rule, Read, has, many, nullable, class_at}
use Rattle.cilk_parse_grammar.proofs.LocalRules.{shorter}
use Rattle.cilk_parse_grammar.proofs.Loops as loops
use Rattle.cilk_parse_grammar.specs.Classes.{cls}
use Rattle.cilk_parse_grammar.specs.Expressions.{operator_limit, parenthesis_limit}
use Rattle.cilk_parse_grammar.specs.Parts.{Means}
use Rattle.cilk_parse_grammar.specs.Spelling.{first_of, read_at}
use Rattle.cilk_parse_grammar.proofs.Nests.{says, parts, begin_at, sound_at}
use Rattle.cilk_parse.specs.Limits.{read_in}

module _ {A : Type 0} (n : ℕ) (p : Rule Means A) (some : nullable p ≡ false) where
  pub one_shorter : (us : List Piece) (y : A × List Piece) → read_in n p us ≡ Ok y → length y.1 < length us
  unfolding read_at
  one_shorter us y e =
      shorter cls first_of (says operator_limit parenthesis_limit n) (parts operator_limit parenthesis_limit n) p
      (begin_at operator_limit parenthesis_limit n) (sound_at operator_limit parenthesis_limit n) some us y e

  module _ (front : List A) (ts : List Piece) (total : Read Piece (List A)) where
    pub loop_ends : has (rule.first first_of p) (class_at cls ts) ≡ false → onto front (read_in n (many p) ts) ≡ total → total ≡ Ok (front, ts)
    unfolding read_at
    loop_ends e h = loops.loop_ends (λ us. has (rule.first first_of p) (class_at cls us)) (λ us. read_in n p us) one_shorter front ts total e h

    pub loop_fails : (x : ReadError) → has (rule.first first_of p) (class_at cls ts) ≡ true → onto front (read_in n (many p) ts) ≡ total
        → Fails x (read_in n p ts) → Fails x total
    unfolding read_at
    loop_fails x e h k = loops.loop_fails (λ us. has (rule.first first_of p) (class_at cls us)) (λ us. read_in n p us) one_shorter front ts total x e h k

    pub loop_goes : (y : A) (rest : List Piece) → has (rule.first first_of p) (class_at cls ts) ≡ true
        → onto front (read_in n (many p) ts) ≡ total → read_in n p ts ≡ Ok (y, rest)
        → onto (front ++ y ∷ []) (read_in n (many p) rest) ≡ total
    unfolding read_at
    loop_goes y rest e h k =
        loops.loop_goes (λ us. has (rule.first first_of p) (class_at cls us)) (λ us. read_in n p us) one_shorter front ts total y rest e h k
