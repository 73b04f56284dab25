-- The canonical text of a program that a text spells and that breaks no rule is a text of the same program.
use Rattle.std.proofs.Common.{◌≡◌, ℕ, List, length, refl, arith}
use Rattle.cilk_check.specs.lexeme.Lexeme.{Piece}
use Rattle.cilk_check.specs.syntax.Tree as tree
use Rattle.cilk_check.specs.syntax.Bare.{bare_program}
use Rattle.cilk_tree.specs.syntax.ProgramText.{program_text}
use Rattle.cilk_tree.proofs.BareText.{program_text_same}
use Rattle.cilk_parse_grammar.specs.Expressions.{operator_limit, parenthesis_limit}
use Rattle.cilk_parse_grammar.specs.Spelling.{SpellsProgram, nesting_limit}
use Rattle.cilk_parse.specs.Text.{Spells}
use Rattle.cilk_check.specs.scopes.WellFormed.{WellFormed}
use Rattle.cilk_laws.proofs.GoodTrees.{printed}
use Rattle.cilk_laws.proofs.Plain.{program_is_plain}

-- tokens do not tell the length of the text
of_length : (l d n : ℕ) (ts : List Piece) (p : tree.Program) (size : ℕ) → SpellsProgram l d n ts p → SpellsProgram l d n ts (record p { length = size })
unfolding SpellsProgram
of_length l d n ts p size s = s

pub spelled_by_canonical : (text : List ℕ) (p : tree.Program) → Spells text p → WellFormed p
    → ((q : tree.Program) × Spells (program_text p) q × (bare_program q ≡ bare_program p))
spelled_by_canonical text p s formed =
    let again = printed operator_limit parenthesis_limit nesting_limit (omega arith) text s.pieces p s.lexed s.spelled (program_is_plain p formed) in
    let size = length (program_text p) in (
      record again.1 { length = size },
      record {
        pieces = again.0;
        lexed = again.2;
        spelled = of_length operator_limit parenthesis_limit
            nesting_limit again.0 again.1 size again.3;
        length = refl;
      },
      again.4,
    )

pub same_text : (p q : tree.Program) → bare_program q ≡ bare_program p → program_text q ≡ program_text p
same_text p q same = program_text_same q p same
