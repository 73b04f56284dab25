-- Fixed texts between names and numbers: words and marks with blanks about them, and pairs of marks.
use Rattle.std.proofs.Common.{List, [], ◌∷◌, ◌++◌, ℕ, refl, codes}
use Rattle.cilk_check.specs.lexeme.declared.keyword.Keyword.{Keyword}
use Rattle.cilk_check.specs.lexeme.declared.mark.Mark.{Mark}
use Rattle.cilk_check.specs.lexeme.declared.mark.Mark.TheVariants as sign
use Rattle.cilk_check.specs.lexeme.Lexeme.{Lexeme, word, mark}
use Rattle.cilk_check.specs.lexeme.Spelling.{spelling, mark_spelling}
use Rattle.cilk_laws.specs.ExprLexemes.{in_parentheses, in_brackets}
use Rattle.cilk_laws.proofs.Writes.{Writes, WritesAlone, both_alone, ended_alone, blank_writes, sure_mark, mark_writes, word_writes}

pub space_writes : WritesAlone (codes " ") []
space_writes = blank_writes 32 refl

pub newline_writes : WritesAlone (codes "\n") []
newline_writes = blank_writes 10 refl

pub indent_writes : WritesAlone (codes "    ") []
indent_writes = both_alone space_writes (both_alone space_writes (both_alone space_writes space_writes))

-- a space behind
pub word_space : (k : Keyword) → WritesAlone (spelling k ++ codes " ") (word k ∷ [])
word_space k = ended_alone (word_writes k) (λ rest. refl) space_writes

pub mark_space : (m : Mark) → WritesAlone (mark_spelling m ++ codes " ") (mark m ∷ [])
mark_space m = ended_alone (mark_writes m) (λ rest. refl) space_writes

-- a space on both sides
pub spaced_mark : (m : Mark) → WritesAlone (codes " " ++ (mark_spelling m ++ codes " ")) (mark m ∷ [])
spaced_mark m = both_alone space_writes (mark_space m)

-- `) {`
pub then_brace : WritesAlone (codes ") {") (mark sign.CloseParenthesis ∷ mark sign.OpenBrace ∷ [])
then_brace = both_alone (sure_mark sign.CloseParenthesis refl) (both_alone space_writes (sure_mark sign.OpenBrace refl))

-- in parentheses, and in brackets
pub parentheses_write : {t : List ℕ} {ls : List Lexeme} → Writes t ls → WritesAlone (codes "(" ++ (t ++ codes ")")) (in_parentheses ls)
parentheses_write w = both_alone (sure_mark sign.OpenParenthesis refl) (ended_alone w (λ rest. refl) (sure_mark sign.CloseParenthesis refl))

pub brackets_write : {t : List ℕ} {ls : List Lexeme} → Writes t ls → WritesAlone (codes "[" ++ (t ++ codes "]")) (in_brackets ls)
brackets_write w = both_alone (sure_mark sign.OpenBracket refl) (ended_alone w (λ rest. refl) (sure_mark sign.CloseBracket refl))
