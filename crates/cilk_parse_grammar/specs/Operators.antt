-- The operators: the class of the mark of each, and how tightly it binds.
use Rattle.std.specs.Prelude.{ℕ, ◌==◌, if◌then◌else◌, List, [], ◌∷◌, Option, Some, None}
use Rattle.cilk_tree_syntax.specs.lexeme.declared.mark.Mark.TheVariants as marks
use Rattle.cilk_tree_syntax.specs.declared.operator.BinOp.TheVariants as ops
use Rattle.cilk_tree_syntax.specs.declared.un_op.UnOp.{UnOp}
use Rattle.cilk_tree_syntax.specs.declared.un_op.UnOp.TheVariants as signs
use Rattle.cilk_parse_grammar.specs.declared.operator.Infix.{Infix}
use Rattle.cilk_parse_grammar.specs.declared.operator.Infix.TheVariants.{Two, Choice}
use Rattle.cilk_parse_grammar.specs.Classes.{a_mark}

-- behind an operand (C 1990, 6.3.5 to 6.3.15): the higher the number, the more tightly it binds
abbrev pub infixes : List (ℕ × (ℕ × Infix))
infixes =
    (a_mark marks.Question, (0, Choice))
    ∷ (a_mark marks.Or, (1, Two ops.Or))
    ∷ (a_mark marks.And, (2, Two ops.And))
    ∷ (a_mark marks.Bar, (3, Two ops.BitOr))
    ∷ (a_mark marks.Caret, (4, Two ops.BitXor))
    ∷ (a_mark marks.Ampersand, (5, Two ops.BitAnd))
    ∷ (a_mark marks.Equal, (6, Two ops.Equal))
    ∷ (a_mark marks.NotEqual, (6, Two ops.NotEqual))
    ∷ (a_mark marks.Less, (7, Two ops.Less))
    ∷ (a_mark marks.LessOrEqual, (7, Two ops.LessOrEqual))
    ∷ (a_mark marks.Greater, (7, Two ops.Greater))
    ∷ (a_mark marks.GreaterOrEqual, (7, Two ops.GreaterOrEqual))
    ∷ (a_mark marks.ShiftLeft, (8, Two ops.ShiftLeft))
    ∷ (a_mark marks.ShiftRight, (8, Two ops.ShiftRight))
    ∷ (a_mark marks.Plus, (9, Two ops.Add))
    ∷ (a_mark marks.Minus, (9, Two ops.Subtract))
    ∷ (a_mark marks.Star, (10, Two ops.Multiply))
    ∷ (a_mark marks.Slash, (10, Two ops.Divide))
    ∷ (a_mark marks.Percent, (10, Two ops.Remainder))
    ∷ []

-- before an operand (C 1990, 6.3.3.3)
abbrev pub prefixes : List (ℕ × UnOp)
prefixes =
    (a_mark marks.Minus, signs.Minus) ∷ (a_mark marks.Plus, signs.Plus) ∷ (a_mark marks.Exclamation, signs.Not)
    ∷ (a_mark marks.Tilde, signs.Complement) ∷ []

-- an operand binds more tightly than each operator
abbrev pub operand : ℕ
operand = 11

-- the classes of a table
abbrev pub classes : {A : Type 0} → List (ℕ × A) → List ℕ
classes [] = []
classes ((c, x) ∷ rows) = c ∷ classes rows

-- what a table has for a class
abbrev pub found : {A : Type 0} → List (ℕ × A) → ℕ → Option A
found [] c = None
found ((d, x) ∷ rows) c = if d == c then Some x else found rows c

abbrev pub infix_of : ℕ → Option (ℕ × Infix)
infix_of c = found infixes c

abbrev pub sign_of : ℕ → Option UnOp
sign_of c = found prefixes c
