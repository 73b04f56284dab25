-- The text of an expression writes its lexemes.
use Rattle.std.proofs.Common.{◌≡◌, ℕ, List, [], ◌∷◌, ◌++◌, refl, codes}
use Rattle.cilk_check.specs.lexeme.declared.keyword.Keyword.TheVariants as key
use Rattle.cilk_check.specs.lexeme.declared.mark.Mark.TheVariants as sign
use Rattle.cilk_check.specs.lexeme.Lexeme.{Lexeme, mark}
use Rattle.cilk_check.specs.lexeme.Spelling.{mark_spelling, IsName}
use Rattle.cilk_parse.proofs.lex_laws.Decimals.{decimal_number}
use Rattle.cilk_parse.proofs.lex_laws.Longest.{BeginsNoMark, no_mark_on, name_begins, number_begins}
use Rattle.cilk_check.specs.syntax.declared.operator.BinOp.{BinOp}
use Rattle.cilk_check.specs.syntax.declared.operator.BinOp.TheVariants as ops
use Rattle.cilk_check.specs.syntax.declared.un_op.UnOp.{UnOp}
use Rattle.cilk_check.specs.syntax.declared.un_op.UnOp.TheVariants as signs
use Rattle.cilk_check.specs.syntax.OperatorMark.{mark_of, sign_of}
use Rattle.cilk_check.specs.syntax.Tree as tree
use Rattle.cilk_tree.specs.syntax.ExprText.{expr_text, operand_text}
use Rattle.cilk_laws.specs.ExprLexemes.{operator_mark, sign_mark, expr_lexemes, operand_lexemes}
use Rattle.cilk_laws.specs.CanWrite.{CanWriteExpr}
use Rattle.cilk_laws.proofs.Spaced.{space_writes, spaced_mark, parentheses_write, brackets_write}
use Rattle.cilk_laws.proofs.Writes.{Writes, weaken, alone_then, ended_then, mark_then, word_writes, name_writes, number_writes}

-- the text of an operator is that of its mark
operator_text : (o : BinOp) → mark_of o ≡ mark_spelling (operator_mark o)
operator_text ops.Multiply = refl
operator_text ops.Divide = refl
operator_text ops.Remainder = refl
operator_text ops.Add = refl
operator_text ops.Subtract = refl
operator_text ops.ShiftLeft = refl
operator_text ops.ShiftRight = refl
operator_text ops.Less = refl
operator_text ops.LessOrEqual = refl
operator_text ops.Greater = refl
operator_text ops.GreaterOrEqual = refl
operator_text ops.Equal = refl
operator_text ops.NotEqual = refl
operator_text ops.BitAnd = refl
operator_text ops.BitXor = refl
operator_text ops.BitOr = refl
operator_text ops.And = refl
operator_text ops.Or = refl

-- an operator, and the operand behind it
operator_writes : {t : List ℕ} {ls : List Lexeme} (o : BinOp) → Writes t ls → Writes (mark_of o ++ (codes " " ++ t)) (mark (operator_mark o) ∷ ls)
operator_writes o w = rw (operator_text o) (mark_then (operator_mark o) (λ rest. refl) (alone_then space_writes w))

-- the text of an operator before its operand is that of its mark
sign_text : (o : UnOp) → sign_of o ≡ mark_spelling (sign_mark o)
sign_text signs.Minus = refl
sign_text signs.Plus = refl
sign_text signs.Not = refl
sign_text signs.Complement = refl

sign_writes : {t : List ℕ} {ls : List Lexeme} (o : UnOp) → BeginsNoMark t → Writes t ls → Writes (sign_of o ++ t) (mark (sign_mark o) ∷ ls)
sign_writes {t} o h w = rw (sign_text o) (mark_then (sign_mark o) (λ rest. no_mark_on t rest h) w)

-- a name, and what stands behind it
pub name_on : (x rest : List ℕ) → IsName x → BeginsNoMark (x ++ rest)
name_on x rest h = begins x (name_begins h)
  where
    begins : (w : List ℕ) → BeginsNoMark w → BeginsNoMark (w ++ rest)
    begins [] b = absurd b
    begins (b ∷ bs) c = c

-- an operand begins with a byte that continues no mark
operand_begins : (e : tree.Expr) → CanWriteExpr e → BeginsNoMark (operand_text e)
operand_begins (tree.number n) h = number_begins (decimal_number n h)
operand_begins (tree.named x) h = name_begins h
operand_begins (tree.element x i) h = name_on x.text (codes "[" ++ (expr_text i ++ codes "]")) h.0
operand_begins (tree.synched at) h = refl
operand_begins (tree.binary o a b) h = refl
operand_begins (tree.unary o a) h = refl
operand_begins (tree.choose c a b) h = refl

operand_writes : (e : tree.Expr) → Writes (expr_text e) (expr_lexemes e) → Writes (operand_text e) (operand_lexemes e)
operand_writes (tree.number n) w = w
operand_writes (tree.named x) w = w
operand_writes (tree.element x i) w = w
operand_writes (tree.synched at) w = w
operand_writes (tree.binary o a b) w = weaken (parentheses_write w)
operand_writes (tree.unary o a) w = weaken (parentheses_write w)
operand_writes (tree.choose c a b) w = weaken (parentheses_write w)

pub expr_writes : (e : tree.Expr) → CanWriteExpr e → Writes (expr_text e) (expr_lexemes e)
expr_writes (tree.number n) h = number_writes (decimal_number n h)
expr_writes (tree.named x) h = name_writes h
expr_writes (tree.element x i) h = ended_then (name_writes h.0) refl (weaken (brackets_write (expr_writes i h.1)))
expr_writes (tree.synched at) h = word_writes key.Synched
expr_writes (tree.binary o a b) h =
    let left = operand_writes a (expr_writes a h.0) in
    let right = operand_writes b (expr_writes b h.1) in
    ended_then left refl (alone_then space_writes (operator_writes o right))
expr_writes (tree.unary o a) h = sign_writes o (operand_begins a h) (operand_writes a (expr_writes a h))
expr_writes (tree.choose c a b) h =
    let test = operand_writes c (expr_writes c h.0) in
    let first = operand_writes a (expr_writes a h.1) in
    let second = operand_writes b (expr_writes b h.2) in
    ended_then test refl (alone_then (spaced_mark sign.Question) (ended_then first refl (alone_then (spaced_mark sign.Colon) second)))
