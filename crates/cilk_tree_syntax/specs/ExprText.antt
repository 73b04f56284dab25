-- The canonical text of an expression (C 1990, 6.3).
use Rattle.std.specs.Prelude.{ℕ, Bool, true, false, List, ◌++◌, codes, decimal}
use Rattle.cilk_tree_syntax.specs.Tree.{Expr, number, named, element, synched, binary, unary, choose}
use Rattle.cilk_tree_syntax.specs.OperatorMark.{mark_of, sign_of}

-- whether it stands as an operand with no parentheses
abbrev pub stands_alone : Expr → Bool
stands_alone (number n) = true
stands_alone (named name) = true
stands_alone (element name index) = true
stands_alone (synched at) = true
stands_alone (binary op left right) = false
stands_alone (unary op operand) = false
stands_alone (choose test first second) = false

-- the text, in parentheses unless it stands alone
abbrev pub as_operand : Bool → List ℕ → List ℕ
as_operand true text = text
as_operand false text = codes "(" ++ (text ++ codes ")")

-- numbers in decimal, a space on both sides of an operator between operands, and none behind one before its operand
abbrev pub expr_text : Expr → List ℕ
expr_text (number n) = decimal n
expr_text (named name) = name.text
expr_text (element name index) = name.text ++ (codes "[" ++ (expr_text index ++ codes "]"))
expr_text (synched at) = codes "SYNCHED"
expr_text (binary op left right) =
    as_operand (stands_alone left) (expr_text left) ++ (codes " " ++ (mark_of op ++ (codes " " ++ as_operand (stands_alone right) (expr_text right))))
expr_text (unary op operand) = sign_of op ++ as_operand (stands_alone operand) (expr_text operand)
expr_text (choose test first second) =
    as_operand (stands_alone test) (expr_text test)
    ++ (codes " ? " ++ (as_operand (stands_alone first) (expr_text first) ++ (codes " : " ++ as_operand (stands_alone second) (expr_text second))))

abbrev pub operand_text : Expr → List ℕ
operand_text e = as_operand (stands_alone e) (expr_text e)
