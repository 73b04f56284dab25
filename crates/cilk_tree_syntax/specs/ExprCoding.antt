-- Expressions as trees of numbers, one to one, which the logic stores.
use Rattle.std.specs.Prelude.{◌≡◌, refl, zero, suc}
use Rattle.std.specs.Coded.{Coded}
use base.Stored.{Gv, gnum, gcons}
use Rattle.cilk_tree_syntax.specs.Tree.{Expr, number, named, element, synched, binary, unary, choose}
use Rattle.cilk_tree_syntax.specs.Coding.{coded_back, word_to, word_from, word_back}
use Rattle.cilk_tree_syntax.specs.OperatorCoding.{operator_to, operator_from, operator_back, sign_to, sign_from, sign_back}

abbrev pub expr_to : Expr → Gv
expr_to (number n) = gcons (gnum 0) (gnum n)
expr_to (named name) = gcons (gnum 1) (word_to name)
expr_to (element name index) = gcons (gnum 2) (gcons (word_to name) (expr_to index))
expr_to (synched at) = gcons (gnum 3) (gnum at)
expr_to (binary op left right) = gcons (gnum 4) (gcons (operator_to op) (gcons (expr_to left) (expr_to right)))
expr_to (unary op operand) = gcons (gnum 5) (gcons (sign_to op) (expr_to operand))
expr_to (choose test first second) = gcons (gnum 6) (gcons (expr_to test) (gcons (expr_to first) (expr_to second)))

abbrev pub expr_from : Gv → Expr
expr_from (gcons (gnum zero) (gnum n)) = number n
expr_from (gcons (gnum (suc zero)) name) = named (word_from name)
expr_from (gcons (gnum (suc (suc zero))) (gcons name index)) = element (word_from name) (expr_from index)
expr_from (gcons (gnum (suc (suc (suc zero)))) (gnum at)) = synched at
expr_from (gcons (gnum (suc (suc (suc (suc zero))))) (gcons op (gcons left right))) =
    binary (operator_from op) (expr_from left) (expr_from right)
expr_from (gcons (gnum (suc (suc (suc (suc (suc zero)))))) (gcons op operand)) = unary (sign_from op) (expr_from operand)
expr_from (gcons (gnum (suc (suc (suc (suc (suc (suc _))))))) (gcons test (gcons first second))) =
    choose (expr_from test) (expr_from first) (expr_from second)
expr_from _ = number 0

pub expr_back : (x : Expr) → expr_from (expr_to x) ≡ x
expr_back (number n) = refl
expr_back (named name) = λ i. named (word_back name i)
expr_back (element name index) = λ i. element (word_back name i) (expr_back index i)
expr_back (synched at) = refl
expr_back (binary op left right) = λ i. binary (operator_back op i) (expr_back left i) (expr_back right i)
expr_back (unary op operand) = λ i. unary (sign_back op i) (expr_back operand i)
expr_back (choose test first second) = λ i. choose (expr_back test i) (expr_back first i) (expr_back second i)

abbrev pub coded_Expr : Coded Expr
coded_Expr = coded_back expr_to expr_from expr_back
