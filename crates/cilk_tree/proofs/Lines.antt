-- The text of lines.
use Rattle.std.proofs.Common.{◌≡◌, ℕ, suc, ◌+◌, ◌<◌, Bool, true, false, if◌then◌else◌, List, [], ◌∷◌, ◌++◌, codes, length, get_or, drop, Option}
use Rattle.std.proofs.Common.{Some, None, refl, ap, sym, ◌∙◌}
use Rattle.std.proofs.Common.{append_assoc, add-one, drop-cons}
use Rattle.cilk_tree_syntax.specs.StmtView.{if_of}
use Rattle.cilk_tree_syntax.specs.Tree.{Expr, Block, Stmt, Local, Item, stmts_of, locals_of}
use Rattle.cilk_tree_syntax.specs.Lines.{text_of, deeper}
use Rattle.cilk_tree_syntax.specs.StmtLines.{block_lines, cases_lines, else_lines, is_label, local_lines, locals_lines, set_in, stmt_lines, stmts_lines}
use Rattle.cilk_tree_syntax.specs.StmtLines.{test_line}
use Rattle.cilk_tree_syntax.specs.ProgramText.{item_lines, items_lines}

-- the lines of two parts, one after the other
pub text_of-append : (indent : List ℕ) (xs ys : List (List ℕ)) → text_of indent (xs ++ ys) ≡ text_of indent xs ++ text_of indent ys
text_of-append indent [] ys = refl
text_of-append indent (x ∷ xs) ys = rw (text_of-append indent xs ys) (simp append_assoc)

-- lines one level deeper stand behind an indent that is longer
pub text_of-deeper : (indent : List ℕ) (xs : List (List ℕ)) → text_of indent (deeper xs) ≡ text_of (indent ++ codes "    ") xs
text_of-deeper indent [] = refl
text_of-deeper indent (x ∷ xs) = rw (text_of-deeper indent xs) (simp append_assoc)

-- the lines of two parts, and of three, behind what was there
pub two_parts : (out indent : List ℕ) (xs ys : List (List ℕ)) → (out ++ text_of indent xs) ++ text_of indent ys ≡ out ++ text_of indent (xs ++ ys)
two_parts out indent xs ys = append_assoc out (text_of indent xs) (text_of indent ys) ∙ ap (λ text. out ++ text) (sym (text_of-append indent xs ys))

pub three_parts : (out indent : List ℕ) (xs ys zs : List (List ℕ))
    → ((out ++ text_of indent xs) ++ text_of indent ys) ++ text_of indent zs ≡ out ++ text_of indent (xs ++ (ys ++ zs))
three_parts out indent xs ys zs = two_parts (out ++ text_of indent xs) indent ys zs ∙ two_parts out indent xs (ys ++ zs)

-- both forms of `if`
pub if_lines : (test : Expr) (body : Block) (other : Option Block) → stmt_lines (if_of test body other) ≡ test_line (codes "if") test
    ∷ (deeper (block_lines body) ++ else_lines other)
if_lines test body None = refl
if_lines test body (Some other) = refl

-- what is left of a list begins with the element that is there
left_at : {A : Type 0} (xs : List A) (i : ℕ) (x : A) → i < length xs → x ≡ get_or xs i x → drop i xs ≡ x ∷ drop (i + 1) xs
left_at xs i x below is = rw add-one (drop-cons xs i x below ∙ ap (λ y. y ∷ drop (suc i) xs) (sym is))

-- a label behind the indent, or another statement behind a longer one
pub case_text : (indent inner : List ℕ) (b : Bool) (xs : List (List ℕ)) → inner ≡ indent ++ codes "    "
    → text_of (if b then indent else inner) xs ≡ text_of indent (set_in b xs)
case_text indent inner true xs longer = refl
case_text indent inner false xs longer = ap (λ i. text_of i xs) longer ∙ sym (text_of-deeper indent xs)

-- a round of the loops over statements, declarations and items
pub stmts_round : (out indent : List ℕ) (xs : List Stmt) (i : ℕ) (x : Stmt) → i < length xs → x ≡ get_or xs i x
    → out ++ text_of indent (stmts_lines (stmts_of (drop i xs))) ≡ (out ++ text_of indent (stmt_lines x))
    ++ text_of indent (stmts_lines (stmts_of (drop (i + 1) xs)))
stmts_round out indent xs i x below is = rw (left_at xs i x below is) (sym (two_parts out indent (stmt_lines x) (stmts_lines (stmts_of (drop (i + 1) xs)))))

pub cases_round : (out indent : List ℕ) (xs : List Stmt) (i : ℕ) (x : Stmt) → i < length xs → x ≡ get_or xs i x
    → out ++ text_of indent (cases_lines (stmts_of (drop i xs))) ≡ (out ++ text_of indent (set_in (is_label x) (stmt_lines x)))
    ++ text_of indent (cases_lines (stmts_of (drop (i + 1) xs)))
cases_round out indent xs i x below is =
    rw (left_at xs i x below is) (sym (two_parts out indent (set_in (is_label x) (stmt_lines x)) (cases_lines (stmts_of (drop (i + 1) xs)))))

pub locals_round : (out indent : List ℕ) (xs : List Local) (i : ℕ) (x : Local) → i < length xs → x ≡ get_or xs i x
    → out ++ text_of indent (locals_lines (locals_of (drop i xs))) ≡ (out ++ text_of indent (local_lines x))
    ++ text_of indent (locals_lines (locals_of (drop (i + 1) xs)))
locals_round out indent xs i x below is = rw (left_at xs i x below is) (sym (two_parts out indent (local_lines x) (locals_lines (locals_of (drop (i + 1) xs)))))

pub items_round : (out : List ℕ) (xs : List Item) (i : ℕ) (x : Item) → i < length xs → x ≡ get_or xs i x
    → out ++ text_of [] (items_lines (drop i xs)) ≡ (out ++ text_of [] (item_lines x)) ++ text_of [] (items_lines (drop (i + 1) xs))
items_round out xs i x below is = rw (left_at xs i x below is) (sym (two_parts out [] (item_lines x) (items_lines (drop (i + 1) xs))))
