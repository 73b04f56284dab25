-- Lines that write some lexemes, however deep they stand.
use Rattle.std.proofs.Common.{◌≡◌, ℕ, List, [], ◌∷◌, ◌++◌, refl, codes, subst}
use Rattle.std.proofs.lemmas.List.{append-nil}
use Rattle.cilk_check.specs.lexeme.declared.mark.Mark.TheVariants as sign
use Rattle.cilk_check.specs.lexeme.Lexeme.{Lexeme, mark}
use Rattle.cilk_tree.specs.syntax.Lines.{text_of, deeper, closed, ended}
use Rattle.cilk_tree.proofs.Lines.{text_of-append, text_of-deeper}
use Rattle.cilk_laws.specs.StmtLexemes as written
use Rattle.cilk_laws.proofs.Spaced.{newline_writes, indent_writes}
use Rattle.cilk_laws.proofs.Writes.{Writes, WritesAlone, nothing_writes, both_alone, ended_alone, sure_mark}

-- the lines write the lexemes, behind each indent
pub record LinesWrite (lines : List (List ℕ)) (ls : List Lexeme) : Type 0 where
  pub behind : (indent : List ℕ) → WritesAlone indent [] → WritesAlone (text_of indent lines) ls

pub no_lines : LinesWrite [] []
no_lines = record { behind = λ indent blank. nothing_writes }

-- a line, and lines behind it
pub first_line : {line : List ℕ} {lines : List (List ℕ)} {ls ks : List Lexeme} → WritesAlone line ls → LinesWrite lines ks
    → LinesWrite (line ∷ lines) (ls ++ ks)
first_line v w = record { behind = λ indent blank. both_alone blank (both_alone v (both_alone newline_writes (w.behind indent blank))) }

pub same_lines : {lines : List (List ℕ)} {ls ks : List Lexeme} → ls ≡ ks → LinesWrite lines ls → LinesWrite lines ks
same_lines {lines = lines} e w = subst (λ (l : List Lexeme). LinesWrite lines l) e w

pub one_line : {line : List ℕ} {ls : List Lexeme} → WritesAlone line ls → LinesWrite (line ∷ []) ls
one_line {ls = ls} v = same_lines (append-nil ls) (first_line v no_lines)

-- a text, and the semicolon that ends its line
pub ended_line : {text : List ℕ} {ls : List Lexeme} → Writes text ls → LinesWrite (ended text) (written.ended ls)
ended_line w = one_line (ended_alone w (λ rest. refl) (sure_mark sign.Semicolon refl))

pub more_lines : {xs ys : List (List ℕ)} {ls ks : List Lexeme} → LinesWrite xs ls → LinesWrite ys ks → LinesWrite (xs ++ ys) (ls ++ ks)
more_lines {xs} {ys} v w = record { behind = λ indent blank. rw (text_of-append indent xs ys) (both_alone (v.behind indent blank) (w.behind indent blank)) }

pub deeper_lines : {xs : List (List ℕ)} {ls : List Lexeme} → LinesWrite xs ls → LinesWrite (deeper xs) ls
deeper_lines {xs} w = record { behind = λ indent blank. rw (text_of-deeper indent xs) (w.behind (indent ++ codes "    ") (both_alone blank indent_writes)) }

-- the lines of a body, and the brace that closes it
pub closed_lines : {xs : List (List ℕ)} {ls : List Lexeme} → LinesWrite xs ls → LinesWrite (closed xs) (ls ++ mark sign.CloseBrace ∷ [])
closed_lines w = more_lines (deeper_lines w) (one_line (sure_mark sign.CloseBrace refl))
