-- The names that a program may neither declare nor use.
use Rattle.std.specs.Prelude.{ℕ, List, [], ◌∷◌, ◌++◌, codes, Contains}
use Rattle.cilk_tree_syntax.specs.Tree.{Word}

-- keywords (C 1990, 6.1.1) that are no words of this language
abbrev pub c_keywords : List (List ℕ)
c_keywords =
    codes "auto" ∷ codes "char" ∷ codes "const" ∷ codes "double" ∷ codes "enum" ∷ codes "extern" ∷ codes "float" ∷ codes "goto"
    ∷ codes "long" ∷ codes "register" ∷ codes "short" ∷ codes "signed" ∷ codes "sizeof" ∷ codes "static" ∷ codes "struct"
    ∷ codes "typedef" ∷ codes "union" ∷ codes "unsigned" ∷ codes "volatile" ∷ []

-- names with a meaning of their own (Cilk 5.4 manual, language reference; C 1990, 7.9.6.3)
abbrev pub library_names : List (List ℕ)
library_names =
    codes "private" ∷ codes "shared" ∷ codes "Self" ∷ codes "Cilk_alloca" ∷ codes "Cilk_fence" ∷ codes "printf" ∷ codes "Cilk_lock_init"
    ∷ codes "Cilk_lock" ∷ codes "Cilk_unlock" ∷ []

abbrev pub IsReserved : Word → Type 0
IsReserved name = Contains (c_keywords ++ library_names) name.text
