-- A path names an instance: the root's is empty, and a child's is its parent's followed by the child's number among all children of that parent, from 1 on.
use Rattle.std.specs.Prelude.{ℕ, ◌==◌, ◌&&◌, Bool, true, false, List, [], ◌∷◌, ◌++◌, Option, Some, None, option_map, bytes_eq, codes, decimal}

abbrev pub Path : Type 0
Path = List ℕ

abbrev pub same_path : Path → Path → Bool
same_path = bytes_eq

-- child k of p
abbrev pub child_path : Path → ℕ → Path
child_path p k = p ++ k ∷ []

-- the path without its last number; the root has no parent
abbrev pub parent_of : Path → Option Path
parent_of [] = None
parent_of (k ∷ []) = Some []
parent_of (k ∷ l ∷ p) = option_map (λ q. k ∷ q) (parent_of (l ∷ p))

abbrev pub is_that : Path → Option Path → Bool
is_that p None = false
is_that p (Some q) = same_path p q

-- whether the second path is that of a child of the first
abbrev pub is_child : Path → Path → Bool
is_child p q = is_that p (parent_of q)

-- `/` for the root, and `/3/1` for the first child of the root's third
abbrev pub numbers_text : Path → List ℕ
numbers_text [] = []
numbers_text (k ∷ p) = codes "/" ++ (decimal k ++ numbers_text p)

abbrev pub path_text : Path → List ℕ
path_text [] = codes "/"
path_text (k ∷ p) = numbers_text (k ∷ p)

-- whether the second path is that of a child of the first, or of a child of one, and so on
abbrev pub is_below : Path → Path → Bool
is_below [] [] = false
is_below [] (k ∷ q) = true
is_below (k ∷ p) [] = false
is_below (k ∷ p) (l ∷ q) = k == l && is_below p q
