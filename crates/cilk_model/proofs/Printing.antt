-- What `printf` writes, part by part of its format.
use Rattle.std.proofs.Common.{◌≡◌, ℕ, ℤ, Bool, true, false, not, ◌==◌, if◌then◌else◌, List, [], ◌∷◌, ◌++◌, codes, refl, ap, ◌∙◌}
use Rattle.std.proofs.lemmas.Bool.{and_parts}
use Rattle.std.specs.List.{list_all}
use Rattle.cilk_model.specs.Printing.{printed}

else_is : (b : Bool) (xs ys : List ℕ) → not b ≡ true → (if b then xs else ys) ≡ ys
else_is true xs ys h = cc
else_is false xs ys h = refl

byte_printed : (b : ℕ) (rest : List ℕ) (zs : List ℤ) → not (b == 37) ≡ true → printed (b ∷ rest) zs ≡ b ∷ printed rest zs
byte_printed b [] zs h = refl
byte_printed b (c ∷ rest) [] h = else_is (b == 37) _ _ h
byte_printed b (c ∷ rest) (z ∷ zs) h = else_is (b == 37) _ _ h

pub plain_printed : (front rest : List ℕ) (zs : List ℤ) → list_all (λ b. not (b == 37)) front ≡ true → printed (front ++ rest) zs ≡ front ++ printed rest zs
plain_printed [] rest zs h = refl
plain_printed (b ∷ front) rest zs h =
    let parts = and_parts (not (b == 37)) (list_all (λ x. not (x == 37)) front) h in
    byte_printed b (front ++ rest) zs parts.0 ∙ ap (λ bytes. b ∷ bytes) (plain_printed front rest zs parts.1)

pub percent_printed : (rest : List ℕ) (zs : List ℤ) → printed (codes "%%" ++ rest) zs ≡ codes "%" ++ printed rest zs
percent_printed rest [] = refl
percent_printed rest (z ∷ zs) = refl
