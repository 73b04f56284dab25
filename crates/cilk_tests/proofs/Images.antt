-- Lists that a function makes equal.
use Rattle.std.proofs.Common.{◌≡◌, ℕ, ◌<◌, List, length, get_or, map, ap, sym, ◌∙◌}
use Rattle.std.proofs.lemmas.List.{get_or-map, map-id}

-- where the images of two lists are equal, so are those of the elements at one index
pub map-alike_at : {A B : Type 0} (f : A → B) (xs ys : List A) (i : ℕ) (x y : A) → i < length xs → i < length ys → x ≡ get_or xs i x
    → y ≡ get_or ys i y → map f xs ≡ map f ys → f x ≡ f y
map-alike_at f xs ys i x y below within is_x is_y alike =
    ap f is_x ∙ sym (get_or-map f xs i x (f x) below) ∙ ap (λ zs. get_or zs i (f x)) alike ∙ get_or-map f ys i y (f x) within ∙ ap f (sym is_y)

-- a list whose elements stay as they are
pub ruleset themselves = (map-id)
