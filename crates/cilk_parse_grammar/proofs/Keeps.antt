-- What the rules of moves make of parts that are the same but for places is the same but for places.
use Rattle.std.proofs.Common.{◌≡◌, map, Option, Some, None, refl, sym, ◌∙◌}
use Rattle.cilk_tree_syntax.specs.Tree as tree
use Rattle.cilk_tree_syntax.specs.Tree.{Word, Expr}
use Rattle.cilk_parse_grammar.specs.Parts.{Value, computed, called, assigned}
use Rattle.cilk_parse_grammar.specs.Grammar as grammar
use Rattle.cilk_tree_syntax.specs.Bare.{bare_word, bare_expr, bare_value, bare_place, bare_target, bare_move}
use Rattle.cilk_parse_grammar.specs.Likes.{bare_written}
use Rattle.cilk_parse_grammar.proofs.Kept.{Kept, k_done, k_then, k_either, k_use, k_name, k_expr, k_value, k_between, k_commas}

pub arguments_kept : Kept grammar.arguments (λ x y. map bare_expr x ≡ map bare_expr y)
arguments_kept = k_between (k_either (k_commas bare_expr k_expr) (k_done refl))

pub index_kept : Kept grammar.index (λ x y. bare_value x ≡ bare_value y)
index_kept = k_either (k_then (k_between k_expr) (λ x y h. k_done (λ i. Some (h i)))) (k_done refl)

pub place_kept : Kept grammar.place (λ x y. bare_place x ≡ bare_place y)
place_kept = k_then k_name (λ x y h. k_then index_kept (λ j k g. k_done (λ i. record { name = h i; index = g i })))

pub op_kept : Kept grammar.op (λ x y. x ≡ y)
op_kept = record { it = (refl, (refl, (refl, (refl, (refl, (refl, (refl, (refl, (refl, (refl, refl)))))))))) }

pub adjustment_kept : Kept grammar.adjustment (λ x y. x ≡ y)
adjustment_kept = record { it = (refl, refl) }

bare_assigned : (t : tree.Target) (v : Value) → bare_move (assigned t v) ≡ assigned (bare_target t) (bare_written v)
bare_assigned t (computed e) = refl
bare_assigned t (called f es) = refl

pub same_assigned : (t u : tree.Target) (v w : Value) → bare_target t ≡ bare_target u → bare_written v ≡ bare_written w
    → bare_move (assigned t v) ≡ bare_move (assigned u w)
same_assigned t u v w h g = bare_assigned t v ∙ (λ i. assigned (h i) (g i)) ∙ sym (bare_assigned u w)

-- of the place of a name
abbrev pub OfPlace : {A B : Type 0} → (A → B) → (Option Expr → Word → A) → (Option Expr → Word → A) → Type 0
OfPlace bare f g = (j k : Option Expr) → bare_value j ≡ bare_value k → (x y : Word) → bare_word x ≡ bare_word y → bare (f j x) ≡ bare (g k y)

pub move_of_place_kept : Kept grammar.move_of_place (OfPlace bare_move)
move_of_place_kept =
    k_either
    (k_then op_kept
    (λ o p e. k_then k_value
    (λ v w h. k_done (λ j k g x y f. same_assigned _ _ v w (λ i. record { place = record { name = f i; index = g i }; op = e i }) h))))
    (k_then adjustment_kept (λ a b e. k_done (λ j k g x y f i. tree.adjust (record { name = f i; index = g i }) (e i))))

pub adjusted_kept : Kept grammar.adjusted (λ m n. bare_move m ≡ bare_move n)
adjusted_kept = k_then adjustment_kept (λ a b e. k_then place_kept (λ p q h. k_done (λ i. tree.adjust (h i) (e i))))

pub move_kept : Kept grammar.move (λ m n. bare_move m ≡ bare_move n)
move_kept =
    k_either (k_then k_name (λ x y h. k_either (k_then arguments_kept (λ es fs g. k_done (λ i. tree.call None (h i) (g i))))
    (k_then index_kept (λ j k g. k_use move_of_place_kept (λ f f' r. r j k g x y h))))) adjusted_kept
