-- What the rules of items make of parts that are the same but for places is the same but for places.
use Rattle.std.proofs.Common.{◌≡◌, ℕ, suc, List, [], ◌∷◌, map, length, Bool, false, Option, Some, None, refl, sym, ap, ◌∙◌}
use Rattle.std.proofs.lemmas.List.{length-map, map-id}
use Rattle.cilk_tree_syntax.specs.lexeme.declared.header.Header.{Header}
use Rattle.cilk_tree_syntax.specs.declared.return_type.ReturnType.{ReturnType}
use Rattle.cilk_tree_syntax.specs.declared.return_type.ReturnType.TheVariants as returns
use Rattle.cilk_tree_syntax.specs.Tree as tree
use Rattle.cilk_tree_syntax.specs.Tree.{Word}
use Rattle.cilk_parse_grammar.specs.Rule.{Rule}
use Rattle.cilk_parse_grammar.specs.Parts.{Means}
use Rattle.cilk_parse_grammar.specs.Forms.{optional}
use Rattle.cilk_parse_grammar.specs.Grammar as grammar
use Rattle.cilk_parse_grammar.specs.Grammar.{Tail, declares, defines, function, all_named, named_of}
use Rattle.cilk_tree_syntax.specs.Bare.{bare_word, bare_block, bare_parameters, bare_global, bare_item}
use Rattle.cilk_parse_grammar.proofs.Kept.{Kept, k_done, k_skip, k_then, k_either, k_by, k_use, k_many, k_name, k_number, k_header, k_before}
use Rattle.cilk_parse_grammar.proofs.Kept.{k_between, k_behind_commas, k_commas}
use Rattle.cilk_parse_grammar.proofs.KeepsStmts.{OfName, same_joined, block_kept, integer_kept}

-- ---- what stands behind the name of a function

bare_tail : Tail → Tail
bare_tail (declares count) = declares count
bare_tail (defines parameters body) = defines (bare_parameters parameters) (bare_block body)

abbrev SameTail : Tail → Tail → Type 0
SameTail t u = bare_tail t ≡ bare_tail u

bare_function : (c : Bool) (r : ReturnType) (t : Tail) (x : Word) → bare_item (function c r t x) ≡ function c r (bare_tail t) (bare_word x)
unfolding bare_tail
bare_function c r (declares count) x = refl
bare_function c r (defines parameters body) x = refl

same_function : (c : Bool) (r : ReturnType) (t u : Tail) (x y : Word) → SameTail t u → bare_word x ≡ bare_word y
    → bare_item (function c r t x) ≡ bare_item (function c r u y)
same_function c r t u x y h g = bare_function c r t x ∙ (λ i. function c r (h i) (g i)) ∙ sym (bare_function c r u y)

-- ---- parameters, with names or without

bare_parameter : Option Word → Option Word
bare_parameter None = None
bare_parameter (Some x) = Some (bare_word x)

abbrev SameParameterList : List (Option Word) → List (Option Word) → Type 0
SameParameterList xs ys = map bare_parameter xs ≡ map bare_parameter ys

same_length : (xs ys : List (Option Word)) → SameParameterList xs ys → length xs ≡ length ys
same_length xs ys h = sym (length-map xs bare_parameter) ∙ ap length h ∙ length-map ys bare_parameter

bare_all_named : (xs : List (Option Word)) → all_named (map bare_parameter xs) ≡ all_named xs
unfolding bare_parameter
bare_all_named [] = refl
bare_all_named (None ∷ xs) = refl
bare_all_named (Some x ∷ xs) = bare_all_named xs

bare_named_of : (xs : List (Option Word)) → map bare_word (named_of xs) ≡ named_of (map bare_parameter xs)
unfolding bare_parameter
bare_named_of [] = refl
bare_named_of (None ∷ xs) = bare_named_of xs
bare_named_of (Some x ∷ xs) = ap (λ l. bare_word x ∷ l) (bare_named_of xs)

same_named : (xs ys : List (Option Word)) → SameParameterList xs ys → map bare_word (named_of xs) ≡ map bare_word (named_of ys)
same_named xs ys h = bare_named_of xs ∙ ap named_of h ∙ sym (bare_named_of ys)

option_name_kept : Kept (optional grammar.name) (λ x y. bare_parameter x ≡ bare_parameter y)
unfolding bare_parameter
option_name_kept = k_either (k_then k_name (λ x y h. k_done (λ i. Some (h i)))) (k_done refl)

parameter_list_kept : Kept grammar.parameter_list SameParameterList
parameter_list_kept =
    k_then option_name_kept
    (λ x y h. k_then (k_behind_commas bare_parameter (k_skip option_name_kept)) (λ xs ys g. k_skip (k_done (λ i. h i ∷ g i))))

pub named_steady : Kept grammar.parameter_list (λ xs ys. all_named xs ≡ all_named ys)
named_steady = k_use parameter_list_kept (λ xs ys h. sym (bare_all_named xs) ∙ ap all_named h ∙ bare_all_named ys)

-- ---- functions

int_tail_kept : Kept grammar.int_tail SameTail
unfolding bare_tail
int_tail_kept =
    k_by parameter_list_kept
    (λ xs ys h. k_either (k_skip (k_done (ap declares (same_length xs ys h))))
    (k_then block_kept (λ b c g. k_done (λ i. defines (tree.ints (same_named xs ys h i)) (g i)))))
    (λ xs ys h. k_skip (k_done (ap declares (same_length xs ys h))))

empty_tail_kept : Kept grammar.empty_tail SameTail
unfolding bare_tail
empty_tail_kept = k_skip (k_either (k_skip (k_done refl)) (k_then block_kept (λ b c h. k_done (λ i. defines (tree.ints []) (h i)))))

tail_by_kept : {r : Rule Means Tail} → Kept r SameTail → Kept (grammar.tail_by r) SameTail
tail_by_kept k = k_skip (k_either empty_tail_kept (k_either (k_skip empty_tail_kept) (k_skip k)))

tail_kept : Kept grammar.tail SameTail
tail_kept = tail_by_kept int_tail_kept

strings_kept : Kept grammar.strings (λ x y. bare_word x ≡ bare_word y)
strings_kept = k_skip (k_either (k_then k_name (λ x y h. k_skip (k_skip (k_done h)))) (k_skip k_name))

abbrev OfFirst : (Word → Tail) → (Word → Tail) → Type 0
OfFirst f g = OfName bare_tail f g

main_others_kept : Kept grammar.main_others OfFirst
unfolding bare_tail
main_others_kept =
    k_by parameter_list_kept
    (λ xs ys h. k_either (k_skip (k_done (λ x y f. ap (λ n. declares (suc n)) (same_length xs ys h))))
    (k_then block_kept (λ b c g. k_done (λ x y f i. defines (tree.ints (f i ∷ same_named xs ys h i)) (g i)))))
    (λ xs ys h. k_skip (k_done (λ x y f. ap (λ n. declares (suc n)) (same_length xs ys h))))

main_named_kept : Kept grammar.main_named OfFirst
unfolding bare_tail
main_named_kept =
    k_either (k_skip (k_either (k_skip (k_done (λ x y f. refl))) (k_then block_kept (λ b c g. k_done (λ x y f i. defines (tree.ints (f i ∷ [])) (g i))))))
    (k_skip
    (k_either
    (k_skip
    (k_then (k_before strings_kept) (λ s t h. k_then block_kept
    (λ b c g. k_done (λ x y f i. defines (tree.command_line (f i) (h i)) (g i)))))) (k_skip main_others_kept)))

main_nameless_kept : Kept grammar.main_nameless SameTail
unfolding bare_tail
main_nameless_kept =
    k_either (k_skip (k_skip (k_done refl)))
    (k_skip (k_skip (k_then parameter_list_kept (λ xs ys h. k_skip (k_done (ap (λ n. declares (suc n)) (same_length xs ys h)))))))

main_tail_kept : Kept grammar.main_tail SameTail
main_tail_kept = tail_by_kept (k_either (k_then k_name (λ x y h. k_use main_named_kept (λ f g r. r x y h))) main_nameless_kept)

-- ---- items

abbrev SameItems : List tree.Item → List tree.Item → Type 0
SameItems is js = map bare_item is ≡ map bare_item js

headed_kept : (c : Bool) (r : ReturnType) (cs : List ℕ) (t : Rule Means Tail) → Kept t SameTail → Kept (grammar.headed c r cs t) SameItems
headed_kept c r cs t k = k_then k_name (λ x y h. k_then k (λ u v g. k_done (λ i. same_function c r u v x y g h i ∷ [])))

cilk_item_kept : Kept grammar.cilk_item SameItems
cilk_item_kept =
    k_skip
    (k_either (k_skip (headed_kept _ _ _ _ tail_kept)) (k_skip
    (k_either (headed_kept _ _ _ _ main_tail_kept) (headed_kept _ _ _ _ tail_kept))))

void_item_kept : Kept grammar.void_item SameItems
void_item_kept = k_skip (headed_kept _ _ _ _ tail_kept)

global_shape_kept : Kept grammar.global_shape (λ x y. x ≡ y)
global_shape_kept =
    k_either (k_skip (k_then integer_kept (λ x y h. k_done (λ i. tree.global_variable (Some (h i))))))
    (k_either (k_then (k_between k_number) (λ m n h. k_done (λ i. tree.global_array (h i)))) (k_done refl))

global_kept : Kept grammar.global (λ g h. bare_global g ≡ bare_global h)
global_kept = k_then k_name (λ x y h. k_then global_shape_kept (λ s t g. k_done (λ i. record { name = h i; shape = g i })))

bare_globals : (gs : List tree.Global) → map bare_item (map tree.global gs) ≡ map tree.global (map bare_global gs)
bare_globals [] = refl
bare_globals (g ∷ gs) = ap (λ l. tree.global (bare_global g) ∷ l) (bare_globals gs)

int_item_kept : Kept grammar.int_item SameItems
int_item_kept = k_skip (k_then k_name (λ x y h. k_either (k_then tail_kept (λ t u g. k_done (λ i. same_function false returns.Int t u x y g h i ∷ [])))
    (k_before (k_then global_shape_kept (λ s t g. k_then (k_behind_commas bare_global global_kept) (λ gs hs r. k_done
    (bare_globals (grammar.global_at x s ∷ gs) ∙ (λ i. map tree.global (record { name = h i; shape = g i } ∷ r i))
    ∙ sym (bare_globals (grammar.global_at y t ∷ hs)))))))))

bare_locks : (xs : List Word) → map bare_item (map tree.lock xs) ≡ map tree.lock (map bare_word xs)
bare_locks [] = refl
bare_locks (x ∷ xs) = ap (λ l. tree.lock (bare_word x) ∷ l) (bare_locks xs)

lock_item_kept : Kept grammar.lock_item SameItems
lock_item_kept = k_skip (k_before (k_then (k_commas bare_word k_name) (λ xs ys h. k_done (bare_locks xs ∙ ap (map tree.lock) h ∙ sym (bare_locks ys)))))

item_kept : Kept grammar.item SameItems
item_kept = k_either cilk_item_kept (k_either int_item_kept (k_either void_item_kept lock_item_kept))

abbrev header_itself : Header → Header
header_itself h = h

-- the same headers, and the same items but for places
abbrev pub SameParts : List Header × List tree.Item → List Header × List tree.Item → Type 0
SameParts p q = (p.0 ≡ q.0) × (map bare_item p.1 ≡ map bare_item q.1)

pub program_kept : Kept grammar.program SameParts
program_kept =
    k_then (k_many {f = header_itself} k_header)
    (λ hs gs h. k_then (k_many {f = map bare_item} item_kept)
    (λ is js g. k_done (sym (map-id hs) ∙ h ∙ map-id gs, same_joined bare_item is js g)))
