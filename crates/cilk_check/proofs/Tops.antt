-- The names of the top level.
use Rattle.std.proofs.Common.{◌≡◌, ℕ, ◌+◌, ◌<◌, List, [], ◌∷◌, ◌++◌, length, get_or, drop, Option, None, refl, sym, ap, ◌∙◌}
use Rattle.std.specs.List.{flat_map}
use Rattle.cilk_check_scopes.specs.syntax.Tree.{Item}
use Rattle.cilk_check_scopes.specs.syntax.Tree as tree
use Rattle.cilk_check_scopes.specs.declared.fault.CheckFault.{CheckFault}
use Rattle.cilk_check_scopes.specs.First.{first_among}
use Rattle.cilk_check_scopes.specs.Scopes.{Declared, Scopes, declare, declare_all, item_declares, file_declares, file_scopes}
use Rattle.cilk_check_scopes.specs.Declarations.{declaring}
use Rattle.cilk_check_scopes.proofs.Firsts.{first_among-append, first_among-flat_map}
use Rattle.cilk_check_scopes.proofs.Steps.{drop_at, flat_map_more}
use Rattle.cilk_check.specs.NameFinds.{declaring_faults, scope_faults, items_faults, prototype_faults, item_faults}

-- declarations behind others
declaring_both : (s : Scopes) (xs ys : List Declared) → declaring s.innermost (xs ++ ys) ≡ declaring s.innermost xs ++ declaring (declare_all s xs).innermost ys
declaring_both s [] ys = refl
declaring_both s (x ∷ xs) ys =
    ap (λ zs. record { before = s.innermost; declared = x } ∷ zs) (declaring_both (declare s x) xs ys)

declaring-append : (found : Option CheckFault) (s : Scopes) (xs ys : List Declared)
    → first_among found (flat_map declaring_faults (declaring s.innermost (xs ++ ys)))
    ≡ first_among (first_among found (flat_map declaring_faults (declaring s.innermost xs)))
    (flat_map declaring_faults (declaring (declare_all s xs).innermost ys))
declaring-append found s xs ys =
    ap (λ zs. first_among found (flat_map declaring_faults zs)) (declaring_both s xs ys)
    ∙ first_among-flat_map declaring_faults found (declaring s.innermost xs) (declaring (declare_all s xs).innermost ys)

pub items_more : (found : Option CheckFault) (s : Scopes) (items : List Item) (i : ℕ) (x : Item) → i < length items → x ≡ get_or items i x
    → first_among found (flat_map declaring_faults (declaring s.innermost (file_declares (drop i items))))
    ≡ first_among (first_among found (flat_map declaring_faults (declaring s.innermost (item_declares x))))
    (flat_map declaring_faults (declaring (declare_all s (item_declares x)).innermost (file_declares (drop (i + 1) items))))
items_more found s items i x h e =
    ap (λ xs. first_among found (flat_map declaring_faults (declaring s.innermost (file_declares xs)))) (drop_at items i x h e)
    ∙ declaring-append found s (item_declares x) (file_declares (drop (i + 1) items))

-- an item in front of others
in_front : (x : Item) (items : List Item) → declare_all (file_scopes items) (item_declares x) ≡ file_scopes (x ∷ items)
in_front (tree.global g) items = refl
in_front (tree.lock name) items = refl
in_front (tree.prototype q) items = refl
in_front (tree.procedure f) items = refl

pub file_more : (items : List Item) (i : ℕ) (x : Item) → i < length items → x ≡ get_or items i x
    → declare_all (file_scopes (drop (i + 1) items)) (item_declares x) ≡ file_scopes (drop i items)
file_more items i x h e = in_front x (drop (i + 1) items) ∙ ap file_scopes (sym (drop_at items i x h e))

pub prototypes_more : (found : Option CheckFault) (all items : List Item) (i : ℕ) (x : Item) → i < length items → x ≡ get_or items i x
    → first_among found (flat_map (prototype_faults all) (drop i items))
    ≡ first_among (first_among found (prototype_faults all x)) (flat_map (prototype_faults all) (drop (i + 1) items))
prototypes_more found all items i x h e = flat_map_more (prototype_faults all) found items i x h e

pub bodies_more : (found : Option CheckFault) (s : Scopes) (items : List Item) (i : ℕ) (x : Item) → i < length items → x ≡ get_or items i x
    → first_among found (flat_map (item_faults s) (drop i items))
    ≡ first_among (first_among found (item_faults s x)) (flat_map (item_faults s) (drop (i + 1) items))
bodies_more found s items i x h e = flat_map_more (item_faults s) found items i x h e

-- all parts one after another
pub all_listed : (items : List Item) (b n : Scopes) (f g h : Option CheckFault) → b ≡ record { innermost = []; outer = [] }
    → f ≡ first_among None (flat_map declaring_faults (declaring b.innermost (file_declares items)))
    → g ≡ first_among f (flat_map (prototype_faults items) items) → n ≡ file_scopes items
    → h ≡ first_among g (flat_map (item_faults n) items) → h ≡ first_among None (items_faults items)
all_listed items b n f g h empty names prototypes file bodies =
    bodies
    ∙
    (λ i. first_among
    ((prototypes
    ∙
    (λ j. first_among ((names ∙ ap (λ s. first_among None (flat_map declaring_faults (declaring s.innermost (file_declares items)))) empty)
    j) (flat_map (prototype_faults items) items))) i) (flat_map (item_faults (file i)) items))
    ∙ sym (first_among-append None (scope_faults (file_declares items)) _ ∙ first_among-append _ (flat_map (prototype_faults items) items) _)

pub ruleset tops = (first_among-append, items_more, file_more, prototypes_more, bodies_more)
