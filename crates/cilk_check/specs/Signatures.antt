-- What definitions have in common with the prototypes that declare them.
use Rattle.std.specs.Prelude.{◌≡◌, List, Bool, false, ◌&&◌, ◌||◌, Option, Some, None, bytes_eq}
use Rattle.std.specs.List.{list_any}
use Rattle.std.specs.declared.cmp.Ordering.{Ordering}
use Rattle.std.specs.Ordering.{is_eq, ordering_then, nat_cmp, bool_cmp}
use Rattle.std.specs.Cmp.Lexicographic.{slice_cmp}
use Rattle.std.specs.BTreeSet.{BTreeSet, contains}
use Rattle.cilk_check_scopes.specs.syntax.Tree as tree
use Rattle.cilk_check.specs.declared.signature.Signature.{Signature}
use Rattle.cilk_check.specs.NameFinds.{has_count, same_bool, is_void}

-- the order of signatures, field by field
abbrev pub signature_cmp : Signature → Signature → Ordering
signature_cmp s t =
    ordering_then (slice_cmp nat_cmp s.name.now t.name.now)
    (ordering_then (bool_cmp s.is_cilk t.is_cilk) (ordering_then (bool_cmp s.is_void t.is_void) (nat_cmp s.count t.count)))

-- whether an item is a definition with this signature
abbrev pub has_signature : Signature → tree.Item → Bool
has_signature s (tree.procedure f) =
    bytes_eq f.name.text s.name.now && (same_bool f.is_cilk s.is_cilk && (same_bool (is_void (Some f.returns)) s.is_void && has_count f.parameters s.count))
has_signature s (tree.global g) = false
has_signature s (tree.lock name) = false
has_signature s (tree.prototype other) = false

-- whether there is a signature, and it is this one
abbrev pub is_signature : Option Signature → Signature → Bool
is_signature None s = false
is_signature (Some given) s = is_eq (signature_cmp given s)

-- the set has the signatures of all definitions among these items
abbrev pub HasSignatures : BTreeSet Signature → List tree.Item → Type 0
HasSignatures set items = (s : Signature) → contains signature_cmp set s ≡ list_any (has_signature s) items

-- a second set has the signatures of the first, and that of an item if it is a definition
abbrev pub GainsSignature : BTreeSet Signature → BTreeSet Signature → tree.Item → Type 0
GainsSignature set more item =
    (s : Signature) → contains signature_cmp more s ≡ (contains signature_cmp set s || has_signature s item)
