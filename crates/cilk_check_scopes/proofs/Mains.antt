-- Which definitions are of the procedure to start with.
use Rattle.std.proofs.Common.{◌≡◌, Bool, true, false, ◌||◌, List, [], ◌∷◌, codes, Decides, inl, inr, refl, ap, ◌∙◌}
use Rattle.std.proofs.lemmas.Bool.{and_parts, or_right}
use Rattle.std.specs.List.{list_any}
use Rattle.std.specs.Str.{bytes_eq}
use Rattle.std.proofs.lemmas.Slice.Eq.{bytes_eq-Decides}
use Rattle.cilk_tree_syntax.specs.declared.return_type.ReturnType.{ReturnType}
use Rattle.cilk_tree_syntax.specs.declared.return_type.ReturnType.TheVariants as returns
use Rattle.cilk_tree_syntax.specs.Tree as tree
use Rattle.cilk_check_scopes.proofs.Elements.{Has}
use Rattle.cilk_check_scopes.specs.Forms.{IsMain}
use Rattle.cilk_check_scopes.specs.Mains.{is_int, is_main, starts}

int_is : (r : ReturnType) → is_int r ≡ true → r ≡ returns.Int
int_is returns.Int e = refl
int_is returns.Void e = cc

main-Decides : (f : tree.Proc) → Decides (is_main f) (IsMain f)
main-Decides f = (
  λ e.
      let a = and_parts f.is_cilk _ e in
      let b = and_parts (is_int f.returns) _ a.1 in
      let c = and_parts (bytes_eq f.name.text (codes "main")) _ b.1 in
      record { is_cilk = a.0; returns = int_is f.returns b.0; named = (bytes_eq-Decides f.name.text (codes "main")).0 c.0; parameters = c.1 },
  λ h. rw (h.is_cilk, ap is_int h.returns, (bytes_eq-Decides f.name.text (codes "main")).1 h.named, h.parameters) refl,
)

-- one of the items is a definition of it
pub record Started (items : List tree.Item) : Type 0 where
  pub definition : tree.Proc
  pub there : Has items (tree.procedure definition)
  pub is_main : IsMain definition

behind : (x : tree.Item) (items : List tree.Item) → Started items → Started (x ∷ items)
behind x items s = record { definition = s.definition; there = inr s.there; is_main = s.is_main }

started_cases : (x : tree.Item) (items : List tree.Item) (b : Bool) → starts x ≡ b → (list_any starts items ≡ true → Started items)
    → (b || list_any starts items) ≡ true → Started (x ∷ items)
started_cases (tree.procedure f) items true e later h = record { definition = f; there = inl refl; is_main = (main-Decides f).0 e }
started_cases (tree.global g) items true e later h = cc
started_cases (tree.lock name) items true e later h = cc
started_cases (tree.prototype q) items true e later h = cc
started_cases x items false e later h = behind x items (later h)

pub started : (items : List tree.Item) → list_any starts items ≡ true → Started items
started [] e = cc
started (x ∷ items) e = started_cases x items (starts x) refl (started items) e

pub starts_where : (items : List tree.Item) (f : tree.Proc) → Has items (tree.procedure f) → IsMain f → list_any starts items ≡ true
starts_where [] f h m = absurd h
starts_where (x ∷ items) f (inl e) m = rw (ap starts e ∙ (main-Decides f).1 m) refl
starts_where (x ∷ items) f (inr h) m = or_right (starts x) (list_any starts items) (starts_where items f h m)
