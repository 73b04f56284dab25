-- What the tests of names decide.
use Rattle.std.proofs.Common.{◌≡◌, ◌≢◌, ℕ, Bool, true, false, ◌||◌, nat_eq, List, [], ◌∷◌, ◌++◌, length, Option, Some, None, Decides, inl}
use Rattle.std.proofs.Common.{inr, refl, sym, ap, ◌∙◌}
use Rattle.std.specs.List.{list_any}
use Rattle.std.specs.Str.{bytes_eq}
use Rattle.std.proofs.lemmas.Bool.{false≢true, and_from, and_parts, not-true, not_from_false, or_right}
use Rattle.std.proofs.lemmas.Bool.Decides.{Decides-like, Decides-or, Decides-eqb}
use Rattle.std.proofs.lemmas.Slice.Eq.{bytes_eq-Decides}
use Rattle.cilk_check_scopes.specs.syntax.declared.return_type.ReturnType.{ReturnType}
use Rattle.cilk_check_scopes.specs.syntax.declared.return_type.ReturnType.TheVariants as returns
use Rattle.cilk_check_scopes.specs.syntax.Tree.{Word}
use Rattle.cilk_check_scopes.specs.syntax.Tree as tree
use Rattle.cilk_check_scopes.specs.declared.declaration_kind.DeclarationKind.{DeclarationKind}
use Rattle.cilk_check_scopes.specs.declared.declaration_kind.DeclarationKind.TheVariants as kind
use Rattle.cilk_check_scopes.proofs.Elements.{Has, Has-from_Contains, Contains-from_Has}
use Rattle.cilk_check_scopes.specs.declared.role.Role.{Role}
use Rattle.cilk_check_scopes.specs.declared.role.Role.TheVariants as role
use Rattle.cilk_check_scopes.specs.Reserved.{c_keywords, library_names, IsReserved}
use Rattle.cilk_check_scopes.specs.NameFaults.{Defines}
use Rattle.cilk_check.specs.NameFinds.{is_one_of, is_reserved, differ, is_void, is_spawned, is_called, is_inlet, has_count, same_bool, same_return, defines}

element-Decides : (names : List (List ℕ)) (text : List ℕ) → Decides (is_one_of names text) (Has names text)
element-Decides [] text = (λ e. absurd (false≢true e), λ h. absurd h)
element-Decides (name ∷ names) text =
    Decides-or (bytes_eq name text) (is_one_of names text) (bytes_eq-Decides name text) (element-Decides names text)

pub reserved-Decides : (name : Word) → Decides (is_reserved name.text) (IsReserved name)
reserved-Decides name =
    Decides-like (is_reserved name.text) (Contains-from_Has (c_keywords ++ library_names) name.text)
    (Has-from_Contains (c_keywords ++ library_names) name.text) (element-Decides (c_keywords ++ library_names) name.text)

pub false_from : {P : Type 0} (b : Bool) → Decides b P → ¬ P → b ≡ false
false_from true d n = absurd (n (d.0 refl))
false_from false d n = refl

pub not_from : {P : Type 0} (b : Bool) → Decides b P → b ≡ false → ¬ P
not_from b d e p = false≢true (sym e ∙ d.1 p)

-- two numbers that are there and differ
pub record Differ (a b : Option ℕ) : Type 0 where
  pub given : ℕ
  pub wanted : ℕ
  pub is_given : a ≡ Some given
  pub is_wanted : b ≡ Some wanted
  pub differ : given ≢ wanted

pub differ_from : (a b : Option ℕ) → differ a b ≡ true → Differ a b
differ_from None b e = cc
differ_from (Some x) None e = cc
differ_from (Some x) (Some y) e =
    record { given = x; wanted = y; is_given = refl; is_wanted = refl; differ = not_from (nat_eq x y) (Decides-eqb x y) (not-true _ e) }

pub differ_to : (a b : Option ℕ) (x y : ℕ) → a ≡ Some x → b ≡ Some y → x ≢ y → differ a b ≡ true
differ_to a b x y e f n = ap (λ o. differ o b) e ∙ ap (differ (Some x)) f ∙ not_from_false _ (false_from (nat_eq x y) (Decides-eqb x y) n)

pub void_from : (o : Option ReturnType) → is_void o ≡ true → o ≡ Some returns.Void
void_from None e = cc
void_from (Some returns.Int) e = cc
void_from (Some returns.Void) e = refl

pub spawned_from : (r : Role) → is_spawned r ≡ true → (n : ℕ) × (b : Bool) × (r ≡ role.Spawned n b)
spawned_from (role.Spawned n b) e = (n, b, refl)
spawned_from role.Variable e = cc
spawned_from role.Array e = cc
spawned_from role.Lock e = cc
spawned_from (role.Called n b) e = cc
spawned_from (role.Fed n) e = cc

pub called_from : (r : Role) → is_called r ≡ true → (n : ℕ) × (b : Bool) × (r ≡ role.Called n b)
called_from (role.Called n b) e = (n, b, refl)
called_from role.Variable e = cc
called_from role.Array e = cc
called_from role.Lock e = cc
called_from (role.Spawned n b) e = cc
called_from (role.Fed n) e = cc

pub inlet_from : (k : DeclarationKind) → is_inlet k ≡ true → (n : ℕ) × (k ≡ kind.Inlet n)
inlet_from (kind.Inlet n) e = (n, refl)
inlet_from kind.Variable e = cc
inlet_from (kind.Array n) e = cc
inlet_from kind.Lock e = cc
inlet_from kind.Strings e = cc
inlet_from (kind.Function r n) e = cc
inlet_from (kind.Procedure r n) e = cc

-- ---- definitions of what a prototype declares

bool_same : (a b : Bool) → same_bool a b ≡ true → a ≡ b
bool_same true true e = refl
bool_same true false e = cc
bool_same false true e = cc
bool_same false false e = refl

same_bool_self : (a : Bool) → same_bool a a ≡ true
same_bool_self true = refl
same_bool_self false = refl

return_same : (a b : ReturnType) → same_return a b ≡ true → a ≡ b
return_same returns.Int returns.Int e = refl
return_same returns.Int returns.Void e = cc
return_same returns.Void returns.Int e = cc
return_same returns.Void returns.Void e = refl

same_return_self : (a : ReturnType) → same_return a a ≡ true
same_return_self returns.Int = refl
same_return_self returns.Void = refl

count_from : (ps : tree.Parameters) (n : ℕ) → has_count ps n ≡ true → (names : List Word) × (ps ≡ tree.ints names) × (length names ≡ n)
count_from (tree.ints names) n e = (names, refl, (Decides-eqb (length names) n).0 e)
count_from (tree.command_line count strings) n e = cc

pub defined_from : (f : tree.Proc) (q : tree.Prototype) → defines q (tree.procedure f) ≡ true → Defines f q
defined_from f q e =
    let a = and_parts (bytes_eq f.name.text q.name.text) _ e in
    let b = and_parts (same_bool f.is_cilk q.is_cilk) _ a.1 in
    let c = and_parts (same_return f.returns q.returns) _ b.1 in
    record {
      name = (bytes_eq-Decides f.name.text q.name.text).0 a.0;
      is_cilk = bool_same f.is_cilk q.is_cilk b.0;
      returns = return_same f.returns
          q.returns c.0;
      parameters = count_from f.parameters q.count c.1;
    }

pub defined_to : (f : tree.Proc) (q : tree.Prototype) → Defines f q → defines q (tree.procedure f) ≡ true
defined_to f q d =
    and_from (bytes_eq f.name.text q.name.text) _ ((bytes_eq-Decides f.name.text q.name.text).1 d.name) (and_from (same_bool f.is_cilk q.is_cilk) _ (ap
    (λ b. same_bool b q.is_cilk) d.is_cilk ∙ same_bool_self q.is_cilk) (and_from (same_return f.returns q.returns) _ (ap
    (λ r. same_return r q.returns) d.returns ∙ same_return_self q.returns) (ap (λ ps. has_count ps q.count) d.parameters.1 ∙ (Decides-eqb
    (length d.parameters.0) q.count).1 d.parameters.2)))

-- one of the items is such a definition
pub record Defined (q : tree.Prototype) (items : List tree.Item) : Type 0 where
  pub definition : tree.Proc
  pub there : Has items (tree.procedure definition)
  pub defines : Defines definition q

behind : (q : tree.Prototype) (x : tree.Item) (items : List tree.Item) → Defined q items → Defined q (x ∷ items)
behind q x items d = record { definition = d.definition; there = inr d.there; defines = d.defines }

defined_cases : (q : tree.Prototype) (x : tree.Item) (items : List tree.Item) (b : Bool) → defines q x ≡ b
    → (list_any (defines q) items ≡ true → Defined q items) → (b || list_any (defines q) items) ≡ true → Defined q (x ∷ items)
defined_cases q (tree.procedure f) items true e later h = record { definition = f; there = inl refl; defines = defined_from f q e }
defined_cases q (tree.global g) items true e later h = cc
defined_cases q (tree.lock name) items true e later h = cc
defined_cases q (tree.prototype r) items true e later h = cc
defined_cases q x items false e later h = behind q x items (later h)

pub defined_there : (q : tree.Prototype) (items : List tree.Item) → list_any (defines q) items ≡ true → Defined q items
defined_there q [] e = cc
defined_there q (x ∷ items) e = defined_cases q x items (defines q x) refl (defined_there q items) e

pub defined_where : (q : tree.Prototype) (items : List tree.Item) (f : tree.Proc) → Has items (tree.procedure f) → Defines f q
    → list_any (defines q) items ≡ true
defined_where q [] f h d = absurd h
defined_where q (x ∷ items) f (inl e) d = rw (ap (defines q) e ∙ defined_to f q d) refl
defined_where q (x ∷ items) f (inr h) d = or_right (defines q x) (list_any (defines q) items) (defined_where q items f h d)
