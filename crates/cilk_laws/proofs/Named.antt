-- The numbers of bodies that names mean fit what the names are declared as.
use Rattle.std.proofs.Common.{◌≡◌, ℕ, suc, Bool, true, false, cond, List, [], ◌∷◌, ◌++◌, map, Some}
use Rattle.std.proofs.Common.{refl, sym, ap, subst}
use Rattle.std.specs.Prelude.{bytes_eq, position, find}
use Rattle.std.proofs.lemmas.Option.{same_Some}
use Rattle.cilk_check.specs.syntax.Tree.{Word}
use Rattle.cilk_check.specs.syntax.Tree as tree
use Rattle.cilk_check.specs.scopes.declared.declaration_kind.DeclarationKind.{DeclarationKind}
use Rattle.cilk_check.specs.scopes.declared.declaration_kind.DeclarationKind.TheVariants as kind
use Rattle.cilk_check.specs.scopes.Scopes.{Declared, Scopes, declare, enter, declare_all, parameter, parameters_declare, kind_of_shape, local_declares, meaning}
use Rattle.cilk_laws_model.specs.labelled.Labelled.{Labelled, Declaration, local, outer, global, of_lock, of_body, unknown}
use Rattle.cilk_laws_model.specs.labelled.Names.{Names, meaning_at, meaning_of, number_of, with_name, with_words, with_parameters, with_local}
use Rattle.cilk_laws_model.specs.labelled.Names.{entered, outward, in_inlet}
use Rattle.cilk_laws_model.specs.model.Change.{is_function}
use Rattle.cilk_laws.proofs.Right.{is_function_kind, is_inlet_kind, Finds}
use Rattle.cilk_load.proofs.Found.{meaning-first}
use Rattle.cilk_check.specs.FormFinds.{is_inlet}
use Rattle.cilk_machine.specs.plans.effects.Known.{owner_of}

-- body b is whose the kind says
abbrev pub KindFits : Labelled → DeclarationKind → ℕ → Type 0
KindFits program (kind.Function returns n) b = is_function (owner_of program b) ≡ true
KindFits program (kind.Inlet n) b = is_inlet (owner_of program b) ≡ true
KindFits program other b = Unit {0}

abbrev pub Aligned : Labelled → List Declared → List Declaration → Type 0
Aligned program [] means = Unit {0}
Aligned program (d ∷ ds) [] = ⊥
Aligned program (d ∷ ds) (m ∷ means) = KindFits program d.kind (number_of m) × Aligned program ds means

pub record Agree (program : Labelled) (names : Names) (scopes : Scopes) : Type 0 where
  pub same : names.scopes ≡ scopes
  pub aligned : Aligned program (scopes.innermost ++ scopes.outer) names.means

found_fits : (program : Labelled) (t : Declared → Bool) (ds : List Declared) (means : List Declaration) (d : Declared)
    → Aligned program ds means → find t ds ≡ Some d
    → KindFits program d.kind (number_of (meaning_at means (position t ds)))
found_fits program t [] means d h e = cc
found_fits program t (x ∷ ds) [] d h e = absurd h
found_fits program t (x ∷ ds) (m ∷ means) d h e =
    subst (λ y. KindFits program d.kind (number_of y)) (sym (meaning-first t x ds m means)) (by (t x) (found_fits program t ds means d h.1) e)
  where
    by : (b : Bool) → (find t ds ≡ Some d → KindFits program d.kind (number_of (meaning_at means (position t ds)))) → cond b (Some x) (find t ds) ≡ Some d
        → KindFits program d.kind (number_of (cond b m (meaning_at means (position t ds))))
    by true rest k = subst (λ (y : Declared). KindFits program y.kind (number_of m)) (same_Some x d k) h.0
    by false rest k = rest k

pub name_fits : (program : Labelled) (names : Names) (scopes : Scopes) (name : Word) (d : Declared) → Agree program names scopes
    → meaning scopes name.text ≡ Some d
    → KindFits program d.kind (number_of (meaning_of names name))
name_fits program names scopes name d agree e =
    subst
    (λ (s : Scopes). KindFits program d.kind (number_of
    (meaning_at names.means (position (λ x. bytes_eq x.name.text name.text) (s.innermost ++ s.outer))))) (sym agree.same)
    (found_fits program (λ x. bytes_eq x.name.text name.text) (scopes.innermost ++ scopes.outer) names.means d agree.aligned e)

function_fits : (program : Labelled) (k : DeclarationKind) (b : ℕ) → is_function_kind k ≡ true → KindFits program k b
    → is_function (owner_of program b) ≡ true
function_fits program (kind.Function returns n) b h f = f
function_fits program (kind.Inlet n) b h f = cc
function_fits program kind.Variable b h f = cc
function_fits program (kind.Array n) b h f = cc
function_fits program kind.Lock b h f = cc
function_fits program kind.Strings b h f = cc
function_fits program (kind.Procedure returns n) b h f = cc

inlet_fits : (program : Labelled) (k : DeclarationKind) (b : ℕ) → is_inlet_kind k ≡ true → KindFits program k b → is_inlet (owner_of program b) ≡ true
inlet_fits program (kind.Inlet n) b h f = f
inlet_fits program (kind.Function returns n) b h f = cc
inlet_fits program kind.Variable b h f = cc
inlet_fits program (kind.Array n) b h f = cc
inlet_fits program kind.Lock b h f = cc
inlet_fits program kind.Strings b h f = cc
inlet_fits program (kind.Procedure returns n) b h f = cc

pub called_fits : (program : Labelled) (names : Names) (scopes : Scopes) (name : Word) → Agree program names scopes → Finds scopes name is_function_kind
    → is_function (owner_of program (number_of (meaning_of names name))) ≡ true
called_fits program names scopes name agree found =
    function_fits program found.what.kind _ found.fits (name_fits program names scopes name found.what agree found.is)

pub fed_fits : (program : Labelled) (names : Names) (scopes : Scopes) (name : Word) → Agree program names scopes → Finds scopes name is_inlet_kind
    → is_inlet (owner_of program (number_of (meaning_of names name))) ≡ true
fed_fits program names scopes name agree found =
    inlet_fits program found.what.kind _ found.fits (name_fits program names scopes name found.what agree found.is)

-- behind one more declaration
pub agree_name : (program : Labelled) (names : Names) (scopes : Scopes) (d : Declaration) (what : Declared)
    → KindFits program what.kind (number_of d) → Agree program names scopes
    → Agree program (with_name names d what) (declare scopes what)
agree_name program names scopes d what fit agree = record { same = ap (λ s. declare s what) agree.same; aligned = (fit, agree.aligned) }

pub agree_entered : (program : Labelled) (names : Names) (scopes : Scopes) → Agree program names scopes → Agree program (entered names) (enter scopes)
agree_entered program names scopes agree = record { same = ap enter agree.same; aligned = agree.aligned }

pub agree_words : (program : Labelled) (names : Names) (scopes : Scopes) (n : ℕ) (words : List Word) → Agree program names scopes
    → Agree program (with_words names n words) (declare_all scopes (map parameter words))
agree_words program names scopes n [] agree = agree
agree_words program names scopes n (word ∷ words) agree =
    agree_words program (with_name names (local n) (parameter word)) (declare scopes (parameter word)) (suc n) words
    (agree_name program names scopes (local n) (parameter word) tt agree)

pub agree_parameters : (program : Labelled) (names : Names) (scopes : Scopes) (parameters : tree.Parameters) → Agree program names scopes
    → Agree program (with_parameters names parameters) (declare_all scopes (parameters_declare parameters))
agree_parameters program names scopes (tree.ints words) agree = agree_words program names scopes 0 words agree
agree_parameters program names scopes (tree.command_line count strings) agree =
    agree_name program (with_words names 0 (count ∷ [])) (declare scopes (parameter count)) unknown (record { name = strings; kind = kind.Strings }) tt
    (agree_words program names scopes 0 (count ∷ []) agree)

outward_number : (d : Declaration) → number_of (outward d) ≡ number_of d
outward_number (local n) = refl
outward_number (outer n) = refl
outward_number (global n) = refl
outward_number (of_lock n) = refl
outward_number (of_body n) = refl
outward_number unknown = refl

aligned_outward : (program : Labelled) (ds : List Declared) (means : List Declaration) → Aligned program ds means → Aligned program ds (map outward means)
aligned_outward program [] means h = tt
aligned_outward program (d ∷ ds) [] h = h
aligned_outward program (d ∷ ds) (m ∷ means) h =
    (subst (KindFits program d.kind) (sym (outward_number m)) h.0, aligned_outward program ds means h.1)

pub agree_inlet : (program : Labelled) (names : Names) (scopes : Scopes) → Agree program names scopes → Agree program (in_inlet names) (enter scopes)
agree_inlet program names scopes agree =
    record { same = ap enter agree.same; aligned = aligned_outward program (scopes.innermost ++ scopes.outer) names.means agree.aligned }

pub agree_declared : (program : Labelled) (names : Names) (scopes : Scopes) (n : ℕ) (d : tree.Decl) → Agree program names scopes
    → Agree program (with_local names n (tree.declared d)) (declare scopes (local_declares (tree.declared d)))
agree_declared program names scopes n d agree =
    agree_name program names scopes (local n) (local_declares (tree.declared d)) (by d.shape) agree
  where
    by : (shape : tree.Shape) → KindFits program (kind_of_shape shape) n
    by (tree.variable value) = tt
    by (tree.array m) = tt
