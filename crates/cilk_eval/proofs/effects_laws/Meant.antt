-- What names mean, and that each use of one has what it needs.
use Rattle.std.proofs.Common.{◌≡◌, ◌≢◌, ℕ, zero, suc, ◌<◌, ℤ, pos, Bool, true, false, IsTrue, inl, inr, if◌then◌else◌, arith, List, [], ◌∷◌, ◌++◌}
use Rattle.std.proofs.Common.{map, length, get_or, Some, codes, bytes_eq, refl, sym, ap, subst, ◌∙◌}
use Rattle.std.proofs.lemmas.Bool.{cases_lt}
use Rattle.std.proofs.lemmas.Slice.Eq.{bytes_eq-Decides}
use Rattle.cilk_eval.specs.syntax.declared.return_type.ReturnType.{ReturnType}
use Rattle.cilk_eval.specs.syntax.declared.return_type.ReturnType.TheVariants as returns
use Rattle.cilk_eval.specs.syntax.Tree.{Word}
use Rattle.cilk_eval.specs.syntax.Tree as tree
use Rattle.cilk_eval.specs.scopes.declared.owner.Owner.{Owner}
use Rattle.cilk_eval.specs.scopes.declared.owner.Owner.TheVariants as owner
use Rattle.cilk_eval.specs.scopes.declared.declaration_kind.DeclarationKind.{DeclarationKind}
use Rattle.cilk_eval.specs.scopes.declared.declaration_kind.DeclarationKind.TheVariants as kind
use Rattle.cilk_eval.specs.scopes.Scopes.{Declared, Scopes, parameter}
use Rattle.cilk_eval.specs.scopes.declared.role.Role.{Role}
use Rattle.cilk_eval.specs.scopes.declared.role.Role.TheVariants as role
use Rattle.cilk_eval.specs.scopes.NameFaults as rules
use Rattle.cilk_eval.specs.scopes.NameFaults.{fits, parameters_of}
use Rattle.cilk_eval.specs.scopes.Uses.{use_as}
use Rattle.cilk_eval.specs.labelled.Labelled.{Declaration, local, outer, global, of_lock, of_body, unknown, Labelled}
use Rattle.cilk_eval.specs.labelled.Names.{Names, meaning_at, meaning_of, number_of, with_name, with_words, with_parameters, outward}
use Rattle.cilk_eval.specs.labelled.Bodies.{is_procedure, one_cell, parameter_variables}
use Rattle.cilk_eval.specs.model.Instance.{body_at}
use Rattle.cilk_eval.specs.nodes.Slots.{is_inlet, procedure_around}
use Rattle.cilk_eval.specs.frame.Cells.{variable_at, own_variables}
use Rattle.cilk_eval.specs.frame.Reads.{IsVariable, IsArray}
use Rattle.cilk_eval.specs.effects.Known.{owner_of, StandsIn, Accepts, Calls, Spawns, Feeds}
use Rattle.cilk_eval.proofs.effects_laws.Lists.{get_within, found_at, found_passes, position_first, StandAt, stand_first, stand_others, Fit, fit_at, fit_map}
use Rattle.cilk_eval.proofs.effects_laws.Facts.{Sound}

-- all that is visible, the nearest first
abbrev pub visible : Scopes → List Declared
visible scopes = scopes.innermost ++ scopes.outer

-- a body that takes n arguments, and what it returns
pub record IsBody (program : Labelled) (o : Owner) (callee n : ℕ) : Type 0 where
  pub takes : Accepts program callee n
  pub owner : owner_of program callee ≡ o

-- what declarations mean in body b, which stands in procedure h
module _ (program : Labelled) (b h : ℕ) where
  abbrev pub MeansKind : List ℕ → Declaration → DeclarationKind → Type 0
  MeansKind name d kind.Variable = IsVariable program b d
  MeansKind name d (kind.Array n) = IsArray program b d
  MeansKind name d kind.Lock = number_of d < length program.locks
  MeansKind name d kind.Strings = Unit {0}
  MeansKind name d (kind.Function returns n) = IsBody program (owner.Function returns) (number_of d) n
  MeansKind name d (kind.Procedure returns n) =
      IsBody program (owner.Procedure returns) (number_of d) n × (program.main ≡ Some (number_of d) → name ≡ codes "main")
  MeansKind name d (kind.Inlet n) = Feeds program h (number_of d) n

  abbrev pub Fits : Declared → Declaration → Type 0
  Fits what d = MeansKind what.name.text d what.kind

  abbrev pub FitNames : Names → Type 0
  FitNames names = Fit Fits (visible names.scopes) names.means

  -- what a use needs
  abbrev pub Serves : Declaration → Role → Type 0
  Serves d role.Variable = IsVariable program b d
  Serves d role.Array = IsArray program b d
  Serves d role.Lock = number_of d < length program.locks
  Serves d (role.Called n taken) = Calls program (number_of d) n taken
  Serves d (role.Spawned n taken) = Spawns program (number_of d) n taken
  Serves d (role.Fed n) = Feeds program h (number_of d) n

  takes_so : (callee given wanted : ℕ) → given ≡ wanted → Accepts program callee wanted → Accepts program callee given
  takes_so callee given wanted e t = record { is_there = t.is_there; parameters = t.parameters ∙ sym e }

  int_given : (r : ReturnType) → Some r ≢ Some returns.Void → r ≡ returns.Int
  int_given returns.Int h = refl
  int_given returns.Void h = absurd (h refl)

  serves : (scopes : Scopes) (name : Word) (what : Role) (d : Declaration) (k : DeclarationKind) (s : Sound (use_as scopes name what)) → s.means.kind ≡ k
      → s.means.name.text ≡ name.text → MeansKind s.means.name.text d k → Serves d what
  serves scopes name role.Variable d kind.Variable s e same m = m
  serves scopes name role.Array d (kind.Array n) s e same m = m
  serves scopes name role.Lock d kind.Lock s e same m = m
  serves scopes name (role.Called g taken) d (kind.Function r n) s e same m =
      record {
        takes = takes_so (number_of d) g n (s.counts g n refl (ap parameters_of e)) m.takes;
        returns = r;
        owner = m.owner;
        gives = λ t. int_given r (λ void. s.gives t (ap rules.returned_by e ∙ void));
      }
  serves scopes name (role.Called g taken) d (kind.Inlet n) s e same m = absurd (s.no_inlet g n taken refl e)
  serves scopes name (role.Spawned g taken) d (kind.Procedure r n) s e same m =
      record {
        takes = takes_so (number_of d) g n (s.counts g n refl (ap parameters_of e)) m.0.takes;
        returns = r;
        owner = m.0.owner;
        gives = λ t. int_given r (λ void. s.gives t (ap rules.returned_by e ∙ void));
        not_main = λ is_main. s.not_main g taken refl (sym same ∙ m.1 is_main);
      }
  serves scopes name (role.Fed g) d (kind.Inlet n) s e same m =
      record { takes = takes_so (number_of d) g n (s.counts g n refl (ap parameters_of e)) m.takes; owner = m.owner; stands_in = m.stands_in }
  serves scopes name what d k s e same m = let no : false ≡ true = sym (ap (fits what) e) ∙ s.fitting in cc

  -- each use means what it needs
  pub use_serves : (names : Names) → FitNames names → (name : Word) (what : Role) → Sound (use_as names.scopes name what) → Serves (meaning_of names name) what
  use_serves names fit name what s =
      let at = found_at (λ (d : Declared). bytes_eq d.name.text name.text) (visible names.scopes) s.means s.visible in
      let passes = found_passes (λ (d : Declared). bytes_eq d.name.text name.text) (visible names.scopes) s.means s.visible in
      let same = (bytes_eq-Decides s.means.name.text name.text).0 passes in
      let fits_there = fit_at Fits (visible names.scopes) names.means at.0 s.means unknown fit at.2 in
      subst (λ o. Serves (meaning_at names.means o) what) (sym at.1)
      (serves names.scopes name what (get_or names.means at.0 unknown) s.means.kind s refl same fits_there)

  -- the newest name means its declaration
  pub newest_means : (names : Names) (d : Declaration) (what : Declared) → meaning_of (with_name names d what) what.name ≡ d
  newest_means names d what =
      let here : bytes_eq what.name.text what.name.text ≡ true = (bytes_eq-Decides what.name.text what.name.text).1 refl in
      ap (λ o. meaning_at (d ∷ names.means) o) (position_first (λ (x : Declared). bytes_eq x.name.text what.name.text) what (visible names.scopes) here)

  -- behind parameters
  pub words_fit : (names : Names) (n : ℕ) (words : List Word) (z : ℤ) → FitNames names → StandAt (body_at program b).variables n (map (one_cell z) words)
      → FitNames (with_words names n words)
  words_fit names n [] z fit stand = fit
  words_fit names n (word ∷ words) z fit stand =
      words_fit (with_name names (local n) (parameter word)) (suc n) words z (
        get_within (body_at program b).variables n (one_cell z word)
            (stand_first (body_at program b).variables n (one_cell z word) (map (one_cell z) words) stand),
        fit,
      )
      (stand_others (body_at program b).variables n (one_cell z word) (map (one_cell z) words) stand)

  pub parameters_fit : (names : Names) (ps : tree.Parameters) → FitNames names → StandAt (body_at program b).variables 0 (parameter_variables ps)
      → FitNames (with_parameters names ps)
  parameters_fit names (tree.ints words) fit stand = words_fit names 0 words (pos 0) fit stand
  parameters_fit names (tree.command_line count strings) fit stand = (tt, words_fit names 0 (count ∷ []) (pos 1) fit stand)

pub not_inlet : (o : Owner) → IsTrue (is_procedure o) → is_inlet o ≡ false
not_inlet (owner.Function r) h = refl
not_inlet (owner.Procedure r) h = refl
not_inlet owner.Inlet h = cc

-- the nearest body that is no inlet's
pub around_of : (program : Labelled) (c b : ℕ) → StandsIn program c b → procedure_around program c ≡ b
around_of program zero b s = omega (arith, s.not_before)
around_of program (suc c) b s =
    elim (cases_lt b (suc c)) [
      | inl low ↦
          let inlet : is_inlet (owner_of program (suc c)) ≡ true = ap is_inlet (s.inlets (suc c) low (omega arith)) in
          ap (λ (x : Bool). if x then procedure_around program c else suc c) inlet ∙ around_of program c b (record {
            not_before = omega (arith, low);
            owner = s.owner;
            inlets = λ k more less. s.inlets k more (omega (arith, less));
          })
      | inr least ↦
          let same : suc c ≡ b = omega (arith, least, s.not_before) in
          let none : is_inlet (owner_of program (suc c)) ≡ false =
          ap (λ (k : ℕ). is_inlet (owner_of program k)) same ∙ not_inlet (owner_of program b) s.owner
          in
          ap (λ (x : Bool). if x then procedure_around program c else suc c) none ∙ same
    ]

-- what is declared in a procedure means the same in an inlet there, outward
module _ (program : Labelled) (b c : ℕ) (procedure : IsTrue (is_procedure (owner_of program b))) (inlet : owner_of program c ≡ owner.Inlet)
    (stands : StandsIn program c b) where
  around_is : procedure_around program c ≡ b
  around_is = around_of program c b stands

  outward_variable : (d : Declaration) → IsVariable program b d → IsVariable program c (outward d)
  outward_variable (local n) h =
      (ap is_inlet inlet, subst (λ (k : ℕ). n < length (own_variables program k)) (sym around_is) h)
  outward_variable (outer n) h = let no : true ≡ false = sym h.0 ∙ not_inlet (owner_of program b) procedure in cc
  outward_variable (global n) h = h
  outward_variable (of_lock n) h = h
  outward_variable (of_body n) h = h
  outward_variable unknown h = h

  outward_array : (d : Declaration) → IsArray program b d → IsArray program c (outward d)
  outward_array (local n) h =
      (ap is_inlet inlet, subst (λ (k : ℕ). 0 < (variable_at (own_variables program k) n).length) (sym around_is) h)
  outward_array (outer n) h = let no : true ≡ false = sym h.0 ∙ not_inlet (owner_of program b) procedure in cc
  outward_array (global n) h = h
  outward_array (of_lock n) h = h
  outward_array (of_body n) h = h
  outward_array unknown h = h

  outward_number : (d : Declaration) → number_of d ≡ number_of (outward d)
  outward_number (local n) = refl
  outward_number (outer n) = refl
  outward_number (global n) = refl
  outward_number (of_lock n) = refl
  outward_number (of_body n) = refl
  outward_number unknown = refl

  outward_means : (name : List ℕ) (d : Declaration) (k : DeclarationKind) → MeansKind program b b name d k → MeansKind program c b name (outward d) k
  outward_means name d kind.Variable m = outward_variable d m
  outward_means name d (kind.Array n) m = outward_array d m
  outward_means name d kind.Lock m = subst (λ (k : ℕ). k < length program.locks) (outward_number d) m
  outward_means name d kind.Strings m = tt
  outward_means name d (kind.Function r n) m = subst (λ (k : ℕ). IsBody program (owner.Function r) k n) (outward_number d) m
  outward_means name d (kind.Procedure r n) m =
      subst (λ (k : ℕ). IsBody program (owner.Procedure r) k n × (program.main ≡ Some k → name ≡ codes "main")) (outward_number d) m
  outward_means name d (kind.Inlet n) m = subst (λ (k : ℕ). Feeds program b k n) (outward_number d) m

  pub outward_fits : (ds : List Declared) (means : List Declaration) → Fit (Fits program b b) ds means → Fit (Fits program c b) ds (map outward means)
  outward_fits ds means h =
      fit_map (Fits program b b) (Fits program c b) outward (λ x d m. outward_means x.name.text d x.kind m) ds means h
