-- Rows of the rule: a body is left.
use Rattle.std.proofs.Common.{◌≡◌, ◌≢◌, ℕ, ℤ, pos, Bool, true, false, not, ◌&&◌, ◌||◌, ◌⊎◌, inl, inr, List, [], ◌∷◌, Option, Some, None, is_some}
use Rattle.std.proofs.Common.{Result, Ok, Err, refl, sym, ap, subst, ◌∙◌}
use Rattle.std.specs.Prelude.{option_map}
use Rattle.std.proofs.lemmas.Bool.{cond-true, cond-false, not-false}
use Rattle.cilk_model.specs.scopes.declared.owner.Owner.{Owner}
use Rattle.cilk_model.specs.scopes.declared.owner.Owner.TheVariants.{Function, Procedure, Inlet}
use Rattle.cilk_model.specs.declared.trap.Trap.{Trap}
use Rattle.cilk_model.specs.labelled.Term.{Term}
use Rattle.cilk_model.specs.labelled.Value.{Environment, value_of, ◌>>=◌}
use Rattle.cilk_model.specs.labelled.Labelled.{Labelled, Declaration, Action, return_with, return_nothing, close}
use Rattle.cilk_model.specs.Values.{Reached, Cell, read_at, combined}
use Rattle.cilk_model.specs.Effect.{gives, effect_of}
use Rattle.cilk_model.specs.Path.{Path, child_path, parent_of}
use Rattle.cilk_model.specs.Instance.{Activation, Receiver, Instance, owner_at}
use Rattle.cilk_model.specs.State.{of_value, State, is_live, without, is_empty, is_synched, store_of}
use Rattle.cilk_model.specs.Event as event
use Rattle.cilk_model.specs.Change.{is_function, leaves_function, holds_lock, resumed_to, resumed, after_leaving, after_answer, deliveries}
use Rattle.cilk_model.specs.Change.{with_deliveries, after_return_to, after_return}
use Rattle.cilk_model.specs.Written as written
use Rattle.cilk_model.specs.Written.{HoldsNone, Free, LeavesWith, Heads, Delivers}
use Rattle.cilk_model.specs.Fails as fails
use Rattle.cilk_model.specs.Fails.{here, InFunction, InInlet, MayLeave}
use Rattle.cilk_model.specs.WrittenRule as rule
use Rattle.cilk_model.specs.WrittenRule.{Puts, Resumes, RootEnds, ChildEnds}
use Rattle.cilk_model.specs.Pick.{goes_on, ends, step_by_combined, step_by_answer, step_by_leaving, step_by_effect}
use Rattle.cilk_laws_model.proofs.Entries.{at-changed_same, at-changed_other, at-without_other}
use Rattle.cilk_laws_model.proofs.Lookups.{apart, none_there}
use Rattle.cilk_laws_model.proofs.Paths.{not_own, Origin, origin}
use Rattle.cilk_laws_model.proofs.LockForms.{holds_none}
use Rattle.cilk_laws_model.proofs.Ground.{Stands, Ruled, not_empty, no_function, stepped, acts_on, failed, at_p, at_other, puts, free_of}

module _ (program : Labelled) (s : State) (p : Path) (i : Instance) (stands : Stands program s p i) (n : ℕ) where
  abbrev env : Environment Declaration
  env = here program s p i

  -- who may leave now
  free_to_leave : (below : List Activation) → i.below ≡ below → (owner : Owner) → owner_at program i ≡ owner
      → ((is_empty below || not (is_function owner)) && holds_lock s p) ≡ false → ((is_empty below && true) && not (is_synched s p i)) ≡ false
      → MayLeave program s p i
  free_to_leave [] e owner is unheld goes = fails.of_procedure e (free_of program s p i stands unheld (not-false (is_synched s p i) goes))
  free_to_leave (a ∷ below) e (Function returns) is unheld goes =
      fails.of_function (record { returns = returns; above = λ f. let both : a ∷ below ≡ [] = sym e ∙ f in cc; function = is })
  free_to_leave (a ∷ below) e (Procedure returns) is unheld goes = fails.of_inlet
      (record { above = λ f. let both : a ∷ below ≡ [] = sym e ∙ f in cc; no_function = λ r f. let both : Procedure returns ≡ Function r = sym is ∙ f in cc })
      (holds_none s p unheld)
  free_to_leave (a ∷ below) e Inlet is unheld goes = fails.of_inlet
      (record { above = λ f. let both : a ∷ below ≡ [] = sym e ∙ f in cc; no_function = λ r f. let both : Inlet ≡ Function r = sym is ∙ f in cc })
      (holds_none s p unheld)

  -- the procedure
  delivers : (z : ℤ) (o : Option Receiver) (b : Bool) → i.receiver ≡ o → i.aborted ≡ b → Delivers p i z (deliveries p z o b)
  delivers z None b e f = written.to_nothing e
  delivers z (Some receiver) true e f = written.of_aborted f
  delivers z (Some receiver) false e f = written.to_receiver receiver e f

  root_ends : (z : ℤ) → p ≡ [] → RootEnds program s p i (after_return_to None s p i z) z
  root_ends z root = record {
    root = root;
    gone = none_there p s.instances;
    elsewhere = λ q other. at-without_other p q s.instances (apart p q other);
    still = refl;
  }

  child_ends : (z : ℤ) (q : Path) (k : ℕ) → p ≡ child_path q k → ChildEnds program s p i (after_return_to (Some q) s p i z) z
  child_ends z q k child =
      let counted = stands.family q k (ap (is_live s.instances) (sym child) ∙ ap is_some stands.live) in
      let new = deliveries p z i.receiver i.aborted in
      let f : Instance → Instance = with_deliveries new in
      let below : q ≢ p = λ e. not_own q k (e ∙ child) in
      let above : p ≢ q = λ e. not_own q k (sym e ∙ child) in
      record {
        q = q;
        k = k;
        child = child;
        gone = at-changed_other q p f (without p s.instances) (apart q p above) ∙ none_there p s.instances;
        parent = counted.parent;
        lives = counted.lives;
        delivered = new;
        delivers = delivers z i.receiver i.aborted refl refl;
        at_parent = at-changed_same q f (without p s.instances) ∙ ap (option_map f) (at-without_other p q s.instances (apart p q below) ∙ counted.lives);
        elsewhere = λ r other others. at-changed_other q r f (without p s.instances) (apart q r others) ∙ at-without_other p r s.instances (apart p r other);
        still = refl;
      }

  ends_by : (z : ℤ) (o : Option Path) → Origin p o → RootEnds program s p i (after_return_to o s p i z) z
      ⊎ ChildEnds program s p i (after_return_to o s p i z) z
  ends_by z None h = inl (root_ends z h)
  ends_by z (Some q) h = inr (child_ends z q h.0 h.1)

  procedure_rule : (act : Action) (z : ℤ) → Heads i n act → LeavesWith env act z → i.below ≡ [] → Free s p i
      → Ruled program s p (ends (after_return s p i z) (event.returned p n))
  procedure_rule act z head given alone whole = (
    stepped program s p i stands (after_return s p i z) (event.returned p n)
        (rule.acts n act head (rule.leaves_procedure act z alone whole given (ends_by z (parent_of p) (origin p)))) refl,
    λ h. cc,
  )

  -- the activation below goes on
  module _ (caller : Activation) (below : List Activation) (is : i.below ≡ caller ∷ below) where
    resumes : Resumes program s p i (after_leaving s p i) caller below
    resumes = record {
      at_p = at_p program s p i stands (λ _. resumed i) ∙ ap (λ xs. Some (resumed_to i xs)) is;
      elsewhere = at_other program s p i stands (λ _. resumed i);
      still = refl;
    }

    answer_puts : (cell : Cell) (y : ℤ) → Puts program s p i (after_answer s p i cell y) (record i { top = caller; below = below }) cell y
    answer_puts cell y =
        subst (λ j. Puts program s p i (after_answer s p i cell y) j cell y) (ap (resumed_to i) is) (puts program s p i stands (resumed i) cell y)

    combined_rule : (act : Action) (z : ℤ) → Heads i n act → LeavesWith env act z → InFunction program s p i
        → (reached : Reached) → i.top.awaits ≡ Some reached
        → (r : Result ℤ Trap) → combined reached.op (read_at (store_of s p (resumed i)) reached.cell) z ≡ r
        → Ruled program s p (step_by_combined s p i n reached.cell r)
    combined_rule act z head given inside reached awaits (Ok y) comes =
        acts_on program s p i stands n act head (after_answer s p i reached.cell y)
        (rule.leaves_function act z caller below inside given is
        (subst (rule.Answers program s p i (after_answer s p i reached.cell y) caller below z) (sym awaits)
        (rule.to_place reached y
        (sym (ap (λ xs. combined reached.op (read_at (store_of s p (resumed_to i xs)) reached.cell) z) is) ∙ comes)
        (answer_puts reached.cell y)))) refl
    combined_rule act z head given inside reached awaits (Err trap) comes =
        failed program s p i stands n act head (of_value trap)
        (fails.of_caller act z trap caller below reached inside given is awaits
        (sym (ap (λ xs. combined reached.op (read_at (store_of s p (resumed_to i xs)) reached.cell) z) is) ∙ comes))

    answer_rule : (act : Action) (z : ℤ) → Heads i n act → LeavesWith env act z → InFunction program s p i
        → (awaits : Option Reached) → i.top.awaits ≡ awaits → Ruled program s p (step_by_answer s p i n awaits z)
    answer_rule act z head given inside None awaits =
        acts_on program s p i stands n act head (after_leaving s p i)
        (rule.leaves_function act z caller below inside given is
        (subst (rule.Answers program s p i (after_leaving s p i) caller below z) (sym awaits) (rule.to_nothing resumes))) refl
    answer_rule act z head given inside (Some reached) awaits =
        combined_rule act z head given inside reached awaits (combined reached.op (read_at (store_of s p (resumed i)) reached.cell) z) refl

    inlet_rule : (act : Action) (z : ℤ) → Heads i n act → LeavesWith env act z → InInlet program s p i → HoldsNone s p
        → Ruled program s p (goes_on (after_leaving s p i) (event.acted p n))
    inlet_rule act z head given inside unheld =
        acts_on program s p i stands n act head (after_leaving s p i)
        (rule.leaves_inlet act z caller below inside unheld given is resumes) refl

  -- which of the three it is
  above_some : (P : Type 0) → (xs : List Activation) → i.below ≡ xs → i.below ≢ []
      → ((caller : Activation) (below : List Activation) → i.below ≡ caller ∷ below → P) → P
  above_some P [] e h f = absurd (h e)
  above_some P (caller ∷ below) e h f = f caller below e

  pub leaving_rule : (act : Action) (z : ℤ) → Heads i n act → LeavesWith env act z → MayLeave program s p i
      → Ruled program s p (step_by_leaving program s p i n z)
  leaving_rule act z head given (fails.of_procedure alone whole) =
      subst (Ruled program s p) (sym (cond-true (is_empty i.below) _ _ (ap is_empty alone))) (procedure_rule act z head given alone whole)
  leaving_rule act z head given (fails.of_inlet inside unheld) =
      subst (Ruled program s p) (sym (cond-false (is_empty i.below) _ _ (not_empty i.below inside.above)
      ∙ cond-false (leaves_function program i) _ _ (no_function (owner_at program i) inside.no_function)))
      (above_some _ i.below refl inside.above (λ caller below is. inlet_rule caller below is act z head given inside unheld))
  leaving_rule act z head given (fails.of_function inside) =
      subst (Ruled program s p) (sym (cond-false (is_empty i.below) _ _ (not_empty i.below inside.above)
      ∙ cond-true (leaves_function program i) _ _ (ap is_function inside.function)))
      (above_some _ i.below refl inside.above (λ caller below is. answer_rule caller below is act z head given inside i.top.awaits refl))

  return_by : (e : Term Declaration) → Heads i n (return_with e) → MayLeave program s p i → (r : Result ℤ Trap) → value_of env e ≡ r
      → Ruled program s p (step_by_effect program s p i n (r >>= λ z. Ok (gives z)))
  return_by e head leave (Err trap) is =
      failed program s p i stands n (return_with e) head (of_value trap) (fails.has_no_value (return_with e) trap (fails.of_result e leave is))
  return_by e head leave (Ok z) is = leaving_rule (return_with e) z head (written.gives_value e z is) leave

  -- what is known where the head leaves the body, and need not wait
  abbrev pub Unheld : Type 0
  Unheld = ((is_empty i.below || not (is_function (owner_at program i))) && holds_lock s p) ≡ false

  abbrev pub Goes : Type 0
  Goes = ((is_empty i.below && true) && not (is_synched s p i)) ≡ false

  pub return_rule : (e : Term Declaration) → Heads i n (return_with e) → Unheld → Goes
      → Ruled program s p (step_by_effect program s p i n (effect_of env n (return_with e)))
  return_rule e head unheld goes = return_by e head (free_to_leave i.below refl (owner_at program i) refl unheld goes) (value_of env e) refl

  pub nothing_rule : Heads i n return_nothing → Unheld → Goes → Ruled program s p (step_by_leaving program s p i n (pos 0))
  nothing_rule head unheld goes =
      leaving_rule return_nothing (pos 0) head written.gives_nothing (free_to_leave i.below refl (owner_at program i) refl unheld goes)

  pub brace_rule : Heads i n close → Unheld → Goes → Ruled program s p (step_by_leaving program s p i n (pos 0))
  brace_rule head unheld goes =
      leaving_rule close (pos 0) head written.gives_brace (free_to_leave i.below refl (owner_at program i) refl unheld goes)
