-- Rows of the rule: the actions behind which the same activation goes on.
use Rattle.std.proofs.Common.{◌≡◌, ℕ, ◌+◌, nat_le, ℤ, pos, Bool, true, false, not, ◌&&◌, List, [], ◌∷◌, length, Result, Ok, Err, refl, sym, ap, ◌∙◌}
use Rattle.std.proofs.Common.{if◌then◌else◌}
use Rattle.std.specs.Prelude.{option_map}
use Rattle.std.proofs.lemmas.Bool.{leb-true, leb-false, not-false}
use Rattle.cilk_model.specs.syntax.declared.lock_action.LockAction.{LockAction}
use Rattle.cilk_model.specs.syntax.declared.lock_action.LockAction.TheVariants.{Init, Lock, Unlock}
use Rattle.cilk_model.specs.declared.trap.Trap.{Trap}
use Rattle.cilk_model.specs.labelled.Term.{Term}
use Rattle.cilk_model.specs.labelled.Value.{Environment, value_of, values_of, ◌>>=◌}
use Rattle.cilk_model.specs.labelled.Labelled.{Labelled, Declaration, Into, Action, assign, print, locking, tests, sync, abort}
use Rattle.cilk_model.specs.Values.{Reached, read_at, reached_at, combined}
use Rattle.cilk_model.specs.Effect.{writes, answers, writes_out, effect_of}
use Rattle.cilk_model.specs.Path.{Path, same_path, is_below}
use Rattle.cilk_model.specs.Instance.{Activation, Instance}
use Rattle.cilk_model.specs.State as state
use Rattle.cilk_model.specs.State.{of_value, lock, output, unset, free, held, State, is_empty, is_synched, store_of, lock_at, changed}
use Rattle.cilk_model.specs.Event as event
use Rattle.cilk_model.specs.Change.{lock_turned, refused, blocked, lock_turn_by, gone_on, holds_lock, after_write, after_going, after_print}
use Rattle.cilk_model.specs.Change.{after_lock, after_marks}
use Rattle.cilk_model.specs.Printing.{printed}
use Rattle.cilk_model.specs.Written.{Heads}
use Rattle.cilk_model.specs.Fails as fails
use Rattle.cilk_model.specs.Fails.{here, MayPass}
use Rattle.cilk_model.specs.WrittenRule as rule
use Rattle.cilk_model.specs.WrittenRule.{Bare, TurnsLock, Marks}
use Rattle.cilk_model.specs.Pick.{goes_on, if_room, step_by_effect, step_by_lock_turn}
use Rattle.cilk_laws_model.proofs.Entries.{same-is, same-self}
use Rattle.cilk_laws_model.proofs.Lookups.{marked, at-marked_below, at-marked_beside}
use Rattle.cilk_laws_model.proofs.Paths.{not_below}
use Rattle.cilk_laws_model.proofs.Cells.{get_set_same, get_set_other}
use Rattle.cilk_laws_model.proofs.LockForms.{holds_none}
use Rattle.cilk_laws_model.proofs.Ground.{Stands, Ruled, acts_on, failed, at_p, at_other, flags, going, goes_by, puts, free_of}

module _ (program : Labelled) (s : State) (p : Path) (i : Instance) (stands : Stands program s p i) (n : ℕ) where
  abbrev env : Environment Declaration
  env = here program s p i

  -- nothing but the place in the body is changed
  pub bare_rule : (act : Action) → Heads i n act → Bare program s p i (after_going s p i (pos 1)) act
      → Ruled program s p (goes_on (after_going s p i (pos 1)) (event.acted p n))
  bare_rule act head bare =
      acts_on program s p i stands n act head _
      (rule.goes_by act bare (goes_by program s p i stands (pos 1))) refl

  tests_by : (e : Term Declaration) → Heads i n (tests e) → (r : Result ℤ Trap) → value_of env e ≡ r
      → Ruled program s p (step_by_effect program s p i n (r >>= λ z. Ok (answers z)))
  tests_by e head (Err trap) is = failed program s p i stands n (tests e) head (of_value trap) (fails.has_no_value (tests e) trap (fails.of_test e is))
  tests_by e head (Ok z) is =
      acts_on program s p i stands n (tests e) head _
      (rule.answers_test e z is (goes_by program s p i stands z)) refl

  pub tests_rule : (e : Term Declaration) → Heads i n (tests e) → Ruled program s p (step_by_effect program s p i n (effect_of env n (tests e)))
  tests_rule e head = tests_by e head (value_of env e) refl

  -- assignments
  module _ (what : Into) (e : Term Declaration) (head : Heads i n (assign what e)) where
    assign_by : (reached : Reached) → reached_at env what ≡ Ok reached → (z : ℤ) → value_of env e ≡ Ok z
        → (r : Result ℤ Trap) → combined reached.op (read_at (store_of s p i) reached.cell) z ≡ r
        → Ruled program s p (step_by_effect program s p i n (r >>= λ y. Ok (writes reached.cell y)))
    assign_by reached is z value (Err trap) comes =
        failed program s p i stands n (assign what e) head (of_value trap)
        (fails.has_no_value (assign what e) trap (fails.of_operator what e reached z is value comes))
    assign_by reached is z value (Ok y) comes =
        acts_on program s p i stands n (assign what e) head (after_write s p i reached.cell y)
        (rule.assigns what e reached z y is value comes (record {
          flag = i.spawned && not (is_empty i.below);
          flags = flags program s p i stands _;
          puts = puts program s p i stands (gone_on (pos 1) i) reached.cell y;
        })) refl

    value_by : (reached : Reached) → reached_at env what ≡ Ok reached → (r : Result ℤ Trap) → value_of env e ≡ r
        → Ruled program s p (step_by_effect program s p i n
        (r >>= λ z. combined reached.op (read_at (store_of s p i) reached.cell) z >>= λ y. Ok (writes reached.cell y)))
    value_by reached is (Err trap) value =
        failed program s p i stands n (assign what e) head (of_value trap)
        (fails.has_no_value (assign what e) trap (fails.of_right_side what e reached is value))
    value_by reached is (Ok z) value = assign_by reached is z value (combined reached.op (read_at (store_of s p i) reached.cell) z) refl

    place_by : (r : Result Reached Trap) → reached_at env what ≡ r
        → Ruled program s p (step_by_effect program s p i n
        (r >>= λ reached. value_of env e >>= λ z. combined reached.op (read_at (store_of s p i) reached.cell) z >>= λ y. Ok (writes reached.cell y)))
    place_by (Err trap) is =
        failed program s p i stands n (assign what e) head (of_value trap) (fails.has_no_value (assign what e) trap (fails.of_place what e is))
    place_by (Ok reached) is = value_by reached is (value_of env e) refl

    pub assign_rule : Ruled program s p (step_by_effect program s p i n (effect_of env n (assign what e)))
    assign_rule = place_by (reached_at env what) refl

  -- output
  module _ (format : List ℕ) (es : List (Term Declaration)) (head : Heads i n (print format es)) where
    room_by : (zs : List ℤ) → values_of env es ≡ Ok zs → (b : Bool) → nat_le (length s.output + length (printed format zs)) 1048576 ≡ b
        → Ruled program s p (if_room s p n output b (goes_on (after_print s p i (printed format zs)) (event.acted p n)))
    room_by zs are true few =
        acts_on program s p i stands n (print format es) head _
        (rule.prints format es zs are (leb-true _ _ few) (going program s p i stands (pos 1) _ refl) refl) refl
    room_by zs are false many =
        failed program s p i stands n (print format es) head output (fails.too_long format es zs are (leb-false _ _ many))

    print_by : (r : Result (List ℤ) Trap) → values_of env es ≡ r
        → Ruled program s p (step_by_effect program s p i n (r >>= λ zs. Ok (writes_out (printed format zs))))
    print_by (Err trap) are =
        failed program s p i stands n (print format es) head (of_value trap) (fails.has_no_value (print format es) trap (fails.of_print_argument format es are))
    print_by (Ok zs) are = room_by zs are (nat_le (length s.output + length (printed format zs)) 1048576) refl

    pub print_rule : Ruled program s p (step_by_effect program s p i n (effect_of env n (print format es)))
    print_rule = print_by (values_of env es) refl

  -- locks
  module _ (k : ℕ) where
    lock_turned_rule : (what : LockAction) → Heads i n (locking what k) → (before after : state.Lock)
        → TurnsLock program s p i (after_lock s p i k after) what before after → lock_at s k ≡ before
        → Ruled program s p (goes_on (after_lock s p i k after) (event.acted p n))
    lock_turned_rule what head before after becomes was =
        acts_on program s p i stands n (locking what k) head _
        (rule.locks what k (record {
          before = before;
          after = after;
          turns_lock = becomes;
          was = was;
          is = get_set_same s.locks k after;
          others = λ j other. get_set_other s.locks k j after other;
          goes_on = going program s p i stands (pos 1) _ refl;
          still = refl;
        })) refl

    refused_rule : (what : LockAction) → Heads i n (locking what k) → fails.MayNot program s p i k what
        → Ruled program s p (step_by_lock_turn s p i n k refused)
    refused_rule what head may_not = failed program s p i stands n (locking what k) head lock (fails.may_not what k may_not)

    own_or_wait : (q : Path) → Heads i n (locking Lock k) → lock_at s k ≡ held q → (b : Bool) → same_path q p ≡ b
        → Ruled program s p (step_by_lock_turn s p i n k (if b then refused else blocked))
    own_or_wait q head was true same = refused_rule Lock head (fails.lock_own (was ∙ ap held (same-is q p same)))
    own_or_wait q head was false other = tt

    own_or_not : (q : Path) → Heads i n (locking Unlock k) → lock_at s k ≡ held q → (b : Bool) → same_path q p ≡ b
        → Ruled program s p (step_by_lock_turn s p i n k (if b then lock_turned free else refused))
    own_or_not q head was true same = lock_turned_rule Unlock head (held p) free rule.lets_go (was ∙ ap held (same-is q p same))
    own_or_not q head was false other = refused_rule Unlock head (fails.unlock_other (λ e.
        let is : q ≡ p = (let both : held q ≡ held p = sym was ∙ e in cc) in
        let twice : true ≡ false = sym (ap (λ x. same_path x p) is ∙ same-self p) ∙ other in cc))

    lock_by : (what : LockAction) → Heads i n (locking what k) → (before : state.Lock) → lock_at s k ≡ before
        → Ruled program s p (step_by_lock_turn s p i n k (lock_turn_by p what before))
    lock_by Init head unset was = lock_turned_rule Init head unset free rule.inits_unset was
    lock_by Init head free was = lock_turned_rule Init head free free rule.inits_free was
    lock_by Init head (held q) was = refused_rule Init head (fails.init_held q was)
    lock_by Lock head unset was = refused_rule Lock head (fails.lock_unset was)
    lock_by Lock head free was = lock_turned_rule Lock head free (held p) rule.takes_free was
    lock_by Lock head (held q) was = own_or_wait q head was (same_path q p) refl
    lock_by Unlock head unset was = refused_rule Unlock head (fails.unlock_other (λ e. let both : unset ≡ held p = sym was ∙ e in cc))
    lock_by Unlock head free was = refused_rule Unlock head (fails.unlock_other (λ e. let both : free ≡ held p = sym was ∙ e in cc))
    lock_by Unlock head (held q) was = own_or_not q head was (same_path q p) refl

    pub lock_rule : (what : LockAction) → Heads i n (locking what k) → Ruled program s p (step_by_effect program s p i n (effect_of env n (locking what k)))
    lock_rule what head = lock_by what head (lock_at s k) refl

  -- `sync`
  may_pass : holds_lock s p ≡ false → (below : List Activation) → i.below ≡ below → ((is_empty below && true) && not (is_synched s p i)) ≡ false
      → MayPass program s p i
  may_pass unheld [] e goes = fails.in_procedure e (free_of program s p i stands unheld (not-false (is_synched s p i) goes))
  may_pass unheld (a ∷ below) e goes = fails.elsewhere (λ f. let both : a ∷ below ≡ [] = sym e ∙ f in cc) (holds_none s p unheld)

  pub sync_rule : Heads i n sync → holds_lock s p ≡ false → ((is_empty i.below && true) && not (is_synched s p i)) ≡ false
      → Ruled program s p (goes_on (after_going s p i (pos 1)) (event.acted p n))
  sync_rule head unheld goes =
      acts_on program s p i stands n sync head _
      (rule.passes (may_pass unheld i.below refl goes) (goes_by program s p i stands (pos 1))) refl

  -- `abort`
  marks_row : Marks program s p i (after_marks s p i)
  marks_row = record {
    flag = i.spawned && not (is_empty i.below);
    flags = flags program s p i stands _;
    at_p = at-marked_beside p p (changed p (λ _. gone_on (pos 1) i) s.instances) (not_below p) ∙ at_p program s p i stands (λ _. gone_on (pos 1) i);
    below = λ q below.
        at-marked_below p q (changed p (λ _. gone_on (pos 1) i) s.instances) below
        ∙ ap (option_map marked) (at_other program s p i stands (λ _. gone_on (pos 1) i) q
        (λ e. let both : true ≡ false = sym below ∙ ap (is_below p) e ∙ not_below p in cc));
    elsewhere = λ q other beside.
        at-marked_beside p q (changed p (λ _. gone_on (pos 1) i) s.instances) beside ∙ at_other program s p i stands (λ _. gone_on (pos 1) i) q other;
    still = refl;
  }

  pub abort_rule : Heads i n abort → Ruled program s p (goes_on (after_marks s p i) (event.acted p n))
  abort_rule head =
      acts_on program s p i stands n abort head (after_marks s p i)
      (rule.marks marks_row) refl
