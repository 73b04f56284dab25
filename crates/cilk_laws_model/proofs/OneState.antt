-- The written rule leaves one state.
use Rattle.std.proofs.Common.{◌≡◌, ◌≢◌, ℕ, ◌+◌, ◌⊎◌, inl, inr, ℤ, pos, Bool, true, false, ◌&&◌, List, [], ◌∷◌, length, nat_lt, nat_le, Option, Some, None}
use Rattle.std.proofs.Common.{Result, Ok, Err, refl, sym, ap, ap₂, subst, ◌∙◌}
use Rattle.std.specs.Prelude.{slice_get, slice_index_or}
use Rattle.cilk_model.specs.declared.trap.Trap.{Trap}
use Rattle.cilk_model.specs.labelled.Labelled.{Labelled, global}
use Rattle.cilk_model.specs.Values.{Values, Store, Cell, Reached}
use Rattle.cilk_model.specs.Effect.{Effect, writes, answers, enters, gives, starts, writes_out, turns_lock, marks, effect_of}
use Rattle.cilk_model.specs.Path.{Path, child_path, parent_of, is_below}
use Rattle.cilk_model.specs.labelled.Items.{opened, next}
use Rattle.cilk_model.specs.Instance.{Activation, Receiver, place, through, Delivery, Instance, entered}
use Rattle.cilk_model.specs.State.{TrapKind, of_value, held_lock, depth, instances, output, Lock, State, instance_at, lock_at}
use Rattle.cilk_model.specs.Change.{leaves_function, with_deliveries, deliveries, LockTurn, lock_turned, refused, blocked, lock_turn_by}
use Rattle.cilk_model.specs.Written as written
use Rattle.cilk_model.specs.Written.{content, Writes, Delivers, Lets}
use Rattle.cilk_model.specs.Fails.{here}
use Rattle.cilk_model.specs.WrittenRule.{Flags, past, GoesOn, GoesBy, Puts, PutsOn, Enters, Resumes, Births, RootEnds, ChildEnds, Marks, Traps}
use Rattle.cilk_model.specs.WrittenRule.{Starts, Ends}
use Rattle.cilk_laws_model.specs.OneState.{AlikeAt, equal, by_cells, Alike, RuleLeavesOneState}
use Rattle.cilk_laws_model.proofs.Family.{parent-child, same-parent}
use Rattle.cilk_laws_model.proofs.Decided.{at, number_decided, cell_decided, path_decided, lock_decided, empty_decided}
use Rattle.cilk_laws_model.proofs.Forms.{Prints, LocksTo, FitsRoom, FitsLockTurn, FitsCombined, FitsAnswer, FitsLeaving, FitsEffect, Fits, Taken}
use Rattle.cilk_laws_model.proofs.Forms.{held_at, acts_fit, takes_fit}

-- what stands in each cell after one write
contents : (before a b : Store) (cell : Cell) (z : ℤ) → Writes before a cell z → Writes before b cell z → (c : Cell) → content a c ≡ content b c
contents before a b cell z v w c = elim (cell_decided c cell) [
  | inl e ↦ subst (λ (x : Cell). content a x ≡ content b x) (sym e) (v.there ∙ sym w.there)
  | inr ne ↦ v.others c ne ∙ sym (w.others c ne)
]

none_by : (p : Path) (z : ℤ) (o : Option Receiver) → deliveries p z o true ≡ []
none_by p z None = refl
none_by p z (Some receiver) = refl

delivers_one : (p : Path) (i : Instance) (z : ℤ) (ds : List Delivery) → Delivers p i z ds → ds ≡ deliveries p z i.receiver i.aborted
delivers_one p i z ds (written.to_nothing e) = sym (ap (λ o. deliveries p z o i.aborted) e)
delivers_one p i z ds (written.of_aborted e) = sym (ap (deliveries p z i.receiver) e ∙ none_by p z i.receiver)
delivers_one p i z ds (written.to_receiver receiver e f) = sym (ap (λ o. deliveries p z o i.aborted) e ∙ ap (deliveries p z (Some receiver)) f)

lets_one : (p : Path) (o a b : Option Lock) → Lets p o a → Lets p o b → a ≡ b
lets_one p o a b f g = elim (lock_decided p o) [ inl e ↦ f.own e ∙ sym (g.own e) | inr h ↦ f.other h ∙ sym (g.other h) ]

abbrev held_in : Values → ℕ → ℕ → Option ℤ
held_in globals n k = slice_get (slice_index_or globals n []) k

module _ (program : Labelled) (s : State) (p : Path) (i : Instance) (t u : State) where
  here_or_not : AlikeAt t u p → ((q : Path) → q ≢ p → instance_at t.instances q ≡ instance_at u.instances q) → (q : Path) → AlikeAt t u q
  here_or_not same other q = elim (path_decided q p) [ inl e ↦ subst (AlikeAt t u) (sym e) same | inr ne ↦ equal (other q ne) ]

  -- both leave all but the instances
  still_alike : ((q : Path) → AlikeAt t u q) → t ≡ record s { instances = t.instances } → u ≡ record s { instances = u.instances } → Alike t u
  still_alike same g h = record {
    at = same;
    globals = λ n k. ap (λ (x : State). held_in x.globals n k) g ∙ sym (ap (λ (x : State). held_in x.globals n k) h);
    locks = λ k. ap (λ (x : State). slice_get x.locks k) g ∙ sym (ap (λ (x : State). slice_get x.locks k) h);
    output = ap (λ (x : State). x.output) g ∙ sym (ap (λ (x : State). x.output) h);
    outcome = ap (λ (x : State). x.outcome) g ∙ sym (ap (λ (x : State). x.outcome) h);
  }

  traps_alike : (n : ℕ) (kind : TrapKind) → Traps program s p i t n kind → Traps program s p i u n kind → Alike t u
  traps_alike n kind g h = record {
    at = λ q. equal (ap (λ (x : State). instance_at x.instances q) (g ∙ sym h));
    globals = λ n k. ap (λ (x : State). held_in x.globals n k) (g ∙ sym h);
    locks = λ k. ap (λ (x : State). slice_get x.locks k) (g ∙ sym h);
    output = ap (λ (x : State). x.output) (g ∙ sym h);
    outcome = ap (λ (x : State). x.outcome) (g ∙ sym h);
  }

  one_flag : (a b : Bool) → Flags program s p i t a → Flags program s p i u b → a ≡ b
  one_flag a b g h = elim (empty_decided i.below) [ inl e ↦ g.cleared e ∙ sym (h.cleared e) | inr ne ↦ g.left ne ∙ sym (h.left ne) ]

  goes_at : (z : ℤ) → GoesOn program s p i t z → GoesOn program s p i u z → (q : Path) → AlikeAt t u q
  goes_at z g h = here_or_not
      (equal (g.at_p ∙ ap (λ b. Some (past program s p i t z b)) (one_flag g.flag h.flag g.flags h.flags) ∙ sym h.at_p))
      (λ q ne. g.elsewhere q ne ∙ sym (h.elsewhere q ne))

  goes_alike : (z : ℤ) → GoesBy program s p i t z → GoesBy program s p i u z → Alike t u
  goes_alike z g h = still_alike (goes_at z g.goes_on h.goes_on) g.still h.still

  puts_alike : (j : Instance) (cell : Cell) (z : ℤ) → Puts program s p i t j cell z → Puts program s p i u j cell z → Alike t u
  puts_alike j cell z g h =
      let same = contents _ _ _ cell z g.writes h.writes in
      record {
        at = here_or_not
            (by_cells j g.own h.own g.below h.below g.procedure h.procedure g.holding h.holding g.at_p h.at_p same)
            (λ q ne. g.elsewhere q ne ∙ sym (h.elsewhere q ne));
        globals = λ n k. same (at (global n) k);
        locks = λ k. ap (λ (x : State). slice_get x.locks k) g.still ∙ sym (ap (λ (x : State). slice_get x.locks k) h.still);
        output = ap (λ (x : State). x.output) g.still ∙ sym (ap (λ (x : State). x.output) h.still);
        outcome = ap (λ (x : State). x.outcome) g.still ∙ sym (ap (λ (x : State). x.outcome) h.still);
      }

  puts_on_alike : (cell : Cell) (z : ℤ) → PutsOn program s p i t cell z → PutsOn program s p i u cell z → Alike t u
  puts_on_alike cell z g h =
      puts_alike (past program s p i t (pos 1) g.flag) cell z g.puts
      (subst (λ b. Puts program s p i u (past program s p i u (pos 1) b) cell z) (sym (one_flag g.flag h.flag g.flags h.flags)) h.puts)

  enters_alike : (callee : ℕ) (zs : List ℤ) (awaits : Option Reached) → Enters program s p i t callee zs awaits
      → Enters program s p i u callee zs awaits → Alike t u
  enters_alike callee zs awaits g h = still_alike
      (here_or_not (equal (g.at_p ∙ ap (λ b. Some (record (past program s p i t (pos 1) b) {
        top = entered program callee zs awaits;
        below = record i.top { items = opened (next (pos 1) i.top.items) } ∷ i.below;
      })) (one_flag g.flag h.flag g.flags h.flags) ∙ sym h.at_p)) (λ q ne. g.elsewhere q ne ∙ sym (h.elsewhere q ne)))
      g.still h.still

  resumes_alike : (caller : Activation) (below : List Activation) → Resumes program s p i t caller below → Resumes program s p i u caller below → Alike t u
  resumes_alike caller below g h =
      still_alike (here_or_not (equal (g.at_p ∙ sym h.at_p)) (λ q ne. g.elsewhere q ne ∙ sym (h.elsewhere q ne))) g.still h.still

  births_alike : (callee : ℕ) (zs : List ℤ) (receiver : Option Receiver)
      → Births program s p i t callee zs receiver → Births program s p i u callee zs receiver → Alike t u
  births_alike callee zs receiver g h = still_alike
      (here_or_not (equal (g.at_p ∙ sym h.at_p)) (λ q ne. elim (path_decided q (child_path p (i.children + 1))) [
        | inl e ↦ subst (λ (x : Path). instance_at t.instances x ≡ instance_at u.instances x) (sym e) (g.at_child ∙ sym h.at_child)
        | inr nc ↦ g.elsewhere q ne nc ∙ sym (h.elsewhere q ne nc)
      ]))
      g.still h.still

  root_alike : (z : ℤ) → RootEnds program s p i t z → RootEnds program s p i u z → Alike t u
  root_alike z g h = record {
    at = here_or_not (equal (g.gone ∙ sym h.gone)) (λ q ne. g.elsewhere q ne ∙ sym (h.elsewhere q ne));
    globals = λ n k. ap (λ (x : State). held_in x.globals n k) g.still ∙ sym (ap (λ (x : State). held_in x.globals n k) h.still);
    locks = λ k. ap (λ (x : State). slice_get x.locks k) g.still ∙ sym (ap (λ (x : State). slice_get x.locks k) h.still);
    output = ap (λ (x : State). x.output) g.still ∙ sym (ap (λ (x : State). x.output) h.still);
    outcome = ap (λ (x : State). x.outcome) g.still ∙ sym (ap (λ (x : State). x.outcome) h.still);
  }

  no_root : (q : Path) (k : ℕ) → p ≡ [] → p ≡ child_path q k → ⊥
  no_root q k e f = let same : None ≡ Some q = ap parent_of (sym e ∙ f) ∙ parent-child q k in cc

  child_alike : (z : ℤ) → ChildEnds program s p i t z → ChildEnds program s p i u z → Alike t u
  child_alike z g h =
      let parents : g.q ≡ h.q = same-parent g.q h.q g.k h.k (sym g.child ∙ h.child) in
      let both : Some g.parent ≡ Some h.parent = sym g.lives ∙ ap (instance_at s.instances) parents ∙ h.lives in
      let parent : g.parent ≡ h.parent = cc in
      let new : g.delivered ≡ h.delivered = delivers_one p i z g.delivered g.delivers ∙ sym (delivers_one p i z h.delivered h.delivers) in
      still_alike
      (here_or_not (equal (g.gone ∙ sym h.gone)) (λ r ne. elim (path_decided r g.q) [
        | inl e ↦ ap (instance_at t.instances) e ∙ g.at_parent ∙ ap₂ (λ (x : Instance) (ds : List Delivery). Some (with_deliveries ds x)) parent new
            ∙ sym (ap (instance_at u.instances) (e ∙ parents) ∙ h.at_parent)
        | inr nq ↦ g.elsewhere r ne nq ∙ sym (h.elsewhere r ne (λ e. nq (e ∙ sym parents)))
      ]))
      g.still h.still

  ends_alike_by : (z : ℤ) → RootEnds program s p i t z ⊎ ChildEnds program s p i t z → RootEnds program s p i u z ⊎ ChildEnds program s p i u z → Alike t u
  ends_alike_by z (inl g) (inl h) = root_alike z g h
  ends_alike_by z (inl g) (inr h) = absurd (no_root h.q h.k g.root h.child)
  ends_alike_by z (inr g) (inl h) = absurd (no_root g.q g.k h.root g.child)
  ends_alike_by z (inr g) (inr h) = child_alike z g h

  below_or_not : Marks program s p i t → Marks program s p i u → (q : Path) → q ≢ p → (b : Bool) → is_below p q ≡ b
      → instance_at t.instances q ≡ instance_at u.instances q
  below_or_not g h q ne true e = g.below q e ∙ sym (h.below q e)
  below_or_not g h q ne false e = g.elsewhere q ne e ∙ sym (h.elsewhere q ne e)

  marks_alike : Marks program s p i t → Marks program s p i u → Alike t u
  marks_alike g h = still_alike
      (here_or_not (equal (g.at_p ∙ ap (λ b. Some (past program s p i t (pos 1) b)) (one_flag g.flag h.flag g.flags h.flags) ∙ sym h.at_p))
      (λ q ne. below_or_not g h q ne (is_below p q) refl))
      g.still h.still

  prints_alike : (bytes : List ℕ) → Prints program s p i bytes t → Prints program s p i bytes u → Alike t u
  prints_alike bytes g h = record {
    at = goes_at (pos 1) g.goes_on h.goes_on;
    globals = λ n k. ap (λ (x : State). held_in x.globals n k) g.still ∙ sym (ap (λ (x : State). held_in x.globals n k) h.still);
    locks = λ k. ap (λ (x : State). slice_get x.locks k) g.still ∙ sym (ap (λ (x : State). slice_get x.locks k) h.still);
    output = ap (λ (x : State). x.output) g.still ∙ sym (ap (λ (x : State). x.output) h.still);
    outcome = ap (λ (x : State). x.outcome) g.still ∙ sym (ap (λ (x : State). x.outcome) h.still);
  }

  locks_alike : (k : ℕ) (now : Lock) → LocksTo program s p i k now t → LocksTo program s p i k now u → Alike t u
  locks_alike k now g h = record {
    at = goes_at (pos 1) g.goes_on h.goes_on;
    globals = λ n k. ap (λ (x : State). held_in x.globals n k) g.still ∙ sym (ap (λ (x : State). held_in x.globals n k) h.still);
    locks = λ j. elim (number_decided j k) [
      | inl e ↦ subst (λ x. slice_get t.locks x ≡ slice_get u.locks x) (sym e) (g.is ∙ sym h.is)
      | inr ne ↦ g.others j ne ∙ sym (h.others j ne)
    ];
    output = ap (λ (x : State). x.output) g.still ∙ sym (ap (λ (x : State). x.output) h.still);
    outcome = ap (λ (x : State). x.outcome) g.still ∙ sym (ap (λ (x : State). x.outcome) h.still);
  }

  -- one form, one state
  room_alike : (n : ℕ) (kind : TrapKind) (A B : Type 0) (b : Bool) → FitsRoom program s p i n kind A t b → FitsRoom program s p i n kind B u b
      → (A → B → Alike t u) → Alike t u
  room_alike n kind A B true g h same = same g h
  room_alike n kind A B false g h same = traps_alike n kind g h

  lock_turn_alike : (n k : ℕ) (lock_turn : LockTurn) → FitsLockTurn program s p i n k t lock_turn → FitsLockTurn program s p i n k u lock_turn → Alike t u
  lock_turn_alike n k (lock_turned now) g h = locks_alike k now g h
  lock_turn_alike n k refused g h = traps_alike n _ g h
  lock_turn_alike n k blocked g h = absurd g

  combined_alike : (n : ℕ) (j : Instance) (cell : Cell) (r : Result ℤ Trap) → FitsCombined program s p i n t j cell r
      → FitsCombined program s p i n u j cell r → Alike t u
  combined_alike n j cell (Ok y) g h = puts_alike j cell y g h
  combined_alike n j cell (Err trap) g h = traps_alike n (of_value trap) g h

  answer_alike : (n : ℕ) (z : ℤ) (caller : Activation) (below : List Activation) (awaits : Option Reached)
      → FitsAnswer program s p i n t z caller below awaits → FitsAnswer program s p i n u z caller below awaits → Alike t u
  answer_alike n z caller below None g h = resumes_alike caller below g h
  answer_alike n z caller below (Some reached) g h = combined_alike n (record i { top = caller; below = below }) reached.cell _ g h

  leaving_alike : (n : ℕ) (z : ℤ) (below : List Activation) (function : Bool)
      → FitsLeaving program s p i n t z below function → FitsLeaving program s p i n u z below function → Alike t u
  leaving_alike n z [] function g h = ends_alike_by z g h
  leaving_alike n z (caller ∷ below) true g h = answer_alike n z caller below i.top.awaits g h
  leaving_alike n z (caller ∷ below) false g h = resumes_alike caller below g h

  effect_alike : (n : ℕ) (r : Result Effect Trap) → FitsEffect program s p i n t r → FitsEffect program s p i n u r → Alike t u
  effect_alike n (Err trap) g h = traps_alike n (of_value trap) g h
  effect_alike n (Ok (writes cell z)) g h = puts_on_alike cell z g h
  effect_alike n (Ok (answers z)) g h = goes_alike z g h
  effect_alike n (Ok (enters awaits callee zs)) g h = room_alike n depth _ _ (nat_lt (length i.below) 255) g h (enters_alike callee zs awaits)
  effect_alike n (Ok (gives z)) g h = leaving_alike n z i.below (leaves_function program i) g h
  effect_alike n (Ok (starts receiver callee zs)) g h =
      room_alike n instances _ _ (nat_lt (length s.instances) 65536 && nat_lt i.children 4294967295) g h (births_alike callee zs receiver)
  effect_alike n (Ok (writes_out bytes)) g h = room_alike n output _ _ (nat_le (length s.output + length bytes) 1048576) g h (prints_alike bytes)
  effect_alike n (Ok (turns_lock what k)) g h = lock_turn_alike n k (lock_turn_by p what (lock_at s k)) g h
  effect_alike n (Ok marks) g h = marks_alike g h

  one_form : (n : ℕ) (b : Bool) (r : Result Effect Trap) → Fits program s p i n t b r → Fits program s p i n u b r → Alike t u
  one_form n true r g h = traps_alike n held_lock g h
  one_form n false r g h = effect_alike n r g h

  starts_alike : (left : List Delivery) (inlet : ℕ) (zs : List ℤ) → Starts program s p i t left inlet zs → Starts program s p i u left inlet zs → Alike t u
  starts_alike left inlet zs g h =
      still_alike (here_or_not (equal (g.at_p ∙ sym h.at_p)) (λ q ne. g.elsewhere q ne ∙ sym (h.elsewhere q ne))) g.still h.still

  taken_alike : (left : List Delivery) (z : ℤ) (receiver : Receiver) → Taken program s p i z receiver left t → Taken program s p i z receiver left u → Alike t u
  taken_alike left z (place reached n) g h = combined_alike n (record i { waiting = left }) reached.cell _ g h
  taken_alike left z (through inlet others n) g h = starts_alike left inlet (z ∷ others) g h

  ends_alike : Ends program s p i t → Ends program s p i u → Alike t u
  ends_alike g h = record {
    at = here_or_not (equal (g.gone ∙ sym h.gone)) (λ q ne. g.elsewhere q ne ∙ sym (h.elsewhere q ne));
    globals = λ n k. ap (λ (x : State). held_in x.globals n k) g.still ∙ sym (ap (λ (x : State). held_in x.globals n k) h.still);
    locks = λ k. lets_one p (slice_get s.locks k) (slice_get t.locks k) (slice_get u.locks k) (g.locks k) (h.locks k);
    output = ap (λ (x : State). x.output) g.still ∙ sym (ap (λ (x : State). x.output) h.still);
    outcome = ap (λ (x : State). x.outcome) g.still ∙ sym (ap (λ (x : State). x.outcome) h.still);
  }

pub rule_leaves_one_state : RuleLeavesOneState
rule_leaves_one_state program s p i t u = record {
  by_action = λ n act a b.
      one_form program s p i t u n (held_at program s p i act) (effect_of (here program s p i) n act) (acts_fit program s p i n act t a)
      (acts_fit program s p i n act u b);
  by_delivery = λ left delivery a b.
      taken_alike program s p i t u left delivery.value delivery.receiver
      (takes_fit program s p i left delivery.child delivery.value delivery.receiver t a)
      (takes_fit program s p i left delivery.child delivery.value delivery.receiver u b);
  by_end = ends_alike program s p i t u;
}
