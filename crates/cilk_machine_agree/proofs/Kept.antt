-- What follows an event is fated as the events with that one tell it.
use Rattle.std.proofs.Common.{◌≡◌, ◌<◌, ◌+◌, ℕ, zero, suc, Bool, true, false, List, [], ◌∷◌, ◌++◌, map, length, Some, refl, sym, ap, ◌∙◌, subst}
use Rattle.std.proofs.Common.{arith, inl, inr, if◌then◌else◌}
use Rattle.std.proofs.lemmas.Bool.{or_left}
use Rattle.std.specs.List.{range_with_len}
use Rattle.std.proofs.lemmas.List.{map-append}
use Rattle.cilk_laws_model.specs.labelled.Labelled.{Labelled}
use Rattle.cilk_laws_model.specs.model.Path.{Path, same_path}
use Rattle.cilk_laws_model.specs.model.Event.{Event, acted, spawned, delivered, returned, ended, trapped, moved}
use Rattle.cilk_laws_model.specs.model.Fate as model
use Rattle.cilk_laws_model.specs.model.Fate.{fate_by, is_birth, was_made, fate_of}
use Rattle.cilk_laws_model.proofs.Events.{told-push, made-push, fate-made, has_fate}
use Rattle.cilk_laws_model.specs.model.Made.{born, made, procedure_of}
use Rattle.cilk_spawn.specs.declared.fate.Fate.{Fate}
use Rattle.cilk_spawn.specs.declared.fate.Fate.TheVariants.{Live, Returned, Delivered, Aborted}
use Rattle.cilk_spawn.specs.Nodes.{Node, IsTree, node_at, is_live, lives, after_taking, root_alone, path_at}
use Rattle.cilk_spawn.proofs.Lists.{decide, range_more}
use Rattle.cilk_spawn.proofs.Trees.{names}
use Rattle.cilk_machine_agree.specs.Fated.{fate_named, fate_after, IsBorn, Births, Follows, Fated}
use Rattle.cilk_machine_agree.specs.FateLaws.{RootsAreFated, LivingAreTold, FatesAreKept}
use Rattle.cilk_machine_agree.proofs.Made.{made-more, node-made, procedure-kept, procedure-born}

one-root : (main i : ℕ) → i < length (root_alone main) → i ≡ 0
one-root main i lt = omega (arith, lt)

pub roots-are-fated : RootsAreFated
roots-are-fated program main is = record {
  paths = refl;
  fates = λ i lt. subst (λ k. fate_of [] (path_at (root_alone main) k) ≡ Some (fate_named (node_at (root_alone main) k).fate)) (sym (one-root main i lt)) refl;
  procedures = λ i lt.
      subst (λ k. procedure_of program [] (path_at (root_alone main) k) ≡ Some (node_at (root_alone main) k).procedure) (sym (one-root main i lt)) is;
}

map-same : {X : Type 0} (f g : ℕ → X) (a n : ℕ) → ((i : ℕ) → i < a + n → f i ≡ g i) → map f (range_with_len a n) ≡ map g (range_with_len a n)
map-same f g a zero same = refl
map-same f g a (suc n) same = λ j. same a (omega arith) j ∷ map-same f g (a + 1) n (λ i h. same i (omega (arith, h))) j

-- one that lives is told so
named-live : (fate : Fate) → lives fate ≡ true → fate_named fate ≡ model.lives
named-live Live e = refl
named-live Returned e = cc
named-live (Delivered k) e = cc
named-live (Aborted k) e = cc

-- of one that lives no more the event tells what the node keeps
taking-named : (k : ℕ) (fate : Fate) → lives (after_taking k fate) ≡ false → fate_named (after_taking k fate) ≡ model.was_delivered k
taking-named k Live e = cc
taking-named k Returned e = refl
taking-named k (Delivered c) e = refl
taking-named k (Aborted c) e = refl

delivered-named : (k : ℕ) (fate : Fate) (b : Bool) → lives (if b then after_taking k fate else fate) ≡ false
    → fate_named (if b then after_taking k fate else fate) ≡ (if b then model.was_delivered k else fate_named fate)
delivered-named k fate true e = taking-named k fate e
delivered-named k fate false e = refl

either-named : (x y : Fate) (b : Bool) → fate_named (if b then x else y) ≡ (if b then fate_named x else fate_named y)
either-named x y true = refl
either-named x y false = refl

after-named : (k : ℕ) (p : Path) (did : Event) (fate : Fate) → lives (fate_after k p did fate) ≡ false
    → fate_named (fate_after k p did fate) ≡ fate_by k p did (fate_named fate)
after-named k p (acted q n) fate e = refl
after-named k p (spawned q n) fate e = refl
after-named k p (delivered q n) fate e = delivered-named k fate (same_path q p) e
after-named k p (returned q n) fate e = either-named Returned fate (same_path q p)
after-named k p (ended q) fate e = either-named (Aborted k) fate (same_path q p)
after-named k p (trapped kind q n) fate e = refl
after-named k p moved fate e = refl

module _ (program : Labelled) (ns now : List Node) (events : List Event) (did : Event) (tree : IsTree now) (was : Fated program ns events)
    (step : Follows program (suc (length events)) ns now did) (living : LivingAreTold now (events ++ did ∷ [])) where
  abbrev later : List Event
  later = events ++ did ∷ []

  old-paths : map (path_at now) (range_with_len 0 (length ns)) ≡ made events
  old-paths = map-same (path_at now) (path_at ns) 0 (length ns) (λ i lt. (step.stays i (omega (arith, lt))).path) ∙ was.paths

  -- an instance that was made before
  old-fate : (i : ℕ) → i < length ns → is_live (node_at now i) ≡ false → fate_of later (path_at now i) ≡ Some (fate_named (node_at now i).fate)
  old-fate i lt dead =
      let p = path_at ns i in
      let stays = step.stays i lt in
      let had = has_fate events p (fate_named (node_at ns i).fate) (was.fates i lt) in
      let made_still : was_made later p ≡ true = made-push p events did ∙ or_left (was_made events p) (is_birth p did) had.made in
      let name : fate_named (node_at now i).fate ≡ fate_by (suc (length events)) p did (fate_named (node_at ns i).fate) =
      ap fate_named stays.fate ∙ after-named (suc (length events)) p did (node_at ns i).fate (sym (ap lives stays.fate) ∙ dead) in
      ap (fate_of later) stays.path
      ∙ fate-made later p made_still
      ∙ ap Some (told-push p events did ∙ ap (fate_by (suc (length events)) p did) had.is ∙ sym name)

  old-procedure : (i : ℕ) → i < length ns → procedure_of program later (path_at now i) ≡ Some (node_at now i).procedure
  old-procedure i lt =
      let stays = step.stays i lt in
      ap (procedure_of program later) stays.path
      ∙ procedure-kept program events did (path_at ns i) (node_at ns i).procedure (was.procedures i lt)
      ∙ ap Some (sym stays.procedure)

  fate-by : (i : ℕ) → (is_live (node_at now i) ≡ false → i < length ns) → (b : Bool) → is_live (node_at now i) ≡ b
      → fate_of later (path_at now i) ≡ Some (fate_named (node_at now i).fate)
  fate-by i old true live = living i live ∙ ap Some (sym (named-live (node_at now i).fate live))
  fate-by i old false dead = old-fate i (old dead) dead

  -- no instance is born
  none-born : length now ≡ length ns → born did ≡ [] → Fated program now later
  none-born count unborn = record {
    paths =
        ap (λ n. map (path_at now) (range_with_len 0 n)) count ∙ old-paths
        ∙ sym (made-more events did ∙ ap (λ ps. made events ++ ps) unborn ∙ end (made events));
    fates = λ i lt. fate-by i (λ dead. subst (λ n. i < n) count lt) (is_live (node_at now i)) refl;
    procedures = λ i lt. old-procedure i (subst (λ n. i < n) count lt);
  }
    where
      end : (ps : List Path) → ps ++ [] ≡ ps
      end [] = refl
      end (p ∷ ps) = ap (λ qs. p ∷ qs) (end ps)

  -- a child is
  one-born : (q : Path) (n : ℕ) → did ≡ spawned q n → IsBorn program ns now q n → Fated program now later
  one-born q n is child = record {
    paths =
        ap (λ k. map (path_at now) (range_with_len 0 k)) child.count
        ∙ ap (map (path_at now))
        (range_more 0 (length ns) ∙ ap (λ k. range_with_len 0 (length ns) ++ k ∷ []) (let z : 0 + length ns ≡ length ns = omega arith in z))
        ∙ map-append (path_at now) (range_with_len 0 (length ns)) (length ns ∷ [])
        ∙ (λ j. old-paths j ++ child.path j ∷ [])
        ∙ sym (made-more events did ∙ ap (λ e. made events ++ born e) is);
    fates = λ i lt. fate-by i (λ dead. earlier i (subst (λ k. i < k) child.count lt) (λ e. living-child i e dead)) (is_live (node_at now i)) refl;
    procedures = λ i lt. procedure-at i (subst (λ k. i < k) child.count lt);
  }
    where
      earlier : (i : ℕ) → i < suc (length ns) → (i ≡ length ns → ⊥) → i < length ns
      earlier i lt ne = elim (decide i (length ns)) [
        | inl e ↦ absurd (ne e)
        | inr other ↦ omega (arith, lt, other)
      ]

      living-child : (i : ℕ) → i ≡ length ns → is_live (node_at now i) ≡ false → ⊥
      living-child i e dead =
          let live : is_live (node_at now i) ≡ true = ap (λ k. is_live (node_at now k)) e ∙ ap lives child.fate in
          cc

      -- it was not made before
      unmade : (b : Bool) → was_made events q ≡ b → was_made events q ≡ false
      unmade false e = e
      unmade true e =
          let other = node-made program ns events was q e in
          let same : other.id ≡ length ns =
          names now tree other.id (length ns) (let w = other.within in let c = child.count in omega (arith, w, c)) (let c = child.count in omega (arith, c))
          ((step.stays other.id other.within).path ∙ other.is ∙ sym child.path) in
          absurd (let w = other.within in omega (arith, w, same))

      procedure-at : (i : ℕ) → i < suc (length ns) → procedure_of program later (path_at now i) ≡ Some (node_at now i).procedure
      procedure-at i lt = elim (decide i (length ns)) [
        | inl e ↦
            subst (λ k. procedure_of program later (path_at now k) ≡ Some (node_at now k).procedure) (sym e)
            (ap (procedure_of program later) child.path
            ∙ ap (λ d. procedure_of program (events ++ d ∷ []) q) is
            ∙ procedure-born program events q n (node_at now (length ns)).procedure (unmade (was_made events q) refl) child.procedure)
        | inr other ↦ old-procedure i (omega (arith, lt, other))
      ]

kept-by : (program : Labelled) (ns now : List Node) (events : List Event) (did : Event) → IsTree now → Fated program ns events
    → (step : Follows program (suc (length events)) ns now did) → LivingAreTold now (events ++ did ∷ []) → Births program ns now did
    → Fated program now (events ++ did ∷ [])
kept-by program ns now events (acted q n) tree was step living b = none-born program ns now events (acted q n) tree was step living b refl
kept-by program ns now events (spawned q n) tree was step living b = one-born program ns now events (spawned q n) tree was step living q n refl b
kept-by program ns now events (delivered q n) tree was step living b = none-born program ns now events (delivered q n) tree was step living b refl
kept-by program ns now events (returned q n) tree was step living b = none-born program ns now events (returned q n) tree was step living b refl
kept-by program ns now events (ended q) tree was step living b = none-born program ns now events (ended q) tree was step living b refl
kept-by program ns now events (trapped kind q n) tree was step living b = none-born program ns now events (trapped kind q n) tree was step living b refl
kept-by program ns now events moved tree was step living b = none-born program ns now events moved tree was step living b refl

pub fates-are-kept : FatesAreKept
fates-are-kept program ns now events did tree was step living = kept-by program ns now events did tree was step living step.births
