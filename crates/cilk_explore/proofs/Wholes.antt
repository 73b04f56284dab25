-- What a search that has ended tells of a program; clauses up to a number, and of answers.
use Rattle.std.proofs.Common.{◌≡◌, ◌≤◌, ◌+◌, ◌-◌, inl, inr, ℕ, Bool, true, false, List, length, map, Result, Ok, Err, refl, sym, subst, arith, below_more}
use Rattle.std.specs.Prelude.{Option, Some, None, OnOk, IfSome, IfNone, option_map}
use Rattle.cilk_machine.specs.syntax.Tree.{Program}
use Rattle.cilk_machine.specs.labelled.Bodies.{label}
use Rattle.cilk_machine.specs.model.Choice.{Choice}
use Rattle.cilk_explore.specs.explore.Search.{Told, Once, Sound, First, Whole}
use Rattle.cilk_explore.specs.explore.Laws.{TellsRightly}
use Rattle.cilk_explore.specs.LogLooking.{search_of}
use Rattle.cilk_explore.proofs.explore_laws.Searches.{searches_tell_rightly}
use Rattle.cilk_explore.proofs.explore_laws.OrMore.{more_do_no_more}
use Rattle.cilk_explore.specs.declared.explorer.Explorer.{Explorer}
use Rattle.cilk_explore.specs.Telling.{told_by}
use Rattle.cilk_explore.specs.Exploring.{program_of, workers_of, IsBetween, IsOf, NeverEnds, EachCanEnd}

-- an answer that is there keeps what follows
pub on-ok : {A E : Type 0} {P Q : Type 0} (r : Result A E) → (P → Q) → OnOk r P → OnOk r Q
on-ok (Ok x) f h = f h
on-ok (Err e) f h = tt

pub on-both : {A E : Type 0} {P Q R : Type 0} (r : Result A E) → (P → Q → R) → OnOk r P → OnOk r Q → OnOk r R
on-both (Ok x) f h i = f h i
on-both (Err e) f h i = tt

pub on-is : {A E : Type 0} {P : Type 0} (r : Result A E) (x : A) → r ≡ Ok x → OnOk r P → P
on-is {P = P} r x is h = subst (λ s. OnOk s P) is h

-- an answer that is there is one of two
pub on-bool : {E P : Type 0} (r : Result Bool E) → (r ≡ Ok true → P) → (r ≡ Ok false → P) → OnOk r P
on-bool (Ok true) f g = f refl
on-bool (Ok false) f g = g refl
on-bool (Err e) f g = tt

pub on-some : {A : Type 0} (P : A → Type 0) (o : Option A) (x : A) → o ≡ Some x → IfSome o P → P x
on-some P o x is h = subst (λ s. IfSome s P) is h

-- what holds of an answer's value holds of what is made of it
mapped : {A B : Type 0} (f : A → B) (P : B → Type 0) (t o : Option A) → t ≡ o → IfSome o (λ x. P (f x)) → IfSome (option_map f t) P
mapped f P t None same h = subst (λ s. IfSome (option_map f s) P) (sym same) tt
mapped f P t (Some x) same h = subst (λ s. IfSome (option_map f s) P) (sym same) h

pub on-none : {A : Type 0} {P : Type 0} (o : Option A) → o ≡ None → IfNone o P → P
on-none {P = P} o is h = subst (λ s. IfNone s P) is h

-- from 1 on, up to one more
pub up-to : (P : ℕ → Type 0) (k : ℕ) → ((v : ℕ) → 1 ≤ v → v ≤ k → P v) → P (k + 1) → (v : ℕ) → 1 ≤ v → v ≤ k + 1 → P v
up-to P k before last v low high =
    let same : (v - 1) + 1 ≡ v = omega (arith, low) in
    subst P same
    (below_more (λ (j : ℕ). P (j + 1)) k (λ j lt. before (j + 1) (omega arith) (omega (arith, lt))) last (v - 1) (omega (arith, low, high)))

-- and what it implies
if-so : {A : Type 0} (P Q : A → Type 0) (o : Option A) → ((x : A) → P x → Q x) → IfSome o P → IfSome o Q
if-so P Q None f h = tt
if-so P Q (Some x) f h = f x h

-- of each number of workers of which it is so what was found
module _ (e : Explorer) (looked : ℕ) (between : IsBetween e looked) (n : ℕ) (of : IsOf e n) where
  rightly : TellsRightly (program_of e) n (search_of e.store looked) (map told_by e.told.items)
  rightly =
      let search = search_of e.store looked in
      let told = map told_by e.told.items in
      elim of [
        | inl same ↦
            subst (λ (m : ℕ). TellsRightly (program_of e) m search told) (sym same)
            (searches_tell_rightly (program_of e) (workers_of e) search told between.looking.search between.looking.tells)
        | inr more ↦
            more_do_no_more (program_of e) (workers_of e) n search told more.least more.most between.looking.search (between.idle more.idle)
            between.looking.tells
      ]

  module _ (program : Program) (now : List Told) (is : e.walker.program ≡ program) (told : map told_by e.told.items ≡ now) where
    pub sound-of : Sound (label program) n now
    sound-of =
        subst (Sound (label program) n) told (subst (λ (p : Program). Sound (label p) n (map told_by e.told.items)) is rightly.sound)

    pub first-of : First (label program) n now
    first-of =
        subst (First (label program) n) told (subst (λ (p : Program). First (label p) n (map told_by e.told.items)) is rightly.first)

    pub whole-of : length e.store ≤ looked → Whole (label program) n now
    whole-of all =
        subst (Whole (label program) n) told (subst (λ (p : Program). Whole (label p) n (map told_by e.told.items)) is (rightly.whole all))

-- so of what is said of the end for each of them
module _ (e : Explorer) (n : ℕ) (of : IsOf e n) (program : Program) (is : e.walker.program ≡ program) where
  pub endless-of : {A : Type 0} (f : A → List Choice) (t o : Option A) → t ≡ o
      → IfSome o (λ x. (m : ℕ) → IsOf e m → NeverEnds (program_of e) m (f x)) → IfSome (option_map f t) (NeverEnds (label program) n)
  endless-of {A = A} f t o same never =
      mapped f (NeverEnds (label program) n) t o same
      (if-so (λ (x : A). (m : ℕ) → IsOf e m → NeverEnds (program_of e) m (f x)) (λ (x : A). NeverEnds (label program) n (f x)) o
      (λ x h. subst (λ (p : Program). NeverEnds (label p) n (f x)) is (h n of)) never)

  pub ending-of : ((m : ℕ) → IsOf e m → EachCanEnd (program_of e) m) → EachCanEnd (label program) n
  ending-of can = subst (λ (p : Program). EachCanEnd (label p) n) is (can n of)

pub once-of : (e : Explorer) (looked : ℕ) → IsBetween e looked → (now : List Told) → map told_by e.told.items ≡ now → Once now
once-of e looked between now told = subst Once told between.looking.tells.once
