-- The paths that the events make, and the procedures that they tell.
use Rattle.std.proofs.Common.{◌≡◌, ◌<◌, ◌+◌, ℕ, zero, suc, Bool, true, false, ◌||◌, List, [], ◌∷◌, ◌++◌, length, Option, Some, None, refl, sym, ap}
use Rattle.std.proofs.Common.{◌∙◌, arith, if◌then◌else◌}
use Rattle.std.proofs.lemmas.Bool.{or_parts}
use Rattle.std.specs.Prelude.{flat_map, option_and_then}
use Rattle.std.specs.Option.{option_or}
use Rattle.std.specs.List.{list_any, range_with_len}
use Rattle.std.proofs.lemmas.List.Folds.{list_any-append}
use Rattle.std.proofs.Math.Bool.{or-false}
use Rattle.cilk_laws_model.specs.labelled.Labelled.{Labelled}
use Rattle.cilk_laws_model.specs.model.Path.{Path, same_path}
use Rattle.cilk_laws_model.specs.model.Event.{Event, acted, spawned, delivered, returned, ended, trapped, moved}
use Rattle.cilk_laws_model.specs.model.Fate.{is_birth, was_made}
use Rattle.cilk_laws_model.proofs.Entries.{same-is, same-self}
use Rattle.cilk_laws_model.specs.model.Made.{callee_of, spawn_by, spawn_of, procedure_of, born, made}
use Rattle.cilk_spawn.specs.Nodes.{Node, path_at}
use Rattle.cilk_spawn.proofs.Alive.{any_map}
use Rattle.cilk_machine_agree.specs.Fated.{Fated}

-- one event more
born-push : (events : List Event) (e : Event) → flat_map born (events ++ e ∷ []) ≡ flat_map born events ++ born e
born-push [] e = end (born e)
  where
    end : (ps : List Path) → ps ++ [] ≡ ps
    end [] = refl
    end (p ∷ ps) = ap (λ qs. p ∷ qs) (end ps)
born-push (x ∷ events) e = ap (λ ps. born x ++ ps) (born-push events e) ∙ sym (assoc (born x) (flat_map born events) (born e))
  where
    assoc : (xs ys zs : List Path) → (xs ++ ys) ++ zs ≡ xs ++ (ys ++ zs)
    assoc [] ys zs = refl
    assoc (y ∷ xs) ys zs = ap (λ qs. y ∷ qs) (assoc xs ys zs)

pub made-more : (events : List Event) (e : Event) → made (events ++ e ∷ []) ≡ made events ++ born e
made-more events e = ap (λ ps. [] ∷ ps) (born-push events e)

-- a path was made where it is among those that were
birth-any : (p : Path) (e : Event) → is_birth p e ≡ list_any (λ q. same_path q p) (born e)
birth-any p (acted q n) = refl
birth-any p (spawned q n) = sym (or-false (same_path q p))
birth-any p (delivered q n) = refl
birth-any p (returned q n) = refl
birth-any p (ended q) = refl
birth-any p (trapped kind q n) = refl
birth-any p moved = refl

births-any : (p : Path) (events : List Event) → list_any (is_birth p) events ≡ list_any (λ q. same_path q p) (flat_map born events)
births-any p [] = refl
births-any p (e ∷ events) =
    (λ j. birth-any p e j || births-any p events j) ∙ sym (list_any-append (λ q. same_path q p) (born e) (flat_map born events))

root-any : (p : Path) → same_path p [] ≡ same_path [] p
root-any [] = refl
root-any (k ∷ p) = refl

made-any : (p : Path) (events : List Event) → was_made events p ≡ list_any (λ q. same_path q p) (made events)
made-any p events = λ j. root-any p j || births-any p events j

-- whoever makes a test true among numbers
pub record One (holds : ℕ → Bool) (n : ℕ) : Type 0 where
  pub at : ℕ
  pub within : at < n
  pub is : holds at ≡ true

one-by : (holds : ℕ → Bool) (a n : ℕ) (b : Bool) → holds a ≡ b → (list_any holds (range_with_len (a + 1) n) ≡ true → One holds (a + 1 + n))
    → (b || list_any holds (range_with_len (a + 1) n)) ≡ true → One holds (a + suc n)
one-by holds a n true is rest h = record { at = a; within = omega arith; is = is }
one-by holds a n false is rest h =
    let it = rest h in
    let low = it.within in
    record { at = it.at; within = omega (arith, low); is = it.is }

any-one : (holds : ℕ → Bool) (a n : ℕ) → list_any holds (range_with_len a n) ≡ true → One holds (a + n)
any-one holds a zero e = cc
any-one holds a (suc n) e = one-by holds a n (holds a) refl (any-one holds (a + 1) n) e

-- the node of a path
pub record Node_of (ns : List Node) (p : Path) : Type 0 where
  pub id : ℕ
  pub within : id < length ns
  pub is : path_at ns id ≡ p

pub node-made : (program : Labelled) (ns : List Node) (events : List Event) → Fated program ns events → (p : Path) → was_made events p ≡ true → Node_of ns p
node-made program ns events h p e =
    let it = any-one (λ i. same_path (path_at ns i) p) 0 (length ns)
    (sym (any_map (λ q. same_path q p) (path_at ns) (range_with_len 0 (length ns))) ∙ ap (list_any (λ q. same_path q p)) h.paths
    ∙ sym (made-any p events) ∙ e) in
    let low = it.within in
    record { id = it.at; within = omega (arith, low); is = same-is (path_at ns it.at) p it.is }

pub option_or-none : (o : Option ℕ) → option_or o None ≡ o
option_or-none None = refl
option_or-none (Some n) = refl

pub option_or-assoc : (a b c : Option ℕ) → option_or a (option_or b c) ≡ option_or (option_or a b) c
option_or-assoc None b c = refl
option_or-assoc (Some n) b c = refl

-- the spawn that made a path
spawn-push : (events : List Event) (e : Event) (p : Path) → spawn_of (events ++ e ∷ []) p ≡ option_or (spawn_of events p) (spawn_by p e)
spawn-push [] e p = option_or-none (spawn_by p e)
spawn-push (x ∷ events) e p = ap (option_or (spawn_by p x)) (spawn-push events e p) ∙ option_or-assoc (spawn_by p x) (spawn_of events p) (spawn_by p e)

spawn-none-by : (x : Event) (p : Path) → is_birth p x ≡ false → spawn_by p x ≡ None
spawn-none-by (acted q n) p e = refl
spawn-none-by (spawned q n) p e = ap (λ b. if b then Some n else None) e
spawn-none-by (delivered q n) p e = refl
spawn-none-by (returned q n) p e = refl
spawn-none-by (ended q) p e = refl
spawn-none-by (trapped kind q n) p e = refl
spawn-none-by moved p e = refl

spawn-none : (events : List Event) (p : Path) → list_any (is_birth p) events ≡ false → spawn_of events p ≡ None
spawn-none [] p e = refl
spawn-none (x ∷ events) p e =
    let both = or_parts (is_birth p x) (list_any (is_birth p) events) e in
    ap (λ o. option_or o (spawn_of events p)) (spawn-none-by x p both.0) ∙ spawn-none events p both.1

-- what was told of a procedure stays told
pub procedure-kept : (program : Labelled) (events : List Event) (e : Event) (p : Path) (b : ℕ) → procedure_of program events p ≡ Some b
    → procedure_of program (events ++ e ∷ []) p ≡ Some b
procedure-kept program events e [] b h = h
procedure-kept program events e (k ∷ p) b h = ap (option_and_then (callee_of program)) (spawn-push events e (k ∷ p)) ∙ by (spawn_of events (k ∷ p)) h
  where
    by : (o : Option ℕ) → option_and_then (callee_of program) o ≡ Some b
        → option_and_then (callee_of program) (option_or o (spawn_by (k ∷ p) e)) ≡ Some b
    by None given = cc
    by (Some n) given = given

-- a new child is of the procedure that its spawn names
pub procedure-born : (program : Labelled) (events : List Event) (p : Path) (n b : ℕ) → was_made events p ≡ false → callee_of program n ≡ Some b
    → procedure_of program (events ++ spawned p n ∷ []) p ≡ Some b
procedure-born program events [] n b new h = cc
procedure-born program events (k ∷ p) n b new h =
    let before : spawn_of events (k ∷ p) ≡ None = spawn-none events (k ∷ p) (or_parts (same_path (k ∷ p) []) (list_any (is_birth (k ∷ p)) events) new).1 in
    ap (option_and_then (callee_of program))
    (spawn-push events (spawned (k ∷ p) n) (k ∷ p)
    ∙ ap (λ o. option_or o (spawn_by (k ∷ p) (spawned (k ∷ p) n))) before
    ∙ ap (λ x. if x then Some n else None) (same-self (k ∷ p)))
    ∙ h
