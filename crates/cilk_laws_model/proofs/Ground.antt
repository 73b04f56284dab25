-- What every row of the rule is proved with.
use Rattle.std.proofs.Common.{◌≡◌, ◌≢◌, ℕ, ℤ, Bool, true, false, not, ◌&&◌, List, [], ◌∷◌, Some, refl, ap, ◌∙◌}
use Rattle.std.specs.Prelude.{option_map}
use Rattle.std.proofs.lemmas.Bool.{and_parts, false_from_ne_true, not-true}
use Rattle.cilk_model.specs.syntax.declared.return_type.ReturnType.{ReturnType}
use Rattle.cilk_model.specs.scopes.declared.owner.Owner.{Owner}
use Rattle.cilk_model.specs.scopes.declared.owner.Owner.TheVariants.{Function, Procedure, Inlet}
use Rattle.cilk_model.specs.labelled.Labelled.{Labelled, Action}
use Rattle.cilk_model.specs.Values.{Cell}
use Rattle.cilk_model.specs.Path.{Path}
use Rattle.cilk_model.specs.Instance.{Activation, Instance, outer_values}
use Rattle.cilk_model.specs.State.{TrapKind, State, PathsAreApart, running, instance_at, changed, has_live_child, is_empty, is_synched}
use Rattle.cilk_model.specs.Event as event
use Rattle.cilk_model.specs.Event.{Event}
use Rattle.cilk_model.specs.Change.{is_function, gone_on, holds_lock, own_with, outer_with, on_lowest, put, with_put, stopped}
use Rattle.cilk_model.specs.Written.{Heads, Free}
use Rattle.cilk_model.specs.Fails.{Fails}
use Rattle.cilk_model.specs.WrittenRule as rule
use Rattle.cilk_model.specs.WrittenRule.{Flags, GoesOn, GoesBy, Puts, Acts, Steps}
use Rattle.cilk_model.specs.Pick as pick
use Rattle.cilk_model.specs.Pick.{Step, waits, parks, goes_on, ends, spawns}
use Rattle.cilk_laws_model.specs.Told.{told_by_action, told, AllowsAs}
use Rattle.cilk_laws_model.specs.Family.{ChildrenAreCounted}
use Rattle.cilk_laws_model.proofs.Entries.{at-changed_same, at-changed_other}
use Rattle.cilk_laws_model.proofs.Lookups.{apart}
use Rattle.cilk_laws_model.proofs.Cells.{writes_at, holding_at}
use Rattle.cilk_laws_model.proofs.LockForms.{holds_none}

-- i stands at p in a program that runs
pub record Stands (program : Labelled) (s : State) (p : Path) (i : Instance) : Type 0 where
  pub runs : s.outcome ≡ running
  pub apart : PathsAreApart s.instances
  pub live : instance_at s.instances p ≡ Some i
  pub family : ChildrenAreCounted s.instances

-- what is to be shown of a step
abbrev pub Ruled : Labelled → State → Path → Step → Type 0
Ruled program s p waits = Unit {0}
Ruled program s p parks = Unit {0}
Ruled program s p (goes_on t did) = AllowsAs program s p t did × (did ≢ event.moved)
Ruled program s p (ends t did) = AllowsAs program s p t did × (did ≢ event.moved)
Ruled program s p (spawns child t did) = AllowsAs program s p t did × (did ≢ event.moved)

-- the mark of a spawn
flag_cleared : (b : Bool) (below : List Activation) → below ≡ [] → (b && not (is_empty below)) ≡ false
flag_cleared true [] e = refl
flag_cleared false [] e = refl
flag_cleared b (a ∷ below) e = cc

flag_left : (b : Bool) (below : List Activation) → below ≢ [] → (b && not (is_empty below)) ≡ b
flag_left b [] h = absurd (h refl)
flag_left true (a ∷ below) h = refl
flag_left false (a ∷ below) h = refl

pub empty_is : {A : Type 0} (xs : List A) → is_empty xs ≡ true → xs ≡ []
empty_is [] h = refl
empty_is (x ∷ xs) h = cc

pub not_empty : {A : Type 0} (xs : List A) → xs ≢ [] → is_empty xs ≡ false
not_empty xs some = false_from_ne_true (is_empty xs) (λ h. some (empty_is xs h))

pub no_function : (owner : Owner) → ((r : ReturnType) → owner ≢ Function r) → is_function owner ≡ false
no_function (Function returns) h = absurd (h returns refl)
no_function (Procedure returns) h = refl
no_function Inlet h = refl

module _ (program : Labelled) (s : State) (p : Path) (i : Instance) (stands : Stands program s p i) where
  pub stepped : (t : State) (did : Event) (step : Steps program s p i t) → told program s p i t step ≡ did → AllowsAs program s p t did
  stepped t did step tells =
      record { allows = record { runs = stands.runs; apart = stands.apart; instance = i; live = stands.live; step = step }; tells = tells }

  pub acts_on : (n : ℕ) (act : Action) → Heads i n act → (t : State) → (acts : Acts program s p i t n act)
      → told_by_action program s p i t n act acts ≡ event.acted p n → Ruled program s p (goes_on t (event.acted p n))
  acts_on n act head t acts tells = (stepped t (event.acted p n) (rule.acts n act head acts) tells, λ h. cc)

  pub failed : (n : ℕ) (act : Action) → Heads i n act → (kind : TrapKind) → Fails program s p i act kind → Ruled program s p (pick.traps s p n kind)
  failed n act head kind fails =
      (stepped (stopped s p n kind) (event.trapped kind p n) (rule.acts n act head (rule.traps act kind fails refl)) refl, λ h. cc)

  pub at_p : (f : Instance → Instance) → instance_at (changed p f s.instances) p ≡ Some (f i)
  at_p f = at-changed_same p f s.instances ∙ ap (option_map f) stands.live

  pub at_other : (f : Instance → Instance) (q : Path) → q ≢ p → instance_at (changed p f s.instances) q ≡ instance_at s.instances q
  at_other f q other = at-changed_other p q f s.instances (apart p q other)

  pub flags : (t : State) → Flags program s p i t (i.spawned && not (is_empty i.below))
  flags t = record { cleared = flag_cleared i.spawned i.below; left = flag_left i.spawned i.below }

  pub going : (z : ℤ) (t : State) → t.instances ≡ changed p (λ _. gone_on z i) s.instances → GoesOn program s p i t z
  going z t is = record {
    flag = i.spawned && not (is_empty i.below);
    flags = flags t;
    at_p = ap (λ entries. instance_at entries p) is ∙ at_p (λ _. gone_on z i);
    elsewhere = λ q other. ap (λ entries. instance_at entries q) is ∙ at_other (λ _. gone_on z i) q other;
  }

  pub goes_by : (z : ℤ) → GoesBy program s p i (record s { instances = changed p (λ _. gone_on z i) s.instances }) z
  goes_by z = record { goes_on = going z _ refl; still = refl }

  pub puts : (j : Instance) (cell : Cell) (z : ℤ) → Puts program s p i (with_put s p j cell z) j cell z
  puts j cell z = record {
    own = own_with cell.place cell.index z j.top.values;
    procedure = outer_with cell.place cell.index z (outer_values j.below);
    below = on_lowest (outer_with cell.place cell.index z) j.below;
    holding = holding_at (outer_with cell.place cell.index z) j.below;
    writes = writes_at j.top.values j.below s.globals (is_synched s p j) cell.place cell.index z;
    at_p = at_p (λ _. put cell z j);
    elsewhere = at_other (λ _. put cell z j);
    still = refl;
  }

  pub free_of : holds_lock s p ≡ false → is_synched s p i ≡ true → Free s p i
  free_of unheld synched =
      let parts = and_parts (not (has_live_child s.instances p)) (is_empty i.waiting) synched in
      record { childless = not-true (has_live_child s.instances p) parts.0; delivered = empty_is i.waiting parts.1; lockless = holds_none s p unheld }
