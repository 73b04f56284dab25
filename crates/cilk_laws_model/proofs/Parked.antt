-- Each instance that is parked has a live child.
use Rattle.std.proofs.Common.{◌≡◌, ℕ, Bool, true, false, not, ◌&&◌, ◌||◌, [], ◌∷◌, Option, Some, None, refl, sym, ap, ◌∙◌, if◌then◌else◌}
use Rattle.std.proofs.lemmas.Bool.{or_right, and_parts}
use Rattle.std.proofs.Math.Bool.{or-true}
use Rattle.cilk_model.specs.labelled.Labelled.{Labelled}
use Rattle.cilk_model.specs.Path.{Path, same_path, parent_of, is_that, is_child}
use Rattle.cilk_model.specs.State.{Entry, Instances, State, instance_at, is_live, has_live_child}
use Rattle.cilk_model.specs.Pick.{Step, waits, parks, goes_on, ends, spawns, step_of}
use Rattle.cilk_model.specs.Scheduler.{Scheduler, hand_of, with_hand, can_take, can_go_on, woken, with_empty_hand}
use Rattle.cilk_model.specs.Choice.{Act, step, pop, steal}
use Rattle.cilk_model.specs.Run.{Standing, stepped, next_by_hand, next_by, opening}
use Rattle.cilk_laws_model.proofs.Entries.{same-is, same-self, live-cons}
use Rattle.cilk_laws_model.proofs.Live.{Alike, Fewer, More, Lives, step_lives, Waited, step_waited}
use Rattle.cilk_laws_model.proofs.Family.{child_seen}

-- a child of p that lives
pub record LiveChild (entries : Instances) (p : Path) : Type 0 where
  pub child : Path
  pub is : is_child p child ≡ true
  pub live : is_live entries child ≡ true

pub in_front : (e : Entry) (entries : Instances) → is_live (e ∷ entries) e.path ≡ true
in_front e entries = live-cons e entries e.path ∙ ap (λ b. b || is_live entries e.path) (same-self e.path)

pub behind : (e : Entry) (entries : Instances) (q : Path) → is_live entries q ≡ true → is_live (e ∷ entries) q ≡ true
behind e entries q h = live-cons e entries q ∙ ap (λ b. same_path e.path q || b) h ∙ or-true (same_path e.path q)

child_by : (p : Path) (e : Entry) (entries : Instances) (b : Bool) → is_child p e.path ≡ b → (b || has_live_child entries p) ≡ true
    → (has_live_child entries p ≡ true → LiveChild entries p) → LiveChild (e ∷ entries) p
child_by p e entries true is h rest = record { child = e.path; is = is; live = in_front e entries }
child_by p e entries false is h rest =
    let c = rest h in
    record { child = c.child; is = c.is; live = behind e entries c.child c.live }

pub live_child : (p : Path) (entries : Instances) → has_live_child entries p ≡ true → LiveChild entries p
live_child p [] h = cc
live_child p (e ∷ entries) h = child_by p e entries (is_child p e.path) refl h (live_child p entries)

-- where the children of p stay
still_there : (p : Path) (entries after : Instances) → ((c : Path) → is_child p c ≡ true → is_live entries c ≡ true → is_live after c ≡ true)
    → has_live_child entries p ≡ true → has_live_child after p ≡ true
still_there p entries after stay h =
    let c = live_child p entries h in child_seen p c.child after c.is (stay c.child c.is c.live)

alike_there : (p : Path) (entries after : Instances) → Alike entries after → has_live_child entries p ≡ true → has_live_child after p ≡ true
alike_there p entries after alike = still_there p entries after (λ c is live. alike.live c ∙ live)

more_there : (p r c : Path) (entries after : Instances) → More r c entries after → has_live_child entries p ≡ true → has_live_child after p ≡ true
more_there p r c entries after more = still_there p entries after (λ d is live. more.live d ∙ or_right (same_path c d) (is_live entries d) live)

differs_by : (p c r : Path) (b : Bool) → same_path c r ≡ b → is_child p c ≡ true → is_child p r ≡ false → b ≡ false
differs_by p c r true same is other =
    let both : true ≡ false = sym is ∙ ap (is_child p) (same-is c r same) ∙ other in cc
differs_by p c r false same is other = refl

not_and : (a b : Bool) → a ≡ false → b ≡ true → (not a && b) ≡ true
not_and true b e h = cc
not_and false b e h = h

fewer_there : (p r : Path) (entries after : Instances) → Fewer r entries after → is_child p r ≡ false → has_live_child entries p ≡ true
    → has_live_child after p ≡ true
fewer_there p r entries after fewer other =
    still_there p entries after (λ c is live. fewer.live c ∙ not_and (same_path c r) (is_live entries c) (differs_by p c r (same_path c r) refl is other) live)

-- each instance that is parked has a live child
abbrev pub HaveChildren : Standing → Type 0
HaveChildren at = (p : Path) → at.scheduler.parked p ≡ true → has_live_child at.state.instances p ≡ true

parks_have : (s : State) (sched : Scheduler) (p q : Path) (b : Bool) → same_path q p ≡ b → has_live_child s.instances p ≡ true
    → (sched.parked q ≡ true → has_live_child s.instances q ≡ true)
    → (b || sched.parked q) ≡ true → has_live_child s.instances q ≡ true
parks_have s sched p q true same one kept h = ap (has_live_child s.instances) (same-is q p same) ∙ one
parks_have s sched p q false same one kept h = kept h

stuck_parent : (entries : Instances) (q : Path) → can_go_on entries q ≡ false → has_live_child entries q ≡ true
stuck_parent entries q h = by (has_live_child entries q) (can_take (instance_at entries q)) h
  where
    by : (a b : Bool) → (not a || b) ≡ false → a ≡ true
    by true b h = refl
    by false b h = cc

-- where the parent q of an instance that ended is parked, it comes to the hand if it can go on
woken_by : (entries : Instances) (sched : Scheduler) (w : ℕ) (q : Path) (a b : Bool) → sched.parked q ≡ a → can_go_on entries q ≡ b
    → ((r : Path) → same_path r q ≡ false → sched.parked r ≡ true → has_live_child entries r ≡ true) → (r : Path) (c : Bool) → same_path r q ≡ c
    →
    (if a && b then record { places = with_hand sched.places w (Some q); parked = λ x. not (same_path x q) && sched.parked x } else
    sched).parked r ≡ true → has_live_child entries r ≡ true
woken_by entries sched w q true true e f others r true same h =
    let both : false ≡ true = sym (ap (λ x. not x && sched.parked r) same) ∙ h in cc
woken_by entries sched w q true true e f others r false same h =
    others r same (and_parts (not (same_path r q)) (sched.parked r) h).1
woken_by entries sched w q true false e f others r true same h =
    ap (has_live_child entries) (same-is r q same) ∙ stuck_parent entries q f
woken_by entries sched w q true false e f others r false same h = others r same h
woken_by entries sched w q false b e f others r true same h =
    let both : true ≡ false = sym h ∙ ap sched.parked (same-is r q same) ∙ e in cc
woken_by entries sched w q false b e f others r false same h = others r same h

ended_have : (at : Standing) (t : State) (w : ℕ) (p : Path) → HaveChildren at → Fewer p at.state.instances t.instances → (o : Option Path) → parent_of p ≡ o
    → HaveChildren (record { state = t; scheduler = woken t.instances (with_empty_hand at.scheduler w) w o })
ended_have at t w p kept fewer None e r h =
    fewer_there r p at.state.instances t.instances fewer (ap (is_that r) e) (kept r h)
ended_have at t w p kept fewer (Some q) e r h =
    woken_by t.instances (with_empty_hand at.scheduler w) w q (at.scheduler.parked q) (can_go_on t.instances q) refl refl
    (λ x other parked. fewer_there x p at.state.instances t.instances fewer (ap (is_that x) e ∙ other) (kept x parked)) r (same_path r q) refl h

step_have : (at : Standing) (w : ℕ) (p : Path) (taken : Step) → HaveChildren at → Lives at.state p taken → Waited at.state p taken
    → HaveChildren (stepped at w p taken)
step_have at w p waits kept lives waited = kept
step_have at w p parks kept lives waited = λ q.
    parks_have at.state at.scheduler p q (same_path q p) refl waited (kept q)
step_have at w p (goes_on t did) kept lives waited = λ q h. alike_there q at.state.instances t.instances lives (kept q h)
step_have at w p (ends t did) kept lives waited = ended_have at t w p kept lives (parent_of p) refl
step_have at w p (spawns c t did) kept lives waited = λ q h. more_there q p c at.state.instances t.instances lives (kept q h)

hand_have : (program : Labelled) (at : Standing) (w : ℕ) (o : Option Path) → HaveChildren at → HaveChildren (next_by_hand program at w o)
hand_have program at w None kept = kept
hand_have program at w (Some p) kept =
    step_have at w p (step_of program at.state p) kept (step_lives program at.state p) (step_waited program at.state p)

pub act_have : (program : Labelled) (at : Standing) (w : ℕ) (act : Act) → HaveChildren at → HaveChildren (next_by program at w act)
act_have program at w step kept = hand_have program at w (hand_of at.scheduler.places w) kept
act_have program at w pop kept = kept
act_have program at w (steal v) kept = kept

pub none_parked : (program : Labelled) (main n : ℕ) → HaveChildren (opening program main n)
none_parked program main n = λ p h. cc
