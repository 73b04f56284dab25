-- Rows of the rule: a C function or a child starts.
use Rattle.std.proofs.Common.{◌≡◌, ℕ, ◌+◌, ◌≤◌, nat_lt, ◌⊎◌, inl, inr, ℤ, pos, Bool, true, false, ◌&&◌, List, [], length, Option, Some, None}
use Rattle.std.proofs.Common.{Result, Ok, Err, refl, sym, ap, ◌∙◌, if◌then◌else◌, arith}
use Rattle.std.proofs.lemmas.Bool.{and_parts, cond-true, cond-false, false_from_ne_true, ltb-true, ltb-false}
use Rattle.std.proofs.lemmas.Option.{same_Some}
use Rattle.cilk_model.specs.declared.trap.Trap.{Trap}
use Rattle.cilk_model.specs.labelled.Term.{Term}
use Rattle.cilk_model.specs.labelled.Value.{Environment, values_of, ◌>>=◌}
use Rattle.cilk_model.specs.labelled.Labelled.{Labelled, Declaration, Into, Taker, nothing, into, through, call, spawn}
use Rattle.cilk_model.specs.Values.{Reached, reached_at, reached_if}
use Rattle.cilk_model.specs.Effect.{enters, starts, start_of, effect_of}
use Rattle.cilk_model.specs.Path.{Path, same_path, child_path}
use Rattle.cilk_model.specs.Instance as instance
use Rattle.cilk_model.specs.Instance.{Receiver, place, Instance, entered, started}
use Rattle.cilk_model.specs.State.{Entry, of_value, depth, instances, State, instance_at, is_live, changed}
use Rattle.cilk_model.specs.Event as event
use Rattle.cilk_model.specs.Change.{gone_on, above, after_call, after_start}
use Rattle.cilk_model.specs.Written as written
use Rattle.cilk_model.specs.Written.{HoldsNone, Heads, Receives, taker_place, others_of}
use Rattle.cilk_model.specs.Fails as fails
use Rattle.cilk_model.specs.Fails.{here}
use Rattle.cilk_model.specs.WrittenRule as rule
use Rattle.cilk_model.specs.WrittenRule.{Enters, Births}
use Rattle.cilk_model.specs.Pick.{goes_on, spawns, if_room, step_by_effect}
use Rattle.cilk_laws_model.proofs.Entries.{same-self, live-changed, either_of, at-push}
use Rattle.cilk_laws_model.proofs.Lookups.{apart, none_of_live}
use Rattle.cilk_laws_model.proofs.Ground.{Stands, Ruled, stepped, acts_on, failed, at_p, at_other, flags}

-- whether there is room
few_or_not : (m n : ℕ) (a b : Bool) → nat_lt m 65536 ≡ a → nat_lt n 4294967295 ≡ b → (a && b) ≡ false → (65536 ≤ m) ⊎ (4294967295 ≤ n)
few_or_not m n false b e f h = inl (ltb-false m 65536 e)
few_or_not m n true false e f h = inr (ltb-false n 4294967295 f)
few_or_not m n true true e f h = cc

either_none : (o : Option Instance) → either_of o None ≡ o
either_none None = refl
either_none (Some x) = refl

module _ (program : Labelled) (s : State) (p : Path) (i : Instance) (stands : Stands program s p i) (n : ℕ) where
  abbrev env : Environment Declaration
  env = here program s p i

  -- a C function
  module _ (what : Option Into) (callee : ℕ) (es : List (Term Declaration)) (head : Heads i n (call what callee es)) where
    enters_row : (zs : List ℤ) (awaits : Option Reached) → nat_lt (length i.below) 255 ≡ true
        → Enters program s p i (after_call program s p i awaits callee zs) callee zs awaits
    enters_row zs awaits room = record {
      room = ltb-true (length i.below) 255 room;
      flag = _;
      flags = flags program s p i stands _;
      at_p = at_p program s p i stands (λ _. above (entered program callee zs awaits) (gone_on (pos 1) i));
      elsewhere = at_other program s p i stands (λ _. above (entered program callee zs awaits) (gone_on (pos 1) i));
      still = refl;
    }

    depth_by : (awaits : Option Reached) → reached_if env what ≡ Ok awaits → (zs : List ℤ) → values_of env es ≡ Ok zs
        → (b : Bool) → nat_lt (length i.below) 255 ≡ b
        → Ruled program s p (if_room s p n depth b (goes_on (after_call program s p i awaits callee zs) (event.acted p n)))
    depth_by awaits is zs are true room =
        acts_on program s p i stands n (call what callee es) head (after_call program s p i awaits callee zs)
        (rule.calls what callee es awaits zs is are (enters_row zs awaits room)) refl
    depth_by awaits is zs are false none =
        failed program s p i stands n (call what callee es) head depth (fails.too_deep what callee es awaits zs is are (ltb-false (length i.below) 255 none))

    arguments_by : (awaits : Option Reached) → reached_if env what ≡ Ok awaits → (r : Result (List ℤ) Trap) → values_of env es ≡ r
        → Ruled program s p (step_by_effect program s p i n (r >>= λ zs. Ok (enters awaits callee zs)))
    arguments_by awaits is (Err trap) are =
        failed program s p i stands n (call what callee es) head (of_value trap)
        (fails.has_no_value (call what callee es) trap (fails.of_call_argument what callee es awaits is are))
    arguments_by awaits is (Ok zs) are = depth_by awaits is zs are (nat_lt (length i.below) 255) refl

    place_by : (r : Result (Option Reached) Trap) → reached_if env what ≡ r
        → Ruled program s p (step_by_effect program s p i n (r >>= λ awaits. values_of env es >>= λ zs. Ok (enters awaits callee zs)))
    place_by (Err trap) is =
        failed program s p i stands n (call what callee es) head (of_value trap)
        (fails.has_no_value (call what callee es) trap (fails.of_call_place what callee es is))
    place_by (Ok awaits) is = arguments_by awaits is (values_of env es) refl

    pub call_rule : Ruled program s p (step_by_effect program s p i n (effect_of env n (call what callee es)))
    call_rule = place_by (reached_if env what) refl

  -- a child
  abbrev parent : Instance
  parent = record (gone_on (pos 1) i) { spawned = true; children = i.children + 1 }

  abbrev child : ℕ → List ℤ → Option Receiver → Instance
  child callee zs receiver = record (started program callee zs) { aborted = i.aborted; receiver = receiver }

  -- it was not there before
  fresh : is_live s.instances (child_path p (i.children + 1)) ≡ false
  fresh = false_from_ne_true (is_live s.instances (child_path p (i.children + 1))) (λ live.
      let counted = stands.family p (i.children + 1) live in
      let is : i ≡ counted.parent = same_Some i counted.parent (sym stands.live ∙ counted.lives) in
      let as_many : i.children ≡ counted.parent.children = ap (λ (x : Instance). x.children) is in
      let within = counted.within in
      omega arith)

  births : (callee : ℕ) (zs : List ℤ) (receiver : Option Receiver) → (nat_lt (length s.instances) 65536 && nat_lt i.children 4294967295) ≡ true
      → Births program s p i (after_start program s p i receiver callee zs) callee zs receiver
  births callee zs receiver room =
      let parents = changed p (λ _. parent) s.instances in
      let c = child_path p (i.children + 1) in
      let born : Entry = record { path = c; instance = child callee zs receiver } in
      let parts = and_parts (nat_lt (length s.instances) 65536) (nat_lt i.children 4294967295) room in
      let before : instance_at parents c ≡ None =
      none_of_live (instance_at parents c) (live-changed p (λ _. parent) s.instances c ∙ fresh) in
      record {
        few = ltb-true (length s.instances) 65536 parts.0;
        few_children = ltb-true i.children 4294967295 parts.1;
        at_p = at-push parents born p ∙ ap (λ o. either_of o (if same_path c p then Some born.instance else None)) (at_p program s p i stands (λ _. parent));
        at_child = at-push parents born c ∙ ap (λ o. either_of o (if same_path c c then Some born.instance else None)) before
            ∙ cond-true (same_path c c) (Some born.instance) None (same-self c);
        elsewhere = λ q other others.
            at-push parents born q
            ∙ ap (either_of (instance_at parents q)) (cond-false (same_path c q) (Some born.instance) None (apart q c (λ e. others (sym e))))
            ∙ either_none (instance_at parents q) ∙ at_other program s p i stands (λ _. parent) q other;
        still = refl;
      }

  module _ (taker : Taker) (callee : ℕ) (es : List (Term Declaration)) (head : Heads i n (spawn taker callee es)) (unheld : HoldsNone s p) where
    room_by : (reached : Option Reached) (zs ys : List ℤ) (receiver : Option Receiver) → reached_if env (taker_place taker) ≡ Ok reached
        → values_of env es ≡ Ok zs → values_of env (others_of taker) ≡ Ok ys → Receives n taker reached ys receiver
        → (b : Bool) → (nat_lt (length s.instances) 65536 && nat_lt i.children 4294967295) ≡ b
        → Ruled program s p (if_room s p n instances b
        (spawns (child_path p (i.children + 1)) (after_start program s p i receiver callee zs) (event.spawned (child_path p (i.children + 1)) n)))
    room_by reached zs ys receiver is are others receives true room = (
      stepped program s p i stands (after_start program s p i receiver callee zs) (event.spawned (child_path p (i.children + 1)) n)
          (rule.acts n (spawn taker callee es) head (rule.spawns taker callee es reached zs ys receiver unheld is are others receives
          (births callee zs receiver room))) refl,
      λ h. cc,
    )
    room_by reached zs ys receiver is are others receives false none =
        failed program s p i stands n (spawn taker callee es) head instances
        (fails.too_many taker callee es reached zs ys unheld is are others (few_or_not (length s.instances) i.children _ _ refl refl none))

    started_rule : (reached : Option Reached) (zs ys : List ℤ) (receiver : Option Receiver) → reached_if env (taker_place taker) ≡ Ok reached
        → values_of env es ≡ Ok zs → values_of env (others_of taker) ≡ Ok ys → Receives n taker reached ys receiver
        → Ruled program s p (step_by_effect program s p i n (Ok (starts receiver callee zs)))
    started_rule reached zs ys receiver is are others receives =
        room_by reached zs ys receiver is are others receives (nat_lt (length s.instances) 65536 && nat_lt i.children 4294967295) refl

    no_place : (trap : Trap) → reached_if env (taker_place taker) ≡ Err trap → Ruled program s p (step_by_effect program s p i n (Err trap))
    no_place trap is =
        failed program s p i stands n (spawn taker callee es) head (of_value trap)
        (fails.has_no_value (spawn taker callee es) trap (fails.of_spawn_place taker callee es unheld is))

    no_argument : (reached : Option Reached) (trap : Trap) → reached_if env (taker_place taker) ≡ Ok reached → values_of env es ≡ Err trap
        → Ruled program s p (step_by_effect program s p i n (Err trap))
    no_argument reached trap is are =
        failed program s p i stands n (spawn taker callee es) head (of_value trap)
        (fails.has_no_value (spawn taker callee es) trap (fails.of_spawn_argument taker callee es reached unheld is are))

    no_other : (reached : Option Reached) (zs : List ℤ) (trap : Trap) → reached_if env (taker_place taker) ≡ Ok reached → values_of env es ≡ Ok zs
        → values_of env (others_of taker) ≡ Err trap → Ruled program s p (step_by_effect program s p i n (Err trap))
    no_other reached zs trap is are others =
        failed program s p i stands n (spawn taker callee es) head (of_value trap)
        (fails.has_no_value (spawn taker callee es) trap (fails.of_inlet_argument taker callee es reached zs unheld is are others))

  module _ (callee : ℕ) (es : List (Term Declaration)) (unheld : HoldsNone s p) where
    nothing_by : Heads i n (spawn nothing callee es) → (r : Result (List ℤ) Trap) → values_of env es ≡ r
        → Ruled program s p (step_by_effect program s p i n (r >>= λ zs. Ok (starts None callee zs)))
    nothing_by head (Err trap) are = no_argument nothing callee es head unheld None trap refl are
    nothing_by head (Ok zs) are = started_rule nothing callee es head unheld None zs [] None refl are refl written.by_nothing

    into_values : (what : Into) → Heads i n (spawn (into what) callee es) → (reached : Reached) → reached_if env (Some what) ≡ Ok (Some reached)
        → (r : Result (List ℤ) Trap) → values_of env es ≡ r
        → Ruled program s p (step_by_effect program s p i n (r >>= λ zs. Ok (starts (Some (place reached n)) callee zs)))
    into_values what head reached is (Err trap) are = no_argument (into what) callee es head unheld (Some reached) trap is are
    into_values what head reached is (Ok zs) are =
        started_rule (into what) callee es head unheld (Some reached) zs [] (Some (place reached n)) is are refl (written.by_place what reached)

    into_by : (what : Into) → Heads i n (spawn (into what) callee es) → (r : Result Reached Trap) → reached_at env what ≡ r
        → Ruled program s p (step_by_effect program s p i n (r >>= λ reached. values_of env es >>= λ zs. Ok (starts (Some (place reached n)) callee zs)))
    into_by what head (Err trap) is =
        no_place (into what) callee es head unheld trap (ap (λ (r : Result Reached Trap). r >>= λ x. Ok (Some x)) is)
    into_by what head (Ok reached) is =
        into_values what head reached (ap (λ (r : Result Reached Trap). r >>= λ x. Ok (Some x)) is) (values_of env es) refl

    module _ (inlet : ℕ) (others : List (Term Declaration)) (head : Heads i n (spawn (through inlet others) callee es)) where
      others_by : (zs : List ℤ) → values_of env es ≡ Ok zs → (r : Result (List ℤ) Trap) → values_of env others ≡ r
          → Ruled program s p (step_by_effect program s p i n (r >>= λ ys. Ok (starts (Some (instance.through inlet ys n)) callee zs)))
      others_by zs are (Err trap) is = no_other (through inlet others) callee es head unheld None zs trap refl are is
      others_by zs are (Ok ys) is =
          started_rule (through inlet others) callee es head unheld None zs ys (Some (instance.through inlet ys n)) refl are is
          (written.by_inlet inlet others ys)

      through_by : (r : Result (List ℤ) Trap) → values_of env es ≡ r
          → Ruled program s p (step_by_effect program s p i n
          (r >>= λ zs. values_of env others >>= λ ys. Ok (starts (Some (instance.through inlet ys n)) callee zs)))
      through_by (Err trap) are = no_argument (through inlet others) callee es head unheld None trap refl are
      through_by (Ok zs) are = others_by zs are (values_of env others) refl

    pub spawn_rule : (taker : Taker) → Heads i n (spawn taker callee es) → Ruled program s p (step_by_effect program s p i n (start_of env n taker callee es))
    spawn_rule nothing head = nothing_by head (values_of env es) refl
    spawn_rule (into what) head = into_by what head (reached_at env what) refl
    spawn_rule (through inlet others) head = through_by inlet others head (values_of env es) refl
