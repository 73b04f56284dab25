-- One event more: the `sync`s that a path passed, its children, and the blocks of paths.
use Rattle.std.proofs.Common.{◌≡◌, ◌+◌, ℕ, Bool, true, false, ◌||◌, List, [], ◌∷◌, ◌++◌, cond, refl, sym, ap, ◌∙◌, if◌then◌else◌}
use Rattle.std.proofs.lemmas.List.{append-nil, append_assoc}
use Rattle.std.proofs.lemmas.List.Sums.{sum_by_push}
use Rattle.std.proofs.Math.Bool.{or-false, or_assoc}
use Rattle.cilk_log_replay.specs.machine.model.labelled.Labelled.{Labelled}
use Rattle.cilk_log_replay.specs.machine.model.Event.{Event, acted, spawned, delivered, returned, ended, trapped, moved}
use Rattle.cilk_log_replay.specs.machine.model.Path.{Path, same_path}
use Rattle.cilk_races.specs.Inside.{parent_path}
use Rattle.cilk_races.specs.Kept.{is_birth, is_born}
use Rattle.cilk_races.specs.Order.{passes, syncs_of, bears, children_of, block_from, block_of}

pub syncs-more : (program : Labelled) (events : List Event) (e : Event) (p : Path)
    → syncs_of program (events ++ e ∷ []) p ≡ syncs_of program events p + cond (passes program p e) 1 0
syncs-more program events e p = sum_by_push (λ (x : Event). cond (passes program p x) 1 0) events e

pub children-more : (events : List Event) (e : Event) (p : Path) → children_of (events ++ e ∷ []) p ≡ children_of events p + cond (bears p e) 1 0
children-more events e p = sum_by_push (λ (x : Event). cond (bears p x) 1 0) events e

pub born-more : (events : List Event) (e : Event) (c : Path) → is_born (events ++ e ∷ []) c ≡ (is_born events c || is_birth c e)
born-more [] e c = or-false (is_birth c e)
born-more (x ∷ events) e c = ap (λ b. is_birth c x || b) (born-more events e c) ∙ sym (or_assoc (is_birth c x) (is_born events c) (is_birth c e))

module _ (program : Labelled) (c : Path) where
  -- a path that was born has its block
  old-by : (before events : List Event) (e : Event) (d : Path) (n : ℕ) (same : Bool)
      → (is_born events c ≡ true
      → block_from program (before ++ spawned d n ∷ []) (events ++ e ∷ []) c ≡ block_from program (before ++ spawned d n ∷ []) events c)
      → (same || is_born events c) ≡ true
      → (if same then syncs_of program before (parent_path c) else block_from program (before ++ spawned d n ∷ []) (events ++ e ∷ []) c)
      ≡ (if same then syncs_of program before (parent_path c) else block_from program (before ++ spawned d n ∷ []) events c)
  old-by before events e d n true behind k = refl
  old-by before events e d n false behind k = behind k

  old-from : (before events : List Event) (e : Event) → is_born events c ≡ true
      → block_from program before (events ++ e ∷ []) c ≡ block_from program before events c
  old-from before [] e h = cc
  old-from before (spawned d n ∷ events) e h =
      old-by before events e d n (same_path d c) (λ k. old-from (before ++ spawned d n ∷ []) events e k) h
  old-from before (acted q n ∷ events) e h = old-from (before ++ acted q n ∷ []) events e h
  old-from before (delivered d n ∷ events) e h = old-from (before ++ delivered d n ∷ []) events e h
  old-from before (returned q n ∷ events) e h = old-from (before ++ returned q n ∷ []) events e h
  old-from before (ended q ∷ events) e h = old-from (before ++ ended q ∷ []) events e h
  old-from before (trapped kind q n ∷ events) e h = old-from (before ++ trapped kind q n ∷ []) events e h
  old-from before (moved ∷ events) e h = old-from (before ++ moved ∷ []) events e h

  pub block-old : (events : List Event) (e : Event) → is_born events c ≡ true → block_of program (events ++ e ∷ []) c ≡ block_of program events c
  block-old events e h = old-from [] events e h

  -- one that was not has none
  none-by : (before events : List Event) (d : Path) (n : ℕ) (same : Bool)
      → (is_born events c ≡ false → block_from program (before ++ spawned d n ∷ []) events c ≡ 0)
      → (same || is_born events c) ≡ false
      → (if same then syncs_of program before (parent_path c) else block_from program (before ++ spawned d n ∷ []) events c) ≡ 0
  none-by before events d n true behind k = cc
  none-by before events d n false behind k = behind k

  none-from : (before events : List Event) → is_born events c ≡ false → block_from program before events c ≡ 0
  none-from before [] h = refl
  none-from before (spawned d n ∷ events) h =
      none-by before events d n (same_path d c) (λ k. none-from (before ++ spawned d n ∷ []) events k) h
  none-from before (acted q n ∷ events) h = none-from (before ++ acted q n ∷ []) events h
  none-from before (delivered d n ∷ events) h = none-from (before ++ delivered d n ∷ []) events h
  none-from before (returned q n ∷ events) h = none-from (before ++ returned q n ∷ []) events h
  none-from before (ended q ∷ events) h = none-from (before ++ ended q ∷ []) events h
  none-from before (trapped kind q n ∷ events) h = none-from (before ++ trapped kind q n ∷ []) events h
  none-from before (moved ∷ events) h = none-from (before ++ moved ∷ []) events h

  pub block-none : (events : List Event) → is_born events c ≡ false → block_of program events c ≡ 0
  block-none events h = none-from [] events h

  -- and as it is born its block is how many `sync`s its parent has passed
  abbrev passed : List Event → ℕ
  passed events = syncs_of program events (parent_path c)

  behind : (before : List Event) (x : Event) (events : List Event) (m : ℕ) → m ≡ passed ((before ++ x ∷ []) ++ events) → m ≡ passed (before ++ x ∷ events)
  behind before x events m is = is ∙ ap passed (append_assoc before (x ∷ []) events)

  new-by : (before events : List Event) (f d : Path) (k n : ℕ) (here : Bool)
      → (is_born events c ≡ false
      → block_from program (before ++ spawned f k ∷ []) (events ++ spawned d n ∷ []) c ≡ passed ((before ++ spawned f k ∷ []) ++ events))
      → (here || is_born events c) ≡ false
      → (if here then passed before else block_from program (before ++ spawned f k ∷ []) (events ++ spawned d n ∷ []) c)
      ≡ passed ((before ++ spawned f k ∷ []) ++ events)
  new-by before events f d k n true later g = cc
  new-by before events f d k n false later g = later g

  new-from : (before events : List Event) (d : Path) (n : ℕ) → is_born events c ≡ false → same_path d c ≡ true
      → block_from program before (events ++ spawned d n ∷ []) c ≡ passed (before ++ events)
  new-from before [] d n h same =
      ap (λ b. if b then passed before else block_from program (before ++ spawned d n ∷ []) [] c) same ∙ ap passed (sym (append-nil before))
  new-from before (spawned f k ∷ events) d n h same =
      behind before (spawned f k) events _
      (new-by before events f d k n (same_path f c) (λ g. new-from (before ++ spawned f k ∷ []) events d n g same) h)
  new-from before (acted q k ∷ events) d n h same = behind before (acted q k) events _ (new-from (before ++ acted q k ∷ []) events d n h same)
  new-from before (delivered f k ∷ events) d n h same = behind before (delivered f k) events _ (new-from (before ++ delivered f k ∷ []) events d n h same)
  new-from before (returned q k ∷ events) d n h same = behind before (returned q k) events _ (new-from (before ++ returned q k ∷ []) events d n h same)
  new-from before (ended q ∷ events) d n h same = behind before (ended q) events _ (new-from (before ++ ended q ∷ []) events d n h same)
  new-from before (trapped kind q k ∷ events) d n h same =
      behind before (trapped kind q k) events _ (new-from (before ++ trapped kind q k ∷ []) events d n h same)
  new-from before (moved ∷ events) d n h same = behind before moved events _ (new-from (before ++ moved ∷ []) events d n h same)

  pub block-new : (events : List Event) (d : Path) (n : ℕ) → is_born events c ≡ false → same_path d c ≡ true
      → block_of program (events ++ spawned d n ∷ []) c ≡ syncs_of program events (parent_path c)
  block-new events d n h same = new-from [] events d n h same
