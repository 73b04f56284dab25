-- What makes no entry more with an access: one by the same thread, one with a lock in common, and one that is like an earlier one.
use Rattle.std.proofs.Common.{◌≡◌, ◌<◌, ◌≤◌, ℕ, suc, zero, Bool, true, false, not, ◌&&◌, ◌||◌, ◌==◌, List, [], ◌∷◌, ◌++◌, length}
use Rattle.std.proofs.Common.{Option, Some, None, if◌then◌else◌, take, refl, sym, ap, ◌∙◌, inl, inr, arith}
use Rattle.std.proofs.lemmas.List.{append-nil, append_assoc}
use Rattle.std.proofs.lemmas.List.Folds.{list_any-append}
use Rattle.std.proofs.lemmas.Bool.{cases_lt, eq-eqb, or_left, or_right}
use Rattle.std.proofs.lemmas.Slice.Eq.{bytes_eq-Decides}
use Rattle.std.proofs.Math.Seq.{take-suc}
use Rattle.cilk_log_replay.specs.machine.model.labelled.Labelled.{Labelled}
use Rattle.cilk_log_replay.specs.machine.model.Event.{Event}
use Rattle.cilk_log_replay.specs.machine.model.Path.{Path}
use Rattle.cilk_log_replay.specs.machine.step.Accesses.{Where, global, own, output, synched}
use Rattle.cilk_races.specs.Alike.{AreAlike, AreOfThread}
use Rattle.cilk_races.specs.Links.{IsTwin}
use Rattle.cilk_races.specs.Order.{Relation, ordered, race, order, inlets, by_branches, parting_from, relation_of, within_one}
use Rattle.cilk_races.specs.Paired.{entries_up_to, is_told, touch_at, unless_ordered, with_earlier}
use Rattle.cilk_races.specs.Races.{Touch, Pair, entries_of, meet, same_cell, same_entry, same_relation, same_variable, share_one}
use Rattle.cilk_races.proofs.Between.{made, one-is, related}
use Rattle.cilk_races.proofs.Paired.{earlier-more, entries-more, told-all}

-- one path leads no further than itself
parting-first : (front p : Path) → (parting_from front p p).first ≡ None
parting-first front [] = refl
parting-first front (k ∷ p) =
    ap (λ (b : Bool). (if b then parting_from (front ++ k ∷ []) p p else record { front = front; first = Some k; second = Some k }).first) (eq-eqb k k refl)
    ∙ parting-first (front ++ k ∷ []) p

parting-second : (front p : Path) → (parting_from front p p).second ≡ None
parting-second front [] = refl
parting-second front (k ∷ p) =
    ap (λ (b : Bool). (if b then parting_from (front ++ k ∷ []) p p else record { front = front; first = Some k; second = Some k }).second) (eq-eqb k k refl)
    ∙ parting-second (front ++ k ∷ []) p

variable-same : (a : Where) → same_variable a a ≡ true
variable-same (global n k) = eq-eqb n n refl
variable-same (own p n k) = λ j. (bytes_eq-Decides p p).1 refl j && eq-eqb n n refl j
variable-same output = refl
variable-same (synched p) = (bytes_eq-Decides p p).1 refl

relation-same : (r : Relation) → same_relation r r ≡ true
relation-same ordered = refl
relation-same race = refl
relation-same order = refl
relation-same inlets = refl

module _ (program : Labelled) (events : List Event) where
  thread-ordered : (a b : Touch) → AreOfThread a b → relation_of program events a.placed b.placed ≡ ordered
  thread-ordered a b h =
      let first = ap (λ q. (parting_from [] a.placed.path q).first) (sym h.path) ∙ parting-first [] a.placed.path in
      let second = ap (λ q. (parting_from [] a.placed.path q).second) (sym h.path) ∙ parting-second [] a.placed.path in
      let front : Path = (parting_from [] a.placed.path b.placed.path).front in
      (λ j. by_branches program events front (first j) (second j) a.placed b.placed)
      ∙ (λ j. within_one program events (h.first j) (h.second j) a.placed b.placed)

  none-made : (a b : Touch) (meets : Bool) → made a b (if meets then None else None) ≡ []
  none-made a b true = refl
  none-made a b false = refl

  pub thread-none : (a b : Touch) → AreOfThread a b → with_earlier program events (a ∷ []) b ≡ []
  thread-none a b h =
      one-is program events a b
      ∙ ap (λ r. made a b (if meet a b then unless_ordered r else None)) (thread-ordered a b h)
      ∙ none-made a b (meet a b)

  -- one that does not meet it
  unmet-none : (a b : Touch) (meets : Bool) → meet a b ≡ meets → (meet a b ≡ true → ⊥) → made a b (related program events a b) ≡ []
  unmet-none a b true is apart = absurd (apart is)
  unmet-none a b false is apart = ap (λ m. made a b (if m then unless_ordered (relation_of program events a.placed b.placed) else None)) is

  pub apart-none : (a b : Touch) → (meet a b ≡ true → ⊥) → with_earlier program events (a ∷ []) b ≡ []
  apart-none a b apart = one-is program events a b ∙ unmet-none a b (meet a b) refl apart

  none-meets : (cell writes : Bool) → (cell && (writes && false)) ≡ false
  none-meets true true = refl
  none-meets true false = refl
  none-meets false writes = refl

  pub lock-none : (a b : Touch) → share_one a.locks b.locks ≡ true → with_earlier program events (a ∷ []) b ≡ []
  lock-none a b h =
      let apart = ap (λ s. same_cell a.access.at b.access.at && ((a.access.writes || b.access.writes) && not s)) h
      ∙ none-meets (same_cell a.access.at b.access.at) (a.access.writes || b.access.writes) in
      one-is program events a b
      ∙ ap (λ m. made a b (if m then unless_ordered (relation_of program events a.placed b.placed) else None)) apart

  module _ (touches : List Touch) (b : Touch) where
    abbrev earlier : ℕ → List Pair
    earlier k = with_earlier program events (take k touches) b

    abbrev one : ℕ → List Pair
    one k = with_earlier program events (touch_at touches k ∷ []) b

    pub earlier-next : (k : ℕ) → k < length touches → earlier (suc k) ≡ earlier k ++ one k
    earlier-next k low =
        ap (λ xs. with_earlier program events xs b) (take-suc touches k _ low)
        ∙ earlier-more program events (take k touches) (touch_at touches k ∷ []) b

    module _ (pairs : List Pair) where
      abbrev entries : ℕ → List Pair
      entries k = entries_up_to program events touches pairs k b

      pub none-adds : (k : ℕ) → k < length touches → one k ≡ [] → entries (suc k) ≡ entries k
      none-adds k low none =
          ap (λ xs. entries_of (pairs ++ xs)) (earlier-next k low ∙ ap (λ xs. earlier k ++ xs) none ∙ append-nil (earlier k))

      -- a pair that is told stays told
      told-earlier : (j : ℕ) (x : Pair) (k : ℕ) → j < k → k ≤ length touches → is_told (one j) x ≡ true → is_told (earlier k) x ≡ true
      told-earlier j x zero low high told = absurd (omega arith)
      told-earlier j x (suc k) low high told =
          ap (λ xs. is_told xs x) (earlier-next k (omega arith))
          ∙ list_any-append (λ e. same_entry e x) (earlier k) (one k)
          ∙ elim (cases_lt j k) [
            | inl below ↦ or_left (is_told (earlier k) x) (is_told (one k) x) (told-earlier j x k below (omega arith) told)
            | inr above ↦
                let same : k ≡ j = omega arith in
                or_right (is_told (earlier k) x) (is_told (one k) x) (ap (λ n. is_told (one n) x) same ∙ told)
          ]

      -- where one is told as the same already
      told-adds-none : (k : ℕ) (x : Pair) → k < length touches → one k ≡ x ∷ [] → is_told (earlier k) x ≡ true → entries (suc k) ≡ entries k
      told-adds-none k x low is told =
          ap (λ xs. entries_of (pairs ++ xs)) (earlier-next k low ∙ ap (λ xs. earlier k ++ xs) is)
          ∙ ap entries_of (sym (append_assoc pairs (earlier k) (x ∷ [])))
          ∙ entries-more (pairs ++ earlier k) x
          ∙ ap (λ b. if b then entries k else entries k ++ x ∷ [])
          (told-all (pairs ++ earlier k) x
          ∙ list_any-append (λ e. same_entry e x) pairs (earlier k)
          ∙ or_right (is_told pairs x) (is_told (earlier k) x) told)

      related-alike : (a c : Touch) → AreAlike a c → related program events a b ≡ related program events c b
      related-alike a c h = λ j.
          if same_cell (h.access j).at b.access.at && (((h.access j).writes || b.access.writes) && not (share_one (h.locks j) b.locks))
          then unless_ordered (relation_of program events (h.placed j) b.placed) else None

      -- both make one entry
      entry-alike : (a c : Touch) (r : Relation) → AreAlike a c
          → same_entry (record { first = a; second = b; relation = r }) (record { first = c; second = b; relation = r }) ≡ true
      entry-alike a c r h =
          sym (λ j. same_variable a.access.at (h.access j).at && ((a.n == h.n j) && ((b.n == b.n) && same_relation r r)))
          ∙ (λ j. variable-same a.access.at j && (eq-eqb a.n a.n refl j && (eq-eqb b.n b.n refl j && relation-same r j)))

      alike-adds-none : (j k : ℕ) → j < k → k < length touches → AreAlike (touch_at touches j) (touch_at touches k) → (o : Option Relation)
          → related program events (touch_at touches k) b ≡ o → entries (suc k) ≡ entries k
      alike-adds-none j k before low h None is =
          none-adds k low (one-is program events (touch_at touches k) b ∙ ap (made (touch_at touches k) b) is)
      alike-adds-none j k before low h (Some r) is =
          let c : Touch = touch_at touches k in
          let a : Touch = touch_at touches j in
          let x : Pair = record { first = c; second = b; relation = r } in
          let first = one-is program events a b ∙ ap (made a b) (related-alike a c h ∙ is) in
          told-adds-none k x low (one-is program events c b ∙ ap (made c b) is)
          (told-earlier j x k before (omega arith) (ap (λ xs. is_told xs x) first ∙ ap (λ e. e || false) (entry-alike a c r h)))

      pub twin-adds-none : (k : ℕ) → k < length touches → IsTwin touches k → entries (suc k) ≡ entries k
      twin-adds-none k low h = alike-adds-none h.earlier k h.before low h.alike (related program events (touch_at touches k) b) refl
