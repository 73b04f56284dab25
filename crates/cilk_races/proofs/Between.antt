-- Two accesses that were kept make the pair of the definition.
use Rattle.std.proofs.Common.{◌≡◌, ◌<◌, ℕ, Bool, true, false, not, List, [], ◌∷◌, length, map, Option, Some, None, option_map, refl, sym, ap, ◌∙◌}
use Rattle.std.proofs.Common.{if◌then◌else◌}
use Rattle.std.specs.Prelude.{filter, slice_index_or}
use Rattle.std.proofs.lemmas.List.{get_or-map}
use Rattle.cilk_log_replay.specs.machine.model.labelled.Labelled.{Labelled}
use Rattle.cilk_log_replay.specs.machine.model.Event.{Event}
use Rattle.cilk_races.specs.declared.pairing.Pair as kept
use Rattle.cilk_races.specs.declared.relation.Relation as coded
use Rattle.cilk_races.specs.Line.{Line}
use Rattle.cilk_races.specs.declared.touch.Touch as touched
use Rattle.cilk_races.specs.Kept.{Blocked}
use Rattle.cilk_races.specs.Order.{Relation, relation_of}
use Rattle.cilk_races.specs.Paired.{between, no_touch, pair_of, touches_of, unless_ordered, with_earlier}
use Rattle.cilk_races.specs.Races.{Touch, Pair, meet, is_ordered, paired}
use Rattle.cilk_races.specs.PairWords.{relation_named, touch_of}
use Rattle.cilk_races.proofs.Related.{relation-is}

-- the pair of these two, if there is one
abbrev pub made : Touch → Touch → Option Relation → List Pair
made a b None = []
made a b (Some r) = record { first = a; second = b; relation = r } ∷ []

abbrev pub kept_as : ℕ → ℕ → Option coded.Relation → List kept.Pair
kept_as first second None = []
kept_as first second (Some r) = record { first = first; second = second; relation = r } ∷ []

module _ (program : Labelled) (events : List Event) where
  abbrev pub related : Touch → Touch → Option Relation
  related a b = if meet a b then unless_ordered (relation_of program events a.placed b.placed) else None

  pub one-is : (a b : Touch) → with_earlier program events (a ∷ []) b ≡ made a b (related a b)
  one-is a b = by (meet a b)
    where
      left : (ordered : Bool)
          → (if not ordered then paired program events a b ∷ [] else [])
          ≡ made a b (if ordered then None else Some (relation_of program events a.placed b.placed))
      left true = refl
      left false = refl

      by : (meets : Bool)
          → filter (λ (p : Pair). not (is_ordered p.relation)) (map (λ x. paired program events x b) (if meets then a ∷ [] else []))
          ≡ made a b (if meets then unless_ordered (relation_of program events a.placed b.placed) else None)
      by true = left (is_ordered (relation_of program events a.placed b.placed))
      by false = refl

  module _ (rows : List Line) (blocked : Blocked program events rows) (touches : List touched.Touch) (first second : ℕ) (a b : touched.Touch)
      (low : first < length touches) (high : second < length touches) (is_a : slice_index_or touches first a ≡ a)
      (is_b : slice_index_or touches second b ≡ b) (o : Option coded.Relation) (is : option_map relation_named o ≡ between rows a b) where
    abbrev one : Touch
    one = slice_index_or (touches_of rows touches) first no_touch

    abbrev other : Touch
    other = slice_index_or (touches_of rows touches) second no_touch

    one-a : one ≡ touch_of rows a
    one-a = get_or-map (touch_of rows) touches first a no_touch low ∙ ap (touch_of rows) is_a

    other-b : other ≡ touch_of rows b
    other-b = get_or-map (touch_of rows) touches second b no_touch high ∙ ap (touch_of rows) is_b

    told : (p : Option coded.Relation) → made one other (option_map relation_named p) ≡ map (pair_of rows touches) (kept_as first second p)
    told None = refl
    told (Some r) = refl

    pub pair-is : with_earlier program events (one ∷ []) other ≡ map (pair_of rows touches) (kept_as first second o)
    pair-is =
        one-is one other
        ∙ (λ j. made one other (related (one-a j) (other-b j)))
        ∙ ap (λ r. made one other (if meet (touch_of rows a) (touch_of rows b) then unless_ordered r else None))
        (sym (relation-is program events rows blocked a.placed b.placed))
        ∙ ap (made one other) (sym is)
        ∙ told o
