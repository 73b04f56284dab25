-- Meetings that are told, by one more.
use Rattle.std.proofs.Common.{◌≡◌, ◌<◌, ◌+◌, ℕ, suc, List, [], ◌∷◌, ◌++◌, length, take, slice_index_or, arith, sym, ap, ◌∙◌, subst, All}
use Rattle.std.proofs.Math.Seq.{take-suc}
use Rattle.std.proofs.lemmas.List.{map-append}
use Rattle.std.proofs.lemmas.List.Elements.{All-push}
use Rattle.cilk_log_replay.specs.Tape.{Tape}
use Rattle.cilk_races.specs.Line.{Line}
use Rattle.cilk_races.specs.Paired.{Within, pair_of, pairs_told}
use Rattle.cilk_races.specs.declared.pairing.Pair as kept
use Rattle.cilk_races.specs.declared.touch.Touch.{Touch}
use Rattle.cilk_races.specs.Met.{AreWithin, meeting_in, meetings_in}
use Rattle.cilk_races.specs.RacesText.{pairs_in}
use Rattle.cilk_races.specs.Reversals.{IsMeetingOf, Meeting}
use Rattle.cilk_races.specs.declared.meeting.Meeting as coded

module _ (rows : List Line) (touches : List Touch) (old : List coded.Meeting) (m : coded.Meeting) where
  pub pairs_more : (before : List kept.Pair) → pairs_in (meetings_in rows touches old) ≡ pairs_told rows touches before
      → pairs_in (meetings_in rows touches (old ++ m ∷ [])) ≡ pairs_told rows touches (before ++ m.pair ∷ [])
  pairs_more before is =
      ap pairs_in (map-append (meeting_in rows touches) old (m ∷ []))
      ∙ map-append (λ (x : Meeting). x.pair) (meetings_in rows touches old) (meeting_in rows touches m ∷ [])
      ∙ ap (λ xs. xs ++ pair_of rows touches m.pair ∷ []) is
      ∙ sym (map-append (pair_of rows touches) before (m.pair ∷ []))

  pub reversed_more : (t : Tape) → All (IsMeetingOf t) (meetings_in rows touches old) → IsMeetingOf t (meeting_in rows touches m)
      → All (IsMeetingOf t) (meetings_in rows touches (old ++ m ∷ []))
  reversed_more t all one =
      subst (All (IsMeetingOf t)) (sym (map-append (meeting_in rows touches) old (m ∷ [])))
      (All-push (IsMeetingOf t) (meetings_in rows touches old) (meeting_in rows touches m) all one)

module _ (rows : List Line) (touches : List Touch) where
  -- what holds of those that were told
  abbrev pub Met : ℕ → (Tape → Type 0) → List kept.Pair → List coded.Meeting → Type 0
  Met count Holds before met =
      (pairs_in (meetings_in rows touches met) ≡ pairs_told rows touches before)
      × All (AreWithin count) met
      × ((t : Tape) → Holds t → All (IsMeetingOf t) (meetings_in rows touches met))

  pub met-more : (count : ℕ) (Holds : Tape → Type 0) (xs all : List kept.Pair) (i : ℕ) (old now : List coded.Meeting) (m : coded.Meeting) (d : kept.Pair)
      → xs ≡ all → i < length xs → All (Within count) all → now ≡ old ++ m ∷ [] → m.pair ≡ slice_index_or xs i d
      → ((t : Tape) → Holds t → IsMeetingOf t (meeting_in rows touches m)) → Met count Holds (take i all) old → Met count Holds (take (i + 1) all) now
  met-more count Holds xs all i old now m d same low within grown pair_is met before =
      let next : i + 1 ≡ suc i = omega arith in
      let longer : take (i + 1) all ≡ take i all ++ m.pair ∷ [] =
      ap (λ (ps : List kept.Pair). take (i + 1) ps) (sym same) ∙ ap (λ n. take n xs) next ∙ take-suc xs i d low
      ∙ (λ j. take i (same j) ++ sym pair_is j ∷ [])
      in
      let there : Within count m.pair =
      subst (Within count) (sym pair_is) (subst (All (Within count)) (sym same) within i d low)
      in (
        ap (λ (ms : List coded.Meeting). pairs_in (meetings_in rows touches ms)) grown ∙ pairs_more rows touches old m (take i all) before.0
            ∙ ap (pairs_told rows touches) (sym longer),
        subst (All (AreWithin count)) (sym grown) (All-push (AreWithin count) old m before.1 there),
        λ t holds.
            subst (λ (ms : List coded.Meeting). All (IsMeetingOf t) (meetings_in rows touches ms)) (sym grown)
            (reversed_more rows touches old m t (before.2 t holds) (met t holds)),
      )
