-- One choice more on a track.
use Rattle.std.proofs.Common.{◌≡◌, ◌≢◌, ◌<◌, ◌≤◌, ◌+◌, ◌*◌, ◌%◌, ◌++◌, ◌∷◌, [], ℕ, suc, List, length, length-append, Some}
use Rattle.std.proofs.Common.{Result, Ok, Err, OnOk, sym, ap, ◌∙◌, subst, arith}
use Rattle.std.proofs.Common.{inl, inr, slice_index_or}
use Rattle.std.proofs.lemmas.Bool.{cases_eq, cases_lt}
use Rattle.std.proofs.lemmas.List.{get_or_append_left}
use Rattle.std.proofs.lemmas.Option.{slice_get_within, slice_get-get_or, get_or_from_slice_get}
use Rattle.std.proofs.Math.Nat.{mod-eq-sub-mul-div, mul-div-le, mul-mod_right}
use Rattle.std.proofs.Math.Seq.{get_or-append_seam}
use Rattle.cilk_machine.specs.Situation.{Situation}
use Rattle.cilk_machine.specs.Checkpoints.{Checkpoint, IsCheckpointOf, IsEarlier}
use Rattle.cilk_machine.proofs.Checkpoints.{tells-itself}
use Rattle.cilk_log_replay.specs.Tape.{Tape, IsAt}
use Rattle.cilk_log_replay.specs.Tracks.{action_at, IsKeptAt, KeepsOne, IsTrack}

-- a multiple of 1,000 is one checkpoint more
at-multiple : (k len : ℕ) → (k + 1) % 1000 ≡ 0 → 1000 * len ≤ k + 1000 → k < 1000 * len → k + 1 ≡ 1000 * len
at-multiple k len none low high =
    let a = mod-eq-sub-mul-div (k + 1) 1000 in
    let b = mul-div-le (k + 1) 1000 in
    omega (arith, a, b, none, low, high)

no-multiple : (k len : ℕ) → ((k + 1) % 1000 ≡ 0 → ⊥) → k + 1 ≢ 1000 * len
no-multiple k len ne e = ne (ap (λ n. n % 1000) e ∙ mul-mod_right 1000 len)

later-kept : (t : Tape) (k : ℕ) (last now : Situation) (c : Checkpoint) → ((m : Situation) → IsEarlier m last → IsEarlier m now) → IsKeptAt t k last c
    → IsKeptAt t k now c
later-kept t k last now c tells h = record { situation = h.situation; stands = h.stands; kept = h.kept; earlier = tells h.situation h.earlier }

own-kept : (t : Tape) (k : ℕ) (now : Situation) (c : Checkpoint) → IsAt t k now → IsCheckpointOf c now → IsKeptAt t k now c
own-kept t k now c h kept = record { situation = now; stands = h; kept = kept; earlier = tells-itself now kept.sound }

module _ (t : Tape) (k : ℕ) (last now : Situation) (cs : List Checkpoint) (actions more : List ℕ) (n : ℕ) (track : IsTrack t k last cs actions)
    (within : k < length t.choices) (next : IsAt t (suc k) now) (tells : (m : Situation) → IsEarlier m last → IsEarlier m now)
    (more_is : more ≡ actions ++ n ∷ []) (n_is : n ≡ action_at t k) where
  one : suc k ≡ k + 1
  one = omega arith

  counted : length more ≡ k + 1
  counted = let count = track.count in ap length more_is ∙ length-append actions (n ∷ []) ∙ ap (λ j. j + 1) count

  acted : (i : ℕ) → i < k + 1 → slice_index_or more i 0 ≡ action_at t i
  acted i h =
      let count = track.count in
      ap (λ (xs : List ℕ). slice_index_or xs i 0) more_is
      ∙ elim (cases_eq i k) [
        | inl e ↦ ap (λ j. slice_index_or (actions ++ n ∷ []) j 0) (e ∙ sym count) ∙ get_or-append_seam actions n [] 0 ∙ n_is ∙ ap (action_at t) (sym e)
        | inr ne ↦ get_or_append_left actions (n ∷ []) 0 i (omega (arith, h, ne, count)) ∙ track.acted i (omega (arith, h, ne))
      ]

  pub track-on : ((k + 1) % 1000 ≡ 0 → ⊥) → IsTrack t (k + 1) now cs more
  track-on not =
      let ne = no-multiple k (length cs) not in
      let low = track.low in
      let high = track.high in
      record {
        within = omega (arith, within);
        stands = subst (λ j. IsAt t j now) one next;
        count = counted;
        acted = acted;
        first = track.first;
        low = omega (arith, low);
        high = omega (arith, high, ne);
        kept = λ i c e. later-kept t (1000 * i) last now c tells (track.kept i c e);
      }

  pub track-kept : (new : List Checkpoint) → (k + 1) % 1000 ≡ 0 → KeepsOne now cs new → IsTrack t (k + 1) now new more
  track-kept new none one_more =
      let is = at-multiple k (length cs) none track.low track.high in
      let c = one_more.more in
      let len : length new ≡ length cs + 1 = ap length one_more.is ∙ length-append cs (c ∷ []) in
      let at : (i : ℕ) → slice_index_or new i c ≡ slice_index_or (cs ++ c ∷ []) i c = λ i. ap (λ (xs : List Checkpoint). slice_index_or xs i c) one_more.is in
      record {
        within = omega (arith, within);
        stands = subst (λ j. IsAt t j now) one next;
        count = counted;
        acted = acted;
        first = omega (arith, len);
        low = omega (arith, len, is);
        high = omega (arith, len, is);
        kept = λ i d e.
            let there = slice_get_within new i d e in
            let d_is : slice_index_or new i c ≡ d = get_or_from_slice_get new i d c e in
            elim (cases_lt i (length cs)) [
              | inl h ↦
                  let old : slice_index_or cs i c ≡ d = sym (get_or_append_left cs (c ∷ []) c i h) ∙ sym (at i) ∙ d_is in
                  later-kept t (1000 * i) last now d tells
                  (track.kept i d (slice_get-get_or cs i c h ∙ ap Some old))
              | inr ge ↦
                  let end : i ≡ length cs = omega (arith, there, ge, len) in
                  let same : c ≡ d = sym (get_or-append_seam cs c [] c) ∙ ap (λ j. slice_index_or (cs ++ c ∷ []) j c) (sym end) ∙ sym (at i) ∙ d_is in
                  let place : k + 1 ≡ 1000 * i = omega (arith, is, end) in
                  subst (IsKeptAt t (1000 * i) now) same
                  (own-kept t (1000 * i) now c (subst (λ j. IsAt t j now) (one ∙ place) next) one_more.kept)
            ];
      }

-- before any choice
pub track-first : (t : Tape) (last : Situation) (none new : List Checkpoint) (actions : List ℕ) → IsAt t 0 last → none ≡ [] → KeepsOne last none new
    → actions ≡ [] → IsTrack t 0 last new actions
track-first t last none new actions h is_none one no_actions =
    let c = one.more in
    let is : new ≡ c ∷ [] = one.is ∙ ap (λ (xs : List Checkpoint). xs ++ c ∷ []) is_none in
    let len : length new ≡ 1 = ap length is in
    record {
      within = omega arith;
      stands = h;
      count = ap length no_actions;
      acted = λ i lt. absurd (omega arith);
      first = omega (arith, len);
      low = omega (arith, len);
      high = omega (arith, len);
      kept = λ i d e.
          let there = slice_get_within new i d e in
          let zero_is : i ≡ 0 = omega (arith, there, len) in
          let same : c ≡ d = sym (ap (λ (xs : List Checkpoint). slice_index_or xs 0 c) is) ∙ ap (λ j. slice_index_or new j c) (sym zero_is)
          ∙ get_or_from_slice_get new i d c e in
          let place : 0 ≡ 1000 * i = omega (arith, zero_is) in
          subst (IsKeptAt t (1000 * i) last) same (own-kept t (1000 * i) last c (subst (λ j. IsAt t j last) place h) one.kept);
    }

pub ok-by : {A E P Q : Type 0} (r : Result A E) → OnOk r P → (P → Q) → OnOk r Q
ok-by (Ok a) p goes = goes p
ok-by (Err e) p goes = tt
