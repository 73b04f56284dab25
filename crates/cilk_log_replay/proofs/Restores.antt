-- A machine is put where a checkpoint was kept, and what a player then is.
use Rattle.std.proofs.Common.{◌≡◌, ◌<◌, ◌≤◌, ◌*◌, [], ℕ, true, List, length, Some, sym, ap, ◌∙◌, subst, arith}
use Rattle.std.proofs.Common.{slice_index_or}
use Rattle.std.proofs.lemmas.Option.{slice_get-get_or}
use Rattle.cilk_machine.specs.syntax.Tree.{Program}
use Rattle.cilk_machine.specs.model.Choice.{Choice}
use Rattle.cilk_machine.specs.Situation.{Situation, workers_of}
use Rattle.cilk_machine.specs.Stands.{Opens}
use Rattle.cilk_machine.specs.Checkpoints.{Checkpoint, IsCheckpointOf, IsEarlier, WasThere, without_past}
use Rattle.cilk_log_replay.specs.Going.{AreThere, Goes}
use Rattle.cilk_log_replay.specs.Tape.{Tape, IsAt}
use Rattle.cilk_log_replay.specs.Tracks.{IsKeptAt, IsTrack}
use Rattle.cilk_log_replay.proofs.Again.{at_start}
use Rattle.cilk_log_replay.proofs.Onward.{goes-there}

-- the checkpoint of a number
pub kept-at : (t : Tape) (n : ℕ) (last : Situation) (cs : List Checkpoint) (actions : List ℕ) → IsTrack t n last cs actions → (i : ℕ) → 1000 * i ≤ n
    → (xs : List Checkpoint) → xs ≡ cs → (x d : Checkpoint) → x ≡ slice_index_or xs i d → IsKeptAt t (1000 * i) last x
kept-at t n last cs actions track i within xs same x d is =
    let high = track.high in
    let inside : i < length cs = omega (arith, high, within) in
    track.kept i x (slice_get-get_or cs i d inside ∙ ap Some (sym (is ∙ ap (λ (ys : List Checkpoint). slice_index_or ys i d) same)))

pub was-there : (t : Tape) (k : ℕ) (last : Situation) (x : Checkpoint) → IsKeptAt t k last x → (program : Program) → program ≡ t.program
    → WasThere x program last
was-there t k last x h program is = record { situation = h.situation; kept = h.kept; earlier = h.earlier; own = h.stands.program ∙ sym is }

-- where it stands then
abbrev pub PutBack : Checkpoint → Situation → Situation → Situation → Type 0
PutBack x last m n = (s : Situation) → IsCheckpointOf x s → IsEarlier s last → s.program ≡ m.program → n ≡ without_past m.keeps s

module _ (t : Tape) (k : ℕ) (last m n : Situation) (x : Checkpoint) (h : IsKeptAt t k last x) (g : Goes t m) (within : k ≤ length t.choices) where
  is-back : PutBack x last m n → n ≡ without_past m.keeps h.situation
  is-back back = back h.situation h.kept h.earlier (h.stands.program ∙ sym g.stands.program)

  pub put-goes : PutBack x last m n → Goes t n
  put-goes back = goes-there t k h.situation n m.keeps within h.stands g.keeps (is-back back)

  pub put-at : PutBack x last m n → n.choices ≡ k
  put-at back = ap (λ (s : Situation). s.choices) (is-back back) ∙ h.stands.choices

  pub put-none : PutBack x last m n → length n.past ≡ 0
  put-none back = ap (λ (s : Situation). length s.past) (is-back back)

-- a machine with records before any choice
pub goes-first : (m : Situation) (program : Program) (workers : ℕ) → m.program ≡ program → workers_of m ≡ workers → m.choices ≡ 0 → Opens m
    → m.keeps ≡ true → m.past ≡ [] → (choices : List Choice) → Goes (record { program = program; workers = workers; choices = choices }) m
goes-first m program workers same crew none opens keeps past choices =
    let t : Tape = record { program = program; workers = workers; choices = choices } in
    record {
      within = omega (arith, none);
      stands = subst (λ k. IsAt t k m) (sym none) (at_start m program workers same crew none opens choices);
      keeps = keeps;
      past = subst (AreThere t) (sym past) tt;
    }
