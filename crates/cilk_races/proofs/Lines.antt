-- The greatest number of frames that were in one deque.
use Rattle.std.proofs.Common.{◌≡◌, ◌<◌, ℕ, ◌+◌, max, List, map, take, length, ap, ◌∙◌}
use Rattle.std.proofs.lemmas.List.{take_more, map_push}
use Rattle.cilk_races.specs.Measure.{greatest}
use Rattle.cilk_races.proofs.Pushes.{greatest-push}
use Rattle.cilk_races.specs.declared.seat.Seat.{Seat}
use Rattle.cilk_races.specs.Seats.{seat_at, no_seat, longest_in}

pub longest-more : (xs : List Seat) (i : ℕ) → i < length xs → longest_in (take (i + 1) xs) ≡ max (longest_in (take i xs)) (seat_at xs i).longest
longest-more xs i h =
    ap longest_in (take_more xs i no_seat h) ∙ ap greatest (map_push (λ (s : Seat). s.longest) (take i xs) (seat_at xs i))
    ∙ greatest-push (map (λ (s : Seat). s.longest) (take i xs)) (seat_at xs i).longest
