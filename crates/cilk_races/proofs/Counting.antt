-- One choice more is counted.
use Rattle.std.proofs.Common.{◌⊎◌, ◌≡◌, ◌<◌, ◌≤◌, ◌+◌, ◌-◌, ◌^◌, ◌==◌, ℕ, zero, suc, max, Bool, true, false, not, cond, ◌&&◌, ◌||◌, if◌then◌else◌}
use Rattle.std.proofs.Common.{List, [], ◌∷◌}
use Rattle.std.proofs.Common.{◌++◌, map, length, refl, sym, ap, ◌∙◌, subst, arith, inl, inr, slice_set, slice_index_or, length-set, get_or-set_same}
use Rattle.std.proofs.Common.{get_or-set_other}
use Rattle.std.specs.Prelude.{count_by}
use Rattle.std.proofs.lemmas.Bool.{cases_eq, eq-eqb, ne_eqb, and_right}
use Rattle.std.proofs.lemmas.List.{length_push, length-replicate, get_or-replicate, get_or_append_left, get_or_push, length-map, ext_get_or}
use Rattle.std.proofs.lemmas.List.Sums.{sum_by_push, count_by-le-length}
use Rattle.cilk_log_replay.specs.machine.model.Path.{Path}
use Rattle.cilk_log_replay.specs.machine.model.Choice as model
use Rattle.cilk_log_replay.specs.machine.model.Event.{Event}
use Rattle.cilk_log_replay.specs.machine.model.End.{numbers}
use Rattle.cilk_log_replay.specs.machine.sched.declared.choice.Choice.{Choice}
use Rattle.cilk_log_replay.specs.machine.sched.declared.act.Act.{Act}
use Rattle.cilk_log_replay.specs.machine.sched.declared.act.Act.TheVariants.{Step, Pop, Steal}
use Rattle.cilk_log_replay.specs.machine.sched.Words.{act_of, choice_of}
use Rattle.cilk_log_replay.specs.machine.plans.declared.did.Did.{Did}
use Rattle.cilk_log_replay.specs.machine.plans.declared.did.Did.TheVariants as did
use Rattle.cilk_log_replay.specs.machine.plans.PartWords.{event_by}
use Rattle.cilk_races.specs.Deeds.{Deed, is_step, only_moves, is_work, is_park, pops, steals, is_work_of, is_spawn, puts}
use Rattle.cilk_races.specs.Deeds.{takes_out, in_deque}
use Rattle.cilk_races.specs.Measure.{most}
use Rattle.cilk_races.proofs.Pushes.{most-push, most-last}
use Rattle.cilk_races.specs.declared.seat.Seat.{Seat}
use Rattle.cilk_races.specs.Cells.{next}
use Rattle.cilk_races.specs.Seats.{no_seat, seat_at, worked, drawn, at_worker, Counts, no_counts, is_moved, is_spawned, act_after, counts_after}
use Rattle.cilk_races.specs.Held.{Seated, Counted}
use Rattle.cilk_races.proofs.Bounds.{next-is}

abbrev pub one : Bool → ℕ
one b = cond b 1 0

count-more : (f : Deed → Bool) (deeds : List Deed) (d : Deed) → count_by f (deeds ++ d ∷ []) ≡ count_by f deeds + one (f d)
count-more f deeds d = sum_by_push (λ (x : Deed). cond (f x) 1 0) deeds d

-- what a choice makes of a seat: whether it was work of that worker, put a frame into its deque, or took one out of it
pub record Turned (w : ℕ) (d : Deed) (old new : Seat) : Type 0 where
  pub share : new.share ≡ old.share + one (is_work_of w d)
  pub put : new.put ≡ old.put + one (puts w d)
  pub gone : new.gone ≡ old.gone + one (takes_out w d)
  pub longest : new.longest ≡ (if puts w d then max old.longest (new.put - new.gone) else old.longest)

longest-by : (b : Bool) (x y old at now : ℕ) → x ≡ old → at ≤ old → (b ≡ false → now ≤ at) → y ≡ (if b then max x now else x) → y ≡ max old now
longest-by true x y old at now same low less is = is ∙ ap (λ k. max k now) same
longest-by false x y old at now same low less is = let le = less refl in is ∙ omega (arith, same, low, le)

pub seated-more : (w : ℕ) (deeds : List Deed) (d : Deed) (old new : Seat) → Seated w deeds old → Turned w d old new → Seated w (deeds ++ d ∷ []) new
seated-more w deeds d old new h turned =
    let put : new.put ≡ count_by (puts w) (deeds ++ d ∷ []) = turned.put ∙ ap (λ k. k + one (puts w d)) h.put ∙ sym (count-more (puts w) deeds d) in
    let gone : new.gone ≡ count_by (takes_out w) (deeds ++ d ∷ []) =
    turned.gone ∙ ap (λ k. k + one (takes_out w d)) h.gone ∙ sym (count-more (takes_out w) deeds d)
    in
    let last = most-last (in_deque w) deeds in
    let puts_more = count-more (puts w) deeds d in
    let takes_more = count-more (takes_out w) deeds d in
    let less : puts w d ≡ false → in_deque w (deeds ++ d ∷ []) ≤ in_deque w deeds =
    λ e. let none : one (puts w d) ≡ 0 = ap one e in omega (arith, puts_more, takes_more, none)
    in
    let is : new.longest ≡ (if puts w d then max old.longest (in_deque w (deeds ++ d ∷ [])) else old.longest) =
    turned.longest ∙ (λ j. if puts w d then max old.longest (put j - gone j) else old.longest)
    in
    record {
      share = turned.share ∙ ap (λ k. k + one (is_work_of w d)) h.share ∙ sym (count-more (is_work_of w) deeds d);
      put = put;
      gone = gone;
      longest = longest-by (puts w d) old.longest new.longest (most (in_deque w) deeds) (in_deque w deeds) (in_deque w (deeds ++ d ∷ [])) h.longest last less is
          ∙ sym (most-push (in_deque w) deeds d);
    }

-- the seat of a worker
pub worker-length : (w : ℕ) (f : Seat → Seat) (seats : List Seat) → length (at_worker w f seats) ≡ length seats
worker-length zero f seats = refl
worker-length (suc w) f seats = length-set seats w (f (seat_at seats w))

never : (i : ℕ) → (zero == suc i) ≡ false
never i = ne_eqb zero (suc i) (λ e. omega (arith, e))

pub worker-at : (w : ℕ) (f : Seat → Seat) (seats : List Seat) (i : ℕ) → i < length seats
    → seat_at (at_worker w f seats) i ≡ (if w == suc i then f (seat_at seats i) else seat_at seats i)
worker-at zero f seats i h = sym (ap (λ b. if b then f (seat_at seats i) else seat_at seats i) (never i))
worker-at (suc w) f seats i h = by (cases_eq w i)
  where
    by : (w ≡ i) ⊎ (w ≡ i → ⊥) → seat_at (slice_set seats w (f (seat_at seats w))) i ≡ (if suc w == suc i then f (seat_at seats i) else seat_at seats i)
    by (inl e) =
        subst (λ k. seat_at (slice_set seats k (f (seat_at seats k))) i ≡ f (seat_at seats i)) (sym e) (get_or-set_same seats i (f (seat_at seats i)) no_seat h)
        ∙ sym (ap (λ b. if b then f (seat_at seats i) else seat_at seats i) (eq-eqb (suc w) (suc i) (ap suc e)))
    by (inr ne) =
        get_or-set_other seats w i (f (seat_at seats w)) no_seat (λ e. ne (sym e))
        ∙ sym (ap (λ b. if b then f (seat_at seats i) else seat_at seats i) (ne_eqb (suc w) (suc i) (λ e. ne (omega (arith, e)))))

module _ (up now : ℕ → Path) (x : Did) where
  pub moved-too : only_moves (event_by up now x) ≡ is_moved x
  moved-too = by x
    where
      by : (y : Did) → only_moves (event_by up now y) ≡ is_moved y
      by did.Moved = refl
      by (did.Acted id n) = refl
      by (did.Spawned id n) = refl
      by (did.Delivered id n) = refl
      by (did.Returned id n) = refl
      by (did.Ended id) = refl
      by (did.Trapped kind id n) = refl

  pub spawned-too : is_spawn (event_by up now x) ≡ is_spawned x
  spawned-too = by x
    where
      by : (y : Did) → is_spawn (event_by up now y) ≡ is_spawned y
      by did.Moved = refl
      by (did.Acted id n) = refl
      by (did.Spawned id n) = refl
      by (did.Delivered id n) = refl
      by (did.Returned id n) = refl
      by (did.Ended id) = refl
      by (did.Trapped kind id n) = refl

-- a seat whose numbers fit
pub record Fits (s : Seat) : Type 0 where
  pub share : s.share < 2 ^ 64 - 1
  pub put : s.put < 2 ^ 64 - 1
  pub gone : s.gone < 2 ^ 64 - 1

plus-none : (n : ℕ) (b : Bool) → b ≡ false → n ≡ n + one b
plus-none n true e = cc
plus-none n false e = omega arith

plus-one : (n k : ℕ) (b : Bool) → b ≡ true → n < 2 ^ 64 - 1 → next n ≡ n + one b
plus-one n k true e h = let is = next-is n h in omega (arith, is)
plus-one n k false e h = cc

-- what a choice may do to a seat
module _ (w : ℕ) (d : Deed) (s : Seat) (fits : Fits s) where
  turn-none : is_work_of w d ≡ false → puts w d ≡ false → takes_out w d ≡ false → Turned w d s s
  turn-none work put gone = record {
    share = plus-none s.share (is_work_of w d) work;
    put = plus-none s.put (puts w d) put;
    gone = plus-none s.gone (takes_out w d) gone;
    longest = sym (ap (λ b. if b then max s.longest (s.put - s.gone) else s.longest) put);
  }

  turn-gone : is_work_of w d ≡ false → puts w d ≡ false → takes_out w d ≡ true → Turned w d s (drawn s)
  turn-gone work put gone = record {
    share = plus-none s.share (is_work_of w d) work;
    put = plus-none s.put (puts w d) put;
    gone = plus-one s.gone 0 (takes_out w d) gone fits.gone;
    longest = sym (ap (λ b. if b then max s.longest (s.put - next s.gone) else s.longest) put);
  }

  turn-work : (spawned : Bool) → is_work_of w d ≡ true → puts w d ≡ spawned → takes_out w d ≡ false → Turned w d s (worked spawned s)
  turn-work true work put gone = record {
    share = plus-one s.share 0 (is_work_of w d) work fits.share;
    put = plus-one s.put 0 (puts w d) put fits.put;
    gone = plus-none s.gone (takes_out w d) gone;
    longest = sym (ap (λ b. if b then max s.longest (next s.put - s.gone) else s.longest) put);
  }
  turn-work false work put gone = record {
    share = plus-one s.share 0 (is_work_of w d) work fits.share;
    put = plus-none s.put (puts w d) put;
    gone = plus-none s.gone (takes_out w d) gone;
    longest = sym (ap (λ b. if b then max s.longest (s.put - s.gone) else s.longest) put);
  }

-- a choice of worker w that did this
abbrev pub deed : ℕ → model.Act → Event → Deed
deed w act e = record { choice = record { worker = w; act = act }; did = e }

-- as worker v sees it
module _ (w v : ℕ) (e : Event) (s : Seat) (fits : Fits s) where
  no-step : (act : model.Act) → is_step act ≡ false → is_work_of v (deed w act e) ≡ false
  no-step act none = ap (λ b. (w == v) && (b && not (only_moves e))) none ∙ and_right (w == v) false refl

  no-put : (act : model.Act) → is_work_of v (deed w act e) ≡ false → puts v (deed w act e) ≡ false
  no-put act none = ap (λ b. b && is_spawn e) none

  step-takes : takes_out v (deed w model.step e) ≡ false
  step-takes = ap (λ b. b || false) (and_right (w == v) false refl)

  parks-turn : only_moves e ≡ true → Turned v (deed w model.step e) s s
  parks-turn moves =
      let none : is_work_of v (deed w model.step e) ≡ false = ap (λ b. (w == v) && (true && not b)) moves ∙ and_right (w == v) false refl in
      turn-none v (deed w model.step e) s fits none (no-put model.step none) step-takes

  works-turn : (b spawned : Bool) → (w == v) ≡ b → only_moves e ≡ false → is_spawn e ≡ spawned
      → Turned v (deed w model.step e) s (if b then worked spawned s else s)
  works-turn true spawned is moves bears =
      let work : is_work_of v (deed w model.step e) ≡ true = λ j. is j && (true && not (moves j)) in
      let put : puts v (deed w model.step e) ≡ spawned = λ j. work j && bears j in
      turn-work v (deed w model.step e) s fits spawned work put step-takes
  works-turn false spawned is moves bears =
      let none : is_work_of v (deed w model.step e) ≡ false = λ j. is j && (true && not (moves j)) in
      turn-none v (deed w model.step e) s fits none (no-put model.step none) step-takes

  pops-turn : (b : Bool) → (w == v) ≡ b → Turned v (deed w model.pop e) s (if b then drawn s else s)
  pops-turn true is =
      let none = no-step model.pop refl in
      turn-gone v (deed w model.pop e) s fits none (no-put model.pop none) (λ j. (is j && true) || false)
  pops-turn false is =
      let none = no-step model.pop refl in
      turn-none v (deed w model.pop e) s fits none (no-put model.pop none) (λ j. (is j && true) || false)

  steals-takes : (victim : ℕ) → takes_out v (deed w (model.steal victim) e) ≡ (victim == v)
  steals-takes victim = ap (λ b. b || (victim == v)) (and_right (w == v) false refl)

  steals-turn : (victim : ℕ) (b : Bool) → (victim == v) ≡ b → Turned v (deed w (model.steal victim) e) s (if b then drawn s else s)
  steals-turn victim true is =
      let none = no-step (model.steal victim) refl in
      turn-gone v (deed w (model.steal victim) e) s fits none (no-put (model.steal victim) none) (steals-takes victim ∙ is)
  steals-turn victim false is =
      let none = no-step (model.steal victim) refl in
      turn-none v (deed w (model.steal victim) e) s fits none (no-put (model.steal victim) none) (steals-takes victim ∙ is)

-- no seat has more than there are choices
seat-fits : (w : ℕ) (deeds : List Deed) (s : Seat) → length deeds < 2 ^ 60 → Seated w deeds s → Fits s
seat-fits w deeds s short h =
    let share = count_by-le-length (is_work_of w) deeds in
    let put = count_by-le-length (puts w) deeds in
    let gone = count_by-le-length (takes_out w) deeds in
    let a = h.share in
    let b = h.put in
    let c = h.gone in
    record { share = omega (arith, share, a, short); put = omega (arith, put, b, short); gone = omega (arith, gone, c, short) }

-- the seats of all workers
module _ (n : ℕ) (deeds : List Deed) (seats : List Seat) (short : length deeds < 2 ^ 60) (entries : length seats ≡ n)
    (each : (i : ℕ) → i < n → Seated (suc i) deeds (seat_at seats i)) (d : Deed) where
  seats-same : ((i : ℕ) → i < n → Turned (suc i) d (seat_at seats i) (seat_at seats i)) → (i : ℕ) → i < n → Seated (suc i) (deeds ++ d ∷ []) (seat_at seats i)
  seats-same turns i h = seated-more (suc i) deeds d (seat_at seats i) (seat_at seats i) (each i h) (turns i h)

  seats-turned : (w : ℕ) (f : Seat → Seat)
      → ((i : ℕ) → i < n → Turned (suc i) d (seat_at seats i) (if w == suc i then f (seat_at seats i) else seat_at seats i))
      → (i : ℕ) → i < n → Seated (suc i) (deeds ++ d ∷ []) (seat_at (at_worker w f seats) i)
  seats-turned w f turns i h =
      let there : i < length seats = omega (arith, h, entries) in
      subst (Seated (suc i) (deeds ++ d ∷ [])) (sym (worker-at w f seats i there))
      (seated-more (suc i) deeds d (seat_at seats i) (if w == suc i then f (seat_at seats i) else seat_at seats i) (each i h) (turns i h))

total-by : (f : Deed → Bool) (deeds : List Deed) (d : Deed) (k j : ℕ) → k ≡ count_by f deeds → j ≡ k + one (f d) → j ≡ count_by f (deeds ++ d ∷ [])
total-by f deeds d k j same more = more ∙ ap (λ x. x + one (f d)) same ∙ sym (count-more f deeds d)

module _ (n : ℕ) (deeds : List Deed) (c : Counts) (short : length deeds < 2 ^ 60) (h : Counted n deeds c) (e : Event) where
  room : (f : Deed → Bool) (k : ℕ) → k ≡ count_by f deeds → k < 2 ^ 64 - 1
  room f k same = let low = count_by-le-length f deeds in omega (arith, same, low, short)

  added : (f : Deed → Bool) (k : ℕ) (d : Deed) → k ≡ count_by f deeds → f d ≡ true → next k ≡ count_by f (deeds ++ d ∷ [])
  added f k d same is = total-by f deeds d k (next k) same (plus-one k 0 (f d) is (room f k same))

  kept : (f : Deed → Bool) (k : ℕ) (d : Deed) → k ≡ count_by f deeds → f d ≡ false → k ≡ count_by f (deeds ++ d ∷ [])
  kept f k d same is = total-by f deeds d k k same (plus-none k (f d) is)

  fits : (i : ℕ) → i < n → Fits (seat_at c.seats i)
  fits i low = seat-fits (suc i) deeds (seat_at c.seats i) short (h.each i low)

  counted-park : (w : ℕ) → only_moves e ≡ true → Counted n (deeds ++ deed w model.step e ∷ []) (record c { parks = next c.parks })
  counted-park w moves = record {
    work = kept is_work c.work (deed w model.step e) h.work (ap (λ b. true && not b) moves);
    steals = kept steals c.steals (deed w model.step e) h.steals refl;
    pops = kept pops c.pops (deed w model.step e) h.pops refl;
    parks = added is_park c.parks (deed w model.step e) h.parks moves;
    entries = h.entries;
    each = seats-same n deeds c.seats short h.entries h.each (deed w model.step e) (λ i low. parks-turn w (suc i) e (seat_at c.seats i) (fits i low) moves);
  }

  counted-work : (w : ℕ) (spawned : Bool) → only_moves e ≡ false → is_spawn e ≡ spawned
      → Counted n (deeds ++ deed w model.step e ∷ []) (record c { work = next c.work; seats = at_worker w (worked spawned) c.seats })
  counted-work w spawned moves bears = record {
    work = added is_work c.work (deed w model.step e) h.work (ap (λ b. true && not b) moves);
    steals = kept steals c.steals (deed w model.step e) h.steals refl;
    pops = kept pops c.pops (deed w model.step e) h.pops refl;
    parks = kept is_park c.parks (deed w model.step e) h.parks moves;
    entries = worker-length w (worked spawned) c.seats ∙ h.entries;
    each = seats-turned n deeds c.seats short h.entries h.each (deed w model.step e) w (worked spawned)
        (λ i low. works-turn w (suc i) e (seat_at c.seats i) (fits i low) (w == suc i) spawned refl moves bears);
  }

  counted-pop : (w : ℕ) → Counted n (deeds ++ deed w model.pop e ∷ []) (record c { pops = next c.pops; seats = at_worker w drawn c.seats })
  counted-pop w = record {
    work = kept is_work c.work (deed w model.pop e) h.work refl;
    steals = kept steals c.steals (deed w model.pop e) h.steals refl;
    pops = added pops c.pops (deed w model.pop e) h.pops refl;
    parks = kept is_park c.parks (deed w model.pop e) h.parks refl;
    entries = worker-length w drawn c.seats ∙ h.entries;
    each = seats-turned n deeds c.seats short h.entries h.each (deed w model.pop e) w drawn
        (λ i low. pops-turn w (suc i) e (seat_at c.seats i) (fits i low) (w == suc i) refl);
  }

  counted-steal : (w victim : ℕ)
      → Counted n (deeds ++ deed w (model.steal victim) e ∷ [])
      (record c { steals = next c.steals; seats = at_worker victim drawn c.seats })
  counted-steal w victim = record {
    work = kept is_work c.work (deed w (model.steal victim) e) h.work refl;
    steals = added steals c.steals (deed w (model.steal victim) e) h.steals refl;
    pops = kept pops c.pops (deed w (model.steal victim) e) h.pops refl;
    parks = kept is_park c.parks (deed w (model.steal victim) e) h.parks refl;
    entries = worker-length victim drawn c.seats ∙ h.entries;
    each = seats-turned n deeds c.seats short h.entries h.each (deed w (model.steal victim) e) victim drawn
        (λ i low. steals-turn w (suc i) e (seat_at c.seats i) (fits i low) victim (victim == suc i) refl);
  }

  by_move : (w : ℕ) (x : Did) (b : Bool) → is_moved x ≡ b → only_moves e ≡ is_moved x → is_spawn e ≡ is_spawned x
      → Counted n (deeds ++ deed w model.step e ∷ [])
      (if b then record c { parks = next c.parks } else record c { work = next c.work; seats = at_worker w (worked (is_spawned x)) c.seats })
  by_move w x true is moves bears = counted-park w (moves ∙ is)
  by_move w x false is moves bears = counted-work w (is_spawned x) (moves ∙ is) bears

  by_act : (w : ℕ) (act : Act) (x : Did) → only_moves e ≡ is_moved x → is_spawn e ≡ is_spawned x
      → Counted n (deeds ++ deed w (act_of act) e ∷ []) (act_after act w x c)
  by_act w Step x moves bears = by_move w x (is_moved x) refl moves bears
  by_act w Pop x moves bears = counted-pop w
  by_act w (Steal victim) x moves bears = counted-steal w victim

  pub counted-more : (choice : Choice) (x : Did) → only_moves e ≡ is_moved x → is_spawn e ≡ is_spawned x
      → Counted n (deeds ++ record { choice = choice_of choice; did = e } ∷ []) (counts_after choice x c)
  counted-more choice x moves bears = by_act choice.worker choice.act x moves bears

-- before any choice
pub counted-first : (n : ℕ) → Counted n [] (no_counts n)
counted-first n = record {
  work = refl;
  steals = refl;
  pops = refl;
  parks = refl;
  entries = length-replicate n no_seat;
  each = λ i h. subst (Seated (suc i) []) (sym (get_or-replicate n i no_seat no_seat h)) (record { share = refl; put = refl; gone = refl; longest = refl });
}

-- by worker
numbers-length : (n : ℕ) → length (numbers n) ≡ n
numbers-length zero = refl
numbers-length (suc n) = length_push (numbers n) (suc n) ∙ ap (λ k. k + 1) (numbers-length n) ∙ omega arith

number-at : (n i : ℕ) → i < n → slice_index_or (numbers n) i 0 ≡ suc i
number-at zero i h = absurd (omega arith)
number-at (suc n) i h = by (cases_eq i n) (number-at n i)
  where
    by : (i ≡ n) ⊎ (i ≡ n → ⊥) → (i < n → slice_index_or (numbers n) i 0 ≡ suc i) → slice_index_or (numbers n ++ suc n ∷ []) i 0 ≡ suc i
    by (inl e) below =
        get_or_push (numbers n) (suc n) 0 i (numbers-length n ∙ sym e) ∙ ap suc (sym e)
    by (inr ne) below =
        let low : i < n = omega (arith, h, ne) in
        let size = numbers-length n in
        get_or_append_left (numbers n) (suc n ∷ []) 0 i (omega (arith, low, size)) ∙ below low

mapped-at : {A : Type 0} (f : A → ℕ) (xs : List A) (i : ℕ) (x : A) → i < length xs → slice_index_or (map f xs) i 0 ≡ f (slice_index_or xs i x)
mapped-at f [] i x h = absurd (omega arith)
mapped-at f (y ∷ xs) zero x h = refl
mapped-at f (y ∷ xs) (suc i) x h = mapped-at f xs i x (omega arith)

-- numbers of seats are those of the workers
pub by_worker : (n : ℕ) (seats : List Seat) (f : Seat → ℕ) (g : ℕ → ℕ) → length seats ≡ n → ((i : ℕ) → i < n → f (seat_at seats i) ≡ g (suc i))
    → map f seats ≡ map g (numbers n)
by_worker n seats f g size each =
    let a : length (map f seats) ≡ n = length-map seats f ∙ size in
    let b : length (map g (numbers n)) ≡ n = length-map (numbers n) g ∙ numbers-length n in
    ext_get_or 0 (map f seats) (map g (numbers n)) (a ∙ sym b)
    (λ i h.
    let low : i < n = omega (arith, h, a) in
    let long = numbers-length n in
    mapped-at f seats i no_seat (omega (arith, low, size)) ∙ each i low ∙ ap g (sym (number-at n i low))
    ∙ sym (mapped-at g (numbers n) i 0 (omega (arith, low, long))))
