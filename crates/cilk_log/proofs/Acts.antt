-- The line of a choice tells that choice, and no other line does.
use Rattle.std.proofs.Common.{◌≡◌, ℕ, ◌^◌, ◌<◌, ◌≤◌, Bool, true, false, cond, List, [], ◌∷◌, ◌++◌, length, take, drop, Option, Some, None, option_map}
use Rattle.std.proofs.Common.{decimal, refl, sym, ap, ◌∙◌, arith}
use Rattle.std.proofs.lemmas.Bool.{and_parts}
use Rattle.std.specs.Prelude.{bytes_eq, codes}
use Rattle.std.specs.Char.{is_ascii_digit}
use Rattle.std.specs.List.{prefix_len}
use Rattle.std.specs.Str.{all_ascii_digits}
use Rattle.std.proofs.lemmas.List.{take_at, drop_at, take-append-drop}
use Rattle.std.proofs.lemmas.Slice.Eq.{bytes_eq-Decides}
use Rattle.cilk_sched.specs.model.Choice.{Act, step, pop, steal, Choice}
use Rattle.cilk_log.specs.Choices.{act_text, choice_text, ActFits, ChoiceFits}
use Rattle.cilk_log.specs.Text.{end_text, workers_text}
use Rattle.cilk_log.specs.Reading.{number_in, behind, number_told, workers_in, count_in, steal_in, act_in, choice_by, choice_in}
use Rattle.cilk_log.proofs.Decimals.{decimal_digits, number_written, number_spelled}

-- ---- written

pub digits_run : (ds rest : List ℕ) → all_ascii_digits ds ≡ true → prefix_len is_ascii_digit (ds ++ 32 ∷ rest) ≡ length ds
digits_run [] rest e = refl
digits_run (b ∷ ds) rest e =
    let p = and_parts (is_ascii_digit b) (all_ascii_digits ds) e in
    rw (p.0, digits_run ds rest p.1) (omega arith)

abbrev deed_text : Act → List ℕ
deed_text step = codes "step"
deed_text pop = codes "pop"
deed_text (steal victim) = codes "steal " ++ decimal victim

deed : (act : Act) → act_text act ≡ 32 ∷ deed_text act
deed step = refl
deed pop = refl
deed (steal victim) = refl

act_written : (act : Act) → ActFits act → act_in (32 ∷ deed_text act) ≡ Some act
act_written step f = refl
act_written pop f = refl
act_written (steal victim) f = rw (number_written 255 victim (omega arith) (omega arith)) refl

pub choice_written : (choice : Choice) → ChoiceFits choice → choice_in (choice_text choice) ≡ Some choice
choice_written choice f =
    let w = decimal choice.worker in
    let d = deed_text choice.act in
    let digits = decimal_digits choice.worker (omega (arith, f.worker)) in
    let run : prefix_len is_ascii_digit (w ++ 32 ∷ d) ≡ length w = digits_run w d digits in
    rw (
      deed choice.act,
      run,
      take_at w (32 ∷ d) (length w) refl,
      drop_at w (32 ∷ d) (length w) refl,
      number_written 255 choice.worker
          (omega (arith, f.worker)) (omega (arith, f.worker)),
      act_written choice.act f.act,
    ) refl

pub count_written : (n : ℕ) → n < 2 ^ 64 → count_in (end_text n) ≡ Some n
count_written n h = number_written 18446744073709551615 n (omega arith) h

pub workers_written : (n : ℕ) → n < 256 → workers_in (workers_text n) ≡ Some n
workers_written n h = number_written 255 n (omega arith) (omega arith)

pub end_is_no_choice : (n : ℕ) → choice_in (end_text n) ≡ None
end_is_no_choice n = refl

-- ---- told

pub behind_told : (front text rest : List ℕ) → behind front text ≡ Some rest → text ≡ front ++ rest
behind_told front text rest e = at (bytes_eq (take (length front) text) front) refl e
  where
    at : (c : Bool) → bytes_eq (take (length front) text) front ≡ c → cond c (Some (drop (length front) text)) None ≡ Some rest → text ≡ front ++ rest
    at false h f = absurd cc
    at true h f =
        let same : take (length front) text ≡ front = (bytes_eq-Decides (take (length front) text) front).0 h in
        let others : drop (length front) text ≡ rest = cc in
        sym (take-append-drop (length front) text) ∙ ap (λ t. t ++ drop (length front) text) same ∙ ap (λ t. front ++ t) others

pub record TellsNumber (most : ℕ) (front text : List ℕ) (n : ℕ) : Type 0 where
  pub spelling : text ≡ front ++ decimal n
  pub small : n ≤ most

pub number_behind : (most : ℕ) (front text : List ℕ) (n : ℕ) → most < 2 ^ 64 → number_told most (behind front text) ≡ Some n → TellsNumber most front text n
number_behind most front text n h e = at (behind front text) refl e
  where
    at : (o : Option (List ℕ)) → behind front text ≡ o → number_told most o ≡ Some n → TellsNumber most front text n
    at None f g = absurd cc
    at (Some digits) f g =
        let s = number_spelled most digits n h g in
        record { spelling = behind_told front text digits f ∙ ap (λ t. front ++ t) s.spelling; small = s.small }

pub count_told : (line : List ℕ) (n : ℕ) → count_in line ≡ Some n → (line ≡ end_text n) × (n < 2 ^ 64)
count_told line n e = let t = number_behind 18446744073709551615 (codes "end ") line n (omega arith) e in (t.spelling, omega (arith, t.small))

pub workers_told : (line : List ℕ) (n : ℕ) → workers_in line ≡ Some n → (line ≡ workers_text n) × (n < 256)
workers_told line n e = let t = number_behind 255 (codes "workers ") line n (omega arith) e in (t.spelling, omega (arith, t.small))

record Does (text : List ℕ) (act : Act) : Type 0 where
  spelling : text ≡ act_text act
  fits : ActFits act

steal_told : (text : List ℕ) (act : Act) → steal_in text ≡ Some act → Does text act
steal_told text act e = at (number_told 255 (behind (codes " steal ") text)) refl e
  where
    at : (o : Option ℕ) → number_told 255 (behind (codes " steal ") text) ≡ o → option_map steal o ≡ Some act → Does text act
    at None f g = absurd cc
    at (Some victim) f g =
        let t = number_behind 255 (codes " steal ") text victim (omega arith) f in
        let same : steal victim ≡ act = cc in
        rw (← same) (record { spelling = t.spelling; fits = omega (arith, t.small) })

act_told : (text : List ℕ) (act : Act) → act_in text ≡ Some act → Does text act
act_told text act e = at (bytes_eq text (codes " step")) refl (bytes_eq text (codes " pop")) refl e
  where
    at : (c : Bool) → bytes_eq text (codes " step") ≡ c → (d : Bool) → bytes_eq text (codes " pop") ≡ d
        → cond c (Some step) (cond d (Some pop) (steal_in text)) ≡ Some act → Does text act
    at true s d p f =
        let same : step ≡ act = cc in
        rw (← same) (record { spelling = (bytes_eq-Decides text (codes " step")).0 s; fits = tt })
    at false s true p f =
        let same : pop ≡ act = cc in
        rw (← same) (record { spelling = (bytes_eq-Decides text (codes " pop")).0 p; fits = tt })
    at false s false p f = steal_told text act f

pub record Chooses (line : List ℕ) (choice : Choice) : Type 0 where
  pub text : line ≡ choice_text choice
  pub fits : ChoiceFits choice

pub choice_told : (line : List ℕ) (choice : Choice) → choice_in line ≡ Some choice → Chooses line choice
choice_told line choice e = at (number_in 255 (take n line)) refl (act_in (drop n line)) refl e
  where
    n : ℕ
    n = prefix_len is_ascii_digit line

    at : (w : Option ℕ) → number_in 255 (take n line) ≡ w → (a : Option Act) → act_in (drop n line) ≡ a → choice_by w a ≡ Some choice → Chooses line choice
    at None f a g h = absurd cc
    at (Some worker) f None g h = absurd cc
    at (Some worker) f (Some act) g h =
        let s = number_spelled 255 (take n line) worker (omega arith) f in
        let d = act_told (drop n line) act g in
        let same : record { worker = worker; act = act } ≡ choice = cc in
        rw (← same) (record {
          text = sym (take-append-drop n line) ∙ ap (λ t. t ++ drop n line) s.spelling ∙ ap (λ t. decimal worker ++ t) d.spelling;
          fits = record { worker = omega (arith, s.small); act = d.fits };
        })
