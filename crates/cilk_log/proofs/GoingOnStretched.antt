-- How the lines behind the first stretches go on.
use Rattle.std.proofs.Common.{◌≡◌, ℕ, ◌+◌, ◌<◌, ◌≤◌, Bool, true, false, cond, List, [], ◌∷◌, ◌++◌, length, replicate, Option, Some, None, Result, Err, refl}
use Rattle.std.proofs.Common.{sym, ap, ◌∙◌, arith}
use Rattle.std.proofs.Common.{append_assoc, length-append, zero, suc, map}
use Rattle.std.proofs.lemmas.List.{length-replicate, map-append}
use Rattle.std.specs.Prelude.{nat_le}
use Rattle.std.proofs.lemmas.Bool.{le-leb, lt-leb}
use Rattle.cilk_sched.specs.model.Choice.{Choice}
use Rattle.cilk_sched.specs.declared.choice.Choice as code
use Rattle.cilk_sched.specs.Words.{choice_of}
use Rattle.cilk_log.specs.Stretches.{Stretch, choices_of, count_of, are_joined, following}
use Rattle.cilk_log.specs.Text.{most_choices}
use Rattle.cilk_log.specs.Reading.{Lines, Fault, too_many, Stretched, behind_choice, in_front, stretched_by, stretched_in, stretch_in, count_in}
use Rattle.cilk_log.specs.Reading.{counted, ended}
use Rattle.cilk_log.proofs.GoingOn.{append_nil}

-- what lines tell behind that of a choice, if there is one
abbrev pub told_behind : Option Choice → List (List ℕ) → Stretched
told_behind None lines = stretched_in lines
told_behind (Some choice) lines = behind_choice choice lines (stretched_in lines)

abbrev pub ends_with : Bool → ℕ → List Choice → Stretched → List ℕ → Result (List Choice) Fault
ends_with false number choices told rest = Err too_many
ends_with true number choices told rest = ended (length told.stretches + number) (choices ++ choices_of told.stretches) told.others rest

-- the last choice, the number of the next line, and the choices so far
abbrev pub goes_on : Option Choice → ℕ → List Choice → Lines → Result (List Choice) Fault
goes_on last number choices lines =
    ends_with (nat_le (length choices + count_of (told_behind last lines.whole).stretches) most_choices) number choices (told_behind last lines.whole)
    lines.rest

-- ---- at a line

nothing_told : (last : Option Choice) (lines : List (List ℕ)) → stretched_in lines ≡ record { stretches = []; others = lines }
    → told_behind last lines ≡ record { stretches = []; others = lines }
nothing_told None lines e = e
nothing_told (Some choice) lines e = rw e refl

none_more : (number : ℕ) (choices : List Choice) (lines : Lines) → length choices ≤ most_choices
    → ends_with (nat_le (length choices + 0) most_choices) number choices (record { stretches = []; others = lines.whole }) lines.rest
    ≡ ended (0 + number) (choices ++ []) lines.whole lines.rest
none_more number choices lines m = rw (le-leb (length choices + 0) most_choices (omega arith)) refl

no_more : (last : Option Choice) (number : ℕ) (choices : List Choice) (lines : Lines)
    → told_behind last lines.whole ≡ record { stretches = []; others = lines.whole } → length choices ≤ most_choices
    → goes_on last number choices lines ≡ ended number choices lines.whole lines.rest
no_more last number choices lines e m =
    let zero_more : 0 + number ≡ number = omega arith in
    ap (λ (t : Stretched). ends_with (nat_le (length choices + count_of t.stretches) most_choices) number choices t lines.rest) e
    ∙ none_more number choices lines m
    ∙ ap (λ n. ended n (choices ++ []) lines.whole lines.rest) zero_more ∙ ap (λ cs. ended number cs lines.whole lines.rest) (append_nil choices)

-- no stretch may stand there
none_follows : (last : Option Choice) (line : List ℕ) (lines : List (List ℕ)) (o : Option Stretch) → stretch_in line ≡ o → following last o ≡ None
    → told_behind last (line ∷ lines) ≡ record { stretches = []; others = line ∷ lines }
none_follows last line lines None e f = nothing_told last (line ∷ lines) (rw e refl)
none_follows None line lines (Some s) e f = absurd cc
none_follows (Some choice) line lines (Some s) e f = at (are_joined choice s.choice) refl f
  where
    at : (b : Bool) → are_joined choice s.choice ≡ b → cond b None (Some s) ≡ None
        → told_behind (Some choice) (line ∷ lines) ≡ record { stretches = []; others = line ∷ lines }
    at true g h = rw (e, g) refl
    at false g h = absurd cc

pub last : (before : Option Choice) (number : ℕ) (choices : List Choice) (lines more : Lines) (line : List ℕ) → lines.whole ≡ line ∷ more.whole
    → lines.rest ≡ more.rest → following before (stretch_in line) ≡ None → length choices ≤ most_choices
    → goes_on before number choices lines ≡ counted (count_in line) number more.whole more.rest choices
last before number choices lines more line w r f m =
    let none : told_behind before lines.whole ≡ record { stretches = []; others = lines.whole } =
    rw w (none_follows before line more.whole (stretch_in line) refl f) in
    no_more before number choices lines none m ∙ (λ i. ended number choices (w i) (r i))

-- a stretch stands there
one_follows : (before : Option Choice) (line : List ℕ) (lines : List (List ℕ)) (s : Stretch) (o : Option Stretch) → stretch_in line ≡ o
    → following before o ≡ Some s → told_behind before (line ∷ lines) ≡ in_front s (told_behind (Some s.choice) lines)
one_follows before line lines s None e f = none_at before f
  where
    none_at : (b : Option Choice) → following b None ≡ Some s → told_behind before (line ∷ lines) ≡ in_front s (told_behind (Some s.choice) lines)
    none_at None g = absurd cc
    none_at (Some c) g = absurd cc
one_follows None line lines s (Some t) e f =
    let same : t ≡ s = cc in
    ap (λ (x : Option Stretch). stretched_by x line lines (stretched_in lines)) (e ∙ ap (λ (x : Stretch). Some x) same)
one_follows (Some choice) line lines s (Some t) e f = at (are_joined choice t.choice) refl f
  where
    at : (b : Bool) → are_joined choice t.choice ≡ b → cond b None (Some t) ≡ Some s
        → told_behind (Some choice) (line ∷ lines) ≡ in_front s (told_behind (Some s.choice) lines)
    at true g h = absurd cc
    at false g h = let same : t ≡ s = cc in rw (e, g) (ap (λ (x : Stretch). in_front x (told_behind (Some x.choice) lines)) same)

front_moved : (number : ℕ) (choices : List Choice) (s : Stretch) (told : Stretched) (rest : List ℕ) (b : Bool)
    → ends_with b number choices (in_front s told) rest ≡ ends_with b (number + 1) (choices ++ replicate s.times s.choice) told rest
front_moved number choices s told rest false = refl
front_moved number choices s told rest true =
    let n : length (s ∷ told.stretches) + number ≡ length told.stretches + (number + 1) = omega arith in
    let cs = append_assoc choices (replicate s.times s.choice) (choices_of told.stretches) in
    ap (λ k. ended k (choices ++ (replicate s.times s.choice ++ choices_of told.stretches)) told.others rest) n
    ∙ ap (λ l. ended (length told.stretches + (number + 1)) l told.others rest) (sym cs)

one_more : (number : ℕ) (choices : List Choice) (s : Stretch) (told : Stretched) (rest : List ℕ)
    → ends_with (nat_le (length choices + (s.times + count_of told.stretches)) most_choices) number choices (in_front s told) rest
    ≡ ends_with (nat_le (length (choices ++ replicate s.times s.choice) + count_of told.stretches) most_choices) (number + 1)
    (choices ++ replicate s.times s.choice) told rest
one_more number choices s told rest =
    let len = length-append choices (replicate s.times s.choice) in
    let rep = length-replicate s.times s.choice in
    let same : length choices + (s.times + count_of told.stretches) ≡ length (choices ++ replicate s.times s.choice) + count_of told.stretches =
    omega (arith, len, rep) in
    ap (λ n. ends_with (nat_le n most_choices) number choices (in_front s told) rest) same
    ∙ front_moved number choices s told rest (nat_le (length (choices ++ replicate s.times s.choice) + count_of told.stretches) most_choices)

pub another : (before : Option Choice) (number : ℕ) (choices : List Choice) (lines more : Lines) (line : List ℕ) (s : Stretch) → lines.whole ≡ line ∷ more.whole
    → lines.rest ≡ more.rest → following before (stretch_in line) ≡ Some s
    → goes_on before number choices lines ≡ goes_on (Some s.choice) (number + 1) (choices ++ replicate s.times s.choice) more
another before number choices lines more line s w r f =
    let told : told_behind before lines.whole ≡ in_front s (told_behind (Some s.choice) more.whole) =
    rw w (one_follows before line more.whole s (stretch_in line) refl f) in
    (λ i. ends_with (nat_le (length choices + count_of (told i).stretches) most_choices) number choices (told i) (r i))
    ∙ one_more number choices s (told_behind (Some s.choice) more.whole) more.rest

pub past_most : (before : Option Choice) (number : ℕ) (choices : List Choice) (lines more : Lines) (line : List ℕ) (s : Stretch)
    → lines.whole ≡ line ∷ more.whole → following before (stretch_in line) ≡ Some s → most_choices < length choices + s.times
    → goes_on before number choices lines ≡ Err too_many
past_most before number choices lines more line s w f m =
    let told : told_behind before lines.whole ≡ in_front s (told_behind (Some s.choice) more.whole) =
    rw w (one_follows before line more.whole s (stretch_in line) refl f) in
    let rest = count_of (told_behind (Some s.choice) more.whole).stretches in
    let past : nat_le (length choices + (s.times + rest)) most_choices ≡ false = lt-leb _ _ (omega arith) in
    ap (λ (t : Stretched). ends_with (nat_le (length choices + count_of t.stretches) most_choices) number choices t lines.rest) told
    ∙ ap (λ b. ends_with b number choices (in_front s (told_behind (Some s.choice) more.whole)) lines.rest) past

map_repeated : (n : ℕ) (choice : code.Choice) → map choice_of (replicate n choice) ≡ replicate n (choice_of choice)
map_repeated zero choice = refl
map_repeated (suc n) choice = ap (λ cs. choice_of choice ∷ cs) (map_repeated n choice)

-- the same, of the choices of the code
pub filled : (before : Option Choice) (number : ℕ) (old new : List code.Choice) (lines more : Lines) (line : List ℕ) (choice : code.Choice) (times : ℕ)
    → lines.whole ≡ line ∷ more.whole → lines.rest ≡ more.rest
    → following before (stretch_in line) ≡ Some (record { choice = choice_of choice; times = times }) → new ≡ old ++ replicate times choice
    → (goes_on before number (map choice_of old) lines ≡ goes_on (Some (choice_of choice)) (number + 1) (map choice_of new) more)
    × (length new ≡ length old + times)
filled before number old new lines more line choice times w r f n =
    let seen : map choice_of new ≡ map choice_of old ++ replicate times (choice_of choice) =
    ap (map choice_of) n ∙ map-append choice_of old (replicate times choice) ∙ ap (λ cs. map choice_of old ++ cs) (map_repeated times choice) in (
      another before number (map choice_of old) lines more line (record { choice = choice_of choice; times = times }) w r f
          ∙ ap (λ cs. goes_on (Some (choice_of choice)) (number + 1) cs more) (sym seen),
      ap length n ∙ length-append old (replicate times choice) ∙ ap (λ k. length old + k) (length-replicate times choice),
    )
