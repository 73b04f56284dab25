-- What is asked for, by what was found for a subcommand.
use Rattle.std.proofs.Common.{◌≡◌, ◌+◌, ◌-◌, ◌^◌, ◌<◌, ◌≤◌, ◌∙◌, arith, refl, sym, ℕ, Bool, true, false, List, Option, Some, None, codes, cond, option_map}
use Rattle.std.specs.Prelude.{◌≢◌, Decides, MatchBool, option_and_then, unwrap_or}
use Rattle.std.specs.Str.{bytes_eq}
use Rattle.std.specs.Str.Parse.{IsNumeral, ParsesBool, digits_value, false_text, true_text, without_leading_plus}
use Rattle.std.proofs.lemmas.Slice.Eq.{bytes_eq-Decides}
use Rattle.clap.specs.ValueTests.{is_unsigned_in}
use Rattle.clap.specs.Words.{ReadsOne, Row, Text, first_of, first_value, one_of, one_text, rows_of, subcommand_name_of, subcommand_rows_of}
use Rattle.clap.specs.declared.builder.value_parser.ValueParser.TheVariants.{Unsigned}
use Rattle.clap.specs.declared.parser.matches.ArgMatches.{ArgMatches}
use Rattle.clap.specs.declared.parser.matches.ArgMatches.TheViews.{out-ArgMatches}
use Rattle.clap.specs.declared.parser.matches.Found.{Found}
use Rattle.clap.proofs.ValueTestLemmas.{Accepts-accepts, accepts-Accepts}
use Rattle.clap.proofs.WalkLemmas.{first_value-rows, one_text-rows}
use Rattle.cilk_words.specs.CommandLine.{Wanted, run, explored, is_set, number_to, request_for, request_of}
use Rattle.cilk_words.specs.CommandLine.{explore_of, run_of, text_for, wanted_of, word_of}

-- ---- the subcommand that was met

fused : {X Y Z : Type 0} (f : X → Y) (h : Y → Z) (o : Option X) → option_map (λ x. h (f x)) o ≡ option_map h (option_map f o)
fused f h None = refl
fused f h (Some x) = refl

both_are : (sub : Option (Text × List Row)) (name : Text) (rows : List Row) → option_map (λ s. s.0) sub ≡ Some name → option_map (λ s. s.1) sub ≡ Some rows
    → sub ≡ Some (name, rows)
both_are None name rows named given = cc
both_are (Some s) name rows named given =
    let name_is : s.0 ≡ name = cc in
    let rows_are : s.1 ≡ rows = cc in
    λ i. Some (name_is i, rows_are i)

-- a name and what was found are those of the subcommand
pub met : (m : ArgMatches) (name : Text) (f : Found) → Some name ≡ subcommand_name_of m → Some (rows_of f) ≡ option_map (λ s. s.1) (subcommand_rows_of m)
    → subcommand_rows_of m ≡ Some (name, rows_of f)
met m name f named given =
    let names : subcommand_name_of m ≡ option_map (λ s. s.0) (subcommand_rows_of m) = fused _ _ (out-ArgMatches m).subcommand in
    both_are (subcommand_rows_of m) name (rows_of f) (sym names ∙ sym named) (sym given)

-- what is wanted and a name, as they were found, for a subcommand of this name are what is asked for, with its flag
pub named_request : (name : Text) (f : Found) (wanted : Option Wanted) (file : Option Text) → wanted ≡ wanted_of name (rows_of f)
    → file ≡ text_for name (rows_of f) → request_for wanted file (is_set (one_of (codes "explain") (rows_of f))) ≡ request_of (name, rows_of f)
named_request name f wanted file wanted_is file_is = rw (wanted_is, file_is) refl

-- the text or the log that was named, or none
pub value_given : (f : Found) (name : Text) (value : Option Text) → value ≡ first_value f name → value ≡ first_of name (rows_of f)
value_given f name value is = rw (← first_value-rows f name) is

-- ---- the numbers of a run

abbrev ReadsBelow : ℕ → Text → Type 0
ReadsBelow bound word = IsNumeral 10 (without_leading_plus word) × (digits_value 10 (without_leading_plus word) < bound)

module _ (bound most : ℕ) (is : bound ≡ most + 1) (fits : bound ≤ 2 ^ 64) where
  reads : (word : Option Text) (n : ℕ) → (word ≡ None → Some n ≡ None)
      → ((t : Text) → word ≡ Some t → ReadsBelow bound t × (n ≡ digits_value 10 (without_leading_plus t)))
      → option_and_then (number_to most) word ≡ Some n
  reads None n none value = let bad = none refl in cc
  reads (Some t) n none value =
      let read = value t refl in
      let within : is_unsigned_in 0 most t
      ≡ true = Accepts-accepts false (Unsigned 0 most) t
      (read.0.0, omega arith, omega (arith, is, read.0.1), omega (arith, is, fits, read.0.1)) in
      rw (within, read.1) refl

  abbrev number_if : Bool → Text → Option ℕ
  number_if accepted word = cond accepted (Some (digits_value 10 (without_leading_plus word))) None

  unread : (word : Option Text) → ((t : Text) → word ≡ Some t → ReadsBelow bound t → ⊥) → option_and_then (number_to most) word ≡ None
  unread None fails = refl
  unread (Some t) fails = go (is_unsigned_in 0 most t) (λ accepted.
      let read = accepts-Accepts false (Unsigned 0 most) t accepted in
      fails t refl (read.0, omega (arith, is, read.1)))
    where
      go : (accepted : Bool) → (accepted ≡ true → ⊥) → number_if accepted t ≡ None
      go true fails = absurd (fails refl)
      go false fails = refl

-- a number that was found is the one that the word says
pub workers_read : (f : Found) (n : ℕ) → (one_text f (codes "workers") ≡ None → Some n ≡ None)
    → ((t : Text) → one_text f (codes "workers") ≡ Some t → ReadsBelow (2 ^ 8) t × (n ≡ digits_value 10 (without_leading_plus t)))
    → option_and_then (number_to (2 ^ 8 - 1)) (one_of (codes "workers") (rows_of f)) ≡ Some n
workers_read f n none value =
    rw (← one_text-rows f (codes "workers")) (reads (2 ^ 8) (2 ^ 8 - 1) refl (omega arith) (one_text f (codes "workers")) n none value)

pub limit_read : (f : Found) (n : ℕ) → (one_text f (codes "limit") ≡ None → Some n ≡ None)
    → ((t : Text) → one_text f (codes "limit") ≡ Some t → ReadsBelow (2 ^ 32) t × (n ≡ digits_value 10 (without_leading_plus t)))
    → option_and_then (number_to (2 ^ 32 - 1)) (one_of (codes "limit") (rows_of f)) ≡ Some n
limit_read f n none value = rw (← one_text-rows f (codes "limit")) (reads (2 ^ 32) (2 ^ 32 - 1) refl (omega arith) (one_text f (codes "limit")) n none value)

-- and where none was found, it says none
pub no_workers : (f : Found) → ((t : Text) → one_text f (codes "workers") ≡ Some t → ReadsBelow (2 ^ 8) t → ⊥)
    → option_and_then (number_to (2 ^ 8 - 1)) (one_of (codes "workers") (rows_of f)) ≡ None
no_workers f fails = rw (← one_text-rows f (codes "workers")) (unread (2 ^ 8) (2 ^ 8 - 1) refl (omega arith) (one_text f (codes "workers")) fails)

pub no_limit : (f : Found) → ((t : Text) → one_text f (codes "limit") ≡ Some t → ReadsBelow (2 ^ 32) t → ⊥)
    → option_and_then (number_to (2 ^ 32 - 1)) (one_of (codes "limit") (rows_of f)) ≡ None
no_limit f fails = rw (← one_text-rows f (codes "limit")) (unread (2 ^ 32) (2 ^ 32 - 1) refl (omega arith) (one_text f (codes "limit")) fails)

-- the same of a number that may be left out
pub word_read : (f : Found) (name : Text) (n : ℕ) → (one_text f name ≡ None → Some n ≡ None)
    → ((t : Text) → one_text f name ≡ Some t → ReadsBelow (2 ^ 32) t × (n ≡ digits_value 10 (without_leading_plus t)))
    → word_of (one_of name (rows_of f)) ≡ Some n
word_read f name n none value = rw (← one_text-rows f name) (reads (2 ^ 32) (2 ^ 32 - 1) refl (omega arith) (one_text f name) n none value)

pub no_word : (f : Found) (name : Text) → ((t : Text) → one_text f name ≡ Some t → ReadsBelow (2 ^ 32) t → ⊥) → word_of (one_of name (rows_of f)) ≡ None
no_word f name fails = rw (← one_text-rows f name) (unread (2 ^ 32) (2 ^ 32 - 1) refl (omega arith) (one_text f name) fails)

-- the run of these numbers
pub run_given : (workers limit log seed runs : Option Text) (n k : ℕ) → option_and_then (number_to (2 ^ 8 - 1)) workers ≡ Some n
    → option_and_then (number_to (2 ^ 32 - 1)) limit ≡ Some k → run_of workers limit log seed runs ≡ Some (run n k log (word_of seed) (word_of runs))
run_given workers limit log seed runs n k crew within = rw (crew, within) refl

pub no_crew : (workers limit log seed runs : Option Text) → option_and_then (number_to (2 ^ 8 - 1)) workers ≡ None
    → run_of workers limit log seed runs ≡ None
no_crew workers limit log seed runs none = rw (none) refl

pub no_end : (workers limit log seed runs : Option Text) (n : ℕ) → option_and_then (number_to (2 ^ 8 - 1)) workers ≡ Some n
    → option_and_then (number_to (2 ^ 32 - 1)) limit ≡ None → run_of workers limit log seed runs ≡ None
no_end workers limit log seed runs n crew none = rw (crew, none) refl

-- ---- an exploration

pub explore_given : (workers limit logs : Option Text) (n k : ℕ) → option_and_then (number_to (2 ^ 8 - 1)) workers ≡ Some n
    → option_and_then (number_to (2 ^ 32 - 1)) limit ≡ Some k → explore_of workers limit logs ≡ Some (explored n k logs)
explore_given workers limit logs n k crew within = rw (crew, within) refl

pub explored_by_none : (workers limit logs : Option Text) → option_and_then (number_to (2 ^ 8 - 1)) workers ≡ None → explore_of workers limit logs ≡ None
explored_by_none workers limit logs none = rw (none) refl

pub explored_without_end : (workers limit logs : Option Text) (n : ℕ) → option_and_then (number_to (2 ^ 8 - 1)) workers ≡ Some n
    → option_and_then (number_to (2 ^ 32 - 1)) limit ≡ None → explore_of workers limit logs ≡ None
explored_without_end workers limit logs n crew none = rw (crew, none) refl

-- ---- whether a flag is given

read_flag : (word : Text) (given : Bool) → MatchBool given (word ≡ true_text) (word ≡ false_text) → given ≡ bytes_eq word (codes "true")
read_flag word true is = rw is refl
read_flag word false is = rw is refl

unread_flag : (word : Text) → word ≢ true_text → false ≡ bytes_eq word (codes "true")
unread_flag word apart = go (bytes_eq word (codes "true")) (bytes_eq-Decides word (codes "true"))
  where
    go : (b : Bool) → Decides b (word ≡ true_text) → false ≡ b
    go true same = absurd (apart (same.0 refl))
    go false other = refl

flag_of : (E : Type 0) (word : Option Text) (given : Option Bool) → (word ≡ None → given ≡ None)
    → ((t : Text) → word ≡ Some t → ReadsOne (ParsesBool {E = E}) t given) → unwrap_or given false ≡ is_set word
flag_of E None given none value = rw (none refl) refl
flag_of E (Some t) None none value = unread_flag t (value t refl).1.0
flag_of E (Some t) (Some given) none value = read_flag t given (value t refl)

-- the flag is given where its text says so
pub flag_given : (E : Type 0) (f : Found) (name : Text) (given : Option Bool) → (one_text f name ≡ None → given ≡ None)
    → ((t : Text) → one_text f name ≡ Some t → ReadsOne (ParsesBool {E = E}) t given)
    → unwrap_or given false ≡ is_set (one_of name (rows_of f))
flag_given E f name given = rw (← one_text-rows f name) (flag_of E (one_text f name) given)
