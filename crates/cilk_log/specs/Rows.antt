-- Worked rows: texts, and what they are read as.
use Rattle.std.specs.Prelude.{◌≡◌, refl, ℕ, List, [], ◌∷◌, ◌++◌, Some, None, Ok, Err, codes}
use Rattle.std.specs.Fmt.{digits}
use Rattle.cilk_sched.specs.model.Choice.{step, pop, steal}
use Rattle.cilk_log.specs.Text.{Log, log_text}
use Rattle.hex.specs.Hex.{decode_pairs, encode_with}
use Rattle.cilk_log.specs.Reading.{log_read, wrong_version, wrong_line, truncated, wrong_count, too_many}

-- the lines of the empty recorded schedule
written_empty : log_text (record { program = None; workers = 255; choices = [] }) ≡ codes "cilklog 1\nworkers 255\nend 0\n"
unfolding digits log_text
written_empty = refl

written : log_text
    (record {
      program = None;
      workers = 2;
      choices = record { worker = 1; act = step } ∷ record { worker = 2; act = steal 1 }
          ∷ record { worker = 1; act = pop } ∷ [];
    })
    ≡ codes "cilklog 1\nworkers 2\n1 step\n2 steal 1\n1 pop\nend 3\n"
unfolding digits log_text
written = refl

-- line 1 and line 2, and a line with no newline
cut : log_read (codes "cilklog 1\nworkers 2\n1 step") ≡ Err truncated
unfolding log_read
cut = refl

empty : log_read [] ≡ Err truncated
unfolding log_read
empty = refl

another_count : log_read (codes "cilklog 1\nworkers 2\n1 step\n1 step\n1 step\n1 step\n1 step\nend 4\n") ≡ Err wrong_count
unfolding log_read
another_count = refl

leading_zero : log_read (codes "cilklog 1\nworkers 2\n01 step\nend 1\n") ≡ Err (wrong_line 3)
unfolding log_read
leading_zero = refl

another_version : log_read (codes "cilklog 9\nworkers 2\nend 0\n") ≡ Err wrong_version
unfolding log_read
another_version = refl

behind_the_end : log_read (codes "cilklog 1\nworkers 2\n1 step\nend 1\n\n") ≡ Err (wrong_line 5)
unfolding log_read
behind_the_end = refl

bytes_behind_the_end : log_read (codes "cilklog 1\nworkers 2\n1 step\nend 1\n1") ≡ Err (wrong_line 5)
unfolding log_read
bytes_behind_the_end = refl

too_many_workers : log_read (codes "cilklog 1\nworkers 256\nend 0\n") ≡ Err (wrong_line 2)
unfolding log_read
too_many_workers = refl

count_too_large : log_read (codes "cilklog 1\nworkers 2\nend 18446744073709551616\n") ≡ Err (wrong_line 3)
unfolding log_read
count_too_large = refl

largest_count : log_read (codes "cilklog 1\nworkers 2\nend 18446744073709551615\n") ≡ Err wrong_count
unfolding log_read
largest_count = refl

no_choices : log_read (codes "cilklog 1\nworkers 255\nend 0\n") ≡ Ok (record { program = None; workers = 255; choices = [] })
unfolding log_read
no_choices = refl

worker_0 : log_read (codes "cilklog 1\nworkers 1\n0 step\nend 1\n")
    ≡ Ok (record { program = None; workers = 1; choices = record { worker = 0; act = step } ∷ [] })
unfolding log_read
worker_0 = refl

from_itself : log_read (codes "cilklog 1\nworkers 1\n1 steal 1\nend 1\n")
    ≡ Ok (record { program = None; workers = 1; choices = record { worker = 1; act = steal 1 } ∷ [] })
unfolding log_read
from_itself = refl

a_pop : log_read (codes "cilklog 1\nworkers 1\n1 pop\nend 1\n") ≡ Ok (record { program = None; workers = 1; choices = record { worker = 1; act = pop } ∷ [] })
unfolding log_read
a_pop = refl

two_spaces : log_read (codes "cilklog 1\nworkers 1\n1 steal  1\nend 1\n") ≡ Err (wrong_line 3)
unfolding log_read
two_spaces = refl

no_number : log_read (codes "cilklog 1\nworkers 1\n step\nend 1\n") ≡ Err (wrong_line 3)
unfolding log_read
no_number = refl

-- a wrong line is told before one that is cut off
wrong_before_cut : log_read (codes "cilklog 1\nworkers 1\n\n1 step") ≡ Err (wrong_line 3)
unfolding log_read
wrong_before_cut = refl

-- ---- version 2

abbrev pub digest : List ℕ
digest =
    0 ∷ 1 ∷ 2 ∷ 3 ∷ 4 ∷ 5 ∷ 6 ∷ 7 ∷ 8 ∷ 9 ∷ 10 ∷ 11 ∷ 12 ∷ 13 ∷ 14 ∷ 15
    ∷ 16 ∷ 17 ∷ 18 ∷ 19 ∷ 20 ∷ 21 ∷ 22 ∷ 23 ∷ 24 ∷ 25 ∷ 26 ∷ 27 ∷ 28 ∷ 29 ∷ 30 ∷ 31 ∷ []

abbrev pub head : List ℕ
head = codes "cilklog 2\nworkers 2\nprogram 000102030405060708090a0b0c0d0e0f101112131415161718191a1b1c1d1e1f\n"

abbrev pub stolen : Log
stolen = record {
  program = Some digest;
  workers = 2;
  choices = record { worker = 1; act = step } ∷ record { worker = 2; act = steal 1 } ∷ record { worker = 2; act = step }
      ∷ record { worker = 1; act = step } ∷ record { worker = 1; act = step } ∷ record { worker = 1; act = step } ∷ record { worker = 1; act = step } ∷ [];
}

written_stretches : log_text stolen ≡ head ++ codes "1 step\n2 steal 1\n2 step\n1 step 4\nend 7\n"
unfolding digits log_text encode_with
written_stretches = refl

read_stretches : log_read (head ++ codes "1 step\n2 steal 1\n2 step\n1 step 4\nend 7\n") ≡ Ok stolen
unfolding log_read decode_pairs encode_with
read_stretches = refl

no_second_line : log_read (codes "cilklog 2\n") ≡ Err truncated
unfolding log_read decode_pairs encode_with
no_second_line = refl

no_third_line : log_read (codes "cilklog 2\nworkers 2\n") ≡ Err truncated
unfolding log_read decode_pairs encode_with
no_third_line = refl

no_program : log_read (codes "cilklog 2\nworkers 2\n1 step\nend 1\n") ≡ Err (wrong_line 3)
unfolding log_read decode_pairs encode_with
no_program = refl

digits_63 : log_read (codes "cilklog 2\nworkers 2\nprogram 000102030405060708090a0b0c0d0e0f101112131415161718191a1b1c1d1e1\nend 0\n") ≡ Err (wrong_line 3)
unfolding log_read decode_pairs encode_with
digits_63 = refl

upper_case : log_read (codes "cilklog 2\nworkers 2\nprogram 000102030405060708090a0b0c0d0e0f101112131415161718191a1b1c1d1e1F\nend 0\n") ≡ Err (wrong_line 3)
unfolding log_read decode_pairs encode_with
upper_case = refl

one_step_counted : log_read (head ++ codes "1 step 1\nend 1\n") ≡ Err (wrong_line 4)
unfolding log_read decode_pairs encode_with
one_step_counted = refl

steps_with_zero : log_read (head ++ codes "1 step 02\nend 2\n") ≡ Err (wrong_line 4)
unfolding log_read decode_pairs encode_with
steps_with_zero = refl

steps_past_most : log_read (head ++ codes "1 step 10000001\nend 10000001\n") ≡ Err (wrong_line 4)
unfolding log_read decode_pairs encode_with
steps_past_most = refl

pops_counted : log_read (head ++ codes "1 pop 2\nend 2\n") ≡ Err (wrong_line 4)
unfolding log_read decode_pairs encode_with
pops_counted = refl

steps_apart : log_read (head ++ codes "1 step\n1 step 2\nend 3\n") ≡ Err (wrong_line 5)
unfolding log_read decode_pairs encode_with
steps_apart = refl

past_most : log_read (head ++ codes "1 step 10000000\n1 pop\n") ≡ Err too_many
unfolding log_read decode_pairs encode_with
past_most = refl

-- a wrong line is told where it stands before the one that tells one choice too many, and not where it stands behind that
wrong_before_past : log_read (head ++ codes "1 step 9999999\n1 step 2\n") ≡ Err (wrong_line 5)
unfolding log_read decode_pairs encode_with
wrong_before_past = refl

past_before_wrong : log_read (head ++ codes "1 step 10000000\n2 step 2\n\n") ≡ Err too_many
unfolding log_read decode_pairs encode_with
past_before_wrong = refl

count_of_lines : log_read (head ++ codes "1 step 3\nend 1\n") ≡ Err wrong_count
unfolding log_read decode_pairs encode_with
count_of_lines = refl

two_pops : log_read (head ++ codes "1 pop\n1 pop\nend 2\n")
    ≡ Ok (record { program = Some digest; workers = 2; choices = record { worker = 1; act = pop } ∷ record { worker = 1; act = pop } ∷ [] })
unfolding log_read decode_pairs encode_with
two_pops = refl

-- version 1 has a line for each step
steps_in_version_1 : log_read (codes "cilklog 1\nworkers 1\n1 step 2\nend 2\n") ≡ Err (wrong_line 3)
unfolding log_read
steps_in_version_1 = refl
