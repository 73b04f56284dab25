-- The lines of version 2, one behind the other.
use Rattle.std.proofs.Common.{◌≡◌, ℕ, List, [], ◌∷◌, ◌++◌, map, length, flat_map, Some, Result, Ok, Err, OnOk, codes, sym, ap, ◌∙◌, append_assoc, append-nil}
use Rattle.cilk_sched.specs.model.Choice.{Choice}
use Rattle.cilk_log.specs.Stretches.{stretches_of, stretch_text}
use Rattle.cilk_log.specs.Text.{workers_text, digest_text, end_text, lines_by, with_newline}

pub ok_by : {A E P Q : Type 0} (r : Result A E) → (P → Q) → OnOk r P → OnOk r Q
ok_by (Ok a) f p = f p
ok_by (Err e) f p = tt

last_line : (lines : List (List ℕ)) (line : List ℕ) → flat_map with_newline (lines ++ line ∷ []) ≡ flat_map with_newline lines ++ with_newline line
last_line [] line = append-nil (with_newline line)
last_line (first ∷ lines) line =
    ap (λ t. with_newline first ++ t) (last_line lines line) ∙ sym (append_assoc (with_newline first) (flat_map with_newline lines) (with_newline line))

in_turn : (old a b c d e : List ℕ) → old ++ a ++ b ++ c ++ d ++ e ≡ old ++ (a ++ (b ++ (c ++ (d ++ e))))
in_turn old a b c d e =
    append_assoc (old ++ a ++ b ++ c) d e ∙ append_assoc (old ++ a ++ b) c (d ++ e) ∙ append_assoc (old ++ a) b (c ++ (d ++ e))
    ∙ append_assoc old a (b ++ (c ++ (d ++ e)))

pub second_version : (old first second third fourth : List ℕ) (workers : ℕ) (digest : List ℕ) (choices : List Choice) (n : ℕ)
    → first ≡ old ++ codes "cilklog 2\n"
    → second ≡ first ++ with_newline (workers_text workers) → third ≡ second ++ with_newline (digest_text digest)
    → fourth ≡ third ++ flat_map with_newline (map stretch_text (stretches_of choices)) → n ≡ length choices
    → fourth ++ with_newline (end_text n) ≡ old ++ flat_map with_newline (lines_by (Some digest) workers choices)
second_version old first second third fourth workers digest choices n a b c d e =
    let lines = map stretch_text (stretches_of choices) in
    let whole : flat_map with_newline (lines ++ end_text (length choices) ∷ []) ≡ flat_map with_newline lines ++ with_newline (end_text (length choices)) =
    last_line lines (end_text (length choices)) in
    rw (d, c, b, a, e, whole)
    (in_turn old (codes "cilklog 2\n") (with_newline (workers_text workers)) (with_newline (digest_text digest)) (flat_map with_newline lines)
    (with_newline (end_text (length choices))))
