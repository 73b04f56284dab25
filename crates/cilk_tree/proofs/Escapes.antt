-- What escapes do to characters.
use Rattle.std.proofs.Common.{◌≡◌, ◌≢◌, ℕ, suc, ◌<◌, List, [], ◌∷◌, ◌++◌, length, get_or, refl, sym, ◌∙◌, append_assoc, append-nil, arith}
use Rattle.std.proofs.lemmas.Bool.Decides.{nat_tests}
use Rattle.std.specs.Char.{encode_utf8}
use Rattle.std.proofs.lemmas.Str.{inside_one}
use Rattle.cilk_tree_syntax.specs.MoveText.{escape, escapes}

pub escapes-append : (xs ys : List ℕ) → escapes (xs ++ ys) ≡ escapes xs ++ escapes ys
escapes-append [] ys = refl
escapes-append (x ∷ xs) ys = rw (escapes-append xs ys) (sym (append_assoc (escape x) (escapes xs) (escapes ys)))

-- a byte that is written as it is
pub record Plain (b : ℕ) : Type 0 where
  pub newline : b ≢ 10
  pub tab : b ≢ 9
  pub backslash : b ≢ 92
  pub quote : b ≢ 34

escape-plain : (b : ℕ) → Plain b → escape b ≡ b ∷ []
escape-plain b plain = grind (arith, nat_tests, plain.newline, plain.tab, plain.backslash, plain.quote)

escapes-plain : (bs : List ℕ) → ((k : ℕ) → k < length bs → Plain (get_or bs k 0)) → escapes bs ≡ bs
escapes-plain [] plain = refl
escapes-plain (b ∷ bs) plain =
    let first = escape-plain b (plain 0 (omega arith)) in
    let others = escapes-plain bs (λ k below. plain (suc k) (omega arith)) in
    rw (first, others) refl

-- each byte of a character is the character itself, or no ASCII
plain_inside : (c k b : ℕ) → Plain c → (b < 128 → c ≡ b) → Plain b
plain_inside c k b plain inside = record {
  newline = λ e. plain.newline (inside (omega arith) ∙ e);
  tab = λ e. plain.tab (inside (omega arith) ∙ e);
  backslash = λ e. plain.backslash (inside (omega arith) ∙ e);
  quote = λ e. plain.quote (inside (omega arith) ∙ e);
}

-- the bytes of a character that is written as it is are written as they are
pub escapes-encode : (c : ℕ) → Plain c → escapes (encode_utf8 c) ≡ encode_utf8 c
escapes-encode c plain =
    escapes-plain (encode_utf8 c)
    (λ k below. plain_inside c k (get_or (encode_utf8 c) k 0) plain
    (inside_one c [] (encode_utf8 c) k (sym (append-nil (encode_utf8 c))) below))
