-- Words and names are told apart by their bytes.
use Rattle.std.proofs.Common.{◌≡◌, ◌≢◌, ℕ, Bool, true, false, ◌⊎◌, inl, inr, List, [], ◌∷◌, ◌++◌, length, take, Some, refl, sym, ap, ◌∙◌}
use Rattle.std.proofs.lemmas.Bool.{and_parts, and_from, or_left}
use Rattle.std.specs.Prelude.{bytes_eq}
use Rattle.std.specs.List.{list_all, prefix_len}
use Rattle.std.proofs.lemmas.List.{take_at}
use Rattle.std.proofs.lemmas.List.Sums.{prefix_len-le-length}
use Rattle.std.proofs.lemmas.Slice.Eq.{bytes_eq-Decides}
use Rattle.cilk_lex_tokens.specs.declared.keyword.Keyword.{Keyword}
use Rattle.cilk_lex_tokens.specs.declared.keyword.Keyword.TheVariants as key
use Rattle.cilk_lex_tokens.specs.Byte.{begins_name, continues_name}
use Rattle.cilk_lex_tokens.specs.Lexeme.{word, name}
use Rattle.cilk_lex_tokens.specs.Lexing.{Front, EndsBefore, of_word, of_name}
use Rattle.cilk_lex.specs.Sight.{found, word_in, all_words, named, name_sight}
use Rattle.cilk_lex_tokens.specs.Spelling.{spelling, has_name_form}
use Rattle.cilk_lex.proofs.Runs.{run_passes, run_ends, run_length, run_of}
use Rattle.cilk_lex.proofs.Shows.{Shows}

pub word_form : (k : Keyword) → has_name_form (spelling k) ≡ true
word_form key.Int = refl
word_form key.Void = refl
word_form key.If = refl
word_form key.Else = refl
word_form key.While = refl
word_form key.Do = refl
word_form key.For = refl
word_form key.Break = refl
word_form key.Continue = refl
word_form key.Return = refl
word_form key.Cilk = refl
word_form key.Spawn = refl
word_form key.Sync = refl
word_form key.Inlet = refl
word_form key.Abort = refl
word_form key.Synched = refl
word_form key.CilkLockvar = refl
word_form key.Switch = refl
word_form key.Case = refl
word_form key.Default = refl

pub named_word : (k : Keyword) → named (spelling k) ≡ word k
unfolding named word_in all_words
named_word key.Int = refl
named_word key.Void = refl
named_word key.If = refl
named_word key.Else = refl
named_word key.While = refl
named_word key.Do = refl
named_word key.For = refl
named_word key.Break = refl
named_word key.Continue = refl
named_word key.Return = refl
named_word key.Cilk = refl
named_word key.Spawn = refl
named_word key.Sync = refl
named_word key.Inlet = refl
named_word key.Abort = refl
named_word key.Synched = refl
named_word key.CilkLockvar = refl
named_word key.Switch = refl
named_word key.Case = refl
named_word key.Default = refl

-- what is found among some words
abbrev Told : List Keyword → List ℕ → Type 0
Told ks w = ((k : Keyword) × (w ≡ spelling k) × (word_in ks w ≡ word k)) ⊎ (word_in ks w ≡ name w)

told : (ks : List Keyword) (w : List ℕ) → Told ks w
unfolding word_in
told [] w = inr refl
told (k ∷ ks) w = at_word (bytes_eq w (spelling k)) refl (told ks w)
  where
    at_word : (c : Bool) → bytes_eq w (spelling k) ≡ c → Told ks w → Told (k ∷ ks) w
    at_word true e i = inl (k, (bytes_eq-Decides w (spelling k)).0 e, rw e refl)
    at_word false e (inl i) = inl (i.0, i.1, rw e i.2)
    at_word false e (inr i) = inr (rw e i)

pub named_name : (w : List ℕ) → ((k : Keyword) → w ≢ spelling k) → named w ≡ name w
unfolding named
named_name w h = is (told all_words w)
  where
    is : Told all_words w → word_in all_words w ≡ name w
    is (inl i) = absurd (h i.0 i.1)
    is (inr i) = i

no_word : (w : List ℕ) (k : Keyword) → named w ≡ name w → w ≢ spelling k
no_word w k e s = let h : word k ≡ name w = sym (named_word k) ∙ ap named (sym s) ∙ e in absurd cc

-- a name or a word, by what it is computed to be
pub named_front : (fresh : Bool) (w rest : List ℕ) → has_name_form w ≡ true → EndsBefore continues_name rest → Front fresh w rest (Some (named w))
unfolding named
named_front fresh w rest f e = is (told all_words w)
  where
    is : Told all_words w → Front fresh w rest (Some (word_in all_words w))
    is (inl i) = rw (i.2) (of_word i.0 i.1 e)
    is (inr i) = rw i (of_name (record { form = f; no_word = λ k. no_word w k i }) e)

-- ---- the front of a text that begins with a letter

pub name_form : (b : ℕ) (bs : List ℕ) → begins_name b ≡ true → has_name_form (take (prefix_len continues_name (b ∷ bs)) (b ∷ bs)) ≡ true
name_form b bs h =
    rw (run_of continues_name (b ∷ bs) b bs refl (or_left (begins_name b) _ h) _ refl) (and_from (begins_name b) _ h (run_passes continues_name bs))

pub name_sees : (fresh : Bool) (at b : ℕ) (bs : List ℕ) → begins_name b ≡ true → Shows fresh at (b ∷ bs) (name_sight (b ∷ bs))
unfolding name_sight
name_sees fresh at b bs h = (prefix_len-le-length continues_name (b ∷ bs), named_front fresh _ _ (name_form b bs h) (run_ends continues_name (b ∷ bs)))

pub name_passes : (w : List ℕ) → has_name_form w ≡ true → list_all continues_name w ≡ true
name_passes [] h = absurd cc
name_passes (b ∷ bs) h =
    let p = and_parts (begins_name b) (list_all continues_name bs) h in
    and_from (continues_name b) _ (or_left (begins_name b) _ p.0) p.1

pub name_sight_of : (w rest : List ℕ) → has_name_form w ≡ true → EndsBefore continues_name rest → name_sight (w ++ rest) ≡ found (length w) (Some (named w))
unfolding name_sight
name_sight_of w rest h e = rw (run_length continues_name w rest (name_passes w h) e, take_at w rest (length w) refl) refl
