-- The next token compared by its kind, and by its class.
use Rattle.std.proofs.Common.{◌≡◌, ℕ, ◌==◌, ◌≤◌, ap, ◌∙◌, arith, length, slice_index_or, false, List, [], ◌∷◌, Some, refl, sym}
use Rattle.std.specs.Option.{option_eq}
use Rattle.std.proofs.lemmas.Bool.{eqb-true, false_from_ne_true}
use Rattle.cilk_tree_syntax.specs.lexeme.Lexeme.{Lexeme, Piece, word, name, number, mark, literal, inclusion, lexeme_of, piece_of, pieces_of}
use Rattle.cilk_tree_syntax.specs.lexeme.contracts.token.TokenKindPartialEq.TheImpl.{eq-value}
use Rattle.cilk_tree_syntax.specs.lexeme.declared.keyword.Keyword.{Keyword}
use Rattle.cilk_tree_syntax.specs.lexeme.declared.mark.Mark.{Mark}
use Rattle.cilk_tree_syntax.specs.lexeme.declared.token.TokenKind.{TokenKind}
use Rattle.cilk_tree_syntax.specs.lexeme.declared.token.TokenKind.TheVariants as kind
use Rattle.cilk_tree_syntax.specs.lexeme.declared.token.Token.{Token}
use Rattle.cilk_parse_grammar.specs.Rule.{is, behind, class_at}
use Rattle.cilk_parse_grammar.specs.Classes.{a_word, a_mark, class_of, cls}
use Rattle.cilk_parse_grammar.specs.Front.{kind_of, kind_at}
use Rattle.cilk_parse_grammar.proofs.ClassFacts.{compared_words, compared_marks, word_lexeme, mark_lexeme}

other_mark : (w : Mark) (l : Lexeme) → (l ≡ mark w → ⊥) → false ≡ (a_mark w == class_of l)
other_mark w l h = sym (false_from_ne_true _ (λ e. h (mark_lexeme l w (sym (eqb-true (a_mark w) (class_of l) e)))))

same_mark : (w : Mark) (l : Lexeme) → eq-value.it (kind_of l) (kind.Mark w) ≡ (a_mark w == class_of l)
same_mark w (mark m) = compared_marks w m _ refl
same_mark w (word v) = other_mark w (word v) (λ e. cc)
same_mark w (name x) = other_mark w (name x) (λ e. cc)
same_mark w (number n) = other_mark w (number n) (λ e. cc)
same_mark w (literal b) = other_mark w (literal b) (λ e. cc)
same_mark w (inclusion h) = other_mark w (inclusion h) (λ e. cc)

pub is_mark : (w : Mark) (ts : List Piece) → option_eq eq-value.it (kind_at ts) (Some (kind.Mark w)) ≡ is (a_mark w) (class_at cls ts)
is_mark w [] = refl
is_mark w (t ∷ ts) = same_mark w t.lexeme

other_word : (w : Keyword) (l : Lexeme) → (l ≡ word w → ⊥) → false ≡ (a_word w == class_of l)
other_word w l h = sym (false_from_ne_true _ (λ e. h (word_lexeme l w (sym (eqb-true (a_word w) (class_of l) e)))))

same_word : (w : Keyword) (l : Lexeme) → eq-value.it (kind_of l) (kind.Word w) ≡ (a_word w == class_of l)
same_word w (word v) = compared_words w v _ refl
same_word w (mark m) = other_word w (mark m) (λ e. cc)
same_word w (name x) = other_word w (name x) (λ e. cc)
same_word w (number n) = other_word w (number n) (λ e. cc)
same_word w (literal b) = other_word w (literal b) (λ e. cc)
same_word w (inclusion h) = other_word w (inclusion h) (λ e. cc)

pub is_word : (w : Keyword) (ts : List Piece) → option_eq eq-value.it (kind_at ts) (Some (kind.Word w)) ≡ is (a_word w) (class_at cls ts)
is_word w [] = refl
is_word w (t ∷ ts) = same_word w t.lexeme

kind_again : (bytes : List ℕ) (k : TokenKind) → kind_of (lexeme_of bytes k) ≡ k
kind_again bytes (kind.Word w) = refl
kind_again bytes kind.Name = refl
kind_again bytes (kind.Number n) = refl
kind_again bytes (kind.Mark m) = refl
kind_again bytes kind.Text = refl
kind_again bytes (kind.Include h) = refl

pub second_mark : (w : Mark) (text : List ℕ) (ts : List Token) (d : Token) → 2 ≤ length ts
    → eq-value.it (slice_index_or ts 1 d).kind (kind.Mark w) ≡ is (a_mark w) (class_at cls (behind (pieces_of text ts)))
second_mark w text [] d le = absurd (omega (arith, le))
second_mark w text (t ∷ []) d le = absurd (omega (arith, le))
second_mark w text (t ∷ u ∷ ts) d le = ap (λ (k : TokenKind). eq-value.it k (kind.Mark w)) (sym (kind_again _ u.kind)) ∙ same_mark w (piece_of text u).lexeme
