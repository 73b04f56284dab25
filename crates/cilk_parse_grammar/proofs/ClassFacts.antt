-- Classes of tokens tell them apart.
use Rattle.std.proofs.Common.{◌≡◌, ℕ, ◌==◌, Bool, true, false, if◌then◌else◌, List, [], ◌∷◌, codes, get_or, Some, refl, sym, ap, ◌∙◌, eq-eqb, nat_lt, ◌-◌}
use Rattle.std.proofs.lemmas.Bool.{eqb-true}
use Rattle.std.specs.Str.{bytes_eq}
use denote.Enum.Bare.{sameb, same_true, same_false}
use Rattle.cilk_parse_grammar.specs.Rule.{has}
use Rattle.cilk_tree_syntax.specs.lexeme.Lexeme.{Lexeme, word, name, number, mark, literal, inclusion}
use Rattle.cilk_tree_syntax.specs.lexeme.contracts.keyword.Keyword as keyword_type
use Rattle.cilk_tree_syntax.specs.lexeme.contracts.mark.Mark as mark_type
use Rattle.cilk_tree_syntax.specs.lexeme.declared.header.Header.TheVariants as headers
use Rattle.cilk_tree_syntax.specs.lexeme.declared.keyword.Keyword.{Keyword}
use Rattle.cilk_tree_syntax.specs.lexeme.declared.keyword.Keyword.TheVariants as words
use Rattle.cilk_tree_syntax.specs.lexeme.declared.mark.Mark.{Mark}
use Rattle.cilk_tree_syntax.specs.lexeme.declared.mark.Mark.TheVariants as marks
use Rattle.cilk_tree_syntax.specs.lexeme.declared.token.TokenKind.{TokenKind}
use Rattle.cilk_tree_syntax.specs.lexeme.declared.token.TokenKind.TheVariants as kind
use Rattle.cilk_tree_syntax.specs.declared.un_op.UnOp.{UnOp}
use Rattle.cilk_parse_grammar.specs.Classes.{a_word, a_mark, name_class, class_of, names, the_main, the_char, the_printf, the_lock_init, the_lock}
use Rattle.cilk_parse_grammar.specs.Classes.{the_unlock, other_name}
use Rattle.cilk_parse_grammar.specs.Operators.{prefixes, sign_of}
use Rattle.cilk_parse_grammar.specs.Front.{kind_of}
use Rattle.cilk_parse_grammar.proofs.Tables.{found_class}

-- ---- what has a class

unfoldable pub all_words : List Keyword
all_words =
    words.Int ∷ words.Void ∷ words.If ∷ words.Else ∷ words.While ∷ words.Do ∷ words.For ∷ words.Break ∷ words.Continue ∷ words.Return
    ∷ words.Cilk ∷ words.Spawn ∷ words.Sync ∷ words.Inlet ∷ words.Abort ∷ words.Synched ∷ words.CilkLockvar ∷ words.Switch
    ∷ words.Case ∷ words.Default ∷ []

unfoldable pub all_marks : List Mark
all_marks =
    marks.OpenParenthesis ∷ marks.CloseParenthesis ∷ marks.OpenBrace ∷ marks.CloseBrace ∷ marks.Semicolon ∷ marks.Comma ∷ marks.Assign ∷ marks.Plus
    ∷ marks.Minus ∷ marks.Star ∷ marks.OpenBracket ∷ marks.CloseBracket ∷ marks.Question ∷ marks.Colon ∷ marks.Slash ∷ marks.Percent
    ∷ marks.Ampersand ∷ marks.Bar ∷ marks.Caret ∷ marks.Tilde ∷ marks.Exclamation ∷ marks.Less ∷ marks.Greater ∷ marks.ShiftLeft
    ∷ marks.ShiftRight ∷ marks.LessOrEqual ∷ marks.GreaterOrEqual ∷ marks.Equal ∷ marks.NotEqual ∷ marks.And ∷ marks.Or ∷ marks.Increment
    ∷ marks.Decrement ∷ marks.AddAssign ∷ marks.SubtractAssign ∷ marks.MultiplyAssign ∷ marks.DivideAssign ∷ marks.RemainderAssign
    ∷ marks.ShiftLeftAssign ∷ marks.ShiftRightAssign
    ∷ marks.BitAndAssign ∷ marks.BitXorAssign ∷ marks.BitOrAssign ∷ []

-- the kind of the tokens of a class
unfoldable pub back : ℕ → TokenKind
back c =
    if nat_lt c 20 then kind.Word (get_or all_words c words.Int) else (
    if nat_lt c 63 then kind.Mark (get_or all_marks (c - 20) marks.Comma) else (
    if nat_lt c 70 then kind.Name else (if c == 70 then kind.Number 0 else (if c == 71 then kind.Text else kind.Include headers.Cilk))))

-- a kind, without what the classes do not tell
unfoldable pub plain : TokenKind → TokenKind
plain (kind.Number n) = kind.Number 0
plain (kind.Include h) = kind.Include headers.Cilk
plain k = k

word_again : (w : Keyword) → back (a_word w) ≡ kind.Word w
unfolding back all_words
word_again words.Int = refl
word_again words.Void = refl
word_again words.If = refl
word_again words.Else = refl
word_again words.While = refl
word_again words.Do = refl
word_again words.For = refl
word_again words.Break = refl
word_again words.Continue = refl
word_again words.Return = refl
word_again words.Cilk = refl
word_again words.Spawn = refl
word_again words.Sync = refl
word_again words.Inlet = refl
word_again words.Abort = refl
word_again words.Synched = refl
word_again words.CilkLockvar = refl
word_again words.Switch = refl
word_again words.Case = refl
word_again words.Default = refl

mark_again : (m : Mark) → back (a_mark m) ≡ kind.Mark m
unfolding back all_marks
mark_again marks.OpenParenthesis = refl
mark_again marks.CloseParenthesis = refl
mark_again marks.OpenBrace = refl
mark_again marks.CloseBrace = refl
mark_again marks.Semicolon = refl
mark_again marks.Comma = refl
mark_again marks.Assign = refl
mark_again marks.Plus = refl
mark_again marks.Minus = refl
mark_again marks.Star = refl
mark_again marks.OpenBracket = refl
mark_again marks.CloseBracket = refl
mark_again marks.Question = refl
mark_again marks.Colon = refl
mark_again marks.Slash = refl
mark_again marks.Percent = refl
mark_again marks.Ampersand = refl
mark_again marks.Bar = refl
mark_again marks.Caret = refl
mark_again marks.Tilde = refl
mark_again marks.Exclamation = refl
mark_again marks.Less = refl
mark_again marks.Greater = refl
mark_again marks.ShiftLeft = refl
mark_again marks.ShiftRight = refl
mark_again marks.LessOrEqual = refl
mark_again marks.GreaterOrEqual = refl
mark_again marks.Equal = refl
mark_again marks.NotEqual = refl
mark_again marks.And = refl
mark_again marks.Or = refl
mark_again marks.Increment = refl
mark_again marks.Decrement = refl
mark_again marks.AddAssign = refl
mark_again marks.SubtractAssign = refl
mark_again marks.MultiplyAssign = refl
mark_again marks.DivideAssign = refl
mark_again marks.RemainderAssign = refl
mark_again marks.ShiftLeftAssign = refl
mark_again marks.ShiftRightAssign = refl
mark_again marks.BitAndAssign = refl
mark_again marks.BitXorAssign = refl
mark_again marks.BitOrAssign = refl

-- what each class of names has, each name has
each_name : (P : ℕ → Type 0) → P the_main → P the_char → P the_printf → P the_lock_init → P the_lock → P the_unlock → P other_name
    → (text : List ℕ) → P (name_class text)
each_name P p q r s t u v text =
    by (bytes_eq text (codes "main")) (bytes_eq text (codes "char")) (bytes_eq text (codes "printf"))
    (bytes_eq text (codes "Cilk_lock_init")) (bytes_eq text (codes "Cilk_lock")) (bytes_eq text (codes "Cilk_unlock"))
  where
    by : (a b c d e f : Bool)
        → P
        (if a then the_main else (if b then the_char else
        (if c then the_printf else (if d then the_lock_init else (if e then the_lock else (if f then the_unlock else other_name))))))
    by true b c d e f = p
    by false true c d e f = q
    by false false true d e f = r
    by false false false true e f = s
    by false false false false true f = t
    by false false false false false true = u
    by false false false false false false = v

pub names_are : (text : List ℕ) → has names (Some (name_class text)) ≡ true
names_are text = each_name (λ c. has names (Some c) ≡ true) refl refl refl refl refl refl refl text

pub again : (l : Lexeme) → back (class_of l) ≡ plain (kind_of l)
unfolding back plain
again (word w) = word_again w
again (name text) = each_name (λ c. back c ≡ kind.Name) refl refl refl refl refl refl refl text
again (number n) = refl
again (mark m) = mark_again m
again (literal bytes) = refl
again (inclusion h) = refl

plain_word : (l : Lexeme) (w : Keyword) → plain (kind_of l) ≡ kind.Word w → l ≡ word w
unfolding plain
plain_word (word v) w e = let h : v ≡ w = cc in ap word h
plain_word (name text) w e = absurd cc
plain_word (number n) w e = absurd cc
plain_word (mark m) w e = absurd cc
plain_word (literal bytes) w e = absurd cc
plain_word (inclusion h) w e = absurd cc

plain_mark : (l : Lexeme) (m : Mark) → plain (kind_of l) ≡ kind.Mark m → l ≡ mark m
unfolding plain
plain_mark (word v) m e = absurd cc
plain_mark (name text) m e = absurd cc
plain_mark (number n) m e = absurd cc
plain_mark (mark n) m e = let h : n ≡ m = cc in ap mark h
plain_mark (literal bytes) m e = absurd cc
plain_mark (inclusion h) m e = absurd cc

pub word_lexeme : (l : Lexeme) (w : Keyword) → class_of l ≡ a_word w → l ≡ word w
word_lexeme l w e = plain_word l w (sym (again l) ∙ ap back e ∙ word_again w)

pub mark_lexeme : (l : Lexeme) (m : Mark) → class_of l ≡ a_mark m → l ≡ mark m
mark_lexeme l m e = plain_mark l m (sym (again l) ∙ ap back e ∙ mark_again m)

-- ---- the program's comparisons

pub same_word : (v w : Keyword) → a_word v ≡ a_word w → v ≡ w
same_word v w e = let h : word v ≡ word w = word_lexeme (word v) w e in cc

pub same_mark : (m n : Mark) → a_mark m ≡ a_mark n → m ≡ n
same_mark m n e = let h : mark m ≡ mark n = mark_lexeme (mark m) n e in cc

pub compared_words : (w v : Keyword) (b : Bool) → sameb keyword_type.the_type v w ≡ b → b ≡ (a_word w == a_word v)
compared_words w v true h = sym (eq-eqb (a_word w) (a_word v) (ap a_word (sym (same_true keyword_type.the_type tt v w h))))
compared_words w v false h = apart (a_word w == a_word v) refl
  where
    apart : (c : Bool) → (a_word w == a_word v) ≡ c → false ≡ c
    apart true e = absurd (same_false keyword_type.the_type v w h (sym (same_word w v (eqb-true _ _ e))))
    apart false e = refl

pub compared_marks : (w m : Mark) (b : Bool) → sameb mark_type.the_type m w ≡ b → b ≡ (a_mark w == a_mark m)
compared_marks w m true h = sym (eq-eqb (a_mark w) (a_mark m) (ap a_mark (sym (same_true mark_type.the_type tt m w h))))
compared_marks w m false h = apart (a_mark w == a_mark m) refl
  where
    apart : (c : Bool) → (a_mark w == a_mark m) ≡ c → false ≡ c
    apart true e = absurd (same_false mark_type.the_type m w h (sym (same_mark w m (eqb-true _ _ e))))
    apart false e = refl

-- ---- a class of marks

by_kind : ℕ → TokenKind → Bool
by_kind c (kind.Mark m) = a_mark m == c
by_kind c _ = false

-- it is that of a mark
pub is_mark_class : ℕ → Bool
is_mark_class c = by_kind c (back c)

mark_by_kind : (c : ℕ) (k : TokenKind) → by_kind c k ≡ true → (m : Mark) × (a_mark m ≡ c)
unfolding by_kind
mark_by_kind c (kind.Mark m) e = (m, eqb-true (a_mark m) c e)
mark_by_kind c (kind.Word w) e = absurd cc
mark_by_kind c kind.Name e = absurd cc
mark_by_kind c (kind.Number n) e = absurd cc
mark_by_kind c kind.Text e = absurd cc
mark_by_kind c (kind.Include h) e = absurd cc

pub mark_of_class : (c : ℕ) → is_mark_class c ≡ true → (m : Mark) × (a_mark m ≡ c)
unfolding is_mark_class
mark_of_class c e = mark_by_kind c (back c) e

-- before an operand, operators are marks
pub a_sign : (c : ℕ) (o : UnOp) → sign_of c ≡ Some o → (m : Mark) × (a_mark m ≡ c)
unfolding is_mark_class by_kind back all_marks
a_sign c o e = mark_of_class c (found_class is_mark_class prefixes c o refl e)
