-- What stands at the front of the tokens.
use Rattle.std.proofs.Common.{◌≡◌, ℕ, suc, ◌<◌, ◌≤◌, true, List, [], ◌∷◌, length, Option, Some, None, Ok, refl, sym, ap, arith, eq-eqb}
use Rattle.std.proofs.lemmas.Bool.{eqb-true}
use Rattle.cilk_tree_syntax.specs.lexeme.Lexeme.{Lexeme, Piece, word, name, number, mark, literal, inclusion}
use Rattle.cilk_tree_syntax.specs.lexeme.declared.keyword.Keyword.{Keyword}
use Rattle.cilk_tree_syntax.specs.lexeme.declared.mark.Mark.{Mark}
use Rattle.cilk_tree_syntax.specs.lexeme.declared.token.TokenKind.{TokenKind}
use Rattle.cilk_tree_syntax.specs.lexeme.declared.token.TokenKind.TheVariants as kind
use Rattle.cilk_tree_syntax.specs.Tree as tree
use Rattle.cilk_parse_grammar.specs.Rule.{is, behind, class_at, token_at}
use Rattle.cilk_parse_grammar.proofs.RulesTools.{ok_is}
use Rattle.cilk_parse_grammar.proofs.Tokens.{token_is, token_here}
use Rattle.cilk_parse_grammar.specs.declared.operator.Infix.{Infix}
use Rattle.cilk_parse_grammar.specs.Classes.{cls, class_of, a_word, a_mark}
use Rattle.cilk_parse_grammar.specs.Operators.{operand, infix_of}
use Rattle.cilk_parse_grammar.specs.Expressions.{word_at, Spells, a_number_is, a_name_is, synched_is, an_element, in_parentheses, of_one, of_two, of_three}
use Rattle.cilk_parse_grammar.specs.Front.{kind_of, kind_at, infix_at, name_by, name_at}
use Rattle.cilk_parse_grammar.proofs.Tables.{level_high}

-- ---- the next token

-- a token of class c, and those behind it
pub record Next (c : ℕ) (ts us : List Piece) : Type 0 where
  pub piece : Piece
  pub is : cls piece ≡ c
  pub whole : ts ≡ piece ∷ us

pub next_is : (c : ℕ) (ts us : List Piece) → token_at cls c ts ≡ Ok us → Next c ts us
next_is c ts us e = let f = token_is cls c ts us e in record { piece = f.token; is = sym (eqb-true c (cls f.token) f.is); whole = f.whole }

pub next_here : (c : ℕ) (t : Piece) (us : List Piece) → cls t ≡ c → token_at cls c (t ∷ us) ≡ Ok us
next_here c t us e = token_here cls c t us (eq-eqb c (cls t) (sym e))

pub next_shorter : (c : ℕ) (ts us : List Piece) → token_at cls c ts ≡ Ok us → length us < length ts
next_shorter c ts us e = let k = next_is c ts us e in omega (arith, ap length k.whole)

-- the next token has this class
pub class_next : (c : ℕ) (ts : List Piece) → is c (class_at cls ts) ≡ true → Next c ts (behind ts)
class_next c [] e = absurd cc
class_next c (t ∷ ts) e = record { piece = t; is = sym (eqb-true c (cls t) e); whole = refl }

pub class_some : (c : ℕ) (ts : List Piece) → is c (class_at cls ts) ≡ true → 0 < length ts
class_some c ts e = let k = class_next c ts e in omega (arith, ap length k.whole)

-- the next token, by its kind
pub record NextKind (k : TokenKind) (ts us : List Piece) : Type 0 where
  pub piece : Piece
  pub is : kind_of piece.lexeme ≡ k
  pub whole : ts ≡ piece ∷ us

pub kind_next : (ts : List Piece) (k : TokenKind) → kind_at ts ≡ Some k → NextKind k ts (behind ts)
kind_next [] k e = absurd cc
kind_next (t ∷ ts) k e = record { piece = t; is = cc; whole = refl }

pub number_lexeme : (l : Lexeme) (n : ℕ) → kind_of l ≡ kind.Number n → l ≡ number n
number_lexeme (word w) n e = absurd cc
number_lexeme (name x) n e = absurd cc
number_lexeme (number m) n e = let h : m ≡ n = cc in ap number h
number_lexeme (mark m) n e = absurd cc
number_lexeme (literal b) n e = absurd cc
number_lexeme (inclusion h) n e = absurd cc

-- a word or a mark has its own class
pub word_class : (l : Lexeme) (w : Keyword) → kind_of l ≡ kind.Word w → class_of l ≡ a_word w
word_class (word v) w e = let h : v ≡ w = cc in ap a_word h
word_class (name x) w e = absurd cc
word_class (number m) w e = absurd cc
word_class (mark m) w e = absurd cc
word_class (literal b) w e = absurd cc
word_class (inclusion h) w e = absurd cc

pub mark_class : (l : Lexeme) (m : Mark) → kind_of l ≡ kind.Mark m → class_of l ≡ a_mark m
mark_class (word v) m e = absurd cc
mark_class (name x) m e = absurd cc
mark_class (number n) m e = absurd cc
mark_class (mark n) m e = let h : n ≡ m = cc in ap a_mark h
mark_class (literal b) m e = absurd cc
mark_class (inclusion h) m e = absurd cc

-- a name at the front
pub record NextName (ts us : List Piece) (x : tree.Word) : Type 0 where
  pub piece : Piece
  pub text : List ℕ
  pub is : piece.lexeme ≡ name text
  pub whole : ts ≡ piece ∷ us
  pub spelled : word_at text piece ≡ x

name_by_is : (t : Piece) (ts us : List Piece) (x : tree.Word) (l : Lexeme) → t.lexeme ≡ l → name_by t ts l ≡ Ok (x, us) → NextName (t ∷ ts) us x
name_by_is t ts us x (name b) h e =
    let k = ok_is (word_at b t, ts) (x, us) e in
    record { piece = t; text = b; is = h; whole = ap (λ (y : tree.Word × List Piece). t ∷ y.1) k; spelled = ap (λ (y : tree.Word × List Piece). y.0) k }
name_by_is t ts us x (word w) h e = absurd cc
name_by_is t ts us x (number n) h e = absurd cc
name_by_is t ts us x (mark m) h e = absurd cc
name_by_is t ts us x (literal b) h e = absurd cc
name_by_is t ts us x (inclusion i) h e = absurd cc

pub name_is : (ts : List Piece) (x : tree.Word × List Piece) → name_at ts ≡ Ok x → NextName ts x.1 x.0
unfolding name_at
name_is [] x e = absurd cc
name_is (t ∷ ts) x e = name_by_is t ts x.1 x.0 t.lexeme refl e

pub name_shorter : (ts : List Piece) (x : tree.Word × List Piece) → name_at ts ≡ Ok x → length x.1 < length ts
name_shorter ts x e = let k = name_is ts x e in omega (arith, ap length k.whole)

pub name_here : (t : Piece) (b : List ℕ) (us : List Piece) → t.lexeme ≡ name b → name_at (t ∷ us) ≡ Ok (word_at b t, us)
unfolding name_at
name_here t b us e = rw e refl

-- what goes on behind an operand, at the front
pub record NextInfix (q : ℕ) (w : Infix) (ts us : List Piece) : Type 0 where
  pub piece : Piece
  pub is : infix_of (cls piece) ≡ Some (q, w)
  pub whole : ts ≡ piece ∷ us

pub infix_next : (ts : List Piece) (q : ℕ) (w : Infix) → infix_at ts ≡ Some (q, w) → NextInfix q w ts (behind ts)
infix_next [] q w e = absurd cc
infix_next (t ∷ ts) q w e = record { piece = t; is = e; whole = refl }

pub infix_shorter : (ts : List Piece) (q : ℕ) (w : Infix) → infix_at ts ≡ Some (q, w) → length (behind ts) < length ts
infix_shorter ts q w e = let k = infix_next ts q w e in omega (arith, ap length k.whole)

-- ---- levels

-- at level p no expression goes on with this
abbrev pub StopsAt : ℕ → Option (ℕ × Infix) → Type 0
StopsAt p (Some (q, w)) = q < p
StopsAt p None = Unit {0}

abbrev pub Stops : ℕ → List Piece → Type 0
Stops p ts = StopsAt p (infix_at ts)

-- an expression at level q isn't part of a tighter one with this behind it; behind one at level 0 nothing goes on
abbrev pub BelowAt : ℕ → Option (ℕ × Infix) → Type 0
BelowAt q (Some (r, w)) = (r ≤ q) × (0 < q)
BelowAt q None = Unit {0}

abbrev pub Below : ℕ → List Piece → Type 0
Below q ts = BelowAt q (infix_at ts)

pub below_at : (q : ℕ) (w : Option (ℕ × Infix)) → 0 < q → StopsAt (suc q) w → BelowAt q w
below_at q (Some (r, w)) lt h = (omega (arith, h), lt)
below_at q None lt h = tt

-- no operator binds as an operand does
high : (c q : ℕ) (v : Option (ℕ × Infix)) → operand ≤ q → infix_of c ≡ v → StopsAt q v × BelowAt q v
high c q (Some (r, w)) le e = let h = level_high c r w e in (omega (arith, h, le), (omega (arith, h, le), omega (arith, le)))
high c q None le e = (tt, tt)

all_high : (q : ℕ) (ts : List Piece) → operand ≤ q → Stops q ts × Below q ts
all_high q [] le = (tt, tt)
all_high q (t ∷ ts) le = high (cls t) q (infix_of (cls t)) le refl

pub below_all : (q : ℕ) (ts : List Piece) → operand ≤ q → Below q ts
below_all q ts le = (all_high q ts le).1

pub stops_operand : (ts : List Piece) → Stops operand ts
stops_operand ts = (all_high operand ts (omega arith)).0

-- what spells at a level spells at a lower one
pub looser : {d p q : ℕ} {ts : List Piece} {e : tree.Expr} → q ≤ p → Spells d p ts e → Spells d q ts e
looser le (a_number_is t n i w) = a_number_is t n i w
looser le (a_name_is t x i w) = a_name_is t x i w
looser le (synched_is t i w) = synched_is t i w
looser le (an_element t u v x h i s j w) = an_element t u v x h i s j w
looser le (in_parentheses t u i s j w) = in_parentheses t u i s j w
looser le (of_one t o h a w) = of_one t o h a w
looser le (of_two t r o h ge a b w) = of_two t r o h (omega (arith, le, ge)) a b w
looser le (of_three t u i j z c a b w) = of_three t u i j (omega (arith, le, z)) c a b w
