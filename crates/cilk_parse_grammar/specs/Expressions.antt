-- How tokens spell an expression (C 1990, 6.3).
use Rattle.std.specs.Prelude.{◌≡◌, ℕ, suc, ◌+◌, ◌≤◌, List, [], ◌∷◌, ◌++◌, Some}
use Rattle.cilk_tree_syntax.specs.lexeme.Lexeme.{Piece, name, number}
use Rattle.cilk_tree_syntax.specs.lexeme.declared.keyword.Keyword.TheVariants as words
use Rattle.cilk_tree_syntax.specs.lexeme.declared.mark.Mark.TheVariants as marks
use Rattle.cilk_tree_syntax.specs.declared.operator.BinOp.{BinOp}
use Rattle.cilk_tree_syntax.specs.declared.un_op.UnOp.{UnOp}
use Rattle.cilk_tree_syntax.specs.Tree as tree
use Rattle.cilk_parse_grammar.specs.declared.operator.Infix.TheVariants.{Two, Choice}
use Rattle.cilk_parse_grammar.specs.Classes.{a_word, a_mark, a_number, cls, names}
use Rattle.cilk_parse_grammar.specs.Operators.{infixes, prefixes, operand, classes, infix_of, sign_of}

-- the name that a token is
abbrev pub word_at : List ℕ → Piece → tree.Word
word_at text t = record { text = text; place = t.start }

-- Spells d p ts e: the tokens spell the expression, with at most d parentheses open at once. Outside parentheses and
-- subscripts each of its operators binds at least as tightly as p.
pub data Spells : ℕ → ℕ → List Piece → tree.Expr → Type 0 where
  a_number_is : {d p : ℕ} {ts : List Piece} (t : Piece) (n : ℕ) → t.lexeme ≡ number n → ts ≡ t ∷ [] → Spells d p ts (tree.number n)
  a_name_is : {d p : ℕ} {ts : List Piece} (t : Piece) (x : List ℕ) → t.lexeme ≡ name x → ts ≡ t ∷ [] → Spells d p ts (tree.named (word_at x t))
  -- (Cilk 5.4 manual, `SYNCHED`)
  synched_is : {d p : ℕ} {ts : List Piece} (t : Piece) → cls t ≡ a_word words.Synched → ts ≡ t ∷ [] → Spells d p ts (tree.synched t.start)
  -- a name and a subscript (C 1990, 6.3.2.1)
  an_element : {d p : ℕ} {ts us : List Piece} {i : tree.Expr} (t u v : Piece) (x : List ℕ) → t.lexeme ≡ name x
      → cls u ≡ a_mark marks.OpenBracket → Spells d 0 us i → cls v ≡ a_mark marks.CloseBracket
      → ts ≡ t ∷ (u ∷ (us ++ v ∷ [])) → Spells d p ts (tree.element (word_at x t) i)
  in_parentheses : {d p : ℕ} {ts us : List Piece} {e : tree.Expr} (t u : Piece) → cls t ≡ a_mark marks.OpenParenthesis → Spells d 0 us e
      → cls u ≡ a_mark marks.CloseParenthesis → ts ≡ t ∷ (us ++ u ∷ []) → Spells (suc d) p ts e
  of_one : {d p : ℕ} {ts us : List Piece} {a : tree.Expr} (t : Piece) (o : UnOp) → sign_of (cls t) ≡ Some o → Spells d operand us a → ts ≡ t
      ∷ us → Spells d p ts (tree.unary o a)
  -- to the left: the right operand binds more tightly than the operator
  of_two : {d p : ℕ} {ts us vs : List Piece} {a b : tree.Expr} (t : Piece) (q : ℕ) (o : BinOp) → infix_of (cls t) ≡ Some (q, Two o) → p ≤ q
      → Spells d q us a → Spells d (suc q) vs b → ts ≡ us ++ t ∷ vs → Spells d p ts (tree.binary o a b)
  -- `?` and its colon: what stands before them holds no other outside parentheses and subscripts, and what stands behind may
  of_three : {d p : ℕ} {ts us vs ws : List Piece} {c a b : tree.Expr} (t u : Piece) → infix_of (cls t) ≡ Some (0, Choice)
      → cls u ≡ a_mark marks.Colon → p ≡ 0 → Spells d 1 us c → Spells d 0 vs a → Spells d 0 ws b
      → ts ≡ us ++ t ∷ (vs ++ u ∷ ws) → Spells d p ts (tree.choose c a b)

-- its operators, of which `?` with its `:` is one, and its subscript brackets
abbrev pub operators : tree.Expr → ℕ
operators (tree.number n) = 0
operators (tree.named x) = 0
operators (tree.element x index) = suc (operators index)
operators (tree.synched at) = 0
operators (tree.binary op left right) = suc (operators left + operators right)
operators (tree.unary op inner) = suc (operators inner)
operators (tree.choose test first second) = suc (operators test + operators first + operators second)

-- a whole expression, of at most l operators and subscripts, and with at most d parentheses open at once
pub record SpellsWhole (l d : ℕ) (ts : List Piece) (e : tree.Expr) : Type 0 where
  pub spelled : Spells d 0 ts e
  pub few : operators e ≤ l

-- the nesting limits: so many operators and subscripts in an expression, and so many parentheses open at once in it
abbrev pub operator_limit : ℕ
operator_limit = 200

abbrev pub parenthesis_limit : ℕ
parenthesis_limit = 200

-- the classes with which an expression begins
abbrev pub begins_expr : List ℕ
begins_expr = a_number ∷ a_word words.Synched ∷ a_mark marks.OpenParenthesis ∷ (classes prefixes ++ names)

-- the classes that would be read as more of it
abbrev pub goes_on_expr : List ℕ
goes_on_expr = a_mark marks.OpenBracket ∷ classes infixes
