-- Reading an expression from left to right.
use Rattle.std.specs.Prelude.{ℕ, zero, suc, ◌==◌, Bool, true, false, List, length, Option, Some, None, Ok, Err, nat_le, nat_lt, if◌then◌else◌}
use Rattle.cilk_tree_syntax.specs.lexeme.Lexeme.{Piece}
use Rattle.cilk_tree_syntax.specs.lexeme.declared.keyword.Keyword.TheVariants as words
use Rattle.cilk_tree_syntax.specs.lexeme.declared.mark.Mark.TheVariants as marks
use Rattle.cilk_tree_syntax.specs.lexeme.declared.token.TokenKind.{TokenKind}
use Rattle.cilk_tree_syntax.specs.lexeme.declared.token.TokenKind.TheVariants as kind
use Rattle.cilk_tree_syntax.specs.declared.un_op.UnOp.{UnOp}
use Rattle.cilk_tree_syntax.specs.Tree as tree
use Rattle.cilk_parse_grammar.specs.declared.fault.Fault.TheVariants.{Unexpected, TooDeep}
use Rattle.cilk_parse_grammar.specs.Rule.{◌>>=◌, Read, behind, is, class_at, token_at}
use Rattle.cilk_parse_grammar.specs.declared.operator.Infix.{Infix}
use Rattle.cilk_parse_grammar.specs.declared.operator.Infix.TheVariants.{Two, Choice}
use Rattle.cilk_parse_grammar.specs.Classes.{a_word, a_mark, cls}
use Rattle.cilk_parse_grammar.specs.Operators.{operand, sign_of}
use Rattle.cilk_parse_grammar.specs.Front.{kind_at, place_at, infix_at, name_at}

-- an expression with the number of operators and subscripts so far, and the tokens behind it
abbrev pub Reads : Type 0
Reads = Read Piece (tree.Expr × ℕ)

-- behind an operator or a subscript's bracket, which counts: n came before, and l are allowed
abbrev pub counted : ℕ → ℕ → List Piece → (ℕ → List Piece → Reads) → Reads
counted l n ts go = if nat_lt n l then go (suc n) (behind ts) else Err (TooDeep (length ts))

-- behind an expression and the mark of class c that closes it: what f makes of it
abbrev pub closed : ℕ → (tree.Expr → tree.Expr) → Reads → Reads
closed c f read = read >>= λ e. token_at cls c e.1 >>= λ us. Ok ((f e.0.0, e.0.1), us)

-- Below, inner d p n ts reads an expression at level p, in which d more parentheses may be opened, where n operators
-- and subscripts came before.

-- an expression in parentheses
abbrev pub in_open : (ℕ → ℕ → ℕ → List Piece → Reads) → ℕ → ℕ → List Piece → Reads
in_open inner zero n ts = Err (TooDeep (length ts))
in_open inner (suc d) n ts = closed (a_mark marks.CloseParenthesis) (λ e. e) (inner d 0 n (behind ts))

-- an operator before its operand
abbrev pub behind_sign : (ℕ → ℕ → ℕ → List Piece → Reads) → ℕ → ℕ → ℕ → List Piece → UnOp → Reads
behind_sign inner l d n ts o = counted l n ts (λ m us. inner d operand m us >>= λ e. Ok ((tree.unary o e.0.0, e.0.1), e.1))

-- by the operator that the next mark is, and whether it opens parentheses
abbrev pub at_mark : (ℕ → ℕ → ℕ → List Piece → Reads) → ℕ → ℕ → ℕ → List Piece → Option UnOp → Bool → Reads
at_mark inner l d n ts (Some o) b = behind_sign inner l d n ts o
at_mark inner l d n ts None true = in_open inner d n ts
at_mark inner l d n ts None false = Err (Unexpected (length ts))

-- a subscript behind a name
abbrev pub in_brackets : (ℕ → ℕ → ℕ → List Piece → Reads) → ℕ → ℕ → ℕ → tree.Word → List Piece → Reads
in_brackets inner l d n x ts = counted l n ts (λ m us. closed (a_mark marks.CloseBracket) (λ e. tree.element x e) (inner d 0 m us))

-- behind a name: a subscript, or no more
abbrev pub behind_name : (ℕ → ℕ → ℕ → List Piece → Reads) → ℕ → ℕ → ℕ → tree.Word → List Piece → Reads
behind_name inner l d n x ts = if is (a_mark marks.OpenBracket) (class_at cls ts) then in_brackets inner l d n x ts else Ok ((tree.named x, n), ts)

-- an operand, by the kind of the next token
abbrev pub operand_by : (ℕ → ℕ → ℕ → List Piece → Reads) → ℕ → ℕ → ℕ → List Piece → Option TokenKind → Reads
operand_by inner l d n ts (Some (kind.Number x)) = Ok ((tree.number x, n), behind ts)
operand_by inner l d n ts (Some kind.Name) = name_at ts >>= λ x. behind_name inner l d n x.0 x.1
operand_by inner l d n ts (Some (kind.Mark m)) = at_mark inner l d n ts (sign_of (a_mark m)) (a_mark marks.OpenParenthesis == a_mark m)
operand_by inner l d n ts (Some (kind.Word w)) =
    if a_word words.Synched == a_word w then Ok ((tree.synched (place_at ts), n), behind ts) else Err (Unexpected (length ts))
operand_by inner l d n ts _ = Err (Unexpected (length ts))

-- Below, expr p n ts reads an expression at level p, and more n a ts goes on behind the expression a.

-- behind a test and its `?`
abbrev pub behind_question : (ℕ → ℕ → List Piece → Reads) → tree.Expr → ℕ → List Piece → Reads
behind_question expr c n ts =
    expr 0 n ts >>= λ a. token_at cls (a_mark marks.Colon) a.1 >>= λ us. expr 0 a.0.1 us
    >>= λ b. Ok ((tree.choose c a.0.0 b.0.0, b.0.1), b.1)

-- behind an operator of level q and the expression a before it
abbrev pub behind_infix : (ℕ → ℕ → List Piece → Reads) → (ℕ → tree.Expr → List Piece → Reads) → tree.Expr → ℕ → Infix → ℕ → List Piece → Reads
behind_infix expr more a q (Two o) n ts = expr (suc q) n ts >>= λ b. more b.0.1 (tree.binary o a b.0.0) b.1
behind_infix expr more a q Choice n ts = behind_question expr a n ts

-- what goes on behind an expression a at level p, where l operators and subscripts are allowed
abbrev pub on_after : (ℕ → ℕ → List Piece → Reads) → (ℕ → tree.Expr → List Piece → Reads) → ℕ → ℕ → ℕ → tree.Expr → List Piece → Option (ℕ × Infix) → Reads
on_after expr more l p n a ts (Some (q, w)) = if nat_le p q then counted l n ts (λ m us. behind_infix expr more a q w m us) else Ok ((a, n), ts)
on_after expr more l p n a ts None = Ok ((a, n), ts)

-- at most f steps; l operators and subscripts are allowed, and d more parentheses may be opened
unfoldable mutual
  pub expr_in : ℕ → ℕ → ℕ → ℕ → ℕ → List Piece → Reads
  expr_in zero l d p n ts = Err (TooDeep 0)
  expr_in (suc f) l d p n ts = operand_by (λ c q m us. expr_in f l c q m us) l d n ts (kind_at ts) >>= λ x. more_in f l d p x.0.1 x.0.0 x.1

  pub more_in : ℕ → ℕ → ℕ → ℕ → ℕ → tree.Expr → List Piece → Reads
  more_in zero l d p n a ts = Err (TooDeep 0)
  more_in (suc f) l d p n a ts = on_after (λ q m us. expr_in f l d q m us) (λ m b us. more_in f l d p m b us) l p n a ts (infix_at ts)

-- an expression at level p; each step takes a token, so this many are enough
unfoldable pub expr_of : ℕ → ℕ → ℕ → ℕ → List Piece → Reads
expr_of l d p n ts = expr_in (suc (length ts)) l d p n ts

-- the same behind an expression a
unfoldable pub more_of : ℕ → ℕ → ℕ → ℕ → tree.Expr → List Piece → Reads
more_of l d p n a ts = more_in (suc (length ts)) l d p n a ts

-- an operand
unfoldable pub operand_at : ℕ → ℕ → ℕ → List Piece → Reads
operand_at l d n ts = operand_by (λ c q m us. expr_of l c q m us) l d n ts (kind_at ts)

-- a name, and its subscript if it has one
unfoldable pub named_at : ℕ → ℕ → ℕ → List Piece → Reads
named_at l d n ts = name_at ts >>= λ x. behind_name (λ c q m us. expr_of l c q m us) l d n x.0 x.1

unfoldable pub subscript_at : ℕ → ℕ → ℕ → tree.Word → List Piece → Reads
subscript_at l d n x ts = in_brackets (λ c q m us. expr_of l c q m us) l d n x ts

-- behind a test and its `?`
unfoldable pub choice_at : ℕ → ℕ → ℕ → tree.Expr → List Piece → Reads
choice_at l d n c ts = behind_question (λ p m us. expr_of l d p m us) c n ts

-- an expression in parentheses, and an operator before its operand
unfoldable pub open_at : ℕ → ℕ → ℕ → List Piece → Reads
open_at l d n ts = in_open (λ c q m us. expr_of l c q m us) d n ts

unfoldable pub sign_at : ℕ → ℕ → ℕ → List Piece → UnOp → Reads
sign_at l d n ts o = behind_sign (λ c q m us. expr_of l c q m us) l d n ts o

-- a whole expression
unfoldable pub whole_of : ℕ → ℕ → List Piece → Read Piece tree.Expr
whole_of l d ts = expr_of l d 0 0 ts >>= λ e. Ok (e.0.0, e.1)
