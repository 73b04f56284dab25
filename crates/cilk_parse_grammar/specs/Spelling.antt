-- What the rules of the grammar say of tokens, and how tokens are read by them. In all that follows an expression has at
-- most l operators and subscript brackets, and at most d parentheses open at once.
use Rattle.std.specs.Prelude.{◌≡◌, ℕ, zero, suc, ◌&&◌, Bool, true, false, if◌then◌else◌, List, [], ◌∷◌, length, Option, Some, None, Ok, Err, ◌⊎◌}
use Rattle.cilk_tree_syntax.specs.lexeme.Lexeme.{Lexeme, Piece, name, number, literal, inclusion}
use Rattle.cilk_tree_syntax.specs.lexeme.declared.header.Header.{Header}
use Rattle.cilk_tree_syntax.specs.lexeme.declared.keyword.Keyword.TheVariants as key
use Rattle.cilk_tree_syntax.specs.lexeme.declared.mark.Mark.TheVariants as sign
use Rattle.cilk_tree_syntax.specs.Tree as tree
use Rattle.cilk_parse_grammar.specs.declared.fault.Fault.TheVariants.{Unexpected, TooDeep}
use Rattle.cilk_parse_grammar.specs.Rule as rule
use Rattle.cilk_parse_grammar.specs.Rule.{◌>>=◌, Rule, Read, behind, has, is, class_at, and_then, done}
use Rattle.cilk_parse_grammar.specs.Classes.{cls, a_word, a_mark, a_number, a_literal, an_inclusion, names, the_main, the_char, the_printf}
use Rattle.cilk_parse_grammar.specs.Classes.{the_lock_init, the_lock, the_unlock, other_name}
use Rattle.cilk_parse_grammar.specs.Parts.{Leaf, the_word, the_name, the_number, the_literal, the_header, Nest, a_statement, no_block, an_inlet, Part}
use Rattle.cilk_parse_grammar.specs.Parts.{token, an_expr, a_value, nest, Value, computed, called, LeafMeans, NestMeans, Means}
use Rattle.cilk_parse_grammar.specs.Grammar as grammar
use Rattle.cilk_parse_grammar.specs.Grammar.{rule_of, arguments, program}
use Rattle.cilk_parse_grammar.specs.Expressions.{begins_expr, goes_on_expr, SpellsWhole}
use Rattle.cilk_parse_grammar.specs.Reading.{whole_of}

-- ---- with what parts begin, and what would be read as more of them

abbrev pub leaf_classes : Leaf → List ℕ
leaf_classes (the_word w) = a_word w ∷ []
leaf_classes (the_name cs) = cs
leaf_classes the_number = a_number ∷ []
leaf_classes the_literal = a_literal ∷ []
leaf_classes the_header = an_inclusion ∷ []

abbrev pub begins_no_block : List ℕ
begins_no_block =
    the_main ∷ the_char ∷ other_name ∷ a_mark sign.Increment ∷ a_mark sign.Decrement ∷ the_printf ∷ the_lock_init ∷ the_lock ∷ the_unlock
    ∷ a_word key.Spawn ∷ a_mark sign.Semicolon ∷ a_word key.Sync ∷ a_word key.Abort ∷ a_word key.Break ∷ a_word key.Continue
    ∷ a_word key.Return ∷ a_word key.If ∷ a_word key.While ∷ a_word key.Do ∷ a_word key.For ∷ a_word key.Switch ∷ []

abbrev pub begins : Nest → List ℕ
begins a_statement = a_mark sign.OpenBrace ∷ begins_no_block
begins no_block = begins_no_block
begins an_inlet = a_word key.Inlet ∷ []

abbrev pub first_of : Part → List ℕ
first_of (token t) = leaf_classes t
first_of an_expr = begins_expr
first_of a_value = begins_expr
first_of (nest p) = begins p

abbrev pub more_of : Part → List ℕ
more_of (token t) = []
more_of an_expr = goes_on_expr
more_of a_value = a_mark sign.OpenParenthesis ∷ goes_on_expr
more_of (nest p) = []

-- ---- one token

-- what a lexeme at a place says
abbrev pub said : (t : Leaf) → Lexeme → ℕ → Option (LeafMeans t)
said (the_word w) x at = Some at
said (the_name cs) (name text) at = Some (record { text = text; place = at })
said the_number (number n) at = Some n
said the_literal (literal bytes) at = Some (record { bytes = bytes; place = at })
said the_header (inclusion header) at = Some header
said t x at = None

pub record IsOne (t : Leaf) (ts : List Piece) (x : LeafMeans t) : Type 0 where
  pub piece : Piece
  pub is : has (leaf_classes t) (Some (cls piece)) ≡ true
  pub whole : ts ≡ piece ∷ []
  pub meaning : said t piece.lexeme piece.start ≡ Some x

abbrev pub given : {A : Type 0} → Bool → Option A → List Piece → Read Piece A
given true (Some x) ts = Ok (x, behind ts)
given true None ts = Err (Unexpected (length ts))
given false x ts = Err (Unexpected (length ts))

unfoldable pub leaf_at : (t : Leaf) → List Piece → Read Piece (LeafMeans t)
leaf_at t [] = Err (Unexpected 0)
leaf_at t (p ∷ ts) = given (has (leaf_classes t) (Some (cls p))) (said t p.lexeme p.start) (p ∷ ts)

-- ---- what an assignment writes: a call where a name and "(" come, and else an expression

-- Call = Name "(" [Expr {"," Expr}] ")" (6.3.2.2)
abbrev pub call_behind : Rule Means (tree.Word → Value)
call_behind = and_then arguments (done (λ es f. called f es))

abbrev pub call : Rule Means Value
call = and_then grammar.name call_behind

abbrev pub leaf_says : ℕ → ℕ → (p : Part) → Option ℕ → List Piece → Means p → Type 0
leaf_says l d (token t) k ts x = IsOne t ts x
leaf_says l d an_expr k ts x = SpellsWhole l d ts x
leaf_says l d p k ts x = ⊥

pub record IsComputed (l d : ℕ) (ts : List Piece) (x : Value) : Type 0 where
  pub expr : tree.Expr
  pub spelled : SpellsWhole l d ts expr
  pub meaning : x ≡ computed expr

abbrev pub SpellsValue : ℕ → ℕ → Option ℕ → List Piece → Value → Type 0
SpellsValue l d k ts x = IsComputed l d ts x ⊎ rule.Spelled cls first_of (leaf_says l d) call k ts x

abbrev pub leaf_parts : ℕ → ℕ → (p : Part) → List Piece → Read Piece (Means p)
leaf_parts l d (token t) ts = leaf_at t ts
leaf_parts l d an_expr ts = whole_of l d ts
leaf_parts l d p ts = Err (Unexpected (length ts))

abbrev pub begins_call : List Piece → Bool
begins_call ts = has names (class_at cls ts) && is (a_mark sign.OpenParenthesis) (class_at cls (behind ts))

unfoldable pub value_at : ℕ → ℕ → List Piece → Read Piece Value
value_at l d ts = if begins_call ts then rule.read cls first_of (leaf_parts l d) call ts else (whole_of l d ts >>= λ x. Ok (computed x.0, x.1))

-- ---- what the parts say, where n more may stand in one another, and how they are read

abbrev pub says_by : ℕ → ℕ → ((p : Nest) → Option ℕ → List Piece → NestMeans p → Type 0) → (p : Part) → Option ℕ → List Piece → Means p → Type 0
says_by l d inner (token t) k ts x = IsOne t ts x
says_by l d inner an_expr k ts x = SpellsWhole l d ts x
says_by l d inner a_value k ts x = SpellsValue l d k ts x
says_by l d inner (nest p) k ts x = inner p k ts x

unfoldable pub SpellsNest : ℕ → ℕ → ℕ → (p : Nest) → Option ℕ → List Piece → NestMeans p → Type 0
SpellsNest l d zero p k ts x = ⊥
SpellsNest l d (suc n) p k ts x = rule.Spelled cls first_of (says_by l d (λ q j us y. SpellsNest l d n q j us y)) (rule_of p) k ts x

-- the tokens, which k follows, spell x by the rule
abbrev pub SpellsRule : {A : Type 0} → ℕ → ℕ → ℕ → Rule Means A → Option ℕ → List Piece → A → Type 0
SpellsRule l d n r k ts x = rule.Spelled cls first_of (says_by l d (λ q j us y. SpellsNest l d n q j us y)) r k ts x

abbrev pub parts_by : ℕ → ℕ → ((p : Nest) → List Piece → Read Piece (NestMeans p)) → (p : Part) → List Piece → Read Piece (Means p)
parts_by l d inner (token t) ts = leaf_at t ts
parts_by l d inner an_expr ts = whole_of l d ts
parts_by l d inner a_value ts = value_at l d ts
parts_by l d inner (nest p) ts = inner p ts

unfoldable pub nest_at : ℕ → ℕ → ℕ → (p : Nest) → List Piece → Read Piece (NestMeans p)
nest_at l d zero p ts = if has (begins p) (class_at cls ts) then Err (TooDeep (length ts)) else Err (Unexpected (length ts))
nest_at l d (suc n) p ts =
    if has (begins p) (class_at cls ts) then rule.read cls first_of (parts_by l d (λ q us. nest_at l d n q us)) (rule_of p) ts else Err (Unexpected (length ts))

unfoldable pub read_at : {A : Type 0} → ℕ → ℕ → ℕ → Rule Means A → List Piece → Read Piece A
read_at l d n r ts = rule.read cls first_of (parts_by l d (λ q us. nest_at l d n q us)) r ts

-- ---- programs

-- so many statements and inlets may stand in one another: one and the 200 in which it stands
abbrev pub nesting_limit : ℕ
nesting_limit = 201

-- the tokens spell the headers and items of the program, which has at most n statements and inlets in one another
unfoldable pub SpellsProgram : ℕ → ℕ → ℕ → List Piece → tree.Program → Type 0
SpellsProgram l d n ts p = SpellsRule l d n program None ts (p.headers, p.items)

-- where no token is left
abbrev pub at_end : {A : Type 0} → A × List Piece → Read Piece A
at_end (x, []) = Ok (x, [])
at_end (x, t ∷ ts) = Err (Unexpected (suc (length ts)))

-- all of the tokens, by a rule
unfoldable pub all_by : {A : Type 0} → ℕ → ℕ → ℕ → Rule Means A → List Piece → Read Piece A
all_by l d n r ts = read_at l d n r ts >>= λ x. at_end x

-- the headers and items of a program
unfoldable pub program_of : ℕ → ℕ → ℕ → List Piece → Read Piece (List Header × List tree.Item)
program_of l d n ts = all_by l d n program ts
