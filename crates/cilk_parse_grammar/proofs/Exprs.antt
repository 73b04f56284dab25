-- The laws of expressions, as those of a part of rules.
use Rattle.std.proofs.Common.{◌≡◌, ℕ, ◌≤◌, true, List, [], ◌∷◌, ◌++◌, Option, Ok, refl, ◌∙◌, arith}
use Rattle.std.proofs.lemmas.Bool.{or_right}
use Rattle.cilk_tree_syntax.specs.lexeme.Lexeme.{Piece, name}
use Rattle.cilk_tree_syntax.specs.lexeme.declared.keyword.Keyword.TheVariants as words
use Rattle.cilk_tree_syntax.specs.lexeme.declared.mark.Mark.TheVariants as marks
use Rattle.cilk_tree_syntax.specs.Tree as tree
use Rattle.cilk_parse_grammar.specs.Rule.{has}
use Rattle.cilk_parse_grammar.proofs.Tokens.{has_append}
use Rattle.cilk_parse_grammar.proofs.RulesSound.{Took}
use Rattle.cilk_parse_grammar.proofs.RulesLocal.{Local}
use Rattle.cilk_parse_grammar.specs.Classes.{cls, names, a_number, a_word, a_mark}
use Rattle.cilk_parse_grammar.specs.Operators.{prefixes, classes}
use Rattle.cilk_parse_grammar.specs.Expressions.{a_name_is, begins_expr, SpellsWhole}
use Rattle.cilk_parse_grammar.specs.Reading.{whole_of}
use Rattle.cilk_parse_grammar.proofs.Whole as whole
use Rattle.cilk_parse_grammar.proofs.LocalExpr as locals
pub use Rattle.cilk_parse_grammar.proofs.Whole.{expr_begins, expr_complete}

pub expr_takes : (l d : ℕ) (ts : List Piece) (y : tree.Expr × List Piece) → whole_of l d ts ≡ Ok y → Took cls (λ k us x. SpellsWhole l d us x) ts y
expr_takes l d ts y e = let t = whole.expr_sound l d ts y e in record { used = t.used; whole = t.whole; spelled = t.spelled }

pub expr_local : (same : Type 0) (l l' d d' : ℕ) → l ≤ l' → d ≤ d' → (same → l ≡ l') → (same → d ≡ d') → (ts : List Piece)
    → Local {A = tree.Expr} same ts (whole_of l d ts) (λ us. whole_of l' d' us)
expr_local same l l' d d' le le' eq eq' ts = locals.expr_local same l l' d d' ts le le' eq eq'

pub expr_wider : (l l' d d' : ℕ) → l ≤ l' → d ≤ d' → (us : List Piece) (e : tree.Expr) → SpellsWhole l d us e → SpellsWhole l' d' us e
expr_wider l l' d d' le le' us e s = whole.expr_wider l l' d d' us e le le' s

-- a name alone is an expression
pub name_alone : (l d : ℕ) (t : Piece) (text : List ℕ) → t.lexeme ≡ name text → SpellsWhole l d (t ∷ []) (tree.named (record { text = text; place = t.start }))
name_alone l d t text h = record { spelled = a_name_is t text h refl; few = omega arith }

-- a name begins an expression
pub names_begin : (k : Option ℕ) → has names k ≡ true → has begins_expr k ≡ true
names_begin k e = let f : has (front ++ names) k ≡ true = has_append front names k ∙ or_right (has front k) (has names k) e in f
  where
    front : List ℕ
    front = a_number ∷ a_word words.Synched ∷ a_mark marks.OpenParenthesis ∷ classes prefixes
