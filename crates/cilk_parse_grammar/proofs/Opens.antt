-- An expression begins with the next token, told by its kind and by its class.
use Rattle.std.proofs.Common.{◌≡◌, ℕ, ◌==◌, ◌&&◌, Bool, true, false, List, [], ◌∷◌, Option, Some, None, is_some, refl, sym, ap, ◌∙◌, inl, inr}
use Rattle.std.proofs.lemmas.Bool.{eqb-true, or_cases, and_parts}
use Rattle.cilk_tree_syntax.specs.lexeme.Lexeme.{Lexeme, Piece, word, name, number, mark, literal, inclusion}
use Rattle.cilk_tree_syntax.specs.lexeme.declared.keyword.Keyword.TheVariants as words
use Rattle.cilk_tree_syntax.specs.lexeme.declared.mark.Mark.{Mark}
use Rattle.cilk_tree_syntax.specs.lexeme.declared.mark.Mark.TheVariants as marks
use Rattle.cilk_tree_syntax.specs.lexeme.declared.token.TokenKind.{TokenKind}
use Rattle.cilk_tree_syntax.specs.lexeme.declared.token.TokenKind.TheVariants as kind
use Rattle.cilk_tree_syntax.specs.declared.un_op.UnOp.{UnOp}
use Rattle.cilk_parse_grammar.specs.Rule.{has, class_at}
use Rattle.cilk_parse_grammar.specs.Classes.{a_mark, class_of, cls}
use Rattle.cilk_parse_grammar.specs.Operators.{sign_of}
use Rattle.cilk_parse_grammar.specs.Expressions.{begins_expr}
use Rattle.cilk_parse_grammar.specs.Front.{kind_of, kind_at}
use Rattle.cilk_parse_grammar.specs.Begins.{begins_by}
use Rattle.cilk_parse_grammar.proofs.ClassFacts.{back, plain, again, all_marks, all_words}
use Rattle.cilk_parse_grammar.proofs.Whole.{name_begins, sign_begins}

abbrev each : (ℕ → Bool) → List ℕ → Bool
each f [] = true
each f (c ∷ cs) = f c && each f cs

has_each : (f : ℕ → Bool) (cs : List ℕ) (c : ℕ) → each f cs ≡ true → has cs (Some c) ≡ true → f c ≡ true
has_each f [] c h e = absurd cc
has_each f (d ∷ []) c h e = ap f (sym (eqb-true d c e)) ∙ (and_parts (f d) true h).0
has_each f (d ∷ g ∷ cs) c h e =
    let k = and_parts (f d) (each f (g ∷ cs)) h in
    elim (or_cases (d == c) (has (g ∷ cs) (Some c)) e) [
      | inl i ↦ ap f (sym (eqb-true d c i)) ∙ k.0
      | inr i ↦ has_each f (g ∷ cs) c k.1 i
    ]

plain_begins : (k : TokenKind) → begins_by (plain k) ≡ begins_by k
unfolding plain
plain_begins (kind.Number n) = refl
plain_begins kind.Name = refl
plain_begins (kind.Word w) = refl
plain_begins (kind.Mark m) = refl
plain_begins kind.Text = refl
plain_begins (kind.Include h) = refl

by_class : (l : Lexeme) → has begins_expr (Some (class_of l)) ≡ true → begins_by (kind_of l) ≡ true
unfolding back all_marks all_words
by_class l e = sym (plain_begins (kind_of l)) ∙ ap begins_by (sym (again l)) ∙ has_each (λ c. begins_by (back c)) begins_expr (class_of l) refl e

a_sign_begins : (m : Mark) (o : Option UnOp) → sign_of (a_mark m) ≡ o → is_some o ≡ true → has begins_expr (Some (a_mark m)) ≡ true
a_sign_begins m (Some o) h e = sign_begins (a_mark m) o h
a_sign_begins m None h e = absurd cc

by_kind : (l : Lexeme) → begins_by (kind_of l) ≡ true → has begins_expr (Some (class_of l)) ≡ true
by_kind (number n) e = refl
by_kind (name x) e = name_begins (name x) x refl
by_kind (word words.Synched) e = refl
by_kind (mark marks.OpenParenthesis) e = refl
by_kind (mark m) e = a_sign_begins m (sign_of (a_mark m)) refl e
by_kind (word w) e = absurd cc
by_kind (literal b) e = absurd cc
by_kind (inclusion h) e = absurd cc

both_ways : (b c : Bool) → (b ≡ true → c ≡ true) → (c ≡ true → b ≡ true) → b ≡ c
both_ways true c f g = sym (f refl)
both_ways false true f g = g refl
both_ways false false f g = refl

begins : (l : Lexeme) → begins_by (kind_of l) ≡ has begins_expr (Some (class_of l))
begins l = both_ways _ _ (by_kind l) (by_class l)

pub begins_kind : (ts : List Piece) (k : TokenKind) → kind_at ts ≡ Some k → begins_by k ≡ has begins_expr (class_at cls ts)
begins_kind [] k e = absurd cc
begins_kind (t ∷ ts) k e = let h : kind_of t.lexeme ≡ k = cc in ap begins_by (sym h) ∙ begins t.lexeme

pub begins_nothing : (ts : List Piece) → kind_at ts ≡ None → false ≡ has begins_expr (class_at cls ts)
begins_nothing [] e = refl
begins_nothing (t ∷ ts) e = absurd cc
