-- Lists read one after another, and statements at a depth.
use Rattle.std.proofs.Common.{◌≡◌, ℕ, zero, suc, ◌-◌, ◌<◌, true, false, List, [], ◌∷◌, ◌++◌, refl, sym, ap, ◌∙◌, arith, append_assoc}
use Rattle.cilk_parse_grammar.specs.lexeme.Lexeme.{Piece}
use Rattle.cilk_parse_grammar.specs.lexeme.declared.mark.Mark.TheVariants.{OpenBrace}
use Rattle.cilk_parse_grammar.specs.Rule.{has, is, class_at}
use Rattle.cilk_parse_grammar.specs.Classes.{cls, a_mark}
use Rattle.cilk_parse_grammar.specs.Expressions.{operator_limit, parenthesis_limit}
use Rattle.cilk_parse_grammar.specs.Forms.{joined}
use Rattle.cilk_parse_grammar.specs.Grammar.{no_block_rule}
use Rattle.cilk_parse_grammar.specs.Parts.{a_statement, no_block}
use Rattle.cilk_parse_grammar.specs.Spelling.{begins, read_at, nest_at}
use Rattle.cilk_parse.specs.Limits.{read_in}

-- one list more
pub joined_last : {A : Type 0} (xss : List (List A)) (xs : List A) → joined (xss ++ xs ∷ []) ≡ (joined xss ++ xs)
joined_last [] [] = refl
joined_last [] (x ∷ xs) = ap (λ l. x ∷ l) (joined_last [] xs)
joined_last (ys ∷ yss) xs = ap (λ l. ys ++ l) (joined_last yss xs) ∙ sym (append_assoc ys (joined yss) xs)

-- a statement that is no block, by its rule
pub unbraced_is : (n : ℕ) (ts : List Piece) → 0 < n → has (begins no_block) (class_at cls ts) ≡ true
    → nest_at operator_limit parenthesis_limit n no_block ts ≡ read_in (n - 1) no_block_rule ts
unfolding nest_at read_at
unbraced_is zero ts lt h = absurd (omega (arith, lt))
unbraced_is (suc n) ts lt h = let e : suc n - 1 ≡ n = omega arith in rw (h, e) refl

pub statement_is : (n : ℕ) (ts : List Piece) → 0 < n → has (begins a_statement) (class_at cls ts) ≡ true → is (a_mark OpenBrace) (class_at cls ts) ≡ false
    → nest_at operator_limit parenthesis_limit n a_statement ts ≡ read_in (n - 1) no_block_rule ts
unfolding nest_at read_at
statement_is zero ts lt h i = absurd (omega (arith, lt))
statement_is (suc n) ts lt h i = let e : suc n - 1 ≡ n = omega arith in rw (h, i, e) refl
