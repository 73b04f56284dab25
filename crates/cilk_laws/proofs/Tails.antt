-- The canonical lexemes of what stands behind the name of a function spell it again.
use Rattle.std.proofs.Common.{◌≡◌, ℕ, zero, suc, ◌≤◌, true, List, [], ◌∷◌, ◌++◌, map, length, codes, Option, Some, None, refl, ap}
use Rattle.cilk_check.specs.lexeme.Lexeme.{Lexeme, word, name, mark}
use Rattle.cilk_check.specs.lexeme.declared.keyword.Keyword.TheVariants as key
use Rattle.cilk_check.specs.lexeme.declared.mark.Mark.TheVariants as sign
use Rattle.cilk_check.specs.syntax.Tree as tree
use Rattle.cilk_check.specs.syntax.Tree.{Word}
use Rattle.cilk_check.specs.syntax.Bare.{bare_word, bare_parameters, bare_block}
use Rattle.cilk_parse.specs.grammar.Rule as rule
use Rattle.cilk_parse.specs.grammar.Rule.{Rule, skip}
use Rattle.cilk_parse_grammar.specs.Classes.{a_word, a_mark}
use Rattle.cilk_parse_grammar.proofs.ClassFacts.{names_are}
use Rattle.cilk_parse_grammar.specs.Parts.{Means}
use Rattle.cilk_parse_grammar.specs.Forms as forms
use Rattle.cilk_parse_grammar.specs.Forms.{optional, behind_commas}
use Rattle.cilk_parse_grammar.specs.Grammar as grammar
use Rattle.cilk_parse_grammar.specs.Grammar.{Tail, declares, defines, all_named, named_of}
use Rattle.cilk_laws.specs.Plain.{PlainBlock}
use Rattle.cilk_laws.specs.ExprLexemes.{in_parentheses}
use Rattle.cilk_laws.specs.StmtLexemes.{ended, next_names_lexemes, block_lexemes}
use Rattle.cilk_laws.specs.ProgramLexemes.{next_types_lexemes, types_lexemes, parameters_lexemes}
use Rattle.cilk_laws.proofs.ReadExprs.{all_at0}
use Rattle.cilk_laws.proofs.Made as made
use Rattle.cilk_laws.proofs.Built.{Setting, Spells, Written, Built, written, b_of, b_done, b_skip, b_then, b_last, b_left, b_right}
use Rattle.cilk_laws.proofs.Built.{b_by_true, b_by_false, b_before, b_name, each_before}
use Rattle.cilk_laws.proofs.Given.{good, Given, g_done, g_skip, g_then, g_either, g_by, g_before, g_name}
use Rattle.cilk_laws.proofs.ReadMoves.{setting}
use Rattle.cilk_laws.proofs.ReadStmts as stmts

abbrev pub tail_lexemes : Tail → List Lexeme
tail_lexemes (declares n) = ended (in_parentheses (types_lexemes n))
tail_lexemes (defines parameters b) = in_parentheses (parameters_lexemes parameters) ++ block_lexemes b

abbrev pub bare_tail : Tail → Tail
bare_tail (declares n) = declares n
bare_tail (defines parameters b) = defines (bare_parameters parameters) (bare_block b)

abbrev pub PlainTail : Tail → Type 0
PlainTail (declares n) = Unit {0}
PlainTail (defines parameters b) = PlainBlock b

-- ---- parameters with no names, and with names

nones : ℕ → List (Option Word)
nones zero = []
nones (suc n) = None ∷ nones n

nones_length : (n : ℕ) → length (nones n) ≡ n
unfolding nones
nones_length zero = refl
nones_length (suc n) = ap suc (nones_length n)

nones_spelled : (S : Setting) (n : ℕ) (k : Option ℕ) → Spells S (behind_commas (forms.word key.Int (optional grammar.name))) k (next_types_lexemes n) (nones n)
unfolding nones
nones_spelled S zero k = rule.no_more refl refl
nones_spelled S (suc n) k =
    rule.one_more {us = all_at0 (mark sign.Comma ∷ word key.Int ∷ [])} {x = None}
    (b_skip {S = S} {c = a_mark sign.Comma} {p = skip (a_word key.Int) (optional grammar.name)} (mark sign.Comma) refl
    (b_skip (word key.Int) refl (b_right b_done))).it
    (nones_spelled S n k) refl refl

abbrev somes : List Word → List (Option Word)
somes xs = map (λ x. Some (bare_word x)) xs

somes_spelled : (S : Setting) (xs : List Word) (k : Option ℕ)
    → Spells S (behind_commas (forms.word key.Int (optional grammar.name))) k (next_names_lexemes xs) (somes xs)
somes_spelled S xs k =
    each_before S (skip (a_mark sign.Comma) (skip (a_word key.Int) (optional grammar.name))) (λ x. mark sign.Comma ∷ word key.Int ∷ name x.text ∷ [])
    (λ x. Some (bare_word x)) (λ x. Unit {0})
    (λ x j u. (b_skip {S = S} {c = a_mark sign.Comma} {p = skip (a_word key.Int) (optional grammar.name)} {k = j} (mark sign.Comma) refl
    (b_skip (word key.Int) refl (b_left (b_last (b_name x (names_are x.text)))))).it) xs k (made.whatever xs)

somes_named : (xs : List Word) → all_named (somes xs) ≡ true
somes_named [] = refl
somes_named (x ∷ xs) = somes_named xs

named_somes : (xs : List Word) → named_of (somes xs) ≡ map bare_word xs
named_somes [] = refl
named_somes (x ∷ xs) = ap (λ l. bare_word x ∷ l) (named_somes xs)

abbrev b_parameter_list_none : {S : Setting} {k : Option ℕ} (n : ℕ) → Built S grammar.parameter_list k
b_parameter_list_none {S = S} {k = k} n =
    b_then
    (b_then (b_skip (mark sign.CloseParenthesis) refl b_done)
    (record { ls = next_types_lexemes n; means = nones n; it = nones_spelled S n (Some (a_mark sign.CloseParenthesis)) })) (b_right b_done)

abbrev b_parameter_list_some : {S : Setting} {k : Option ℕ} (x : Word) (xs : List Word) → Built S grammar.parameter_list k
b_parameter_list_some {S = S} {k = k} x xs =
    b_then
    (b_then (b_skip (mark sign.CloseParenthesis) refl b_done)
    (record { ls = next_names_lexemes xs; means = somes xs; it = somes_spelled S xs (Some (a_mark sign.CloseParenthesis)) }))
    (b_left (b_last (b_name x (names_are x.text))))

module _ (l d : ℕ) (le : l ≤ d) (n : ℕ) where
  abbrev S : Setting
  S = setting l d le n

  abbrev pub TailBy : Rule Means Tail → Tail → Type 0
  TailBy r t = PlainTail t → (k : Option ℕ) → Written S r k (tail_lexemes t) (bare_tail t)

  abbrev BlockAgain : tree.Block → Type 0
  BlockAgain b = stmts.BlockAgain l d le n b

  -- ---- what is read is good

  abbrev pub GoodTail : Tail → Type 0
  GoodTail (declares m) = Unit {0}
  GoodTail (defines (tree.ints xs) b) = BlockAgain b
  GoodTail (defines (tree.command_line c s) b) = ⊥

  abbrev pub GoodMain : Tail → Type 0
  GoodMain (declares m) = Unit {0}
  GoodMain (defines parameters b) = BlockAgain b

  block_given : Given (good l d n) grammar.block BlockAgain
  block_given = stmts.block_given l d le n

  parameter_list_given : Given (good l d n) grammar.parameter_list (λ xs. Unit {0})
  parameter_list_given = record { it = stmts.any l d le n grammar.parameter_list }

  strings_given : Given (good l d n) grammar.strings (λ x. Unit {0})
  strings_given = record { it = stmts.any l d le n grammar.strings }

  empty_given : Given (good l d n) grammar.empty_tail GoodTail
  empty_given = g_skip (g_either (g_skip (g_done tt)) (g_then block_given (λ b hb. g_done hb)))

  pub tail_given : Given (good l d n) grammar.tail GoodTail
  tail_given =
      g_skip
      (g_either empty_given (g_either (g_skip empty_given)
      (g_skip (g_by parameter_list_given (λ xs u e. g_either (g_skip (g_done tt)) (g_then block_given (λ b hb. g_done hb)))
      (λ xs u e. g_skip (g_done tt))))))

  main_empty : Given (good l d n) grammar.empty_tail GoodMain
  main_empty = g_skip (g_either (g_skip (g_done tt)) (g_then block_given (λ b hb. g_done hb)))

  pub main_given : Given (good l d n) grammar.main_tail GoodMain
  main_given = g_skip (g_either main_empty (g_either (g_skip main_empty) (g_skip (g_either
      (g_then g_name (λ x hx. g_either (g_skip (g_either (g_skip (g_done tt)) (g_then block_given (λ b hb. g_done hb))))
      (g_skip (g_either (g_skip (g_then (g_before strings_given) (λ s u. g_then block_given (λ b hb. g_done hb))))
      (g_skip (g_by parameter_list_given (λ xs u e. g_either (g_skip (g_done tt)) (g_then block_given (λ b hb. g_done hb))) (λ xs u e. g_skip (g_done tt))))))))
      (g_either (g_skip (g_skip (g_done tt))) (g_skip (g_skip (g_then parameter_list_given (λ xs u. g_skip (g_done tt))))))))))

  -- ---- and is spelled again

  abbrev b_void : {k : Option ℕ} {r : Rule Means Tail} → Built S grammar.empty_tail k → Built S (grammar.tail_by r) k
  b_void b = b_skip (mark sign.OpenParenthesis) refl (b_right (b_left (b_skip (word key.Void) refl b)))

  abbrev b_ints : {k : Option ℕ} {r : Rule Means Tail} → Built S r k → Built S (grammar.tail_by r) k
  b_ints b = b_skip (mark sign.OpenParenthesis) refl (b_right (b_right (b_skip (word key.Int) refl b)))

  declares_nothing : {k : Option ℕ} {r : Rule Means Tail} → Written S (grammar.tail_by r) k (tail_lexemes (declares 0)) (declares 0)
  declares_nothing = written (b_void (b_skip (mark sign.CloseParenthesis) refl (b_left (b_skip (mark sign.Semicolon) refl b_done)))) refl refl

  defines_nothing : {k : Option ℕ} {r : Rule Means Tail} (b : tree.Block) → BlockAgain b → PlainBlock b
      → Written S (grammar.tail_by r) k (tail_lexemes (defines (tree.ints []) b)) (bare_tail (defines (tree.ints []) b))
  defines_nothing b h pl = written (b_void (b_skip (mark sign.CloseParenthesis) refl (b_right (b_last (b_of (h pl _)))))) refl refl

  pub tail_again : (t : Tail) → GoodTail t → TailBy grammar.tail t
  tail_again (declares zero) h pl k = declares_nothing
  tail_again (declares (suc m)) h pl k =
      written (b_ints (b_by_false (b_skip (mark sign.Semicolon) refl b_done) (b_parameter_list_none m) refl)) refl
      (ap (λ i. declares (suc i)) (nones_length m))
  tail_again (defines (tree.ints []) b) h pl k = defines_nothing b h pl
  tail_again (defines (tree.ints (x ∷ xs)) b) h pl k =
      written (b_ints (b_by_true (b_right (b_last (b_of (h pl k)))) (b_parameter_list_some x xs) (somes_named xs))) refl
      (ap (λ l. defines (tree.ints (bare_word x ∷ l)) (bare_block b)) (named_somes xs))
  tail_again (defines (tree.command_line c s) b) h pl k = elim h [ ]

  pub main_again : (t : Tail) → GoodMain t → TailBy grammar.main_tail t
  main_again (declares zero) h pl k = declares_nothing
  main_again (declares (suc zero)) h pl k =
      written (b_ints (b_right (b_left (b_skip (mark sign.CloseParenthesis) refl (b_skip (mark sign.Semicolon) refl b_done))))) refl refl
  main_again (declares (suc (suc m))) h pl k =
      written
      (b_ints
      (b_right
      (b_right
      (b_skip (mark sign.Comma) refl (b_skip (word key.Int) refl (b_then (b_skip (mark sign.Semicolon) refl b_done) (b_parameter_list_none m)))))))
      refl (ap (λ i. declares (suc (suc i))) (nones_length m))
  main_again (defines (tree.ints []) b) h pl k = defines_nothing b h pl
  main_again (defines (tree.ints (x ∷ [])) b) h pl k =
      written
      (b_ints
      (b_left (b_then (b_left (b_skip (mark sign.CloseParenthesis) refl (b_right (b_last (b_of (h pl k))))))
      (b_name x (names_are x.text))))) refl refl
  main_again (defines (tree.ints (x ∷ y ∷ ys)) b) h pl k =
      written
      (b_ints
      (b_left
      (b_then
      (b_right
      (b_skip (mark sign.Comma) refl
      (b_right (b_skip (word key.Int) refl (b_by_true (b_right (b_last (b_of (h pl k)))) (b_parameter_list_some y ys) (somes_named ys))))))
      (b_name x (names_are x.text))))) refl
      (ap (λ l. defines (tree.ints (bare_word x ∷ bare_word y ∷ l)) (bare_block b)) (named_somes ys))
  main_again (defines (tree.command_line c s) b) h pl k =
      written
      (b_ints
      (b_left
      (b_then
      (b_right
      (b_skip (mark sign.Comma) refl
      (b_left (b_skip (name (codes "char")) refl (b_then (b_last (b_of (h pl k))) (b_before (mark sign.CloseParenthesis) refl
      (b_skip (mark sign.Star) refl
      (b_left (b_then (b_skip (mark sign.OpenBracket) refl (b_skip (mark sign.CloseBracket) refl b_done))
      (b_name s (names_are s.text))))))))))) (b_name c (names_are c.text))))) refl refl
