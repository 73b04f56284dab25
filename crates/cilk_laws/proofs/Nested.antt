-- What tokens spell is good: its canonical lexemes spell it again. By induction on how deep statements and inlets stand.
use Rattle.std.proofs.Common.{◌≡◌, ℕ, zero, suc, ◌≤◌, true, List, Option, Some, sym, subst, inl, inr}
use Rattle.cilk_check.specs.lexeme.Lexeme.{Lexeme, Piece, name}
use Rattle.cilk_check.specs.syntax.Tree as tree
use Rattle.cilk_parse.specs.grammar.Rule.{has}
use Rattle.cilk_parse_grammar.specs.Classes.{cls, class_of}
use Rattle.cilk_parse_grammar.specs.Parts.{the_word, the_name, the_number, the_literal, the_header, Nest, a_statement, no_block, an_inlet, Part}
use Rattle.cilk_parse_grammar.specs.Parts.{token, an_expr, a_value, nest, Value, NestMeans, Means}
use Rattle.cilk_parse_grammar.specs.Grammar.{rule_of}
use Rattle.cilk_parse_grammar.specs.Spelling.{first_of, said, leaf_says, call, SpellsValue, SpellsNest}
use Rattle.cilk_parse_grammar.proofs.Nests.{says}
use Rattle.cilk_laws.proofs.Made as made
use Rattle.cilk_laws.proofs.Given.{GoodName, GoodValue, Again, good, Given, g_done, g_then, g_use, g_name}
use Rattle.cilk_laws.proofs.ReadMoves as moves
use Rattle.cilk_laws.proofs.ReadStmts as stmts

name_good : (cs : List ℕ) (x : Lexeme) (at : ℕ) (y : tree.Word) → said (the_name cs) x at ≡ Some y → has cs (Some (class_of x)) ≡ true → GoodName cs y
name_good cs (name text) at y e h = let f : text ≡ y.text = cc in subst (λ t. GoodName cs (record { text = t; place = at })) f h
name_good cs x at y e h = absurd cc

module _ (l d : ℕ) (le : l ≤ d) where
  -- ---- parts

  leaf_good : (n : ℕ) (p : Part) (k : Option ℕ) (us : List Piece) (x : Means p) → leaf_says l d p k us x → good l d n p x
  leaf_good n (token (the_word w)) k us x s = tt
  leaf_good n (token (the_name cs)) k us x s = name_good cs s.piece.lexeme s.piece.start x s.meaning s.is
  leaf_good n (token the_number) k us x s = tt
  leaf_good n (token the_literal) k us x s = tt
  leaf_good n (token the_header) k us x s = tt
  leaf_good n an_expr k us x s = s.few
  leaf_good n a_value k us x s = elim s [ ]
  leaf_good n (nest p) k us x s = elim s [ ]

  call_given : (n : ℕ) → Given (good l d n) call (GoodValue l)
  call_given n = g_then g_name (λ f hf. g_then (moves.arguments_given l d le n) (λ es h. g_done h))

  value_good : (n : ℕ) (k : Option ℕ) (us : List Piece) (x : Value) → SpellsValue l d k us x → GoodValue l x
  value_good n k us x (inl s) = subst (λ v. GoodValue l v) (sym s.meaning) s.spelled.few
  value_good n k us x (inr s) =
      made.gives (good l d n) call (GoodValue l) x (call_given n).it
      (made.made (good l d n) cls first_of (leaf_says l d) (leaf_good n) call k us x s)

  parts_good : (n : ℕ) → ((p : Nest) (k : Option ℕ) (us : List Piece) (x : NestMeans p) → SpellsNest l d n p k us x → Again l d n p x)
      → (p : Part) (k : Option ℕ) (us : List Piece) (x : Means p) → says l d n p k us x → good l d n p x
  parts_good n h (token (the_word w)) k us x s = tt
  parts_good n h (token (the_name cs)) k us x s = name_good cs s.piece.lexeme s.piece.start x s.meaning s.is
  parts_good n h (token the_number) k us x s = tt
  parts_good n h (token the_literal) k us x s = tt
  parts_good n h (token the_header) k us x s = tt
  parts_good n h an_expr k us x s = s.few
  parts_good n h a_value k us x s = value_good n k us x s
  parts_good n h (nest p) k us x s = h p k us x s

  -- ---- statements and inlets

  by_rule : (n : ℕ) (p : Nest) → Given (good l d n) (rule_of p) (λ x. Again l d (suc n) p x)
  unfolding SpellsNest
  by_rule n a_statement = g_use (stmts.statement_given l d le n) (λ s h pl k ne. (h pl k ne).it)
  by_rule n no_block = g_use (stmts.no_block_given l d le n) (λ s h pl k ne. inr (h pl k ne).it)
  by_rule n an_inlet = g_use (stmts.inlet_given l d le n) (λ x h pl k. (h pl k).it)

  pub nest_again : (n : ℕ) (p : Nest) (k : Option ℕ) (us : List Piece) (x : NestMeans p) → SpellsNest l d n p k us x → Again l d n p x
  unfolding SpellsNest
  nest_again zero p k us x s = elim s [ ]
  nest_again (suc n) p k us x s =
      made.gives (good l d n) (rule_of p) (λ y. Again l d (suc n) p y) x (by_rule n p).it
      (made.made (good l d n) cls first_of (says l d n) (parts_good n (nest_again n)) (rule_of p) k us x s)

  pub parts_are_good : (n : ℕ) (p : Part) (k : Option ℕ) (us : List Piece) (x : Means p) → says l d n p k us x → good l d n p x
  parts_are_good n = parts_good n (nest_again n)
