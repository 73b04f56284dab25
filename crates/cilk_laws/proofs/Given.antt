-- What a rule makes of good parts, a step of the rule at a time.
use Rattle.std.proofs.Common.{◌≡◌, ℕ, ◌≤◌, Bool, true, false, List, [], ◌∷◌, Option, Some}
use Rattle.cilk_check.specs.lexeme.declared.keyword.Keyword.{Keyword}
use Rattle.cilk_check.specs.lexeme.declared.keyword.Keyword.TheVariants as key
use Rattle.cilk_check.specs.syntax.Tree.{Word, Expr}
use Rattle.cilk_check.specs.syntax.Bare.{bare_stmt, bare_local}
use Rattle.cilk_parse.specs.grammar.Rule.{Rule, done, skip, part, and_then, either, many, nearest, by_value, has}
use Rattle.cilk_parse_grammar.specs.Classes.{a_word, name_class}
use Rattle.cilk_parse_grammar.specs.Expressions.{operators}
use Rattle.cilk_parse_grammar.specs.Parts.{the_word, the_name, the_number, the_literal, the_header, Nest, a_statement, no_block, an_inlet, Part}
use Rattle.cilk_parse_grammar.specs.Parts.{token, an_expr, a_value, nest, Value, computed, called, NestMeans, Means}
use Rattle.cilk_parse_grammar.specs.Forms.{keyword_place, name_of, number, expression, value, statement, unbraced, inlet, commas, behind_commas}
use Rattle.cilk_parse_grammar.specs.Spelling.{SpellsNest}
use Rattle.cilk_laws.specs.Plain.{PlainStmt, PlainLocal}
use Rattle.cilk_laws.specs.StmtLexemes.{stmt_lexemes, local_lexemes}
use Rattle.cilk_laws.proofs.ReadExprs.{all_at0}
use Rattle.cilk_laws.proofs.Made as made
use Rattle.cilk_laws.proofs.Made.{EachMade}

-- ---- good parts

abbrev pub no_else : Option ℕ → Type 0
no_else k = has (a_word key.Else ∷ []) k ≡ false

abbrev pub GoodName : List ℕ → Word → Type 0
GoodName cs x = has cs (Some (name_class x.text)) ≡ true

module _ (l : ℕ) where
  abbrev pub Few : List Expr → Type 0
  Few es = EachMade (λ e. operators e ≤ l) es

  abbrev pub GoodValue : Value → Type 0
  GoodValue (computed e) = operators e ≤ l
  GoodValue (called f es) = Few es

  -- its canonical lexemes spell it again
  abbrev pub Again : ℕ → ℕ → (p : Nest) → NestMeans p → Type 0
  Again d n a_statement s = PlainStmt s → (k : Option ℕ) → no_else k → SpellsNest l d n a_statement k (all_at0 (stmt_lexemes s)) (bare_stmt s)
  Again d n no_block s = PlainStmt s → (k : Option ℕ) → no_else k → SpellsNest l d n a_statement k (all_at0 (stmt_lexemes s)) (bare_stmt s)
  Again d n an_inlet x = PlainLocal x → (k : Option ℕ) → SpellsNest l d n an_inlet k (all_at0 (local_lexemes x)) (bare_local x)

  abbrev pub good : ℕ → ℕ → (p : Part) → Means p → Type 0
  good d n (token (the_word w)) x = Unit {0}
  good d n (token (the_name cs)) x = GoodName cs x
  good d n (token the_number) x = Unit {0}
  good d n (token the_literal) x = Unit {0}
  good d n (token the_header) x = Unit {0}
  good d n an_expr x = operators x ≤ l
  good d n a_value x = GoodValue x
  good d n (nest p) x = Again d n p x

-- ---- what is given

pub record Given {A : Type 0} (G : (p : Part) → Means p → Type 0) (r : Rule Means A) (R : A → Type 0) : Type 0 where
  pub it : made.AllGive G r R

-- at least one, and of each something holds
abbrev pub AtLeastOne : {A : Type 0} → (A → Type 0) → List A → Type 0
AtLeastOne R [] = ⊥
AtLeastOne R (x ∷ xs) = R x × EachMade R xs

module _ {G : (p : Part) → Means p → Type 0} where
  pub g_done : {A : Type 0} {a : A} {R : A → Type 0} → R a → Given G (done a) R
  g_done h = record { it = h }

  pub g_skip : {A : Type 0} {c : ℕ} {p : Rule Means A} {R : A → Type 0} → Given G p R → Given G (skip c p) R
  g_skip g = record { it = g.it }

  pub g_then : {A B : Type 0} {p : Rule Means B} {q : Rule Means (B → A)} {S : B → Type 0} {R : A → Type 0} → Given G p S
      → ((b : B) → S b → Given G q (λ f. R (f b))) → Given G (and_then p q) R
  g_then {p = p} {q = q} {S = S} {R = R} g h = record { it = made.weaker G p S (λ b. made.AllGive G q (λ f. R (f b))) g.it (λ b s. (h b s).it) }

  pub g_either : {A : Type 0} {p q : Rule Means A} {R : A → Type 0} → Given G p R → Given G q R → Given G (either p q) R
  g_either g h = record { it = (g.it, h.it) }

  pub g_nearest : {A : Type 0} {p : Rule Means A} {a : A} {R : A → Type 0} → Given G p R → R a → Given G (nearest p a) R
  g_nearest g h = record { it = (g.it, h) }

  pub g_by : {A B : Type 0} {v : B → Bool} {p : Rule Means B} {q r : Rule Means (B → A)} {S : B → Type 0} {R : A → Type 0} → Given G p S
      → ((b : B) → S b → v b ≡ true → Given G q (λ f. R (f b))) → ((b : B) → S b → v b ≡ false → Given G r (λ f. R (f b))) → Given G (by_value v p q r) R
  g_by {v = v} {p = p} {q = q} {r = r} {S = S} {R = R} g h i = record {
    it = made.weaker G p S (λ b. (v b ≡ true → made.AllGive G q (λ f. R (f b))) × (v b ≡ false → made.AllGive G r (λ f. R (f b)))) g.it
        (λ b s. ((λ e. (h b s e).it), (λ e. (i b s e).it)));
  }

  pub g_use : {A : Type 0} {p : Rule Means A} {S R : A → Type 0} → Given G p S → ((x : A) → S x → R x) → Given G p R
  g_use {p = p} {S = S} {R = R} g f = record { it = made.weaker G p S R g.it f }

  each_given : {A : Type 0} (p : Rule Means A) (R : A → Type 0) → Given G p R → (xs : List A) → EachMade (λ x. made.Made G p x) xs → EachMade R xs
  each_given p R g xs made.no_more = made.no_more
  each_given p R g xs (made.one_more {x = y} {xs = ys} h t) = made.one_more (made.gives G p R y g.it h) (each_given p R g ys t)

  pub g_many : {A : Type 0} {p : Rule Means A} {R : A → Type 0} → Given G p R → Given G (many p) (λ xs. EachMade R xs)
  g_many {p = p} {R = R} g = record { it = λ xs h. each_given p R g xs h }

  -- ---- forms

  pub g_before : {A : Type 0} {c : ℕ} {p : Rule Means A} {R : A → Type 0} → Given G p R → Given G (and_then p (skip c (done (λ x. x)))) R
  g_before g = g_then g (λ x h. g_skip (g_done h))

  pub g_between : {A : Type 0} {b c : ℕ} {p : Rule Means A} {R : A → Type 0} → Given G p R → Given G (skip b (and_then p (skip c (done (λ x. x))))) R
  g_between g = g_skip (g_before g)

  pub g_behind_commas : {A : Type 0} {p : Rule Means A} {R : A → Type 0} → Given G p R → Given G (behind_commas p) (λ xs. EachMade R xs)
  g_behind_commas g = g_many (g_skip g)

  pub g_commas : {A : Type 0} {p : Rule Means A} {R : A → Type 0} → Given G p R → Given G (commas p) (AtLeastOne R)
  g_commas g = g_then g (λ x h. g_then (g_behind_commas g) (λ xs hs. g_done (h, hs)))

  -- ---- parts

  pub g_word : {w : Keyword} → Given G (keyword_place w) (λ x. G (token (the_word w)) x)
  g_word = record { it = λ x h. h }

  pub g_name : {cs : List ℕ} → Given G (name_of cs) (λ x. G (token (the_name cs)) x)
  g_name = record { it = λ x h. h }

  pub g_number : Given G number (λ x. G (token the_number) x)
  g_number = record { it = λ x h. h }

  pub g_literal : Given G (part (token the_literal)) (λ x. G (token the_literal) x)
  g_literal = record { it = λ x h. h }

  pub g_header : Given G (part (token the_header)) (λ x. G (token the_header) x)
  g_header = record { it = λ x h. h }

  pub g_expr : Given G expression (λ e. G an_expr e)
  g_expr = record { it = λ x h. h }

  pub g_value : Given G value (λ v. G a_value v)
  g_value = record { it = λ x h. h }

  pub g_statement : Given G statement (λ s. G (nest a_statement) s)
  g_statement = record { it = λ x h. h }

  pub g_unbraced : Given G unbraced (λ s. G (nest no_block) s)
  g_unbraced = record { it = λ x h. h }

  pub g_inlet : Given G inlet (λ x. G (nest an_inlet) x)
  g_inlet = record { it = λ x h. h }
