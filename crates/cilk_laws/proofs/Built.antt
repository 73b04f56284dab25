-- Lexemes from which a rule is built, a step of the rule at a time.
use Rattle.std.proofs.Common.{◌≡◌, ℕ, ◌≤◌, Bool, true, false, List, [], ◌∷◌, ◌++◌, map, Option, Some, refl, sym, subst, inl, inr, eq-eqb}
use Rattle.std.proofs.lemmas.List.{append-nil}
use Rattle.cilk_check.specs.lexeme.Lexeme.{Lexeme, Piece, word, name, number, literal, inclusion}
use Rattle.cilk_check.specs.lexeme.declared.header.Header.{Header}
use Rattle.cilk_check.specs.lexeme.declared.keyword.Keyword.{Keyword}
use Rattle.cilk_check.specs.syntax.Tree as tree
use Rattle.cilk_check.specs.syntax.Bare.{bare_word, bare_literal, bare_expr}
use Rattle.cilk_parse.specs.grammar.Rule as rule
use Rattle.cilk_parse.specs.grammar.Rule.{Rule, done, skip, part, and_then, either, many, nearest, by_value, has, is, next, no_more, one_more, EachBefore}
use Rattle.cilk_parse_grammar.specs.Classes.{cls, class_of, a_word, name_class}
use Rattle.cilk_parse_grammar.specs.Expressions.{operators}
use Rattle.cilk_parse_grammar.specs.Parts.{Leaf, the_literal, the_header, Part, token, an_expr, Means, LeafMeans}
use Rattle.cilk_parse_grammar.specs.Forms.{keyword_place, name_of}
use Rattle.cilk_parse_grammar.specs.Forms as forms
use Rattle.cilk_parse_grammar.specs.Spelling.{first_of, IsOne}
use Rattle.cilk_laws.specs.ExprLexemes.{each, expr_lexemes}
use Rattle.cilk_laws.proofs.ReadExprs.{at0, all_at0, at0-append}
use Rattle.cilk_laws.proofs.Made as made
use Rattle.cilk_laws.proofs.Made.{EachMade}

abbrev pub Says : Type 1
Says = (p : Part) → Option ℕ → List Piece → Means p → Type 0

-- what parts say, of tokens and of expressions with at most so many operators
pub record Setting : Type 1 where
  pub limit : ℕ
  pub says : Says
  pub one : (t : Leaf) (k : Option ℕ) (ts : List Piece) (x : LeafMeans t) → IsOne t ts x → says (token t) k ts x
  pub expr : (k : Option ℕ) (e : tree.Expr) → operators e ≤ limit → says an_expr k (all_at0 (expr_lexemes e)) (bare_expr e)

abbrev pub Spells : {A : Type 0} → Setting → Rule Means A → Option ℕ → List Lexeme → A → Type 0
Spells S r k ls x = rule.Spelled cls first_of S.says r k (all_at0 ls) x

pub record Written {A : Type 0} (S : Setting) (r : Rule Means A) (k : Option ℕ) (ls : List Lexeme) (x : A) : Type 0 where
  pub it : Spells S r k ls x

pub record Built {A : Type 0} (S : Setting) (r : Rule Means A) (k : Option ℕ) : Type 0 where
  pub ls : List Lexeme
  pub means : A
  pub it : Spells S r k ls means

pub written : {A : Type 0} {S : Setting} {r : Rule Means A} {k : Option ℕ} {ls : List Lexeme} {x : A} (b : Built S r k) → b.ls ≡ ls
    → b.means ≡ x → Written S r k ls x
written {S = S} {r = r} {k = k} {ls = ls} b e h = record { it = subst (λ y. Spells S r k ls y) h (subst (λ l. Spells S r k l b.means) e b.it) }

abbrev pub b_of : {A : Type 0} {S : Setting} {r : Rule Means A} {k : Option ℕ} {ls : List Lexeme} {x : A} → Written S r k ls x → Built S r k
b_of {ls = ls} {x = x} w = record { ls = ls; means = x; it = w.it }

abbrev pub b_done : {A : Type 0} {S : Setting} {a : A} {k : Option ℕ} → Built S (done a) k
b_done {a = a} = record { ls = []; means = a; it = (refl, refl) }

abbrev pub b_skip : {A : Type 0} {S : Setting} {c : ℕ} {p : Rule Means A} {k : Option ℕ} (x : Lexeme) → is c (Some (class_of x)) ≡ true
    → Built S p k → Built S (skip c p) k
b_skip x e b = record { ls = x ∷ b.ls; means = b.means; it = record { token = at0 x; rest = all_at0 b.ls; is = e; whole = refl; spelled = b.it } }

abbrev pub b_then : {A B : Type 0} {S : Setting} {p : Rule Means B} {q : Rule Means (B → A)} {k : Option ℕ} (c : Built S q k)
    → Built S p (next cls (all_at0 c.ls) k) → Built S (and_then p q) k
b_then c b = record {
  ls = b.ls ++ c.ls;
  means = c.means b.means;
  it =
      record {
        front = all_at0 b.ls;
        back = all_at0 c.ls;
        means = b.means;
        makes = c.means;
        spelled_front = b.it;
        spelled_back = c.it;
        whole =
            at0-append b.ls c.ls;
        meaning = refl;
      };
}

-- where nothing stands behind it
abbrev pub b_last : {A B : Type 0} {S : Setting} {p : Rule Means B} {f : B → A} {k : Option ℕ} → Built S p k → Built S (and_then p (done f)) k
b_last {f = f} b = record {
  ls = b.ls;
  means = f b.means;
  it =
      record {
        front = all_at0 b.ls;
        back = [];
        means = b.means;
        makes = f;
        spelled_front = b.it;
        spelled_back = (refl, refl);
        whole = sym
            (append-nil (all_at0 b.ls));
        meaning = refl;
      };
}

-- where no more stands behind it
abbrev pub b_only : {A B C : Type 0} {S : Setting} {p : Rule Means B} {q : Rule Means C} {f : List C → B → A} {k : Option ℕ} → Built S p k
    → Built S (and_then p (and_then (many q) (done f))) k
b_only {f = f} b = record {
  ls = b.ls;
  means = f [] b.means;
  it = record {
    front = all_at0 b.ls;
    back = [];
    means = b.means;
    makes = f [];
    spelled_front = b.it;
    spelled_back =
        record {
          front = [];
          back = [];
          means = [];
          makes = f;
          spelled_front = no_more refl refl;
          spelled_back = (refl, refl);
          whole = refl;
          meaning = refl;
        };
    whole = sym (append-nil (all_at0 b.ls));
    meaning = refl;
  };
}

abbrev pub b_left : {A : Type 0} {S : Setting} {p q : Rule Means A} {k : Option ℕ} → Built S p k → Built S (either p q) k
b_left b = record { ls = b.ls; means = b.means; it = inl b.it }

abbrev pub b_right : {A : Type 0} {S : Setting} {p q : Rule Means A} {k : Option ℕ} → Built S q k → Built S (either p q) k
b_right b = record { ls = b.ls; means = b.means; it = inr b.it }

-- nothing, where no p can begin
abbrev pub b_none : {A B : Type 0} {S : Setting} {q : Rule Means B} {p : Rule Means (B → A)} {a : B → A} {k : Option ℕ}
    → has (rule.first first_of p) k ≡ false → Built S q k → Built S (and_then q (nearest p a)) k
b_none {a = a} h b = record {
  ls = b.ls;
  means = a b.means;
  it =
      record {
        front = all_at0 b.ls;
        back = [];
        means = b.means;
        makes = a;
        spelled_front = b.it;
        spelled_back = inr (refl, refl, h);
        whole = sym
            (append-nil (all_at0 b.ls));
        meaning = refl;
      };
}

abbrev pub b_some : {A : Type 0} {S : Setting} {p : Rule Means A} {a : A} {k : Option ℕ} → Built S p k → Built S (nearest p a) k
b_some b = record { ls = b.ls; means = b.means; it = inl b.it }

abbrev pub b_by_true : {A B : Type 0} {S : Setting} {v : B → Bool} {p : Rule Means B} {q r : Rule Means (B → A)} {k : Option ℕ}
    (c : Built S q k) (b : Built S p (next cls (all_at0 c.ls) k)) → v b.means ≡ true → Built S (by_value v p q r) k
b_by_true c b e = record {
  ls = b.ls ++ c.ls;
  means = c.means b.means;
  it =
      record {
        front = all_at0 b.ls;
        back = all_at0 c.ls;
        means = b.means;
        makes = c.means;
        spelled_front = b.it;
        spelled_back = inl (e, c.it);
        whole = at0-append b.ls c.ls;
        meaning = refl;
      };
}

abbrev pub b_by_false : {A B : Type 0} {S : Setting} {v : B → Bool} {p : Rule Means B} {q r : Rule Means (B → A)} {k : Option ℕ}
    (c : Built S r k) (b : Built S p (next cls (all_at0 c.ls) k)) → v b.means ≡ false → Built S (by_value v p q r) k
b_by_false c b e = record {
  ls = b.ls ++ c.ls;
  means = c.means b.means;
  it =
      record {
        front = all_at0 b.ls;
        back = all_at0 c.ls;
        means = b.means;
        makes = c.means;
        spelled_front = b.it;
        spelled_back = inr (e, c.it);
        whole = at0-append b.ls c.ls;
        meaning = refl;
      };
}

-- ---- forms

abbrev pub b_before : {A : Type 0} {S : Setting} {c : ℕ} {p : Rule Means A} {k : Option ℕ} (x : Lexeme) → is c (Some (class_of x)) ≡ true
    → Built S p (Some (class_of x)) → Built S (and_then p (skip c (done (λ y. y)))) k
b_before x e b = b_then (b_skip x e b_done) b

-- ---- parts

abbrev pub b_name : {S : Setting} {cs : List ℕ} {k : Option ℕ} (x : tree.Word) → has cs (Some (name_class x.text)) ≡ true → Built S (name_of cs) k
b_name {S = S} {k = k} x e =
    record {
      ls = name x.text ∷ [];
      means = bare_word x;
      it = S.one _ k _ _
          (record { piece = at0 (name x.text); is = e; whole = refl; meaning = refl });
    }

abbrev pub b_word : {S : Setting} {k : Option ℕ} (w : Keyword) → Built S (keyword_place w) k
b_word {S = S} {k = k} w =
    record {
      ls = word w
          ∷ [];
      means = 0;
      it = S.one _ k _ _
          (record { piece = at0 (word w); is = eq-eqb (a_word w) (a_word w) refl; whole = refl; meaning = refl });
    }

abbrev pub b_number : {S : Setting} {k : Option ℕ} (n : ℕ) → Built S forms.number k
b_number {S = S} {k = k} n =
    record
    { ls = number n ∷ []; means = n; it = S.one _ k _ _ (record { piece = at0 (number n); is = refl; whole = refl; meaning = refl }) }

abbrev pub b_literal : {S : Setting} {k : Option ℕ} (t : tree.Literal) → Built S (part (token the_literal)) k
b_literal {S = S} {k = k} t =
    record {
      ls = literal t.bytes ∷ [];
      means = bare_literal t;
      it = S.one _ k _ _
          (record { piece = at0 (literal t.bytes); is = refl; whole = refl; meaning = refl });
    }

abbrev pub b_header : {S : Setting} {k : Option ℕ} (h : Header) → Built S (part (token the_header)) k
b_header {S = S} {k = k} h =
    record
    { ls = inclusion h ∷ []; means = h; it = S.one _ k _ _ (record { piece = at0 (inclusion h); is = refl; whole = refl; meaning = refl }) }

abbrev pub b_expr : {S : Setting} {k : Option ℕ} (e : tree.Expr) → operators e ≤ S.limit → Built S forms.expression k
b_expr {S = S} {k = k} e h = record { ls = expr_lexemes e; means = bare_expr e; it = S.expr k e h }

-- ---- one after another

pub each_before : {A B : Type 0} (S : Setting) (p : Rule Means A) (f : B → List Lexeme) (g : B → A) (H : B → Type 0)
    → ((x : B) (j : Option ℕ) → H x → Spells S p j (f x) (g x)) → (xs : List B) (k : Option ℕ) → EachMade H xs
    → EachBefore cls (λ j us y. rule.Spelled cls first_of S.says p j us y) k (all_at0 (each f xs)) (map g xs)
each_before S p f g H h xs k made.no_more = no_more refl refl
each_before S p f g H h xs k (made.one_more {x = y} {xs = ys} i m) =
    one_more (h y (next cls (all_at0 (each f ys)) k) i) (each_before S p f g H h ys k m) (at0-append (f y) (each f ys)) refl
