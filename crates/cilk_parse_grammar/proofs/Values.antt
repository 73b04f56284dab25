-- The laws of what an assignment writes: by two tokens it is a call or an expression.
use Rattle.std.proofs.Common.{◌≡◌, ℕ, ◌≤◌, Bool, true, false, List, [], ◌∷◌, ◌++◌, length, Option, Some, Ok, refl, sym, ap, subst, ◌∙◌, inl, inr}
use Rattle.std.proofs.Common.{arith, length-append}
use Rattle.std.proofs.lemmas.Bool.{and_parts, or_parts}
use Rattle.cilk_tree_syntax.specs.lexeme.Lexeme.{Lexeme, Piece, word, name, number, mark, literal, inclusion}
use Rattle.cilk_tree_syntax.specs.lexeme.declared.keyword.Keyword.{Keyword}
use Rattle.cilk_tree_syntax.specs.lexeme.declared.keyword.Keyword.TheVariants as words
use Rattle.cilk_tree_syntax.specs.lexeme.declared.mark.Mark.{Mark}
use Rattle.cilk_tree_syntax.specs.lexeme.declared.mark.Mark.TheVariants as sign
use Rattle.cilk_tree_syntax.specs.Tree as tree
use Rattle.cilk_parse_grammar.specs.Rule as rule
use Rattle.cilk_parse_grammar.specs.Rule.{Rule, has, is, behind, class_at}
use Rattle.cilk_parse_grammar.proofs.RulesTools.{bind_ok, ok_is, chosen}
use Rattle.cilk_parse_grammar.proofs.Tokens.{apart_has}
use Rattle.cilk_parse_grammar.proofs.Begun as begun
use Rattle.cilk_parse_grammar.proofs.Begun.{Begun, with_token, with_nothing, wider}
use Rattle.cilk_parse_grammar.proofs.RulesSound as sound
use Rattle.cilk_parse_grammar.proofs.RulesSound.{Took}
use Rattle.cilk_parse_grammar.proofs.RulesComplete as complete
use Rattle.cilk_parse_grammar.proofs.RulesComplete.{begins_so}
use Rattle.cilk_parse_grammar.proofs.Room as room
use Rattle.cilk_parse_grammar.specs.Classes.{cls, class_of, a_word, a_mark, names}
use Rattle.cilk_parse_grammar.specs.Expressions.{begins_expr, goes_on_expr, SpellsWhole}
use Rattle.cilk_parse_grammar.specs.Reading.{whole_of}
use Rattle.cilk_parse_grammar.specs.Parts.{Part, token, an_expr, a_value, nest, Value, computed, Means}
use Rattle.cilk_parse_grammar.specs.Spelling.{first_of, more_of, leaf_says, leaf_parts, call, call_behind, SpellsValue, begins_call, value_at}
use Rattle.cilk_parse_grammar.proofs.Fine.{call_fine}
use Rattle.cilk_parse_grammar.proofs.Leaves.{leaf_begins, leaf_takes, leaf_again}
use Rattle.cilk_parse_grammar.proofs.Exprs.{expr_begins, expr_takes, expr_complete, expr_wider, name_alone, names_begin}

-- ---- a token of the class of a name is a name

no_word : (w : Keyword) → has names (Some (a_word w)) ≡ false
no_word words.Int = refl
no_word _ = refl

no_mark : (m : Mark) → has names (Some (a_mark m)) ≡ false
no_mark sign.Comma = refl
no_mark _ = refl

pub is_name : (x : Lexeme) → has names (Some (class_of x)) ≡ true → ((text : List ℕ) × (x ≡ name text))
is_name (name text) e = (text, refl)
is_name (word w) e = absurd (let f : true ≡ false = sym e ∙ no_word w in cc)
is_name (mark m) e = absurd (let f : true ≡ false = sym e ∙ no_mark m in cc)
is_name (number n) e = absurd cc
is_name (literal bytes) e = absurd cc
is_name (inclusion h) e = absurd cc

module _ (l d : ℕ) where
  -- ---- the parts of a call

  pub leaf_parts_begin : begun.PartsBegin cls first_of (leaf_says l d)
  leaf_parts_begin (token t) k us x s = leaf_begins t us x s
  leaf_parts_begin an_expr k us x s = expr_begins l d us x s
  leaf_parts_begin a_value k us x s = elim s [ ]
  leaf_parts_begin (nest p) k us x s = elim s [ ]

  pub leaf_parts_sound : sound.PartsSound cls first_of (leaf_says l d) (leaf_parts l d)
  leaf_parts_sound (token t) ts y e = let s = leaf_takes t ts y e in record { used = s.used; whole = s.whole; spelled = s.spelled }
  leaf_parts_sound an_expr ts y e = let s = expr_takes l d ts y e in record { used = s.used; whole = s.whole; spelled = s.spelled }
  leaf_parts_sound a_value ts y e = absurd cc
  leaf_parts_sound (nest p) ts y e = absurd cc

  pub leaf_parts_complete : complete.PartsComplete cls first_of more_of (leaf_says l d) (leaf_parts l d)
  leaf_parts_complete (token t) us x rest s e = leaf_again t us x rest s
  leaf_parts_complete an_expr us x rest s e = expr_complete l d us x rest s e
  leaf_parts_complete a_value us x rest s e = elim s [ ]
  leaf_parts_complete (nest p) us x rest s e = elim s [ ]

  -- ---- the laws

  pub value_begins : (k : Option ℕ) (us : List Piece) (x : Value) → SpellsValue l d k us x → Begun cls begins_expr false us
  value_begins k us x (inl s) = expr_begins l d us s.expr s.spelled
  value_begins k us x (inr s) =
      wider cls names begins_expr false false us names_begin (λ e. e)
      (begun.begun cls first_of (leaf_says l d) call k us x leaf_parts_begin s)

  pub value_takes : (ts : List Piece) (y : Value × List Piece) → value_at l d ts ≡ Ok y → Took cls (λ k us x. SpellsValue l d k us x) ts y
  unfolding value_at
  value_takes ts y e =
      elim (chosen (begins_call ts) _ _ _ e) [
        | inl b ↦ let t =
            sound.takes cls first_of (leaf_says l d) (leaf_parts l d) call ts y leaf_parts_sound b.1
            in record { used = t.used; whole = t.whole; spelled = inr t.spelled }
        | inr b ↦
            let a = bind_ok (whole_of l d ts) _ y b.1 in
            let t = expr_takes l d ts a.0 a.1 in
            subst (λ z. Took cls (λ k us x. SpellsValue l d k us x) ts z) (ok_is (computed a.0.0, a.0.1) y a.2)
            (record { used = t.used; whole = t.whole; spelled = inl (record { expr = a.0.0; spelled = t.spelled; meaning = refl }) })
      ]

  -- no expression goes on behind a name with an opening parenthesis
  no_call : (us : List Piece) (e : tree.Expr) (rest : List Piece) → SpellsWhole l d us e
      → has (a_mark sign.OpenParenthesis ∷ goes_on_expr) (class_at cls rest) ≡ false → begins_call (us ++ rest) ≡ false
  no_call us e rest s h = by us (begins_call (us ++ rest)) refl s (expr_begins l d us e s)
    where
      stops : (is (a_mark sign.OpenParenthesis) (class_at cls rest) ≡ false) × (has goes_on_expr (class_at cls rest) ≡ false)
      stops = or_parts (is (a_mark sign.OpenParenthesis) (class_at cls rest)) (has goes_on_expr (class_at cls rest)) h

      by : (us : List Piece) (b : Bool) → begins_call (us ++ rest) ≡ b → SpellsWhole l d us e → Begun cls begins_expr false us
          → begins_call (us ++ rest) ≡ false
      by us false c s g = c
      by [] true c s (with_token lt f) = absurd (omega (arith, lt))
      by [] true c s (with_nothing f i) = absurd cc
      by (t ∷ []) true c s g =
          let k = and_parts (has names (Some (cls t))) (is (a_mark sign.OpenParenthesis) (class_at cls rest)) c
          in absurd (let f : true ≡ false = sym k.1 ∙ stops.0 in cc)
      by (t ∷ u ∷ us) true c s g =
          let k = and_parts (has names (Some (cls t))) (is (a_mark sign.OpenParenthesis) (Some (cls u))) c in
          let x = is_name t.lexeme k.0 in
          let alone = expr_complete l d (t ∷ []) _ (u ∷ (us ++ rest)) (name_alone l d t x.0 x.1)
          (apart_has goes_on_expr (a_mark sign.OpenParenthesis ∷ []) (Some (cls u)) refl k.1) in
          let same : u
          ∷ (us ++ rest)
          ≡ rest = ap (λ (y : tree.Expr × List Piece). y.1)
          (ok_is (tree.named (record { text = x.0; place = t.start }), u ∷ (us ++ rest)) (e, rest)
          (sym alone ∙ expr_complete l d (t ∷ u ∷ us) e rest s stops.1)) in
          absurd (omega (arith, ap length same, length-append us rest))

  pub value_again : (us : List Piece) (x : Value) (rest : List Piece) → SpellsValue l d (class_at cls rest) us x
      → has (more_of a_value) (class_at cls rest) ≡ false → value_at l d (us ++ rest) ≡ Ok (x, rest)
  unfolding value_at
  value_again us x rest (inl s) h =
      let stops = or_parts (is (a_mark sign.OpenParenthesis) (class_at cls rest)) (has goes_on_expr (class_at cls rest)) h in
      rw (no_call us s.expr rest s.spelled h, expr_complete l d us s.expr rest s.spelled stops.1, s.meaning) refl
  value_again us x rest (inr s) h =
      let opens = begins_so cls (rule.first first_of call_behind) false s.back rest
      (begun.begun cls first_of (leaf_says l d) call_behind (class_at cls rest) s.back s.makes leaf_parts_begin s.spelled_back) refl in
      let shape : us ++ rest ≡ s.spelled_front.piece ∷ (s.back ++ rest) = ap (λ (v : List Piece). v ++ rest) s.whole
      ∙ ap (λ (v : List Piece). (v ++ s.back) ++ rest) s.spelled_front.whole in
      let calls : begins_call (us ++ rest) ≡ true = ap begins_call shape ∙ rw (s.spelled_front.is, opens.1) refl in
      rw calls (complete.complete cls first_of more_of (leaf_says l d) (leaf_parts l d) call us x rest leaf_parts_begin leaf_parts_complete call_fine s refl)

pub value_wider : (l l' d d' : ℕ) → l ≤ l' → d ≤ d' → (k : Option ℕ) (us : List Piece) (x : Value) → SpellsValue l d k us x → SpellsValue l' d' k us x
value_wider l l' d d' le le' k us x (inl s) = inl (record { expr = s.expr; spelled = expr_wider l l' d d' le le' us s.expr s.spelled; meaning = s.meaning })
value_wider l l' d d' le le' k us x (inr s) = inr (room.wider cls first_of (leaf_says l d) (leaf_says l' d') parts call k us x s)
  where
    parts : (p : Part) (k : Option ℕ) (us : List Piece) (x : Means p) → leaf_says l d p k us x → leaf_says l' d' p k us x
    parts (token t) k us x s = s
    parts an_expr k us x s = expr_wider l l' d d' le le' us x s
    parts a_value k us x s = s
    parts (nest p) k us x s = s
