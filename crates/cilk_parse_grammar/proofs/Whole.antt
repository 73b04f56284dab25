-- The laws of a whole expression, as a rule asks them of its parts.
use Rattle.std.proofs.Common.{◌≡◌, ℕ, zero, suc, ◌≤◌, List, [], ◌∷◌, ◌++◌, length, true, false, Option, Some, None, Ok, refl, sym, ap, subst, ◌∙◌, arith}
use Rattle.std.proofs.lemmas.Bool.{or_right, or_left}
use Rattle.cilk_tree_syntax.specs.lexeme.Lexeme.{Lexeme, Piece, name}
use Rattle.cilk_tree_syntax.specs.lexeme.declared.keyword.Keyword.TheVariants as words
use Rattle.cilk_tree_syntax.specs.lexeme.declared.mark.Mark.TheVariants as marks
use Rattle.cilk_tree_syntax.specs.declared.un_op.UnOp.{UnOp}
use Rattle.cilk_tree_syntax.specs.Tree as tree
use Rattle.cilk_parse_grammar.specs.Rule.{has, class_at}
use Rattle.cilk_parse_grammar.proofs.RulesTools.{bind_ok, ok_is}
use Rattle.cilk_parse_grammar.proofs.Tokens.{has_append}
use Rattle.cilk_parse_grammar.proofs.Begun.{Begun, with_token, with_nothing}
use Rattle.cilk_parse_grammar.proofs.RulesSound as sound
use Rattle.cilk_parse_grammar.specs.Classes.{a_word, a_mark, a_number, names, class_of, cls}
use Rattle.cilk_parse_grammar.specs.Operators.{infixes, prefixes, classes, sign_of}
use Rattle.cilk_parse_grammar.specs.Expressions.{operators, Spells, SpellsWhole, a_number_is, a_name_is, synched_is, an_element, in_parentheses}
use Rattle.cilk_parse_grammar.specs.Expressions.{of_one, of_two, of_three, begins_expr, goes_on_expr}
use Rattle.cilk_parse_grammar.specs.Front.{infix_in}
use Rattle.cilk_parse_grammar.specs.Reading.{expr_of, whole_of}
use Rattle.cilk_parse_grammar.proofs.Tables.{has_more, found_none, found_in}
use Rattle.cilk_parse_grammar.proofs.ClassFacts.{names_are}
use Rattle.cilk_parse_grammar.proofs.Tools.{Stops, StopsAt, BelowAt}
use Rattle.cilk_parse_grammar.proofs.Sound.{expr_takes}
use Rattle.cilk_parse_grammar.proofs.Complete.{Ends, complete, whole}

-- a whole expression, whatever follows
abbrev pub SaysWhole : ℕ → ℕ → Option ℕ → List Piece → tree.Expr → Type 0
SaysWhole l d k us e = SpellsWhole l d us e

-- ---- what is read is spelled

pub expr_sound : (l d : ℕ) (ts : List Piece) (y : tree.Expr × List Piece) → whole_of l d ts ≡ Ok y → sound.Took cls (SaysWhole l d) ts y
unfolding whole_of expr_of
expr_sound l d ts y e =
    let a = bind_ok (expr_of l d 0 0 ts) _ y e in
    let t = expr_takes (suc (length ts)) l d 0 0 ts a.0 a.1 in
    let few : operators a.0.0.0 ≤ l = omega (arith, t.counted, t.within (omega arith)) in
    subst (λ (z : tree.Expr × List Piece). sound.Took cls (SaysWhole l d) ts z) (ok_is (a.0.0.0, a.0.1) y a.2)
    (record { used = t.used; whole = t.whole; spelled = record { spelled = t.spelled; few = few } })

-- ---- what is spelled is read again

no_infix : (k : Option ℕ) → has (classes infixes) k ≡ false → infix_in k ≡ None
no_infix None e = refl
no_infix (Some c) e = found_none infixes c e

ends : (q : ℕ) (rest : List Piece) → has goes_on_expr (class_at cls rest) ≡ false → Ends q rest × Stops q rest
ends q rest e =
    let k = has_more (a_mark marks.OpenBracket) (classes infixes) (class_at cls rest) e in
    let none = no_infix (class_at cls rest) k.1 in ((subst (λ v. BelowAt q v) (sym none) tt, k.0), subst (λ v. StopsAt q v) (sym none) tt)

pub expr_complete : (l d : ℕ) (us : List Piece) (e : tree.Expr) (rest : List Piece) → SpellsWhole l d us e
    → has goes_on_expr (class_at cls rest) ≡ false → whole_of l d (us ++ rest) ≡ Ok (e, rest)
unfolding whole_of expr_of
expr_complete l d us e rest s h =
    let fits : operators e ≤ l = s.few in
    let w = whole d 0 l us e (suc (length (us ++ rest))) 0 (operators e) rest (complete s.spelled) (omega arith) (ends 0 rest h).0
    (ends 0 rest h).1 (omega arith) fits in
    rw w refl

-- ---- with what an expression begins

later : (k : Option ℕ) → has (classes prefixes ++ names) k ≡ true → has begins_expr k ≡ true
later k e =
    let first : List ℕ = a_number ∷ a_word words.Synched ∷ a_mark marks.OpenParenthesis ∷ [] in
    has_append first (classes prefixes ++ names) k ∙ or_right (has first k) (has (classes prefixes ++ names) k) e

pub name_begins : (l : Lexeme) (x : List ℕ) → l ≡ name x → has begins_expr (Some (class_of l)) ≡ true
name_begins l x e =
    ap (λ (i : Lexeme). has begins_expr (Some (class_of i))) e
    ∙ later (Some (class_of (name x)))
    (has_append (classes prefixes) names (Some (class_of (name x)))
    ∙ or_right (has (classes prefixes) (Some (class_of (name x)))) _ (names_are x))

pub sign_begins : (c : ℕ) (o : UnOp) → sign_of c ≡ Some o → has begins_expr (Some c) ≡ true
sign_begins c o h = later (Some c) (has_append (classes prefixes) names (Some c) ∙ or_left (has (classes prefixes) (Some c)) _ (found_in prefixes c o h))

one_begins : (t : Piece) (us ts : List Piece) → has begins_expr (Some (cls t)) ≡ true → ts ≡ t ∷ us → Begun cls begins_expr false ts
one_begins t us ts e w = subst (λ (l : List Piece). Begun cls begins_expr false l) (sym w) (with_token (omega arith) (λ k. e))

more_begins : (us vs ts : List Piece) → Begun cls begins_expr false us → ts ≡ us ++ vs → Begun cls begins_expr false ts
more_begins [] vs ts (with_token lt h) w = absurd (omega (arith, lt))
more_begins (u ∷ us) vs ts (with_token lt h) w = subst (λ (l : List Piece). Begun cls begins_expr false l) (sym w) (with_token (omega arith) (λ k. h k))
more_begins us vs ts (with_nothing i n) w = absurd cc

begins : {d p : ℕ} {ts : List Piece} {e : tree.Expr} → Spells d p ts e → Begun cls begins_expr false ts
begins (a_number_is t n h w) = one_begins t [] _ (ap (λ (l : Lexeme). has begins_expr (Some (class_of l))) h) w
begins (a_name_is t x h w) = one_begins t [] _ (name_begins t.lexeme x h) w
begins (synched_is t h w) = one_begins t [] _ (ap (λ (c : ℕ). has begins_expr (Some c)) h) w
begins (an_element t u v x h i s j w) = one_begins t _ _ (name_begins t.lexeme x h) w
begins (in_parentheses t u h s i w) = one_begins t _ _ (ap (λ (c : ℕ). has begins_expr (Some c)) h) w
begins (of_one t o h a w) = one_begins t _ _ (sign_begins (cls t) o h) w
begins (of_two t q o h ge a b w) = more_begins _ _ _ (begins a) w
begins (of_three t u h i z c a b w) = more_begins _ _ _ (begins c) w

pub expr_begins : (l d : ℕ) (us : List Piece) (e : tree.Expr) → SpellsWhole l d us e → Begun cls begins_expr false us
expr_begins l d us e s = begins s.spelled

-- ---- with more room

roomier : {d p : ℕ} {ts : List Piece} {e : tree.Expr} (n : ℕ) → d ≤ n → Spells d p ts e → Spells n p ts e
roomier n le (a_number_is t m h w) = a_number_is t m h w
roomier n le (a_name_is t x h w) = a_name_is t x h w
roomier n le (synched_is t h w) = synched_is t h w
roomier n le (an_element t u v x h i s j w) = an_element t u v x h i (roomier n le s) j w
roomier zero le (in_parentheses t u h s i w) = absurd (omega (arith, le))
roomier (suc n) le (in_parentheses t u h s i w) = in_parentheses t u h (roomier n (omega (arith, le)) s) i w
roomier n le (of_one t o h a w) = of_one t o h (roomier n le a) w
roomier n le (of_two t q o h ge a b w) = of_two t q o h ge (roomier n le a) (roomier n le b) w
roomier n le (of_three t u h i z c a b w) = of_three t u h i z (roomier n le c) (roomier n le a) (roomier n le b) w

pub expr_wider : (l l' d d' : ℕ) (us : List Piece) (e : tree.Expr) → l ≤ l' → d ≤ d' → SpellsWhole l d us e → SpellsWhole l' d' us e
expr_wider l l' d d' us e le le' s =
    let few : operators e ≤ l = s.few in record { spelled = roomier d' le' s.spelled; few = omega (arith, le, few) }
