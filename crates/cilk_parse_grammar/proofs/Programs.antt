-- The laws of programs.
use Rattle.std.proofs.Common.{◌≡◌, ℕ, ◌+◌, ◌≤◌, true, List, [], ◌∷◌, ◌++◌, length, None, Ok, Err, refl, sym, ap, subst, ◌∙◌, arith}
use Rattle.std.proofs.lemmas.List.{append-nil}
use Rattle.cilk_tree_syntax.specs.lexeme.Lexeme.{Piece}
use Rattle.cilk_tree_syntax.specs.lexeme.declared.header.Header.{Header}
use Rattle.cilk_tree_syntax.specs.Tree as tree
use Rattle.cilk_parse_grammar.specs.Rule as rule
use Rattle.cilk_parse_grammar.specs.Rule.{◌>>=◌, Rule, class_at}
use Rattle.cilk_parse_grammar.proofs.RulesTools.{bind_ok, ok_is}
use Rattle.cilk_parse_grammar.proofs.RulesLocal.{SameHead, Local, local_bind, ok_here, stuck_here, unexpected}
use Rattle.cilk_parse_grammar.specs.Classes.{cls}
use Rattle.cilk_parse_grammar.specs.Parts.{Means}
use Rattle.cilk_parse_grammar.specs.Grammar.{program}
use Rattle.cilk_parse_grammar.specs.Spelling.{first_of, more_of, SpellsRule, read_at, at_end, all_by, SpellsProgram, program_of}
use Rattle.cilk_parse_grammar.proofs.Fine.{program_fine}
use Rattle.cilk_parse_grammar.proofs.Nests.{rule_takes, rule_again, rule_wider, nothing_follows, rule_local}

abbrev pub Parts : Type 0
Parts = List Header × List tree.Item

nothing_left : {A : Type 0} (x y : A × List Piece) → at_end x ≡ Ok y → (x ≡ y) × (x.1 ≡ [])
nothing_left (a, []) y e = (ok_is (a, []) y e, refl)
nothing_left (a, t ∷ ts) y e = absurd cc

-- ---- all tokens, by any rule

pub all_takes : {A : Type 0} (l d n : ℕ) (r : Rule Means A) (ts : List Piece) (y : A × List Piece) → all_by l d n r ts ≡ Ok y → SpellsRule l d n r None ts y.0
unfolding all_by
all_takes {A = A} l d n r ts y e =
    let a = bind_ok (read_at l d n r ts) (λ x. at_end x) y e in
    let b = nothing_left a.0 y a.2 in
    let t = rule_takes l d n r ts a.0 a.1 in
    let whole : t.used ≡ ts = sym (append-nil t.used) ∙ ap (λ (v : List Piece). t.used ++ v) (sym b.1) ∙ sym t.whole in
    subst (λ (x : A × List Piece). SpellsRule l d n r None ts x.0) b.0
    (subst (λ (us : List Piece). SpellsRule l d n r None us a.0.0) whole
    (subst (λ (v : List Piece). SpellsRule l d n r (class_at cls v) t.used a.0.0) b.1 t.spelled))

pub all_again : {A : Type 0} (l d n : ℕ) (r : Rule Means A) (ts : List Piece) (x : A) → rule.fine first_of more_of r ≡ true
    → SpellsRule l d n r None ts x → all_by l d n r ts ≡ Ok (x, [])
unfolding all_by
all_again l d n r ts x f s =
    ap (λ (v : List Piece). read_at l d n r v >>= λ x. at_end x) (sym (append-nil ts))
    ∙ ap (λ y. y >>= λ x. at_end x) (rule_again l d n r ts x [] f s (nothing_follows (rule.more first_of more_of r)))

end_local : {A : Type 0} (same : Type 0) (x : A) (ts : List Piece) → Local {A = A} same ts (at_end (x, ts)) (λ us. at_end (x, us))
end_local same x [] = ok_here x [] (λ us. at_end (x, us)) none
  where
    none : (us : List Piece) → SameHead [] us → at_end (x, us) ≡ Ok (x, us)
    none [] s = refl
    none (u ∷ us) s = elim s [ ]
end_local same x (t ∷ ts) = stuck_here unexpected (t ∷ ts) (λ us. at_end (x, us)) some
  where
    some : (us : List Piece) → SameHead (t ∷ ts) us → at_end (x, us) ≡ Err (unexpected (length us))
    some [] s = elim s [ ]
    some (u ∷ us) s = refl

pub all_local : {A : Type 0} (same : Type 0) (l l' d d' n n' : ℕ) → l ≤ l' → d ≤ d' → n ≤ n' → (same → l ≡ l') → (same → d ≡ d')
    → (same → n ≡ n') → (r : Rule Means A) (ts : List Piece) → rule.fine first_of more_of r ≡ true
    → Local {A = A} same ts (all_by l d n r ts) (λ us. all_by l' d' n' r us)
unfolding all_by
all_local same l l' d d' n n' le le' lt eq eq' h r ts f =
    local_bind same ts (read_at l d n r ts) (λ us. read_at l' d' n' r us) (λ x. at_end x) (λ x. at_end x)
    (rule_local same l l' d d' le le' eq eq' n n' lt h r ts f) (λ x e. end_local same x.0 x.1)

-- ---- programs

pub program_takes : (l d n : ℕ) (ts : List Piece) (p : tree.Program) (rest : List Piece)
    → program_of l d n ts ≡ Ok ((p.headers, p.items), rest) → SpellsProgram l d n ts p
unfolding program_of SpellsProgram
program_takes l d n ts p rest e = all_takes l d n program ts ((p.headers, p.items), rest) e

pub program_again : (l d n : ℕ) (ts : List Piece) (p : tree.Program) → SpellsProgram l d n ts p → program_of l d n ts ≡ Ok ((p.headers, p.items), [])
unfolding program_of SpellsProgram
program_again l d n ts p s = all_again l d n program ts (p.headers, p.items) program_fine s

pub program_wider : (l l' d d' n n' : ℕ) → l ≤ l' → d ≤ d' → n ≤ n' → (ts : List Piece) (p : tree.Program) → SpellsProgram l d n ts p
    → SpellsProgram l' d' n' ts p
unfolding SpellsProgram
program_wider l l' d d' n n' le le' lt ts p s = rule_wider l l' d d' n n' le le' lt program None ts (p.headers, p.items) s

pub program_local : (same : Type 0) (l l' d d' n n' : ℕ) → l ≤ l' → d ≤ d' → n ≤ n' → (same → l ≡ l') → (same → d ≡ d') → (same → n ≡ n')
    → (ts : List Piece) → Local {A = Parts} same ts (program_of l d n ts) (λ us. program_of l' d' n' us)
unfolding program_of
program_local same l l' d d' n n' le le' lt eq eq' h ts = all_local same l l' d d' n n' le le' lt eq eq' h program ts program_fine

-- the same headers and items, whatever the limits
pub program_same : (l d n l' d' n' : ℕ) (ts : List Piece) (p q : tree.Program) → SpellsProgram l d n ts p → SpellsProgram l' d' n' ts q
    → (p.headers ≡ q.headers) × (p.items ≡ q.items)
program_same l d n l' d' n' ts p q s t =
    let a = program_again (l + l') (d + d') (n + n') ts p (program_wider l (l + l') d (d + d') n (n + n') (omega arith) (omega arith) (omega arith) ts p s) in
    let b = program_again (l + l') (d + d') (n + n') ts q
    (program_wider l' (l + l') d' (d + d') n' (n + n') (omega arith) (omega arith) (omega arith) ts q t) in
    let e = ok_is ((p.headers, p.items), []) ((q.headers, q.items), []) (sym a ∙ b) in
    (ap (λ (y : Parts × List Piece). y.0.0) e, ap (λ (y : Parts × List Piece). y.0.1) e)
