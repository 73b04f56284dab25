-- The steps of reading, whatever the count of steps.
use Rattle.std.proofs.Common.{◌≡◌, ℕ, zero, suc, ◌<◌, ◌≤◌, ◌==◌, Bool, true, false, if◌then◌else◌, List, length, Option, Some, None, Ok, Err, refl}
use Rattle.std.proofs.Common.{ap, ◌∙◌, arith, leb, ltb, length-append}
use Rattle.std.proofs.lemmas.Bool.{le-leb, le-ltb, lt-ltb}
use Rattle.cilk_tree_syntax.specs.lexeme.Lexeme.{Piece}
use Rattle.cilk_tree_syntax.specs.lexeme.declared.mark.Mark.TheVariants as marks
use Rattle.cilk_tree_syntax.specs.lexeme.declared.token.TokenKind.{TokenKind}
use Rattle.cilk_tree_syntax.specs.lexeme.declared.token.TokenKind.TheVariants as kind
use Rattle.cilk_tree_syntax.specs.declared.operator.BinOp.{BinOp}
use Rattle.cilk_tree_syntax.specs.declared.un_op.UnOp.{UnOp}
use Rattle.cilk_tree_syntax.specs.Tree as tree
use Rattle.cilk_parse_grammar.specs.declared.fault.Fault.TheVariants.{TooDeep}
use Rattle.cilk_parse_grammar.specs.Rule.{◌>>=◌, behind, is, class_at, token_at}
use Rattle.cilk_parse_grammar.proofs.RulesTools.{bind_same}
use Rattle.cilk_parse_grammar.specs.declared.operator.Infix.{Infix}
use Rattle.cilk_parse_grammar.specs.declared.operator.Infix.TheVariants.{Two, Choice}
use Rattle.cilk_parse_grammar.specs.Classes.{a_mark, cls}
use Rattle.cilk_parse_grammar.specs.Operators.{operand, sign_of}
use Rattle.cilk_parse_grammar.specs.Front.{kind_at, infix_at, name_at}
use Rattle.cilk_parse_grammar.specs.Reading.{Reads, closed, at_mark, behind_name, operand_by, behind_infix, choice_at, on_after, expr_in, more_in}
use Rattle.cilk_parse_grammar.specs.Reading.{expr_of, more_of, operand_at}
use Rattle.cilk_parse_grammar.proofs.Tools.{next_shorter, class_next, kind_next, name_is, infix_shorter, Stops}
use Rattle.cilk_parse_grammar.proofs.Sound.{State, operand_takes, expr_takes}
use Rattle.cilk_parse_grammar.proofs.Complete.{more_stops}

-- what is left is less than there was
pub left_over : (f l d p n : ℕ) (ts : List Piece) (x : State) → expr_in f l d p n ts ≡ Ok x → length x.1 < length ts
left_over f l d p n ts x e =
    let t = expr_takes f l d p n ts x e in
    omega (arith, ap length t.whole, length-append t.used x.1, t.some)

operand_left : (f l d n : ℕ) (ts : List Piece) (x : State) → operand_by (λ c q m us. expr_in f l c q m us) l d n ts (kind_at ts) ≡ Ok x → length x.1 < length ts
operand_left f l d n ts x e =
    let t = operand_takes (λ c q m us. expr_in f l c q m us) l d n ts x (kind_at ts) (λ c q m us y. expr_takes f l c q m us y) refl e in
    omega (arith, ap length t.whole, length-append t.used x.1, t.some)

abbrev SameInner : (ℕ → ℕ → ℕ → List Piece → Reads) → (ℕ → ℕ → ℕ → List Piece → Reads) → ℕ → Type 0
SameInner inner inner' long = (c q m : ℕ) (us : List Piece) → length us < long → inner c q m us ≡ inner' c q m us

mark_same : (inner inner' : ℕ → ℕ → ℕ → List Piece → Reads) (l d n : ℕ) (ts : List Piece) (w : Option UnOp) (b : Bool)
    → length (behind ts) < length ts → SameInner inner inner' (length ts) → at_mark inner l d n ts w b ≡ at_mark inner' l d n ts w b
mark_same inner inner' l d n ts (Some o) b lt s =
    ap (λ r. if ltb n l then (r >>= λ e. Ok ((tree.unary o e.0.0, e.0.1), e.1)) else Err (TooDeep (length ts))) (s d operand (suc n) (behind ts) lt)
mark_same inner inner' l zero n ts None true lt s = refl
mark_same inner inner' l (suc d) n ts None true lt s = ap (λ r. closed (a_mark marks.CloseParenthesis) (λ e. e) r) (s d 0 n (behind ts) lt)
mark_same inner inner' l d n ts None false lt s = refl

-- behind a name, where some token was before
name_same : (inner inner' : ℕ → ℕ → ℕ → List Piece → Reads) (l d n : ℕ) (x : tree.Word) (us : List Piece) (long : ℕ) → length us < long
    → SameInner inner inner' long → behind_name inner l d n x us ≡ behind_name inner' l d n x us
name_same inner inner' l d n x us long lt s = by (is (a_mark marks.OpenBracket) (class_at cls us)) refl
  where
    by : (b : Bool) → is (a_mark marks.OpenBracket) (class_at cls us) ≡ b → behind_name inner l d n x us ≡ behind_name inner' l d n x us
    by true e =
        let k = class_next (a_mark marks.OpenBracket) us e in
        rw e
        (ap (λ r. if ltb n l then closed (a_mark marks.CloseBracket) (λ i. tree.element x i) r else Err (TooDeep (length us)))
        (s d 0 (suc n) (behind us) (omega (arith, lt, ap length k.whole))))
    by false e = rw e refl

operand_same : (inner inner' : ℕ → ℕ → ℕ → List Piece → Reads) (l d n : ℕ) (ts : List Piece) (k : Option TokenKind) → kind_at ts ≡ k
    → SameInner inner inner' (length ts) → operand_by inner l d n ts k ≡ operand_by inner' l d n ts k
operand_same inner inner' l d n ts (Some (kind.Number x)) h s = refl
operand_same inner inner' l d n ts (Some kind.Name) h s =
    bind_same (name_at ts) (name_at ts) _ _ refl
    (λ x e. let k = name_is ts x e in name_same inner inner' l d n x.0 x.1 (length ts) (omega (arith, ap length k.whole)) s)
operand_same inner inner' l d n ts (Some (kind.Mark m)) h s =
    let k = kind_next ts (kind.Mark m) h in
    mark_same inner inner' l d n ts (sign_of (a_mark m)) (a_mark marks.OpenParenthesis == a_mark m) (omega (arith, ap length k.whole)) s
operand_same inner inner' l d n ts (Some (kind.Word w)) h s = refl
operand_same inner inner' l d n ts (Some kind.Text) h s = refl
operand_same inner inner' l d n ts (Some (kind.Include i)) h s = refl
operand_same inner inner' l d n ts None h s = refl

pub colon_shorter : (ts us : List Piece) → token_at cls (a_mark marks.Colon) ts ≡ Ok us → length us < length ts
colon_shorter ts us e = next_shorter (a_mark marks.Colon) ts us e

-- what stands behind an operator, or behind `?`
infix_same : (expr expr' : ℕ → ℕ → List Piece → Reads) (more more' : ℕ → tree.Expr → List Piece → Reads) (q n : ℕ) (a : tree.Expr)
    (ts : List Piece) (long : ℕ) (w : Infix) → length ts < long
    → ((q m : ℕ) (us : List Piece) → length us < long → expr q m us ≡ expr' q m us)
    → ((q m : ℕ) (us : List Piece) (x : State) → expr q m us ≡ Ok x → length x.1 < length us)
    → ((m : ℕ) (b : tree.Expr) (us : List Piece) → length us < long → more m b us ≡ more' m b us)
    → behind_infix expr more a q w n ts ≡ behind_infix expr' more' a q w n ts
infix_same expr expr' more more' q n a ts long (Two o) lt se sh sm =
    bind_same (expr (suc q) n ts) _ _ _ (se (suc q) n ts lt) (λ x h. sm x.0.1 (tree.binary o a x.0.0) x.1 (omega (arith, lt, sh (suc q) n ts x h)))
infix_same expr expr' more more' q n a ts long Choice lt se sh sm =
    bind_same (expr 0 n ts) _ _ _ (se 0 n ts lt)
    (λ x h. bind_same (token_at cls (a_mark marks.Colon) x.1) (token_at cls (a_mark marks.Colon) x.1) _ _ refl
    (λ us e. ap (λ r. r >>= λ b. Ok ((tree.choose a x.0.0 b.0.0, b.0.1), b.1)) (se 0 x.0.1 us (omega (arith, lt, sh 0 n ts x h, colon_shorter x.1 us e)))))

on_same : (expr expr' : ℕ → ℕ → List Piece → Reads) (more more' : ℕ → tree.Expr → List Piece → Reads) (l p n : ℕ) (a : tree.Expr)
    (ts : List Piece) (w : Option (ℕ × Infix)) → infix_at ts ≡ w
    → ((q m : ℕ) (us : List Piece) → length us < length ts → expr q m us ≡ expr' q m us)
    → ((q m : ℕ) (us : List Piece) (x : State) → expr q m us ≡ Ok x → length x.1 < length us)
    → ((m : ℕ) (b : tree.Expr) (us : List Piece) → length us < length ts → more m b us ≡ more' m b us)
    → on_after expr more l p n a ts w ≡ on_after expr' more' l p n a ts w
on_same expr expr' more more' l p n a ts (Some (q, w)) at se sh sm =
    ap (λ r. if leb p q then (if ltb n l then r else Err (TooDeep (length ts))) else Ok ((a, n), ts))
    (infix_same expr expr' more more' q (suc n) a (behind ts) (length ts) w (infix_shorter ts q w at) se sh sm)
on_same expr expr' more more' l p n a ts None at se sh sm = refl

mutual
  unfolding expr_in

  same_expr : (f g l d p n : ℕ) (ts : List Piece) → length ts < f → length ts < g → expr_in f l d p n ts ≡ expr_in g l d p n ts
  same_expr zero g l d p n ts lt lt' = absurd (omega (arith, lt))
  same_expr (suc f) zero l d p n ts lt lt' = absurd (omega (arith, lt'))
  same_expr (suc f) (suc g) l d p n ts lt lt' =
      bind_same (operand_by (λ c q m us. expr_in f l c q m us) l d n ts (kind_at ts)) (operand_by (λ c q m us. expr_in g l c q m us) l d n ts (kind_at ts)) _ _
      (operand_same (λ c q m us. expr_in f l c q m us) (λ c q m us. expr_in g l c q m us) l d n ts (kind_at ts) refl
      (λ c q m us less. same_expr f g l c q m us (omega (arith, lt, less)) (omega (arith, lt', less))))
      (λ x h. let less = operand_left f l d n ts x h in same_more f g l d p x.0.1 x.0.0 x.1 (omega (arith, lt, less)) (omega (arith, lt', less)))

  same_more : (f g l d p n : ℕ) (a : tree.Expr) (ts : List Piece) → length ts < f → length ts < g → more_in f l d p n a ts ≡ more_in g l d p n a ts
  same_more zero g l d p n a ts lt lt' = absurd (omega (arith, lt))
  same_more (suc f) zero l d p n a ts lt lt' = absurd (omega (arith, lt'))
  same_more (suc f) (suc g) l d p n a ts lt lt' =
      on_same (λ q m us. expr_in f l d q m us) (λ q m us. expr_in g l d q m us) (λ m b us. more_in f l d p m b us)
      (λ m b us. more_in g l d p m b us) l p n a ts (infix_at ts) refl
      (λ q m us less. same_expr f g l d q m us (omega (arith, lt, less)) (omega (arith, lt', less))) (λ q m us x h. left_over f l d q m us x h)
      (λ m b us less. same_more f g l d p m b us (omega (arith, lt, less)) (omega (arith, lt', less)))

pub to_more : (f l d p n : ℕ) (a : tree.Expr) (ts : List Piece) → length ts < f → more_in f l d p n a ts ≡ more_of l d p n a ts
unfolding more_of
to_more f l d p n a ts lt = same_more f (suc (length ts)) l d p n a ts lt (omega arith)

pub to_expr : (f l d p n : ℕ) (ts : List Piece) → length ts < f → expr_in f l d p n ts ≡ expr_of l d p n ts
unfolding expr_of
to_expr f l d p n ts lt = same_expr f (suc (length ts)) l d p n ts lt (omega arith)

pub left_of : (l d p n : ℕ) (ts : List Piece) (x : State) → expr_of l d p n ts ≡ Ok x → length x.1 < length ts
unfolding expr_of
left_of l d p n ts x e = left_over (suc (length ts)) l d p n ts x e

-- an expression is an operand and what goes on behind it
pub by_operand : (l d p n : ℕ) (ts : List Piece) → expr_of l d p n ts ≡ (operand_at l d n ts >>= λ x. more_of l d p x.0.1 x.0.0 x.1)
unfolding operand_at expr_of expr_in
by_operand l d p n ts =
    bind_same (operand_by (λ c q m us. expr_in (length ts) l c q m us) l d n ts (kind_at ts))
    (operand_by (λ c q m us. expr_of l c q m us) l d n ts (kind_at ts)) _ _
    (operand_same (λ c q m us. expr_in (length ts) l c q m us) (λ c q m us. expr_of l c q m us) l d n ts (kind_at ts) refl
    (λ c q m us less. to_expr (length ts) l c q m us less))
    (λ x h. to_more (length ts) l d p x.0.1 x.0.0 x.1 (operand_left (length ts) l d n ts x h))

pub operand_shorter : (l d n : ℕ) (ts : List Piece) (x : State) → operand_at l d n ts ≡ Ok x → length x.1 < length ts
unfolding operand_at
operand_shorter l d n ts x e =
    operand_left (length ts) l d n ts x
    (operand_same (λ c q m us. expr_in (length ts) l c q m us) (λ c q m us. expr_of l c q m us) l d n ts (kind_at ts) refl
    (λ c q m us less. to_expr (length ts) l c q m us less) ∙ e)

-- ---- the steps behind an expression

pub step_stops : (l d p n : ℕ) (a : tree.Expr) (ts : List Piece) → Stops p ts → more_of l d p n a ts ≡ Ok ((a, n), ts)
unfolding more_of
step_stops l d p n a ts s = more_stops (suc (length ts)) l d p n a ts (omega arith) s

-- what goes on behind an expression, by what comes next
pub by_after : (l d p n : ℕ) (a : tree.Expr) (ts : List Piece)
    → more_of l d p n a ts ≡ on_after (λ q m us. expr_of l d q m us) (λ m b us. more_of l d p m b us) l p n a ts (infix_at ts)
unfolding more_of expr_in
by_after l d p n a ts =
    on_same (λ q m us. expr_in (length ts) l d q m us) (λ q m us. expr_of l d q m us) (λ m b us. more_in (length ts) l d p m b us)
    (λ m b us. more_of l d p m b us) l p n a ts (infix_at ts) refl
    (λ q m us less. to_expr (length ts) l d q m us less) (λ q m us x h. left_over (length ts) l d q m us x h)
    (λ m b us less. to_more (length ts) l d p m b us less)

module _ (l d p q n : ℕ) (a : tree.Expr) (ts : List Piece) (le : p ≤ q) where
  abbrev after : Option (ℕ × Infix) → Reads
  after w = on_after (λ r m us. expr_of l d r m us) (λ m b us. more_of l d p m b us) l p n a ts w

  pub step_operator : (o : BinOp) → infix_at ts ≡ Some (q, Two o) → n < l
      → more_of l d p n a ts ≡ (expr_of l d (suc q) (suc n) (behind ts) >>= λ b. more_of l d p b.0.1 (tree.binary o a b.0.0) b.1)
  step_operator o at lt = by_after l d p n a ts ∙ ap after at ∙ rw (le-leb p q le, lt-ltb n l lt) refl

  pub step_full : (w : Infix) → infix_at ts ≡ Some (q, w) → l ≤ n → more_of l d p n a ts ≡ Err (TooDeep (length ts))
  step_full w at full = by_after l d p n a ts ∙ ap after at ∙ rw (le-leb p q le, le-ltb n l full) refl

  pub step_choice : infix_at ts ≡ Some (q, Choice) → n < l → more_of l d p n a ts ≡ choice_at l d (suc n) a (behind ts)
  unfolding choice_at
  step_choice at lt = by_after l d p n a ts ∙ ap after at ∙ rw (le-leb p q le, lt-ltb n l lt) refl
