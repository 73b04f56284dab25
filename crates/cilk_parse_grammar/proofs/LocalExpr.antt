-- Where reading an expression meets a fault, it meets it whatever follows that token.
use Rattle.std.proofs.Common.{◌≡◌, ℕ, zero, suc, ◌<◌, ◌≤◌, ◌==◌, Bool, true, false, if◌then◌else◌, List, [], ◌∷◌, length, Option, Some, None, Ok, Err}
use Rattle.std.proofs.Common.{refl, sym, ap, subst, ◌∙◌, arith, leb, ltb}
use Rattle.std.proofs.lemmas.Bool.{ltb-true, lt-ltb}
use Rattle.cilk_tree_syntax.specs.lexeme.Lexeme.{Lexeme, Piece, word, name, number, mark, literal, inclusion}
use Rattle.cilk_tree_syntax.specs.lexeme.declared.keyword.Keyword.TheVariants as words
use Rattle.cilk_tree_syntax.specs.lexeme.declared.mark.Mark.TheVariants as marks
use Rattle.cilk_tree_syntax.specs.lexeme.declared.token.TokenKind.{TokenKind}
use Rattle.cilk_tree_syntax.specs.lexeme.declared.token.TokenKind.TheVariants as kind
use Rattle.cilk_tree_syntax.specs.declared.un_op.UnOp.{UnOp}
use Rattle.cilk_tree_syntax.specs.Tree as tree
use Rattle.cilk_parse_grammar.specs.declared.fault.Fault.TheVariants.{Unexpected, TooDeep}
use Rattle.cilk_parse_grammar.specs.Rule.{◌>>=◌, behind, is, class_at, token_at}
use Rattle.cilk_parse_grammar.proofs.RulesLocal.{SameHead, same_class, Reader, Local, unexpected, too_deep, local_bind, local_as, local_skip, stuck_here}
use Rattle.cilk_parse_grammar.proofs.RulesLocal.{ok_here, local_token, local_choice, local_either}
use Rattle.cilk_parse_grammar.specs.declared.operator.Infix.{Infix}
use Rattle.cilk_parse_grammar.specs.declared.operator.Infix.TheVariants.{Two, Choice}
use Rattle.cilk_parse_grammar.specs.Classes.{a_word, a_mark, cls}
use Rattle.cilk_parse_grammar.specs.Operators.{operand, sign_of}
use Rattle.cilk_parse_grammar.specs.Expressions.{word_at}
use Rattle.cilk_parse_grammar.specs.Front.{kind_at, infix_in, infix_at, place_at, name_at}
use Rattle.cilk_parse_grammar.specs.Reading.{Reads, counted, closed, at_mark, behind_name, operand_by, behind_infix, on_after, expr_of, more_of}
use Rattle.cilk_parse_grammar.specs.Reading.{operand_at, whole_of}
use Rattle.cilk_parse_grammar.proofs.Tools.{class_next, kind_next, name_is, infix_next, infix_shorter}
use Rattle.cilk_parse_grammar.proofs.Steps.{by_operand, by_after, operand_shorter, left_of}

abbrev Both : Type 0
Both = tree.Expr × ℕ

pub same_kind : (ts us : List Piece) → SameHead ts us → kind_at ts ≡ kind_at us
same_kind [] [] h = refl
same_kind [] (u ∷ us) h = elim h [ ]
same_kind (t ∷ ts) [] h = elim h [ ]
same_kind (t ∷ ts) (u ∷ us) h = ap (λ (v : Piece). kind_at (v ∷ us)) h

same_infix : (ts us : List Piece) → SameHead ts us → infix_at ts ≡ infix_at us
same_infix ts us s = ap infix_in (same_class cls ts us s)

-- ---- a token

-- reading takes this token, or fails at it
pub data AtToken {A : Type 0} (m : Reader Piece A) (t : Piece) : Type 0 where
  takes_it : (x : A) → ((us : List Piece) → m (t ∷ us) ≡ Ok (x, us)) → AtToken m t
  fails_there : ((us : List Piece) → m (t ∷ us) ≡ Err (Unexpected (suc (length us)))) → AtToken m t

pub local_one : {A : Type 0} (same : Type 0) (m : Reader Piece A) (ts : List Piece) → m [] ≡ Err (Unexpected 0)
    → ((t : Piece) → AtToken m t) → Local {A = A} same ts (m ts) m
local_one {A = A} same m [] e h = subst (λ r. Local {A = A} same [] r m) (sym e) (stuck_here unexpected [] m ends)
  where
    ends : (us : List Piece) → SameHead [] us → m us ≡ Err (Unexpected (length us))
    ends [] s = e
    ends (u ∷ us) s = elim s [ ]
local_one {A = A} same m (t ∷ ts) e h = by (h t)
  where
    fails : ((us : List Piece) → m (t ∷ us) ≡ Err (Unexpected (suc (length us)))) → (us : List Piece) → SameHead (t ∷ ts) us
        → m us ≡ Err (Unexpected (length us))
    fails k [] s = elim s [ ]
    fails k (u ∷ us) s = ap (λ (v : Piece). m (v ∷ us)) (sym s) ∙ k us

    by : AtToken m t → Local {A = A} same (t ∷ ts) (m (t ∷ ts)) m
    by (takes_it x k) = subst (λ r. Local {A = A} same (t ∷ ts) r m) (sym (k ts)) (record { used = t ∷ []; whole = refl; again = λ rest s. k rest })
    by (fails_there k) = subst (λ r. Local {A = A} same (t ∷ ts) r m) (sym (k ts)) (stuck_here unexpected (t ∷ ts) m (fails k))

name_there : (t : Piece) (l : Lexeme) → t.lexeme ≡ l → AtToken (λ us. name_at us) t
unfolding name_at
name_there t (name x) h = takes_it (word_at x t) (λ us. rw h refl)
name_there t (word w) h = fails_there (λ us. rw h refl)
name_there t (number n) h = fails_there (λ us. rw h refl)
name_there t (mark m) h = fails_there (λ us. rw h refl)
name_there t (literal b) h = fails_there (λ us. rw h refl)
name_there t (inclusion i) h = fails_there (λ us. rw h refl)

pub local_name : (same : Type 0) (ts : List Piece) → Local {A = tree.Word} same ts (name_at ts) (λ us. name_at us)
unfolding name_at
local_name same ts = local_one same (λ us. name_at us) ts refl (λ t. name_there t t.lexeme refl)

behind_le : (ts : List Piece) → length (behind ts) ≤ length ts
behind_le [] = omega arith
behind_le (t ∷ ts) = omega arith

-- ---- what is counted, and what is closed

module _ (same : Type 0) (l l' n : ℕ) (le : l ≤ l') (eq : same → l ≡ l') where
  abbrev if_room : ℕ → (List Piece → Reads) → List Piece → Reads
  if_room k go us = if ltb n k then go (behind us) else Err (TooDeep (length us))

  local_counted : (t : Piece) (ts : List Piece) (v : Reads) (go' : List Piece → Reads) → ts ≡ t ∷ behind ts → Local {A = Both} same (behind ts) v go'
      → Local {A = Both} same ts (if ltb n l then v else Err (TooDeep (length ts))) (λ us. if_room l' go' us)
  local_counted t ts v go' w h = by (ltb n l) refl
    where
      by : (b : Bool) → ltb n l ≡ b → Local {A = Both} same ts (if b then v else Err (TooDeep (length ts))) (λ us. if_room l' go' us)
      by true e =
          let fits : ltb n l' ≡ true = lt-ltb n l' (omega (arith, ltb-true n l e, le)) in
          subst (λ (r : List Piece). Local {A = Both} same r v (λ us. if_room l' go' us)) (sym w)
          (local_skip same t (behind ts) v go' _ (λ us s. rw fits refl) h)
      by false e =
          λ s. let full : ltb n l' ≡ false = ap (λ i. ltb n i) (sym (eq s)) ∙ e in (stuck_here too_deep ts _ (λ us t. rw full refl), omega (arith, ap length w))

local_closed : (same : Type 0) (c : ℕ) (f : tree.Expr → tree.Expr) (ts : List Piece) (r : Reads) (m : List Piece → Reads)
    → Local {A = Both} same ts r m → Local {A = Both} same ts (closed c f r) (λ us. closed c f (m us))
local_closed same c f ts r m h =
    local_bind same ts r m (λ e. token_at cls c e.1 >>= λ us. Ok ((f e.0.0, e.0.1), us)) (λ e. token_at cls c e.1 >>= λ us. Ok ((f e.0.0, e.0.1), us)) h
    (λ e i. local_token same cls c e.1 (λ us. Ok ((f e.0.0, e.0.1), us)) (λ us. Ok ((f e.0.0, e.0.1), us))
    (ok_here (f e.0.0, e.0.1) (behind e.1) _ (λ us s. refl)))

-- ---- an operand

-- another reader of what an operand holds, which may have more room
abbrev LocalInner : Type 0 → (ℕ → ℕ → ℕ → List Piece → Reads) → (ℕ → ℕ → ℕ → List Piece → Reads) → ℕ → Type 0
LocalInner same inner inner' long =
    (c c' q m : ℕ) (us : List Piece) → length us < long → c ≤ c' → (same → c ≡ c')
    → Local {A = Both} same us (inner c q m us) (λ vs. inner' c' q m vs)

module _ (same : Type 0) (inner inner' : ℕ → ℕ → ℕ → List Piece → Reads) (l l' n : ℕ) (le : l ≤ l') (eq : same → l ≡ l') where
  local_mark : (d d' : ℕ) (t : Piece) (ts : List Piece) (w : Option UnOp) (b : Bool) → ts ≡ t ∷ behind ts → d ≤ d' → (same → d ≡ d')
      → LocalInner same inner inner' (length ts)
      → Local {A = Both} same ts (at_mark inner l d n ts w b) (λ us. at_mark inner' l' d' n us w b)
  local_mark d d' t ts (Some o) b w le' eq' li =
      local_counted same l l' n le eq t ts _ (λ us. inner' d' operand (suc n) us >>= λ e. Ok ((tree.unary o e.0.0, e.0.1), e.1)) w
      (local_bind same (behind ts) (inner d operand (suc n) (behind ts)) (λ us. inner' d' operand (suc n) us)
      (λ e. Ok ((tree.unary o e.0.0, e.0.1), e.1)) (λ e. Ok ((tree.unary o e.0.0, e.0.1), e.1))
      (li d d' operand (suc n) (behind ts) (omega (arith, ap length w)) le' eq') (λ e r. ok_here (tree.unary o e.0.0, e.0.1) e.1 _ (λ us s. refl)))
  local_mark zero d' t ts None true w le' eq' li = λ s. (
    stuck_here too_deep ts _ (λ us i. ap (λ j. at_mark inner' l' j n us None true) (sym (eq' s))),
    omega (arith, ap length w),
  )
  local_mark (suc d) zero t ts None true w le' eq' li = absurd (omega (arith, le'))
  local_mark (suc d) (suc d') t ts None true w le' eq' li =
      let inside = local_closed same (a_mark marks.CloseParenthesis) (λ e. e) (behind ts) (inner d 0 n (behind ts)) (λ us. inner' d' 0 n us)
      (li d d' 0 n (behind ts) (omega (arith, ap length w)) (omega (arith, le')) (λ s. let z = eq' s in omega (arith, z))) in
      subst (λ (r : List Piece). Local {A = Both} same r (at_mark inner l (suc d) n ts None true) (λ us. at_mark inner' l' (suc d') n us None true)) (sym w)
      (local_skip same t (behind ts) _ (λ us. closed (a_mark marks.CloseParenthesis) (λ e. e) (inner' d' 0 n us)) _ (λ us s. refl) inside)
  local_mark d d' t ts None false w le' eq' li = stuck_here unexpected ts _ (λ us s. refl)

  local_behind_name : (d d' : ℕ) (x : tree.Word) (ts : List Piece) (long : ℕ) → length ts < long → d ≤ d' → (same → d ≡ d') → LocalInner same inner inner' long
      → Local {A = Both} same ts (behind_name inner l d n x ts) (λ us. behind_name inner' l' d' n x us)
  local_behind_name d d' x ts long lt le' eq' li =
      local_choice same (λ us. is (a_mark marks.OpenBracket) (class_at cls us)) ts (is (a_mark marks.OpenBracket) (class_at cls ts)) _ _
      (λ us. if ltb n l' then closed (a_mark marks.CloseBracket) (λ e. tree.element x e) (inner' d' 0 (suc n) (behind us)) else Err
      (TooDeep (length us))) (λ us. Ok ((tree.named x, n), us))
      (λ us s. ap (is (a_mark marks.OpenBracket)) (sym (same_class cls ts us s))) refl
      (λ e. let k = class_next (a_mark marks.OpenBracket) ts e in
      local_counted same l l' n le eq k.piece ts _ (λ us. closed (a_mark marks.CloseBracket) (λ e. tree.element x e) (inner' d' 0 (suc n) us)) k.whole
      (local_closed same (a_mark marks.CloseBracket) (λ e. tree.element x e) (behind ts) (inner d 0 (suc n) (behind ts))
      (λ us. inner' d' 0 (suc n) us) (li d d' 0 (suc n) (behind ts) (omega (arith, lt, ap length k.whole)) le' eq')))
      (λ e. ok_here (tree.named x, n) ts _ (λ us s. refl))

  local_synched : (t : Piece) (ts : List Piece) (b : Bool) → ts ≡ t ∷ behind ts
      → Local {A = Both} same ts (if b then Ok ((tree.synched (place_at ts), n), behind ts) else Err (Unexpected (length ts)))
      (λ us. if b then Ok ((tree.synched (place_at us), n), behind us) else Err (Unexpected (length us)))
  local_synched t ts true w = record { used = t ∷ []; whole = w; again = λ rest s. ap (λ (v : List Piece). Ok ((tree.synched (place_at v), n), rest)) (sym w) }
  local_synched t ts false w = stuck_here unexpected ts _ (λ us s. refl)

  -- by a kind that is known
  local_by : (d d' : ℕ) (ts : List Piece) (k : Option TokenKind) → kind_at ts ≡ k → d ≤ d' → (same → d ≡ d') → LocalInner same inner inner' (length ts)
      → Local {A = Both} same ts (operand_by inner l d n ts k) (λ us. operand_by inner' l' d' n us k)
  local_by d d' ts (Some (kind.Number x)) h le' eq' li =
      let k = kind_next ts (kind.Number x) h in record { used = k.piece ∷ []; whole = k.whole; again = λ rest s. refl }
  local_by d d' ts (Some kind.Name) h le' eq' li =
      local_bind same ts (name_at ts) (λ us. name_at us) (λ x. behind_name inner l d n x.0 x.1) (λ x. behind_name inner' l' d' n x.0 x.1) (local_name same ts)
      (λ x e. let k = name_is ts x e in local_behind_name d d' x.0 x.1 (length ts) (omega (arith, ap length k.whole)) le' eq' li)
  local_by d d' ts (Some (kind.Mark m)) h le' eq' li =
      let k = kind_next ts (kind.Mark m) h
      in local_mark d d' k.piece ts (sign_of (a_mark m)) (a_mark marks.OpenParenthesis == a_mark m) k.whole le' eq' li
  local_by d d' ts (Some (kind.Word w)) h le' eq' li =
      let k = kind_next ts (kind.Word w) h in local_synched k.piece ts (a_word words.Synched == a_word w) k.whole
  local_by d d' ts (Some kind.Text) h le' eq' li = stuck_here unexpected ts _ (λ us s. refl)
  local_by d d' ts (Some (kind.Include i)) h le' eq' li = stuck_here unexpected ts _ (λ us s. refl)
  local_by d d' ts None h le' eq' li = stuck_here unexpected ts _ (λ us s. refl)

  local_operand : (d d' : ℕ) (ts : List Piece) → d ≤ d' → (same → d ≡ d') → LocalInner same inner inner' (length ts)
      → Local {A = Both} same ts (operand_by inner l d n ts (kind_at ts)) (λ us. operand_by inner' l' d' n us (kind_at us))
  local_operand d d' ts le' eq' li =
      local_as same ts _ (λ us. operand_by inner' l' d' n us (kind_at ts)) _
      (λ us s. ap (operand_by inner' l' d' n us) (sym (same_kind ts us s))) (local_by d d' ts (kind_at ts) refl le' eq' li)

-- ---- what goes on behind an expression

abbrev LocalAt : Type 0 → (ℕ → ℕ → List Piece → Reads) → (ℕ → ℕ → List Piece → Reads) → ℕ → Type 0
LocalAt same expr expr' long = (p n : ℕ) (us : List Piece) → length us < long → Local {A = Both} same us (expr p n us) (λ vs. expr' p n vs)

abbrev LocalMore : Type 0 → (ℕ → tree.Expr → List Piece → Reads) → (ℕ → tree.Expr → List Piece → Reads) → ℕ → Type 0
LocalMore same more more' long = (n : ℕ) (a : tree.Expr) (us : List Piece) → length us < long → Local {A = Both} same us (more n a us) (λ vs. more' n a vs)

abbrev Shortens : (ℕ → ℕ → List Piece → Reads) → Type 0
Shortens expr = (p n : ℕ) (us : List Piece) (x : Both × List Piece) → expr p n us ≡ Ok x → length x.1 < length us

module _ (same : Type 0) (expr expr' : ℕ → ℕ → List Piece → Reads) (more more' : ℕ → tree.Expr → List Piece → Reads) (long : ℕ)
    (lx : LocalAt same expr expr' long) (lm : LocalMore same more more' long) (sh : Shortens expr) where
  -- behind an operator, or behind `?`
  local_infix : (q n : ℕ) (a : tree.Expr) (ts : List Piece) (w : Infix) → length ts < long
      → Local {A = Both} same ts (behind_infix expr more a q w n ts) (λ us. behind_infix expr' more' a q w n us)
  local_infix q n a ts (Two o) less =
      local_bind same ts (expr (suc q) n ts) (λ us. expr' (suc q) n us) _ (λ c. more' c.0.1 (tree.binary o a c.0.0) c.1) (lx (suc q) n ts less)
      (λ x h. lm x.0.1 (tree.binary o a x.0.0) x.1 (omega (arith, less, sh (suc q) n ts x h)))
  local_infix q n a ts Choice less =
      local_bind same ts (expr 0 n ts) (λ us. expr' 0 n us)
      (λ x. token_at cls (a_mark marks.Colon) x.1 >>= λ vs. expr 0 x.0.1 vs >>= λ y. Ok ((tree.choose a x.0.0 y.0.0, y.0.1), y.1))
      (λ x. token_at cls (a_mark marks.Colon) x.1 >>= λ vs. expr' 0 x.0.1 vs >>= λ y. Ok ((tree.choose a x.0.0 y.0.0, y.0.1), y.1))
      (lx 0 n ts less)
      (λ x h. local_token same cls (a_mark marks.Colon) x.1
      (λ vs. expr 0 x.0.1 vs >>= λ y. Ok ((tree.choose a x.0.0 y.0.0, y.0.1), y.1))
      (λ vs. expr' 0 x.0.1 vs >>= λ y. Ok ((tree.choose a x.0.0 y.0.0, y.0.1), y.1))
      (local_bind same (behind x.1) (expr 0 x.0.1 (behind x.1)) (λ us. expr' 0 x.0.1 us) (λ y. Ok ((tree.choose a x.0.0 y.0.0, y.0.1), y.1))
      (λ y. Ok ((tree.choose a x.0.0 y.0.0, y.0.1), y.1))
      (lx 0 x.0.1 (behind x.1) (omega (arith, less, sh 0 n ts x h, behind_le x.1)))
      (λ y g. ok_here (tree.choose a x.0.0 y.0.0, y.0.1) y.1 _ (λ us s. refl))))

module _ (same : Type 0) (expr expr' : ℕ → ℕ → List Piece → Reads) (more more' : ℕ → tree.Expr → List Piece → Reads) (l l' p n : ℕ)
    (a : tree.Expr) (ts : List Piece) (le : l ≤ l') (eq : same → l ≡ l')
    (lx : LocalAt same expr expr' (length ts)) (lm : LocalMore same more more' (length ts)) (sh : Shortens expr) where
  local_on : (w : Option (ℕ × Infix)) → infix_at ts ≡ w → Local {A = Both} same ts (on_after expr more l p n a ts w) (λ us. on_after expr' more' l' p n a us w)
  local_on (Some (q, w)) at =
      let k = infix_next ts q w at in
      local_either same ts (leb p q) _ _ (λ us. counted l' n us (λ m vs. behind_infix expr' more' a q w m vs)) (λ us. Ok ((a, n), us))
      (local_counted same l l' n le eq k.piece ts _ (λ us. behind_infix expr' more' a q w (suc n) us) k.whole
      (local_infix same expr expr' more more' (length ts) lx lm sh q (suc n) a (behind ts) w (infix_shorter ts q w at)))
      (ok_here (a, n) ts _ (λ us s. refl))
  local_on None at = ok_here (a, n) ts _ (λ us t. refl)

  local_after : Local {A = Both} same ts (on_after expr more l p n a ts (infix_at ts)) (λ us. on_after expr' more' l' p n a us (infix_at us))
  local_after =
      local_as same ts _ (λ us. on_after expr' more' l' p n a us (infix_at ts)) _
      (λ us s. ap (on_after expr' more' l' p n a us) (sym (same_infix ts us s))) (local_on (infix_at ts) refl)

mutual
  unfolding operand_at

  local_expr : (same : Type 0) (long l l' d d' p n : ℕ) (ts : List Piece) → length ts < long → l ≤ l' → d ≤ d' → (same → l ≡ l')
      → (same → d ≡ d') → Local {A = Both} same ts (expr_of l d p n ts) (λ us. expr_of l' d' p n us)
  local_expr same zero l l' d d' p n ts lt le le' eq eq' = absurd (omega (arith, lt))
  local_expr same (suc long) l l' d d' p n ts lt le le' eq eq' =
      subst (λ r. Local {A = Both} same ts r (λ us. expr_of l' d' p n us)) (sym (by_operand l d p n ts))
      (local_as same ts _ (λ us. operand_at l' d' n us >>= λ x. more_of l' d' p x.0.1 x.0.0 x.1) _ (λ us s. by_operand l' d' p n us)
      (local_bind same ts (operand_at l d n ts) (λ us. operand_at l' d' n us) _ (λ x. more_of l' d' p x.0.1 x.0.0 x.1)
      (local_operand same (λ c q m us. expr_of l c q m us) (λ c q m us. expr_of l' c q m us) l l' n le eq d d' ts le' eq'
      (λ c c' q m us less lc ec. local_expr same long l l' c c' q m us (omega (arith, less, lt)) le lc eq ec))
      (λ x h. local_more same long l l' d d' p x.0.1 x.0.0 x.1 (omega (arith, lt, operand_shorter l d n ts x h)) le le' eq eq')))

  local_more : (same : Type 0) (long l l' d d' p n : ℕ) (a : tree.Expr) (ts : List Piece) → length ts < long → l ≤ l' → d ≤ d'
      → (same → l ≡ l') → (same → d ≡ d') → Local {A = Both} same ts (more_of l d p n a ts) (λ us. more_of l' d' p n a us)
  local_more same zero l l' d d' p n a ts lt le le' eq eq' = absurd (omega (arith, lt))
  local_more same (suc long) l l' d d' p n a ts lt le le' eq eq' =
      subst (λ r. Local {A = Both} same ts r (λ us. more_of l' d' p n a us)) (sym (by_after l d p n a ts))
      (local_as same ts _ (λ us. on_after (λ q m vs. expr_of l' d' q m vs) (λ m b vs. more_of l' d' p m b vs) l' p n a us (infix_at us)) _
      (λ us s. by_after l' d' p n a us)
      (local_after same (λ q m us. expr_of l d q m us) (λ q m us. expr_of l' d' q m us) (λ m b us. more_of l d p m b us)
      (λ m b us. more_of l' d' p m b us) l l' p n a ts le eq
      (λ q m us less. local_expr same long l l' d d' q m us (omega (arith, less, lt)) le le' eq eq')
      (λ m b us less. local_more same long l l' d d' p m b us (omega (arith, less, lt)) le le' eq eq')
      (λ q m us x h. left_of l d q m us x h)))

pub expr_local : (same : Type 0) (l l' d d' : ℕ) (ts : List Piece) → l ≤ l' → d ≤ d' → (same → l ≡ l') → (same → d ≡ d')
    → Local {A = tree.Expr} same ts (whole_of l d ts) (λ us. whole_of l' d' us)
unfolding whole_of
expr_local same l l' d d' ts le le' eq eq' =
    local_bind same ts (expr_of l d 0 0 ts) (λ us. expr_of l' d' 0 0 us) (λ e. Ok (e.0.0, e.1)) (λ e. Ok (e.0.0, e.1))
    (local_expr same (suc (length ts)) l l' d d' 0 0 ts (omega arith) le le' eq eq') (λ x h. ok_here x.0.0 x.1 _ (λ us s. refl))
