-- What is spelled is read.
use Rattle.std.proofs.Common.{◌≡◌, ℕ, zero, suc, ◌+◌, ◌==◌, ◌<◌, ◌≤◌, true, false, List, [], ◌∷◌, ◌++◌, length, Option, Some, None, Ok, refl, sym, ap}
use Rattle.std.proofs.Common.{subst, ◌∙◌, append_assoc, arith, length-append, eq-eqb}
use Rattle.std.proofs.lemmas.Bool.{le-leb, lt-leb, lt-ltb, eqb-true, false_from_ne_true}
use Rattle.cilk_tree_syntax.specs.lexeme.Lexeme.{Lexeme, Piece, name, number}
use Rattle.cilk_tree_syntax.specs.lexeme.declared.keyword.Keyword.TheVariants as words
use Rattle.cilk_tree_syntax.specs.lexeme.declared.mark.Mark.TheVariants as marks
use Rattle.cilk_tree_syntax.specs.declared.operator.BinOp.{BinOp}
use Rattle.cilk_tree_syntax.specs.declared.un_op.UnOp.{UnOp}
use Rattle.cilk_tree_syntax.specs.Tree as tree
use Rattle.cilk_parse_grammar.specs.Rule.{◌>>=◌, behind, is, class_at}
use Rattle.cilk_parse_grammar.specs.declared.operator.Infix.{Infix}
use Rattle.cilk_parse_grammar.specs.declared.operator.Infix.TheVariants.{Two, Choice}
use Rattle.cilk_parse_grammar.specs.Classes.{a_word, a_mark, cls}
use Rattle.cilk_parse_grammar.specs.Operators.{operand, infix_of, sign_of}
use Rattle.cilk_parse_grammar.specs.Expressions.{operators, Spells, a_number_is, a_name_is, synched_is, an_element, in_parentheses, of_one, of_two}
use Rattle.cilk_parse_grammar.specs.Expressions.{of_three, word_at}
use Rattle.cilk_parse_grammar.specs.Front.{kind_of, kind_at, infix_at}
use Rattle.cilk_parse_grammar.specs.Reading.{Reads, closed, at_mark, behind_name, operand_by, behind_question, on_after, expr_in, more_in}
use Rattle.cilk_parse_grammar.proofs.Tables.{level_low}
use Rattle.cilk_parse_grammar.proofs.ClassFacts.{word_lexeme, mark_lexeme, a_sign}
use Rattle.cilk_parse_grammar.proofs.Tools.{next_here, name_here, Stops, StopsAt, Below, BelowAt, below_all, stops_operand}

-- no subscript begins here, and nothing that would be part of an expression at level q
abbrev pub NoSubscript : List Piece → Type 0
NoSubscript ts = is (a_mark marks.OpenBracket) (class_at cls ts) ≡ false

abbrev pub Ends : ℕ → List Piece → Type 0
Ends q ts = Below q ts × NoSubscript ts

-- In front of anything that isn't part of it, the expression is read, and reading goes on behind it.
abbrev pub ReadAgain : ℕ → ℕ → List Piece → tree.Expr → Type 0
ReadAgain d q us e = (l p f n k : ℕ) (rest : List Piece) → p ≤ q → length (us ++ rest) < f → Ends q rest → k ≡ n + operators e → k ≤ l
    → (g : ℕ) × (length rest < g) × (expr_in f l d p n (us ++ rest) ≡ more_in g l d p k e rest)

stops_at : (p q : ℕ) (w : Option (ℕ × Infix)) → BelowAt q w → q < p → StopsAt p w
stops_at p q (Some (r, w)) b lt = omega (arith, b.0, lt)
stops_at p q None b lt = tt

pub stops_all : (p : ℕ) (w : Option (ℕ × Infix)) → BelowAt 0 w → StopsAt p w
stops_all p (Some (r, w)) b = absurd (omega (arith, b.1))
stops_all p None b = tt

below_more : (p q : ℕ) (w : Option (ℕ × Infix)) → q ≤ p → BelowAt q w → BelowAt p w
below_more p q (Some (r, w)) le b = (omega (arith, b.0, le), omega (arith, b.1, le))
below_more p q None le b = tt

on_stops : (expr : ℕ → ℕ → List Piece → Reads) (more : ℕ → tree.Expr → List Piece → Reads) (l p n : ℕ) (a : tree.Expr) (ts : List Piece)
    (w : Option (ℕ × Infix)) → StopsAt p w → on_after expr more l p n a ts w ≡ Ok ((a, n), ts)
on_stops expr more l p n a ts (Some (r, w)) s = rw (lt-leb p r s) refl
on_stops expr more l p n a ts None s = refl

pub more_stops : (g l d p n : ℕ) (a : tree.Expr) (ts : List Piece) → 0 < g → Stops p ts → more_in g l d p n a ts ≡ Ok ((a, n), ts)
unfolding expr_in
more_stops zero l d p n a ts lt s = absurd (omega (arith, lt))
more_stops (suc g) l d p n a ts lt s = on_stops (λ q m us. expr_in g l d q m us) (λ m b us. more_in g l d p m b us) l p n a ts (infix_at ts) s

-- an operand, and then what goes on behind it
pub operand_more : (f l d p n m : ℕ) (ts us : List Piece) (e : tree.Expr)
    → operand_by (λ c q m us. expr_in f l c q m us) l d n ts (kind_at ts) ≡ Ok ((e, m), us)
    → expr_in (suc f) l d p n ts ≡ more_in f l d p m e us
unfolding expr_in
operand_more f l d p n m ts us e h = rw h refl

-- ---- one token

reads_one : (d q : ℕ) (t : Piece) (e : tree.Expr) → operators e ≡ 0
    →
    ((inner : ℕ → ℕ → ℕ → List Piece → Reads) (l n : ℕ) (rest : List Piece) → NoSubscript rest
    → operand_by inner l d n (t ∷ rest) (kind_at (t ∷ rest)) ≡ Ok ((e, n), rest)) → ReadAgain d q (t ∷ []) e
reads_one d q t e z h l p zero n k rest le lt b is fits = absurd (omega (arith, lt))
reads_one d q t e z h l p (suc f) n k rest le lt b is fits =
    let same : n ≡ k = omega (arith, is, z) in
    (f, omega (arith, lt), operand_more f l d p n k (t ∷ rest) rest e (h (λ c q m us. expr_in f l c q m us) l n rest b.1 ∙ ap (λ i. Ok ((e, i), rest)) same))

operand_number : (inner : ℕ → ℕ → ℕ → List Piece → Reads) (l d n x : ℕ) (t : Piece) (rest : List Piece) → t.lexeme ≡ number x
    → operand_by inner l d n (t ∷ rest) (kind_at (t ∷ rest)) ≡ Ok ((tree.number x, n), rest)
operand_number inner l d n x t rest h = rw h refl

operand_synched : (inner : ℕ → ℕ → ℕ → List Piece → Reads) (l d n : ℕ) (t : Piece) (rest : List Piece) → cls t ≡ a_word words.Synched
    → operand_by inner l d n (t ∷ rest) (kind_at (t ∷ rest)) ≡ Ok ((tree.synched t.start, n), rest)
operand_synched inner l d n t rest h = ap (λ (i : Lexeme). operand_by inner l d n (t ∷ rest) (Some (kind_of i))) (word_lexeme t.lexeme words.Synched h)

-- behind a name
operand_name : (inner : ℕ → ℕ → ℕ → List Piece → Reads) (l d n : ℕ) (x : List ℕ) (t : Piece) (rest : List Piece) → t.lexeme ≡ name x
    → operand_by inner l d n (t ∷ rest) (kind_at (t ∷ rest)) ≡ behind_name inner l d n (word_at x t) rest
operand_name inner l d n x t rest h =
    ap (λ (i : Lexeme). operand_by inner l d n (t ∷ rest) (Some (kind_of i))) h
    ∙ ap (λ r. r >>= λ y. behind_name inner l d n y.0 y.1) (name_here t x rest h)

named_alone : (inner : ℕ → ℕ → ℕ → List Piece → Reads) (l d n : ℕ) (x : tree.Word) (rest : List Piece) → NoSubscript rest
    → behind_name inner l d n x rest ≡ Ok ((tree.named x, n), rest)
named_alone inner l d n x rest b = rw b refl

-- ---- what closes

-- a token that goes on with nothing
ended : (c q : ℕ) (u : Piece) (rest : List Piece) → cls u ≡ c → infix_of c ≡ None → (a_mark marks.OpenBracket == c) ≡ false
    → Ends q (u ∷ rest) × Stops q (u ∷ rest)
ended c q u rest h i j =
    let none : infix_at (u ∷ rest) ≡ None = ap infix_of h
    ∙ i in ((subst (λ v. BelowAt q v) (sym none) tt, ap (λ k. a_mark marks.OpenBracket == k) h ∙ j), subst (λ v. StopsAt q v) (sym none) tt)

-- a whole expression in front of a token that ends it
pub whole : (d q l : ℕ) (us : List Piece) (e : tree.Expr) (f n k : ℕ) (rest : List Piece) → ReadAgain d q us e → length (us ++ rest) < f
    → Ends q rest → Stops q rest → k ≡ n + operators e → k ≤ l → expr_in f l d q n (us ++ rest) ≡ Ok ((e, k), rest)
whole d q l us e f n k rest r lt b s is fits =
    let m = r l q f n k rest (omega arith) lt b is fits in
    m.2 ∙ more_stops m.0 l d q k e rest (omega (arith, m.1)) s

closed_here : (inner : ℕ → ℕ → ℕ → List Piece → Reads) (d n k c : ℕ) (f : tree.Expr → tree.Expr) (u : Piece) (ts rest : List Piece)
    (e : tree.Expr) → cls u ≡ c → inner d 0 n ts ≡ Ok ((e, k), u ∷ rest) → closed c f (inner d 0 n ts) ≡ Ok ((f e, k), rest)
closed_here inner d n k c f u ts rest e h w = rw (w, next_here c u rest h) refl

operand_open : (inner : ℕ → ℕ → ℕ → List Piece → Reads) (l d n k : ℕ) (t u : Piece) (ts rest : List Piece) (e : tree.Expr)
    → cls t ≡ a_mark marks.OpenParenthesis → cls u ≡ a_mark marks.CloseParenthesis
    → inner d 0 n ts ≡ Ok ((e, k), u ∷ rest) → operand_by inner l (suc d) n (t ∷ ts) (kind_at (t ∷ ts)) ≡ Ok ((e, k), rest)
operand_open inner l d n k t u ts rest e h i w =
    ap (λ (i : Lexeme). operand_by inner l (suc d) n (t ∷ ts) (Some (kind_of i))) (mark_lexeme t.lexeme marks.OpenParenthesis h)
    ∙ closed_here inner d n k (a_mark marks.CloseParenthesis) (λ i. i) u ts rest e i w

reads_parentheses : (d q : ℕ) (t u : Piece) (us : List Piece) (e : tree.Expr) → cls t ≡ a_mark marks.OpenParenthesis
    → cls u ≡ a_mark marks.CloseParenthesis → ReadAgain d 0 us e → ReadAgain (suc d) q (t ∷ (us ++ u ∷ [])) e
reads_parentheses d q t u us e h i r l p zero n k rest le lt b is fits = absurd (omega (arith, lt))
reads_parentheses d q t u us e h i r l p (suc f) n k rest le lt b is fits =
    let shape : (us ++ u ∷ []) ++ rest ≡ us ++ u ∷ rest = append_assoc us (u ∷ []) rest in
    let long = length-append us (u ∷ rest) in
    let same = ap length shape in
    let ends = ended (a_mark marks.CloseParenthesis) 0 u rest i refl refl in
    let w = whole d 0 l us e f n k (u ∷ rest) r (omega (arith, lt, same)) ends.0 ends.1 is fits in (
      f,
      omega (arith, lt, same, long),
      operand_more f l (suc d) p n k (t ∷ ((us ++ u ∷ []) ++ rest)) rest e
          (operand_open (λ c q m vs. expr_in f l c q m vs) l d n k t u ((us ++ u ∷ []) ++ rest) rest e h i (ap (expr_in f l d 0 n) shape ∙ w)),
    )

operand_element : (inner : ℕ → ℕ → ℕ → List Piece → Reads) (l d n k : ℕ) (x : List ℕ) (t u v : Piece) (ts rest : List Piece) (i : tree.Expr)
    → t.lexeme ≡ name x → cls u ≡ a_mark marks.OpenBracket → cls v ≡ a_mark marks.CloseBracket → n < l
    → inner d 0 (suc n) ts ≡ Ok ((i, k), v ∷ rest)
    → operand_by inner l d n (t ∷ (u ∷ ts)) (kind_at (t ∷ (u ∷ ts))) ≡ Ok ((tree.element (word_at x t) i, k), rest)
operand_element inner l d n k x t u v ts rest i h j m lt w =
    let at : is (a_mark marks.OpenBracket) (Some (cls u)) ≡ true = eq-eqb _ _ (sym j) in
    operand_name inner l d n x t (u ∷ ts) h
    ∙ rw (at, lt-ltb n l lt) (closed_here inner d (suc n) k (a_mark marks.CloseBracket) (λ e. tree.element (word_at x t) e) v ts rest i m w)

reads_element : (d q : ℕ) (x : List ℕ) (t u v : Piece) (us : List Piece) (i : tree.Expr) → t.lexeme ≡ name x
    → cls u ≡ a_mark marks.OpenBracket → cls v ≡ a_mark marks.CloseBracket → ReadAgain d 0 us i
    → ReadAgain d q (t ∷ (u ∷ (us ++ v ∷ []))) (tree.element (word_at x t) i)
reads_element d q x t u v us i h j m r l p zero n k rest le lt b is fits = absurd (omega (arith, lt))
reads_element d q x t u v us i h j m r l p (suc f) n k rest le lt b is fits =
    let shape : (us ++ v ∷ []) ++ rest ≡ us ++ v ∷ rest = append_assoc us (v ∷ []) rest in
    let long = length-append us (v ∷ rest) in
    let same = ap length shape in
    let ends = ended (a_mark marks.CloseBracket) 0 v rest m refl refl in
    let w = whole d 0 l us i f (suc n) k (v ∷ rest) r (omega (arith, lt, same)) ends.0 ends.1 (omega (arith, is)) fits in (
      f,
      omega (arith, lt, same, long),
      operand_more f l d p n k (t ∷ (u ∷ ((us ++ v ∷ []) ++ rest))) rest (tree.element (word_at x t) i)
          (operand_element (λ c q m vs. expr_in f l c q m vs) l d n k x t u v ((us ++ v ∷ []) ++ rest) rest i h j m
          (omega (arith, is, fits)) (ap (expr_in f l d 0 (suc n)) shape ∙ w)),
    )

operand_sign : (inner : ℕ → ℕ → ℕ → List Piece → Reads) (l d n k : ℕ) (t : Piece) (o : UnOp) (ts rest : List Piece) (a : tree.Expr)
    → sign_of (cls t) ≡ Some o → n < l
    → inner d operand (suc n) ts ≡ Ok ((a, k), rest) → operand_by inner l d n (t ∷ ts) (kind_at (t ∷ ts)) ≡ Ok ((tree.unary o a, k), rest)
operand_sign inner l d n k t o ts rest a h lt w =
    let m = a_sign (cls t) o h in
    ap (λ (i : Lexeme). operand_by inner l d n (t ∷ ts) (Some (kind_of i))) (mark_lexeme t.lexeme m.0 (sym m.1))
    ∙ ap (λ v. at_mark inner l d n (t ∷ ts) v (a_mark marks.OpenParenthesis == a_mark m.0)) (ap sign_of m.1 ∙ h) ∙ rw (lt-ltb n l lt, w) refl

reads_sign : (d q : ℕ) (t : Piece) (us : List Piece) (a : tree.Expr) (o : UnOp) → sign_of (cls t) ≡ Some o → ReadAgain d operand us a
    → ReadAgain d q (t ∷ us) (tree.unary o a)
reads_sign d q t us a o h r l p zero n k rest le lt b is fits = absurd (omega (arith, lt))
reads_sign d q t us a o h r l p (suc f) n k rest le lt b is fits =
    let w = whole d operand l us a f (suc n) k rest r (omega (arith, lt)) (below_all operand rest (omega arith), b.1) (stops_operand rest)
    (omega (arith, is)) fits in (
      f,
      omega (arith, lt, length-append us rest),
      operand_more f l d p n k (t ∷ (us ++ rest)) rest (tree.unary o a)
          (operand_sign (λ c q m vs. expr_in f l c q m vs) l d n k t o (us ++ rest) rest a h (omega (arith, is, fits)) w),
    )

-- one step behind an operator
pub more_operator : (g l d p q n : ℕ) (a : tree.Expr) (o : BinOp) (ts : List Piece) → infix_at ts ≡ Some (q, Two o) → p ≤ q → n < l
    → more_in (suc g) l d p n a ts ≡ (expr_in g l d (suc q) (suc n) (behind ts) >>= λ b. more_in g l d p b.0.1 (tree.binary o a b.0.0) b.1)
unfolding expr_in
more_operator g l d p q n a o ts at le lt =
    ap (on_after (λ r m us. expr_in g l d r m us) (λ m b us. more_in g l d p m b us) l p n a ts) at ∙ rw (le-leb p q le, lt-ltb n l lt) refl

two_steps : (l d p q r n k : ℕ) (vs rest all : List Piece) (a b : tree.Expr) (t : Piece) (o : BinOp) (g f m : ℕ) → p ≤ r → q ≤ r
    → suc (length (vs ++ rest)) < g → infix_at (t ∷ (vs ++ rest)) ≡ Some (r, Two o)
    → expr_in f l d p n all ≡ more_in g l d p m a (t ∷ (vs ++ rest)) → ReadAgain d (suc r) vs b → Ends q rest → m ≡ n + operators a
    → k ≡ suc (m + operators b) → k ≤ l
    → (g : ℕ) × (length rest < g) × (expr_in f l d p n all ≡ more_in g l d p k (tree.binary o a b) rest)
two_steps l d p q r n k vs rest all a b t o zero f m le ge lt at e rb below im ik fits = absurd (omega (arith, lt))
two_steps l d p q r n k vs rest all a b t o (suc g) f m le ge lt at e rb below im ik fits =
    let w = whole d (suc r) l vs b g (suc m) k rest rb (omega (arith, lt))
    (below_more (suc r) q (infix_at rest) (omega (arith, ge)) below.0, below.1)
    (stops_at (suc r) q (infix_at rest) below.0 (omega (arith, ge))) (omega (arith, ik)) fits in
    (g, omega (arith, lt, length-append vs rest), e ∙ more_operator g l d p r m a o (t ∷ (vs ++ rest)) at le (omega (arith, ik, fits)) ∙ rw w refl)

-- no operator opens a subscript
no_subscript : (t : Piece) (ts : List Piece) (q : ℕ) (w : Infix) → infix_of (cls t) ≡ Some (q, w) → NoSubscript (t ∷ ts)
no_subscript t ts q w e =
    false_from_ne_true _
    (λ h. let both : infix_of (a_mark marks.OpenBracket) ≡ Some (q, w) = ap infix_of (eqb-true (a_mark marks.OpenBracket) (cls t) h)
    ∙ e in cc)

reads_two : (d q r : ℕ) (t : Piece) (us vs : List Piece) (a b : tree.Expr) (o : BinOp) → infix_of (cls t) ≡ Some (r, Two o) → q ≤ r
    → ReadAgain d r us a → ReadAgain d (suc r) vs b → ReadAgain d q (us ++ t ∷ vs) (tree.binary o a b)
reads_two d q r t us vs a b o at ge ra rb l p f n k rest le lt below is fits =
    let shape : (us ++ t ∷ vs) ++ rest ≡ us ++ t ∷ (vs ++ rest) = append_assoc us (t ∷ vs) rest in
    let same = ap length shape in
    let first = ra l p f n (n + operators a) (t ∷ (vs ++ rest)) (omega (arith, le, ge)) (omega (arith, lt, same))
    (rw at (omega arith, level_low (cls t) r o at), no_subscript t (vs ++ rest) r (Two o) at) refl (omega (arith, is, fits)) in
    two_steps l d p q r n k vs rest ((us ++ t ∷ vs) ++ rest) a b t o first.0 f (n + operators a) (omega (arith, le, ge)) ge first.1 at
    (ap (expr_in f l d p n) shape ∙ first.2) rb below refl (omega (arith, is)) fits

-- one step behind a test
more_choice : (g l d p n : ℕ) (c : tree.Expr) (ts : List Piece) → infix_at ts ≡ Some (0, Choice) → p ≤ 0 → n < l
    → more_in (suc g) l d p n c ts ≡ behind_question (λ q m us. expr_in g l d q m us) c (suc n) (behind ts)
unfolding expr_in
more_choice g l d p n c ts at le lt =
    ap (on_after (λ r m us. expr_in g l d r m us) (λ m b us. more_in g l d p m b us) l p n c ts) at ∙ rw (le-leb p 0 le, lt-ltb n l lt) refl

question_read : (expr : ℕ → ℕ → List Piece → Reads) (n m k : ℕ) (c a b : tree.Expr) (ts ws rest : List Piece) (u : Piece)
    → cls u ≡ a_mark marks.Colon → expr 0 n ts ≡ Ok ((a, m), u ∷ ws) → expr 0 m ws ≡ Ok ((b, k), rest)
    → behind_question expr c n ts ≡ Ok ((tree.choose c a b, k), rest)
question_read expr n m k c a b ts ws rest u h e f = rw (e, next_here (a_mark marks.Colon) u ws h, f) refl

three_steps : (l d p n m k : ℕ) (vs ws rest all : List Piece) (c a b : tree.Expr) (t u : Piece) (g f : ℕ) → p ≤ 0
    → suc (length (vs ++ u ∷ (ws ++ rest))) < g → infix_at (t ∷ (vs ++ u ∷ (ws ++ rest))) ≡ Some (0, Choice) → cls u ≡ a_mark marks.Colon
    → expr_in f l d p n all ≡ more_in g l d p m c (t ∷ (vs ++ u ∷ (ws ++ rest))) → ReadAgain d 0 vs a → ReadAgain d 0 ws b → Ends 0 rest
    → k ≡ suc (m + operators a + operators b) → k ≤ l
    → (g : ℕ) × (length rest < g) × (expr_in f l d p n all ≡ more_in g l d p k (tree.choose c a b) rest)
three_steps l d p n m k vs ws rest all c a b t u zero f le lt at i e ra rb below ik fits = absurd (omega (arith, lt))
three_steps l d p n m k vs ws rest all c a b t u (suc g) f le lt at i e ra rb below ik fits =
    let back = u ∷ (ws ++ rest) in
    let long = length-append vs back in
    let ends = ended (a_mark marks.Colon) 0 u (ws ++ rest) i refl refl in
    let first = whole d 0 l vs a g (suc m) (suc m + operators a) back ra (omega (arith, lt)) ends.0 ends.1 refl (omega (arith, ik, fits)) in
    let second = whole d 0 l ws b g (suc m + operators a) k rest rb (omega (arith, lt, long)) below (stops_all 0 (infix_at rest) below.0)
    (omega (arith, ik)) fits in (
      suc (length rest),
      omega arith,
      e ∙ more_choice g l d p m c (t ∷ (vs ++ back)) at le (omega (arith, ik, fits))
          ∙ question_read (λ q j us. expr_in g l d q j us) (suc m) (suc m + operators a) k c a b (vs ++ back) (ws ++ rest) rest u i first second
          ∙ sym (more_stops (suc (length rest)) l d p k (tree.choose c a b) rest (omega arith) (stops_all p (infix_at rest) below.0)),
    )

reads_three : (d : ℕ) (t u : Piece) (us vs ws : List Piece) (c a b : tree.Expr) → infix_of (cls t) ≡ Some (0, Choice)
    → cls u ≡ a_mark marks.Colon → ReadAgain d 1 us c → ReadAgain d 0 vs a → ReadAgain d 0 ws b
    → ReadAgain d 0 (us ++ t ∷ (vs ++ u ∷ ws)) (tree.choose c a b)
reads_three d t u us vs ws c a b at i rc ra rb l p f n k rest le lt below is fits =
    let shape : (us ++ t ∷ (vs ++ u ∷ ws)) ++ rest ≡ us ++ t ∷ (vs ++ u ∷ (ws ++ rest)) = append_assoc us (t ∷ (vs ++ u ∷ ws)) rest
    ∙ ap (λ (r : List Piece). us ++ t ∷ r) (append_assoc vs (u ∷ ws) rest) in
    let same = ap length shape in
    let first = rc l p f n (n + operators c) (t ∷ (vs ++ u ∷ (ws ++ rest))) (omega (arith, le)) (omega (arith, lt, same))
    (rw at (omega arith, omega arith), no_subscript t (vs ++ u ∷ (ws ++ rest)) 0 Choice at) refl (omega (arith, is, fits)) in
    three_steps l d p n (n + operators c) k vs ws rest ((us ++ t ∷ (vs ++ u ∷ ws)) ++ rest) c a b t u first.0 f le first.1 at i
    (ap (expr_in f l d p n) shape ∙ first.2) ra rb below (omega (arith, is)) fits

pub complete : {d q : ℕ} {us : List Piece} {e : tree.Expr} → Spells d q us e → ReadAgain d q us e
complete {d = d} {q = q} (a_number_is t n h w) =
    subst (λ (v : List Piece). ReadAgain d q v (tree.number n)) (sym w)
    (reads_one d q t (tree.number n) refl (λ inner l m rest b. operand_number inner l d m n t rest h))
complete {d = d} {q = q} (a_name_is t x h w) =
    subst (λ (v : List Piece). ReadAgain d q v (tree.named (word_at x t))) (sym w)
    (reads_one d q t (tree.named (word_at x t)) refl (λ inner l m rest b. operand_name inner l d m x t rest h
    ∙ named_alone inner l d m (word_at x t) rest b))
complete {d = d} {q = q} (synched_is t h w) =
    subst (λ (v : List Piece). ReadAgain d q v (tree.synched t.start)) (sym w)
    (reads_one d q t (tree.synched t.start) refl (λ inner l m rest b. operand_synched inner l d m t rest h))
complete {d = d} {q = q} (an_element {us = us} {i = i} t u v x h j s k w) =
    subst (λ (r : List Piece). ReadAgain d q r (tree.element (word_at x t) i)) (sym w) (reads_element d q x t u v us i h j k (complete s))
complete (in_parentheses {d = d} {p = q} {us = us} {e = e} t u h s i w) =
    subst (λ (v : List Piece). ReadAgain (suc d) q v e) (sym w) (reads_parentheses d q t u us e h i (complete s))
complete {d = d} {q = q} (of_one {us = us} {a = a} t o h r w) =
    subst (λ (v : List Piece). ReadAgain d q v (tree.unary o a)) (sym w) (reads_sign d q t us a o h (complete r))
complete {d = d} {q = q} (of_two {us = us} {vs = vs} {a = a} {b = b} t m o h le r s w) =
    subst (λ (v : List Piece). ReadAgain d q v (tree.binary o a b)) (sym w) (reads_two d q m t us vs a b o h le (complete r) (complete s))
complete {d = d} {q = q} (of_three {us = us} {vs = vs} {ws = ws} {c = c} {a = a} {b = b} t u h i z r s v w) =
    subst (λ (y : List Piece). ReadAgain d q y (tree.choose c a b)) (sym w)
    (subst (λ (j : ℕ). ReadAgain d j (us ++ t ∷ (vs ++ u ∷ ws)) (tree.choose c a b)) (sym z)
    (reads_three d t u us vs ws c a b h i (complete r) (complete s) (complete v)))
