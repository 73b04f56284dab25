-- What the rules of statements make of parts that are the same but for places is the same but for places.
use Rattle.std.proofs.Common.{◌≡◌, ℕ, List, [], ◌∷◌, ◌++◌, map, Some, None, pos, neg_ℤ, refl, sym, ap, ◌∙◌}
use Rattle.std.proofs.lemmas.List.{map-append}
use Rattle.cilk_tree_syntax.specs.lexeme.declared.keyword.Keyword.{Keyword}
use Rattle.cilk_tree_syntax.specs.declared.lock_action.LockAction.{LockAction}
use Rattle.cilk_tree_syntax.specs.Tree as tree
use Rattle.cilk_tree_syntax.specs.Tree.{Word, stmts_of, locals_of}
use Rattle.cilk_parse_grammar.specs.Forms.{joined, expression, optional}
use Rattle.cilk_parse_grammar.specs.Grammar as grammar
use Rattle.cilk_tree_syntax.specs.Bare.{bare_word, bare_expr, bare_value, bare_part, bare_taker, bare_decl, bare_stmt, bare_stmts, bare_local}
use Rattle.cilk_tree_syntax.specs.Bare.{bare_locals, bare_block}
use Rattle.cilk_parse_grammar.proofs.Kept.{Kept, k_done, k_skip, k_then, k_either, k_nearest, k_use, k_many, k_word, k_name, k_number, k_literal}
use Rattle.cilk_parse_grammar.proofs.Kept.{k_expr, k_value, k_statement, k_unbraced, k_inlet, k_before, k_between, k_behind_commas, k_commas}
use Rattle.cilk_parse_grammar.proofs.Keeps.{arguments_kept, index_kept, op_kept, adjustment_kept, same_assigned, OfPlace, adjusted_kept, move_kept}

-- ---- lists

pub map_joined : {A B : Type 0} (f : A → B) (xss : List (List A)) → map f (joined xss) ≡ joined (map (map f) xss)
map_joined f [] = refl
map_joined f (xs ∷ xss) = map-append f xs (joined xss) ∙ ap (λ l. map f xs ++ l) (map_joined f xss)

pub same_joined : {A B : Type 0} (f : A → B) (xss yss : List (List A)) → map (map f) xss ≡ map (map f) yss → map f (joined xss) ≡ map f (joined yss)
same_joined f xss yss h = map_joined f xss ∙ ap joined h ∙ sym (map_joined f yss)

bare_declared : (ds : List tree.Decl) → map bare_local (map tree.declared ds) ≡ map tree.declared (map bare_decl ds)
bare_declared [] = refl
bare_declared (d ∷ ds) = ap (λ l. tree.declared (bare_decl d) ∷ l) (bare_declared ds)

bare_stmts_of : (ss : List tree.Stmt) → bare_stmts (stmts_of ss) ≡ stmts_of (map bare_stmt ss)
bare_stmts_of [] = refl
bare_stmts_of (s ∷ ss) = ap (tree.also (bare_stmt s)) (bare_stmts_of ss)

bare_locals_of : (xs : List tree.Local) → bare_locals (locals_of xs) ≡ locals_of (map bare_local xs)
bare_locals_of [] = refl
bare_locals_of (x ∷ xs) = ap (tree.and_local (bare_local x)) (bare_locals_of xs)

-- ---- simple statements

-- of what takes the child's value, and of a name
abbrev OfTaker : (tree.Taker → tree.Stmt) → (tree.Taker → tree.Stmt) → Type 0
OfTaker f g = (t u : tree.Taker) → bare_taker t ≡ bare_taker u → bare_stmt (f t) ≡ bare_stmt (g u)

abbrev pub OfName : {A B : Type 0} → (A → B) → (Word → A) → (Word → A) → Type 0
OfName bare f g = (x y : Word) → bare_word x ≡ bare_word y → bare (f x) ≡ bare (g y)

child_kept : Kept grammar.child OfTaker
child_kept = k_then k_word (λ at bt u. k_then k_name (λ f g h. k_then arguments_kept (λ es fs r. k_done (λ t u e i. tree.spawn_at 0 (e i) (h i) (r i)))))

called_kept : Kept grammar.called (OfName bare_stmt)
called_kept = k_between (k_either
    (k_then child_kept (λ c d r. k_then (k_behind_commas bare_expr k_expr)
    (λ es fs h. k_done (λ x y g. r (tree.through x es) (tree.through y fs) (λ i. tree.through (g i) (h i))))))
    (k_either (k_then (k_commas bare_expr k_expr) (λ es fs h. k_done (λ x y g i. tree.move (tree.call None (g i) (h i)))))
    (k_done (λ x y g i. tree.move (tree.call None (g i) [])))))

written_kept : Kept grammar.written (OfPlace bare_stmt)
written_kept =
    k_either (k_then op_kept (λ o p e. k_either
    (k_then child_kept (λ c d r. k_done (λ j k g x y f. r _ _ (λ i. tree.into (record { place = record { name = f i; index = g i }; op = e i })))))
    (k_then k_value
    (λ v w h. k_done
    (λ j k g x y f. ap tree.move (same_assigned _ _ v w (λ i. record { place = record { name = f i; index = g i }; op = e i }) h))))))
    (k_then adjustment_kept (λ a b e. k_done (λ j k g x y f i. tree.move (tree.adjust (record { name = f i; index = g i }) (e i)))))

abbrev pub SameStmt : tree.Stmt → tree.Stmt → Type 0
SameStmt s t = bare_stmt s ≡ bare_stmt t

named_kept : Kept grammar.named SameStmt
named_kept =
    k_before
    (k_then k_name (λ x y h. k_either (k_use called_kept (λ f g r. r x y h))
    (k_then index_kept (λ j k g. k_use written_kept (λ f f' r. r j k g x y h)))))

adjusting_kept : Kept grammar.adjusting SameStmt
adjusting_kept = k_before (k_then adjusted_kept (λ m n h. k_done (ap tree.move h)))

spawning_kept : Kept grammar.spawning SameStmt
spawning_kept = k_before (k_then child_kept (λ c d r. k_done (r tree.nothing tree.nothing refl)))

printing_kept : Kept grammar.printing SameStmt
printing_kept =
    k_skip
    (k_before
    (k_between (k_then k_literal (λ t u h. k_then (k_behind_commas bare_expr k_expr) (λ es fs g. k_done (λ i. tree.print (h i) (g i)))))))

locking_by_kept : (c : ℕ) (a : LockAction) → Kept (grammar.locking_by c a) SameStmt
locking_by_kept c a = k_skip (k_before (k_then (k_between k_name) (λ x y h. k_done (λ i. tree.locking a (h i)))))

locking_kept : Kept grammar.locking SameStmt
locking_kept = k_either (locking_by_kept _ _) (k_either (locking_by_kept _ _) (locking_by_kept _ _))

alone_kept : (w : Keyword) (f : ℕ → tree.Stmt) → ((a b : ℕ) → SameStmt (f a) (f b)) → Kept (grammar.alone w f) SameStmt
alone_kept w f h = k_before (k_then k_word (λ a b u. k_done (h a b)))

option_kept : Kept (optional expression) (λ x y. bare_value x ≡ bare_value y)
option_kept = k_either (k_then k_expr (λ x y h. k_done (λ i. Some (h i)))) (k_done refl)

returning_kept : Kept grammar.returning SameStmt
returning_kept = k_before (k_then k_word (λ a b u. k_then option_kept (λ e f h. k_done (λ i. tree.return_at 0 (h i)))))

-- ---- blocks

declarator_kept : Kept grammar.declarator (λ d e. bare_decl d ≡ bare_decl e)
declarator_kept = k_then k_name (λ x y h. k_either
    (k_skip (k_then k_expr (λ e f g. k_done (λ i. record { name = h i; shape = tree.variable (Some (g i)) }))))
    (k_either (k_then (k_between k_number) (λ m n g. k_done (λ i. record { name = h i; shape = tree.array (g i) })))
    (k_done (λ i. record { name = h i; shape = tree.variable None }))))

declaration_kept : Kept grammar.declaration (λ xs ys. map bare_local xs ≡ map bare_local ys)
declaration_kept =
    k_skip
    (k_before (k_then (k_commas bare_decl declarator_kept)
    (λ ds es h. k_done (bare_declared ds ∙ ap (map tree.declared) h ∙ sym (bare_declared es)))))

local_kept : Kept grammar.local (λ xs ys. map bare_local xs ≡ map bare_local ys)
local_kept = k_either declaration_kept (k_then k_inlet (λ x y h. k_done (λ i. h i ∷ [])))

locals_kept : Kept grammar.locals (λ xs ys. map (map bare_local) xs ≡ map (map bare_local) ys)
locals_kept = k_many {f = map bare_local} local_kept

statements_kept : Kept grammar.statements (λ xs ys. map bare_stmt xs ≡ map bare_stmt ys)
statements_kept = k_many {f = bare_stmt} k_statement

same_block : (xs ys : List (List tree.Local)) (ss ts : List tree.Stmt) → map (map bare_local) xs ≡ map (map bare_local) ys → map bare_stmt ss ≡ map bare_stmt ts
    → bare_block (tree.block (locals_of (joined xs)) (stmts_of ss)) ≡ bare_block (tree.block (locals_of (joined ys)) (stmts_of ts))
same_block xs ys ss ts h g =
    let same : bare_locals (locals_of (joined xs)) ≡ bare_locals (locals_of (joined ys)) = bare_locals_of (joined xs)
    ∙ ap locals_of (same_joined bare_local xs ys h) ∙ sym (bare_locals_of (joined ys)) in
    let same' : bare_stmts (stmts_of ss) ≡ bare_stmts (stmts_of ts) = bare_stmts_of ss ∙ ap stmts_of g ∙ sym (bare_stmts_of ts) in
    λ i. tree.block (same i) (same' i)

pub block_kept : Kept grammar.block (λ b c. bare_block b ≡ bare_block c)
block_kept = k_between (k_then locals_kept (λ xs ys h. k_then statements_kept (λ ss ts g. k_done (same_block xs ys ss ts h g))))

body_kept : Kept grammar.body (λ b c. bare_block b ≡ bare_block c)
body_kept = k_either block_kept (k_then k_unbraced (λ s t h. k_done (λ i. tree.block tree.no_locals (tree.also (h i) tree.none))))

-- ---- statements in which others stand

test_kept : Kept grammar.test (λ e f. bare_expr e ≡ bare_expr f)
test_kept = k_between k_expr

conditional_kept : Kept grammar.conditional SameStmt
conditional_kept =
    k_skip
    (k_then test_kept
    (λ e f h. k_then body_kept (λ b c g. k_nearest (k_skip (k_then body_kept (λ o p r. k_done (λ i. tree.either (h i) (g i) (r i)))))
    (λ i. tree.when (h i) (g i)))))

looping_kept : Kept grammar.looping SameStmt
looping_kept = k_skip (k_then test_kept (λ e f h. k_then body_kept (λ b c g. k_done (λ i. tree.while (h i) (g i)))))

repeating_kept : Kept grammar.repeating SameStmt
repeating_kept = k_skip (k_then body_kept (λ b c g. k_skip (k_before (k_then test_kept (λ e f h. k_done (λ i. tree.repeat (g i) (h i)))))))

option_move_kept : Kept (optional grammar.move) (λ x y. bare_part x ≡ bare_part y)
option_move_kept = k_either (k_then move_kept (λ x y h. k_done (λ i. Some (h i)))) (k_done refl)

loop_test_kept : Kept grammar.loop_test (λ e f. bare_expr e ≡ bare_expr f)
loop_test_kept = k_either k_expr (k_done refl)

for_loop_kept : Kept grammar.for_loop SameStmt
for_loop_kept =
    k_skip (k_skip (k_then (k_before option_move_kept) (λ m n h. k_then (k_before loop_test_kept) (λ e f g. k_then (k_before option_move_kept) (λ a b r.
    k_then body_kept (λ c d q. k_done (λ i. tree.loop (h i) (g i) (r i) (q i))))))))

-- ---- `switch`

pub integer_kept : Kept grammar.integer (λ x y. x ≡ y)
integer_kept = k_either (k_skip (k_then k_number (λ m n h. k_done (λ i. neg_ℤ (pos (h i)))))) (k_then k_number (λ m n h. k_done (λ i. pos (h i))))

label_kept : Kept grammar.label SameStmt
label_kept =
    k_before
    (k_either (k_then k_word (λ a b u. k_then integer_kept (λ y z h. k_done (λ i. grammar.label_at 0 (Some (h i))))))
    (k_then k_word (λ a b u. k_done refl)))

labelled_kept : Kept grammar.labelled (λ xs ys. map bare_stmt xs ≡ map bare_stmt ys)
labelled_kept =
    k_then (k_many {f = bare_stmt} label_kept)
    (λ xs ys h. k_then k_statement
    (λ s t g. k_done (map-append bare_stmt xs (s ∷ []) ∙ (λ i. h i ++ g i ∷ []) ∙ sym (map-append bare_stmt ys (t ∷ [])))))

cases_kept : Kept grammar.cases (λ b c. bare_block b ≡ bare_block c)
cases_kept =
    k_between
    (k_then (k_many {f = map bare_local} declaration_kept) (λ xs ys h. k_then (k_many {f = map bare_stmt} labelled_kept)
    (λ ss ts g. k_done (same_block xs ys (joined ss) (joined ts) h (same_joined bare_stmt ss ts g)))))

switching_kept : Kept grammar.switching SameStmt
switching_kept = k_skip (k_then test_kept (λ e f h. k_then cases_kept (λ b c g. k_done (λ i. tree.switch (h i) (g i)))))

pub no_block_kept : Kept grammar.no_block_rule SameStmt
no_block_kept =
    k_either named_kept (k_either adjusting_kept (k_either printing_kept (k_either locking_kept (k_either spawning_kept (k_either (k_skip (k_done refl))
    (k_either (alone_kept _ _ (λ a b. refl)) (k_either (alone_kept _ _ (λ a b. refl))
    (k_either (alone_kept _ _ (λ a b. refl)) (k_either (alone_kept _ _ (λ a b. refl))
    (k_either returning_kept (k_either conditional_kept (k_either looping_kept (k_either repeating_kept (k_either for_loop_kept switching_kept))))))))))))))

pub statement_kept : Kept grammar.statement_rule SameStmt
statement_kept = k_either (k_then block_kept (λ b c h. k_done (λ i. tree.nested (h i)))) no_block_kept

-- ---- inlets

parameters_kept : Kept grammar.parameters (λ xs ys. map bare_word xs ≡ map bare_word ys)
parameters_kept = k_between (k_either (k_skip (k_done refl)) (k_either (k_commas bare_word (k_skip k_name)) (k_done refl)))

pub inlet_kept : Kept grammar.inlet_rule (λ x y. bare_local x ≡ bare_local y)
inlet_kept =
    k_then k_word
    (λ a b u. k_skip
    (k_then k_name
    (λ x y h. k_then parameters_kept (λ ps qs g. k_then block_kept (λ b c r. k_done (λ i. tree.inlet_at 0 (h i) (g i) (r i)))))))
