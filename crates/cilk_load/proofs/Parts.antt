-- What the pass appends for the parts of a body makes up what it appends for the body.
use Rattle.std.proofs.Common.{◌≡◌, ℕ, suc, ◌+◌, List, [], ◌∷◌, ◌++◌, ◌-◌, length, take, drop, Option, Some, None, ap, ◌∙◌, arith, append_assoc, length-drop}
use Rattle.std.proofs.lemmas.List.{take_all}
use Rattle.cilk_tree_syntax.specs.Tree as tree
use Rattle.cilk_tree_syntax.specs.Tree.{Word, locals_of, stmts_of}
use Rattle.cilk_load_nodes.specs.labelled.Count.{count_option, count_shape, count_stmt, count_stmts, count_local, count_locals, count_block}
use Rattle.cilk_load_nodes.specs.labelled.Label.{stmt_variables, local_variables, locals_variables, block_variables}
use Rattle.cilk_load_nodes.specs.declared.action.Action.TheVariants.{Close, Test}
use Rattle.cilk_load_nodes.specs.declared.node.Node.{Node}
use Rattle.cilk_load_nodes.specs.declared.var.Var.{Var}
use Rattle.cilk_load_nodes.specs.declared.body.Body.{Body}
use Rattle.cilk_load_nodes.specs.Plain.{PlainLocals, OuterLocals}
use Rattle.cilk_load.specs.declared.exits.Exits.{Exits}
use Rattle.cilk_load.specs.Scope.{Scope, declared}
use Rattle.cilk_load.specs.Acts.{code_in}
use Rattle.cilk_load.specs.Firsts.{first_if, block_first, locals_first}
use Rattle.cilk_load.specs.Pass.{bound_var, bound_number, node, switch_test, onward, exits_to, in_switch, in_loop, part_nodes, again_at}
use Rattle.cilk_load.specs.Pass.{inside_at, shape_nodes, locals_scope, locals_nodes, stmt_nodes, stmts_nodes, block_nodes}
use Rattle.cilk_load.specs.Outer.{vars_at, body_exits, inlet_nodes, outer_nodes, outer_scope, body_nodes}

-- a block
pub block-written : (b : ℕ) (vars : List Var) (s t : Scope) (size size' here n m c d : ℕ) (xs xs' is : List tree.Local) (ys ys' js : List tree.Stmt)
    (x : tree.Block) (first : Option ℕ) (ex : Exits) (before middle after : List Node)
    → xs ≡ is → xs' ≡ is → ys ≡ js → ys' ≡ js → tree.block (locals_of is) (stmts_of js) ≡ x → here ≡ size + 1 → c ≡ count_locals (locals_of xs)
    → d ≡ count_stmts (stmts_of ys) → first ≡ first_if d (here + c) ex.next
    → middle ≡ before ++ locals_nodes b vars s (size + 1) n (locals_of xs') first → size' ≡ size + count_locals (locals_of xs')
    → t ≡ locals_scope vars n (locals_of xs') s → m ≡ n + length (locals_variables (locals_of xs'))
    → after ≡ middle ++ stmts_nodes b vars t (size' + 1) m (stmts_of ys') ex → after ≡ before ++ block_nodes b vars s (size + 1) n x ex
block-written b vars s t size size' here n m c d xs xs' is ys ys' js x first ex before middle after ex1 ex2 ey1 ey2 view el ec ed ef em es et en ea =
    let ls : tree.Locals = locals_of is in
    let ss : tree.Stmts = stmts_of js in
    let at : ℕ = size + 1 in
    let count : c ≡ count_locals ls = ec ∙ ap (λ (zs : List tree.Local). count_locals (locals_of zs)) ex1 in
    let left : d ≡ count_stmts ss = ed ∙ ap (λ (zs : List tree.Stmt). count_stmts (stmts_of zs)) ey1 in
    let behind : here + c ≡ at + count_locals ls = omega (arith, el, count) in
    let place : size' + 1 ≡ at + count_locals ls = omega (arith, es, ap (λ (zs : List tree.Local). count_locals (locals_of zs)) ex2) in
    let opening : first ≡ first_if (count_stmts ss) (at + count_locals ls) ex.next = ef ∙ (λ i. first_if (left i) (behind i) ex.next) in
    let scope : t ≡ locals_scope vars n ls s = et ∙ ap (λ (zs : List tree.Local). locals_scope vars n (locals_of zs) s) ex2 in
    let number : m ≡ n + length (locals_variables ls) = en ∙ ap (λ (zs : List tree.Local). n + length (locals_variables (locals_of zs))) ex2 in
    ea
    ∙ (λ i. (em ∙ (λ j. before ++ locals_nodes b vars s at n (locals_of (ex2 j)) (opening j))) i
    ++ stmts_nodes b vars (scope i) (place i) (number i) (stmts_of (ey2 i)) ex)
    ∙ append_assoc before (locals_nodes b vars s at n ls (first_if (count_stmts ss) (at + count_locals ls) ex.next))
    (stmts_nodes b vars (locals_scope vars n ls s) (at + count_locals ls) (n + length (locals_variables ls)) ss ex)
    ∙ ap (λ (y : tree.Block). before ++ block_nodes b vars s at n y ex) view

-- a whole body
pub body-written : (bodies : List Body) (vars : List Var) (b k : ℕ) (s t : Scope) (size size' here n m c d : ℕ) (xs xs' is : List tree.Local)
    (ys ys' js : List tree.Stmt) (x : tree.Block) (first : Option ℕ) (ex : Exits) (before middle inner after : List Node)
    → xs ≡ is → xs' ≡ is → ys ≡ js → ys' ≡ js → tree.block (locals_of is) (stmts_of js) ≡ x → here ≡ size + 1 → c ≡ count_locals (locals_of xs)
    → d ≡ count_stmts (stmts_of ys) → first ≡ first_if d (here + c) (Some (here + c + d)) → ex ≡ body_exits (here + c + d)
    → vars ≡ vars_at bodies b → k ≡ b + 1 → middle ≡ before ++ outer_nodes bodies b k s (size + 1) n (locals_of xs') first
    → size' ≡ size + count_locals (locals_of xs') → t ≡ outer_scope (vars_at bodies b) k n (locals_of xs') s
    → m ≡ n + length (locals_variables (locals_of xs'))
    → inner ≡ middle ++ stmts_nodes b vars t (size' + 1) m (stmts_of ys') ex → after ≡ inner ++ onward b Close None ∷ []
    → after ≡ before ++ body_nodes bodies b s (size + 1) n x
body-written bodies vars b k s t size size' here n m c d xs xs' is ys ys' js x first ex before middle inner after ex1 ex2 ey1 ey2 view el ec ed ef ee ev
    ek em es et en ei ea =
    let ls : tree.Locals = locals_of is in
    let ss : tree.Stmts = stmts_of js in
    let at : ℕ = size + 1 in
    let closing : ℕ = at + (count_locals ls + count_stmts ss) in
    let last : List Node = onward b Close None ∷ [] in
    let count : c ≡ count_locals ls = ec ∙ ap (λ (zs : List tree.Local). count_locals (locals_of zs)) ex1 in
    let left : d ≡ count_stmts ss = ed ∙ ap (λ (zs : List tree.Stmt). count_stmts (stmts_of zs)) ey1 in
    let behind : here + c ≡ at + count_locals ls = omega (arith, el, count) in
    let end : here + c + d ≡ closing = omega (arith, el, count, left) in
    let place : size' + 1 ≡ at + count_locals ls = omega (arith, es, ap (λ (zs : List tree.Local). count_locals (locals_of zs)) ex2) in
    let next : k ≡ suc b = omega (arith, ek) in
    let start : Option ℕ = first_if (count_stmts ss) (at + count_locals ls) (Some closing) in
    let opening : first ≡ start = ef ∙ (λ i. first_if (left i) (behind i) (Some (end i))) in
    let scope : t ≡ outer_scope (vars_at bodies b) (suc b) n ls s = et ∙ (λ i. outer_scope (vars_at bodies b) (next i) n (locals_of (ex2 i)) s) in
    let number : m ≡ n + length (locals_variables ls) = en ∙ ap (λ (zs : List tree.Local). n + length (locals_variables (locals_of zs))) ex2 in
    let leads : ex ≡ body_exits closing = ee ∙ ap body_exits end in
    let heads : List Node = outer_nodes bodies b (suc b) s at n ls start in
    let rest : List Node = stmts_nodes b (vars_at bodies b) (outer_scope (vars_at bodies b) (suc b) n ls s) (at + count_locals ls)
    (n + length (locals_variables ls)) ss (body_exits closing) in
    ea
    ∙ ap (λ ns. ns ++ last) (ei
    ∙ (λ i. (em ∙ (λ j. before ++ outer_nodes bodies b (next j) s at n (locals_of (ex2 j)) (opening j))) i
    ++ stmts_nodes b (ev i) (scope i) (place i) (number i) (stmts_of (ey2 i)) (leads i))
    ∙ append_assoc before heads rest)
    ∙ append_assoc before (heads ++ rest) last
    ∙ ap (λ ns. before ++ ns) (append_assoc heads rest last)
    ∙ ap (λ (y : tree.Block). before ++ body_nodes bodies b s at n y) view

-- a block behind a test
pub tested : (b : ℕ) (vars : List Var) (s t : Scope) (size size' n : ℕ) (value : tree.Expr) (body : tree.Block) (first entry other : Option ℕ)
    (inner : Exits) (before middle after : List Node)
    → first ≡ entry → middle ≡ before ++ node b (Test (code_in s value)) first other ∷ [] → size' ≡ size + 1 → t ≡ s
    → after ≡ middle ++ block_nodes b vars t (size' + 1) n body inner
    → after ≡ before ++ (node b (Test (code_in s value)) entry other ∷ block_nodes b vars s (size + 1 + 1) n body inner)
tested b vars s t size size' n value body first entry other inner before middle after ef em es et ea =
    let place : size' + 1 ≡ size + 1 + 1 = omega (arith, es) in
    ea
    ∙ (λ i. (em ∙ ap (λ o. before ++ node b (Test (code_in s value)) o other ∷ []) ef) i ++ block_nodes b vars (et i) (place i) n body inner)
    ∙ append_assoc before (node b (Test (code_in s value)) entry other ∷ []) (block_nodes b vars s (size + 1 + 1) n body inner)

-- a `switch`
pub switch-written : (b : ℕ) (vars : List Var) (s t : Scope) (size size' n : ℕ) (value : tree.Expr) (body : tree.Block) (ex inner : Exits)
    (before middle after : List Node)
    → inner ≡ in_switch ex → middle ≡ before ++ switch_test b s value (size + 2) body ex.next ∷ [] → size' ≡ size + 1 → t ≡ s
    → after ≡ middle ++ block_nodes b vars t (size' + 1) n body inner → after ≡ before ++ stmt_nodes b vars s (size + 1) n (tree.switch value body) ex
switch-written b vars s t size size' n value body ex inner before middle after ei em es et ea =
    let place : size' + 1 ≡ size + 1 + 1 = omega (arith, es) in
    let here : size + 2 ≡ size + 1 + 1 = omega arith in
    ea
    ∙ (λ i. (em ∙ ap (λ k. before ++ switch_test b s value k body ex.next ∷ []) here) i ++ block_nodes b vars (et i) (place i) n body (ei i))
    ∙ append_assoc before (switch_test b s value (size + 1 + 1) body ex.next ∷ []) (block_nodes b vars s (size + 1 + 1) n body (in_switch ex))

-- a `while`
pub while-written : (b : ℕ) (vars : List Var) (s t : Scope) (size size' n here : ℕ) (value : tree.Expr) (body : tree.Block) (first : Option ℕ)
    (ex inner : Exits) (before middle after : List Node)
    → here ≡ size + 1 → first ≡ block_first (here + 1) body (Some here) → inner ≡ in_loop here ex.next
    → middle ≡ before ++ node b (Test (code_in s value)) first ex.next ∷ [] → size' ≡ size + 1 → t ≡ s
    → after ≡ middle ++ block_nodes b vars t (size' + 1) n body inner → after ≡ before ++ stmt_nodes b vars s (size + 1) n (tree.while value body) ex
while-written b vars s t size size' n here value body first ex inner before middle after eh ef ei em es et ea =
    let at : ℕ = size + 1 in
    let opening : first ≡ block_first (at + 1) body (Some at) = ef ∙ ap (λ k. block_first (k + 1) body (Some k)) eh in
    let leads : inner ≡ in_loop at ex.next = ei ∙ ap (λ k. in_loop k ex.next) eh in
    tested b vars s t size size' n value body first (block_first (at + 1) body (Some at)) ex.next inner before middle after opening em es et ea
    ∙ ap (λ (e : Exits). before ++ (node b (Test (code_in s value)) (block_first (at + 1) body (Some at)) ex.next ∷ block_nodes b vars s (at + 1) n body e))
    leads

-- a `do`
pub do-written : (b : ℕ) (vars : List Var) (s t : Scope) (size n here count : ℕ) (value : tree.Expr) (body : tree.Block) (first : Option ℕ)
    (ex inner : Exits) (before middle after : List Node)
    → here ≡ size + 1 → count ≡ count_block body → first ≡ block_first here body (Some (here + count)) → inner ≡ in_loop (here + count) ex.next
    → middle ≡ before ++ block_nodes b vars s (size + 1) n body inner → t ≡ s → after ≡ middle ++ node b (Test (code_in t value)) first ex.next ∷ []
    → after ≡ before ++ stmt_nodes b vars s (size + 1) n (tree.repeat body value) ex
do-written b vars s t size n here count value body first ex inner before middle after eh ec ef ei em et ea =
    let at : ℕ = size + 1 in
    let mark : here + count ≡ at + count_block body = omega (arith, eh, ec) in
    let opening : first ≡ block_first at body (Some (at + count_block body)) = ef ∙ (λ i. block_first (eh i) body (Some (mark i))) in
    let leads : inner ≡ in_loop (at + count_block body) ex.next = ei ∙ ap (λ k. in_loop k ex.next) mark in
    ea
    ∙ (λ i. (em ∙ ap (λ (e : Exits). before ++ block_nodes b vars s at n body e) leads) i ++ node b (Test (code_in (et i) value)) (opening i) ex.next ∷ [])
    ∙ append_assoc before (block_nodes b vars s at n body (in_loop (at + count_block body) ex.next))
    (node b (Test (code_in s value)) (block_first at body (Some (at + count_block body))) ex.next ∷ [])

-- a `for`
again-is : (at first advance again : ℕ) (f : Option tree.Move) (a : Option tree.Move) → first ≡ count_option f → advance ≡ count_option a
    → again + 1 ≡ at + first + 1 + advance → again ≡ again_at at f a
again-is at first advance again f None ef ea e = omega (arith, ef, ea, e)
again-is at first advance again f (Some what) ef ea e = omega (arith, ef, ea, e)

pub for-written : (b : ℕ) (vars : List Var) (s s1 s2 s3 : Scope) (size size1 size2 size3 n here first advance again : ℕ) (f : Option tree.Move)
    (value : tree.Expr) (a : Option tree.Move) (body : tree.Block) (entry : Option ℕ) (ex inner : Exits) (before p1 p2 p3 after : List Node)
    → here ≡ size + 1 → first ≡ count_option f → advance ≡ count_option a → again + 1 ≡ here + first + 1 + advance
    → entry ≡ block_first (here + first + 1 + advance) body (Some again) → inner ≡ in_loop again ex.next
    → p1 ≡ before ++ part_nodes b s f (here + first) → size1 ≡ size + count_option f → s1 ≡ s
    → p2 ≡ p1 ++ node b (Test (code_in s1 value)) entry ex.next ∷ [] → size2 ≡ size1 + 1 → s2 ≡ s1
    → p3 ≡ p2 ++ part_nodes b s2 a (here + first) → size3 ≡ size2 + count_option a → s3 ≡ s2
    → after ≡ p3 ++ block_nodes b vars s3 (size3 + 1) n body inner
    → after ≡ before ++ stmt_nodes b vars s (size + 1) n (tree.loop f value a body) ex
for-written b vars s s1 s2 s3 size size1 size2 size3 n here first advance again f value a body entry ex inner before p1 p2 p3 after el ef ea eg ee ei e1
    z1 n1 e2 z2 n2 e3 z3 n3 e4 =
    let at : ℕ = size + 1 in
    let mark : here + first ≡ at + count_option f = omega (arith, el, ef) in
    let same : again ≡ again_at at f a = again-is at first advance again f a ef ea (omega (arith, el, eg)) in
    let place : here + first + 1 + advance ≡ inside_at at f a = omega (arith, el, ef, ea) in
    let inside : size3 + 1 ≡ inside_at at f a = omega (arith, z1, z2, z3) in
    let second : s2 ≡ s = n2 ∙ n1 in
    let third : s3 ≡ s = n3 ∙ n2 ∙ n1 in
    let opening : entry ≡ block_first (inside_at at f a) body (Some (again_at at f a)) = ee ∙ (λ i. block_first (place i) body (Some (same i))) in
    let leads : inner ≡ in_loop (again_at at f a) ex.next = ei ∙ ap (λ k. in_loop k ex.next) same in
    let xs : List Node = part_nodes b s f (at + count_option f) in
    let test : Node = node b (Test (code_in s value)) (block_first (inside_at at f a) body (Some (again_at at f a))) ex.next in
    let ys : List Node = part_nodes b s a (at + count_option f) in
    let zs : List Node = block_nodes b vars s (inside_at at f a) n body (in_loop (again_at at f a) ex.next) in
    e4
    ∙ (λ i. (e3 ∙ (λ j. (e2 ∙ (λ l. (e1 ∙ ap (λ k. before ++ part_nodes b s f k) mark) l ++ node b (Test (code_in (n1 l) value)) (opening l) ex.next ∷ [])) j
    ++ part_nodes b (second j) a (mark j))) i ++ block_nodes b vars (third i) (inside i) n body (leads i))
    ∙ regroup before xs ys zs test
  where
    regroup : (us vs ws rs : List Node) (x : Node) → (((us ++ vs) ++ x ∷ []) ++ ws) ++ rs ≡ us ++ (vs ++ x ∷ (ws ++ rs))
    regroup us vs ws rs x =
        append_assoc ((us ++ vs) ++ x ∷ []) ws rs ∙ append_assoc (us ++ vs) (x ∷ []) (ws ++ rs) ∙ append_assoc us vs (x ∷ (ws ++ rs))

-- an `if` with an `else`
pub either-written : (b : ℕ) (vars : List Var) (s t : Scope) (size size1 n m here count : ℕ) (value : tree.Expr) (body other : tree.Block) (x : tree.Stmt)
    (second : Option ℕ) (ex : Exits) (before middle after : List Node)
    → tree.either value body other ≡ x → here ≡ size + 1 → count ≡ count_block body → second ≡ block_first (here + 1 + count) other ex.next
    → middle ≡ before ++ (node b (Test (code_in s value)) (block_first (size + 1 + 1) body ex.next) second ∷ block_nodes b vars s (size + 1 + 1) n body
    ex) → size1 ≡ size + (1 + count_block body) → t ≡ s → m ≡ n + length (block_variables body)
    → after ≡ middle ++ block_nodes b vars t (size1 + 1) m other ex → after ≡ before ++ stmt_nodes b vars s (size + 1) n x ex
either-written b vars s t size size1 n m here count value body other x second ex before middle after view el ec e2 em es et en ea =
    let at : ℕ = size + 1 in
    let behind : here + 1 + count ≡ at + (1 + count_block body) = omega (arith, el, ec) in
    let place : size1 + 1 ≡ at + (1 + count_block body) = omega (arith, es) in
    let opening : second ≡ block_first (at + (1 + count_block body)) other ex.next = e2 ∙ ap (λ k. block_first k other ex.next) behind in
    let xs : List Node = node b (Test (code_in s value)) (block_first (at + 1) body ex.next) (block_first (at + (1 + count_block body)) other ex.next)
    ∷ block_nodes b vars s (at + 1) n body ex in
    let ys : List Node = block_nodes b vars s (at + (1 + count_block body)) (n + length (block_variables body)) other ex in
    ea
    ∙ (λ i. (em ∙ ap (λ o. before ++ (node b (Test (code_in s value)) (block_first (at + 1) body ex.next) o ∷ block_nodes b vars s (at + 1) n body ex))
    opening) i ++ block_nodes b vars (et i) (place i) (en i) other ex)
    ∙ append_assoc before xs ys
    ∙ ap (λ (y : tree.Stmt). before ++ stmt_nodes b vars s at n y ex) view

-- the first of some statements
pub stmts-first : (b : ℕ) (vars : List Var) (s t : Scope) (size size' n m here count left : ℕ) (x : tree.Stmt) (xs : tree.Stmts) (next : Option ℕ)
    (ex inner : Exits) (before after : List Node)
    → here ≡ size + 1 → count ≡ count_stmt x → left ≡ count_stmts xs → next ≡ first_if left (here + count) ex.next → inner ≡ exits_to next ex
    → after ≡ before ++ stmt_nodes b vars s (size + 1) n x inner → size' ≡ size + count_stmt x → t ≡ s → m ≡ n + length (stmt_variables x)
    → after ++ stmts_nodes b vars t (size' + 1) m xs ex ≡ before ++ stmts_nodes b vars s (size + 1) n (tree.also x xs) ex
stmts-first b vars s t size size' n m here count left x xs next ex inner before after el ec ef ex1 ei ea es et en =
    let at : ℕ = size + 1 in
    let behind : here + count ≡ at + count_stmt x = omega (arith, el, ec) in
    let place : size' + 1 ≡ at + count_stmt x = omega (arith, es) in
    let leads : inner ≡ exits_to (first_if (count_stmts xs) (at + count_stmt x) ex.next) ex = ei
    ∙ ap (λ o. exits_to o ex) (ex1 ∙ (λ i. first_if (ef i) (behind i) ex.next)) in
    (λ i. (ea ∙ ap (λ e. before ++ stmt_nodes b vars s at n x e) leads) i ++ stmts_nodes b vars (et i) (place i) (en i) xs ex)
    ∙ append_assoc before (stmt_nodes b vars s at n x (exits_to (first_if (count_stmts xs) (at + count_stmt x) ex.next) ex))
    (stmts_nodes b vars s (at + count_stmt x) (n + length (stmt_variables x)) xs ex)

-- a slice from a place on
pub from-place : (k : ℕ) (xs : List tree.Local) → take (length xs - k) (drop k xs) ≡ drop k xs
from-place k xs = take_all (length xs - k) (drop k xs) (omega (arith, length-drop k xs))

-- the first of some declarations
pub record PutsFirst (b : ℕ) (vars : List Var) (next : Option ℕ) (before after : List Node) (s t : Scope) (size size' n m : ℕ) (l : tree.Local)
    (others : tree.Locals) : Type 0 where
  pub nodes : after ++ locals_nodes b vars t (size' + 1) m others next ≡ before ++ locals_nodes b vars s (size + 1) n (tree.and_local l others) next
  pub len : size' ≡ size + count_local l
  pub names : locals_scope vars m others t ≡ locals_scope vars n (tree.and_local l others) s
  pub variables : m ≡ n + length (local_variables l)

pub decl-first : (b : ℕ) (vars : List Var) (next : Option ℕ) (before after : List Node) (s t : Scope) (size size' n m : ℕ) (l : tree.Local)
    (others behind : tree.Locals) (d : tree.Decl)
    → tree.declared d ≡ l → behind ≡ others
    → after ≡ before ++ shape_nodes b (declared s (bound_var vars n d.name)) d.name d.shape (locals_first (size + 1 + count_shape d.shape) behind next)
    → size' ≡ size + count_shape d.shape → t ≡ declared s (bound_var vars n d.name) → m ≡ n + 1 → PutsFirst b vars next before after s t size size' n m l others
decl-first b vars next before after s t size size' n m l others behind d view eo ea es et en =
    let at : ℕ = size + 1 in
    let within : Scope = declared s (bound_var vars n d.name) in
    let place : size' + 1 ≡ at + count_shape d.shape = omega (arith, es) in
    record {
      nodes =
          (λ i. (ea ∙ ap (λ (ls : tree.Locals). before ++ shape_nodes b within d.name d.shape (locals_first (at + count_shape d.shape) ls next)) eo) i
          ++ locals_nodes b vars (et i) (place i) (en i) others next)
          ∙ append_assoc before (shape_nodes b within d.name d.shape (locals_first (at + count_shape d.shape) others next))
          (locals_nodes b vars within (at + count_shape d.shape) (n + 1) others next)
          ∙ ap (λ (x : tree.Local). before ++ locals_nodes b vars s at n (tree.and_local x others) next) view;
      len = es ∙ ap (λ (x : tree.Local). size + count_local x) view;
      names = (λ i. locals_scope vars (en i) others (et i)) ∙ ap (λ (x : tree.Local). locals_scope vars n (tree.and_local x others) s) view;
      variables = en ∙ ap (λ (x : tree.Local). n + length (local_variables x)) view;
    }

pub plain-later : (l : tree.Local) (ls : tree.Locals) → PlainLocals (tree.and_local l ls) → PlainLocals ls
plain-later (tree.declared d) ls plain = plain
plain-later (tree.inlet_at place name parameters body) ls plain = absurd plain

-- and in the outermost block
pub record OuterPutsFirst (bodies : List Body) (b : ℕ) (next : Option ℕ) (before after : List Node) (s t : Scope) (size size' k k' n m : ℕ) (l : tree.Local)
    (others : tree.Locals) : Type 0 where
  pub nodes : after ++ outer_nodes bodies b k' t (size' + 1) m others next ≡ before ++ outer_nodes bodies b k s (size + 1) n (tree.and_local l others) next
  pub len : size' ≡ size + count_local l
  pub names : outer_scope (vars_at bodies b) k' m others t ≡ outer_scope (vars_at bodies b) k n (tree.and_local l others) s
  pub variables : m ≡ n + length (local_variables l)

pub outer-decl-first : (bodies : List Body) (b : ℕ) (vars : List Var) (next : Option ℕ) (before after : List Node) (s t : Scope) (size size' k k' n m : ℕ)
    (l : tree.Local) (others behind : tree.Locals) (d : tree.Decl)
    → tree.declared d ≡ l → behind ≡ others → vars ≡ vars_at bodies b
    → after ≡ before ++ shape_nodes b (declared s (bound_var vars n d.name)) d.name d.shape (locals_first (size + 1 + count_shape d.shape) behind next)
    → size' ≡ size + count_shape d.shape → t ≡ declared s (bound_var vars n d.name) → k' ≡ k → m ≡ n + 1
    → OuterPutsFirst bodies b next before after s t size size' k k' n m l others
outer-decl-first bodies b vars next before after s t size size' k k' n m l others behind d view eo ev ea es et ek en =
    let at : ℕ = size + 1 in
    let within : Scope = declared s (bound_var (vars_at bodies b) n d.name) in
    let scope : t ≡ within = et ∙ ap (λ vs. declared s (bound_var vs n d.name)) ev in
    let place : size' + 1 ≡ at + count_shape d.shape = omega (arith, es) in
    record {
      nodes =
          (λ i. (ea ∙ (λ j. before ++ shape_nodes b (declared s (bound_var (ev j) n d.name)) d.name d.shape
          (locals_first (at + count_shape d.shape) (eo j) next))) i ++ outer_nodes bodies b (ek i) (scope i) (place i) (en i) others next)
          ∙ append_assoc before (shape_nodes b within d.name d.shape (locals_first (at + count_shape d.shape) others next))
          (outer_nodes bodies b k within (at + count_shape d.shape) (n + 1) others next)
          ∙ ap (λ (x : tree.Local). before ++ outer_nodes bodies b k s at n (tree.and_local x others) next) view;
      len = es ∙ ap (λ (x : tree.Local). size + count_local x) view;
      names = (λ i. outer_scope (vars_at bodies b) (ek i) (en i) others (scope i))
          ∙ ap (λ (x : tree.Local). outer_scope (vars_at bodies b) k n (tree.and_local x others) s) view;
      variables = en ∙ ap (λ (x : tree.Local). n + length (local_variables x)) view;
    }

pub outer-inlet-first : (bodies : List Body) (b : ℕ) (next : Option ℕ) (before after : List Node) (s t : Scope) (size size' k k' n m place : ℕ)
    (l : tree.Local) (others : tree.Locals) (name : Word) (parameters : List Word) (body : tree.Block)
    → tree.inlet_at place name parameters body ≡ l → after ≡ before ++ inlet_nodes bodies k (declared s (bound_number k name)) (size + 1) parameters body
    → size' ≡ size + (count_block body + 1) → t ≡ declared s (bound_number k name) → k' ≡ k + 1 → m ≡ n
    → OuterPutsFirst bodies b next before after s t size size' k k' n m l others
outer-inlet-first bodies b next before after s t size size' k k' n m place l others name parameters body view ea es et ek en =
    let at : ℕ = size + 1 in
    let within : Scope = declared s (bound_number k name) in
    let more : k' ≡ suc k = omega (arith, ek) in
    let behind : size' + 1 ≡ at + (count_block body + 1) = omega (arith, es) in
    let none : m ≡ n + 0 = omega (arith, en) in
    record {
      nodes =
          (λ i. ea i ++ outer_nodes bodies b (more i) (et i) (behind i) (en i) others next)
          ∙ append_assoc before (inlet_nodes bodies k within at parameters body)
          (outer_nodes bodies b (suc k) within (at + (count_block body + 1)) n others next)
          ∙ ap (λ (x : tree.Local). before ++ outer_nodes bodies b k s at n (tree.and_local x others) next) view;
      len = es ∙ ap (λ (x : tree.Local). size + count_local x) view;
      names = (λ i. outer_scope (vars_at bodies b) (more i) (en i) others (et i))
          ∙ ap (λ (x : tree.Local). outer_scope (vars_at bodies b) k n (tree.and_local x others) s) view;
      variables = none ∙ ap (λ (x : tree.Local). n + length (local_variables x)) view;
    }

pub outer-later : (l : tree.Local) (ls : tree.Locals) → OuterLocals (tree.and_local l ls) → OuterLocals ls
outer-later (tree.declared d) ls plain = plain
outer-later (tree.inlet_at place name parameters body) ls plain = plain.1
