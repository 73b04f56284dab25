-- The first among the faults of a block, part by part, and what is visible behind it.
use Rattle.std.proofs.Common.{◌≡◌, ℕ, ◌+◌, ◌-◌, ◌<◌, ◌≤◌, List, [], ◌∷◌, ◌++◌, length, get_or, take, drop, map, Option, refl, ap, ◌∙◌, arith, length-append}
use Rattle.std.specs.List.{flat_map}
use Rattle.std.proofs.Math.Seq.{drop-append_seam, take-append_seam}
use Rattle.cilk_check_scopes.specs.syntax.Tree.{Word, Stmt, Local, Block, block, Locals, no_locals, and_local, stmts_of, locals_of}
use Rattle.cilk_check_scopes.specs.declared.fault.CheckFault.{CheckFault}
use Rattle.cilk_check_scopes.specs.First.{first_among}
use Rattle.cilk_check_scopes.specs.Scopes.{Declared, Scopes, declare, declare_all, enter, parameter, local_declares}
use Rattle.cilk_check_scopes.specs.Declarations.{declaring}
use Rattle.cilk_check_scopes.specs.Parts.{local, statement}
use Rattle.cilk_check_scopes.proofs.Firsts.{first_among-append}
use Rattle.cilk_check_scopes.proofs.Steps.{drop_at}
use Rattle.cilk_check.specs.Left.{left_of}
use Rattle.cilk_check.specs.NameFinds.{declaring_faults, part_faults, behind_locals, behind_block, locals_faults, inside_local, stmts_faults, inside_stmt}
use Rattle.cilk_check.proofs.UseFaults.{uses-append, exprs-append}

pub names_more : (found : Option CheckFault) (s : Scopes) (names : List Word) (i : ℕ) (name : Word) → i < length names → name ≡ get_or names i name
    → first_among found (flat_map declaring_faults (declaring s.innermost (map parameter (drop i names))))
    ≡ first_among (first_among found (declaring_faults (record { before = s.innermost; declared = parameter name })))
    (flat_map declaring_faults (declaring (parameter name ∷ s.innermost) (map parameter (drop (i + 1) names))))
names_more found s names i name h e =
    ap (λ ns. first_among found (flat_map declaring_faults (declaring s.innermost (map parameter ns)))) (drop_at names i name h e)
    ∙ first_among-append found (declaring_faults (record { before = s.innermost; declared = parameter name })) _

pub visible_more : (s : Scopes) (names : List Word) (i : ℕ) (name : Word) → i < length names → name ≡ get_or names i name
    → declare_all s (map parameter (drop i names)) ≡ declare_all (declare s (parameter name)) (map parameter (drop (i + 1) names))
visible_more s names i name h e = ap (λ ns. declare_all s (map parameter ns)) (drop_at names i name h e)

pub locals_more : (found : Option CheckFault) (s : Scopes) (locals : List Local) (i : ℕ) (l : Local) → i < length locals → l ≡ get_or locals i l
    → first_among found (locals_faults s (locals_of (drop i locals)))
    ≡ first_among (first_among (first_among found (part_faults s (local l))) (inside_local (declare s (local_declares l)) l))
    (locals_faults (declare s (local_declares l)) (locals_of (drop (i + 1) locals)))
locals_more found s locals i l h e =
    ap (λ ls. first_among found (locals_faults s (locals_of ls))) (drop_at locals i l h e)
    ∙ first_among-append found (part_faults s (local l)) _
    ∙ first_among-append _ (inside_local (declare s (local_declares l)) l) _

pub behind_more : (s : Scopes) (locals : List Local) (i : ℕ) (l : Local) → i < length locals → l ≡ get_or locals i l
    → behind_locals s (locals_of (drop i locals)) ≡ behind_locals (declare s (local_declares l)) (locals_of (drop (i + 1) locals))
behind_more s locals i l h e = ap (λ ls. behind_locals s (locals_of ls)) (drop_at locals i l h e)

pub stmts_more : (found : Option CheckFault) (s : Scopes) (stmts : List Stmt) (i : ℕ) (x : Stmt) → i < length stmts → x ≡ get_or stmts i x
    → first_among found (stmts_faults s (stmts_of (drop i stmts)))
    ≡ first_among (first_among (first_among found (part_faults s (statement x))) (inside_stmt s x))
    (stmts_faults s (stmts_of (drop (i + 1) stmts)))
stmts_more found s stmts i x h e =
    ap (λ xs. first_among found (stmts_faults s (stmts_of xs))) (drop_at stmts i x h e)
    ∙ first_among-append found (part_faults s (statement x)) _
    ∙ first_among-append _ (inside_stmt s x) _

-- declarations of a scope leave those around it
pub outer_locals : (s : Scopes) (locals : Locals) → (behind_locals s locals).outer ≡ s.outer
outer_locals s no_locals = refl
outer_locals s (and_local first others) = outer_locals (declare s (local_declares first)) others

pub outer_block : (s : Scopes) (b : Block) → (behind_block s b).outer ≡ s.outer
outer_block s (block locals stmts) = outer_locals s locals

pub outer_all : (s : Scopes) (ds : List Declared) → (declare_all s ds).outer ≡ s.outer
outer_all s [] = refl
outer_all s (d ∷ ds) = outer_all (declare s d) ds

-- a scope that was entered and left
pub left_again : (s : Scopes) → left_of (length s.outer) (s.innermost ++ s.outer) ≡ s
left_again s =
    let size : length (s.innermost ++ s.outer) - length s.outer ≡ length s.innermost = grind (arith, length-append) in
    λ i. record {
      innermost = (ap (λ n. take n (s.innermost ++ s.outer)) size ∙ take-append_seam s.innermost s.outer) i;
      outer = (ap (λ n. drop n (s.innermost ++ s.outer)) size ∙ drop-append_seam s.innermost s.outer) i;
    }

-- what is visible at the end of a block of a scope that was entered
pub outer_is : (s e n : Scopes) (b : Block) → e ≡ enter s → n ≡ behind_block e b → n.outer ≡ s.innermost ++ s.outer
outer_is s e n b entered visible = ap (λ x. x.outer) visible ∙ outer_block e b ∙ ap (λ x. x.outer) entered

pub outer_with : (s e a n : Scopes) (ds : List Declared) (b : Block) → e ≡ enter s → a ≡ declare_all e ds → n ≡ behind_block a b
    → n.outer ≡ s.innermost ++ s.outer
outer_with s e a n ds b entered parameters visible =
    ap (λ x. x.outer) visible ∙ outer_block a b ∙ ap (λ x. x.outer) parameters ∙ outer_all e ds ∙ ap (λ x. x.outer) entered

pub may_leave : (s n : Scopes) (outer : ℕ) → outer ≡ length s.outer → n.outer ≡ s.innermost ++ s.outer → outer ≤ length n.outer
may_leave s n outer h e =
    let size : length n.outer ≡ length s.innermost + length s.outer = ap length e ∙ length-append s.innermost s.outer in
    omega (arith, h, size)

pub has_left : (s n m : Scopes) (outer : ℕ) → outer ≡ length s.outer → n.outer ≡ s.innermost ++ s.outer → m ≡ left_of outer n.outer → m ≡ s
has_left s n m outer h e is = is ∙ (λ i. left_of (h i) (e i)) ∙ left_again s

pub ruleset declarings = (first_among-append, uses-append, exprs-append, names_more, visible_more, locals_more, behind_more, stmts_more)
