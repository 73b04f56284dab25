-- What a part of the pass declares is taken back behind it.
use Rattle.std.proofs.Common.{◌≡◌, ℕ, suc, ◌+◌, ◌-◌, List, [], ◌∷◌, ◌++◌, length, map, take, drop, refl, ap, subst, ◌∙◌, arith, length-append}
use Rattle.std.proofs.Math.Seq.{drop-append_seam, take-append_seam}
use Rattle.cilk_tree_syntax.specs.Tree as tree
use Rattle.cilk_tree_syntax.specs.Tree.{Word, locals_of}
use Rattle.cilk_load_nodes.specs.declared.var.Var.{Var}
use Rattle.cilk_load_nodes.specs.Plain.{PlainLocals}
use Rattle.cilk_load_nodes.specs.scopes.Scopes.{parameter, parameters_declare}
use Rattle.cilk_load.specs.Scope.{Named, Scope, declared, entered, left_of, unknown_name}
use Rattle.cilk_load.proofs.Shown.{drop-next}
use Rattle.cilk_load.specs.Pass.{bound_var, bound_number, locals_scope}
use Rattle.cilk_load.specs.Outer.{words_scope, parameters_scope, outer_scope}

-- the scope t has k declarations more than s
pub record Adds (k : ℕ) (s t : Scope) : Type 0 where
  pub inner : drop k t.innermost ≡ s.innermost
  pub outer : t.outer ≡ s.outer
  pub size : length t.innermost ≡ k + length s.innermost

pub adds-none : (s : Scope) → Adds 0 s s
adds-none s = record { inner = refl; outer = refl; size = omega arith }

pub adds-more : (k : ℕ) (e : Named) (s t : Scope) → Adds k (declared s e) t → Adds (suc k) s t
adds-more k e s t a = record {
  inner = drop-next k t.innermost ∙ ap (drop 1) a.inner;
  outer = a.outer;
  size = omega (arith, a.size);
}

pub adds-words : (vars : List Var) (n : ℕ) (words : List Word) (s : Scope) → Adds (length words) s (words_scope vars n words s)
adds-words vars n [] s = adds-none s
adds-words vars n (word ∷ words) s =
    adds-more (length words) (bound_var vars n word) s _ (adds-words vars (n + 1) words (declared s (bound_var vars n word)))

pub adds-parameters : (vars : List Var) (parameters : tree.Parameters) (s : Scope)
    → Adds (length (parameters_declare parameters)) s (parameters_scope vars parameters s)
adds-parameters vars (tree.ints words) s = subst (λ k. Adds k s (words_scope vars 0 words s)) (counted words) (adds-words vars 0 words s)
  where
    counted : (xs : List Word) → length xs ≡ length (map parameter xs)
    counted [] = refl
    counted (x ∷ xs) = ap suc (counted xs)
adds-parameters vars (tree.command_line count strings) s =
    adds-more 1 (bound_var vars 0 count) s _
    (adds-more 0 (record { name = strings.text; binding = unknown_name }) (declared s (bound_var vars 0 count)) _ (adds-none _))

pub adds-locals : (vars : List Var) (n : ℕ) (ls : List tree.Local) (s : Scope) → PlainLocals (locals_of ls)
    → Adds (length ls) s (locals_scope vars n (locals_of ls) s)
adds-locals vars n [] s plain = adds-none s
adds-locals vars n (tree.declared d ∷ ls) s plain =
    adds-more (length ls) (bound_var vars n d.name) s _ (adds-locals vars (n + 1) ls (declared s (bound_var vars n d.name)) plain)
adds-locals vars n (tree.inlet_at place name parameters body ∷ ls) s plain = absurd plain

pub adds-outer : (vars : List Var) (k n : ℕ) (ls : List tree.Local) (s : Scope) → Adds (length ls) s (outer_scope vars k n (locals_of ls) s)
adds-outer vars k n [] s = adds-none s
adds-outer vars k n (tree.declared d ∷ ls) s =
    adds-more (length ls) (bound_var vars n d.name) s _ (adds-outer vars k (n + 1) ls (declared s (bound_var vars n d.name)))
adds-outer vars k n (tree.inlet_at place name parameters body ∷ ls) s =
    adds-more (length ls) (bound_number k name) s _ (adds-outer vars (suc k) n ls (declared s (bound_number k name)))

-- what was declared is forgotten
pub forgotten : (k : ℕ) (s t : Scope) → Adds k s t → record { innermost = drop k t.innermost; outer = t.outer } ≡ s
forgotten k s t a = λ i. record { innermost = a.inner i; outer = a.outer i }

-- what is around a body remains
pub around : (k : ℕ) (s t u f : Scope) → t ≡ entered s → Adds k t u → f ≡ record { innermost = drop k u.innermost; outer = u.outer }
    → f.outer ≡ (entered s).outer
around k s t u f e a h = ap (λ (x : Scope). x.outer) h ∙ a.outer ∙ ap (λ (x : Scope). x.outer) e

-- a body is left
pub left-entered : (n : ℕ) (s : Scope) → n ≡ length s.outer → left_of n (entered s).outer ≡ s
left-entered n s e =
    let size : length (s.innermost ++ s.outer) - n ≡ length s.innermost = omega (arith, e, length-append s.innermost s.outer) in
    λ i. record {
      innermost = (ap (λ k. take k (s.innermost ++ s.outer)) size ∙ take-append_seam s.innermost s.outer) i;
      outer = (ap (λ k. drop k (s.innermost ++ s.outer)) size ∙ drop-append_seam s.innermost s.outer) i;
    }
