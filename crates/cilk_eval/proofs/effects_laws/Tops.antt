-- What the names of the top level mean.
use Rattle.std.proofs.Common.{◌≡◌, ℕ, suc, ◌+◌, ◌<◌, Bool, true, false, List, [], ◌∷◌, flat_map, Some, codes, slice_get, inl, inr, refl, sym, ap, subst, ◌∙◌}
use Rattle.cilk_eval.specs.syntax.declared.return_type.ReturnType.{ReturnType}
use Rattle.cilk_eval.specs.syntax.Tree.{Word}
use Rattle.cilk_eval.specs.syntax.Tree as tree
use Rattle.cilk_eval.specs.scopes.Scopes.{parameter_count, kind_of_body, kind_of_global, file_declares}
use Rattle.cilk_eval.specs.scopes.Parts.{owner_of}
use Rattle.cilk_eval.specs.labelled.Labelled as labelled
use Rattle.cilk_eval.specs.labelled.Labelled.{Labelled, Body, Variable}
use Rattle.cilk_eval.specs.labelled.Names.{Names}
use Rattle.cilk_eval.specs.labelled.Count.{count_item}
use Rattle.cilk_eval.specs.labelled.Bodies.{body_count, item_bodies, items_bodies, file_means, shaped_variable, item_globals, item_locks}
use Rattle.cilk_eval.specs.model.Instance.{no_body}
use Rattle.cilk_eval.specs.frame.Cells.{no_variable}
use Rattle.cilk_eval.proofs.frame_laws.nodes_laws.BodyCounts.{length-item}
use Rattle.cilk_eval.proofs.scopes_laws.Elements.{Has}
use Rattle.cilk_eval.proofs.effects_laws.Lists.{get_within, get_is, StandAt, stand_behind, stand_first, stand_others, Fit}
use Rattle.cilk_eval.proofs.effects_laws.Meant.{Fits, MeansKind, IsBody}
use Rattle.cilk_eval.proofs.effects_laws.Files.{count_is}

module _ (program : Labelled) (b h : ℕ)
    (main_is : (k : ℕ) (x : Body) → program.main ≡ Some k → slice_get program.bodies k ≡ Some x → x.name ≡ codes "main") where
  shape_means : (g : ℕ) (name : Word) (shape : tree.GlobalShape) → ((k : ℕ) → shape ≡ tree.global_array k → 0 < k)
      → slice_get program.globals g ≡ Some (shaped_variable name shape)
      → MeansKind program b h name.text (labelled.global g) (kind_of_global shape)
  shape_means g name (tree.global_variable value) lengths there = get_within program.globals g _ there
  shape_means g name (tree.global_array k) lengths there =
      subst (λ (v : Variable). 0 < v.length) (sym (get_is program.globals g _ no_variable there)) (lengths k refl)

  body_means : (k : ℕ) (name : List ℕ) (is_cilk : Bool) (r : ReturnType) (n : ℕ) → IsBody program (owner_of is_cilk r) k n
      → (program.main ≡ Some k → name ≡ codes "main")
      → MeansKind program b h name (labelled.of_body k) (kind_of_body is_cilk r n)
  body_means k name true r n is main = (is, main)
  body_means k name false r n is main = is

  -- g variables, l locks and k bodies come before these
  pub file_fits : (items : List tree.Item) (names : Names) (at g l k : ℕ) → StandAt program.globals g (flat_map item_globals items)
      → StandAt program.locks l (flat_map item_locks items) → StandAt program.bodies k (items_bodies names at items)
      → ((x : tree.Global) (n : ℕ) → Has items (tree.global x) → x.shape ≡ tree.global_array n → 0 < n)
      → Fit (Fits program b h) (file_declares items) (file_means g l k items)
  file_fits [] names at g l k gs ls bs lengths = tt
  file_fits (tree.global x ∷ others) names at g l k gs ls bs lengths = (
    shape_means g x.name x.shape (λ n e. lengths x n (inl refl) e) (stand_first program.globals g _ _ gs),
    file_fits others (record names { bodies = names.bodies + body_count (tree.global x) }) (at + count_item (tree.global x)) (suc g) l k
        (stand_others program.globals g _ _ gs) ls bs (λ y n there e. lengths y n (inr there) e),
  )
  file_fits (tree.lock name ∷ others) names at g l k gs ls bs lengths = (
    get_within program.locks l _ (stand_first program.locks l _ _ ls),
    file_fits others (record names { bodies = names.bodies + body_count (tree.lock name) }) (at + count_item (tree.lock name)) g (suc l) k gs
        (stand_others program.locks l _ _ ls) bs (λ y n there e. lengths y n (inr there) e),
  )
  file_fits (tree.prototype q ∷ others) names at g l k gs ls bs lengths =
      file_fits others (record names { bodies = names.bodies + body_count (tree.prototype q) }) (at + count_item (tree.prototype q)) g l k gs ls bs
      (λ y n there e. lengths y n (inr there) e)
  file_fits (tree.procedure f ∷ others) names at g l k gs ls bs lengths =
      let there = stand_first program.bodies k _ _ bs in
      let is = get_is program.bodies k _ no_body there in
      let own : List Body = item_bodies names at (tree.procedure f) in
      let behind : Names = record names { bodies = names.bodies + body_count (tree.procedure f) } in (
        body_means k f.name.text f.is_cilk f.returns (parameter_count f.parameters)
            (record {
              takes = record {
                is_there = get_within program.bodies k _ there;
                parameters = ap (λ (x : Body). x.parameters) is ∙ count_is f.parameters;
              };
              owner = ap (λ (x : Body). x.owner) is;
            })
            (λ e. main_is k _ e there),
        file_fits others behind (at + count_item (tree.procedure f)) g l (k + body_count (tree.procedure f)) gs ls
            (stand_behind program.bodies k (k + body_count (tree.procedure f)) own (items_bodies behind (at + count_item (tree.procedure f)) others)
            (ap (λ (n : ℕ). k + n) (length-item names at (tree.procedure f))) bs)
            (λ y n there e. lengths y n (inr there) e),
      )
