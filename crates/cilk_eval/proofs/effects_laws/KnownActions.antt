-- Each action of a well-formed program is known.
use Rattle.std.proofs.Common.{ℤ, ◌≡◌, ℕ, ◌<◌, List, [], ◌∷◌, length, Some, IsSome, IsNone, codes, slice_get, bytes_eq, refl}
use Rattle.std.proofs.Common.{sym, subst, append-nil}
use Rattle.std.proofs.lemmas.Bool.{and_parts}
use Rattle.std.proofs.lemmas.Slice.Eq.{bytes_eq-Decides}
use Rattle.cilk_eval.specs.syntax.Tree as tree
use Rattle.cilk_eval.specs.scopes.Scopes.{file_declares}
use Rattle.cilk_eval.specs.scopes.WellFormed.{WellFormed}
use Rattle.cilk_eval.specs.labelled.Labelled.{Labelled, Body, Numbered, Action}
use Rattle.cilk_eval.specs.labelled.Items.{head_of, reached}
use Rattle.cilk_eval.specs.labelled.Bodies.{label, bodies_of, file_names, is_start, is_procedure}
use Rattle.cilk_eval.specs.model.Instance.{body_at}
use Rattle.cilk_eval.specs.effects.Heads.{Inside, in_nothing, in_a_loop, MayStand, EachOf, LeavesInLoops, GoesOn}
use Rattle.cilk_eval.proofs.effects_laws.Items.{reached_each, head_each, each_map}
use Rattle.cilk_eval.proofs.effects_laws.Heads.{in_any, starts, goes_on, ends}
use Rattle.cilk_eval.specs.effects.Known.{KnownAct}
use Rattle.cilk_eval.proofs.effects_laws.Lists.{stand_all, position_passes, Fit}
use Rattle.cilk_eval.proofs.effects_laws.Facts.{global_in_range}
use Rattle.cilk_eval.proofs.effects_laws.Meant.{Fits, FitNames}
use Rattle.cilk_eval.proofs.effects_laws.Locals.{May}
use Rattle.cilk_eval.proofs.effects_laws.Inlets.{KnownBody}
use Rattle.cilk_eval.proofs.effects_laws.Files.{bodies_known}
use Rattle.cilk_eval.proofs.effects_laws.Tops.{file_fits}

module _ (p : tree.Program) (well : WellFormed p) where
  pub main_named : (k : ℕ) (x : Body) → (label p).main ≡ Some k → slice_get (bodies_of p) k ≡ Some x → x.name ≡ codes "main"
  main_named k x e there =
      let passes = position_passes is_start (bodies_of p) k x e there in
      (bytes_eq-Decides x.name (codes "main")).0 (and_parts (is_procedure x.owner) (bytes_eq x.name (codes "main")) passes).1

  names_fit : (b h : ℕ) → FitNames (label p) b h (file_names p.items)
  names_fit b h = subst (λ ds. Fit (Fits (label p) b h) ds (file_names p.items).means) (sym (append-nil (file_declares p.items)))
      (file_fits (label p) b h main_named p.items (file_names p.items) 1 0 0 0
      (stand_all (label p).globals) (stand_all (label p).locks) (stand_all (label p).bodies) (λ x n there e. (global_in_range p well x n there e).low))

  body_known : (b : ℕ) → b < length (label p).bodies → KnownBody (label p) b
  body_known b there = bodies_known p well (label p) names_fit refl b there

more : (program : Labelled) (b : ℕ) (l : Inside) (act : Action) → May program b l act → May program b in_a_loop act
more program b l act h = (h.0, in_any l act h.1)

pub actions : (p : tree.Program) (b : ℕ) → WellFormed p → b < length (label p).bodies
    → EachOf (λ i act. KnownAct (label p) b act) in_nothing (body_at (label p) b).stmts
actions p b well there =
    each_map (May (label p) b) (λ i act. KnownAct (label p) b act) (λ l act h. h.0) in_nothing (body_at (label p) b).stmts (body_known p well b there)

pub leaves : (p : tree.Program) (b : ℕ) → WellFormed p → b < length (label p).bodies → LeavesInLoops (body_at (label p) b)
leaves p b well there =
    each_map (May (label p) b) MayStand (λ l act h. h.1) in_nothing (body_at (label p) b).stmts (body_known p well b there)

pub heads : (p : tree.Program) (b : ℕ) (answers : List ℤ) (head : Numbered) → WellFormed p → b < length (label p).bodies
    → head_of (reached (body_at (label p) b) answers) ≡ Some head → KnownAct (label p) b head.act
heads p b answers head well there first =
    let each = reached_each (May (label p) b) (more (label p) b) (body_at (label p) b) answers (tt, tt) (body_known p well b there) in
    let at = head_each (May (label p) b) (reached (body_at (label p) b) answers) head each first in
    at.1.0

pub begins : (p : tree.Program) (b : ℕ) → WellFormed p → b < length (label p).bodies → IsSome (head_of (reached (body_at (label p) b) []))
begins p b well there = starts (body_at (label p) b) (leaves p b well there)

pub follows : (p : tree.Program) (b : ℕ) (answers : List ℤ) (answer : ℤ) (head : Numbered) → WellFormed p → b < length (label p).bodies
    → head_of (reached (body_at (label p) b) answers) ≡ Some head → GoesOn head.act
    → IsSome (head_of (reached (body_at (label p) b) (answer ∷ answers)))
follows p b answers answer head well there first on =
    goes_on (body_at (label p) b) answers answer head (leaves p b well there) first on

pub empties : (p : tree.Program) (b : ℕ) (answers : List ℤ) → WellFormed p → b < length (label p).bodies
    → IsNone (head_of (reached (body_at (label p) b) answers)) → reached (body_at (label p) b) answers ≡ []
empties p b answers well there missing = ends (body_at (label p) b) answers (leaves p b well there) missing
