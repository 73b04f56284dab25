-- Worked programs: what comes behind each action, and where variables lie.
use Rattle.std.specs.Prelude.{ℕ, ℤ, List, [], ◌∷◌, map, option_map, Option, Some, None, codes}
use Rattle.cilk_model.specs.scopes.lexeme.declared.header.Header.TheVariants.{Cilk}
use Rattle.cilk_model.specs.syntax.declared.adjustment.Adjustment.TheVariants.{Increment}
use Rattle.cilk_model.specs.syntax.declared.operator.BinOp.TheVariants.{Less, Subtract}
use Rattle.cilk_model.specs.syntax.Tree as tree
use Rattle.cilk_model.specs.syntax.Tree.{Expr, number, named, element, binary, Place, declared, Program}
use Rattle.cilk_model.specs.labelled.Rows.{word, whole, procedure, into}
use Rattle.cilk_load_nodes.specs.declared.node.Node.{Node}
use Rattle.cilk_load_nodes.specs.Table.{node_of, successor}

abbrev variable : List ℕ → Expr
variable text = named (word text)

abbrev place : List ℕ → Place
place text = record { name = word text; index = None }

-- cilk int main(void) { int a[3]; int i; for (i = 0; i < 9; i++) { if (a[i]) { continue; } break; } do { i -= 1; } while (i); return i; }
abbrev pub loops_program : Program
loops_program = record {
  headers = Cilk ∷ [];
  items =
      procedure (codes "main") []
      (whole (declared (record { name = word (codes "a"); shape = tree.array 3 })
      ∷ declared (record { name = word (codes "i"); shape = tree.variable None }) ∷ [])
      (tree.loop (Some (tree.assign (into (codes "i")) (number 0))) (binary Less (variable (codes "i")) (number 9))
      (Some (tree.adjust (place (codes "i")) Increment))
      (whole [] (tree.when (element (word (codes "a")) (variable (codes "i"))) (whole [] (tree.continue_at 0 ∷ [])) ∷ tree.break_at 0 ∷ []))
      ∷ tree.repeat (whole [] (tree.move (tree.assign (record { place = place (codes "i"); op = Some Subtract }) (number 1)) ∷ [])) (variable (codes "i"))
      ∷ tree.return_at 0 (Some (variable (codes "i"))) ∷ []))
      ∷ [];
  length = 0;
}

-- what comes behind these actions, and the bodies in which they stand
abbrev pub nexts : Program → List ℕ → List (Option (Option ℕ))
nexts p ns = map (λ n. option_map (λ (node : Node). node.next) (node_of p n)) ns

abbrev pub others : Program → List ℕ → List (Option (Option ℕ))
others p ns = map (λ n. option_map (λ (node : Node). node.other) (node_of p n)) ns

-- what comes behind a test by these values
abbrev pub leads : Program → ℕ → List ℤ → List (Option (Option ℕ))
leads p n zs = map (λ z. option_map (λ (node : Node). successor node z) (node_of p n)) zs

abbrev pub bodies : Program → List ℕ → List (Option ℕ)
bodies p ns = map (λ n. option_map (λ (node : Node). node.body) (node_of p n)) ns
