-- What a node stands for: the list of items that it is the head of.
use Rattle.std.specs.Prelude.{◌≡◌, ℕ, ◌<◌, ◌≤◌, ℤ, List, [], ◌∷◌, length, Some, None}
use Rattle.cilk_model.specs.syntax.Tree.{Program}
use Rattle.cilk_model.specs.scopes.WellFormed.{WellFormed}
use Rattle.cilk_model.specs.labelled.Bodies.{label}
use Rattle.cilk_model.specs.labelled.Count.{count_program}
use Rattle.cilk_model.specs.labelled.Items.{Items, reached}
use Rattle.cilk_model.specs.Instance.{body_at}
use Rattle.cilk_load_nodes.specs.declared.body.Body.{Body}
use Rattle.cilk_load_nodes.specs.declared.node.Node.{Node}
use Rattle.cilk_load_nodes.specs.Table.{number_of, node_at, node_of, successor}
use Rattle.cilk_load_nodes.specs.Bodies.{body_table, body_of}

-- body b of the program is reached with these items after tests with these values, and action n is in front of them
pub record Reached (p : Program) (b : ℕ) (answers : List ℤ) (n : ℕ) : Type 0 where
  pub is_there : b < length (label p).bodies
  pub number : number_of (reached (body_at (label p) b) answers) ≡ Some n

abbrev pub items_at : Program → ℕ → List ℤ → Items
items_at p b answers = reached (body_at (label p) b) answers

-- lists with one head are one list, of one body
abbrev pub HeadsTellLists : Type 0
HeadsTellLists = (p : Program) (b c : ℕ) (answers others : List ℤ) (n : ℕ) → WellFormed p
    → Reached p b answers n → Reached p c others n → (b ≡ c) × (items_at p b answers ≡ items_at p c others)

-- a list without a head is empty
abbrev pub NoHeadTellsEnd : Type 0
NoHeadTellsEnd = (p : Program) (b : ℕ) (answers : List ℤ) → WellFormed p → b < length (label p).bodies
    → number_of (items_at p b answers) ≡ None → items_at p b answers ≡ []

-- the numbers of the actions go from 1 on
abbrev pub NumbersAreWithin : Type 0
NumbersAreWithin = (p : Program) (b : ℕ) (answers : List ℤ) (n : ℕ) → WellFormed p
    → Reached p b answers n → (1 ≤ n) × (n ≤ count_program p)

-- the node at the number of a list is that of its head
abbrev pub NodesStandForLists : Type 0
NodesStandForLists = (p : Program) (b : ℕ) (answers : List ℤ) (n : ℕ) → WellFormed p
    → Reached p b answers n → node_of p n ≡ node_at (label p) b (items_at p b answers)

-- its successors are the heads of the lists that come next, for each value of a test
abbrev pub SuccessorsStandForNext : Type 0
SuccessorsStandForNext = (p : Program) (b : ℕ) (answers : List ℤ) (n : ℕ) (node : Node) → WellFormed p
    → Reached p b answers n → node_of p n ≡ Some node
    → (z : ℤ) → successor node z ≡ number_of (items_at p b (z ∷ answers))

-- a body begins with the first of its lists
abbrev pub EntriesStandForStarts : Type 0
EntriesStandForStarts = (p : Program) (b : ℕ) (body : Body) → WellFormed p
    → body_of p b ≡ Some body → Reached p b [] body.entry

-- each body of the labelled program has its table, and each table its body
abbrev pub BodiesHaveTables : Type 0
BodiesHaveTables = (p : Program) (b : ℕ) → b < length (label p).bodies → body_of p b ≡ Some (body_table (body_at (label p) b))

abbrev pub TablesHaveBodies : Type 0
TablesHaveBodies = (p : Program) (b : ℕ) (body : Body) → body_of p b ≡ Some body
    → (b < length (label p).bodies) × (body ≡ body_table (body_at (label p) b))
