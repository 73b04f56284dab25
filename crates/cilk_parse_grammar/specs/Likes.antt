-- When what two parts mean is the same, places aside.
use Rattle.std.specs.Prelude.{◌≡◌, map}
use Rattle.cilk_parse_grammar.specs.Parts.{Leaf, the_word, the_name, the_number, the_literal, the_header, Nest, a_statement, no_block, an_inlet, Part}
use Rattle.cilk_parse_grammar.specs.Parts.{token, an_expr, a_value, nest, Value, computed, called, LeafMeans, NestMeans, Means}
use Rattle.cilk_tree_syntax.specs.Bare.{bare_word, bare_literal, bare_expr, bare_stmt, bare_local}

abbrev pub bare_written : Value → Value
bare_written (computed value) = computed (bare_expr value)
bare_written (called callee arguments) = called (bare_word callee) (map bare_expr arguments)

abbrev pub leaf_likes : (t : Leaf) → LeafMeans t → LeafMeans t → Type 0
leaf_likes (the_word w) x y = Unit {0}
leaf_likes (the_name cs) x y = bare_word x ≡ bare_word y
leaf_likes the_number x y = x ≡ y
leaf_likes the_literal x y = bare_literal x ≡ bare_literal y
leaf_likes the_header x y = x ≡ y

abbrev pub nest_likes : (p : Nest) → NestMeans p → NestMeans p → Type 0
nest_likes a_statement x y = bare_stmt x ≡ bare_stmt y
nest_likes no_block x y = bare_stmt x ≡ bare_stmt y
nest_likes an_inlet x y = bare_local x ≡ bare_local y

abbrev pub likes : (p : Part) → Means p → Means p → Type 0
likes (token t) x y = leaf_likes t x y
likes an_expr x y = bare_expr x ≡ bare_expr y
likes a_value x y = bare_written x ≡ bare_written y
likes (nest p) x y = nest_likes p x y
