-- Other tokens that are the same lexemes spell what is the same but for places.
use Rattle.std.proofs.Common.{◌≡◌, ℕ, zero, suc, List, [], ◌∷◌, map, Option, Some, None, refl, sym, ap, ◌∙◌, inl, inr}
use Rattle.cilk_tree_syntax.specs.lexeme.Lexeme.{Lexeme, Piece, name, number, literal, inclusion}
use Rattle.cilk_tree_syntax.specs.Tree as tree
use Rattle.cilk_parse_grammar.specs.Rule.{has}
use Rattle.cilk_parse_grammar.proofs.Moved as moved
use Rattle.cilk_parse_grammar.specs.Classes.{class_of, lexeme_of}
use Rattle.cilk_parse_grammar.proofs.MovedExpr.{expr_moved}
use Rattle.cilk_parse_grammar.specs.Parts.{Leaf, the_word, the_name, the_number, the_literal, the_header, Nest, a_statement, no_block, an_inlet, Part}
use Rattle.cilk_parse_grammar.specs.Parts.{token, an_expr, a_value, nest, Value, computed, called, LeafMeans, NestMeans, Means}
use Rattle.cilk_parse_grammar.specs.Grammar.{rule_of, program}
use Rattle.cilk_parse_grammar.specs.Likes.{likes, leaf_likes, nest_likes, bare_written}
use Rattle.cilk_parse_grammar.specs.Spelling.{first_of, leaf_classes, said, IsOne, leaf_says, call, SpellsValue, says_by, SpellsNest, SpellsProgram}
use Rattle.cilk_parse_grammar.proofs.Kept.{Kept, k_done, k_then, k_name}
use Rattle.cilk_parse_grammar.proofs.Keeps.{arguments_kept}
use Rattle.cilk_parse_grammar.proofs.KeepsStmts.{statement_kept, no_block_kept, inlet_kept}
use Rattle.cilk_parse_grammar.proofs.KeepsItems.{SameParts, program_kept}
use Rattle.cilk_parse_grammar.proofs.Steady.{rules_steady, call_steady, program_steady}
use Rattle.cilk_parse_grammar.proofs.Nests.{Inner, says}

abbrev pub Like : List Piece → List Piece → Type 0
Like us ts = moved.Like lexeme_of class_of us ts

abbrev pub Moved : {A : Type 0} → (List Piece → A → Type 0) → (A → A → Type 0) → List Piece → A → Type 0
Moved R like us x = moved.Moved lexeme_of class_of R like us x

-- ---- one token

said_moved : (t : Leaf) (x : Lexeme) (a b : ℕ) (y : LeafMeans t) → said t x a ≡ Some y → ((z : LeafMeans t) × (said t x b ≡ Some z) × leaf_likes t z y)
said_moved (the_word w) x a b y e = (b, refl, tt)
said_moved (the_name cs) (name text) a b y e = (record { text = text; place = b }, refl, cc)
said_moved the_number (number n) a b y e = (n, refl, cc)
said_moved the_literal (literal bytes) a b y e = (record { bytes = bytes; place = b }, refl, cc)
said_moved the_header (inclusion h) a b y e = (h, refl, cc)
said_moved t x a b y e = absurd cc

leaf_moved : (t : Leaf) (ts us : List Piece) (x : LeafMeans t) → Like us ts → IsOne t ts x → Moved (λ vs y. IsOne t vs y) (leaf_likes t) us x
leaf_moved t ts us x e s =
    let f = moved.first lexeme_of class_of s.piece [] us (e ∙ ap (map lexeme_of) s.whole) in
    let m = said_moved t s.piece.lexeme s.piece.start f.token.start x s.meaning in
    record {
      value = m.0;
      spelled = record {
        piece = f.token;
        is = ap (λ l. has (leaf_classes t) (Some (class_of l))) f.same ∙ s.is;
        whole = f.whole ∙ ap (λ (l : List Piece). f.token ∷ l) (moved.nothing lexeme_of class_of f.rest f.same_rest);
        meaning = ap (λ l. said t l f.token.start) f.same ∙ m.1;
      };
      same = m.2;
    }

-- ---- what an assignment writes

call_kept : Kept call (λ x y. bare_written x ≡ bare_written y)
call_kept = k_then k_name (λ f g h. k_then arguments_kept (λ es fs r. k_done (λ i. called (h i) (r i))))

module _ (l d : ℕ) where
  leaf_parts_moved : (p : Part) (k : Option ℕ) (ts us : List Piece) (x : Means p) → Like us ts → leaf_says l d p k ts x
      → Moved (λ vs y. leaf_says l d p k vs y) (likes p) us x
  leaf_parts_moved (token t) k ts us x e s = let m = leaf_moved t ts us x e s in record { value = m.value; spelled = m.spelled; same = m.same }
  leaf_parts_moved an_expr k ts us x e s = let m = expr_moved l d ts us x e s in record { value = m.value; spelled = m.spelled; same = m.same }
  leaf_parts_moved a_value k ts us x e s = elim s [ ]
  leaf_parts_moved (nest p) k ts us x e s = elim s [ ]

  value_moved : (k : Option ℕ) (ts us : List Piece) (x : Value) → Like us ts → SpellsValue l d k ts x
      → Moved (λ vs y. SpellsValue l d k vs y) (λ y z. bare_written y ≡ bare_written z) us x
  value_moved k ts us x e (inl s) =
      let m = expr_moved l d ts us s.expr e s.spelled in
      record {
        value = computed m.value;
        spelled = inl (record { expr = m.value; spelled = m.spelled; meaning = refl });
        same = ap computed m.same
            ∙ ap bare_written (sym s.meaning);
      }
  value_moved k ts us x e (inr s) =
      let m = moved.moved lexeme_of class_of first_of likes (leaf_says l d) leaf_parts_moved call k ts us x call_steady e s in
      record { value = m.value; spelled = inr m.spelled; same = moved.keeps likes call (λ y z. bare_written y ≡ bare_written z) m.value x call_kept.it m.same }

  -- ---- all parts, where those that nest are given

  parts_moved : (inner : Inner)
      →
      ((p : Nest) (k : Option ℕ) (ts us : List Piece) (x : NestMeans p) → Like us ts → inner p k ts x
      → Moved (λ vs y. inner p k vs y) (nest_likes p) us x)
      → (p : Part) (k : Option ℕ) (ts us : List Piece) (x : Means p) → Like us ts → says_by l d inner p k ts x
      → Moved (λ vs y. says_by l d inner p k vs y) (likes p) us x
  parts_moved inner h (token t) k ts us x e s = let m = leaf_moved t ts us x e s in record { value = m.value; spelled = m.spelled; same = m.same }
  parts_moved inner h an_expr k ts us x e s = let m = expr_moved l d ts us x e s in record { value = m.value; spelled = m.spelled; same = m.same }
  parts_moved inner h a_value k ts us x e s = let m = value_moved k ts us x e s in record { value = m.value; spelled = m.spelled; same = m.same }
  parts_moved inner h (nest p) k ts us x e s = let m = h p k ts us x e s in record { value = m.value; spelled = m.spelled; same = m.same }

  rules_kept : (p : Nest) → Kept (rule_of p) (nest_likes p)
  rules_kept a_statement = record { it = statement_kept.it }
  rules_kept no_block = record { it = no_block_kept.it }
  rules_kept an_inlet = record { it = inlet_kept.it }

  pub nest_moved : (n : ℕ) (p : Nest) (k : Option ℕ) (ts us : List Piece) (x : NestMeans p) → Like us ts → SpellsNest l d n p k ts x
      → Moved (λ vs y. SpellsNest l d n p k vs y) (nest_likes p) us x
  unfolding SpellsNest
  nest_moved zero p k ts us x e s = elim s [ ]
  nest_moved (suc n) p k ts us x e s =
      let m = moved.moved lexeme_of class_of first_of likes (says l d n) (parts_moved _ (nest_moved n)) (rule_of p) k ts us x (rules_steady p) e s in
      record { value = m.value; spelled = m.spelled; same = moved.keeps likes (rule_of p) (nest_likes p) m.value x (rules_kept p).it m.same }

-- ---- programs

-- the tokens spell a program with these headers, and with these items but for places
pub record MovedProgram (l d n : ℕ) (us : List Piece) (p : tree.Program) : Type 0 where
  pub value : tree.Program
  pub spelled : SpellsProgram l d n us value
  pub same : SameParts (value.headers, value.items) (p.headers, p.items)
  pub length : value.length ≡ p.length

pub program_moved : (l d n : ℕ) (ts us : List Piece) (p : tree.Program) → Like us ts → SpellsProgram l d n ts p → MovedProgram l d n us p
unfolding SpellsProgram
program_moved l d n ts us p e s =
    let m = moved.moved lexeme_of class_of first_of likes (says l d n) (parts_moved l d _ (nest_moved l d n)) program None ts us
    (p.headers, p.items) program_steady e s in
    record {
      value = record { headers = m.value.0; items = m.value.1; length = p.length };
      spelled = m.spelled;
      same = moved.keeps likes program SameParts m.value (p.headers, p.items) program_kept.it m.same;
      length = refl;
    }
