-- The text of a text literal writes it: each escape says the byte that it is written for.
use Rattle.std.proofs.Common.{◌≡◌, ℕ, Bool, true, false, List, [], ◌∷◌, ◌++◌, refl, arith}
use Rattle.std.specs.Prelude.{◌==◌}
use Rattle.std.specs.List.{list_all}
use Rattle.std.proofs.lemmas.Bool.{eqb-true, and_parts}
use Rattle.std.proofs.lemmas.Bool.Decides.{nat_tests}
use Rattle.cilk_check.specs.lexeme.Byte.{is_plain}
use Rattle.cilk_check.specs.lexeme.Good.{is_sayable}
use Rattle.cilk_check.specs.lexeme.Lexeme.{literal}
use Rattle.cilk_check.specs.lexeme.Spelling.{Says, says_nothing, says_byte, says_escape}
use Rattle.cilk_check.specs.syntax.Tree.{Literal}
use Rattle.cilk_tree.specs.syntax.MoveText.{escape, escapes, literal_text}
use Rattle.cilk_laws.proofs.Writes.{WritesAlone, text_writes}

plain_is : (b : ℕ) → is_sayable b ≡ true → (b == 10) ≡ false → (b == 9) ≡ false → (b == 92) ≡ false → (b == 34) ≡ false → is_plain b ≡ true
plain_is b h n t s q = grind (arith, nat_tests)

byte_says : (b : ℕ) {w s : List ℕ} → is_sayable b ≡ true → Says w s → Says (escape b ++ w) (b ∷ s)
byte_says b {w} {s} h r = at (b == 10) refl (b == 9) refl (b == 92) refl (b == 34) refl
  where
    at : (c : Bool) → (b == 10) ≡ c → (d : Bool) → (b == 9) ≡ d → (f : Bool) → (b == 92) ≡ f → (g : Bool) → (b == 34) ≡ g → Says (escape b ++ w) (b ∷ s)
    at true n d t f k g q = rw (eqb-true b 10 n) (says_escape 110 refl r)
    at false n true t f k g q = rw (eqb-true b 9 t) (says_escape 116 refl r)
    at false n false t true k g q = rw (eqb-true b 92 k) (says_escape 92 refl r)
    at false n false t false k true q = rw (eqb-true b 34 q) (says_escape 34 refl r)
    at false n false t false k false q = rw (n, t, k, q) (says_byte b (plain_is b h n t k q) r)

says_escapes : (bs : List ℕ) → list_all is_sayable bs ≡ true → Says (escapes bs) bs
says_escapes [] h = says_nothing
says_escapes (b ∷ bs) h = let p = and_parts (is_sayable b) (list_all is_sayable bs) h in byte_says b p.0 (says_escapes bs p.1)

pub literal_writes : (l : Literal) → list_all is_sayable l.bytes ≡ true → WritesAlone (literal_text l) (literal l.bytes ∷ [])
literal_writes l h = text_writes (says_escapes l.bytes h)
