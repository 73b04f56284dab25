-- With which tokens rules begin.
use Rattle.std.proofs.Common.{◌≡◌, ℕ, ◌||◌, Bool, true, false, [], ◌∷◌, Option, refl, sym, ap, ◌∙◌}
use Rattle.std.proofs.Math.Bool.{or-true, or-false}
use Rattle.cilk_parse_grammar.specs.lexeme.declared.mark.Mark.TheVariants.{Increment, Decrement}
use Rattle.cilk_parse_grammar.specs.Rule as rule
use Rattle.cilk_parse_grammar.specs.Rule.{has, is}
use Rattle.cilk_parse_grammar.proofs.Tokens.{has_append}
use Rattle.cilk_parse_grammar.specs.Classes.{a_mark, names, the_main, the_char, the_printf, the_lock_init, the_lock, the_unlock, other_name}
use Rattle.cilk_parse_grammar.specs.Grammar.{move}
use Rattle.cilk_parse_grammar.specs.Spelling.{first_of, begins}
use Rattle.cilk_parse_grammar.specs.Parts.{no_block}
use Rattle.cilk_parse.specs.Starts.{other_starts}

pub begins_move : (k : Option ℕ) → has (rule.first first_of move) k ≡ (has names k || (is (a_mark Increment) k || is (a_mark Decrement) k))
begins_move k = has_append names (a_mark Increment ∷ a_mark Decrement ∷ []) k

-- two in front of four, and four in front of two
swapped : (a b p l m u r : Bool) → (a || (b || (p || (l || (m || (u || r)))))) ≡ ((p || (l || (m || u))) || (a || (b || r)))
swapped true b p l m u r = sym (or-true (p || (l || (m || u))))
swapped false true p l m u r = sym (or-true (p || (l || (m || u))))
swapped false false true l m u r = refl
swapped false false false true m u r = refl
swapped false false false false true u r = refl
swapped false false false false false true r = refl
swapped false false false false false false r = refl

-- where the last of seven stands third
names_first : (a b c i d p l m u r : Bool)
    → (a || (b || (c || (i || (d || (p || (l || (m || (u || r))))))))) ≡ ((a || (b || (p || (l || (m || (u || c)))))) || (i || (d || r)))
names_first true b c i d p l m u r = refl
names_first false true c i d p l m u r = refl
names_first false false true i d p l m u r = by p l m u
  where
    by : (p l m u : Bool) → true ≡ ((p || (l || (m || (u || true)))) || (i || (d || r)))
    by true l m u = refl
    by false true m u = refl
    by false false true u = refl
    by false false false true = refl
    by false false false false = refl
names_first false false false i d p l m u r = swapped i d p l m u r ∙ ap (λ v. (p || (l || (m || v))) || (i || (d || r))) (sym (or-false u))

pub begins_unbraced : (k : Option ℕ) → has (begins no_block) k ≡ (has names k || has other_starts k)
begins_unbraced k =
    names_first (is the_main k) (is the_char k) (is other_name k) (is (a_mark Increment) k) (is (a_mark Decrement) k) (is the_printf k)
    (is the_lock_init k) (is the_lock k) (is the_unlock k) _
