-- The tests by which rules go on give the same on what is the same but for places.
use Rattle.std.proofs.Common.{◌≡◌, ◌&&◌, Bool, true, false, refl}
use Rattle.std.proofs.lemmas.Bool.{and_parts}
use Rattle.cilk_parse_grammar.specs.Rule.{Rule, done, skip, part, and_then, either, many, nearest, by_value}
use Rattle.cilk_parse_grammar.specs.Alike as alike
use Rattle.cilk_parse_grammar.specs.Parts.{Means, Nest, a_statement, no_block, an_inlet}
use Rattle.cilk_parse_grammar.specs.Grammar as grammar
use Rattle.cilk_parse_grammar.specs.Grammar.{rule_of, program}
use Rattle.cilk_parse_grammar.specs.Likes.{likes}
use Rattle.cilk_parse_grammar.specs.Spelling.{call}
use Rattle.cilk_parse_grammar.proofs.KeepsItems.{named_steady}

abbrev pub Steady : {A : Type 0} → Rule Means A → Type 0
Steady r = alike.Steady likes r

-- a rule with no test
abbrev plain : {A : Type 0} → Rule Means A → Bool
plain (done a) = true
plain (skip c p) = plain p
plain (part p) = true
plain (and_then p q) = plain p && plain q
plain (either p q) = plain p && plain q
plain (many p) = plain p
plain (nearest p a) = plain p
plain (by_value v p q r) = false

steady_plain : {A : Type 0} (r : Rule Means A) → plain r ≡ true → Steady r
steady_plain (done a) e = tt
steady_plain (skip c p) e = steady_plain p e
steady_plain (part p) e = tt
steady_plain (and_then p q) e = let b = and_parts (plain p) (plain q) e in (steady_plain p b.0, steady_plain q b.1)
steady_plain (either p q) e = let b = and_parts (plain p) (plain q) e in (steady_plain p b.0, steady_plain q b.1)
steady_plain (many p) e = steady_plain p e
steady_plain (nearest p a) e = steady_plain p e
steady_plain (by_value v p q r) e = absurd cc

pub rules_steady : (p : Nest) → Steady (rule_of p)
rules_steady a_statement = steady_plain grammar.statement_rule refl
rules_steady no_block = steady_plain grammar.no_block_rule refl
rules_steady an_inlet = steady_plain grammar.inlet_rule refl

pub call_steady : Steady call
call_steady = steady_plain call refl

int_tail_steady : Steady grammar.int_tail
int_tail_steady = (steady_plain grammar.parameter_list refl, steady_plain grammar.ints_named refl, steady_plain grammar.ints_declared refl, named_steady.it)

main_others_steady : Steady grammar.main_others
main_others_steady =
    (steady_plain grammar.parameter_list refl, steady_plain grammar.main_defined refl, steady_plain grammar.main_declared refl, named_steady.it)

tail_by_steady : (r : Rule Means grammar.Tail) → Steady r → Steady (grammar.tail_by r)
tail_by_steady r s = (steady_plain grammar.empty_tail refl, (steady_plain grammar.empty_tail refl, s))

tail_steady : Steady grammar.tail
tail_steady = tail_by_steady grammar.int_tail int_tail_steady

main_named_steady : Steady grammar.main_named
main_named_steady = (steady_plain grammar.main_alone refl, (steady_plain grammar.command_line_tail refl, main_others_steady))

main_ints_steady : Steady grammar.main_ints
main_ints_steady = ((tt, main_named_steady), steady_plain grammar.main_nameless refl)

main_tail_steady : Steady grammar.main_tail
main_tail_steady = tail_by_steady grammar.main_ints main_ints_steady

item_steady : Steady grammar.item
item_steady = (
  ((tt, (tail_steady, tt)), ((tt, (main_tail_steady, tt)), (tt, (tail_steady, tt)))),
  ((tt, ((tail_steady, tt), steady_plain grammar.globals refl)), ((tt, (tail_steady, tt)), steady_plain grammar.lock_item refl)),
)

pub program_steady : Steady program
program_steady = (tt, (item_steady, tt))
