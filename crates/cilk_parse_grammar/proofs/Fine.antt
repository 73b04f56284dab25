-- One token tells how to go on by each rule.
use Rattle.std.proofs.Common.{◌≡◌, [], true, false, refl}
use Rattle.cilk_parse_grammar.specs.Rule as rule
use Rattle.cilk_parse_grammar.specs.Parts.{Nest, a_statement, no_block, an_inlet}
use Rattle.cilk_parse_grammar.specs.Grammar.{rule_of, program}
use Rattle.cilk_parse_grammar.specs.Spelling.{first_of, more_of, begins, call}

pub rules_fine : (p : Nest) → rule.fine first_of more_of (rule_of p) ≡ true
rules_fine a_statement = refl
rules_fine no_block = refl
rules_fine an_inlet = refl

pub program_fine : rule.fine first_of more_of program ≡ true
program_fine = refl

pub call_fine : rule.fine first_of more_of call ≡ true
call_fine = refl

pub rules_begin : (p : Nest) → rule.first first_of (rule_of p) ≡ begins p
rules_begin a_statement = refl
rules_begin no_block = refl
rules_begin an_inlet = refl

pub rules_take : (p : Nest) → rule.nullable (rule_of p) ≡ false
rules_take a_statement = refl
rules_take no_block = refl
rules_take an_inlet = refl

pub rules_end : (p : Nest) → rule.more first_of more_of (rule_of p) ≡ []
rules_end a_statement = refl
rules_end no_block = refl
rules_end an_inlet = refl
