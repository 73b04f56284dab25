use Rattle.std.proofs.Common.{◌≡◌, ◌∙◌, ◌||◌, true, false, sym, ap}
use Rattle.std.proofs.lemmas.List.Folds.{list_any-append}
use Rattle.std.specs.Str.{bytes_eq}
use Rattle.cilk_check_scopes.specs.Reserved.{c_keywords, library_names}
use Rattle.cilk_check.specs.NameFinds.{is_one_of}
use Rattle.cilk_check.proofs.reserved.is_reserved.Goals as goal

pub returns-then-is_one_of : goal.returns-then-is_one_of
returns-then-is_one_of c =
    let name = c.args.name.now in
    let is_keyword : is_one_of c_keywords name ≡ true = sym c.is_one_of.ensures ∙ c.if-is_one_of.true in
    c.if-is_one_of.true
    ∙ sym (list_any-append (λ word. bytes_eq word name) c_keywords library_names ∙ ap (λ b. b || is_one_of library_names name) is_keyword)

pub returns-else-is_one_of : goal.returns-else-is_one_of
returns-else-is_one_of c =
    let name = c.args.name.now in
    let is_keyword : is_one_of c_keywords name ≡ false = sym c.is_one_of.ensures ∙ c.if-is_one_of.false in
    c.is_one_of-else-is_one_of.ensures
    ∙ sym (list_any-append (λ word. bytes_eq word name) c_keywords library_names ∙ ap (λ b. b || is_one_of library_names name) is_keyword)
