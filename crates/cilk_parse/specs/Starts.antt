-- With what statements begin.
use Rattle.std.specs.Prelude.{ℕ, List, [], ◌∷◌}
use Rattle.cilk_parse_grammar.specs.lexeme.declared.keyword.Keyword.TheVariants as key
use Rattle.cilk_parse_grammar.specs.lexeme.declared.mark.Mark.TheVariants as sign
use Rattle.cilk_parse_grammar.specs.Classes.{a_word, a_mark}

-- the classes with which one begins that is no block, but for those of names
abbrev pub other_starts : List ℕ
other_starts =
    a_mark sign.Increment ∷ a_mark sign.Decrement ∷ a_word key.Spawn ∷ a_mark sign.Semicolon ∷ a_word key.Sync ∷ a_word key.Abort ∷ a_word key.Break
    ∷ a_word key.Continue ∷ a_word key.Return ∷ a_word key.If ∷ a_word key.While ∷ a_word key.Do ∷ a_word key.For ∷ a_word key.Switch
    ∷ []
