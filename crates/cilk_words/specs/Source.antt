-- What a name stands for.
use Rattle.std.specs.Prelude.{◌≡◌, ◌≢◌, ℕ, List, codes}
use Rattle.cilk_words.specs.declared.source.Source.{Source}
use Rattle.cilk_words.specs.declared.source.Source.TheVariants as source

-- `-` stands for the standard input, and any other name for the file at that path
abbrev pub IsSource : List ℕ → Source → Type 0
IsSource name source.Standard = name ≡ codes "-"
IsSource name (source.Path path) = (path.now ≡ name) × (name ≢ codes "-")
