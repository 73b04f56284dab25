-- What a command is to which one row of a table more was added, where that worked.
use Rattle.std.proofs.Common.{◌≡◌, ◌∙◌, ◌+◌, ◌<◌, ℕ, List, [], ◌∷◌, ap, refl, sym, map, length, get_or, drop, false}
use Rattle.std.specs.Prelude.{Result, Ok, Err, IfOk, IsOkAnd}
use Rattle.std.proofs.lemmas.List.{at_drop_more}
use Rattle.clap.specs.Built.{AddsArg, AddsSubcommand}
use Rattle.clap.specs.Simple.{App, Shape, app_of, new_app, with_rule, with_subcommand}
use Rattle.clap.specs.Walk.{rule_of}
use Rattle.clap.specs.declared.builder.arg.Arg.{Arg}
use Rattle.clap.specs.declared.builder.command.Command.{Command}
use Rattle.clap.proofs.SimpleLemmas.{plain_fields}
use Rattle.cilk_words.specs.CommandLine.{bare, command_line}
use Rattle.cilk_words.specs.Described.{app_in, rule_in, with_rules, with_subcommands}
use Rattle.cilk_words.specs.declared.table.Argument.{Argument}
use Rattle.cilk_words.specs.declared.table.Subcommand.{Subcommand}

-- a local argument is added by its rule
pub argument_more : (rows : List Argument) (i : ℕ) (d : Argument) (argument : Arg) (old new : Command) → i < length rows
    → AddsArg old argument new → rule_of argument ≡ rule_in (get_or rows i d) → argument.global ≡ false
    → with_rules (app_of new) (drop (i + 1) rows) ≡ with_rules (app_of old) (drop i rows)
unfolding with_rules
argument_more rows i d argument old new within adds rule_is local =
    ap (λ (app : App). with_rules app (drop (i + 1) rows)) (adds.shape local ∙ ap (with_rule (app_of old)) rule_is)
    ∙ sym (at_drop_more (with_rules (app_of old)) rows i d within)

stays_plain : (app : App) (rows : List Argument) → (with_rules app rows).top.is_plain ≡ app.top.is_plain
unfolding with_rules
stays_plain app [] = refl
stays_plain app (row ∷ rows) = stays_plain (with_rule app (rule_in row)) rows

-- a plain subcommand is added as it is
pub subcommand_more : {E : Type 0} (rows : List Subcommand) (i : ℕ) (d : Subcommand) (sub : Result Command E) (old new : Command) → i < length rows
    → IfOk sub (λ s. app_of s ≡ app_in (get_or rows i d)) → IsOkAnd sub (λ s. AddsSubcommand old s new)
    → with_subcommands (app_of new) (drop (i + 1) rows) ≡ with_subcommands (app_of old) (drop i rows)
unfolding with_subcommands
subcommand_more rows i d (Ok sub) old new within sub_is adds =
    let plain = ap (λ (x : App). x.top.is_plain) sub_is ∙ stays_plain (new_app (get_or rows i d).name.now) (get_or rows i d).arguments.now in
    ap (λ (app : App). with_subcommands app (drop (i + 1) rows))
    (adds.shape (plain_fields _ plain).globals ∙ ap (λ (x : App). with_subcommand (app_of old) x.top) sub_is)
    ∙ sym (at_drop_more (with_subcommands (app_of old)) rows i d within)
subcommand_more rows i d (Err e) old new within sub_is adds = absurd adds

-- the same by what each row tells, which is computed where the rows are known
unfoldable pub in_turn : App → List Shape → App
in_turn app [] = app
in_turn app (top ∷ more) = in_turn (with_subcommand app top) more

abbrev pub tops_of : List Subcommand → List Shape
tops_of rows = map (λ row. (app_in row).top) rows

each_in_turn : (app : App) (rows : List Subcommand) → with_subcommands app rows ≡ in_turn app (tops_of rows)
unfolding with_subcommands in_turn
each_in_turn app [] = refl
each_in_turn app (row ∷ rows) = each_in_turn (with_subcommand app (app_in row).top) rows

-- the rows of the whole table are the command line
pub is_whole : {E : Type 0} (first : App) (rows : List Subcommand) (result : Result Command E)
    → IfOk result (λ whole. app_of whole ≡ with_subcommands first rows) → first ≡ bare → in_turn bare (tops_of rows) ≡ command_line
    → IfOk result (λ whole. app_of whole ≡ command_line)
is_whole first rows (Ok whole) built first_is rows_are =
    built ∙ ap (λ (app : App). with_subcommands app rows) first_is ∙ each_in_turn bare rows ∙ rows_are
is_whole first rows (Err e) built first_is rows_are = tt
