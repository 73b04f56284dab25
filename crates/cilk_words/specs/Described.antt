-- What the rows of a table of subcommands and their arguments tell `clap`.
use Rattle.std.specs.Prelude.{List, [], ◌∷◌, Some, None}
use Rattle.clap.specs.Words.{App, Rule, Text, new_app, new_rule, with_rule, with_subcommand}
use Rattle.clap.specs.declared.builder.action.ArgAction.TheVariants.{Set, SetTrue}
use Rattle.cilk_words.specs.CommandLine.{number_rule, option_rule}
use Rattle.cilk_words.specs.declared.table.Argument.{Argument}
use Rattle.cilk_words.specs.declared.table.Form.{Form}
use Rattle.cilk_words.specs.declared.table.Form.TheVariants as form
use Rattle.cilk_words.specs.declared.table.Subcommand.{Subcommand}

-- the rule of an argument of this name, by how it is given
abbrev pub rule_by : Text → Form → Rule
rule_by id (form.Place required) = record (new_rule id) { required = required; action = Some Set }
rule_by id form.Flag = record (new_rule id) { long = Some id; action = Some SetTrue }
rule_by id (form.Text value) = record (new_rule id) { long = Some id; value_names = 1; action = Some Set }
rule_by id (form.Number value parser None) = option_rule id parser
rule_by id (form.Number value parser (Some default)) = number_rule id parser default.now

abbrev pub rule_in : Argument → Rule
rule_in a = rule_by a.id.now a.form

-- a command with arguments more, one behind the other
unfoldable pub with_rules : App → List Argument → App
with_rules app [] = app
with_rules app (a ∷ more) = with_rules (with_rule app (rule_in a)) more

-- the command of a row
abbrev pub app_in : Subcommand → App
app_in s = with_rules (new_app s.name.now) s.arguments.now

-- a command with subcommands more, one behind the other
unfoldable pub with_subcommands : App → List Subcommand → App
with_subcommands app [] = app
with_subcommands app (s ∷ more) = with_subcommands (with_subcommand app (app_in s).top) more
