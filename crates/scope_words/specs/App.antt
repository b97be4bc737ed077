-- The command line as clap reads it.
use Rattle.std.specs.Prelude.{true, [], Some, codes}
use Rattle.clap.specs.Words.{App, Rule, Text, new_app, new_rule, with_rule, with_subcommand}
use Rattle.clap.specs.Simple.{new_shape}
use Rattle.clap.specs.declared.builder.ArgAction.TheVariants.{Set, SetTrue}

-- a word that has to stand there, one that may, and a flag
abbrev pub word_rule : Text → Rule
word_rule id = record (new_rule id) { required = true; action = Some Set }

abbrev pub more_rule : Text → Rule
more_rule id = record (new_rule id) { action = Some Set }

abbrev pub flag_rule : Text → Rule
flag_rule id = record (new_rule id) { long = Some id; action = Some SetTrue }

abbrev pub json_rule : Rule
json_rule = record (new_rule (codes "json")) { long = Some (codes "json"); action = Some SetTrue }

abbrev pub svg_rule : Rule
svg_rule = record (new_rule (codes "svg")) { long = Some (codes "svg"); action = Some SetTrue }

-- a subcommand: each has the flag for JSON
abbrev pub named_app : Text → App
named_app name = with_rule (new_app name) json_rule

-- the subcommands
abbrev pub one_file : Text → App
one_file name = with_rule (named_app name) (word_rule (codes "SCRIPT"))

abbrev pub why_app : App
why_app = with_rule (with_rule (with_rule (one_file (codes "why")) (word_rule (codes "SPACE"))) (word_rule (codes "ADDR")))
    (more_rule (codes "REGION"))

abbrev pub diff_app : App
diff_app = with_rule (with_rule (named_app (codes "diff")) (word_rule (codes "FIRST"))) (word_rule (codes "SECOND"))

abbrev pub draw_app : App
draw_app = with_rule (with_rule (with_rule (named_app (codes "draw")) svg_rule) (word_rule (codes "SCRIPT"))) (word_rule (codes "SPACE"))

abbrev pub explain_app : App
explain_app = with_rule (named_app (codes "explain")) (word_rule (codes "WHAT"))

abbrev pub spaces_rule : Rule
spaces_rule = record (new_rule (codes "space")) { long = Some (codes "space"); action = Some Set }

abbrev pub import_app : App
import_app = with_rule (with_rule (with_rule (named_app (codes "import")) spaces_rule) (word_rule (codes "TREE"))) (more_rule (codes "FLAT"))

abbrev pub check_app : App
check_app = with_rule (one_file (codes "check")) (word_rule (codes "FLAT"))

-- all of them
abbrev pub top_app : App
top_app = record {
  top = record (new_shape (codes "mscope")) { has_version = true; subcommand_required = true; disable_help_subcommand = true };
  subs = [];
}

abbrev pub map_app : App
map_app = with_subcommand (with_subcommand (with_subcommand (with_subcommand (with_subcommand (with_subcommand top_app
    why_app.top) (one_file (codes "lint")).top) diff_app.top) (one_file (codes "slots")).top) draw_app.top) explain_app.top

abbrev pub scope_app : App
scope_app = with_subcommand (with_subcommand map_app import_app.top) check_app.top
