-- The command line as clap reads it, and the task that its matches give.
use Rattle.std.specs.Prelude.{ℕ, List, [], true, None, Some, codes, option_map, option_and_then, if◌then◌else◌}
use Rattle.std.specs.Str.{bytes_eq}
use Rattle.std.specs.declared.option.Option.{Option}
use Rattle.clap.specs.Words.{App, Row, Rule, Shape, Text, first_of, new_rule, with_rule, with_subcommand}
use Rattle.clap.specs.Simple.{new_shape}
use Rattle.clap.specs.declared.builder.ArgAction.TheVariants.{Set}
use Rattle.mem_base.specs.script.Words.{seed_of}
use Rattle.mem_base.specs.declared.script.tasks.Task.{Task}
use Rattle.mem_base.specs.declared.script.tasks.Task.TheVariants.{Run, Race, Make, Demo}

abbrev pub plain_shape : Text → Shape
plain_shape name = record (new_shape name) {
  disable_help_flag = true;
  disable_help_subcommand = true;
  disable_version_flag = true;
}

abbrev pub plain_app : Text → App
plain_app name = record { top = plain_shape name; subs = [] }

abbrev pub seed_rule : Rule
seed_rule = record (new_rule (codes "SEED")) { required = true; action = Some Set }

abbrev pub seeded_app : Text → App
seeded_app name = with_rule (plain_app name) seed_rule

abbrev pub top_app : App
top_app = record {
  top = record (plain_shape (codes "mtree")) { no_binary_name = true; subcommand_required = true };
  subs = [];
}

abbrev pub mtree_app : App
mtree_app = with_subcommand (with_subcommand (with_subcommand (with_subcommand top_app
    (plain_app (codes "run")).top) (plain_app (codes "race")).top)
    (seeded_app (codes "make")).top) (seeded_app (codes "demo")).top

-- the task that these matches give
abbrev pub task_named : Text → Option ℕ → Option Task
task_named name seed = if bytes_eq name (codes "run") then Some Run
    else if bytes_eq name (codes "race") then Some Race
    else if bytes_eq name (codes "make") then option_map (λ n. Make n) seed
    else if bytes_eq name (codes "demo") then option_map (λ n. Demo n) seed
    else None

abbrev pub task_in : Option (Text × List Row) → Option Task
task_in None = None
task_in (Some p) = task_named p.0 (option_and_then seed_of (first_of (codes "SEED") p.1))
