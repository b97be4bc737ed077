use Rattle.std.proofs.Common.{ap, sym, ◌∙◌, option_map, option_and_then, codes}
use Rattle.clap.specs.Words.{found_of, rows_of}
use Rattle.clap.specs.declared.ArgMatches.TheViews.{out-ArgMatches, out-SubCommand}
use Rattle.clap.proofs.WalkLemmas.{first_value-rows}
use Rattle.std.specs.Box.{box_value}
use Rattle.script_words.specs.App.{task_in, task_named}
use Rattle.mem_base.specs.script.Words.{seed_of}
use Rattle.script_words.proofs.Viewed.{both_views, pair_by}
use Rattle.script_words.proofs.read.task_in.Goals as goal

pub returns-in-Some : goal.returns-in-Some
returns-in-Some c =
    let rows = both_views c.subcommand.result (out-ArgMatches c.args.matches.now).subcommand (λ p. p.0.now) (λ p. rows_of (found_of p.1.now))
    (λ b. (out-SubCommand (box_value b)).name.now) (λ b. rows_of (found_of (out-SubCommand (box_value b)).matches))
    c.subcommand.ensures.name c.subcommand.ensures.rows in
    let seed = c.seed_of.ensures ∙ ap (option_and_then seed_of) (c.get_str.ensures ∙ first_value-rows (found_of c.in-Some.inner.now) (codes "SEED")) in
    c.named.ensures ∙ ap (task_named c.in-Some.name.now) seed
    ∙ ap task_in (sym (ap (option_map (pair_by (λ p. p.0.now) (λ p. rows_of (found_of p.1.now)))) c.in-Some.is) ∙ rows)
