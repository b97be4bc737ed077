use Rattle.std.proofs.Common.{ap, sym, ◌∙◌, option_map, subst}
use Rattle.std.specs.Box.{box_value}
use Rattle.std.specs.Prelude.{IfSome}
use Rattle.clap.specs.Words.{found_of, rows_of}
use Rattle.clap.specs.declared.ArgMatches.TheViews.{out-ArgMatches, out-SubCommand}
use Rattle.scope_words.specs.Asks.{IsAskedBy}
use Rattle.scope_words.proofs.Viewed.{both_views, pair_by}
use Rattle.scope_words.proofs.read.asked_in.Goals as goal

pub returns-in-Some : goal.returns-in-Some
returns-in-Some c =
    let rows = both_views c.subcommand.result (out-ArgMatches c.args.matches.now).subcommand (λ p. p.0.now) (λ p. rows_of (found_of p.1.now))
    (λ b. (out-SubCommand (box_value b)).name.now) (λ b. rows_of (found_of (out-SubCommand (box_value b)).matches))
    c.subcommand.ensures.name c.subcommand.ensures.rows in
    subst (λ o. IfSome c.asked_by.result (IsAskedBy o))
    (sym (ap (option_map (pair_by (λ p. p.0.now) (λ p. rows_of (found_of p.1.now)))) c.in-Some.is) ∙ rows) c.asked_by.ensures
