use Rattle.std.proofs.Common.{List, map, rules, string_bytes, subst}
use Rattle.clap.specs.Words.{Text, subcommand_of}
use Rattle.scope_words.specs.App.{scope_app}
use Rattle.scope_words.specs.Asks.{Asks, IsAskedBy}
use Rattle.scope_words.specs.declared.read.Asked.{Asked}
use Rattle.scope_words.specs.declared.read.Asked.TheVariants.{Json, Memory, Request, Text as Told}
use Rattle.scope_words.proofs.Walks.{refused, taken}
use Rattle.scope_words.proofs.read.read_words.Goals as goal

asks_found : (words : List Text) (a : Asked) → IsAskedBy (subcommand_of scope_app words) a → Asks words a
asks_found words (Request request) h = h
asks_found words (Json request) h = h
asks_found words (Told error) h = absurd h
asks_found words Memory h = absurd h

pub returns-in-Some : goal.returns-in-Some
returns-in-Some c = asks_found (map string_bytes c.args.words.now) c.in-Some.asked
    (subst (λ o. IsAskedBy o c.in-Some.asked) (taken _ _ c.in-Ok.ensures _ c.in-Ok-try_get_matches_from.ensures.matches) (search rules))

pub returns : goal.returns
returns c = refused (map string_bytes c.args.words.now) _ c.in-Ok.ensures c.in-Err-try_get_matches_from.error c.in-Err-try_get_matches_from.ensures.kinds
