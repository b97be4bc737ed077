-- What clap makes of the words.
use Rattle.std.proofs.Common.{◌≡◌, List, true, refl, ap, ◌∙◌, subst}
use Rattle.clap.specs.Words.{App, HasKind, HasMatchesOf, fault_of, is_simple, is_simple_and_free, subcommand_of, subcommand_rows_of, Text}
use Rattle.clap.proofs.OnLiterals.{clap_on_literals}
use Rattle.clap.specs.declared.Error.{Error}
use Rattle.clap.specs.declared.ArgMatches.{ArgMatches}
use Rattle.scope_words.specs.App.{scope_app}

scope_is_free : is_simple_and_free scope_app ≡ true
unfolding clap_on_literals
scope_is_free = refl

scope_is_simple : is_simple scope_app ≡ true
unfolding clap_on_literals
scope_is_simple = refl

-- clap took the words
pub taken : (words : List Text) (app : App) → app ≡ scope_app → (m : ArgMatches) → HasMatchesOf app words m
    → subcommand_rows_of m ≡ subcommand_of scope_app words
taken words app same m matches =
    (matches (ap is_simple same ∙ scope_is_simple)).1 ∙ ap (λ (a : App). subcommand_of a words) same

-- clap refused the words
pub refused : (words : List Text) (app : App) → app ≡ scope_app → (e : Error) → (is_simple_and_free app ≡ true → HasKind (fault_of app words) e)
    → HasKind (fault_of scope_app words) e
refused words app same e kinds =
    subst (λ (a : App). HasKind (fault_of a words) e) same (kinds (ap is_simple_and_free same ∙ scope_is_free))
