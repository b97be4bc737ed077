-- Subcommands that are added one after another.
use Rattle.std.proofs.Common.{◌≡◌, ◌∙◌, IfOk, Ok, Result, ap, subst}
use Rattle.std.proofs.lemmas.Result.{IfOk-weaker}
use Rattle.std.specs.declared.alloc.AllocError.{AllocError}
use Rattle.clap.specs.Words.{App, app_of, with_subcommand}
use Rattle.clap.specs.declared.Command.{Command}

-- a command that is there, or no memory for it
abbrev pub IsApp : Result Command AllocError → App → Type 0
IsApp r app = IfOk r (λ c. app_of c ≡ app)

-- one more, to a command
pub begins : (old : Command) (app sub : App) (r : Result Command AllocError)
    → app_of old ≡ app → IsApp r (with_subcommand (app_of old) sub.top) → IsApp r (with_subcommand app sub.top)
begins old app sub r is h = IfOk-weaker r _ _ (λ c e. e ∙ ap (λ (a : App). with_subcommand a sub.top) is) h

-- one more, to a command that was there
pub goes_on : (before : Result Command AllocError) (old : Command) (app sub : App) (r : Result Command AllocError)
    → before ≡ Ok old → IsApp before app → IsApp r (with_subcommand (app_of old) sub.top) → IsApp r (with_subcommand app sub.top)
goes_on before old app sub r was is h = begins old app sub r (subst (λ (q : Result Command AllocError). IsApp q app) was is) h
