-- Requests on what the monitor printed.
use Rattle.std.proofs.Common.{◌≡◌, ◌||◌, ℕ, Bool, nat_lt, Option, Some, None, sym, ap, ◌∙◌, subst}
use Rattle.mem_base.specs.script.Spelling.{Text}
use Rattle.scope_run.specs.Files.{Tells}
use Rattle.script_settle.specs.Refused.{HasRefused}
use Rattle.scope_run.specs.Imports.{FailsCheck, FailsImport, TellsImport, has_comment, wanted_in}
use Rattle.scope_run.specs.Requests.{FailsChecking, FailsImporting, Holding, IsSecondUnread, IsTextUnread, IsUnread, TellsIfNamed}
use Rattle.scope_run.specs.declared.answers.Fault.{Fault}
use Rattle.scope_run.specs.declared.answers.Fault.TheVariants as faults
use Rattle.scope_run.specs.declared.answers.Which.{Which}
use Rattle.scope_run.specs.declared.answers.Which.TheVariants.{First, Second}
use Rattle.scope_run.specs.declared.importing.MonitorStop.TheVariants.{BadLine, Long, NoSpaces, Unknown, Made}

not_second : Second ≡ First → ⊥
not_second e = cc

not_first : First ≡ Second → ⊥
not_first e = cc

-- a failed read counts where more was read before it
pub unread_later : (held : Holding) (failed more : Type 0) (name : Text) (which : Which) (fault : Fault) → (failed → more)
    → IsTextUnread held failed name which fault → IsTextUnread held more name which fault
unread_later held failed more name which (faults.File file) f x = f x
unread_later held failed more name which (faults.Monitor (BadLine file line)) f x = x
unread_later held failed more name which (faults.Monitor (Long file)) f x = x
unread_later held failed more name which (faults.Monitor NoSpaces) f x = x
unread_later held failed more name which (faults.Monitor (Unknown at)) f x = x
unread_later held failed more name which (faults.Monitor (Made bad)) f x = x
unread_later held failed more name which faults.Memory f x = tt
unread_later held failed more name which _ f x = x

pub second_later : (held : Holding) (failed more : Type 0) (name : Option Text) (fault : Fault) → (failed → more) → IsSecondUnread held failed name fault
    → IsSecondUnread held more name fault
second_later held failed more None fault f x = x
second_later held failed more (Some name) fault f x = unread_later held failed more name Second fault f x

-- a script that was made, with what is told of it
pub tells_import : (made text : Text) (count : ℕ) (something : Bool) → HasRefused made count → text ≡ made
    → something ≡ (has_comment made || nat_lt 0 count) → TellsImport text something
tells_import made text count something h e s = (
  count,
  subst (λ (t : Text). HasRefused t count) (sym e) h,
  s ∙ ap (λ (t : Text). has_comment t || nat_lt 0 count) (sym e),
)

-- of `import`
pub unread_tree : (held : Holding) (failed : Type 0) (tree : Text) (flat spaces : Option Text) (fault : Fault) → IsTextUnread held failed tree First fault
    → FailsImporting held failed tree flat spaces fault
unread_tree held failed tree flat spaces (faults.Monitor (BadLine which line)) x = absurd x
unread_tree held failed tree flat spaces (faults.Monitor (Long First)) x = x.1
unread_tree held failed tree flat spaces (faults.Monitor (Long Second)) x = absurd (not_second x.0)
unread_tree held failed tree flat spaces (faults.Monitor NoSpaces) x = absurd x
unread_tree held failed tree flat spaces (faults.Monitor (Unknown at)) x = absurd x
unread_tree held failed tree flat spaces (faults.Monitor (Made bad)) x = absurd x
unread_tree held failed tree flat spaces faults.Memory x = tt
unread_tree held failed tree flat spaces _ x = x

pub unread_flat : (held : Holding) (failed : Type 0) (tree : Text) (flat spaces : Option Text) (fault : Fault) → IsSecondUnread held failed flat fault
    → FailsImporting held failed tree flat spaces fault
unread_flat held failed tree None spaces fault x = subst (FailsImporting held failed tree None spaces) (sym x) tt
unread_flat held failed tree (Some name) spaces (faults.File which) x = x
unread_flat held failed tree (Some name) spaces (faults.Script which bad) x = x
unread_flat held failed tree (Some name) spaces faults.NoSpace x = x
unread_flat held failed tree (Some name) spaces faults.NoRegion x = x
unread_flat held failed tree (Some name) spaces faults.NoAddress x = x
unread_flat held failed tree (Some name) spaces (faults.Monitor (BadLine which line)) x = absurd x
unread_flat held failed tree (Some name) spaces (faults.Monitor (Long First)) x = absurd (not_first x.0)
unread_flat held failed tree (Some name) spaces (faults.Monitor (Long Second)) x = x.1
unread_flat held failed tree (Some name) spaces (faults.Monitor NoSpaces) x = absurd x
unread_flat held failed tree (Some name) spaces (faults.Monitor (Unknown at)) x = absurd x
unread_flat held failed tree (Some name) spaces (faults.Monitor (Made bad)) x = absurd x
unread_flat held failed tree (Some name) spaces faults.Memory x = tt

pub import_fails : (held : Holding) (failed : Type 0) (tree : Text) (flat spaces : Option Text) (bytes printed : Text) (fault : Fault)
    → Tells (held tree) bytes → TellsIfNamed held flat printed → FailsImport bytes printed (wanted_in spaces) fault
    → FailsImporting held failed tree flat spaces fault
import_fails held failed tree flat spaces bytes printed (faults.File which) t u x = absurd x
import_fails held failed tree flat spaces bytes printed (faults.Monitor (BadLine First line)) t u x = (bytes, t, x)
import_fails held failed tree flat spaces bytes printed (faults.Monitor (BadLine Second line)) t u x = (printed, u, x)
import_fails held failed tree flat spaces bytes printed (faults.Monitor (Long First)) t u x = (bytes, t, x)
import_fails held failed tree flat spaces bytes printed (faults.Monitor (Long Second)) t u x = (printed, u, x)
import_fails held failed tree flat spaces bytes printed (faults.Monitor NoSpaces) t u x = (bytes, t, x)
import_fails held failed tree flat spaces bytes printed (faults.Monitor (Unknown at)) t u x = (bytes, t, x)
import_fails held failed tree flat spaces bytes printed (faults.Monitor (Made bad)) t u x = x
import_fails held failed tree flat spaces bytes printed faults.Memory t u x = tt
import_fails held failed tree flat spaces bytes printed _ t u x = x

-- of `check`
pub unread_script : (held : Holding) (failed : Type 0) (script flat : Text) (fault : Fault) → IsUnread held failed script First fault
    → FailsChecking held failed script flat fault
unread_script held failed script flat (faults.Script First bad) x = x.1
unread_script held failed script flat (faults.Script Second bad) x = absurd (not_second x.0)
unread_script held failed script flat (faults.Monitor stop) x = absurd x
unread_script held failed script flat faults.Memory x = tt
unread_script held failed script flat _ x = x

pub unread_printed : (held : Holding) (failed : Type 0) (script flat : Text) (fault : Fault) → IsTextUnread held failed flat Second fault
    → FailsChecking held failed script flat fault
unread_printed held failed script flat (faults.Script which bad) x = absurd x
unread_printed held failed script flat (faults.Monitor (BadLine which line)) x = absurd x
unread_printed held failed script flat (faults.Monitor (Long First)) x = absurd (not_first x.0)
unread_printed held failed script flat (faults.Monitor (Long Second)) x = x.1
unread_printed held failed script flat (faults.Monitor NoSpaces) x = absurd x
unread_printed held failed script flat (faults.Monitor (Unknown at)) x = absurd x
unread_printed held failed script flat (faults.Monitor (Made bad)) x = absurd x
unread_printed held failed script flat faults.Memory x = tt
unread_printed held failed script flat _ x = x

pub check_fails : (held : Holding) (failed : Type 0) (script flat bytes printed : Text) (fault : Fault) → Tells (held script) bytes
    → Tells (held flat) printed → FailsCheck bytes printed fault → FailsChecking held failed script flat fault
check_fails held failed script flat bytes printed (faults.File which) t u x = absurd x
check_fails held failed script flat bytes printed (faults.Script First bad) t u x = (bytes, t, x)
check_fails held failed script flat bytes printed (faults.Script Second bad) t u x = x
check_fails held failed script flat bytes printed (faults.Monitor (BadLine First line)) t u x = x
check_fails held failed script flat bytes printed (faults.Monitor (BadLine Second line)) t u x = (printed, u, x)
check_fails held failed script flat bytes printed (faults.Monitor (Long First)) t u x = x
check_fails held failed script flat bytes printed (faults.Monitor (Long Second)) t u x = (printed, u, x)
check_fails held failed script flat bytes printed (faults.Monitor NoSpaces) t u x = x
check_fails held failed script flat bytes printed (faults.Monitor (Unknown at)) t u x = x
check_fails held failed script flat bytes printed (faults.Monitor (Made bad)) t u x = x
check_fails held failed script flat bytes printed faults.Memory t u x = tt
check_fails held failed script flat bytes printed _ t u x = x
