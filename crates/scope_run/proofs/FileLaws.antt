-- Requests on files.
use Rattle.std.proofs.Common.{◌≡◌, ◌<◌, Option, Some, Err, cond, eqb, sym, ap, subst, ◌∙◌, length}
use Rattle.std.proofs.lemmas.Bool.{lt-leb}
use Rattle.std.specs.List.{slice_split}
use Rattle.mem_base.specs.declared.script.faults.BadScript.{BadScript}
use Rattle.mem_base.specs.declared.script.faults.Cause.TheVariants.{Long}
use Rattle.mem_base.specs.declared.script.places.Section.TheVariants.{Start}
use Rattle.mem_base.specs.script.Scripts.{bad, most_text, script_from, script_of}
use Rattle.mem_base.specs.script.Spelling.{Text}
use Rattle.scope_run.specs.Files.{Tells}
use Rattle.scope_run.specs.Requests.{FailsDiff, FailsFile, FailsWhy, Holding, IsUnread}
use Rattle.scope_run.specs.Scripts.{FailsOn, FailsOnBoth}
use Rattle.scope_run.specs.declared.answers.Fault.{Fault}
use Rattle.scope_run.specs.declared.answers.Fault.TheVariants as faults
use Rattle.scope_run.specs.declared.answers.Which.TheVariants.{First, Second}

-- a text that is too long is no script
pub too_long : (bytes : Text) (fault : BadScript) → fault ≡ record { line = 0; cause = Long } → most_text < length bytes → script_of bytes ≡ Err fault
too_long bytes fault is l =
    ap (λ b. cond b (script_from Start 1 (slice_split (λ b. eqb b 10) bytes)) (bad 0 Long)) (lt-leb (length bytes) most_text l)
    ∙ ap (λ (f : BadScript). Err f) (sym is)

-- a file that was not read
pub unread_file : (held : Holding) (failed : Type 0) (name : Text) (space region : Option Text) (fault : Fault) → IsUnread held failed name First fault
    → FailsFile held failed name space region fault
unread_file held failed name space region (faults.File which) x = x
unread_file held failed name space region (faults.Script First bad) x = x.1
unread_file held failed name space region (faults.Script Second bad) x = absurd (other x.0)
  where
    other : Second ≡ First → ⊥
    other e = cc
unread_file held failed name space region faults.Memory x = tt
unread_file held failed name space region _ x = absurd x

-- a command that fails on what a file holds
pub command_file : (held : Holding) (failed : Type 0) (name : Text) (space region : Option Text) (bytes : Text) (fault : Fault)
    → Tells (held name) bytes → FailsOn bytes space region fault → FailsFile held failed name space region fault
command_file held failed name space region bytes (faults.File which) t x = absurd x.2
command_file held failed name space region bytes faults.Memory t x = tt
command_file held failed name space region bytes _ t x = (bytes, t, x)

-- the same of `why`, which never says that the address is none once it was read
pub unread_why : (held : Holding) (failed : Type 0) (script space addr : Text) (region : Option Text) (fault : Fault)
    → IsUnread held failed script First fault → FailsWhy held failed script space addr region fault
unread_why held failed script space addr region (faults.File which) x = x
unread_why held failed script space addr region (faults.Script which bad) x =
    unread_file held failed script (Some space) region (faults.Script which bad) x
unread_why held failed script space addr region faults.Memory x = tt
unread_why held failed script space addr region _ x = absurd x

pub command_why : (held : Holding) (failed : Type 0) (script space addr : Text) (region : Option Text) (bytes : Text) (fault : Fault)
    → Tells (held script) bytes → FailsOn bytes (Some space) region fault → FailsWhy held failed script space addr region fault
command_why held failed script space addr region bytes (faults.File which) t x = absurd x.2
command_why held failed script space addr region bytes faults.NoAddress t x = absurd x.2
command_why held failed script space addr region bytes faults.Memory t x = tt
command_why held failed script space addr region bytes _ t x = (bytes, t, x)

-- and of `diff`
pub unread_first : (held : Holding) (failed : Type 0) (first second : Text) (fault : Fault) → IsUnread held failed first First fault
    → FailsDiff held failed first second fault
unread_first held failed first second (faults.File which) x = x
unread_first held failed first second (faults.Script First bad) x = x.1
unread_first held failed first second (faults.Script Second bad) x = absurd (other x.0)
  where
    other : Second ≡ First → ⊥
    other e = cc
unread_first held failed first second faults.Memory x = tt
unread_first held failed first second _ x = absurd x

pub unread_second : (held : Holding) (failed : Type 0) (first second : Text) (fault : Fault) → IsUnread held failed second Second fault
    → FailsDiff held failed first second fault
unread_second held failed first second (faults.File which) x = x
unread_second held failed first second (faults.Script First bad) x = absurd (other x.0)
  where
    other : First ≡ Second → ⊥
    other e = cc
unread_second held failed first second (faults.Script Second bad) x = x.1
unread_second held failed first second faults.Memory x = tt
unread_second held failed first second _ x = absurd x

pub command_both : (held : Holding) (failed : Type 0) (first second old new : Text) (fault : Fault) → Tells (held first) old → Tells (held second) new
    → FailsOnBoth old new fault → FailsDiff held failed first second fault
command_both held failed first second old new (faults.File which) t u x = absurd x
command_both held failed first second old new (faults.Script First bad) t u x = (old, t, x)
command_both held failed first second old new (faults.Script Second bad) t u x = (new, u, x)
command_both held failed first second old new faults.Memory t u x = tt
command_both held failed first second old new _ t u x = x

-- a failed read also counts where more was read after it
pub memory_file : (held : Holding) (failed : Type 0) (name : Text) (space region : Option Text) (fault : Fault) → fault ≡ faults.Memory
    → FailsFile held failed name space region fault
memory_file held failed name space region fault is = subst (FailsFile held failed name space region) (sym is) tt

-- the bytes that were read, seen as a slice
pub told_as : (held : Holding) (name bytes slice : Text) → slice ≡ bytes → Tells (held name) bytes → Tells (held name) slice
told_as held name bytes slice is t = subst (Tells (held name)) (sym is) t
