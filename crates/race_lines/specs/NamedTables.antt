-- Tables that find a number by its name, where some of the numbers are there no more.
use Rattle.std.specs.Prelude.{◌≡◌, ℕ, ◌+◌, Bool, true, List, [], ◌∷◌, None}
use Rattle.mem_base.specs.script.Spelling.{Text}
use Rattle.mem_base.specs.script.States.{number_from}
use Rattle.script_names.specs.Tables.{Table, number_of}

-- of all that had a name, at most one is there
abbrev pub AreSingle : ℕ → List Text → (ℕ → Bool) → Type 0
AreSingle n [] test = Unit {0}
AreSingle n (name ∷ names) test = (test n ≡ true → number_from (n + 1) names test name ≡ None) × AreSingle (n + 1) names test

-- a table finds what is there by its name, and no two that are there have one name
pub record IsNamed (table : Table) (test : ℕ → Bool) : Type 0 where
  pub finds : (name : Text) → number_of table.bound name ≡ number_from 0 table.made test name
  pub single : AreSingle 0 table.made test
