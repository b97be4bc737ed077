-- The words of the program's command line, without its name: `run`, `race`, `make SEED` or `demo SEED`.
use Rattle.std.specs.Prelude.{ℕ, ◌-◌, ◌^◌, ◌++◌, nat_le, if◌then◌else◌, List, [], ◌∷◌, length, Option, Some, None, option_map, codes}
use Rattle.std.specs.Str.{bytes_eq}
use Rattle.mem_base.specs.declared.script.tasks.Task.{Task}
use Rattle.mem_base.specs.declared.script.tasks.Task.TheVariants.{Run, Race, Make, Demo}
use Rattle.mem_base.specs.script.Spelling.{Text, digits}
use Rattle.mem_base.specs.script.RefusalLines.{line_feed}

-- SEED: 1 to 20 decimal digits with a value below 2^64
abbrev pub seed_of : Text → Option ℕ
seed_of text = if nat_le (length text) 20 then digits 10 (2 ^ 64 - 1) text else None

-- what a word alone asks for
abbrev pub task_alone : Text → Option Task
task_alone word = if bytes_eq word (codes "run") then Some Run else if bytes_eq word (codes "race") then Some Race else None

-- what a word with a seed asks for
abbrev pub task_with_seed : Text → Option ℕ → Option Task
task_with_seed word seed =
    if bytes_eq word (codes "make") then option_map (λ n. Make n) seed
    else if bytes_eq word (codes "demo") then option_map (λ n. Demo n) seed else None

-- what the words ask for; none where they have none of the four forms
abbrev pub task_of : List Text → Option Task
task_of (word ∷ []) = task_alone word
task_of (word ∷ seed ∷ []) = task_with_seed word (seed_of seed)
task_of _ = None

-- what is written for words without a form
abbrev pub usage_line : Text
usage_line = codes "usage: mtree run | race | make SEED | demo SEED" ++ line_feed
