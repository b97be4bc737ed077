-- The text of a list of commands, one line at a time.
use Rattle.std.proofs.Common.{◌≡◌, ◌+◌, ◌<◌, ℕ, suc, List, [], ◌∷◌, ◌++◌, length, get_or, drop, drop-cons, append_assoc, refl, sym, ap, ◌∙◌, arith}
use Rattle.mem_base.specs.declared.script.commands.Command.{Command}
use Rattle.mem_base.specs.script.Printing.{command_tokens, numbered_commands, printed, spaced}

nothing_appended : (xs : List ℕ) → xs ≡ xs ++ []
nothing_appended [] = refl
nothing_appended (x ∷ xs) = ap (λ ys. x ∷ ys) (nothing_appended xs)

-- the line of the next command was pushed
pub line_pushed : (n : ℕ) (commands left after_it : List Command) (command : Command) (before after whole : List ℕ)
    → left ≡ command ∷ after_it → after ≡ before ++ (spaced (command_tokens command) ++ 10 ∷ [])
    → before ++ printed (numbered_commands n left) ≡ whole
    → after ++ printed (numbered_commands (n + 1) after_it) ≡ whole
line_pushed n commands left after_it command before after whole split pushed was =
    let line : List ℕ = spaced (command_tokens command) in
    let rest : List ℕ = printed (numbered_commands (n + 1) after_it) in
    let on : List ℕ → List ℕ = λ xs. xs ++ rest in
    let onto : List ℕ → List ℕ = λ xs. before ++ xs in
    let of : List Command → List ℕ = λ xs. before ++ printed (numbered_commands n xs) in
    ap on pushed ∙ append_assoc before (line ++ 10 ∷ []) rest ∙ ap onto (append_assoc line (10 ∷ []) rest) ∙ sym (ap of split) ∙ was

-- all lines were pushed
pub all_pushed : (n : ℕ) (left : List Command) (text whole : List ℕ)
    → left ≡ [] → text ++ printed (numbered_commands n left) ≡ whole → text ≡ whole
all_pushed n left text whole none was =
    let of : List Command → List ℕ = λ xs. text ++ printed (numbered_commands n xs) in
    nothing_appended text ∙ sym (ap of none) ∙ was

-- one turn: the command at an index was pushed
pub turn : (i : ℕ) (commands : List Command) (command : Command) (before after whole : List ℕ)
    → i < length commands → command ≡ get_or commands i command → after ≡ before ++ (spaced (command_tokens command) ++ 10 ∷ [])
    → before ++ printed (numbered_commands (i + 1) (drop i commands)) ≡ whole
    → after ++ printed (numbered_commands ((i + 1) + 1) (drop (i + 1) commands)) ≡ whole
turn i commands command before after whole h at pushed was =
    let next : i + 1 ≡ suc i = omega arith in
    let split : drop i commands ≡ command ∷ drop (i + 1) commands =
    drop-cons commands i command h ∙ ap (λ (x : Command). x ∷ drop (suc i) commands) (sym at) ∙ ap (λ (j : ℕ). command ∷ drop j commands) (sym next) in
    line_pushed (i + 1) commands (drop i commands) (drop (i + 1) commands) command before after whole split pushed was
