use Rattle.std.proofs.Common.{◌≡◌, ◌++◌, ◌∙◌, Result, Ok, Err, OnOk, ap, append_assoc, codes}
use Rattle.mem_base.specs.script.Spelling.{Text}
use Rattle.scope_words.specs.Requests.{first_file}
use Rattle.scope_run.specs.Said.{spaces_word, word_at}
use Rattle.scope_run.proofs.faults.add_unknown.Goals as goal

-- a word, and what is said of it after it
word_said : {T E : Type 0} (r : Result T E) (old mid new word shown rest said : Text) → mid ≡ old ++ word → word ≡ shown → rest ≡ said
    → OnOk r (new ≡ mid ++ rest) → OnOk r (new ≡ old ++ (shown ++ said))
word_said (Ok x) old mid new word shown rest said e f g h =
    h ∙ ap (λ (t : Text). t ++ rest) e ∙ append_assoc old word rest ∙ ap (λ (t : Text). old ++ (t ++ rest)) f
    ∙ ap (λ (t : Text). old ++ (shown ++ t)) g
word_said (Err x) old mid new word shown rest said e f g h = tt

pub returns : goal.returns
returns c = word_said c.add_word.result c.args.line.now c.text.new.self c.add_word.new.line c.word_at.result.now
    (word_at (spaces_word c.args.request.now) c.args.at) (codes ": no address space of this name in " ++ c.first_file.result.now)
    (codes ": no address space of this name in " ++ first_file c.args.request.now) c.in_ok-text.ensures
    (c.word_at.ensures ∙ ap (λ (t : Text). word_at t c.args.at) c.spaces_word.ensures)
    (ap (λ (t : Text). codes ": no address space of this name in " ++ t) c.first_file.ensures) c.add_word.ensures
