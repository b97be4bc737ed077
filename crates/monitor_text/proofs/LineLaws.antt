-- A text, from its first line on.
use Rattle.std.proofs.Common.{◌≡◌, ◌==◌, ◌+◌, ℕ, List, [], ◌∷◌, ◌++◌, append_assoc, take, drop, position, refl, sym, ap, ◌∙◌}
use Rattle.std.proofs.Common.{None, Some, Ok, Err}
use Rattle.std.proofs.lemmas.List.{append-nil}
use Rattle.std.specs.declared.option.Option.{Option}
use Rattle.std.specs.declared.result.Result.{Result}
use Rattle.std.specs.Global.{Vec}
use Rattle.std.specs.List.{slice_split}
use Rattle.mem_base.specs.script.Lines.{without_return}
use Rattle.script_text.proofs.Cuts.{split_first, split_none}
use Rattle.monitor_text.specs.declared.faults.MonitorFault.{MonitorFault}
use Rattle.monitor_text.specs.declared.faults.MonitorFault.TheVariants.{Bad, Memory}
use Rattle.monitor_text.specs.Parts.{target_at, until, until_target}
use Rattle.monitor_text.specs.Texts.{Given, ReadsText, TakesLine, before_rest, behind_lines, lines_from}

-- the first line of a text
first_line : {X : Type 0} (form : List ℕ → Option X) (n k : ℕ) (text : List ℕ) → position (λ b. b == 10) text ≡ Some k
    → lines_from form n (slice_split (λ b. b == 10) text)
    ≡ before_rest n (form (without_return (take k text))) (lines_from form (n + 1) (slice_split (λ b. b == 10) (drop (k + 1) text)))
first_line form n k text e = ap (lines_from form n) (split_first (λ b. b == 10) k text e)

-- the last one, which has no line feed
last_line : {X : Type 0} (form : List ℕ → Option X) (n : ℕ) (text : List ℕ) → position (λ b. b == 10) text ≡ None
    → lines_from form n (slice_split (λ b. b == 10) text) ≡ before_rest n (form (without_return text)) (Ok [])
last_line form n text e = ap (lines_from form n) (split_none (λ b. b == 10) text e)

pub good_line : {X : Type 0} (form : List ℕ → Option X) (n k : ℕ) (text : List ℕ) (old new : List (ℕ × X)) (whole : Given X)
    → position (λ b. b == 10) text ≡ Some k → TakesLine (Ok tt) n (form (without_return (take k text))) old new
    → behind_lines old (lines_from form n (slice_split (λ b. b == 10) text)) ≡ whole
    → behind_lines new (lines_from form (n + 1) (slice_split (λ b. b == 10) (drop (k + 1) text))) ≡ whole
good_line form n k text old new whole e takes h =
    sym (takes (lines_from form (n + 1) (slice_split (λ b. b == 10) (drop (k + 1) text))))
    ∙ ap (behind_lines old) (sym (first_line form n k text e)) ∙ h

fault_is : {X : Type 0} (fault : MonitorFault) (n : ℕ) (read : Option X) (rest whole : Given X) (old new : List (ℕ × X))
    (result : Result (Vec (ℕ × X)) MonitorFault) → result ≡ Err fault → TakesLine (Err fault) n read old new
    → behind_lines old (before_rest n read rest) ≡ whole → ReadsText result whole
fault_is Memory n read rest whole old new result is takes h = rw is tt
fault_is (Bad line) n read rest whole old new result is takes h =
    rw is (sym h ∙ ap (behind_lines old) (takes rest))

pub bad_line : {X : Type 0} (form : List ℕ → Option X) (fault : MonitorFault) (n k : ℕ) (text : List ℕ) (old new : List (ℕ × X)) (whole : Given X)
    → position (λ b. b == 10) text ≡ Some k → TakesLine (Err fault) n (form (without_return (take k text))) old new
    → behind_lines old (lines_from form n (slice_split (λ b. b == 10) text)) ≡ whole → ReadsText (Err fault) whole
bad_line form fault n k text old new whole e takes h =
    fault_is fault n _ _ whole old new (Err fault) refl takes (ap (behind_lines old) (sym (first_line form n k text e)) ∙ h)

pub good_end : {X : Type 0} (form : List ℕ → Option X) (n : ℕ) (text : List ℕ) (old : List (ℕ × X)) (new : Vec (ℕ × X)) (whole : Given X)
    → position (λ b. b == 10) text ≡ None → TakesLine (Ok tt) n (form (without_return text)) old new.items
    → behind_lines old (lines_from form n (slice_split (λ b. b == 10) text)) ≡ whole → ReadsText (Ok new) whole
good_end form n text old new whole e takes h =
    sym h ∙ ap (behind_lines old) (last_line form n text e) ∙ takes (Ok []) ∙ ap Ok (append-nil new.items)

pub bad_end : {X : Type 0} (form : List ℕ → Option X) (fault : MonitorFault) (n : ℕ) (text : List ℕ) (old new : List (ℕ × X)) (whole : Given X)
    → position (λ b. b == 10) text ≡ None → TakesLine (Err fault) n (form (without_return text)) old new
    → behind_lines old (lines_from form n (slice_split (λ b. b == 10) text)) ≡ whole → ReadsText (Err fault) whole
bad_end form fault n text old new whole e takes h =
    fault_is fault n _ _ whole old new (Err fault) refl takes (ap (behind_lines old) (sym (last_line form n text e)) ∙ h)

pub behind_none : {X : Type 0} (lines : List (ℕ × X)) (given : Given X) → lines ≡ [] → behind_lines lines given ≡ given
behind_none lines (Ok xs) e = rw e refl
behind_none lines (Err line) e = refl

pub until_at : (byte : ℕ) (text front back : List ℕ) (k : ℕ) → position (λ b. b == byte) text ≡ Some k → front ≡ take k text
    → back ≡ drop (k + 1) text → until byte text ≡ Some (front, back)
until_at byte text front back k e f g = rw (e, f, g) refl

pub until_target_at : (text front back : List ℕ) (k : ℕ) → target_at text ≡ Some k → front ≡ take k text → back ≡ drop (k + 2) text
    → until_target text ≡ Some (front, back)
until_target_at text front back k e f g = rw (e, f, g) refl

pub takes_next : {X : Type 0} (n : ℕ) (read : Option X) (x : X) (old new : List (ℕ × X)) → read ≡ Some x → new ≡ old ++ (n, x) ∷ []
    → TakesLine (Ok tt) n read old new
takes_next n read x old new e f (Ok xs) =
    ap (λ r. behind_lines old (before_rest n r (Ok xs))) e ∙ ap Ok (sym (append_assoc old ((n, x) ∷ []) xs)) ∙ ap (λ ys. Ok (ys ++ xs)) (sym f)
takes_next n read x old new e f (Err line) = ap (λ r. behind_lines old (before_rest n r (Err line))) e

pub takes_fault : {X : Type 0} (n : ℕ) (read : Option X) (old new : List (ℕ × X)) → read ≡ None → TakesLine (Err (Bad n)) n read old new
takes_fault n read old new e rest = ap (λ r. before_rest n r rest) e
