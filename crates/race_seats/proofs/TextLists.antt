-- What lines write, one after another.
use Rattle.std.proofs.Common.{◌≡◌, ℕ, ◌≤◌, List, [], ◌∷◌, ◌++◌, length, drop, refl, sym, ap, ◌∙◌, append-nil}
use Rattle.std.specs.Prelude.{flat_map}
use Rattle.std.proofs.lemmas.List.{drop_all}
use Rattle.mem_base.specs.map.PassIds.{PassId}
use Rattle.mem_base.specs.declared.machine.records.DeskEntry.{DeskEntry}
use Rattle.mem_base.specs.views.Listening.{Delivery}
use Rattle.mem_base.specs.machine.Records.{Clerk}
use Rattle.mem_base.specs.script.Named.{Names}
use Rattle.mem_base.specs.script.RaceLines.{Said, said_text}
use Rattle.mem_base.specs.script.Spelling.{Text}
use Rattle.race_block.specs.declared.blocks.BlockActor.{BlockActor}
use Rattle.race_block.specs.declared.tasks.BlockLine.{BlockLine}
use Rattle.race_block.specs.declared.tasks.LineGot.{LineGot}
use Rattle.race_block.specs.Texts.{lines_said}
use Rattle.race_seats.specs.Texts.{actors_said}

-- lines of which none was done, and actors without a clerk, write nothing

none_done : (names : Names) (pass : PassId) (xs : List BlockLine) (entries : List DeskEntry) → lines_said names pass xs [] entries ≡ []
none_done names pass [] entries = refl
none_done names pass (x ∷ xs) entries = refl

no_clerks : (names : Names) (journal : List Delivery) (actors : List BlockActor) → actors_said names journal actors [] ≡ []
no_clerks names journal [] = refl
no_clerks names journal (a ∷ actors) = refl

pub all_done : (names : Names) (journal : List Delivery) (pass : PassId) (i : ℕ) (xs : List BlockLine) (got : List LineGot) (entries : List DeskEntry)
    (text whole : Text) → length got ≤ i → text ++ flat_map (said_text names journal) (lines_said names pass xs (drop i got) entries) ≡ whole → text ≡ whole
all_done names journal pass i xs got entries text whole past h =
    sym (append-nil text)
    ∙ ap (λ (ss : List Said). text ++ flat_map (said_text names journal) ss)
    (sym (ap (λ (gs : List LineGot). lines_said names pass xs gs entries) (drop_all i got past) ∙ none_done names pass xs entries)) ∙ h

pub no_line : (names : Names) (journal : List Delivery) (pass : PassId) (i : ℕ) (xs : List BlockLine) (got : List LineGot) (entries : List DeskEntry)
    (text whole : Text) → length xs ≤ i → text ++ flat_map (said_text names journal) (lines_said names pass (drop i xs) got entries) ≡ whole → text ≡ whole
no_line names journal pass i xs got entries text whole past h =
    sym (append-nil text)
    ∙ ap (λ (ss : List Said). text ++ flat_map (said_text names journal) ss)
    (sym (ap (λ (ys : List BlockLine). lines_said names pass ys got entries) (drop_all i xs past))) ∙ h

pub no_clerk : (names : Names) (journal : List Delivery) (i : ℕ) (actors : List BlockActor) (clerks : List Clerk) (text whole : Text)
    → length clerks ≤ i → text ++ actors_said names journal actors (drop i clerks) ≡ whole → text ≡ whole
no_clerk names journal i actors clerks text whole past h =
    sym (append-nil text)
    ∙ ap (λ (t : Text). text ++ t)
    (sym (ap (λ (cs : List Clerk). actors_said names journal actors cs) (drop_all i clerks past) ∙ no_clerks names journal actors)) ∙ h
