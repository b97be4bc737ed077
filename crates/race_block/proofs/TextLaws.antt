-- Laws of what lines write that gave no order.
use Rattle.std.proofs.Common.{◌≡◌, ℕ, ◌≤◌, true, false, List, [], ◌∷◌, ◌++◌, Option, length, drop, refl, sym, ap, subst, ◌∙◌, append-nil}
use Rattle.std.specs.Prelude.{flat_map}
use Rattle.std.specs.List.{list_any}
use Rattle.std.proofs.lemmas.List.{drop_all}
use Rattle.mem_base.specs.map.PassIds.{PassId}
use Rattle.mem_base.specs.declared.machine.records.DeskEntry.{DeskEntry}
use Rattle.mem_base.specs.views.Listening.{Delivery}
use Rattle.mem_base.specs.script.Named.{Names}
use Rattle.mem_base.specs.script.RaceLines.{entry_at, said_text}
use Rattle.mem_base.specs.script.Spelling.{Text}
use Rattle.mem_base.proofs.BoolLaws.{neither_first, neither_second, true_is_not_false}
use Rattle.race_block.specs.declared.tasks.BlockLine.{BlockLine}
use Rattle.race_block.specs.declared.tasks.LineGot.{LineGot}
use Rattle.race_block.specs.declared.tasks.LineGot.TheVariants as gots
use Rattle.race_block.specs.Texts.{IsTextOf, gave_order, line_said, lines_said, plain_text, plain_texts}

-- once all are written that were done
pub all_written : (pass : PassId) (i : ℕ) (xs : List BlockLine) (all : List LineGot) (text whole : Text) → length all ≤ i
    → text ++ plain_texts pass xs (drop i all) ≡ whole → text ≡ whole
all_written pass i xs all text whole past h =
    sym (append-nil text) ∙ ap (λ (t : Text). text ++ t) (sym (ap (λ (gs : List LineGot). plain_texts pass xs gs) (drop_all i all past) ∙ none_done xs)) ∙ h
  where
    none_done : (xs : List BlockLine) → plain_texts pass xs [] ≡ []
    none_done [] = refl
    none_done (x ∷ xs) = refl

module _ (names : Names) (journal : List Delivery) (pass : PassId) where
  plain_line : (x : BlockLine) (got : LineGot) (e : DeskEntry) → gave_order got ≡ false
      → said_text names journal (line_said names pass x got e) ≡ plain_text pass x got
  plain_line x gots.Refused e none = append-nil (plain_text pass x gots.Refused)
  plain_line x gots.Ordered e none = true_is_not_false true refl none
  plain_line x (gots.ReadFew access bytes) e none = append-nil (plain_text pass x (gots.ReadFew access bytes))
  plain_line x (gots.Answered answer) e none = append-nil (plain_text pass x (gots.Answered answer))

  -- it takes neither names nor journal, nor what the clerk has
  pub plain_lines : (xs : List BlockLine) (all : List LineGot) (entries : List DeskEntry) → list_any gave_order all ≡ false
      → flat_map (said_text names journal) (lines_said names pass xs all entries) ≡ plain_texts pass xs all
  plain_lines [] all entries none = refl
  plain_lines (x ∷ xs) [] entries none = refl
  plain_lines (x ∷ xs) (got ∷ all) entries none =
      let first = plain_line x got (entry_at entries 0) (neither_first (gave_order got) (list_any gave_order all) none) in
      let rest = plain_lines xs all _ (neither_second (gave_order got) (list_any gave_order all) none) in
      (λ i. first i ++ rest i)

-- the text that was made of an actor's own lines
pub text_same : (pass own : PassId) (xs ys : List BlockLine) (all got : List LineGot) (text : Option Text) → pass ≡ own → xs ≡ ys → all ≡ got
    → IsTextOf pass xs all text → IsTextOf own ys got text
text_same pass own xs ys all got text same_pass same_lines same_got h =
    subst (λ (z : PassId × List BlockLine × List LineGot). IsTextOf z.0 z.1 z.2 text) (λ i. (same_pass i, same_lines i, same_got i)) h
