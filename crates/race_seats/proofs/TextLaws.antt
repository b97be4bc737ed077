-- What the lines of a block write, in the words of the script's definition.
use Rattle.std.proofs.Common.{◌≡◌, ℕ, List, [], ◌∷◌, length, take, drop, get_or, refl, sym, ap, subst, ◌∙◌}
use Rattle.mem_base.specs.map.PassIds.{PassId}
use Rattle.mem_base.specs.declared.machine.records.DeskEntry.{DeskEntry}
use Rattle.mem_base.specs.machine.Records.{Clerk}
use Rattle.mem_base.specs.script.Named.{Names}
use Rattle.mem_base.specs.script.RefusalLines.{refused_line}
use Rattle.mem_base.specs.script.RaceLines.{do_text, entry_at, says, says_with}
use Rattle.mem_base.specs.script.Scripts.{Line}
use Rattle.mem_base.specs.script.Tasks.{Known, task_of}
use Rattle.generation.specs.Published.{Published}
use Rattle.epoch_rule.specs.Values.{PassValue}
use Rattle.race_block.proofs.HandedOn.{LineAnswer}
use Rattle.race_block.specs.declared.tasks.PassTask.{PassTask}
use Rattle.race_block.specs.declared.tasks.PassTask.TheVariants.{Refused, Order, Enter, Leave, Read, Write, Copy}
use Rattle.race_block.specs.declared.tasks.BlockLine.{BlockLine}
use Rattle.race_block.specs.declared.tasks.LineGot.{LineGot}
use Rattle.race_block.specs.declared.tasks.LineGot.TheVariants as gots
use Rattle.race_block.specs.Resolving.{AreTasksOf, StandsFor}
use Rattle.race_block.specs.Laws.{said_of, saids, why_of}
use Rattle.race_block.specs.Texts.{line_said, lines_said, taken_by}
use Rattle.race_block.specs.Lines.{HasDone, HaveRun, IsAnswer}

-- a line that was done with this result
module _ (names : Names) (k : Known) (pass : PassId) (line : Line) (e : DeskEntry) where
  same_answer : (number : ℕ) (task : PassTask) (got : LineGot) (answer : LineAnswer) → IsAnswer got answer
      → line_said names pass (record { number = number; task = task }) got e ≡ said_of names k pass line got e
  same_answer number task gots.Refused answer is = absurd is
  same_answer number task gots.Ordered answer is = absurd is
  same_answer number task (gots.ReadFew access bytes) answer is = refl
  same_answer number task (gots.Answered given) answer is = refl

  refused_same : (number : ℕ) (task : PassTask) (c d : Clerk) (v w : PassValue Published) (got : LineGot) → number ≡ line.0
      → StandsFor task (task_of k line.1) → HasDone task c v got d w
      → line_said names pass (record { number = number; task = task }) got e ≡ said_of names k pass line got e
  refused_same number (Refused why) c d v w got is s h =
      ap (λ (x : LineGot). line_said names pass (record { number = number; task = Refused why }) x e) h.0
      ∙ (λ i. says (refused_line (is i) (why_of (sym s i)))) ∙ ap (λ (x : LineGot). said_of names k pass line x e) (sym h.0)
  refused_same number (Order order) c d v w got is s h =
      ap (λ (x : LineGot). line_said names pass (record { number = number; task = Order order }) x e) h.0
      ∙ (λ i. says_with (do_text names (is i) pass e.answer) e) ∙ ap (λ (x : LineGot). said_of names k pass line x e) (sym h.0)
  refused_same number Enter c d v w got is s h = same_answer number Enter got h.answer h.is
  refused_same number Leave c d v w got is s h = same_answer number Leave got h.answer h.is
  refused_same number (Read space addr len) c d v w got is s h = same_answer number (Read space addr len) got h.answer h.is
  refused_same number (Write space addr bytes) c d v w got is s h = same_answer number (Write space addr bytes) got h.answer h.is
  refused_same number (Copy from addr len to to_addr) c d v w got is s h = same_answer number (Copy from addr len to to_addr) got h.answer h.is

-- a list is its first one and the rest
first_of : {X : Type 0} (x y : X) (xs ys : List X) → x ∷ xs ≡ y ∷ ys → x ≡ y
first_of x y xs ys e = ap (λ l. get_or l 0 x) e

rest_of : {X : Type 0} (x y : X) (xs ys : List X) → x ∷ xs ≡ y ∷ ys → xs ≡ ys
rest_of x y xs ys e = ap (drop 1) e

-- what lines say, as many as were done
pub lines_same : (names : Names) (k : Known) (pass : PassId) (lines : List Line) (xs : List BlockLine) (c d : Clerk) (v w : PassValue Published)
    (all : List LineGot) (entries : List DeskEntry) → AreTasksOf k lines xs → HaveRun (take (length all) xs) c v all d w
    → lines_said names pass xs all entries ≡ saids names k pass lines all entries
lines_same names k pass [] [] c d v w all entries are h = refl
lines_same names k pass [] (x ∷ xs) c d v w all entries are h = absurd are
lines_same names k pass (line ∷ lines) [] c d v w all entries are h = absurd are
lines_same names k pass (line ∷ lines) (x ∷ xs) c d v w [] entries are h = refl
lines_same names k pass (line ∷ lines) (x ∷ xs) c d v w (got ∷ all) entries are h =
    let e : DeskEntry = entry_at entries 0 in
    let is : got ≡ h.got = first_of got h.got all h.rest h.is in
    let left : all ≡ h.rest = rest_of got h.got all h.rest h.is in
    let done : HasDone x.task c v got h.clerk h.pass = subst (λ (g : LineGot). HasDone x.task c v g h.clerk h.pass) (sym is) h.first in
    let rest : HaveRun (take (length all) xs) h.clerk h.pass all d w =
    subst (λ (gs : List LineGot). HaveRun (take (length all) xs) h.clerk h.pass gs d w) (sym left) h.then in
    (λ i. refused_same names k pass line e x.number x.task c h.clerk v h.pass got are.0 are.1 done i
    ∷ lines_same names k pass lines xs h.clerk d h.pass w all (drop (taken_by got) entries) are.2 rest i)
