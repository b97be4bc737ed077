use Rattle.std.proofs.Common.{◌∙◌, ℕ, List, [], Some, Err, refl, subst, sym}
use Rattle.std.specs.Prelude.{IfSome}
use Rattle.mem_base.specs.declared.map.refusals.Refusal.TheVariants as refusal
use Rattle.mem_base.specs.machine.Answers.{Answer}
use Rattle.mem_base.specs.machine.Orders.{configure}
use Rattle.writer_run.specs.Turns.{answer_by}
use Rattle.libvobrekan.specs.Answers.{answer_told}
use Rattle.libvobrekan.specs.Desks.{IsTurned, TurnedInto}
use Rattle.libvobrekan.proofs.DeskLaws.{memory_told, told_memory, turned, turned_on_handle}
use Rattle.libvobrekan.proofs.desks.vb_desk_ask.Goals as goal

abbrev alone : Answer → List ℕ → List ℕ
alone answer items = items

pub returns-clause-known : goal.returns-clause-known
returns-clause-known c =
    let event = c.in-Some.event in
    let before = c.in-Some-take.desk.value in
    let after = c.configure-answer.new.self in
    let r = c.configure-answer.result in
    let told = answer_told (answer_by event r) in
    subst (λ o. IfSome o (λ e. IsTurned c.args.handle.now.desk (configure e) c.told.result c.put.new.self.desk)) (sym c.in-Some.is ∙ c.order_in.ensures)
    (turned_on_handle c.args.handle.now.desk before after (configure event) alone told c.told.result [] [] c.put.new.self.desk c.in-Some-take.ensures.taken
    c.told.ensures c.put.ensures
    (subst (λ u. TurnedInto (Some u) (configure event) alone told [] [] (Some after)) c.deref_mut.ensures.value
    (turned (λ x. answer_told (answer_by event x)) (answer_by event) alone (Err refusal.Memory) r c.deref_mut.result.now after (configure event) [] [] refl
    (memory_told event) (told_memory event r) refl c.configure-answer.ensures.turn c.configure-answer.ensures.unchanged refl)))
