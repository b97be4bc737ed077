use Rattle.std.proofs.Common.{◌≡◌, ◌∙◌, sym, ap, drop, arith, Some, ℕ, Option}
use Rattle.mem_base.specs.declared.map.kinds.Client.{Client}
use Rattle.dirty_log.specs.MarksLeft.{marks_left}
use Rattle.dirty_log.proofs.MarkLaws.{from_client, from_next_page, none_left}
use Rattle.dirty_log.proofs.marks.Marks.next.Goals.{in-Some, in-None, in-None-2}
use Rattle.dirty_log.proofs.marks.Marks.next.Goals as goal

pub returns-clause-rest : goal.returns-clause-rest
returns-clause-rest c =
    let log = c.self.inside.log in
    let last = c.self.inside.last in
    let page = c.in_ok-page.page in
    let client = c.in_ok-page.client in
    let before : drop 1 (marks_left log last (Some (page, client))) ≡ drop 1 c.args.self.now =
    ap (λ (m : Option (ℕ × Client)). drop 1 (marks_left log last m)) (sym c.in_ok-page.was) ∙ ap (drop 1) c.self.view_is in
    elim c.match-client_after.branch [
      | in-Some w ↦ ap (marks_left log last) w.self-is
          ∙ from_client log last page client w.in-Some.client (sym c.client_after.ensures ∙ w.in-Some.is) ∙ before
      | in-None w ↦ ap (marks_left log last) (w.self-is ∙ w.first_mark-self-inside.ensures)
          ∙ from_next_page log last page client (sym c.client_after.ensures ∙ w.in-None.is) (omega (arith, w.if-page-self.true)) ∙ before
      | in-None-2 w ↦ ap (marks_left log last) w.self-is
          ∙ none_left log last page client (sym c.client_after.ensures ∙ w.in-None-2.is) (omega (arith, w.if-page-self.false)) ∙ before
    ]
