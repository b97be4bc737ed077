use Rattle.std.proofs.Common.{rules, ◌≡◌, ◌<◌, ◌≤◌, ◌∙◌, true, false, length, refl, sym, subst, List, arith}
use Rattle.std.specs.Prelude.{slice_index_or}
use Rattle.atomic_table.specs.Seated.{TableId}
use Rattle.epoch_rule.specs.Values.{NoteValue}
use Rattle.race_block.specs.Desks.{AreNotesOf}
use Rattle.race_block.proofs.DeskRunLaws.{all_done, first_done, step_done, step_stops}
use Rattle.race_block.proofs.desks.DeskActor.run.Goals as goal
use Rattle.mem_base.proofs.BoolLaws.{true_is_not_false}

pub loop-at-init : goal.loop-at-init
loop-at-init g c =
    let a = c.args.self in
    let end : c.len-at-end.result ≡ length a.lines.items = search rules in (
      first_done a.known a.clerk a.notes.items a.said.items c.requires.ready.unheard c.requires.ready.silent,
      refl,
      end,
      subst (λ (ns : List NoteValue). AreNotesOf (g.O.Orderly.cabinet c.args.desk.now) ns) (sym c.requires.ready.unheard) tt,
    )

pub returns-then-not-done-clause-run : goal.returns-then-not-done-clause-run
returns-then-not-done-clause-run g c =
    let a = c.args.self in
    let l = c.loop-at in
    let line = c.index-own.result.now in
    let was = l.invariant in
    let failed : c.do_line-done.result ≡ false = search rules in
    let room : l.at < length a.lines.items = let t = c.loop-at-test.true in let e = was.2 in omega (arith, t, e) in
    let is : slice_index_or a.lines.items l.at line ≡ line = search rules in record {
      lines = refl;
      whole = λ e. true_is_not_false true refl e;
      stopped = λ e. step_stops a.known a.lines.items l.at line a.clerk l.clerk c.do_line-done.new.clerk l.notes.items c.do_line-done.new.notes.items
          l.known l.said.items room is was.0 (c.do_line-done.ensures.stopped failed);
    }

pub loop-at-preserved : goal.loop-at-preserved
loop-at-preserved g c =
    let a = c.args.self in
    let l = c.loop-at in
    let line = c.index-own.result.now in
    let was = l.invariant in
    let done : c.do_line-done.result ≡ true = search rules in
    let room : l.at < length a.lines.items = let t = c.loop-at-test.true in let e = was.2 in omega (arith, t, e) in
    let is : slice_index_or a.lines.items l.at line ≡ line = search rules in (
      step_done a.known a.lines.items l.at line a.clerk l.clerk c.do_line-done.new.clerk l.notes.items c.do_line-done.new.notes.items
          l.known c.do_line-done.new.known l.said.items c.do_line-done.new.said.items room is was.0 (c.do_line-done.ensures.done done),
      c.do_line-done.ensures.desk ∙ was.1,
      was.2,
      subst (λ (k : TableId). AreNotesOf k c.do_line-done.new.notes.items) was.1
          (c.do_line-done.ensures.own (subst (λ (k : TableId). AreNotesOf k l.notes.items) (sym was.1) was.3)),
    )

pub returns-clause-run : goal.returns-clause-run
returns-clause-run g c =
    let a = c.args.self in
    let l = c.loop-at in
    let was = l.invariant in
    let end : length a.lines.items ≤ l.at = let t = c.loop-at-test.false in let e = was.2 in omega (arith, t, e) in record {
      lines = refl;
      whole = λ e. all_done a.known a.lines.items l.at a.clerk l.clerk l.notes.items l.known l.said.items end was.0;
      stopped = λ e. true_is_not_false false e refl;
    }
