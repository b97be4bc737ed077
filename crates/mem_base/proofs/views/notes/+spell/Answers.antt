use Rattle.std.proofs.Common.{◌≡◌, None, Some, rules}
use Rattle.mem_base.specs.views.Notes.{note_at}
use Rattle.mem_base.proofs.NoteLaws.{last-none, last-no_note, last-note, spelled_next, spelled_none}
use Rattle.mem_base.proofs.views.notes.+spell.Goals as goal

pub returns-then-most-eq0-clause-path : goal.returns-then-most-eq0-clause-path
returns-then-most-eq0-clause-path t c = spelled_none _ _ (last-none c.args.notes.now c.args.most c.args.number c.if-most-eq0.true)

pub returns-in_default-clause-path : goal.returns-in_default-clause-path
returns-in_default-clause-path t c =
    let none : note_at c.args.notes.now c.args.number ≡ None = search rules in
    spelled_none _ _ (last-no_note c.args.notes.now c.args.most c.args.number none)

pub returns-clause-path : goal.returns-clause-path
returns-clause-path t c =
    let here : note_at c.args.notes.now c.args.number ≡ Some c.in-Some.note = search rules in
    spelled_next _ _ _ _ _ _ c.spell.ensures.path c.push.ensures (last-note c.args.notes.now c.args.most c.args.number c.in-Some.note c.if-most-eq0.false here)
