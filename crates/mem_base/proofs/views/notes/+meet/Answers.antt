use Rattle.std.proofs.Common.{◌≡◌, ◌∙◌, ◌-◌, ◌++◌, ◌∷◌, [], None, Some, sym, ap, rules}
use Rattle.mem_base.specs.declared.map.ids.RegionId.{RegionId}
use Rattle.mem_base.specs.views.Notes.{note_at, last_of_path}
use Rattle.mem_base.proofs.NoteLaws.{last-none, last-no_note, last-note, lasts_meet, last_not_empty}
use Rattle.mem_base.proofs.views.notes.+meet.Goals as goal

pub returns-then-most-eq0 : goal.returns-then-most-eq0
returns-then-most-eq0 t c =
    let notes = c.args.notes.now in
    let zero = c.if-most-eq0.true in
    (λ yes. last-none notes c.args.most c.args.number zero ∙ sym (last-none notes c.args.most c.args.other zero), λ same. search rules)

pub returns-then-number-other : goal.returns-then-number-other
returns-then-number-other t c = (λ yes. ap (last_of_path c.args.notes.now c.args.most) c.if-number-other.true, λ same. search rules)

pub returns-in-None-None : goal.returns-in-None-None
returns-in-None-None t c =
    let notes = c.args.notes.now in
    let first : note_at notes c.args.number ≡ None = search rules in
    let second : note_at notes c.args.other ≡ None = search rules in
    (λ yes. last-no_note notes c.args.most c.args.number first ∙ sym (last-no_note notes c.args.most c.args.other second), λ same. search rules)

pub returns-then-eq : goal.returns-then-eq
returns-then-eq t c =
    let notes = c.args.notes.now in
    let most = c.args.most in
    let note = c.in-Some-Some.note in
    let next = c.in-Some-Some.next in
    let first : note_at notes c.args.number ≡ Some note = search rules in
    let second : note_at notes c.args.other ≡ Some next = search rules in
    let region : note.region ≡ next.region = search rules in
    let here = last-note notes most c.args.number note c.if-most-eq0.false first in
    let there = last-note notes most c.args.other next c.if-most-eq0.false second in (
      λ yes.
          here ∙ ap (λ path. path ++ note.region ∷ []) (c.meet.ensures.0 yes)
          ∙ ap (λ (r : RegionId). last_of_path notes (most - 1) next.before ++ r ∷ []) region
          ∙ sym there,
      λ same. c.meet.ensures.1 (lasts_meet _ _ _ _ (sym here ∙ same ∙ there)).0,
    )

pub returns-else-eq : goal.returns-else-eq
returns-else-eq t c =
    let notes = c.args.notes.now in
    let most = c.args.most in
    let note = c.in-Some-Some.note in
    let next = c.in-Some-Some.next in
    let first : note_at notes c.args.number ≡ Some note = search rules in
    let second : note_at notes c.args.other ≡ Some next = search rules in
    let here = last-note notes most c.args.number note c.if-most-eq0.false first in
    let there = last-note notes most c.args.other next c.if-most-eq0.false second in (
      λ yes. let no = c.if-eq.false in cc,
      λ same. let region : note.region ≡ next.region = (lasts_meet _ _ _ _ (sym here ∙ same ∙ there)).1 in search rules,
    )

pub returns-in_default : goal.returns-in_default
returns-in_default t c =
    let notes = c.args.notes.now in
    let next = c.in_default.field-0-1 in
    let first : note_at notes c.args.number ≡ None = search rules in
    let second : note_at notes c.args.other ≡ Some next = search rules in
    let here = last-no_note notes c.args.most c.args.number first in
    let there = last-note notes c.args.most c.args.other next c.if-most-eq0.false second in
    (λ yes. search rules, λ same. absurd (last_not_empty _ _ (sym there ∙ sym same ∙ here)))

pub returns-in_default-2 : goal.returns-in_default-2
returns-in_default-2 t c =
    let notes = c.args.notes.now in
    let note = c.in_default.field-0-0 in
    let first : note_at notes c.args.number ≡ Some note = search rules in
    let second : note_at notes c.args.other ≡ None = search rules in
    let here = last-note notes c.args.most c.args.number note c.if-most-eq0.false first in
    let there = last-no_note notes c.args.most c.args.other second in
    (λ yes. search rules, λ same. absurd (last_not_empty _ _ (sym here ∙ same ∙ there)))
