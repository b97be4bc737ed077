use Rattle.std.proofs.Common.{rules, ◌≡◌, ◌+◌, ◌∙◌, Bool, true, false, take, length, arith, refl, sym, subst}
use Rattle.std.specs.Prelude.{MatchBool}
use Rattle.mem_base.specs.script.Lines.{tokens_of}
use Rattle.mem_base.specs.script.Spelling.{Text}
use Rattle.script_text.proofs.Parts.{none_from_not_some}
use Rattle.script_marks.specs.Marks.{IsShort, Opens, OpensNone}
use Rattle.script_marks.proofs.MarkLaws.{Cut, cut_first, cut_next, fails_here, fails_last, rest_within}
use Rattle.script_marks.proofs.marks.grammar_mark.Goals as goal

-- what is answered of a text that is another one
opened : (b : Bool) (t u : Text) → t ≡ u → b ≡ true → MatchBool b (Opens (tokens_of t)) (IsShort t → OpensNone (tokens_of t)) → Opens (tokens_of u)
opened b t u same is h =
    subst (λ (x : Text). Opens (tokens_of x)) same (subst (λ c. MatchBool c (Opens (tokens_of t)) (IsShort t → OpensNone (tokens_of t))) is h)

shut : (b : Bool) (t u : Text) → t ≡ u → b ≡ false → MatchBool b (Opens (tokens_of t)) (IsShort t → OpensNone (tokens_of t)) → IsShort u → OpensNone (tokens_of u)
shut b t u same is h =
    subst (λ (x : Text). IsShort x → OpensNone (tokens_of x)) same
    (subst (λ c. MatchBool c (Opens (tokens_of t)) (IsShort t → OpensNone (tokens_of t))) is h)

pub loop-len-init : goal.loop-len-init
loop-len-init c = (omega arith, cut_first c.args.text.now)

pub returns-then-not-open_line : goal.returns-then-not-open_line
returns-then-not-open_line c =
    let off : c.in_ok-open_line.open_line ≡ false = search rules in
    fails_here c.args.text.now c.loop-len.start c.in-Some.len c.loop-len.rest.now c.requires c.loop-len.invariant.1
    (sym c.gap_of.ensures.value ∙ c.in-Some.is)
    (shut c.in_ok-open_line.open_line c.first_of.result.now (take (c.loop-len.start + c.in-Some.len) c.args.text.now) c.first_of.ensures off
    c.in_ok-open_line.ensures)

pub loop-len-preserved : goal.loop-len-preserved
loop-len-preserved c =
    let on : c.in_ok-open_line.open_line ≡ true = search rules in
    let next : Cut c.args.text.now (c.loop-len.start + (c.in-Some.len + 1)) c.split_at.result.1.now =
    subst (Cut c.args.text.now (c.loop-len.start + (c.in-Some.len + 1))) (sym c.split_at.ensures.back)
    (cut_next c.args.text.now c.loop-len.start c.in-Some.len c.loop-len.rest.now c.loop-len.invariant.1
    (sym c.gap_of.ensures.value ∙ c.in-Some.is)
    (opened c.in_ok-open_line.open_line c.first_of.result.now (take (c.loop-len.start + c.in-Some.len) c.args.text.now) c.first_of.ensures on
    c.in_ok-open_line.ensures))
    in (rest_within c.args.text.now (c.loop-len.start + (c.in-Some.len + 1)) c.split_at.result.1.now next, next)

pub returns : goal.returns
returns c =
    let off : c.in_ok-open_line-2.open_line ≡ false = search rules in
    fails_last c.args.text.now c.loop-len.start (length c.loop-len.rest.now) c.loop-len.rest.now c.requires c.loop-len.invariant.1
    (sym c.gap_of.ensures.value ∙ none_from_not_some c.gap_of.result c.in_default.not-Some) refl
    (shut c.in_ok-open_line-2.open_line c.args.text.now c.args.text.now refl off c.in_ok-open_line-2.ensures)
