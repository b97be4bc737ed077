use Rattle.std.proofs.Common.{sym, ap, ◌∙◌, ◌-◌, ◌/◌, drop, arith, false, drop_of_length-le}
use Rattle.std.proofs.lemmas.List.{length-set}
use Rattle.std.specs.Fmt.{digits_onto}
use Rattle.std.proofs.DigitsParse.{digits_onto-nil, digits_onto_last, digits_onto_step, drop-set-cons}
use Rattle.script_lines.proofs.numbers.fill_decimal.Goals as goal

pub loop-start-init : goal.loop-start-init
loop-start-init c = (
  omega arith,
  c.told-digits,
  ap (digits_onto 64 10 false c.args.number) (drop_of_length-le c.args.digits.now {i = 64} (omega (arith, c.told-digits)))
      ∙ digits_onto-nil 10 false c.args.number,
)

pub loop-start-preserved : goal.loop-start-preserved
loop-start-preserved c =
    let l = c.loop-start in
    let kept = length-set l.digits (l.start - 1) c.glyph.result ∙ l.invariant.1 in
    let written = ap (digits_onto (l.start - 1) 10 false (l.rest / 10))
    (drop-set-cons l.digits l.start c.glyph.result _ c.loop-start-test.true (omega (arith, l.invariant.0, l.invariant.1)) c.glyph.ensures) in (
      omega (arith, l.invariant.0),
      kept,
      written
          ∙ sym (digits_onto_step 10 false l.rest (drop l.start l.digits) l.start c.loop-start-test.true c.if-rest-eq0.false) ∙ l.invariant.2,
    )

pub returns-then-rest-eq0 : goal.returns-then-rest-eq0
returns-then-rest-eq0 c =
    let l = c.loop-start in
    let written = drop-set-cons l.digits l.start c.glyph.result _ c.loop-start-test.true (omega (arith, l.invariant.0, l.invariant.1)) c.glyph.ensures in
    record {
      bound = omega (arith, l.invariant.0);
      value = written
          ∙ sym (digits_onto_last 10 false l.rest (drop l.start l.digits) l.start c.loop-start-test.true c.if-rest-eq0.true) ∙ l.invariant.2;
    }
