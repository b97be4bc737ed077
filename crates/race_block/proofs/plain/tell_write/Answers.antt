use Rattle.std.proofs.Common.{◌++◌, ◌∙◌, List, ℕ, refl, sym, subst, inr}
use Rattle.mem_base.specs.access.AccessSteps.{writing}
use Rattle.mem_base.specs.script.RefusalLines.{refused_line, unknown_text}
use Rattle.mem_base.specs.script.Tasks.{accessed}
use Rattle.race_lines.specs.declared.tasks.Refused.TheVariants.{Unknown}
use Rattle.pass_lines.specs.Doing.{DoesLine}
use Rattle.pass_lines.specs.Texts.{answer_text}
use Rattle.race_block.specs.declared.tasks.PassTask.TheVariants.{Refused, Write}
use Rattle.race_block.specs.declared.tasks.LineGot.TheVariants as gots
use Rattle.race_block.proofs.PlainLaws.{then_known, then_unknown, where_ok}
use Rattle.race_block.proofs.plain.tell_write.Goals as goal

pub returns-in_default-clause-told : goal.returns-in_default-clause-told
returns-in_default-clause-told g c = λ pass clerk. inr (record {
  own = record { number = c.args.number; task = Refused (Unknown c.args.space) };
  got = gots.Refused;
  task = (refl, then_unknown c.args.space.now _ _ (sym c.space.ensures.space ∙ c.in_default.is));
  done = (refl, refl, refl);
  told = λ lasted.
      where_ok c.add_unknown_line.result _ (sym c.is_ok.ensures.value ∙ lasted) c.add_unknown_line.ensures
      ∙ (λ i. c.args.text.now ++ refused_line c.args.number (unknown_text (c.as_bytes.ensures i)));
})

pub returns-clause-told : goal.returns-clause-told
returns-clause-told g c = λ pass clerk. inr (record {
  own = record { number = c.args.number; task = Write c.in-Some.to c.args.addr c.args.bytes };
  got = gots.Answered c.write-answer.result;
  task = (refl, then_known c.args.space.now _ c.in-Some.to _ (sym c.space.ensures.space ∙ c.in-Some.is));
  done = record {
    answer = c.write-answer.result;
    is = refl;
    clerk = refl;
    does = subst (λ (bs : List ℕ). DoesLine c.args.vcpu.now (accessed c.in-Some.to c.args.addr (writing bs)) c.write-answer.result c.write-answer.new.vcpu)
        c.as_slice.ensures c.write-answer.ensures;
  };
  told = λ lasted.
      where_ok c.add_answer.result _ (sym c.is_ok-2.ensures.value ∙ lasted) c.add_answer.ensures
      ∙ (λ i. c.args.text.now ++ answer_text (c.id-pass.ensures i) c.write-answer.result);
})
