use Rattle.std.proofs.Common.{◌++◌, ◌∙◌, List, ℕ, take, refl, sym, inr}
use Rattle.mem_base.specs.script.RefusalLines.{refused_line, unknown_text}
use Rattle.mem_base.specs.script.Output.{read_line}
use Rattle.race_lines.specs.declared.tasks.Refused.TheVariants.{Unknown}
use Rattle.pass_lines.specs.declared.answers.LineAnswer.TheVariants as answers
use Rattle.pass_lines.proofs.LineLaws.{read_into}
use Rattle.race_block.specs.declared.tasks.PassTask.TheVariants.{Refused, Read}
use Rattle.race_block.specs.declared.tasks.LineGot.TheVariants as gots
use Rattle.race_block.proofs.PlainLaws.{then_known, then_unknown, where_ok}
use Rattle.race_block.proofs.plain.tell_read.Goals as goal

pub returns-in_default-clause-told : goal.returns-in_default-clause-told
returns-in_default-clause-told c = λ pass clerk. inr (record {
  own = record { number = c.args.number; task = Refused (Unknown c.args.space) };
  got = gots.Refused;
  task = (refl, then_unknown c.args.space.now _ _ (sym c.space.ensures.space ∙ c.in_default.is));
  done = (refl, refl, refl);
  told = λ lasted.
      where_ok c.add_unknown_line.result _ (sym c.is_ok.ensures.value ∙ lasted) c.add_unknown_line.ensures
      ∙ (λ i. c.args.text.now ++ refused_line c.args.number (unknown_text (c.as_bytes.ensures i)));
})

pub returns-clause-told : goal.returns-clause-told
returns-clause-told c = λ pass clerk.
    let bytes : List ℕ = take c.args.len c.read_first-access.new.bytes in inr (record {
      own = record { number = c.args.number; task = Read c.in-Some.from c.args.addr c.args.len };
      got = gots.ReadFew c.read_first-access.result bytes;
      task = (refl, then_known c.args.space.now _ c.in-Some.from _ (sym c.space.ensures.space ∙ c.in-Some.is));
      done = record {
        answer = answers.Read c.read_first-access.result bytes;
        is = refl;
        clerk = refl;
        does = read_into c.args.vcpu.now c.read_first-access.new.vcpu c.in-Some.from c.args.addr c.args.len c.args.len c.read_first-access.result bytes bytes
            c.requires.inside refl refl c.read_first-access.ensures;
      };
      told = λ lasted.
          where_ok c.add_read_line.result _ (sym c.is_ok-2.ensures.value ∙ lasted) c.add_read_line.ensures
          ∙ (λ i. c.args.text.now ++ read_line (c.id-pass.ensures i) c.read_first-access.result bytes);
    })
