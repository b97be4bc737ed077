use Rattle.std.proofs.Common.{rules, ◌≡◌, ◌∷◌, length}
use Rattle.race_phases.proofs.PartLaws.{all_before, around_block, around_lines, no_lines, noted_behind, noted_first, without_block}
use Rattle.race_phases.proofs.parts.parts_of.Goals as goal

pub returns-in_default : goal.returns-in_default
returns-in_default c =
    let empty : length c.split_at.result.1.now ≡ 0 = search rules in
    let none = no_lines c.split_at.result.1.now empty in record {
      lines = all_before c.args.lines.now c.split_at.result.0.now c.split_at.result.1.now c.plain_lines-first.result
          c.split_at.ensures.front c.split_at.ensures.back none;
      phases = without_block c.args.lines.now c.split_at.result.0.now c.split_at.result.1.now c.plain_lines-first.result c.plain_lines-first.ensures.value
          c.split_at.ensures.front c.split_at.ensures.back none;
      whose = search rules;
    }

pub plain_lines-inside-requires : goal.plain_lines-inside-requires
plain_lines-inside-requires c =
    let first : c.split_at.result.1.now ≡ c.in-Some.field-0-0.now ∷ c.in-Some.rest.now = search rules in
    record {
      whose = noted_behind c.args.lines.now c.split_at.result.1.now c.in-Some.rest.now c.in-Some.field-0-0.now c.args.whose.now
          c.split_at-2.result.1.now c.plain_lines-first.result c.requires.whose c.split_at-2.ensures.back c.split_at.ensures.back first;
    }

pub returns : goal.returns
returns c =
    let first : c.split_at.result.1.now ≡ c.in-Some.field-0-0.now ∷ c.in-Some.rest.now = search rules in record {
      lines = around_lines c.args.lines.now c.split_at.result.0.now c.split_at.result.1.now c.in-Some.rest.now c.split_at-3.result.0.now
          c.split_at-3.result.1.now c.after_first.result.now c.in-Some.field-0-0.now c.plain_lines-first.result c.plain_lines-inside.result
          c.plain_lines-first.ensures.value c.split_at.ensures.front c.split_at.ensures.back first c.plain_lines-inside.ensures.value
          c.split_at-3.ensures.front c.split_at-3.ensures.back c.after_first.ensures c.requires.sound;
      phases = around_block c.args.lines.now c.split_at.result.0.now c.split_at.result.1.now c.in-Some.rest.now c.split_at-3.result.0.now
          c.split_at-3.result.1.now c.after_first.result.now c.in-Some.field-0-0.now c.plain_lines-first.result c.plain_lines-inside.result
          c.plain_lines-first.ensures.value c.split_at.ensures.front c.split_at.ensures.back first c.plain_lines-inside.ensures.value
          c.split_at-3.ensures.front c.split_at-3.ensures.back c.after_first.ensures c.requires.sound;
      whose = noted_first c.in-Some.rest.now c.split_at-3.result.0.now c.split_at-2.result.1.now c.split_at-4.result.0.now c.plain_lines-inside.result
          (noted_behind c.args.lines.now c.split_at.result.1.now c.in-Some.rest.now c.in-Some.field-0-0.now c.args.whose.now c.split_at-2.result.1.now
          c.plain_lines-first.result c.requires.whose c.split_at-2.ensures.back c.split_at.ensures.back first)
          c.split_at-4.ensures.front c.split_at-3.ensures.front;
    }
