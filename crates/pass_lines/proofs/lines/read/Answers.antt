use Rattle.std.proofs.Common.{rules, ◌≡◌, length, ◌∙◌}
use Rattle.std.proofs.lemmas.List.{with_items_is, places}
use Rattle.pass_lines.proofs.LineLaws.{read_into}
use Rattle.pass_lines.proofs.lines.read.Goals as goal

pub returns-clause-done : goal.returns-clause-done
returns-clause-done c =
    let same : length c.as_mut_slice.result.now ≡ c.args.len = search rules in
    let filled = with_items_is c.in_ok-bytes.bytes c.read-access.new.out (search (rules, places)) in
    read_into c.args.vcpu.now c.read-access.new.self c.args.space c.args.addr c.args.len (length c.as_mut_slice.result.now) c.read-access.result
    c.new-bytes.result c.read-access.new.out c.requires.inside same (c.new-bytes.ensures ∙ filled) c.read-access.ensures
