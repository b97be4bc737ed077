use Rattle.std.proofs.Common.{ap, sym, ◌∙◌, drop}
use Rattle.std.proofs.lemmas.List.{drop-drop}
use Rattle.monitor_text.proofs.LineLaws.{until_at}
use Rattle.monitor_text.proofs.cursor.cut_at.Goals as goal

pub returns : goal.returns
returns c =
    until_at c.args.byte c.args.text.now c.split_at.result.0.now c.split_at-2.result.1.now c.in_ok-end.end (sym c.first_at.ensures.value ∙ c.in_ok-end.was)
    c.split_at.ensures.front (c.split_at-2.ensures.back ∙ ap (drop 1) c.split_at.ensures.back ∙ drop-drop 1 c.in_ok-end.end c.args.text.now)
