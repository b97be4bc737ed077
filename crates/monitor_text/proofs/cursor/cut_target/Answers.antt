use Rattle.std.proofs.Common.{ap, sym, ◌∙◌, drop}
use Rattle.std.proofs.lemmas.List.{drop-drop}
use Rattle.monitor_text.proofs.LineLaws.{until_target_at}
use Rattle.monitor_text.proofs.cursor.cut_target.Goals as goal

pub returns : goal.returns
returns c =
    until_target_at c.args.text.now c.split_at.result.0.now c.split_at-2.result.1.now c.in_ok-end.end (sym c.target_at.ensures.value ∙ c.in_ok-end.was)
    c.split_at.ensures.front (c.split_at-2.ensures.back ∙ ap (drop 2) c.split_at.ensures.back ∙ drop-drop 2 c.in_ok-end.end c.args.text.now)
