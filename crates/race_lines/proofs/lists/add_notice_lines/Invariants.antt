use Rattle.std.proofs.Common.{◌≡◌, ◌++◌, drop}
use Rattle.mem_base.specs.script.Output.{notice_lines}
use Rattle.script_names.specs.Tables.{printed_names}
use Rattle.race_lines.proofs.lists.add_notice_lines.Given as goal

abbrev pub invariant-loop-watcher : goal.invariant-loop-watcher
invariant-loop-watcher l =
    l.line ++ notice_lines (printed_names l.names) (drop l.watcher-index l.notices) ≡ l.fn.line ++ notice_lines (printed_names l.names) l.notices
