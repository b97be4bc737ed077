use Rattle.std.proofs.Common.{◌≡◌, ◌++◌, drop}
use Rattle.mem_base.specs.script.Output.{page_list}
use Rattle.script_lines.proofs.accesses.add_page_list.Given as goal

abbrev pub invariant-loop-page : goal.invariant-loop-page
invariant-loop-page l = l.line ++ page_list (drop l.page-index l.pages) ≡ l.fn.line ++ page_list l.pages
