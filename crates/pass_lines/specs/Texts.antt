-- What the answers of a pass's lines write.
use Rattle.mem_base.specs.map.PassIds.{PassId}
use Rattle.mem_base.specs.script.Spelling.{Text}
use Rattle.mem_base.specs.script.Output.{dma_line, enter_line, leave_line, read_line, write_line}
use Rattle.pass_lines.specs.declared.answers.LineAnswer.{LineAnswer}
use Rattle.pass_lines.specs.declared.answers.LineAnswer.TheVariants as answers

abbrev pub answer_text : PassId → LineAnswer → Text
answer_text pass (answers.Entered number) = enter_line pass number
answer_text pass answers.Left = leave_line pass
answer_text pass (answers.Read access bytes) = read_line pass access bytes
answer_text pass (answers.Wrote access) = write_line pass access
answer_text pass (answers.Copied access) = dma_line pass access
