-- What the lines of the desk and of passes say, by what they got.
use Rattle.std.proofs.Common.{Ok, refl}
use Rattle.mem_base.specs.script.Tasks.{accessed, copied, entered, found, left, ordered, shown, unwatched, watched}
use Rattle.race_lines.specs.DeskLines.{LinesGoByAnswers}
use Rattle.race_lines.specs.PassLines.{LinesAreKept}

pub lines_go_by_answers : LinesGoByAnswers
lines_go_by_answers k line (Ok (ordered order name)) e number f = refl
lines_go_by_answers k line (Ok (shown s)) e number f = refl
lines_go_by_answers k line (Ok (found s addr)) e number f = refl
lines_go_by_answers k line (Ok (watched name region first last)) e number f = refl
lines_go_by_answers k line (Ok (unwatched id)) e number f = refl
lines_go_by_answers k line (Ok (accessed s addr transfer)) e number f = refl
lines_go_by_answers k line (Ok (copied from addr n to to_addr)) e number f = refl
lines_go_by_answers k line _ e number f = refl

pub lines_are_kept : LinesAreKept
lines_are_kept published pass t e = record {
  refused = λ why names line. refl;
  entered = λ names line. refl;
  left = λ names line. refl;
  reads = λ s addr n names line. refl;
  writes = λ s addr bytes names line. refl;
  copies = λ s addr n to to_addr names line. refl;
  orders = λ order name names line. refl;
}
