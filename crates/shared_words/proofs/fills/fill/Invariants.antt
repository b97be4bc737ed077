use Rattle.std.proofs.Common.{◌≡◌}
use Rattle.mem_base.specs.declared.machine.events.Hand.TheVariants.{Writer}
use Rattle.epoch_rule.specs.Rule.{KeepsHome}
use Rattle.epoch_rule.specs.Wrote.{Wrote}
use Rattle.shared_words.specs.Fills.{fills_of}
use Rattle.shared_words.proofs.fills.fill.Given as goal

-- the words before this one are cleared; before the first one nothing is done
abbrev pub invariant-loop-word : goal.invariant-loop-word
invariant-loop-word g l =
    Wrote Writer l.fn.writer.sizes l.fn.writer.seen (fills_of l.place l.word) l.writer.seen
    × (l.writer.cabinet ≡ l.fn.writer.cabinet) × (l.writer.sizes ≡ l.fn.writer.sizes) × (l.writer.out ≡ l.fn.writer.out)
    × KeepsHome l.fn.writer.out l.fn.writer.seen l.writer.seen
    × (l.word ≡ 0 → l.writer ≡ l.fn.writer)
