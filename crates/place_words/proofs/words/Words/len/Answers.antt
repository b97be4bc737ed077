use Rattle.std.proofs.Common.{length, sym, ap, ◌∙◌}
use Rattle.place_words.proofs.FrameLaws.{shown_length}
use Rattle.place_words.proofs.words.Words.len.Goals as goal

pub returns : goal.returns
returns c = sym (shown_length c.self.inside.table.items c.self.inside.frames.items c.self.inside.count) ∙ ap length c.self.view_is
