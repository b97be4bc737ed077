use Rattle.view_slots.proofs.TableLaws.{alike_keep}
use Rattle.view_slots.proofs.tables.alike_pages_keep_their_slot.Goals as goal

pub returns : goal.returns
returns c = alike_keep
