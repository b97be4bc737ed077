use Rattle.std.proofs.Common.{◌≡◌, ◌/◌, ◌<◌, ℕ, List, length, sym, ap, ◌∙◌, subst, arith}
use Rattle.std.specs.Prelude.{slice_index}
use Rattle.std.proofs.lemmas.List.{get_or_read}
use Rattle.std.specs.Vec.{vec_capacity}
use Rattle.place_words.specs.Frames.{spot}
use Rattle.place_words.proofs.FrameLaws.{count_is, entry_is, spot_within, shown_at}
use Rattle.place_words.proofs.words.Words.word_at.Goals as goal

pub spot_of-requires-clause-entry : goal.spot_of-requires-clause-entry
spot_of-requires-clause-entry c =
    let own = c.self.inside in
    let l = entry_is own.table.items own.frames.items c.args.self.now own.count c.args.at c.self.view_is c.self.invariant.0 c.requires in
    subst (λ (table : List ℕ). c.args.at / 512 < length table) (sym c.deref.ensures.value) l

pub returns : goal.returns
returns c =
    let own = c.self.inside in
    let at : ℕ = c.args.at in
    let table : List ℕ = own.table.items in
    let whole : length c.args.self.now ≡ own.count = count_is table own.frames.items c.args.self.now own.count c.self.view_is in
    let l : at / 512 < length table = entry_is table own.frames.items c.args.self.now own.count at c.self.view_is c.self.invariant.0 c.requires in
    let there : c.spot_of.result ≡ spot table at = rw c.deref.ensures.value at c.spot_of.ensures in
    let within : spot table at < length own.frames.items = spot_within table own.frames.items (vec_capacity own.frames) at c.self.invariant.1 l in
    get_or_read own.frames.items (spot table at) c.index.result.now within (rw there at c.index.ensures) 0
    ∙ sym (shown_at table own.frames.items own.count at (omega (arith, c.requires)))
    ∙ ap (λ (ws : List ℕ). slice_index ws at) c.self.view_is
