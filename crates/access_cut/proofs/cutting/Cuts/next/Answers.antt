use Rattle.std.proofs.Common.{◌∷◌, ◌-◌, sym, ap, ◌∙◌, rules}
use Rattle.mem_base.specs.access.Pieces.{pieces}
use Rattle.access_cut.proofs.PieceLaws.{next_cut}
use Rattle.access_cut.proofs.cutting.Cuts.next.Goals as goal

pub returns : goal.returns
returns c =
    let own = c.self.inside in
    let p = c.piece_at-piece.result in
    let next = c.saturating_add-self-inside.result in
    sym c.self.view_is
    ∙ next_cut own.ops own.offset own.left p.size next c.self.invariant.1 (sym (ap (λ q. q.size) c.piece_at-piece.ensures.value))
    c.piece_at-piece.ensures.some c.piece_at-piece.ensures.bound (search rules)
    ∙ ap (λ q. q ∷ pieces own.ops next (own.left - p.size)) (sym c.piece_at-piece.ensures.value)
    ∙ ap (λ n. p ∷ pieces own.ops next (own.left - n)) (sym c.from-2.ensures)
