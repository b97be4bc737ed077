use Rattle.std.proofs.Common.{◌≡◌, ap, sym, ◌∙◌}
use Rattle.mem_base.specs.map.Touched.{reached}
use Rattle.change_laws.specs.Meeting.{is_among}
use Rattle.touched_spaces.proofs.TouchedLaws.{known_reach, either_first, either_second, touches_where}
use Rattle.touched_spaces.proofs.regions.is_touching.Goals as goal

pub returns-then-is_known : goal.returns-then-is_known
returns-then-is_known c =
    let f = c.args.old.now in
    let g = c.args.new.now in
    let s = c.args.space in
    let r = c.args.region in
    let where_it_is = touches_where f g s r c.differs.result c.differs.ensures c.if-not-differs.false in
    let known : c.is_known.result ≡ is_among (reached f s) r =
    c.is_known.ensures ∙ ap (λ rs. is_among rs r) (known_reach f s c.args.known.now c.requires.known) in
    either_first _ _ _ _ (sym where_it_is) known c.if-is_known.true

pub returns-else-is_known : goal.returns-else-is_known
returns-else-is_known c =
    let f = c.args.old.now in
    let g = c.args.new.now in
    let s = c.args.space in
    let r = c.args.region in
    let where_it_is = touches_where f g s r c.differs.result c.differs.ensures c.if-not-differs.false in
    let known : c.is_known.result ≡ is_among (reached f s) r =
    c.is_known.ensures ∙ ap (λ rs. is_among rs r) (known_reach f s c.args.known.now c.requires.known) in
    let now : c.has.result ≡ is_among (reached g s) r = c.has.ensures ∙ ap (λ rs. is_among rs r) c.requires.reach in
    either_second _ _ _ _ _ (sym where_it_is) known c.if-is_known.false now
