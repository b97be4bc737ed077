use Rattle.std.proofs.Common.{◌≡◌, is_ok, true, ◌∙◌, arith}
use Rattle.backing_pool.proofs.EditLaws.{lengthened, inserted, inserted_first}
use Rattle.backing_pool.proofs.holes.put_at.Goals.{then-at-gt0+else-first-length, else-at-gt0}
use Rattle.backing_pool.proofs.holes.put_at.Goals as goal

pub returns-then-first-length-clause-items : goal.returns-then-first-length-clause-items
returns-then-first-length-clause-items c =
    lengthened c.args.start c.args.words c.args.holes.now.items c.args.at _ _ c.if-at-gt0.true c.requires.within c.index.ensures c.if-first-length.true

pub returns-clause-items : goal.returns-clause-items
returns-clause-items c =
    let ok : is_ok c.insert.result ≡ true = c.insert.ensures.succeeds c.requires.room in
    let items = rw ok at c.insert.ensures.items in
    items ∙ elim c.if-at-gt0.branch [
      | then-at-gt0+else-first-length w ↦ inserted c.args.start c.args.words c.args.holes.now.items c.args.at _ _ w.if-at-gt0.true c.requires.within
          w.index.ensures w.if-first-length.false
      | else-at-gt0 w ↦ inserted_first c.args.start c.args.words c.args.holes.now.items c.args.at (omega (arith, w.if-at-gt0.false))
    ]
