use Rattle.std.proofs.Common.{arith}
use Rattle.access_plan.proofs.PageLaws.{first_all}
use Rattle.access_plan.proofs.rounds.first_piece.Goals as goal

pub returns-clause-value : goal.returns-clause-value
returns-clause-value c =
    (first_all c.args.ops.now c.args.offset c.args.left c.min-few.result c.next.result c.cut.result c.next.new.self c.requires.good c.requires.some
    c.min-few.ensures
    (let h = c.if-offset-few.false in let m = c.min-few.ensures in let s = c.requires.some in omega (arith, h, m, s)) c.cut.ensures c.next.ensures).0

pub returns-clause-cut : goal.returns-clause-cut
returns-clause-cut c =
    (first_all c.args.ops.now c.args.offset c.args.left c.min-few.result c.next.result c.cut.result c.next.new.self c.requires.good c.requires.some
    c.min-few.ensures
    (let h = c.if-offset-few.false in let m = c.min-few.ensures in let s = c.requires.some in omega (arith, h, m, s)) c.cut.ensures c.next.ensures).1

pub returns-clause-size : goal.returns-clause-size
returns-clause-size c =
    (first_all c.args.ops.now c.args.offset c.args.left c.min-few.result c.next.result c.cut.result c.next.new.self c.requires.good c.requires.some
    c.min-few.ensures
    (let h = c.if-offset-few.false in let m = c.min-few.ensures in let s = c.requires.some in omega (arith, h, m, s)) c.cut.ensures c.next.ensures).2

pub returns-clause-most : goal.returns-clause-most
returns-clause-most c =
    (first_all c.args.ops.now c.args.offset c.args.left c.min-few.result c.next.result c.cut.result c.next.new.self c.requires.good c.requires.some
    c.min-few.ensures
    (let h = c.if-offset-few.false in let m = c.min-few.ensures in let s = c.requires.some in omega (arith, h, m, s)) c.cut.ensures c.next.ensures).3
