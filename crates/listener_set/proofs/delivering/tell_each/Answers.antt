use Rattle.std.proofs.Common.{◌+◌, ◌++◌, sym, ap, ◌∙◌, length, vec_len, arith}
use Rattle.listener_set.proofs.DeliveringLaws.{each_up, each_down}
use Rattle.listener_set.proofs.delivering.tell_each.Goals as goal

pub tell_down-requires : goal.tell_down-requires
tell_down-requires c =
    let same = ap length (each_down c.args.space c.args.event c.args.order.now (sym c.goes_down.ensures ∙ c.if-goes_down.true)) in
    let r = c.requires in omega arith

pub tell_up-requires : goal.tell_up-requires
tell_up-requires c =
    let same = ap length (each_up c.args.space c.args.event c.args.order.now (sym c.goes_down.ensures ∙ c.if-goes_down.false)) in
    let r = c.requires in omega arith

pub returns-then-goes_down-clause-items : goal.returns-then-goes_down-clause-items
returns-then-goes_down-clause-items c =
    c.tell_down.ensures.items ∙ ap (λ x. c.args.journal.now.items ++ x)
    (sym (each_down c.args.space c.args.event c.args.order.now (sym c.goes_down.ensures ∙ c.if-goes_down.true)))

pub returns-then-goes_down-clause-len : goal.returns-then-goes_down-clause-len
returns-then-goes_down-clause-len c =
    c.tell_down.ensures.len ∙ ap (λ x. vec_len c.args.journal.now + length x)
    (sym (each_down c.args.space c.args.event c.args.order.now (sym c.goes_down.ensures ∙ c.if-goes_down.true)))

pub returns-else-goes_down-clause-items : goal.returns-else-goes_down-clause-items
returns-else-goes_down-clause-items c =
    c.tell_up.ensures.items ∙ ap (λ x. c.args.journal.now.items ++ x)
    (sym (each_up c.args.space c.args.event c.args.order.now (sym c.goes_down.ensures ∙ c.if-goes_down.false)))

pub returns-else-goes_down-clause-len : goal.returns-else-goes_down-clause-len
returns-else-goes_down-clause-len c =
    c.tell_up.ensures.len ∙ ap (λ x. vec_len c.args.journal.now + length x)
    (sym (each_up c.args.space c.args.event c.args.order.now (sym c.goes_down.ensures ∙ c.if-goes_down.false)))
