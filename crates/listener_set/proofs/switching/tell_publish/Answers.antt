use Rattle.std.proofs.Common.{◌++◌, ◌∙◌, ap, sym, arith, append_assoc}
use Rattle.std.specs.Prelude.{flat_map, filter, None}
use Rattle.mem_base.specs.declared.views.listening.ListenerEvent.TheVariants.{Begin, Commit}
use Rattle.mem_base.specs.views.Listening.{deliver_each, deliveries_of}
use Rattle.listener_set.specs.Sets.{is_told}
use Rattle.listener_set.proofs.SwitchingLaws.{publish_cut, publish_length}
use Rattle.listener_set.proofs.switching.tell_publish.Goals as goal

pub tell_each-requires : goal.tell_each-requires
tell_each-requires c =
    let cut = publish_length c.args.order.now c.args.changes.now in
    let r = c.requires in omega arith

pub tell_changes-requires : goal.tell_changes-requires
tell_changes-requires c =
    let cut = publish_length c.args.order.now c.args.changes.now in
    let r = c.requires in let n = c.tell_each.ensures.len in let m = c.tell_each.ensures.room in omega arith

pub tell_each-requires-2 : goal.tell_each-requires-2
tell_each-requires-2 c =
    let cut = publish_length c.args.order.now c.args.changes.now in
    let r = c.requires in let n = c.tell_each.ensures.len in let m = c.tell_each.ensures.room in
    let o = c.tell_changes.ensures.len in let p = c.tell_changes.ensures.room in omega arith

pub returns-clause-items : goal.returns-clause-items
returns-clause-items c =
    let begin = deliver_each (filter (is_told None) c.args.order.now) Begin in
    let told = flat_map (deliveries_of c.args.order.now) c.args.changes.now in
    let commit = deliver_each (filter (is_told None) c.args.order.now) Commit in
    c.tell_each-2.ensures.items ∙ ap (λ x. x ++ commit) (c.tell_changes.ensures.items ∙ ap (λ x. x ++ told) c.tell_each.ensures.items)
    ∙ ap (λ x. x ++ commit) (append_assoc c.args.journal.now.items begin told) ∙ append_assoc c.args.journal.now.items (begin ++ told) commit
    ∙ ap (λ x. c.args.journal.now.items ++ x) (sym (publish_cut c.args.order.now c.args.changes.now))

pub returns-clause-len : goal.returns-clause-len
returns-clause-len c =
    let cut = publish_length c.args.order.now c.args.changes.now in
    let n = c.tell_each.ensures.len in let o = c.tell_changes.ensures.len in let p = c.tell_each-2.ensures.len in omega arith
