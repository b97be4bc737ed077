use Rattle.std.proofs.Common.{rules, ◌≡◌, false, [], Some, sym, ap, subst}
use Rattle.std.specs.Prelude.{IfSome, option_map}
use Rattle.std.specs.Arc.{arc_value}
use Rattle.mem_base.specs.machine.Committed.{transaction}
use Rattle.transact.specs.Desks.{IsDesk, desk_state}
use Rattle.transact.specs.Preparing.{IsOfDesk}
use Rattle.transact.specs.Spares.{IsNext}
use Rattle.transact.specs.declared.spare.Next.{Next}
use Rattle.transact.proofs.DeskLaws.{done_desk, next_tree, next_call, next_lacks}
use Rattle.transact.proofs.desk.Desk.done.Goals as goal

pub replace-requires-clause-call : goal.replace-requires-clause-call
replace-requires-clause-call c =
    let d = desk_state (transaction c.self.inside.tree c.self.inside.depth c.self.inside.pending) (arc_value c.self.inside.current) in
    let r = c.args.prepared in
    let of_it : IsOfDesk d r = search rules in
    let call : r.call ≡ option_map (λ (n : Next). n.call) c.prepared.inside.next = search rules in
    let next : IfSome c.prepared.inside.next (IsNext r.generation.forest) = search rules in
    next_call d r c.prepared.inside.next of_it call next

pub replace-requires-clause-next : goal.replace-requires-clause-next
replace-requires-clause-next c = next_lacks (arc_value c.prepared.inside.generation).forest c.prepared.inside.next c.prepared.invariant.1

pub invariant_of-self : goal.invariant_of-self
invariant_of-self c =
    let d = desk_state (transaction c.self.inside.tree c.self.inside.depth c.self.inside.pending) (arc_value c.self.inside.current) in
    let r = c.args.prepared in
    let same : r.generation ≡ arc_value c.prepared.inside.generation = search rules in
    let of_it : IsOfDesk d r = search rules in
    let call : r.call ≡ option_map (λ (n : Next). n.call) c.prepared.inside.next = search rules in
    let next : IfSome c.prepared.inside.next (IsNext r.generation.forest) = search rules in
    let none : Some [] ≡ Some c.none.result = ap (λ rs. Some rs) (sym c.none.ensures) in
    subst (λ noted. IsDesk (desk_state (transaction c.replace.new.tree 0 false) (arc_value c.prepared.inside.generation)) c.prepared.inside.reached.items
    noted c.replace.new.spare) none
    (subst (λ g. IsDesk (desk_state (transaction c.replace.new.tree 0 false) g) c.prepared.inside.reached.items (Some []) c.replace.new.spare) same
    (done_desk d r c.replace.new.tree c.self.inside.reached.items c.prepared.inside.reached.items c.self.inside.noted c.self.inside.spare c.replace.new.spare
    c.self.invariant of_it (search rules) (next_tree d r c.prepared.inside.next c.replace.new.tree of_it call next c.replace.ensures.tree)
    (search rules) c.replace.ensures.spare))
