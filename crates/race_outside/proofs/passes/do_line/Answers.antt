use Rattle.std.proofs.Common.{◌≡◌, length, sym, ◌∙◌}
use Rattle.race_outside.proofs.PassLaws.{if_done, on_nothing}
use Rattle.race_outside.proofs.PlaceLaws.{changed_by, has_room, same_count}
use Rattle.race_outside.proofs.passes.do_line.Goals as goal

pub returns-clause-done : goal.returns-clause-done
returns-clause-done g c =
    let taken = c.remove-vcpu.ensures in
    let put = c.insert.ensures in
    let fits = put.succeeds (has_room c.args.cpus.now.len c.remove-vcpu.new.self.len c.remove-vcpu.new.self.cap c.args.cpus.now.cap taken.len taken.capacity
    c.args.cpus.now.ok.1) in
    let count : length c.insert.new.self.items ≡ length c.args.cpus.now.items = sym c.insert.new.self.ok.0
    ∙ same_count _ c.args.cpus.now.len c.remove-vcpu.new.self.len c.insert.new.self.len fits taken.len put.len ∙ c.args.cpus.now.ok.0 in
    if_done c.do_task-vcpu.result.2 c.args.who c.args.desk.now c.args.cpus.now.items c.args.task.now c.do_task-vcpu.new.desk c.insert.new.self.items
    c.remove-vcpu.result c.do_task-vcpu.result.0 c.do_task-vcpu.ensures.done
    (changed_by c.args.who c.args.cpus.now.items c.remove-vcpu.new.self.items c.insert.new.self.items c.remove-vcpu.result c.do_task-vcpu.result.0
    c.requires.near taken.value taken.by_index.0 taken.by_index.1 (λ d. put.by_index.0 d fits) put.by_index.1 (λ k d. put.by_index.2 k d fits) count)

pub returns-clause-err : goal.returns-clause-err
returns-clause-err g c =
    let taken = c.remove-vcpu.ensures in
    let put = c.insert.ensures in
    let fits = put.succeeds (has_room c.args.cpus.now.len c.remove-vcpu.new.self.len c.remove-vcpu.new.self.cap c.args.cpus.now.cap taken.len taken.capacity
    c.args.cpus.now.ok.1) in
    let count : length c.insert.new.self.items ≡ length c.args.cpus.now.items = sym c.insert.new.self.ok.0
    ∙ same_count _ c.args.cpus.now.len c.remove-vcpu.new.self.len c.insert.new.self.len fits taken.len put.len ∙ c.args.cpus.now.ok.0 in
    on_nothing c.do_task-vcpu.result.2 c.args.who c.args.desk.now c.args.cpus.now.items c.do_task-vcpu.new.desk c.insert.new.self.items
    c.remove-vcpu.result c.do_task-vcpu.result.0 c.do_task-vcpu.ensures.err
    (changed_by c.args.who c.args.cpus.now.items c.remove-vcpu.new.self.items c.insert.new.self.items c.remove-vcpu.result c.do_task-vcpu.result.0
    c.requires.near taken.value taken.by_index.0 taken.by_index.1 (λ d. put.by_index.0 d fits) put.by_index.1 (λ k d. put.by_index.2 k d fits) count)
