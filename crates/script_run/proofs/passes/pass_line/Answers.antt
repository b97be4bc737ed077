use Rattle.std.proofs.Common.{◌≡◌, ap, refl, sym, subst, ◌∙◌, Ok, Err}
use Rattle.mem_base.specs.script.States.{Outcome}
use Rattle.mem_base.specs.script.Tasks.{task_of}
use Rattle.run_laws.specs.KnownNames.{IsPassTask}
use Rattle.run_laws.specs.TaskSteps.{pass_step}
use Rattle.race_lines.specs.LineTasks.{resolved}
use Rattle.script_run.specs.Adding.{Adds}
use Rattle.script_run.specs.Asking.{FitsTask}
use Rattle.script_run.proofs.FittingLaws.{task_fits}
use Rattle.script_run.proofs.RunLaws.{passes_line}
use Rattle.script_run.proofs.Writing.{on_ok}
use Rattle.script_run.proofs.passes.pass_line.Goals as goal

pub do_task-requires-clause-fits : goal.do_task-requires-clause-fits
do_task-requires-clause-fits g c =
    let is : resolved (Ok c.in-Ok.task) ≡ task_of c.args.known.now c.args.command.now = sym (ap resolved c.in-Ok.is) ∙ c.in_ok-task.ensures.is in
    subst FitsTask (sym is) (task_fits c.args.known.now c.args.command.now c.requires.fits)

pub do_task-requires-clause-change : goal.do_task-requires-clause-change
do_task-requires-clause-change g c =
    let r = c.requires in
    let is : resolved (Ok c.in-Ok.task) ≡ task_of c.args.known.now c.args.command.now = sym (ap resolved c.in-Ok.is) ∙ c.in_ok-task.ensures.is in
    subst IsPassTask (sym is)
    (passes_line c.args.known.now (g.M.Machine.world c.args.machine.now) c.args.number c.args.command.now c.args.pass r.ready r.fits r.actor
    c.knows_bound.ensures r.par r.end).known

pub returns-in-Ok : goal.returns-in-Ok
returns-in-Ok g c =
    let r = c.requires in
    let k = c.args.known.now in
    let w = g.M.Machine.world c.args.machine.now in
    let line = passes_line k w c.args.number c.args.command.now c.args.pass r.ready r.fits r.actor c.knows_bound.ensures r.par r.end in
    let is : resolved (Ok c.in-Ok.task) ≡ task_of k c.args.command.now = sym (ap resolved c.in-Ok.is) ∙ c.in_ok-task.ensures.is in
    on_ok c.do_task.result c.do_task.ensures
    (subst (λ (x : Outcome). Adds c.args.text.now c.do_task.new.text x k (g.M.Machine.world c.do_task.new.machine))
    (ap (pass_step k w c.args.pass c.args.number) is ∙ sym line.does))

pub returns : goal.returns
returns g c =
    let r = c.requires in
    let k = c.args.known.now in
    let w = g.M.Machine.world c.args.machine.now in
    let line = passes_line k w c.args.number c.args.command.now c.args.pass r.ready r.fits r.actor c.knows_bound.ensures r.par r.end in
    let is : resolved (Err c.in-Err.why) ≡ task_of k c.args.command.now = sym (ap resolved c.in-Err.is) ∙ c.in_ok-task.ensures.is in
    on_ok c.add_name_refused.result c.add_name_refused.ensures (λ t.
    subst (λ (x : Outcome). Adds c.args.text.now c.add_name_refused.new.line x k w)
    (ap (pass_step k w c.args.pass c.args.number) is ∙ sym line.does) (record { text = t; is = refl; ready = r.ready }))
