use Rattle.std.proofs.Common.{◌≡◌, ap, sym, ◌∙◌, ℕ}
use Rattle.mem_base.specs.machine.World.{World}
use Rattle.mem_base.specs.machine.History.{run_events}
use Rattle.mem_base.specs.machine.Composites.{is_entered, enters, enters_anew}
use Rattle.mem_base.specs.script.Output.{enter_line}
use Rattle.mem_base.specs.script.PassSteps.{enter, entered_number}
use Rattle.mem_base.specs.script.States.{outcome}
use Rattle.run_laws.specs.TaskSteps.{known_state}
use Rattle.world_laws.proofs.PassKeeping.{keeps_then}
use Rattle.script_run.proofs.PassLaws.{anew, entered_as, pass_adds}
use Rattle.script_run.proofs.Writing.{on_ok}
use Rattle.script_run.proofs.passes.enter.Goals as goal

pub returns : goal.returns
returns g c =
    let w = g.M.Machine.world c.args.machine.now in
    let pass = c.args.pass in
    let u = g.M.Machine.world c.leave_first.new.machine in
    let v = g.M.Machine.world c.enter-generation.new.self in
    let l = c.leave_first.ensures in
    let e = c.enter-generation.ensures in
    let whole : (run_events w (enters_anew (is_entered w pass) pass)).world ≡ v =
    sym (anew w pass (is_entered w pass)) ∙ ap (λ (x : World). (run_events x (enters pass)).world) (sym l.after) ∙ sym e.after in
    let number : entered_number v pass ≡ c.enter-generation.result =
    ap (λ (x : World). entered_number x pass) e.after ∙ entered_as u pass l.outside ∙ sym e.number in
    on_ok c.add_enter_line.result c.add_enter_line.ensures
    (pass_adds c.args.text.now c.add_enter_line.new.line _ w v (λ s. enter s pass) (keeps_then w u v l.keeps e.keeps)
    (λ k. ap (λ (x : World). outcome (known_state k w) k.names x (enter_line pass (entered_number x pass))) whole
    ∙ ap (λ (n : ℕ). outcome (known_state k w) k.names v (enter_line pass n)) number))
