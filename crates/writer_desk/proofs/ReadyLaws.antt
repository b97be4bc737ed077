-- What an event makes ready to be published is what the machine's definitions make of it, once the listeners are told.
use Rattle.std.proofs.Common.{◌≡◌, ◌==◌, ◌-◌, true, false, not, Option, Some, None, Ok, refl, sym, ap, ◌∙◌}
use Rattle.std.specs.Prelude.{◌&&◌, if◌then◌else◌, Result}
use Rattle.mem_base.specs.declared.map.forests.Forest.{Forest}
use Rattle.mem_base.specs.declared.map.calls.Call.{Call}
use Rattle.mem_base.specs.declared.map.calls.Call.TheVariants as calls
use Rattle.mem_base.specs.declared.map.calls.Applied.{Applied}
use Rattle.mem_base.specs.declared.map.calls.Applied.TheVariants.{Done}
use Rattle.mem_base.specs.declared.map.calls.Config.TheVariants as configs
use Rattle.mem_base.specs.declared.map.refusals.Refusal.{Refusal}
use Rattle.mem_base.specs.declared.map.refusals.Refusal.TheVariants.{NoTransaction}
use Rattle.mem_base.specs.map.Calls.{after, answer_of, is_quiet}
use Rattle.mem_base.specs.views.Listening.{Listening, ascending, changes_between, delivered}
use Rattle.mem_base.specs.machine.Generations.{Generations}
use Rattle.mem_base.specs.machine.Desk.{Desk}
use Rattle.mem_base.specs.machine.Publishing.{Settled, settled, readied, refused_desk, unless_refused, publishing, held_up, current_forest}
use Rattle.mem_base.specs.machine.Configs.{configured, after_call, kept_back}
use Rattle.transact.specs.Preparing.{Readied, heard_by}
use Rattle.transact.specs.Backed.{BackedState, forest_at}
use Rattle.writer_desk.specs.Writers.{writer_state, Beside, desk_of, beside_by, settled_as}
use Rattle.writer_desk.proofs.HeardLaws.{delivered_heard}

-- a call that is no quiet one makes no region and drops none

same_beside : (bk : BackedState) (b : Beside) (call : Call) → is_quiet call ≡ false → beside_by bk b (configs.Call call) ≡ b
same_beside bk b (calls.Region kind size) h = cc
same_beside bk b (calls.Drop r) h = cc
same_beside bk b _ h = refl

plain_answer : (f : Forest) (call : Call) → is_quiet call ≡ false → answer_of f call ≡ Done
plain_answer f (calls.Region kind size) h = cc
plain_answer f _ h = refl

module _ (bk : BackedState) (li : Listening) (r : Readied)
    (told : r.changes ≡ heard_by (ascending li.listeners) (changes_between bk.desk.current.forest r.generation.forest)) where
  -- the desk as it stands, nothing due
  abbrev now : Beside → Desk
  now b = desk_of (writer_state bk li None) b

  -- the desk with the listeners told, and what is answered
  abbrev due_at : Listening → Beside → Applied → Settled
  due_at x b a = settled_as (desk_of (writer_state bk x (Some r)) b) (Ok a)

  -- the listeners are told what they hear of the changes from the current generation
  all_told : (g : Generations) → current_forest g ≡ bk.desk.current.forest
      → delivered li (changes_between (current_forest g) r.generation.forest) ≡ delivered li r.changes
  all_told g here =
      ap (λ (f : Forest). delivered li (changes_between f r.generation.forest)) here
      ∙ sym (delivered_heard li (changes_between bk.desk.current.forest r.generation.forest))
      ∙ ap (λ cs. delivered li cs) (sym told)

  -- a publish that no pass holds up
  published : (g : Generations) (b : Beside) (a : Applied) → current_forest g ≡ bk.desk.current.forest → held_up g ≡ None
      → publishing g (now b) r.generation.forest a ≡ due_at (delivered li r.changes) b a
  published g b a here free =
      ap (λ (o : Option Refusal). unless_refused o (now b) (settled (readied g (now b) r.generation.forest) a)) free
      ∙ ap (λ (x : Listening). due_at x b a) (all_told g here)

  pub call_published : (call : Call) (g : Generations) (b : Beside) → current_forest g ≡ bk.desk.current.forest → held_up g ≡ None
      → (bk.desk.state.depth == 0) ≡ true → is_quiet call ≡ false → after (forest_at bk) call ≡ Ok r.generation.forest
      → configured g (now b) (configs.Call call) ≡ due_at (delivered li r.changes) (beside_by bk b (configs.Call call)) Done
  call_published call g b here free outside change done =
      ap (λ (x : Result Forest Refusal). after_call g (now b) call x) done
      ∙ (λ i. if outside i && not (change i) then publishing g (now b) r.generation.forest (answer_of (forest_at bk) call)
      else kept_back (now b) call r.generation.forest)
      ∙ published g b (answer_of (forest_at bk) call) here free
      ∙ (λ i. due_at (delivered li r.changes) (sym (same_beside bk b call change) i) (plain_answer (forest_at bk) call change i))

  pub commit_published : (g : Generations) (b : Beside) → current_forest g ≡ bk.desk.current.forest → held_up g ≡ None
      → bk.desk.state.depth ≡ 1 → bk.desk.state.pending ≡ true → r.generation.forest ≡ forest_at bk
      → configured g (now b) configs.Commit ≡ due_at (delivered li r.changes) b Done
  commit_published g b here free outermost pending own =
      (λ i. if outermost i == 0 then refused_desk (now b) NoTransaction
      else if (outermost i == 1) && pending i then publishing g (now b) (sym own i) Done
      else settled (record (now b) { depth = bk.desk.state.depth - 1 }) Done)
      ∙ published g b Done here free
