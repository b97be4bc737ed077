-- Each command of a run does what its task says.
use Rattle.std.proofs.Common.{◌≡◌, ◌<◌, ℕ, Bool, true, false, List, [], length, Option, Some, None, Result, Ok, Err}
use Rattle.std.proofs.Common.{refl, sym, ap, subst, ◌∙◌, inl, inr, if◌then◌else◌}
use Rattle.std.specs.Prelude.{is_some, unwrap_or, ℤ}
use Rattle.mem_base.specs.declared.map.ids.RegionId.{RegionId}
use Rattle.mem_base.specs.declared.map.ids.SpaceId.{SpaceId}
use Rattle.mem_base.specs.map.PassIds.{PassId}
use Rattle.mem_base.specs.declared.map.ids.ListenerId.{ListenerId}
use Rattle.mem_base.specs.declared.map.kinds.Kind.{Kind}
use Rattle.mem_base.specs.declared.map.kinds.Kind.TheVariants as kinds
use Rattle.mem_base.specs.declared.map.kinds.Client.{Client}
use Rattle.mem_base.specs.declared.map.calls.Applied.{Applied}
use Rattle.mem_base.specs.declared.map.calls.Call.{Call}
use Rattle.mem_base.specs.declared.map.calls.Call.TheVariants as calls
use Rattle.mem_base.specs.declared.map.calls.Config.TheVariants as configs
use Rattle.mem_base.specs.declared.map.refusals.Refusal.{Refusal}
use Rattle.mem_base.specs.declared.machine.records.DeskOrder.{DeskOrder}
use Rattle.mem_base.specs.declared.machine.records.DeskOrder.TheVariants as orders
use Rattle.mem_base.specs.declared.script.changes.MapChange.{MapChange}
use Rattle.mem_base.specs.declared.script.changes.MapChange.TheVariants as changes
use Rattle.mem_base.specs.declared.script.commands.Command.{Command}
use Rattle.mem_base.specs.declared.script.commands.Command.TheVariants as commands
use Rattle.mem_base.specs.declared.script.commands.PassCommand.TheVariants as pass_commands
use Rattle.mem_base.specs.declared.script.commands.RegionKind.TheVariants as region_kinds
use Rattle.mem_base.specs.map.Limits.{most_passes}
use Rattle.mem_base.specs.map.Calls.{is_quiet}
use Rattle.mem_base.specs.machine.World.{World}
use Rattle.mem_base.specs.machine.Orders.{configure}
use Rattle.mem_base.specs.machine.Answers.{Answer, answer_of_config, plain_answer, harvest_answer}
use Rattle.mem_base.specs.machine.Records.{told}
use Rattle.mem_base.specs.script.Spelling.{Text}
use Rattle.mem_base.specs.script.Named.{Names, region_name}
use Rattle.mem_base.specs.script.RefusalLines.{refused_line, taken_text, unknown_text}
use Rattle.mem_base.specs.script.Output.{dirty_line}
use Rattle.mem_base.specs.script.States.{Outcome, State, outcome, where_known, where_new, with_region, with_space, writes}
use Rattle.mem_base.specs.script.States as states
use Rattle.mem_base.specs.script.WriterSteps as writer
use Rattle.mem_base.specs.script.Shows.{at, catches_up, show}
use Rattle.mem_base.specs.script.Run.{is_desk_line, own_step}
use Rattle.mem_base.specs.script.Tasks.{Known, Resolved, Task, after_order, change_of, known, listened, plain, region, region_made, region_named, space}
use Rattle.mem_base.specs.script.Tasks.{space_made, space_named, task_of, then_resolved, listener_named, unless_taken, watcher_named, with_order}
use Rattle.mem_base.specs.script.RaceLines.{answer_text, do_text}
use Rattle.mem_base.specs.script.Race.{NamesItsPass, actor_number, desk_number, is_end, is_par}
use Rattle.run_laws.specs.TaskSteps.{desk_step, known_state, pass_step}
use Rattle.run_laws.specs.KnownNames.{IsKnownOrder, IsKnownTask, IsPassTask, KnowsNames}
use Rattle.run_laws.specs.LineLaws.{IsDeskLine, IsPassLine, IsSomeonesLine, LinesAreTasks}
use Rattle.run_laws.proofs.Naming.{listener_called, listeners_agree, region_called, regions_agree, space_called}
use Rattle.mem_base.proofs.BoolLaws.{true_is_not_false}

module _ (k : Known) (w : World) (line : ℕ) (a : KnowsNames k w.writer.desk) where
  abbrev state : State
  state = known_state k w

  -- Resolving names, for what a task does (`by`) and what fits it

  module _ (by : Resolved Task → Outcome) (Fits : Resolved Task → Type 0) (refuses : (why : Text) → writes state (refused_line line why) ≡ by (Err why))
      (none : (why : Text) → Fits (Err why)) where
    record Does (x : Outcome) (t : Resolved Task) : Type 0 where
      same : x ≡ by t
      fits : Fits t

    refused : (why : Text) → Does (writes state (refused_line line why)) (Err why)
    refused why = record { same = refuses why; fits = none why }

    at_known : {I : Type 0} (name : Text) (o : Option I) (rest : I → Resolved Task) (next : I → Outcome)
        → ((id : I) → o ≡ Some id → Does (next id) (rest id)) → Does (where_known state line name o next) (then_resolved (known name o) rest)
    at_known name None rest next h = refused (unknown_text name)
    at_known name (Some id) rest next h = h id refl

    then_known : {I : Type 0} (name : Text) (o : Option I) (first : I → Resolved Call) (rest : Call → Resolved Task) (next : I → Outcome)
        → ((id : I) → Does (next id) (then_resolved (first id) rest))
        → Does (where_known state line name o next) (then_resolved (then_resolved (known name o) first) rest)
    then_known name None first rest next h = refused (unknown_text name)
    then_known name (Some id) first rest next h = h id

    at_new : {I : Type 0} (name : Text) (o : Option I) (task : Task) (next : Outcome) → Does next (Ok task)
        → Does (where_new state line name o next) (unless_taken name o task)
    at_new name None task next h = h
    at_new name (Some id) task next h = refused (taken_text name)

    at_region : (name : Text) (rest : RegionId → Resolved Task) (next : RegionId → Outcome)
        → ((r : RegionId) → region_named k name ≡ Some r → Does (next r) (rest r))
        → Does (with_region state line name next) (then_resolved (region k name) rest)
    at_region name rest next h =
        subst (λ (o : Option RegionId). Does (where_known state line name o next) (then_resolved (region k name) rest)) (sym (regions_agree k w a name))
        (at_known name (region_named k name) rest next h)

    at_space : (name : Text) (rest : SpaceId → Resolved Task) (next : SpaceId → Outcome)
        → ((s : SpaceId) → space_named k name ≡ Some s → Does (next s) (rest s))
        → Does (with_space state line name next) (then_resolved (space k name) rest)
    at_space name rest next h = at_known name (space_named k name) rest next h

    then_region : (name : Text) (first : RegionId → Resolved Call) (rest : Call → Resolved Task) (next : RegionId → Outcome)
        → ((r : RegionId) → Does (next r) (then_resolved (first r) rest))
        → Does (with_region state line name next) (then_resolved (then_resolved (region k name) first) rest)
    then_region name first rest next h =
        subst (λ (o : Option RegionId). Does (where_known state line name o next) (then_resolved (then_resolved (region k name) first) rest))
        (sym (regions_agree k w a name)) (then_known name (region_named k name) first rest next h)

    then_space : (name : Text) (first : SpaceId → Resolved Call) (rest : Call → Resolved Task) (next : SpaceId → Outcome)
        → ((s : SpaceId) → Does (next s) (then_resolved (first s) rest))
        → Does (with_space state line name next) (then_resolved (then_resolved (space k name) first) rest)
    then_space name first rest next h = then_known name (space_named k name) first rest next h

    -- a line that changes the map: its call neither makes nor drops anything
    at_change : (change : MapChange) (rest : Call → Resolved Task) (next : Call → Outcome)
        → ((call : Call) → with_order k [] (orders.Call call) ≡ k → is_quiet call ≡ false → IsKnownOrder k (orders.Call call) → Does (next call) (rest call))
        → Does (writer.with_call state line change next) (then_resolved (change_of k change) rest)
    at_change (changes.Add parent offset child priority) rest next h =
        then_region parent _ rest _ λ p. then_region child _ rest _ λ c. h (calls.Add p offset c priority) refl refl tt
    at_change (changes.Del parent child) rest next h = then_region parent _ rest _ λ p. then_region child _ rest _ λ c. h (calls.Del p c) refl refl tt
    at_change (changes.Move child offset) rest next h = then_region child _ rest _ λ r. h (calls.Move r offset) refl refl tt
    at_change (changes.Resize name size) rest next h = then_region name _ rest _ λ r. h (calls.Resize r size) refl refl tt
    at_change (changes.Retarget alias offset) rest next h = then_region alias _ rest _ λ r. h (calls.Retarget r offset) refl refl tt
    at_change (changes.Enable name) rest next h = then_region name _ rest _ λ r. h (calls.Enable r true) refl refl tt
    at_change (changes.Disable name) rest next h = then_region name _ rest _ λ r. h (calls.Enable r false) refl refl tt
    at_change (changes.Readonly name on) rest next h = then_region name _ rest _ λ r. h (calls.Readonly r on) refl refl tt
    at_change (changes.Nonvolatile name on) rest next h = then_region name _ rest _ λ r. h (calls.Nonvolatile r on) refl refl tt
    at_change (changes.Unmergeable name on) rest next h = then_region name _ rest _ λ r. h (calls.Unmergeable r on) refl refl tt
    at_change (changes.Romd name on) rest next h = then_region name _ rest _ λ r. h (calls.Romd r on) refl refl tt
    at_change (changes.Log name client on) rest next h = then_region name _ rest _ λ r. h (calls.Log r client on) refl refl tt
    at_change (changes.Global on) rest next h = h (calls.Global on) refl refl tt
    at_change (changes.Map name iova size to translated perm) rest next h =
        then_region name _ rest _ λ r. then_space to _ rest _ λ s. h (calls.Map r iova size s translated perm) refl refl tt
    at_change (changes.Unmap name iova) rest next h = then_region name _ rest _ λ r. h (calls.Unmap r iova) refl refl tt
    at_change (changes.Event name offset size number value) rest next h =
        then_region name _ rest _ λ r. h (calls.Event r (writer.ioevent offset size value number)) refl refl tt
    at_change (changes.Unevent name offset size value) rest next h =
        then_region name _ rest _ λ r. h (calls.Unevent r offset size (is_some value) (unwrap_or value 0)) refl refl tt

  -- Orders of the desk, by what the writer's call answers

  abbrev Orders : DeskOrder → Text → Names → World → Answer → Text → Type 0
  Orders order name names v answer text = writer.answered state line names v (writer.refusal_in answer) text
      ≡ outcome state (after_order k name order (told answer)).names v
      (answer_text (after_order k name order (told answer)).names line order (told answer))

  begun : (r : Result Applied Refusal) (v : World) → Orders orders.Begin [] k.names v (answer_of_config configs.Begin r None) []
  begun (Ok x) v = refl
  begun (Err why) v = refl

  committed : (r : Result Applied Refusal) (number : Option ℕ) (v : World) → Orders orders.Commit [] k.names v (answer_of_config configs.Commit r number) []
  committed (Ok x) number v = refl
  committed (Err why) number v = refl

  called : (call : Call) (name : Text) (names : Names) → (with_order k name (orders.Call call)).names ≡ names → (r : Result Applied Refusal)
      (number : Option ℕ) (v : World) → Orders (orders.Call call) name names v (answer_of_config (configs.Call call) r number) []
  called call name names e (Ok x) number v = ap (λ (ns : Names). outcome state ns v []) (sym e)
  called call name names e (Err why) number v = refl

  joined : (l : ListenerId) (s : SpaceId) (priority : ℤ) (name : Text) (r : Result Applied Refusal) (v : World)
      → Orders (orders.Listen l s priority) name (with_order k name (orders.Listen l s priority)).names v
      (answer_of_config (configs.Listen l s priority) r None) []
  joined l s priority name (Ok x) v = refl
  joined l s priority name (Err why) v = refl

  quit : (l : ListenerId) (r : Result Applied Refusal) (v : World) → Orders (orders.Unlisten l) [] k.names v (answer_of_config (configs.Unlisten l) r None) []
  quit l (Ok x) v = refl
  quit l (Err why) v = refl

  loaded : (r : RegionId) (offset : ℕ) (bytes : List ℕ) (o : Result (Unit {0}) Refusal) (v : World)
      → Orders (orders.Load r offset bytes) [] k.names v (plain_answer o) []
  loaded r offset bytes (Ok x) v = refl
  loaded r offset bytes (Err why) v = refl

  harvested : (r : RegionId) (client : Client) (name : Text) → region_name k.names r ≡ name → (o : Result (List ℕ) Refusal) (v : World)
      → Orders (orders.Harvest r client) [] k.names v (harvest_answer o) (writer.pages_in name client (harvest_answer o))
  harvested r client name e (Ok pages) v = ap (λ (t : Text). outcome state k.names v (dirty_line t client pages)) (sym e)
  harvested r client name e (Err why) v = refl

  -- Commands of the desk

  abbrev Desk : Outcome → Resolved Task → Type 0
  Desk x t = Does (desk_step k w line) (IsKnownTask k) (λ why. refl) (λ why. tt) x t

  a_call : (call : Call) → with_order k [] (orders.Call call) ≡ k → IsKnownOrder k (orders.Call call)
      → Desk (writer.calls_map state line call) (Ok (plain (orders.Call call)))
  a_call call e i = record { same = called call [] k.names (ap (λ (h : Known). h.names) e) _ _ _; fits = i }

  a_region : (name : Text) (kind : Kind) (size : ℕ) → Desk (writer.make_region state line name kind size) (region_made k name kind size)
  a_region name kind size =
      subst (λ (o : Option RegionId). Desk (where_new state line name o
      (writer.ordered state line (with_order k name (orders.Call (calls.Region kind size))).names
      (configure (configs.Call (calls.Region kind size))) writer.silent)) (region_made k name kind size)) (sym (regions_agree k w a name))
      (at_new (desk_step k w line) (IsKnownTask k) (λ why. refl) (λ why. tt) name (region_named k name) _ _
      (record { same = called (calls.Region kind size) name (with_order k name (orders.Call (calls.Region kind size))).names refl _ _ _; fits = tt }))

  a_space : (name : Text) (root : RegionId) → Desk (writer.make_space state line name root) (space_made k name root)
  a_space name root =
      let call : Call = calls.Space (record { 0 = length k.names.spaces }) root in
      at_new (desk_step k w line) (IsKnownTask k) (λ why. refl) (λ why. tt) name (space_named k name) _ _
      (record { same = called call name (with_order k name (orders.Call call)).names refl _ _ _; fits = tt })

  a_listener : (name : Text) (s : SpaceId) (priority : ℤ) → Desk (writer.listen state line name s priority) (listened k name s priority)
  a_listener name s priority =
      let l : ListenerId = record { 0 = length k.names.listeners } in
      subst (λ (o : Option ListenerId). Desk (where_new state line name o (writer.ordered state line (with_order k name (orders.Listen l s priority)).names
      (configure (configs.Listen l s priority)) writer.silent)) (listened k name s priority)) (sym (listeners_agree k w a name))
      (at_new (desk_step k w line) (IsKnownTask k) (λ why. refl) (λ why. tt) name (listener_named k name) _ _
      (record { same = joined l s priority name _ _; fits = refl }))

  desk_region : (name : Text) (rest : RegionId → Resolved Task) (next : RegionId → Outcome)
      → ((r : RegionId) → region_named k name ≡ Some r → Desk (next r) (rest r))
      → Desk (with_region state line name next) (then_resolved (region k name) rest)
  desk_region name rest next h = at_region (desk_step k w line) (IsKnownTask k) (λ why. refl) (λ why. tt) name rest next h

  desk_space : (name : Text) (rest : SpaceId → Resolved Task) (next : SpaceId → Outcome)
      → ((s : SpaceId) → space_named k name ≡ Some s → Desk (next s) (rest s))
      → Desk (with_space state line name next) (then_resolved (space k name) rest)
  desk_space name rest next h = at_space (desk_step k w line) (IsKnownTask k) (λ why. refl) (λ why. tt) name rest next h

  quits : (name : Text) → Desk (where_known state line name (states.listener_named state name) (λ l. writer.does state line (configure (configs.Unlisten l))))
      (then_resolved (known name (listener_named k name)) (λ l. Ok (plain (orders.Unlisten l))))
  quits name =
      subst (λ (o : Option ListenerId). Desk (where_known state line name o (λ l. writer.does state line (configure (configs.Unlisten l))))
      (then_resolved (known name (listener_named k name)) (λ l. Ok (plain (orders.Unlisten l))))) (sym (listeners_agree k w a name))
      (at_known (desk_step k w line) (IsKnownTask k) (λ why. refl) (λ why. tt) name (listener_named k name) _ _
      (λ l e. record { same = quit l _ _; fits = listener_called k name l e }))

  desk_line : (c : Command) → actor_number c ≡ desk_number → is_desk_line c ≡ true → Desk (own_step state line c) (task_of k c) → IsDeskLine k w line c
  desk_line c actor desk d = record {
    actor = actor;
    does = ap (λ (b : Bool). if b then catches_up (own_step state line c) else own_step state line c) desk ∙ ap catches_up d.same;
    known = d.fits;
  }

  -- Commands of passes

  module _ (pass : PassId) where
    abbrev Pass : Outcome → Resolved Task → Type 0
    Pass x t = Does (pass_step k w pass line) IsPassTask (λ why. refl) (λ why. tt) x t

    changed : (call : Call) (r : Result Applied Refusal) (number : Option ℕ) (v : World)
        → writer.answered state line k.names v (writer.refusal_in (answer_of_config (configs.Call call) r number))
        (writer.published_in pass (answer_of_config (configs.Call call) r number))
        ≡ outcome state k.names v (do_text k.names line pass (told (answer_of_config (configs.Call call) r number)))
    changed call (Ok x) number v = refl
    changed call (Err why) number v = refl

    pass_space : (name : Text) (rest : SpaceId → Resolved Task) (next : SpaceId → Outcome)
        → ((s : SpaceId) → space_named k name ≡ Some s → Pass (next s) (rest s))
        → Pass (with_space state line name next) (then_resolved (space k name) rest)
    pass_space name rest next h = at_space (pass_step k w pass line) IsPassTask (λ why. refl) (λ why. tt) name rest next h

    pass_line : (c : Command) → actor_number c ≡ pass.0 → pass.0 < most_passes → is_desk_line c ≡ false → Pass (own_step state line c) (task_of k c)
        → IsPassLine k w line c pass
    pass_line c actor near desk d = record {
      actor = actor;
      near = near;
      does = ap (λ (b : Bool). if b then catches_up (own_step state line c) else own_step state line c) desk ∙ d.same;
      known = d.fits;
    }

  by_desk : (c : Command) → actor_number c ≡ desk_number → is_desk_line c ≡ true → Desk (own_step state line c) (task_of k c) → IsSomeonesLine k w line c
  by_desk c actor desk d = inl (desk_line c actor desk d)

  by_pass : (pass : PassId) (c : Command) → actor_number c ≡ pass.0 → pass.0 < most_passes → is_desk_line c ≡ false
      → Pass pass (own_step state line c) (task_of k c) → IsSomeonesLine k w line c
  by_pass pass c actor near desk d = inr (pass, pass_line pass c actor near desk d)

  then_again : {X Y Z : Type 0} → (x : Resolved X) (first : X → Resolved Y) (rest : Y → Resolved Z)
      → then_resolved (then_resolved x first) rest ≡ then_resolved x (λ a. then_resolved (first a) rest)
  then_again (Ok x) first rest = refl
  then_again (Err why) first rest = refl

  alike : {x : Outcome} {t : Resolved Task} → x ≡ desk_step k w line t → IsKnownTask k t → Desk x t
  alike e i = record { same = e; fits = i }

  lines_are : (c : Command) → NamesItsPass c → is_par c ≡ false → is_end c ≡ false → IsSomeonesLine k w line c
  lines_are (commands.Machine size) n p e = by_desk (commands.Machine size) refl refl (alike refl tt)
  lines_are (commands.Region name size region_kinds.Container) n p e = by_desk (commands.Region name size region_kinds.Container) refl refl (a_region name kinds.Container size)
  lines_are (commands.Region name size region_kinds.Ram) n p e = by_desk (commands.Region name size region_kinds.Ram) refl refl (a_region name kinds.Ram size)
  lines_are (commands.Region name size region_kinds.Rom) n p e = by_desk (commands.Region name size region_kinds.Rom) refl refl (a_region name kinds.Rom size)
  lines_are (commands.Region name size (region_kinds.RomDevice device)) n p e =
      by_desk (commands.Region name size (region_kinds.RomDevice device)) refl refl (a_region name (kinds.RomDevice device) size)
  lines_are (commands.Region name size (region_kinds.Io device)) n p e = by_desk (commands.Region name size (region_kinds.Io device)) refl refl (a_region name (kinds.Io device) size)
  lines_are (commands.Region name size region_kinds.Iommu) n p e = by_desk (commands.Region name size region_kinds.Iommu) refl refl (a_region name kinds.Iommu size)
  lines_are (commands.Region name size (region_kinds.Alias target offset)) n p e = by_desk (commands.Region name size (region_kinds.Alias target offset)) refl refl
      (subst (Desk (with_region state line target (λ t. writer.make_region state line name (kinds.Alias t offset) size)))
      (sym (then_again (region k target) (λ t. Ok (kinds.Alias t offset)) (λ kind. region_made k name kind size)))
      (desk_region target (λ t. region_made k name (kinds.Alias t offset) size) _ λ t f. a_region name (kinds.Alias t offset) size))
  lines_are (commands.Region name size region_kinds.Reserve) n p e = by_desk (commands.Region name size region_kinds.Reserve) refl refl (a_region name kinds.Reserve size)
  lines_are (commands.Space name root) n p e = by_desk (commands.Space name root) refl refl (desk_region root _ _ λ r f. a_space name r)
  lines_are (commands.Change change) n p e = by_desk (commands.Change change) refl refl
      (at_change (desk_step k w line) (IsKnownTask k) (λ why. refl) (λ why. tt) change _ _ λ call f q i. a_call call f i)
  lines_are (commands.Load name offset bytes) n p e = by_desk (commands.Load name offset bytes) refl refl
      (desk_region name _ _ λ r f. record { same = loaded r offset bytes _ _; fits = tt })
  lines_are (commands.Drop name) n p e = by_desk (commands.Drop name) refl refl
      (desk_region name _ _ λ r f. record { same = called (calls.Drop r) [] k.names refl _ _ _; fits = (region_called k name r f).1 })
  lines_are commands.Begin n p e = by_desk commands.Begin refl refl (record { same = begun _ _; fits = tt })
  lines_are commands.Commit n p e = by_desk commands.Commit refl refl (record { same = committed _ _ _; fits = tt })
  lines_are commands.Reap n p e = by_desk commands.Reap refl refl (alike refl tt)
  lines_are (commands.Listen name space priority) n p e = by_desk (commands.Listen name space priority) refl refl
      (desk_space space _ _ λ s f. a_listener name s priority)
  lines_are (commands.Unlisten name) n p e = by_desk (commands.Unlisten name) refl refl (quits name)
  lines_are (commands.Watch name at first last) n p e = by_desk (commands.Watch name at first last) refl refl
      (desk_region at _ _ λ r f. at_new (desk_step k w line) (IsKnownTask k) (λ why. refl) (λ why. tt) name (watcher_named k name) _ _ (alike refl tt))
  lines_are (commands.Unwatch name) n p e = by_desk (commands.Unwatch name) refl refl
      (at_known (desk_step k w line) (IsKnownTask k) (λ why. refl) (λ why. tt) name (watcher_named k name) _ _ λ id f. alike refl tt)
  lines_are (commands.Show name) n p e = by_desk (commands.Show name) refl refl
      (desk_space name _ _ λ s f. alike (ap (λ (t : Text). show state t s) (sym (space_called k name s f))) tt)
  lines_are (commands.At name addr) n p e = by_desk (commands.At name addr) refl refl
      (desk_space name _ _ λ s f. alike (ap (λ (t : Text). at state t addr s) (sym (space_called k name s f))) tt)
  lines_are (commands.Notified number) n p e = by_desk (commands.Notified number) refl refl (alike refl tt)
  lines_are (commands.Dirty name client) n p e = by_desk (commands.Dirty name client) refl refl
      (desk_region name _ _ λ r f. record { same = harvested r client name (region_called k name r f).0 _ _; fits = tt })
  lines_are (commands.Pass pass pass_commands.Enter) n p e = by_pass pass (commands.Pass pass pass_commands.Enter) refl n refl (record { same = refl; fits = tt })
  lines_are (commands.Pass pass pass_commands.Leave) n p e = by_pass pass (commands.Pass pass pass_commands.Leave) refl n refl (record { same = refl; fits = tt })
  lines_are (commands.Pass pass (pass_commands.Read space addr len)) n p e = by_pass pass (commands.Pass pass (pass_commands.Read space addr len)) refl n refl
      (pass_space pass space _ _ λ s f. record { same = refl; fits = tt })
  lines_are (commands.Pass pass (pass_commands.Write space addr bytes)) n p e = by_pass pass (commands.Pass pass (pass_commands.Write space addr bytes)) refl n refl
      (pass_space pass space _ _ λ s f. record { same = refl; fits = tt })
  lines_are (commands.Pass pass (pass_commands.Do change)) n p e = by_pass pass (commands.Pass pass (pass_commands.Do change)) refl n refl
      (at_change (pass_step k w pass line) IsPassTask (λ why. refl) (λ why. tt) change _ _
      λ call f q i. record { same = changed pass call _ _ _; fits = q })
  lines_are (commands.Pass pass (pass_commands.Dma space addr len to_space to_addr)) n p e = by_pass pass (commands.Pass pass (pass_commands.Dma space addr len to_space to_addr)) refl n refl
      (pass_space pass space _ _ λ s f. pass_space pass to_space _ _ λ t g. record { same = refl; fits = tt })
  lines_are commands.Par n p e = true_is_not_false true refl p
  lines_are commands.End n p e = true_is_not_false true refl e

pub lines_are_tasks : LinesAreTasks
lines_are_tasks k w line c a n p e = lines_are k w line a c n p e
