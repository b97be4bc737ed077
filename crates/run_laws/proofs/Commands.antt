-- Each command goes on with the history.
use Rattle.std.proofs.Common.{◌≡◌, ℕ, ◌<◌, ◌≤◌, ◌^◌, Bool, true, false, List, [], ◌∷◌, ◌++◌, length, append-nil, append_assoc, refl, sym, ap, subst, ◌∙◌}
use Rattle.std.proofs.Common.{if◌then◌else◌, Option, Some, None}
use Rattle.std.specs.Prelude.{ℤ}
use Rattle.mem_base.specs.declared.map.ids.RegionId.{RegionId}
use Rattle.mem_base.specs.declared.map.ids.SpaceId.{SpaceId}
use Rattle.mem_base.specs.map.PassIds.{PassId}
use Rattle.mem_base.specs.declared.map.ids.WatcherId.{WatcherId}
use Rattle.mem_base.specs.declared.map.kinds.Kind.{Kind}
use Rattle.mem_base.specs.declared.map.kinds.Kind.TheVariants as kinds
use Rattle.mem_base.specs.declared.map.calls.Call.{Call}
use Rattle.mem_base.specs.declared.map.calls.Call.TheVariants as calls
use Rattle.mem_base.specs.declared.map.calls.Config.TheVariants as configs
use Rattle.mem_base.specs.declared.map.refusals.Refusal.{Refusal}
use Rattle.mem_base.specs.declared.script.changes.MapChange.{MapChange}
use Rattle.mem_base.specs.declared.script.changes.MapChange.TheVariants as changes
use Rattle.mem_base.specs.declared.script.commands.Command.{Command}
use Rattle.mem_base.specs.declared.script.commands.Command.TheVariants as commands
use Rattle.mem_base.specs.declared.script.commands.PassCommand.TheVariants as pass_commands
use Rattle.mem_base.specs.declared.script.commands.RegionKind.TheVariants as region_kinds
use Rattle.mem_base.specs.declared.machine.events.Event.TheVariants as events
use Rattle.mem_base.specs.map.Limits.{most_passes}
use Rattle.mem_base.specs.map.Forest.{FitsTypes}
use Rattle.mem_base.specs.access.AccessSteps.{Transfer, reading, writing}
use Rattle.mem_base.specs.machine.Reaps.{Writer}
use Rattle.mem_base.specs.machine.World.{World, possible, is_at_rest}
use Rattle.mem_base.specs.machine.History.{PureEntry, run_events}
use Rattle.mem_base.specs.machine.Orders.{Order, configure, reap, load, harvest, notified}
use Rattle.mem_base.specs.machine.Answers.{Answer}
use Rattle.mem_base.specs.machine.Composites.{accessed, completed, is_entered, enters, enters_anew, enters_unless, leaves, leaves_unless}
use Rattle.mem_base.specs.machine.Completions.{KeepsWriter}
use Rattle.mem_base.specs.script.Spelling.{Text}
use Rattle.mem_base.specs.script.Named.{Names}
use Rattle.mem_base.specs.script.Watching.{Watcher, watch_refusal}
use Rattle.mem_base.specs.script.States.{Outcome, State, listener_named, watcher_named, region_named, space_named, where_known, where_new}
use Rattle.mem_base.specs.script.States.{with_region, with_space}
use Rattle.mem_base.specs.script.WriterSteps.{answered, ordered, calls_map, make_region, make_space, listen, with_call, refusal_in, silent}
use Rattle.mem_base.specs.script.WriterSteps.{released_in, pages_in, value_in, published_in}
use Rattle.mem_base.specs.script.Shows.{watch, catches_up, joins_unless}
use Rattle.mem_base.specs.script.PassSteps.{enter, leave, copy}
use Rattle.mem_base.specs.script.Run.{is_desk_line, own_step, step}
use Rattle.run_laws.specs.Fitting.{FitsChange, FitsCommand}
use Rattle.run_laws.specs.Asks.{Asked, asks, copy_entries, enter_entries, leave_entries, asks_change, asks_region, nothing, of_map}
use Rattle.run_laws.specs.Asks.{one_call, steps, where_free, where_there}
use Rattle.world_laws.proofs.PassKeeping.{access_keeps, accessed_stays, after_events, enter_keeps, entered_by, keeps_then, leave_keeps, left_looks, may_look}
use Rattle.run_laws.proofs.Passing.{Led, LedOn, access_led, enters_led, leaves_led, may_leave, then_led}
use Rattle.run_laws.proofs.Ordering.{FitsOrder, Settled, SettledOn, order_settles}
use Rattle.std.proofs.lemmas.Bool.{and_parts, or_left}

module _ (pool : ℕ) (xs : List PureEntry) where
  -- a command that does nothing to the machine
  pub stays : (w : World) → Settled pool xs w → SettledOn pool xs w nothing w
  stays w k = record { settled = subst (λ (ys : List PureEntry). Settled pool ys w) (sym (append-nil xs)) k }

  -- and one of a pass that does nothing
  idles : (w : World) → Settled pool xs w → SettledOn pool xs w (steps []) w
  idles w k = record { settled = subst (λ (ys : List PureEntry). Settled pool ys w) (sym (append-nil xs)) k }

  -- a command of a pass
  pass_settles : (w v : World) (more : List PureEntry) → Settled pool xs w → KeepsWriter w v → LedOn pool xs v more → SettledOn pool xs w (steps more) v
  pass_settles w v more k keeps on = record {
    settled = record {
      led = on.led;
      rests = ap (λ (h : Writer). is_at_rest h.desk) keeps.writer ∙ k.rests;
      may = λ pass l. keeps.may pass (k.may pass l);
    };
  }

  module _ (state : State) (k : Settled pool xs state.world) where
    -- what an outcome leaves, by what was asked
    abbrev Goes : Asked → Outcome → Type 0
    Goes asked x = SettledOn pool xs state.world asked x.1.world

    known : {I : Type 0} (line : ℕ) (name : Text) (o : Option I) (ask : I → Asked) (rest : I → Outcome) → ((id : I) → Goes (ask id) (rest id))
        → Goes (where_there o ask) (where_known state line name o rest)
    known line name None ask rest h = stays state.world k
    known line name (Some id) ask rest h = h id

    new : {I : Type 0} (line : ℕ) (name : Text) (o : Option I) (ask : Asked) (rest : Outcome) → Goes ask rest
        → Goes (where_free o ask) (where_new state line name o rest)
    new line name None ask rest h = h
    new line name (Some id) ask rest h = stays state.world k

    a_region : (line : ℕ) (name : Text) (ask : RegionId → Asked) (rest : RegionId → Outcome) → ((r : RegionId) → Goes (ask r) (rest r))
        → Goes (where_there (region_named state name) ask) (with_region state line name rest)
    a_region line name ask rest h = known line name (region_named state name) ask rest h

    a_space : (line : ℕ) (name : Text) (ask : SpaceId → Asked) (rest : SpaceId → Outcome) → ((s : SpaceId) → Goes (ask s) (rest s))
        → Goes (where_there (space_named state name) ask) (with_space state line name rest)
    a_space line name ask rest h = known line name (space_named state name) ask rest h

    -- the rest of a command that asks nothing
    asks_none : {I : Type 0} (line : ℕ) (name : Text) (o : Option I) (rest : I → Outcome) → ((id : I) → Goes nothing (rest id))
        → Goes nothing (where_known state line name o rest)
    asks_none line name None rest h = stays state.world k
    asks_none line name (Some id) rest h = h id

    -- a call of the writer, refused or not
    order : (line : ℕ) (names : Names) (o : Order) (text : Answer → Text) → FitsOrder o → Goes (one_call o) (ordered state line names o text)
    order line names o text fits = go (refusal_in (completed state.world o).answer)
      where
        go : (why : Option Refusal) → Goes (one_call o) (answered state line names (completed state.world o).world why (text (completed state.world o).answer))
        go None = order_settles pool xs state.world k o fits
        go (Some why) = order_settles pool xs state.world k o fits

    make : (line : ℕ) (name : Text) (kind : Kind) (size : ℕ) → size ≤ 2 ^ 64 → Goes (asks_region state name kind size) (make_region state line name kind size)
    make line name kind size fits =
        let names : Names = record state.names { regions = state.names.regions ++ name ∷ []; kinds = state.names.kinds ++ kind ∷ [] } in
        let o : Order = configure (configs.Call (calls.Region kind size)) in
        new line name (region_named state name) (one_call o) (ordered state line names o silent) (order line names o silent fits)

    space : (line : ℕ) (name : Text) (root : RegionId)
        → Goes (where_free (space_named state name) (of_map (calls.Space (record { 0 = length state.names.spaces }) root))) (make_space state line name root)
    space line name root =
        let names : Names = record state.names { spaces = state.names.spaces ++ name ∷ [] } in
        let o : Order = configure (configs.Call (calls.Space (record { 0 = length state.names.spaces }) root)) in
        new line name (space_named state name) (one_call o) (ordered state line names o silent) (order line names o silent tt)

    listening : (line : ℕ) (name : Text) (space : SpaceId) (priority : ℤ)
        → Goes (where_free (listener_named state name)
        (one_call (configure (configs.Listen (record { 0 = length state.names.listeners }) space priority)))) (listen state line name space priority)
    listening line name space priority =
        let names : Names = record state.names { listeners = state.names.listeners ++ name ∷ [] } in
        let o : Order = configure (configs.Listen (record { 0 = length state.names.listeners }) space priority) in
        new line name (listener_named state name) (one_call o) (ordered state line names o silent) (order line names o silent tt)

    maps : (line : ℕ) (call : Call) → FitsTypes call → Goes (of_map call) (calls_map state line call)
    maps line call fits = order line state.names (configure (configs.Call call)) silent fits

    -- the rest of a line that changes the map, which may rely on a call that fits its types
    change : (line : ℕ) (change : MapChange) (rest : Call → Outcome) → FitsChange change → ((call : Call) → FitsTypes call → Goes (of_map call) (rest call))
        → Goes (asks_change state change) (with_call state line change rest)
    change line (changes.Add parent offset child priority) rest fits h =
        a_region line parent _ _ λ p. a_region line child _ _ λ c. h (calls.Add p offset c priority) tt
    change line (changes.Del parent child) rest fits h = a_region line parent _ _ λ p. a_region line child _ _ λ c. h (calls.Del p c) tt
    change line (changes.Move child offset) rest fits h = a_region line child _ _ λ r. h (calls.Move r offset) tt
    change line (changes.Resize region size) rest fits h = a_region line region _ _ λ r. h (calls.Resize r size) fits
    change line (changes.Retarget alias offset) rest fits h = a_region line alias _ _ λ r. h (calls.Retarget r offset) tt
    change line (changes.Enable region) rest fits h = a_region line region _ _ λ r. h (calls.Enable r true) tt
    change line (changes.Disable region) rest fits h = a_region line region _ _ λ r. h (calls.Enable r false) tt
    change line (changes.Readonly region on) rest fits h = a_region line region _ _ λ r. h (calls.Readonly r on) tt
    change line (changes.Nonvolatile region on) rest fits h = a_region line region _ _ λ r. h (calls.Nonvolatile r on) tt
    change line (changes.Unmergeable region on) rest fits h = a_region line region _ _ λ r. h (calls.Unmergeable r on) tt
    change line (changes.Romd region on) rest fits h = a_region line region _ _ λ r. h (calls.Romd r on) tt
    change line (changes.Log region client on) rest fits h = a_region line region _ _ λ r. h (calls.Log r client on) tt
    change line (changes.Global on) rest fits h = h (calls.Global on) tt
    change line (changes.Map region iova size space translated perm) rest fits h =
        a_region line region _ _ λ r. a_space line space _ _ λ s. h (calls.Map r iova size s translated perm) fits
    change line (changes.Unmap region iova) rest fits h = a_region line region _ _ λ r. h (calls.Unmap r iova) tt
    change line (changes.Event region offset size number value) rest fits h = a_region line region _ _ λ r. h (calls.Event r _) tt
    change line (changes.Unevent region offset size value) rest fits h = a_region line region _ _ λ r. h (calls.Unevent r offset size _ _) tt

    watching : (line : ℕ) (name : Text) (region : RegionId) (first last : ℕ) → Goes nothing (watch state line name region first last)
    watching line name region first last = go (watcher_named state name) (watch_refusal state.watchers first last)
      where
        w : Watcher
        w = record { id = record { 0 = length state.names.notifiers }; region = region; first = first; last = last; parts = [] }

        join : (o : Option Refusal) → Goes nothing (joins_unless state line o name w)
        join None = stays state.world k
        join (Some why) = stays state.world k

        go : (p : Option WatcherId) (o : Option Refusal) → Goes nothing (where_new state line name p (joins_unless state line o name w))
        go None o = join o
        go (Some id) o = stays state.world k

    -- passes

    module _ (pass : PassId) (l : pass.0 < most_passes) where
      entering : Goes (steps (enter_entries state.world pass)) (enter state pass)
      entering = go (is_entered state.world pass) refl
        where
          go : (b : Bool) → is_entered state.world pass ≡ b → SettledOn pool xs state.world
              (steps (run_events state.world (enters_anew b pass)).entries) (after_events state.world (enters_anew b pass))
          go true e =
              let v : World = after_events state.world (leaves pass) in
              let w : World = after_events v (enters pass) in
              let may = may_leave pool xs state.world pass k.led e in
              let look : possible v (events.Look pass) ≡ true = left_looks state.world pass (and_parts _ _ may).0 in
              pass_settles state.world w (run_events state.world (enters_anew true pass)).entries k
              (keeps_then state.world v w (leave_keeps state.world v pass may refl) (enter_keeps v w pass look refl))
              (then_led pool xs v w (run_events state.world (leaves pass)).entries (run_events v (enters pass)).entries
              (leaves_led pool xs state.world pass k.led e) (λ ys m. enters_led pool ys v pass m look))
          go false e =
              let look : possible state.world (events.Look pass) ≡ true = may_look _ _ (k.may pass l) e in
              let v : World = after_events state.world (enters pass) in
              pass_settles state.world v (run_events state.world (enters pass)).entries k (enter_keeps state.world v pass look refl)
              (enters_led pool xs state.world pass k.led look)

      leaving : Goes (steps (leave_entries state.world pass)) (leave state pass)
      leaving = go (is_entered state.world pass) refl
        where
          go : (b : Bool) → is_entered state.world pass ≡ b → SettledOn pool xs state.world
              (steps (run_events state.world (if b then leaves pass else [])).entries) (after_events state.world (if b then leaves pass else []))
          go true e =
              let v : World = after_events state.world (leaves pass) in
              let may = may_leave pool xs state.world pass k.led e in
              pass_settles state.world v (run_events state.world (leaves pass)).entries k (leave_keeps state.world v pass may refl)
              (leaves_led pool xs state.world pass k.led e)
          go false e = idles state.world k

      accessing : (space : SpaceId) (addr : ℕ) (transfer : Transfer) → SettledOn pool xs state.world
          (steps (accessed state.world pass space addr transfer).entries) (accessed state.world pass space addr transfer).world
      accessing space addr transfer =
          let v : World = (accessed state.world pass space addr transfer).world in
          pass_settles state.world v (accessed state.world pass space addr transfer).entries k
          (access_keeps state.world v pass space addr transfer (k.may pass l) refl)
          (access_led pool xs state.world pass space addr transfer k.led (k.may pass l))

      module _ (space : SpaceId) (addr len : ℕ) (to_space : SpaceId) (to_addr : ℕ) where
        -- the read of a copy, and its write
        abbrev taken : World → World
        taken u = (accessed u pass space addr (reading len)).world

        abbrev put : World → World
        put u = (accessed (taken u) pass to_space to_addr (writing (accessed u pass space addr (reading len)).bytes)).world

        taken_in : (u : World) → is_entered u pass ≡ true → is_entered (taken u) pass ≡ true
        taken_in u e = accessed_stays u pass space addr (reading len) e

        put_in : (u : World) → is_entered u pass ≡ true → is_entered (put u) pass ≡ true
        put_in u e = accessed_stays (taken u) pass to_space to_addr (writing (accessed u pass space addr (reading len)).bytes) (taken_in u e)

        put_keeps : (u : World) → is_entered u pass ≡ true → KeepsWriter u (put u)
        put_keeps u e = keeps_then u (taken u) (put u)
            (access_keeps u (taken u) pass space addr (reading len) (or_left _ _ e) refl)
            (access_keeps (taken u) (put u) pass to_space to_addr (writing (accessed u pass space addr (reading len)).bytes)
            (or_left _ _ (taken_in u e)) refl)

        -- their entries
        abbrev first_part : World → List PureEntry
        first_part u = (accessed u pass space addr (reading len)).entries

        abbrev second_part : World → List PureEntry
        second_part u = (accessed (taken u) pass to_space to_addr (writing (accessed u pass space addr (reading len)).bytes)).entries

        put_led : (ys : List PureEntry) (u : World) → Led pool ys u → is_entered u pass ≡ true → LedOn pool ys (put u) (first_part u ++ second_part u)
        put_led ys u m e = then_led pool ys (taken u) (put u) (first_part u) (second_part u)
            (access_led pool ys u pass space addr (reading len) m (or_left _ _ e))
            (λ zs n. access_led pool zs (taken u) pass to_space to_addr (writing (accessed u pass space addr (reading len)).bytes) n
            (or_left _ _ (taken_in u e)))

        -- all entries of a copy, by whether the pass was entered
        abbrev all_of : Bool → List PureEntry
        all_of b =
            let u : World = after_events state.world (enters_unless b pass) in
            (run_events state.world (enters_unless b pass)).entries
            ++ (first_part u ++ (second_part u ++ (run_events (put u) (leaves_unless b pass)).entries))

        copying : Goes (steps (copy_entries state.world pass space addr len to_space to_addr)) (copy state pass space addr len to_space to_addr)
        copying = go (is_entered state.world pass) refl
          where
            go : (b : Bool) → is_entered state.world pass ≡ b → SettledOn pool xs state.world (steps (all_of b))
                (after_events (put (after_events state.world (enters_unless b pass))) (leaves_unless b pass))
            go true e =
                let w : World = state.world in
                pass_settles w (put w) (first_part w ++ (second_part w ++ [])) k (put_keeps w e)
                (subst (λ (more : List PureEntry). LedOn pool xs (put w) (first_part w ++ more)) (sym (append-nil (second_part w)))
                (put_led xs w k.led e))
            go false e =
                let look : possible state.world (events.Look pass) ≡ true = may_look _ _ (k.may pass l) e in
                let u : World = after_events state.world (enters pass) in
                let w : World = after_events (put u) (leaves pass) in
                let in_u : is_entered u pass ≡ true = entered_by state.world pass look in
                let a : List PureEntry = (run_events state.world (enters pass)).entries in
                let b : List PureEntry = first_part u in
                let c : List PureEntry = second_part u in
                let d : List PureEntry = (run_events (put u) (leaves pass)).entries in
                let on : LedOn pool xs (put u) (a ++ (b ++ c)) = then_led pool xs u (put u) a (b ++ c) (enters_led pool xs state.world pass k.led look)
                (λ ys m. put_led ys u m in_u) in
                let may = may_leave pool (xs ++ (a ++ (b ++ c))) (put u) pass on.led (put_in u in_u) in
                let whole : LedOn pool xs w ((a ++ (b ++ c)) ++ d) =
                then_led pool xs (put u) w (a ++ (b ++ c)) d on (λ ys m. leaves_led pool ys (put u) pass m (put_in u in_u)) in
                let same : (a ++ (b ++ c)) ++ d ≡ a ++ (b ++ (c ++ d)) =
                append_assoc a (b ++ c) d ∙ ap (λ (zs : List PureEntry). a ++ zs) (append_assoc b c d) in
                pass_settles state.world w (a ++ (b ++ (c ++ d))) k
                (keeps_then state.world u w (enter_keeps state.world u pass look refl)
                (keeps_then u (put u) w (put_keeps u in_u) (leave_keeps (put u) w pass may refl)))
                (subst (λ (more : List PureEntry). LedOn pool xs w more) same whole)

    own : (line : ℕ) (c : Command) → FitsCommand c → Goes (asks state c) (own_step state line c)
    own line (commands.Region name size region_kinds.Container) fits = make line name kinds.Container size fits
    own line (commands.Region name size region_kinds.Ram) fits = make line name kinds.Ram size fits
    own line (commands.Region name size region_kinds.Rom) fits = make line name kinds.Rom size fits
    own line (commands.Region name size (region_kinds.RomDevice device)) fits = make line name (kinds.RomDevice device) size fits
    own line (commands.Region name size (region_kinds.Io device)) fits = make line name (kinds.Io device) size fits
    own line (commands.Region name size region_kinds.Iommu) fits = make line name kinds.Iommu size fits
    own line (commands.Region name size (region_kinds.Alias target offset)) fits = a_region line target _ _ λ t. make line name (kinds.Alias t offset) size fits
    own line (commands.Region name size region_kinds.Reserve) fits = make line name kinds.Reserve size fits
    own line (commands.Space name root) fits = a_region line root _ _ λ r. space line name r
    own line (commands.Change c) fits = change line c _ fits λ call f. maps line call f
    own line (commands.Load region offset bytes) fits = a_region line region _ _ λ r. order line state.names (load r offset bytes) silent tt
    own line (commands.Drop region) fits = a_region line region _ _ λ r. maps line (calls.Drop r) tt
    own line commands.Begin fits = order line state.names (configure configs.Begin) silent tt
    own line commands.Commit fits = order line state.names (configure configs.Commit) silent tt
    own line commands.Reap fits = order line state.names reap (released_in state.names) tt
    own line (commands.Listen name space priority) fits = a_space line space _ _ λ s. listening line name s priority
    own line (commands.Unlisten name) fits = known line name (listener_named state name) _ _ λ id.
        order line state.names (configure (configs.Unlisten id)) silent tt
    own line (commands.Watch name region first last) fits = asks_none line region (region_named state region) _ λ r. watching line name r first last
    own line (commands.Unwatch name) fits = asks_none line name (watcher_named state name) _ λ id. stays state.world k
    own line (commands.Show space) fits = asks_none line space (space_named state space) _ λ s. stays state.world k
    own line (commands.At space addr) fits = asks_none line space (space_named state space) _ λ s. stays state.world k
    own line (commands.Notified number) fits = order line state.names (notified number) (value_in number) fits
    own line (commands.Dirty region client) fits = a_region line region _ _ λ r. order line state.names (harvest r client) (pages_in region client) tt
    own line (commands.Pass pass pass_commands.Enter) fits = entering pass fits.0
    own line (commands.Pass pass pass_commands.Leave) fits = leaving pass fits.0
    own line (commands.Pass pass (pass_commands.Read space addr len)) fits = a_space line space _ _ λ s. accessing pass fits.0 s addr (reading len)
    own line (commands.Pass pass (pass_commands.Write space addr bytes)) fits = a_space line space _ _ λ s. accessing pass fits.0 s addr (writing bytes)
    own line (commands.Pass pass (pass_commands.Do c)) fits = change line c _ fits.1 λ call f.
        order line state.names (configure (configs.Call call)) (published_in pass) f
    own line (commands.Pass pass (pass_commands.Dma space addr len to_space to_addr)) fits =
        a_space line space _ _ λ s. a_space line to_space _ _ λ t. copying pass fits.0 s addr len t to_addr
    own line _ fits = stays state.world k

    pub step_settles : (line : ℕ) (c : Command) → FitsCommand c → Goes (asks state c) (step state line c)
    step_settles line c fits = go (is_desk_line c)
      where
        go : (b : Bool) → Goes (asks state c) (if b then catches_up (own_step state line c) else own_step state line c)
        go true = own line c fits
        go false = own line c fits
