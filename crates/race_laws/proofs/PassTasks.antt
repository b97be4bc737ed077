-- A task of a pass, by the replies that its events got, is what the run does.
use Rattle.std.proofs.Common.{◌≡◌, ◌<◌, ℕ, Bool, true, false, List, [], ◌∷◌, ◌++◌, length, append_assoc, append-nil}
use Rattle.std.proofs.Common.{refl, sym, ap, subst, ◌∙◌, Option, Some, Ok, Err, if◌then◌else◌}
use Rattle.std.specs.Prelude.{is_some, unwrap_or}
use Rattle.mem_base.specs.map.PassIds.{PassId}
use Rattle.mem_base.specs.declared.map.ids.SpaceId.{SpaceId}
use Rattle.mem_base.specs.declared.access.accesses.Access.{Access}
use Rattle.mem_base.specs.declared.machine.events.Event.{Event}
use Rattle.mem_base.specs.declared.machine.events.HistoryEntry.{HistoryEntry}
use Rattle.mem_base.specs.declared.machine.records.DeskEntry.{DeskEntry}
use Rattle.mem_base.specs.map.Limits.{most_passes}
use Rattle.mem_base.specs.access.AccessSteps.{Transfer, reading, writing, AccessStep, bytes_read, either, events_of_steps, result_of}
use Rattle.mem_base.specs.access.Access.{access}
use Rattle.mem_base.specs.views.Listening.{Delivery}
use Rattle.mem_base.specs.machine.Passes.{PassState, pass_of}
use Rattle.mem_base.specs.machine.Generations.{Generation, entered_generation}
use Rattle.mem_base.specs.machine.Reaps.{Writer}
use Rattle.mem_base.specs.machine.World.{World}
use Rattle.mem_base.specs.machine.History.{PureEntry, run_events}
use Rattle.mem_base.specs.machine.Composites.{Accessed, enters_anew, enters_unless, forest_at, is_entered, leaves, leaves_unless, numbers_of, steps_in}
use Rattle.mem_base.specs.machine.Composites as composites
use Rattle.mem_base.specs.machine.Actors.{generations_published, pass_after_all}
use Rattle.mem_base.specs.machine.Turns.{replies_of}
use Rattle.mem_base.specs.machine.PassTurns.{PassTurn, Transferred, entries_of, generation_entered, is_inside, makes, number_entered}
use Rattle.mem_base.specs.machine.PassTurns.{pass_begins, transferred}
use Rattle.mem_base.specs.machine.PassTurns as pass_turns
use Rattle.mem_base.specs.script.Spelling.{Text}
use Rattle.mem_base.specs.script.RefusalLines.{refused_line}
use Rattle.mem_base.specs.script.Output.{dma_line, enter_line, leave_line, read_line, told_lines, write_line}
use Rattle.mem_base.specs.script.States.{heard, outcome, writes}
use Rattle.mem_base.specs.script.Tasks.{Known, Resolved, Task, accessed, copied, entered, left, ordered}
use Rattle.mem_base.specs.script.RaceLines.{generation_numbered, line_of_pass, says}
use Rattle.mem_base.specs.script.Race.{pass_state}
use Rattle.view_laws.proofs.Tests.{some_of}
use Rattle.run_laws.proofs.Lawful.{drop_all}
use Rattle.run_laws.specs.TaskSteps.{known_state, pass_step}
use Rattle.run_laws.specs.KnownNames.{KnowsNames}
use Rattle.race_laws.proofs.Running.{IsLegal, IsRun, first_part, shared_after, world_after}
use Rattle.race_laws.proofs.DeskTasks.{Follows, asks_of, one_is_not_none}
use Rattle.race_laws.proofs.PassRuns.{AreOf, Made, entered_is, made, pass_is, same_bytes, steps_of, steps_stay}
use Rattle.mem_base.proofs.PassTurnLaws.{events_are}
use Rattle.std.proofs.lemmas.List.{drop_at}

-- an access, by whether the pass was entered
abbrev access_by : Bool → World → PassId → SpaceId → ℕ → Transfer → Accessed
access_by b w pass space addr transfer =
    let before = run_events w (enters_unless b pass) in
    let ds = steps_in before.world pass space addr transfer in
    let during = run_events before.world (events_of_steps pass ds) in
    let later = run_events during.world (leaves_unless b pass) in record {
      world = later.world;
      entries = before.entries ++ (during.entries ++ later.entries);
      answer = record { result = result_of ds; number = unwrap_or (pass_of before.world.passes pass).entered 0 };
      bytes = bytes_read ds (numbers_of during.entries);
    }

-- events of entering and leaving

enters_of : (b : Bool) (pass : PassId) → AreOf pass (enters_unless b pass)
enters_of true pass = tt
enters_of false pass = ((refl, refl), ((refl, refl), ((refl, refl), tt)))

anew_of : (b : Bool) (pass : PassId) → AreOf pass (enters_anew b pass)
anew_of true pass = ((refl, refl), ((refl, refl), ((refl, refl), ((refl, refl), tt))))
anew_of false pass = ((refl, refl), ((refl, refl), ((refl, refl), tt)))

leaves_of : (b : Bool) (pass : PassId) → AreOf pass (leaves_unless b pass)
leaves_of true pass = tt
leaves_of false pass = ((refl, refl), tt)

left_of : (b : Bool) (pass : PassId) → AreOf pass (if b then leaves pass else [])
left_of true pass = ((refl, refl), tt)
left_of false pass = tt

-- a pass that is entered, or enters, is entered then
record IsInside (p : PassState) : Type 0 where
  number : ℕ
  is : p.entered ≡ Some number

inside_after : (b : Bool) (p : PassState) (pass : PassId) → is_some p.entered ≡ b → (rs : List ℕ)
    → IsInside (pass_after_all p (entries_of [] (enters_unless b pass) rs))
inside_after true p pass e rs = let t = some_of p.entered e in record { number = t.0; is = t.1 }
inside_after false p pass e [] = record { number = 0; is = refl }
inside_after false p pass e (a ∷ []) = record { number = 0; is = refl }
inside_after false p pass e (a ∷ b ∷ []) = record { number = 0; is = refl }
inside_after false p pass e (a ∷ b ∷ c ∷ rs) = record { number = c; is = refl }

module _ (pool : ℕ) (published : List Generation) (h : Writer) (pass : PassId) (near : pass.0 < most_passes) where
  abbrev at : List HistoryEntry → World
  at zs = world_after pool h zs

  is_entered_at : (zs : List HistoryEntry) (p : PassState) → p ≡ pass_state pass zs → is_entered (at zs) pass ≡ is_some p.entered
  is_entered_at zs p e = ap (λ (q : PassState). is_some q.entered) (pass_is pool zs pass near ∙ sym e)

  -- the entries of an access of a pass that is entered
  abbrev steps_then : PassTurn → SpaceId → ℕ → Transfer → List AccessStep
  steps_then t space addr transfer = access (generation_entered published t).forest space addr transfer

  abbrev new_of : PassTurn → SpaceId → ℕ → Transfer → List HistoryEntry
  new_of t space addr transfer = entries_of (generation_entered published t).places (events_of_steps pass (steps_then t space addr transfer)) t.replies

  record Did (zs : List HistoryEntry) (x : Transferred) (a : Accessed) : Type 0 where
    world : at zs ≡ a.world
    answer : x.answer ≡ a.answer
    bytes : x.bytes ≡ a.bytes
    goes : IsRun pool h zs
    state : x.turn.state ≡ pass_state pass zs
    inside : IsInside x.turn.state

  transfers : (zs rest : List HistoryEntry) (t : PassTurn) (space : SpaceId) (addr : ℕ) (transfer : Transfer) → t.state ≡ pass_state pass zs → IsInside t.state
      → IsRun pool h zs → IsLegal pool (zs ++ new_of t space addr transfer) → published ≡ generations_published ((zs ++ new_of t space addr transfer) ++ rest)
      → Did (zs ++ new_of t space addr transfer) (transferred published pass space addr transfer t) (composites.accessed (at zs) pass space addr transfer)
  transfers zs rest t space addr transfer state inside r legal are =
      let n : ℕ = inside.number in
      let ys : List HistoryEntry = new_of t space addr transfer in
      let x : Generation = generation_entered published t in
      let one : List AccessStep = steps_then t space addr transfer in
      let two : List AccessStep = steps_in (at zs) pass space addr transfer in
      let number : number_entered t ≡ n = ap (λ (o : Option ℕ). unwrap_or o 0) inside.is in
      let generation : entered_generation h.generations (shared_after pool zs).passes pass ≡ Some x =
      entered_is pool h pass near zs (ys ++ rest) n (ap (λ (p : PassState). p.entered) (sym state) ∙ inside.is) r (first_part pool zs ys legal)
      ∙ (λ i. Some (generation_numbered ((sym (ap generations_published (append_assoc zs ys rest)) ∙ sym are) i) (sym number i))) in
      let same : one ≡ two = ap (λ (o : Option Generation). access (forest_at o) space addr transfer) (sym generation) in
      let m : Made pool h pass near zs ys (events_of_steps pass one) t.state =
      made pool h pass near zs ys (events_of_steps pass one) t.state (events_are x.places (events_of_steps pass one) t.replies) (steps_of pass one)
      state r legal in
      let there : is_entered (at zs) pass ≡ true = is_entered_at zs t.state state ∙ ap (λ (o : Option ℕ). is_some o) inside.is in
      let by : access_by true (at zs) pass space addr transfer ≡ composites.accessed (at zs) pass space addr transfer =
      ap (λ (b : Bool). access_by b (at zs) pass space addr transfer) (sym there) in record {
        world = m.world ∙ ap (λ (ds : List AccessStep). (run_events (at zs) (events_of_steps pass ds)).world) same ∙ ap (λ (a : Accessed). a.world) by;
        answer = (λ i. let y : Access = record {
          result = result_of (same i);
          number = unwrap_or ((state ∙ sym (pass_is pool zs pass near)) i).entered 0;
        } in y) ∙ ap (λ (a : Accessed). a.answer) by;
        bytes = ap (λ (es : List HistoryEntry). bytes_read one (replies_of es)) (drop_at t.entries ys (length t.entries) refl)
            ∙ same_bytes pass x.places one t.replies
            ∙ ap (λ (es : List PureEntry). bytes_read one (numbers_of es)) m.entries
            ∙ ap (λ (ds : List AccessStep). bytes_read ds (numbers_of (run_events (at zs) (events_of_steps pass ds)).entries)) same
            ∙ ap (λ (a : Accessed). a.bytes) by;
        goes = m.goes;
        state = m.state;
        inside = record { number = n; is = ap (λ (p : PassState). p.entered) (steps_stay pass x.places one t.state t.replies) ∙ inside.is };
      }

  -- What a pass does between an enter and a leave, where it was not entered

  module _ (seen : List HistoryEntry) (rs : List ℕ) (r : IsRun pool h seen) where
    abbrev begins : PassTurn
    begins = pass_begins (pass_state pass seen) rs

    abbrev b : Bool
    b = is_inside begins

    abbrev same_b : is_entered (at seen) pass ≡ b
    same_b = is_entered_at seen (pass_state pass seen) refl

    abbrev entering : List HistoryEntry
    entering = entries_of [] (enters_unless b pass) rs

    abbrev turn_in : PassTurn
    turn_in = makes [] (enters_unless b pass) begins

    abbrev leaving : PassTurn → List HistoryEntry
    leaving t = entries_of [] (leaves_unless b pass) t.replies

    abbrev world_in : World
    world_in = (run_events (at seen) (enters_unless b pass)).world

    enters : IsLegal pool (seen ++ entering) → Made pool h pass near seen entering (enters_unless b pass) (pass_state pass seen)
    enters legal = made pool h pass near seen entering (enters_unless b pass) (pass_state pass seen) (events_are [] (enters_unless b pass) rs)
        (enters_of b pass) refl r legal

    within : IsInside turn_in.state
    within = inside_after b (pass_state pass seen) pass refl rs

    leaves_then : (zs : List HistoryEntry) (t : PassTurn) → t.state ≡ pass_state pass zs → IsRun pool h zs → IsLegal pool (zs ++ leaving t)
        → Made pool h pass near zs (leaving t) (leaves_unless b pass) t.state
    leaves_then zs t state go legal = made pool h pass near zs (leaving t) (leaves_unless b pass) t.state (events_are [] (leaves_unless b pass) t.replies)
        (leaves_of b pass) state go legal

    -- an access

    module _ (rest : List HistoryEntry) (space : SpaceId) (addr : ℕ) (transfer : Transfer) where
      abbrev x : Transferred
      x = transferred published pass space addr transfer turn_in

      abbrev ys : List HistoryEntry
      ys = (pass_turns.accessed published pass space addr transfer begins).turn.entries

      abbrev middle : List HistoryEntry
      middle = new_of turn_in space addr transfer

      abbrev w : Accessed
      w = composites.accessed (at seen) pass space addr transfer

      record Accesses : Type 0 where
        world : at (seen ++ ys) ≡ w.world
        answer : x.answer ≡ w.answer
        bytes : x.bytes ≡ w.bytes
        goes : IsRun pool h (seen ++ ys)

      split : seen ++ ys ≡ ((seen ++ entering) ++ middle) ++ leaving x.turn
      split = sym (
          ap (λ (zs : List HistoryEntry). zs ++ leaving x.turn) (append_assoc seen entering middle)
          ∙ append_assoc seen (entering ++ middle) (leaving x.turn))

      accesses : IsLegal pool (seen ++ ys) → published ≡ generations_published ((seen ++ ys) ++ rest) → Accesses
      accesses legal are =
          let one : List HistoryEntry = seen ++ entering in
          let two : List HistoryEntry = one ++ middle in
          let whole : IsLegal pool (two ++ leaving x.turn) = subst (IsLegal pool) split legal in
          let till_two : IsLegal pool two = first_part pool two (leaving x.turn) whole in
          let e = enters (first_part pool one middle till_two) in
          let d : Did two x (composites.accessed (at one) pass space addr transfer) =
          transfers one (leaving x.turn ++ rest) turn_in space addr transfer e.state within e.goes till_two
          (are ∙ ap generations_published (ap (λ (zs : List HistoryEntry). zs ++ rest) split ∙ append_assoc two (leaving x.turn) rest)) in
          let l = leaves_then two x.turn d.state d.goes whole in
          let there : is_entered (at one) pass ≡ true = is_entered_at one turn_in.state e.state ∙ ap (λ (o : Option ℕ). is_some o) within.is in
          let inner : composites.accessed (at one) pass space addr transfer ≡ access_by true world_in pass space addr transfer =
          ap (λ (c : Bool). access_by c (at one) pass space addr transfer) there ∙ ap (λ (v : World). access_by true v pass space addr transfer) e.world in
          let outer : access_by b (at seen) pass space addr transfer ≡ w = ap (λ (c : Bool). access_by c (at seen) pass space addr transfer) (sym same_b) in
          record {
            world = ap at split ∙ l.world
                ∙ ap (λ (v : World). (run_events v (leaves_unless b pass)).world) (d.world ∙ ap (λ (a : Accessed). a.world) inner)
                ∙ ap (λ (a : Accessed). a.world) outer;
            answer = d.answer ∙ ap (λ (a : Accessed). a.answer) inner ∙ ap (λ (a : Accessed). a.answer) outer;
            bytes = d.bytes ∙ ap (λ (a : Accessed). a.bytes) inner ∙ ap (λ (a : Accessed). a.bytes) outer;
            goes = subst (IsRun pool h) (sym split) l.goes;
          }

    -- a copy

    module _ (rest : List HistoryEntry) (from : SpaceId) (addr n : ℕ) (to : SpaceId) (to_addr : ℕ) where
      abbrev taken : Transferred
      taken = transferred published pass from addr (reading n) turn_in

      abbrev put : Transferred
      put = transferred published pass to to_addr (writing taken.bytes) taken.turn

      abbrev copy_entries : List HistoryEntry
      copy_entries = (pass_turns.copied published pass from addr n to to_addr begins).turn.entries

      abbrev first_new : List HistoryEntry
      first_new = new_of turn_in from addr (reading n)

      abbrev second_new : List HistoryEntry
      second_new = new_of taken.turn to to_addr (writing taken.bytes)

      -- the accesses of the run, by whether the pass was entered
      abbrev read_by : Bool → Accessed
      read_by c = composites.accessed (run_events (at seen) (enters_unless c pass)).world pass from addr (reading n)

      abbrev write_by : Bool → Accessed
      write_by c = composites.accessed (read_by c).world pass to to_addr (writing (read_by c).bytes)

      abbrev world_by : Bool → World
      world_by c = (run_events (write_by c).world (leaves_unless c pass)).world

      record Copies : Type 0 where
        world : at (seen ++ copy_entries) ≡ world_by (is_entered (at seen) pass)
        reads : taken.answer ≡ (read_by (is_entered (at seen) pass)).answer
        puts : put.answer ≡ (write_by (is_entered (at seen) pass)).answer
        goes : IsRun pool h (seen ++ copy_entries)

      split_copy : seen ++ copy_entries ≡ (((seen ++ entering) ++ first_new) ++ second_new) ++ leaving put.turn
      split_copy = sym (
          ap (λ (zs : List HistoryEntry). (zs ++ second_new) ++ leaving put.turn) (append_assoc seen entering first_new)
          ∙ ap (λ (zs : List HistoryEntry). zs ++ leaving put.turn) (append_assoc seen (entering ++ first_new) second_new)
          ∙ append_assoc seen ((entering ++ first_new) ++ second_new) (leaving put.turn))

      copies : IsLegal pool (seen ++ copy_entries) → published ≡ generations_published ((seen ++ copy_entries) ++ rest) → Copies
      copies legal are =
          let one : List HistoryEntry = seen ++ entering in
          let two : List HistoryEntry = one ++ first_new in
          let three : List HistoryEntry = two ++ second_new in
          let last : List HistoryEntry = leaving put.turn in
          let whole : IsLegal pool (three ++ last) = subst (IsLegal pool) split_copy legal in
          let till_three : IsLegal pool three = first_part pool three last whole in
          let till_two : IsLegal pool two = first_part pool two second_new till_three in
          let p_three : published ≡ generations_published (three ++ (last ++ rest)) =
          are ∙ ap generations_published (ap (λ (zs : List HistoryEntry). zs ++ rest) split_copy ∙ append_assoc three last rest) in
          let p_two : published ≡ generations_published (two ++ (second_new ++ (last ++ rest))) =
          p_three ∙ ap generations_published (append_assoc two second_new (last ++ rest)) in
          let e = enters (first_part pool one first_new till_two) in
          let d : Did two taken (composites.accessed (at one) pass from addr (reading n)) =
          transfers one (second_new ++ (last ++ rest)) turn_in from addr (reading n) e.state within e.goes till_two p_two in
          let f : Did three put (composites.accessed (at two) pass to to_addr (writing taken.bytes)) =
          transfers two (last ++ rest) taken.turn to to_addr (writing taken.bytes) d.state d.inside d.goes till_three p_three in
          let l = leaves_then three put.turn f.state f.goes whole in
          let inner : composites.accessed (at one) pass from addr (reading n) ≡ read_by b =
          ap (λ (v : World). composites.accessed v pass from addr (reading n)) e.world in
          let read_world : at two ≡ (read_by b).world = d.world ∙ ap (λ (a : Accessed). a.world) inner in
          let read_bytes : taken.bytes ≡ (read_by b).bytes = d.bytes ∙ ap (λ (a : Accessed). a.bytes) inner in
          let second : composites.accessed (at two) pass to to_addr (writing taken.bytes) ≡ write_by b =
          (λ i. composites.accessed (read_world i) pass to to_addr (writing (read_bytes i))) in
          record {
            world = ap at split_copy ∙ l.world
                ∙ ap (λ (v : World). (run_events v (leaves_unless b pass)).world) (f.world ∙ ap (λ (a : Accessed). a.world) second)
                ∙ ap world_by (sym same_b);
            reads = d.answer ∙ ap (λ (a : Accessed). a.answer) inner ∙ ap (λ (c : Bool). (read_by c).answer) (sym same_b);
            puts = f.answer ∙ ap (λ (a : Accessed). a.answer) second ∙ ap (λ (c : Bool). (write_by c).answer) (sym same_b);
            goes = subst (IsRun pool h) (sym split_copy) l.goes;
          }

    -- a line of a pass that gives no order

    module _ (k : Known) (a : KnowsNames k h.desk) (n : ℕ) (e : DeskEntry) (rest : List HistoryEntry) where
      abbrev w_seen : World
      w_seen = at seen

      own_follows : (zs : List HistoryEntry) (v : World) (text text' : Text) → at zs ≡ v → text ≡ text' → IsRun pool h zs
          → Follows pool h zs k (says text) (outcome (known_state k w_seen) k.names v text')
      own_follows zs v text text' is same go = record {
        text = ap (λ (t : Text). t ++ []) same
            ∙ ap (λ (ds : List Delivery). text' ++ told_lines k.names ds) (sym (drop_all h.desk.listening.journal))
            ∙ ap (λ (u : World). text' ++ told_lines k.names (heard w_seen u)) is;
        left = ap (known_state k) is;
        runs = go;
        knows = a;
      }

      nothing_follows : (zs : List HistoryEntry) (text : Text) → zs ≡ seen → Follows pool h zs k (says text) (writes (known_state k w_seen) text)
      nothing_follows zs text is = record {
        text = append-nil text;
        left = ap (λ (ys : List HistoryEntry). known_state k (at ys)) is;
        runs = subst (IsRun pool h) (sym is) r;
        knows = a;
      }

      abbrev Line : Resolved Task → Type 0
      Line task = let y = line_of_pass published k.names pass n task begins e in
          IsLegal pool (seen ++ y.turn.entries) → published ≡ generations_published ((seen ++ y.turn.entries) ++ rest)
          → Follows pool h (seen ++ y.turn.entries) k y.said (pass_step k w_seen pass n task)

      enter_follows : Line (Ok entered)
      enter_follows legal are =
          let es : List Event = enters_anew b pass in
          let ys : List HistoryEntry = entries_of [] es rs in
          let m = made pool h pass near seen ys es (pass_state pass seen) (events_are [] es rs) (anew_of b pass) refl r legal in
          let v : World = (run_events w_seen (enters_anew (is_entered w_seen pass) pass)).world in
          let world : at (seen ++ ys) ≡ v = m.world ∙ ap (λ (c : Bool). (run_events w_seen (enters_anew c pass)).world) (sym same_b) in
          let state : pass_after_all (pass_state pass seen) ys ≡ pass_of v.passes pass =
          m.state ∙ sym (pass_is pool (seen ++ ys) pass near) ∙ ap (λ (u : World). pass_of u.passes pass) world in
          own_follows (seen ++ ys) v _ _ world (ap (λ (p : PassState). enter_line pass (unwrap_or p.entered 0)) state) m.goes

      leave_follows : Line (Ok left)
      leave_follows legal are = go b refl legal
        where
          go : (c : Bool) → b ≡ c → (let ys = (makes [] (if c then leaves pass else []) begins).entries in
              IsLegal pool (seen ++ ys) → Follows pool h (seen ++ ys) k (says (leave_line pass)) (pass_step k w_seen pass n (Ok left)))
          go c same l =
              let es : List Event = if c then leaves pass else [] in
              let ys : List HistoryEntry = entries_of [] es rs in
              let m = made pool h pass near seen ys es (pass_state pass seen) (events_are [] es rs) (left_of c pass) refl r l in
              own_follows (seen ++ ys) _ _ _
              (m.world ∙ ap (λ (d : Bool). (run_events w_seen (if d then leaves pass else [])).world) (sym (same_b ∙ same))) refl m.goes

      read_follows : (space : SpaceId) (addr len : ℕ) → Line (Ok (accessed space addr (reading len)))
      read_follows space addr len legal are =
          let d = accesses rest space addr (reading len) legal are in
          own_follows _ _ _ _ d.world (λ i. read_line pass (d.answer i) (d.bytes i)) d.goes

      write_follows : (space : SpaceId) (addr : ℕ) (bytes : List ℕ) → Line (Ok (accessed space addr (writing bytes)))
      write_follows space addr bytes legal are =
          let d = accesses rest space addr (writing bytes) legal are in own_follows _ _ _ _ d.world (ap (write_line pass) d.answer) d.goes

      copy_follows : (from : SpaceId) (addr len : ℕ) (to : SpaceId) (to_addr : ℕ) → Line (Ok (copied from addr len to to_addr))
      copy_follows from addr len to to_addr legal are =
          let d = copies rest from addr len to to_addr legal are in
          own_follows _ _ _ _ d.world
          (λ i. dma_line pass (let y : Access = record { result = either (d.reads i).result (d.puts i).result; number = (d.reads i).number } in y)) d.goes

      access_follows : (space : SpaceId) (addr : ℕ) (transfer : Transfer) → Line (Ok (accessed space addr transfer))
      access_follows space addr (reading len) legal are = read_follows space addr len legal are
      access_follows space addr (writing bytes) legal are = write_follows space addr bytes legal are

      pub pass_follows : (task : Resolved Task) → asks_of task ≡ [] → Line task
      pass_follows (Ok (ordered order name)) none legal are =
          absurd (one_is_not_none order none)
      pass_follows (Ok entered) none legal are = enter_follows legal are
      pass_follows (Ok left) none legal are = leave_follows legal are
      pass_follows (Ok (accessed space addr transfer)) none legal are = access_follows space addr transfer legal are
      pass_follows (Ok (copied from addr len to to_addr)) none legal are = copy_follows from addr len to to_addr legal are
      pass_follows (Err why) none legal are = nothing_follows (seen ++ []) (refused_line n why) (append-nil seen)
      pass_follows (Ok task) none legal are = nothing_follows (seen ++ []) [] (append-nil seen)
