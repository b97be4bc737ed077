-- Each turn of the writer, from an idle part of the machine: it goes, it ends idle, and it publishes what its private
-- event commits.
use Rattle.std.proofs.Common.{◌≡◌, ℕ, zero, suc, ◌+◌, ◌<◌, ◌≤◌, Bool, true, false, ◌||◌, List, [], ◌∷◌, ◌++◌, length, map, append_assoc}
use Rattle.std.proofs.Common.{sym, refl, ap, ◌∙◌, subst, arith, if◌then◌else◌, Option, Some, None}
use Rattle.std.specs.Prelude.{not, ◌/◌}
use Rattle.std.specs.List.{range_with_len}
use Rattle.mem_base.specs.declared.map.ids.RegionId.{RegionId}
use Rattle.mem_base.specs.declared.map.kinds.Client.{Client}
use Rattle.mem_base.specs.declared.map.forests.Forest.{Forest}
use Rattle.mem_base.specs.declared.map.calls.Config.{Config}
use Rattle.mem_base.specs.declared.map.refusals.Refusal.{Refusal}
use Rattle.mem_base.specs.declared.access.cells.Place.{Place}
use Rattle.mem_base.specs.declared.access.cells.Cell.{Cell}
use Rattle.mem_base.specs.declared.access.cells.WordStep.{WordStep}
use Rattle.mem_base.specs.declared.machine.events.Hand.TheVariants as hands
use Rattle.mem_base.specs.declared.machine.events.Event.{Event}
use Rattle.mem_base.specs.declared.machine.events.Event.TheVariants as events
use Rattle.mem_base.specs.lists.Every.{Every}
use Rattle.mem_base.specs.lists.Runs.{Run, touched}
use Rattle.mem_base.specs.map.Limits.{word_size}
use Rattle.mem_base.specs.access.PlacesByRegion.{place_in}
use Rattle.mem_base.specs.machine.Committed.{committed_from}
use Rattle.mem_base.specs.access.Cells.{cell}
use Rattle.mem_base.specs.access.MemoryAccess.{replaces}
use Rattle.mem_base.specs.machine.Desk.{Desk, places_of, is_all_swept, unswept}
use Rattle.mem_base.specs.machine.Reaps.{Writer, writer}
use Rattle.mem_base.specs.machine.Publishing.{would_publish}
use Rattle.mem_base.specs.machine.Configs.{configured, answers}
use Rattle.mem_base.specs.machine.World.{is_at_rest}
use Rattle.mem_base.specs.machine.Orders.{Order, configure, reap, load, harvest, notified, journal, current, sweeps, publishes, pass_ids}
use Rattle.mem_base.specs.machine.Orders.{events_after, unless, loads, harvests, mark_words_at, load_refusal, harvest_refusal}
use Rattle.mem_base.specs.machine.Turns.{turn, played, private_entries, after_private, entries_of_turn}
use Rattle.mem_base.specs.machine.JoinedHistory.{published_forests, accepted, accepted_one}
use Rattle.mem_base.proofs.EveryLaws.{weaker, every_map}
use Rattle.history_laws.proofs.Outcomes.{told_commits, due_forests, outcome, stands}
use Rattle.view_laws.proofs.SortedLaws.{every_filter}
use Rattle.turn_laws.proofs.Readies.{Ready, Due}
use Rattle.turn_laws.proofs.TurnGoes.{AllDue, TurnReady}
use Rattle.history_laws.proofs.Idles.{IsSoundDesk, Idle, fresh}
use Rattle.turn_laws.proofs.Rows.{AreReady, writer_played, forests_in, forests_both, no_forest_at, with_swept, with_due, with_unfilled}
use Rattle.turn_laws.proofs.Rows.{flags_after, swept_desk, swept_passes, swept_length, sweeps_forests, all_swept, sweeps_ready}
use Rattle.turn_laws.proofs.Rows.{published_desk, published_passes, publish_forests, publish_ready, filled_desk, filled_generations}
use Rattle.turn_laws.proofs.Rows.{fill_forests, fills_ready, IsSteady, steady_after, steady_forests, steady_ready}
use Rattle.std.proofs.lemmas.Bool.{or_right}
use Rattle.mem_base.proofs.ListLaws.{length_map}

-- nothing is due or unfilled in an idle desk
pub at_rest : (d : Desk) → d.due ≡ false → d.unfilled ≡ [] → is_at_rest d ≡ true
at_rest d due filled = rw (due, filled) refl

-- a desk of which only flags, what is due and what is unfilled are others
sound_with : (d : Desk) (bs : List Bool) (b : Bool) (cs : List Cell) → IsSoundDesk d → IsSoundDesk (with_unfilled cs (with_due b (with_swept bs d)))
sound_with d bs b cs k = record { forest = k.forest; few = k.few; places = k.places; pending = k.pending }

-- before the private event of a call

record Prepared (h m : Writer) (c : Config) : Type 0 where
  idle : Idle m
  same : stands m.desk ≡ stands h.desk
  ok : (not (would_publish m.desk c) || is_all_swept m.desk) ≡ true

-- after a sweep of every pass
record Swept (h m : Writer) : Type 0 where
  idle : Idle m
  same : stands m.desk ≡ stands h.desk
  all : is_all_swept m.desk ≡ true

swept : (h : Writer) (ns : List ℕ) → Idle h → Swept h (writer_played h (sweeps h.generations) ns)
swept h ns i = let vs = pass_ids h.generations in let m = writer_played h (sweeps h.generations) ns in let e = swept_desk vs h ns in record {
  idle = record {
    due = ap (λ (d : Desk). d.due) e ∙ i.due;
    filled = ap (λ (d : Desk). d.unfilled) e ∙ i.filled;
    flagged = ap (λ (d : Desk). length d.swept) e ∙ swept_length vs h.desk.swept ∙ i.flagged ∙ sym (swept_passes vs h ns);
    sound = subst IsSoundDesk (sym e) (sound_with h.desk (flags_after vs h.desk.swept) h.desk.due h.desk.unfilled i.sound);
  };
  same = ap (λ (d : Desk). stands d) e;
  all = subst (λ (d : Desk). is_all_swept d ≡ true) (sym e) (all_swept (length h.generations.passes) h.desk.swept i.flagged);
}

unasked : (h : Writer) (c : Config) → Idle h → would_publish h.desk c ≡ false → Prepared h h c
unasked h c i e = record { idle = i; same = refl; ok = rw e refl }

module _ (end : Writer) where
  -- after the private event

  record Finished (s : Desk) (m : Writer) (es : List Event) (ns : List ℕ) (b : Bool) : Type 0 where
    ready : AreReady end m es ns
    idle : Idle (writer_played m es ns)
    forests : forests_in m es ns ≡ due_forests b s.forest
    same : stands (writer_played m es ns).desk ≡ stands s

  finished : (m : Writer) (c : Config) (ns : List ℕ) → Idle m → (let s = configured m.generations m.desk c in (b : Bool) → s.desk.due ≡ b
      → Finished s.desk (writer (unswept s.desk) m.generations) (if b then publishes m.generations else map (λ c. events.Fill c) s.desk.unfilled) ns b)
  finished m c ns i true due =
      let s = configured m.generations m.desk c in let o = outcome m.generations m.desk i.sound i.due i.filled c in
      let n : Writer = writer (unswept s.desk) m.generations in let vs = pass_ids m.generations in let e = published_desk vs n ns in record {
        ready = publish_ready end vs n ns due;
        idle = record {
          due = ap (λ (d : Desk). d.due) e;
          filled = ap (λ (d : Desk). d.unfilled) e ∙ o.none_due due;
          flagged = ap (λ (d : Desk). length d.swept) e ∙ length_map (λ b. false) s.desk.swept ∙ o.flags ∙ i.flagged ∙ sym (published_passes vs n ns);
          sound = subst IsSoundDesk (sym e) (sound_with s.desk (map (λ b. false) s.desk.swept) false s.desk.unfilled o.sound);
        };
        forests = publish_forests vs n ns;
        same = ap (λ (d : Desk). stands d) e;
      }
  finished m c ns i false due =
      let s = configured m.generations m.desk c in let o = outcome m.generations m.desk i.sound i.due i.filled c in
      let n : Writer = writer (unswept s.desk) m.generations in let cs = s.desk.unfilled in let e = filled_desk cs n ns refl o.distinct in record {
        ready = fills_ready end cs n ns refl o.distinct;
        idle = record {
          due = ap (λ (d : Desk). d.due) e ∙ due;
          filled = ap (λ (d : Desk). d.unfilled) e;
          flagged = ap (λ (d : Desk). length d.swept) e ∙ length_map (λ b. false) s.desk.swept ∙ o.flags ∙ i.flagged
              ∙ ap (λ g. length g.passes) (sym (filled_generations cs n ns));
          sound = subst IsSoundDesk (sym e) (sound_with s.desk (map (λ b. false) s.desk.swept) s.desk.due [] o.sound);
        };
        forests = fill_forests cs n ns;
        same = ap (λ (d : Desk). stands d) e;
      }

  -- what a turn keeps
  pub record TurnFacts (h : Writer) (k : Order) (ns : List ℕ) : Type 0 where
    pub ready : TurnReady Ready Due end h k ns
    pub idle : Idle (turn h k ns).writer
    pub forests : (ks : List Config) → committed_from (stands h.desk) (accepted (turn h k ns).private ++ ks) ≡ published_forests
        (entries_of_turn (turn h k ns)) ++ committed_from (stands (turn h k ns).writer.desk) ks

  -- a call, by the events before its private one
  record FactsBy (h : Writer) (c : Config) (es : List Event) (ns : List ℕ) : Type 0 where
    before : AreReady end h es ns
    private : AllDue Ready Due end (writer_played h es ns) (events.Config c ∷ [])
    after_it : let b = played h es ns in let n = after_private b.writer (events.Config c ∷ []) in AreReady end n (events_after n (configure c)) b.replies
    idle : let b = played h es ns in let n = after_private b.writer (events.Config c ∷ []) in Idle (writer_played n (events_after n (configure c)) b.replies)
    forests : (ks : List Config) → let b = played h es ns in let n = after_private b.writer (events.Config c ∷ []) in
        let t = played n (events_after n (configure c)) b.replies in
        committed_from (stands h.desk) (accepted (private_entries b.writer (events.Config c ∷ [])) ++ ks) ≡ published_forests (b.entries ++ t.entries)
        ++ committed_from (stands t.writer.desk) ks

  config_by : (h : Writer) (c : Config) (es : List Event) (ns : List ℕ) → AreReady end h es ns → Prepared h (writer_played h es ns) c → forests_in h es ns
      ≡ [] → FactsBy h c es ns
  config_by h c es ns r p none =
      let b = played h es ns in let m = b.writer in let s = configured m.generations m.desk c in
      let o = outcome m.generations m.desk p.idle.sound p.idle.due p.idle.filled c in
      let f = finished m c b.replies p.idle s.desk.due refl in
      let n = after_private m (events.Config c ∷ []) in let t = played n (events_after n (configure c)) b.replies in record {
        before = r;
        private = (record { tells = refl; event = (at_rest m.desk p.idle.due p.idle.filled, p.ok, fresh m.desk p.idle.sound c) }, tt);
        after_it = f.ready;
        idle = f.idle;
        forests = λ ks.
            (λ i. committed_from (sym p.same i) ((accepted_one (events.Config c) (answers c s.answer) ++ []) ++ ks))
            ∙ ap (λ (xs : List Config). committed_from (stands m.desk) xs) (append_assoc (accepted_one (events.Config c) (answers c s.answer)) [] ks)
            ∙ told_commits m.desk s.desk c s.answer ks o.tells
            ∙ (λ i. sym f.forests i ++ committed_from (sym f.same i) ks)
            ∙ ap (λ (xs : List Forest). (xs ++ published_forests t.entries) ++ committed_from (stands t.writer.desk) ks) (sym none)
            ∙ ap (λ (xs : List Forest). xs ++ committed_from (stands t.writer.desk) ks) (sym (forests_both b.entries t.entries));
      }

  config_turn : (h : Writer) (c : Config) (ns : List ℕ) → Idle h → TurnFacts h (configure c) ns
  config_turn h c ns i = let f = go (would_publish h.desk c) refl in record {
    ready = record { before = f.before; private = f.private; after = f.after_it };
    idle = f.idle;
    forests = f.forests;
  }
    where
      go : (b : Bool) → would_publish h.desk c ≡ b → FactsBy h c (if b then sweeps h.generations else []) ns
      go true e = let s = swept h ns i in config_by h c (sweeps h.generations) ns (sweeps_ready end (pass_ids h.generations) h ns)
          (record { idle = s.idle; same = s.same; ok = or_right _ _ s.all }) (sweeps_forests (pass_ids h.generations) h ns)
      go false e = config_by h c [] ns tt (unasked h c i e) refl

  -- a reap
  reap_turn : (h : Writer) (ns : List ℕ) → Idle h → TurnFacts h reap ns
  reap_turn h ns i = let s = swept h ns i in let b = played h (sweeps h.generations) ns in let m = b.writer in record {
    ready = record {
      before = sweeps_ready end (pass_ids h.generations) h ns;
      private = (record { tells = refl; event = (at_rest m.desk s.idle.due s.idle.filled, s.all) }, tt);
      after = tt;
    };
    idle = record {
      due = s.idle.due;
      filled = s.idle.filled;
      flagged = length_map (λ b. false) m.desk.swept ∙ s.idle.flagged;
      sound = record {
        forest = s.idle.sound.forest;
        few = s.idle.sound.few;
        places = every_filter (λ p. p.region.0 < m.desk.forest.made) (λ p. p.region.0 < m.desk.forest.made) _ m.desk.places (λ p e l. l) s.idle.sound.places;
        pending = s.idle.sound.pending;
      };
    };
    forests = λ ks. (λ j. committed_from (sym s.same j) ks)
        ∙ ap (λ (xs : List Forest). xs ++ committed_from (stands m.desk) ks) (sym (sweeps_forests (pass_ids h.generations) h ns))
        ∙ ap (λ xs. published_forests xs ++ committed_from (stands m.desk) ks) (sym (append_nil b.entries));
  }
    where
      append_nil : {A : Type 0} (xs : List A) → xs ++ [] ≡ xs
      append_nil [] = refl
      append_nil (x ∷ xs) = ap (λ zs. x ∷ zs) (append_nil xs)

  -- events that leave the writer's part as it is
  steady_commits : (es : List Event) (h : Writer) (ns : List ℕ) → Every (IsSteady h) es → (ks : List Config) → committed_from (stands h.desk) ks
      ≡ forests_in h es ns ++ committed_from (stands (writer_played h es ns).desk) ks
  steady_commits es h ns k ks = λ i. sym (steady_forests es h ns k) i ++ committed_from (stands (sym (steady_after es h ns k) i).desk) ks

  writes_steady : (h : Writer) → Idle h → (ws : List Run) (f : Run → ℕ) (region : RegionId) (s : Run → WordStep)
      → Every (IsSteady h) (map (λ w. events.Word hands.Writer (cell region (f w)) (s w)) ws)
  writes_steady h i [] f region s = tt
  writes_steady h i (w ∷ ws) f region s = (record { ready = i.filled; stays = λ x n. refl; carries = no_forest_at _ }, writes_steady h i ws f region s)

  unless_steady : (h : Writer) (o : Option Refusal) (es : List Event) → Every (IsSteady h) es → Every (IsSteady h) (unless o es)
  unless_steady h None es k = k
  unless_steady h (Some why) es k = tt

  below : (a n end : ℕ) → a + n ≤ end → Every (λ i. i < end) (range_with_len a n)
  below a zero end l = tt
  below a (suc n) end l = (omega arith, below (a + 1) n end (omega arith))

  harvests_steady : (h : Writer) → Idle h → (region : RegionId) (client : Client) → Every (IsSteady h) (harvests h.desk region client)
  harvests_steady h i region client =
      every_map (IsSteady h) (λ index. events.Harvest region client index) (range_with_len 0 n)
      (weaker (λ index. index < n) (λ index. IsSteady h (events.Harvest region client index))
      (λ index l. record {
        ready = (i.filled, λ p is. subst (λ (o : Option Place). index < mark_words_at o) is l);
        stays = λ x m. refl;
        carries = no_forest_at _;
      }) (range_with_len 0 n) (below 0 n n (omega arith)))
    where
      n : ℕ
      n = mark_words_at (place_in (places_of h.desk) region)

  load_turn : (h : Writer) (region : RegionId) (offset : ℕ) (bytes : List ℕ) (ns : List ℕ) → Idle h → TurnFacts h (load region offset bytes) ns
  load_turn h region offset bytes ns i =
      let es = events_after h (load region offset bytes) in
      let k : Every (IsSteady h) es = unless_steady h (load_refusal h.desk.forest region offset (length bytes)) (loads region offset bytes)
      (writes_steady h i (touched word_size offset (length bytes)) (λ w. w.start / word_size) region (replaces offset bytes)) in record {
        ready = record { before = tt; private = tt; after = steady_ready end es h ns k };
        idle = subst Idle (sym (steady_after es h ns k)) i;
        forests = steady_commits es h ns k;
      }

  harvest_turn : (h : Writer) (region : RegionId) (client : Client) (ns : List ℕ) → Idle h → TurnFacts h (harvest region client) ns
  harvest_turn h region client ns i =
      let es = events_after h (harvest region client) in
      let k : Every (IsSteady h) es = unless_steady h (harvest_refusal h.desk.forest region) (harvests h.desk region client)
      (harvests_steady h i region client) in record {
        ready = record { before = tt; private = tt; after = steady_ready end es h ns k };
        idle = subst Idle (sym (steady_after es h ns k)) i;
        forests = steady_commits es h ns k;
      }

  notified_turn : (h : Writer) (number : ℕ) (ns : List ℕ) → Idle h → TurnFacts h (notified number) ns
  notified_turn h number ns i =
      let es = events_after h (notified number) in
      let k : Every (IsSteady h) es = (record { ready = i.filled; stays = λ x n. refl; carries = no_forest_at _ }, tt) in record {
        ready = record { before = tt; private = tt; after = steady_ready end es h ns k };
        idle = subst Idle (sym (steady_after es h ns k)) i;
        forests = steady_commits es h ns k;
      }

  -- every call of the writer
  pub turn_facts : (h : Writer) (k : Order) (ns : List ℕ) → Idle h → TurnFacts h k ns
  turn_facts h (configure c) ns i = config_turn h c ns i
  turn_facts h reap ns i = reap_turn h ns i
  turn_facts h (load region offset bytes) ns i = load_turn h region offset bytes ns i
  turn_facts h (harvest region client) ns i = harvest_turn h region client ns i
  turn_facts h (notified number) ns i = notified_turn h number ns i
  turn_facts h journal ns i = record { ready = record { before = tt; private = tt; after = tt }; idle = i; forests = λ ks. refl }
  turn_facts h current ns i = record { ready = record { before = tt; private = tt; after = tt }; idle = i; forests = λ ks. refl }
