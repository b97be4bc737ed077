-- The calls of each listener replay to what it is to have, in every legal history.
use Rattle.std.proofs.Common.{◌≡◌, ℕ, ◌+◌, ◌-◌, ◌≤◌, ne_eqb, eq-eqb, drop, take, length, Bool, true, false, ◌&&◌, ◌||◌, List, [], ◌∷◌, ◌++◌}
use Rattle.std.proofs.Common.{append_assoc, length-append, sym, refl, ap, ◌∙◌, subst, arith, if◌then◌else◌, Option, Some, None}
use Rattle.std.specs.Prelude.{filter, find, not, nat_le, is_some, is_none, ◌==◌, Result, Ok, Err, option_map}
use Rattle.std.specs.List.{list_any}
use Rattle.std.proofs.lemmas.Bool.{eqb-true, eqb-false, and_parts, not-true}
use lib.ListN.{take-append-drop}
use Rattle.std.proofs.lemmas.List.{append-nil, take-append-le, take_at}
use Rattle.mem_base.specs.declared.map.ids.RegionId.{RegionId}
use Rattle.mem_base.specs.declared.map.ids.SpaceId.{SpaceId}
use Rattle.mem_base.specs.declared.map.ids.ListenerId.{ListenerId}
use Rattle.mem_base.specs.declared.map.forests.Forest.{Forest}
use Rattle.mem_base.specs.declared.map.calls.Applied.{Applied}
use Rattle.mem_base.specs.declared.map.calls.Applied.TheVariants.{Done, Made}
use Rattle.mem_base.specs.declared.map.calls.Call.{Call}
use Rattle.mem_base.specs.declared.map.calls.Call.TheVariants as calls
use Rattle.mem_base.specs.declared.map.calls.Config.{Config}
use Rattle.mem_base.specs.declared.map.calls.Config.TheVariants as configs
use Rattle.mem_base.specs.declared.views.listening.Listener.{Listener}
use Rattle.mem_base.specs.declared.views.listening.ListenerEvent.{ListenerEvent}
use Rattle.mem_base.specs.declared.map.refusals.Refusal.{Refusal}
use Rattle.mem_base.specs.declared.map.refusals.Refusal.TheVariants.{NoTransaction, TooNested, NoBacking, Unknown, NameTaken, LimitReached}
use Rattle.mem_base.specs.declared.map.refusals.What.TheVariants as what
use Rattle.mem_base.specs.declared.machine.events.Event.{Event}
use Rattle.mem_base.specs.declared.machine.events.Event.TheVariants as events
use Rattle.mem_base.specs.declared.machine.events.Reply.{Reply}
use Rattle.mem_base.specs.map.Limits.{most_nested, most_listeners}
use Rattle.mem_base.specs.lists.Every.{Every, EveryPair}
use Rattle.mem_base.specs.map.Forest.{AreOtherSpaces}
use Rattle.mem_base.specs.map.Search.{is_space, root_of}
use Rattle.mem_base.specs.declared.map.refusals.Which.TheVariants as which
use Rattle.mem_base.specs.map.Refusals.{first_refusal, refuse_if, unknown_space}
use Rattle.mem_base.specs.map.TableRefusals.{no_more_calls}
use Rattle.mem_base.specs.map.Calls.{after as forest_after, refusals, answer_of, is_quiet}
use Rattle.mem_base.specs.views.Flattened.{view_of}
use Rattle.mem_base.specs.views.LiveEvents.{lives_of}
use Rattle.mem_base.specs.access.Places.{Extent, extent_of, words_of, first_fit}
use Rattle.mem_base.specs.views.Replay.{ListenerState, nothing_heard, listener_after_all, replay}
use Rattle.mem_base.specs.machine.Generations.{Generations}
use Rattle.mem_base.specs.views.Listening.{Listening, Delivery, is_listener, listens, deliveries_to, ascending, deliveries_of_changes, changes_between}
use Rattle.mem_base.specs.views.Listening.{delivered, joined, joining, join_refusal, left, leaving, leave_refusal, calls_to}
use Rattle.mem_base.specs.machine.Desk.{Desk}
use Rattle.mem_base.specs.machine.Publishing.{Settled, settled, refused_desk, unless_refused, held_up, readied, publishing, current_forest}
use Rattle.mem_base.specs.machine.Configs.{configured, answers, made, backed, kept_back, after_call, begun, committed, listened, unlistened, without_listener}
use Rattle.mem_base.specs.machine.World.{World, possible, reply, after_telling, number_in, opening}
use Rattle.mem_base.specs.machine.History.{PureEntry, after_entry, after_entries, IsLegalFrom, IsLegal}
use Rattle.mem_base.proofs.EveryLaws.{every_push}
use Rattle.map_laws.proofs.RefusalLaws.{each_none, refuse_if-none, find-none}
use Rattle.map_laws.proofs.CallLaws.{after-accepted}
use Rattle.mem_base.specs.machine.ListenerReplay.{listener_of, shown_to, heard_of, told_forest, joins_by, joined_at}
use Rattle.view_laws.proofs.Tests.{none_is_not_some}
use Rattle.view_laws.proofs.SwitchLaws.{heard_both, joining_replays, leaving_replays, change_replays}
use Rattle.view_laws.proofs.ViewRanges.{view_apart}
use Rattle.view_laws.proofs.LiveMembers.{lists_live}
use Rattle.view_laws.proofs.Projections.{calls_both, calls_mine, calls_others, one, AtMost, told_change, IsKnownTo, publish_tells}
use Rattle.history_laws.proofs.PureAppends.{after_both, legal_parts}
use Rattle.map_laws.proofs.SoundCallLaws.{some_found}
use Rattle.std.proofs.lemmas.Option.{same_Some}
use Rattle.mem_base.proofs.BoolLaws.{true_is_not_false}

-- the spaces of a forest after a call: the old ones, and one that is new

record Grown (f g : Forest) : Type 0 where
  apart : EveryPair AreOtherSpaces g.spaces
  more : (s : SpaceId) → is_some (find (is_space s) f.spaces) ≡ true → is_some (find (is_space s) g.spaces) ≡ true

same_grown : (f : Forest) → EveryPair AreOtherSpaces f.spaces → Grown f f
same_grown f h = record { apart = h; more = λ s e. e }

abbrev Spaces : Type 0
Spaces = List (SpaceId × RegionId)

found_before : (s : SpaceId) (ps qs : Spaces) → is_some (find (is_space s) ps) ≡ true → is_some (find (is_space s) (ps ++ qs)) ≡ true
found_before s [] qs h = absurd (grind arith)
found_before s (p ∷ ps) qs h = go (p.0.0 == s.0) h (found_before s ps qs)
  where
    go : (b : Bool) → is_some (if b then Some p else find (is_space s) ps) ≡ true
        → (is_some (find (is_space s) ps) ≡ true → is_some (find (is_space s) (ps ++ qs)) ≡ true)
        → is_some (if b then Some p else find (is_space s) (ps ++ qs)) ≡ true
    go true h rest = refl
    go false h rest = rest h

others_push : (s : SpaceId) (r : RegionId) (ps : Spaces) → Every (λ p. is_space s p ≡ false) ps → EveryPair AreOtherSpaces ps
    → EveryPair AreOtherSpaces (ps ++ (s, r) ∷ [])
others_push s r [] h k = (tt, tt)
others_push s r (p ∷ ps) h k = (every_push (AreOtherSpaces p) ps (s, r) k.0 (eqb-false _ _ h.0), others_push s r ps h.1 k.1)

grown_by : (f g : Forest) (call : Call) → forest_after f call ≡ Ok g → EveryPair AreOtherSpaces f.spaces → Grown f g
grown_by f g (calls.Space space root) e h =
    let ok = after-accepted f g (calls.Space space root) e in
    let each = each_none (refusals f (calls.Space space root) ++ no_more_calls f ∷ []) ok.0 in
    let free = find-none (is_space space) f.spaces
    (some_found (find (is_space space) f.spaces) (refuse_if-none (is_some (root_of f space)) (NameTaken (what.Space space)) each.1.0)) in
    subst (λ (z : Forest). Grown f z) (sym ok.1) record {
      apart = others_push space root f.spaces free h;
      more = λ s k. found_before s f.spaces ((space, root) ∷ []) k;
    }
grown_by f g call e h = subst (λ (z : Forest). Grown f z) (sym (after-accepted f g call e).1) (record { apart = h; more = λ s k. k })

-- the listeners of a desk with these spaces, who were told of a forest

pub record IsTold (f : Forest) (x : Listening) (told : Forest) : Type 0 where
  once : (id : ListenerId) → AtMost (is_listener id) x.listeners (listener_of x.listeners id)
  spaces : EveryPair AreOtherSpaces f.spaces
  known : (id : ListenerId) → IsKnownTo f (listener_of x.listeners id)
  replays : (id : ListenerId) → replay (calls_to id x.journal) ≡ Some (heard_of told (listener_of x.listeners id))

known_still : (f g : Forest) → Grown f g → (o : Option Listener) → IsKnownTo f o → IsKnownTo g o
known_still f g w None k = tt
known_still f g w (Some l) k = w.more l.space k

grows : (f g : Forest) (x : Listening) (told : Forest) → Grown f g → IsTold f x told → IsTold g x told
grows f g x told w k = record {
  once = k.once;
  spaces = w.apart;
  known = λ id. known_still f g w (listener_of x.listeners id) (k.known id);
  replays = k.replays;
}

-- more calls after those of an id
replays_on : (id : ListenerId) (old more : List Delivery) (h k : ListenerState) → replay (calls_to id old) ≡ Some h → listener_after_all (Some h)
    (calls_to id more) ≡ Some k → replay (calls_to id (old ++ more)) ≡ Some k
replays_on id old more h k e r =
    ap replay (calls_both id old more) ∙ heard_both (Some nothing_heard) (calls_to id old) (calls_to id more)
    ∙ ap (λ (o : Option ListenerState). listener_after_all o (calls_to id more)) e ∙ r

-- a publish

change_heard : (old new : Forest) (o : Option Listener) → listener_after_all (Some (heard_of old o)) (told_change old new o) ≡ Some (heard_of new o)
change_heard old new None = refl
change_heard old new (Some l) = change_replays old new l.space

publishes : (f g : Forest) (x : Listening) (told : Forest) → Grown f g → IsTold f x told → IsTold g (delivered x (changes_between told g)) g
publishes f g x told w k = record {
  once = k.once;
  spaces = w.apart;
  known = λ id. known_still f g w (listener_of x.listeners id) (k.known id);
  replays = λ id. let o = listener_of x.listeners id in
      replays_on id x.journal (deliveries_of_changes (ascending x.listeners) (changes_between told g)) (heard_of told o) (heard_of g o) (k.replays id)
      (ap (λ (es : List ListenerEvent). listener_after_all (Some (heard_of told o)) es)
      (publish_tells id x.listeners o told g (k.once id) w.apart (known_still f g w o (k.known id))) ∙ change_heard told g o);
}

-- one that joins

pub find_push : {A : Type 0} (test : A → Bool) (xs : List A) (y : A) → test y ≡ false → find test (xs ++ y ∷ []) ≡ find test xs
find_push test [] y e = rw e refl
find_push test (x ∷ xs) y e = go (test x) (find_push test xs y e)
  where
    go : (b : Bool) → find test (xs ++ y ∷ []) ≡ find test xs → (if b then Some x else find test (xs ++ y ∷ [])) ≡ (if b then Some x else find test xs)
    go true rest = refl
    go false rest = rest

filter_push : {A : Type 0} (test : A → Bool) (xs : List A) (y : A) → test y ≡ false → filter test (xs ++ y ∷ []) ≡ filter test xs
filter_push test [] y e = rw e refl
filter_push test (x ∷ xs) y e = go (test x) (filter_push test xs y e)
  where
    go : (b : Bool) → filter test (xs ++ y ∷ []) ≡ filter test xs → (if b then x ∷ filter test (xs ++ y ∷ []) else filter test (xs ++ y ∷ []))
        ≡ (if b then x ∷ filter test xs else filter test xs)
    go true rest = ap (λ zs. x ∷ zs) rest
    go false rest = rest

-- where none passes a test, and one more does
record OneMore {A : Type 0} (test : A → Bool) (xs : List A) (y : A) : Type 0 where
  none : find test xs ≡ None
  found : find test (xs ++ y ∷ []) ≡ Some y
  alone : filter test (xs ++ y ∷ []) ≡ y ∷ []

one_more : {A : Type 0} (test : A → Bool) (xs : List A) (y : A) → list_any test xs ≡ false → test y ≡ true → OneMore test xs y
one_more test [] y n e = record { none = refl; found = rw e refl; alone = rw e refl }
one_more test (x ∷ xs) y n e = go (test x) refl n (λ m. one_more test xs y m e)
  where
    go : (b : Bool) → test x ≡ b → (b || list_any test xs) ≡ false → (list_any test xs ≡ false → OneMore test xs y) → OneMore test (x ∷ xs) y
    go true t n rest = absurd (grind arith)
    go false t n rest = let k = rest n in record { none = rw t k.none; found = rw t k.found; alone = rw t k.alone }

same_id : (x y : ListenerId) → (x.0 == y.0) ≡ true → x ≡ y
same_id x y e = let s = eqb-true _ _ e in λ i. record { 0 = s i }

itself : (x : ListenerId) → (x.0 == x.0) ≡ true
itself x = eq-eqb x.0 x.0 refl

record ToldOne (f : Forest) (x : Listening) (told : Forest) (id : ListenerId) : Type 0 where
  once : AtMost (is_listener id) x.listeners (listener_of x.listeners id)
  known : IsKnownTo f (listener_of x.listeners id)
  replays : replay (calls_to id x.journal) ≡ Some (heard_of told (listener_of x.listeners id))

joins_told : (f : Forest) (x : Listening) (told : Forest) (l : Listener) → IsTold f x told → listens x l.listener ≡ false
    → is_some (find (is_space l.space) f.spaces) ≡ true
    → IsTold f (joined x l (view_of told l.space) (lives_of told l.space)) told
joins_told f x told l k free there = record { once = λ id. (each id).once; spaces = k.spaces; known = λ id. (each id).known; replays = λ id. (each id).replays }
  where
    y : Listening
    y = joined x l (view_of told l.space) (lives_of told l.space)

    each : (id : ListenerId) → ToldOne f y told id
    each id = go (l.listener.0 == id.0) refl
      where
        new : ToldOne f y told l.listener
        new = let m = one_more (is_listener l.listener) x.listeners l free (itself l.listener) in record {
          once = m.alone ∙ ap one (sym m.found);
          known = subst (λ (o : Option Listener). IsKnownTo f o) (sym m.found) there;
          replays = replays_on l.listener x.journal (deliveries_to l.listener (joining (view_of told l.space) (lives_of told l.space))) nothing_heard
              (shown_to told l)
              (k.replays l.listener ∙ ap (λ (o : Option Listener). Some (heard_of told o)) m.none)
              (ap (λ (es : List ListenerEvent). listener_after_all (Some nothing_heard) es)
              (calls_mine l.listener l.listener (joining (view_of told l.space) (lives_of told l.space)) (itself l.listener))
              ∙ joining_replays (view_of told l.space) (lives_of told l.space) (view_apart told l.space) (lists_live told l.space).rising)
              ∙ ap (λ (o : Option Listener). Some (heard_of told o)) (sym m.found);
        }

        go : (b : Bool) → (l.listener.0 == id.0) ≡ b → ToldOne f y told id
        go true e = subst (λ (z : ListenerId). ToldOne f y told z) (same_id l.listener id e) new
        go false e = let same = find_push (is_listener id) x.listeners l e in record {
          once = filter_push (is_listener id) x.listeners l e ∙ k.once id ∙ ap one (sym same);
          known = subst (λ (o : Option Listener). IsKnownTo f o) (sym same) (k.known id);
          replays = replays_on id x.journal (deliveries_to l.listener (joining (view_of told l.space) (lives_of told l.space)))
              (heard_of told (listener_of x.listeners id)) (heard_of told (listener_of x.listeners id)) (k.replays id)
              (ap (λ (es : List ListenerEvent). listener_after_all (Some (heard_of told (listener_of x.listeners id))) es)
              (calls_others id l.listener (joining (view_of told l.space) (lives_of told l.space)) e))
              ∙ ap (λ (o : Option Listener). Some (heard_of told o)) (sym same);
        }

-- one that leaves

-- those that pass one test, among those that do not pass another
record Without {A : Type 0} (test out : A → Bool) (xs : List A) : Type 0 where
  found : find test (filter (λ x. not (out x)) xs) ≡ find test xs
  all : filter test (filter (λ x. not (out x)) xs) ≡ filter test xs

without_other : {A : Type 0} (test out : A → Bool) (xs : List A) → ((x : A) → test x ≡ true → out x ≡ false) → Without test out xs
without_other test out [] h = record { found = refl; all = refl }
without_other test out (x ∷ xs) h = go (out x) refl (test x) refl (without_other test out xs h)
  where
    go : (b : Bool) → out x ≡ b → (c : Bool) → test x ≡ c → Without test out xs → Without test out (x ∷ xs)
    go true e true t k = true_is_not_false (out x) e (h x t)
    go true e false t k = record { found = rw (e, t) k.found; all = rw (e, t) k.all }
    go false e true t k = record { found = rw (e, t) refl; all = rw (e, t) (ap (λ zs. x ∷ zs) k.all) }
    go false e false t k = record { found = rw (e, t) k.found; all = rw (e, t) k.all }

record Gone {A : Type 0} (test : A → Bool) (xs : List A) : Type 0 where
  found : find test (filter (λ x. not (test x)) xs) ≡ None
  all : filter test (filter (λ x. not (test x)) xs) ≡ []

gone : {A : Type 0} (test : A → Bool) (xs : List A) → Gone test xs
gone test [] = record { found = refl; all = refl }
gone test (x ∷ xs) = go (test x) refl (gone test xs)
  where
    go : (b : Bool) → test x ≡ b → Gone test xs → Gone test (x ∷ xs)
    go true e k = record { found = rw e k.found; all = rw e k.all }
    go false e k = record { found = rw e (rw e k.found); all = rw e (rw e k.all) }

leaves_told : (f : Forest) (x : Listening) (told : Forest) (gone_id : ListenerId) (l : Listener) → IsTold f x told → listener_of x.listeners gone_id ≡ Some l
    → IsTold f (left x gone_id (view_of told l.space) (lives_of told l.space)) told
leaves_told f x told gone_id l k there = record {
  once = λ id. (each id).once;
  spaces = k.spaces;
  known = λ id. (each id).known;
  replays = λ id. (each id).replays;
}
  where
    y : Listening
    y = left x gone_id (view_of told l.space) (lives_of told l.space)

    each : (id : ListenerId) → ToldOne f y told id
    each id = go (gone_id.0 == id.0) refl
      where
        out : ToldOne f y told gone_id
        out = let m = gone (is_listener gone_id) x.listeners in record {
          once = m.all ∙ ap one (sym m.found);
          known = subst (λ (o : Option Listener). IsKnownTo f o) (sym m.found) tt;
          replays = replays_on gone_id x.journal (deliveries_to gone_id (leaving (view_of told l.space) (lives_of told l.space)))
              (shown_to told l) nothing_heard
              (k.replays gone_id ∙ ap (λ (o : Option Listener). Some (heard_of told o)) there)
              (ap (λ (es : List ListenerEvent). listener_after_all (Some (shown_to told l)) es)
              (calls_mine gone_id gone_id (leaving (view_of told l.space) (lives_of told l.space)) (itself gone_id))
              ∙ leaving_replays (view_of told l.space) (lives_of told l.space) (view_apart told l.space) (lists_live told l.space).rising)
              ∙ ap (λ (o : Option Listener). Some (heard_of told o)) (sym m.found);
        }

        apart : (gone_id.0 == id.0) ≡ false → (z : Listener) → is_listener id z ≡ true → is_listener gone_id z ≡ false
        apart e z t = ne_eqb z.listener.0 gone_id.0 (λ s. eqb-false _ _ e (sym s ∙ eqb-true _ _ t))

        go : (b : Bool) → (gone_id.0 == id.0) ≡ b → ToldOne f y told id
        go true e = subst (λ (z : ListenerId). ToldOne f y told z) (same_id gone_id id e) out
        go false e = let m = without_other (is_listener id) (is_listener gone_id) x.listeners (apart e) in record {
          once = m.all ∙ k.once id ∙ ap one (sym m.found);
          known = subst (λ (o : Option Listener). IsKnownTo f o) (sym m.found) (k.known id);
          replays = replays_on id x.journal (deliveries_to gone_id (leaving (view_of told l.space) (lives_of told l.space)))
              (heard_of told (listener_of x.listeners id)) (heard_of told (listener_of x.listeners id)) (k.replays id)
              (ap (λ (es : List ListenerEvent). listener_after_all (Some (heard_of told (listener_of x.listeners id))) es)
              (calls_others id gone_id (leaving (view_of told l.space) (lives_of told l.space)) e))
              ∙ ap (λ (o : Option Listener). Some (heard_of told o)) (sym m.found);
        }

-- how the listeners and the journal go on over an event by which those of some ids join

record GoesOn (x y : Listening) (joins : ListenerId → Bool) : Type 0 where
  more : List Delivery
  grown : y.journal ≡ x.journal ++ more
  stayed : (id : ListenerId) (l : Listener) → joins id ≡ false → listener_of y.listeners id ≡ Some l → listener_of x.listeners id ≡ Some l
  came : (id : ListenerId) → joins id ≡ true → listener_of x.listeners id ≡ None

stays : (x : Listening) (joins : ListenerId → Bool) → ((id : ListenerId) → joins id ≡ false) → GoesOn x x joins
stays x joins none = record { more = []; grown = sym (append-nil x.journal); stayed = λ id l e s. s; came = λ id e. true_is_not_false (joins id) e (none id) }

longer : (x : Listening) (more : List Delivery) (joins : ListenerId → Bool) → ((id : ListenerId) → joins id ≡ false)
    → GoesOn x (record { listeners = x.listeners; journal = x.journal ++ more }) joins
longer x more joins none = record { more = more; grown = refl; stayed = λ id l e s. s; came = λ id e. true_is_not_false (joins id) e (none id) }

-- the private events

module _ (g : Generations) (d : Desk) (off : d.due ≡ false) (k : IsTold d.forest d.listening (current_forest g)) where
  abbrev Told_of : Desk → Type 0
  Told_of m = IsTold m.forest m.listening (if m.due then m.forest else current_forest g)

  record Step (c : Config) (s : Settled) : Type 0 where
    told : Told_of s.desk
    goes_on : GoesOn d.listening s.desk.listening (λ id. joins_by id (events.Config c) (answers c s.answer))

  -- a desk in which nothing is due
  undue : (m : Desk) → m.due ≡ false → IsTold m.forest m.listening (current_forest g) → Told_of m
  undue m e t = subst (λ (b : Bool). IsTold m.forest m.listening (if b then m.forest else current_forest g)) (sym e) t

  no_join : (c : Config) (why : Refusal) (id : ListenerId) → joins_by id (events.Config c) (answers c (Err why)) ≡ false
  no_join configs.Begin why id = refl
  no_join _ why id = refl

  refusing : (c : Config) (why : Refusal) → Step c (refused_desk d why)
  refusing c why = record { told = undue d off k; goes_on = stays d.listening _ (no_join c why) }

  unless_step : (c : Config) (o : Option Refusal) (m : Desk) (a : Applied) → Step c (settled m a) → Step c (unless_refused o d (settled m a))
  unless_step c None m a s = s
  unless_step c (Some why) m a s = refusing c why

  -- an event by which none joins
  abbrev NoneJoin : Config → Type 0
  NoneJoin c = (a : Applied) (id : ListenerId) → joins_by id (events.Config c) (answers c (Ok a)) ≡ false

  publish_step : (c : Config) (f : Forest) (a : Applied) → NoneJoin c → Grown d.forest f → Step c (publishing g d f a)
  publish_step c f a none w = unless_step c (held_up g) (readied g d f) a record {
    told = publishes d.forest f d.listening (current_forest g) w k;
    goes_on = longer d.listening (deliveries_of_changes (ascending d.listening.listeners) (changes_between (current_forest g) f)) _ (none a);
  }

  -- only the forest and the transactions of the desk are others
  quiet_step : (c : Config) (m : Desk) (a : Applied) → NoneJoin c → m.due ≡ false → m.listening ≡ d.listening → Grown d.forest m.forest → Step c (settled m a)
  quiet_step c m a none e same w = record {
    told = undue m e (subst (λ (x : Listening). IsTold m.forest x (current_forest g)) (sym same) (grows d.forest m.forest d.listening (current_forest g) w k));
    goes_on = subst (λ (x : Listening). GoesOn d.listening x (λ id. joins_by id (events.Config c) (answers c (Ok a)))) (sym same)
        (stays d.listening _ (none a));
  }

  abbrev call_none : (call : Call) → NoneJoin (configs.Call call)
  call_none call = λ a id. refl

  backed_step : (call : Call) (f : Forest) (r : RegionId) (x : Extent) (o : Option ℕ) → Grown d.forest f → Step (configs.Call call) (backed d f r x o)
  backed_step call f r x None w = refusing (configs.Call call) (NoBacking (words_of x))
  backed_step call f r x (Some start) w = quiet_step (configs.Call call) _ (Made r) (call_none call) off refl w

  made_step : (call : Call) (f : Forest) (r : RegionId) (x : Extent) → Grown d.forest f → Step (configs.Call call) (made d f r x)
  made_step call f r x w = go (words_of x == 0)
    where
      go : (b : Bool) → Step (configs.Call call) (if b then settled (record d { forest = f }) (Made r)
          else backed d f r x (first_fit d.pool_words d.places (words_of x)))
      go true = quiet_step (configs.Call call) _ (Made r) (call_none call) off refl w
      go false = backed_step call f r x (first_fit d.pool_words d.places (words_of x)) w

  kept_back_step : (call : Call) (f : Forest) → Grown d.forest f → Step (configs.Call call) (kept_back d call f)
  kept_back_step (calls.Region kind size) f w = made_step (calls.Region kind size) f (record { 0 = d.forest.made }) (extent_of kind size) w
  kept_back_step (calls.Drop region) f w = quiet_step (configs.Call (calls.Drop region)) _ Done (call_none (calls.Drop region)) off refl w
  kept_back_step call f w = quiet_step (configs.Call call) _ (answer_of d.forest call) (call_none call) off refl w

  called_step : (call : Call) → Step (configs.Call call) (after_call g d call (forest_after d.forest call))
  called_step call = go (forest_after d.forest call) refl
    where
      at : (f : Forest) → Grown d.forest f → (b : Bool) → Step (configs.Call call) (if b then publishing g d f (answer_of d.forest call)
          else kept_back d call f)
      at f w true = publish_step (configs.Call call) f (answer_of d.forest call) (call_none call) w
      at f w false = kept_back_step call f w

      go : (x : Result Forest Refusal) → forest_after d.forest call ≡ x → Step (configs.Call call) (after_call g d call x)
      go (Err why) e = refusing (configs.Call call) why
      go (Ok f) e = at f (grown_by d.forest f call e k.spaces) ((d.depth == 0) && not (is_quiet call))

  begun_step : Step configs.Begin (begun d)
  begun_step = go (d.depth == most_nested)
    where
      go : (b : Bool) → Step configs.Begin (if b then refused_desk d TooNested else settled (record d { depth = d.depth + 1 }) Done)
      go true = refusing configs.Begin TooNested
      go false = quiet_step configs.Begin _ Done (λ a id. refl) off refl (same_grown d.forest k.spaces)

  committed_step : Step configs.Commit (committed g d)
  committed_step = go (d.depth == 0)
    where
      inner : (b : Bool) → Step configs.Commit (if b then publishing g d d.forest Done else settled (record d { depth = d.depth - 1 }) Done)
      inner true = publish_step configs.Commit d.forest Done (λ a id. refl) (same_grown d.forest k.spaces)
      inner false = quiet_step configs.Commit _ Done (λ a id. refl) off refl (same_grown d.forest k.spaces)

      go : (b : Bool) → Step configs.Commit (if b then refused_desk d NoTransaction else if (d.depth == 1)
          && d.pending then publishing g d d.forest Done else settled (record d { depth = d.depth - 1 }) Done)
      go true = refusing configs.Commit NoTransaction
      go false = inner ((d.depth == 1) && d.pending)

  abbrev now : Forest
  now = current_forest g

  joins_step : (l : Listener) → listens d.listening l.listener ≡ false → is_some (find (is_space l.space) d.forest.spaces) ≡ true
      → Step (configs.Listen l.listener l.space l.priority)
      (settled (record d { listening = joined d.listening l (view_of now l.space) (lives_of now l.space) }) Done)
  joins_step l free there = record {
    told = undue (record d { listening = joined d.listening l (view_of now l.space) (lives_of now l.space) }) off
        (joins_told d.forest d.listening now l k free there);
    goes_on = record {
      more = deliveries_to l.listener (joining (view_of now l.space) (lives_of now l.space));
      grown = refl;
      stayed = λ id z e s. sym (find_push (is_listener id) d.listening.listeners l e) ∙ s;
      came = λ id e. subst (λ (i : ListenerId). listener_of d.listening.listeners i ≡ None) (same_id l.listener id e)
          (one_more (is_listener l.listener) d.listening.listeners l free (itself l.listener)).none;
    };
  }

  listened_step : (l : Listener) → Step (configs.Listen l.listener l.space l.priority) (listened g d l)
  listened_step l = go (first_refusal (unknown_space d.forest l.space ∷ join_refusal d.listening l.listener ∷ [])) refl
    where
      known : (o : Option (SpaceId × RegionId)) → is_none (option_map (λ p. p.1) o) ≡ false → is_some o ≡ true
      known None e = absurd (grind arith)
      known (Some p) e = refl

      go : (o : Option Refusal) → first_refusal (unknown_space d.forest l.space ∷ join_refusal d.listening l.listener ∷ []) ≡ o
          → Step (configs.Listen l.listener l.space l.priority)
          (unless_refused o d (settled (record d { listening = joined d.listening l (view_of now l.space) (lives_of now l.space) }) Done))
      go (Some why) e = refusing (configs.Listen l.listener l.space l.priority) why
      go None e =
          let each = each_none (unknown_space d.forest l.space ∷ join_refusal d.listening l.listener ∷ []) e in
          let free = each_none (refuse_if (listens d.listening l.listener) (NameTaken (what.Listener l.listener)) ∷ refuse_if
          (nat_le most_listeners (length d.listening.listeners)) (LimitReached which.Listeners most_listeners) ∷ []) each.1.0 in
          joins_step l (refuse_if-none (listens d.listening l.listener) (NameTaken (what.Listener l.listener)) free.0)
          (known (find (is_space l.space) d.forest.spaces) (refuse_if-none (is_none (root_of d.forest l.space)) (Unknown (what.Space l.space)) each.0))

  -- the first listener of an id leaves
  abbrev leaver : ListenerId → Listener → Desk
  leaver id z = record d { listening = left d.listening id (view_of now z.space) (lives_of now z.space) }

  first_leaves : (ls : List Listener) (id : ListenerId) (l : Listener) → find (is_listener id) ls ≡ Some l → without_listener ls id g d
      ≡ record d { listening = left d.listening id (view_of now l.space) (lives_of now l.space) }
  first_leaves [] id l e = none_is_not_some l e
  first_leaves (x ∷ xs) id l e = go (x.listener.0 == id.0) e (first_leaves xs id l)
    where
      go : (b : Bool) → (if b then Some x else find (is_listener id) xs) ≡ Some l
          → (find (is_listener id) xs ≡ Some l → without_listener xs id g d ≡ leaver id l)
          → (if b then leaver id x else without_listener xs id g d) ≡ leaver id l
      go true e rest = ap (leaver id) (same_Some x l e)
      go false e rest = rest e

  none_leaves : (ls : List Listener) (id : ListenerId) → find (is_listener id) ls ≡ None → without_listener ls id g d ≡ d
  none_leaves [] id e = refl
  none_leaves (x ∷ xs) id e = go (x.listener.0 == id.0) e (none_leaves xs id)
    where
      go : (b : Bool) → (if b then Some x else find (is_listener id) xs) ≡ None → (find (is_listener id) xs ≡ None → without_listener xs id g d ≡ d)
          → (if b then record d { listening = left d.listening id (view_of now x.space) (lives_of now x.space) } else without_listener xs id g d) ≡ d
      go true e rest = none_is_not_some x (sym e)
      go false e rest = rest e

  leaves_step : (id : ListenerId) (l : Listener) → listener_of d.listening.listeners id ≡ Some l → Step (configs.Unlisten id)
      (settled (record d { listening = left d.listening id (view_of now l.space) (lives_of now l.space) }) Done)
  leaves_step id l there = record {
    told = undue (record d { listening = left d.listening id (view_of now l.space) (lives_of now l.space) }) off
        (leaves_told d.forest d.listening now id l k there);
    goes_on = record {
      more = deliveries_to id (leaving (view_of now l.space) (lives_of now l.space));
      grown = refl;
      stayed = λ i z e s. stayed i z (id.0 == i.0) refl s;
      came = λ i e. absurd (grind arith);
    };
  }
    where
      stayed : (i : ListenerId) (z : Listener) (b : Bool) → (id.0 == i.0) ≡ b
          → find (is_listener i) (filter (λ x. not (is_listener id x)) d.listening.listeners) ≡ Some z → find (is_listener i) d.listening.listeners ≡ Some z
      stayed i z true e s = none_is_not_some z
          (sym (subst (λ (j : ListenerId). find (is_listener j) (filter (λ x. not (is_listener id x)) d.listening.listeners) ≡ None) (same_id id i e)
          (gone (is_listener id) d.listening.listeners).found) ∙ s)
      stayed i z false e s = sym (without_other (is_listener i) (is_listener id) d.listening.listeners
          (λ x t. ne_eqb x.listener.0 id.0 (λ q. eqb-false _ _ e (sym q ∙ eqb-true _ _ t)))).found ∙ s

  unlistened_step : (id : ListenerId) → Step (configs.Unlisten id) (unlistened g d id)
  unlistened_step id = unless_step (configs.Unlisten id) (leave_refusal d.listening id) (without_listener d.listening.listeners id g d) Done
      (go (listener_of d.listening.listeners id) refl)
    where
      go : (o : Option Listener) → listener_of d.listening.listeners id ≡ o → Step (configs.Unlisten id)
          (settled (without_listener d.listening.listeners id g d) Done)
      go None e = subst (λ (m : Desk). Step (configs.Unlisten id) (settled m Done)) (sym (none_leaves d.listening.listeners id e))
          (quiet_step (configs.Unlisten id) d Done (λ a i. refl) off refl (same_grown d.forest k.spaces))
      go (Some l) e = subst (λ (m : Desk). Step (configs.Unlisten id) (settled m Done)) (sym (first_leaves d.listening.listeners id l e)) (leaves_step id l e)

  step : (c : Config) → Step c (configured g d c)
  step configs.Begin = begun_step
  step (configs.Call call) = called_step call
  step configs.Commit = committed_step
  step (configs.Listen listener space priority) = listened_step (record { listener = listener; space = space; priority = priority })
  step (configs.Unlisten id) = unlistened_step id

-- every event

abbrev TellsAll : World → Type 0
TellsAll w = IsTold w.writer.desk.forest w.writer.desk.listening (told_forest w.writer)

record Goes (w m : World) (e : Event) (r : Result Reply Refusal) : Type 0 where
  told : TellsAll m
  goes_on : GoesOn w.writer.desk.listening m.writer.desk.listening (λ id. joins_by id e r)

-- an event that is not private leaves the listeners and the journal
leaves_them : (w m : World) (e : Event) (r : Result Reply Refusal) → TellsAll m → m.writer.desk.listening ≡ w.writer.desk.listening
    → ((id : ListenerId) → joins_by id e r ≡ false) → Goes w m e r
leaves_them w m e r k same none = record {
  told = k;
  goes_on = subst (λ (x : Listening). GoesOn w.writer.desk.listening x (λ id. joins_by id e r))
      (sym same) (stays w.writer.desk.listening _ none);
}

goes : (w : World) (e : Event) (n : ℕ) (r : Result Reply Refusal) → possible w e ≡ true → r ≡ reply w e → TellsAll w → Goes w (after_telling w e n) e r
goes w (events.Look v) n r may is k = leaves_them w _ (events.Look v) r k refl (λ id. refl)
goes w (events.Announce v) n r may is k = leaves_them w _ (events.Announce v) r k refl (λ id. refl)
goes w (events.Enter v) n r may is k = leaves_them w _ (events.Enter v) r k refl (λ id. refl)
goes w (events.Leave v) n r may is k = leaves_them w _ (events.Leave v) r k refl (λ id. refl)
goes w (events.Sweep v) n r may is k = leaves_them w _ (events.Sweep v) r k refl (λ id. refl)
goes w (events.Place v) n r may is k = leaves_them w _ (events.Place v) r k refl (λ id. refl)
goes w events.Publish n r may is k = leaves_them w _ events.Publish r
    (subst (λ (b : Bool). IsTold w.writer.desk.forest w.writer.desk.listening
    (if b then w.writer.desk.forest else current_forest w.writer.generations)) (and_parts _ _ may).0 k) refl (λ id. refl)
goes w (events.Word h c step) n r may is k = leaves_them w _ (events.Word h c step) r k refl (λ id. refl)
goes w (events.Mark v region client page) n r may is k = leaves_them w _ (events.Mark v region client page) r k refl (λ id. refl)
goes w (events.Harvest region client index) n r may is k = leaves_them w _ (events.Harvest region client index) r k refl (λ id. refl)
goes w (events.Fill c) n r may is k = leaves_them w _ (events.Fill c) r k refl (λ id. refl)
goes w (events.Config c) n r may is k =
    let d = w.writer.desk in let g = w.writer.generations in
    let off = not-true d.due (and_parts _ _ (and_parts _ _ may).0).0 in
    let s = step g d off (subst (λ (b : Bool). IsTold d.forest d.listening (if b then d.forest else current_forest g)) off k) c in record {
      told = s.told;
      goes_on = subst (λ (r : Result Reply Refusal). GoesOn d.listening (configured g d c).desk.listening (λ id. joins_by id (events.Config c) r))
          (sym is) s.goes_on;
    }
goes w events.Reap n r may is k = leaves_them w _ events.Reap r k refl (λ id. refl)

-- before its listener joined, the calls of an id replay to nothing
abbrev StartsFree : ListenerId → Listening → ℕ → Type 0
StartsFree id x n = (l : Listener) → listener_of x.listeners id ≡ Some l → (n ≤ length x.journal) ×
    (replay (calls_to id (take n x.journal)) ≡ Some nothing_heard)

starts_free : (x y : Listening) (joins : ListenerId → Bool) (told : Forest) (id : ListenerId) (n : ℕ) → GoesOn x y joins
    → replay (calls_to id x.journal) ≡ Some (heard_of told (listener_of x.listeners id)) → StartsFree id x n
    → StartsFree id y (if joins id then length x.journal else n)
starts_free x y joins told id n go r k = at (joins id) refl
  where
    enough : length x.journal ≤ length y.journal
    enough = let e : length y.journal ≡ length x.journal + length go.more = ap (λ (ts : List Delivery). length ts) go.grown
        ∙ length-append x.journal go.more in omega arith

    at : (b : Bool) → joins id ≡ b → StartsFree id y (if b then length x.journal else n)
    at true e l s = (
      enough,
      ap (λ (ts : List Delivery). replay (calls_to id (take (length x.journal) ts))) go.grown
          ∙ ap (λ (ts : List Delivery). replay (calls_to id ts)) (take_at x.journal go.more (length x.journal) refl)
          ∙ r ∙ ap (λ (o : Option Listener). Some (heard_of told o)) (go.came id e),
    )
    at false e l s = let t = k l (go.stayed id l e s) in let m = t.0 in let u = enough in (
      omega arith,
      ap (λ (ts : List Delivery). replay (calls_to id (take n ts))) go.grown
          ∙ ap (λ (ts : List Delivery). replay (calls_to id ts)) (take-append-le n x.journal go.more m)
          ∙ t.1,
    )

record After (id : ListenerId) (w : World) (n : ℕ) : Type 0 where
  told : TellsAll w
  free : StartsFree id w.writer.desk.listening n

after_all_of : (id : ListenerId) (w : World) (xs : List PureEntry) (n : ℕ) → After id w n → IsLegalFrom w xs → After id (after_entries w xs)
    (joined_at id n w xs)
after_all_of id w [] n k l = k
after_all_of id w (x ∷ xs) n k l =
    let t = goes w x.event (number_in x.reply) x.reply l.0 l.1 k.told in
    after_all_of id (after_entry w x) xs _
    (record {
      told = t.told;
      free = starts_free w.writer.desk.listening (after_entry w x).writer.desk.listening (λ i. joins_by i x.event x.reply)
          (told_forest w.writer) id n t.goes_on (k.told.replays id) k.free;
    }) l.2

opens_told : (id : ListenerId) (pool_words passes : ℕ) → After id (opening pool_words passes) 0
opens_told id pool_words passes = record {
  told = record { once = λ i. refl; spaces = tt; known = λ i. tt; replays = λ i. refl };
  free = λ l e. none_is_not_some l e;
}

so_far : (pool_words passes : ℕ) (xs : List PureEntry) (id : ListenerId) → IsLegal pool_words passes xs
    → After id (after_entries (opening pool_words passes) xs) (joined_at id 0 (opening pool_words passes) xs)
so_far pool_words passes xs id l = after_all_of id (opening pool_words passes) xs 0 (opens_told id pool_words passes) l

pub all_calls_replay : (pool_words passes : ℕ) (xs : List PureEntry) → IsLegal pool_words passes xs → (id : ListenerId) →
    let h = (after_entries (opening pool_words passes) xs).writer in
    replay (calls_to id h.desk.listening.journal) ≡ Some (heard_of (told_forest h) (listener_of h.desk.listening.listeners id))
all_calls_replay pool_words passes xs legal id = (so_far pool_words passes xs id legal).told.replays id

-- what follows calls that replay to nothing replays as all of them do
replays_since : (id : ListenerId) (journal : List Delivery) (n : ℕ) (h : ListenerState) → replay (calls_to id (take n journal)) ≡ Some nothing_heard
    → replay (calls_to id journal) ≡ Some h → replay (calls_to id (drop n journal)) ≡ Some h
replays_since id journal n h free all =
    ap (λ (o : Option ListenerState). listener_after_all o (calls_to id (drop n journal))) (sym free)
    ∙ sym (heard_both (Some nothing_heard) (calls_to id (take n journal)) (calls_to id (drop n journal)))
    ∙ ap replay (sym (calls_both id (take n journal) (drop n journal)))
    ∙ ap (λ (ts : List Delivery). replay (calls_to id ts)) (take-append-drop n journal)
    ∙ all

pub listeners_replay : (pool_words passes : ℕ) (xs : List PureEntry) → IsLegal pool_words passes xs → (id : ListenerId) (l : Listener) →
    let h = (after_entries (opening pool_words passes) xs).writer in
    listener_of h.desk.listening.listeners id ≡ Some l →
    replay (calls_to id (drop (joined_at id 0 (opening pool_words passes) xs) h.desk.listening.journal)) ≡ Some (shown_to (told_forest h) l)
listeners_replay pool_words passes xs legal id l there =
    let k = so_far pool_words passes xs id legal in let h = (after_entries (opening pool_words passes) xs).writer in
    replays_since id h.desk.listening.journal (joined_at id 0 (opening pool_words passes) xs) (shown_to (told_forest h) l) (k.free l there).1
    (k.told.replays id ∙ ap (λ (o : Option Listener). Some (heard_of (told_forest h) o)) there)

-- from any moment on at which no listener has the id

record Longer (old new : List Delivery) : Type 0 where
  more : List Delivery
  grown : new ≡ old ++ more

-- calls are only put at the end of the journal
journal_goes_on : (w : World) (xs : List PureEntry) → TellsAll w → IsLegalFrom w xs → Longer w.writer.desk.listening.journal
    (after_entries w xs).writer.desk.listening.journal
journal_goes_on w [] k l = record { more = []; grown = sym (append-nil w.writer.desk.listening.journal) }
journal_goes_on w (x ∷ xs) k l =
    let t = goes w x.event (number_in x.reply) x.reply l.0 l.1 k in let u = journal_goes_on (after_entry w x) xs t.told l.2 in record {
      more = t.goes_on.more ++ u.more;
      grown = u.grown ∙ ap (λ (ts : List Delivery). ts ++ u.more) t.goes_on.grown ∙ append_assoc w.writer.desk.listening.journal t.goes_on.more u.more;
    }

pub later_calls_replay : (pool_words passes : ℕ) (xs ys : List PureEntry) → IsLegal pool_words passes (xs ++ ys) → (id : ListenerId) →
    let before = (after_entries (opening pool_words passes) xs).writer.desk.listening in
    let h = (after_entries (opening pool_words passes) (xs ++ ys)).writer in
    listener_of before.listeners id ≡ None →
    replay (calls_to id (drop (length before.journal) h.desk.listening.journal)) ≡ Some (heard_of (told_forest h) (listener_of h.desk.listening.listeners id))
later_calls_replay pool_words passes xs ys legal id none =
    let w = after_entries (opening pool_words passes) xs in
    let both = legal_parts (opening pool_words passes) xs ys legal in
    let k = so_far pool_words passes xs id both.0 in
    let j = journal_goes_on w ys k.told both.1 in
    let h = (after_entries (opening pool_words passes) (xs ++ ys)).writer in
    let old = w.writer.desk.listening.journal in
    let longer : h.desk.listening.journal ≡ old ++ j.more = ap (λ (z : World). z.writer.desk.listening.journal)
    (after_both (opening pool_words passes) xs ys) ∙ j.grown in
    replays_since id h.desk.listening.journal (length old) (heard_of (told_forest h) (listener_of h.desk.listening.listeners id))
    (ap (λ (ts : List Delivery). replay (calls_to id (take (length old) ts))) longer
    ∙ ap (λ (ts : List Delivery). replay (calls_to id ts)) (take_at old j.more (length old) refl)
    ∙ k.told.replays id ∙ ap (λ (o : Option Listener). Some (heard_of (told_forest w.writer) o)) none)
    (all_calls_replay pool_words passes (xs ++ ys) legal id)
