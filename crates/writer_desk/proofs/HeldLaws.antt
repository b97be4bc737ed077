-- An event is refused because a pass holds a publish up exactly where it would have been a publish.
use Rattle.std.proofs.Common.{◌≡◌, ℕ, ◌+◌, ◌-◌, Bool, true, false, List, [], ◌∷◌, Option, Some, None, refl, sym, ap, ◌∙◌, arith}
use Rattle.std.specs.Prelude.{◌==◌, ◌&&◌, not, nat_le, if◌then◌else◌, is_none, is_some, is_ok}
use Rattle.std.specs.Prelude.{option_and_then, option_map, filter, length, ◌++◌, Result, Ok, Err}
use Rattle.std.specs.Option.{option_or}
use Rattle.std.proofs.lemmas.Bool.Decides.{nat_tests}
use Rattle.mem_base.specs.declared.map.ids.RegionId.{RegionId}
use Rattle.mem_base.specs.declared.map.ids.SpaceId.{SpaceId}
use Rattle.mem_base.specs.declared.map.ids.ListenerId.{ListenerId}
use Rattle.mem_base.specs.declared.map.forests.Node.{Node}
use Rattle.mem_base.specs.declared.map.forests.Forest.{Forest}
use Rattle.mem_base.specs.declared.map.kinds.Device.{Device}
use Rattle.mem_base.specs.declared.map.kinds.Kind.{Kind}
use Rattle.mem_base.specs.declared.map.kinds.Kind.TheVariants as kinds
use Rattle.mem_base.specs.declared.map.calls.Applied.{Applied}
use Rattle.mem_base.specs.declared.map.calls.Applied.TheVariants.{Done, Made}
use Rattle.mem_base.specs.declared.map.calls.Call.{Call}
use Rattle.mem_base.specs.declared.map.calls.Call.TheVariants as calls
use Rattle.mem_base.specs.declared.map.calls.Config.{Config}
use Rattle.mem_base.specs.declared.map.calls.Config.TheVariants as configs
use Rattle.mem_base.specs.declared.map.refusals.Refusal.{Refusal}
use Rattle.mem_base.specs.declared.map.refusals.Refusal.TheVariants.{AliasParent, BadOps, BadPage, BadSize, EventTaken, LimitReached, Loop, NameTaken}
use Rattle.mem_base.specs.declared.map.refusals.Refusal.TheVariants.{NoTransaction, NotChild, PageOverlap, TooDeep, TooNested, TooWide, Unknown}
use Rattle.mem_base.specs.declared.map.refusals.Refusal.TheVariants.{WrongKind, HasContainer, InUse}
use Rattle.mem_base.specs.declared.map.refusals.User.TheVariants as user
use Rattle.mem_base.specs.declared.map.refusals.What.TheVariants as what
use Rattle.mem_base.specs.declared.map.refusals.Which.{Which}
use Rattle.mem_base.specs.declared.map.refusals.Which.TheVariants as which
use Rattle.mem_base.specs.lists.Every.{Every}
use Rattle.mem_base.specs.map.Limits.{most_calls, most_listeners, most_made, most_nested, most_regions, most_entries, most_events}
use Rattle.mem_base.specs.map.Entries.{least_met}
use Rattle.mem_base.specs.map.Region.{node_of, is_child_of}
use Rattle.mem_base.specs.map.Search.{root_of}
use Rattle.mem_base.specs.map.Kinds.{device_of, is_alias}
use Rattle.mem_base.specs.map.Refusals.{first_refusal, refuse_if, refuse_where, unknown_region, unknown_target, bad_size}
use Rattle.mem_base.specs.map.Refusals.{first_id, has_root, in_use, least_space, or_refused}
use Rattle.mem_base.specs.map.Refusals.{targets, too_deep, too_wide, unknown_space}
use Rattle.mem_base.specs.views.Flattened.{view_of}
use Rattle.mem_base.specs.views.LiveEvents.{lives_of}
use Rattle.mem_base.specs.views.Listening.{Listening, joined, join_refusal, leave_refusal, listens}
use Rattle.mem_base.specs.map.TableRefusals.{bad_device, page_overlap, at_limit, no_more_calls, no_more_regions, no_more_entries, no_more_events}
use Rattle.mem_base.specs.map.Calls.{alias_too_long, answer_of, counted, is_quiet, refusal_of, refusals}
use Rattle.mem_base.specs.map.Changes.{changed}
use Rattle.mem_base.specs.access.Places.{Extent, extent_of, first_fit, words_of}
use Rattle.mem_base.specs.machine.Generations.{Generations, PassTrack}
use Rattle.mem_base.specs.machine.Desk.{Desk}
use Rattle.mem_base.specs.machine.Publishing.{Settled, settled, refused_desk, unless_refused, readied, publishing, would_publish, held_from}
use Rattle.mem_base.specs.machine.Publishing.{current_forest, held_at, holds_up}
use Rattle.mem_base.specs.machine.Configs.{backed, configured, kept_back, made, without_listener}
use Rattle.writer_desk.specs.Writers.{is_held}

-- what may be refused is no publish that is held up

abbrev held_in : Option Refusal → Bool
held_in None = false
held_in (Some why) = is_held why

record Other (o : Option Refusal) : Type 0 where
  pub other : held_in o ≡ false

first_of : (o p : Option Refusal) → held_in o ≡ false → held_in p ≡ false → held_in (option_or o p) ≡ false
first_of None p h k = k
first_of (Some why) p h k = h

first_other : (os : List (Option Refusal)) → Every Other os → Other (first_refusal os)
first_other [] h = record { other = refl }
first_other (o ∷ os) h = record { other = first_of o (first_refusal os) h.0.other (first_other os h.1).other }

refused_if : (test : Bool) (why : Refusal) → is_held why ≡ false → held_in (refuse_if test why) ≡ false
refused_if true why h = h
refused_if false why h = refl

refused_where : (test : Node → Bool) (why : Refusal) (o : Option Node) → is_held why ≡ false → held_in (refuse_where test why o) ≡ false
refused_where test why None h = refl
refused_where test why (Some n) h = refused_if (test n) why h

refused_unless : (test : Bool) (why : Refusal) → is_held why ≡ false → held_in (if test then None else Some why) ≡ false
refused_unless true why h = refl
refused_unless false why h = h

where_tested : (test : Bool) (o : Option Refusal) → held_in o ≡ false → held_in (if test then o else None) ≡ false
where_tested true o h = h
where_tested false o h = refl

-- the conditions, one by one

unknown : (f : Forest) (r : RegionId) → Other (unknown_region f r)
unknown f r = record { other = refused_unless (is_some (node_of f.nodes r)) (Unknown (what.Region r)) refl }

target : (f : Forest) (kind : Kind) → held_in (unknown_target f kind) ≡ false
target f (kinds.Alias region offset) = (unknown f region).other
target f _ = refl

device : (o : Option Device) → held_in (bad_device o) ≡ false
device None = refl
device (Some d) = refused_if _ BadOps refl

-- a refusal that is made of something, if there is any, where none that is made so is held up
made_of : {A : Type 0} (make : A → Refusal) → ((x : A) → is_held (make x) ≡ false) → (o : Option A) → held_in (option_map make o) ≡ false
made_of make h None = refl
made_of make h (Some x) = h x

-- a condition on a region, if it is there
of_node : (refuse : Node → Option Refusal) → ((n : Node) → held_in (refuse n) ≡ false) → (o : Option Node) → held_in (option_and_then refuse o) ≡ false
of_node refuse h None = refl
of_node refuse h (Some n) = h n

in_one : (o : Option Node) → held_in (option_and_then (λ (n : Node). option_map (λ p. HasContainer p) n.parent) o) ≡ false
in_one o = of_node _ (λ n. made_of (λ p. HasContainer p) (λ p. refl) n.parent) o

overlap : (o : Option ℕ) → held_in (option_map (λ met. PageOverlap met) o) ≡ false
overlap None = refl
overlap (Some met) = refl

overlap_at : (f : Forest) (r : RegionId) (iova size : ℕ) → held_in (page_overlap f r iova size) ≡ false
overlap_at f r iova size = go (node_of f.nodes r)
  where
    go : (o : Option Node) → held_in (option_and_then (λ n. option_map (λ met. PageOverlap met) (least_met iova size n.entries)) o) ≡ false
    go None = refl
    go (Some n) = overlap (least_met iova size n.entries)

limit : (which : Which) (most count : ℕ) → held_in (at_limit which most count) ≡ false
limit which most count = refused_if _ (LimitReached which most) refl

deep : (nodes : List Node) → held_in (too_deep nodes) ≡ false
deep nodes = refused_if _ (TooDeep _) refl

wide : (nodes : List Node) → held_in (too_wide nodes) ≡ false
wide nodes = refused_if _ (TooWide _) refl

long : (f : Forest) (kind : Kind) (size : ℕ) → held_in (alias_too_long f kind size) ≡ false
long f kind size =
    let nodes = (changed f (calls.Region kind size)).nodes in
    where_tested (is_alias kind) (first_refusal (too_deep nodes ∷ too_wide nodes ∷ []))
    (first_of (too_deep nodes) (option_or (too_wide nodes) None) (deep nodes) (first_of (too_wide nodes) None (wide nodes) refl))

abbrev free : (o : Option Refusal) → held_in o ≡ false → Other o
free o h = record { other = h }

used : (f : Forest) (r : RegionId) → Other (in_use f r)
used f r =
    let child = first_id (is_child_of r) f in
    let alias = first_id (λ n. targets r n.kind) f in
    let space = least_space (filter (has_root r) f.spaces) in
    let region : RegionId → Refusal = λ q. InUse (user.Region q) in
    let root : SpaceId → Refusal = λ s. InUse (user.Space s) in
    first_other (option_map region child ∷ option_map region alias ∷ option_map root space ∷ []) (
      free (option_map region child) (made_of region (λ q. refl) child),
      (free (option_map region alias) (made_of region (λ q. refl) alias), (free (option_map root space) (made_of root (λ s. refl) space), tt)),
    )

entries_too : (f : Forest) (r : RegionId) → Other (no_more_entries f r)
entries_too f r = record { other = of_node _ (λ n. limit which.Entries most_entries (length n.entries)) (node_of f.nodes r) }

events_too : (f : Forest) (r : RegionId) → Other (no_more_events f r)
events_too f r = record { other = of_node _ (λ n. limit which.Events most_events (length n.events)) (node_of f.nodes r) }

joins : (x : Listening) (id : ListenerId) → Other (join_refusal x id)
joins x id =
    let there = refuse_if (listens x id) (NameTaken (what.Listener id)) in
    let full = refuse_if (nat_le most_listeners (length x.listeners)) (LimitReached which.Listeners most_listeners) in
    first_other (there ∷ full ∷ []) (
      free there (refused_if (listens x id) (NameTaken (what.Listener id)) refl),
      (free full (refused_if (nat_le most_listeners (length x.listeners)) (LimitReached which.Listeners most_listeners) refl), tt),
    )

many : (f : Forest) → held_in (no_more_regions f) ≡ false
many f =
    let made = at_limit which.Made most_made f.made in
    let there = at_limit which.Regions most_regions (length f.nodes) in
    first_of made there (limit which.Made most_made f.made) (limit which.Regions most_regions (length f.nodes))

-- so with every call

calls_too : (f : Forest) → Every Other (no_more_calls f ∷ [])
calls_too f = (free (no_more_calls f) (limit which.Calls most_calls f.calls), tt)

each : (f : Forest) (call : Call) → Every Other (refusals f call ++ no_more_calls f ∷ [])
each f (calls.Region kind size) = (
  free (unknown_target f kind) (target f kind),
  (
    free (bad_size kind size) (refused_if _ BadSize refl),
    (
      free (bad_device (device_of kind)) (device (device_of kind)),
      (
        free (alias_too_long f kind size) (long f kind size),
        (free (no_more_regions f) (many f), calls_too f),
      ),
    ),
  ),
)
each f (calls.Space space root) =
    (unknown f root, (free _ (refused_if _ (NameTaken (what.Space space)) refl), (free _ (limit _ _ _), calls_too f)))
each f (calls.Add parent offset child priority) =
    let nodes = (changed f (calls.Add parent offset child priority)).nodes in (
      unknown f parent,
      (
        unknown f child,
        (
          free _ (in_one (node_of f.nodes child)),
          (
            free _ (refused_where _ (AliasParent parent) (node_of f.nodes parent) refl),
            (free _ (refused_if _ (Loop parent) refl), (free (too_deep nodes) (deep nodes), (free (too_wide nodes) (wide nodes), calls_too f))),
          ),
        ),
      ),
    )
each f (calls.Del parent child) =
    (unknown f parent, (unknown f child, (free _ (refused_where _ (NotChild child) (node_of f.nodes child) refl), calls_too f)))
each f (calls.Move child offset) = (unknown f child, (free _ (refused_where _ (NotChild child) (node_of f.nodes child) refl), calls_too f))
each f (calls.Resize region size) = (
  unknown f region,
  (free _ (refused_where _ (WrongKind region) (node_of f.nodes region) refl), (free _ (refused_if _ BadSize refl), calls_too f)),
)
each f (calls.Retarget alias offset) = (unknown f alias, (free _ (refused_where _ (WrongKind alias) (node_of f.nodes alias) refl), calls_too f))
each f (calls.Enable region on) = (unknown f region, calls_too f)
each f (calls.Readonly region on) = (unknown f region, calls_too f)
each f (calls.Nonvolatile region on) = (unknown f region, calls_too f)
each f (calls.Unmergeable region on) = (unknown f region, calls_too f)
each f (calls.Romd region on) = (unknown f region, (free _ (refused_where _ (WrongKind region) (node_of f.nodes region) refl), calls_too f))
each f (calls.Log region client on) = (unknown f region, (free _ (refused_where _ (WrongKind region) (node_of f.nodes region) refl), calls_too f))
each f (calls.Global on) = calls_too f
each f (calls.Map region iova size space translated perm) = (
  unknown f region,
  (
    free _ (refused_if _ (Unknown (what.Space space)) refl),
    (
      free _ (refused_where _ (WrongKind region) (node_of f.nodes region) refl),
      (free _ (refused_if _ BadPage refl), (free (page_overlap f region iova size) (overlap_at f region iova size), (entries_too f region, calls_too f))),
    ),
  ),
)
each f (calls.Unmap region iova) =
    (unknown f region, (free _ (refused_where _ (Unknown (what.Entry iova)) (node_of f.nodes region) refl), calls_too f))
each f (calls.Event region event) = (
  unknown f region,
  (
    free _ (refused_where _ (WrongKind region) (node_of f.nodes region) refl),
    (
      free _ (refused_if _ BadOps refl),
      (free _ (refused_where _ EventTaken (node_of f.nodes region) refl), (events_too f region, calls_too f)),
    ),
  ),
)
each f (calls.Unevent region offset size matched value) =
    (unknown f region, (free _ (refused_where _ (Unknown (what.Event offset)) (node_of f.nodes region) refl), calls_too f))
each f (calls.Drop region) =
    (unknown f region, (free _ (in_one (node_of f.nodes region)), (used f region, calls_too f)))

refused_by_forest : (f : Forest) (call : Call) → held_in (refusal_of f call) ≡ false
refused_by_forest f call = (first_other (refusals f call ++ no_more_calls f ∷ []) (each f call)).other

-- what is answered says that a publish is held up, where it is refused; where it is accepted, `otherwise`
abbrev held_or : Bool → Result Applied Refusal → Bool
held_or otherwise (Ok applied) = otherwise
held_or otherwise (Err why) = is_held why

unless_other : (o : Option Refusal) (d : Desk) (s : Settled) (a : Applied) → s.answer ≡ Ok a → held_in o ≡ false
    → held_or false (unless_refused o d s).answer ≡ false
unless_other None d s a ok h = ap (held_or false) ok
unless_other (Some why) d s a ok h = h

publish_held : (d : Desk) (s : Settled) (a : Applied) → s.answer ≡ Ok a → (current first : ℕ) (ks : List PassTrack)
    → held_or true (unless_refused (held_from current first ks) d s).answer ≡ true
publish_held d s a ok current first [] = ap (held_or true) ok
publish_held d s a ok current first (k ∷ ks) = go k.found (holds_up current k.found) (publish_held d s a ok current (first + 1) ks)
  where
    go : (o : Option ℕ) (b : Bool) → held_or true (unless_refused (held_from current (first + 1) ks) d s).answer ≡ true
        → held_or true (unless_refused (if b then held_at (record { 0 = first }) o else held_from current (first + 1) ks) d s).answer ≡ true
    go o false rest = rest
    go None true rest = ap (held_or true) ok
    go (Some n) true rest = refl

published : (g : Generations) (d : Desk) (f : Forest) (a : Applied) → held_or true (publishing g d f a).answer ≡ true
published g d f a = publish_held d (settled (readied g d f) a) a refl g.current 0 g.passes

placed : (d : Desk) (f : Forest) (r : RegionId) (x : Extent) (start : Option ℕ) → held_or false (backed d f r x start).answer ≡ false
placed d f r x None = refl
placed d f r x (Some start) = refl

made_or_not : (d : Desk) (f : Forest) (r : RegionId) (x : Extent) (none : Bool)
    → held_or false (if none then settled (record d { forest = f }) (Made r) else backed d f r x (first_fit d.pool_words d.places
    (words_of x))).answer ≡ false
made_or_not d f r x true = refl
made_or_not d f r x false = placed d f r x (first_fit d.pool_words d.places (words_of x))

kept : (d : Desk) (call : Call) (f : Forest) → held_or false (kept_back d call f).answer ≡ false
kept d (calls.Region kind size) f = made_or_not d f (record { 0 = d.forest.made }) (extent_of kind size) (words_of (extent_of kind size) == 0)
kept d _ f = refl

abbrev call_after : Generations → Desk → Call → Bool → Bool → Result Forest Refusal → Settled
call_after g d call outside quiet (Err why) = refused_desk d why
call_after g d call outside quiet (Ok f) = if outside && not quiet then publishing g d f (answer_of d.forest call) else kept_back d call f

called : (g : Generations) (d : Desk) (call : Call) (outside quiet : Bool) (o : Option Refusal) → held_in o ≡ false
    → held_or (outside && (not quiet && is_ok (or_refused o (counted (changed d.forest call))))) (call_after g d call outside quiet (or_refused o (counted (changed d.forest call)))).answer
    ≡ (outside && (not quiet && is_ok (or_refused o (counted (changed d.forest call)))))
called g d call false quiet None h = kept d call (counted (changed d.forest call))
called g d call true true None h = kept d call (counted (changed d.forest call))
called g d call true false None h = published g d (counted (changed d.forest call)) (answer_of d.forest call)
called g d call false quiet (Some why) h = h
called g d call true true (Some why) h = h
called g d call true false (Some why) h = h

held_where_published : (g : Generations) (d : Desk) (c : Config) → held_or (would_publish d c) (configured g d c).answer ≡ would_publish d c
held_where_published g d configs.Begin = go (d.depth == most_nested)
  where
    go : (deepest : Bool) → held_or false (if deepest then refused_desk d TooNested else settled (record d { depth = d.depth + 1 }) Done).answer ≡ false
    go true = refl
    go false = refl
held_where_published g d (configs.Call call) =
    called g d call (d.depth == 0) (is_quiet call) (refusal_of d.forest call) (refused_by_forest d.forest call)
held_where_published g d configs.Commit = go (d.depth == 0) (d.depth == 1) d.pending refl refl
  where
    go : (z o p : Bool) → (d.depth == 0) ≡ z → (d.depth == 1) ≡ o
        → held_or (o && p)
        (if z then refused_desk d NoTransaction else if o && p then publishing g d d.forest Done else settled
        (record d { depth = d.depth - 1 }) Done).answer
        ≡ (o && p)
    go true false p a b = refl
    go true true false a b = refl
    go true true true a b = absurd (grind (arith, nat_tests))
    go false false p a b = refl
    go false true false a b = refl
    go false true true a b = published g d d.forest Done
held_where_published g d (configs.Listen listener space priority) =
    let asked = unknown_space d.forest space ∷ join_refusal d.listening listener ∷ [] in
    let joins_with = joined d.listening (record { listener = listener; space = space; priority = priority })
    (view_of (current_forest g) space) (lives_of (current_forest g) space) in
    unless_other (first_refusal asked) d (settled (record d { listening = joins_with }) Done) Done refl
    (first_other asked (
      free (unknown_space d.forest space) (refused_if (is_none (root_of d.forest space)) (Unknown (what.Space space)) refl),
      (joins d.listening listener, tt),
    )).other
held_where_published g d (configs.Unlisten listener) =
    unless_other (leave_refusal d.listening listener) d (settled (without_listener d.listening.listeners listener g d) Done) Done refl
    (refused_if (not (listens d.listening listener)) (Unknown (what.Listener listener)) refl)

-- an event that is refused says that a publish is held up just where it would have been one
pub held_where_refused : (g : Generations) (d : Desk) (c : Config) (why : Refusal) → (configured g d c).answer ≡ Err why → is_held why ≡ would_publish d c
held_where_refused g d c why e = sym (ap (held_or (would_publish d c)) e) ∙ held_where_published g d c
