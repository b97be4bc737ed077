-- Private events keep the pure machine beside the running one.
use Rattle.std.proofs.Common.{◌≡◌, ℕ, ◌+◌, ◌-◌, ◌<◌, ◌≤◌, Bool, true, false, ◌&&◌, List, [], ◌∷◌, ◌++◌, length, map, sym, refl, ap, ◌∙◌}
use Rattle.std.proofs.Common.{subst, arith, if◌then◌else◌, Option, Some, None}
use Rattle.std.specs.Prelude.{◌==◌, not, ◌/◌, Ok, Err, Result}
use Rattle.std.proofs.lemmas.Bool.{eqb-true, eqb-false, and_parts, not-true}
use Rattle.mem_base.specs.declared.map.ids.RegionId.{RegionId}
use Rattle.mem_base.specs.declared.map.ids.ListenerId.{ListenerId}
use Rattle.mem_base.specs.declared.map.kinds.Client.{Client}
use Rattle.mem_base.specs.declared.map.kinds.Client.TheVariants.{Vga, Code, Migration}
use Rattle.mem_base.specs.declared.map.forests.Forest.{Forest}
use Rattle.mem_base.specs.declared.views.listening.Listener.{Listener}
use Rattle.mem_base.specs.declared.map.refusals.Refusal.{Refusal}
use Rattle.mem_base.specs.declared.map.refusals.Refusal.TheVariants.{NoTransaction, TooNested}
use Rattle.mem_base.specs.declared.map.calls.Applied.{Applied}
use Rattle.mem_base.specs.declared.map.calls.Applied.TheVariants.{Done, Made}
use Rattle.mem_base.specs.declared.map.calls.Call.{Call}
use Rattle.mem_base.specs.declared.map.calls.Call.TheVariants as calls
use Rattle.mem_base.specs.declared.map.calls.Config.{Config}
use Rattle.mem_base.specs.declared.map.calls.Config.TheVariants as configs
use Rattle.mem_base.specs.declared.access.cells.Place.{Place}
use Rattle.mem_base.specs.declared.access.cells.Cell.{Cell}
use Rattle.mem_base.specs.declared.machine.events.Event.TheVariants as events
use Rattle.mem_base.specs.map.Limits.{most_nested, notifier_count, page_size, pages_per_word}
use Rattle.mem_base.specs.lists.Every.{Every}
use Rattle.mem_base.specs.access.PlacesByRegion.{place_in}
use Rattle.mem_base.specs.map.Calls.{after as forest_after, answer_of, is_quiet}
use Rattle.mem_base.specs.access.Places.{Extent, extent_of, words_of, place_from, notifiers_place, is_notifiers, word_of_page, pages_in, first_fit}
use Rattle.mem_base.specs.machine.Generations.{Generations, held_generations}
use Rattle.mem_base.specs.map.Refusals.{first_refusal, unknown_space}
use Rattle.mem_base.specs.views.Flattened.{view_of}
use Rattle.mem_base.specs.views.LiveEvents.{lives_of}
use Rattle.mem_base.specs.views.Listening.{Listening, joined, join_refusal, leave_refusal}
use Rattle.mem_base.specs.machine.Desk.{Desk, places_of, cells_of, region_order}
use Rattle.mem_base.specs.machine.Publishing.{settled, refused_desk, unless_refused, held_up, readied, publishing, current_forest}
use Rattle.mem_base.specs.machine.Configs.{configured, made, backed, kept_back, after_call, begun, committed, listened, without_listener}
use Rattle.mem_base.specs.machine.World.{World, possible, world_after, block_for, is_at_rest}
use Rattle.mem_base.proofs.EveryLaws.{weaker}
use Rattle.history_laws.proofs.Idles.{IsFresh, IsNew}
use Rattle.view_laws.proofs.Tests.{none_is_not_some, same_region}
use Rattle.history_laws.proofs.OrderLaws.{order_after}
use Rattle.turn_laws.proofs.Backed.{IsBacked}
use Rattle.turn_laws.proofs.Coupled.{Stands, AllStand, IsWhole, Coupled}
use Rattle.turn_laws.proofs.Replaced.{renew, no_cells}
use Rattle.history_laws.proofs.FitLaws.{fits, clear}
use Rattle.turn_laws.proofs.NewPlace.{others_rest, between_new, found_new, last_of, first_of, put_in, backs_new}
use Rattle.mem_base.proofs.ForestLaws.{every_put}
use Rattle.mem_base.proofs.BoolLaws.{true_is_not_false}

-- what a private event leaves as it was
record Leaves (d m : Desk) : Type 0 where
  places : m.places ≡ d.places
  pool : m.pool_words ≡ d.pool_words
  unfilled : m.unfilled ≡ d.unfilled
  low : Every (λ r. is_notifiers r ≡ false) d.dropped → Every (λ r. is_notifiers r ≡ false) m.dropped

leaves : (d m : Desk) → m.places ≡ d.places → m.pool_words ≡ d.pool_words → m.unfilled ≡ d.unfilled → m.dropped ≡ d.dropped → Leaves d m
leaves d m p w u x = record { places = p; pool = w; unfilled = u; low = λ e. subst (λ (rs : List RegionId). Every (λ r. is_notifiers r ≡ false) rs) (sym x) e }

pub nothing_unfilled : (cells : List Cell) → (length cells == 0) ≡ true → cells ≡ []
nothing_unfilled [] h = refl
nothing_unfilled (c ∷ cs) h = absurd (omega (arith, eqb-true _ _ h))

-- all but the order of numbers, for the desk that a private event leaves
record Kept (w : World) (words : List ℕ) (m : Desk) : Type 0 where
  backed : IsBacked (places_of m) m.unfilled (map (block_for w.blocks) (places_of m)) words
  held : Every (AllStand (places_of m) m.unfilled) (held_generations w.writer.generations)
  whole : Every (IsWhole (places_of m)) (places_of m)
  low : Every (λ r. is_notifiers r ≡ false) m.dropped
  still : m.due ≡ true → m.unfilled ≡ []

module _ (w : World) (words : List ℕ) (k : Coupled w words) (rest : is_at_rest w.writer.desk ≡ true) where
  abbrev d : Desk
  d = w.writer.desk

  none : d.unfilled ≡ []
  none = nothing_unfilled d.unfilled (and_parts _ _ rest).1

  quietly : (m : Desk) → Leaves d m → Kept w words m
  quietly m s =
      let all : places_of m ≡ places_of d = λ i. s.places i ++ notifiers_place (s.pool i) ∷ [] in record {
        backed = subst (λ (z : List Place × List Cell). IsBacked z.0 z.1 (map (block_for w.blocks) z.0) words) (λ i. (sym all i, sym s.unfilled i))
            (renew (places_of d) d.unfilled w.blocks words k.backed);
        held = subst (λ (z : List Place × List Cell). Every (AllStand z.0 z.1) (held_generations w.writer.generations))
            (λ i. (sym all i, sym s.unfilled i)) k.held;
        whole = subst (λ (z : List Place). Every (IsWhole z) z) (sym all) k.whole;
        low = s.low k.low;
        still = λ on. s.unfilled ∙ none;
      }

  same : Kept w words d
  same = quietly d (leaves d d refl refl refl refl)

  unless_kept : (o : Option Refusal) (m : Desk) (a : Applied) → Kept w words m → Kept w words (unless_refused o d (settled m a)).desk
  unless_kept None m a s = s
  unless_kept (Some why) m a s = same

  publishing_kept : (f : Forest) (a : Applied) → Kept w words (publishing w.writer.generations d f a).desk
  publishing_kept f a = unless_kept (held_up w.writer.generations) (readied w.writer.generations d f) a
      (quietly (readied w.writer.generations d f) (leaves d _ refl refl refl refl))

-- a page's mark word is one of the place's
marks_fit : (q page : ℕ) → page < q → page / pages_per_word < (q + (pages_per_word - 1)) / pages_per_word
marks_fit q page l = omega arith

place_marks : (r : RegionId) (s : ℕ) (x : Extent) (client : Client) (page : ℕ) → page < pages_in (place_from r s x)
    → word_of_page (place_from r s x) client page < (place_from r s x).words
place_marks r s x Vga page l = let a = marks_fit (x.bytes / page_size) page l in omega arith
place_marks r s x Code page l = let a = marks_fit (x.bytes / page_size) page l in omega arith
place_marks r s x Migration page l = let a = marks_fit (x.bytes / page_size) page l in omega arith

module _ (w : World) (words : List ℕ) (k : Coupled w words) (rest : is_at_rest w.writer.desk ≡ true) (r : RegionId)
    (placeless : place_in (places_of w.writer.desk) r ≡ None) where
  abbrev e : Desk
  e = w.writer.desk

  abbrev np : Place
  np = notifiers_place e.pool_words

  apart : (q : Place) → place_in (places_of e) q.region ≡ Some q → r.0 ≡ q.region.0 → ⊥
  apart q s same = none_is_not_some q (sym placeless ∙ ap (λ (z : RegionId). place_in (places_of e) z) (same_region r q.region same) ∙ s)

  grown : (p q : Place) → p.region ≡ r → IsWhole (places_of e) q → IsWhole ((e.places ++ p ∷ []) ++ np ∷ []) q
  grown p q is s = record {
    stands = between_new e.places p np q.region (λ same. apart q s.stands (sym (ap (λ (z : RegionId). z.0) is) ∙ same))
        ∙ s.stands;
    some = s.some;
    wide = s.wide;
    marks = s.marks;
    notifiers = s.notifiers;
  }

  not_notifiers : is_notifiers r ≡ false
  not_notifiers = go (is_notifiers r) refl
    where
      go : (b : Bool) → is_notifiers r ≡ b → b ≡ false
      go true h = absurd (apart np (last_of (IsWhole (places_of e)) e.places np k.whole).stands (eqb-true _ _ h))
      go false h = refl

  backed_kept : (f : Forest) (x : Extent) (start : ℕ) → 0 < words_of x → first_fit e.pool_words e.places (words_of x) ≡ Some start
      → Kept w words (record e { forest = f; places = e.places ++ place_from r start x ∷ []; unfilled = e.unfilled ++ cells_of (place_from r start x) })
  backed_kept f x start some fit =
      let p = place_from r start x in
      let empty = none w words k rest in
      let last = last_of (IsWhole (places_of e)) e.places np k.whole in
      let wide : e.pool_words + notifier_count ≤ length words = k.backed.inside np.region np last.stands in
      let fitting = fits e.pool_words (words_of x) start e.places fit in
      let inside = fitting.inside in
      let cells : cells_of p ≡ e.unfilled ++ cells_of p = ap (λ (cs : List Cell). cs ++ cells_of p) (sym empty) in record {
        backed = subst (λ (cs : List Cell). IsBacked ((e.places ++ p ∷ []) ++ np ∷ []) cs
            (map (block_for w.blocks) ((e.places ++ p ∷ []) ++ np ∷ [])) words) cells
            (backs_new e.places np w.blocks words p (subst (λ (cs : List Cell). IsBacked (places_of e) cs w.blocks words) empty k.backed) placeless
            (k.bare r placeless) (omega arith)
            (clear e.pool_words (words_of x) start e.places some fitting (weaker (IsWhole (places_of e)) (λ q. 0 < q.words) (λ q s. s.some) e.places
            (first_of (IsWhole (places_of e)) e.places np k.whole))));
        held = subst (λ (cs : List Cell). Every (AllStand ((e.places ++ p ∷ []) ++ np ∷ []) cs) (held_generations w.writer.generations)) cells
            (weaker (AllStand (places_of e) e.unfilled) (AllStand ((e.places ++ p ∷ []) ++ np ∷ []) (cells_of p))
            (λ g t. weaker (Stands (places_of e) e.unfilled g) (Stands ((e.places ++ p ∷ []) ++ np ∷ []) (cells_of p) g)
            (λ q s. record {
              whole = grown p q refl s.whole;
              named = s.named;
              filled = λ i. others_rest r q.region i _ (apart q s.whole.stands);
            }) g.places t) (held_generations w.writer.generations) k.held);
        whole = put_in (IsWhole ((e.places ++ p ∷ []) ++ np ∷ [])) e.places p np
            (record {
              stands = found_new e.places p np placeless;
              some = some;
              wide = omega arith;
              marks = place_marks r start x;
              notifiers = λ h. absurd (true_is_not_false (is_notifiers r) h not_notifiers);
            })
            (weaker (IsWhole (places_of e)) (IsWhole ((e.places ++ p ∷ []) ++ np ∷ [])) (λ q s. grown p q refl s) (places_of e) k.whole);
        low = k.low;
        still = λ on. true_is_not_false e.due on (not-true e.due (and_parts _ _ rest).0);
      }

  made_kept : (f : Forest) (x : Extent) → Kept w words (made e f r x).desk
  made_kept f x = go (words_of x == 0) refl
    where
      at : (o : Option ℕ) → 0 < words_of x → first_fit e.pool_words e.places (words_of x) ≡ o → Kept w words (backed e f r x o).desk
      at None some h = same w words k rest
      at (Some start) some h = backed_kept f x start some h

      go : (b : Bool) → (words_of x == 0) ≡ b
          → Kept w words (if b then settled (record e { forest = f }) (Made r) else backed e f r x (first_fit e.pool_words e.places (words_of x))).desk
      go true h = quietly w words k rest _ (leaves e _ refl refl refl refl)
      go false h = at (first_fit e.pool_words e.places (words_of x)) (let ne : words_of x ≡ 0 → ⊥ = eqb-false _ _ h in omega arith) refl

module _ (w : World) (words : List ℕ) (k : Coupled w words) (rest : is_at_rest w.writer.desk ≡ true) where
  abbrev a : Desk
  a = w.writer.desk

  abbrev g : Generations
  g = w.writer.generations

  kept_back_kept : (call : Call) (f : Forest) → IsNew a call → Kept w words (kept_back a call f).desk
  kept_back_kept (calls.Region kind size) f fresh = made_kept w words k rest (record { 0 = a.forest.made }) fresh f (extent_of kind size)
  kept_back_kept (calls.Drop region) f fresh =
      quietly w words k rest _ (record {
        places = refl;
        pool = refl;
        unfilled = refl;
        low = λ e. every_put (λ q. is_notifiers q ≡ false) region_order region a.dropped fresh e;
      })
  kept_back_kept call f fresh = quietly w words k rest _ (leaves a _ refl refl refl refl)

  called_kept : (call : Call) → IsFresh a (configs.Call call) → (x : Result Forest Refusal) → forest_after a.forest call ≡ x
      → Kept w words (after_call g a call x).desk
  called_kept call fresh (Err why) e = same w words k rest
  called_kept call fresh (Ok f) e = go ((a.depth == 0) && not (is_quiet call))
    where
      go : (b : Bool) → Kept w words (if b then publishing g a f (answer_of a.forest call) else kept_back a call f).desk
      go true = publishing_kept w words k rest f (answer_of a.forest call)
      go false = kept_back_kept call f (fresh f e)

  begun_kept : Kept w words (begun a).desk
  begun_kept = go (a.depth == most_nested)
    where
      go : (b : Bool) → Kept w words (if b then refused_desk a TooNested else settled (record a { depth = a.depth + 1 }) Done).desk
      go true = same w words k rest
      go false = quietly w words k rest _ (leaves a _ refl refl refl refl)

  committed_kept : Kept w words (committed g a).desk
  committed_kept = go (a.depth == 0) ((a.depth == 1) && a.pending)
    where
      go : (b c : Bool) → Kept w words (if b then refused_desk a NoTransaction else if c then publishing g a a.forest Done
          else settled (record a { depth = a.depth - 1 }) Done).desk
      go true c = same w words k rest
      go false true = publishing_kept w words k rest a.forest Done
      go false false = quietly w words k rest _ (leaves a _ refl refl refl refl)

  abbrev with_listening : Listening → Desk
  with_listening x = record a { listening = x }

  either_kept : (b : Bool) (x : Listening) (m : Desk) → Kept w words m → Kept w words (if b then with_listening x else m)
  either_kept true x m s = quietly w words k rest _ (leaves a _ refl refl refl refl)
  either_kept false x m s = s

  without_kept : (ls : List Listener) (id : ListenerId) → Kept w words (without_listener ls id g a)
  without_kept [] id = same w words k rest
  without_kept (l ∷ ls) id = either_kept (l.listener.0 == id.0) _ (without_listener ls id g a) (without_kept ls id)

  listened_kept : (l : Listener) → Kept w words (listened g a l).desk
  listened_kept l =
      let m : Desk = with_listening (joined a.listening l (view_of (current_forest g) l.space) (lives_of (current_forest g) l.space)) in
      unless_kept w words k rest (first_refusal (unknown_space a.forest l.space ∷ join_refusal a.listening l.listener ∷ [])) m Done
      (quietly w words k rest m (leaves a m refl refl refl refl))

  configured_kept : (c : Config) → IsFresh a c → Kept w words (configured g a c).desk
  configured_kept configs.Begin fresh = begun_kept
  configured_kept (configs.Call call) fresh = called_kept call fresh (forest_after a.forest call) refl
  configured_kept configs.Commit fresh = committed_kept
  configured_kept (configs.Listen listener space priority) fresh =
      listened_kept (record { listener = listener; space = space; priority = priority })
  configured_kept (configs.Unlisten id) fresh = unless_kept w words k rest (leave_refusal a.listening id)
      (without_listener a.listening.listeners id g a) Done (without_kept a.listening.listeners id)

-- each call, begin, commit, and listener that joins or leaves
pub configures : (w : World) (words : List ℕ) (c : Config) → Coupled w words → possible w (events.Config c) ≡ true → IsFresh w.writer.desk c
    → Coupled (world_after w (events.Config c)) words
configures w words c k may fresh = let s = configured_kept w words k (and_parts _ _ may).0 c fresh in record {
  backed = s.backed;
  held = s.held;
  whole = s.whole;
  low = s.low;
  still = s.still;
  bare = λ r placeless. no_cells w.blocks (places_of (configured w.writer.generations w.writer.desk c).desk) r placeless;
  order = order_after w k.order (events.Config c) _ may refl;
}
