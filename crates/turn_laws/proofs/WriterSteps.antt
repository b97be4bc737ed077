-- What the writer does on the running machine it does on the pure one, where its turn has come so far.
use Rattle.std.proofs.Common.{◌≡◌, ℕ, zero, suc, ◌+◌, ◌-◌, ◌<◌, ◌≤◌, Bool, true, false, ◌||◌, List, [], ◌∷◌, map, take, get_or, set}
use Rattle.std.proofs.Common.{sym, refl, ap, subst, arith, if◌then◌else◌, Option, Some}
use Rattle.std.specs.Prelude.{nat_lt, Ok}
use Rattle.std.proofs.lemmas.Bool.{ltb-true, lt-ltb, and_parts}
use Rattle.mem_base.specs.declared.map.ids.RegionId.{RegionId}
use Rattle.mem_base.specs.map.PassIds.{PassId}
use Rattle.mem_base.specs.declared.map.kinds.Client.{Client}
use Rattle.mem_base.specs.declared.access.cells.Place.{Place}
use Rattle.mem_base.specs.declared.access.cells.Cell.{Cell}
use Rattle.mem_base.specs.declared.access.cells.WordStep.{WordStep}
use Rattle.mem_base.specs.declared.machine.events.Hand.TheVariants as hands
use Rattle.mem_base.specs.declared.machine.events.Carried.TheVariants.{Nothing, At}
use Rattle.mem_base.specs.declared.machine.events.Event.TheVariants as events
use Rattle.mem_base.specs.declared.machine.events.Reply.TheVariants as replies
use Rattle.mem_base.specs.lists.Every.{Every}
use Rattle.mem_base.specs.access.PlacesByRegion.{place_in}
use Rattle.mem_base.specs.views.Naming.{names, shows_events}
use Rattle.mem_base.specs.access.Places.{is_notifiers, mark_words, mark_word}
use Rattle.mem_base.specs.machine.Passes.{pass_of}
use Rattle.mem_base.specs.machine.Generations.{Generation, generation, Generations, PassTrack, nothing_known, known_of, known_after_sweep}
use Rattle.mem_base.specs.machine.Generations.{pin_word, with_placed, with_known, least_lowest, held_generations}
use Rattle.mem_base.specs.machine.Desk.{Desk, places_of, is_shown_place, shown_places, carried_by}
use Rattle.mem_base.specs.machine.World.{World, possible, if_placed}
use Rattle.mem_base.specs.machine.SharedHistory as running
use Rattle.view_laws.proofs.SortedLaws.{every_filter}
use Rattle.history_laws.proofs.OrderLaws.{order_after}
use Rattle.turn_laws.proofs.Backed.{waits}
use Rattle.turn_laws.proofs.Coupled.{Stands, AllStand, IsWhole, Coupled, Follows, seen}
use Rattle.turn_laws.proofs.PassSteps.{backed_touch, bare_touch, old_touch}
use Rattle.mem_base.proofs.PassTurnLaws.{raises}

every_less : {A : Type 0} (P : A → Type 0) (xs : List A) (k m : ℕ) → k ≤ m → Every P (take m xs) → Every P (take k xs)
every_less P [] zero m l e = tt
every_less P [] (suc k) m l e = tt
every_less P (x ∷ xs) zero m l e = tt
every_less P (x ∷ xs) (suc k) zero l e = absurd (omega arith)
every_less P (x ∷ xs) (suc k) (suc m) l e = (e.0, every_less P xs k m (omega arith) e.1)

every_take_take : {A : Type 0} (P : A → Type 0) (xs : List A) (k m j : ℕ) → k ≤ m → Every P (take m xs) → Every P (take k (take j xs))
every_take_take P [] zero m zero l e = tt
every_take_take P [] zero m (suc j) l e = tt
every_take_take P [] (suc k) m zero l e = tt
every_take_take P [] (suc k) m (suc j) l e = tt
every_take_take P (x ∷ xs) zero m zero l e = tt
every_take_take P (x ∷ xs) zero m (suc j) l e = tt
every_take_take P (x ∷ xs) (suc k) m zero l e = tt
every_take_take P (x ∷ xs) (suc k) zero (suc j) l e = absurd (omega arith)
every_take_take P (x ∷ xs) (suc k) (suc m) (suc j) l e = (e.0, every_take_take P xs k m j (omega arith) e.1)

every_cons : {A : Type 0} (P : A → Type 0) (x : A) (xs : List A) (k m : ℕ) → k ≤ suc m → P x → Every P (take m xs) → Every P (take k (x ∷ xs))
every_cons P x xs zero m l p e = tt
every_cons P x xs (suc k) m l p e = (p, every_less P xs k m (omega arith) e)

-- a lowest number that rose
least_set : (c : ℕ) (ks : List PassTrack) (v : ℕ) (k : PassTrack) → (get_or ks v nothing_known).lowest ≤ k.lowest → least_lowest c ks ≤ least_lowest c
    (set ks v k)
least_set c [] v k l = omega arith
least_set c (x ∷ xs) zero k l = omega arith
least_set c (x ∷ xs) (suc v) k l = let y = least_set c xs v k l in omega arith

least_published : (c : ℕ) (ks : List PassTrack) → least_lowest c ks ≤ least_lowest (c + 1) (map (with_placed false) ks)
least_published c [] = omega arith
least_published c (k ∷ ks) = let x = least_published c ks in omega arith

held_with : (P : Generation → Type 0) (g : Generations) (v : PassId) (k : PassTrack) → (known_of g v).lowest ≤ k.lowest → Every P (held_generations g)
    → Every P (held_generations (with_known g v k))
held_with P g v k l e = let x = least_set g.current g.passes v.0 k l in every_less P g.kept _ (g.current + 1 - least_lowest g.current g.passes) (omega arith) e

pub sweeps : (w : World) (words : List ℕ) → Coupled w words → (v : PassId) → running.shared_possible (seen w words) (events.Sweep v) Nothing ≡ true
    → Follows w words (events.Sweep v) Nothing
sweeps w words k v h = let g = w.writer.generations in let near = ltb-true _ _ h in record {
  may = h;
  tells = refl;
  leads = refl;
  coupled = record {
    backed = k.backed;
    whole = k.whole;
    low = k.low;
    still = k.still;
    bare = k.bare;
    held = held_with (AllStand (places_of w.writer.desk) w.writer.desk.unfilled) g v
        (known_after_sweep g.current (known_of g v) (pin_word (pass_of w.passes v).announced))
        (raises g.current (known_of g v) _ ((k.order.each v near).low)) k.held;
    order = order_after w k.order (events.Sweep v) _ h refl;
  };
}

pub places : (w : World) (words : List ℕ) → Coupled w words → w.writer.desk.due ≡ true → (v : PassId) → running.shared_possible (seen w words)
    (events.Place v) Nothing ≡ true → Follows w words (events.Place v) Nothing
places w words k due v h = let g = w.writer.generations in let may : possible w (events.Place v) ≡ true = rw due (and_parts _ _ h).1 in record {
  may = may;
  tells = refl;
  leads = refl;
  coupled = record {
    backed = k.backed;
    whole = k.whole;
    low = k.low;
    still = k.still;
    bare = k.bare;
    held = held_with (AllStand (places_of w.writer.desk) w.writer.desk.unfilled) g v (with_placed true (known_of g v)) (omega arith) k.held;
    order = order_after w k.order (events.Place v) _ may refl;
  };
}

-- the places that a publish carries
new_stand : (d : Desk) (ps : List Place) → Every (IsWhole (places_of d)) ps → d.unfilled ≡ []
    → Every (Stands (places_of d) d.unfilled (generation d.forest (shown_places d.forest (places_of d)))) (shown_places d.forest ps)
new_stand d ps whole none = every_filter (IsWhole (places_of d))
    (Stands (places_of d) d.unfilled (generation d.forest (shown_places d.forest (places_of d)))) (is_shown_place d.forest) ps
    (λ p h s. record {
      whole = s;
      named = go (is_notifiers p.region) (names d.forest p.region) (shows_events d.forest) h;
      filled = λ i. subst (λ (cs : List Cell). waits cs p.region i ≡ false) (sym none) refl;
    }) whole
  where
    go : (b c e : Bool) → (if b then e else c) ≡ true → (b || c) ≡ true
    go true c e h = refl
    go false c e h = h

pub publishes : (w : World) (words : List ℕ) → Coupled w words → w.writer.desk.due ≡ true → running.shared_possible (seen w words) events.Publish
    (carried_by w.writer.desk events.Publish) ≡ true → Follows w words events.Publish (carried_by w.writer.desk events.Publish)
publishes w words k due h = let g = w.writer.generations in let d = w.writer.desk in let may : possible w events.Publish ≡ true = rw due h in record {
  may = may;
  tells = refl;
  leads = refl;
  coupled = record {
    backed = k.backed;
    whole = k.whole;
    low = k.low;
    still = λ on. absurd (grind arith);
    bare = k.bare;
    held = let low = least_published g.current g.passes in let m = g.current + 1 - least_lowest g.current g.passes in
        every_cons (AllStand (places_of d) d.unfilled) (generation d.forest (shown_places d.forest (places_of d))) (take 7 g.kept) _ m (omega arith)
        (new_stand d (places_of d) k.whole (k.still due))
        (every_take_take (AllStand (places_of d) d.unfilled) g.kept m m 7 (omega arith) k.held);
    order = order_after w k.order events.Publish _ may refl;
  };
}

none_waits : (cells : List Cell) (r : RegionId) (i : ℕ) → cells ≡ [] → waits cells r i ≡ false
none_waits cells r i e = subst (λ (cs : List Cell). waits cs r i ≡ false) (sym e) refl

pub writes : (w : World) (words : List ℕ) → Coupled w words → w.writer.desk.unfilled ≡ [] → (c : Cell) (step : WordStep) (p : Place)
    → place_in (places_of w.writer.desk) c.region ≡ Some p → c.word < p.words
    → Follows w words (events.Word hands.Writer c step) (At p)
writes w words k none c step p here near =
    let may : possible w (events.Word hands.Writer c step) ≡ true = subst (λ (o : Option Place). if_placed o (λ q. nat_lt c.word q.words) ≡ true)
    (sym here) (lt-ltb _ _ near) in record {
      may = may;
      tells = ap (λ (n : ℕ). Ok (replies.Old n)) (old_touch w words k (events.Word hands.Writer c step) c.region p _ here refl near
          (none_waits _ c.region c.word none));
      leads = refl;
      coupled = record {
        backed = backed_touch w words k (events.Word hands.Writer c step) c.region p _ here refl near;
        held = k.held;
        whole = k.whole;
        low = k.low;
        still = k.still;
        bare = bare_touch w words k (events.Word hands.Writer c step) c.region p _ here refl;
        order = order_after w k.order (events.Word hands.Writer c step) _ may refl;
      };
    }

pub harvests : (w : World) (words : List ℕ) → Coupled w words → w.writer.desk.unfilled ≡ [] → (r : RegionId) (client : Client) (index : ℕ) (p : Place)
    → place_in (places_of w.writer.desk) r ≡ Some p → index < mark_words p.bytes → mark_word p client index < p.words
    → Follows w words (events.Harvest r client index) (At p)
harvests w words k none r client index p here inside near =
    let may : possible w (events.Harvest r client index) ≡ true =
    subst (λ (o : Option Place). if_placed o (λ q. nat_lt index (mark_words q.bytes)) ≡ true) (sym here) (lt-ltb _ _ inside) in record {
      may = may;
      tells = ap (λ (n : ℕ). Ok (replies.Old n))
          (old_touch w words k (events.Harvest r client index) r p _ here refl near (none_waits _ r (mark_word p client index) none));
      leads = refl;
      coupled = record {
        backed = backed_touch w words k (events.Harvest r client index) r p _ here refl near;
        held = k.held;
        whole = k.whole;
        low = k.low;
        still = k.still;
        bare = bare_touch w words k (events.Harvest r client index) r p _ here refl;
        order = order_after w k.order (events.Harvest r client index) _ may refl;
      };
    }
