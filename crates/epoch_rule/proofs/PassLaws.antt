-- What a seat's own entries make of its view.
use Rattle.epoch_rule.proofs.Common.{◌≡◌, ℕ, ◌+◌, ◌<◌, Bool, List, [], ◌∷◌, ◌++◌, length, sym, ap, ◌∙◌, subst, if◌then◌else◌, append_assoc}
use Rattle.epoch_rule.proofs.Common.{append-nil, Option, Some, None, IsPrefix, prefix_trans, arc_value, Arc, Me, TableId, Forest, Place, Event, Carried}
use Rattle.epoch_rule.proofs.Common.{Nothing, HistoryEntry, PassState, idle, pass_after, pass_id, first_generations, shared_opening, Sizes, View}
use Rattle.epoch_rule.proofs.Common.{history_entry, actor_of, own_entries, pass_after_all, generations_after_all, generations_published, generation_published}
use Rattle.epoch_rule.proofs.Common.{first_generation, state_of, IsLegal, pass_seen, generations_seen, PlacesFit, ComesNext, Suits, shown_by, IsCopy}
use Rattle.epoch_rule.proofs.Common.{IsEnteredIn, HasItsEdition, value_in, own_append, generations_by_append, published_append, legal_start, last_of, EndsWith}
use Rattle.epoch_rule.proofs.Common.{sound, generation_stays, none_is_not_some, same_Some, generations_after, pass_by_append, last_reply, published_more}
use Rattle.epoch_rule.proofs.Common.{arith, Wrote, pass_of, length-replicate, get_or-replicate, pass_owns}
use Rattle.std.proofs.Common.{eq-eqb}
use Rattle.mem_base.specs.declared.machine.events.Event.TheVariants as events
use Rattle.epoch_rule.proofs.AddsLaws.{last_append}
use Rattle.mem_base.specs.declared.machine.events.Hand.TheVariants as hands
use Rattle.epoch_rule.specs.Layout.{words_before_pool, slots_before, slot_of}

pub own_added : (a : ℕ) (v : View) (e : Event) (x : Carried) (r : ℕ) (w : View) → actor_of e ≡ a → ComesNext a v e x r w
    → own_entries a w.seen ≡ own_entries a v.seen ++ history_entry e x r ∷ []
own_added a v e x r w mine h = ap (own_entries a) h.seen ∙ (own_append a (v.seen ++ h.between) (history_entry e x r ∷ []) ∙
    (ap (λ l. l ++ own_entries a (history_entry e x r ∷ []))
    (own_append a v.seen h.between ∙ (ap (λ l. own_entries a v.seen ++ l) h.others ∙ append-nil (own_entries a v.seen)))
    ∙ ap (λ (b : Bool). own_entries a v.seen ++ (if b then history_entry e x r ∷ [] else [])) (eq-eqb (actor_of e) a mine)))

pub begins_added : (a : ℕ) (v : View) (e : Event) (x : Carried) (r : ℕ) (w : View) → ComesNext a v e x r w → IsPrefix v.seen w.seen
begins_added a v e x r w h = (h.between ++ history_entry e x r ∷ [], sym (append_assoc v.seen h.between (history_entry e x r ∷ [])) ∙ sym h.seen)

-- the last of a list
pub last_snoc : (xs : List HistoryEntry) (y : HistoryEntry) → last_of (xs ++ y ∷ []) ≡ Some y
last_snoc xs y = last_append xs y []

pub ends_added : (a : ℕ) (v : View) (e : Event) (x : Carried) (r : ℕ) (w : View) → ComesNext a v e x r w → (before : List HistoryEntry)
    → EndsWith (before ++ history_entry e x r ∷ []) w.seen
ends_added a v e x r w h before y is = ap last_of h.seen
    ∙ (last_snoc (v.seen ++ h.between) (history_entry e x r) ∙ (sym (last_snoc before (history_entry e x r)) ∙ is))

pub pass_added : (p : ℕ) (v : View) (e : Event) (x : Carried) (r : ℕ) (w : View) → actor_of e ≡ p + 1 → ComesNext (p + 1) v e x r w
    → pass_seen p w ≡ pass_after (pass_seen p v) e r
pass_added p v e x r w mine h = ap (pass_after_all idle) (own_added (p + 1) v e x r w mine h)
    ∙ pass_by_append (own_entries (p + 1) v.seen) (history_entry e x r ∷ []) idle

pub generations_added : (v : View) (e : Event) (x : Carried) (r : ℕ) (w : View) → actor_of e ≡ 0 → ComesNext 0 v e x r w
    → generations_seen w ≡ generations_after (generations_seen v) e x r
generations_added v e x r w mine h = (λ i. generations_after_all (first_generations (h.sizes i).passes) (own_added 0 v e x r w mine h i))
    ∙ generations_by_append (own_entries 0 v.seen) (history_entry e x r ∷ []) (first_generations v.sizes.passes)

-- a pass of the machine is what the entries make of it that its seat has seen
pub pass_known : (z : Sizes) (log : List HistoryEntry) (p : ℕ) (v : View) → p < z.passes → own_entries (p + 1) v.seen ≡ own_entries (p + 1) log
    → pass_of (state_of z log).passes (pass_id p) ≡ pass_seen p v
pass_known z log p v near same = pass_owns log (shared_opening z.words z.passes) p (subst (λ (m : ℕ). p < m) (sym (length-replicate z.passes idle)) near)
    ∙ (ap (λ h. pass_after_all h (own_entries (p + 1) log)) (get_or-replicate z.passes p idle idle near) ∙ ap (pass_after_all idle) (sym same))

-- the number that a pass entered in is that of the last Publish before
pub entered_counts : (p : ℕ) (v : View) (r : ℕ) (w : View) → ComesNext (p + 1) v (events.Enter (pass_id p)) Nothing r w
    → length (generations_published w.seen) ≡ r + 1
entered_counts p v r w h =
    let xs : List HistoryEntry = v.seen ++ h.between in
    let z : Sizes = v.sizes in
    let last : List HistoryEntry = history_entry (events.Enter (pass_id p)) Nothing r ∷ [] in
    let whole : IsLegal z (xs ++ last) = subst (IsLegal z) h.seen h.lawful in
    let ok = sound z.words z.passes xs (legal_start xs last (shared_opening z.words z.passes) whole) in
    let is : r ≡ (state_of z xs).generations.current = last_reply xs (shared_opening z.words z.passes) (events.Enter (pass_id p)) Nothing r whole in
    let same : generations_published w.seen ≡ generations_published xs = ap generations_published h.seen ∙ published_append xs last (first_generation ∷ []) in
    ap length same ∙ (ok.counted ∙ ap (λ (n : ℕ). n + 1) (sym is))

-- three events in turn
pub three : (p : ℕ) (u v w y : View) (d e f : Event) (x : Carried) (q r s : ℕ) → actor_of d ≡ p + 1 → actor_of e ≡ p + 1 → actor_of f ≡ p + 1
    → ComesNext (p + 1) u d x q v → ComesNext (p + 1) v e x r w → ComesNext (p + 1) w f x s y
    → Wrote (hands.Pass (pass_id p)) u.sizes u.seen (history_entry d x q ∷ history_entry e x r ∷ history_entry f x s ∷ []) y.seen
three p u v w y d e f x q r s a b c h i j = record {
  begins = prefix_trans u.seen w.seen y.seen (prefix_trans u.seen v.seen w.seen (begins_added (p + 1) u d x q v h) (begins_added (p + 1) v e x r w i))
      (begins_added (p + 1) w f x s y j);
  lawful = subst (λ (z : Sizes). IsLegal z y.seen) (i.sizes ∙ h.sizes) j.lawful;
  events = own_added (p + 1) w f x s y c j ∙ (ap (λ l. l ++ history_entry f x s ∷ [])
      (own_added (p + 1) v e x r w b i ∙ (ap (λ l. l ++ history_entry e x r ∷ []) (own_added (p + 1) u d x q v a h)
      ∙ append_assoc (own_entries (p + 1) u.seen) (history_entry d x q ∷ []) (history_entry e x r ∷ [])))
      ∙ append_assoc (own_entries (p + 1) u.seen) (history_entry d x q ∷ history_entry e x r ∷ []) (history_entry f x s ∷ []));
  ends = ends_added (p + 1) w f x s y j (history_entry d x q ∷ history_entry e x r ∷ []);
}

module _ {E Z : Type 0} (number : E → ℕ) (forest : E → Forest) (places : E → List Place) where
  pub stands_out : (p : ℕ) (me : Me (Option (Arc E Z)) View) (o : Option (Arc E Z)) → value_in o ≡ None → HasItsEdition number forest places p me o
      → (pass_seen p me.0 ≡ idle) × (me.1 ≡ [])
  stands_out p me None e s = s
  stands_out p me (Some a) e s = none_is_not_some _ (sym e)

  -- what entering leaves of the pass
  pub stands_in : (p r : ℕ) (me : Me (Option (Arc E Z)) View) (o : Option (Arc E Z)) → (pass_seen p me.0).entered ≡ Some r → me.1 ≡ (slot_of p r, None) ∷ []
      → r < length (generations_published me.0.seen)
      → IsCopy number forest places r (generation_published me.0.seen r) o → PlacesFit me.0.sizes.words (generation_published me.0.seen r)
      → HasItsEdition number forest places p me o
  stands_in p r me None inside carries low copy roomy = none_is_not_some _ copy.1
  stands_in p r me (Some a) inside carries low copy roomy =
      let same : a ≡ copy.0 = same_Some a copy.0 copy.1 in
      let is : number (arc_value a) ≡ r = ap (λ (x : Arc E Z). number (arc_value x)) same ∙ copy.2 in
      let shows : shown_by forest places (arc_value a) ≡ generation_published me.0.seen r = ap (λ (x : Arc E Z). shown_by forest places (arc_value x)) same
      ∙ copy.3 in (
        record {
          entered = inside ∙ ap (λ (z : ℕ). Some z) (sym is);
          published = subst (λ (z : ℕ). z < length (generations_published me.0.seen)) (sym is) low;
          shows = shows ∙ ap (generation_published me.0.seen) (sym is);
          roomy = subst (PlacesFit me.0.sizes.words) (sym shows) roomy;
        },
        carries ∙ ap (λ (z : ℕ). (slot_of p z, None) ∷ []) (sym is),
      )

  pub entered_at : (p : ℕ) (me : Me (Option (Arc E Z)) View) (o : Option (Arc E Z)) (e : E) → value_in o ≡ Some e → HasItsEdition number forest places p me o
      → IsEnteredIn number forest places p me.0 e
  entered_at p me None e is s = none_is_not_some _ is
  entered_at p me (Some a) e is s = subst (IsEnteredIn number forest places p me.0) (same_Some _ _ is) s.0

pub suits_on : (t u : TableId) (z y : Sizes) → t ≡ u → z ≡ y → Suits t z → Suits u y
suits_on t u z y a b h = subst (λ (x : TableId × Sizes). Suits x.0 x.1) (λ i. (a i, b i)) h

-- a table tells the sizes that it suits
pub same_sizes : (t u : TableId) (z y : Sizes) → t ≡ u → Suits t z → Suits u y → (z.passes ≡ y.passes) × (z.words ≡ y.words)
same_sizes t u z y same h k =
    let words : t.words ≡ u.words = ap (λ (x : TableId). x.words) same in
    let slots : t.slots ≡ u.slots = ap (λ (x : TableId). x.slots) same in
    let a : t.words ≡ words_before_pool z.passes + z.words = h.0 in
    let b : t.slots ≡ slots_before z.passes = h.1 in
    let c : u.words ≡ words_before_pool y.passes + y.words = k.0 in
    let d : u.slots ≡ slots_before y.passes = k.1 in
    (omega arith, omega arith)

-- a pass of the one is one of the other
pub near_in : (t u : TableId) (z y : Sizes) (p : ℕ) → t ≡ u → Suits t z → Suits u y → p < z.passes → p < y.passes
near_in t u z y p same h k near = subst (λ (n : ℕ). p < n) (same_sizes t u z y same h k).0 near

-- a pass that has seen more, and stands where it stood, stands as it did
pub entered_still : {E : Type 0} (number : E → ℕ) (forest : E → Forest) (places : E → List Place) (p : ℕ) (v w : View) (e : E) → w.sizes ≡ v.sizes
    → IsPrefix v.seen w.seen → pass_seen p w ≡ pass_seen p v → IsEnteredIn number forest places p v e → IsEnteredIn number forest places p w e
entered_still number forest places p v w e sizes begins same s = record {
  entered = ap (λ (h : PassState). h.entered) same ∙ s.entered;
  published = published_more v.seen w.seen begins (number e) s.published;
  shows = s.shows ∙ sym (generation_stays v.seen w.seen begins (number e) s.published);
  roomy = subst (λ (z : Sizes). PlacesFit z.words (shown_by forest places e)) (sym sizes) s.roomy;
}

pub stands_still : {E Z : Type 0} (number : E → ℕ) (forest : E → Forest) (places : E → List Place) (p : ℕ) (me new : Me (Option (Arc E Z)) View)
    (o : Option (Arc E Z)) → new.1 ≡ me.1 → new.0.sizes ≡ me.0.sizes → IsPrefix me.0.seen new.0.seen → pass_seen p new.0 ≡ pass_seen p me.0
    → HasItsEdition number forest places p me o → HasItsEdition number forest places p new o
stands_still number forest places p me new None bare sizes begins same s = (same ∙ s.0, bare ∙ s.1)
stands_still number forest places p me new (Some a) bare sizes begins same s =
    (entered_still number forest places p me.0 new.0 (arc_value a) sizes begins same s.0, bare ∙ s.1)
