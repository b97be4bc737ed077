-- What an actor may touch, and what its touch shows.
use Rattle.epoch_rule.proofs.Common.{◌≡◌, ◌⊎◌, ℕ, ◌+◌, ◌<◌, ◌≤◌, eqb, Bool, true, false, List, [], ◌∷◌, length, sym, refl, ap, ◌∙◌, subst, ⊎_elim, inl, inr}
use Rattle.epoch_rule.proofs.Common.{append-nil, arith, Option, Some, None, MatchBool, nat_lt, lt-ltb, ltb-true, le-leb, eq-eqb, IsPrefix, Forest}
use Rattle.epoch_rule.proofs.Common.{Hand, Place, Event, At, HistoryEntry, IsEdition, past, cell, PassState, pass_after, pass_id, Generation}
use Rattle.epoch_rule.proofs.Common.{generation, entered_generation, Shared, shared_possible, is_same_place, Sizes, View, history_entry, actor_of}
use Rattle.epoch_rule.proofs.Common.{actor_of_hand, own_entries, state_of, IsLegal, pass_seen, generations_seen, ComesNext, shown_by, IsEnteredIn, TouchesWord}
use Rattle.epoch_rule.proofs.Common.{IsReady, IsTouch, touch_at, Wrote, WriterMay, and_from, generation_stays, sound, Carried, none_is_not_some, IsSettled}
use Rattle.epoch_rule.proofs.Common.{ToldStep, Told, event_of, ◌&&◌, IsSomeAnd, IsRegionPlace, IsNotifiersPlace, extent, extent_of, words_of, place_from}
use Rattle.epoch_rule.proofs.Common.{pages_in, is_data_or_register, word_of_page, notifiers_place, is_notifiers, KeepsHome, IsReach, PassMay, ShowsStep}
use Rattle.epoch_rule.proofs.Common.{ShowsTouch, or_left, or_right}
use Rattle.std.specs.List.{list_any}
use Rattle.mem_base.specs.declared.access.cells.WordStep.{WordStep}
use Rattle.mem_base.specs.declared.map.forests.Node.{Node}
use Rattle.mem_base.specs.declared.map.kinds.Client.{Client}
use Rattle.mem_base.specs.declared.map.kinds.Client.TheVariants as clients
use Rattle.mem_base.specs.map.Region.{node_of}
use Rattle.mem_base.specs.declared.machine.events.Hand.TheVariants as hands
use Rattle.mem_base.specs.declared.access.cells.WordStep.TheVariants as steps
use Rattle.mem_base.specs.views.Naming.{names}
use Rattle.mem_base.specs.machine.Guards.{is_notifier, may_reach, may_mark}
use Rattle.epoch_rule.specs.declared.touches.Touch.{Touch}
use Rattle.epoch_rule.specs.declared.touches.Touch.TheVariants as touches
use Rattle.epoch_rule.proofs.PassLaws.{own_added, begins_added, ends_added, pass_added, generations_added, pass_known}
use Rattle.epoch_rule.proofs.WordSteps.{entered_is}
use Rattle.mem_base.proofs.PlaceLaws.{one_of}
use Rattle.mem_base.specs.map.Limits.{notifier_count}

-- a pass that is entered in a generation may reach the words of the places that it carries
reaches : (f : Forest) (ps : List Place) (p : Place) (word : ℕ) → IsEdition f ps → list_any (is_same_place p) ps ≡ true → is_data_or_register p word ≡ true
    → may_reach (Some (generation f ps)) p (cell p.region word) ≡ true
reaches f ps p word k there inside = ⊎_elim
    (λ (h : IsRegionPlace k.pool_words f p). or_left (names f p.region && is_data_or_register p word) (is_notifier (cell p.region word))
    (and_from _ _ h.named inside))
    (λ (h : IsNotifiersPlace k.pool_words f p). or_right (names f p.region && is_data_or_register p word) (is_notifier (cell p.region word))
    (and_from _ _ (ap (λ (q : Place). is_notifiers q.region) h.1) (notified h.1)))
    (one_of (λ q. IsRegionPlace k.pool_words f q ⊎ IsNotifiersPlace k.pool_words f q) p ps k.places_of.each there)
  where
    notified : p ≡ notifiers_place k.pool_words → nat_lt word notifier_count ≡ true
    notified e = ap (λ (q : Place). is_data_or_register q word) (sym e) ∙ inside

marks : (f : Forest) (ps : List Place) (p : Place) (page : ℕ) → IsEdition f ps → list_any (is_same_place p) ps ≡ true → page < pages_in p
    → may_mark (Some (generation f ps)) p p.region page ≡ true
marks f ps p page k there near = ⊎_elim
    (λ (h : IsRegionPlace k.pool_words f p). and_from _ _ h.named (lt-ltb _ _ near))
    (λ (h : IsNotifiersPlace k.pool_words f p). absurd (let z : pages_in p ≡ 0 = ap pages_in h.1 in omega arith))
    (one_of (λ q. IsRegionPlace k.pool_words f q ⊎ IsNotifiersPlace k.pool_words f q) p ps k.places_of.each there)

-- such a place has the words of its bytes and registers
pub fits_extent : (f : Forest) (ps : List Place) (p : Place) → IsEdition f ps → list_any (is_same_place p) ps ≡ true
    → p.words ≡ words_of (extent p.bytes p.regs)
fits_extent f ps p k there = ⊎_elim
    (λ (h : IsRegionPlace k.pool_words f p). region_fits (node_of f.nodes p.region) h.fits)
    (λ (h : IsNotifiersPlace k.pool_words f p). subst (λ (q : Place). q.words ≡ words_of (extent q.bytes q.regs)) (sym h.1) refl)
    (one_of (λ q. IsRegionPlace k.pool_words f q ⊎ IsNotifiersPlace k.pool_words f q) p ps k.places_of.each there)
  where
    region_fits : (o : Option Node) → IsSomeAnd o (λ n. p ≡ place_from p.region p.start (extent_of n.kind n.size)) → p.words ≡ words_of (extent p.bytes p.regs)
    region_fits None h = absurd h
    region_fits (Some n) h = ap (λ (q : Place). q.words) h ∙ ap (λ (q : Place). words_of (extent q.bytes q.regs)) (sym h)

marks_inside : (p : Place) (client : Client) (page : ℕ) → p.words ≡ words_of (extent p.bytes p.regs) → page < pages_in p → word_of_page p client page < p.words
marks_inside p clients.Vga page fits near = omega arith
marks_inside p clients.Code page fits near = omega arith
marks_inside p clients.Migration page fits near = omega arith

-- what a pass may touch is a word of the place
pub reach_inside : (p : Place) (v word : ℕ) (touch : Touch) → p.words ≡ words_of (extent p.bytes p.regs) → IsTouch (hands.Pass (pass_id v)) p word touch
    → IsReach p word touch → word < p.words
reach_inside p v word touches.Fill fits kind reach = absurd kind
reach_inside p v word (touches.Mark client page) fits kind reach = let l = marks_inside p client page fits reach in let same = kind.1 in omega arith
reach_inside p v word (touches.Harvest client index) fits kind reach = absurd kind.0
reach_inside p v word _ fits kind reach = let l = ltb-true _ _ reach in omega arith

-- the steps on words that may be, where the pass is entered in such a generation
pass_steps : (s : Shared) (v : ℕ) (f : Forest) (ps : List Place) (p : Place) (word : ℕ) (touch : Touch) → IsEdition f ps
    → entered_generation s.generations s.passes (pass_id v) ≡ Some (generation f ps) → IsTouch (hands.Pass (pass_id v)) p word touch
    → PassMay ps p word touch → shared_possible s (event_of (hands.Pass (pass_id v)) p word touch) (At p) ≡ true
pass_steps s v f ps p word touches.Look k is kind may =
    rw is (and_from _ _ (and_from _ _ (eq-eqb _ _ refl) (reaches f ps p word k may.0 may.1)) may.0)
pass_steps s v f ps p word (touches.Step step) k is kind may =
    rw is (and_from _ _ (and_from _ _ (eq-eqb _ _ refl) (reaches f ps p word k may.0 may.1)) may.0)
pass_steps s v f ps p word (touches.Try old first bytes value) k is kind may =
    rw is (and_from _ _ (and_from _ _ (eq-eqb _ _ refl) (reaches f ps p word k may.0 may.1)) may.0)
pass_steps s v f ps p word touches.Fill k is kind may = absurd kind
pass_steps s v f ps p word (touches.Mark client page) k is kind may =
    rw is (and_from _ _ (and_from _ _ (eq-eqb _ _ refl) (marks f ps p page k may.0 may.1)) may.0)
pass_steps s v f ps p word (touches.Harvest client index) k is kind may = absurd kind.0

-- the kind of a touch
pub kinds : (hand : Hand) (p : Place) (word : ℕ) (touch : Touch) → IsTouch hand p word touch
    → TouchesWord (actor_of_hand hand) (event_of hand p word touch) p (touch_at (event_of hand p word touch) p)
kinds hand p word touches.Look k = record { mine = refl; is = refl; generations = λ g r. refl; passes = λ ps r. refl; published = λ gs. refl }
kinds hand p word (touches.Step step) k = record { mine = refl; is = refl; generations = λ g r. refl; passes = λ ps r. refl; published = λ gs. refl }
kinds hand p word (touches.Try _ _ _ _) k = record { mine = refl; is = refl; generations = λ g r. refl; passes = λ ps r. refl; published = λ gs. refl }
kinds hands.Writer p word touches.Fill k = record { mine = refl; is = refl; generations = λ g r. refl; passes = λ ps r. refl; published = λ gs. refl }
kinds (hands.Pass v) p word touches.Fill k = absurd k
kinds (hands.Pass v) p word (touches.Mark _ _) k = record { mine = refl; is = refl; generations = λ g r. refl; passes = λ ps r. refl; published = λ gs. refl }
kinds hands.Writer p word (touches.Mark _ _) k = absurd k.0
kinds hands.Writer p word (touches.Harvest _ _) k = record { mine = refl; is = refl; generations = λ g r. refl; passes = λ ps r. refl; published = λ gs. refl }
kinds (hands.Pass v) p word (touches.Harvest _ _) k = absurd k.0

pub word_is : (hand : Hand) (p : Place) (word : ℕ) (touch : Touch) → IsTouch hand p word touch → (touch_at (event_of hand p word touch) p).word ≡ p.start + word
word_is hand p word (touches.Mark client page) k = ap (λ (n : ℕ). p.start + n) (sym k.1)
word_is hand p word (touches.Harvest client index) k = ap (λ (n : ℕ). p.start + n) (sym k.1)
word_is hand p word _ k = refl

-- a pass is ready
entered_seen : {E : Type 0} (number : E → ℕ) (forest : E → Forest) (places : E → List Place) (z : Sizes) (log : List HistoryEntry) (p : ℕ) (v : View) (e : E)
    → IsLegal z log → p < z.passes → IsPrefix v.seen log → own_entries (p + 1) v.seen ≡ own_entries (p + 1) log
    → IsEnteredIn number forest places p v e → entered_generation (state_of z log).generations (state_of z log).passes (pass_id p)
    ≡ Some (shown_by forest places e)
entered_seen number forest places z log p v e l near begins same s =
    entered_is z log l p near (number e) (ap (λ (h : PassState). h.entered) (pass_known z log p v near same) ∙ s.entered)
    ∙ ap (λ (x : Generation). Some x) (generation_stays v.seen log begins (number e) s.published ∙ sym s.shows)

pub ready_pass : {E : Type 0} (number : E → ℕ) (forest : E → Forest) (places : E → List Place) (z : Sizes) (p : ℕ) (v : View) (e : E) (at : Place) (word : ℕ)
    (touch : Touch) → IsEdition (forest e) (places e)
    → v.role ≡ Some (p + 1) → p < z.passes → IsEnteredIn number forest places p v e → at.start + word < z.words
    → IsTouch (hands.Pass (pass_id p)) at word touch → PassMay (places e) at word touch → IsReady z v (hands.Pass (pass_id p)) at word touch
ready_pass number forest places z p v e at word touch law role near s room kind may = record {
  kind = kinds (hands.Pass (pass_id p)) at word touch kind;
  role = role;
  inside = subst (λ (n : ℕ). n < z.words) (sym (word_is (hands.Pass (pass_id p)) at word touch kind)) room;
  may = λ log same l begins own_same. pass_steps (state_of z log) p (forest e) (places e) at word touch law
      (entered_seen number forest places z log p v e l near begins own_same s) kind may;
}

-- the writer is ready
writer_steps : (s : Shared) (p : Place) (word : ℕ) (touch : Touch) → IsTouch hands.Writer p word touch → word < p.words → past p ≤ length s.words
    → shared_possible s (event_of hands.Writer p word touch) (At p) ≡ true
writer_steps s p word (touches.Mark client page) kind l m = absurd kind.0
writer_steps s p word (touches.Harvest client index) kind l m =
    and_from _ _ (eq-eqb _ _ refl) (and_from _ _ (lt-ltb _ _ (subst (λ (n : ℕ). n < p.words) kind.1 l)) (le-leb _ _ m))
writer_steps s p word _ kind l m = and_from _ _ (eq-eqb _ _ refl) (and_from _ _ (lt-ltb _ _ l) (le-leb _ _ m))

pub ready_writer : (z : Sizes) (v : View) (at : Place) (word : ℕ) (touch : Touch) → v.role ≡ Some 0 → IsTouch hands.Writer at word touch → WriterMay z at word
    → IsReady z v hands.Writer at word touch
ready_writer z v at word touch role kind may = record {
  kind = kinds hands.Writer at word touch kind;
  role = role;
  inside = subst (λ (n : ℕ). n < z.words) (sym (word_is hands.Writer at word touch kind)) (let a = may.0 in let b = may.1 in omega arith);
  may = λ log same l begins own_same. let ok = sound z.words z.passes log l in
      writer_steps (state_of z log) at word touch kind may.0 (let a = may.1 in let w = ok.wide in omega arith);
}

-- of each case of a test
in_either : {A B C : Type 0} (b : Bool) → (A → C) → (B → C) → MatchBool b A B → C
in_either true f g h = f h
in_either false f g h = g h

in_both : {A B C D : Type 0} (b : Bool) → (A → C) → (B → D) → MatchBool b A B → MatchBool b C D
in_both true f g h = f h
in_both false f g h = g h

-- what a touch told, as the caller sees it
pub wrote : (hand : Hand) (v : View) (e : Event) (x : Carried) (r : ℕ) (w : View) → actor_of e ≡ actor_of_hand hand
    → ComesNext (actor_of_hand hand) v e x r w → Wrote hand v.sizes v.seen (history_entry e x r ∷ []) w.seen
wrote hand v e x r w mine h = record {
  begins = begins_added (actor_of_hand hand) v e x r w h;
  lawful = h.lawful;
  events = own_added (actor_of_hand hand) v e x r w mine h;
  ends = ends_added (actor_of_hand hand) v e x r w h [];
}

-- meeting a note wrote nothing
pub wrote_none : (hand : Hand) (v m w : View) → m.was ≡ v.seen → m.sizes ≡ v.sizes → IsSettled (actor_of_hand hand) m w → Wrote hand v.sizes v.seen [] w.seen
wrote_none hand v m w was sizes h = subst (λ (y : Sizes × List HistoryEntry). Wrote hand y.0 y.1 [] w.seen) (λ i. (sizes i, was i)) record {
  begins = (h.was.0, h.was.1 ∙ ap (λ (x : View). x.seen) (sym h.same));
  lawful = subst (λ (x : View). IsLegal m.sizes x.seen) (sym h.same) h.lawful;
  events = ap (λ (x : View). own_entries (actor_of_hand hand) x.seen) h.same ∙ (sym h.quiet ∙ sym (append-nil (own_entries (actor_of_hand hand) m.was)));
  ends = λ x none. none_is_not_some x none;
}

shown_step : (hand : Hand) (p : Place) (word : ℕ) (s : WordStep) (v : View) (r : ℕ) (w : View) → ToldStep hand p word s v r w
    → ShowsStep hand v.sizes p word s v.seen r w.seen
shown_step hand p word (steps.Replace first bytes value) v r w h = (h.0, (h.1.0, wrote hand v _ _ h.1.0 w refl h.1.1))
shown_step hand p word (steps.Or bits) v r w h = wrote hand v _ _ r w refl h
shown_step hand p word _ v r w h = wrote hand v _ _ r w refl h

pub shown : (hand : Hand) (p : Place) (word : ℕ) (touch : Touch) (v : View) (r : ℕ) (w : View) → IsTouch hand p word touch → Told hand p word touch v r w
    → ShowsTouch hand v.sizes p word touch v.seen r w.seen
shown hand p word touches.Look v r w k h = (ap (λ (x : View). x.seen) h.0, h.1)
shown hand p word (touches.Step step) v r w k h = shown_step hand p word step v r w h
shown hand p word (touches.Try old first bytes value) v r w k h =
    in_both (eqb r old) (wrote hand v _ _ r w refl) (λ t. (ap (λ (x : View). x.seen) t.0, t.1)) h
shown hands.Writer p word touches.Fill v r w k h = (h.0, wrote hands.Writer v _ _ 0 w refl h.1)
shown (hands.Pass u) p word touches.Fill v r w k h = absurd k
shown (hands.Pass u) p word (touches.Mark client page) v r w k h = (wrote (hands.Pass u) v _ _ 0 w refl h.0, h.1)
shown hands.Writer p word (touches.Mark client page) v r w k h = absurd k.0
shown hands.Writer p word (touches.Harvest client index) v r w k h = wrote hands.Writer v _ _ r w refl h
shown (hands.Pass u) p word (touches.Harvest client index) v r w k h = absurd k.0

-- what a touch leaves of its actor's part
-- a touch showed nothing, or its event
told_either : (hand : Hand) (p : Place) (word : ℕ) (touch : Touch) (v : View) (r : ℕ) (w : View) → IsTouch hand p word touch → Told hand p word touch v r w
    → (w ≡ v) ⊎ ((q : ℕ) × ComesNext (actor_of_hand hand) v (event_of hand p word touch) (At p) q w)
told_either hand p word touches.Look v r w k h = inl h.0
told_either hand p word (touches.Step steps.Load) v r w k h = inr (r, h)
told_either hand p word (touches.Step (steps.Replace first bytes value)) v r w k h = inr h.1
told_either hand p word (touches.Step steps.AddOne) v r w k h = inr (r, h)
told_either hand p word (touches.Step (steps.Or bits)) v r w k h = inr (r, h)
told_either hand p word (touches.Step steps.Take) v r w k h = inr (r, h)
told_either hand p word (touches.Try old first bytes value) v r w k h = in_either (eqb r old) (λ t. inr (r, t)) (λ t. inl t.0) h
told_either hands.Writer p word touches.Fill v r w k h = inr (0, h.1)
told_either (hands.Pass u) p word touches.Fill v r w k h = absurd k
told_either (hands.Pass u) p word (touches.Mark client page) v r w k h = inr (0, h.0)
told_either hands.Writer p word (touches.Mark client page) v r w k h = absurd k.0
told_either hands.Writer p word (touches.Harvest client index) v r w k h = inr (r, h)
told_either (hands.Pass u) p word (touches.Harvest client index) v r w k h = absurd k.0

pub record Kept (v w : View) : Type 0 where
  pub role : w.role ≡ v.role
  pub out : w.out ≡ v.out
  pub sizes : w.sizes ≡ v.sizes
  pub begins : IsPrefix v.seen w.seen
  pub lawful : IsLegal v.sizes v.seen → IsLegal w.sizes w.seen

pub kept : (hand : Hand) (p : Place) (word : ℕ) (touch : Touch) (v : View) (r : ℕ) (w : View) → IsTouch hand p word touch → Told hand p word touch v r w
    → Kept v w
kept hand p word touch v r w k h = ⊎_elim
    (λ (e : w ≡ v). record {
      role = ap (λ (x : View). x.role) e;
      out = ap (λ (x : View). x.out) e;
      sizes = ap (λ (x : View). x.sizes) e;
      begins = ([], append-nil v.seen ∙ ap (λ (x : View). x.seen) (sym e));
      lawful = λ l. subst (λ (x : View). IsLegal x.sizes x.seen) (sym e) l;
    })
    (λ (t : (q : ℕ) × ComesNext (actor_of_hand hand) v (event_of hand p word touch) (At p) q w). let a = t.1 in
    record {
      role = a.role;
      out = a.out;
      sizes = a.sizes;
      begins = begins_added (actor_of_hand hand) v (event_of hand p word touch) (At p) t.0 w a;
      lawful = λ l. subst (λ (z : Sizes). IsLegal z w.seen) (sym a.sizes) a.lawful;
    })
    (told_either hand p word touch v r w k h)

still_pass : (hand : Hand) (p : Place) (word : ℕ) (touch : Touch) (s : PassState) (q : ℕ) → pass_after s (event_of hand p word touch) q ≡ s
still_pass hand p word touches.Look s q = refl
still_pass hand p word _ s q = refl

pub pass_kept : (u : ℕ) (p : Place) (word : ℕ) (touch : Touch) (v : View) (r : ℕ) (w : View) → IsTouch (hands.Pass (pass_id u)) p word touch
    → Told (hands.Pass (pass_id u)) p word touch v r w → pass_seen u w ≡ pass_seen u v
pass_kept u p word touch v r w k h = let hand : Hand = hands.Pass (pass_id u) in ⊎_elim
    (λ (e : w ≡ v). ap (pass_seen u) e)
    (λ (t : (q : ℕ) × ComesNext (u + 1) v (event_of hand p word touch) (At p) q w).
    pass_added u v (event_of hand p word touch) (At p) t.0 w (kinds hand p word touch k).mine t.1 ∙ still_pass hand p word touch (pass_seen u v) t.0)
    (told_either hand p word touch v r w k h)

pub generations_kept : (p : Place) (word : ℕ) (touch : Touch) (v : View) (r : ℕ) (w : View) → IsTouch hands.Writer p word touch
    → Told hands.Writer p word touch v r w → generations_seen w ≡ generations_seen v
generations_kept p word touch v r w k h = let kind = kinds hands.Writer p word touch k in ⊎_elim
    (λ (e : w ≡ v). ap generations_seen e)
    (λ (t : (q : ℕ) × ComesNext 0 v (event_of hands.Writer p word touch) (At p) q w).
    generations_added v (event_of hands.Writer p word touch) (At p) t.0 w kind.mine t.1 ∙ kind.generations (generations_seen v) t.0)
    (told_either hands.Writer p word touch v r w k h)

pub home_kept : (p : Place) (word : ℕ) (touch : Touch) (v : View) (r : ℕ) (w : View) → IsTouch hands.Writer p word touch
    → Told hands.Writer p word touch v r w → KeepsHome v.out v.seen w.seen
home_kept p word touch v r w k h = ⊎_elim
    (λ (e : w ≡ v). λ q l. ap (λ (x : View). own_entries (q + 1) x.seen) e)
    (λ (t : (n : ℕ) × ComesNext 0 v (event_of hands.Writer p word touch) (At p) n w). t.1.home refl)
    (told_either hands.Writer p word touch v r w k h)
