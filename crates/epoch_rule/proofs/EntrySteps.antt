-- What each kind of step does to the slots of a pass, what a step that makes an entry owes, and what a seat knows before it.
use Rattle.epoch_rule.proofs.Common.{◌≡◌, ◌≢◌, ℕ, ◌+◌, ◌-◌, ◌<◌, Bool, true, false, List, [], ◌∷◌, ◌++◌, length, get_or, set, sym, refl, ap, ◌∙◌, subst}
use Rattle.epoch_rule.proofs.Common.{⊎_elim, arith, length-set, get_or-set_other, get_or-set_same, append-nil, Some, append_cancel_left, both_ways, dite, some}
use Rattle.epoch_rule.proofs.Common.{ℕ_discrete, get_elem?, prefix_refl, prefix_trans, State, at_set, Event, Carried, HistoryEntry, Every, PassState, idle}
use Rattle.epoch_rule.proofs.Common.{pass_of, pass_id, Generation, PassTrack, nothing_known, known_of, pin_word, first_generations, with_known, Shared, shared}
use Rattle.epoch_rule.proofs.Common.{shared_possible, shared_reply, after_shared_entry, shared_opening, Sizes, Picked, View, history_entry, actor_of}
use Rattle.epoch_rule.proofs.Common.{own_entries, pass_after_all, generations_after_all, generations_published, published_with, first_generation, state_of}
use Rattle.epoch_rule.proofs.Common.{IsLegal, generation_of_pick, generations_seen, WordsShow, PlacesFit, PassSlots, SlotsOfPass, AllSlots, SeatKnows, IsRuled}
use Rattle.epoch_rule.proofs.Common.{ComesNext, same_number, published_append, own_append, generations_own, sound, set-get_or, IsPrefix, after_append}
use Rattle.epoch_rule.proofs.Common.{legal_snoc, own_other, ◌%◌, ◌≤◌, Option, None, none, dec_le, set_else, one_turn}
use Rattle.epoch_rule.proofs.Common.{with_placed, HasAt, none_is_no_number, get_or-append, set_here, slice_index_or, get_or_push}
use mathlib.Core.Option as maybe
use Rattle.epoch_rule.specs.Layout.{word_of_pass, words_before_pool, slots_before, slot_of}
use Rattle.mem_base.specs.map.Limits.{most_generations}

module _ {S : Type 0} (Copy : ℕ → Generation → S → Type 0) where
  -- a place that is kept
  has_else : (homes homes' : List (maybe.Option S)) (i : ℕ) (P : S → Type 0) → get_elem? homes' i ≡ get_elem? homes i → HasAt homes i P → HasAt homes' i P
  has_else homes homes' i P e h = (h.0, e ∙ h.1, h.2)

  -- a place beside the one that changed
  beside : (homes : List (maybe.Option S)) (v i : ℕ) (x : maybe.Option S) (k : ℕ) (P : S → Type 0) → k ≢ i → HasAt homes (slots_before v + k) P
      → HasAt (set homes (slots_before v + i) x) (slots_before v + k) P
  beside homes v i x k P ne h = (h.0, set_else homes (slots_before v + i) (slots_before v + k) x (λ q. ne (omega arith)) ∙ h.1, h.2)

  -- the slots of this pass stay, and so does what the writer does here
  pub stays : (c : ℕ) (gs : List Generation) (f : PassTrack) (e : Option ℕ) (held held' : ℕ) (next next' : Generation) (homes homes' : List (maybe.Option S))
      (v : ℕ) → ((k : ℕ) → k < most_generations → get_elem? homes' (slots_before v + k) ≡ get_elem? homes (slots_before v + k))
      → (held' ≡ v + 1 → held ≡ v + 1) → (held ≡ v + 1 → held' ≡ v + 1) → (f.placed ≡ true → next' ≡ next) → PassSlots Copy c gs f e held next homes v
      → PassSlots Copy c gs f e held' next' homes' v
  stays c gs f e held held' next next' homes homes' v same back on told s = record {
    kept = λ g a b d. has_else homes homes' (slot_of v g) (Copy g (slice_index_or gs g first_generation))
        (same (g % most_generations) (omega arith)) (s.kept g a b d);
    placed = λ a. has_else homes homes' (slot_of v (c + 1)) (Copy (c + 1) next') (same ((c + 1) % most_generations) (omega arith))
        (subst (λ (m : Generation). HasAt homes (slot_of v (c + 1)) (Copy (c + 1) m)) (sym (told a)) (s.placed a));
    home = λ k l a b. has_else homes homes' (slots_before v + k) (λ y. Unit {0}) (same k l) (s.home k l a (λ x. b (on x)));
    clear = λ x. s.clear (back x);
  }

  -- the pass takes its copy of the current edition
  pub entered : (c : ℕ) (gs : List Generation) (f : PassTrack) (held : ℕ) (next : Generation) (homes : List (maybe.Option S)) (v : ℕ) → f.lowest ≤ c
      → c ≤ f.lowest + (most_generations - 1) → PassSlots Copy c gs f None held next homes v
      → PassSlots Copy c gs f (Some c) held next (set homes (slot_of v c) none) v
  entered c gs f held next homes v low near s = record {
    kept = λ g a b d. beside homes v (c % most_generations) none (g % most_generations) (Copy g (slice_index_or gs g first_generation))
        (λ q. d (ap (λ (z : ℕ). Some z) (sym (one_turn g c most_generations b (omega arith) q)))) (s.kept g a b (λ q. none_is_no_number g q));
    placed = λ a. beside homes v (c % most_generations) none ((c + 1) % most_generations) (Copy (c + 1) next) (λ q. omega arith) (s.placed a);
    home = λ k l a b. beside homes v (c % most_generations) none k (λ y. Unit {0}) (a c refl) (s.home k l (λ g q. absurd (none_is_no_number g q)) b);
    clear = s.clear;
  }

  -- the pass gives its copy back
  pub left : (c : ℕ) (gs : List Generation) (f : PassTrack) (g held : ℕ) (next : Generation) (homes : List (maybe.Option S)) (v : ℕ) (y : S) → f.lowest ≤ g
      → g ≤ c → c ≤ f.lowest + (most_generations - 1) → (f.placed ≡ true → c ≤ f.lowest + (most_generations - 2))
      → slots_before v + most_generations ≤ length homes
      → Copy g (slice_index_or gs g first_generation) y → PassSlots Copy c gs f (Some g) held next homes v
      → PassSlots Copy c gs f None held next (set homes (slot_of v g) (some y)) v
  left c gs f g held next homes v y low high near ahead room copy s =
      let homes' : List (maybe.Option S) = set homes (slot_of v g) (some y) in
      let here : get_elem? homes' (slot_of v g) ≡ some (some y) = set_here homes (slot_of v g) (some y) (omega arith) in
      let one : (x : ℕ) → f.lowest ≤ x → x ≤ c → x % most_generations ≡ g % most_generations → x ≡ g =
      λ x a b q. dite (dec_le x g) (λ l. one_turn x g most_generations l (omega arith) q)
      (λ l. sym (one_turn g x most_generations (omega arith) (omega arith) (sym q))) in record {
        kept = λ x a b d. dite (ℕ_discrete x g) (λ e. subst (λ (z : ℕ). HasAt homes' (slot_of v z) (Copy z (slice_index_or gs z first_generation))) (sym e)
            (y, here, copy))
            (λ ne. beside homes v (g % most_generations) (some y) (x % most_generations) (Copy x (slice_index_or gs x first_generation)) (λ q. ne (one x a b q))
            (s.kept x a b (λ q. ne (sym (same_number g x q)))));
        placed = λ a. let z = ahead a in beside homes v (g % most_generations) (some y) ((c + 1) % most_generations) (Copy (c + 1) next)
            (λ q. let e = one_turn g (c + 1) most_generations (omega arith) (omega arith) (sym q) in omega arith) (s.placed a);
        home = λ k l a b. dite (ℕ_discrete k (g % most_generations)) (λ e. (y, ap (λ (z : ℕ). get_elem? homes' (slots_before v + z)) e ∙ here, tt))
            (λ ne. beside homes v (g % most_generations) (some y) k (λ y. Unit {0}) ne
            (s.home k l (λ x q e. ne (e ∙ ap (λ (z : ℕ). z % most_generations) (sym (same_number g x q)))) b));
        clear = s.clear;
      }

  -- a sweep may raise the lowest number
  pub swept : (c : ℕ) (gs : List Generation) (f : PassTrack) (f' : PassTrack) (e : Option ℕ) (held : ℕ) (next : Generation) (homes : List (maybe.Option S))
      (v : ℕ) → f.lowest ≤ f'.lowest → f'.placed ≡ f.placed → PassSlots Copy c gs f e held next homes v
      → PassSlots Copy c gs f' e held next homes v
  swept c gs f f' e held next homes v up same s = record {
    kept = λ g a b d. s.kept g (omega arith) b d;
    placed = λ a. s.placed (sym same ∙ a);
    home = s.home;
    clear = λ x. let z = s.clear x in let a = z.0 in (omega arith, same ∙ z.1);
  }

  -- the writer takes the slot for the next edition
  pub reached : (c : ℕ) (gs : List Generation) (f : PassTrack) (e : Option ℕ) (next : Generation) (homes : List (maybe.Option S)) (v : ℕ)
      → c ≤ f.lowest + (most_generations - 2)
      → f.placed ≡ false → PassSlots Copy c gs f e 0 next homes v
      → PassSlots Copy c gs f e (v + 1) next (set homes (slot_of v (c + 1)) none) v
  reached c gs f e next homes v near free s = record {
    kept = λ g a b d. beside homes v ((c + 1) % most_generations) none (g % most_generations) (Copy g (slice_index_or gs g first_generation))
        (λ q. let z = one_turn g (c + 1) most_generations (omega arith) (omega arith) q in omega arith) (s.kept g a b d);
    placed = λ a. absurd (both_ways _ free a);
    home = λ k l a b. beside homes v ((c + 1) % most_generations) none k (λ y. Unit {0}) (b refl) (s.home k l a (λ x. absurd (omega arith)));
    clear = λ x. (near, free);
  }

  -- and gives it back with a copy of that edition
  pub placed : (c : ℕ) (gs : List Generation) (f : PassTrack) (e : Option ℕ) (next m : Generation) (homes : List (maybe.Option S)) (v : ℕ) (y : S)
      → slots_before v + most_generations ≤ length homes → Copy (c + 1) m y → PassSlots Copy c gs f e (v + 1) next homes v
      → PassSlots Copy c gs (with_placed true f) e 0 m (set homes (slot_of v (c + 1)) (some y)) v
  placed c gs f e next m homes v y room copy s =
      let i : ℕ = (c + 1) % most_generations in
      let homes' : List (maybe.Option S) = set homes (slots_before v + i) (some y) in
      let here : get_elem? homes' (slots_before v + i) ≡ some (some y) = set_here homes (slots_before v + i) (some y) (omega arith) in
      let near = (s.clear refl).0 in record {
        kept = λ g a b d. beside homes v i (some y) (g % most_generations) (Copy g (slice_index_or gs g first_generation))
            (λ q. let z = one_turn g (c + 1) most_generations (omega arith) (omega arith) q in omega arith) (s.kept g a b d);
        placed = λ a. (y, here, copy);
        home = λ k l a b. dite (ℕ_discrete k i) (λ z. (y, ap (λ (x : ℕ). get_elem? homes' (slots_before v + x)) z ∙ here, tt))
            (λ ne. beside homes v i (some y) k (λ y. Unit {0}) ne (s.home k l a (λ _. ne)));
        clear = λ x. absurd (omega arith);
      }

  -- the next edition is the current one
  pub published : (c : ℕ) (gs : List Generation) (f : PassTrack) (e : Option ℕ) (held : ℕ) (m : Generation) (homes : List (maybe.Option S)) (v : ℕ)
      → length gs ≡ c + 1 → f.placed ≡ true → PassSlots Copy c gs f e held m homes v
      → PassSlots Copy (c + 1) (gs ++ m ∷ []) (with_placed false f) e held m homes v
  published c gs f e held m homes v long all s = record {
    kept = λ g a b d. dite (ℕ_discrete g (c + 1))
        (λ z. subst (λ (x : ℕ). HasAt homes (slot_of v x) (Copy x (slice_index_or (gs ++ m ∷ []) x first_generation))) (sym z)
        (subst (λ (x : Generation). HasAt homes (slot_of v (c + 1)) (Copy (c + 1) x)) (sym (get_or_push gs m first_generation (c + 1) long)) (s.placed all)))
        (λ ne. subst (λ (x : Generation). HasAt homes (slot_of v g) (Copy g x)) (sym (get_or-append gs (m ∷ []) first_generation g (omega arith)))
        (s.kept g a (omega arith) d));
    placed = λ z. absurd (grind arith);
    home = λ k l a b. s.home k l a (λ x. absurd (both_ways _ (s.clear x).1 all));
    clear = λ x. absurd (both_ways _ (s.clear x).1 all);
  }

-- the view after an entry, with what the writer holds
abbrev pub grown : View → List HistoryEntry → ℕ → Picked → View
grown v xs h x = record v { seen = xs; was = xs; told = xs; fresh = false; held = h; next = x }

-- what holds of a seat's new view, and of the views of the others
pub seats_set : (P : ℕ → View → Type 0) (views : List View) (id : ℕ) (new : View) → P id new
    → ((j : ℕ) (w : View) → j ≢ id → get_elem? views j ≡ some w → P j w) → (j : ℕ) (w : View) → get_elem? (set views id new) j ≡ some w → P j w
seats_set P views id new here others j w there = ⊎_elim
    (λ (t : (j ≡ id) × (new ≡ w)). subst (λ (y : ℕ × View). P y.0 y.1) (λ i. (sym t.0 i, t.1 i)) here)
    (λ (t : (j ≢ id) × (get_elem? views j ≡ some w)). others j w t.0 t.1) (at_set views id j new w there)

-- a load leaves the words as they are
pub loaded : {S : Type 0} (Copy : ℕ → Generation → S → Type 0) (z : Sizes) (ws words : List ℕ) (homes : List (maybe.Option S)) (views : List View) (i : ℕ)
    → ws ≡ words → IsRuled Copy z record { words = ws; homes = homes; views = views }
    → IsRuled Copy z record { words = set words i (get_or words i 0); homes = homes; views = views }
loaded Copy z ws words homes views i same = subst (λ (y : List ℕ). IsRuled Copy z record { words = y; homes = homes; views = views })
    (same ∙ sym (set-get_or words i 0))

-- a seat that has seen no more, where the history, the actors' seats, the passes out and the writer's slot are others
pub knows_still : {z : Sizes} {log log' : List HistoryEntry} {owner owner' : ℕ → ℕ} {out out' : List Bool} {held held' : ℕ} {next next' : Picked} {j : ℕ}
    (v : View) (bs : List Bool) (h : ℕ) (x : Picked) → SeatKnows z log owner out held next j v → IsPrefix log log'
    → ((a : ℕ) → v.role ≡ Some a → owner' a ≡ owner a) → ((a : ℕ) → v.role ≡ Some a → own_entries a log ≡ own_entries a log')
    → ((p : ℕ) → v.role ≡ Some (p + 1) → get_or out' p false ≡ get_or out p false)
    → (v.role ≡ Some 0 → ((bs ≡ out') × (h ≡ held') × (x ≡ next')) × ((p : ℕ) → get_or out' p false ≡ false
    → (get_or out p false ≡ false) × (own_entries (p + 1) log ≡ own_entries (p + 1) log')))
    → SeatKnows z log' owner' out' held' next' j (record v { out = bs; held = h; next = x })
knows_still v bs h x f more same own goes writer = record {
  knows = f.knows;
  begins = prefix_trans _ _ _ f.begins more;
  was = f.was;
  told = f.told;
  quiet = f.quiet;
  fresh = f.fresh;
  sits = λ a is. same a is ∙ f.sits a is;
  all = λ a is. f.all a is ∙ own a is;
  goes = λ p is. goes p is ∙ f.goes p is;
  counts = λ is. (writer is).0;
  stay = λ is p l ne. f.stay is p ((writer is).1 p l).0 ne;
  brought = λ is p l e. f.brought is p ((writer is).1 p l).0 e;
  home = λ is p l. let t = (writer is).1 p l in f.home is p t.0 ∙ t.1;
}

module _ {S : Type 0} (Copy : ℕ → Generation → S → Type 0) (z : Sizes) (s : State S View) (k : IsRuled Copy z s) (id : ℕ) (v : View)
    (at : get_elem? s.views id ≡ some v) where
  -- the passes that are not out do nothing where another actor does
  others_rest : (a : ℕ) (e : Event) (x : Carried) (r : ℕ) → v.role ≡ Some a → actor_of e ≡ a → (p : ℕ) → get_or k.out p false ≡ false
      → own_entries (p + 1) (k.log ++ history_entry e x r ∷ []) ≡ own_entries (p + 1) k.log
  others_rest a e x r role mine p l = own_other (p + 1) k.log e x r
      (λ q. both_ways _ l ((k.seats id v at).goes p (role ∙ ap (λ (y : ℕ). Some y) (sym mine ∙ q))))

  -- an entry of the actor a, which leaves this state and these generations: the rule holds after it, and its seat has seen it
  pub makes : (a : ℕ) (e : Event) (x : Carried) (r : ℕ) (s' : Shared) (gs' : List Generation) (words' : List ℕ) (homes' : List (maybe.Option S))
      (held' : ℕ) (next' : Picked) (h : ℕ) (q : Picked)
      → v.role ≡ Some a → actor_of e ≡ a → shared_possible (state_of z k.log) e x ≡ true → r ≡ shared_reply (state_of z k.log) e x
      → after_shared_entry (state_of z k.log) (history_entry e x r) ≡ s' → published_with (generations_published k.log) e x ≡ gs'
      → WordsShow z s' words' → Every (PlacesFit z.words) gs' → AllSlots Copy z.passes s' gs' held' (generation_of_pick next') homes'
      → (a ≡ 0 → (h ≡ held') × (q ≡ next')) → (a ≢ 0 → (held' ≡ k.held) × (next' ≡ k.next))
      → let w = grown v (k.log ++ history_entry e x r ∷ []) h q in
      IsRuled Copy z record { words = words'; homes = homes'; views = set s.views id w } × ComesNext a v e x r w
  makes a e x r s' gs' words' homes' held' next' h q role mine may is is_state are shown roomy slots writes keeps' =
      let log : List HistoryEntry = k.log ++ history_entry e x r ∷ [] in
      let after = sym (after_append k.log (history_entry e x r ∷ []) (shared_opening z.words z.passes) ∙ is_state) in
      let published = sym (published_append k.log (history_entry e x r ∷ []) (first_generation ∷ []) ∙ are) in
      let rests = others_rest a e x r role mine in
      let lawful = legal_snoc k.log (shared_opening z.words z.passes) e x r k.lawful may is in
      let f = k.seats id v at in (
        record {
          log = log;
          lawful = lawful;
          shown = subst (λ (t : Shared). WordsShow z t words') after shown;
          roomy = subst (λ (t : List Generation). Every (PlacesFit z.words) t) published roomy;
          owner = k.owner;
          out = k.out;
          rest = λ p l. ap (pass_after_all idle) (rests p l) ∙ k.rest p l;
          held = held';
          next = next';
          slots = subst (λ (t : Shared × List Generation). AllSlots Copy z.passes t.0 t.1 held' (generation_of_pick next') homes')
              (λ i. (after i, published i)) slots;
          seats = seats_set (λ j w. SeatKnows z log k.owner k.out held' next' j w) s.views id (grown v log h q) record {
            knows = f.knows;
            begins = prefix_refl log;
            was = prefix_refl log;
            told = prefix_refl log;
            quiet = λ b is'. refl;
            fresh = λ new p is'. absurd (grind arith);
            sits = f.sits;
            all = λ b is'. refl;
            goes = f.goes;
            counts = λ is'. let w = writes (same_number a 0 (sym role ∙ is')) in ((f.counts is').0, w.0, w.1);
            stay = λ is' q l ne. refl;
            brought = λ is' q l e. refl;
            home = λ is' p l. refl;
          } (λ j w other there. let g = k.seats j w there in
              let apart : (b : ℕ) → w.role ≡ Some b → a ≢ b = λ b is' y. other (sym (g.sits b is') ∙ (ap k.owner (sym y) ∙ f.sits a role)) in
              knows_still w w.out w.held w.next g (history_entry e x r ∷ [], refl) (λ b is'. refl)
              (λ b is'. sym (own_other b k.log e x r (λ y. apart b is' (sym mine ∙ y)))) (λ p is'. refl)
              (λ is'. let c = g.counts is' in let d = keeps' (apart 0 is') in ((c.0, c.1 ∙ sym d.0, c.2 ∙ sym d.1), λ p l. (l, sym (rests p l)))));
        },
        record {
          role = refl;
          out = refl;
          sizes = refl;
          lawful = subst (λ (y : Sizes). IsLegal y log) (sym (f.knows a role)) lawful;
          between = f.begins.0;
          others = append_cancel_left (own_entries a v.seen) (own_entries a f.begins.0) []
              (sym (own_append a v.seen f.begins.0) ∙ (ap (own_entries a) f.begins.1 ∙ (sym (f.all a role) ∙ sym (append-nil (own_entries a v.seen)))));
          seen = ap (λ l. l ++ history_entry e x r ∷ []) (sym f.begins.1);
          home = λ first p l. let writer : v.role ≡ Some 0 = role ∙ ap (λ (y : ℕ). Some y) first in
              own_other (p + 1) k.log e x r (λ y. omega arith)
              ∙ sym (f.home writer p (ap (λ (o : List Bool). get_or o p false) (sym (f.counts writer).0) ∙ l));
        },
      )

  pub knows_generations : v.role ≡ Some 0 → (state_of z k.log).generations ≡ generations_seen v
  knows_generations role = generations_own k.log (shared_opening z.words z.passes)
      ∙ ((λ i. generations_after_all (first_generations z.passes) (sym ((k.seats id v at).all 0 role) i))
      ∙ ap (λ (y : Sizes). generations_after_all (first_generations y.passes) (own_entries 0 v.seen)) (sym ((k.seats id v at).knows 0 role)))

  pub inside : (p : ℕ) → p < z.passes → p < length (state_of z k.log).passes
  inside p near = let m = (sound z.words z.passes k.log k.lawful).many in omega arith

-- the words after a step of the pass u
pub shows_moved : (z : Sizes) (s : Shared) (words : List ℕ) (h : WordsShow z s words) (u : ℕ) (p : PassState) (x : ℕ) → length s.passes ≡ z.passes
    → u < z.passes → x ≡ pin_word p.announced
    → WordsShow z (shared s.generations (set s.passes u p) s.words) (set words (word_of_pass u) x)
shows_moved z s words h u p x many near is = record {
  wide = length-set words (word_of_pass u) x ∙ h.wide;
  current = get_or-set_other words (word_of_pass u) 0 x 0 (λ q. omega arith) ∙ h.current;
  small = h.small;
  pins = λ v l. dite (ℕ_discrete v u)
      (λ same. subst (λ (k : ℕ). get_or (set words (word_of_pass u) x) (word_of_pass k) 0 ≡ pin_word (get_or (set s.passes u p) k idle).announced) (sym same)
      (get_or-set_same words (word_of_pass u) x 0 (let w = h.wide in omega arith)
      ∙ (is ∙ ap (λ (g : PassState). pin_word g.announced) (sym (get_or-set_same s.passes u p idle (omega arith))))))
      (λ other. get_or-set_other words (word_of_pass u) (word_of_pass v) x 0 (λ q. other (omega arith))
      ∙ (h.pins v l ∙ ap (λ (g : PassState). pin_word g.announced) (sym (get_or-set_other s.passes u v p idle other))));
  pool = λ i l. get_or-set_other words (word_of_pass u) (words_before_pool z.passes + i) x 0 (λ q. omega arith) ∙ h.pool i l;
}

-- the words after a step on a word of the cabinet
pub shows_touched : (z : Sizes) (s : Shared) (words : List ℕ) (h : WordsShow z s words) (t x : ℕ) → length s.words ≡ z.words → t < z.words
    → WordsShow z (shared s.generations s.passes (set s.words t x)) (set words (words_before_pool z.passes + t) x)
shows_touched z s words h t x wide near = record {
  wide = length-set words (words_before_pool z.passes + t) x ∙ h.wide;
  current = get_or-set_other words (words_before_pool z.passes + t) 0 x 0 (λ q. omega arith) ∙ h.current;
  small = h.small;
  pins = λ v l. get_or-set_other words (words_before_pool z.passes + t) (word_of_pass v) x 0 (λ q. omega arith) ∙ h.pins v l;
  pool = λ i l. dite (ℕ_discrete i t)
      (λ same. subst (λ (k : ℕ). get_or (set words (words_before_pool z.passes + t) x) (words_before_pool z.passes + k) 0 ≡ get_or (set s.words t x) k 0)
      (sym same)
      (get_or-set_same words (words_before_pool z.passes + t) x 0 (let w = h.wide in omega arith) ∙ sym (get_or-set_same s.words t x 0 (omega arith))))
      (λ other. get_or-set_other words (words_before_pool z.passes + t) (words_before_pool z.passes + i) x 0 (λ q. other (omega arith))
      ∙ (h.pool i l ∙ sym (get_or-set_other s.words t i x 0 other)));
}

module _ {S : Type 0} (Copy : ℕ → Generation → S → Type 0) where
  -- the first_slots after a step of the pass u, which changes its own slots alone
  pub slots_moved : (n : ℕ) (s : Shared) (gs : List Generation) (held : ℕ) (next : Generation) (homes homes' : List (maybe.Option S)) (u : ℕ) (p : PassState)
      → u < length s.passes → AllSlots Copy n s gs held next homes → length homes' ≡ length homes
      → ((v j : ℕ) → v ≢ u → j < most_generations → get_elem? homes' (slots_before v + j) ≡ get_elem? homes (slots_before v + j))
      → PassSlots Copy s.generations.current gs (known_of s.generations (pass_id u)) p.entered held next homes' u
      → AllSlots Copy n (shared s.generations (set s.passes u p) s.words) gs held next homes'
  slots_moved n s gs held next homes homes' u p near k deep away here = record {
    deep = deep ∙ k.deep;
    each = λ v l. dite (ℕ_discrete v u)
        (λ same. subst (λ (y : ℕ). SlotsOfPass Copy (shared s.generations (set s.passes u p) s.words) gs held next homes' y) (sym same)
        (subst (λ (h : PassState). PassSlots Copy s.generations.current gs (known_of s.generations (pass_id u)) h.entered held next homes' u)
        (sym (get_or-set_same s.passes u p idle near)) here))
        (λ other. subst (λ (h : PassState). PassSlots Copy s.generations.current gs (known_of s.generations (pass_id v)) h.entered held next homes' v)
        (sym (get_or-set_other s.passes u v p idle other))
        (stays Copy s.generations.current gs (known_of s.generations (pass_id v))
        (pass_of s.passes (pass_id v)).entered held held next next homes homes' v (λ j l'. away v j other l') (λ q. q) (λ q. q) (λ _. refl) (k.each v l)));
  }

  -- the first_slots after a step of the writer about the pass u
  pub slots_known : (n : ℕ) (s : Shared) (gs : List Generation) (held held' : ℕ) (next next' : Generation) (homes homes' : List (maybe.Option S)) (u : ℕ)
      (f : PassTrack) → u < length s.generations.passes → AllSlots Copy n s gs held next homes → length homes' ≡ length homes
      → ((v j : ℕ) → v ≢ u → j < most_generations → get_elem? homes' (slots_before v + j) ≡ get_elem? homes (slots_before v + j))
      → ((v : ℕ) → v ≢ u → v < n → (held' ≡ v + 1 → held ≡ v + 1) × (held ≡ v + 1 → held' ≡ v + 1)
      × ((known_of s.generations (pass_id v)).placed ≡ true → next' ≡ next))
      → PassSlots Copy s.generations.current gs f (pass_of s.passes (pass_id u)).entered held' next' homes' u
      → AllSlots Copy n (shared (with_known s.generations (pass_id u) f) s.passes s.words) gs held' next' homes'
  slots_known n s gs held held' next next' homes homes' u f near k deep away told here = record {
    deep = deep ∙ k.deep;
    each = λ v l. dite (ℕ_discrete v u)
        (λ same. subst (λ (y : ℕ). PassSlots Copy s.generations.current gs (get_or (set s.generations.passes u f) y nothing_known)
        (pass_of s.passes (pass_id y)).entered held' next' homes' y) (sym same)
        (subst (λ (g : PassTrack). PassSlots Copy s.generations.current gs g (pass_of s.passes (pass_id u)).entered held' next' homes' u)
        (sym (get_or-set_same s.generations.passes u f nothing_known near)) here))
        (λ other. let t = told v other l in subst (λ (g : PassTrack). PassSlots Copy s.generations.current gs g
        (pass_of s.passes (pass_id v)).entered held' next' homes' v) (sym (get_or-set_other s.generations.passes u v f nothing_known other))
        (stays Copy s.generations.current gs (known_of s.generations (pass_id v))
        (pass_of s.passes (pass_id v)).entered held held' next next' homes homes' v (λ j l'. away v j other l') t.0 t.1 t.2 (k.each v l)));
  }
