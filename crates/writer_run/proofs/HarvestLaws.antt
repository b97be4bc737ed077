-- A harvest of marks is a turn.
use Rattle.std.proofs.Common.{◌≡◌, ℕ, zero, suc, ◌+◌, ◌-◌, ◌*◌, ◌<◌, ◌≤◌, List, [], ◌∷◌, ◌++◌, length, map, filter, drop}
use Rattle.std.proofs.Common.{Option, Some, None, Ok, Err, refl, sym, ap, subst, ◌∙◌, arith, append_assoc, append-nil}
use Rattle.std.specs.List.{range_with_len}
use Rattle.mem_base.specs.declared.map.ids.RegionId.{RegionId}
use Rattle.mem_base.specs.declared.map.kinds.Client.{Client}
use Rattle.mem_base.specs.declared.map.refusals.Refusal.{Refusal}
use Rattle.mem_base.specs.declared.access.cells.Place.{Place}
use Rattle.mem_base.specs.declared.machine.events.Event.{Event}
use Rattle.mem_base.specs.declared.machine.events.Event.TheVariants as events
use Rattle.mem_base.specs.declared.machine.events.HistoryEntry.{HistoryEntry}
use Rattle.mem_base.specs.access.Marks.{is_marked, pages_of, pages_from}
use Rattle.mem_base.specs.access.Places.{mark_words}
use Rattle.mem_base.specs.access.PlacesByRegion.{place_in}
use Rattle.mem_base.specs.machine.Actors.{generations_after_all}
use Rattle.mem_base.specs.machine.Answers.{harvest_answer, first_or_zero}
use Rattle.mem_base.specs.machine.Desk.{places_of, at_place}
use Rattle.mem_base.specs.machine.Generations.{Generations}
use Rattle.mem_base.specs.machine.Orders.{harvest, harvests, harvest_refusal, mark_words_at, unless}
use Rattle.mem_base.specs.machine.Reaps.{Writer}
use Rattle.mem_base.specs.machine.Turns.{played, history_entry, replies_of}
use Rattle.mem_base.specs.map.Refusals.{or_refused}
use Rattle.writer_desk.specs.Listened.{ListenedState}
use Rattle.writer_hand.specs.Entries.{entries_with, at}
use Rattle.writer_hand.specs.Hands.{AreHarvested, harvests_below}
use Rattle.writer_desk.specs.declared.idle.IdleDesk.{IdleDesk}
use Rattle.writer_run.specs.Parts.{part_of}
use Rattle.writer_run.specs.Turns.{IsTurn}
use Rattle.writer_run.proofs.LoadLaws.{entries_both}
use Rattle.map_laws.proofs.PairLaws.{length-filter, length-push}
use Rattle.mem_base.proofs.ListLaws.{length_map}
use Rattle.mem_base.specs.map.Limits.{pages_per_word}

-- one mark word more

grown : {A : Type 0} (f : ℕ → A) (a n : ℕ) → map f (range_with_len a (suc n)) ≡ map f (range_with_len a n) ++ f (a + n) ∷ []
grown f a zero = let same : a ≡ a + 0 = omega arith in ap (λ m. f m ∷ []) same
grown f a (suc n) =
    let same : a + 1 + n ≡ a + suc n = omega arith in
    ap (λ xs. f a ∷ xs) (grown f (a + 1) n ∙ ap (λ m. map f (range_with_len (a + 1) n) ++ f m ∷ []) same)

harvests_next : (region : RegionId) (client : Client) (n : ℕ)
    → harvests_below region client (n + 1) ≡ harvests_below region client n ++ events.Harvest region client n ∷ []
harvests_next region client n =
    let next : n + 1 ≡ suc n = omega arith in
    let here : 0 + n ≡ n = omega arith in
    ap (λ m. harvests_below region client m) next ∙ grown (λ index. events.Harvest region client index) 0 n
    ∙ ap (λ m. harvests_below region client n ++ events.Harvest region client m ∷ []) here

range_length : (a n : ℕ) → length (range_with_len a n) ≡ n
range_length a zero = refl
range_length a (suc n) = ap suc (range_length (a + 1) n)

harvests_length : (region : RegionId) (client : Client) (n : ℕ) → length (harvests_below region client n) ≡ n
harvests_length region client n = length_map (λ index. events.Harvest region client index) (range_with_len 0 n) ∙ range_length 0 n

pages_next : (base bits : ℕ) (rs : List ℕ) → pages_from base (rs ++ bits ∷ []) ≡ pages_from base rs ++ pages_of (base + length rs * pages_per_word) bits
pages_next base bits [] =
    let same : base ≡ base + 0 * pages_per_word = omega arith in append-nil (pages_of base bits) ∙ ap (λ n. pages_of n bits) same
pages_next base bits (r ∷ rs) =
    let same : base + pages_per_word + length rs * pages_per_word ≡ base + suc (length rs) * pages_per_word = omega arith in
    ap (λ ns. pages_of base r ++ ns) (pages_next (base + pages_per_word) bits rs ∙ ap (λ n. pages_from (base + pages_per_word) rs ++ pages_of n bits) same)
    ∙ sym (append_assoc (pages_of base r) (pages_from (base + pages_per_word) rs) (pages_of (base + suc (length rs) * pages_per_word) bits))

pub begins_harvest : (p : Place) (client : Client) (makes : List HistoryEntry → Type 0) (pages : List ℕ) → makes [] → pages ≡ []
    → AreHarvested p client 0 makes pages
begins_harvest p client makes pages made none = record { replies = []; each = refl; made = made; told = none }

pub harvests_more : (p : Place) (client : Client) (index : ℕ) (makes makes_then : List HistoryEntry → Type 0) (pages pages_then : List ℕ) (bits : ℕ)
    → AreHarvested p client index makes pages → pages_then ≡ pages ++ pages_of (index * pages_per_word) bits
    → ((es : List HistoryEntry) → makes es
    → makes_then (es ++ history_entry (events.Harvest p.region client index) (at p (events.Harvest p.region client index)) bits ∷ []))
    → AreHarvested p client (index + 1) makes_then pages_then
harvests_more p client index makes makes_then pages pages_then bits k more goes =
    let sizes : length k.replies ≡ index = k.each in
    let one : length (k.replies ++ bits ∷ []) ≡ length k.replies + 1 = length-push k.replies bits in
    let base : 0 + length k.replies * pages_per_word ≡ index * pages_per_word = omega (arith, sizes) in record {
      replies = k.replies ++ bits ∷ [];
      each = omega (arith, sizes, one);
      made = subst makes_then (sym (ap (λ (es : List Event). entries_with (at p) es (k.replies ++ bits ∷ [])) (harvests_next p.region client index)
          ∙ entries_both (at p) (harvests_below p.region client index) (events.Harvest p.region client index ∷ []) k.replies (bits ∷ [])
          (k.each ∙ sym (harvests_length p.region client index)))) (goes _ k.made);
      told = more ∙ ap (λ (ns : List ℕ). ns ++ pages_of (index * pages_per_word) bits) k.told
          ∙ ap (λ (n : ℕ). pages_from 0 k.replies ++ pages_of n bits) (sym base) ∙ sym (pages_next 0 bits k.replies);
    }

-- room for the pages

-- a mark word tells at most 64 pages
pub pages_few : (base bits : ℕ) → length (pages_of base bits) ≤ pages_per_word
pages_few base bits =
    let few : length (filter (is_marked bits) (range_with_len 0 pages_per_word)) ≤ length (range_with_len 0 pages_per_word) =
    length-filter (is_marked bits) (range_with_len 0 pages_per_word) in
    let many : length (range_with_len 0 pages_per_word) ≡ pages_per_word = range_length 0 pages_per_word in
    let same : length (pages_of base bits) ≡ length (filter (is_marked bits) (range_with_len 0 pages_per_word)) =
    length_map (λ bit. base + bit) (filter (is_marked bits) (range_with_len 0 pages_per_word)) in
    omega (arith, few, many, same)

-- room for the pages of the mark words that are left
pub room_next : (n index room rest more : ℕ) → index < n → (n - index) * pages_per_word ≤ room →
    room ≤ rest + more → more ≤ pages_per_word → (n - (index + 1)) * pages_per_word ≤ rest
room_next n index room rest more near k told few = omega (arith, near, k, told, few)

-- the entries of a harvest

events_keep : (p : Place) (region : RegionId) (client : Client) (ns rs : List ℕ) (g : Generations)
    → generations_after_all g (entries_with (at p) (map (λ index. events.Harvest region client index) ns) rs) ≡ g
events_keep p region client [] rs g = refl
events_keep p region client (n ∷ ns) rs g = events_keep p region client ns (drop 1 rs) g

pub harvests_keep : (p : Place) (region : RegionId) (client : Client) (count : ℕ) (rs : List ℕ) (g : Generations)
    → generations_after_all g (entries_with (at p) (harvests_below region client count) rs) ≡ g
harvests_keep p region client count rs g = events_keep p region client (range_with_len 0 count) rs g

played_harvests : (w : Writer) (p : Place) (region : RegionId) (client : Client) (ns rs : List ℕ) → place_in (places_of w.desk) region ≡ Some p
    → (played w (map (λ index. events.Harvest region client index) ns) rs).entries
    ≡ entries_with (at p) (map (λ index. events.Harvest region client index) ns) rs
played_harvests w p region client [] rs e = refl
played_harvests w p region client (n ∷ ns) rs e = λ i.
    history_entry (events.Harvest region client n) (at_place (e i)) (first_or_zero rs) ∷ played_harvests w p region client ns (drop 1 rs) e i

harvests_leave : (w : Writer) (region : RegionId) (client : Client) (ns rs : List ℕ)
    → (played w (map (λ index. events.Harvest region client index) ns) rs).writer ≡ w
harvests_leave w region client [] rs = refl
harvests_leave w region client (n ∷ ns) rs = harvests_leave w region client ns (drop 1 rs)

replies_are : (p : Place) (es : List Event) (rs : List ℕ) → length rs ≡ length es → replies_of (entries_with (at p) es rs) ≡ rs
replies_are p [] [] e = refl
replies_are p [] (r ∷ rs) e = absurd (omega (arith, e))
replies_are p (x ∷ es) [] e = absurd (omega (arith, e))
replies_are p (x ∷ es) (r ∷ rs) e = let less : length rs ≡ length es = omega (arith, e) in ap (λ (ns : List ℕ). r ∷ ns) (replies_are p es rs less)

module _ (from : IdleDesk) (g : Generations) (region : RegionId) (client : Client) where
  abbrev s : ListenedState
  s = from.listened

  abbrev w : Writer
  w = part_of from g

  abbrev why_not : Option Refusal
  why_not = harvest_refusal s.backed.desk.state.forest region

  abbrev marks : List Event
  marks = harvests w.desk region client

  pub harvest_refused : (why : Refusal) → why_not ≡ Some why → (makes : List HistoryEntry → Type 0) → makes []
      → IsTurn w (harvest region client) makes (harvest_answer (Err why)) w
  harvest_refused why is makes made = record {
    replies = [];
    made = subst (λ (o : Option Refusal). makes (played w (unless o marks) []).entries) (sym is) made;
    answer_is = ap (λ (o : Option Refusal). harvest_answer (or_refused o (pages_from 0 (replies_of (played w (unless o marks) []).entries)))) (sym is);
    writer = ap (λ (o : Option Refusal). (played w (unless o marks) []).writer) (sym is);
  }

  pub harvested : (p : Place) → place_in (places_of w.desk) region ≡ Some p → p.region ≡ region → why_not ≡ None
      → (makes : List HistoryEntry → Type 0) (pages : List ℕ) → AreHarvested p client (mark_words p.bytes) makes pages → (h : Generations) → h ≡ g
      → IsTurn w (harvest region client) makes (harvest_answer (Ok pages)) (part_of from h)
  harvested p here own none makes pages k h same = record {
    replies = k.replies;
    made = subst makes (sym entries) k.made;
    answer_is = ap (λ (ns : List ℕ). harvest_answer (Ok ns)) (k.told ∙ ap (λ (ns : List ℕ). pages_from 0 ns) (sym replies))
        ∙ ap (λ (o : Option Refusal). harvest_answer (or_refused o (pages_from 0 (replies_of (played w (unless why_not marks) k.replies).entries))))
        (sym none);
    writer = ap (λ (x : Generations). part_of from x) same
        ∙ sym (harvests_leave w region client (range_with_len 0 (mark_words_at (place_in (places_of w.desk) region))) k.replies)
        ∙ ap (λ (o : Option Refusal). (played w (unless o marks) k.replies).writer) (sym none);
  }
    where
      count : ℕ
      count = mark_words p.bytes

      entries : (played w (unless why_not marks) k.replies).entries ≡ entries_with (at p) (harvests_below p.region client count) k.replies
      entries = ap (λ (o : Option Refusal). (played w (unless o marks) k.replies).entries) none
          ∙ played_harvests w p region client (range_with_len 0 (mark_words_at (place_in (places_of w.desk) region))) k.replies here
          ∙ (λ i. entries_with (at p) (harvests_below (sym own i) client (mark_words_at (here i))) k.replies)

      replies : replies_of (played w (unless why_not marks) k.replies).entries ≡ k.replies
      replies = ap (λ (es : List HistoryEntry). replies_of es) entries
          ∙ replies_are p (harvests_below p.region client count) k.replies (k.each ∙ sym (harvests_length p.region client count))
