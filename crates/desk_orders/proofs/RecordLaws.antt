-- How a record grows.
use Rattle.std.proofs.Common.{◌≡◌, ℕ, ◌+◌, Bool, false, List, [], ◌∷◌, ◌++◌, length, drop, flat_map, refl, sym, ap, subst, ◌∙◌, append-nil, append_assoc}
use Rattle.std.specs.Prelude.{slice_index_or}
use base.Growing.{prefix_trans}
use Rattle.mem_base.specs.declared.machine.events.HistoryEntry.{HistoryEntry}
use Rattle.mem_base.specs.declared.machine.records.DeskEntry.{DeskEntry}
use Rattle.mem_base.specs.machine.Actors.{own_entries}
use Rattle.mem_base.specs.machine.Reaps.{Writer, first_writer}
use Rattle.mem_base.specs.machine.Records.{Given, recorded, entry_of, call_of}
use Rattle.mem_base.specs.machine.Turns.{turn, entries_of_turn, last_writer}
use Rattle.history_laws.proofs.OwnLaws.{own_writers}
use Rattle.history_laws.proofs.AppendLaws.{own_append}
use Rattle.epoch_rule.specs.declared.views.Sizes.{Sizes}
use Rattle.desk_orders.specs.Laws.{MakesTurns}
use Rattle.desk_orders.specs.Records.{RecordState, turns_given, AreFitting, IsOfOrders, IsRecord, GrewBy, IsLater}

-- lists of orders one after another

recorded_append : (w : Writer) (gs hs : List Given)
    → recorded w (gs ++ hs) ≡ recorded w gs ++ recorded (last_writer w (turns_given w gs)) hs
recorded_append w [] hs = refl
recorded_append w (g ∷ gs) hs =
    let t = turn w (call_of g.order) g.replies in ap (λ (es : List DeskEntry). entry_of w g t ∷ es) (recorded_append t.writer gs hs)

turned_append : (w : Writer) (gs hs : List Given)
    → flat_map entries_of_turn (turns_given w (gs ++ hs))
    ≡ flat_map entries_of_turn (turns_given w gs) ++ flat_map entries_of_turn (turns_given (last_writer w (turns_given w gs)) hs)
turned_append w [] hs = refl
turned_append w (g ∷ gs) hs =
    let t = turn w (call_of g.order) g.replies in
    ap (λ (xs : List HistoryEntry). entries_of_turn t ++ xs) (turned_append t.writer gs hs)
    ∙ sym (append_assoc (entries_of_turn t) (flat_map entries_of_turn (turns_given t.writer gs))
    (flat_map entries_of_turn (turns_given (last_writer t.writer (turns_given t.writer gs)) hs)))

ends_append : (w : Writer) (gs hs : List Given)
    → last_writer w (turns_given w (gs ++ hs)) ≡ last_writer (last_writer w (turns_given w gs)) (turns_given (last_writer w (turns_given w gs)) hs)
ends_append w [] hs = refl
ends_append w (g ∷ gs) hs = ends_append (turn w (call_of g.order) g.replies).writer gs hs

fits_append : (gs hs : List Given) → AreFitting gs → AreFitting hs → AreFitting (gs ++ hs)
fits_append [] hs a b = b
fits_append (g ∷ gs) hs a b = (a.0, fits_append gs hs a.1 b)

-- a record grows by nothing, and on

pub grew_none : (v : RecordState) → GrewBy [] v v
grew_none v = record {
  cabinet = refl;
  sizes = refl;
  out = refl;
  home = λ q e. refl;
  seen = ([], append-nil v.seat.seen);
  fits = tt;
  entries = sym (append-nil v.entries);
  own = sym (append-nil (own_entries 0 v.seat.seen));
  part = refl;
}

pub later_same : (v : RecordState) → IsLater v v
later_same v = record { given = []; grew = grew_none v }

pub later_unmoved : (v w : RecordState) → w ≡ v → IsLater v w
later_unmoved v w same = let P : RecordState → Type 0 = IsLater v in subst P (sym same) (later_same v)

pub grew_on : (gs hs : List Given) (u v w : RecordState) → GrewBy gs u v → GrewBy hs v w → GrewBy (gs ++ hs) u w
grew_on gs hs u v w a b = record {
  cabinet = b.cabinet ∙ a.cabinet;
  sizes = b.sizes ∙ a.sizes;
  out = b.out ∙ a.out;
  home = λ q e. b.home q (ap (λ (bs : List Bool). slice_index_or bs q false) a.out ∙ e) ∙ a.home q e;
  seen = prefix_trans u.seat.seen v.seat.seen w.seat.seen a.seen b.seen;
  fits = fits_append gs hs a.fits b.fits;
  entries = b.entries ∙ (λ i. a.entries i ++ recorded (a.part i) hs)
      ∙ append_assoc u.entries (recorded u.part gs) (recorded (last_writer u.part (turns_given u.part gs)) hs)
      ∙ ap (λ (es : List DeskEntry). u.entries ++ es) (sym (recorded_append u.part gs hs));
  own = b.own ∙ (λ i. a.own i ++ flat_map entries_of_turn (turns_given (a.part i) hs))
      ∙ append_assoc (own_entries 0 u.seat.seen) (flat_map entries_of_turn (turns_given u.part gs))
      (flat_map entries_of_turn (turns_given (last_writer u.part (turns_given u.part gs)) hs))
      ∙ ap (λ (xs : List HistoryEntry). own_entries 0 u.seat.seen ++ xs) (sym (turned_append u.part gs hs));
  part = b.part ∙ (λ i. last_writer (a.part i) (turns_given (a.part i) hs)) ∙ sym (ends_append u.part gs hs);
}

pub later_joins : (u v w : RecordState) → IsLater u v → IsLater v w → IsLater u w
later_joins u v w a b = record { given = a.given ++ b.given; grew = grew_on a.given b.given u v w a.grew b.grew }

-- what a record keeps

-- after more orders
pub still_record : (v w : RecordState) → IsRecord v → IsLater v w → IsRecord w
still_record v w h l =
    let gs : List Given = h.given in
    let hs : List Given = l.given in
    let g = l.grew in
    let first : Writer = first_writer h.pool_words v.seat.sizes.passes in
    let o = h.orders in
    let all : IsOfOrders first (gs ++ hs) w = record {
      fits = fits_append gs hs o.fits g.fits;
      entries = g.entries ∙ (λ i. o.entries i ++ recorded (o.part i) hs) ∙ sym (recorded_append first gs hs);
      own = g.own ∙ (λ i. o.own i ++ flat_map entries_of_turn (turns_given (o.part i) hs)) ∙ sym (turned_append first gs hs);
      part = g.part ∙ (λ i. last_writer (o.part i) (turns_given (o.part i) hs)) ∙ sym (ends_append first gs hs);
    } in
    let P : ℕ → Type 0 = λ n. IsOfOrders (first_writer h.pool_words n) (gs ++ hs) w in record {
      pool_words = h.pool_words;
      wide = ap (λ (z : Sizes). z.words) g.sizes ∙ h.wide;
      given = gs ++ hs;
      orders = subst P (ap (λ (z : Sizes). z.passes) (sym g.sizes)) all;
    }

-- what follows of a record that grew
pub append_cancel : (xs ys zs : List HistoryEntry) → xs ++ ys ≡ xs ++ zs → ys ≡ zs
append_cancel [] ys zs e = e
append_cancel (x ∷ xs) ys zs e = append_cancel xs ys zs (ap (drop 1) e)

drop_length : (xs ys : List DeskEntry) → drop (length xs) (xs ++ ys) ≡ ys
drop_length [] ys = refl
drop_length (x ∷ xs) ys = drop_length xs ys

pub makes_turns : (given : List Given) (v w : RecordState) → GrewBy given v w → MakesTurns given v w
makes_turns given v w g = record {
  writer = λ entries is. sym (own_writers entries)
      ∙ append_cancel (own_entries 0 v.seat.seen) (own_entries 0 entries) (flat_map entries_of_turn (turns_given v.part given))
      (sym (own_append 0 v.seat.seen entries) ∙ ap (own_entries 0) (sym is) ∙ g.own);
  entries = ap (drop (length v.entries)) g.entries ∙ drop_length v.entries (recorded v.part given);
}
