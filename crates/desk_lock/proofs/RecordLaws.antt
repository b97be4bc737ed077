-- How a record grows.
use Rattle.std.proofs.Common.{◌≡◌, ℕ, ◌+◌, List, [], ◌∷◌, ◌++◌, length, refl, sym, ap, subst, ◌∙◌, append-nil}
use Rattle.mem_base.specs.declared.machine.events.Hand.TheVariants.{Writer as WriterHand}
use Rattle.mem_base.specs.declared.machine.events.HistoryEntry.{HistoryEntry}
use Rattle.mem_base.specs.declared.machine.records.DeskEntry.{DeskEntry}
use Rattle.mem_base.specs.declared.machine.records.DeskOrder.{DeskOrder}
use Rattle.mem_base.specs.map.Limits.{notifier_count}
use Rattle.mem_base.specs.machine.Actors.{own_entries}
use Rattle.mem_base.specs.machine.Reaps.{Writer, first_writer}
use Rattle.mem_base.specs.machine.Records.{FitsDeskOrder}
use Rattle.mem_base.specs.machine.Turns.{WriterCall, entries_of_turn}
use Rattle.epoch_rule.specs.declared.views.Sizes.{Sizes}
use Rattle.epoch_rule.specs.Rule.{KeepsHome}
use Rattle.epoch_rule.specs.Wrote.{Wrote}
use Rattle.config_desk.specs.Configs.{ConfigState}
use Rattle.desk_orders.specs.declared.orders.Receipt.{Receipt}
use Rattle.desk_orders.specs.Records.{RecordState, IsOfOrders, IsRecord, GrewBy, IsLater}
use Rattle.desk_lock.specs.Records.{record_state, IsUnused}
use Rattle.desk_orders.specs.Given.{entry_got, turn_of}
use Rattle.desk_orders.proofs.Giving.{given_by}
use Rattle.desk_lock.specs.Turned.{IsTurned, Takes}

-- lists of orders one after another

-- by an order that it takes
pub grew_one : (v w : RecordState) (who : ℕ) (order : DeskOrder) (r : Receipt) (t : Takes v who order r w) → FitsDeskOrder order
    → GrewBy (given_by who order t.turned.asked.replies ∷ []) v w
grew_one v w who order r t fits =
    let ns : List ℕ = t.turned.asked.replies in
    let made = t.turned.asked.made in
    let x : WriterCall = turn_of v.part order ns in record {
      cabinet = made.cabinet;
      sizes = made.sizes;
      out = made.out;
      home = made.home;
      seen = made.adds.begins;
      fits = (fits, tt);
      entries = t.entries ∙ ap (λ (e : DeskEntry). v.entries ++ e ∷ []) (λ i. record {
        who = who;
        order = order;
        answer = t.turned.asked.answer_is i;
        from = t.turned.from i;
        to = (t.turned.to ∙ ap (λ (y : Writer). length y.desk.listening.journal) t.turned.asked.part) i;
      });
      own = made.adds.events ∙ ap (λ (xs : List HistoryEntry). own_entries 0 v.seat.seen ++ xs) (sym (append-nil (entries_of_turn x)));
      part = t.turned.asked.part;
    }

pub later_one : (v w : RecordState) (who : ℕ) (order : DeskOrder) (r : Receipt) → Takes v who order r w → FitsDeskOrder order → IsLater v w
later_one v w who order r t fits = record { given = given_by who order t.turned.asked.replies ∷ []; grew = grew_one v w who order r t fits }

-- by the entry that was written
pub takes_by : (c d : ConfigState) (entries old items : List DeskEntry) (e : DeskEntry) (who : ℕ) (order o : DeskOrder) (r : Receipt)
    → IsTurned c order r d → items ≡ old ++ e ∷ [] → old ≡ entries → e ≡ entry_got who o r → o ≡ order
    → Takes (record_state c entries) who order r (record_state d items)
takes_by c d entries old items e who order o r turned more same written is =
    record { turned = turned; entries = more ∙ (λ i. same i ++ (written ∙ ap (λ (x : DeskOrder). entry_got who x r) is) i ∷ []) }

-- what a record keeps

-- a desk that was just made is unused
pub unused : (c : ConfigState) (words passes : ℕ) → (c.seat.sizes.passes ≡ passes) × (c.seat.sizes.words ≡ words + notifier_count) → c.seat.seen ≡ []
    → c.part ≡ first_writer words passes → IsUnused c
unused c words passes sizes fresh part = record {
  pool_words = words;
  wide = sizes.1;
  none = ap (own_entries 0) fresh;
  part = part ∙ ap (first_writer words) (sym sizes.0);
}

-- at first
pub is_first : (c : ConfigState) → IsUnused c → IsRecord (record_state c [])
is_first c h = record {
  pool_words = h.pool_words;
  wide = h.wide;
  given = [];
  orders = record { fits = tt; entries = refl; own = h.none; part = h.part };
}

-- where the writer made no entry
pub heard_record : (c d : ConfigState) (entries : List DeskEntry) → d.seat.sizes ≡ c.seat.sizes → own_entries 0 d.seat.seen ≡ own_entries 0 c.seat.seen
    → d.part ≡ c.part → IsRecord (record_state c entries) → IsRecord (record_state d entries)
heard_record c d entries sizes own part h =
    let o = h.orders in
    let all : IsOfOrders (first_writer h.pool_words c.seat.sizes.passes) h.given (record_state d entries) =
    record { fits = o.fits; entries = o.entries; own = own ∙ o.own; part = part ∙ o.part } in
    let P : ℕ → Type 0 = λ n. IsOfOrders (first_writer h.pool_words n) h.given (record_state d entries) in record {
      pool_words = h.pool_words;
      wide = ap (λ (z : Sizes). z.words) sizes ∙ h.wide;
      given = h.given;
      orders = subst P (ap (λ (z : Sizes). z.passes) (sym sizes)) all;
    }

pub heard_later : (c d : ConfigState) (entries : List DeskEntry) → d.seat.cabinet ≡ c.seat.cabinet → d.seat.sizes ≡ c.seat.sizes → d.seat.out ≡ c.seat.out
    → KeepsHome c.seat.out c.seat.seen d.seat.seen → Wrote WriterHand c.seat.sizes c.seat.seen [] d.seat.seen → d.part ≡ c.part
    → IsLater (record_state c entries) (record_state d entries)
heard_later c d entries cabinet sizes out home wrote part = record {
  given = [];
  grew = record {
    cabinet = cabinet;
    sizes = sizes;
    out = out;
    home = home;
    seen = wrote.begins;
    fits = tt;
    entries = sym (append-nil entries);
    own = wrote.events;
    part = part;
  };
}
