use Rattle.epoch_rule.proofs.Common.{arith, List, ◌≡◌, ℕ, ◌+◌, ◌<◌, [], ◌∷◌, length, None, sym, refl, ap, ◌∙◌, subst, rest, HistoryEntry, Nothing}
use Rattle.epoch_rule.proofs.Common.{PassState, idle, pass_after, pass_id, Sizes, generations_published, generation_published, ComesNext, IsLegal, pass_seen}
use Rattle.epoch_rule.proofs.Common.{PlacesFit, IsCopy, Some, Look, Announce, Enter, entries_of_enter, published_longer, arc_value, value_in, get_or, Pass}
use Rattle.epoch_rule.proofs.Common.{Wrote}
use Rattle.epoch_rule.proofs.ActorSteps.{look, announce, enter}
use Rattle.epoch_rule.proofs.PassLaws.{pass_added, entered_counts, stands_out, stands_in, three, suits_on, near_in}
use Rattle.epoch_rule.proofs.cabinet.Cabinet.enter.Given.{Over}
use Rattle.epoch_rule.proofs.cabinet.Cabinet.enter.Goals.{After-load-looked, After-load-number, After-store, Joined-pass-exchange}
use Rattle.epoch_rule.proofs.cabinet.Cabinet.enter.Goals as goal
use Rattle.epoch_rule.specs.Layout.{slot_of}

pub load-looked-requires : goal.load-looked-requires
load-looked-requires g c =
    let a = c.self.invariant.suits.0 in
    let inv = c.pass.invariant in
    let t = ap (λ v. v.cabinet) c.pass.view_is ∙ (c.requires.own ∙ sym (ap (λ w. w.id) c.self.view_is)) in
    let out = stands_out g.E.Edition.counted g.E.Edition.forest g.E.Edition.places c.pass.inside.id.0 c.pass.inside.seat.me c.pass.inside.edition
    (ap (λ v. v.edition) c.pass.view_is ∙ c.requires.out) inv.3 in (
      t,
      omega arith,
      look (IsCopy g.E.Edition.counted g.E.Edition.forest g.E.Edition.places) _ _ _ _ c.pass.inside.id.0
          (near_in _ _ _ _ _ t inv.2 c.self.invariant.suits inv.1) inv.0 (ap (λ (h : PassState). h.announced) out.0),
    )

-- the pass before the call: its table, its number among the cabinet's, and that it stands out
table : (g : Over) (c : After-load-looked g) → c.pass.inside.seat.table_id ≡ c.self.inside.table.shared.table_id
table g c = ap (λ v. v.cabinet) c.pass.view_is ∙ (c.requires.own ∙ sym (ap (λ w. w.id) c.self.view_is))

near : (g : Over) (c : After-load-looked g) → c.pass.inside.id.0 < c.self.inside.table.shared.key.passes
near g c = near_in _ _ _ _ _ (table g c) c.pass.invariant.2 c.self.invariant.suits c.pass.invariant.1

out : (g : Over) (c : After-load-looked g) → (pass_seen c.pass.inside.id.0 c.pass.inside.seat.me.0 ≡ idle) × (c.pass.inside.seat.me.1 ≡ [])
out g c = stands_out g.E.Edition.counted g.E.Edition.forest g.E.Edition.places c.pass.inside.id.0 c.pass.inside.seat.me c.pass.inside.edition
    (ap (λ v. v.edition) c.pass.view_is ∙ c.requires.out) c.pass.invariant.3

-- the three entries that it makes
looked : (g : Over) (c : After-load-looked g) → ComesNext (c.pass.inside.id.0 + 1) c.pass.inside.seat.me.0 (Look (pass_id c.pass.inside.id.0)) Nothing
    c.load-looked.result c.load-looked.new.seat.me.0
looked g c = c.load-looked.ensures.2.2 c.pass.inside.id.0 c.pass.invariant.0

after_look : (g : Over) (c : After-load-looked g) → pass_seen c.pass.inside.id.0 c.load-looked.new.seat.me.0
    ≡ pass_after idle (Look (pass_id c.pass.inside.id.0)) c.load-looked.result
after_look g c = pass_added _ _ _ _ _ _ refl (looked g c)
    ∙ ap (λ (h : PassState). pass_after h (Look (pass_id c.pass.inside.id.0)) c.load-looked.result) (out g c).0

told : (g : Over) (c : After-store g) → ComesNext (c.pass.inside.id.0 + 1) c.load-looked.new.seat.me.0 (Announce (pass_id c.pass.inside.id.0)) Nothing 0
    c.store.new.seat.me.0
told g c = c.store.ensures.2.1 _ ((c.load-looked.ensures.2.2 _ c.pass.invariant.0).role ∙ c.pass.invariant.0)

pub store-requires : goal.store-requires
store-requires g c =
    let at = (goal.at.store-requires g c).After-load-looked in
    let a = c.self.invariant.suits.0 in
    let l : c.pass.inside.id.0 < c.self.inside.table.shared.key.passes = near g at in
    rw c.number-who.ensures.value (
      c.load-looked.ensures.0 ∙ table g at,
      omega arith,
      announce (IsCopy g.E.Edition.counted g.E.Edition.forest g.E.Edition.places) _ _ _ _ c.pass.inside.id.0 c.load-looked.result l
          ((looked g at).role ∙ c.pass.invariant.0) (ap (λ (h : PassState). h.looked) (after_look g at))
          (ap (λ (h : PassState). h.announced) (after_look g at)),
    )

pub load-number-requires : goal.load-number-requires
load-number-requires g c =
    let at = goal.at.load-number-requires g c in
    let a = c.self.invariant.suits.0 in
    let second = told g at.After-store in
    let hand = pass_added _ _ _ _ _ _ refl second
    ∙ ap (λ (h : PassState). pass_after h (Announce (pass_id c.pass.inside.id.0)) 0) (after_look g at.After-load-looked) in (
      c.store.ensures.0 ∙ (c.load-looked.ensures.0 ∙ table g at.After-load-looked),
      omega arith,
      enter (IsCopy g.E.Edition.counted g.E.Edition.forest g.E.Edition.places) _ _ _ _ c.pass.inside.id.0 c.load-looked.result
          (near g at.After-load-looked) (second.role ∙ ((looked g at.After-load-looked).role ∙ c.pass.invariant.0))
          (ap (λ (h : PassState). h.announced) hand) (ap (λ (h : PassState). h.entered) hand),
    )

role : (g : Over) (c : After-load-number g) → c.store.new.seat.me.0.role ≡ Some (c.pass.inside.id.0 + 1)
role g c =
    let first = c.load-looked.ensures.2.2 _ c.pass.invariant.0 in
    (c.store.ensures.2.1 _ (first.role ∙ c.pass.invariant.0)).role ∙ (first.role ∙ c.pass.invariant.0)

pub exchange-requires : goal.exchange-requires
exchange-requires g c =
    let at = goal.at.exchange-requires g c in
    let p : ℕ = c.pass.inside.id.0 in
    let took = (c.load-number.ensures.2 p (role g at.After-load-number)).1 in
    rw c.number-who.ensures.value (
      c.load-number.ensures.0 ∙ (c.store.ensures.0 ∙ (c.load-looked.ensures.0 ∙ table g at.After-load-looked)),
      (took.0, took.1 ∙ ap (λ l. (slot_of p c.load-number.result, took.0) ∷ rest l) (sym took.1)),
    )

came : (g : Over) (c : Joined-pass-exchange g) → ComesNext (c.pass.inside.id.0 + 1) c.store.new.seat.me.0 (Enter (pass_id c.pass.inside.id.0)) Nothing
    c.load-number.result c.load-number.new.seat.me.0
came g c = (c.load-number.ensures.2 _ (role g (goal.at.returns-clause-current g c).After-load-number)).0

-- what the exchange leaves
seen : (g : Over) (c : Joined-pass-exchange g) → c.exchange.new.seat.me.0.seen ≡ c.load-number.new.seat.me.0.seen
seen g c = ap (λ m. m.0.seen) c.exchange.ensures.3

sizes : (g : Over) (c : Joined-pass-exchange g) → c.exchange.new.seat.me.0.sizes ≡ c.store.new.seat.me.0.sizes
sizes g c = ap (λ m. m.0.sizes) c.exchange.ensures.3 ∙ (came g c).sizes

copy : (g : Over) (c : Joined-pass-exchange g) → IsCopy g.E.Edition.counted g.E.Edition.forest g.E.Edition.places c.load-number.result
    (generation_published c.exchange.new.seat.me.0.seen c.load-number.result) c.exchange.result
copy g c =
    let took = (c.load-number.ensures.2 c.pass.inside.id.0 (role g (goal.at.returns-clause-current g c).After-load-number)).1 in
    let same : c.exchange.result ≡ took.0 = ap (λ (l : List (ℕ × _)). (get_or l 0 (0, took.0)).1) (sym c.exchange.ensures.2 ∙ took.1) in
    (took.2.0, same ∙ took.2.1, took.2.2, took.2.3 ∙ (λ i. generation_published (sym (seen g c) i) c.load-number.result))

counts : (g : Over) (c : Joined-pass-exchange g) → length (generations_published c.exchange.new.seat.me.0.seen) ≡ c.load-number.result + 1
counts g c = ap (λ l. length (generations_published l)) (seen g c) ∙ entered_counts c.pass.inside.id.0 _ c.load-number.result _ (came g c)

whole : (g : Over) (c : Joined-pass-exchange g) → c.exchange.new.seat.me.0.sizes ≡ c.pass.inside.seat.me.0.sizes
whole g c =
    let at = goal.at.returns-clause-current g c in
    sizes g c ∙ ((told g at.After-store).sizes ∙ (looked g at.After-load-looked).sizes)

-- all three together
all : (g : Over) (c : Joined-pass-exchange g) → Wrote (Pass (pass_id c.pass.inside.id.0)) c.pass.inside.seat.me.0.sizes c.pass.inside.seat.me.0.seen
    (entries_of_enter (pass_id c.pass.inside.id.0) c.load-looked.result c.load-number.result) c.exchange.new.seat.me.0.seen
all g c =
    let at = goal.at.returns-clause-current g c in
    subst (Wrote (Pass (pass_id c.pass.inside.id.0)) c.pass.inside.seat.me.0.sizes c.pass.inside.seat.me.0.seen _) (sym (seen g c))
    (three _ _ _ _ _ _ _ _ _ _ _ _ refl refl refl (looked g at.After-load-looked) (told g at.After-store) (came g c))

pub invariant_of-pass : goal.invariant_of-pass
invariant_of-pass g c =
    let at = goal.at.invariant_of-pass g c in
    let inv = c.pass.invariant in
    let p : ℕ = c.pass.inside.id.0 in
    let now = c.exchange.ensures in
    let r : ℕ = c.load-number.result in
    let both = c.load-number.ensures.2 p (role g at.After-load-number) in
    let bare : rest c.load-number.new.seat.me.1 ≡ [] =
    ap rest both.1.1 ∙ (c.store.ensures.2.0 ∙ (c.load-looked.ensures.2.0 ∙ (out g at.After-load-looked).1)) in
    let low = counts g c in (
      ap (λ m. m.0.role) now.3 ∙ (both.0.role ∙ role g at.After-load-number),
      subst (λ (y : Sizes). p < y.passes) (sym (whole g c)) inv.1,
      suits_on _ _ _ _ (sym (now.0 ∙ (c.load-number.ensures.0 ∙ (c.store.ensures.0 ∙ c.load-looked.ensures.0)))) (sym (whole g c)) inv.2,
      stands_in g.E.Edition.counted g.E.Edition.forest g.E.Edition.places p r c.exchange.new.seat.me c.exchange.result
          (ap (λ m. (pass_seen p m.0).entered) now.3 ∙ ap (λ (h : PassState). h.entered) (pass_added p _ _ _ _ _ refl both.0))
          (ap (λ m. m.1) now.3 ∙ (λ i. (slot_of (c.number-who.ensures.value i) r, None) ∷ bare i)) (omega arith) (copy g c)
          (subst (λ (y : Sizes × List HistoryEntry). PlacesFit y.0.words (generation_published y.1 r)) (λ i. (sym (sizes g c) i, sym (seen g c) i)) both.2),
      subst (λ (y : Sizes). IsLegal y c.exchange.new.seat.me.0.seen) (sym (whole g c)) (all g c).lawful,
    )

pub returns-clause-current : goal.returns-clause-current
returns-clause-current g c = let low = counts g c in omega arith

pub returns-clause-edition : goal.returns-clause-edition
returns-clause-edition g c = let k = copy g c in (arc_value k.0, ap value_in k.1, k.2, k.3)

pub returns-clause-events : goal.returns-clause-events
returns-clause-events g c = (
  c.load-looked.result,
  rw (sym c.pass.view_is) record {
    cabinet = c.exchange.ensures.0 ∙ (c.load-number.ensures.0 ∙ (c.store.ensures.0 ∙ c.load-looked.ensures.0));
    number = refl;
    sizes = whole g c;
    wrote = all g c;
  },
)

pub returns-clause-newest : goal.returns-clause-newest
returns-clause-newest g c =
    let low = counts g c in
    let longer = published_longer c.pass.inside.seat.me.0.seen c.exchange.new.seat.me.0.seen (all g c).begins in
    rw (sym c.pass.view_is) (omega arith)
