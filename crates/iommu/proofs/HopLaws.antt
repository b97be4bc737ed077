-- One hop: how far none or one translation is used, and what that makes of the route.
use Rattle.std.proofs.Common.{◌≡◌, ℕ, suc, ◌+◌, ◌-◌, ◌^◌, ◌<◌, ◌≤◌, min, Bool, true, false, eqb, cond, List, Option, Some, None, sym, refl}
use Rattle.std.proofs.Common.{ap, ◌∙◌, subst, arith}
use Rattle.std.specs.Prelude.{bit_and}
use Rattle.std.proofs.lemmas.Bool.{false≢true}
use Rattle.std.proofs.lemmas.Bool.Decides.{nat_tests}
use Rattle.std.proofs.lemmas.Nat.{or_lt, and_le_r}
use Rattle.mem_base.specs.declared.map.ids.SpaceId.{SpaceId}
use Rattle.mem_base.specs.declared.map.forests.Forest.{Forest}
use Rattle.mem_base.specs.declared.map.spots.Spot.{Spot}
use Rattle.mem_base.specs.declared.map.translations.Entry.{Entry}
use Rattle.mem_base.specs.declared.access.accesses.Target.TheVariants.{Leaf, Unassigned}
use Rattle.mem_base.specs.map.Entries.{AreEntries}
use Rattle.mem_base.specs.map.Search.{found_at, look}
use Rattle.mem_base.specs.access.Translations.{translation_at, permits, if_permitted, without_mask, translated_address, translates, entries_of}
use Rattle.mem_base.specs.access.Trails.{is_same_entry}
use Rattle.iommu.specs.Pages.{ArePages, next_ahead}
use Rattle.iommu.specs.Ways.{IsStretch, way_within}
use Rattle.iommu.specs.Hops.{IsShutFor, IsOpenFor, IsThrough, way_of, Narrows}
use Rattle.iommu.specs.declared.hops.Hop.{Hop}
use Rattle.iommu.specs.declared.hops.Hop.TheVariants.{End, On}
use Rattle.iommu.proofs.PageLaws.{IsPage, are_pages, covered, goes_on}
use Rattle.iommu.proofs.TableLaws.{shut_until, found_has, found_within, found_past}
use Rattle.iommu.proofs.WayLaws.{way_shut, way_open}

same_of : (u : Option Entry) (e : Entry) → u ≡ Some e → is_same_entry None u ≡ false
same_of u e h = ap (is_same_entry None) h

pub shut_none : (es : List Entry) (w : Bool) (o run : ℕ) → AreEntries es → ArePages es → 0 < run → if_permitted w (translation_at es o) ≡ None
    → next_ahead w o es ≡ None → IsShutFor es w o run run
shut_none es w o run h p l t n =
    let k = shut_until w es o h (are_pages es p) t in
    record { some = l; within = omega arith; shut = λ i u. k.none n (o + i) (omega arith); apart = λ u. absurd (omega arith) }

pub shut_some : (es : List Entry) (w : Bool) (o run m : ℕ) (e : Entry) → AreEntries es → ArePages es → 0 < run
    → if_permitted w (translation_at es o) ≡ None → next_ahead w o es ≡ Some e → m ≡ min run (e.iova - o) → IsShutFor es w o run m
shut_some es w o run m e h p l t n is =
    let k = shut_until w es o h (are_pages es p) t in
    let ahead = (k.then_used e n).0 in
    record {
      some = omega arith;
      within = omega arith;
      shut = λ i u. k.until e n (o + i) (omega arith) (omega arith);
      apart = λ u. let at : o + m ≡ e.iova = omega arith in same_of _ e (ap (λ (x : ℕ). if_permitted w (translation_at es x)) at ∙ (k.then_used e n).1);
    }

-- what is used covers the offset
pub record IsUsed (es : List Entry) (w : Bool) (o : ℕ) (e : Entry) : Type 0 where
  pub found : translation_at es o ≡ Some e
  pub lets : if_permitted w (Some e) ≡ Some e
  pub page : IsPage e
  pub low : e.iova ≤ o
  pub high : o ≤ e.iova + e.mask

pub no_some : (x : Entry) → None ≡ Some x → ⊥
no_some x t = cc

pub is_used : (es : List Entry) (w : Bool) (o : ℕ) (e : Entry) → ArePages es → if_permitted w (translation_at es o) ≡ Some e → IsUsed es w o e
is_used es w o e p t = by (translation_at es o) refl t
  where
    lets : (x : Entry) (b : Bool) → cond b (Some x) None ≡ Some e → (x ≡ e) × (b ≡ true)
    lets x true u = (cc, refl)
    lets x false u = absurd (no_some e u)

    by : (u : Option Entry) → translation_at es o ≡ u → if_permitted w u ≡ Some e → IsUsed es w o e
    by None f u = absurd (no_some e u)
    by (Some x) f u =
        let k = lets x (permits w x.perm) u in
        let found : translation_at es o ≡ Some e = f ∙ ap (λ (y : Entry). let r : Option Entry = Some y in r) k.0 in
        let has = found_has IsPage o es e (are_pages es p) found in
        let c = covered e has.0 o has.1 in
        record {
          found = found;
          lets = subst (λ (y : Entry). if_permitted w (Some y) ≡ Some y) k.0 (u ∙ ap (λ (y : Entry). let r : Option Entry = Some y in r) (sym k.0));
          page = has.0;
          low = c.0;
          high = c.1;
        }

-- the address at the page's last offset is one of 64 bits
address_fits : (e : Entry) (o : ℕ) → e.translated < 2 ^ 64 → e.mask < 2 ^ 64 → translated_address e o < 2 ^ 64
address_fits e o l m = let a = and_le_r o e.mask in or_lt 64 (without_mask e.mask e.translated) (bit_and o e.mask) (omega arith) (omega arith)

apart_if : (w : Bool) (e : Entry) (u : Option Entry) → ((y : Entry) → u ≡ Some y → e.iova < y.iova) → is_same_entry (Some e) (if_permitted w u) ≡ false
apart_if w e None h = refl
apart_if w e (Some y) h = by (permits w y.perm)
  where
    by : (b : Bool) → is_same_entry (Some e) (cond b (Some y) None) ≡ false
    by true = let l = h y refl in let no_one : eqb e.iova y.iova ≡ false = grind (arith, nat_tests) in no_one
    by false = refl

pub open_for : (es : List Entry) (w : Bool) (o run b n : ℕ) (e : Entry) → AreEntries es → ArePages es → 0 < run
    → if_permitted w (translation_at es o) ≡ Some e → e.translated < 2 ^ 64 → e.mask < 2 ^ 64 → b ≡ translated_address e o
    → n ≡ min (run - 1) (e.mask - (o - e.iova)) + 1 → IsOpenFor es w o run e b n
open_for es w o run b n e h p l t tr ma bis nis =
    let u = is_used es w o e p t in
    let low = u.low in
    let high = u.high in
    let base = goes_on e u.page o low high in
    record {
      some = omega arith;
      within = omega arith;
      uses = λ i k. ap (if_permitted w) (found_within es o (o + i) e h (are_pages es p) u.found (omega arith) (omega arith)) ∙ u.lets;
      apart =
          λ k. apart_if w e (translation_at es (o + n)) (λ y v. let x = found_past es o (o + n) e y h (are_pages es p) u.found (omega arith) v in
          omega arith);
      goes = λ i k. let x = goes_on e u.page (o + i) (omega arith) (omega arith) in omega arith;
      ends =
          let end = goes_on e u.page (o + (n - 1)) (omega arith) (omega arith) in
          let fits = address_fits e (o + (n - 1)) tr ma in
          omega arith;
    }

-- the hop through the table of an IOMMU region makes the route
pub through_way : (f : Forest) (w : Bool) (s : SpaceId) (a m' n : ℕ) (x : Spot) (es : List Entry) (h : Hop) → IsStretch (found_at f s) a m' n
    → look f s a ≡ Some x → translates f x.leaf ≡ true → es ≡ entries_of f x.leaf → IsThrough es w x.offset m' h
    → (left : ℕ) → way_within f w (suc left) s a n ≡ way_of f w left h
through_way f w s a m' n x es (End Unassigned m) st e t g h left =
    way_shut f w left s a m m' n x st e t h.some h.within
    (λ i l. ap (λ (ys : List Entry). if_permitted w (translation_at ys (x.offset + i))) (sym g) ∙ h.shut i l)
    (λ l. ap (λ (ys : List Entry). is_same_entry None (if_permitted w (translation_at ys (x.offset + m)))) (sym g) ∙ h.apart l)
through_way f w s a m' n x es (End (Leaf spot) m) st e t g h left = absurd h
through_way f w s a m' n x es (On q b m) st e t g h left =
    way_open f w left s a m m' n b x q st e t h.some h.within
    (λ i l. ap (λ (ys : List Entry). if_permitted w (translation_at ys (x.offset + i))) (sym g) ∙ h.uses i l)
    (λ l. ap (λ (ys : List Entry). is_same_entry (Some q) (if_permitted w (translation_at ys (x.offset + m)))) (sym g) ∙ h.apart l)
    h.goes

pub through_narrows : (es : List Entry) (w : Bool) (o run len : ℕ) (h : Hop) → run ≤ len → IsThrough es w o run h → Narrows len h
through_narrows es w o run len (End Unassigned m) l h = let a = h.some in let b = h.within in (a, omega arith, tt)
through_narrows es w o run len (End (Leaf spot) m) l h = absurd h
through_narrows es w o run len (On q b m) l h = let a = h.some in let c = h.within in let d = h.ends in (a, omega arith, d)

-- a region that is found to have a table translates
pub translates_there : (b : Bool) → (b ≡ false → true ≡ false) → b ≡ true
translates_there true h = refl
translates_there false h = absurd (false≢true (sym (h refl)))
