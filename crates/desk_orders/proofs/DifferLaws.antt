-- Where a list and the entries with a number differ.
use Rattle.std.proofs.Common.{◌≡◌, ◌≢◌, ℕ, zero, suc, ◌+◌, ◌<◌, ◌≤◌, eqb, cond, Bool, true, false, List, [], ◌∷◌, ◌++◌, length, take, drop, get_or}
use Rattle.std.proofs.Common.{Some, None, Option, refl, sym, ap, subst, ◌∙◌, arith, inl, inr}
use Rattle.std.specs.Prelude.{if◌then◌else◌, slice_get, MatchBool, not, option_map}
use Rattle.std.specs.List.{list_any}
use Rattle.std.proofs.lemmas.List.{take-append-drop, take-append-le, take_all, take_more, drop_more, get_or_at, length-append, length-take-le, get_or_default}
use Rattle.std.proofs.lemmas.Option.{slice_get-get_or, slice_get_past, slice_get_within, get_or_from_slice_get}
use Rattle.mem_base.specs.declared.machine.records.DeskEntry.{DeskEntry}
use Rattle.mem_base.specs.declared.machine.records.Differs.{Differs}
use Rattle.mem_base.specs.lists.Every.{Every}
use Rattle.mem_base.specs.machine.Records.{Clerk, DifferAt, HasDiffering, IsOfRecord, entries_by, first_stray}
use Rattle.view_laws.proofs.Tests.{none_is_not_some}
use Rattle.desk_orders.specs.Differing.{IsNext}

by_append : (who : ℕ) (xs ys : List DeskEntry) → entries_by who (xs ++ ys) ≡ entries_by who xs ++ entries_by who ys
by_append who [] ys = refl
by_append who (x ∷ xs) ys = go (eqb x.who who) (by_append who xs ys)
  where
    go : (b : Bool) → entries_by who (xs ++ ys) ≡ entries_by who xs ++ entries_by who ys
        → (if b then x ∷ entries_by who (xs ++ ys) else entries_by who (xs ++ ys))
        ≡ (if b then x ∷ entries_by who xs else entries_by who xs) ++ entries_by who ys
    go true h = ap (λ (l : List DeskEntry). x ∷ l) h
    go false h = h

append_none : (xs : List DeskEntry) → xs ++ [] ≡ xs
append_none [] = refl
append_none (x ∷ xs) = ap (λ (l : List DeskEntry). x ∷ l) (append_none xs)

-- one entry more, of another number
by_other : (who : ℕ) (entries : List DeskEntry) (i : ℕ) (e : DeskEntry) → i < length entries → e ≡ get_or entries i e → eqb e.who who ≡ false
    → entries_by who (take (i + 1) entries) ≡ entries_by who (take i entries)
by_other who entries i e room at other =
    ap (entries_by who) (take_more entries i e room) ∙ ap (λ (x : DeskEntry). entries_by who (take i entries ++ x ∷ [])) (sym at)
    ∙ by_append who (take i entries) (e ∷ [])
    ∙ rw other (append_none (entries_by who (take i entries)))

-- and of this number
by_same : (who : ℕ) (mine entries : List DeskEntry) (at i : ℕ) (m e : DeskEntry) → i < length entries → e ≡ get_or entries i e → eqb e.who who ≡ true
    → at < length mine → m ≡ get_or mine at m → m ≡ e → take at mine ≡ entries_by who (take i entries)
    → take (at + 1) mine ≡ entries_by who (take (i + 1) entries)
by_same who mine entries at i m e room is own inside found same before =
    take_more mine at m inside ∙ ap (λ (x : DeskEntry). take at mine ++ x ∷ []) (sym found ∙ same) ∙ ap (λ (l : List DeskEntry). l ++ e ∷ []) before
    ∙ sym (ap (entries_by who) (take_more entries i e room) ∙ ap (λ (x : DeskEntry). entries_by who (take i entries ++ x ∷ [])) (sym is)
    ∙ by_append who (take i entries) (e ∷ []) ∙ rw own refl)

-- all entries with the number, where those before this one are known
by_rest : (who : ℕ) (entries : List DeskEntry) (i : ℕ) (e : DeskEntry) → i < length entries → e ≡ get_or entries i e → eqb e.who who ≡ true
    → entries_by who entries ≡ entries_by who (take i entries) ++ e ∷ entries_by who (drop (i + 1) entries)
by_rest who entries i e room at own =
    ap (entries_by who) (sym (take-append-drop i entries)
    ∙ ap (λ (l : List DeskEntry). take i entries ++ l) (drop_more entries i e room ∙ ap (λ (x : DeskEntry). x ∷ drop (i + 1) entries) (sym at)))
    ∙ by_append who (take i entries) (e ∷ drop (i + 1) entries) ∙ ap (λ (l : List DeskEntry). entries_by who (take i entries) ++ l) (rw own refl)

pub differs_here : (who : ℕ) (mine entries : List DeskEntry) (at i : ℕ) (e : DeskEntry) → at ≤ length mine → take at mine ≡ entries_by who (take i entries)
    → i < length entries → e ≡ get_or entries i e → eqb e.who who ≡ true → slice_get mine at ≢ Some e → DifferAt at mine (entries_by who entries)
differs_here who mine entries at i e short before room is own other =
    let rest : List DeskEntry = entries_by who (drop (i + 1) entries) in
    let all : entries_by who entries ≡ take at mine ++ e ∷ rest =
    by_rest who entries i e room is own ∙ ap (λ (l : List DeskEntry). l ++ e ∷ rest) (sym before) in
    let long : length (take at mine) ≡ at = length-take-le at mine short in
    let found : get_or (take at mine ++ e ∷ rest) at e ≡ e = get_or_at (take at mine) e rest e at long in
    let inside : at < length (take at mine ++ e ∷ rest) = let z = length-append (take at mine) (e ∷ rest) in omega arith in (
      sym (ap (take at) all ∙ take-append-le at (take at mine) (e ∷ rest) (omega arith) ∙ take_all at (take at mine) (omega arith)),
      λ same. other (same ∙ ap (λ (l : List DeskEntry). slice_get l at) all ∙ slice_get-get_or (take at mine ++ e ∷ rest) at e inside
          ∙ ap (λ (x : DeskEntry). Some x) found),
    )

pub differs_after : (who : ℕ) (mine entries : List DeskEntry) (at : ℕ) → at < length mine → take at mine ≡ entries_by who entries
    → DifferAt at mine (entries_by who entries)
differs_after who mine entries at inside before =
    let long : length (take at mine) ≡ at = length-take-le at mine (omega arith) in
    let whole : length (entries_by who entries) ≡ at = ap length (sym before) ∙ long in (
      sym (ap (take at) (sym before) ∙ take_all at (take at mine) (omega arith)),
      λ same. go mine inside (same ∙ slice_get_past (entries_by who entries) at (omega arith)),
    )
  where
    go : (xs : List DeskEntry) → at < length xs → slice_get xs at ≡ None → ⊥
    go [] room none = absurd (omega arith)
    go (x ∷ xs) room none = none_is_not_some (get_or (x ∷ xs) at x) (sym none ∙ slice_get-get_or (x ∷ xs) at x room)

-- the first entries of a list are those with the number among the first entries
abbrev KeptTo : ℕ → List DeskEntry → List DeskEntry → ℕ → ℕ → Type 0
KeptTo who mine entries i n = (n ≤ length mine) × (take n mine ≡ entries_by who (take (i + 1) entries))

-- the list goes on
pub goes_on : (who : ℕ) (mine entries : List DeskEntry) (at i next : ℕ) (e : DeskEntry) → at ≤ length mine → take at mine ≡ entries_by who (take i entries)
    → i < length entries → e ≡ get_or entries i e → IsNext mine at who e next → (next ≤ length mine) × (take next mine ≡ entries_by who (take (i + 1) entries))
goes_on who mine entries at i next e short before room is step = go (eqb e.who who) refl step
  where
    go : (b : Bool) → eqb e.who who ≡ b → MatchBool b ((slice_get mine at ≡ Some e) × (next ≡ at + 1)) (next ≡ at) → KeptTo who mine entries i next
    go true own h =
        let inside : at < length mine = slice_get_within mine at e h.0 in
        let found : get_or mine at e ≡ e = get_or_from_slice_get mine at e e h.0 in
        subst (KeptTo who mine entries i) (sym h.1) (omega arith, by_same who mine entries at i e e room is own inside (sym found) refl before)
    go false own h = subst (KeptTo who mine entries i) (sym h) (short, before ∙ sym (by_other who entries i e room is own))

pub differs_last : (who : ℕ) (mine entries : List DeskEntry) (at i : ℕ) → at < length mine → length entries ≤ i → take at mine ≡ entries_by who (take i entries)
    → DifferAt at mine (entries_by who entries)
differs_last who mine entries at i inside all before = differs_after who mine entries at inside (before ∙ ap (entries_by who) (take_all i entries all))

-- the first clerk whose list is other
differing_at : (entries : List DeskEntry) (all front : List Clerk) (c : Clerk) (back : List Clerk) (d : Differs) → Every (IsOfRecord entries) front
    → (d.who ≡ c.who) × DifferAt d.at c.got (entries_by c.who entries) → HasDiffering entries all (front ++ c ∷ back) d
differing_at entries all [] c back d same h = inr h
differing_at entries all (x ∷ front) c back d same h = inl (same.0, differing_at entries all front c back d same.1 h)

pub differing_in : (entries : List DeskEntry) (all clerks : List Clerk) (i : ℕ) (x : Clerk) (d : Differs) → i < length clerks
    → Every (IsOfRecord entries) (take i clerks) → d.who ≡ (get_or clerks i x).who
    → DifferAt d.at (get_or clerks i x).got (entries_by (get_or clerks i x).who entries) → HasDiffering entries all clerks d
differing_in entries all clerks i x d room same who differ =
    let c : Clerk = get_or clerks i x in
    let is : c ≡ get_or clerks i c = get_or_default clerks i x c room in
    let whole : take i clerks ++ c ∷ drop (i + 1) clerks ≡ clerks =
    ap (λ (l : List Clerk). take i clerks ++ l) (ap (λ (y : Clerk). y ∷ drop (i + 1) clerks) is ∙ sym (drop_more clerks i c room))
    ∙ take-append-drop i clerks in
    let P : List Clerk → Type 0 = λ cs. HasDiffering entries all cs d in
    subst P whole (differing_at entries all (take i clerks) c (drop (i + 1) clerks) d same (who, differ))

-- the same, by what was read of the clerk
pub differing_read : (entries : List DeskEntry) (all clerks : List Clerk) (i : ℕ) (c : Clerk) (who at : ℕ) (got : List DeskEntry) → i < length clerks
    → c ≡ get_or clerks i c → who ≡ c.who → got ≡ c.got → Every (IsOfRecord entries) (take i clerks) → DifferAt at got (entries_by who entries)
    → HasDiffering entries all clerks (record { who = who; at = at })
differing_read entries all clerks i c who at got room is who_is got_is same differ =
    let P : List DeskEntry × ℕ → Type 0 = λ z. DifferAt at z.0 (entries_by z.1 entries) in
    let one : DifferAt at c.got (entries_by c.who entries) = subst P (λ j. (got_is j, who_is j)) differ in
    let Q : Clerk → Type 0 = λ y. (who ≡ y.who) × DifferAt at y.got (entries_by y.who entries) in
    let two : (who ≡ (get_or clerks i c).who) × DifferAt at (get_or clerks i c).got (entries_by (get_or clerks i c).who entries) =
    subst Q is (who_is, one) in
    differing_in entries all clerks i c (record { who = who; at = at }) room same two.0 two.1

-- one clerk more whose list is the record's
every_end : (entries : List DeskEntry) (cs : List Clerk) (c : Clerk) → Every (IsOfRecord entries) cs → IsOfRecord entries c
    → Every (IsOfRecord entries) (cs ++ c ∷ [])
every_end entries [] c h k = (k, tt)
every_end entries (x ∷ cs) c h k = (h.0, every_end entries cs c h.1 k)

pub agrees_more : (entries : List DeskEntry) (clerks : List Clerk) (i : ℕ) (x : Clerk) → i < length clerks → Every (IsOfRecord entries) (take i clerks)
    → IsOfRecord entries (get_or clerks i x) → Every (IsOfRecord entries) (take (i + 1) clerks)
agrees_more entries clerks i x room same one =
    let c : Clerk = get_or clerks i x in
    let is : c ≡ get_or clerks i c = get_or_default clerks i x c room in
    let more : take (i + 1) clerks ≡ take i clerks ++ c ∷ [] = take_more clerks i c room ∙ ap (λ (y : Clerk). take i clerks ++ y ∷ []) (sym is) in
    let P : List Clerk → Type 0 = Every (IsOfRecord entries) in
    subst P (sym more) (every_end entries (take i clerks) c same one)

pub agrees_all : (entries : List DeskEntry) (clerks : List Clerk) (i : ℕ) → length clerks ≤ i → Every (IsOfRecord entries) (take i clerks)
    → Every (IsOfRecord entries) clerks
agrees_all entries clerks i past same = let P : List Clerk → Type 0 = Every (IsOfRecord entries) in subst P (take_all i clerks past) same

-- the number of the first entry that is no clerk's, among those from a place on

abbrev pub stray_from : List Clerk → List DeskEntry → ℕ → Option ℕ
stray_from clerks entries i = option_map (λ e. e.who) (first_stray clerks (drop i entries))

stray_next : (clerks : List Clerk) (e : DeskEntry) (es : List DeskEntry) → list_any (λ c. eqb c.who e.who) clerks ≡ true
    → first_stray clerks (e ∷ es) ≡ first_stray clerks es
stray_next clerks e es h = ap (λ (b : Bool). cond (not b) (Some e) (first_stray clerks es)) h

stray_here : (clerks : List Clerk) (e : DeskEntry) (es : List DeskEntry) → list_any (λ c. eqb c.who e.who) clerks ≡ false
    → first_stray clerks (e ∷ es) ≡ Some e
stray_here clerks e es h = ap (λ (b : Bool). cond (not b) (Some e) (first_stray clerks es)) h

pub stray_on : (clerks : List Clerk) (entries : List DeskEntry) (i : ℕ) (x : DeskEntry) → i < length entries
    → list_any (λ c. eqb c.who (get_or entries i x).who) clerks ≡ true → stray_from clerks entries i ≡ stray_from clerks entries (i + 1)
stray_on clerks entries i x room known =
    let e : DeskEntry = get_or entries i x in
    let is : e ≡ get_or entries i e = get_or_default entries i x e room in
    ap (λ (l : List DeskEntry). option_map (λ (y : DeskEntry). y.who) (first_stray clerks l)) (drop_more entries i e room
    ∙ ap (λ (y : DeskEntry). y ∷ drop (i + 1) entries) (sym is))
    ∙ ap (option_map (λ (y : DeskEntry). y.who)) (stray_next clerks e (drop (i + 1) entries) known)

pub stray_at : (clerks : List Clerk) (entries : List DeskEntry) (i : ℕ) (x : DeskEntry) → i < length entries
    → list_any (λ c. eqb c.who (get_or entries i x).who) clerks ≡ false → stray_from clerks entries i ≡ Some (get_or entries i x).who
stray_at clerks entries i x room stray =
    let e : DeskEntry = get_or entries i x in
    let is : e ≡ get_or entries i e = get_or_default entries i x e room in
    ap (λ (l : List DeskEntry). option_map (λ (y : DeskEntry). y.who) (first_stray clerks l)) (drop_more entries i e room
    ∙ ap (λ (y : DeskEntry). y ∷ drop (i + 1) entries) (sym is))
    ∙ ap (option_map (λ (y : DeskEntry). y.who)) (stray_here clerks e (drop (i + 1) entries) stray)

drop_past : (xs : List DeskEntry) (i : ℕ) → length xs ≤ i → drop i xs ≡ []
drop_past [] zero h = refl
drop_past [] (suc i) h = refl
drop_past (x ∷ xs) zero h = absurd (omega (arith, h))
drop_past (x ∷ xs) (suc i) h = drop_past xs i (omega (arith, h))

pub stray_none : (clerks : List Clerk) (entries : List DeskEntry) (i : ℕ) → length entries ≤ i → stray_from clerks entries i ≡ None
stray_none clerks entries i past = ap (λ (l : List DeskEntry). option_map (λ (y : DeskEntry). y.who) (first_stray clerks l)) (drop_past entries i past)

-- the first stray entry, where all clerks' lists are the record's
pub stray_differs : (entries : List DeskEntry) (all clerks : List Clerk) (who : ℕ) → Every (IsOfRecord entries) clerks
    → option_map (λ e. e.who) (first_stray all entries) ≡ Some who → HasDiffering entries all clerks (record { who = who; at = 0 })
stray_differs entries all [] who same h = (h, refl)
stray_differs entries all (c ∷ clerks) who same h = inl (same.0, stray_differs entries all clerks who same.1 h)

pub unmapped : (o : Option DeskEntry) → option_map (λ e. e.who) o ≡ None → o ≡ None
unmapped None h = refl
unmapped (Some e) h = none_is_not_some e.who (sym h)
