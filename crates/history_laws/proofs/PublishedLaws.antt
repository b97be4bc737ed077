-- The generations of every legal history carry the committed forests.
use Rattle.std.proofs.Common.{◌≡◌, ℕ, zero, suc, ◌+◌, ◌-◌, ◌<◌, ◌≤◌, Bool, true, false, List, [], ◌∷◌, ◌++◌, length, take, append_assoc}
use Rattle.std.proofs.Common.{sym, refl, ap, ◌∙◌, subst, arith, if◌then◌else◌, Some, None}
use Rattle.std.proofs.lemmas.List.{append-nil}
use Rattle.std.specs.Prelude.{slice_get, nat_le, Result}
use Rattle.std.proofs.lemmas.Bool.{leb-true, le-leb, eqb-true, and_parts, not-true}
use Rattle.mem_base.specs.declared.map.forests.Forest.{Forest}
use Rattle.mem_base.specs.declared.map.refusals.Refusal.{Refusal}
use Rattle.mem_base.specs.declared.map.calls.Config.{Config}
use Rattle.mem_base.specs.declared.access.cells.Cell.{Cell}
use Rattle.mem_base.specs.declared.access.cells.Place.{Place}
use Rattle.mem_base.specs.declared.machine.events.Reply.{Reply}
use Rattle.mem_base.specs.declared.machine.events.Event.{Event}
use Rattle.mem_base.specs.declared.machine.events.Event.TheVariants as events
use Rattle.mem_base.specs.map.Calls.{empty}
use Rattle.mem_base.specs.machine.Committed.{committed_from, committed_forests}
use Rattle.mem_base.specs.machine.Generations.{Generation, Generations, generation, generation_of}
use Rattle.mem_base.specs.machine.Desk.{Desk, is_all_filled}
use Rattle.mem_base.specs.machine.Reaps.{Writer}
use Rattle.mem_base.specs.machine.Configs.{configured}
use Rattle.mem_base.specs.machine.World.{World, possible, reply, after_telling, number_in, opening}
use Rattle.mem_base.specs.machine.History.{PureEntry, after_entry, after_entries, IsLegalFrom, IsLegal}
use Rattle.mem_base.specs.machine.JoinedHistory.{accepted, accepted_one}
use Rattle.history_laws.specs.Published.{CarriesForests, forest_at, forests_published, forest_due}
use Rattle.view_laws.proofs.Tests.{none_is_not_some}
use Rattle.view_laws.proofs.SortedLaws.{every_filter}
use Rattle.history_laws.proofs.Idles.{IsSoundDesk, opens_idle}
use Rattle.history_laws.proofs.Outcomes.{outcome, stands, due_forests, told_commits}
use Rattle.std.proofs.lemmas.Option.{same_Some}
use Rattle.mem_base.proofs.BoolLaws.{true_is_not_false}

-- lists read at a number

-- what is there stays there when more come after it
get_before : {A : Type 0} (xs ys : List A) (i : ℕ) (x : A) → slice_get xs i ≡ Some x → slice_get (xs ++ ys) i ≡ Some x
get_before [] ys i x e = none_is_not_some x e
get_before (z ∷ xs) ys zero x e = e
get_before (z ∷ xs) ys (suc i) x e = get_before xs ys i x e

get_last : {A : Type 0} (xs : List A) (x : A) (i : ℕ) → length xs ≡ i → slice_get (xs ++ x ∷ []) i ≡ Some x
get_last [] x zero e = refl
get_last [] x (suc i) e = absurd (omega arith)
get_last (z ∷ xs) x zero e = absurd (omega arith)
get_last (z ∷ xs) x (suc i) e = get_last xs x i (omega arith)

-- a longer list is read where the first elements of it were
get_taken : {A : Type 0} (n : ℕ) (xs : List A) (i : ℕ) (x : A) → slice_get (take n xs) i ≡ Some x → slice_get xs i ≡ Some x
get_taken zero xs i x e = none_is_not_some x e
get_taken (suc n) [] i x e = none_is_not_some x e
get_taken (suc n) (z ∷ xs) zero x e = e
get_taken (suc n) (z ∷ xs) (suc i) x e = get_taken n xs i x e

-- where a generation of a number is kept, the number is not above the current one
kept_at : (g : Generations) (number : ℕ) (x : Generation) → generation_of g number ≡ Some x
    → (number ≤ g.current) × (slice_get g.kept (g.current - number) ≡ Some x)
kept_at g number x e = go (nat_le number g.current) refl e
  where
    go : (b : Bool) → nat_le number g.current ≡ b → (if b then slice_get g.kept (g.current - number) else None) ≡ Some x
        → (number ≤ g.current) × (slice_get g.kept (g.current - number) ≡ Some x)
    go true is e = (leb-true number g.current is, e)
    go false is e = none_is_not_some x e

at_kept : (g : Generations) (number : ℕ) (x : Generation) → number ≤ g.current → slice_get g.kept (g.current - number) ≡ Some x
    → generation_of g number ≡ Some x
at_kept g number x l e = rw (le-leb number g.current l) e

-- what is carried after an event, and what it commits
abbrev Next : Writer → Writer → Event → Result Reply Refusal → List Forest → List Config → Type 0
Next h m e r fs ks = (gs : List Forest) × CarriesForests m gs × (fs ++ committed_from (stands h.desk) (accepted_one e r ++ ks) ≡ gs ++ committed_from
    (stands m.desk) ks)

-- after a publish
published_next : (h : Writer) (ps : List Place) (fs : List Forest) → h.desk.due ≡ true → CarriesForests h fs
    → (m : Writer) → m.generations.current ≡ h.generations.current + 1 → m.generations.kept ≡ generation h.desk.forest ps ∷ take 7 h.generations.kept
    → m.desk.due ≡ false
    → CarriesForests m fs
published_next h ps fs due k m current kept undue = record {
  count = k.count ∙ (λ i. h.generations.current + (if due i then 2 else 1)) ∙ (let c = current in omega arith)
      ∙ (λ i. m.generations.current + (if sym undue i then 2 else 1));
  carried = λ number x e. let t = kept_at m.generations number x e in
      let at : slice_get (generation h.desk.forest ps ∷ take 7 h.generations.kept) (h.generations.current + 1 - number) ≡ Some x =
      subst (λ (z : List Generation). slice_get z (h.generations.current + 1 - number) ≡ Some x) kept
      (subst (λ (n : ℕ). slice_get m.generations.kept (n - number) ≡ Some x) current t.1) in
      let low : number ≤ h.generations.current + 1 = (let l = t.0 in let c = current in omega arith) in
      go number x (h.generations.current + 1 - number) refl low at;
  waiting = λ on. true_is_not_false m.desk.due on undue;
}
  where
    go : (number : ℕ) (x : Generation) (i : ℕ) → h.generations.current + 1 - number ≡ i → number ≤ h.generations.current + 1
        → slice_get (generation h.desk.forest ps ∷ take 7 h.generations.kept) i ≡ Some x → slice_get fs number ≡ Some x.forest
    go number x zero is low e = let same = same_Some (generation h.desk.forest ps) x e in
        let top : h.generations.current + 1 ≡ number = omega arith in
        subst (λ (n : ℕ). slice_get fs n ≡ Some x.forest) top (k.waiting due ∙ ap (λ (z : Generation). Some z.forest) same)
    go number x (suc i) is low e = let d : i ≡ h.generations.current - number = omega arith in
        k.carried number x (at_kept h.generations number x (omega arith)
        (subst (λ (n : ℕ). slice_get h.generations.kept n ≡ Some x) d (get_taken 7 h.generations.kept i x e)))

-- after a private event, from a desk in which nothing is due
configured_next : (h m : Writer) (fs : List Forest) → h.desk.due ≡ false → CarriesForests h fs → m.generations ≡ h.generations
    → CarriesForests m (fs ++ due_forests m.desk.due m.desk.forest)
configured_next h m fs off k same = go m.desk.due refl
  where
    enough : length fs ≡ h.generations.current + 1
    enough = k.count ∙ (λ i. h.generations.current + (if off i then 2 else 1))

    current : h.generations.current ≡ m.generations.current
    current = ap (λ (g : Generations). g.current) (sym same)

    longer : {A : Type 0} (xs : List A) (x : A) → length (xs ++ x ∷ []) ≡ length xs + 1
    longer [] x = refl
    longer (z ∷ xs) x = let l = longer xs x in omega arith

    go : (b : Bool) → m.desk.due ≡ b → CarriesForests m (fs ++ due_forests b m.desk.forest)
    go true is = record {
      count = longer fs m.desk.forest ∙ (let e = enough in let c = current in omega arith) ∙ (λ i. m.generations.current + (if sym is i then 2 else 1));
      carried = λ number x e. get_before fs (m.desk.forest ∷ []) number x.forest
          (k.carried number x (subst (λ (g : Generations). generation_of g number ≡ Some x) same e));
      waiting = λ on. get_last fs m.desk.forest (m.generations.current + 1) (let e = enough in let c = current in omega arith);
    }
    go false is = subst (λ (gs : List Forest). CarriesForests m gs) (sym (append-nil fs)) record {
      count = enough ∙ (let c = current in omega arith) ∙ (λ i. m.generations.current + (if sym is i then 2 else 1));
      carried = λ number x e. k.carried number x (subst (λ (g : Generations). generation_of g number ≡ Some x) same e);
      waiting = λ on. true_is_not_false m.desk.due on is;
    }

pub filled_none : (d : Desk) → is_all_filled d ≡ true → d.unfilled ≡ []
filled_none d e = go d.unfilled (eqb-true _ _ e)
  where
    go : (cs : List Cell) → length cs ≡ 0 → cs ≡ []
    go [] z = refl
    go (c ∷ cs) z = absurd (omega arith)

steady : (h m : Writer) (fs : List Forest) → m.desk.due ≡ h.desk.due → m.desk.forest ≡ h.desk.forest → m.generations.current ≡ h.generations.current
    → m.generations.kept ≡ h.generations.kept → CarriesForests h fs → CarriesForests m fs
steady h m fs due forest current kept k = record {
  count = k.count ∙ (λ i. sym current i + (if sym due i then 2 else 1));
  carried = λ number x e. k.carried number x
      (subst (λ (z : ℕ × List Generation). (if nat_le number z.0 then slice_get z.1 (z.0 - number) else None) ≡ Some x) (λ i. (current i, kept i)) e);
  waiting = λ on. subst (λ (z : ℕ × Forest). slice_get fs (z.0 + 1) ≡ Some z.1) (λ i. (sym current i, sym forest i)) (k.waiting (sym due ∙ on));
}

-- each event leaves a sound desk
pub sound_after : (w : World) (e : Event) (n : ℕ) → possible w e ≡ true → IsSoundDesk w.writer.desk → IsSoundDesk (after_telling w e n).writer.desk
sound_after w (events.Sweep v) n may k = record { forest = k.forest; few = k.few; places = k.places; pending = k.pending }
sound_after w events.Publish n may k = record { forest = k.forest; few = k.few; places = k.places; pending = k.pending }
sound_after w (events.Fill c) n may k = record { forest = k.forest; few = k.few; places = k.places; pending = k.pending }
sound_after w (events.Config c) n may k =
    let d = w.writer.desk in let rest = and_parts _ _ (and_parts _ _ may).0 in
    let o = outcome w.writer.generations d k (not-true d.due rest.0) (filled_none d rest.1) c in
    record { forest = o.sound.forest; few = o.sound.few; places = o.sound.places; pending = o.sound.pending }
sound_after w events.Reap n may k = record {
  forest = k.forest;
  few = k.few;
  places = every_filter (λ p. p.region.0 < w.writer.desk.forest.made) (λ p. p.region.0 < w.writer.desk.forest.made) _ w.writer.desk.places
      (λ p e l. l) k.places;
  pending = k.pending;
}
sound_after w _ n may k = k

next : (w : World) (fs : List Forest) (ks : List Config) (e : Event) (n : ℕ) (r : Result Reply Refusal) → possible w e ≡ true → r ≡ reply w e
    → IsSoundDesk w.writer.desk → CarriesForests w.writer fs → Next w.writer (after_telling w e n).writer e r fs ks
next w fs ks (events.Sweep v) n r may is s k = (fs, steady w.writer _ fs refl refl refl refl k, refl)
next w fs ks (events.Place v) n r may is s k = (fs, steady w.writer _ fs refl refl refl refl k, refl)
next w fs ks events.Publish n r may is s k = (fs, published_next w.writer _ fs (and_parts _ _ may).0 k _ refl refl refl, refl)
next w fs ks (events.Fill c) n r may is s k = (fs, steady w.writer _ fs refl refl refl refl k, refl)
next w fs ks (events.Config c) n r may is s k =
    let d = w.writer.desk in let g = w.writer.generations in
    let rest = and_parts _ _ (and_parts _ _ may).0 in
    let off = not-true d.due rest.0 in
    let m = configured g d c in let o = outcome g d s off (filled_none d rest.1) c in (
      fs ++ due_forests m.desk.due m.desk.forest,
      configured_next w.writer _ fs off k refl,
      ap (λ (r : Result Reply Refusal). fs ++ committed_from (stands d) (accepted_one (events.Config c) r ++ ks)) is
          ∙ ap (λ (zs : List Forest). fs ++ zs) (told_commits d m.desk c m.answer ks o.tells)
          ∙ sym (append_assoc fs (due_forests m.desk.due m.desk.forest) (committed_from (stands m.desk) ks)),
    )
next w fs ks events.Reap n r may is s k = (fs, steady w.writer _ fs refl refl refl refl k, refl)
next w fs ks _ n r may is s k = (fs, k, refl)

carries_from : (w : World) (xs : List PureEntry) (fs : List Forest) → IsSoundDesk w.writer.desk → CarriesForests w.writer fs → IsLegalFrom w xs
    → CarriesForests (after_entries w xs).writer (fs ++ committed_from (stands w.writer.desk) (accepted xs))
carries_from w [] fs s k l = subst (λ (gs : List Forest). CarriesForests w.writer gs) (sym (append-nil fs)) k
carries_from w (x ∷ xs) fs s k l = let t = next w fs (accepted xs) x.event (number_in x.reply) x.reply l.0 l.1 s k in
    subst (λ (gs : List Forest). CarriesForests (after_entries (after_entry w x) xs).writer gs) (sym t.2)
    (carries_from (after_entry w x) xs t.0 (sound_after w x.event (number_in x.reply) l.0 s) t.1 l.2)

-- the opening's one generation is the empty forest
opens_empty : (pool_words passes : ℕ) → CarriesForests (opening pool_words passes).writer (empty ∷ [])
opens_empty pool_words passes = record {
  count = refl;
  carried = λ number x e. let t = kept_at (opening pool_words passes).writer.generations number x e in go number x t.0 t.1;
  waiting = λ on. absurd (grind arith);
}
  where
    go : (number : ℕ) (x : Generation) → number ≤ 0 → slice_get (generation empty [] ∷ []) (0 - number) ≡ Some x → slice_get (empty ∷ []) number ≡ Some x.forest
    go zero x l e = ap (λ (z : Generation). Some z.forest) (same_Some (generation empty []) x e)
    go (suc n) x l e = absurd (omega arith)

pub generations_are_committed : (pool_words passes : ℕ) (xs : List PureEntry) → IsLegal pool_words passes xs
    → CarriesForests (after_entries (opening pool_words passes) xs).writer (committed_forests (accepted xs))
generations_are_committed pool_words passes xs l = carries_from (opening pool_words passes) xs (empty ∷ []) (opens_idle pool_words passes).sound
    (opens_empty pool_words passes) l

-- all that was published

commits_next : (w : World) (ks : List Config) (e : Event) (n : ℕ) (r : Result Reply Refusal) → possible w e ≡ true → r ≡ reply w e → IsSoundDesk w.writer.desk →
    let m = (after_telling w e n).writer.desk in
    forest_due w.writer.desk ++ committed_from (stands w.writer.desk) (accepted_one e r ++ ks) ≡ forest_at w e ++ (forest_due m ++ committed_from (stands m) ks)
commits_next w ks events.Publish n r may is s = let d = w.writer.desk in
    ap (λ (b : Bool). due_forests b d.forest ++ committed_from (stands d) ks) (and_parts _ _ may).0
commits_next w ks (events.Config c) n r may is s =
    let d = w.writer.desk in let g = w.writer.generations in
    let rest = and_parts _ _ (and_parts _ _ may).0 in
    let off = not-true d.due rest.0 in
    let m = configured g d c in let o = outcome g d s off (filled_none d rest.1) c in
    ap (λ (b : Bool). due_forests b d.forest ++ committed_from (stands d) (accepted_one (events.Config c) r ++ ks)) off
    ∙ ap (λ (r : Result Reply Refusal). committed_from (stands d) (accepted_one (events.Config c) r ++ ks)) is
    ∙ told_commits d m.desk c m.answer ks o.tells
commits_next w ks _ n r may is s = refl

commits_from : (w : World) (xs : List PureEntry) → IsSoundDesk w.writer.desk → IsLegalFrom w xs
    → forest_due w.writer.desk ++ committed_from (stands w.writer.desk) (accepted xs) ≡ forests_published w xs ++ forest_due (after_entries w xs).writer.desk
commits_from w [] s l = append-nil (forest_due w.writer.desk)
commits_from w (x ∷ xs) s l =
    commits_next w (accepted xs) x.event (number_in x.reply) x.reply l.0 l.1 s
    ∙ ap (λ (fs : List Forest). forest_at w x.event ++ fs) (commits_from (after_entry w x) xs (sound_after w x.event (number_in x.reply) l.0 s) l.2)
    ∙ sym (append_assoc (forest_at w x.event) (forests_published (after_entry w x) xs) (forest_due (after_entries (after_entry w x) xs).writer.desk))

pub publishes_are_committed : (pool_words passes : ℕ) (xs : List PureEntry) → IsLegal pool_words passes xs
    → empty ∷ forests_published (opening pool_words passes) xs ++ forest_due (after_entries (opening pool_words passes) xs).writer.desk
    ≡ committed_forests (accepted xs)
publishes_are_committed pool_words passes xs l = ap (λ (fs : List Forest). empty ∷ fs)
    (sym (commits_from (opening pool_words passes) xs (opens_idle pool_words passes).sound l))
