-- Laws of whole calls: what comes before an access and after it, joined with what the access makes.
use Rattle.std.proofs.Common.{◌≡◌, ℕ, ◌+◌, ◌<◌, ◌≤◌, Bool, true, false, List, [], ◌∷◌, ◌++◌, length, refl, sym, ap, subst, ◌∙◌, append-nil, arith}
use Rattle.std.proofs.Common.{Option, Some, None}
use mathlib.Core.List.{IsPrefix}
use Rattle.std.specs.Prelude.{is_some, IfSome, MatchBool}
use Rattle.mem_base.specs.map.PassIds.{PassId}
use Rattle.mem_base.specs.declared.map.ids.SpaceId.{SpaceId}
use Rattle.mem_base.specs.declared.map.forests.Forest.{Forest}
use Rattle.mem_base.specs.declared.access.cells.Place.{Place}
use Rattle.mem_base.specs.declared.access.accesses.TxResult.{TxResult}
use Rattle.mem_base.specs.declared.machine.events.Event.{Event}
use Rattle.mem_base.specs.declared.machine.events.HistoryEntry.{HistoryEntry}
use Rattle.mem_base.specs.access.AccessSteps.{Transfer, events_of_steps, has_partial, result_of, writing}
use Rattle.mem_base.specs.access.Words.{bytes_of}
use Rattle.mem_base.specs.access.Access.{access}
use Rattle.mem_base.specs.machine.Passes.{pass_id}
use Rattle.mem_base.specs.machine.Generations.{generation}
use Rattle.mem_base.specs.machine.Composites.{enters, leaves, enters_unless, leaves_unless, enters_anew, access_events, word_write, is_not_whole}
use Rattle.mem_base.specs.machine.Actors.{number_seen, generations_published, generation_published}
use Rattle.view_laws.proofs.Tests.{none_is_not_some}
use Rattle.generation.specs.Published.{Published}
use Rattle.epoch_rule.specs.declared.views.Sizes.{Sizes}
use Rattle.epoch_rule.specs.Rule.{IsLegal}
use Rattle.epoch_rule.specs.Values.{PassValue}
use Rattle.epoch_rule.specs.Wrote.{Made, entries_of_enter}
use Rattle.history_laws.proofs.AppendLaws.{generation_stays, published_longer}
use Rattle.access_run.specs.Runs.{HasDone}
use Rattle.mem_base.specs.machine.PassTurns.{entries_of}
use Rattle.vcpu_pass.specs.Entries.{replies_to_enter, replies_to_leave, replies_around, replies_anew}
use Rattle.vcpu_pass.specs.Steps.{generation_shown, generation_in, Adds, HasMade}
use Rattle.mem_base.proofs.PassTurnLaws.{entries_append}
use Rattle.vcpu_pass.specs.StepLaws.{adds_then, adds_some, made_none}
use Rattle.vcpu_pass.specs.Around.{HasBegun, HasEnded}
use Rattle.vcpu_pass.specs.Calls.{is_entered, HasLeft, HasEntered, GoesBy, IsPublishedIn, HasAccessedBy, HasAccessed, HasRefusedBy, HasRefused, HasWritten8}
use Rattle.mem_base.proofs.OptionLaws.{none_of}
use Rattle.mem_base.proofs.BoolLaws.{true_is_not_false}

-- what was made, from what was added, and back
made_of : (v w : PassValue Published) (new : List HistoryEntry) → w.cabinet ≡ v.cabinet → w.number ≡ v.number → w.sizes ≡ v.sizes
    → Adds v.sizes (v.number + 1) v.seen new w.seen → IsLegal v.sizes w.seen → Made v new w
made_of v w new cabinet number sizes a legal = record {
  cabinet = cabinet;
  number = number;
  sizes = sizes;
  wrote = record { begins = a.begins; lawful = legal; events = a.events; ends = a.ends };
}

adds_of : (v w : PassValue Published) (x : HistoryEntry) (new : List HistoryEntry) → Made v (x ∷ new) w
    → Adds v.sizes (v.number + 1) v.seen (x ∷ new) w.seen
adds_of v w x new h = adds_some v.sizes v.number v.seen w.seen x new h.wrote

legal_of : (v w : PassValue Published) (new : List HistoryEntry) → Made v new w → IsLegal v.sizes w.seen
legal_of v w new h = h.wrote.lawful

-- the same additions, by the same actor
adds_by : (z y : Sizes) (m n : ℕ) (xs new ys : List HistoryEntry) → y ≡ z → m ≡ n → Adds y (m + 1) xs new ys → Adds z (n + 1) xs new ys
adds_by z y m n xs new ys a b h = subst (λ (q : Sizes × ℕ). Adds q.0 (q.1 + 1) xs new ys) (λ i. (a i, b i)) h

-- of an option

some_not_none : {A X : Type 0} (o : Option A) → is_some o ≡ true → o ≡ None → X
some_not_none {A = A} None e n = true_is_not_false (is_some {T = A} None) e refl
some_not_none (Some x) e n = none_is_not_some x (sym n)

if_number : (o : Option Published) (n : ℕ) → n ≡ (generation_shown o).number → IfSome o (λ g. n ≡ g.number)
if_number None n e = tt
if_number (Some g) n e = e

-- what a call makes around its events, by the generation in which the pass then is
pub record IsAround (u v : PassValue Published) (number : ℕ) (es : List Event) (rs : List ℕ) (y : PassValue Published) : Type 0 where
  pub goes_by : GoesBy u number y
  pub looked : ℕ
  pub made : Made u (entries_of (generation_in v).places
      (enters_unless (is_entered u) (pass_id u.number) ++ (es ++ leaves_unless (is_entered u) (pass_id u.number)))
      (replies_around (is_entered u) looked number rs)) y
  pub shown : generation (generation_in v).forest (generation_in v).places ≡ generation_published y.seen number
  pub published : IsPublishedIn y number

-- of a pass that was entered
stayed : (u w : PassValue Published) (es : List Event) (rs : List ℕ) (number : ℕ) → is_some u.edition ≡ true → HasMade u es rs w → HasEnded true w number w
    → IsAround u u number es rs w
stayed u w es rs number is m n =
    let same : generation_in w ≡ generation_in u = ap generation_shown m.edition in
    let num : number ≡ (generation_in u).number = n.is_number ∙ ap (λ g. g.number) same in
    let legal : IsLegal u.sizes w.seen = subst (λ z. IsLegal z w.seen) m.sizes n.lawful in
    let places : List Place = (generation_in u).places in
    let base : Made u (entries_of places es rs) w = made_of u w (entries_of places es rs) m.cabinet m.number m.sizes m.adds legal in
    let padded : Made u (entries_of places (es ++ []) rs) w = subst (λ l. Made u (entries_of places l rs) w) (sym (append-nil es)) base in record {
      goes_by = record { entered = if_number u.edition number num; newest = λ none. some_not_none u.edition is none; edition = m.edition };
      looked = 0;
      made = subst (λ b. Made u (entries_of places (enters_unless b (pass_id u.number) ++ (es ++ leaves_unless b (pass_id u.number)))
          (replies_around b 0 number rs)) w)
          (sym is) padded;
      shown = ap (λ g. generation g.forest g.places) (sym same) ∙ n.shown.1 ∙ ap (generation_published w.seen) (sym n.is_number);
      published = subst (λ k. k < length (generations_published w.seen)) (sym n.is_number) n.shown.0;
    }

-- a number that was published stays so
later_number : (xs ys : List HistoryEntry) → IsPrefix xs ys → (k number : ℕ) → number ≡ k → k < length (generations_published xs)
    → number < length (generations_published ys)
later_number xs ys h k number e l = let more = published_longer xs ys h in omega (arith, e, l, more)

-- of one that was not
came : (u v w y : PassValue Published) (es : List Event) (rs : List ℕ) (number : ℕ) → is_some u.edition ≡ false → HasBegun false u v
    → length rs ≡ length es → HasMade v es rs w → HasEnded false w number y → IsAround u v number es rs y
came u v w y es rs number is b each m n =
    let p : PassId = pass_id u.number in
    let c = b.came refl in
    let l = n.left refl in
    let none : u.edition ≡ None = none_of u.edition is in
    let same : generation_in w ≡ generation_in v = ap generation_shown m.edition in
    let num : number ≡ (generation_in v).number = n.is_number ∙ ap (λ g. g.number) same in
    let places : List Place = (generation_in v).places in
    let cab : y.cabinet ≡ u.cabinet = l.0.cabinet ∙ m.cabinet ∙ c.1.cabinet in
    let act : w.number ≡ u.number = m.number ∙ c.1.number in
    let siz : w.sizes ≡ u.sizes = m.sizes ∙ c.1.sizes in
    let first : Adds u.sizes (u.number + 1) u.seen (entries_of places (enters p) (replies_to_enter c.0 number)) v.seen =
    subst (λ k. Adds u.sizes (u.number + 1) u.seen (entries_of places (enters p) (replies_to_enter c.0 k)) v.seen) (sym num)
    (adds_of u v _ _ c.1) in
    let middle : Adds u.sizes (u.number + 1) v.seen (entries_of places es rs) w.seen =
    adds_by u.sizes v.sizes v.number u.number v.seen (entries_of places es rs) w.seen c.1.sizes c.1.number m.adds in
    let last : Adds u.sizes (u.number + 1) w.seen (entries_of places (leaves p) replies_to_leave) y.seen =
    subst (λ k. Adds u.sizes (u.number + 1) w.seen (entries_of places (leaves (pass_id k)) replies_to_leave) y.seen) act
    (adds_by u.sizes w.sizes w.number u.number w.seen _ y.seen siz act (adds_of w y _ _ l.0)) in
    let later : Adds u.sizes (u.number + 1) v.seen (entries_of places (es ++ leaves p) (rs ++ replies_to_leave)) y.seen =
    subst (λ new. Adds u.sizes (u.number + 1) v.seen new y.seen) (sym (entries_append places es (leaves p) rs replies_to_leave each))
    (adds_then u.sizes (u.number + 1) v.seen (entries_of places es rs) w.seen (entries_of places (leaves p) replies_to_leave) y.seen middle last) in
    let all : Adds u.sizes (u.number + 1) u.seen
    (entries_of places (enters p ++ (es ++ leaves p)) (replies_to_enter c.0 number ++ (rs ++ replies_to_leave))) y.seen =
    subst (λ new. Adds u.sizes (u.number + 1) u.seen new y.seen)
    (sym (entries_append places (enters p) (es ++ leaves p) (replies_to_enter c.0 number) (rs ++ replies_to_leave) refl))
    (adds_then u.sizes (u.number + 1) u.seen (entries_of places (enters p) (replies_to_enter c.0 number)) v.seen
    (entries_of places (es ++ leaves p) (rs ++ replies_to_leave)) y.seen first later) in
    let legal : IsLegal u.sizes y.seen = subst (λ z. IsLegal z y.seen) siz (legal_of w y _ l.0) in
    let made = made_of u y _ cab (l.0.number ∙ act) (l.0.sizes ∙ siz) all legal in
    let newest : number_seen u.seen ≤ number = subst (λ k. number_seen u.seen ≤ k) (sym num) c.2 in
    record {
      goes_by = record {
        entered = subst (λ o. IfSome o (λ g. number ≡ g.number)) (sym none) tt;
        newest = λ e. newest;
        edition = l.1 ∙ sym none;
      };
      looked = c.0;
      made = subst (λ b. Made u (entries_of places (enters_unless b p ++ (es ++ leaves_unless b p)) (replies_around b c.0 number rs)) y) (sym is) made;
      shown = ap (λ g. generation g.forest g.places) (sym same) ∙ n.shown.1
          ∙ sym (generation_stays w.seen y.seen l.0.wrote.begins (generation_in w).number n.shown.0)
          ∙ ap (generation_published y.seen) (sym n.is_number);
      published = later_number w.seen y.seen l.0.wrote.begins (generation_in w).number number n.is_number n.shown.0;
    }

-- of either, where the events are those of a pass of this number
pub around : (e : Bool) (u v w y : PassValue Published) (es : PassId → List Event) (rs : List ℕ) (number : ℕ) → HasBegun e u v
    → length rs ≡ length (es (pass_id v.number)) → HasMade v (es (pass_id v.number)) rs w → HasEnded e w number y
    → IsAround u v number (es (pass_id u.number)) rs y
around true u v w y es rs number b each m n =
    subst (λ z. IsAround u v number (es (pass_id u.number)) rs z) (sym (n.same refl))
    (subst (λ x. HasMade x (es (pass_id x.number)) rs w → IsAround u x number (es (pass_id u.number)) rs w) (sym (b.same refl))
    (λ h. stayed u w (es (pass_id u.number)) rs number (sym b.was) h
    (subst (λ z. HasEnded true w number z) (n.same refl) n)) m)
around false u v w y es rs number b each m n =
    let same : v.number ≡ u.number = (b.came refl).1.number in
    let each' : length rs ≡ length (es (pass_id u.number)) = each ∙ ap (λ k. length (es (pass_id k))) same in
    let m' : HasMade v (es (pass_id u.number)) rs w = subst (λ k. HasMade v (es (pass_id k)) rs w) same m in
    came u v w y (es (pass_id u.number)) rs number (sym b.was) b each' m' n

-- a whole access
pub accessed : (e : Bool) (u v w y : PassValue Published) (space : SpaceId) (addr : ℕ) (t : Transfer) (number : ℕ) (result : TxResult) (bytes : List ℕ)
    → HasBegun e u v → result ≡ result_of (access (generation_in v).forest space addr t)
    → HasDone HasMade (pass_id v.number) v (access (generation_in v).forest space addr t) bytes w → HasEnded e w number y
    → HasAccessed u space addr t (record { result = result; number = number }) bytes y
accessed e u v w y space addr t number result bytes b r d n =
    let f : Forest = (generation_in v).forest in
    let es : PassId → List Event = λ p. events_of_steps p (access f space addr t) in
    let a = around e u v w y es d.replies number b d.each d.made n in
    let same : v.number ≡ u.number = same_number e u v b in
    subst (λ x. HasAccessedBy x u space addr t (record { result = result; number = number }) bytes y) a.shown record {
      goes_by = a.goes_by;
      published = a.published;
      looked = a.looked;
      replies = d.replies;
      each = d.each ∙ ap (λ k. length (es (pass_id k))) same;
      made = a.made;
      result = r;
      read = d.read;
    }
  where
    same_number : (e : Bool) (u v : PassValue Published) → HasBegun e u v → v.number ≡ u.number
    same_number true u v b = ap (λ x. x.number) (b.same refl)
    same_number false u v b = (b.came refl).1.number

-- a write of one word that was refused
pub refused : (e : Bool) (u v w y : PassValue Published) (space : SpaceId) (addr value number : ℕ)
    → HasBegun e u v → (w ≡ v) → is_not_whole (generation_in v).forest space addr value ≡ true → HasMade v [] [] v → HasEnded e w number y
    → HasRefused u space addr value number y
refused e u v w y space addr value number b still not_whole none n =
    let f : Forest = (generation_in v).forest in
    let places : List Place = (generation_in v).places in
    let p : PassId = pass_id u.number in
    let a = around e u v v y (λ p. []) [] number b refl none (subst (λ x. HasEnded e x number y) still n) in
    let made : Made u (entries_of places (enters_unless (is_entered u) p ++ leaves_unless (is_entered u) p)
    (replies_around (is_entered u) a.looked number [])) y =
    a.made in
    subst (λ x. HasRefusedBy x u space addr value number y) a.shown record {
      goes_by = a.goes_by;
      published = a.published;
      not_whole = not_whole;
      looked = a.looked;
      made = subst
          (λ b. Made u (entries_of places (choice b (enters_unless (is_entered u) p ++ leaves_unless (is_entered u) p)
          (access_events (is_entered u) p f space addr (word_write value))) (replies_around (is_entered u) a.looked number [])) y)
          (sym not_whole) made;
    }
  where
    choice : Bool → List Event → List Event → List Event
    choice true xs ys = xs
    choice false xs ys = ys

pub written8 : (e : Bool) (u v w y : PassValue Published) (space : SpaceId) (addr value number : ℕ) (result : TxResult)
    → HasBegun e u v → is_not_whole (generation_in v).forest space addr value ≡ false
    → result ≡ result_of (access (generation_in v).forest space addr (word_write value))
    → HasDone HasMade (pass_id v.number) v (access (generation_in v).forest space addr (word_write value)) [] w → HasEnded e w number y
    → HasWritten8 u space addr value (record { result = result; number = number }) y
written8 e u v w y space addr value number result b whole r d n =
    let f : Forest = (generation_in v).forest in
    let es : PassId → List Event = λ p. events_of_steps p (access f space addr (word_write value)) in
    let a = around e u v w y es d.replies number b d.each d.made n in (
      subst (λ x. is_not_whole x.forest space addr value ≡ false) a.shown whole,
      accessed e u v w y space addr (word_write value) number result [] b r d n,
    )

-- entering anew
pub entered : (u v w : PassValue Published) (looked number : ℕ) → HasLeft u v → Made v (entries_of_enter (pass_id v.number) looked number) w
    → number ≡ number_seen w.seen → number_seen v.seen ≤ number → HasEntered u number w
entered u v w looked number h m current newest = go u.edition refl
  where
    go : (o : Option Published) → u.edition ≡ o → HasEntered u number w
    go None e =
        let still : v ≡ u = h.2 e in record {
          looked = looked;
          made = subst (λ b. Made u (entries_of [] (enters_anew b (pass_id u.number)) (replies_anew b looked number)) w) (sym (ap (λ o. is_some o) e))
              (subst (λ x. Made x (entries_of_enter (pass_id x.number) looked number) w) still m);
          current = current;
          newest = subst (λ x. number_seen x.seen ≤ number) still newest;
        }
    go (Some g) e =
        let l : Made u (entries_of [] (leaves (pass_id u.number)) replies_to_leave) v =
        subst (λ o. IfSome o (λ g. Made u (entries_of [] (leaves (pass_id u.number)) replies_to_leave) v)) e h.1 in
        let first : Adds u.sizes (u.number + 1) u.seen (entries_of [] (leaves (pass_id u.number)) replies_to_leave) v.seen = adds_of u v _ _ l in
        let later : Adds u.sizes (u.number + 1) v.seen (entries_of_enter (pass_id u.number) looked number) w.seen =
        subst (λ k. Adds u.sizes (u.number + 1) v.seen (entries_of_enter (pass_id k) looked number) w.seen) l.number
        (adds_by u.sizes v.sizes v.number u.number v.seen _ w.seen l.sizes l.number (adds_of v w _ _ m)) in
        let both = adds_then u.sizes (u.number + 1) u.seen _ v.seen _ w.seen first later in
        let legal : IsLegal u.sizes w.seen = subst (λ z. IsLegal z w.seen) l.sizes (legal_of v w _ m) in
        let made = made_of u w _ (m.cabinet ∙ l.cabinet) (m.number ∙ l.number) (m.sizes ∙ l.sizes) both legal in
        let more = published_longer u.seen v.seen l.wrote.begins in record {
          looked = looked;
          made = subst (λ b. Made u (entries_of [] (enters_anew b (pass_id u.number)) (replies_anew b looked number)) w) (sym (ap (λ o. is_some o) e)) made;
          current = current;
          newest = omega (arith, more, newest);
        }

-- whether a pass is entered, as its cabinet tells
pub entered_is : (b : Bool) (o : Option Published) → MatchBool b ((e : Published) × (o ≡ Some e)) (o ≡ None) → b ≡ is_some o
entered_is true o h = sym (ap (λ x. is_some x) h.1)
entered_is false o h = sym (ap (λ x. is_some x) h)

-- a write of the bytes of a word

pub written_bytes : (e : Bool) (u v w y : PassValue Published) (space : SpaceId) (addr value number : ℕ) (result : TxResult) (bytes : List ℕ)
    → bytes ≡ bytes_of value 8 false → HasBegun e u v → has_partial (access (generation_in v).forest space addr (writing bytes)) ≡ false
    → result ≡ result_of (access (generation_in v).forest space addr (writing bytes))
    → HasDone HasMade (pass_id v.number) v (access (generation_in v).forest space addr (writing bytes)) [] w → HasEnded e w number y
    → HasWritten8 u space addr value (record { result = result; number = number }) y
written_bytes e u v w y space addr value number result bytes is b whole r d n =
    let f : Forest = (generation_in v).forest in
    written8 e u v w y space addr value number result b
    (subst (λ l. has_partial (access f space addr (writing l)) ≡ false) is whole)
    (subst (λ l. result ≡ result_of (access f space addr (writing l))) is r)
    (subst (λ l. HasDone HasMade (pass_id v.number) v (access f space addr (writing l)) [] w) is d) n

pub refused_bytes : (e : Bool) (u v y : PassValue Published) (space : SpaceId) (addr value number : ℕ) (bytes : List ℕ)
    → bytes ≡ bytes_of value 8 false → HasBegun e u v → has_partial (access (generation_in v).forest space addr (writing bytes)) ≡ true
    → HasEnded e v number y → HasRefused u space addr value number y
refused_bytes e u v y space addr value number bytes is b part n =
    let f : Forest = (generation_in v).forest in
    refused e u v v y space addr value number b refl (subst (λ l. has_partial (access f space addr (writing l)) ≡ true) is part) (made_none v) n
