-- A look-up in the map is one in its view.
use Rattle.std.proofs.Common.{◌≡◌, ℕ, Bool, true, false, List, [], ◌∷◌, Some, cond, map, refl, sym, ap, ◌∙◌, subst, ◌++◌, None, Option}
use Rattle.std.proofs.lemmas.Bool.{cases_Bool, cond-true, cond-false}
use Rattle.std.proofs.lemmas.Cmp.{nat_list_eq_equiv}
use Rattle.std.proofs.lemmas.Slice.Eq.{bytes_eq-Decides}
use Rattle.std.proofs.Common.{⊎_elim}
use Rattle.std.specs.Map.{IsKeyTest, AreApart, KeepsOthers}
use Rattle.std.specs.Global.{Vec}
use Rattle.std.specs.Map.{lookup}
use Rattle.std.specs.Str.{bytes_eq}
use Rattle.std.proofs.lemmas.List.{map-append}
use Rattle.indexmap.specs.IndexMap.{IndexMap, insert_entry}
use Rattle.indexmap.proofs.CallerLemmas.{insert_entry-new}
use Rattle.script_names.specs.Tables.{Rebinds, number_of}

pub number_of-view : (es : List (Vec ℕ × ℕ)) (q : List ℕ) → lookup (λ k. bytes_eq q k.items) es ≡ number_of (map (λ e. (e.0.items, e.1)) es) q
number_of-view [] q = refl
number_of-view ((k, v) ∷ es) q = ap (λ r. cond (bytes_eq q k.items) (Some v) r) (number_of-view es q)

abbrev pub seen : Vec ℕ × ℕ → List ℕ × ℕ
seen e = (e.0.items, e.1)

abbrev pub same_key : Vec ℕ → Vec ℕ → Bool
same_key a b = bytes_eq a.items b.items

-- a name that is not there goes last
pub insert-view : {S : Type 0} (m n : IndexMap (Vec ℕ) ℕ S) (key : Vec ℕ) (id : ℕ) (name : List ℕ) (view : List (List ℕ × ℕ))
    → key.items ≡ name → map seen m.entries ≡ view → number_of view name ≡ None
    → n.entries ≡ insert_entry same_key m.entries key id → map seen n.entries ≡ view ++ (name, id) ∷ []
insert-view m n key id name view k v none e =
    let absent = number_of-view m.entries key.items ∙ ap (λ q. number_of (map seen m.entries) q) k ∙ ap (λ w. number_of w name) v ∙ none in
    ap (map seen) (e ∙ insert_entry-new same_key m key id absent) ∙ map-append seen m.entries ((key, id) ∷ [])
    ∙ ap (λ w. w ++ (key.items, id) ∷ []) v ∙ ap (λ q. view ++ (q, id) ∷ []) k

-- another name than the one that was let go finds what it found

others : (old new : List (Vec ℕ × ℕ)) (name : List ℕ) → KeepsOthers same_key (λ k. bytes_eq name k.items) old new
    → (other : Vec ℕ → Bool) → IsKeyTest same_key other → AreApart (λ k. bytes_eq name k.items) other → lookup other new ≡ lookup other old
unfolding KeepsOthers
others old new name h = h

apart : (bs cs ks : List ℕ) → bytes_eq bs cs ≡ false → bytes_eq bs ks ≡ true → bytes_eq cs ks ≡ false
apart bs cs ks n y = nat_list_eq_equiv.symm cs ks ∙ sym (nat_list_eq_equiv.congr bs ks cs y) ∙ n

pub rebinds : (old new : List (Vec ℕ × ℕ)) (name : List ℕ) → KeepsOthers same_key (λ k. bytes_eq name k.items) old new
    → lookup (λ k. bytes_eq name k.items) new ≡ None → Rebinds (map seen old) (map seen new) name None
rebinds old new name h gone other =
    let before : Option ℕ = number_of (map seen old) other in
    sym (number_of-view new other) ∙ ⊎_elim
    (λ y. subst (λ q. lookup (λ k. bytes_eq q k.items) new ≡ None) ((bytes_eq-Decides name other).0 y) gone
    ∙ sym (cond-true (bytes_eq name other) None before y))
    (λ n. others old new name h (λ k. bytes_eq other k.items) (λ x y. nat_list_eq_equiv.congr other x.items y.items) (λ k. apart name other k.items n)
    ∙ number_of-view old other ∙ sym (cond-false (bytes_eq name other) None before n))
    (cases_Bool (bytes_eq name other))
