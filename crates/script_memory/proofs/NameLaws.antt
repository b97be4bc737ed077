-- Names that are told, region after region and space after space.
use Rattle.std.proofs.Common.{◌≡◌, ◌<◌, ◌≤◌, ◌+◌, ℕ, suc, List, [], ◌∷◌, ◌++◌, length, drop, add-one, sym, ap, ◌∙◌, append_assoc}
use Rattle.std.proofs.Common.{Some, None, zero, refl, arith}
use Rattle.std.specs.List.{slice_get}
use Rattle.std.proofs.lemmas.List.{append-nil, drop_all, length-append}
use Rattle.std.proofs.lemmas.Option.{get_or_from_slice_get, none-some, slice_get_within}
use Rattle.std.proofs.Math.Seq.{drop-cons}
use Rattle.mem_base.specs.declared.map.ids.RegionId.{RegionId}
use Rattle.mem_base.specs.declared.map.kinds.Kind.{Kind}
use Rattle.mem_base.specs.script.Named.{name_at}
use Rattle.mem_base.specs.script.Spelling.{Text}
use Rattle.script_names.specs.Tables.{AllNames, printed_names}
use Rattle.script_memory.specs.Told.{told_kind, told_kinds, told_names, without_names}

-- one name more
pub name_next : (names : List Text) (i : ℕ) (old new whole : List Text) → i < length names → new ≡ old ++ name_at names i ∷ []
    → old ++ drop i names ≡ whole → new ++ drop (i + 1) names ≡ whole
name_next names i old new whole l e h =
    ap (λ (xs : List Text). xs ++ drop (i + 1) names) e ∙ append_assoc old (name_at names i ∷ []) (drop (i + 1) names)
    ∙ ap (λ k. old ++ name_at names i ∷ drop k names) (add-one i) ∙ ap (λ (xs : List Text). old ++ xs) (sym (drop-cons names i [] l)) ∙ h

-- all names
pub names_all : (names : List Text) (i : ℕ) (now : List Text) → length names ≤ i → now ++ drop i names ≡ names → now ≡ names
names_all names i now l h = sym (append-nil now) ∙ ap (λ (xs : List Text). now ++ xs) (sym (drop_all i names l)) ∙ h

-- there is one name more
pub count_next : (i : ℕ) (old new : List Text) (name : Text) → length old ≡ i → new ≡ old ++ name ∷ [] → length new ≡ i + 1
count_next i old new name n e =
    let one : length (old ++ name ∷ []) ≡ length old + length (name ∷ []) = length-append old (name ∷ []) in
    let single : length (name ∷ []) ≡ 1 = one_name name in
    ap length e ∙ one ∙ (λ j. n j + single j)
  where
    one_name : (name : Text) → length (name ∷ []) ≡ 1
    one_name name = refl

-- one kind more
pub kind_next : (memory : List RegionId) (kinds : List Kind) (i : ℕ) (kind : Kind) (old new whole : List Kind) → slice_get kinds i ≡ Some kind
    → new ≡ old ++ told_kind memory i kind ∷ [] → old ++ told_kinds memory i (drop i kinds) ≡ whole
    → new ++ told_kinds memory (i + 1) (drop (i + 1) kinds) ≡ whole
kind_next memory kinds i kind old new whole at e h =
    let rest : List Kind = told_kinds memory (i + 1) (drop (i + 1) kinds) in
    let cut : drop i kinds ≡ kind ∷ drop (i + 1) kinds =
    drop-cons kinds i kind (slice_get_within kinds i kind at) ∙ ap (λ k. k ∷ drop (suc i) kinds) (get_or_from_slice_get kinds i kind kind at)
    ∙ ap (λ n. kind ∷ drop n kinds) (sym (add-one i)) in
    ap (λ (xs : List Kind). xs ++ rest) e ∙ append_assoc old (told_kind memory i kind ∷ []) rest
    ∙ ap (λ ks. old ++ told_kinds memory i ks) (sym cut) ∙ h

-- a list that has no element with a number has ended there
pub past_end : {X : Type 0} (xs : List X) (i : ℕ) → slice_get xs i ≡ None → length xs ≤ i
past_end [] i e = omega arith
past_end (x ∷ xs) zero e = absurd (none-some x (sym e))
past_end (x ∷ xs) (suc i) e = let h = past_end xs i e in omega (arith, h)

-- all kinds
pub kinds_all : (memory : List RegionId) (kinds : List Kind) (i : ℕ) (now whole : List Kind) → length kinds ≤ i
    → now ++ told_kinds memory i (drop i kinds) ≡ whole → now ≡ whole
kinds_all memory kinds i now whole past h =
    sym (append-nil now) ∙ ap (λ ks. now ++ told_kinds memory i ks) (sym (drop_all i kinds past)) ∙ h

-- the names that are told, of those of regions, then of spaces, and no others
pub all_told : (memory : List RegionId) (names none regions all : AllNames) → none ≡ without_names
    → regions.regions.made ≡ names.regions.made → regions.kinds ≡ told_kinds memory 0 names.kinds
    → regions ≡ record none { regions = regions.regions; kinds = regions.kinds }
    → all.spaces.made ≡ names.spaces.made → all ≡ record regions { spaces = all.spaces }
    → printed_names all ≡ told_names memory (printed_names names)
all_told memory names none regions all n r k o s p =
    let named : all.regions.made ≡ names.regions.made = ap (λ (x : AllNames). x.regions.made) p ∙ r in
    let kinds : all.kinds ≡ told_kinds memory 0 names.kinds = ap (λ (x : AllNames). x.kinds) p ∙ k in
    let listeners : all.listeners.made ≡ [] =
    ap (λ (x : AllNames). x.listeners.made) p ∙ ap (λ (x : AllNames). x.listeners.made) o ∙ ap (λ (x : AllNames). x.listeners.made) n in
    let notifiers : all.notifiers.made ≡ [] =
    ap (λ (x : AllNames). x.notifiers.made) p ∙ ap (λ (x : AllNames). x.notifiers.made) o ∙ ap (λ (x : AllNames). x.notifiers.made) n in
    λ i. record { regions = named i; kinds = kinds i; spaces = s i; listeners = listeners i; notifiers = notifiers i }
