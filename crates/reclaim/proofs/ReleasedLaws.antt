-- A ledger that has seen each generation answers what a reap releases.
use Rattle.std.proofs.Common.{◌≡◌, ℕ, suc, ◌+◌, ◌-◌, ◌<◌, ◌≤◌, ◌||◌, Bool, true, false, not, List, [], ◌∷◌, length, Option, Some, None, take-take}
use Rattle.std.proofs.Common.{refl, sym, ap, subst, ◌∙◌, arith, filter}
use Rattle.std.specs.Prelude.{if◌then◌else◌, find, map, take, nat_le}
use Rattle.std.specs.List.{list_any}
use Rattle.std.proofs.lemmas.List.{take-map}
use Rattle.std.proofs.lemmas.Bool.Decides.{nat_tests}
use Rattle.mem_base.specs.declared.map.ids.RegionId.{RegionId}
use Rattle.mem_base.specs.declared.map.forests.Forest.{Forest}
use Rattle.mem_base.specs.lists.Every.{Every}
use Rattle.mem_base.specs.views.Naming.{names}
use Rattle.mem_base.specs.machine.Generations.{Generation, Generations, least_lowest}
use Rattle.mem_base.specs.machine.Reaps.{is_named}
use Rattle.mem_base.proofs.EveryLaws.{weaker, every_filter}
use Rattle.generation.specs.Published.{Published}
use Rattle.reclaim.specs.declared.notes.Note.{Note}
use Rattle.reclaim.specs.Notes.{note, note_order, is_of, is_noted, is_before, is_due, others, others_if, seen_in}
use Rattle.reclaim.specs.Ledgers.{noted_last}
use Rattle.reclaim.specs.Released.{last_naming, TellLast, KeepsSight, ArePublished, AnswersReleased}
use Rattle.reclaim.proofs.LedgerLaws.{found_every, found_note, noted_found}
use Rattle.mem_base.proofs.ForestLaws.{every_put}

-- by a test
either_way : {A : Type 0} (P : A → Type 0) (b : Bool) (x y : A) → (b ≡ true → P x) → (b ≡ false → P y) → P (if b then x else y)
either_way P true x y p q = p refl
either_way P false x y p q = q refl

-- one note after one more forest was seen
told : (fs : List Forest) (g : Published) (n : Note) → g.number ≡ length fs → n.last ≡ last_naming fs n.region
    → (seen_in g n).last ≡ last_naming (g.forest ∷ fs) (seen_in g n).region
told fs g n e h =
    either_way (λ m. m.last ≡ last_naming (g.forest ∷ fs) m.region) (names g.forest n.region) (note n.region (Some g.number)) n
    (λ yes. rw yes (ap (λ k. Some k) e))
    (λ no. rw no h)

all_told : (fs : List Forest) (g : Published) (notes : List Note) → g.number ≡ length fs → TellLast fs notes → TellLast (g.forest ∷ fs) (map (seen_in g) notes)
all_told fs g [] e h = tt
all_told fs g (n ∷ ns) e h = (told fs g n e h.0, all_told fs g ns e h.1)

-- the notes but that of a region tell what they told
others_tell : (fs : List Forest) (region : RegionId) (notes : List Note) → TellLast fs notes → TellLast fs (others region notes)
others_tell fs region notes h =
    every_filter (λ n. n.last ≡ last_naming fs n.region) (λ n. not (is_of region n)) notes h

-- the note of a region that is noted
note_tells : (fs : List Forest) (region : RegionId) (notes : List Note) → is_noted region notes ≡ true → TellLast fs notes
    → noted_last region notes ≡ last_naming fs region
note_tells fs region notes there h = go (find (is_of region) notes) refl
  where
    go : (found : Option Note) → find (is_of region) notes ≡ found → noted_last region notes ≡ last_naming fs region
    go None e = absurd (noted_found region notes there e)
    go (Some m) e =
        let is : m ≡ note region (noted_last region notes) = found_note region notes m e in
        let tells : m.last ≡ last_naming fs m.region = found_every (λ n. n.last ≡ last_naming fs n.region) (is_of region) notes m e h in
        subst (λ (n : Note). n.last ≡ last_naming fs n.region) is tells

pub keeps_sight : KeepsSight
keeps_sight = record {
  first = record { there = tt; gone = tt };
  made = λ fs present dropped region h none. record {
    there = every_put (λ n. n.last ≡ last_naming fs n.region) note_order (note region None) present (sym none) h.there;
    gone = h.gone;
  };
  seen = λ fs present dropped g h e. record { there = all_told fs g present e h.there; gone = all_told fs g dropped e h.gone };
  drops = λ fs present dropped region h there. record {
    there = others_tell fs region present h.there;
    gone = every_put (λ n. n.last ≡ last_naming fs n.region) note_order (note region (noted_last region present)) dropped
        (note_tells fs region present there h.there) h.gone;
  };
  releases = λ fs present dropped region h. record { there = h.there; gone = left fs region dropped h.gone };
}
  where
    left : (fs : List Forest) (region : Option RegionId) (notes : List Note) → TellLast fs notes → TellLast fs (others_if region notes)
    left fs None notes h = h
    left fs (Some region) notes h = others_tell fs region notes h

-- a forest of those that are looked at names the region
abbrev named_in : RegionId → List Forest → Bool
named_in region fs = list_any (λ f. names f region) fs

-- one forest more, where the number is at most its own, and where it is above it
one_more : (lowest : ℕ) (region : RegionId) (f : Forest) (fs : List Forest) (m : ℕ) (b : Bool) → names f region ≡ b → lowest ≤ length fs
    → is_before lowest (last_naming fs region) ≡ not (named_in region (take m fs))
    → is_before lowest (if b then Some (length fs) else last_naming fs region) ≡ not (b || named_in region (take m fs))
one_more lowest region f fs m true e l h = grind (arith, nat_tests)
one_more lowest region f fs m false e l h = h

none_more : (lowest : ℕ) (region : RegionId) (fs : List Forest) (b : Bool) → length fs < lowest → is_before lowest (last_naming fs region) ≡ true
    → is_before lowest (if b then Some (length fs) else last_naming fs region) ≡ true
none_more lowest region fs true l h = grind (arith, nat_tests)
none_more lowest region fs false l h = h

module _ (lowest : ℕ) (region : RegionId) (f : Forest) (fs : List Forest)
    (rest : is_before lowest (last_naming fs region) ≡ not (named_in region (take (length fs - lowest) fs))) where
  one_above : (b : Bool) → nat_le lowest (length fs) ≡ b
      → is_before lowest (last_naming (f ∷ fs) region) ≡ not (named_in region (take (length (f ∷ fs) - lowest) (f ∷ fs)))
  one_above true e =
      let l : lowest ≤ length fs = grind (arith, nat_tests) in
      let n : length (f ∷ fs) - lowest ≡ suc (length fs - lowest) = omega arith in
      rw n (one_more lowest region f fs (length fs - lowest) (names f region) refl l rest)
  one_above false e =
      let l : length fs < lowest = grind (arith, nat_tests) in
      let n : length (f ∷ fs) - lowest ≡ 0 = omega arith in
      let z : length fs - lowest ≡ 0 = omega arith in
      let none : is_before lowest (last_naming fs region) ≡ true = rest ∙ ap (λ k. not (named_in region (take k fs))) z in
      rw n (none_more lowest region fs (names f region) l none)

-- the last forest that names a region has a number below this one just where none from it on names the region
before_is : (lowest : ℕ) (region : RegionId) (fs : List Forest)
    → is_before lowest (last_naming fs region) ≡ not (named_in region (take (length fs - lowest) fs))
before_is lowest region [] = let z : 0 - lowest ≡ 0 = omega arith in rw z refl
before_is lowest region (f ∷ fs) = one_above lowest region f fs (before_is lowest region fs) (nat_le lowest (length fs)) refl

any_forest : (region : RegionId) (xs : List Generation) → list_any (λ x. names x.forest region) xs ≡ named_in region (map (λ x. x.forest) xs)
any_forest region [] = refl
any_forest region (x ∷ xs) = ap (λ b. names x.forest region || b) (any_forest region xs)

-- a note is due just where no held generation names its region
due_is : (fs : List Forest) (g : Generations) → ArePublished fs g → (n : Note) → n.last ≡ last_naming fs n.region
    → is_due (least_lowest g.current g.passes) n ≡ not (is_named g n.region)
due_is fs g p n e =
    let lowest : ℕ = least_lowest g.current g.passes in
    let count : ℕ = g.current + 1 - lowest in
    let held : take count (map (λ (x : Generation). x.forest) g.kept) ≡ take count fs = ap (take count) p.kept ∙ take-take count (length g.kept) fs p.held in
    ap (is_before lowest) e
    ∙ before_is lowest n.region fs
    ∙ ap (λ (k : ℕ). not (named_in n.region (take (k - lowest) fs))) p.count
    ∙ sym (ap not (any_forest n.region (take count g.kept)
    ∙ ap (named_in n.region) (sym (take-map (λ (x : Generation). x.forest) count g.kept) ∙ held)))

-- the regions of the notes that pass a test are the regions that pass it
filtered : (p : Note → Bool) (q : RegionId → Bool) (ns : List Note) → Every (λ n. p n ≡ q n.region) ns
    → map (λ (n : Note). n.region) (filter p ns) ≡ filter q (map (λ (n : Note). n.region) ns)
filtered p q [] h = refl
filtered p q (n ∷ ns) h =
    let rest = filtered p q ns h.1 in
    elim (q n.region) as (λ b. q n.region ≡ b → map (λ (m : Note). m.region) (filter p (n ∷ ns)) ≡ filter q (n.region ∷ map (λ (m : Note). m.region) ns)) [
      | true ↦ λ e. let is : p n ≡ true = h.0 ∙ e in rw (is, e) (ap (λ rs. n.region ∷ rs) rest)
      | false ↦ λ e. let is : p n ≡ false = h.0 ∙ e in rw (is, e) rest
    ] refl

pub answers_released : AnswersReleased
answers_released fs w dropped p tells same =
    let lowest : ℕ = least_lowest w.generations.current w.generations.passes in
    filtered (is_due lowest) (λ r. not (is_named w.generations r)) dropped
    (weaker (λ n. n.last ≡ last_naming fs n.region) (λ n. is_due lowest n ≡ not (is_named w.generations n.region))
    (due_is fs w.generations p) dropped tells)
    ∙ ap (filter (λ r. not (is_named w.generations r))) same
