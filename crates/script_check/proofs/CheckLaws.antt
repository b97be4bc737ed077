-- What is told of all spaces.
use Rattle.std.proofs.Common.{◌≡◌, ◌∙◌, ◌++◌, ◌⊎◌, inl, inr, ◌==◌, ◌||◌, Bool, true, false, not, if◌then◌else◌, List, [], ◌∷◌, length}
use Rattle.std.proofs.Common.{None, Some, ap, refl, subst, sym, true≢false}
use Rattle.std.specs.Prelude.{is_none}
use Rattle.std.specs.declared.option.Option.{Option}
use Rattle.std.proofs.lemmas.List.Elements.{Contains-append_left, Contains-append_right, Contains-push}
use Rattle.mem_base.specs.declared.map.ids.RegionId.{RegionId}
use Rattle.mem_base.specs.declared.map.ids.SpaceId.{SpaceId}
use Rattle.mem_base.specs.lists.Every.{Every}
use Rattle.mem_base.specs.script.Named.{space_name}
use Rattle.mem_base.specs.script.Spelling.{Text}
use Rattle.mem_base.specs.views.Flattened.{view_of}
use Rattle.script_memory.proofs.HandedOn.{shown_in}
use Rattle.script_check.specs.Blocks.{Printed}
use Rattle.script_check.specs.Checks.{
  Compared,
  IsSpacePrinted,
  Explains,
  IsFound,
  IsShownBy,
  IsToldOf,
  IsToldOfText,
  compared,
  compared_with,
  has_view,
  is_missed,
  is_other,
  missed_text,
  shows_view,
  some_differ,
  some_differs,
  some_missed,
  space_verdict,
  spaces_text,
  told_text,
}
use Rattle.view_check.specs.Shown.{first_difference}
use Rattle.view_check.proofs.ShownLaws.{none_shown}
use Rattle.script_check.specs.declared.faults.CheckFault.{CheckFault}
use Rattle.script_check.specs.declared.faults.CheckFault.TheVariants.{Memory}
use Rattle.script_memory.specs.Told.{IsToldByText, Told}
use Rattle.script_check.specs.declared.verdicts.Verdict.{Verdict}
use Rattle.script_check.specs.declared.verdicts.Verdict.TheVariants.{Same, Differs, Unprinted}
use Rattle.script_check.proofs.VerdictLaws.{same_is_printed}
use Rattle.std.proofs.lemmas.Bool.{or_parts}

pub space_printed : (x : Compared) (space : SpaceId) → space_verdict x space ≡ Same → IsSpacePrinted x space
space_printed x space e = same_is_printed x.names x.memory (space_name x.names space) (view_of x.forest space) 0 x.blocks e

is_same : (v : Verdict) → is_other v ≡ false → v ≡ Same
is_same Same e = refl
is_same (Differs block at) e = absurd (true≢false e)
is_same Unprinted e = absurd (true≢false e)

-- where no space is told as another, all have a view that was printed of them
pub all_printed : (x : Compared) (spaces : List (SpaceId × RegionId)) → some_differs x spaces ≡ false
    → Every (λ (s : SpaceId × RegionId). IsSpacePrinted x s.0) spaces
all_printed x [] e = tt
all_printed x (s ∷ rest) e =
    let parts = or_parts (is_other (space_verdict x s.0)) (some_differs x rest) e in
    (space_printed x s.0 (is_same (space_verdict x s.0) parts.0), all_printed x rest parts.1)

-- a view that is not missed is that of a space

none_of : {X : Type 0} (o : Option X) → is_none o ≡ true → o ≡ None
none_of None e = refl
none_of (Some x) e = absurd (true≢false (sym e))

or_true : (a b : Bool) → (a || b) ≡ true → (a ≡ true) ⊎ (b ≡ true)
or_true true b e = inl refl
or_true false b e = inr e

later : (x : Compared) (block : Printed) (s : SpaceId × RegionId) (rest : List (SpaceId × RegionId)) → IsShownBy x rest block → IsShownBy x (s ∷ rest) block
later x block s rest h = record {
  space = h.space;
  among = Contains-append_right (s ∷ []) rest h.space h.among;
  shown = h.shown;
}

shown_by : (x : Compared) (block : Printed) (spaces : List (SpaceId × RegionId)) → has_view x block spaces ≡ true → IsShownBy x spaces block
shown_by x block [] e = absurd (true≢false (sym e))
shown_by x block (s ∷ rest) e =
    elim (or_true (shows_view x block s.0) (has_view x block rest) e) [
      | inl own ↦ record {
        space = s;
        among = Contains-append_left (s ∷ []) rest s (Contains-push [] s);
        shown = none_shown x.names x.memory 0 block.rows (view_of x.forest s.0)
            (none_of (first_difference x.names x.memory 0 block.rows (view_of x.forest s.0)) own);
      }
      | inr others ↦ later x block s rest (shown_by x block rest others)
    ]

kept : (empty found : Bool) → (if empty then false else not found) ≡ false → (empty ≡ true) ⊎ (found ≡ true)
kept true found e = inl refl
kept false true e = inr refl
kept false false e = absurd (true≢false e)

is_found : (x : Compared) (spaces : List (SpaceId × RegionId)) (block : Printed) → is_missed x spaces block ≡ false → IsFound x spaces block
is_found x spaces block e =
    elim (kept (length block.spaces == 0) (has_view x block spaces) e) [
      | inl none ↦ inl none
      | inr found ↦ inr (shown_by x block spaces found)
    ]

all_found : (x : Compared) (spaces : List (SpaceId × RegionId)) (blocks : List Printed) → some_missed x spaces blocks ≡ false → Every (IsFound x spaces) blocks
all_found x spaces [] e = tt
all_found x spaces (block ∷ rest) e =
    let parts = or_parts (is_missed x spaces block) (some_missed x spaces rest) e in
    (is_found x spaces block parts.0, all_found x spaces rest parts.1)

-- all spaces of the forest that is compared, where they came as a list, and the text was empty
pub text_of_all : (x : Compared) (spaces : List (SpaceId × RegionId)) (old middle new : Text) → old ≡ [] → spaces ≡ x.forest.spaces
    → middle ≡ old ++ spaces_text x spaces → new ≡ middle ++ missed_text x spaces x.blocks → new ≡ told_text x
text_of_all x spaces old middle new o s m e = e ∙ (λ i. (m ∙ (λ j. o j ++ spaces_text x (s j))) i ++ missed_text x (s i) x.blocks)

pub differs_of_all : (x : Compared) (spaces : List (SpaceId × RegionId)) (differs missed : Bool) → spaces ≡ x.forest.spaces → differs ≡ some_differs x spaces
    → missed ≡ some_missed x spaces x.blocks → (differs || missed) ≡ some_differ x
differs_of_all x spaces differs missed s d m = λ i. (d ∙ ap (some_differs x) s) i || (m ∙ ap (λ ss. some_missed x ss x.blocks) s) i

pub is_told : (m : Told) (blocks : List Printed) (memory : List RegionId) (text : Text) (differs : Bool) → memory ≡ m.memory
    → text ≡ told_text (compared_with m memory blocks) → differs ≡ some_differ (compared_with m memory blocks) → IsToldOf m blocks text differs
is_told m blocks memory text differs e t d =
    let x : Compared = compared m blocks in
    let found : differs ≡ some_differ x = d ∙ ap (λ (ids : List RegionId). some_differ (compared_with m ids blocks)) e in
    let parts : differs ≡ false → (some_differs x x.forest.spaces ≡ false) × (some_missed x x.forest.spaces x.blocks ≡ false) =
    λ none. or_parts (some_differs x x.forest.spaces) (some_missed x x.forest.spaces x.blocks) (sym found ∙ none) in
    record {
      told = t ∙ ap (λ (ids : List RegionId). told_text (compared_with m ids blocks)) e;
      found = found;
      same = λ space same. space_printed x space same;
      all = λ none. all_printed x x.forest.spaces (parts none).0;
      whole = λ none. all_found x x.forest.spaces blocks (parts none).1;
    }

pub told_of_text : (script : Text) (m : Told) (blocks : List Printed) (text : Text) (differs : Bool) → IsToldByText script m
    → IsToldOf m blocks text differs → IsToldOfText script blocks text differs
told_of_text script m blocks text differs h t = record { map = m; reads = h; told = t }

pub memory_explains : (script flat : Text) (fault : CheckFault) → fault ≡ Memory → Explains script flat fault
memory_explains script flat fault e = subst (Explains script flat) (sym e) tt
