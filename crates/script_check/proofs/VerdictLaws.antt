-- What comes of a space, view after view.
use Rattle.std.proofs.Common.{
  ◌≡◌,
  ◌≤◌,
  ◌⊎◌,
  inl,
  inr,
  ℕ,
  ◌+◌,
  zero,
  suc,
  length,
  drop,
  Bool,
  true,
  false,
  List,
  [],
  ◌∷◌,
  None,
  Some,
  refl,
  sym,
  ap,
  ◌∙◌,
  arith,
  if◌then◌else◌,
}
use Rattle.std.proofs.lemmas.List.Elements.{Contains-append_left, Contains-append_right, Contains-push}
use Rattle.std.specs.declared.option.Option.{Option}
use Rattle.mem_base.specs.declared.map.ids.RegionId.{RegionId}
use Rattle.mem_base.specs.declared.views.flat.FlatRange.{FlatRange}
use Rattle.mem_base.specs.script.Spelling.{Text}
use Rattle.mem_base.specs.script.Named.{Names}
use Rattle.view_check.specs.Shown.{first_difference}
use Rattle.view_check.proofs.ShownLaws.{none_shown}
use Rattle.script_check.specs.Blocks.{Printed}
use Rattle.script_check.specs.Verdicts.{IsPrinted, first_verdict, is_of, verdict_by, verdict_from}
use Rattle.script_check.specs.declared.verdicts.Verdict.{Verdict}
use Rattle.script_check.specs.declared.verdicts.Verdict.TheVariants.{Same, Differs, Unprinted}

-- one view settles it, or those after it do
settled : (named : Bool) (found : Option ℕ) (n : ℕ) (rest : Verdict) → first_verdict (if named then verdict_by n found else Unprinted) rest ≡ Same
    → ((named ≡ true) × (found ≡ None)) ⊎ (rest ≡ Same)
settled true None n rest e = inl (refl, refl)
settled true (Some at) n Same e = inr refl
settled true (Some at) n (Differs block there) e = absurd (grind arith)
settled true (Some at) n Unprinted e = absurd (grind arith)
settled false found n rest e = inr e

later : {names : Names} {memory : List RegionId} {name : Text} {view : List FlatRange} (block : Printed) (blocks : List Printed)
    → IsPrinted names memory name view blocks → IsPrinted names memory name view (block ∷ blocks)
later block blocks p = record {
  block = p.block;
  among = Contains-append_right (block ∷ []) blocks p.block p.among;
  named = p.named;
  shown = p.shown;
}

-- a space that is told as the same has a view that was printed of it
pub same_is_printed : (names : Names) (memory : List RegionId) (name : Text) (view : List FlatRange) (n : ℕ) (blocks : List Printed)
    → verdict_from names memory name view n blocks ≡ Same → IsPrinted names memory name view blocks
same_is_printed names memory name view n [] e = absurd (grind arith)
same_is_printed names memory name view n (block ∷ blocks) e =
    elim (settled (is_of name block) (first_difference names memory 0 block.rows view) n (verdict_from names memory name view (n + 1) blocks) e) [
      | inl own ↦ record {
        block = block;
        among = Contains-append_left (block ∷ []) blocks block (Contains-push [] block);
        named = own.0;
        shown = none_shown names memory 0 block.rows view own.1;
      }
      | inr rest ↦ later block blocks (same_is_printed names memory name view (n + 1) blocks rest)
    ]

-- after the last view

nothing_more : (v : Verdict) → first_verdict v Unprinted ≡ v
nothing_more Same = refl
nothing_more Unprinted = refl
nothing_more (Differs block at) = refl

past : (blocks : List Printed) (n : ℕ) → length blocks ≤ n → drop n blocks ≡ []
past [] zero l = refl
past [] (suc n) l = refl
past (block ∷ blocks) zero l = absurd (omega (arith, l))
past (block ∷ blocks) (suc n) l = past blocks n (omega (arith, l))

pub at_end : (names : Names) (memory : List RegionId) (name : Text) (view : List FlatRange) (v : Verdict) (n : ℕ) (blocks : List Printed) (whole : Verdict)
    → length blocks ≤ n → first_verdict v (verdict_from names memory name view n (drop n blocks)) ≡ whole → v ≡ whole
at_end names memory name view v n blocks whole l h =
    sym (nothing_more v) ∙ sym (ap (λ bs. first_verdict v (verdict_from names memory name view n bs)) (past blocks n l)) ∙ h
