-- Passes that are handed out one after another.
use Rattle.std.proofs.Common.{◌≡◌, ℕ, zero, suc, ◌+◌, ◌-◌, ◌<◌, Bool, true, false, List, [], ◌∷◌, ◌++◌, length, get_or, set, replicate, None, refl, sym, ap}
use Rattle.std.proofs.Common.{subst, ◌∙◌, arith}
use Rattle.std.specs.Prelude.{option_map}
use Rattle.std.proofs.lemmas.List.{length-append, length-replicate}
use Rattle.std.proofs.Math.ListN.{get_or-append}
use Rattle.std.proofs.Math.Seq.{get_or-append_seam}
use borrow.Author.Count.{below_more}
use Rattle.atomic_table.specs.Seated.{TableId}
use Rattle.mem_base.specs.declared.machine.events.HistoryEntry.{HistoryEntry}
use Rattle.mem_base.specs.map.Limits.{most_passes}
use Rattle.mem_base.specs.machine.Passes.{pass_id}
use Rattle.mem_base.specs.script.Race.{pass_state}
use Rattle.generation.specs.Published.{Published}
use Rattle.epoch_rule.specs.Values.{PassValue, WriterValue, first_free}
use Rattle.epoch_rule.specs.Wrote.{IsNewPass}
use Rattle.race_inside.proofs.HandedOn.{IsInItsGeneration, AreReady, RecordState}

-- the first of the passes are out, and the others are not
abbrev pub first_out : ℕ → ℕ → List Bool
first_out i j = replicate i true ++ replicate j false

free_next : (i j : ℕ) → first_free (first_out i (suc j)) ≡ i
free_next zero j = refl
free_next (suc i) j = ap suc (free_next i j)

out_next : (i j : ℕ) → set (first_out i (suc j)) i true ≡ first_out (suc i) j
out_next zero j = refl
out_next (suc i) j = ap (λ (bs : List Bool). true ∷ bs) (out_next i j)

out_length : (i j : ℕ) → length (first_out i j) ≡ i + j
out_length i j =
    let whole = length-append (replicate i true) (replicate j false) in
    let front = length-replicate i true in
    let back = length-replicate j false in
    omega (arith, whole, front, back)

-- of sixteen passes the first i are out
abbrev pub out_of : ℕ → List Bool
out_of i = first_out i (most_passes - i)

left_one : (i : ℕ) → i < most_passes → most_passes - i ≡ suc (most_passes - (i + 1))
left_one i near = omega (arith, near)

pub some_free : (out : List Bool) (i : ℕ) → out ≡ out_of i → i < most_passes → (first_free out ≡ i) × (first_free out < length out)
some_free out i is near =
    let same : out ≡ first_out i (suc (most_passes - (i + 1))) = is ∙ ap (first_out i) (left_one i near) in
    let free : first_free out ≡ i = ap first_free same ∙ free_next i (most_passes - (i + 1)) in
    let long : length out ≡ i + (most_passes - i) = ap length is ∙ out_length i (most_passes - i) in (
      free,
      omega (arith, free, long, near),
    )

pub out_more : (out : List Bool) (i : ℕ) → out ≡ out_of i → i < most_passes → set out i true ≡ out_of (i + 1)
out_more out i is near =
    ap (λ (bs : List Bool). set bs i true) (is ∙ ap (first_out i) (left_one i near)) ∙ out_next i (most_passes - (i + 1))
    ∙ (let one : suc i ≡ i + 1 = omega arith in ap (λ (n : ℕ). first_out n (most_passes - (i + 1))) one)

-- a virtual CPU whose pass was just handed out
pub record IsNewCpu (cabinet : TableId) (number : ℕ) (v : PassValue Published) : Type 0 where
  pub of : v.cabinet ≡ cabinet
  pub number_is : v.number ≡ number
  pub seen_is : v.seen ≡ []
  pub out : v.edition ≡ None

abbrev pub AreNew : TableId → ℕ → List (PassValue Published) → Type 0
AreNew cabinet count cpus = (k : ℕ) (d : PassValue Published) → k < count → IsNewCpu cabinet k (get_or cpus k d)

pub new_cpu : (w : WriterValue) (v : PassValue Published) (cabinet : TableId) (i : ℕ) → IsNewPass w v → w.cabinet ≡ cabinet → first_free w.out ≡ i
    → w.seen ≡ [] → IsNewCpu cabinet i v
new_cpu w v cabinet i n of free seen = record {
  of = n.cabinet ∙ of;
  number_is = n.number ∙ free;
  seen_is = n.seen ∙ seen;
  out = n.edition;
}

pub new_more : (cabinet : TableId) (i : ℕ) (cpus more : List (PassValue Published)) (v : PassValue Published) → length cpus ≡ i → more ≡ cpus ++ v ∷ []
    → AreNew cabinet i cpus → IsNewCpu cabinet i v → AreNew cabinet (i + 1) more
new_more cabinet i cpus more v long is all one k d near =
    below_more (λ (n : ℕ). IsNewCpu cabinet n (get_or more n d)) i
    (λ n l. subst (λ (x : PassValue Published). IsNewCpu cabinet n x)
    (sym (ap (λ (xs : List (PassValue Published)). get_or xs n d) is ∙ get_or-append cpus (v ∷ []) d n (omega (arith, l, long)))) (all n d l))
    (subst (λ (x : PassValue Published). IsNewCpu cabinet i x)
    (sym (ap (λ (xs : List (PassValue Published)). get_or xs i d) is ∙ ap (λ (n : ℕ). get_or (cpus ++ v ∷ []) n d) (sym long)
    ∙ get_or-append_seam cpus v [] d)) one) k near

-- a pass that has seen nothing is in no generation
new_inside : (cabinet : TableId) (i : ℕ) (v : PassValue Published) → IsNewCpu cabinet i v → IsInItsGeneration v
new_inside cabinet i v n =
    ap (λ (xs : List HistoryEntry). (pass_state (pass_id v.number) xs).entered) n.seen_is ∙ sym (ap (option_map (λ g. g.number)) n.out)

pub new_ready : (r : RecordState) (cpus : List (PassValue Published)) → length cpus ≡ most_passes → AreNew r.seat.cabinet most_passes cpus → r.seat.seen ≡ []
    → AreReady r cpus
new_ready r cpus long all none =
    let near : (k : ℕ) → k < length cpus → k < most_passes = λ k l. omega (arith, l, long) in record {
      all = long;
      own = λ k d l. (all k d (near k l)).of;
      level = λ k d l. ((all k d l).number_is, (all k d l).seen_is ∙ sym none);
      inside = λ k d l. new_inside r.seat.cabinet k (get_or cpus k d) (all k d (near k l));
    }
