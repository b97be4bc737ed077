-- How accesses to memory end, and where nothing is done.
use Rattle.std.proofs.Common.{◌≡◌, ℕ, false, List, [], ◌∷◌, ◌++◌, length, map, refl, sym, ap, ◌∙◌}
use Rattle.std.specs.Prelude.{replicate}
use Rattle.std.proofs.lemmas.List.{append-nil}
use Rattle.mem_base.specs.declared.map.ids.RegionId.{RegionId}
use Rattle.mem_base.specs.map.PassIds.{PassId}
use Rattle.mem_base.specs.declared.map.kinds.Client.{Client}
use Rattle.mem_base.specs.declared.access.accesses.TxResult.{TxResult}
use Rattle.mem_base.specs.lists.Runs.{Run, touched}
use Rattle.mem_base.specs.map.Limits.{word_size}
use Rattle.mem_base.specs.access.Marks.{marks_of}
use Rattle.mem_base.specs.access.AccessSteps.{reading, writing, blank, marks, result_of, either, tx}
use Rattle.mem_base.specs.access.MemoryAccess.{on_word, on_words, marked}
use Rattle.access_run.specs.Runs.{Makes, HasDone}
use Rattle.access_run.proofs.HandLaws.{results_append}

read_fine : (region : RegionId) (offset n : ℕ) (rs : List Run) → result_of (map (on_word region offset (reading n)) rs) ≡ tx false false
read_fine region offset n [] = refl
read_fine region offset n (r ∷ rs) = ap (either (tx false false)) (read_fine region offset n rs)

write_fine : (region : RegionId) (offset : ℕ) (bs : List ℕ) (rs : List Run) → result_of (map (on_word region offset (writing bs)) rs) ≡ tx false false
write_fine region offset bs [] = refl
write_fine region offset bs (r ∷ rs) = ap (either (tx false false)) (write_fine region offset bs rs)

mark_fine : (region : RegionId) (ms : List (ℕ × Client)) → result_of (map (λ m. marks region m.1 m.0) ms) ≡ tx false false
mark_fine region [] = refl
mark_fine region (m ∷ ms) = ap (either (tx false false)) (mark_fine region ms)

pub words_read_fine : (region : RegionId) (offset n : ℕ) → tx false false ≡ result_of (on_words region offset (reading n))
words_read_fine region offset n = sym (read_fine region offset n (touched word_size offset n))

pub words_taken : (region : RegionId) (offset : ℕ) (bs : List ℕ) → tx false false ≡ result_of (on_words region offset (writing bs))
words_taken region offset bs = sym (write_fine region offset bs (touched word_size offset (length bs)))

pub words_written_fine : (region : RegionId) (log offset : ℕ) (bs : List ℕ)
    → tx false false ≡ result_of (on_words region offset (writing bs) ++ marked region log offset (length bs))
words_written_fine region log offset bs =
    sym (results_append (on_words region offset (writing bs)) (marked region log offset (length bs))
    ∙ (λ i. either (write_fine region offset bs (touched word_size offset (length bs)) i) (mark_fine region (marks_of log offset (length bs)) i)))

-- nothing

pub nothing_done : {S : Type 0} (makes : Makes S) (p : PassId) (x : S) (n : ℕ) (r : TxResult) (bs : List ℕ) → makes x [] [] x → bs ≡ replicate n 0
    → HasDone makes p x (blank n r ∷ []) bs x
nothing_done makes p x n r bs begins e = record { replies = []; made = begins; each = refl; read = e ∙ sym (append-nil (replicate n 0)) }
