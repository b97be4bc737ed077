-- What a call puts into a buffer of the caller's: as much as there is room for.
use Rattle.std.specs.Prelude.{◌≡◌, ℕ, ◌/◌, ◌%◌, ◌^◌, ◌++◌, List, [], ◌∷◌, Option, Some, None, Ok, bit_or, drop, length, replicate, slice_get, slice_set, take}
use Rattle.mem_base.specs.declared.map.ids.RegionId.{RegionId}
use Rattle.mem_base.specs.machine.World.{World}
use Rattle.mem_base.specs.machine.Orders.{Order}
use Rattle.mem_base.specs.machine.Answers as machine
use Rattle.mem_base.specs.machine.Composites.{completed}
use Rattle.libvobrekan.specs.declared.answers.Answer.{Answer}
use Rattle.libvobrekan.specs.Answers.{code_memory}
use Rattle.mem_base.specs.map.Limits.{pages_per_word}

-- bytes in the places of a buffer; what is left of it stays as it was
abbrev pub put_bytes : List ℕ → List ℕ → List ℕ
put_bytes bytes places = take (length places) bytes ++ drop (length bytes) places

-- the first things of a list in the places of a buffer, each told in its place; what is left of it stays as it was
abbrev pub put_each : {A B : Type 0} → (A → B) → List A → List B → List B
put_each tell [] places = places
put_each tell (x ∷ xs) [] = []
put_each tell (x ∷ xs) (p ∷ ps) = tell x ∷ put_each tell xs ps

-- regions by their numbers
abbrev pub put_regions : List RegionId → List ℕ → List ℕ
put_regions regions places = put_each (λ r. r.0) regions places

-- page 64 i + b is bit b of word i; a page whose word is none of these is left out
abbrev pub page_in : Option ℕ → ℕ → List ℕ → List ℕ
page_in None page words = words
page_in (Some word) page words = slice_set words (page / pages_per_word) (bit_or word (2 ^ (page % pages_per_word)))

abbrev pub with_page : ℕ → List ℕ → List ℕ
with_page page words = page_in (slice_get words (page / pages_per_word)) page words

-- words with the bits of these pages set too
abbrev pub with_pages : List ℕ → List ℕ → List ℕ
with_pages [] words = words
with_pages (page ∷ pages) words = with_pages pages (with_page page words)

-- What a call of the machine answers, in a buffer

-- the regions that were released
abbrev pub put_released : machine.Answer → List ℕ → List ℕ
put_released (machine.reap_answer (Ok regions)) places = put_regions regions places
put_released answer places = places

-- the pages that were marked, a bit for each
abbrev pub put_marked : machine.Answer → List ℕ → List ℕ
put_marked (machine.harvest_answer (Ok pages)) words = with_pages pages (replicate (length words) 0)
put_marked answer words = words

-- by the machine that was asked, if there was one, and what was answered: the buffer before and after. Where memory ran out it is as it was
abbrev pub HasPut : {A : Type 0} → Option World → Order → (machine.Answer → List A → List A) → Answer → List A → List A → Type 0
HasPut None k put answer before out = out ≡ before
HasPut (Some w) k put answer before out =
    ((answer.code ≡ code_memory → ⊥) → out ≡ put (completed w k).answer before) × (answer.code ≡ code_memory → out ≡ before)
