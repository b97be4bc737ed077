-- Marks of pages that were written, as words.
use Rattle.std.specs.Prelude.{◌≡◌, ℕ, ◌+◌, ◌-◌, ◌*◌, ◌/◌, ◌<◌, ◌≤◌, List, length, Option, Some, None}
use Rattle.mem_base.specs.declared.map.forests.Forest.{Forest}
use Rattle.mem_base.specs.declared.map.forests.Node.{Node}
use Rattle.mem_base.specs.declared.map.ids.RegionId.{RegionId}
use Rattle.mem_base.specs.declared.map.kinds.Client.{Client}
use Rattle.mem_base.specs.map.Limits.{page_size, pages_per_word}
use Rattle.mem_base.specs.map.Region.{node_of}
use Rattle.mem_base.specs.machine.Orders.{harvest}
use Rattle.mem_base.specs.machine.World.{World}
use Rattle.libvobrekan.specs.declared.answers.Answer.{Answer}
use Rattle.libvobrekan.specs.Answers.{bad_argument}
use Rattle.libvobrekan.specs.Asked.{IsAsked, IsRefused}
use Rattle.libvobrekan.specs.Buffers.{HasPut, put_marked}
use Rattle.libvobrekan.specs.Shown.{current_forest}

-- how many words have a bit for each page of a region; none of one that is not there
abbrev pub words_of_node : Option Node → ℕ
words_of_node None = 0
words_of_node (Some n) = (n.size + (page_size * pages_per_word - 1)) / (page_size * pages_per_word)

abbrev pub mark_words : Forest → RegionId → ℕ
mark_words f region = words_of_node (node_of f.nodes region)

-- the same of a region in the current generation of a handle's machine
abbrev pub words_for : Option World → RegionId → ℕ
words_for None region = 0
words_for (Some w) region = mark_words (current_forest w) region

-- the marks of a region were taken for a client, into a buffer; one that is too short is refused, with the number of words that it takes
pub record Harvests (before : Option World) (region : RegionId) (client : Client) (words : List ℕ) (answer : Answer) (out : List ℕ)
    (after : Option World) : Type 0 where
  pub short : length words < words_for before region → IsRefused before (bad_argument (words_for before region)) answer after × (out ≡ words)
  pub asked : words_for before region ≤ length words → IsAsked before (harvest region client) answer after
  pub put : words_for before region ≤ length words → HasPut before (harvest region client) put_marked answer words out
