-- Pages of translations, and the next translation that lets an access through.
use Rattle.std.specs.Prelude.{◌≡◌, ℕ, ◌+◌, ◌&&◌, Bool, nat_lt, List, Option, None, find}
use Rattle.mem_base.specs.declared.map.translations.Entry.{Entry}
use Rattle.mem_base.specs.lists.Every.{Every}
use Rattle.mem_base.specs.map.TableRefusals.{bad_page}
use Rattle.mem_base.specs.access.Translations.{permits}

-- each page is one that a translation may have: its size is a power of two, and it begins at a multiple of that
abbrev pub ArePages : List Entry → Type 0
ArePages entries = Every (λ e. bad_page e.iova (e.mask + 1) ≡ None) entries

-- the translation begins after the offset, and lets the access through
abbrev pub is_ahead : Bool → ℕ → Entry → Bool
is_ahead write offset e = nat_lt offset e.iova && permits write e.perm

-- the first translation after the offset that lets the access through
abbrev pub next_ahead : Bool → ℕ → List Entry → Option Entry
next_ahead write offset entries = find (is_ahead write offset) entries
