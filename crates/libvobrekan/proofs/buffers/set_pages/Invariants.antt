use Rattle.std.proofs.Common.{◌≡◌, drop, length}
use Rattle.std.specs.Prelude.{replicate}
use Rattle.libvobrekan.specs.Buffers.{with_pages}
use Rattle.libvobrekan.proofs.buffers.set_pages.Given as goal

abbrev pub invariant-loop-page : goal.invariant-loop-page
invariant-loop-page l = with_pages (drop l.page-index l.pages) l.words ≡ with_pages l.pages (replicate (length l.fn.words) 0)
