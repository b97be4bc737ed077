-- Worked parts and notices, by computing.
use Rattle.std.proofs.Common.{refl}
use Rattle.machine_rows.specs.PartRows.{PartRows}

pub rows : PartRows
rows = record {
  both-pages = refl;
  at-the-edges = refl;
  between-the-pages = refl;
  of-an-iommu-region = refl;
  of-another-kind = refl;
  of-no-region = refl;
  joins = refl;
  leaves = refl;
  stays = refl;
  other-from = refl;
  other-to = refl;
  other-space = refl;
  other-address = refl;
  other-permission = refl;
  same-permissions = refl;
  replays = refl;
  side-by-side = refl;
  before-it = refl;
  meets-at-the-end = refl;
  meets-at-the-start = refl;
  mapped-twice = refl;
  not-there = refl;
  its-own = refl;
}
