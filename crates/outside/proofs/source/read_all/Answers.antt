use Rattle.std.proofs.Common.{◌++◌, take}
use Rattle.outside.proofs.Came.{Consumes-append}
use Rattle.outside.proofs.source.read_all.Goals as goal

-- where there is no memory for the bytes that came, they are gone from the source too
pub returns-in_err-extend_from_slice-clause-prefix : goal.returns-in_err-extend_from_slice-clause-prefix
returns-in_err-extend_from_slice-clause-prefix g c =
    let got = take c.in-Ok.count c.read.new.buf in (
      c.loop-buffer.bytes.items ++ got,
      Consumes-append _ (g.S.Source.left c.loop-buffer.source) _ c.loop-buffer.bytes.items got c.loop-buffer.invariant.0 c.in-Ok.ensures.bytes.0,
    )
