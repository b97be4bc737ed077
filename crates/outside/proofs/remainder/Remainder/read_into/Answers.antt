use Rattle.std.proofs.Common.{◌≡◌, ◌≤◌, length, take, drop, arith, ap, sym, ◌∙◌, refl}
use Rattle.std.proofs.lemmas.List.{drop-drop, length-take-le}
use Rattle.outside.proofs.Came.{part_of_rest, none_left}
use Rattle.outside.proofs.remainder.Remainder.read_into.Goals as goal

pub returns-clause-bytes : goal.returns-clause-bytes
returns-clause-bytes c =
    let bytes = c.args.self.now.bytes.items in
    let at = c.args.self.now.at in
    let k = c.min-count.result in
    let rest : c.split_at.result.1.now ≡ drop at bytes = c.split_at.ensures.back ∙ ap (drop at) c.deref.ensures.value in
    let room : k ≤ length c.args.buf.now = omega (arith, c.min-count.ensures) in
    let copied : length c.copy_from_slice.new.self ≡ k = c.copy_from_slice.ensures.len ∙ length-take-le k c.args.buf.now room in
    let front : c.copy_from_slice.new.self ≡ take k (drop at bytes) = c.copy_from_slice.ensures.after ∙ c.split_at-2.ensures.front ∙ ap (take k) rest in (
      part_of_rest bytes c.copy_from_slice.new.self _ at k copied front (sym (drop-drop k at bytes)),
      λ none some. none_left bytes _ c.copy_from_slice.new.self _ c.args.buf.now at k rest c.min-count.ensures refl copied none some,
    )
