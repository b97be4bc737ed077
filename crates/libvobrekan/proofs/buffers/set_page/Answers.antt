use Rattle.std.proofs.Common.{◌≡◌, ◌*◌, ◌/◌, ◌%◌, ◌^◌, slice_set, bit_or, refl, sym, ap, ◌∙◌, arith}
use Rattle.std.proofs.lemmas.Grind.{one_shifted}
use Rattle.libvobrekan.specs.Buffers.{page_in}
use Rattle.libvobrekan.proofs.buffers.set_page.Goals as goal
use Rattle.mem_base.specs.map.Limits.{pages_per_word}

pub returns-in-Some : goal.returns-in-Some
returns-in-Some c =
    let page = c.args.page in
    let words = c.args.words.now in
    let bit : 1 * 2 ^ (page % pages_per_word) % 18446744073709551616 ≡ 2 ^ (page % pages_per_word) =
    (one_shifted (page % pages_per_word) 18446744073709551615 refl (omega arith)).0 in
    ap (λ b. slice_set words (page / pages_per_word) (bit_or c.in-Some.word b)) bit
    ∙ ap (λ o. page_in o page words) (sym (sym c.word_at.ensures ∙ c.in-Some.is))
