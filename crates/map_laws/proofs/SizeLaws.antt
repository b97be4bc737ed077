-- Laws of memory: what is known of its size, and which kinds are memory.
use Rattle.std.proofs.Common.{◌≡◌, ◌≤◌, ◌<◌, ℕ, ◌%◌, Bool, true, false, None, refl, sym, ◌∙◌, arith, eqb-true}
use Rattle.std.specs.Prelude.{◌==◌, ◌&&◌, ◌||◌, not, nat_lt}
use Rattle.std.proofs.lemmas.Bool.{eqb-false}
use Rattle.std.proofs.lemmas.Bool.Decides.{nat_tests}
use Rattle.mem_base.specs.declared.map.kinds.Kind.{Kind}
use Rattle.mem_base.specs.declared.map.kinds.Kind.TheVariants.{Ram, Rom, RomDevice, Host}
use Rattle.mem_base.specs.map.Limits.{most_bytes, page_size}
use Rattle.mem_base.specs.map.Kinds.{has_bytes, is_memory}
use Rattle.mem_base.specs.map.Refusals.{bad_size}
use Rattle.map_laws.proofs.RefusalLaws.{refuse_if-none}

-- what has bytes is memory
pub bytes_memory : (k : Kind) → has_bytes k ≡ true → is_memory k ≡ true
bytes_memory Ram e = refl
bytes_memory Rom e = refl
bytes_memory (RomDevice device) e = refl
bytes_memory Host e = refl
bytes_memory _ e = e

-- what is no memory has no bytes
pub plain_bytes : (k : Kind) → is_memory k ≡ false → has_bytes k ≡ false
plain_bytes Ram e = e
plain_bytes Rom e = e
plain_bytes (RomDevice device) e = e
plain_bytes _ e = refl

-- what has bytes is whole pages, and not too large
pub size_whole : (k : Kind) (size : ℕ) → bad_size k size ≡ None → has_bytes k ≡ true → (0 < size) × (size % page_size ≡ 0) × (size ≤ most_bytes)
size_whole k size none bytes =
    let test : ((size == 0) || is_memory k && not (size % page_size == 0) || has_bytes k && nat_lt most_bytes size) ≡ false = refuse_if-none _ _ none in
    let memory = bytes_memory k bytes in
    go (size == 0) (size % page_size == 0) (nat_lt most_bytes size) refl refl refl
    (sym (λ i. (size == 0) || memory i && not (size % page_size == 0) || bytes i && nat_lt most_bytes size) ∙ test)
  where
    go : (zero whole more : Bool) → (size == 0) ≡ zero → (size % page_size == 0) ≡ whole → nat_lt most_bytes size ≡ more
        → (zero || true && not whole || true && more) ≡ false → (0 < size) × (size % page_size ≡ 0) × (size ≤ most_bytes)
    go true whole more z w m e = cc
    go false false more z w m e = cc
    go false true true z w m e = cc
    go false true false z w m e = let some : size ≡ 0 → ⊥ = eqb-false size 0 z in
        (omega (arith, some), eqb-true (size % page_size) 0 w, grind (arith, nat_tests, m))
