-- Laws of what callbacks do to registers.
use Rattle.std.proofs.Common.{◌≡◌, ℕ, ◌%◌, ◌^◌, ◌<◌, Some, subst, arith}
use Rattle.std.specs.Prelude.{unwrap_or, option_map}
use Rattle.std.proofs.lemmas.Nat.{mod_below}
use Rattle.mem_base.specs.declared.map.kinds.Device.{Device}
use Rattle.mem_base.specs.declared.map.kinds.DeviceKind.{DeviceKind}
use Rattle.mem_base.specs.declared.map.kinds.DeviceKind.TheVariants.{Latch, Count, Bell, Fault}
use Rattle.mem_base.specs.declared.access.accesses.DeviceStep.TheVariants.{Step, Error}
use Rattle.mem_base.specs.declared.access.cells.WordStep.{WordStep}
use Rattle.mem_base.specs.access.Words.{in_word}
use Rattle.mem_base.specs.access.DeviceAccess.{step_of, stores, sets, word_step, register_of}
use Rattle.access_run.specs.Hands.{IsWriteStep}
use Rattle.mem_base.proofs.WordLaws.{some_power}

stores_bytes : (offset size value : ℕ) → 0 < size → IsWriteStep (stores offset size value)
stores_bytes offset size value some =
    let first : ℕ = offset % 8 in
    let inside : first < 8 = mod_below offset 8 (omega arith) in (
      omega (arith, some, inside),
      omega (arith, inside),
      mod_below value (256 ^ in_word first size) (some_power (in_word first size)),
    )

same_step : (reg other : ℕ) (step found : WordStep) → Step reg step ≡ Step other found → step ≡ found
same_step reg other step found e = cc

-- a write by a callback replaces bytes of its register, or sets bits of it
pub write_kind : (device : Device) (offset size value reg : ℕ) (step : WordStep) → 0 < size
    → step_of device offset size (Some value) ≡ Step reg step → IsWriteStep step
write_kind device offset size value reg step some e = go device.kind e
  where
    r : ℕ
    r = register_of device offset

    go : (k : DeviceKind) → unwrap_or (option_map (λ s. Step r s) (word_step k offset size (Some value))) Error ≡ Step reg step → IsWriteStep step
    go Latch f = subst IsWriteStep (same_step r reg (stores offset size value) step f) (stores_bytes offset size value some)
    go Count f = subst IsWriteStep (same_step r reg (stores offset size value) step f) (stores_bytes offset size value some)
    go Bell f = subst IsWriteStep (same_step r reg (sets offset size value) step f) tt
    go Fault f = cc
