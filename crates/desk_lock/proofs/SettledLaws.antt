-- A clerk that gives an order again.
use Rattle.std.proofs.Common.{arith, ◌≡◌, ℕ, suc, ◌+◌, true, sym, subst}
use Rattle.mem_base.specs.declared.machine.records.DeskOrder.{DeskOrder}
use Rattle.mem_base.specs.machine.Records.{Clerk}
use Rattle.desk_orders.specs.Clerks.{wrote_down}
use Rattle.desk_orders.specs.declared.orders.Receipt.{Receipt}
use Rattle.desk_lock.specs.Settled.{WroteHeld, is_held_answer}

plus_one : (n : ℕ) → n + 1 ≡ suc n
plus_one n = omega arith

pub held_again : (n : ℕ) (c e d : Clerk) (order : DeskOrder) (r : Receipt) → WroteHeld n c order e → is_held_answer r.answer ≡ true
    → d ≡ wrote_down e order r → WroteHeld (n + 1) c order d
held_again n c e d order r before held is = subst (λ (m : ℕ). WroteHeld m c order d) (sym (plus_one n)) (e, r, before, held, is)
