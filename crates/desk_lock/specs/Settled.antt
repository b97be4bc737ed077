-- Orders that are given again where a pass holds them up.
use Rattle.std.specs.Prelude.{◌≡◌, ℕ, zero, suc, Bool, true, false}
use Rattle.mem_base.specs.declared.machine.records.DeskOrder.{DeskOrder}
use Rattle.mem_base.specs.declared.machine.records.DeskAnswer.{DeskAnswer}
use Rattle.mem_base.specs.declared.machine.records.DeskAnswer.TheVariants as answers
use Rattle.mem_base.specs.machine.Records.{Clerk}
use Rattle.config_desk.specs.HandedOn.{is_held}
use Rattle.desk_orders.specs.Clerks.{wrote_down}
use Rattle.desk_orders.specs.declared.orders.Receipt.{Receipt}

-- the answer says that a pass holds a publish up
abbrev pub is_held_answer : DeskAnswer → Bool
is_held_answer (answers.Refused why) = is_held why
is_held_answer answer = false

-- the clerk gave the order n times more, and each time it was held up
abbrev pub WroteHeld : ℕ → Clerk → DeskOrder → Clerk → Type 0
WroteHeld zero c order d = d ≡ c
WroteHeld (suc n) c order d =
    (e : Clerk) × (r : Receipt) × WroteHeld n c order e × (is_held_answer r.answer ≡ true) × (d ≡ wrote_down e order r)

-- it gave the order n times in which it was held up, and then once more, and got this receipt
abbrev pub WroteSettled : ℕ → Clerk → DeskOrder → Receipt → Clerk → Type 0
WroteSettled n c order r d = (e : Clerk) × WroteHeld n c order e × (d ≡ wrote_down e order r)
