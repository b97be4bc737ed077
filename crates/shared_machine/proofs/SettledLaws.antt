-- Turns that were held up, and the one that was answered, are of one cabinet.
use Rattle.std.proofs.Common.{◌≡◌, ◌≢◌, ◌∙◌, ℕ, zero, suc, ◌≤◌, Bool, true, false, Option, Ok, Err, refl, ap}
use Rattle.std.specs.Prelude.{Result}
use Rattle.mem_base.specs.declared.map.calls.Applied.{Applied}
use Rattle.mem_base.specs.declared.map.refusals.Refusal.{Refusal}
use Rattle.mem_base.specs.declared.map.refusals.Refusal.TheVariants.{Memory}
use Rattle.mem_base.specs.machine.Answers.{Answer}
use Rattle.mem_base.specs.machine.Orders.{Order}
use Rattle.mem_base.proofs.BoolLaws.{true_is_not_false}
use Rattle.config_desk.specs.Configs.{ConfigState}
use Rattle.config_desk.specs.Settling.{HeldTurns, IsSettledBy}

abbrev Kept : ConfigState → ConfigState → Type 0
Kept c d = d.seat.cabinet ≡ c.seat.cabinet

held_keep : (n : ℕ) (c d : ConfigState) (k : Order) → HeldTurns n c k d → Kept c d
held_keep zero c d k h = ap (λ x. x.seat.cabinet) h
held_keep (suc n) c d k (e, h, t) = t.turn.made.cabinet ∙ held_keep n c e k h

settled_keeps : (n : ℕ) (c d : ConfigState) (k : Order) (a : Answer) → IsSettledBy n c k a d → Kept c d
settled_keeps n c d k a (e, h, t) = t.made.cabinet ∙ held_keep n c e k h

abbrev is_memory : Refusal → Bool
is_memory Memory = true
is_memory why = false

memory_if : (why : Refusal) → is_memory why ≡ true → why ≡ Memory
memory_if Memory e = refl
memory_if why e = true_is_not_false false e refl

pub keeps_cabinet : (r : Result (Applied × Option ℕ) Refusal) (a : Answer) (c d : ConfigState) (k : Order) (tries : ℕ)
    → (r ≢ Err Memory → (n : ℕ) × (n ≤ tries) × IsSettledBy n c k a d)
    → (r ≡ Err Memory → (n : ℕ) × (n ≤ tries) × HeldTurns n c k d) → Kept c d
keeps_cabinet (Ok x) a c d k tries settled memory = let s = settled (λ e. cc) in settled_keeps s.0 c d k a s.2
keeps_cabinet (Err why) a c d k tries settled memory = go (is_memory why) refl
  where
    go : (b : Bool) → is_memory why ≡ b → Kept c d
    go true is = let m = memory (ap (λ (z : Refusal). Err z) (memory_if why is)) in held_keep m.0 c d k m.2
    go false is =
        let s = settled (λ e. let same : why ≡ Memory = cc in true_is_not_false (is_memory why) (ap (λ (z : Refusal). is_memory z) same) is) in
        settled_keeps s.0 c d k a s.2
