-- Tries of a private event, one after another: what is so after each of them.
use Rattle.std.proofs.Common.{arith, ◌≡◌, ◌≢◌, ℕ, zero, suc, ◌+◌, ◌≤◌, true, false, refl, sym, ap, subst, ◌∙◌, Option, Some, None, Ok, Err}
use Rattle.std.specs.Prelude.{IfOk, IfErr, OnErr, if◌then◌else◌}
use Rattle.mem_base.specs.declared.map.calls.Config.{Config}
use Rattle.mem_base.specs.declared.map.calls.Config.TheVariants as configs
use Rattle.mem_base.specs.declared.map.refusals.Refusal.TheVariants.{Memory}
use Rattle.mem_base.specs.machine.Desk.{Desk}
use Rattle.mem_base.specs.machine.Orders.{configure}
use Rattle.mem_base.specs.machine.Publishing.{held_up, would_publish}
use Rattle.mem_base.proofs.BoolLaws.{true_is_not_false}
use Rattle.writer_desk.specs.Writers.{is_held}
use Rattle.writer_run.specs.Turns.{answer_by, number_told}
use Rattle.config_desk.specs.Configs.{ConfigState}
use Rattle.config_desk.specs.Settling.{HeldTurn, HeldTurns, IsSettledBy, tells_held, tries_of}
use Rattle.config_desk.specs.Tries.{Answer, AreTries, IsTry, WasTried, is_answered_held}
use Rattle.config_desk.specs.declared.settling.Patience.{Patience}

-- the map and the current number are as before
record IsSame (c d : ConfigState) : Type 0 where
  desk : d.part.desk ≡ c.part.desk
  current : d.part.generations.current ≡ c.part.generations.current

same_after : (n : ℕ) (c d : ConfigState) (k : Config) → HeldTurns n c (configure k) d → IsSame c d
same_after zero c d k h = record { desk = ap (λ x. x.part.desk) h; current = ap (λ x. x.part.generations.current) h }
same_after (suc n) c d k (e, h, t) = let s = same_after n c e k h in record { desk = t.desk ∙ s.desk; current = t.current ∙ s.current }

-- a try that was held up is a turn that was

told_held : (k : Config) (r : Answer) → is_answered_held r ≡ true → tells_held (answer_by k r) ≡ true
told_held k (Ok x) e = true_is_not_false false e refl
told_held (configs.Call call) (Err why) e = e
told_held configs.Commit (Err why) e = e
told_held configs.Begin (Err why) e = e
told_held (configs.Listen listener space priority) (Err why) e = e
told_held (configs.Unlisten listener) (Err why) e = e

not_memory : (r : Answer) → is_answered_held r ≡ true → r ≢ Err Memory
not_memory r e is = true_is_not_false false (ap is_answered_held (sym is) ∙ e) refl

of_error : (r : Answer) (P : Type 0) → is_answered_held r ≡ true → OnErr r P → P
of_error (Ok x) P e p = true_is_not_false false e refl
of_error (Err why) P e p = p

held_turn : (c d : ConfigState) (k : Config) (r : Answer) → is_answered_held r ≡ true → IsTry c k r d → HeldTurn c (configure k) d
held_turn c d k r e t = record {
  answer = answer_by k r;
  held = told_held k r e;
  turn = t.turn (not_memory r e);
  desk = of_error r (d.part.desk ≡ c.part.desk) e t.left;
  current = of_error r (d.part.generations.current ≡ c.part.generations.current) e t.current;
}

pub first_try : (c d : ConfigState) (k : Config) (r : Answer) → IsTry c k r d → AreTries 0 c k r d
first_try c d k r t = record { before = c; turns = refl; last = t }

pub next_try : (n : ℕ) (c d e : ConfigState) (k : Config) (r q : Answer) → is_answered_held r ≡ true → AreTries n c k r d → IsTry d k q e
    → AreTries (n + 1) c k q e
next_try n c d e k r q held a t = record {
  before = d;
  turns = subst (λ (m : ℕ). HeldTurns m c (configure k) d) (sym (plus_one n)) (a.before, a.turns, held_turn a.before d k r held a.last);
  last = t;
}
  where
    plus_one : (n : ℕ) → n + 1 ≡ suc n
    plus_one n = omega arith

pub was_tried : (p : Patience) (c d : ConfigState) (k : Config) (r : Answer) (n left : ℕ) → n + left ≡ tries_of p → AreTries n c k r d
    → (is_answered_held r ≡ true → left ≡ 0) → WasTried p c k r d
was_tried p c d k r n left each a none = record {
  held = n;
  few = omega (arith, each);
  all = λ e. let z = none e in omega (arith, each, z);
  tries = a;
}

-- what the tries come to

module _ (p : Patience) (c d : ConfigState) (k : Config) (r : Answer) (w : WasTried p c k r d) where
  abbrev a : AreTries w.held c k r d
  a = w.tries

  same : IsSame c a.before
  same = same_after w.held c a.before k a.turns

  pub is_settled : r ≢ Err Memory → (n : ℕ) × (n ≤ tries_of p) × IsSettledBy n c (configure k) (answer_by k r) d
  is_settled other = (w.held, w.few, (a.before, a.turns, a.last.turn other))

  pub are_held : r ≡ Err Memory → (n : ℕ) × (n ≤ tries_of p) × HeldTurns n c (configure k) d
  are_held out = (w.held, w.few, subst (λ (x : ConfigState). HeldTurns w.held c (configure k) x) (sym (a.last.unchanged out)) a.turns)

  pub number_is : IfOk r (λ x. x.1 ≡ number_told c.part k)
  number_is = subst (λ (o : Option ℕ). IfOk r (λ x. x.1 ≡ o)) told a.last.number
    where
      told : number_told a.before.part k ≡ number_told c.part k
      told = λ i. if would_publish (same.desk i) k then Some (same.current i + 1) else None

  pub cause_is : IfErr r (λ why. why ≢ Memory → is_held why ≡ would_publish c.part.desk k)
  cause_is = subst (λ (x : Desk). IfErr r (λ why. why ≢ Memory → is_held why ≡ would_publish x k)) same.desk a.last.cause

  pub named_is : IfErr r (λ why. would_publish c.part.desk k ≡ true → why ≢ Memory → held_up d.part.generations ≡ Some why)
  named_is = subst (λ (x : Desk). IfErr r (λ why. would_publish x k ≡ true → why ≢ Memory → held_up d.part.generations ≡ Some why)) same.desk a.last.held

  pub left_is : OnErr r (d.part.desk ≡ c.part.desk)
  left_is = subst (λ (x : Desk). OnErr r (d.part.desk ≡ x)) same.desk a.last.left

pub held_each_time : (p : Patience) (c d : ConfigState) (k : Config) (r : Answer) → WasTried p c k r d
    → IfErr r (λ why. is_held why ≡ true → IsSettledBy (tries_of p) c (configure k) (answer_by k r) d)
held_each_time p c d k (Ok x) w = tt
held_each_time p c d k (Err why) w = λ e.
    subst (λ (n : ℕ). IsSettledBy n c (configure k) (answer_by k (Err why)) d) (w.all e)
    (w.tries.before, w.tries.turns, w.tries.last.turn (not_memory (Err why) e))
