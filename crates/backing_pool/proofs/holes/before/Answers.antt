use Rattle.std.proofs.Common.{rules, ℕ, ◌<◌, ◌≤◌, nat_lt, arith}
use Rattle.std.proofs.lemmas.Fn.{always_returns_same}
use Rattle.std.proofs.lemmas.Bool.Decides.{nat_tests}
use Rattle.backing_pool.proofs.EditLaws.{parted, every_take, every_drop}
use Rattle.backing_pool.proofs.holes.before.Goals as goal

pub returns-clause-low : goal.returns-clause-low
returns-clause-low c =
    let point = c.partition_point.ensures.partitioned (λ (h : ℕ × ℕ). nat_lt h.0 c.args.word) (always_returns_same _ _ _ (λ a r f' k. search rules))
    (parted c.args.word c.args.holes.now c.requires) in
    every_take (λ (h : ℕ × ℕ). h.0 < c.args.word) c.args.holes.now c.partition_point.result c.partition_point.ensures.bound
    (λ k d a b. let t = point.0 k d a b in grind (arith, nat_tests))

pub returns-clause-high : goal.returns-clause-high
returns-clause-high c =
    let point = c.partition_point.ensures.partitioned (λ (h : ℕ × ℕ). nat_lt h.0 c.args.word) (always_returns_same _ _ _ (λ a r f' k. search rules))
    (parted c.args.word c.args.holes.now c.requires) in
    every_drop (λ (h : ℕ × ℕ). c.args.word ≤ h.0) c.args.holes.now c.partition_point.result
    (λ k d a b. let t = point.1 k d a b in grind (arith, nat_tests))
