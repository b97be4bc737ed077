-- What a call of the writer with a private event says of its number, its refusal, and what it leaves.
use Rattle.std.proofs.Common.{◌≡◌, ◌≢◌, ◌⊎◌, ⊎_elim, ℕ, Bool, true, List, length, Option, Some, Ok, Err, refl, sym, ap, subst, ◌∙◌}
use Rattle.std.specs.Prelude.{Result, IfErr, IfOk, OnErr}
use Rattle.mem_base.specs.declared.map.calls.Applied.{Applied}
use Rattle.mem_base.specs.declared.map.calls.Config.{Config}
use Rattle.mem_base.specs.declared.map.refusals.Refusal.{Refusal}
use Rattle.mem_base.specs.declared.map.refusals.Refusal.TheVariants.{Memory}
use Rattle.mem_base.specs.machine.Desk as desks
use Rattle.mem_base.specs.machine.Generations.{Generations}
use Rattle.mem_base.specs.machine.Publishing.{held_up, would_publish}
use Rattle.mem_base.specs.machine.Reaps.{Writer}
use Rattle.mem_base.specs.machine.World.{World}
use Rattle.kept_generations.specs.KeptState.{KeptState, generations_of}
use Rattle.writer_desk.specs.declared.idle.IdleDesk.{IdleDesk}
use Rattle.writer_desk.specs.Writers.{is_held}
use Rattle.writer_run.specs.Parts.{part_of}
use Rattle.writer_run.specs.Turns.{number_told}
use Rattle.world_hand.proofs.FlagLaws.{would_with}
use Rattle.world_core.specs.declared.world.World.TheInside.{Inside}
use Rattle.world_core.specs.Worlds.{aside, state_of, unswept, world_of}
use Rattle.world_core.proofs.RestLaws.{Rested, left_so, told_so}

-- a fact that holds after each refusal holds after those that are no want of memory
on_refusal : {A X Y : Type 0} (r : Result A Refusal) → (X → Y) → OnErr r X → IfErr r (λ why. why ≢ Memory → Y)
on_refusal (Ok a) g h = tt
on_refusal (Err why) g h = λ other. g h

module _ (s : Inside) (w : World) (f : Rested s w) (c : Config) (r q : Result (Applied × Option ℕ) Refusal) (same : q ≡ r) (e : IdleDesk) (l : KeptState)
    (vs : List ℕ) (m : KeptState) (flags : ((r ≡ Err Memory) × (m ≡ l)) ⊎ ((r ≢ Err Memory) × (m ≡ unswept l))) where
  abbrev h0 : Writer
  h0 = part_of s.desk (generations_of s.hand.kept)

  abbrev out : World
  out = world_of (state_of e s.due) m vs (aside e.dropped.items s.unfilled.cells)

  publishes_so : would_publish h0.desk c ≡ would_publish w.writer.desk c
  publishes_so = sym (would_with s.hand.kept.swept h0.desk c) ∙ ap (λ (v : World). would_publish v.writer.desk c) f.view

  pub number_is : IfOk r (λ x. x.1 ≡ number_told h0 c) → IfOk q (λ x. x.1 ≡ number_told w.writer c)
  number_is h = subst (λ (z : Result (Applied × Option ℕ) Refusal × Option ℕ). IfOk z.0 (λ x. x.1 ≡ z.1))
      (λ i. (sym same i, (told_so s.desk s.hand.kept s.hand.words f.world c ∙ ap (λ (v : World). number_told v.writer c) f.view) i)) h

  pub cause_is : IfErr r (λ why. why ≢ Memory → is_held why ≡ would_publish h0.desk c)
      → IfErr q (λ why. why ≢ Memory → is_held why ≡ would_publish w.writer.desk c)
  cause_is h = subst (λ (z : Result (Applied × Option ℕ) Refusal × Bool). IfErr z.0 (λ why. why ≢ Memory → is_held why ≡ z.1))
      (λ i. (sym same i, publishes_so i)) h

  same_generations : generations_of m ≡ generations_of l
  same_generations = ⊎_elim (λ a. ap (λ (x : KeptState). generations_of x) a.1) (λ b. ap (λ (x : KeptState). generations_of x) b.1) flags

  pub held_is : IfErr r (λ why. would_publish h0.desk c ≡ true → why ≢ Memory → held_up (generations_of l) ≡ Some why)
      → IfErr q (λ why. would_publish w.writer.desk c ≡ true → why ≢ Memory → held_up out.writer.generations ≡ Some why)
  held_is h = subst (λ (z : Result (Applied × Option ℕ) Refusal × Bool × Generations). IfErr z.0 (λ why. z.1 ≡ true → why ≢ Memory
      → held_up z.2 ≡ Some why)) (λ i. (sym same i, publishes_so i, sym same_generations i)) h

  pub left_is : length l.swept ≡ length l.tracks → OnErr r ((part_of e (generations_of l)).desk ≡ h0.desk)
      → IfErr q (λ why. why ≢ Memory → out.writer.desk ≡ desks.unswept w.writer.desk)
  left_is long h = subst (λ (x : Result (Applied × Option ℕ) Refusal). IfErr x (λ why. why ≢ Memory → out.writer.desk ≡ desks.unswept w.writer.desk)) (sym same)
      (⊎_elim
      (λ a. subst (λ (x : Result (Applied × Option ℕ) Refusal). IfErr x (λ why. why ≢ Memory → out.writer.desk ≡ desks.unswept w.writer.desk))
      (sym a.0) (λ other. absurd (other refl)))
      (λ b. on_refusal r (λ kept.
      (λ i. (world_of (state_of e (f.none_due i)) (b.1 i) vs (aside e.dropped.items (f.none_left i))).writer.desk)
      ∙ left_so s.desk s.hand.kept s.hand.words f.world e l vs kept long ∙ ap (λ (v : World). desks.unswept v.writer.desk) f.view) h)
      flags)
