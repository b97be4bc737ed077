-- How the clerks' lists stand to the record can be told, whatever they are.
use Rattle.std.proofs.Common.{◌≡◌, ◌⊎◌, ℕ, suc, true, eqb, List, [], ◌∷◌, ◌++◌, length, refl, sym, ap, arith, Option, Some, None, option_map, inl, inr}
use Rattle.std.specs.List.{list_any}
use Rattle.mem_base.specs.declared.machine.records.DeskEntry.{DeskEntry}
use Rattle.mem_base.specs.declared.machine.records.Differs.{Differs}
use Rattle.mem_base.specs.lists.Every.{Every}
use Rattle.mem_base.specs.machine.Records.{Clerk, Closes, DifferAt, HasDiffering, IsOfRecord, entries_by, first_stray}
use Rattle.mem_base.specs.script.Race.{Phase, MayDiffer, alone, block}
use Rattle.view_laws.proofs.Tests.{none_is_not_some}
use Rattle.race_laws.specs.Stopped.{MayClose}
use Rattle.race_laws.proofs.GoesOn.{add_got}
use Rattle.race_laws.proofs.CourseLaws.{closes_on}
use Rattle.race_laws.proofs.Telling.{entry_discrete}
use Rattle.std.proofs.lemmas.Option.{same_Some}

no_tail : (y : DeskEntry) (ys : List DeskEntry) → [] ≡ y ∷ ys → ⊥
no_tail y ys e = let same : 0 ≡ length (y ∷ ys) = ap length e in omega (arith, same)

-- two lists are the same, or there is a first place at which they are not
same_or_differ : (xs ys : List DeskEntry) → (xs ≡ ys) ⊎ ((at : ℕ) × DifferAt at xs ys)
same_or_differ [] [] = inl refl
same_or_differ [] (y ∷ ys) = inr (0, (refl, λ e. none_is_not_some y e))
same_or_differ (x ∷ xs) [] = inr (0, (refl, λ e. none_is_not_some x (sym e)))
same_or_differ (x ∷ xs) (y ∷ ys) = go (entry_discrete x y) (same_or_differ xs ys)
  where
    go : Dec (x ≡ y) → (xs ≡ ys) ⊎ ((at : ℕ) × DifferAt at xs ys) → (x ∷ xs ≡ y ∷ ys) ⊎ ((at : ℕ) × DifferAt at (x ∷ xs) (y ∷ ys))
    go (no p) rest = inr (0, (refl, λ e. p (same_Some x y e)))
    go (yes p) (inl q) = inl (λ i. p i ∷ q i)
    go (yes p) (inr d) = inr (suc d.0, ((λ i. p i ∷ d.1.0 i), d.1.1))

module _ (entries : List DeskEntry) (all : List Clerk) where
  -- all of these clerks agree with the record, or there is a first that does not
  agree_or_differ : (cs : List Clerk) → Every (IsOfRecord entries) cs ⊎ ((d : Differs) × HasDiffering entries all cs d)
  agree_or_differ [] = inl tt
  agree_or_differ (c ∷ cs) = go (same_or_differ c.got (entries_by c.who entries)) (agree_or_differ cs)
    where
      go : (IsOfRecord entries c) ⊎ ((at : ℕ) × DifferAt at c.got (entries_by c.who entries))
          → Every (IsOfRecord entries) cs ⊎ ((d : Differs) × HasDiffering entries all cs d)
          → Every (IsOfRecord entries) (c ∷ cs) ⊎ ((d : Differs) × HasDiffering entries all (c ∷ cs) d)
      go (inl is) (inl rest) = inl (is, rest)
      go (inl is) (inr d) = inr (d.0, inl (is, d.1))
      go (inr p) rest = inr (record { who = c.who; at = p.0 }, inr (refl, p.1))

  -- where all agree, what is left is an entry of no clerk
  stray : (e : DeskEntry) → first_stray all entries ≡ Some e → (cs : List Clerk) → Every (IsOfRecord entries) cs
      → HasDiffering entries all cs (record { who = e.who; at = 0 })
  stray e is [] h = (ap (λ (o : Option DeskEntry). option_map (λ e. e.who) o) is, refl)
  stray e is (c ∷ cs) h = inl (h.0, stray e is cs h.1)

closes_some : (entries : List DeskEntry) (clerks : List Clerk) → (d : Option Differs) × Closes entries clerks d
closes_some entries clerks = go (agree_or_differ entries clerks clerks)
  where
    by_stray : Every (IsOfRecord entries) clerks → (o : Option DeskEntry) → first_stray clerks entries ≡ o → (d : Option Differs) × Closes entries clerks d
    by_stray h None is = (None, (h, is))
    by_stray h (Some e) is = (Some (record { who = e.who; at = 0 }), stray entries clerks e is clerks h)

    go : Every (IsOfRecord entries) clerks ⊎ ((d : Differs) × HasDiffering entries clerks clerks d) → (d : Option Differs) × Closes entries clerks d
    go (inl h) = by_stray h (first_stray clerks entries) refl
    go (inr d) = (Some d.0, d.1)

-- where they may differ, the difference is told
pub record HasClosed (phase : Phase) (entries : List DeskEntry) (clerks : List Clerk) : Type 0 where
  pub differs : Option Differs
  pub closes : Closes entries clerks differs
  pub may : MayDiffer phase differs

pub closed : (phase : Phase) (entries : List DeskEntry) (clerks : List Clerk) → MayClose phase entries clerks → HasClosed phase entries clerks
closed (alone line) entries clerks h = record { differs = None; closes = h; may = refl }
closed (block lines) entries clerks h = let d = closes_some entries clerks in record { differs = d.0; closes = d.1; may = tt }

pub may_close_on : (phase : Phase) (es : List DeskEntry) (e : DeskEntry) (cs : List Clerk) → MayClose phase es cs
    → list_any (λ (c : Clerk). eqb c.who e.who) cs ≡ true → MayClose phase (es ++ e ∷ []) (add_got e.who e cs)
may_close_on (alone line) es e cs h there = closes_on es e cs h there
may_close_on (block lines) es e cs h there = tt
