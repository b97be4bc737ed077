-- What a call does before an access and after it, by a pass that was entered or not.
use Rattle.std.specs.Prelude.{◌≡◌, ℕ, ◌≤◌, Bool, true, false, [], is_some, None}
use Rattle.mem_base.specs.machine.Passes.{pass_id}
use Rattle.mem_base.specs.machine.Composites.{enters, leaves}
use Rattle.mem_base.specs.machine.Actors.{number_seen}
use Rattle.generation.specs.Published.{Published}
use Rattle.epoch_rule.specs.Rule.{IsLegal}
use Rattle.epoch_rule.specs.Copies.{ShowsPublished}
use Rattle.epoch_rule.specs.Values.{PassValue}
use Rattle.epoch_rule.specs.Wrote.{Made}
use Rattle.mem_base.specs.machine.PassTurns.{entries_of}
use Rattle.vcpu_pass.specs.Entries.{replies_to_enter, replies_to_leave}
use Rattle.vcpu_pass.specs.Steps.{generation_in}

-- the pass is entered now: it was, or it entered a generation that is no older than what it had seen
pub record HasBegun (entered : Bool) (v w : PassValue Published) : Type 0 where
  pub was : entered ≡ is_some v.edition
  pub inside : is_some w.edition ≡ true
  pub same : entered ≡ true → w ≡ v
  pub cabinet : w.cabinet ≡ v.cabinet
  pub came : entered ≡ false → (looked : ℕ)
      × Made v (entries_of [] (enters (pass_id v.number)) (replies_to_enter looked (generation_in w).number)) w
      × (number_seen v.seen ≤ (generation_in w).number)

-- the pass left, or stays as it was entered before; this is its generation's number, and what it had seen tells of that
pub record HasEnded (entered : Bool) (v : PassValue Published) (number : ℕ) (w : PassValue Published) : Type 0 where
  pub is_number : number ≡ (generation_in v).number
  pub lawful : IsLegal v.sizes v.seen
  pub shown : ShowsPublished (λ x. x.number) (λ x. x.forest) (λ x. x.places) v.seen (generation_in v)
  pub same : entered ≡ true → w ≡ v
  pub left : entered ≡ false → Made v (entries_of [] (leaves (pass_id v.number)) replies_to_leave) w × (w.edition ≡ None)
