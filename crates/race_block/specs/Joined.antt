-- What all have seen after a block.
use Rattle.std.specs.Prelude.{◌≡◌, ℕ, []}
use mathlib.Core.List.{IsPrefix}
use Rattle.std.specs.Prelude.{List}
use Rattle.atomic_table.specs.Seated.{TableId}
use Rattle.mem_base.specs.declared.machine.events.HistoryEntry.{HistoryEntry}
use Rattle.mem_base.specs.machine.Records.{Clerk}
use Rattle.pass_lines.specs.Doing.{Grew}
use Rattle.race_block.specs.declared.blocks.BlockActor.{BlockActor}
use Rattle.race_block.specs.declared.blocks.BlockActor.TheVariants.{Desk, Pass, Gone}
use Rattle.race_block.specs.declared.desks.DeskActor.{DeskActor}
use Rattle.race_block.specs.declared.passes.PassActor.{PassActor}
use Rattle.race_block.specs.Desks.{AreNotesOf, HasHeard}
use Rattle.race_block.specs.Desks as desks
use Rattle.race_block.specs.Lines as passes

-- the virtual CPU of an actor, or the notes of its orders, are of this cabinet
abbrev pub IsOf : TableId → BlockActor → Type 0
IsOf cabinet (Pass a) = a.vcpu.cabinet ≡ cabinet
IsOf cabinet (Desk a) = AreNotesOf cabinet a.notes.items
IsOf cabinet Gone = Unit {0}

-- the virtual CPU of an actor, if it has one, is of this cabinet
abbrev pub IsVcpuOf : TableId → BlockActor → Type 0
IsVcpuOf cabinet (Pass a) = a.vcpu.cabinet ≡ cabinet
IsVcpuOf cabinet _ = Unit {0}

-- a clerk of this number that has written nothing down
abbrev pub IsNew : ℕ → Clerk → Type 0
IsNew who c = c ≡ record { who = who; got = [] }

-- the desk has told its notes, and is as it was
pub record HasToldNotes (a b : DeskActor) : Type 0 where
  pub known : b.known ≡ a.known
  pub clerk : b.clerk ≡ a.clerk
  pub lines : b.lines ≡ a.lines
  pub said : b.said ≡ a.said
  pub out_of_memory : b.out_of_memory ≡ a.out_of_memory

-- the history begins with what an actor has seen, and the actor is as it was but for its notes
abbrev pub HasTold : List HistoryEntry → BlockActor → BlockActor → Type 0
HasTold seen (Pass a) (Pass b) = IsPrefix a.vcpu.seen seen × (b ≡ a)
HasTold seen (Desk a) (Desk b) = HasHeard a.notes.items seen × HasToldNotes a b
HasTold seen Gone Gone = Unit {0}
HasTold seen _ _ = ⊥

-- what the virtual CPU of an actor has seen is a first part of this history
abbrev pub IsHeard : List HistoryEntry → BlockActor → Type 0
IsHeard seen (Pass a) = IsPrefix a.vcpu.seen seen
IsHeard seen _ = Unit {0}

-- the virtual CPU has seen just this history, and made nothing for it; else the actor is as it was
pub record HasMetPass (seen : List HistoryEntry) (a b : PassActor) : Type 0 where
  pub level : b.vcpu.seen ≡ seen
  pub grew : Grew a.vcpu [] b.vcpu
  pub edition : b.vcpu.edition ≡ a.vcpu.edition
  pub bounce : b.bounce ≡ a.bounce
  pub clerk : b.clerk ≡ a.clerk
  pub lines : b.lines ≡ a.lines
  pub got : b.got ≡ a.got
  pub out_of_memory : b.out_of_memory ≡ a.out_of_memory
  pub text : b.text ≡ a.text

abbrev pub HasMet : List HistoryEntry → BlockActor → BlockActor → Type 0
HasMet seen (Pass a) (Pass b) = HasMetPass seen a b
HasMet seen (Desk a) (Desk b) = b ≡ a
HasMet seen Gone Gone = Unit {0}
HasMet seen _ _ = ⊥

-- the clerk of an actor, and the actor with a new one
abbrev pub new_clerk : ℕ → Clerk
new_clerk who = record { who = who; got = [] }

abbrev pub clerk_of : BlockActor → Clerk
clerk_of (Desk a) = a.clerk
clerk_of (Pass a) = a.clerk
clerk_of Gone = new_clerk 0

abbrev pub without_clerk : BlockActor → BlockActor
without_clerk (Desk a) = Desk (record a { clerk = new_clerk a.clerk.who })
without_clerk (Pass a) = Pass (record a { clerk = new_clerk a.clerk.who })
without_clerk Gone = Gone

-- what a clerk has: its number, and the entries of what it ordered
abbrev pub Noted : Type 0
Noted = Clerk

-- A pass after the block: it did its lines, or the first of them, and then its virtual CPU has seen just this history; the clerk that it had then is
-- this one
pub record HasJoinedPass (seen : List HistoryEntry) (a b : PassActor) (c : Clerk) : Type 0 where
  pub after : PassActor
  pub run : passes.HasRun a after
  pub clerk : c ≡ after.clerk
  pub heard : IsPrefix after.vcpu.seen seen
  pub level : b.vcpu.seen ≡ seen
  pub grew : Grew after.vcpu [] b.vcpu
  pub edition : b.vcpu.edition ≡ after.vcpu.edition
  pub bounce : b.bounce ≡ after.bounce
  pub lines : b.lines ≡ after.lines
  pub got : b.got ≡ after.got
  pub out_of_memory : b.out_of_memory ≡ after.out_of_memory
  pub text : b.text ≡ after.text

-- The desk after the block: it did its lines, or the first of them, and the history begins with what the notes of all its orders had seen
pub record HasJoinedDesk (seen : List HistoryEntry) (a b : DeskActor) (c : Clerk) : Type 0 where
  pub after : DeskActor
  pub run : desks.HasRun a after
  pub clerk : c ≡ after.clerk
  pub heard : HasHeard after.notes.items seen
  pub known : b.known ≡ after.known
  pub lines : b.lines ≡ after.lines
  pub said : b.said ≡ after.said
  pub out_of_memory : b.out_of_memory ≡ after.out_of_memory

abbrev pub HasJoined : List HistoryEntry → BlockActor → BlockActor → Clerk → Type 0
HasJoined seen (Pass a) (Pass b) c = HasJoinedPass seen a b c
HasJoined seen (Desk a) (Desk b) c = HasJoinedDesk seen a b c
HasJoined seen Gone Gone c = Unit {0}
HasJoined seen _ _ c = ⊥
