-- The actors of a block after it: their virtual CPUs, what is known, and what they write.
use Rattle.std.proofs.Common.{◌≡◌, ℕ, suc, ◌<◌, false, List, [], ◌∷◌, ◌++◌, length, take, get_or, refl, sym, ap, ◌∙◌, arith}
use Rattle.std.proofs.Common.{Option, Some, None, option_map, ◌⊎◌, inl, inr}
use Rattle.std.specs.Prelude.{flat_map}
use Rattle.std.specs.List.{list_any}
use Rattle.mem_base.proofs.BoolLaws.{neither_first, neither_second}
use Rattle.mem_base.specs.lists.Every.{Every}
use Rattle.mem_base.specs.map.Limits.{most_passes}
use Rattle.mem_base.specs.views.Listening.{Delivery}
use Rattle.mem_base.specs.machine.Passes.{PassState, pass_id}
use Rattle.mem_base.specs.machine.Records.{Clerk}
use Rattle.mem_base.specs.script.Named.{Names}
use Rattle.mem_base.specs.script.RaceLines.{Said, said_text}
use Rattle.mem_base.specs.script.Scripts.{Line}
use Rattle.mem_base.specs.script.Spelling.{Text}
use Rattle.mem_base.specs.script.Tasks.{Known}
use Rattle.mem_base.specs.script.Race.{block, lines_by}
use Rattle.generation.specs.Published.{Published}
use Rattle.race_block.proofs.HandedOn.{IsInItsGeneration, state_seen, state_then}
use Rattle.desk_orders.specs.Records.{RecordState}
use Rattle.race_block.specs.declared.blocks.BlockActor.{BlockActor}
use Rattle.race_block.specs.declared.blocks.BlockActor.TheVariants.{Desk, Pass, Gone}
use Rattle.race_block.specs.declared.passes.PassActor.{PassActor}
use Rattle.race_block.specs.Blocks.{CanAct}
use Rattle.race_block.specs.Laws.{HasKept, saids}
use Rattle.race_block.specs.Resolving.{tasks_in}
use Rattle.race_block.specs.Texts.{lines_said}
use Rattle.race_block.proofs.KeptLaws.{passes_keep_lines}
use Rattle.race_block.specs.Joined.{HasJoined, HasJoinedPass}
use Rattle.race_seats.specs.Starts.{AreAtStart, IsAtStart, PassStarts}
use Rattle.race_seats.specs.Ran.{actor_text, actors_text, is_out_of_memory, known_after_block}
use Rattle.race_seats.specs.Seats.{AreActorsOf, HaveSeatOf, IsKnown, IsSeatOf, SeatsDesk, acting, known_now}
use Rattle.race_seats.specs.Texts.{actor_said, actors_said, names_now, text_or}
use Rattle.race_seats.proofs.PassLaws.{FirstDone, first_done, listed}

-- a pass after the block
module _ (k : Known) (lines : List Line) (v w : RecordState) (who : ℕ) (a b : PassActor) (c : Clerk) (starts : PassStarts k lines v.seat.seen who a)
    (can : CanAct v.seat.cabinet (Pass a)) (same : w.seat.cabinet ≡ v.seat.cabinet) (j : HasJoinedPass w.seat.seen a b c) where
  abbrev count : ℕ
  count = length j.run.all

  first : FirstDone k count (lines_by who (block lines)) j.run.tasks j.after.out_of_memory
  first = first_done k count (lines_by who (block lines)) a.lines j.run.tasks j.after.out_of_memory starts.lines_are j.run.lines j.run.whole

  kept : HasKept k first.front a.clerk a.vcpu j.run.all j.after.clerk j.after.vcpu
  kept = passes_keep_lines k first.front (take count j.run.tasks) a.clerk a.vcpu j.run.all j.after.clerk j.after.vcpu j.run.ran first.tasks can.0.inside

  number : b.vcpu.number ≡ who
  number = j.grew.number ∙ kept.grew.number ∙ starts.number

  inside : IsInItsGeneration b.vcpu
  inside =
      let same_state : state_seen b.vcpu ≡ state_seen j.after.vcpu = state_then j.after.vcpu b.vcpu [] j.grew in
      ap (λ (s : PassState). s.entered) same_state ∙ kept.inside ∙ ap (λ (e : Option Published). option_map (λ g. g.number) e) (sym j.edition)

  pub pass_seat : IsSeatOf w who b.vcpu
  pass_seat = record {
    number = number;
    level = j.level;
    own = j.grew.cabinet ∙ kept.grew.cabinet ∙ can.1 ∙ sym same;
    inside = inside;
  }

  pub pass_text : b.out_of_memory ≡ false → (names : Names) (journal : List Delivery)
      → actor_said names journal (Pass b) c ≡ actor_text k lines names journal (Pass b) c
  pass_text lasted names journal = go b.text refl
    where
      go : (t : Option Text) → b.text ≡ t
          → text_or t (flat_map (said_text names journal) (lines_said names (pass_id b.vcpu.number) (tasks_in b.lines) b.got.items c.got))
          ≡ text_or t (flat_map (said_text names journal)
          (saids names k (pass_id b.vcpu.number) (lines_by b.vcpu.number (block lines)) b.got.items c.got))
      go (Some text) is = refl
      go None is = ap (λ (ss : List Said). flat_map (said_text names journal) ss)
          (listed k lines v.seat.seen w.seat.seen who a b c starts can.0 j lasted is names)

module _ (k : Known) (lines : List Line) (v w : RecordState) (same : w.seat.cabinet ≡ v.seat.cabinet) where
  -- what each actor is after the block
  abbrev pub HaveJoined : List BlockActor → List BlockActor → List Clerk → Type 0
  HaveJoined olds news clerks = (i : ℕ) (d : BlockActor) (c : Clerk) → i < length olds
      → HasJoined w.seat.seen (get_or olds i d) (get_or news i d) (get_or clerks i c)

  joined_rest : (a b : BlockActor) (c : Clerk) (olds news : List BlockActor) (clerks : List Clerk) → HaveJoined (a ∷ olds) (b ∷ news) (c ∷ clerks)
      → HaveJoined olds news clerks
  joined_rest a b c olds news clerks h i d e l = h (suc i) d e (omega (arith, l))

  joined_first : (a b : BlockActor) (c : Clerk) (olds news : List BlockActor) (clerks : List Clerk) → HaveJoined (a ∷ olds) (b ∷ news) (c ∷ clerks)
      → HasJoined w.seat.seen a b c
  joined_first a b c olds news clerks h = h 0 a c (omega arith)

  one_seat : (who : ℕ) (a b : BlockActor) (c : Clerk) → who < most_passes → IsAtStart k lines v.seat.seen who a → CanAct v.seat.cabinet a
      → HasJoined w.seat.seen a b c → HaveSeatOf w who b
  one_seat who (Pass a) (Pass b) c near s can j = pass_seat k lines v w who a b c s can same j
  one_seat who (Desk a) b c near s can j = absurd (let is = s.0 in omega (arith, near, is))
  one_seat who Gone b c near s can j = absurd s
  one_seat who (Pass a) (Desk b) c near s can j = absurd j
  one_seat who (Pass a) Gone c near s can j = absurd j

  -- the passes have seen just what the record has
  pub seats_after : (whos : List ℕ) (olds news : List BlockActor) (clerks : List Clerk) → Every (λ p. p < most_passes) whos
      → AreAtStart k lines v.seat.seen whos olds → Every (CanAct v.seat.cabinet) olds → length news ≡ length olds → length clerks ≡ length olds
      → HaveJoined olds news clerks → AreActorsOf w whos news
  seats_after [] [] [] clerks near starts can long wide h = tt
  seats_after [] [] (b ∷ news) clerks near starts can long wide h = absurd (omega (arith, long))
  seats_after (p ∷ ps) (a ∷ olds) (b ∷ news) (c ∷ clerks) near starts can long wide h = (
    one_seat p a b c near.0 starts.0 can.0 (joined_first a b c olds news clerks h),
    seats_after ps olds news clerks near.1 starts.1 can.1 (omega (arith, long)) (omega (arith, wide)) (joined_rest a b c olds news clerks h),
  )
  seats_after (p ∷ ps) (a ∷ olds) [] clerks near starts can long wide h = absurd (omega (arith, long))
  seats_after (p ∷ ps) (a ∷ olds) (b ∷ news) [] near starts can long wide h = absurd (omega (arith, wide))
  seats_after [] (a ∷ olds) news clerks near starts can long wide h = absurd starts
  seats_after (p ∷ ps) [] news clerks near starts can long wide h = absurd starts

  one_text : (who : ℕ) (names : Names) (journal : List Delivery) (a b : BlockActor) (c : Clerk) → IsAtStart k lines v.seat.seen who a
      → CanAct v.seat.cabinet a → HasJoined w.seat.seen a b c → is_out_of_memory b ≡ false
      → actor_said names journal b c ≡ actor_text k lines names journal b c
  one_text who names journal (Pass a) (Pass b) c s can j lasted = pass_text k lines v w who a b c s can same j lasted names journal
  one_text who names journal (Desk a) (Desk b) c s can j lasted = refl
  one_text who names journal a Gone c s can j lasted = refl
  one_text who names journal (Pass a) (Desk b) c s can j lasted = absurd j
  one_text who names journal (Desk a) (Pass b) c s can j lasted = absurd j
  one_text who names journal Gone (Pass b) c s can j lasted = absurd s
  one_text who names journal Gone (Desk b) c s can j lasted = absurd s

  -- what they write
  pub texts_after : (names : Names) (journal : List Delivery) (whos : List ℕ) (olds news : List BlockActor) (clerks : List Clerk)
      → AreAtStart k lines v.seat.seen whos olds → Every (CanAct v.seat.cabinet) olds → length news ≡ length olds → length clerks ≡ length olds
      → HaveJoined olds news clerks → list_any is_out_of_memory news ≡ false
      → actors_said names journal news clerks ≡ actors_text k lines names journal news clerks
  texts_after names journal whos olds [] clerks starts can long wide h lasted = refl
  texts_after names journal whos [] (b ∷ news) clerks starts can long wide h lasted = absurd (omega (arith, long))
  texts_after names journal whos (a ∷ olds) (b ∷ news) [] starts can long wide h lasted = refl
  texts_after names journal [] (a ∷ olds) (b ∷ news) (c ∷ clerks) starts can long wide h lasted = absurd starts
  texts_after names journal (who ∷ whos) (a ∷ olds) (b ∷ news) (c ∷ clerks) starts can long wide h lasted =
      let first = neither_first (is_out_of_memory b) (list_any is_out_of_memory news) lasted in
      let rest = neither_second (is_out_of_memory b) (list_any is_out_of_memory news) lasted in
      (λ i. one_text who names journal a b c starts.0 can.0 (joined_first a b c olds news clerks h) first i
      ++ texts_after names journal whos olds news clerks starts.1 can.1 (omega (arith, long)) (omega (arith, wide))
      (joined_rest a b c olds news clerks h) rest i)

  -- where no desk is among them, it is known what was
  pub known_passes : (ps : List ℕ) (news : List BlockActor) → AreActorsOf w ps news → known_after_block k news ≡ k
  known_passes [] [] h = refl
  known_passes (p ∷ ps) (Pass b ∷ news) h = known_passes ps news h.1
  known_passes (p ∷ ps) (Desk b ∷ news) h = absurd h.0
  known_passes (p ∷ ps) (Gone ∷ news) h = absurd h.0
  known_passes [] (b ∷ news) h = absurd h
  known_passes (p ∷ ps) [] h = absurd h

  -- the desk, if it acted, and the passes
  pub record Parted (keeps : Option Known) (news : List BlockActor) : Type 0 where
    pub front : List BlockActor
    pub passes : List BlockActor
    pub is : news ≡ front ++ passes
    pub seats : AreActorsOf w (acting lines most_passes) passes
    pub known : IsKnown keeps news
    pub kept : IsKnown keeps front
    pub now : known_now k keeps front ≡ known_after_block k news
    pub names : names_now keeps news ≡ (known_after_block k news).names
    pub few : (front ≡ []) ⊎ ((b : BlockActor) × (front ≡ b ∷ []))

  pub parted : (keeps : Option Known) (front passes news : List BlockActor) (clerks : List Clerk) → SeatsDesk k lines keeps front
      → Every (λ p. p < most_passes) (acting lines most_passes)
      → AreAtStart k lines v.seat.seen (acting lines most_passes) passes → Every (CanAct v.seat.cabinet) passes
      → length news ≡ length (front ++ passes) → length clerks ≡ length (front ++ passes) → HaveJoined (front ++ passes) news clerks → Parted keeps news
  parted (Some x) [] passes news clerks desk near starts can long wide h =
      let seats = seats_after (acting lines most_passes) passes news clerks near starts can long wide h in record {
        front = [];
        passes = news;
        is = refl;
        seats = seats;
        known = tt;
        kept = tt;
        now = desk.1 ∙ sym (known_passes (acting lines most_passes) news seats);
        names = ap (λ (z : Known). z.names) (desk.1 ∙ sym (known_passes (acting lines most_passes) news seats));
        few = inl refl;
      }
  parted None (Desk a ∷ []) passes (Desk b ∷ news) (c ∷ clerks) desk near starts can long wide h = record {
    front = Desk b ∷ [];
    passes = news;
    is = refl;
    seats = seats_after (acting lines most_passes) passes news clerks near starts can (omega (arith, long)) (omega (arith, wide))
        (joined_rest (Desk a) (Desk b) c passes news clerks h);
    known = tt;
    kept = tt;
    now = refl;
    names = refl;
    few = inr (Desk b, refl);
  }
  parted None (Desk a ∷ []) passes (Pass b ∷ news) (c ∷ clerks) desk near starts can long wide h =
      absurd (joined_first (Desk a) (Pass b) c passes news clerks h)
  parted None (Desk a ∷ []) passes (Gone ∷ news) (c ∷ clerks) desk near starts can long wide h =
      absurd (joined_first (Desk a) Gone c passes news clerks h)
  parted None (Desk a ∷ []) passes [] clerks desk near starts can long wide h = absurd (omega (arith, long))
  parted None (Desk a ∷ []) passes (b ∷ news) [] desk near starts can long wide h = absurd (omega (arith, wide))
  parted (Some x) (a ∷ front) passes news clerks desk near starts can long wide h = absurd desk
  parted None [] passes news clerks desk near starts can long wide h = absurd desk
  parted None (Desk a ∷ b ∷ front) passes news clerks desk near starts can long wide h = absurd desk
  parted None (Pass a ∷ front) passes news clerks desk near starts can long wide h = absurd desk
  parted None (Gone ∷ front) passes news clerks desk near starts can long wide h = absurd desk
