-- Passes one after another: those that have lines, and those that have none.
use Rattle.std.proofs.Common.{◌≡◌, ℕ, ◌+◌, zero, suc, not, Bool, true, false, cond, List, [], ◌∷◌, ◌++◌, filter, append-nil, refl, ap, ◌∙◌, arith}
use Rattle.std.specs.List.{range_with_len}
use Rattle.std.proofs.lemmas.List.Elements.{filter-append}
use Rattle.mem_base.specs.script.Scripts.{Line}
use Rattle.mem_base.specs.script.Race.{block}
use Rattle.generation.specs.Published.{Published}
use Rattle.epoch_rule.specs.Values.{PassValue}
use Rattle.mem_base.specs.declared.machine.events.HistoryEntry.{HistoryEntry}
use Rattle.mem_base.specs.script.Tasks.{Known}
use Rattle.desk_orders.specs.Records.{RecordState}
use Rattle.race_phases.specs.Plain.{has_lines}
use Rattle.race_block.specs.declared.blocks.BlockActor.{BlockActor}
use Rattle.race_seats.specs.Starts.{AreAtStart, IsAtStart}
use Rattle.race_seats.specs.Seats.{AreActorsOf, AreSeats, HaveSeatOf, IsSeatOf, acting, idle}

-- the first n + 1 numbers

last_number : (a n j : ℕ) → a + n ≡ j → range_with_len a (suc n) ≡ range_with_len a n ++ j ∷ []
last_number a zero j e = let same : a ≡ j = omega (arith, e) in ap (λ (k : ℕ). k ∷ []) same
last_number a (suc n) j e = ap (λ (l : List ℕ). a ∷ l) (last_number (a + 1) n j (omega (arith, e)))

one_more : (n m : ℕ) → m ≡ n + 1 → range_with_len 0 m ≡ range_with_len 0 n ++ n ∷ []
one_more n m e = let is : m ≡ suc n = omega (arith, e) in ap (range_with_len 0) is ∙ last_number 0 n n (omega arith)

kept : (p : ℕ → Bool) (n m : ℕ) → m ≡ n + 1 → p n ≡ true → filter p (range_with_len 0 m) ≡ filter p (range_with_len 0 n) ++ n ∷ []
kept p n m e kept_is = ap (filter p) (one_more n m e) ∙ filter-append p (range_with_len 0 n) (n ∷ [])
    ∙ ap (λ (b : Bool). filter p (range_with_len 0 n) ++ cond b (n ∷ []) []) kept_is

left_out : (p : ℕ → Bool) (n m : ℕ) → m ≡ n + 1 → p n ≡ false → filter p (range_with_len 0 m) ≡ filter p (range_with_len 0 n)
left_out p n m e out_is = ap (filter p) (one_more n m e) ∙ filter-append p (range_with_len 0 n) (n ∷ [])
    ∙ ap (λ (b : Bool). filter p (range_with_len 0 n) ++ cond b (n ∷ []) []) out_is ∙ append-nil (filter p (range_with_len 0 n))

pub one_acts : (lines : List Line) (n m : ℕ) → m ≡ n + 1 → has_lines (block lines) n ≡ true → acting lines m ≡ acting lines n ++ n ∷ []
one_acts lines n m e kept_is = kept (has_lines (block lines)) n m e kept_is

pub others_act : (lines : List Line) (n m : ℕ) → m ≡ n + 1 → has_lines (block lines) n ≡ false → acting lines m ≡ acting lines n
others_act lines n m e out_is = left_out (has_lines (block lines)) n m e out_is

pub one_waits : (lines : List Line) (n m : ℕ) → m ≡ n + 1 → has_lines (block lines) n ≡ false → idle lines m ≡ idle lines n ++ n ∷ []
one_waits lines n m e out_is = kept (λ p. not (has_lines (block lines) p)) n m e (ap not out_is)

pub others_wait : (lines : List Line) (n m : ℕ) → m ≡ n + 1 → has_lines (block lines) n ≡ true → idle lines m ≡ idle lines n
others_wait lines n m e kept_is = left_out (λ p. not (has_lines (block lines) p)) n m e (ap not kept_is)

-- one more at the end

pub starts_push : (k : Known) (lines : List Line) (seen : List HistoryEntry) (whos : List ℕ) (actors : List BlockActor) (who : ℕ) (a : BlockActor)
    → AreAtStart k lines seen whos actors → IsAtStart k lines seen who a → AreAtStart k lines seen (whos ++ who ∷ []) (actors ++ a ∷ [])
starts_push k lines seen [] [] who a h x = (x, tt)
starts_push k lines seen (w ∷ whos) (b ∷ actors) who a h x = (h.0, starts_push k lines seen whos actors who a h.1 x)
starts_push k lines seen [] (b ∷ actors) who a h x = absurd h
starts_push k lines seen (w ∷ whos) [] who a h x = absurd h

pub seats_push : (r : RecordState) (ps : List ℕ) (xs : List (PassValue Published)) (p : ℕ) (x : PassValue Published) → AreSeats r ps xs → IsSeatOf r p x
    → AreSeats r (ps ++ p ∷ []) (xs ++ x ∷ [])
seats_push r [] [] p x h s = (s, tt)
seats_push r (q ∷ ps) (y ∷ xs) p x h s = (h.0, seats_push r ps xs p x h.1 s)
seats_push r [] (y ∷ xs) p x h s = absurd h
seats_push r (q ∷ ps) [] p x h s = absurd h

-- the last one

pub record LastSeat (r : RecordState) (ps : List ℕ) (p : ℕ) (xs : List (PassValue Published)) : Type 0 where
  pub front : List (PassValue Published)
  pub last : PassValue Published
  pub is : xs ≡ front ++ last ∷ []
  pub seats : AreSeats r ps front
  pub seat : IsSeatOf r p last

pub last_seat : (r : RecordState) (ps : List ℕ) (p : ℕ) (xs : List (PassValue Published)) → AreSeats r (ps ++ p ∷ []) xs → LastSeat r ps p xs
last_seat r [] p (x ∷ []) h = record { front = []; last = x; is = refl; seats = tt; seat = h.0 }
last_seat r [] p [] h = absurd h
last_seat r [] p (x ∷ y ∷ xs) h = absurd h.1
last_seat r (q ∷ ps) p [] h = absurd h
last_seat r (q ∷ ps) p (x ∷ xs) h =
    let rest = last_seat r ps p xs h.1 in
    let is : x ∷ xs ≡ (x ∷ rest.front) ++ rest.last ∷ [] = ap (λ (l : List (PassValue Published)). x ∷ l) rest.is in
    record { front = x ∷ rest.front; last = rest.last; is = is; seats = (h.0, rest.seats); seat = rest.seat }

pub record LastActor (r : RecordState) (ps : List ℕ) (p : ℕ) (xs : List BlockActor) : Type 0 where
  pub front : List BlockActor
  pub last : BlockActor
  pub is : xs ≡ front ++ last ∷ []
  pub actors : AreActorsOf r ps front
  pub seat : HaveSeatOf r p last

pub last_actor : (r : RecordState) (ps : List ℕ) (p : ℕ) (xs : List BlockActor) → AreActorsOf r (ps ++ p ∷ []) xs → LastActor r ps p xs
last_actor r [] p (x ∷ []) h = record { front = []; last = x; is = refl; actors = tt; seat = h.0 }
last_actor r [] p [] h = absurd h
last_actor r [] p (x ∷ y ∷ xs) h = absurd h.1
last_actor r (q ∷ ps) p [] h = absurd h
last_actor r (q ∷ ps) p (x ∷ xs) h =
    let rest = last_actor r ps p xs h.1 in
    record { front = x ∷ rest.front; last = rest.last; is = ap (λ (l : List BlockActor). x ∷ l) rest.is; actors = (h.0, rest.actors); seat = rest.seat }
