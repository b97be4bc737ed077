-- Laws of the calls of windows.
use Rattle.std.proofs.Common.{◌≡◌, ℕ, ◌+◌, ◌<◌, ◌≤◌, Bool, true, false, List, [], length, take, drop, Option, Some, None}
use Rattle.std.proofs.Common.{refl, sym, ap, subst, ◌∙◌, if◌then◌else◌, arith, option_map}
use Rattle.std.specs.Prelude.{is_some, not, min, replicate, IfSome, MatchBool, MatchOption}
use Rattle.mem_base.specs.declared.map.forests.Forest.{Forest}
use Rattle.mem_base.specs.declared.access.accesses.TxResult.{TxResult}
use Rattle.mem_base.specs.access.AccessSteps.{Transfer, reading, writing, AccessStep, result_of, tx}
use Rattle.mem_base.specs.access.MemoryAccess.{on_words}
use Rattle.mem_base.specs.machine.Generations.{Generation}
use Rattle.generation.specs.Published.{Published}
use Rattle.epoch_rule.specs.Values.{PassValue}
use Rattle.epoch_rule.specs.Copies.{ShowsPublished}
use Rattle.vcpu_pass.specs.Steps.{generation_shown, generation_in}
use Rattle.vcpu_pass.specs.StepLaws.{made_none}
use Rattle.vcpu_pass.specs.Around.{HasBegun, HasEnded}
use Rattle.vcpu_pass.specs.Calls.{is_entered}
use Rattle.vcpu_pass.proofs.CallLaws.{around}
use Rattle.mem_base.specs.declared.access.accesses.WindowStart.{WindowStart}
use Rattle.io_window.specs.declared.direct.Memory.{Memory}
use Rattle.mem_base.specs.access.Windows.{target_at, is_direct, chunk_length, part_steps, opening_steps, closing_steps, closing_result}
use Rattle.io_window.specs.Windows.{WindowValue, IsMemoryOf, IsBacked, forest_of, number_of, held_in, room_of}
use Rattle.io_window.specs.Calls.{Does, IsOpened, HasNoBounceBy, HasNoBounce, HasGot, HasPut, HasClosed, with_pass, with_put, put_in}
use Rattle.io_window.proofs.WholeLaws.{does_nothing, same_generation}
use Rattle.mem_base.proofs.BoolLaws.{true_is_not_false}

-- a part of a direct window
pub part_of : (g : Published) (s : WindowStart) (len : ℕ) (memory : Option Memory) (buffer : Option (List ℕ)) (m : Memory) → memory ≡ Some m
    → IsBacked g s len memory buffer → IsMemoryOf g s len m
part_of g s len None buffer m e h = cc
part_of g s len (Some x) buffer m e h = let same : x ≡ m = cc in subst (IsMemoryOf g s len) same h

-- what is done to the memory of a direct window is done to the window
part_does : (pass : PassValue Published) (s : WindowStart) (len : ℕ) (memory : Option Memory) (m : Memory) (buffer : Option (List ℕ)) (at : ℕ) (t : Transfer)
    (bytes : List ℕ) (p : PassValue Published) → memory ≡ Some m → IsBacked (generation_in pass) s len memory buffer
    → Does pass (on_words m.place.region (m.offset + at) t) bytes p → Does pass (part_steps (target_at (generation_in pass).forest s) at t) bytes p
part_does pass s len memory m buffer at t bytes p e h done =
    subst (λ (ds : List AccessStep). Does pass ds bytes p) ((part_of (generation_in pass) s len memory buffer m e h).parts at t) done

is_directly : (b : Bool) (memory : Option Memory) (m : Memory) → b ≡ is_some memory → memory ≡ Some m → b ≡ true
is_directly b memory m d e = d ∙ ap (λ (o : Option Memory). is_some o) e

pub got_directly : (w : WindowValue) (memory : Option Memory) (m : Memory) (buffer : Option (List ℕ)) (at k : ℕ) (bytes : List ℕ) (p : PassValue Published)
    → w.direct ≡ is_some memory → memory ≡ Some m → IsBacked (generation_in w.pass) w.start w.len memory buffer → length bytes ≡ k
    → Does w.pass (on_words m.place.region (m.offset + at) (reading k)) bytes p → HasGot w at bytes (with_pass w p)
got_directly w memory m buffer at k bytes p d e h same done = (
  refl,
  subst (λ (b : Bool). MatchBool b (Does w.pass (part_steps (target_at (forest_of w) w.start) at (reading (length bytes))) bytes p)
      ((p ≡ w.pass) × (bytes ≡ take (length bytes) (drop at (held_in w.buffer))))) (sym (is_directly w.direct memory m d e))
      (part_does w.pass w.start w.len memory m buffer at (reading (length bytes)) bytes p e h
      (subst (λ (n : ℕ). Does w.pass (on_words m.place.region (m.offset + at) (reading n)) bytes p) (sym same) done)),
)

pub put_directly : (w u : WindowValue) (memory : Option Memory) (m : Memory) (buffer : Option (List ℕ)) (at : ℕ) (bytes : List ℕ)
    → u ≡ with_put w u.pass (at + length bytes) u.buffer → u.buffer ≡ w.buffer → w.direct ≡ is_some memory → memory ≡ Some m
    → IsBacked (generation_in w.pass) w.start w.len memory buffer
    → Does w.pass (on_words m.place.region (m.offset + at) (writing bytes)) [] u.pass → HasPut w at bytes u
put_directly w u memory m buffer at bytes is held d e h done = (
  is,
  ap room_of held,
  subst (λ (b : Bool). MatchBool b ((u.buffer ≡ w.buffer) × Does w.pass (part_steps (target_at (forest_of w) w.start) at (writing bytes)) [] u.pass)
      ((u.pass ≡ w.pass) × (u.buffer ≡ option_map (put_in at bytes) w.buffer))) (sym (is_directly w.direct memory m d e))
      (held, part_does w.pass w.start w.len memory m buffer at (writing bytes) [] u.pass e h done),
)

-- a window that is closed
pub closes : (w : WindowValue) (used : ℕ) (last v y : PassValue Published) (number : ℕ) (handed : Option ℕ) (ended : TxResult)
    → Does w.pass (closing_steps (forest_of w) w.start w.direct used (held_in w.buffer)) [] last → HasEnded w.stays last number v → y ≡ v
    → handed ≡ room_of w.buffer → ended ≡ closing_result (forest_of w) w.start w.direct w.filling used (held_in w.buffer)
    → HasClosed w used y handed ended
closes w used last v y number handed ended done left same room result =
    let n : number ≡ number_of w = left.is_number ∙ ap (λ (x : Published). x.number) (same_generation w.pass last _ _ done) in
    record {
      last = last;
      closing = done;
      left = subst (λ (q : ℕ × PassValue Published). HasEnded w.stays last q.0 q.1) (λ i. (n i, sym same i)) left;
      room = room;
      result = result;
    }

-- windows that are opened

-- a virtual CPU began as its pass did
pub begun_as : (e : Bool) (u v w : PassValue Published) → u ≡ v → HasBegun e u w → HasBegun (is_entered v) v w
begun_as e u v w same h = subst (λ (x : PassValue Published). HasBegun (is_entered x) x w) same (subst (λ (b : Bool). HasBegun b u w) h.was h)

pub was_entered : (e : Bool) (u v w : PassValue Published) → u ≡ v → HasBegun e u w → e ≡ is_entered v
was_entered e u v w same h = h.was ∙ ap (λ (x : PassValue Published). is_entered x) same

direct_opened : (v : PassValue Published) (stays kept : Bool) (s : WindowStart) (len count : ℕ) (handed : Option ℕ) (buffer : Option (List ℕ)) (m : Memory)
    → stays ≡ kept → count ≡ chunk_length (generation_in v).forest s len → 0 < count → count ≤ len → IsMemoryOf (generation_in v) s count m
    → room_of buffer ≡ handed
    → IsOpened v kept s len handed (record {
      pass = v;
      stays = stays;
      start = s;
      len = count;
      direct = true;
      put_end = 0;
      buffer = buffer;
      filling = tx false false;
    })
direct_opened v stays kept s len count handed buffer m same long some most there room = record {
  filled = does_nothing v;
  kept = same;
  start = refl;
  direct = sym there.directly;
  len = long ∙ ap (λ (b : Bool). if b then chunk_length (generation_in v).forest s len else min len (length (held_in buffer))) (sym there.directly);
  some = some;
  most = most;
  nothing_put = refl;
  room = room;
  bounced = refl;
  zeros = λ e. true_is_not_false true refl e;
  filling = refl;
}

pub bounced_opened : (v p : PassValue Published) (stays : Bool) (s : WindowStart) (len count room : ℕ) (out held : List ℕ) (filling : TxResult)
    → is_direct (generation_in v).forest s ≡ false → 1 ≤ len → 1 ≤ room → count ≡ min len room → held ≡ out → length held ≡ room
    → filling ≡ result_of (opening_steps (generation_in v).forest s false count)
    → Does v (opening_steps (generation_in v).forest s false count) (if s.write then [] else take count out) p
    → (s.write ≡ true → take count out ≡ replicate count 0)
    → IsOpened v stays s len (Some room) (record {
      pass = p;
      stays = stays;
      start = s;
      len = count;
      direct = false;
      put_end = 0;
      buffer = Some held;
      filling = filling;
    })
bounced_opened v p stays s len count room out held filling indirect some roomy least same size result done zeros =
    let f : Forest = (generation_in v).forest in
    let here : (generation_in p).forest ≡ f = ap (λ (x : Published). x.forest) (same_generation v p _ _ done) in
    let off : is_direct (generation_in p).forest s ≡ false = ap (λ (z : Forest). is_direct z s) here ∙ indirect in record {
      filled = subst (λ (q : Forest × List ℕ). Does v (opening_steps q.0 s false count) (if s.write then [] else take count q.1) p)
          (λ i. (sym here i, sym same i)) done;
      kept = refl;
      start = refl;
      direct = sym off;
      len = least ∙ ap (λ (n : ℕ). min len n) (sym size)
          ∙ ap (λ (b : Bool). if b then chunk_length (generation_in p).forest s len else min len (length held)) (sym off);
      some = omega (arith, least, some, roomy);
      most = omega (arith, least);
      nothing_put = refl;
      room = ap (λ (n : ℕ). Some n) size;
      bounced = refl;
      zeros = λ e. ap (λ (l : List ℕ). take count l) same ∙ zeros (not_false s.write e);
      filling = result ∙ ap (λ (z : Forest). result_of (opening_steps z s false count)) (sym here);
    }
  where
    not_false : (b : Bool) → not b ≡ false → b ≡ true
    not_false true e = refl
    not_false false e = cc

-- what the look of an opening tells, of the generation of the pass
abbrev pub IsLook : Published → WindowStart → ℕ → Option (Memory × ℕ) → Type 0
IsLook g s len r =
    MatchOption r (is_direct g.forest s ≡ false) (λ x. (x.1 ≡ chunk_length g.forest s len) × (0 < x.1) × (x.1 ≤ len) × IsMemoryOf g s x.1 x.0)

pub looked_none : (g : Published) (v : PassValue Published) (s : WindowStart) (len : ℕ) (r : Option (Memory × ℕ)) → v.edition ≡ Some g
    → IsLook g s len r → r ≡ None → is_direct (generation_in v).forest s ≡ false
looked_none g v s len None e h none = ap (λ (o : Option Published). is_direct (generation_shown o).forest s) e ∙ h
looked_none g v s len (Some x) e h none = cc

pub direct_looked : (g : Published) (v : PassValue Published) (stays kept : Bool) (s : WindowStart) (len : ℕ) (handed : Option ℕ) (buffer : Option (List ℕ))
    (r : Option (Memory × ℕ)) (m : Memory) (count : ℕ) → v.edition ≡ Some g → IsLook g s len r → r ≡ Some (m, count) → stays ≡ kept
    → room_of buffer ≡ handed
    → IsOpened v kept s len handed (record {
      pass = v;
      stays = stays;
      start = s;
      len = count;
      direct = true;
      put_end = 0;
      buffer = buffer;
      filling = tx false false;
    })
direct_looked g v stays kept s len handed buffer None m count e h is same room = cc
direct_looked g v stays kept s len handed buffer (Some x) m count e h is same room =
    let one : x ≡ (m, count) = cc in
    let here : g ≡ generation_in v = sym (ap generation_shown e) in
    let q : (count ≡ chunk_length (generation_in v).forest s len) × (0 < count) × (count ≤ len) × IsMemoryOf (generation_in v) s count m =
    subst (λ (z : Published × (Memory × ℕ)). (z.1.1 ≡ chunk_length z.0.forest s len) × (0 < z.1.1) × (z.1.1 ≤ len) × IsMemoryOf z.0 s z.1.1 z.1.0)
    (λ i. (here i, one i)) h in
    direct_opened v stays kept s len count handed buffer m same q.0 q.1 q.2 q.3 room

-- an entered pass shows what the Publish of its generation's number carried
pub entered_shows : (v : PassValue Published) → is_some v.edition ≡ true
    → IfSome v.edition (ShowsPublished (λ x. x.number) (λ x. x.forest) (λ x. x.places) v.seen)
    → ShowsPublished (λ x. x.number) (λ x. x.forest) (λ x. x.places) v.seen (generation_in v)
entered_shows v is h = go v.edition is h
  where
    go : (o : Option Published) → is_some o ≡ true → IfSome o (ShowsPublished (λ x. x.number) (λ x. x.forest) (λ x. x.places) v.seen)
        → ShowsPublished (λ x. x.number) (λ x. x.forest) (λ x. x.places) v.seen (generation_shown o)
    go None is h = cc
    go (Some g) is h = h

-- no window
pub no_bounce : (e : Bool) (x u v w y : PassValue Published) (s : WindowStart) (handed : Option ℕ) (number : ℕ) → x ≡ u → HasBegun e x v
    → HasEnded e v number w → y ≡ w → handed ≡ None → is_direct (generation_in v).forest s ≡ false → HasNoBounce u s handed number y
no_bounce e x u v w y s handed number same b n last none indirect =
    let b' : HasBegun e u v = subst (λ (z : PassValue Published). HasBegun e z v) same b in
    let n' : HasEnded e v number y = subst (λ (z : PassValue Published). HasEnded e v number z) (sym last) n in
    let a = around e u v v y (λ p. []) [] number b' refl (made_none v) n' in
    subst (λ (x : Generation). HasNoBounceBy x u s handed number y) a.shown record {
      goes_by = a.goes_by;
      none = none;
      indirect = indirect;
      looked = a.looked;
      made = a.made;
    }

pub ended_cabinet : (e : Bool) (v w : PassValue Published) (number : ℕ) → HasEnded e v number w → w.cabinet ≡ v.cabinet
ended_cabinet true v w number h = ap (λ (x : PassValue Published). x.cabinet) (h.same refl)
ended_cabinet false v w number h = (h.left refl).0.cabinet
