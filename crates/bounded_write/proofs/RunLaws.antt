-- Laws of how far a write came.
use Rattle.std.proofs.Common.{◌≡◌, ℕ, ◌+◌, ◌-◌, ◌<◌, ◌≤◌, Bool, true, false, List, [], ◌++◌, length, take, drop}
use Rattle.std.proofs.Common.{refl, sym, ap, subst, ◌∙◌, arith, append-nil, Option, Some, None}
use Rattle.std.specs.Prelude.{IfSome, MatchBool, MatchOption}
use Rattle.std.proofs.Math.Seq.{take-length}
use base.Growing.{prefix_refl, prefix_trans}
use mathlib.Core.List.{IsPrefix}
use Rattle.std.proofs.lemmas.List.{take-take, drop-take, drop-drop, length-take-le, length-drop}
use Rattle.mem_base.specs.declared.map.ids.SpaceId.{SpaceId}
use Rattle.mem_base.specs.declared.map.forests.Forest.{Forest}
use Rattle.mem_base.specs.declared.access.accesses.TxResult.{TxResult}
use Rattle.mem_base.specs.declared.access.accesses.WindowStart.{WindowStart}
use Rattle.mem_base.specs.declared.machine.events.Event.{Event}
use Rattle.mem_base.specs.access.AccessSteps.{writing, AccessStep, bytes_read, events_of_steps, result_of, either, tx}
use Rattle.mem_base.specs.access.MemoryAccess.{on_words, marked}
use Rattle.mem_base.specs.access.Access.{access}
use Rattle.mem_base.specs.access.Trails.{chunks, first_length}
use Rattle.mem_base.specs.machine.Passes.{pass_id}
use Rattle.mem_base.specs.access.Windows.{window_start, is_direct, target_at, chunk_length, part_steps, mark_steps}
use Rattle.generation.specs.Published.{Published}
use Rattle.epoch_rule.specs.Values.{PassValue}
use Rattle.access_run.proofs.HandLaws.{results_append}
use Rattle.vcpu_pass.specs.Steps.{HasMade, generation_in, generation_shown}
use Rattle.vcpu_pass.specs.StepLaws.{made_none}
use Rattle.io_window.specs.Calls.{Does}
use Rattle.io_window.specs.Whole.{HasRun}
use Rattle.io_window.specs.Windows.{IsMemoryOf}
use Rattle.io_window.specs.declared.direct.Memory.{Memory}
use Rattle.io_window.proofs.ChunkLaws.{written_fine}
use Rattle.io_window.proofs.WholeLaws.{does_then, does_nothing, same_generation}
use Rattle.bounded_write.specs.declared.devices.Came.{Came}
use Rattle.bounded_write.specs.Tries.{HasTried, WasContended}
use Rattle.bounded_write.specs.Writes.{HasCome, HasMadeFirst, HasStopped, IsDirectChunk, WasHeldUp}
use Rattle.bounded_write.proofs.CutLaws.{chunk_inside, direct_is, IsCutAt}
use Rattle.mem_base.proofs.BoolLaws.{true_is_not_false}

-- the forest of a pass that did something
pub same_forest : (v w : PassValue Published) (ds : List AccessStep) → Does v ds [] w → (generation_in w).forest ≡ (generation_in v).forest
same_forest v w ds h = ap (λ (g : Published). g.forest) (same_generation v w ds [] h)

-- nothing was written
pub run_none : (v : PassValue Published) (space : SpaceId) (addr : ℕ) → HasRun v space addr (writing []) (tx false false) [] v
run_none v space addr = record { done = does_nothing v; result = refl }

-- no event of some
pub none_of_these : (v : PassValue Published) (es : List Event) → HasMadeFirst v es false v
none_of_these v es = record {
  more = [];
  rest = es;
  replies = [];
  first = refl;
  each = refl;
  made = made_none v;
  begins = refl;
}

-- what had seen less was held up too
pub held_up_later : (u v w : PassValue Published) (tries : ℕ) → IsPrefix u.seen v.seen → WasHeldUp v tries w → WasHeldUp u tries w
held_up_later u v w tries more h = record {
  last = h.last;
  seen = prefix_trans u.seen v.seen h.last.seen more h.seen;
  later = h.later;
  contended = h.contended;
}

-- the first bytes of a chunk of memory
module _ (v w : PassValue Published) (s : WindowStart) (m : Memory) (bytes : List ℕ) (count tries : ℕ) (write : s.write ≡ true)
    (chunk : length bytes ≡ chunk_length (generation_in v).forest s (length bytes)) (memory : IsMemoryOf (generation_in v) s (length bytes) m)
    (most : count ≤ length bytes)
    (done : Does v (on_words m.place.region m.offset (writing (take count bytes)) ++ marked m.place.region m.log m.offset count) [] w) where
  abbrev f : Forest
  f = (generation_in v).forest

  abbrev bs : List ℕ
  bs = take count bytes

  abbrev here : WindowStart
  here = window_start s.space s.addr true

  same : s ≡ here
  same = λ i. record { space = s.space; addr = s.addr; write = write i }

  size : length bs ≡ count
  size = length-take-le count bytes most

  fits : 0 < length bs → length bs ≡ chunk_length f here (length bs)
  fits some =
      let first : length bs ≤ length bytes = omega (arith, size, most) in
      chunk_inside f here (length bytes) (length bs) (length bytes) (chunk ∙ ap (λ z. chunk_length f z (length bytes)) same) some first

  listed : on_words m.place.region m.offset (writing bs) ++ marked m.place.region m.log m.offset count ≡ access f s.space s.addr (writing bs)
  listed =
      let at : m.offset ≡ m.offset + 0 = omega arith in
      ap (λ o. on_words m.place.region o (writing bs) ++ marked m.place.region m.log m.offset count) at
      ∙ (λ i. memory.parts 0 (writing bs) i ++ memory.pages_marked count i)
      ∙ (λ i. part_steps (target_at f (same i)) 0 (writing bs) ++ mark_steps (target_at f (same i)) (sym size i))
      ∙ sym (direct_is f s.space s.addr bs (sym (ap (is_direct f) same) ∙ memory.directly) fits)

  pub memory_run : HasRun v s.space s.addr (writing bs) (tx false false) [] w
  memory_run = record {
    done = subst (λ ds. Does v ds [] w) listed done;
    result = written_fine (target_at f here) bs
        ∙ ap result_of (sym (direct_is f s.space s.addr bs (sym (ap (is_direct f) same) ∙ memory.directly) fits));
  }

  pub memory_stopped : WasHeldUp v tries w → HasStopped v s.space s.addr bytes count (tx false false) false tries w
  memory_stopped h = record {
    until = w;
    written = memory_run.done;
    ended = memory_run.result;
    next = 0;
    fits = omega (arith, most);
    onward = none_of_these w (events_of_steps (pass_id v.number) (access f s.space (s.addr + count) (writing (take 0 (drop count bytes)))));
    held_up = h;
  }

-- all bytes of a chunk of memory
pub memory_whole : (v w : PassValue Published) (space : SpaceId) (addr : ℕ) (bytes : List ℕ) (count : ℕ) (r : TxResult) → count ≡ length bytes
    → HasRun v space addr (writing (take count bytes)) r [] w → HasRun v space addr (writing bytes) r [] w
memory_whole v w space addr bytes count r all h =
    subst (λ bs. HasRun v space addr (writing bs) r [] w) (ap (λ n. take n bytes) all ∙ take-length bytes) h

-- what was given up at its first chunk, of which nothing is written
pub other_stopped : (v w : PassValue Published) (space : SpaceId) (addr : ℕ) (bytes : List ℕ) (begun : Bool) (tries : ℕ)
    → HasMadeFirst v (events_of_steps (pass_id v.number) (access (generation_in v).forest space addr (writing bytes))) begun w × WasContended w tries
    → HasStopped v space addr bytes 0 (tx false false) begun tries w
other_stopped v w space addr bytes begun tries h =
    let at : addr ≡ addr + 0 = omega arith in
    let all : bytes ≡ take (length bytes) bytes = sym (take-length bytes) in record {
      until = v;
      written = does_nothing v;
      ended = refl;
      next = length bytes;
      fits = omega arith;
      onward = subst (λ es. HasMadeFirst v es begun w)
          (λ i. events_of_steps (pass_id v.number) (access (generation_in v).forest space (at i) (writing (all i)))) h.0;
      held_up = record { last = w; seen = h.0.made.adds.begins; later = prefix_refl w.seen; contended = h.1 };
    }

-- The first bytes were written up to a cut, and then more of them

pub run_on : (u v w : PassValue Published) (space : SpaceId) (addr k n : ℕ) (bytes : List ℕ) (r q : TxResult)
    → HasRun u space addr (writing (take k bytes)) r [] v → IsCutAt (generation_in u).forest space addr bytes k → k + n ≤ length bytes
    → HasRun v space (addr + k) (writing (take n (drop k bytes))) q [] w → HasRun u space addr (writing (take (k + n) bytes)) (either r q) [] w
run_on u v w space addr k n bytes r q run cut most h =
    let f : Forest = (generation_in u).forest in
    let ds : List AccessStep = access f space addr (writing (take k bytes)) in
    let es : List AccessStep = access f space (addr + k) (writing (take n (drop k bytes))) in
    let same : (generation_in v).forest ≡ f = same_forest u v ds run.done in
    let list : access f space addr (writing (take (k + n) bytes)) ≡ ds ++ es = cut n most in
    let later : Does v es [] w = subst (λ (z : Forest). Does v (access z space (addr + k) (writing (take n (drop k bytes)))) [] w) same h.done in
    let ended : q ≡ result_of es = h.result ∙ ap (λ (z : Forest). result_of (access z space (addr + k) (writing (take n (drop k bytes))))) same in
    record {
      done = subst (λ l. Does u l [] w) (sym list) (does_then u v w ds es [] [] run.done later);
      result = (λ i. either (run.result i) (ended i)) ∙ sym (results_append ds es) ∙ ap result_of (sym list);
    }

pub stop_on : (u v w : PassValue Published) (space : SpaceId) (addr k c n : ℕ) (bytes : List ℕ) (r q : TxResult) (begun : Bool) (tries : ℕ)
    → HasRun u space addr (writing (take k bytes)) r [] v → IsCutAt (generation_in u).forest space addr bytes k → n < c → k + c ≤ length bytes
    → HasStopped v space (addr + k) (take c (drop k bytes)) n q begun tries w
    → HasStopped u space addr bytes (k + n) (either r q) begun tries w
stop_on u v w space addr k c n bytes r q begun tries run cut less most h =
    let f : Forest = (generation_in u).forest in
    let same : (generation_in v).forest ≡ f = same_forest u v (access f space addr (writing (take k bytes))) run.done in
    let rest : List ℕ = drop k bytes in
    let chunk : List ℕ = take c rest in
    let left : length rest ≡ length bytes - k = length-drop k bytes in
    let size : length chunk ≡ c = length-take-le c rest (omega (arith, left, most)) in
    let next : ℕ = h.next in
    let inside : n + next ≤ c = omega (arith, h.fits, size) in
    let first : take n chunk ≡ take n rest = take-take n c rest (omega (arith, less)) in
    let all : n + (c - n) ≡ c = omega (arith, less) in
    let after : drop n chunk ≡ take (c - n) (drop (k + n) bytes) =
    ap (λ j. drop n (take j rest)) (sym all) ∙ drop-take n (c - n) rest ∙ ap (take (c - n)) (drop-drop n k bytes) in
    let these : take next (drop n chunk) ≡ take next (drop (k + n) bytes) =
    ap (take next) after ∙ take-take next (c - n) (drop (k + n) bytes) (omega (arith, inside)) in
    let at : addr + k + n ≡ addr + (k + n) = omega arith in
    let number : v.number ≡ u.number = run.done.made.number in
    let part : HasRun v space (addr + k) (writing (take n rest)) q [] h.until =
    subst (λ bs. HasRun v space (addr + k) (writing bs) q [] h.until) first (record { done = h.written; result = h.ended }) in
    let whole : HasRun u space addr (writing (take (k + n) bytes)) (either r q) [] h.until =
    run_on u v h.until space addr k n bytes r q run cut (omega (arith, less, most)) part in record {
      until = h.until;
      written = whole.done;
      ended = whole.result;
      next = next;
      fits = omega (arith, inside, most);
      onward = subst (λ es. HasMadeFirst h.until es begun w)
          (λ i. events_of_steps (pass_id (number i)) (access (same i) space (at i) (writing (these i)))) h.onward;
      held_up = held_up_later u v w tries run.done.made.adds.begins h.held_up;
    }

-- of bytes that end at 2^64, or of some of which the first end there
pub stop_first : (v w : PassValue Published) (space : SpaceId) (addr below n : ℕ) (bytes : List ℕ) (r : TxResult) (begun : Bool) (tries : ℕ)
    → below ≤ length bytes → n < below → HasStopped v space addr (take below bytes) n r begun tries w → HasStopped v space addr bytes n r begun tries w
stop_first v w space addr below n bytes r begun tries most less h =
    let next : ℕ = h.next in
    let size : length (take below bytes) ≡ below = length-take-le below bytes most in
    let inside : n + next ≤ below = omega (arith, h.fits, size) in
    let first : take n (take below bytes) ≡ take n bytes = take-take n below bytes (omega (arith, less)) in
    let all : n + (below - n) ≡ below = omega (arith, less) in
    let after : drop n (take below bytes) ≡ take (below - n) (drop n bytes) = ap (λ j. drop n (take j bytes)) (sym all) ∙ drop-take n (below - n) bytes in
    let these : take next (drop n (take below bytes)) ≡ take next (drop n bytes) =
    ap (take next) after ∙ take-take next (below - n) (drop n bytes) (omega (arith, inside)) in
    let f : Forest = (generation_in v).forest in record {
      until = h.until;
      written = subst (λ bs. Does v (access f space addr (writing bs)) [] h.until) first h.written;
      ended = h.ended ∙ ap (λ bs. result_of (access f space addr (writing bs))) first;
      next = next;
      fits = omega (arith, inside, most);
      onward = subst (λ bs. HasMadeFirst h.until (events_of_steps (pass_id v.number) (access f space (addr + n) (writing bs))) begun w) these h.onward;
      held_up = h.held_up;
    }

-- a write by a hand that gives up

pub come_of : (v w : PassValue Published) (space : SpaceId) (addr : ℕ) (bytes : List ℕ) (tries : ℕ) (came : Came) (replies : List ℕ)
    → length replies ≡ length (events_of_steps (pass_id v.number) (access (generation_in v).forest space addr (writing bytes)))
    → [] ≡ bytes_read (access (generation_in v).forest space addr (writing bytes)) replies
    → HasTried tries false false v (events_of_steps (pass_id v.number) (access (generation_in v).forest space addr (writing bytes))) replies
    came.stopped came.begun w
    → HasCome v space addr bytes tries came w
come_of v w space addr bytes tries came replies each read h =
    let es : List Event = events_of_steps (pass_id v.number) (access (generation_in v).forest space addr (writing bytes)) in record {
      whole = λ on. let a = h.all on in
          let events : h.done ≡ es = sym (h.events ∙ ap (λ l. h.done ++ l) a.0 ∙ append-nil h.done) in
          let told : h.said ≡ replies = sym (h.told ∙ ap (λ l. h.said ++ l) a.1 ∙ append-nil h.said) in record {
            replies = replies;
            made = subst (λ (q : List Event × List ℕ). HasMade v q.0 q.1 w) (λ i. (events i, told i)) h.made;
            each = each;
            read = read;
          };
      part = λ off. (
        record {
          more = h.done;
          rest = h.rest;
          replies = h.said;
          first = h.events;
          each = h.each;
          made = h.made;
          begins = h.begins;
        },
        h.contended refl off,
      );
    }

-- what was tried in vain
pub in_vain : (A B : Type 0) (r : Bool) → MatchBool r A B → r ≡ false → B
in_vain A B true h e = true_is_not_false true refl e
in_vain A B false h e = h

-- the memory that a write reaches directly, by the generation of a pass

pub looked_direct : (g : Published) (v : PassValue Published) (s : WindowStart) (n : ℕ) (o : Option (Memory × ℕ)) → v.edition ≡ Some g
    → MatchOption o (is_direct g.forest s ≡ false)
    (λ r. (r.1 ≡ chunk_length g.forest s n) × (0 < r.1) × (r.1 ≤ n) × IsMemoryOf g s r.1 r.0)
    → IfSome o (IsDirectChunk v s n)
looked_direct g v s n None e h = tt
looked_direct g v s n (Some r) e h =
    subst (λ (x : Published). (r.1 ≡ chunk_length x.forest s n) × (0 < r.1) × (r.1 ≤ n) × IsMemoryOf x s r.1 r.0) (sym (ap generation_shown e)) h

-- and of any write
pub looked_chunk : (g : Published) (v : PassValue Published) (space : SpaceId) (addr n len : ℕ) → v.edition ≡ Some g
    → len ≡ first_length (chunks g.forest true space addr n) → len ≡ chunk_length (generation_in v).forest (window_start space addr true) n
looked_chunk g v space addr n len e h =
    subst (λ (x : Published). len ≡ first_length (chunks x.forest true space addr n)) (sym (ap generation_shown e)) h

-- the first bytes of some, as many as their first chunk has
module _ (v : PassValue Published) (s : WindowStart) (bytes : List ℕ) (len : ℕ) (is : len ≡ chunk_length (generation_in v).forest s (length bytes))
    (some : 0 < len) (most : len ≤ length bytes) where
  pub first_size : length (take len bytes) ≡ len
  first_size = length-take-le len bytes most

  pub first_chunk_is : length (take len bytes) ≡ chunk_length (generation_in v).forest s (length (take len bytes))
  first_chunk_is =
      first_size ∙ chunk_inside (generation_in v).forest s (length bytes) len len is some (omega arith)
      ∙ ap (chunk_length (generation_in v).forest s) (sym first_size)

  pub first_memory : (m : Memory) → IsMemoryOf (generation_in v) s len m → IsMemoryOf (generation_in v) s (length (take len bytes)) m
  first_memory m h = subst (λ n. IsMemoryOf (generation_in v) s n m) (sym first_size) h

-- what was tried and stood
pub stood : (A B : Type 0) (r : Bool) → MatchBool r A B → r ≡ true → A
stood A B true h e = h
stood A B false h e = true_is_not_false false e refl

-- a pass that was held up, and made marks after that
pub held_up_before : (u v w : PassValue Published) (ds es : List AccessStep) (tries : ℕ) → Does u ds [] v → Does v es [] w → WasContended v tries → WasHeldUp u tries w
held_up_before u v w ds es tries before after h =
    record { last = v; seen = before.made.adds.begins; later = after.made.adds.begins; contended = h }
