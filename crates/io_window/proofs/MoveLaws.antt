-- Laws of accesses that are moved by windows.
use Rattle.std.proofs.Common.{◌≡◌, ℕ, ◌+◌, ◌-◌, ◌<◌, ◌≤◌, ◌⊎◌, inl, inr, min, Bool, true, false, List, [], ◌++◌, length, take, drop}
use Rattle.std.proofs.Common.{Option, Some, None, refl, sym, ap, subst, ◌∙◌, if◌then◌else◌, arith, append-nil}
use Rattle.std.proofs.lemmas.List.{take_at, drop_all, length-drop, length-take-le, take_rest}
use borrow.Rule.Slice.PartMut.{mid_of, post_of}
use Rattle.mem_base.specs.declared.map.ids.SpaceId.{SpaceId}
use Rattle.mem_base.specs.declared.map.forests.Forest.{Forest}
use Rattle.mem_base.specs.declared.access.accesses.TxResult.{TxResult}
use Rattle.mem_base.specs.access.AccessSteps.{reading, writing, AccessStep, result_of, either}
use Rattle.mem_base.specs.access.Access.{access}
use Rattle.access_run.proofs.HandLaws.{results_append}
use Rattle.generation.specs.Published.{Published}
use Rattle.epoch_rule.specs.Values.{PassValue}
use Rattle.vcpu_pass.specs.Steps.{generation_in}
use Rattle.vcpu_pass.specs.Calls.{is_entered}
use Rattle.mem_base.specs.declared.access.accesses.WindowStart.{WindowStart}
use Rattle.mem_base.specs.access.Windows.{window_start, is_direct, chunk_length}
use Rattle.io_window.specs.Windows.{WindowValue, forest_of, held_in, room_of}
use Rattle.io_window.specs.Calls.{Does, HasOpened, HasGot, HasPut, HasClosed}
use Rattle.io_window.specs.Whole.{HasRun}
use Rattle.io_window.proofs.WholeLaws.{does_then, same_generation}
use Rattle.io_window.proofs.GetLaws.{entered_get}
use Rattle.io_window.proofs.PutLaws.{entered_put}
use Rattle.io_window.proofs.CutLaws.{read_cut, write_cut}
use Rattle.io_window.specs.Moves.{IsFirst}

held_room : (buffer : Option (List ℕ)) (room : ℕ) → room_of buffer ≡ Some room → length (held_in buffer) ≡ room
held_room None room e = cc
held_room (Some bytes) room e = cc

-- a window over some addresses, with a bounce that has room for them, has the first chunk or all of them
pub first_window : (v : PassValue Published) (s : WindowStart) (n room : ℕ) (w : WindowValue) → is_entered v ≡ true → HasOpened v s n (Some room) w
    → n ≤ room → IsFirst (generation_in v).forest s n w.len
first_window v s n room w e o roomy =
    let here : generation_in w.pass ≡ generation_in v =
    same_generation o.looked w.pass _ _ o.opened.filled ∙ ap generation_in (o.begun.same e) in
    subst (λ (g : Published). IsFirst g.forest s n w.len) here
    (record { some = o.opened.some; most = o.opened.most; either = go (is_direct (forest_of w) s) refl })
  where
    go : (b : Bool) → is_direct (forest_of w) s ≡ b → (w.len ≡ n) ⊎ (w.len ≡ chunk_length (forest_of w) s n)
    go true d =
        inr (o.opened.len ∙ ap (λ (b : Bool). if b then chunk_length (forest_of w) s n else min n (length (held_in w.buffer))) d)
    go false d =
        let held : length (held_in w.buffer) ≡ room = held_room w.buffer room o.opened.room in
        let least : w.len ≡ min n (length (held_in w.buffer)) =
        o.opened.len ∙ ap (λ (b : Bool). if b then chunk_length (forest_of w) s n else min n (length (held_in w.buffer))) d in
        inl (omega (arith, least, held, roomy))

-- one part and what is left make up the whole

forest_kept : (v u : PassValue Published) (ds : List AccessStep) (bs : List ℕ) → Does v ds bs u → (generation_in u).forest ≡ (generation_in v).forest
forest_kept v u ds bs h = ap (λ (g : Published). g.forest) (same_generation v u ds bs h)

chunk_of : (f : Forest) (s : WindowStart) (n c : ℕ) → IsFirst f s n c → c < n → c ≡ chunk_length f s n
chunk_of f s n c h less = go h.either
  where
    go : (c ≡ n) ⊎ (c ≡ chunk_length f s n) → c ≡ chunk_length f s n
    go (inl e) = absurd (omega (arith, e, less))
    go (inr e) = e

pub read_then : (v u y : PassValue Published) (space : SpaceId) (addr n c : ℕ) (r q : TxResult) (bs cs : List ℕ)
    → IsFirst (generation_in v).forest (window_start space addr false) n c → c < n → HasRun v space addr (reading c) r bs u
    → HasRun u space (addr + c) (reading (n - c)) q cs y → HasRun v space addr (reading n) (either r q) (bs ++ cs) y
read_then v u y space addr n c r q bs cs first less h k =
    let f : Forest = (generation_in v).forest in
    let same : (generation_in u).forest ≡ f = forest_kept v u _ _ h.done in
    let ds : List AccessStep = access f space addr (reading c) in
    let es : List AccessStep = access f space (addr + c) (reading (n - c)) in
    let list : access f space addr (reading n) ≡ ds ++ es =
    read_cut f space addr n c (omega (arith, less)) (chunk_of f (window_start space addr false) n c first less) in
    let later : Does u es cs y = subst (λ (z : Forest). Does u (access z space (addr + c) (reading (n - c))) cs y) same k.done in
    let ended : q ≡ result_of es = k.result ∙ ap (λ (z : Forest). result_of (access z space (addr + c) (reading (n - c)))) same in
    record {
      done = subst (λ (l : List AccessStep). Does v l (bs ++ cs) y) (sym list) (does_then v u y ds es bs cs h.done later);
      result = (λ i. either (h.result i) (ended i)) ∙ sym (results_append ds es) ∙ ap (λ (l : List AccessStep). result_of l) (sym list);
    }

pub write_then : (v u y : PassValue Published) (space : SpaceId) (addr c : ℕ) (r q : TxResult) (bytes : List ℕ)
    → IsFirst (generation_in v).forest (window_start space addr true) (length bytes) c → c < length bytes
    → HasRun v space addr (writing (take c bytes)) r [] u
    → HasRun u space (addr + c) (writing (drop c bytes)) q [] y → HasRun v space addr (writing bytes) (either r q) [] y
write_then v u y space addr c r q bytes first less h k =
    let f : Forest = (generation_in v).forest in
    let same : (generation_in u).forest ≡ f = forest_kept v u _ _ h.done in
    let ds : List AccessStep = access f space addr (writing (take c bytes)) in
    let es : List AccessStep = access f space (addr + c) (writing (drop c bytes)) in
    let list : access f space addr (writing bytes) ≡ ds ++ es =
    write_cut f space addr c bytes (omega (arith, less)) (chunk_of f (window_start space addr true) (length bytes) c first less) in
    let later : Does u es [] y = subst (λ (z : Forest). Does u (access z space (addr + c) (writing (drop c bytes))) [] y) same k.done in
    let ended : q ≡ result_of es = k.result ∙ ap (λ (z : Forest). result_of (access z space (addr + c) (writing (drop c bytes)))) same in
    record {
      done = subst (λ (l : List AccessStep). Does v l [] y) (sym list) (does_then v u y ds es [] [] h.done later);
      result = (λ i. either (h.result i) (ended i)) ∙ sym (results_append ds es) ∙ ap (λ (l : List AccessStep). result_of l) (sym list);
    }

-- what one window did

pub read_run : (v y : PassValue Published) (space : SpaceId) (addr asked used count : ℕ) (handed given : Option ℕ) (w u : WindowValue)
    (bytes rest : List ℕ) (ended : TxResult) → is_entered v ≡ true → HasOpened v (window_start space addr false) asked handed w → count ≡ w.len
    → length bytes ≡ count → HasGot w 0 bytes u → HasClosed u used y given ended
    → HasRun v space addr (reading count) ended (take count (bytes ++ rest)) y
read_run v y space addr asked used count handed given w u bytes rest ended e o same size g k =
    let run = entered_get v y space addr asked used handed given w u bytes ended o (size ∙ same) g k e in
    subst (λ (q : ℕ × List ℕ). HasRun v space addr (reading q.0) ended q.1 y) (λ i. (sym same i, sym (take_at bytes rest count size) i)) run

pub write_run : (v y : PassValue Published) (space : SpaceId) (addr asked used : ℕ) (handed given : Option ℕ) (w u : WindowValue)
    (part : List ℕ) (ended : TxResult) → is_entered v ≡ true → HasOpened v (window_start space addr true) asked handed w → used ≡ w.len
    → length part ≡ used → HasPut w 0 part u → HasClosed u used y given ended → HasRun v space addr (writing part) ended [] y
write_run v y space addr asked used handed given w u part ended e o same size g k =
    entered_put v y space addr asked handed given w u part ended o (size ∙ same) g
    (subst (λ (n : ℕ). HasClosed u n y given ended) same k) e

pub opened_most : (v : PassValue Published) (s : WindowStart) (asked : ℕ) (handed : Option ℕ) (w : WindowValue) → HasOpened v s asked handed w → w.len ≤ asked
opened_most v s asked handed w o = o.opened.most

pub first_size : (count len : ℕ) (xs : List ℕ) → count ≡ len → len ≤ length xs → length (take count xs) ≡ count
first_size count len xs same most = length-take-le count xs (omega (arith, same, most))

-- all of it, by one window and the others after it

pub read_all : (v u y : PassValue Published) (space : SpaceId) (addr n c : ℕ) (r q ended : TxResult) (all cs : List ℕ) → ended ≡ either r q
    → IsFirst (generation_in v).forest (window_start space addr false) n c → (c ≡ length all → ⊥) → length all ≡ n
    → HasRun v space addr (reading c) r (take c all) u → HasRun u space (addr + c) (reading (length (mid_of c (length all - c) all))) q cs y
    → HasRun v space addr (reading n) ended (take c all ++ (cs ++ post_of c (length all - c) all)) y
read_all v u y space addr n c r q ended all cs join first more size h k =
    let most : c ≤ n = first.most in
    let less : c < n = omega (arith, most, more, size) in
    let left : length (drop c all) ≡ length all - c = length-drop c all in
    let part : length (mid_of c (length all - c) all) ≡ n - c =
    length-take-le (length all - c) (drop c all) (omega (arith, left)) ∙ ap (λ (m : ℕ). m - c) size in
    let none : post_of c (length all - c) all ≡ [] = drop_all (length all - c) (drop c all) (omega (arith, left)) in
    subst (λ (t : TxResult × List ℕ). HasRun v space addr (reading n) t.0 (take c all ++ t.1) y)
    (λ i. (sym join i, (sym (append-nil cs) ∙ ap (λ (zs : List ℕ). cs ++ zs) (sym none)) i))
    (read_then v u y space addr n c r q (take c all) cs first less h (subst (λ (m : ℕ). HasRun u space (addr + c) (reading m) q cs y) part k))

pub write_all : (v u y : PassValue Published) (space : SpaceId) (addr c : ℕ) (r q ended : TxResult) (bytes : List ℕ) → ended ≡ either r q
    → IsFirst (generation_in v).forest (window_start space addr true) (length bytes) c → (c ≡ length bytes → ⊥)
    → HasRun v space addr (writing (take c bytes)) r [] u → HasRun u space (addr + c) (writing (take (length bytes - c) (drop c bytes))) q [] y
    → HasRun v space addr (writing bytes) ended [] y
write_all v u y space addr c r q ended bytes join first more h k =
    let most : c ≤ length bytes = first.most in
    let less : c < length bytes = omega (arith, most, more) in
    subst (λ (t : TxResult). HasRun v space addr (writing bytes) t [] y) (sym join)
    (write_then v u y space addr c r q bytes first less h (subst (λ (bs : List ℕ). HasRun u space (addr + c) (writing bs) q [] y) (take_rest bytes c) k))
