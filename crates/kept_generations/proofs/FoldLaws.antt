-- A sweep of every pass is one sweep after another.
use Rattle.std.proofs.Common.{◌≡◌, ℕ, ◌+◌, Bool, true, List, [], ◌∷◌, ◌++◌, length, map, get_or, set, refl, sym, ap, ◌∙◌, arith}
use Rattle.std.proofs.lemmas.List.{length_push}
use Rattle.std.specs.List.{range_with_len}
use Rattle.mem_base.specs.map.PassIds.{PassId}
use Rattle.mem_base.specs.declared.machine.events.Event.TheVariants.{Sweep}
use Rattle.mem_base.specs.machine.Passes.{PassState, idle, pass_id}
use Rattle.mem_base.specs.machine.Generations.{PassTrack, nothing_known}
use Rattle.mem_base.specs.machine.Desk.{Desk}
use Rattle.mem_base.specs.machine.Reaps.{writer}
use Rattle.mem_base.specs.machine.World.{world}
use Rattle.mem_base.specs.machine.History.{run_events}
use Rattle.mem_base.specs.access.Cells.{Block}
use Rattle.mem_base.specs.machine.Orders.{pass_ids, sweeps}
use Rattle.generation.specs.Published.{Published}
use Rattle.kept_generations.specs.KeptState.{KeptState, kept_state, generations_of}
use Rattle.kept_generations.specs.Sweeping.{SweepsFold, SweepsRun, after_sweep, after_sweeps, swept_track, swept_tracks, all_swept}

get_middle : {A : Type 0} (xs ys : List A) (x d : A) → get_or (xs ++ x ∷ ys) (length xs) d ≡ x
get_middle [] ys x d = refl
get_middle (z ∷ xs) ys x d = get_middle xs ys x d

set_middle : {A : Type 0} (xs ys : List A) (x y : A) → set (xs ++ x ∷ ys) (length xs) y ≡ (xs ++ y ∷ []) ++ ys
set_middle [] ys x y = refl
set_middle (z ∷ xs) ys x y = ap (λ l. z ∷ l) (set_middle xs ys x y)

same_length : {A : Type 0} (xs : List A) (y : A) (n : ℕ) → length xs ≡ n → length (xs ++ y ∷ []) ≡ n + 1
same_length xs y n e = length_push xs y ∙ ap (λ m. m + 1) e

append_one : {A : Type 0} (xs : List A) (y : A) (ys : List A) → (xs ++ y ∷ []) ++ ys ≡ xs ++ y ∷ ys
append_one [] y ys = refl
append_one (x ∷ xs) y ys = ap (λ l. x ∷ l) (append_one xs y ys)

-- a sweep of the pass that comes after those that are done
sweep_next : (gs : List Published) (current first : ℕ) (done ks : List PassTrack) (before ps : List PassState) (flags bs : List Bool)
    (k : PassTrack) (p : PassState) (b : Bool) → length done ≡ first → length before ≡ first → length flags ≡ first
    → after_sweep (kept_state gs (done ++ k ∷ ks) (before ++ p ∷ ps) (flags ++ b ∷ bs) current) (pass_id first)
    ≡ kept_state gs ((done ++ swept_track current k p ∷ []) ++ ks) ((before ++ p ∷ []) ++ ps) ((flags ++ true ∷ []) ++ bs) current
sweep_next gs current first done ks before ps flags bs k p b e f g =
    let track : get_or (done ++ k ∷ ks) first nothing_known ≡ k =
    ap (λ n. get_or (done ++ k ∷ ks) n nothing_known) (sym e) ∙ get_middle done ks k nothing_known in
    let state : get_or (before ++ p ∷ ps) first idle ≡ p =
    ap (λ n. get_or (before ++ p ∷ ps) n idle) (sym f) ∙ get_middle before ps p idle in
    let tracks : set (done ++ k ∷ ks) first (swept_track current k p) ≡ (done ++ swept_track current k p ∷ []) ++ ks =
    ap (λ n. set (done ++ k ∷ ks) n (swept_track current k p)) (sym e) ∙ set_middle done ks k (swept_track current k p) in
    let swept : set (flags ++ b ∷ bs) first true ≡ (flags ++ true ∷ []) ++ bs = ap (λ n. set (flags ++ b ∷ bs) n true) (sym g) ∙ set_middle flags bs b true in
    let known : set (done ++ k ∷ ks) first (swept_track current (get_or (done ++ k ∷ ks) first nothing_known) (get_or (before ++ p ∷ ps) first idle))
    ≡ (done ++ swept_track current k p ∷ []) ++ ks =
    ap (λ x. set (done ++ k ∷ ks) first (swept_track current x (get_or (before ++ p ∷ ps) first idle))) track
    ∙ ap (λ x. set (done ++ k ∷ ks) first (swept_track current k x)) state ∙ tracks in
    ap (λ ts. kept_state gs ts (before ++ p ∷ ps) (set (flags ++ b ∷ bs) first true) current) known
    ∙ ap (λ ss. kept_state gs ((done ++ swept_track current k p ∷ []) ++ ks) ss (set (flags ++ b ∷ bs) first true) current) (sym (append_one before p ps))
    ∙ ap (λ fs. kept_state gs ((done ++ swept_track current k p ∷ []) ++ ks) ((before ++ p ∷ []) ++ ps) fs current) swept

-- sweeps of the passes from `first` on, where those before it are done
fold_from : (gs : List Published) (current first : ℕ) (done rest : List PassTrack) (before states : List PassState) (flags left : List Bool)
    → length done ≡ first → length before ≡ first → length flags ≡ first → length states ≡ length rest → length left ≡ length rest
    → after_sweeps (kept_state gs (done ++ rest) (before ++ states) (flags ++ left) current) (map pass_id (range_with_len first (length rest)))
    ≡ kept_state gs (done ++ swept_tracks current rest states) (before ++ states) (flags ++ map (λ swept. true) left) current
fold_from gs current first done [] before [] flags [] e f g h i = refl
fold_from gs current first done (k ∷ ks) before [] flags left e f g h i = absurd (omega arith)
fold_from gs current first done [] before (p ∷ ps) flags left e f g h i = absurd (omega arith)
fold_from gs current first done [] before [] flags (b ∷ bs) e f g h i = absurd (omega arith)
fold_from gs current first done (k ∷ ks) before (p ∷ ps) flags [] e f g h i = absurd (omega arith)
fold_from gs current first done (k ∷ ks) before (p ∷ ps) flags (b ∷ bs) e f g h i =
    ap (λ s. after_sweeps s (map pass_id (range_with_len (first + 1) (length ks)))) (sweep_next gs current first done ks before ps flags bs k p b e f g)
    ∙ fold_from gs current (first + 1) (done ++ swept_track current k p ∷ []) ks (before ++ p ∷ []) ps (flags ++ true ∷ []) bs
    (same_length done (swept_track current k p) first e) (same_length before p first f) (same_length flags true first g) (omega arith) (omega arith)
    ∙ ap (λ ts. kept_state gs ts ((before ++ p ∷ []) ++ ps) ((flags ++ true ∷ []) ++ map (λ swept. true) bs) current)
    (append_one done (swept_track current k p) (swept_tracks current ks ps))
    ∙ ap (λ ss. kept_state gs (done ++ swept_tracks current (k ∷ ks) (p ∷ ps)) ss ((flags ++ true ∷ []) ++ map (λ swept. true) bs) current)
    (append_one before p ps)
    ∙ ap (λ fs. kept_state gs (done ++ swept_tracks current (k ∷ ks) (p ∷ ps)) (before ++ p ∷ ps) fs current)
    (append_one flags true (map (λ swept. true) bs))

pub sweeps_fold : SweepsFold
sweeps_fold k e f = fold_from k.kept k.current 0 [] k.tracks [] k.states [] k.swept refl refl refl e f

-- the machine's world after sweeps of these passes, where it is kept
run_from : (passes : List PassId) (k : KeptState) (desk : Desk) (blocks : List Block)
    → (run_events (world (writer (record desk { swept = k.swept }) (generations_of k)) k.states blocks) (map (λ pass. Sweep pass) passes)).world
    ≡ (let after = after_sweeps k passes in world (writer (record desk { swept = after.swept }) (generations_of after)) after.states blocks)
run_from [] k desk blocks = refl
run_from (pass ∷ passes) k desk blocks = run_from passes (after_sweep k pass) desk blocks

pub sweeps_run : SweepsRun
sweeps_run k w e f by =
    let desk : List Bool → Desk = λ swept. record w.writer.desk { swept = swept } in
    ap (λ v. (run_events v (sweeps v.writer.generations)).world)
    (ap (λ swept. world (writer (desk swept) w.writer.generations) w.passes w.blocks) by.swept
    ∙ ap (λ g. world (writer (desk k.swept) g) w.passes w.blocks) by.generations
    ∙ ap (λ states. world (writer (desk k.swept) (generations_of k)) states w.blocks) by.states)
    ∙ run_from (pass_ids (generations_of k)) k w.writer.desk w.blocks
    ∙ ap (λ after. world (writer (desk after.swept) (generations_of after)) after.states w.blocks) (sweeps_fold k e f)
    ∙ ap (λ states. world (writer (desk (all_swept k).swept) (generations_of (all_swept k))) states w.blocks) (sym by.states)
