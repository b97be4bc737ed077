-- What a script leaves, line after line.
use Rattle.std.proofs.Common.{◌≡◌, ◌<◌, ◌+◌, ℕ, suc, List, [], ◌∷◌, ◌++◌, length, drop, get_or, add-one, sym, ap, ◌∙◌, append_assoc}
use Rattle.std.proofs.Common.{Result, Ok, Err, is_ok, true, true≢false}
use Rattle.std.specs.Prelude.{OnOk}
use Rattle.std.proofs.Math.Seq.{drop-cons}
use Rattle.mem_base.specs.script.Scripts.{Line}
use Rattle.mem_base.specs.script.States.{State}
use Rattle.mem_base.specs.script.Run.{step}
use Rattle.script_map.specs.Refusals.{Refused, refused_by}
use Rattle.script_run.specs.Standing.{Standing, state_of}
use Rattle.script_map.specs.Left.{IsLeftBy, Left, Shown, first_of, left_state, published_by, published_in, refused_in, state_after}

-- what holds of a call that was done
pub ok_gives : {T E : Type 0} (r : Result T E) (X : Type 0) → is_ok r ≡ true → OnOk r X → X
ok_gives (Ok x) X e h = h
ok_gives (Err x) X e h = absurd (true≢false (sym e))

-- what is left once all lines are done
pub left_by_all : (script lines : List Line) (old new : Standing) (before after : List Refused) (m : Left) → lines ≡ script
    → state_of old ≡ first_of script → before ≡ [] → m ≡ record { known = new.known; world = new.world; refused = after }
    → state_of new ≡ state_after (state_of old) lines → after ≡ before ++ refused_in (state_of old) lines → IsLeftBy script m
left_by_all script lines old new before after m same first none is state refused = record {
  state = ap left_state is ∙ state ∙ (λ i. state_after (first i) (same i));
  refused = ap (λ (x : Left). x.refused) is ∙ refused ∙ (λ i. none i ++ refused_in (first i) (same i));
}

pub published_by_all : (script lines : List Line) (old : Standing) (before after : List Shown) → lines ≡ script → state_of old ≡ first_of script
    → before ≡ [] → after ≡ before ++ published_in (state_of old) lines → after ≡ published_in (first_of script) script
published_by_all script lines old before after same first none is = is ∙ (λ i. none i ++ published_in (first i) (same i))

cut : (lines : List Line) (i : ℕ) (line : Line) → i < length lines → line ≡ get_or lines i line → drop i lines ≡ line ∷ drop (i + 1) lines
cut lines i line l is =
    drop-cons lines i line l ∙ ap (λ x. x ∷ drop (suc i) lines) (sym is) ∙ ap (λ n. line ∷ drop n lines) (sym (add-one i))

-- the state
pub state_next : (lines : List Line) (i : ℕ) (line : Line) (old new whole : State) → i < length lines → line ≡ get_or lines i line
    → new ≡ (step old line.0 line.1).1 → state_after old (drop i lines) ≡ whole → state_after new (drop (i + 1) lines) ≡ whole
state_next lines i line old new whole l is e h =
    ap (λ s. state_after s (drop (i + 1) lines)) e ∙ ap (state_after old) (sym (cut lines i line l is)) ∙ h

-- the refusals
pub refused_next : (lines : List Line) (i : ℕ) (line : Line) (old new : State) (before after whole : List Refused) → i < length lines
    → line ≡ get_or lines i line → new ≡ (step old line.0 line.1).1 → after ≡ before ++ refused_by line.0 (step old line.0 line.1).0
    → before ++ refused_in old (drop i lines) ≡ whole → after ++ refused_in new (drop (i + 1) lines) ≡ whole
refused_next lines i line old new before after whole l is e f h =
    let x = step old line.0 line.1 in
    let rest : List Refused = refused_in x.1 (drop (i + 1) lines) in
    ap (λ s. after ++ refused_in s (drop (i + 1) lines)) e
    ∙ ap (λ (r : List Refused). r ++ rest) f
    ∙ append_assoc before (refused_by line.0 x.0) rest
    ∙ ap (λ ls. before ++ refused_in old ls) (sym (cut lines i line l is)) ∙ h

-- the generations
pub published_next : (lines : List Line) (i : ℕ) (line : Line) (old new : State) (before after whole : List Shown) → i < length lines
    → line ≡ get_or lines i line → new ≡ (step old line.0 line.1).1 → after ≡ before ++ published_by old new
    → before ++ published_in old (drop i lines) ≡ whole → after ++ published_in new (drop (i + 1) lines) ≡ whole
published_next lines i line old new before after whole l is e f h =
    let t : State = (step old line.0 line.1).1 in
    let rest : List Shown = published_in t (drop (i + 1) lines) in
    ap (λ s. after ++ published_in s (drop (i + 1) lines)) e
    ∙ ap (λ (r : List Shown). r ++ rest) f
    ∙ append_assoc before (published_by old new) rest
    ∙ ap (λ s. before ++ (published_by old s ++ rest)) e
    ∙ ap (λ ls. before ++ published_in old ls) (sym (cut lines i line l is)) ∙ h
