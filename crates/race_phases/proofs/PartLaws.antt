-- What a script that was read looks like: lines, and a block with lines after it, or no block.
use Rattle.std.proofs.Common.{◌≡◌, ℕ, ◌+◌, suc, ◌≤◌, Bool, true, false, ◌||◌, cond, List, [], ◌∷◌, ◌++◌, length, take, drop, map, Some, refl, sym, ap, subst, ◌∙◌, arith, inl, inr, append-nil}
use Rattle.std.specs.Prelude.{not, ◌⊎◌}
use Rattle.std.specs.List.{prefix_len}
use Rattle.std.proofs.lemmas.List.{drop-drop, drop-map, take-append-drop, take-map}
use Rattle.mem_base.specs.declared.script.commands.Command.{Command}
use Rattle.mem_base.specs.declared.script.commands.Command.TheVariants as commands
use Rattle.mem_base.specs.declared.script.places.PlaceRule.{PlaceRule}
use Rattle.mem_base.specs.declared.script.places.PlaceRule.TheVariants.{First, OutsideBlock, OpensBlock, ClosesBlock, Anywhere}
use Rattle.mem_base.specs.declared.script.places.Section.{Section}
use Rattle.mem_base.specs.declared.script.places.Section.TheVariants.{Start, Setup, Block, Tail}
use Rattle.mem_base.specs.lists.Every.{Every}
use Rattle.mem_base.specs.script.Scripts.{Line, placed, rule_of}
use Rattle.mem_base.specs.script.Race.{is_end, is_par, phases_of}
use Rattle.mem_base.specs.script.Sound.{Sound}
use Rattle.view_laws.proofs.Tests.{none_is_not_some}
use Rattle.race_laws.specs.Outside.{IsPlain, block_of, phases_alone}
use Rattle.race_laws.proofs.OutsideLaws.{has_phases}
use Rattle.race_phases.specs.Plain.{AreParts, is_plain, whose_line}
use Rattle.std.proofs.lemmas.Option.{same_Some}
use Rattle.mem_base.proofs.BoolLaws.{true_is_not_false}

-- Where a list is cut at the first element that fails a test

abbrev AtFirst : {A : Type 0} → (A → Bool) → List A → Type 0
AtFirst q [] = Unit {0}
AtFirst q (x ∷ xs) = q x ≡ false

pub record IsCut {A : Type 0} (q : A → Bool) (front back : List A) : Type 0 where
  pub passes : Every (λ x. q x ≡ true) front
  pub fails : AtFirst q back

pub cut : {A : Type 0} (q : A → Bool) (xs : List A) → IsCut q (take (prefix_len q xs) xs) (drop (prefix_len q xs) xs)
cut q [] = record { passes = tt; fails = tt }
cut {A = A} q (x ∷ xs) = go (q x) refl (cut q xs)
  where
    go : (b : Bool) → q x ≡ b → IsCut q (take (prefix_len q xs) xs) (drop (prefix_len q xs) xs)
        → IsCut q (take (cond b (1 + prefix_len q xs) 0) (x ∷ xs)) (drop (cond b (1 + prefix_len q xs) 0) (x ∷ xs))
    go true e c = let longer : suc (prefix_len q xs) ≡ 1 + prefix_len q xs = omega arith in
        subst (λ (n : ℕ). IsCut q (take n (x ∷ xs)) (drop n (x ∷ xs))) longer (record { passes = (e, c.passes); fails = c.fails })
    go false e c = record { passes = tt; fails = e }

pub prefix_within : {A : Type 0} (q : A → Bool) (xs : List A) → prefix_len q xs ≤ length xs
prefix_within q [] = omega arith
prefix_within q (x ∷ xs) = go (q x) (prefix_within q xs)
  where
    go : (b : Bool) → prefix_len q xs ≤ length xs → cond b (1 + prefix_len q xs) 0 ≤ suc (length xs)
    go true l = omega arith
    go false l = omega arith

-- Where commands may stand

abbrev IsPlainRule : PlaceRule → Type 0
IsPlainRule OpensBlock = ⊥
IsPlainRule ClosesBlock = ⊥
IsPlainRule _ = Unit {0}

abbrev IsMarker : Command → Type 0
IsMarker c = ((is_par c ≡ true) × (rule_of c ≡ OpensBlock)) ⊎ ((is_end c ≡ true) × (is_par c ≡ false) × (rule_of c ≡ ClosesBlock))

plain_rule : (c : Command) → is_plain c ≡ true → IsPlainRule (rule_of c)
plain_rule commands.Par e = true_is_not_false true refl (sym e)
plain_rule commands.End e = true_is_not_false true refl (sym e)
plain_rule _ e = tt

rule_plain : (c : Command) → IsPlainRule (rule_of c) → is_plain c ≡ true
rule_plain commands.Par e = absurd e
rule_plain commands.End e = absurd e
rule_plain _ e = refl

marker : (c : Command) → is_plain c ≡ false → IsMarker c
marker commands.Par e = inl (refl, refl)
marker commands.End e = inr (refl, refl, refl)
marker _ e = true_is_not_false true refl e

abbrev IsBefore : Section → Type 0
IsBefore Start = Unit {0}
IsBefore Setup = Unit {0}
IsBefore (Block par) = ⊥
IsBefore Tail = ⊥

before_plain : (n : ℕ) (s next : Section) (rule : PlaceRule) → IsBefore s → IsPlainRule rule → placed n s rule ≡ Some next → IsBefore next
before_plain n Start next First b r e = subst IsBefore (same_Some Setup next e) tt
before_plain n Start next OutsideBlock b r e = subst IsBefore (same_Some Setup next e) tt
before_plain n Start next Anywhere b r e = subst IsBefore (same_Some Setup next e) tt
before_plain n Start next OpensBlock b r e = absurd r
before_plain n Start next ClosesBlock b r e = absurd r
before_plain n Setup next First b r e = none_is_not_some next e
before_plain n Setup next OutsideBlock b r e = subst IsBefore (same_Some Setup next e) tt
before_plain n Setup next Anywhere b r e = subst IsBefore (same_Some Setup next e) tt
before_plain n Setup next OpensBlock b r e = absurd r
before_plain n Setup next ClosesBlock b r e = absurd r
before_plain n (Block par) next rule b r e = absurd b
before_plain n Tail next rule b r e = absurd b

before_opens : (n : ℕ) (s next : Section) → IsBefore s → placed n s OpensBlock ≡ Some next → Block n ≡ next
before_opens n Start next b e = same_Some (Block n) next e
before_opens n Setup next b e = same_Some (Block n) next e
before_opens n (Block par) next b e = absurd b
before_opens n Tail next b e = absurd b

before_closes : {A : Type 0} (n : ℕ) (s next : Section) → IsBefore s → placed n s ClosesBlock ≡ Some next → A
before_closes n Start next b e = none_is_not_some next e
before_closes n Setup next b e = none_is_not_some next e
before_closes n (Block par) next b e = absurd b
before_closes n Tail next b e = absurd b

block_plain : (n par : ℕ) (next : Section) (rule : PlaceRule) → IsPlainRule rule → placed n (Block par) rule ≡ Some next → Block par ≡ next
block_plain n par next First r e = none_is_not_some next e
block_plain n par next OutsideBlock r e = none_is_not_some next e
block_plain n par next Anywhere r e = same_Some (Block par) next e
block_plain n par next OpensBlock r e = absurd r
block_plain n par next ClosesBlock r e = absurd r

tail_plain : (n : ℕ) (next : Section) (rule : PlaceRule) → placed n Tail rule ≡ Some next → (Tail ≡ next) × IsPlainRule rule
tail_plain n next OutsideBlock e = (same_Some Tail next e, tt)
tail_plain n next Anywhere e = (same_Some Tail next e, tt)
tail_plain n next _ e = none_is_not_some next e

-- Lines, one after another

abbrev are_plain : List Line → Type 0
are_plain lines = Every (λ line. is_plain line.1 ≡ true) lines

sound_before : (s : Section) (front rest : List Line) → IsBefore s → are_plain front → Sound s (front ++ rest) → (t : Section) × (IsBefore t × Sound t rest)
sound_before s [] rest b p h = (s, (b, h))
sound_before s (line ∷ front) rest b p h = sound_before h.1.0 front rest
    (before_plain line.0 s h.1.0 (rule_of line.1) b (plain_rule line.1 p.0) h.1.1) p.1 h.1.2

sound_block : (par : ℕ) (front rest : List Line) → are_plain front → Sound (Block par) (front ++ rest) → Sound (Block par) rest
sound_block par [] rest p h = h
sound_block par (line ∷ front) rest p h = sound_block par front rest p.1
    (subst (λ (t : Section). Sound t (front ++ rest)) (sym (block_plain line.0 par h.1.0 (rule_of line.1) (plain_rule line.1 p.0) h.1.1)) h.1.2)

sound_tail : (lines : List Line) → Sound Tail lines → are_plain lines
sound_tail [] h = tt
sound_tail (line ∷ lines) h = let t = tail_plain line.0 h.1.0 (rule_of line.1) h.1.1 in
    (rule_plain line.1 t.1, sound_tail lines (subst (λ (s : Section). Sound s lines) (sym t.0) h.1.2))

plain_line : (line : Line) → is_plain line.1 ≡ true → IsPlain line
plain_line line e = record { begins = (two_off (is_par line.1) (is_end line.1) e).0; ends = (two_off (is_par line.1) (is_end line.1) e).1 }
  where
    two_off : (a b : Bool) → not (a || b) ≡ true → (a ≡ false) × (b ≡ false)
    two_off true b e = true_is_not_false true refl (sym e)
    two_off false true e = true_is_not_false true refl (sym e)
    two_off false false e = (refl, refl)

plain_lines : (lines : List Line) → are_plain lines → Every IsPlain lines
plain_lines [] p = tt
plain_lines (line ∷ lines) p = (plain_line line p.0, plain_lines lines p.1)

-- a script without a block
pub no_block : (lines : List Line) → are_plain lines → phases_of lines ≡ phases_alone lines ++ (block_of [] ++ phases_alone [])
no_block lines p = has_phases.plain lines (plain_lines lines p) ∙ sym (append-nil (phases_alone lines))

closed : {A : Type 0} (par : ℕ) → Sound (Block par) [] → A
closed par h = absurd (grind arith)

abbrev test : Line → Bool
test line = is_plain line.1

-- after `par`: the block, its end, and the lines after it
block_part : (front : List Line) (par : Line) (inside rest : List Line) → are_plain front → is_par par.1 ≡ true → are_plain inside
    → AtFirst test rest → Sound (Block par.0) rest
    → phases_of (front ++ par ∷ (inside ++ rest)) ≡ phases_alone front ++ (block_of inside ++ phases_alone (drop 1 rest))
block_part front par inside [] f begins i fails h = closed par.0 h
block_part front par inside (end ∷ back) f begins i fails h = go (marker end.1 fails)
  where
    go : IsMarker end.1 → phases_of (front ++ par ∷ (inside ++ end ∷ back)) ≡ phases_alone front ++ (block_of inside ++ phases_alone back)
    go (inl m) = none_is_not_some h.1.0 (sym (ap (placed end.0 (Block par.0)) m.1) ∙ h.1.1)
    go (inr m) =
        let tail : Tail ≡ h.1.0 = same_Some Tail h.1.0 (sym (ap (placed end.0 (Block par.0)) m.2) ∙ h.1.1) in
        has_phases.with_block front inside back par end (plain_lines front f) (plain_lines inside i)
        (plain_lines back (sound_tail back (subst (λ (s : Section). Sound s back) (sym tail) h.1.2))) begins m.1 m.0

pub with_block : (front : List Line) (line : Line) (inside rest : List Line) → are_plain front → is_plain line.1 ≡ false → are_plain inside
    → AtFirst test rest → Sound Start (front ++ line ∷ (inside ++ rest))
    → phases_of (front ++ line ∷ (inside ++ rest)) ≡ phases_alone front ++ (block_of inside ++ phases_alone (drop 1 rest))
with_block front line inside rest f marks i fails h = let at = sound_before Start front (line ∷ (inside ++ rest)) tt f h in
    go at.0 at.1.0 at.1.1 (marker line.1 marks)
  where
    go : (s : Section) → IsBefore s → Sound s (line ∷ (inside ++ rest)) → IsMarker line.1
        → phases_of (front ++ line ∷ (inside ++ rest)) ≡ phases_alone front ++ (block_of inside ++ phases_alone (drop 1 rest))
    go s b k (inl m) =
        let opened : Block line.0 ≡ k.1.0 = before_opens line.0 s k.1.0 b (sym (ap (placed line.0 s) m.1) ∙ k.1.1) in
        block_part front line inside rest f m.0 i fails
        (sound_block line.0 inside rest i (subst (λ (t : Section). Sound t (inside ++ rest)) (sym opened) k.1.2))
    go s b k (inr m) = before_closes line.0 s k.1.0 b (sym (ap (placed line.0 s) m.2) ∙ k.1.1)

-- the parts as the lists are cut

abbrev plain_count : List Line → ℕ
plain_count lines = prefix_len test lines

pub without_block : (lines front back : List Line) (k : ℕ) → k ≡ plain_count lines → front ≡ take k lines → back ≡ drop k lines → back ≡ []
    → phases_of lines ≡ phases_alone front ++ (block_of [] ++ phases_alone [])
without_block lines front back k is f b none =
    let all : front ≡ lines = f ∙ sym (append-nil (take k lines)) ∙ ap (λ (ls : List Line). take k lines ++ ls) (sym none ∙ b)
    ∙ take-append-drop k lines in
    let first : front ≡ take (plain_count lines) lines = f ∙ ap (λ (n : ℕ). take n lines) is in
    ap phases_of (sym all) ∙ no_block front (subst are_plain (sym first) (cut test lines).passes)

pub around_block : (lines front back rest inside more after : List Line) (line : Line) (k j : ℕ) → k ≡ plain_count lines → front ≡ take k lines
    → back ≡ drop k lines → back ≡ line ∷ rest → j ≡ plain_count rest → inside ≡ take j rest → more ≡ drop j rest → after ≡ drop 1 more
    → Sound Start lines → phases_of lines ≡ phases_alone front ++ (block_of inside ++ phases_alone after)
around_block lines front back rest inside more after line k j is f b first is' i m a h =
    let before : front ≡ take (plain_count lines) lines = f ∙ ap (λ (n : ℕ). take n lines) is in
    let behind : drop (plain_count lines) lines ≡ line ∷ rest = ap (λ (n : ℕ). drop n lines) (sym is) ∙ sym b ∙ first in
    let within : inside ≡ take (plain_count rest) rest = i ∙ ap (λ (n : ℕ). take n rest) is' in
    let left : more ≡ drop (plain_count rest) rest = m ∙ ap (λ (n : ℕ). drop n rest) is' in
    let both : inside ++ more ≡ rest = (λ x. within x ++ left x) ∙ take-append-drop (plain_count rest) rest in
    let whole : front ++ line ∷ (inside ++ more) ≡ lines = (λ x. before x ++ line ∷ both x) ∙ ap (λ (ls : List Line). take (plain_count lines) lines ++ ls) (sym behind)
    ∙ take-append-drop (plain_count lines) lines in
    let c = cut test lines in
    let d = cut test rest in
    let marks : AtFirst test (line ∷ rest) = subst (AtFirst test) behind c.fails in
    ap phases_of (sym whole)
    ∙ with_block front line inside more (subst are_plain (sym before) c.passes) marks (subst are_plain (sym within) d.passes)
    (subst (AtFirst test) (sym left) d.fails) (subst (Sound Start) (sym whole) h)
    ∙ ap (λ (ls : List Line). phases_alone front ++ (block_of inside ++ phases_alone ls)) (sym a)

pub no_lines : (lines : List Line) → length lines ≡ 0 → lines ≡ []
no_lines [] e = refl
no_lines (line ∷ lines) e = absurd (omega (arith, e))

-- what the parts are of the lines

pub all_before : (lines front back : List Line) (k : ℕ) → front ≡ take k lines → back ≡ drop k lines → back ≡ [] → AreParts lines front [] []
all_before lines front back k f b none = inl (
  sym (f ∙ sym (append-nil (take k lines)) ∙ ap (λ (ls : List Line). take k lines ++ ls) (sym none ∙ b) ∙ take-append-drop k lines),
  refl,
  refl,
)

ends_somewhere : {A : Type 0} (front : List Line) (line : Line) (inside : List Line) → are_plain front → is_plain line.1 ≡ false → are_plain inside
    → Sound Start (front ++ line ∷ (inside ++ [])) → A
ends_somewhere {A} front line inside f marks i h = let at = sound_before Start front (line ∷ (inside ++ [])) tt f h in
    go at.0 at.1.0 at.1.1 (marker line.1 marks)
  where
    go : (s : Section) → IsBefore s → Sound s (line ∷ (inside ++ [])) → IsMarker line.1 → A
    go s b k (inl m) =
        let opened : Block line.0 ≡ k.1.0 = before_opens line.0 s k.1.0 b (sym (ap (placed line.0 s) m.1) ∙ k.1.1) in
        closed line.0 (sound_block line.0 inside [] i (subst (λ (t : Section). Sound t (inside ++ [])) (sym opened) k.1.2))
    go s b k (inr m) = before_closes line.0 s k.1.0 b (sym (ap (placed line.0 s) m.2) ∙ k.1.1)

parts_around : (lines front inside more after : List Line) (line : Line) → are_plain front → is_plain line.1 ≡ false → are_plain inside
    → front ++ line ∷ (inside ++ more) ≡ lines → after ≡ drop 1 more → Sound Start lines → AreParts lines front inside after
parts_around lines front inside [] after line f marks i whole a h =
    ends_somewhere front line inside f marks i (subst (Sound Start) (sym whole) h)
parts_around lines front inside (end ∷ back) after line f marks i whole a h =
    inr (line, end, sym whole ∙ ap (λ (ls : List Line). front ++ line ∷ (inside ++ end ∷ ls)) (sym a))

pub around_lines : (lines front back rest inside more after : List Line) (line : Line) (k j : ℕ) → k ≡ plain_count lines → front ≡ take k lines
    → back ≡ drop k lines → back ≡ line ∷ rest → j ≡ plain_count rest → inside ≡ take j rest → more ≡ drop j rest → after ≡ drop 1 more
    → Sound Start lines → AreParts lines front inside after
around_lines lines front back rest inside more after line k j is f b first is' i m a h =
    let before : front ≡ take (plain_count lines) lines = f ∙ ap (λ (n : ℕ). take n lines) is in
    let behind : drop (plain_count lines) lines ≡ line ∷ rest = ap (λ (n : ℕ). drop n lines) (sym is) ∙ sym b ∙ first in
    let within : inside ≡ take (plain_count rest) rest = i ∙ ap (λ (n : ℕ). take n rest) is' in
    let left : more ≡ drop (plain_count rest) rest = m ∙ ap (λ (n : ℕ). drop n rest) is' in
    let both : inside ++ more ≡ rest = (λ x. within x ++ left x) ∙ take-append-drop (plain_count rest) rest in
    let whole : front ++ line ∷ (inside ++ more) ≡ lines = (λ x. before x ++ line ∷ both x) ∙ ap (λ (ls : List Line). take (plain_count lines) lines ++ ls) (sym behind)
    ∙ take-append-drop (plain_count lines) lines in
    parts_around lines front inside more after line (subst are_plain (sym before) (cut test lines).passes) (subst (AtFirst test) behind (cut test lines).fails)
    (subst are_plain (sym within) (cut test rest).passes) whole a h

-- Whose each line is, beside the lines

-- of the lines behind the first ones
pub noted_behind : (lines back rest : List Line) (line : Line) (whose behind : List ℕ) (k : ℕ) → whose ≡ map whose_line lines → behind ≡ drop (k + 1) whose
    → back ≡ drop k lines → back ≡ line ∷ rest → behind ≡ map whose_line rest
noted_behind lines back rest line whose behind k all b is first =
    b ∙ ap (drop (k + 1)) all ∙ drop-map whose_line (k + 1) lines ∙ ap (map whose_line) (sym (drop-drop 1 k lines) ∙ ap (drop 1) (sym is ∙ first))

-- and of the first lines
pub noted_first : (lines front : List Line) (whose first : List ℕ) (k : ℕ) → whose ≡ map whose_line lines → first ≡ take k whose → front ≡ take k lines
    → first ≡ map whose_line front
noted_first lines front whose first k all f is = f ∙ ap (take k) all ∙ take-map whose_line k lines ∙ ap (map whose_line) (sym is)
