-- One turn of each list of draws.
use Rattle.std.proofs.Common.{◌≡◌, ◌+◌, ◌-◌, ◌%◌, ◌==◌, Bool, true, false, if◌then◌else◌, ◌<◌, ◌≤◌, ◌++◌, ℕ, zero, suc, List, [], ◌∷◌}
use Rattle.std.proofs.Common.{Option, None, append_assoc, refl, sym, ap, ◌∙◌, arith, ℤ}
use Rattle.mem_base.specs.map.PassIds.{PassId}
use Rattle.mem_base.specs.declared.script.commands.Command.{Command}
use Rattle.mem_base.specs.script.Make.{Generator, added, draw, draw_access, draw_accesses, draw_bytes, draw_kind, draw_move, draw_move_at}
use Rattle.mem_base.specs.script.Make.{give, draw_page, draw_place, draw_region, draw_regions, draw_way, latest_after, made, made_of}
use Rattle.script_make.specs.Draws.{AccessDrawn, AccessPushed, Appended, Pushed, RegionPushed, draw_len, draw_priority, first_accesses}
use Rattle.script_make.specs.Draws.{first_regions, one_access, onto}

-- a place was drawn; the line has a priority that is equal to the one drawn
pub place_drawn : {G : Type 0} (next : Generator G) (i : ℕ) (latest : Option ℕ) (offset chosen : ℕ) (priority written : ℤ) (command : Command) (g g1 g2 g3 : G)
    → command ≡ added latest i offset chosen written → written ≡ priority
    → (offset, g1) ≡ draw_page next 4096 g → (chosen, g2) ≡ draw next 3 g1 → (priority, g3) ≡ draw_priority next g2
    → (command, g3) ≡ draw_place next i latest g
place_drawn {G} next i latest offset chosen priority written command g g1 g2 g3 made same a b c =
    let pair : Command → Command × G = λ line. (line, g3) in
    let third : ℤ × G → Command × G = λ z. (added latest i offset chosen z.0, z.1) in
    let second : ℕ × G → Command × G = λ y. let z = draw_priority next y.1 in (added latest i offset y.0 z.0, z.1) in
    let first : ℕ × G → Command × G = λ x. let y = draw next 3 x.1 in let z = draw_priority next y.1 in (added latest i x.0 y.0 z.0, z.1) in
    ap pair (made ∙ ap (added latest i offset chosen) same) ∙ ap third c ∙ ap second b ∙ ap first a

pub access_drawn : {G : Type 0} (next : Generator G) (pass way page offset written len : ℕ) (command : Command) (g g1 g2 g3 g4 g5 g6 : G)
    → written ≡ offset
    → (pass, g1) ≡ draw next 16 g → (way, g2) ≡ draw next 2 g1 → (page, g3) ≡ draw_page next 4096 g2 → (offset, g4) ≡ draw next 4096 g3
    → (len, g5) ≡ draw_len next g4 → (command, g6) ≡ draw_way next way (record { 0 = pass }) (page + written) len g5
    → (command, g6) ≡ one_access next g
unfolding one_access
access_drawn {G} next pass way page offset written len command g g1 g2 g3 g4 g5 g6 same a b c d e f =
    let of : ℕ → PassId = λ n. record { 0 = n } in
    let at : ℕ → Command × G = λ w. draw_way next way (of pass) (page + w) len g5 in
    let fifth : ℕ × G → Command × G = λ v. draw_way next way (of pass) (page + offset) v.0 v.1 in
    let fourth : ℕ × G → Command × G = λ u. let v = draw_len next u.1 in draw_way next way (of pass) (page + u.0) v.0 v.1 in
    let third : ℕ × G → Command × G = λ z. let u = draw next 4096 z.1 in let v = draw_len next u.1 in draw_way next way (of pass) (z.0 + u.0) v.0 v.1 in
    let second : ℕ × G → Command × G = λ y. let z = draw_page next 4096 y.1 in let u = draw next 4096 z.1 in let v = draw_len next u.1 in
    draw_way next y.0 (of pass) (z.0 + u.0) v.0 v.1 in
    let first : ℕ × G → Command × G = λ x. let y = draw next 2 x.1 in let z = draw_page next 4096 y.1 in let u = draw next 4096 z.1 in
    let v = draw_len next u.1 in draw_way next y.0 (of x.0) (z.0 + u.0) v.0 v.1 in
    f ∙ ap at same ∙ ap fifth e ∙ ap fourth d ∙ ap third c ∙ ap second b ∙ ap first a

-- region i was drawn, pushed in two steps
pub region_drawn : {G : Type 0} (next : Generator G) (i : ℕ) (latest : Option ℕ) (before : List Command) (kind : ℕ) (region place : Command) (g g1 g2 g3 : G)
    → (kind, g1) ≡ draw_kind next i g → (region, g2) ≡ draw_region next i kind g1 → (place, g3) ≡ draw_place next i latest g2
    → RegionPushed next i latest (latest_after latest i kind) before ((before ++ region ∷ []) ++ place ∷ []) g g3
unfolding RegionPushed
region_drawn {G} next i latest before kind region place g g1 g2 g3 a b c left =
    let third : Command × G → List Command × G = λ z. let w = draw_regions next left (i + 1) (latest_after latest i kind) z.1 in
    (before ++ region ∷ z.0 ∷ w.0, w.1) in
    let second : Command × G → List Command × G = λ y. let z = draw_place next i latest y.1 in
    let w = draw_regions next left (i + 1) (latest_after latest i kind) z.1 in (before ++ y.0 ∷ z.0 ∷ w.0, w.1) in
    let first : ℕ × G → List Command × G = λ x. let y = draw_region next i x.0 x.1 in let z = draw_place next i latest y.1 in
    let w = draw_regions next left (i + 1) (latest_after latest i x.0) z.1 in (before ++ y.0 ∷ z.0 ∷ w.0, w.1) in
    let rest = draw_regions next left (i + 1) (latest_after latest i kind) g3 in
    let pair : List Command → List Command × G = λ xs. (xs, rest.1) in
    sym (ap third c ∙ ap second b ∙ ap first a)
    ∙ ap pair (sym (append_assoc (before ++ region ∷ []) (place ∷ []) rest.0 ∙ append_assoc before (region ∷ []) (place ∷ rest.0)))

-- access t was drawn, and the move before it
pub access_pushed : {G : Type 0} (next : Generator G) (t : ℕ) (before : List Command) (access : Command) (g g2 : G)
    → (access, g2) ≡ draw_access next (draw_move_at next t g).1
    → AccessPushed next t before ((before ++ (draw_move_at next t g).0) ++ access ∷ []) g g2
unfolding AccessPushed
access_pushed {G} next t before access g g2 a left =
    let moves = draw_move_at next t g in
    let second : Command × G → List Command × G = λ y. let w = draw_accesses next left (t + 1) y.1 in (before ++ (moves.0 ++ y.0 ∷ w.0), w.1) in
    let rest = draw_accesses next left (t + 1) g2 in
    let pair : List Command → List Command × G = λ xs. (xs, rest.1) in
    sym (ap second a) ∙ ap pair (sym (append_assoc (before ++ moves.0) (access ∷ []) rest.0 ∙ append_assoc before moves.0 (access ∷ rest.0)))

pub byte_drawn : {G : Type 0} (next : Generator G) (left : ℕ) (before : List ℕ) (byte : ℕ) (g g1 : G)
    → (byte, g1) ≡ draw next 256 g → onto before (draw_bytes next (suc left) g) ≡ onto (before ++ byte ∷ []) (draw_bytes next left g1)
byte_drawn {G} next left before byte g g1 a =
    let first : ℕ × G → List ℕ × G = λ x. let w = draw_bytes next left x.1 in (before ++ x.0 ∷ w.0, w.1) in
    let rest = draw_bytes next left g1 in
    let pair : List ℕ → List ℕ × G = λ xs. (xs, rest.1) in
    sym (ap first a) ∙ ap pair (sym (append_assoc before (byte ∷ []) rest.0))

pub one_less : (i n : ℕ) → i < n → n - i ≡ suc (n - (i + 1))
one_less i n h = omega (arith, h)

pub region_turn : {G : Type 0} (next : Generator G) (n i : ℕ) (latest later : Option ℕ) (before after : List Command) (g g1 : G) (whole : List Command × G)
    → i < n → RegionPushed next i latest later before after g g1 → onto before (draw_regions next (n - i) i latest g) ≡ whole
    → onto after (draw_regions next (n - (i + 1)) (i + 1) later g1) ≡ whole
unfolding RegionPushed
region_turn {G} next n i latest later before after g g1 whole h pushed was =
    let at : ℕ → List Command × G = λ left. onto before (draw_regions next left i latest g) in
    sym (pushed (n - (i + 1))) ∙ sym (ap at (one_less i n h)) ∙ was

pub access_turn : {G : Type 0} (next : Generator G) (n t : ℕ) (before after : List Command) (g g1 : G) (whole : List Command × G)
    → t < n → AccessPushed next t before after g g1 → onto before (draw_accesses next (n - t) t g) ≡ whole
    → onto after (draw_accesses next (n - (t + 1)) (t + 1) g1) ≡ whole
unfolding AccessPushed
access_turn {G} next n t before after g g1 whole h pushed was =
    let at : ℕ → List Command × G = λ left. onto before (draw_accesses next left t g) in
    sym (pushed (n - (t + 1))) ∙ sym (ap at (one_less t n h)) ∙ was

pub byte_turn : {G : Type 0} (next : Generator G) (n i : ℕ) (before after : List ℕ) (byte : ℕ) (g g1 : G) (whole : List ℕ × G)
    → i < n → after ≡ before ++ byte ∷ [] → (byte, g1) ≡ draw next 256 g → onto before (draw_bytes next (n - i) g) ≡ whole
    → onto after (draw_bytes next (n - (i + 1)) g1) ≡ whole
byte_turn {G} next n i before after byte g g1 whole h pushed a was =
    let at : ℕ → List ℕ × G = λ left. onto before (draw_bytes next left g) in
    let rest : List ℕ × G = draw_bytes next (n - (i + 1)) g1 in
    let over : List ℕ → List ℕ × G = λ xs. onto xs rest in
    ap over pushed ∙ sym (byte_drawn next (n - (i + 1)) before byte g g1 a) ∙ sym (ap at (one_less i n h)) ∙ was

-- all regions were drawn, and then all accesses
pub script_drawn : {G : Type 0} (next : Generator G) (g h g1 g2 : G) (regions accesses commands : List Command)
    → h ≡ g → commands ≡ made_of regions accesses
    → (regions, g1) ≡ first_regions next 2000 h → (accesses, g2) ≡ first_accesses next 20000 g1
    → commands ≡ (made next g).0
unfolding first_regions first_accesses
script_drawn {G} next g h g1 g2 regions accesses commands start all a b =
    let second : List Command × G → List Command = λ y. made_of regions y.0 in
    let first : List Command × G → List Command = λ x. made_of x.0 (draw_accesses next 20000 0 x.1).0 in
    let whole : G → List Command = λ k. (made next k).0 in
    all ∙ ap second b ∙ ap first a ∙ ap whole start

pub access_line : {G : Type 0} (next : Generator G) (before after : List Command) (command : Command) (g g1 : G)
    → after ≡ before ++ command ∷ [] → (command, g1) ≡ one_access next g → AccessDrawn next before after g g1
unfolding AccessDrawn one_access
access_line {G} next before after command g g1 pushed a =
    let line : Command × G → List Command = λ x. before ++ x.0 ∷ [] in
    let state : Command × G → G = λ x. x.1 in
    (pushed ∙ ap line a, ap state a)

pub command_pushed : {G : Type 0} (before after : List Command) (command : Command) (g : G) (drawn : Command × G)
    → after ≡ before ++ command ∷ [] → (command, g) ≡ drawn → Pushed before after g drawn
unfolding Pushed
command_pushed {G} before after command g drawn pushed a =
    let line : Command × G → List Command = λ x. before ++ x.0 ∷ [] in
    let state : Command × G → G = λ x. x.1 in
    (pushed ∙ ap line a, ap state a)

pub move_pushed : {G : Type 0} (before after : List Command) (command : Command) (g : G) (drawn : List Command × G)
    → after ≡ before ++ command ∷ [] → (command ∷ [], g) ≡ drawn → Appended before after g drawn
unfolding Appended
move_pushed {G} before after command g drawn pushed a =
    let lines : List Command × G → List Command = λ x. before ++ x.0 in
    let state : List Command × G → G = λ x. x.1 in
    (pushed ∙ ap lines a, ap state a)

append_nothing : {X : Type 0} (xs : List X) → xs ≡ xs ++ []
append_nothing [] = refl
append_nothing (x ∷ xs) = ap (λ ys. x ∷ ys) (append_nothing xs)

-- nothing was drawn yet, and all was drawn: `draws n` is what n turns give
begun : {X G : Type 0} (draws : ℕ → List X × G) (n : ℕ) (items : List X) → items ≡ [] → onto items (draws (n - 0)) ≡ draws n
begun {X} {G} draws n items e =
    let at : List X → List X × G = λ xs. onto xs (draws (n - 0)) in
    let same : n - 0 ≡ n = omega arith in
    ap at e ∙ ap draws same

ended : {X G : Type 0} (draws : ℕ → List X × G) (n i : ℕ) (items : List X) (g : G) (whole : List X × G)
    → draws zero ≡ ([], g) → n ≤ i → onto items (draws (n - i)) ≡ whole → (items, g) ≡ whole
ended {X} {G} draws n i items g whole none h was =
    let at : ℕ → List X × G = λ left. onto items (draws left) in
    let over : List X × G → List X × G = λ drawn. onto items drawn in
    let pair : List X → List X × G = λ xs. (xs, g) in
    let nought : zero ≡ n - i = omega (arith, h) in
    ap pair (append_nothing items) ∙ sym (ap over none) ∙ ap at nought ∙ was

pub regions_begun : {G : Type 0} (next : Generator G) (n : ℕ) (items : List Command) (g : G)
    → items ≡ [] → onto items (draw_regions next (n - 0) 0 None g) ≡ draw_regions next n 0 None g
regions_begun {G} next n items g e = begun (λ left. draw_regions next left 0 None g) n items e

pub regions_ended : {G : Type 0} (next : Generator G) (n i : ℕ) (latest : Option ℕ) (items : List Command) (g : G) (whole : List Command × G)
    → n ≤ i → onto items (draw_regions next (n - i) i latest g) ≡ whole → (items, g) ≡ whole
regions_ended {G} next n i latest items g whole h was = ended (λ left. draw_regions next left i latest g) n i items g whole refl h was

pub accesses_begun : {G : Type 0} (next : Generator G) (n : ℕ) (items : List Command) (g : G)
    → items ≡ [] → onto items (draw_accesses next (n - 0) 0 g) ≡ draw_accesses next n 0 g
accesses_begun {G} next n items g e = begun (λ left. draw_accesses next left 0 g) n items e

pub accesses_ended : {G : Type 0} (next : Generator G) (n t : ℕ) (items : List Command) (g : G) (whole : List Command × G)
    → n ≤ t → onto items (draw_accesses next (n - t) t g) ≡ whole → (items, g) ≡ whole
accesses_ended {G} next n t items g whole h was = ended (λ left. draw_accesses next left t g) n t items g whole refl h was

pub bytes_begun : {G : Type 0} (next : Generator G) (n : ℕ) (items : List ℕ) (g : G)
    → items ≡ [] → onto items (draw_bytes next (n - 0) g) ≡ draw_bytes next n g
bytes_begun {G} next n items g e = begun (λ left. draw_bytes next left g) n items e

pub bytes_ended : {G : Type 0} (next : Generator G) (n i : ℕ) (items : List ℕ) (g : G) (whole : List ℕ × G)
    → n ≤ i → onto items (draw_bytes next (n - i) g) ≡ whole → (items, g) ≡ whole
bytes_ended {G} next n i items g whole h was = ended (λ left. draw_bytes next left g) n i items g whole refl h was

pub no_move : {G : Type 0} (next : Generator G) (t : ℕ) (before : List Command) (g : G)
    → (t % 100 == 99) ≡ false → Appended before before g (draw_move_at next t g)
unfolding Appended
no_move {G} next t before g e =
    let at : Bool → List Command × G = λ b. (if b then draw_move next else give []) g in
    let lines : Bool → List Command = λ b. before ++ (at b).0 in
    let state : Bool → G = λ b. (at b).1 in
    (append_nothing before ∙ ap lines (sym e), ap state (sym e))

pub a_move : {G : Type 0} (next : Generator G) (t : ℕ) (before after : List Command) (g g1 : G)
    → (t % 100 == 99) ≡ true → Appended before after g1 (draw_move next g) → Appended before after g1 (draw_move_at next t g)
unfolding Appended
a_move {G} next t before after g g1 e a =
    let at : Bool → List Command × G = λ b. (if b then draw_move next else give []) g in
    let lines : Bool → List Command = λ b. before ++ (at b).0 in
    let state : Bool → G = λ b. (at b).1 in
    (a.0 ∙ ap lines (sym e), a.1 ∙ ap state (sym e))

pub access_and_move : {G : Type 0} (next : Generator G) (t : ℕ) (before middle after : List Command) (g g1 g2 : G)
    → Appended before middle g1 (draw_move_at next t g) → AccessDrawn next middle after g1 g2
    → AccessPushed next t before after g g2
unfolding Appended AccessDrawn AccessPushed
access_and_move {G} next t before middle after g g1 g2 b c left =
    let moves : List Command × G = draw_move_at next t g in
    let access : Command × G = draw_access next g1 in
    let made : G → Command × G = λ h. (access.0, h) in
    let drawn : G → Command × G = λ h. draw_access next h in
    let rest : List Command × G = draw_accesses next left (t + 1) g2 in
    let more : List Command → List Command = λ xs. xs ++ access.0 ∷ [] in
    let whole : List Command → List Command × G = λ xs. onto xs rest in
    access_pushed next t before access.0 g g2 (ap made c.1 ∙ ap drawn b.1) left
    ∙ ap whole (sym (c.0 ∙ ap more b.0))

pub region_pushed : {G : Type 0} (next : Generator G) (i : ℕ) (latest : Option ℕ) (before middle after : List Command) (kind : ℕ) (g g1 g2 g3 : G)
    → (kind, g1) ≡ draw_kind next i g → Pushed before middle g2 (draw_region next i kind g1) → Pushed middle after g3 (draw_place next i latest g2)
    → RegionPushed next i latest (latest_after latest i kind) before after g g3
unfolding Pushed RegionPushed
region_pushed {G} next i latest before middle after kind g g1 g2 g3 a b c left =
    let region : Command × G = draw_region next i kind g1 in
    let place : Command × G = draw_place next i latest g2 in
    let made : G → Command × G = λ h. (region.0, h) in
    let placed : G → Command × G = λ h. (place.0, h) in
    let rest : List Command × G = draw_regions next left (i + 1) (latest_after latest i kind) g3 in
    let more : List Command → List Command = λ xs. xs ++ place.0 ∷ [] in
    let whole : List Command → List Command × G = λ xs. onto xs rest in
    region_drawn next i latest before kind region.0 place.0 g g1 g2 g3 a (ap made b.1) (ap placed c.1) left
    ∙ ap whole (sym (c.0 ∙ ap more b.0))
