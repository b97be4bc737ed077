-- The stages of an access or a copy, one after another: the pass enters unless it is inside, makes its steps, and leaves again.
use Rattle.std.proofs.Common.{◌≡◌, ℕ, ◌+◌, ◌<◌, Bool, true, false, List, [], ◌∷◌, ◌++◌, length, refl, sym, ap, ◌∙◌, subst}
use Rattle.std.proofs.Common.{append_assoc, append-nil, is_some, unwrap_or, if◌then◌else◌}
use Rattle.std.specs.Prelude.{is_none, ◌||◌}
use Rattle.mem_base.specs.map.PassIds.{PassId}
use Rattle.mem_base.specs.declared.map.ids.SpaceId.{SpaceId}
use Rattle.mem_base.specs.declared.machine.events.Event.{Event}
use Rattle.mem_base.specs.declared.machine.events.HistoryEntry.{HistoryEntry}
use Rattle.mem_base.specs.map.Limits.{most_passes, notifier_count}
use Rattle.mem_base.specs.access.AccessSteps.{Transfer, steps, reading, writing}
use Rattle.mem_base.specs.access.Access.{access}
use Rattle.mem_base.specs.machine.Passes.{PassState, idle}
use Rattle.mem_base.specs.machine.Generations.{Generation}
use Rattle.mem_base.specs.machine.Actors.{generations_published, own_entries, pass_after_all}
use Rattle.mem_base.specs.machine.Composites.{enters, enters_anew, enters_unless, leaves, leaves_unless}
use Rattle.mem_base.specs.machine.Turns.{Answered, replies_of}
use Rattle.mem_base.specs.machine.PassTurns.{entries_of}
use Rattle.mem_base.specs.script.Race.{pass_state}
use Rattle.history_laws.proofs.AppendLaws.{own_append, pass_by_append}
use Rattle.race_laws.specs.Acting.{AreAccess, AreCopy, AreSteps, bytes_of_read, generation_in}
use Rattle.race_laws.proofs.GoesOn.{IsRested}
use Rattle.mem_base.proofs.EveryLaws.{every_append}
use Rattle.race_laws.proofs.MorePublished.{EntersBelow, IsUnder, entries_under, numbered_same, under_number}
use Rattle.race_laws.proofs.Phases.{every_own}
use Rattle.race_laws.proofs.EnterLaws.{enters_below, more_published, some_published}
use Rattle.race_laws.proofs.PassStages.{are_both}
use Rattle.race_laws.proofs.MachineGoes.{AreOf, IsOf, PassGoes, Stands, enters_go, leaves_go, transfer_goes}
use Rattle.race_laws.proofs.PhaseParts.{own_mine}
use Rattle.race_laws.proofs.PassRuns.{steps_stay}
use Rattle.std.proofs.lemmas.Bool.{or_left}

-- a pass's state after entries of its own
pub state_on : (pass : PassId) (xs ys : List HistoryEntry) → AreOf pass ys → pass_after_all (pass_state pass xs) ys ≡ pass_state pass (xs ++ ys)
state_on pass xs ys mine =
    ap (λ (zs : List HistoryEntry). pass_after_all (pass_state pass xs) zs) (sym (own_mine pass ys mine))
    ∙ sym (pass_by_append (own_entries (pass.0 + 1) xs) (own_entries (pass.0 + 1) ys) idle)
    ∙ ap (λ (zs : List HistoryEntry). pass_after_all idle zs) (sym (own_append (pass.0 + 1) xs ys))

pub inside_after : (pass : PassId) (p : PassState) (ns : List ℕ) → is_some (pass_after_all p (entries_of [] (enters pass) ns)).entered ≡ true
inside_after pass p [] = refl
inside_after pass p (a ∷ []) = refl
inside_after pass p (a ∷ b ∷ []) = refl
inside_after pass p (a ∷ b ∷ c ∷ ns) = refl

pub idle_after : (pass : PassId) (p : PassState) (ns : List ℕ) → pass_after_all p (entries_of [] (leaves pass) ns) ≡ idle
idle_after pass p [] = refl
idle_after pass p (n ∷ ns) = refl

module _ (pool : ℕ) (os : List Answered) (pass : PassId) (near : pass.0 < most_passes) where
  abbrev In : List HistoryEntry → Type 0
  In xs = is_some (pass_state pass xs).entered ≡ true

  abbrev nothing_goes : (xs : List HistoryEntry) → Stands pool os xs → PassGoes pool os xs pass [] []
  nothing_goes xs s = record { ys = []; are = refl; mine = tt; next = subst (λ (zs : List HistoryEntry). Stands pool os zs) (sym (append-nil xs)) s }

  -- it comes inside
  pub record Inside (xs : List HistoryEntry) (es : List Event) : Type 0 where
    pub goes : PassGoes pool os xs pass [] es
    pub here : In (xs ++ goes.ys)

  entered_inside : (xs : List HistoryEntry) → Stands pool os xs → is_none (pass_state pass xs).announced ≡ true → Inside xs (enters pass)
  entered_inside xs s out =
      let g : PassGoes pool os xs pass [] (enters pass) = enters_go pool os xs s pass near out in record {
        goes = g;
        here = ap (λ (p : PassState). is_some p.entered) (sym (state_on pass xs g.ys g.mine))
            ∙ ap (λ (zs : List HistoryEntry). is_some (pass_after_all (pass_state pass xs) zs).entered) g.are
            ∙ inside_after pass (pass_state pass xs) (replies_of g.ys);
      }

  out_of : (p : PassState) → is_some p.entered ≡ false → IsRested p → is_none p.announced ≡ true
  out_of p e rested = sym (ap (λ (b : Bool). b || is_none p.announced) e) ∙ rested

  pub comes_inside : (b : Bool) (xs : List HistoryEntry) → Stands pool os xs → is_some (pass_state pass xs).entered ≡ b → IsRested (pass_state pass xs)
      → Inside xs (enters_unless b pass)
  comes_inside true xs s e rested = record { goes = nothing_goes xs s; here = subst (λ (zs : List HistoryEntry). In zs) (sym (append-nil xs)) e }
  comes_inside false xs s e rested = entered_inside xs s (out_of (pass_state pass xs) e rested)

  -- it goes out, and is at rest
  pub record Outside (xs : List HistoryEntry) (es : List Event) : Type 0 where
    pub goes : PassGoes pool os xs pass [] es
    pub rested : IsRested (pass_state pass (xs ++ goes.ys))

  left_outside : (xs : List HistoryEntry) → Stands pool os xs → In xs → Outside xs (leaves pass)
  left_outside xs s e =
      let g : PassGoes pool os xs pass [] (leaves pass) = leaves_go pool os xs s pass near e in record {
        goes = g;
        rested = subst IsRested
            (sym (ap (λ (zs : List HistoryEntry). pass_after_all (pass_state pass xs) zs) g.are ∙ idle_after pass (pass_state pass xs) (replies_of g.ys))
            ∙ state_on pass xs g.ys g.mine) refl;
      }

  pub goes_outside : (b : Bool) (xs : List HistoryEntry) → Stands pool os xs → In xs → Outside xs (leaves_unless b pass)
  goes_outside true xs s e = record {
    goes = nothing_goes xs s;
    rested = subst (λ (zs : List HistoryEntry). IsRested (pass_state pass zs)) (sym (append-nil xs)) (or_left _ _ e);
  }
  goes_outside false xs s e = left_outside xs s e

  -- it leaves where it was inside
  pub leaves_if : (b : Bool) (xs : List HistoryEntry) → Stands pool os xs → is_some (pass_state pass xs).entered ≡ b → IsRested (pass_state pass xs)
      → Outside xs (if b then leaves pass else [])
  leaves_if true xs s e rested = left_outside xs s e
  leaves_if false xs s e rested = record {
    goes = nothing_goes xs s;
    rested = subst (λ (zs : List HistoryEntry). IsRested (pass_state pass zs)) (sym (append-nil xs)) rested;
  }

  -- it enters anew
  pub enters_again : (b : Bool) (xs : List HistoryEntry) → Stands pool os xs → is_some (pass_state pass xs).entered ≡ b → IsRested (pass_state pass xs)
      → Inside xs (enters_anew b pass)
  enters_again false xs s e rested = entered_inside xs s (out_of (pass_state pass xs) e rested)
  enters_again true xs s e rested =
      let l : PassGoes pool os xs pass [] (leaves pass) = leaves_go pool os xs s pass near e in
      let out : pass_state pass (xs ++ l.ys) ≡ idle =
      sym (state_on pass xs l.ys l.mine)
      ∙ ap (λ (zs : List HistoryEntry). pass_after_all (pass_state pass xs) zs) l.are ∙ idle_after pass (pass_state pass xs) (replies_of l.ys) in
      let i : Inside (xs ++ l.ys) (enters pass) = entered_inside (xs ++ l.ys) l.next (ap (λ (p : PassState). is_none p.announced) out) in
      let history : (xs ++ l.ys) ++ i.goes.ys ≡ xs ++ (l.ys ++ i.goes.ys) = append_assoc xs l.ys i.goes.ys in record {
        goes = record {
          ys = l.ys ++ i.goes.ys;
          are = are_both [] (leaves pass) (enters pass) l.ys i.goes.ys l.are i.goes.are;
          mine = every_append (λ y. IsOf pass y.event) l.ys i.goes.ys l.mine i.goes.mine;
          next = subst (λ (zs : List HistoryEntry). Stands pool os zs) history i.goes.next;
        };
        here = subst (λ (zs : List HistoryEntry). In zs) history i.here;
      }

  -- it makes the steps of an access, and stays inside
  pub record Steps (xs : List HistoryEntry) (space : SpaceId) (addr : ℕ) (transfer : Transfer) : Type 0 where
    pub ys : List HistoryEntry
    pub are : AreSteps (generation_in (generations_published xs) (pass_state pass xs)) pass space addr transfer ys
    pub mine : AreOf pass ys
    pub next : Stands pool os (xs ++ ys)
    pub here : In (xs ++ ys)

  pub makes_steps : (xs : List HistoryEntry) → Stands pool os xs → In xs → (space : SpaceId) (addr : ℕ) (transfer : Transfer) → Steps xs space addr transfer
  makes_steps xs s e space addr transfer =
      let x : Generation = generation_in (generations_published xs) (pass_state pass xs) in
      let g = transfer_goes pool os xs s pass near space addr transfer e in record {
        ys = g.ys;
        are = g.are;
        mine = g.mine;
        next = g.next;
        here = ap (λ (p : PassState). is_some p.entered)
            (sym (state_on pass xs g.ys g.mine) ∙ ap (λ (zs : List HistoryEntry). pass_after_all (pass_state pass xs) zs) g.are
            ∙ steps_stay pass x.places (access x.forest space addr transfer) (pass_state pass xs) (replies_of g.ys)) ∙ e;
      }

  -- the generation in which it is stays that of its number
  generation_stays : (xs ys : List HistoryEntry) (later : List Generation) → Stands pool os xs
      → generation_in (generations_published xs) (pass_state pass xs) ≡ generation_in (generations_published (xs ++ ys) ++ later) (pass_state pass xs)
  generation_stays xs ys later s =
      let grown = more_published xs ys in
      let gs : List Generation = generations_published xs in
      let some = some_published xs in
      let below = enters_below (pool + notifier_count) most_passes xs s.legal in
      let under : IsUnder (length gs) (pass_state pass xs).entered =
      entries_under (length gs) idle (own_entries (pass.0 + 1) xs) tt (every_own (EntersBelow (length gs)) (pass.0 + 1) xs below) in
      sym (numbered_same gs (grown.0 ++ later) some (unwrap_or (pass_state pass xs).entered 0) (under_number gs (grown.0 ++ later) some
      (pass_state pass xs).entered under))
      ∙ ap (λ (hs : List Generation). generation_in hs (pass_state pass xs)) (sym (append_assoc gs grown.0 later)
      ∙ ap (λ (hs : List Generation). hs ++ later) (sym grown.1))

  -- a whole access
  pub record Access (b : Bool) (xs : List HistoryEntry) (space : SpaceId) (addr : ℕ) (transfer : Transfer) : Type 0 where
    pub one : List HistoryEntry
    pub two : List HistoryEntry
    pub three : List HistoryEntry
    pub mine : AreOf pass ((one ++ two) ++ three)
    pub next : Stands pool os (xs ++ ((one ++ two) ++ three))
    pub rested : IsRested (pass_state pass (xs ++ ((one ++ two) ++ three)))
    pub are : (later : List Generation) → AreAccess b (generations_published (xs ++ ((one ++ two) ++ three)) ++ later) pass space addr transfer
        (pass_state pass xs) one two three

  pub makes_access : (b : Bool) (xs : List HistoryEntry) → Stands pool os xs → is_some (pass_state pass xs).entered ≡ b → IsRested (pass_state pass xs)
      → (space : SpaceId) (addr : ℕ) (transfer : Transfer) → Access b xs space addr transfer
  makes_access b xs s e rested space addr transfer =
      let i : Inside xs (enters_unless b pass) = comes_inside b xs s e rested in
      let one : List HistoryEntry = i.goes.ys in
      let t : Steps (xs ++ one) space addr transfer = makes_steps (xs ++ one) i.goes.next i.here space addr transfer in
      let two : List HistoryEntry = t.ys in
      let o : Outside ((xs ++ one) ++ two) (leaves_unless b pass) = goes_outside b ((xs ++ one) ++ two) t.next t.here in
      let three : List HistoryEntry = o.goes.ys in
      let history : ((xs ++ one) ++ two) ++ three ≡ xs ++ ((one ++ two) ++ three) =
      append_assoc (xs ++ one) two three ∙ append_assoc xs one (two ++ three) ∙ ap (λ (zs : List HistoryEntry). xs ++ zs) (sym (append_assoc one two three)) in
      let tail : (xs ++ one) ++ (two ++ three) ≡ xs ++ ((one ++ two) ++ three) = sym (append_assoc (xs ++ one) two three) ∙ history in record {
        one = one;
        two = two;
        three = three;
        mine = every_append (λ y. IsOf pass y.event) (one ++ two) three (every_append (λ y. IsOf pass y.event) one two i.goes.mine t.mine) o.goes.mine;
        next = subst (λ (zs : List HistoryEntry). Stands pool os zs) history o.goes.next;
        rested = subst (λ (zs : List HistoryEntry). IsRested (pass_state pass zs)) history o.rested;
        are = λ later. record {
          inside = e;
          enters = i.goes.are;
          steps = subst (λ (x : Generation). AreSteps x pass space addr transfer two)
              (generation_stays (xs ++ one) (two ++ three) later i.goes.next
              ∙ (λ j. generation_in (generations_published (tail j) ++ later) (sym (state_on pass xs one i.goes.mine) j))) t.are;
          leaves = o.goes.are;
        };
      }

  -- a whole copy
  pub record Copy (b : Bool) (xs : List HistoryEntry) (from : SpaceId) (a n : ℕ) (to : SpaceId) (c : ℕ) : Type 0 where
    pub one : List HistoryEntry
    pub two : List HistoryEntry
    pub three : List HistoryEntry
    pub four : List HistoryEntry
    pub mine : AreOf pass (((one ++ two) ++ three) ++ four)
    pub next : Stands pool os (xs ++ (((one ++ two) ++ three) ++ four))
    pub rested : IsRested (pass_state pass (xs ++ (((one ++ two) ++ three) ++ four)))
    pub are : (later : List Generation) → AreCopy b (generations_published (xs ++ (((one ++ two) ++ three) ++ four)) ++ later) pass from a n to c
        (pass_state pass xs) one two three four

  pub makes_copy : (b : Bool) (xs : List HistoryEntry) → Stands pool os xs → is_some (pass_state pass xs).entered ≡ b → IsRested (pass_state pass xs)
      → (from : SpaceId) (a n : ℕ) (to : SpaceId) (c : ℕ) → Copy b xs from a n to c
  makes_copy b xs s e rested from a n to c =
      let i : Inside xs (enters_unless b pass) = comes_inside b xs s e rested in
      let one : List HistoryEntry = i.goes.ys in
      let t : Steps (xs ++ one) from a (reading n) = makes_steps (xs ++ one) i.goes.next i.here from a (reading n) in
      let two : List HistoryEntry = t.ys in
      let x : Generation = generation_in (generations_published (xs ++ one)) (pass_state pass (xs ++ one)) in
      let bytes : List ℕ = bytes_of_read x from a n two in
      let u : Steps ((xs ++ one) ++ two) to c (writing bytes) = makes_steps ((xs ++ one) ++ two) t.next t.here to c (writing bytes) in
      let three : List HistoryEntry = u.ys in
      let o : Outside (((xs ++ one) ++ two) ++ three) (leaves_unless b pass) = goes_outside b (((xs ++ one) ++ two) ++ three) u.next u.here in
      let four : List HistoryEntry = o.goes.ys in
      let all : List HistoryEntry = ((one ++ two) ++ three) ++ four in
      let part : (xs ++ one) ++ two ≡ xs ++ (one ++ two) = append_assoc xs one two in
      let history : (((xs ++ one) ++ two) ++ three) ++ four ≡ xs ++ all =
      ap (λ (zs : List HistoryEntry). (zs ++ three) ++ four) part
      ∙ ap (λ (zs : List HistoryEntry). zs ++ four) (append_assoc xs (one ++ two) three) ∙ append_assoc xs ((one ++ two) ++ three) four in
      let tail : ((xs ++ one) ++ two) ++ (three ++ four) ≡ xs ++ all = sym (append_assoc ((xs ++ one) ++ two) three four) ∙ history in
      let longer : (xs ++ one) ++ (two ++ (three ++ four)) ≡ xs ++ all = sym (append_assoc (xs ++ one) two (three ++ four)) ∙ tail in
      let p_one : pass_state pass (xs ++ one) ≡ pass_after_all (pass_state pass xs) one = sym (state_on pass xs one i.goes.mine) in
      let p_two : pass_state pass ((xs ++ one) ++ two) ≡ pass_after_all (pass_after_all (pass_state pass xs) one) two =
      sym (state_on pass (xs ++ one) two t.mine) ∙ ap (λ (p : PassState). pass_after_all p two) p_one in record {
        one = one;
        two = two;
        three = three;
        four = four;
        mine = every_append (λ y. IsOf pass y.event) ((one ++ two) ++ three) four
            (every_append (λ y. IsOf pass y.event) (one ++ two) three (every_append (λ y. IsOf pass y.event) one two i.goes.mine t.mine) u.mine) o.goes.mine;
        next = subst (λ (zs : List HistoryEntry). Stands pool os zs) history o.goes.next;
        rested = subst (λ (zs : List HistoryEntry). IsRested (pass_state pass zs)) history o.rested;
        are = λ later.
            let first : x ≡ generation_in (generations_published (xs ++ all) ++ later) (pass_after_all (pass_state pass xs) one) =
            generation_stays (xs ++ one) (two ++ (three ++ four)) later i.goes.next
            ∙ (λ j. generation_in (generations_published (longer j) ++ later) (p_one j)) in
            let second : generation_in (generations_published ((xs ++ one) ++ two)) (pass_state pass ((xs ++ one) ++ two))
            ≡ generation_in (generations_published (xs ++ all) ++ later) (pass_after_all (pass_after_all (pass_state pass xs) one) two) =
            generation_stays ((xs ++ one) ++ two) (three ++ four) later t.next
            ∙ (λ j. generation_in (generations_published (tail j) ++ later) (p_two j)) in record {
              inside = e;
              enters = i.goes.are;
              reads = subst (λ (y : Generation). AreSteps y pass from a (reading n) two) first t.are;
              writes = subst (λ (z : Generation × Generation). AreSteps z.0 pass to c (writing (bytes_of_read z.1 from a n two)) three)
                  (λ j. (second j, first j)) u.are;
              leaves = o.goes.are;
            };
      }
