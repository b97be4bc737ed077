-- Laws of what a machine was asked: of what comes after one another, and of what is underway.
use Rattle.std.proofs.Common.{◌≡◌, ℕ, ◌+◌, Bool, true, false, List, [], ◌∷◌, ◌++◌, length, map, Some, None}
use Rattle.std.proofs.Common.{if◌then◌else◌, refl, sym, ap, subst, ◌∙◌, append_assoc, arith}
use Rattle.std.specs.Prelude.{replicate}
use Rattle.std.proofs.lemmas.List.{length-append, append-nil}
use Rattle.std.proofs.lemmas.List.Elements.{filter_map-append}
use Rattle.std.proofs.Math.Bool.{or_assoc}
use Rattle.mem_base.specs.declared.access.accesses.TxResult.{TxResult}
use Rattle.mem_base.specs.access.AccessSteps.{reading, writing, either, tx}
use Rattle.generation.specs.Published.{Published}
use Rattle.mem_base.specs.access.Plans.{Answerer, by_nobody, answers, takes, Reached, memory, callback, notifier, mark, nothing, nobody, unless_notified}
use Rattle.mem_base.specs.access.Plans.{in_callback, in_piece, reached}
use Rattle.mem_base.specs.declared.map.ids.RegionId.{RegionId}
use Rattle.mem_base.specs.declared.map.kinds.Client.{Client}
use Rattle.mem_base.specs.declared.map.kinds.Ops.{Ops}
use Rattle.mem_base.specs.declared.map.ioevents.Ioevent.{Ioevent}
use Rattle.mem_base.specs.declared.access.accesses.Piece.{Piece}
use Rattle.mem_base.specs.access.Pieces.{callbacks}
use Rattle.mem_base.specs.access.Words.{number_of_bytes}
use Rattle.mem_base.specs.access.DeviceAccess.{notifier_of}
use Rattle.mem_base.specs.declared.map.spots.Spot.{Spot}
use Rattle.access_plan.specs.declared.answerers.Answerer as who
use Rattle.access_plan.specs.Answering.{IsAnswererBy}
use Rattle.access_reach.specs.Asking.{reads, writes, sets, marks, taken, of_memory, Asked, asked_of, asked, Reply}
use Rattle.access_reach.specs.Asking.{Outcome, outcome, followed_by, told, outcome_of}
use Rattle.access_reach.specs.Reaching.{Asks, HasReached, IsUnderway}
use Rattle.mem_base.proofs.BoolLaws.{or_nothing}

-- what every bus keeps
pub record AreBusLaws {S : Type 0} (asks : Asks S) (shows : S → Published) : Type 0 where
  pub begins : (x : S) → asks x [] [] x
  pub goes_on : (x y z : S) (es fs : List Asked) (rs qs : List Reply) → length rs ≡ length es → asks x es rs y → asks y fs qs z
      → asks x (es ++ fs) (rs ++ qs) z
  pub stays : (x y : S) (es : List Asked) (rs : List Reply) → asks x es rs y → shows y ≡ shows x

pub either_assoc : (x y z : TxResult) → either (either x y) z ≡ either x (either y z)
either_assoc x y z = (λ i. tx (or_assoc x.error y.error z.error i) (or_assoc x.decode y.decode z.decode i))

-- one result alone
pub alone : (q : TxResult) → q ≡ either q (tx false false)
alone q = sym (λ i. tx (or_nothing q.error i) (or_nothing q.decode i))

followed_assoc : (x y z : Outcome) → followed_by (followed_by x y) z ≡ followed_by x (followed_by y z)
followed_assoc x y z =
    (λ i. outcome (append_assoc x.bytes y.bytes z.bytes i) (either_assoc x.result y.result z.result i))

one : (x : Reached) (a : Reply) (rs qs : List Reached) (us vs : List Reply)
    → outcome_of (rs ++ qs) (us ++ vs) ≡ followed_by (outcome_of rs us) (outcome_of qs vs)
    → followed_by (told x a) (outcome_of (rs ++ qs) (us ++ vs)) ≡ followed_by (followed_by (told x a) (outcome_of rs us)) (outcome_of qs vs)
one x a rs qs us vs e = ap (followed_by (told x a)) e ∙ sym (followed_assoc (told x a) (outcome_of rs us) (outcome_of qs vs))

-- an outcome by the replies to the first of two lists and to the second
pub outcome_append : (rs qs : List Reached) (us vs : List Reply) → length us ≡ length (asked rs)
    → outcome_of (rs ++ qs) (us ++ vs) ≡ followed_by (outcome_of rs us) (outcome_of qs vs)
outcome_append [] qs [] vs e = refl
outcome_append [] qs (a ∷ us) vs e = absurd (omega (arith, e))
outcome_append (nothing n result ∷ rs) qs us vs e =
    ap (followed_by (outcome (replicate n 0) result)) (outcome_append rs qs us vs e)
    ∙ sym (followed_assoc (outcome (replicate n 0) result) (outcome_of rs us) (outcome_of qs vs))
outcome_append (memory region offset (reading n) ∷ rs) qs [] vs e = absurd (omega (arith, e))
outcome_append (memory region offset (reading n) ∷ rs) qs (a ∷ us) vs e =
    one (memory region offset (reading n)) a rs qs us vs (outcome_append rs qs us vs (omega (arith, e)))
outcome_append (memory region offset (writing ws) ∷ rs) qs [] vs e = absurd (omega (arith, e))
outcome_append (memory region offset (writing ws) ∷ rs) qs (a ∷ us) vs e =
    one (memory region offset (writing ws)) a rs qs us vs (outcome_append rs qs us vs (omega (arith, e)))
outcome_append (callback region offset size (answers n big) ∷ rs) qs [] vs e = absurd (omega (arith, e))
outcome_append (callback region offset size (answers n big) ∷ rs) qs (a ∷ us) vs e =
    one (callback region offset size (answers n big)) a rs qs us vs (outcome_append rs qs us vs (omega (arith, e)))
outcome_append (callback region offset size (takes value) ∷ rs) qs [] vs e = absurd (omega (arith, e))
outcome_append (callback region offset size (takes value) ∷ rs) qs (a ∷ us) vs e =
    one (callback region offset size (takes value)) a rs qs us vs (outcome_append rs qs us vs (omega (arith, e)))
outcome_append (notifier number ∷ rs) qs [] vs e = absurd (omega (arith, e))
outcome_append (notifier number ∷ rs) qs (a ∷ us) vs e = one (notifier number) a rs qs us vs (outcome_append rs qs us vs (omega (arith, e)))
outcome_append (mark region client page ∷ rs) qs [] vs e = absurd (omega (arith, e))
outcome_append (mark region client page ∷ rs) qs (a ∷ us) vs e = one (mark region client page) a rs qs us vs (outcome_append rs qs us vs (omega (arith, e)))

module _ {S : Type 0} (asks : Asks S) (shows : S → Published) (laws : AreBusLaws asks shows) where
  -- a bus that was asked something is in the same generation
  pub same_shows : (x y : S) (rs : List Reached) (o : Outcome) → HasReached asks x rs o y → shows y ≡ shows x
  same_shows x y rs o h = laws.stays x y (asked rs) h.replies h.made

  -- nothing is asked at first
  pub reached_none : (x : S) → HasReached asks x [] (outcome [] (tx false false)) x
  reached_none x = record { replies = []; made = laws.begins x; each = refl; told = refl }

  -- nor where nothing answers
  pub reached_nothing : (x : S) (n : ℕ) (result : TxResult) (bs : List ℕ) → bs ≡ replicate n 0 → HasReached asks x (nothing n result ∷ []) (outcome bs result) x
  reached_nothing x n result bs e = record {
    replies = [];
    made = laws.begins x;
    each = refl;
    told = (λ i. outcome (e i) result) ∙ (λ i. outcome (sym (append-nil (replicate n 0)) i) (alone result i));
  }

  -- where nobody answers a read, or takes a write
  pub nobody_reads : (x : S) (o : Answerer) (n : ℕ) (bs : List ℕ) → o ≡ by_nobody → bs ≡ replicate n 0
      → HasReached asks x (reached o (reading n)) (outcome bs (tx false true)) x
  nobody_reads x o n bs is e =
      subst (λ o. HasReached asks x (reached o (reading n)) (outcome bs (tx false true)) x) (sym is) (reached_nothing x n (tx false true) bs e)

  pub nobody_takes : (x : S) (o : Answerer) (bs : List ℕ) → o ≡ by_nobody → HasReached asks x (reached o (writing bs)) (outcome [] (tx false true)) x
  nobody_takes x o bs is =
      subst (λ o. HasReached asks x (reached o (writing bs)) (outcome [] (tx false true)) x) (sym is) (reached_nothing x 0 (tx false true) [] refl)

  -- what is asked, and what is asked after it
  pub reached_then : (x y z : S) (rs qs : List Reached) (o p : Outcome) → HasReached asks x rs o y → HasReached asks y qs p z
      → HasReached asks x (rs ++ qs) (followed_by o p) z
  reached_then x y z rs qs o p h k =
      let parts : asked (rs ++ qs) ≡ asked rs ++ asked qs = filter_map-append asked_of rs qs in
      let made : asks x (asked rs ++ asked qs) (h.replies ++ k.replies) z =
      laws.goes_on x y z (asked rs) (asked qs) h.replies k.replies h.each h.made k.made in record {
        replies = h.replies ++ k.replies;
        made = subst (λ e. asks x e (h.replies ++ k.replies) z) (sym parts) made;
        each = length-append h.replies k.replies ∙ (λ i. h.each i + k.each i) ∙ sym (length-append (asked rs) (asked qs)) ∙ sym (ap (λ es. length es) parts);
        told = (λ i. followed_by (h.told i) (k.told i)) ∙ sym (outcome_append rs qs h.replies k.replies h.each);
      }

  -- of a list nothing is asked at first
  pub underway_none : (x : S) (whole : List Reached) → IsUnderway asks x whole whole (outcome [] (tx false false)) x
  underway_none x whole = record { first = []; done = reached_none x; parts = refl }

  -- and a part of the rest
  pub underway_then : (x y z : S) (whole rest rs later : List Reached) (bs cs : List ℕ) (r q : TxResult)
      → IsUnderway asks x whole rest (outcome bs r) y → rest ≡ rs ++ later → HasReached asks y rs (outcome cs q) z
      → IsUnderway asks x whole later (outcome (bs ++ cs) (either r q)) z
  underway_then x y z whole rest rs later bs cs r q u is h = record {
    first = u.first ++ rs;
    done = reached_then x y z u.first rs (outcome bs r) (outcome cs q) u.done h;
    parts = u.parts ∙ ap (λ es. u.first ++ es) is ∙ sym (append_assoc u.first rs later);
  }

  -- until all is asked
  pub all_reached : (x y : S) (whole rest : List Reached) (o : Outcome) → IsUnderway asks x whole rest o y → rest ≡ [] → HasReached asks x whole o y
  all_reached x y whole rest o u none =
      subst (λ rs. HasReached asks x rs o y) (sym (append-nil u.first) ∙ ap (λ es. u.first ++ es) (sym none) ∙ sym u.parts) u.done

  pub underway_shows : (x y : S) (whole rest : List Reached) (o : Outcome) → IsUnderway asks x whole rest o y → shows y ≡ shows x
  underway_shows x y whole rest o u = same_shows x y u.first o u.done

-- the same with other names for the bytes and the result
pub underway_as : {S : Type 0} (asks : Asks S) (x : S) (whole rest : List Reached) (bs cs : List ℕ) (r q : TxResult) (y : S)
    → IsUnderway asks x whole rest (outcome bs r) y → bs ≡ cs → q ≡ r → IsUnderway asks x whole rest (outcome cs q) y
underway_as asks x whole rest bs cs r q y u e f = subst (λ o. IsUnderway asks x whole rest o y) (λ i. outcome (e i) (sym f i)) u

-- who answers in the generation that a bus shows, by whether it has the bytes of the host's memory
pub answers_so : (host b : Bool) (g h : Published) (spot : Spot) (write : Bool) (w : who.Answerer) → b ≡ host → h ≡ g → IsAnswererBy b h.forest spot write w
    → IsAnswererBy host g.forest spot write w
answers_so host b g h spot write w has same is =
    subst (λ (z : Published). IsAnswererBy host z.forest spot write w) same (subst (λ b. IsAnswererBy b h.forest spot write w) has is)

-- memory alone is read
pub one_memory_read : {S : Type 0} (asks : Asks S) (x y : S) (region : RegionId) (offset n : ℕ) (bs : List ℕ)
    → asks x (reads region offset n ∷ []) (of_memory bs ∷ []) y → HasReached asks x (memory region offset (reading n) ∷ []) (outcome bs (tx false false)) y
one_memory_read asks x y region offset n bs h =
    record { replies = of_memory bs ∷ []; made = h; each = refl; told = (λ i. outcome (sym (append-nil bs) i) (tx false false)) }

-- a notifier alone is set
pub one_notifier : {S : Type 0} (asks : Asks S) (x y : S) (number : ℕ) → asks x (sets number ∷ []) (taken ∷ []) y
    → HasReached asks x (notifier number ∷ []) (outcome [] (tx false false)) y
one_notifier asks x y number h = record { replies = taken ∷ []; made = h; each = refl; told = refl }

-- and a page alone is marked
pub one_mark : {S : Type 0} (asks : Asks S) (x y : S) (region : RegionId) (client : Client) (page : ℕ) → asks x (marks region client page ∷ []) (taken ∷ []) y
    → HasReached asks x (mark region client page ∷ []) (outcome [] (tx false false)) y
one_mark asks x y region client page h = record { replies = taken ∷ []; made = h; each = refl; told = refl }

-- memory takes bytes
pub one_memory_written : {S : Type 0} (asks : Asks S) (x y : S) (region : RegionId) (offset : ℕ) (bs : List ℕ)
    → asks x (writes region offset bs ∷ []) (taken ∷ []) y → HasReached asks x (memory region offset (writing bs) ∷ []) (outcome [] (tx false false)) y
one_memory_written asks x y region offset bs h = record { replies = taken ∷ []; made = h; each = refl; told = refl }

-- a piece that a notifier takes
pub piece_notified : (region : RegionId) (ops : Ops) (events : List Ioevent) (p : Piece) (bs : List ℕ) (number : ℕ) → p.valid ≡ true
    → notifier_of events p.offset p.size (number_of_bytes bs ops.big) ≡ Some number
    → in_piece region ops events p (writing bs) ≡ notifier number ∷ []
piece_notified region ops events p bs number valid is =
    let inner : List Reached = map (in_callback region ops (writing bs)) (callbacks ops p) in
    ap (λ (b : Bool). if b then unless_notified (notifier_of events p.offset p.size (number_of_bytes bs ops.big)) inner else nobody (writing bs)) valid
    ∙ ap (λ o. unless_notified o inner) is

-- and one that reaches its device
pub piece_called : (region : RegionId) (ops : Ops) (events : List Ioevent) (p : Piece) (bs : List ℕ) → p.valid ≡ true
    → notifier_of events p.offset p.size (number_of_bytes bs ops.big) ≡ None
    → in_piece region ops events p (writing bs) ≡ map (in_callback region ops (writing bs)) (callbacks ops p)
piece_called region ops events p bs valid is =
    let inner : List Reached = map (in_callback region ops (writing bs)) (callbacks ops p) in
    ap (λ (b : Bool). if b then unless_notified (notifier_of events p.offset p.size (number_of_bytes bs ops.big)) inner else nobody (writing bs)) valid
    ∙ ap (λ o. unless_notified o inner) is
