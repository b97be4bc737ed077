-- A forest shows the call that made it.
use Rattle.std.proofs.Common.{◌≡◌, ℕ, zero, suc, ◌+◌, ◌-◌, ◌^◌, ◌<◌, ◌≤◌, cond, eqb, Bool, true, false, not, List, [], ◌∷◌, ◌++◌, Some, None, Option}
use Rattle.std.proofs.Common.{refl, sym, ap, subst, ◌∙◌, inl, inr, arith}
use Rattle.std.specs.Prelude.{bit_and, find, filter, option_map, is_some}
use Rattle.std.specs.Int.Bits.{and_self, and_zero_r}
use Rattle.std.specs.List.{list_any}
use Rattle.std.specs.Option.{option_or}
use Rattle.std.specs.declared.cmp.Ordering.{Ordering}
use Rattle.std.specs.Ordering.{is_lt}
use Rattle.std.proofs.lemmas.Bool.{eq-eqb, eqb-true}
use Rattle.std.proofs.lemmas.List.Folds.{find-append}
use Rattle.std.proofs.lemmas.Nat.{and_assoc, and_comm, and_or_self, and-not}
use Rattle.mem_base.specs.declared.map.ids.RegionId.{RegionId}
use Rattle.mem_base.specs.declared.map.ids.SpaceId.{SpaceId}
use Rattle.mem_base.specs.declared.map.forests.Node.{Node}
use Rattle.mem_base.specs.declared.map.forests.Forest.{Forest}
use Rattle.mem_base.specs.declared.map.kinds.Client.{Client}
use Rattle.mem_base.specs.declared.map.kinds.Client.TheVariants.{Vga, Code, Migration}
use Rattle.mem_base.specs.declared.map.kinds.Kind.{Kind}
use Rattle.mem_base.specs.declared.map.kinds.Kind.TheVariants as kinds
use Rattle.mem_base.specs.declared.map.calls.Call.{Call}
use Rattle.mem_base.specs.declared.map.calls.Call.TheVariants as calls
use Rattle.mem_base.specs.declared.map.refusals.Refusal.TheVariants.{NameTaken}
use Rattle.mem_base.specs.declared.map.refusals.What.TheVariants as what
use Rattle.mem_base.specs.lists.Every.{Every, HasElement}
use Rattle.mem_base.specs.lists.Sorting.{put_by}
use Rattle.mem_base.specs.map.Calls.{counted, is_quiet, refusal_of, refusals}
use Rattle.mem_base.specs.map.CallsShown.{HoldsOf, ShowsCall, is_logged}
use Rattle.mem_base.specs.map.Changes.{changed, changed_at, moved, placed}
use Rattle.mem_base.specs.map.Clients.{bit_of, logged}
use Rattle.mem_base.specs.map.Edits.{retargeted}
use Rattle.mem_base.specs.map.Entries.{entry_order, has_iova}
use Rattle.mem_base.specs.map.Events.{event_order, has_event, is_event}
use Rattle.mem_base.specs.map.Kinds.{is_alias}
use Rattle.mem_base.specs.map.Refusals.{unknown_region}
use Rattle.mem_base.specs.map.Region.{has_id, node_of}
use Rattle.mem_base.specs.map.Search.{is_space, root_of}
use Rattle.mem_base.specs.map.TableRefusals.{no_more_calls}
use Rattle.mem_base.proofs.JoinLaws.{node_of-changed_at}
use Rattle.map_laws.proofs.RefusalLaws.{each_none, known_node, refuse_if-none, refuse_where-none}
use Rattle.mem_base.proofs.NodeLaws.{found_id}
use Rattle.mem_base.proofs.OptionLaws.{none_of}
use Rattle.map_laws.proofs.MoveLaws.{moved_id}

-- after a change of one region, that region is the changed one
module _ (f : Forest) (r : RegionId) (g : Node → Node) (same : (n : Node) → (g n).id ≡ n.id) (n : Node) (there : node_of f.nodes r ≡ Some n) where
  now : node_of (changed_at r g f.nodes) r ≡ Some (g n)
  now = node_of-changed_at r g same f.nodes r
      ∙ ap (option_map (λ (x : Node). cond (has_id r x) (g x) x)) there
      ∙ ap (λ (b : Bool). Some (cond b (g n) n)) (found_id f.nodes r n there)

  -- so what holds of the changed region holds of it there
  shown : (Fact : Node → Type 0) → Fact (g n) → HoldsOf Fact (node_of (changed_at r g f.nodes) r)
  shown Fact h = subst (HoldsOf Fact) (sym now) h

-- of a call that changes one region that has to be there
edited : (f : Forest) (r : RegionId) (g : Node → Node) → ((n : Node) → (g n).id ≡ n.id) → unknown_region f r ≡ None → (Fact : Node → Type 0)
    → ((n : Node) → node_of f.nodes r ≡ Some n → Fact (g n)) → HoldsOf Fact (node_of (changed_at r g f.nodes) r)
edited f r g same known Fact h = let n = known_node f r known in shown f r g same n.0 n.1 Fact (h n.0 n.1)

-- the bit of a client in a mask

below_power : (n : ℕ) → n < 2 ^ n
below_power zero = omega arith
below_power (suc n) = let h = below_power n in omega arith

power_grows : (n k : ℕ) → 2 ^ n ≤ 2 ^ (k + n)
power_grows n zero =
    let same : 0 + n ≡ n = omega arith in
    let power : 2 ^ (0 + n) ≡ 2 ^ n = ap (λ (i : ℕ). 2 ^ i) same in omega (arith, power)
power_grows n (suc k) =
    let h = power_grows n k in
    let same : suc k + n ≡ suc (k + n) = omega arith in
    let next : 2 ^ (suc k + n) ≡ 2 ^ suc (k + n) = ap (λ (i : ℕ). 2 ^ i) same in omega (arith, h, next)

-- what is left of a mask without the bits of another number has none of these
cleared : (mask m : ℕ) → bit_and (mask - bit_and mask m) m ≡ 0
cleared mask m =
    let w : ℕ = m + mask in
    let a : mask < 2 ^ w = let h = below_power mask in let k = power_grows mask m in omega arith in
    let b : m < 2 ^ w = let h = below_power m in let k = power_grows m mask in let c : mask + m ≡ w = omega arith in
    let d : 2 ^ (mask + m) ≡ 2 ^ w = ap (λ (i : ℕ). 2 ^ i) c in omega arith in
    let rest : ℕ = 2 ^ w - 1 - m in
    let one : bit_and rest mask + bit_and m mask ≡ mask = and-not w m mask b a in
    let two : bit_and rest m + bit_and m m ≡ m = and-not w m m b b in
    let self : bit_and m m ≡ m = and_self m in
    let none : bit_and rest m ≡ 0 = omega (arith, two, self) in
    let swap : bit_and mask m ≡ bit_and m mask = and_comm mask m in
    let left : mask - bit_and mask m ≡ bit_and rest mask = omega (arith, one, swap) in
    ap (λ (x : ℕ). bit_and x m) (left ∙ and_comm rest mask) ∙ and_assoc m mask rest ∙ ap (bit_and mask) none ∙ and_zero_r mask

logged_shown : (client : Client) (on : Bool) (mask : ℕ) → not (eqb (bit_and (logged client on mask) (bit_of client)) 0) ≡ on
logged_shown client true mask = ap (λ (x : ℕ). not (eqb x 0)) (and_or_self (bit_of client) mask) ∙ bit client
  where
    bit : (c : Client) → not (eqb (bit_of c) 0) ≡ true
    bit Vga = refl
    bit Code = refl
    bit Migration = refl
logged_shown client false mask = ap (λ (x : ℕ). not (eqb x 0)) (cleared mask (bit_of client))

-- lists

has_put : {A : Type 0} (R : A → A → Ordering) (x : A) (xs : List A) → HasElement (put_by R x xs) x
has_put R x [] = inl refl
has_put R x (y ∷ ys) = go (is_lt (R x y)) (has_put R x ys)
  where
    go : (b : Bool) → HasElement (put_by R x ys) x → HasElement (cond b (x ∷ y ∷ ys) (y ∷ put_by R x ys)) x
    go true h = inl refl
    go false h = inr h

none_left : {A : Type 0} (p : A → Bool) (xs : List A) → Every (λ x. p x ≡ false) (filter (λ x. not (p x)) xs)
none_left p [] = tt
none_left p (x ∷ xs) = go (p x) refl (none_left p xs)
  where
    go : (b : Bool) → p x ≡ b → Every (λ y. p y ≡ false) (filter (λ y. not (p y)) xs)
        → Every (λ y. p y ≡ false) (cond (not b) (x ∷ filter (λ y. not (p y)) xs) (filter (λ y. not (p y)) xs))
    go true is h = h
    go false is h = (is, h)

none_any : {A : Type 0} (p : A → Bool) (xs : List A) → Every (λ x. p x ≡ false) xs → list_any p xs ≡ false
none_any p [] h = refl
none_any p (x ∷ xs) h = rw h.0 (none_any p xs h.1)

-- a space that is made has its root
made_space : (f : Forest) (space : SpaceId) (root : RegionId) → root_of f space ≡ None → root_of (changed f (calls.Space space root)) space ≡ Some root
made_space f space root none =
    let found : find (is_space space) (f.spaces ++ (space, root) ∷ []) ≡ Some (space, root) =
    find-append (is_space space) f.spaces ((space, root) ∷ [])
    ∙ (λ i. option_or (unmapped (find (is_space space) f.spaces) none i) (cond (eq-eqb space.0 space.0 refl i) (Some (space, root)) None)) in
    ap (option_map (λ (p : SpaceId × RegionId). p.1)) found
  where
    unmapped : (o : Option (SpaceId × RegionId)) → option_map (λ p. p.1) o ≡ None → o ≡ None
    unmapped None e = refl
    unmapped (Some p) e = cc

-- an alias that goes on elsewhere is one still
alias_shown : (offset : ℕ) (k : Kind) → not (is_alias k) ≡ false → (target : RegionId) × (retargeted offset k ≡ kinds.Alias target offset)
alias_shown offset (kinds.Alias target old) e = (target, refl)
alias_shown offset _ e = cc

moved_shown : (offset placing : ℕ) (n : Node) → (moved offset placing n).offset ≡ offset
moved_shown offset placing n = go (eqb n.offset offset) refl
  where
    go : (b : Bool) → eqb n.offset offset ≡ b → (cond b n (record n { offset = offset; placing = placing })).offset ≡ offset
    go true e = eqb-true n.offset offset e
    go false e = refl

-- the forest that an accepted call makes shows it; a region that is made or dropped is published by a later call alone
pub call_shown : (f : Forest) (call : Call) → is_quiet call ≡ false → refusal_of f call ≡ None → ShowsCall (counted (changed f call)) call
call_shown f (calls.Region kind size) loud e = cc
call_shown f (calls.Space space root) loud e =
    let each = each_none (refusals f (calls.Space space root) ++ no_more_calls f ∷ []) e in
    made_space f space root (none_of (root_of f space) (refuse_if-none (is_some (root_of f space)) (NameTaken (what.Space space)) each.1.0))
call_shown f (calls.Add parent offset child priority) loud e =
    let each = each_none (refusals f (calls.Add parent offset child priority) ++ no_more_calls f ∷ []) e in
    edited f child (placed parent offset priority f.placings) (λ n. refl) each.1.0
    (λ n. (n.parent ≡ Some parent) × (n.offset ≡ offset) × (n.priority ≡ priority)) (λ n there. (refl, refl, refl))
call_shown f (calls.Del parent child) loud e =
    let each = each_none (refusals f (calls.Del parent child) ++ no_more_calls f ∷ []) e in
    edited f child (λ n. record n { parent = None }) (λ n. refl) each.1.0 (λ n. n.parent ≡ None) (λ n there. refl)
call_shown f (calls.Move child offset) loud e =
    let each = each_none (refusals f (calls.Move child offset) ++ no_more_calls f ∷ []) e in
    edited f child (moved offset f.placings) (moved_id offset f.placings) each.0 (λ n. n.offset ≡ offset) (λ n there. moved_shown offset f.placings n)
call_shown f (calls.Resize region size) loud e =
    let each = each_none (refusals f (calls.Resize region size) ++ no_more_calls f ∷ []) e in
    edited f region (λ n. record n { size = size }) (λ n. refl) each.0 (λ n. n.size ≡ size) (λ n there. refl)
call_shown f (calls.Retarget alias offset) loud e =
    let each = each_none (refusals f (calls.Retarget alias offset) ++ no_more_calls f ∷ []) e in
    edited f alias (λ n. record n { kind = retargeted offset n.kind }) (λ n. refl) each.0
    (λ n. (target : RegionId) × (n.kind ≡ kinds.Alias target offset))
    (λ n there. alias_shown offset n.kind (refuse_where-none (λ x. not (is_alias x.kind)) _ (node_of f.nodes alias) n there each.1.0))
call_shown f (calls.Enable region on) loud e =
    let each = each_none (refusals f (calls.Enable region on) ++ no_more_calls f ∷ []) e in
    edited f region (λ n. record n { enabled = on }) (λ n. refl) each.0 (λ n. n.enabled ≡ on) (λ n there. refl)
call_shown f (calls.Readonly region on) loud e =
    let each = each_none (refusals f (calls.Readonly region on) ++ no_more_calls f ∷ []) e in
    edited f region (λ n. record n { readonly = on }) (λ n. refl) each.0 (λ n. n.readonly ≡ on) (λ n there. refl)
call_shown f (calls.Nonvolatile region on) loud e =
    let each = each_none (refusals f (calls.Nonvolatile region on) ++ no_more_calls f ∷ []) e in
    edited f region (λ n. record n { nonvolatile = on }) (λ n. refl) each.0 (λ n. n.nonvolatile ≡ on) (λ n there. refl)
call_shown f (calls.Unmergeable region on) loud e =
    let each = each_none (refusals f (calls.Unmergeable region on) ++ no_more_calls f ∷ []) e in
    edited f region (λ n. record n { unmergeable = on }) (λ n. refl) each.0 (λ n. n.unmergeable ≡ on) (λ n there. refl)
call_shown f (calls.Romd region on) loud e =
    let each = each_none (refusals f (calls.Romd region on) ++ no_more_calls f ∷ []) e in
    edited f region (λ n. record n { romd = on }) (λ n. refl) each.0 (λ n. n.romd ≡ on) (λ n there. refl)
call_shown f (calls.Log region client on) loud e =
    let each = each_none (refusals f (calls.Log region client on) ++ no_more_calls f ∷ []) e in
    edited f region (λ n. record n { log = logged client on n.log }) (λ n. refl) each.0 (λ n. is_logged client n ≡ on)
    (λ n there. logged_shown client on n.log)
call_shown f (calls.Global on) loud e = refl
call_shown f (calls.Map region iova size space translated perm) loud e =
    let each = each_none (refusals f (calls.Map region iova size space translated perm) ++ no_more_calls f ∷ []) e in
    edited f region
    (λ n. record n { entries = put_by entry_order (record { iova = iova; mask = size - 1; space = space; translated = translated; perm = perm }) n.entries })
    (λ n. refl) each.0
    (λ n. HasElement n.entries (record { iova = iova; mask = size - 1; space = space; translated = translated; perm = perm }))
    (λ n there. has_put entry_order (record { iova = iova; mask = size - 1; space = space; translated = translated; perm = perm }) n.entries)
call_shown f (calls.Unmap region iova) loud e =
    let each = each_none (refusals f (calls.Unmap region iova) ++ no_more_calls f ∷ []) e in
    edited f region (λ n. record n { entries = filter (λ x. not (has_iova iova x)) n.entries }) (λ n. refl) each.0
    (λ n. Every (λ x. has_iova iova x ≡ false) n.entries) (λ n there. none_left (has_iova iova) n.entries)
call_shown f (calls.Event region event) loud e =
    let each = each_none (refusals f (calls.Event region event) ++ no_more_calls f ∷ []) e in
    edited f region (λ n. record n { events = put_by event_order event n.events }) (λ n. refl) each.0 (λ n. HasElement n.events event)
    (λ n there. has_put event_order event n.events)
call_shown f (calls.Unevent region offset size matched value) loud e =
    let each = each_none (refusals f (calls.Unevent region offset size matched value) ++ no_more_calls f ∷ []) e in
    edited f region (λ n. record n { events = filter (λ x. not (is_event offset size matched value x)) n.events }) (λ n. refl) each.0
    (λ n. has_event offset size matched value n ≡ false)
    (λ n there. none_any (is_event offset size matched value) (filter (λ x. not (is_event offset size matched value x)) n.events)
    (none_left (is_event offset size matched value) n.events))
call_shown f (calls.Drop region) loud e = cc
