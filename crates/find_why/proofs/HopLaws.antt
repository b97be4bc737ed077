-- Laws of the searches on the way of an address.
use Rattle.std.proofs.Common.{◌≡◌, inl, inr, ◌≢◌, ℕ, ◌-◌, false, List, [], ◌∷◌, ◌++◌, reverse, Option, Some, None, refl, sym, ap, subst, ◌∙◌, arith}
use Rattle.std.specs.Prelude.{option_and_then}
use Rattle.std.proofs.lemmas.List.{append_assoc, reverse-reverse}
use Rattle.mem_base.specs.declared.map.ids.RegionId.{RegionId}
use Rattle.mem_base.specs.declared.map.ids.SpaceId.{SpaceId}
use Rattle.mem_base.specs.declared.map.forests.Forest.{Forest}
use Rattle.mem_base.specs.declared.map.translations.Entry.{Entry}
use Rattle.mem_base.specs.map.Limits.{most_depth}
use Rattle.mem_base.specs.map.Search.{found_in, found_at, root_of, spot_of, path_of}
use Rattle.find_why.specs.declared.looks.Look.{Look}
use Rattle.find_why.specs.declared.hops.Hop.{Hop}
use Rattle.find_why.specs.declared.search.Sight.{Sight}
use Rattle.find_why.specs.Seen.{Sees}
use Rattle.find_why.specs.Hops.{IsHop, IsRoot, AreHops, LeadsTo, Onward, Adds, translation_of}
use Rattle.find_why.proofs.LookedLaws.{covers_reversed, followed_in, reversed_looked, answering_reversed}
use Rattle.find_why.proofs.SeenLaws.{tried}

abbrev pub hop_of : SpaceId → ℕ → RegionId → Sight → List Look → Option Entry → Hop
hop_of s a root sight looks used =
    record { space = s; addr = a; root = Some (tried root sight.outcome); answer = sight.spot; looks = reverse looks; used = used }

abbrev pub no_hop : SpaceId → ℕ → Hop
no_hop s a = record { space = s; addr = a; root = None; answer = None; looks = []; used = None }

-- the search in a space that is not there
pub hop_nowhere : (f : Forest) (s : SpaceId) (a : ℕ) → root_of f s ≡ None → IsHop f (no_hop s a)
hop_nowhere f s a e =
    let none : found_at f s a ≡ None = ap (option_and_then (λ r. found_in f most_depth r a)) e in
    record {
      answer = sym (ap spot_of none);
      path = sym (ap path_of none);
      root = subst (λ o. IsRoot f o a [] None) (sym e) refl;
      looked = tt;
      used = refl;
    }

-- the search in a space with this root
pub hop_found : (f : Forest) (s : SpaceId) (a : ℕ) (root : RegionId) (looks : List Look) (sight : Sight) (used : Option Entry) → root_of f s ≡ Some root →
    Sees f false (root, Some a) (found_in f most_depth root a) [] looks sight → used ≡ translation_of f sight.spot →
    IsHop f (hop_of s a root sight looks used)
hop_found f s a root looks sight used e h w =
    let x = found_in f most_depth root a in
    let here : found_at f s a ≡ x = ap (option_and_then (λ r. found_in f most_depth r a)) e in
    record {
      answer = h.spot ∙ sym (ap spot_of here);
      path = answering_reversed looks ∙ ap reverse h.went.path ∙ reverse-reverse (path_of x) ∙ sym (ap path_of here);
      root = subst (λ o. IsRoot f o a (reverse looks) (Some (tried root sight.outcome))) (sym e)
          ((refl, h.so, tt), followed_in looks (reverse looks) (covers_reversed looks) root sight.outcome h.followed);
      looked = reversed_looked f looks h.went.looked;
      used = w;
    }

-- the way ends where no more translations may be used
pub last_hop : (f : Forest) (left : ℕ) (s : SpaceId) (a : ℕ) (h : Hop) (old new : List Hop) → h.space ≡ s → h.addr ≡ a → IsHop f h → left ≡ 0 →
    new ≡ old ++ h ∷ [] → Adds f left s a old new
last_hop f left s a h old new p q k e w = record { more = h ∷ []; added = w; are = (p, q, k, inl e) }

no_use : (f : Forest) (h : Hop) → IsHop f h → Onward h None → h.used ≡ None
no_use f h k (inl e) = e
no_use f h k (inr e) = k.used ∙ ap (translation_of f) e

-- the way ends where no translation covers the offset
pub end_hop : (f : Forest) (left : ℕ) (s : SpaceId) (a : ℕ) (h : Hop) (old new : List Hop) → h.space ≡ s → h.addr ≡ a → IsHop f h → Onward h None →
    new ≡ old ++ h ∷ [] → Adds f left s a old new
end_hop f left s a h old new p q k e w = record { more = h ∷ []; added = w; are = (p, q, k, inr (no_use f h k e)) }

-- the way goes on where an offset is translated
pub next_hop : (f : Forest) (left : ℕ) (s : SpaceId) (a : ℕ) (h : Hop) (p : SpaceId × ℕ) (old mid new : List Hop) → h.space ≡ s → h.addr ≡ a → IsHop f h →
    left ≢ 0 → Onward h (Some p) → mid ≡ old ++ h ∷ [] → Adds f (left - 1) p.0 p.1 mid new → Adds f left s a old new
next_hop f left s a h p old mid new u v k d e w g = record {
  more = h ∷ g.more;
  added = g.added ∙ ap (λ l. l ++ g.more) w ∙ append_assoc old (h ∷ []) g.more;
  are = go g.more g.are;
} where
  leads : (i : Hop) → i.space ≡ p.0 → i.addr ≡ p.1 → LeadsTo h i.space i.addr
  leads i x y = (e.0, e.1, e.2, e.3, x ∙ e.4, y ∙ e.5)

  go : (hs : List Hop) → AreHops f (left - 1) p.0 p.1 hs → AreHops f left s a (h ∷ hs)
  go [] q = absurd q
  go (i ∷ []) q = (u, v, k, omega arith, leads i q.0 q.1, (refl, refl, q.2, q.3))
  go (i ∷ j ∷ js) q = (u, v, k, omega arith, leads i q.0 q.1, (refl, refl, q.2, q.3, q.4, q.5))
