-- What the tables of names hold as watchers join, leave and catch up.
use Rattle.std.proofs.Common.{◌≡◌, ◌≢◌, ◌≤◌, ◌+◌, ℕ, Bool, true, false, ◌||◌, cond, List, [], ◌∷◌, ◌++◌, length, Some, None, refl, sym, ap, subst}
use Rattle.std.proofs.Common.{◌∙◌, arith, ne_eqb, eq-eqb}
use Rattle.std.specs.Prelude.{not, ◌==◌}
use Rattle.std.specs.List.{list_any}
use Rattle.std.proofs.lemmas.Bool.{eqb-true, or_right}
use Rattle.std.proofs.lemmas.List.{length-append}
use mathlib.Core.Logic.{dite}
use native.Mathlib.Decide.{ℕ_discrete}
use Rattle.mem_base.specs.declared.map.ids.RegionId.{RegionId}
use Rattle.mem_base.specs.declared.map.ids.ListenerId.{ListenerId}
use Rattle.mem_base.specs.declared.map.forests.Forest.{Forest}
use Rattle.mem_base.specs.script.Spelling.{Text}
use Rattle.mem_base.specs.script.Named.{Names}
use Rattle.mem_base.specs.script.Watching.{Watcher, caught_up, is_watcher, without_number}
use Rattle.script_names.specs.Tables.{AllNames, Rebinds, Table, number_of, printed_names, table}
use Rattle.run_laws.proofs.DeskLaws.{any_push}
use Rattle.race_lines.specs.NamedTables.{IsNamed}
use Rattle.race_lines.specs.KnownNames.{HoldsNames, is_kept, listens_on, watches}
use Rattle.race_lines.proofs.NamedLaws.{found_last, named_drop, named_push, named_same}
use Rattle.mem_base.proofs.BoolLaws.{or_false}

pub same_watchers : (f : Forest) (watchers : List Watcher) (n : ℕ) → watches (caught_up f watchers) n ≡ watches watchers n
same_watchers f [] n = refl
same_watchers f (w ∷ ws) n = (λ i. is_watcher n w || same_watchers f ws n i)

pub gone_number : (n : ℕ) (ws : List Watcher) → watches (without_number n ws) n ≡ false
gone_number n [] = refl
gone_number n (w ∷ ws) = go (is_watcher n w) refl (gone_number n ws)
  where
    go : (b : Bool) → is_watcher n w ≡ b → watches (without_number n ws) n ≡ false
        → watches (cond (not b) (w ∷ without_number n ws) (without_number n ws)) n ≡ false
    go true e ih = ih
    go false e ih = (λ i. e i || watches (without_number n ws) n) ∙ ih

pub other_numbers : (n m : ℕ) → m ≢ n → (ws : List Watcher) → watches (without_number n ws) m ≡ watches ws m
other_numbers n m ne [] = refl
other_numbers n m ne (w ∷ ws) = go (is_watcher n w) refl (other_numbers n m ne ws)
  where
    other : w.id.0 ≡ n → is_watcher m w ≡ false
    other e = ne_eqb w.id.0 m (λ same. ne (sym same ∙ e))

    go : (b : Bool) → is_watcher n w ≡ b → watches (without_number n ws) m ≡ watches ws m
        → watches (cond (not b) (w ∷ without_number n ws) (without_number n ws)) m ≡ (is_watcher m w || watches ws m)
    go true e ih = ih ∙ (λ i. sym (other (eqb-true w.id.0 n e)) i || watches ws m)
    go false e ih = (λ i. is_watcher m w || ih i)

module _ (names after : AllNames) (dropped : List RegionId) (gone : List ListenerId) (old : List Watcher) (h : HoldsNames names dropped gone old) where
  pub caught_holds : (f : Forest) (new : List Watcher) → new ≡ caught_up f old → HoldsNames names dropped gone new
  caught_holds f new e = record {
    regions = h.regions;
    spaces = h.spaces;
    listeners = h.listeners;
    notifiers = named_same names.notifiers (watches old) (watches new)
        (λ n. ap (λ (ws : List Watcher). watches ws n) e ∙ same_watchers f old n) h.notifiers;
    made = h.made;
    left = h.left;
    fresh = λ n l. ap (λ (ws : List Watcher). watches ws n) e ∙ same_watchers f old n ∙ h.fresh n l;
  }

  -- one more watcher, with the next number
  pub watcher_made : (new : List Watcher) (x : Watcher) (name : Text) → x.id.0 ≡ length names.notifiers.made → new ≡ old ++ x ∷ []
      → number_of names.notifiers.bound name ≡ None
      → after.notifiers ≡ table (names.notifiers.bound ++ (name, length names.notifiers.made) ∷ []) (names.notifiers.made ++ name ∷ [])
      → after ≡ record names { notifiers = after.notifiers } → HoldsNames after dropped gone new
  watcher_made new x name is joins free notifiers others = record {
    regions = subst (λ (t : Table). IsNamed t (is_kept dropped)) (sym (ap (λ (y : AllNames). y.regions) others)) h.regions;
    spaces = subst (λ (t : Table). IsNamed t (λ n. true)) (sym (ap (λ (y : AllNames). y.spaces) others)) h.spaces;
    listeners = subst (λ (t : Table). IsNamed t (listens_on gone)) (sym (ap (λ (y : AllNames). y.listeners) others)) h.listeners;
    notifiers = subst (λ (t : Table). IsNamed t (watches new)) (sym notifiers)
        (named_push names.notifiers (watches old) (watches new) name h.notifiers free
        (λ n l. there n ∙ or_false (watches old n) (x.id.0 == n) (ne_eqb x.id.0 n (λ s. omega arith)))
        (there (length names.notifiers.made) ∙ or_right (watches old (length names.notifiers.made))
        (x.id.0 == length names.notifiers.made)
        (eq-eqb x.id.0 (length names.notifiers.made) is)));
    made = λ n l. h.made n (subst (λ (t : Table). length t.made ≤ n) (ap (λ (y : AllNames). y.regions) others) l);
    left = λ n l. h.left n (subst (λ (t : Table). length t.made ≤ n) (ap (λ (y : AllNames). y.listeners) others) l);
    fresh = λ n l.
        let more : length names.notifiers.made + 1 ≤ n = subst (λ (k : ℕ). k ≤ n)
        (ap (λ (t : Table). length t.made) notifiers ∙ length-append names.notifiers.made (name ∷ [])) l in
        there n ∙ or_false (watches old n) (x.id.0 == n) (ne_eqb x.id.0 n (λ s. omega arith)) ∙ h.fresh n (omega arith);
  }
    where
      there : (n : ℕ) → watches new n ≡ (watches old n || (x.id.0 == n))
      there n = ap (list_any (is_watcher n)) joins ∙ any_push (is_watcher n) old x

  -- a name let go, where another list of watchers has all others and not that one
  pub name_left : (new : List Watcher) (number : ℕ) (name : Text) → ((n : ℕ) → n ≢ number → watches new n ≡ watches old n)
      → watches new number ≡ false → number_of names.notifiers.bound name ≡ Some number
      → Rebinds names.notifiers.bound after.notifiers.bound name None → printed_names after ≡ printed_names names
      → after ≡ record names { notifiers = after.notifiers } → HoldsNames after dropped gone new
  name_left new number name stay gone_now named binds same others =
      let made : after.notifiers.made ≡ names.notifiers.made = ap (λ (x : Names). x.notifiers) same in record {
        regions = subst (λ (t : Table). IsNamed t (is_kept dropped)) (sym (ap (λ (y : AllNames). y.regions) others)) h.regions;
        spaces = subst (λ (t : Table). IsNamed t (λ n. true)) (sym (ap (λ (y : AllNames). y.spaces) others)) h.spaces;
        listeners = subst (λ (t : Table). IsNamed t (listens_on gone)) (sym (ap (λ (y : AllNames). y.listeners) others)) h.listeners;
        notifiers = named_drop names.notifiers after.notifiers (watches old) (watches new) name number h.notifiers named stay gone_now binds made;
        made = λ n l. h.made n (subst (λ (t : Table). length t.made ≤ n) (ap (λ (y : AllNames). y.regions) others) l);
        left = λ n l. h.left n (subst (λ (t : Table). length t.made ≤ n) (ap (λ (y : AllNames). y.listeners) others) l);
        fresh = λ n l. dite (ℕ_discrete n number) (λ e. ap (watches new) e ∙ gone_now)
            (λ ne. stay n ne ∙ h.fresh n (subst (λ (t : List Text). length t ≤ n) made l));
      }

  -- one watcher fewer
  pub watcher_left : (new : List Watcher) (number : ℕ) (name : Text) → new ≡ without_number number old
      → number_of names.notifiers.bound name ≡ Some number → Rebinds names.notifiers.bound after.notifiers.bound name None
      → printed_names after ≡ printed_names names → after ≡ record names { notifiers = after.notifiers } → HoldsNames after dropped gone new
  watcher_left new number name leaves named binds same others = name_left new number name
      (λ n ne. ap (λ (ws : List Watcher). watches ws n) leaves ∙ other_numbers number n ne old)
      (ap (λ (ws : List Watcher). watches ws number) leaves ∙ gone_number number old) named binds same others

-- a name that was made for a watcher, and let go since that did not join
pub name_back : (names after back : AllNames) (dropped : List RegionId) (gone : List ListenerId) (watchers : List Watcher)
    → HoldsNames names dropped gone watchers → (x : Watcher) (name : Text) → x.id.0 ≡ length names.notifiers.made
    → number_of names.notifiers.bound name ≡ None
    → after.notifiers ≡ table (names.notifiers.bound ++ (name, length names.notifiers.made) ∷ []) (names.notifiers.made ++ name ∷ [])
    → after ≡ record names { notifiers = after.notifiers } → Rebinds after.notifiers.bound back.notifiers.bound name None
    → printed_names back ≡ printed_names after → back ≡ record after { notifiers = back.notifiers } → HoldsNames back dropped gone watchers
name_back names after back dropped gone watchers h x name is free notifiers others binds same others' =
    let made = watcher_made names after dropped gone watchers h (watchers ++ x ∷ []) x name is refl free notifiers others in
    name_left after back dropped gone (watchers ++ x ∷ []) made watchers (length names.notifiers.made) name
    (λ n ne. sym (any_push (is_watcher n) watchers x ∙ or_false (watches watchers n) (x.id.0 == n) (ne_eqb x.id.0 n (λ s. ne (sym s ∙ is)))))
    (h.fresh (length names.notifiers.made) (omega arith))
    (ap (λ (t : Table). number_of t.bound name) notifiers ∙ found_last names.notifiers.bound name (length names.notifiers.made) free)
    binds same others'
