-- The machine values of a `DeskHandle`. Assumes `Logic`.
use Rattle.std.proofs.Common.{◌≡◌, ℕ, List, [], ◌∷◌, ◌++◌, refl, subst}
use seplogic.Ra.Ura.{Ura}
use mir.Raw.{raw as bare}
use mir.Val.{Val, vptr, vstruct, of_list}
use base.Fml.{ftrue}
use base.Logic.{ent, guard, guard_i, never, fst∗, snd∗, via}
use types.Logic.{Logic, sem}
use contract.Monad.{fact_use}
use types.Kit.{Item, Goal, Seq, Step, step, ‵, ◌$◌, drop, fsplit, fjoin, fpick, fpack, feq_i, feq_l}
use denote.RattleType.{RattleType, Valss}
use denote.Builtin.{RawPtr}
use denote.Memory.{lone}
use denote.RawPtr.{Ptr, block_ptr, null_ptr, ptr_val, in_a_block, lies_at, Testable}
use denote.Steps.{nothing}
use denote.Struct.Struct.{within}
use denote.Struct.Owning.{shape}
use Rattle.std.specs.Borrow.{full_share}
use Rattle.std.specs.Prelude.{Option, Some, None}
use Rattle.std.proofs.GlobalToken.{dealloc_token-Testable}
use Rattle.std_alloc.specs.Box.Ownership.{box_owns}
use Rattle.std.specs.contracts.impls.GlobalAllocator.TheImpl.{ghosts}
use Rattle.std.specs.declared.alloc.Global.{Global}
use Rattle.shared_machine.specs.contracts.desk.Desk as desk
use Rattle.libvobrekan.specs.Handles.{kept}
use Rattle.libvobrekan.specs.contracts.desk_handle.DeskHandle as handle
use Rattle.libvobrekan.proofs.Values.{alone}

abbrev pub Row : RattleType
Row = handle.the_row

abbrev pub Inner : RattleType
Inner = desk.the_row

-- a box's pointer may be compared with null
pub tested : {M : Type 1} {𝓤 : Ura M} (𝓛 : Logic 𝓤) (a : Global) (p : Ptr) (x : Inner.Denot)
    → ent 𝓤 (sem 𝓛 (box_owns (ghosts.dealloc_token a) Inner p x)) (guard 𝓤 (Testable p) (sem 𝓛 (box_owns (ghosts.dealloc_token a) Inner p x)))
tested {𝓤 = 𝓤} 𝓛 a p x =
    let token = ghosts.dealloc_token a (bare (lone Inner.mir)) p in
    fact_use 𝓤 (Testable p) (via 𝓤 _ (snd∗ 𝓤 (sem 𝓛 (lies_at Inner full_share p x)) (sem 𝓛 token)) (dealloc_token-Testable 𝓛 a (bare (lone Inner.mir)) p))
    (guard_i 𝓤 (Testable p) (sem 𝓛 (box_owns (ghosts.dealloc_token a) Inner p x)))

module _ {M : Type 1} {𝓤 : Ura M} {𝓛 : Logic 𝓤} {K : Type 0} {Γ : List (Item 𝓤)} {G : Goal 𝓤 𝓛.H} where
  either : K → (a : Global) (p : Ptr) (m : Option Inner.Denot)
      → (m ≡ None → p ≡ null_ptr → Seq K 𝓛 Γ G)
      → ((x : Inner.Denot) → m ≡ Some x → Testable p → Seq K 𝓛 (‵ (box_owns (ghosts.dealloc_token a) Inner p x) ∷ Γ) G)
      → Seq K 𝓛 (‵ (kept a Inner p m) ∷ Γ) G
  either t a p None none some = fpick t (λ e. drop t $ none refl e)
  either t a p (Some x) none some = fsplit t $ fpick t (λ e. drop t $ some x refl e)

  pub handle_out : K → (d : Row.Denot) (vs : List Val)
      → (d.desk ≡ None → vs ≡ alone (ptr_val null_ptr) ∷ [] → Seq K 𝓛 Γ G)
      → ((b o : ℕ) (x : Inner.Denot) → d.desk ≡ Some x → vs ≡ alone (vptr b o) ∷ [] → Testable (block_ptr b o)
      → Seq K 𝓛 (‵ (box_owns (ghosts.dealloc_token d.heap) Inner (block_ptr b o) x) ∷ Γ) G)
      → Seq K 𝓛 (‵ (Row.own_val d vs) ∷ Γ) G
  handle_out t d vs none some =
      fsplit t $ fpick t (λ vss. fsplit t $ feq_l t (λ ev. fsplit t $ feq_l t (λ ep. drop t $
      let at = λ (p : Ptr). vs ≡ vstruct (of_list (ptr_val p ∷ [])) ∷ [] in
      let told : at d.at = subst (λ (ps : List Val). vs ≡ vstruct (of_list (ps ++ [])) ∷ []) ep ev in
      either t d.heap d.at d.desk
      (λ is_none is_null. none is_none (subst at is_null told))
      (λ x is test. in_a_block t d.at (λ p. box_owns (ghosts.dealloc_token d.heap) Inner p x)
      (fst∗ 𝓤 (never 𝓤) (sem 𝓛 (ghosts.dealloc_token d.heap (bare (lone Inner.mir)) null_ptr)))
      (λ b o e. some b o x is (subst at e told) (subst Testable e test))))))

  pub handle_in : K → (b o : ℕ) (a : Global) (x : Inner.Denot) → Testable (block_ptr b o)
      → Step K 𝓛 (‵ (Row.own_val (record { at = block_ptr b o; heap = a; desk = Some x }) (alone (vptr b o) ∷ [])) ∷ Γ) G
      (‵ (box_owns (ghosts.dealloc_token a) Inner (block_ptr b o) x) ∷ Γ) G
  handle_in t b o a x test = step (λ s. let v : Val = alone (vptr b o) in
      nothing t $ fpack t (Testable (block_ptr b o)) (λ _. ftrue) test $ fjoin t $
      nothing t $ feq_i t (List Val) (vptr b o ∷ []) (vptr b o ∷ []) refl $ fjoin t $ feq_i t (List Val) (v ∷ []) (v ∷ []) refl $ fjoin t $
      fpack t (Valss (RawPtr ∷ [])) (within (shape handle.the_type) (block_ptr b o, tt) (v ∷ [])) (vptr b o ∷ [], tt) $ fjoin t $ s)

  pub empty_in : K → (a : Global)
      → Step K 𝓛 (‵ (Row.own_val (record { at = null_ptr; heap = a; desk = None }) (alone (ptr_val null_ptr) ∷ [])) ∷ Γ) G Γ G
  empty_in t a = step (λ s. let v : Val = alone (ptr_val null_ptr) in
      nothing t $ fpack t (null_ptr ≡ null_ptr) (λ _. ftrue) refl $
      nothing t $ feq_i t (List Val) (ptr_val null_ptr ∷ []) (ptr_val null_ptr ∷ []) refl $ fjoin t $ feq_i t (List Val) (v ∷ []) (v ∷ []) refl $ fjoin t $
      fpack t (Valss (RawPtr ∷ [])) (within (shape handle.the_type) (null_ptr, tt) (v ∷ [])) (ptr_val null_ptr ∷ [], tt) $ fjoin t $ s)
