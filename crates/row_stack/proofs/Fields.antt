-- What a `&` to a block shows of its fields. Assumes `Logic`.
use Rattle.std.proofs.Common.{◌≡◌, ℕ, ◌+◌, ◌^◌, ◌<◌, List, [], ◌∷◌, refl, sym, subst, ap, w64}
use lib.Dec.{T}
use mir.Val.{Val, vint, vptr, vstruct, vcons, vnil, has_ty, WT}
use seplogic.Ra.Ura.{Ura}
use base.Logic.{ent, sep, emp}
use base.Fml.{Lft, Fml}
use types.Logic.{Logic, sem}
use types.Kit.{‵, ◌$◌, ◌∵◌, !, qed, move, keep, use0, fsplit, fjoin, fpack, feq_i, flt_i, done}
use denote.Param.{layout}
use denote.RattleType.{RattleType, RowLaws, Valss}
use denote.Memory.{hidden_shr}
use denote.Opens.{shr_dup, unhide, hide}
use denote.RawPtr.{Ptr, RawPtr, block_ptr, ptr_val}
use denote.Steps.{nothing}
use denote.Struct.Struct.{Struct, Struct-row_laws, within}
use denote.Struct.Field.{RawPtr-field, usize-field}
use denote.Struct.Laws.{RawPtr-copy, usize-copy}
use denote.Struct.Owning.{shape, to}
use denote.Param.Shared.{copy_shared, parts_row_laws}
use Rattle.std.proofs.alloc.Global.TheLaws as heap_laws
use Rattle.std.proofs.Handle.{heap_val}
use Rattle.std.specs.contracts.alloc.Global as heap
use Rattle.row_stack.proofs.Heap.{heap_own}
use Rattle.row_stack.specs.declared.block.WordBlock.{WordBlock}
use Rattle.row_stack.specs.contracts.block.WordBlock as C

-- the data fields alone
abbrev pub Fields : RattleType
Fields = Struct (shape C.the_type)

abbrev pub fields : WordBlock → Fields.Denot
fields d = to C.the_type d

laws : RowLaws Fields
laws = Struct-row_laws (shape C.the_type) (parts_row_laws C.struct.parts (copy_shared RawPtr-field RawPtr-copy, (copy_shared usize-field usize-copy, (heap_laws.the_field_shared, tt))))

module _ {M : Type 1} {𝓤 : Ura M} (𝓛 : Logic 𝓤) (κ : Lft) (b o : ℕ) (d : WordBlock) where
  abbrev S : Fml
  S = hidden_shr Fields κ (fields d) b o

  pub shows_start : ent 𝓤 (sem 𝓛 S) (sep 𝓤 (sem 𝓛 (hidden_shr RawPtr κ d.start b (o + 0))) (sem 𝓛 S))
  shows_start = qed 𝓛 (‵ S ∷ []) ∵ shr_dup ! Fields laws (fields d) b o κ $ unhide ! $ fsplit ! $ fsplit ! $ hide ! $ keep ! (0 ∷ 3 ∷ []) $ done !

-- the fields as the machine has them
abbrev pub made : ℕ → ℕ → ℕ → Val
made b o k = vstruct (vcons (vptr b o) (vcons (vint w64 k) (vcons heap_val vnil)))

pub made_fits : (b o k : ℕ) → k < 2 ^ 64 → T (has_ty (layout C.the_row) (made b o k)) × WT (made b o k)
made_fits b o k few = (tt, (tt, (record { fits = few }, (((tt, tt), tt), tt))))

module _ {M : Type 1} {𝓤 : Ura M} (𝓛 : Logic 𝓤) where
  pub fields_made : (d : WordBlock) (b o k : ℕ) → d.start ≡ block_ptr b o → d.capacity ≡ k → k < 2 ^ 64 → ent 𝓤 (emp 𝓤) (sem 𝓛 (Fields.own_val (fields d) (made b o k ∷ [])))
  fields_made d b o k at long few =
      qed 𝓛 [] ∵ use0 𝓛 (‵ ((heap.the_row).own_val d.alloc (heap_val ∷ []))) (heap_own 𝓛 d.alloc) $ nothing ! $ move ! (1 ∷ 0 ∷ []) $ fjoin ! $
      flt_i ! d.capacity (2 ^ 64) (subst (λ (j : ℕ). j < 2 ^ 64) (sym long) few) $ feq_i ! (List Val) (vint w64 k ∷ []) (vint w64 d.capacity ∷ []) (ap (λ (j : ℕ). vint w64 j ∷ []) (sym long)) $ fjoin ! $ fjoin ! $
      feq_i ! (List Val) (vptr b o ∷ []) (ptr_val d.start ∷ []) (ap (λ (p : Ptr). ptr_val p ∷ []) (sym at)) $ fjoin ! $
      feq_i ! (List Val) (made b o k ∷ []) (made b o k ∷ []) refl $ fjoin ! $
      fpack ! (Valss (shape C.the_type).fields) (within (shape C.the_type) (fields d) (made b o k ∷ [])) (vptr b o ∷ [], (vint w64 k ∷ [], (heap_val ∷ [], tt))) $ done !
