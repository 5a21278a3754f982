-- What the walks over a block of words share. Assumes `Logic`.
use Rattle.std.proofs.Common.{◌≡◌, ℕ, zero, suc, ◌+◌, ◌-◌, ◌*◌, ◌≤◌, List, [], ◌∷◌, ◌++◌, length, take, drop, refl, subst, ap, ◌∙◌, arith}
use Rattle.std.proofs.lemmas.List.{length-take-le, length-drop}
use Rattle.std.specs.Prelude.{ℤ}
use lib.ListN.{length-append}
use seplogic.Ra.Ura.{Ura}
use base.Fml.{Lft, fsep}
use base.Logic.{ent, never, fst∗, snd∗, mono_r, via, id⊢}
use types.Logic.{Logic, sem}
use types.Kit.{‵, ◌$◌, ◌∵◌, !, qed, keep, done}
use denote.Memory.{shared_of}
use denote.Slice.{elements_shared}
use mir.Syntax.{impl, tnil, dnil}
use denote.Builtin.{i64}
use denote.Param.Laws.{Laws, of_field}
use denote.Param.Shared.{copy_shared}
use denote.RawPtr.{null_ptr, room_for}
use denote.Struct.Field.{i64-field}
use denote.Struct.Laws.{i64-laws, i64-copy}
use Rattle.std.specs.contracts.alloc.Global as heap
use Rattle.std.specs.contracts.impls.GlobalAllocator.TheImpl.{ghosts, dict}
use Rattle.std.proofs.alloc.Global.TheLaws as heap_laws
use Rattle.std.proofs.alloc.Calls.{Al}
use Rattle.std.proofs.VecSteps.El.{El}
use Rattle.std.specs.Allocator.{array_of}
use Rattle.std.specs.Global.{Global}
use Rattle.row_stack.specs.Memory.{block_owns}

pub word_laws : Laws i64
word_laws = of_field i64-field i64-laws refl (copy_shared i64-field i64-copy)

-- the heap, and words from it
abbrev pub heap_al : Al
heap_al = record { row = heap.the_row; laws = heap_laws.the_row_laws; g = ghosts; d = dict; drops = impl [] tnil dnil }

abbrev pub words : El
words = record { row = i64; laws = word_laws; al = heap_al }

module _ {M : Type 1} {𝓤 : Ura M} (𝓛 : Logic 𝓤) where
  -- there is no block at null
  pub none_at_null : (alloc : Global) (k : ℕ) (ws : List ℤ) → ent 𝓤 (sem 𝓛 (block_owns alloc null_ptr k ws)) (never 𝓤)
  none_at_null alloc k ws = fst∗ 𝓤 (never 𝓤) (sem 𝓛 (fsep (room_for (array_of i64 (k - length ws)) null_ptr) (ghosts.dealloc_token alloc (array_of i64 k) null_ptr)))

-- words after the first `at`
pub length-cut : (at : ℕ) (ws row : List ℤ) → at ≤ length ws → length (take at ws ++ row) ≡ at + length row
length-cut at ws row within = length-append (take at ws) row ∙ ap (λ (j : ℕ). j + length row) (length-take-le at ws within)

pub length-run : (from count : ℕ) (ws : List ℤ) → from + count ≤ length ws → length (take count (drop from ws)) ≡ count
length-run from count ws within =
    let left : count ≤ length (drop from ws) = omega (arith, length-drop from ws) in
    length-take-le count (drop from ws) left

module _ {M : Type 1} {𝓤 : Ura M} (𝓛 : Logic 𝓤) (κ : Lft) (b : ℕ) where
  -- what lends the words lends those from a place on
  tail_lent : (ws : List ℤ) (from o at : ℕ) → at ≡ from * 8 + o → ent 𝓤 (sem 𝓛 (elements_shared i64 ws b o κ)) (sem 𝓛 (elements_shared i64 (drop from ws) b at κ))
  tail_lent ws zero o at e = let here : o ≡ at = omega (arith, e) in subst (λ (j : ℕ). ent 𝓤 (sem 𝓛 (elements_shared i64 ws b o κ)) (sem 𝓛 (elements_shared i64 ws b j κ))) here (id⊢ 𝓤 _)
  tail_lent [] (suc from) o at e = id⊢ 𝓤 _
  tail_lent (w ∷ ws) (suc from) o at e = let more : at ≡ from * 8 + (o + 8) = omega (arith, e) in
      via 𝓤 (sem 𝓛 (elements_shared i64 ws b (o + 8) κ)) (snd∗ 𝓤 (sem 𝓛 (shared_of i64 w b o κ)) (sem 𝓛 (elements_shared i64 ws b (o + 8) κ))) (tail_lent ws from (o + 8) at more)

  -- and the first of them
  head_lent : (ws : List ℤ) (count o : ℕ) → ent 𝓤 (sem 𝓛 (elements_shared i64 ws b o κ)) (sem 𝓛 (elements_shared i64 (take count ws) b o κ))
  head_lent ws zero o = qed 𝓛 (‵ (elements_shared i64 ws b o κ) ∷ []) ∵ keep ! [] $ done !
  head_lent [] (suc count) o = id⊢ 𝓤 _
  head_lent (w ∷ ws) (suc count) o = mono_r 𝓤 (sem 𝓛 (shared_of i64 w b o κ)) (head_lent ws count (o + 8))

  pub run_lent : (o : ℕ) (ws : List ℤ) (from count : ℕ) → ent 𝓤 (sem 𝓛 (elements_shared i64 ws b o κ)) (sem 𝓛 (elements_shared i64 (take count (drop from ws)) b (from * 8 + o) κ))
  run_lent o ws from count = via 𝓤 _ (tail_lent ws from o (from * 8 + o) refl) (head_lent (drop from ws) count (from * 8 + o))
