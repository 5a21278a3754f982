-- `drop` makes room of the words, and gives the block back with the size that it was taken with. Assumes `Logic`.
use Rattle.std.proofs.Common.{◌≡◌, ℕ, ◌+◌, ◌-◌, ◌*◌, ◌^◌, ◌<◌, [], ◌∷◌, length, refl, sym, subst, ap, ◌∙◌, arith, lit<, w64}
use Rattle.std.proofs.raw_atomic.Walks.{proved}
use base.Fml.{Lft, ftrue, froom, flft}
use lib.Dec.{T}
use mir.Raw.{raw as bare}
use mir.Syntax.{Ty, ty_int, ty_array, ty_unit}
use mir.Val.{Val, vunit, has_ty, WT}
use prog.Capped.{capped_is}
use prog.Memory.{capped}
use prog.RawLaws.{size-raw, align-raw}
use contract.Running.{tables}
use types.Kit.{‵, raw, ◌⊛◌, given, later, at_ret, ◌$◌, ◌∵◌, !, qed, done, move, keep, drop, use1, use2, split, join, fsplit, feq_i, learn, await, suffices, group}
use types.Part.{whole, sub}
use types.Run.{enter, of_opd, lit, unit_lit, bin, addr, from, no_more, and_then, stop, fld, first, blocks, exec, returns}
use types.ByLocal.{alloc_all, pass_all, free_all, look_at, get, get_in, is, sets, lands_last, take_at, give_at, env}
use denote.Exit.{yes}
use denote.RawPtr.{ptr_val, in_a_block}
use denote.Signature.{plain}
use denote.Steps.{nothing}
use denote.Triple.Call.{calls_at_last}
use denote.Triple.Table.{framed}
use denote.Triple.Walked.{Stays, walk_of, stay_dropped, Goes-dropped, ends_at}
use Rattle.std.proofs.RawLayout.{as_raw, as_written}
use Rattle.std.proofs.VecSteps.Shapes.{after}
use Rattle.std.proofs.VecSteps.Rows as rows
use Rattle.std.proofs.impls.GlobalAllocator.deallocate.Met.{met}
use Rattle.row_stack.specs.Memory.{block_owns}
use Rattle.row_stack.specs.declared.block.WordBlock.{WordBlock}
use Rattle.row_stack.proofs.Word.{words as E, none_at_null}
use Rattle.row_stack.proofs.Heap.{lends_cell, cell_back, Gives, at_gives, gives_goes, gives_gives}
use Rattle.row_stack.specs.contracts.block.WordBlock.drop as f
use Rattle.row_stack.proofs.block.WordBlock.drop.Statement.{statement}
use Rattle.row_stack.proofs.block.WordBlock.drop.Code as code
use Rattle.row_stack.specs.contracts.block.WordBlock.{the_row as R}
use Rattle.row_stack.proofs.block.WordBlock.TheLaws.{lowers, the_row_laws}

abbrev stayed : Stays f.ended.signature.params f.ended.kept
stayed = (stay_dropped (plain (λ _. R)) yes, tt)

pub drop_spec : {M : Type 1} → statement M
drop_spec 𝓤 𝓛 𝓜 𝓡 wired =
    let c = f.clauses 𝓛 𝓜.mem 𝓡.returns in let W = walk_of 𝓛 f.ended stayed c in let 𝓣 = tables 𝓤 𝓛.H 𝓜 𝓡 𝓡.env in
    proved 𝓛 f.ended stayed c 𝓜 𝓡 (Goes-dropped 𝓛 0 (plain (λ _. R)) yes (λ κs x w. refl), tt)
    f.Key.name code.function (code.unfolded 𝓤 𝓛.H 𝓜 𝓡 wired)
    (λ κs. ((λ d. lowers.lowered d ∷ []), tt)) (λ κs. (lowers.val_is, tt)) (λ κs qs bounds a _ are.
    let h : WordBlock = a.0 in let n : ℕ = length h.words in let k : ℕ = h.capacity in
    let good = ((the_row_laws.lawful 𝓛).typed h (lowers.lowered h ∷ []) are.0).0 in
    let size : k * 8 < 2 ^ 64 = omega (arith, h.fits.1) in
    let count : k < 2 ^ 64 = omega arith in
    let τ : Ty = bare (ty_array (ty_int w64) k) in
    let y : W.Ghost = ((κs, qs, bounds, a, (lowers.lowered h ∷ [], tt)), tt) in
    qed 𝓛 ((‵ ftrue ⊛ ‵ (R.own_val h (lowers.lowered h ∷ [])) ⊛ ‵ ftrue) ∷ ‵ ftrue ∷ []) ∵
    split ! $ drop ! $ split ! $ keep ! (0 ∷ []) $ fsplit ! $ keep ! (1 ∷ []) $
    in_a_block ! h.start (λ p. block_owns h.alloc p k h.words) (none_at_null 𝓛 h.alloc k h.words) (λ b o e.
    fsplit ! $ move ! (1 ∷ []) $ fsplit ! $ as_written ! (ty_array (ty_int w64) (k - n)) b (o + n * 8) $ move ! (2 ∷ 0 ∷ []) $
    use2 𝓛 (‵ (froom (ty_array (ty_int w64) k) b o)) (rows.all_room E 𝓛 b o n k h.words h.fits.0) $ as_raw ! (ty_array (ty_int w64) k) b o $
    -- [the room; the right]
    enter ! _ _ _ _ _ $ alloc_all ! (λ l. pass_all ! refl (good, tt) $
    sets ! (is ! (of_opd ! (get_in ! (fld ! refl (stop !)) (sub ! 0 refl (whole !)))) (ap ptr_val e)) refl (tt, tt) $
    sets ! (of_opd ! (get_in ! (fld ! refl (stop !)) (sub ! 1 refl (whole !)))) refl (tt, record { fits = count }) $
    sets ! (of_opd ! (get_in ! (fld ! refl (stop !)) (sub ! 2 refl (whole !)))) refl (tt, ((tt, tt), tt)) $
    first ! $ blocks ! $
    sets ! (addr ! (from ! (stop !))) refl (tt, tt) $
    sets ! (of_opd ! (get ! refl)) refl (tt, tt) $
    sets ! (bin ! (get ! refl) (lit ! tt) (record { fits = size })) refl (tt, record { fits = size }) $
    take_at ! 4 $ lends_cell ! tt (l 4) h.alloc (λ lent.
    let κ : Lft = lent.0 ∷ [] in let G = Gives 𝓛 𝓜.mem 𝓡.returns in
    let z : G.Ghost = at_gives 𝓛 𝓜.mem 𝓡.returns κ lent.1 (l 4, 0) h.alloc b o (k * 8) 8 τ in
    move ! (3 ∷ 4 ∷ 0 ∷ 1 ∷ []) $ group ! 4 $
    use1 𝓛 (raw (G.pre z)) (gives_goes 𝓛 𝓜.mem 𝓡.returns κ lent.1 (l 4, 0) h.alloc b o (k * 8) 8 τ (ap capped (size-raw (ty_array (ty_int w64) k)) ∙ capped_is (k * 8) size) (ap capped (align-raw (ty_array (ty_int w64) k))) size (lit< tt)) $
    calls_at_last ! (framed 𝓤 𝓛.H 𝓜 𝓣) G (met 𝓤 𝓛 𝓜 𝓡 (code.calls-std_heap::GlobalAllocator::deallocate 𝓡.env wired)) z
    (and_then ! (get ! refl) (and_then ! (get ! refl) (and_then ! (get ! refl) (and_then ! (lit ! tt) (no_more !))))) (λ v.
    use1 𝓛 (later (given (v ≡ vunit) (‵ (flft κ lent.1)))) (gives_gives 𝓛 𝓜.mem 𝓡.returns κ lent.1 (l 4, 0) h.alloc b o (k * 8) 8 τ v) $ await ! tt $ learn ! (λ is_unit.
    cell_back ! tt (l 4) h.alloc lent $ give_at ! 4 $
    lands_last ! refl (subst (λ (w : Val). T (has_ty ty_unit w) × WT w) (sym is_unit) (tt, tt)) $
    exec ! 𝓣.C 𝓣.Λ (env code.Mir.locals l) (after 4 (code.function).body) (at_ret _ (W.post y)) $
    sets ! (of_opd ! (unit_lit !)) refl (tt, tt) $
    returns ! (look_at ! 0 refl) $ free_all ! refl $ keep ! [] $
    suffices ! _ (ends_at 𝓛 f.ended stayed c y vunit tt (tt, tt) (tt, tt)) $
    nothing ! $ feq_i ! _ (vunit ∷ []) _ refl $ nothing ! $ nothing ! $ join ! $ nothing ! $ group ! 3 $ done !))))))
