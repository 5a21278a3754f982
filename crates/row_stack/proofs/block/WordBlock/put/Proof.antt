-- `put` cuts the words at the place, and has the row copied into the room after them. Assumes `Logic`.
use Rattle.std.proofs.Common.{◌≡◌, ℕ, ◌+◌, ◌-◌, ◌*◌, ◌^◌, ◌<◌, ◌≤◌, true, List, [], ◌∷◌, ◌++◌, length, take, refl, sym, subst, ap, ◌∙◌, arith, w64}
use Rattle.std.proofs.raw_atomic.Walks.{proved}
use Rattle.std.specs.Prelude.{ℤ}
use lib.Dec.{T}
use base.Fraction.{full_share}
use base.Logic.{id⊢, emp}
use base.Fml.{ftrue, fsep, froom, flft}
use mir.Syntax.{ty_int, ty_array, ty_unit, named}
use mir.Val.{Val, vunit, vint, vptr, has_ty, WT}
use contract.Monad.{fact, fact_i}
use contract.Running.{tables}
use types.Kit.{‵, raw, ◌⊛◌, some, later, given, at_ret, ◌$◌, ◌∵◌, !, qed, done, move, keep, drop, use0, use1, use2, split, split3, join, fsplit, fsplit3, fjoin, feq_i, feq_l, flt_i, pick, learn, await, rewrite, suffices, frame, group}
use types.Part.{whole, sub, look_in}
use types.Run.{enter, of_opd, lit, unit_lit, bin, addr, from, hop, load, stop, fld, and_then, no_more, first, blocks, exec, returns}
use types.ByLocal.{alloc_all, pass_all, free_all, look_at, look_in_at, get, get_in, through, sets, lands_last, env}
use denote.Array.{Array}
use denote.Builtin.{i64, usize, unit, SliceRefOf}
use denote.Copied.{sint_Copied}
use denote.Exit.{yes}
use denote.Index.{row, looks_slice, shuts_slice}
use denote.Laws.{shows}
use denote.Memory.{cell_at, part_at}
use denote.Plain.{uint_vals, uint_Tells}
use denote.RawPtr.{Ptr, block_ptr, in_a_block}
use denote.Ref.{MutRef, mut_vals, mut_Tells}
use denote.Signature.{plain}
use denote.Slice.{ShrSlice, shr_slice_vals, shr_slice_Tells}
use denote.Steps.{nothing, opens, closes, heard, peeks, only}
use denote.Triple.Call.{calls_at_last}
use denote.Triple.Spec.{triple_of}
use denote.Triple.Table.{framed}
use denote.Triple.Walked.{Stays, walk_of, stay_ref, stay_dropped, Goes-ref, Goes-dropped, ends_at}
use Rattle.std.proofs.RawLayout.{as_raw, as_written}
use Rattle.std.proofs.VecSteps.Shapes.{after}
use Rattle.std.proofs.VecSteps.Gaps.{shorter, joined}
use Rattle.std.proofs.VecSteps.Rows as rows
use Rattle.std.proofs.mem.Facts.{says_two}
use Rattle.std.specs.Allocator.{block_with_items}
use Rattle.std.specs.contracts.impls.GlobalAllocator.TheImpl.{ghosts}
use Rattle.row_stack.specs.Memory.{block_owns, words_twice}
use Rattle.row_stack.specs.declared.block.WordBlock.{WordBlock}
use Rattle.row_stack.proofs.Word.{words as E, none_at_null, length-cut}
use Rattle.row_stack.proofs.block.copy_words.Met.{met}
use Rattle.row_stack.specs.contracts.block.copy_words as g
use Rattle.row_stack.specs.contracts.block.WordBlock.put as f
use Rattle.row_stack.proofs.block.WordBlock.put.Statement.{statement}
use Rattle.row_stack.proofs.block.WordBlock.put.Code as code
use Rattle.row_stack.specs.contracts.block.WordBlock.{the_row as R}
use Rattle.row_stack.proofs.block.WordBlock.TheLaws.{lowers}

abbrev stayed : Stays f.ended.signature.params f.ended.kept
stayed = (stay_ref (0 ∷ []) tt (plain (λ _. R)), (stay_dropped (plain (λ _. usize)) yes, (stay_dropped (SliceRefOf (1 ∷ []) tt (plain (λ _. i64)) (λ _. tt)) yes, tt)))

pub put_spec : {M : Type 1} → statement M
put_spec 𝓤 𝓛 𝓜 𝓡 wired =
    let c = f.clauses 𝓛 𝓜.mem 𝓡.returns in let W = walk_of 𝓛 f.ended stayed c in let 𝓣 = tables 𝓤 𝓛.H 𝓜 𝓡 𝓡.env in
    proved 𝓛 f.ended stayed c 𝓜 𝓡
    (Goes-ref 𝓛 2 0 tt (plain (λ _. R)), (Goes-dropped 𝓛 2 (plain (λ _. usize)) yes (λ κs x w. refl), (Goes-dropped 𝓛 2 (SliceRefOf (1 ∷ []) tt (plain (λ _. i64)) (λ _. tt)) yes (λ κs x w. refl), tt)))
    f.Key.name code.function (code.unfolded 𝓤 𝓛.H 𝓜 𝓡 wired)
    (λ κs. (mut_vals, (uint_vals w64, (shr_slice_vals, tt)))) (λ κs. (mut_Tells (named 0) κs.0 R, (uint_Tells w64, (shr_slice_Tells (named 1) κs.1.0 i64, tt)))) (λ κs qs bounds a _ are.
    let b = a.0.ref_ptr.0 in let o = a.0.ref_ptr.1 in let h : WordBlock = a.0.now in let at : ℕ = a.1.0 in
    let sb = a.1.1.0.ref_ptr.0 in let so = a.1.1.0.ref_ptr.1 in let xs : List ℤ = a.1.1.0.now in let m : ℕ = length xs in
    let n : ℕ = length h.words in let k : ℕ = h.capacity in let ws = take at h.words ++ xs in
    let room = are.1.1.0.0.1 in let few : m < 2 ^ 64 = room.0 in let bytes : m * 8 < 2 ^ 63 = room.1 in
    let y : W.Ghost = ((κs, qs, bounds, a, (mut_vals a.0, (uint_vals w64 at, (shr_slice_vals a.1.1.0, tt)))), tt) in
    qed 𝓛 (((‵ (flft κs.0 qs.0) ⊛ ‵ (flft κs.1.0 qs.1.0) ⊛ ‵ ftrue) ⊛ ‵ ((MutRef (named 0) κs.0 R).own_val a.0 (mut_vals a.0)) ⊛ ‵ (usize.own_val at (uint_vals w64 at)) ⊛ ‵ ((ShrSlice (named 1) κs.1.0 i64).own_val a.1.1.0 (shr_slice_vals a.1.1.0)) ⊛ ‵ ftrue)
    ∷ (raw (fact 𝓤 (at ≤ n)) ⊛ raw (fact 𝓤 (at + m ≤ k))) ∷ []) ∵
    move ! (1 ∷ []) $ split ! $ heard ! (at ≤ n) (λ written. heard ! (at + m ≤ k) (λ fits.
    let long : length ws ≡ at + m = length-cut at h.words xs written in
    let within : length ws ≤ k = omega arith in
    let far : at * 8 < 2 ^ 64 = omega (arith, h.fits.1) in
    let h' : WordBlock = record { start = h.start; capacity = k; alloc = h.alloc; words = ws; fits = (within, h.fits.1) } in
    split ! $ split3 ! $ move ! (3 ∷ []) $ split3 ! $ move ! (2 ∷ []) $ split ! $ keep ! (2 ∷ 4 ∷ 0 ∷ 5 ∷ []) $
    enter ! _ _ _ _ _ $ alloc_all ! (λ l. pass_all ! refl ((tt, tt), ((tt, record { fits = are.1.0.1 }), ((tt, (tt, (record { fits = few }, tt))), tt))) $
    fsplit3 ! $ move ! (1 ∷ 2 ∷ 3 ∷ []) $ opens ! tt R b o (λ us.
    move ! (1 ∷ []) $ peeks ! R _ (shows 𝓛 R) h us (λ is. fsplit ! $ move ! (1 ∷ []) $
    in_a_block ! h.start (λ p. block_owns h.alloc p k h.words) (none_at_null 𝓛 h.alloc k h.words) (λ b' o' e.
    let to : ℕ = at * 8 + o' in let next : ℕ = o' + at * 8 + m * 8 in
    use1 𝓛 (‵ (block_with_items (ghosts.dealloc_token h.alloc) i64 (block_ptr b' o') at k (take at h.words))) (shorter E 𝓛 b' o' h.alloc true n k at h.words refl written h.fits.0) $
    fsplit ! $ move ! (1 ∷ []) $ fsplit ! $ as_written ! (ty_array (ty_int w64) (k - at)) b' (o' + at * 8) $
    use1 𝓛 (‵ (froom (ty_array (ty_int w64) m) b' (o' + at * 8)) ⊛ ‵ (froom (ty_array (ty_int w64) (k - at - m)) b' next)) (rows.room_split E 𝓛 m (k - at) b' (o' + at * 8) (omega arith)) $ split ! $
    let there : o' + at * 8 ≡ to = omega arith in rewrite ! 0 (λ (j : ℕ). ‵ (froom (ty_array (ty_int w64) m) b' j)) there refl $
    let word = lowers.val_is h us is ∙ ap (λ (p : Ptr). lowers.lowered (record h { start = p }) ∷ []) e in
    let Cell = λ (vs : List Val). ‵ (cell_at full_share R.mir vs b o) in
    rewrite ! 5 Cell word refl $
    -- [the room; the room after it; the right; the words; what the fields own; the struct's cell; the open borrow in three; self's first part; the row; its token]
    move ! (10 ∷ []) $ fsplit ! $ drop ! $ move ! (0 ∷ 11 ∷ []) $ looks_slice ! tt i64 (sint_Copied 𝓛 w64) xs sb so (λ p.
    first ! $ blocks ! $
    sets ! (addr ! (from ! (fld ! refl (hop ! (look_in_at ! 3 (sub ! 0 refl (whole !))) (stop !))))) refl (tt, tt) $
    sets ! (of_opd ! (load ! (through ! refl (fld ! refl (stop !))) (look_in ! 8 (sub ! 0 refl (whole !))))) refl (tt, tt) $
    sets ! (bin ! (get ! refl) (lit ! tt) (record { fits = far })) refl (tt, record { fits = far }) $
    sets ! (bin ! (get ! refl) (get ! refl) tt) refl (tt, tt) $
    sets ! (of_opd ! (get_in ! (fld ! refl (stop !)) (sub ! 1 refl (whole !)))) refl (tt, record { fits = few }) $
    -- [the row; its way back; the row as it is lent; the room; the room after it; the right; the words; what the fields own; the struct's cell; ..]
    let G = triple_of 𝓛 g.signature (g.spec 𝓛 𝓜.mem 𝓡.returns) in
    let z : G.Ghost = ((tt, tt, tt, (block_ptr sb so, (block_ptr b' to, (m, tt))), (vptr sb so ∷ [], (vptr b' to ∷ [], (vint w64 m ∷ [], tt)))), (p, xs)) in
    move ! (0 ∷ 3 ∷ []) $ use1 𝓛 (‵ (part_at (Array i64 m) p xs sb so)) (rows.whole E 𝓛 p m xs sb so refl) $ fjoin ! $
    use0 𝓛 (raw (fact 𝓤 ((m ≡ m) × (m * 8 < 2 ^ 63)))) (fact_i 𝓤 ((m ≡ m) × (m * 8 < 2 ^ 63)) (emp 𝓤) (refl, bytes)) $ join ! $
    nothing ! $ flt_i ! m (2 ^ 64) few $ feq_i ! (List Val) (vint w64 m ∷ []) (vint w64 m ∷ []) refl $ fjoin ! $ fjoin ! $
    feq_i ! (List Val) (vptr b' to ∷ []) (vptr b' to ∷ []) refl $ fjoin ! $ feq_i ! (List Val) (vptr sb so ∷ []) (vptr sb so ∷ []) refl $ fjoin ! $
    nothing ! $ join ! $ use2 𝓛 (raw (G.pre z)) (id⊢ 𝓤 _) $
    calls_at_last ! (framed 𝓤 𝓛.H 𝓜 𝓣) G (met 𝓤 𝓛 𝓜 𝓡 (code.calls-row_stack::block::copy_words 𝓡.env wired)) z (and_then ! (get ! refl) (and_then ! (get ! refl) (and_then ! (get ! refl) (no_more !)))) (λ v.
    use1 𝓛 (later (some (λ (r : Unit {0}). (‵ ftrue ⊛ ‵ (unit.own_val r (v ∷ []))) ⊛ some (λ (left : Unit {0} × (Unit {0} × (Unit {0} × Unit {0}))). ‵ (fsep ftrue (fsep ftrue (fsep ftrue ftrue))) ⊛ ‵ (words_twice p xs (block_ptr sb so) (block_ptr b' to)))))) (id⊢ 𝓤 _) $
    await ! tt $ pick ! (λ r. split ! $ split ! $ drop ! $ feq_l ! (λ is_unit. pick ! (λ left. split ! $ drop ! $ fsplit ! $
    lands_last ! refl (subst (λ (w : Val). T (has_ty ty_unit w) × WT w) (sym (ap only is_unit)) (tt, tt)) $
    exec ! 𝓣.C 𝓣.Λ (env code.Mir.locals l) (after 1 (code.function).body) (at_ret _ (W.post y)) $
    sets ! (of_opd ! (unit_lit !)) refl (tt, tt) $
    use1 𝓛 (given (m ≡ m) (‵ (row i64 p xs sb so))) (rows.apart E 𝓛 p m xs sb so) $ learn ! (λ _. move ! (0 ∷ 2 ∷ []) $ shuts_slice ! tt i64 p xs sb so $
    -- [the row's token; the copy; the row as it is lent; the room after it; the right; the words; what the fields own; the struct's cell; ..]
    move ! (1 ∷ []) $ use1 𝓛 (given (m ≡ m) (‵ (row i64 full_share xs b' to))) (rows.apart E 𝓛 full_share m xs b' to) $ learn ! (λ _.
    move ! (5 ∷ 0 ∷ []) $ use2 𝓛 (‵ (part_at (Array i64 (length ws)) full_share ws b' o')) (joined E 𝓛 b' o' (length ws) at (take at h.words) xs refl) $
    let rest : k - at - m ≡ k - length ws = omega arith in let end : next ≡ o' + length ws * 8 = omega arith in
    move ! (3 ∷ 4 ∷ 0 ∷ []) $ rewrite ! 0 (λ (j : ℕ). ‵ (froom (ty_array (ty_int w64) j) b' next)) rest refl $ rewrite ! 0 (λ (j : ℕ). ‵ (froom (ty_array (ty_int w64) (k - length ws)) b' j)) end refl $
    as_raw ! (ty_array (ty_int w64) (k - length ws)) b' (o' + length ws * 8) $ fjoin ! $ move ! (1 ∷ 0 ∷ []) $ fjoin ! $
    -- [the block; the row's token; the row as it is lent; what the fields own; the struct's cell; ..]
    rewrite ! 0 (λ (q : Ptr). ‵ (block_owns h.alloc q k ws)) (sym e) refl $ rewrite ! 4 Cell (sym word) refl $
    move ! (3 ∷ 0 ∷ []) $ fjoin ! $ move ! (3 ∷ 0 ∷ 4 ∷ 5 ∷ 6 ∷ []) $ closes ! tt R h' us b o $
    -- [two parts of self; the token; the row's token; the row as it is lent; self's first part]
    returns ! (look_at ! 0 refl) $ free_all ! refl $ keep ! (5 ∷ 0 ∷ 1 ∷ 2 ∷ 3 ∷ []) $
    suffices ! _ (ends_at 𝓛 f.ended stayed c y vunit tt (h', (tt, (tt, tt))) (tt, (tt, (tt, tt)))) $ says_two ! (refl, refl) $
    group ! 3 $ nothing ! $ nothing ! $ join ! $ nothing ! $ join ! $ move ! (1 ∷ 0 ∷ []) $ join ! $
    nothing ! $ move ! (3 ∷ 0 ∷ []) $ join ! $ move ! (2 ∷ 0 ∷ []) $ join ! $ frame ! $ frame ! $ feq_i ! _ (vunit ∷ []) _ refl $ done !))))))))))))))
