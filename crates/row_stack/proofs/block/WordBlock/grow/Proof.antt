-- `grow` cuts the words at the count, and has the heap make the block larger. Assumes `Logic`.
use Rattle.std.proofs.Common.{◌≡◌, ℕ, ◌*◌, ◌^◌, ◌<◌, ◌≤◌, true, false, List, [], ◌∷◌, length, take, refl, sym, subst, ap, ◌∙◌, arith, w64}
use Rattle.std.proofs.raw_atomic.Walks.{proved}
use Rattle.std.proofs.lemmas.List.{length-take-le}
use Rattle.std.specs.Prelude.{ℤ}
use lib.Dec.{T}
use base.Fraction.{full_share}
use base.Logic.{ex}
use base.Fml.{Lft, ftrue, fat, flft}
use mir.Syntax.{Body, named}
use mir.Val.{Val, vbool, has_ty, WT}
use prog.Wp.{Wp, after_seq, at_return}
use contract.Monad.{fact}
use contract.Running.{tables}
use types.Kit.{Post as After, any_q, ‵, raw, ◌⊛◌, later, at_ret, ◌$◌, ◌∵◌, !, qed, done, move, keep, drop, use0, use1, split, split3, join, fsplit, fsplit3, fjoin, feq_i, await, rewrite, suffices, frame, group}
use types.Match.{vrt, in_variant}
use types.Part.{whole, sub, look_in, store_in}
use types.Run.{enter, of_opd, true_lit, false_lit, addr, from, load, stop, fld, and_then, no_more, assigns, first, blocks, exec, switches_on, returns}
use types.ByLocal.{alloc_all, pass_all, free_all, look_at, get, get_in, get_tag, is, through, sets, sets_last, lands_last, take_at, give_at, env}
use denote.Builtin.{i64, usize}
use denote.Exit.{yes}
use denote.Laws.{shows}
use denote.Memory.{cell_at}
use denote.Param.{layout}
use denote.Plain.{uint_vals, uint_Tells}
use denote.RawPtr.{Ptr, block_ptr, in_a_block}
use denote.Ref.{MutRef, mut_vals, mut_Tells}
use denote.Signature.{plain}
use denote.Steps.{nothing, opens, closes, heard, peeks}
use denote.Triple.Call.{calls_at_last}
use denote.Triple.Table.{framed}
use denote.Triple.Walked.{Stays, walk_of, stay_ref, stay_dropped, Goes-ref, Goes-dropped, ends_at}
use Rattle.std.proofs.alloc.Calls.{Answer, Answer-typed}
use Rattle.std.proofs.alloc.Resizes.{Flagged, flagged}
use Rattle.std.proofs.VecSteps.Shapes.{after, head, arm_body}
use Rattle.std.proofs.VecSteps.Gaps.{shorter}
use Rattle.std.proofs.mem.Facts.{says_two}
use Rattle.std.proofs.impls.GlobalAllocator.grow.Met.{met}
use Rattle.std.specs.Allocator.{block_with_items}
use Rattle.std.specs.contracts.impls.GlobalAllocator.TheImpl.{ghosts}
use Rattle.row_stack.specs.Memory.{block_owns}
use Rattle.row_stack.specs.declared.block.WordBlock.{WordBlock}
use Rattle.row_stack.proofs.Word.{words as E, word_laws, none_at_null}
use Rattle.row_stack.proofs.Fields.{Fields, fields, made, fields_made}
use Rattle.row_stack.proofs.Heap.{lends_cell, cell_back, Grows, at_grows, grown_to, grows_goes, grows_gives}
use Rattle.row_stack.specs.contracts.block.WordBlock.grow as f
use Rattle.row_stack.proofs.block.WordBlock.grow.Statement.{statement}
use Rattle.row_stack.proofs.block.WordBlock.grow.Code as code
use Rattle.row_stack.specs.contracts.block.WordBlock.{the_row as R}
use Rattle.row_stack.proofs.block.WordBlock.TheLaws.{lowers}

abbrev stayed : Stays f.ended.signature.params f.ended.kept
stayed = (stay_ref (0 ∷ []) tt (plain (λ _. R)), (stay_dropped (plain (λ _. usize)) yes, (stay_dropped (plain (λ _. usize)) yes, tt)))

pub grow_spec : {M : Type 1} → statement M
grow_spec 𝓤 𝓛 𝓜 𝓡 wired =
    let c = f.clauses 𝓛 𝓜.mem 𝓡.returns in let W = walk_of 𝓛 f.ended stayed c in let 𝓣 = tables 𝓤 𝓛.H 𝓜 𝓡 𝓡.env in
    let number = Goes-dropped 𝓛 1 (plain (λ _. usize)) yes (λ κs x w. refl) in
    proved 𝓛 f.ended stayed c 𝓜 𝓡 (Goes-ref 𝓛 1 0 tt (plain (λ _. R)), (number, (number, tt)))
    f.Key.name code.function (code.unfolded 𝓤 𝓛.H 𝓜 𝓡 wired)
    (λ κs. (mut_vals, (uint_vals w64, (uint_vals w64, tt)))) (λ κs. (mut_Tells (named 0) κs.0 R, (uint_Tells w64, (uint_Tells w64, tt)))) (λ κs qs bounds a _ are.
    let b = a.0.ref_ptr.0 in let o = a.0.ref_ptr.1 in let h : WordBlock = a.0.now in let m : ℕ = a.1.0 in let new : ℕ = a.1.1.0 in
    let n : ℕ = length h.words in let k : ℕ = h.capacity in let ws : List ℤ = take m h.words in
    let y : W.Ghost = ((κs, qs, bounds, a, (mut_vals a.0, (uint_vals w64 m, (uint_vals w64 new, tt)))), tt) in
    qed 𝓛 (((‵ (flft κs.0 qs.0) ⊛ ‵ ftrue) ⊛ ‵ ((MutRef (named 0) κs.0 R).own_val a.0 (mut_vals a.0)) ⊛ ‵ (usize.own_val m (uint_vals w64 m)) ⊛ ‵ (usize.own_val new (uint_vals w64 new)) ⊛ ‵ ftrue)
    ∷ (raw (fact 𝓤 (m ≤ n)) ⊛ raw (fact 𝓤 (k ≤ new)) ⊛ raw (fact 𝓤 (new * 8 < 2 ^ 63))) ∷ []) ∵
    move ! (1 ∷ []) $ split3 ! $ heard ! (m ≤ n) (λ written. heard ! (k ≤ new) (λ larger. heard ! (new * 8 < 2 ^ 63) (λ small.
    let long : length ws ≡ m = length-take-le m h.words written in
    let few : m ≤ k = omega (arith, h.fits.0) in let had : length ws ≤ k = omega arith in let has : length ws ≤ new = omega arith in
    let count : new < 2 ^ 64 = omega arith in let old : k < 2 ^ 64 = omega arith in
    split ! $ split ! $ move ! (2 ∷ []) $ split ! $ keep ! (0 ∷ 2 ∷ []) $
    enter ! _ _ _ _ _ $ alloc_all ! (λ l. pass_all ! refl ((tt, tt), ((tt, record { fits = are.1.0.1 }), ((tt, record { fits = are.1.1.0.1 }), tt))) $
    let En = env code.Mir.locals l in
    let both : Body = head (after 4 (code.function).body) in
    let Then : After 𝓤 𝓛.H = any_q (after_seq 𝓤 𝓛.H (Wp 𝓤 𝓛.H 𝓣.C 𝓣.Λ En (after 5 (code.function).body) (at_return 𝓤 𝓛.H En (W.post y))) (at_return 𝓤 𝓛.H En (W.post y))) in
    fsplit3 ! $ move ! (1 ∷ 2 ∷ 3 ∷ []) $ opens ! tt R b o (λ us.
    move ! (1 ∷ []) $ peeks ! R _ (shows 𝓛 R) h us (λ is-h. fsplit ! $ move ! (1 ∷ []) $
    in_a_block ! h.start (λ p. block_owns h.alloc p k h.words) (none_at_null 𝓛 h.alloc k h.words) (λ b' o' e.
    use1 𝓛 (‵ (block_with_items (ghosts.dealloc_token h.alloc) i64 (block_ptr b' o') m k ws)) (shorter E 𝓛 b' o' h.alloc true n k m h.words refl written h.fits.0) $
    let word = lowers.val_is h us is-h ∙ ap (λ (p : Ptr). lowers.lowered (record h { start = p }) ∷ []) e in
    let Cell = λ (vs : List Val). ‵ (cell_at full_share R.mir vs b o) in
    rewrite ! 2 Cell word refl $
    -- [the block; what the fields own; the struct's cell; the open borrow in three; self's first part]
    let held : Val = lowers.lowered (record h { start = block_ptr b' o' }) in
    move ! (2 ∷ []) $ use1 𝓛 (‵ (fat full_share (layout R) b o held)) (𝓛.laws.raw_at full_share (layout R) b o held) $
    sets ! (of_opd ! (load ! (through ! refl (fld ! refl (stop !))) (look_in ! 0 (sub ! 2 refl (whole !))))) refl (tt, ((tt, tt), tt)) $
    use1 𝓛 (Cell (held ∷ [])) (𝓛.laws.at_raw full_share (layout R) b o held) $ move ! (1 ∷ 2 ∷ []) $
    sets ! (of_opd ! (get ! refl)) refl (tt, ((tt, tt), tt)) $
    first ! $ blocks ! $
    sets ! (addr ! (from ! (stop !))) refl (tt, tt) $
    sets ! (of_opd ! (load ! (through ! refl (fld ! refl (stop !))) (look_in ! 2 (sub ! 0 refl (whole !))))) refl (tt, tt) $
    sets ! (of_opd ! (load ! (through ! refl (fld ! refl (stop !))) (look_in ! 2 (sub ! 1 refl (whole !))))) refl (tt, record { fits = old }) $
    take_at ! 4 $ lends_cell ! tt (l 4) h.alloc (λ lent.
    let κ : Lft = lent.0 ∷ [] in let G = Grows 𝓛 𝓜.mem 𝓡.returns in let left = grown_to 𝓛 𝓜.mem 𝓡.returns κ lent.1 (l 4, 0) h.alloc b' o' m k new ws in
    let z : G.Ghost = at_grows 𝓛 𝓜.mem 𝓡.returns κ lent.1 (l 4, 0) h.alloc b' o' m k new ws in
    move ! (3 ∷ 0 ∷ 1 ∷ []) $ group ! 3 $ use1 𝓛 (raw (G.pre z)) (grows_goes 𝓛 𝓜.mem 𝓡.returns κ lent.1 (l 4, 0) h.alloc b' o' m k new ws (few, larger, small) are.1.0.1 old count) $
    calls_at_last ! (framed 𝓤 𝓛.H 𝓜 𝓣) G (met 𝓤 𝓛 𝓜 𝓡 (code.calls-std_heap::GlobalAllocator::grow 𝓡.env wired) i64 word_laws) z
    (and_then ! (get ! refl) (and_then ! (get ! refl) (and_then ! (get ! refl) (and_then ! (get ! refl) (and_then ! (get ! refl) (no_more !)))))) (λ v.
    use1 𝓛 (later (raw (ex 𝓤 (Flagged 𝓛 left v)) ⊛ ‵ (flft κ lent.1))) (grows_gives 𝓛 𝓜.mem 𝓡.returns κ lent.1 (l 4, 0) h.alloc b' o' m k new ws v) $ await ! tt $ split ! $
    move ! (1 ∷ 2 ∷ []) $ cell_back ! tt (l 4) h.alloc lent $ give_at ! 4 $
    flagged ! v left
    (λ b'' o'' e'.
    let h' : WordBlock = record { start = block_ptr b'' o''; capacity = new; alloc = h.alloc; words = ws; fits = (has, small) } in
    lands_last ! refl (subst (λ (w : Val). T (has_ty (layout Answer) w) × WT w) (sym e') (Answer-typed true b'' o'')) $ exec ! 𝓣.C 𝓣.Λ En (after 3 (code.function).body) (at_ret En (W.post y)) $
    sets ! (is ! (of_opd ! (get ! refl)) e') refl (Answer-typed true b'' o'') $
    first ! $ switches_on ! (get_tag ! (vrt ! refl (fld ! refl (stop !))) (whole !)) $ exec ! 𝓣.C 𝓣.Λ En (arm_body 0 both) Then $
    sets ! (of_opd ! (get_in ! (vrt ! refl (fld ! refl (stop !))) (in_variant ! 0 0 refl refl (whole !)))) refl (tt, tt) $
    assigns ! (of_opd ! (get ! refl)) (through ! refl (fld ! refl (stop !))) (store_in ! 2 (sub ! 0 refl (whole !)) (tt, tt)) $
    assigns ! (of_opd ! (get ! refl)) (through ! refl (fld ! refl (stop !))) (store_in ! 2 (sub ! 1 refl (whole !)) (tt, record { fits = count })) $
    sets_last ! (of_opd ! (true_lit !)) refl (tt, tt) $ exec ! 𝓣.C 𝓣.Λ En (after 5 (code.function).body) (at_ret En (W.post y)) $ sets ! (of_opd ! (get ! refl)) refl (tt, tt) $
    rewrite ! 0 (λ (j : ℕ). ‵ (block_with_items (ghosts.dealloc_token h.alloc) i64 (block_ptr b'' o'') j new ws)) (sym long) refl $
    move ! (1 ∷ []) $ drop ! $ use0 𝓛 (‵ (Fields.own_val (fields h') (made b'' o'' new ∷ []))) (fields_made 𝓛 h' b'' o'' new refl refl count) $ fjoin ! $
    move ! (1 ∷ []) $ closes ! tt R h' (made b'' o'' new ∷ []) b o $
    returns ! (look_at ! 0 refl) $ free_all ! refl $ keep ! (3 ∷ 0 ∷ 1 ∷ 2 ∷ []) $
    suffices ! _ (ends_at 𝓛 f.ended stayed c y (vbool true) true (h', (tt, (tt, tt))) (tt, (tt, (tt, tt)))) $ says_two ! (refl, refl) $
    group ! 3 $ nothing ! $ nothing ! $ join ! $ nothing ! $ join ! $ move ! (1 ∷ 0 ∷ []) $ join ! $ nothing ! $ move ! (2 ∷ 0 ∷ []) $ join ! $ frame ! $ frame ! $
    feq_i ! _ (vbool true ∷ []) _ refl $ done !)
    (λ e'.
    let h' : WordBlock = record { start = h.start; capacity = k; alloc = h.alloc; words = ws; fits = (had, h.fits.1) } in
    lands_last ! refl (subst (λ (w : Val). T (has_ty (layout Answer) w) × WT w) (sym e') (Answer-typed false 0 0)) $ exec ! 𝓣.C 𝓣.Λ En (after 3 (code.function).body) (at_ret En (W.post y)) $
    sets ! (is ! (of_opd ! (get ! refl)) e') refl (Answer-typed false 0 0) $
    first ! $ switches_on ! (get_tag ! (vrt ! refl (fld ! refl (stop !))) (whole !)) $ exec ! 𝓣.C 𝓣.Λ En (arm_body 1 both) Then $
    sets_last ! (of_opd ! (false_lit !)) refl (tt, tt) $ exec ! 𝓣.C 𝓣.Λ En (after 5 (code.function).body) (at_ret En (W.post y)) $ sets ! (of_opd ! (get ! refl)) refl (tt, tt) $
    rewrite ! 0 (λ (j : ℕ). ‵ (block_with_items (ghosts.dealloc_token h.alloc) i64 (block_ptr b' o') j k ws)) (sym long) refl $
    rewrite ! 0 (λ (q : Ptr). ‵ (block_owns h.alloc q k ws)) (sym e) refl $ rewrite ! 2 Cell (sym word) refl $
    move ! (1 ∷ []) $ fjoin ! $ move ! (1 ∷ []) $ closes ! tt R h' us b o $
    returns ! (look_at ! 0 refl) $ free_all ! refl $ keep ! (3 ∷ 0 ∷ 1 ∷ 2 ∷ []) $
    suffices ! _ (ends_at 𝓛 f.ended stayed c y (vbool false) false (h', (tt, (tt, tt))) (tt, (tt, (tt, tt)))) $ says_two ! (refl, refl) $
    group ! 3 $ nothing ! $ nothing ! $ join ! $ nothing ! $ join ! $ move ! (1 ∷ 0 ∷ []) $ join ! $ nothing ! $ move ! (2 ∷ 0 ∷ []) $ join ! $ frame ! $ frame ! $
    feq_i ! _ (vbool false ∷ []) _ refl $ done !)))))))))))
