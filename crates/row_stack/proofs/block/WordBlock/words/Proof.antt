-- `words` reads where the block begins, and lends a run of its words. Assumes `Logic`.
use Rattle.std.proofs.Common.{◌≡◌, ℕ, ◌+◌, ◌*◌, ◌^◌, ◌<◌, ◌≤◌, List, [], ◌∷◌, length, take, drop as drop_l, refl, sym, ap, arith, w64}
use Rattle.std.proofs.raw_atomic.Walks.{proved}
use Rattle.std.specs.Prelude.{ℤ}
use base.Fml.{ftrue, flft, fhide}
use mir.Syntax.{named}
use mir.Val.{Val}
use contract.Monad.{fact}
use contract.Running.{tables}
use types.Kit.{‵, raw, ◌⊛◌, at_ret, ◌$◌, ◌∵◌, !, qed, done, move, keep, drop, use1, split, join, fsplit, fjoin, feq_i, flt_i, suffices, frame}
use types.Part.{agg}
use types.Run.{enter, of_opd, lit, bin, load, look, no_more, and_then, stop, fld, first, blocks, exec, returns}
use types.ByLocal.{alloc_all, pass_all, free_all, look_at, get, through, sets, sets_last, env}
use denote.Builtin.{i64, usize, RefOf}
use denote.Exit.{yes}
use denote.Memory.{hidden_shr}
use denote.Opens.{hide, unhide}
use denote.Plain.{uint_vals, uint_Tells}
use denote.RawPtr.{block_of, count_of, InBlock}
use denote.Ref.{ShrRef, shr_vals, shr_Tells}
use denote.Signature.{plain}
use denote.Slice.{slice_val, elements_shared}
use denote.Steps.{nothing, heard}
use denote.Struct.Lending.{in_block_says, lent_out}
use denote.Triple.Walked.{says, Stays, walk_of, stay_dropped, Goes-dropped, ends_at}
use Rattle.std.proofs.VecSteps.Shapes.{after}
use Rattle.std.proofs.Words.{pointer_in, pointer_out}
use Rattle.std.specs.contracts.alloc.Global as heap
use Rattle.row_stack.specs.Memory.{block_lends}
use Rattle.row_stack.specs.declared.block.WordBlock.{WordBlock}
use Rattle.row_stack.proofs.Word.{run_lent, length-run}
use Rattle.row_stack.proofs.Fields.{Fields, fields, shows_start}
use Rattle.row_stack.specs.contracts.block.WordBlock.words as f
use Rattle.row_stack.proofs.block.WordBlock.words.Statement.{statement}
use Rattle.row_stack.proofs.block.WordBlock.words.Code as code
use Rattle.row_stack.specs.contracts.block.WordBlock as C

abbrev stayed : Stays f.ended.signature.params f.ended.kept
stayed = (stay_dropped (RefOf (0 ∷ []) tt (plain (λ _. C.the_row)) (λ _. tt)) yes, (stay_dropped _ yes, (stay_dropped _ yes, tt)))

pub words_spec : {M : Type 1} → statement M
words_spec 𝓤 𝓛 𝓜 𝓡 wired =
    let c = f.clauses 𝓛 𝓜.mem 𝓡.returns in let W = walk_of 𝓛 f.ended stayed c in let 𝓣 = tables 𝓤 𝓛.H 𝓜 𝓡 𝓡.env in
    let number = Goes-dropped 𝓛 1 (plain (λ _. usize)) yes (λ κs x w. refl) in
    proved 𝓛 f.ended stayed c 𝓜 𝓡
    (Goes-dropped 𝓛 1 (RefOf (0 ∷ []) tt (plain (λ _. C.the_row)) (λ _. tt)) yes (λ κs x w. refl), (number, (number, tt)))
    f.Key.name code.function (code.unfolded 𝓤 𝓛.H 𝓜 𝓡 wired)
    (λ κs. (shr_vals, (uint_vals w64, (uint_vals w64, tt)))) (λ κs. (shr_Tells (named 0) κs.0 C.the_row, (uint_Tells w64, (uint_Tells w64, tt)))) (λ κs qs bounds a _ are.
    let κ = κs.0 in let b = a.0.ref_ptr.0 in let o = a.0.ref_ptr.1 in let h : WordBlock = a.0.now in let from : ℕ = a.1.0 in let count : ℕ = a.1.1.0 in
    let n : ℕ = length h.words in let run : List ℤ = take count (drop_l from h.words) in
    let at : ℕ × ℕ = (block_of h.start, from * 8 + count_of h.start) in
    let y : W.Ghost = ((κs, qs, bounds, a, (shr_vals a.0, (uint_vals w64 from, (uint_vals w64 count, tt)))), tt) in
    qed 𝓛 (((‵ (flft κ qs.0) ⊛ ‵ ftrue) ⊛ ‵ ((ShrRef (named 0) κ C.the_row).own_val a.0 (shr_vals a.0)) ⊛ ‵ (usize.own_val from (uint_vals w64 from)) ⊛ ‵ (usize.own_val count (uint_vals w64 count)) ⊛ ‵ ftrue) ∷ raw (fact 𝓤 (from + count ≤ n)) ∷ []) ∵
    move ! (1 ∷ []) $ heard ! (from + count ≤ n) (λ within.
    let long : length run ≡ count = length-run from count h.words within in
    let small : n * 8 < 2 ^ 63 = omega (arith, h.fits.0, h.fits.1) in
    let far : from * 8 < 2 ^ 64 = omega arith in
    split ! $ split ! $ move ! (2 ∷ []) $ split ! $ keep ! (0 ∷ 2 ∷ []) $
    enter ! _ _ _ _ _ $ alloc_all ! (λ l. pass_all ! refl ((tt, tt), ((tt, record { fits = are.1.0.1 }), ((tt, record { fits = are.1.1.0.1 }), tt))) $
    fsplit ! $ drop ! $
    use1 𝓛 (‵ (hidden_shr Fields κ (fields h) b o) ⊛ ‵ (fhide (block_lends h.start h.words κ))) (lent_out 𝓛 C.struct (C.the_codes heap.the_row.coded) C.the_heap C.the_lent κ h b o) $ split ! $
    move ! (1 ∷ []) $ unhide ! $ fsplit ! $ use1 𝓛 (raw (fact 𝓤 (InBlock h.start))) (in_block_says 𝓛 h.start) $ heard ! (InBlock h.start) (λ inside. fsplit ! $ drop ! $
    use1 𝓛 (‵ (elements_shared i64 run at.0 at.1 κ)) (run_lent 𝓛 κ at.0 (count_of h.start) h.words from count) $ hide ! $ move ! (1 ∷ 2 ∷ []) $
    first ! $ blocks ! $
    pointer_in ! tt h.start inside b (o + 0) (shows_start 𝓛 κ b o h) (λ q.
    sets ! (of_opd ! (load ! (through ! refl (fld ! refl (stop !))) (look ! 1 refl))) refl (tt, tt) $ pointer_out ! tt h.start inside b (o + 0) $
    sets ! (bin ! (get ! refl) (lit ! tt) (record { fits = far })) refl (tt, record { fits = far }) $
    sets ! (bin ! (get ! refl) (get ! refl) tt) refl (tt, tt) $
    sets_last ! (agg ! (and_then ! (get ! refl) (and_then ! (get ! refl) (no_more !)))) refl (tt, (tt, (record { fits = are.1.1.0.1 }, tt))) $
    exec ! 𝓣.C 𝓣.Λ (env code.Mir.locals l) (after 1 (code.function).body) (at_ret _ (W.post y)) $
    sets ! (of_opd ! (get ! refl)) refl (tt, (tt, (record { fits = are.1.1.0.1 }, tt))) $
    returns ! (look_at ! 0 refl) $ free_all ! refl $
    -- [the token; what the fields show; the run]
    let bytes : length run * 8 < 2 ^ 63 = omega arith in
    let short : length run < 2 ^ 64 = omega arith in
    suffices ! _ (ends_at 𝓛 f.ended stayed c y (slice_val at count) (record { ref_ptr = at; now = run }) (tt, (tt, (tt, tt))) (tt, (tt, (tt, tt)))) $ says ! refl $
    keep ! (2 ∷ 0 ∷ []) $ flt_i ! (length run * 8) (2 ^ 63) bytes $ flt_i ! (length run) (2 ^ 64) short $ fjoin ! $
    feq_i ! (List Val) (slice_val at count ∷ []) (slice_val at (length run) ∷ []) (ap (λ (j : ℕ). slice_val at j ∷ []) (sym long)) $ fjoin ! $ fjoin ! $
    nothing ! $ move ! (2 ∷ 0 ∷ []) $ join ! $ frame ! $ nothing ! $ nothing ! $ join ! $ nothing ! $ join ! $ nothing ! $ join ! $ done !)))))
