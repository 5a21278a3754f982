-- `take` asks the heap for a block, and is its owner. Assumes `Logic`.
use Rattle.std.proofs.Common.{◌≡◌, ℕ, ◌+◌, ◌-◌, ◌*◌, ◌^◌, ◌<◌, true, false, [], ◌∷◌, refl, ap, ◌∙◌, arith, lit<, w64}
use Rattle.std.proofs.raw_atomic.Walks.{proved}
use Rattle.std.specs.Prelude.{Ok, Err}
use base.Fraction.{full_share}
use base.Fml.{Lft, ftrue, froom, flft}
use lib.Dec.{T}
use mir.Raw.{raw as bare}
use mir.Syntax.{Ty, Body, ty_int, ty_array}
use mir.Val.{Val, vstruct, vnil, vcons, has_ty, WT}
use prog.Capped.{capped_is}
use prog.Memory.{capped}
use prog.RawLaws.{size-raw, align-raw}
use prog.Wp.{Wp, after_seq, at_return}
use contract.Monad.{fact}
use contract.Running.{tables}
use types.Kit.{Post as After, any_q, ‵, raw, ◌⊛◌, later, at_ret, ◌$◌, ◌∵◌, !, qed, done, move, keep, use0, use1, use2, split, join, fjoin, rewrite, await, suffices}
use types.Match.{live, vrt, in_variant}
use types.Part.{whole, agg}
use types.Run.{enter, of_opd, lit, bin, addr, from, no_more, and_then, stop, fld, first, exec, switches_on, returns}
use types.ByLocal.{alloc_all, pass_all, free_all, look_at, get, get_in, get_tag, sets, sets_last, lands_as, take_at, give_at, env}
use denote.Array.{Array}
use denote.Builtin.{i64, usize}
use denote.Exit.{yes}
use denote.Laws.{Is}
use denote.Memory.{part_at}
use denote.Param.{layout}
use denote.RattleType.{RattleType}
use denote.Plain.{uint_vals, uint_Tells}
use denote.RawPtr.{block_ptr}
use denote.Signature.{plain}
use denote.Steps.{heard, nothing, owned}
use denote.Struct.Struct.{Struct, Struct-Makes}
use denote.Struct.Declared as Declared
use denote.Triple.Call.{calls_at}
use denote.Triple.Table.{framed}
use denote.Triple.Walked.{Stays, walk_of, stay_dropped, Goes-dropped, ends_at}
use Rattle.std.proofs.alloc.Calls.{Answer-typed, answers}
use Rattle.std.proofs.Handle.{heap_val, heap_Tells}
use Rattle.std.proofs.ResultValues.{ok_of, err_of}
use Rattle.std.proofs.VecSteps.Shapes.{after, head, arm_body}
use Rattle.std.proofs.VecSteps.Rows as rows
use Rattle.std.proofs.mem.Facts.{says_two}
use Rattle.std.proofs.impls.GlobalAllocator.allocate.Met.{met}
use Rattle.std.specs.contracts.alloc.AllocError as AE
use Rattle.std.specs.contracts.alloc.Global as heap
use Rattle.std.specs.contracts.result.Result as RS
use Rattle.row_stack.specs.declared.block.WordBlock.{WordBlock}
use Rattle.row_stack.proofs.Word.{words as E, heap_al}
use Rattle.row_stack.proofs.Fields.{Fields, fields, made, made_fits, fields_made}
use Rattle.row_stack.proofs.Heap.{lends_cell, cell_back, Takes, Got, at_takes, takes_goes, takes_gives}
use Rattle.row_stack.specs.contracts.block.WordBlock.take as f
use Rattle.row_stack.proofs.block.WordBlock.take.Statement.{statement}
use Rattle.row_stack.proofs.block.WordBlock.take.Code as code
use Rattle.row_stack.specs.contracts.block.WordBlock.{the_row as R}

abbrev stayed : Stays f.ended.signature.params f.ended.kept
stayed = (stay_dropped (plain (λ _. heap.the_row)) yes, (stay_dropped (plain (λ _. usize)) yes, tt))

abbrev Out : RattleType
Out = RS.the_row R AE.the_row

pub take_spec : {M : Type 1} → statement M
take_spec 𝓤 𝓛 𝓜 𝓡 wired =
    let c = f.clauses 𝓛 𝓜.mem 𝓡.returns in let W = walk_of 𝓛 f.ended stayed c in let 𝓣 = tables 𝓤 𝓛.H 𝓜 𝓡 𝓡.env in
    proved 𝓛 f.ended stayed c 𝓜 𝓡 (Goes-dropped 𝓛 0 (plain (λ _. heap.the_row)) yes (λ κs x w. refl), (Goes-dropped 𝓛 0 (plain (λ _. usize)) yes (λ κs x w. refl), tt))
    f.Key.name code.function (code.unfolded 𝓤 𝓛.H 𝓜 𝓡 wired)
    (λ κs. ((λ _. heap_val ∷ []), (uint_vals w64, tt))) (λ κs. (heap_Tells, (uint_Tells w64, tt))) (λ κs qs bounds a _ are.
    let alloc = a.0 in let k : ℕ = a.1.0 in let τ : Ty = bare (ty_array (ty_int w64) k) in
    let y : W.Ghost = ((κs, qs, bounds, a, (heap_val ∷ [], (uint_vals w64 k, tt))), tt) in
    qed 𝓛 ((‵ ftrue ⊛ ‵ ((heap.the_row).own_val alloc (heap_val ∷ [])) ⊛ ‵ (usize.own_val k (uint_vals w64 k)) ⊛ ‵ ftrue) ∷ raw (fact 𝓤 (k * 8 < 2 ^ 63)) ∷ []) ∵
    move ! (1 ∷ []) $ heard ! (k * 8 < 2 ^ 63) (λ small. keep ! [] $
    let size : k * 8 < 2 ^ 64 = omega arith in
    let count : k < 2 ^ 64 = omega arith in
    enter ! _ _ _ _ _ $ alloc_all ! (λ l. pass_all ! refl ((tt, ((tt, tt), tt)), ((tt, record { fits = count }), tt)) $
    let En = env code.Mir.locals l in
    let both : Body = head (after 4 (code.function).body) in
    let Then : After 𝓤 𝓛.H = any_q (after_seq 𝓤 𝓛.H (Wp 𝓤 𝓛.H 𝓣.C 𝓣.Λ En (after 5 (code.function).body) (at_return 𝓤 𝓛.H En (W.post y))) (at_return 𝓤 𝓛.H En (W.post y))) in
    sets ! (of_opd ! (get ! refl)) refl (tt, ((tt, tt), tt)) $
    sets ! (addr ! (from ! (stop !))) refl (tt, tt) $
    sets ! (bin ! (get ! refl) (lit ! tt) (record { fits = size })) refl (tt, record { fits = size }) $
    take_at ! 3 $ lends_cell ! tt (l 3) alloc (λ lent.
    let κ : Lft = lent.0 ∷ [] in let G = Takes 𝓛 𝓜.mem 𝓡.returns in
    let z : G.Ghost = at_takes 𝓛 𝓜.mem 𝓡.returns κ lent.1 (l 3, 0) alloc (k * 8) 8 τ in
    use2 𝓛 (raw (G.pre z)) (takes_goes 𝓛 𝓜.mem 𝓡.returns κ lent.1 (l 3, 0) alloc (k * 8) 8 τ (ap capped (size-raw (ty_array (ty_int w64) k)) ∙ capped_is (k * 8) size) (ap capped (align-raw (ty_array (ty_int w64) k))) size (lit< tt)) $
    calls_at ! (framed 𝓤 𝓛.H 𝓜 𝓣) G (met 𝓤 𝓛 𝓜 𝓡 (code.calls-std_heap::GlobalAllocator::allocate 𝓡.env wired)) z
    (and_then ! (get ! refl) (and_then ! (get ! refl) (and_then ! (lit ! tt) (no_more !)))) (λ v.
    use1 𝓛 (later (raw (Got 𝓛 𝓜.mem 𝓡.returns alloc τ v) ⊛ ‵ (flft κ lent.1))) (takes_gives 𝓛 𝓜.mem 𝓡.returns κ lent.1 (l 3, 0) alloc (k * 8) 8 τ v) $ await ! tt $ split ! $
    move ! (1 ∷ 2 ∷ []) $ cell_back ! tt (l 3) alloc lent $ give_at ! 3 $
    answers heap_al ! 𝓜.mem 𝓡.returns alloc τ v
    (λ b o e.
    let d : WordBlock = record { start = block_ptr b o; capacity = k; alloc = alloc; words = []; fits = (omega arith, small) } in
    let v' : Val = live 0 (vcons (made b o k) vnil) in
    let good = made_fits b o k count in
    let ok : T (has_ty (layout Out) v') × WT v' = (tt, (record { fits = lit< tt }, (good.1, tt))) in
    lands_as ! e refl (Answer-typed true b o) $ first ! $ switches_on ! (get_tag ! (vrt ! refl (fld ! refl (stop !))) (whole !)) $ exec ! 𝓣.C 𝓣.Λ En (arm_body 0 both) Then $
    sets ! (of_opd ! (get_in ! (vrt ! refl (fld ! refl (stop !))) (in_variant ! 0 0 refl refl (whole !)))) refl (tt, tt) $
    sets ! (of_opd ! (get ! refl)) refl (tt, tt) $
    sets ! (of_opd ! (get ! refl)) refl (tt, ((tt, tt), tt)) $
    sets ! (agg ! (and_then ! (get ! refl) (and_then ! (get ! refl) (and_then ! (get ! refl) (no_more !))))) refl good $
    sets_last ! (agg ! (and_then ! (lit ! tt) (and_then ! (get ! refl) (no_more !)))) refl ok $
    exec ! 𝓣.C 𝓣.Λ En (after 5 (code.function).body) (at_ret En (W.post y)) $ sets ! (of_opd ! (get ! refl)) refl ok $
    returns ! (look_at ! 0 refl) $ free_all ! refl $ keep ! (0 ∷ 1 ∷ []) $
    let here : o ≡ o + 0 = omega arith in let all : k ≡ k - 0 = omega arith in
    rewrite ! 0 (λ (j : ℕ). ‵ (froom (ty_array (ty_int w64) k) b j)) here refl $ rewrite ! 0 (λ (j : ℕ). ‵ (froom (ty_array (ty_int w64) j) b (o + 0))) all refl $ fjoin ! $
    use0 𝓛 (‵ (part_at (Array i64 0) full_share [] b o)) (rows.empty E 𝓛 [] b o refl) $ fjoin ! $
    use0 𝓛 (‵ (Fields.own_val (fields d) (made b o k ∷ []))) (fields_made 𝓛 d b o k refl refl count) $ fjoin ! $
    use1 𝓛 (‵ (Out.own_val (Ok d) (v' ∷ []))) (ok_of 𝓛 R AE.the_row d (made b o k)) $
    suffices ! _ (ends_at 𝓛 f.ended stayed c y v' (Ok d) (tt, (tt, tt)) (tt, (tt, tt))) $ says_two ! (refl, refl) $
    nothing ! $ nothing ! $ join ! $ nothing ! $ join ! $ nothing ! $ done !)
    (λ e.
    let v' : Val = live 1 (vcons (vstruct vnil) vnil) in let Refusal = Struct (Declared.shape AE.the_type) in
    lands_as ! e refl (Answer-typed false 0 0) $ first ! $ switches_on ! (get_tag ! (vrt ! refl (fld ! refl (stop !))) (whole !)) $ exec ! 𝓣.C 𝓣.Λ En (arm_body 1 both) Then $
    sets ! (of_opd ! (get_in ! (vrt ! refl (fld ! refl (stop !))) (in_variant ! 1 0 refl refl (whole !)))) refl (tt, tt) $
    sets_last ! (agg ! (and_then ! (lit ! tt) (and_then ! (get ! refl) (no_more !)))) refl (tt, (record { fits = lit< tt }, (tt, tt))) $
    exec ! 𝓣.C 𝓣.Λ En (after 5 (code.function).body) (at_ret En (W.post y)) $ sets ! (of_opd ! (get ! refl)) refl (tt, (record { fits = lit< tt }, (tt, tt))) $
    returns ! (look_at ! 0 refl) $ free_all ! refl $ keep ! [] $
    owned ! Refusal (Is Refusal) (Struct-Makes 𝓛 (Declared.shape AE.the_type) tt) tt (vstruct vnil ∷ []) (tt, (refl, tt)) $
    use1 𝓛 (‵ (Out.own_val (Err (record {})) (v' ∷ []))) (err_of 𝓛 R AE.the_row (record {}) (vstruct vnil)) $
    suffices ! _ (ends_at 𝓛 f.ended stayed c y v' (Err (record {})) (tt, (tt, tt)) (tt, (tt, tt))) $ says_two ! (tt, tt) $
    nothing ! $ nothing ! $ join ! $ nothing ! $ join ! $ nothing ! $ done !))))))
