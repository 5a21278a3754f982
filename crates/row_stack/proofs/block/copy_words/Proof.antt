-- `copy_words` reads each word and writes it, from the first on: those that a multiple of four leaves over one by one, and
-- the others by fours. Assumes `Logic`.
use Rattle.std.proofs.Common.{◌≡◌, ℕ, ◌+◌, ◌-◌, ◌*◌, ◌/◌, ◌%◌, ◌^◌, ◌<◌, ◌≤◌, List, [], ◌∷◌, ◌++◌, length, take, get_or, refl, sym, subst, ◌∙◌, arith, lit<, w64, of_z}
use Rattle.std.specs.Prelude.{ℤ, pos}
use mathlib.Core.WellFounded.InvImage
use seplogic.Ra.Ura.{Ura}
use lib.Dec.{T, ltb→lt, nltb→le}
use lib.WfN.{lt-wf_rel}
use base.Fraction.{full_share}
use base.Logic.{SProp, ent, sep, never_e}
use base.Fml.{Share, Fml, ftrue, ffalse, fsep, froom}
use mir.Syntax.{ty_int, ty_array}
use mir.Val.{Val, vunit, vint, vptr, has_ty, WT}
use prog.Memory.{Memory}
use prog.Routine.{Routine}
use prog.Wp.{Env, Out, Wp, WpFn, Tables, at_return, after_seq, after_block, after_turn}
use types.Logic.{Logic, sem}
use contract.Monad.{Fun, fact}
use contract.Running.{tables, tables_of}
use sound.WpLaws.{WpFn-mono}
use types.Kit.{Item, Sq, any_q, runs, ‵, raw, ◌⊛◌, given, at_ret, ◌$◌, ◌∵◌, !, qed, by, move, keep, use0, use1, use2, join, split, learn, rewrite, fsplit, fjoin, feq_i, suffices, group, done}
use types.Run.{stop, look, load, lit, bin, unit_lit, of_opd, init, assigns, assigns_last, first, blocks, skips, jumps, branches, exec, returns, enter, loops, again, Below}
use types.ByLocal.{alloc_all, pass_all, free_all, look_at, get, through, sets, sets_last, env, holding, forget_but}
use denote.Array.{Array}
use denote.Builtin.{i64, usize}
use denote.Exit.{yes}
use denote.Index.{row, place_is, elem_out, elem_back}
use denote.Laws.{Is, shows}
use denote.Memory.{cell_at, part_at}
use denote.Plain.{uint_vals, uint_Tells}
use denote.RattleType.{owns}
use denote.RawPtr.{Ptr, RawPtr, block_ptr, null_ptr, ptr_val, room_at, lies_at, rawptr_vals, rawptr_Tells}
use denote.Signature.{plain}
use denote.Signed.{sint_vals, sint_Tells, sint_Lawful, sint_in}
use denote.Steps.{heard, nothing}
use denote.Triple.Clauses.{Clauses}
use denote.Triple.Spec.{triple_of}
use denote.Triple.Table.{entered}
use denote.Triple.Walked.{Stays, stay_dropped, walk_of, ends_at, walked, Goes-dropped, walk_Meets}
use Rattle.std.proofs.ptr.Rows.{one_more, take_snoc, take_all}
use Rattle.std.proofs.VecSteps.Shapes.{after}
use Rattle.std.proofs.VecSteps.Rows as rows
use Rattle.row_stack.specs.Memory.{words_and_room}
use Rattle.row_stack.proofs.Word.{words as E}
use Rattle.row_stack.specs.contracts.block.copy_words as f
use Rattle.row_stack.specs.contracts.block.copy_words.Key.{name as #self}
use Rattle.row_stack.proofs.block.copy_words.Statement.{statement}
use Rattle.row_stack.proofs.block.copy_words.Code as code

abbrev stayed : Stays f.ended.signature.params f.ended.kept
stayed = (stay_dropped (plain (λ _. RawPtr)) yes, (stay_dropped (plain (λ _. RawPtr)) yes, (stay_dropped (plain (λ _. usize)) yes, tt)))

module _ {M : Type 1} {𝓤 : Ura M} (𝓛 : Logic 𝓤) (at_mem : Memory → SProp 𝓤) (run : Routine → Fun 𝓤) (𝓣 : Tables 𝓤 𝓛.H) where
  open 𝓛 use {H}

  abbrev held : Clauses 𝓤 f.ended
  held = f.clauses 𝓛 at_mem run

  abbrev bound : Ptr → Ptr → ℕ → Share × List ℤ → (walk_of 𝓛 f.ended stayed held).Ghost
  bound src dst n g = ((tt, tt, tt, (src, (dst, (n, tt))), (ptr_val src ∷ [], (ptr_val dst ∷ [], (vint w64 n ∷ [], tt)))), g)

  abbrev Goes : Ptr → Ptr → ℕ → Share × List ℤ → SProp 𝓤
  Goes src dst n g = WpFn 𝓤 H 𝓣.C 𝓣.Λ code.function (ptr_val src ∷ ptr_val dst ∷ vint w64 n ∷ []) ((walk_of 𝓛 f.ended stayed held).post (bound src dst n g))

  module _ (bs os bd od n : ℕ) (p : Share) (xs : List ℤ) (few : n * 8 < 2 ^ 63) (long : n ≡ length xs) where
    abbrev Post : Val → SProp 𝓤
    Post = (walk_of 𝓛 f.ended stayed held).post (bound (block_ptr bs os) (block_ptr bd od) n (p, xs))

    -- word j; the place for it; the room for those from j on; the first j, copied
    abbrev word : ℕ → ℤ
    word j = get_or xs j (pos 0)

    abbrev place_for : ℕ → Fml
    place_for j = froom (ty_int w64) bd (j * 8 + od)

    abbrev left : ℕ → Fml
    left j = froom (ty_array (ty_int w64) (n - j)) bd (od + j * 8)

    abbrev copied : ℕ → Fml
    copied j = part_at (Array i64 j) full_share (take j xs) bd od

    makes_place : (j next : ℕ) → next ≡ j + 1 → j < n → ent 𝓤 (sem 𝓛 (left j)) (sep 𝓤 (sem 𝓛 (place_for j)) (sem 𝓛 (left next)))
    makes_place j next e h = subst (λ (k : ℕ). ent 𝓤 (sem 𝓛 (left j)) (sep 𝓤 (sem 𝓛 (place_for j)) (sem 𝓛 (left k)))) (sym e) (rows.spare E 𝓛 bd od j n h)

    adds : (j next : ℕ) → next ≡ j + 1 → j < length xs → ent 𝓤 (sep 𝓤 (sem 𝓛 (copied j)) (sem 𝓛 (part_at i64 full_share (word j) bd (j * 8 + od)))) (sem 𝓛 (copied next))
    adds j next e inside =
        let with_it : take next xs ≡ take j xs ++ word j ∷ [] = subst (λ (k : ℕ). take k xs ≡ take j xs ++ word j ∷ []) (sym (e ∙ one_more j)) (take_snoc xs j (pos 0) inside) in
        let From : SProp 𝓤 = sep 𝓤 (sem 𝓛 (copied j)) (sem 𝓛 (part_at i64 full_share (word j) bd (j * 8 + od))) in
        subst (λ (k : ℕ). ent 𝓤 From (sem 𝓛 (part_at (Array i64 k) full_share (take next xs) bd od))) (sym e)
        (subst (λ (ws : List ℤ). ent 𝓤 From (sem 𝓛 (part_at (Array i64 (j + 1)) full_share ws bd od))) (sym with_it) (rows.snoc E 𝓛 bd od j (take j xs) (word j)))

    good : (j : ℕ) → Is i64 (word j) (sint_vals w64 (word j)) → T (has_ty (ty_int w64) (vint w64 (of_z w64 (word j)))) × WT (vint w64 (of_z w64 (word j)))
    good j fits = ((sint_Lawful 𝓛 w64).typed (word j) (sint_vals w64 (word j)) fits).0

    -- how many are copied of those that a multiple of four leaves over
    abbrev One : Type 0
    One = (i : ℕ) × (i ≤ n % 4)

    abbrev OneNearer : One → One → Type 0
    OneNearer t u = n - t.0 < n - u.0

    -- how many are copied, and how many fours are left
    abbrev Four : Type 0
    Four = (i : ℕ) × ((k : ℕ) × (i + 4 * k ≡ n))

    abbrev FourNearer : Four → Four → Type 0
    FourNearer t u = t.1.0 < u.1.0

    exits : ent 𝓤 (sep 𝓤 (sem 𝓛 (row i64 p xs bs os)) (sem 𝓛 (part_at (Array i64 n) full_share xs bd od))) (Post vunit)
    exits =
        qed 𝓛 (‵ (row i64 p xs bs os) ∷ ‵ (part_at (Array i64 n) full_share xs bd od) ∷ []) ∵
        use1 𝓛 (‵ (part_at (Array i64 (length xs)) p xs bs os)) (rows.whole E 𝓛 p (length xs) xs bs os refl) $
        rewrite ! 1 (λ (k : ℕ). ‵ (part_at (Array i64 k) full_share xs bd od)) long refl $ fjoin ! $
        suffices ! _ (ends_at 𝓛 f.ended stayed held (bound (block_ptr bs os) (block_ptr bd od) n (p, xs)) vunit tt (tt, (tt, (tt, tt))) (tt, (tt, (tt, tt)))) $
        feq_i ! (List Val) (vunit ∷ []) (vunit ∷ []) refl $ nothing ! $ nothing ! $ join ! $ nothing ! $ join ! $ nothing ! $ join ! $ nothing ! $ group ! 3 $ done !

    module _ (l : ℕ → ℕ) where
      abbrev En : Env 𝓤 H
      En = env (code.function).locals l

      -- the words that are read; the room that is left; the words that are written
      abbrev Memory_at : ℕ → List (Item 𝓤)
      Memory_at i = ‵ (row i64 p xs bs os) ∷ ‵ (left i) ∷ ‵ (copied i) ∷ []

      abbrev FourNow : Four → List (Item 𝓤)
      FourNow t = Memory_at t.0 ++ holding 𝓛 En ((1, vptr bs os) ∷ (2, vptr bd od) ∷ (3, vint w64 n) ∷ (5, vint w64 t.0) ∷ [])

      abbrev FourTurned : Four → Out → SProp 𝓤
      FourTurned t = after_turn 𝓤 H (Below 𝓛 FourNearer FourNow t) (after_block 𝓤 H (after_seq 𝓤 H (Wp 𝓤 H 𝓣.C 𝓣.Λ En code.Mir.t-5 (at_return 𝓤 H En Post)) (at_return 𝓤 H En Post)))

      copies_four : (t : Four) → Sq 𝓛 (FourNow t) (runs 𝓣.C 𝓣.Λ En code.Mir.turn-2 (any_q (FourTurned t)))
      unfolding after_turn
      copies_four t =
          let i : ℕ = t.0 in let k : ℕ = t.1.0 in let e : i + 4 * k ≡ n = t.1.1 in
          sets ! (bin ! (get ! refl) (get ! refl) tt) refl (tt, tt) $ first ! $ branches ! (get ! refl)
          (λ less. let h0 : i < n = ltb→lt i n less in let h3 : i + 3 < n = omega arith in let h2 : i + 2 < n = omega arith in let h1 : i + 1 < n = omega arith in
          let in0 : i < length xs = omega arith in let in1 : i + 1 < length xs = omega arith in let in2 : i + 2 < length xs = omega arith in let in3 : i + 3 < length xs = omega arith in
          let far0 : i * 8 < 2 ^ 64 = omega arith in let far1 : (i + 1) * 8 < 2 ^ 64 = omega arith in let far2 : (i + 2) * 8 < 2 ^ 64 = omega arith in let far3 : (i + 3) * 8 < 2 ^ 64 = omega arith in
          let at1 : i + 1 < 2 ^ 64 = omega arith in let at2 : i + 2 < 2 ^ 64 = omega arith in let at3 : i + 3 < 2 ^ 64 = omega arith in let at4 : i + 4 < 2 ^ 64 = omega arith in
          let e2 : i + 2 ≡ i + 1 + 1 = omega arith in let e3 : i + 3 ≡ i + 2 + 1 = omega arith in let e4 : i + 4 ≡ i + 3 + 1 = omega arith in
          let Read : ℕ → ℕ → Item 𝓤 = λ (j at : ℕ). ‵ (cell_at p (ty_int w64 ∷ []) (sint_vals w64 (word j)) bs at) in
          skips ! $ exec ! 𝓣.C 𝓣.Λ En (after 2 code.Mir.turn-2) (any_q (FourTurned t)) $ first ! $ blocks ! $
          sets ! (bin ! (get ! refl) (lit ! tt) (record { fits = far0 })) refl (tt, record { fits = far0 }) $ sets ! (bin ! (get ! refl) (get ! refl) tt) refl (tt, tt) $
          elem_out ! i64 (Is i64) (shows 𝓛 i64) (sint_vals w64) (sint_Tells w64) p xs i (pos 0) bs os in0 (λ fits0.
          rewrite ! 0 (Read i) (place_is 8 os i) refl $
          sets ! (of_opd ! (load ! (through ! refl (stop !)) (look ! 0 refl))) refl (good i fits0) $
          rewrite ! 0 (Read i) (sym (place_is 8 os i)) refl $ elem_back ! i64 p xs i (pos 0) (sint_vals w64 (word i)) bs os in0 $
          sets ! (bin ! (get ! refl) (lit ! tt) (record { fits = at1 })) refl (tt, record { fits = at1 }) $
          sets ! (bin ! (get ! refl) (lit ! tt) (record { fits = far1 })) refl (tt, record { fits = far1 }) $ sets ! (bin ! (get ! refl) (get ! refl) tt) refl (tt, tt) $
          elem_out ! i64 (Is i64) (shows 𝓛 i64) (sint_vals w64) (sint_Tells w64) p xs (i + 1) (pos 0) bs os in1 (λ fits1.
          rewrite ! 0 (Read (i + 1)) (place_is 8 os (i + 1)) refl $
          sets ! (of_opd ! (load ! (through ! refl (stop !)) (look ! 0 refl))) refl (good (i + 1) fits1) $
          rewrite ! 0 (Read (i + 1)) (sym (place_is 8 os (i + 1))) refl $ elem_back ! i64 p xs (i + 1) (pos 0) (sint_vals w64 (word (i + 1))) bs os in1 $
          sets ! (bin ! (get ! refl) (lit ! tt) (record { fits = at2 })) refl (tt, record { fits = at2 }) $
          sets ! (bin ! (get ! refl) (lit ! tt) (record { fits = far2 })) refl (tt, record { fits = far2 }) $ sets ! (bin ! (get ! refl) (get ! refl) tt) refl (tt, tt) $
          elem_out ! i64 (Is i64) (shows 𝓛 i64) (sint_vals w64) (sint_Tells w64) p xs (i + 2) (pos 0) bs os in2 (λ fits2.
          rewrite ! 0 (Read (i + 2)) (place_is 8 os (i + 2)) refl $
          sets ! (of_opd ! (load ! (through ! refl (stop !)) (look ! 0 refl))) refl (good (i + 2) fits2) $
          rewrite ! 0 (Read (i + 2)) (sym (place_is 8 os (i + 2))) refl $ elem_back ! i64 p xs (i + 2) (pos 0) (sint_vals w64 (word (i + 2))) bs os in2 $
          sets ! (bin ! (get ! refl) (lit ! tt) (record { fits = at3 })) refl (tt, record { fits = at3 }) $
          sets ! (bin ! (get ! refl) (lit ! tt) (record { fits = far3 })) refl (tt, record { fits = far3 }) $ sets ! (bin ! (get ! refl) (get ! refl) tt) refl (tt, tt) $
          elem_out ! i64 (Is i64) (shows 𝓛 i64) (sint_vals w64) (sint_Tells w64) p xs (i + 3) (pos 0) bs os in3 (λ fits3.
          rewrite ! 0 (Read (i + 3)) (place_is 8 os (i + 3)) refl $
          sets ! (of_opd ! (load ! (through ! refl (stop !)) (look ! 0 refl))) refl (good (i + 3) fits3) $
          rewrite ! 0 (Read (i + 3)) (sym (place_is 8 os (i + 3))) refl $ elem_back ! i64 p xs (i + 3) (pos 0) (sint_vals w64 (word (i + 3))) bs os in3 $
          -- [the room; the words that were written; the words that are read]
          move ! (1 ∷ 2 ∷ []) $
          sets ! (bin ! (get ! refl) (lit ! tt) (record { fits = far0 })) refl (tt, record { fits = far0 }) $ sets ! (bin ! (get ! refl) (get ! refl) tt) refl (tt, tt) $
          use1 𝓛 (‵ (place_for i) ⊛ ‵ (left (i + 1))) (makes_place i (i + 1) refl h0) $ split ! $
          assigns ! (of_opd ! (get ! refl)) (through ! refl (stop !)) (init ! 0 refl (good i fits0)) $
          use1 𝓛 (‵ (part_at i64 full_share (word i) bd (i * 8 + od))) (sint_in 𝓛 full_share w64 (word i) bd (i * 8 + od) fits0.1) $
          move ! (2 ∷ 0 ∷ []) $ use2 𝓛 (‵ (copied (i + 1))) (adds i (i + 1) refl in0) $ move ! (1 ∷ 0 ∷ []) $
          sets ! (bin ! (get ! refl) (lit ! tt) (record { fits = at1 })) refl (tt, record { fits = at1 }) $
          sets ! (bin ! (get ! refl) (lit ! tt) (record { fits = far1 })) refl (tt, record { fits = far1 }) $ sets ! (bin ! (get ! refl) (get ! refl) tt) refl (tt, tt) $
          use1 𝓛 (‵ (place_for (i + 1)) ⊛ ‵ (left (i + 2))) (makes_place (i + 1) (i + 2) e2 h1) $ split ! $
          assigns ! (of_opd ! (get ! refl)) (through ! refl (stop !)) (init ! 0 refl (good (i + 1) fits1)) $
          use1 𝓛 (‵ (part_at i64 full_share (word (i + 1)) bd ((i + 1) * 8 + od))) (sint_in 𝓛 full_share w64 (word (i + 1)) bd ((i + 1) * 8 + od) fits1.1) $
          move ! (2 ∷ 0 ∷ []) $ use2 𝓛 (‵ (copied (i + 2))) (adds (i + 1) (i + 2) e2 in1) $ move ! (1 ∷ 0 ∷ []) $
          sets ! (bin ! (get ! refl) (lit ! tt) (record { fits = at2 })) refl (tt, record { fits = at2 }) $
          sets ! (bin ! (get ! refl) (lit ! tt) (record { fits = far2 })) refl (tt, record { fits = far2 }) $ sets ! (bin ! (get ! refl) (get ! refl) tt) refl (tt, tt) $
          use1 𝓛 (‵ (place_for (i + 2)) ⊛ ‵ (left (i + 3))) (makes_place (i + 2) (i + 3) e3 h2) $ split ! $
          assigns ! (of_opd ! (get ! refl)) (through ! refl (stop !)) (init ! 0 refl (good (i + 2) fits2)) $
          use1 𝓛 (‵ (part_at i64 full_share (word (i + 2)) bd ((i + 2) * 8 + od))) (sint_in 𝓛 full_share w64 (word (i + 2)) bd ((i + 2) * 8 + od) fits2.1) $
          move ! (2 ∷ 0 ∷ []) $ use2 𝓛 (‵ (copied (i + 3))) (adds (i + 2) (i + 3) e3 in2) $ move ! (1 ∷ 0 ∷ []) $
          sets ! (bin ! (get ! refl) (lit ! tt) (record { fits = at3 })) refl (tt, record { fits = at3 }) $
          sets ! (bin ! (get ! refl) (lit ! tt) (record { fits = far3 })) refl (tt, record { fits = far3 }) $ sets ! (bin ! (get ! refl) (get ! refl) tt) refl (tt, tt) $
          use1 𝓛 (‵ (place_for (i + 3)) ⊛ ‵ (left (i + 4))) (makes_place (i + 3) (i + 4) e4 h3) $ split ! $
          assigns_last ! (of_opd ! (get ! refl)) (through ! refl (stop !)) (init ! 0 refl (good (i + 3) fits3)) $ exec ! 𝓣.C 𝓣.Λ En (after 3 code.Mir.turn-2) (any_q (FourTurned t)) $
          sets_last ! (bin ! (get ! refl) (lit ! tt) (record { fits = at4 })) refl (tt, record { fits = at4 }) $
          use1 𝓛 (‵ (part_at i64 full_share (word (i + 3)) bd ((i + 3) * 8 + od))) (sint_in 𝓛 full_share w64 (word (i + 3)) bd ((i + 3) * 8 + od) fits3.1) $
          move ! (2 ∷ 0 ∷ []) $ use2 𝓛 (‵ (copied (i + 4))) (adds (i + 3) (i + 4) e4 in3) $ move ! (2 ∷ 1 ∷ 0 ∷ []) $
          forget_but ! En (1 ∷ 2 ∷ 3 ∷ 5 ∷ []) refl $ again ! FourNearer FourNow t (i + 4, (k - 1, omega arith)) (omega arith))))))
          (λ over. let ge : n ≤ i = nltb→le i n over in let whole : i ≡ n = omega arith in let all : take n xs ≡ xs = subst (λ (k : ℕ). take k xs ≡ xs) (sym long) (take_all xs) in
          jumps ! $ exec ! 𝓣.C 𝓣.Λ En code.Mir.t-5 (at_ret En Post) $ move ! (0 ∷ 2 ∷ []) $
          rewrite ! 1 (λ (k : ℕ). ‵ (part_at (Array i64 k) full_share (take k xs) bd od)) whole refl $ rewrite ! 1 (λ (ws : List ℤ). ‵ (part_at (Array i64 n) full_share ws bd od)) all refl $
          sets ! (of_opd ! (unit_lit !)) refl (tt, tt) $ returns ! (look_at ! 0 refl) $ free_all ! refl $ keep ! (0 ∷ 1 ∷ []) $ by ! exits)

      abbrev OneNow : One → List (Item 𝓤)
      OneNow t = Memory_at t.0 ++ holding 𝓛 En ((1, vptr bs os) ∷ (2, vptr bd od) ∷ (3, vint w64 n) ∷ (4, vint w64 (n % 4)) ∷ (5, vint w64 t.0) ∷ [])

      abbrev OneTurned : One → Out → SProp 𝓤
      OneTurned t = after_turn 𝓤 H (Below 𝓛 OneNearer OneNow t) (after_block 𝓤 H (after_seq 𝓤 H (Wp 𝓤 H 𝓣.C 𝓣.Λ En code.Mir.t-4 (at_return 𝓤 H En Post)) (at_return 𝓤 H En Post)))

      copies_one : (t : One) → Sq 𝓛 (OneNow t) (runs 𝓣.C 𝓣.Λ En code.Mir.turn-1 (any_q (OneTurned t)))
      unfolding after_turn
      copies_one t =
          let i : ℕ = t.0 in let le : i ≤ n % 4 = t.1 in
          sets ! (bin ! (get ! refl) (get ! refl) tt) refl (tt, tt) $ first ! $ branches ! (get ! refl)
          (λ less. let some : i < n % 4 = ltb→lt i (n % 4) less in let h : i < n = omega arith in let far : i * 8 < 2 ^ 64 = omega arith in let next : i + 1 < 2 ^ 64 = omega arith in
          let inside : i < length xs = omega arith in let Read : ℕ → Item 𝓤 = λ (at : ℕ). ‵ (cell_at p (ty_int w64 ∷ []) (sint_vals w64 (word i)) bs at) in
          skips ! $ exec ! 𝓣.C 𝓣.Λ En (after 2 code.Mir.turn-1) (any_q (OneTurned t)) $ first ! $ blocks ! $
          sets ! (bin ! (get ! refl) (lit ! tt) (record { fits = far })) refl (tt, record { fits = far }) $ sets ! (bin ! (get ! refl) (get ! refl) tt) refl (tt, tt) $
          sets ! (bin ! (get ! refl) (lit ! tt) (record { fits = far })) refl (tt, record { fits = far }) $ sets ! (bin ! (get ! refl) (get ! refl) tt) refl (tt, tt) $
          elem_out ! i64 (Is i64) (shows 𝓛 i64) (sint_vals w64) (sint_Tells w64) p xs i (pos 0) bs os inside (λ fits.
          rewrite ! 0 Read (place_is 8 os i) refl $
          sets ! (of_opd ! (load ! (through ! refl (stop !)) (look ! 0 refl))) refl (good i fits) $
          rewrite ! 0 Read (sym (place_is 8 os i)) refl $ elem_back ! i64 p xs i (pos 0) (sint_vals w64 (word i)) bs os inside $
          -- [the room; the words that were written; the words that are read]
          move ! (1 ∷ 2 ∷ []) $ use1 𝓛 (‵ (place_for i) ⊛ ‵ (left (i + 1))) (makes_place i (i + 1) refl h) $ split ! $
          assigns_last ! (of_opd ! (get ! refl)) (through ! refl (stop !)) (init ! 0 refl (good i fits)) $ exec ! 𝓣.C 𝓣.Λ En (after 3 code.Mir.turn-1) (any_q (OneTurned t)) $
          sets_last ! (bin ! (get ! refl) (lit ! tt) (record { fits = next })) refl (tt, record { fits = next }) $
          use1 𝓛 (‵ (part_at i64 full_share (word i) bd (i * 8 + od))) (sint_in 𝓛 full_share w64 (word i) bd (i * 8 + od) fits.1) $
          move ! (2 ∷ 0 ∷ []) $ use2 𝓛 (‵ (copied (i + 1))) (adds i (i + 1) refl inside) $ move ! (2 ∷ 1 ∷ 0 ∷ []) $
          forget_but ! En (1 ∷ 2 ∷ 3 ∷ 4 ∷ 5 ∷ []) refl $ again ! OneNearer OneNow t (i + 1, omega arith) (omega arith)))
          (λ over. let ge : n % 4 ≤ i = nltb→le i (n % 4) over in let fours : i + 4 * (n / 4) ≡ n = omega arith in
          jumps ! $ exec ! 𝓣.C 𝓣.Λ En code.Mir.t-4 (at_ret En Post) $ forget_but ! En (1 ∷ 2 ∷ 3 ∷ 5 ∷ []) refl $
          first ! $ blocks ! $ loops ! 𝓣 FourNearer (InvImage.wf (λ (u : Four). u.1.0) lt-wf_rel.wf) FourNow copies_four (i, (n / 4, fours)))

    runs_by : ent 𝓤 (sem 𝓛 (words_and_room p xs (block_ptr bs os) (block_ptr bd od))) (Goes (block_ptr bs os) (block_ptr bd od) n (p, xs))
    runs_by =
        let count : n < 2 ^ 64 = omega arith in let here : od ≡ od + 0 = omega arith in let all : n ≡ n - 0 = omega arith in let left_over : n % 4 < 2 ^ 64 = omega arith in
        qed 𝓛 (‵ (fsep (part_at (Array i64 (length xs)) p xs bs os) (froom (ty_array (ty_int w64) (length xs)) bd od)) ∷ []) ∵ fsplit ! $
        use1 𝓛 (given (length xs ≡ length xs) (‵ (row i64 p xs bs os))) (rows.apart E 𝓛 p (length xs) xs bs os) $ learn ! (λ _.
        rewrite ! 1 (λ (k : ℕ). ‵ (froom (ty_array (ty_int w64) k) bd od)) (sym long) refl $ rewrite ! 1 (λ (k : ℕ). ‵ (froom (ty_array (ty_int w64) n) bd k)) here refl $
        rewrite ! 1 (λ (k : ℕ). ‵ (froom (ty_array (ty_int w64) k) bd (od + 0))) all refl $
        use0 𝓛 (‵ (part_at (Array i64 0) full_share [] bd od)) (rows.empty E 𝓛 [] bd od refl) $ move ! (1 ∷ 2 ∷ 0 ∷ []) $
        enter ! 𝓣.C 𝓣.Λ code.function (vptr bs os ∷ vptr bd od ∷ vint w64 n ∷ []) _ $ alloc_all ! (λ l. pass_all ! refl ((tt, tt), ((tt, tt), ((tt, record { fits = count }), tt))) $
        sets ! (bin ! (get ! refl) (lit ! tt) (lit< tt)) refl (tt, record { fits = left_over }) $
        sets ! (of_opd ! (lit ! tt)) refl (tt, record { fits = lit< tt }) $ forget_but ! (En l) (1 ∷ 2 ∷ 3 ∷ 4 ∷ 5 ∷ []) refl $
        first ! $ blocks ! $ loops ! 𝓣 OneNearer (InvImage.wf (λ (t : One). n - t.0) lt-wf_rel.wf) (OneNow l) (copies_one l) (0, omega arith)))

  each : (src dst : Ptr) (n : ℕ) (g : Share × List ℤ) → (n ≡ length g.1) × (n * 8 < 2 ^ 63) → ent 𝓤 (sem 𝓛 (words_and_room g.0 g.1 src dst)) (Goes src dst n g)
  each (block_ptr bs os) (block_ptr bd od) n g said = runs_by bs os bd od n g.0 g.1 said.1 said.0
  each (block_ptr bs os) null_ptr n g said = qed 𝓛 (‵ (fsep (lies_at (Array i64 (length g.1)) g.0 (block_ptr bs os) g.1) ffalse) ∷ []) ∵ fsplit ! $ keep ! (1 ∷ []) $ by ! (never_e 𝓤 _)
  each null_ptr dst n g said = qed 𝓛 (‵ (fsep ffalse (room_at (Array i64 (length g.1)) dst)) ∷ []) ∵ fsplit ! $ keep ! (0 ∷ []) $ by ! (never_e 𝓤 _)

  walk : (src dst : Ptr) (n : ℕ) (g : Share × List ℤ) → ent 𝓤 ((walk_of 𝓛 f.ended stayed held).pre (bound src dst n g)) (Goes src dst n g)
  walk src dst n g =
      let Said : Type 0 = (n ≡ length g.1) × (n * 8 < 2 ^ 63) in
      qed 𝓛 ((‵ ftrue ⊛ ‵ (owns (RawPtr ∷ RawPtr ∷ usize ∷ []) (src, (dst, (n, tt))) (bound src dst n g).0.4)) ∷ (raw (fact 𝓤 Said) ⊛ ‵ (words_and_room g.0 g.1 src dst)) ∷ []) ∵
      move ! (1 ∷ []) $ split ! $ heard ! Said (λ said. keep ! (0 ∷ []) $ by ! (each src dst n g said))

pub copy_words_spec : {M : Type 1} → statement M
unfolding tables_of
copy_words_spec 𝓤 𝓛 𝓜 𝓡 wired =
    let 𝓣 : Tables 𝓤 𝓛.H = tables_of 𝓤 𝓛.H 𝓜 (tables 𝓤 𝓛.H 𝓜 𝓡 𝓡.env) in
    let c = f.clauses 𝓛 𝓜.mem 𝓡.returns in
    let gone = λ (Y : _). Goes-dropped 𝓛 0 (plain (λ _. Y)) yes in
    entered 𝓤 𝓛.H (triple_of 𝓛 f.signature (f.spec 𝓛 𝓜.mem 𝓡.returns)) 𝓣.C 𝓣.Λ #self code.function (code.unfolded 𝓤 𝓛.H 𝓜 𝓡 wired)
    (walk_Meets 𝓛 f.ended stayed (gone RawPtr (λ κs x w. refl), (gone RawPtr (λ κs x w. refl), (gone usize (λ κs x w. refl), tt))) c (WpFn 𝓤 𝓛.H 𝓣.C 𝓣.Λ code.function) (WpFn-mono 𝓤 𝓛.H 𝓛.laws 𝓣 code.function)
    (walked 𝓛 f.ended stayed c (WpFn 𝓤 𝓛.H 𝓣.C 𝓣.Λ code.function) (λ κs. (rawptr_vals, (rawptr_vals, (uint_vals w64, tt)))) (λ κs. (rawptr_Tells, (rawptr_Tells, (uint_Tells w64, tt))))
    (λ κs qs bounds a g are. walk 𝓛 𝓜.mem 𝓡.returns 𝓣 a.0 a.1.0 a.1.1.0 g)))
