-- Calls of the heap through a handle that lies in a local. Assumes `Logic`.
--     lends_cell, cell_back      the local is lent for a new lifetime, and comes back
--     Takes, Gives, Grows        the contracts of `allocate`, `deallocate` and `grow`.  takes_goes, takes_gives, ..      what each is handed, and what a caller has of it
use Rattle.std.proofs.Common.{◌≡◌, ℕ, ◌-◌, ◌*◌, ◌^◌, ◌<◌, ◌≤◌, Bool, true, false, List, [], ◌∷◌, ◌++◌, refl, ap, ◌∙◌}
use seplogic.Ra.Ura.{Ura}
use base.Fraction.{full_share}
use base.Logic.{SProp, ent, emp, ex, sep, wand, guard, apply∗, id⊢, fst∗, never}
use base.Fml.{Lft, Share, Fml, ftrue, fsep, fat, flft, froom}
use mir.Syntax.{Ty, w64}
use mir.Val.{Val, vint, vptr, vunit, vstruct, vcons, vnil, of_list}
use prog.Memory.{Memory, size, align, capped}
use prog.Routine.{Routine}
use contract.Monad.{Fun, fact, fact_i}
use types.Logic.{Logic, sem}
use types.Kit.{Goal, Soaks, Seq, Step, step, Item, ‵, raw, ◌⊛◌, some, later, ◌$◌, ◌∵◌, !, qed, done, move, keep, drop, use0, use1, use2, split, split3, join, fsplit, fjoin, fpick, pick, feq_l, feq_i, flt_i, rewrite, check, show, await, updating, now as at_once}
use borrow.Table.OneValue.{part_in, part_out}
use denote.Builtin.{i64, unit}
use denote.Laws.{Is, shows}
use denote.Memory.{part_at, hidden_shr}
use denote.Param.{layout, param}
use denote.RawPtr.{Ptr, block_ptr, null_ptr, ptr_val, room_for, in_a_block}
use types.Match.{live}
use denote.Steps.{nothing, owned, facts, only}
use denote.Struct.Laws as struct_laws
use denote.Triple.Spec.{triple_of}
use denote.Triple.Statement.{Contract}
use Rattle.std.proofs.Handle.{heap_val, heap_Tells}
use Rattle.std.proofs.alloc.Calls.{Answer, Answered, answer_val, got, Lent, lends, seen}
use Rattle.std.proofs.alloc.Global.TheLaws as heap_laws
use contract.BorrowLft.{◌⊑◌, ⊑_refl}
use Rattle.std.proofs.alloc.Resizes.{Flagged, by_flag}
use Rattle.std.specs.Allocator.{array_of, block_if_ok, block_with_items, resized_if_ok}
use Rattle.std.specs.Global.{Global}
use Rattle.std.specs.Prelude.{ℤ, Ok, Err}
use Rattle.std.specs.contracts.alloc.Global as heap
use Rattle.std.specs.contracts.impls.GlobalAllocator.TheImpl.{ghosts}
use Rattle.std.specs.contracts.impls.GlobalAllocator.allocate as AL
use Rattle.std.specs.contracts.impls.GlobalAllocator.deallocate as DE
use Rattle.std.specs.contracts.impls.GlobalAllocator.grow as GR
use Rattle.row_stack.proofs.Word.{heap_al}

abbrev heap_ty : Ty
heap_ty = layout heap.the_row

module _ {M : Type 1} {𝓤 : Ura M} (𝓛 : Logic 𝓤) where
  open 𝓛 use {H, A}

  abbrev pub Way : ℕ → Global → ℕ × Share → Item 𝓤
  Way b a n = raw (wand 𝓤 (A.lft (n.0 ∷ []) n.1) (H.⇛ (sep 𝓤 (sem 𝓛 (part_at (param 0 heap.the_row) full_share a b 0)) (A.lft [] full_share))))

  pub heap_own : (a : Global) → ent 𝓤 (emp 𝓤) (sem 𝓛 ((heap.the_row).own_val a (heap_val ∷ [])))
  heap_own a = qed 𝓛 [] ∵ owned ! heap.the_row (Is heap.the_row) (struct_laws.makes heap.the_type heap_laws.the_plain 𝓛) a (heap_val ∷ []) ((vstruct (vcons vunit vnil) ∷ [], tt), (refl, (((vunit ∷ [], tt), (refl, (refl, tt))), tt))) $ done !

module _ {M : Type 1} {𝓤 : Ura M} {𝓛 : Logic 𝓤} {K : Type 0} {Γ : List (Item 𝓤)} {G : Goal 𝓤 𝓛.H} where
  open 𝓛 use {H, A}

  -- [the `&`; its lifetime's token; the way back]
  pub lends_cell : K → Soaks G → (b : ℕ) (a : Global)
      → ((n : ℕ × Share) → Seq K 𝓛 (‵ (hidden_shr heap.the_row (n.0 ∷ []) a b 0) ∷ ‵ (flft (n.0 ∷ []) n.1) ∷ Way 𝓛 b a n ∷ Γ) G) → Seq K 𝓛 (‵ (fat full_share heap_ty b 0 heap_val) ∷ Γ) G
  lends_cell t z b a k =
      use0 𝓛 (‵ ((heap.the_row).own_val a (heap_val ∷ []))) (heap_own 𝓛 a) $ move t (1 ∷ 0 ∷ []) $
      use2 𝓛 (‵ (part_at (param 0 heap.the_row) full_share a b 0)) (part_in 𝓛 (param 0 heap.the_row) refl full_share a b 0 heap_val) $
      use0 𝓛 (‵ (flft [] full_share)) (𝓛.lfts.lft-nil full_share) $ move t (1 ∷ 0 ∷ []) $
      use2 𝓛 (later (some (λ (n : ℕ × Share). raw (Lent heap_al 𝓛 [] full_share (b, 0) a n)))) (lends heap_al 𝓛 [] full_share (heap_laws.the_within []) (b, 0) a) $ await t z $ pick t (λ n.
      use1 𝓛 (‵ (seen heap_al (n.0 ∷ []) (b, 0) a) ⊛ ‵ (flft (n.0 ∷ []) n.1) ⊛ Way 𝓛 b a n) (id⊢ 𝓤 _) $ split3 t $ k n)

  pub cell_back : K → Soaks G → (b : ℕ) (a : Global) (n : ℕ × Share) → Step K 𝓛 (‵ (fat full_share heap_ty b 0 heap_val) ∷ Γ) G (‵ (flft (n.0 ∷ []) n.1) ∷ Way 𝓛 b a n ∷ Γ) G
  cell_back t z b a n = step (λ s.
      use2 𝓛 (later (‵ (part_at (param 0 heap.the_row) full_share a b 0) ⊛ ‵ (flft [] full_share)))
      (apply∗ 𝓤 (A.lft (n.0 ∷ []) n.1) (H.⇛ (sep 𝓤 (sem 𝓛 (part_at (param 0 heap.the_row) full_share a b 0)) (A.lft [] full_share)))) $ await t z $ split t $ move t (1 ∷ []) $ drop t $
      use1 𝓛 (some (λ (v : Val). ‵ (fat full_share heap_ty b 0 v) ⊛ ‵ ((heap.the_row).own_val a (v ∷ [])))) (part_out 𝓛 (param 0 heap.the_row) refl full_share a b 0) $ pick t (λ v. split t $ move t (1 ∷ []) $
      facts t heap.the_row (Is heap.the_row) (shows 𝓛 heap.the_row) a (v ∷ []) (λ is.
      rewrite t 0 (λ (w : Val). ‵ (fat full_share heap_ty b 0 w)) (ap only (heap_Tells a (v ∷ []) is)) refl $ s)))

module _ {M : Type 1} {𝓤 : Ura M} (𝓛 : Logic 𝓤) (at_mem : Memory → SProp 𝓤) (run : Routine → Fun 𝓤) where
  open 𝓛 use {H, A}

  abbrev pub Gives : Contract 𝓤
  Gives = triple_of 𝓛 DE.signature (DE.spec 𝓛 at_mem run)

  module _ (κ : Lft) (q : Share) (p : ℕ × ℕ) (a : Global) (b o s al : ℕ) (τ : Ty) where
    abbrev pub at_gives : Gives.Ghost
    at_gives = (((κ, tt), (q, tt), tt, (record { ref_ptr = p; now = a }, (block_ptr b o, (s, (al, tt)))), (vptr p.0 p.1 ∷ [], (vptr b o ∷ [], (vint w64 s ∷ [], (vint w64 al ∷ [], tt))))), τ)

    pub gives_goes : capped (size τ) ≡ s → capped (align τ) ≡ al → s < 2 ^ 64 → al < 2 ^ 64
        → ent 𝓤 (sep 𝓤 (H.room τ b o) (sep 𝓤 (sem 𝓛 (ghosts.dealloc_token a τ (block_ptr b o))) (sep 𝓤 (sem 𝓛 (hidden_shr heap.the_row κ a p.0 p.1)) (A.lft κ q)))) (Gives.pre at_gives)
    gives_goes es ea fs fa =
        qed 𝓛 (‵ (froom τ b o) ∷ ‵ (ghosts.dealloc_token a τ (block_ptr b o)) ∷ ‵ (hidden_shr heap.the_row κ a p.0 p.1) ∷ ‵ (flft κ q) ∷ []) ∵ fjoin ! $
        use0 𝓛 (raw (fact 𝓤 ((capped (size τ) ≡ s) × (capped (align τ) ≡ al)))) (fact_i 𝓤 ((capped (size τ) ≡ s) × (capped (align τ) ≡ al)) (emp 𝓤) (es, ea)) $ join ! $
        nothing ! $ flt_i ! al (2 ^ 64) fa $ feq_i ! (List Val) (vint w64 al ∷ []) (vint w64 al ∷ []) refl $ fjoin ! $ fjoin ! $
        flt_i ! s (2 ^ 64) fs $ feq_i ! (List Val) (vint w64 s ∷ []) (vint w64 s ∷ []) refl $ fjoin ! $ fjoin ! $
        feq_i ! (List Val) (vptr b o ∷ []) (vptr b o ∷ []) refl $ fjoin ! $ move ! (2 ∷ []) $ feq_i ! (List Val) (vptr p.0 p.1 ∷ []) (vptr p.0 p.1 ∷ []) refl $ fjoin ! $ move ! (0 ∷ 1 ∷ []) $ fjoin ! $
        nothing ! $ move ! (3 ∷ 0 ∷ []) $ join ! $ join ! $ done !

    pub gives_gives : (v : Val) → ent 𝓤 (Gives.post at_gives v) (H.⇛ (guard 𝓤 (v ≡ vunit) (A.lft κ q)))
    gives_gives v =
        qed 𝓛 (raw (Gives.post at_gives v) ∷ []) ∵ updating ! $
        use1 𝓛 (later (some (λ (r : Unit {0}). ((‵ (flft κ q) ⊛ ‵ ftrue) ⊛ ‵ (unit.own_val r (v ∷ []))) ⊛ some (λ (ws : Unit {0} × (Unit {0} × (Unit {0} × (Unit {0} × Unit {0})))). ‵ (fsep ftrue (fsep ftrue (fsep ftrue (fsep ftrue ftrue)))) ⊛ ‵ ftrue)))) (id⊢ 𝓤 _) $ await ! tt $ pick ! (λ r.
        split ! $ split ! $ move ! (1 ∷ []) $ feq_l ! (λ e. split ! $ at_once ! $ check ! (ap only e) $ keep ! (0 ∷ []) $ done !))

module _ {M : Type 1} {𝓤 : Ura M} (𝓛 : Logic 𝓤) (at_mem : Memory → SProp 𝓤) (run : Routine → Fun 𝓤) where
  open 𝓛 use {H, A}

  abbrev pub Takes : Contract 𝓤
  Takes = triple_of 𝓛 AL.signature (AL.spec 𝓛 at_mem run)

  abbrev pub Got : Global → Ty → Val → SProp 𝓤
  Got = Answered heap_al 𝓛 at_mem run

  module _ (κ : Lft) (q : Share) (p : ℕ × ℕ) (a : Global) (s al : ℕ) (τ : Ty) where
    abbrev pub at_takes : Takes.Ghost
    at_takes = (((κ, tt), (q, tt), tt, (record { ref_ptr = p; now = a }, (s, (al, tt))), (vptr p.0 p.1 ∷ [], (vint w64 s ∷ [], (vint w64 al ∷ [], tt)))), τ)

    pub takes_goes : capped (size τ) ≡ s → capped (align τ) ≡ al → s < 2 ^ 64 → al < 2 ^ 64 → ent 𝓤 (sep 𝓤 (sem 𝓛 (hidden_shr heap.the_row κ a p.0 p.1)) (A.lft κ q)) (Takes.pre at_takes)
    takes_goes es ea fs fa =
        qed 𝓛 (‵ (hidden_shr heap.the_row κ a p.0 p.1) ∷ ‵ (flft κ q) ∷ []) ∵
        use0 𝓛 (raw (fact 𝓤 ((capped (size τ) ≡ s) × (capped (align τ) ≡ al)))) (fact_i 𝓤 ((capped (size τ) ≡ s) × (capped (align τ) ≡ al)) (emp 𝓤) (es, ea)) $
        nothing ! $ flt_i ! al (2 ^ 64) fa $ feq_i ! (List Val) (vint w64 al ∷ []) (vint w64 al ∷ []) refl $ fjoin ! $ fjoin ! $
        flt_i ! s (2 ^ 64) fs $ feq_i ! (List Val) (vint w64 s ∷ []) (vint w64 s ∷ []) refl $ fjoin ! $ fjoin ! $
        move ! (2 ∷ []) $ feq_i ! (List Val) (vptr p.0 p.1 ∷ []) (vptr p.0 p.1 ∷ []) refl $ fjoin ! $ move ! (0 ∷ 1 ∷ []) $ fjoin ! $
        nothing ! $ move ! (3 ∷ 0 ∷ []) $ join ! $ join ! $ done !

    answered : (v : Val) (r : Answer.Denot) → ent 𝓤 (sep 𝓤 (sem 𝓛 (Answer.own_val r (v ∷ []))) (sem 𝓛 (block_if_ok (ghosts.dealloc_token a) τ r))) (Got a τ v)
    answered v (Ok r) =
        qed 𝓛 (‵ (Answer.own_val (Ok r) (v ∷ [])) ∷ ‵ (fsep (room_for τ r) (ghosts.dealloc_token a τ r)) ∷ []) ∵
        fpick ! (λ us. fsplit ! $ feq_l ! (λ e. fpick ! (λ vss. fsplit ! $ feq_l ! (λ e'. fsplit ! $ feq_l ! (λ e''. drop ! $
        in_a_block ! r (λ z. fsep (room_for τ z) (ghosts.dealloc_token a τ z)) (fst∗ 𝓤 (never 𝓤) (sem 𝓛 (ghosts.dealloc_token a τ null_ptr))) (λ b o at.
        show ! (λ (c : Bool × (ℕ × ℕ)). guard 𝓤 (v ≡ answer_val c.0 c.1.0 c.1.1) (sem 𝓛 (got (ghosts.dealloc_token a) τ c.0 c.1.0 c.1.1))) (true, (b, o)) $
        check ! (ap only e ∙ ap (λ (ws : List Val). live 0 (of_list ws)) (e' ∙ ap (λ (ws : List Val). ws ++ []) (e'' ∙ ap (λ (z : Ptr). ptr_val z ∷ []) at))) $ done !))))))
    answered v (Err n) =
        qed 𝓛 (‵ (Answer.own_val (Err n) (v ∷ [])) ∷ ‵ ftrue ∷ []) ∵
        fpick ! (λ us. fsplit ! $ feq_l ! (λ e. fpick ! (λ vss. fsplit ! $ feq_l ! (λ e'. fsplit ! $ fpick ! (λ none. fsplit ! $ feq_l ! (λ e''. keep ! [] $
        show ! (λ (c : Bool × (ℕ × ℕ)). guard 𝓤 (v ≡ answer_val c.0 c.1.0 c.1.1) (sem 𝓛 (got (ghosts.dealloc_token a) τ c.0 c.1.0 c.1.1))) (false, (0, 0)) $
        check ! (ap only e ∙ ap (λ (ws : List Val). live 1 (of_list ws)) (e' ∙ ap (λ (ws : List Val). ws ++ []) e'')) $ done !))))))

    pub takes_gives : (v : Val) → ent 𝓤 (Takes.post at_takes v) (H.⇛ (sep 𝓤 (Got a τ v) (A.lft κ q)))
    takes_gives v =
        qed 𝓛 (raw (Takes.post at_takes v) ∷ []) ∵ updating ! $
        use1 𝓛 (later (some (λ (r : Answer.Denot). ((‵ (flft κ q) ⊛ ‵ ftrue) ⊛ ‵ (Answer.own_val r (v ∷ []))) ⊛ some (λ (ws : Unit {0} × (Unit {0} × (Unit {0} × Unit {0}))). ‵ (fsep ftrue (fsep ftrue (fsep ftrue ftrue))) ⊛ ‵ (block_if_ok (ghosts.dealloc_token a) τ r))))) (id⊢ 𝓤 _) $ await ! tt $ pick ! (λ r.
        split ! $ move ! (1 ∷ []) $ pick ! (λ ws. split ! $ drop ! $ move ! (1 ∷ []) $ split ! $ split ! $ keep ! (2 ∷ 3 ∷ 0 ∷ []) $
        use2 𝓛 (raw (Got a τ v)) (answered v r) $ at_once ! $ done !))

module _ {M : Type 1} {𝓤 : Ura M} (𝓛 : Logic 𝓤) (at_mem : Memory → SProp 𝓤) (run : Routine → Fun 𝓤) where
  open 𝓛 use {H, A}

  abbrev pub Grows : Contract 𝓤
  Grows = triple_of 𝓛 (GR.signature i64) (GR.spec i64 𝓛 at_mem run)

  module _ (κ : Lft) (q : Share) (p : ℕ × ℕ) (a : Global) (b o len old new : ℕ) (ws : List ℤ) where
    abbrev pub at_grows : Grows.Ghost
    at_grows = (((κ, ([], tt)), (q, (full_share, tt)), tt, (record { ref_ptr = p; now = a }, (block_ptr b o, (len, (old, (new, tt))))), (vptr p.0 p.1 ∷ [], (vptr b o ∷ [], (vint w64 len ∷ [], (vint w64 old ∷ [], (vint w64 new ∷ [], tt)))))), ws)

    -- the block after an answer
    abbrev pub grown_to : Answer.Denot → Fml
    grown_to = resized_if_ok (ghosts.dealloc_token a) i64 (block_ptr b o) len old new ws

    abbrev Said : Type 0
    Said = (len ≤ old) × (old ≤ new) × (new * 8 < 2 ^ 63)

    pub grows_goes : Said → len < 2 ^ 64 → old < 2 ^ 64 → new < 2 ^ 64
        → ent 𝓤 (sep 𝓤 (sem 𝓛 (block_with_items (ghosts.dealloc_token a) i64 (block_ptr b o) len old ws)) (sep 𝓤 (sem 𝓛 (hidden_shr heap.the_row κ a p.0 p.1)) (A.lft κ q))) (Grows.pre at_grows)
    grows_goes said fl fo fn =
        qed 𝓛 (‵ (block_with_items (ghosts.dealloc_token a) i64 (block_ptr b o) len old ws) ∷ ‵ (hidden_shr heap.the_row κ a p.0 p.1) ∷ ‵ (flft κ q) ∷ []) ∵
        use0 𝓛 (raw (fact 𝓤 Said)) (fact_i 𝓤 Said (emp 𝓤) said) $ join ! $
        use0 𝓛 (raw (fact 𝓤 ([] ⊑ i64.lives))) (fact_i 𝓤 ([] ⊑ i64.lives) (emp 𝓤) (⊑_refl [])) $ join ! $
        nothing ! $ flt_i ! new (2 ^ 64) fn $ feq_i ! (List Val) (vint w64 new ∷ []) (vint w64 new ∷ []) refl $ fjoin ! $ fjoin ! $
        flt_i ! old (2 ^ 64) fo $ feq_i ! (List Val) (vint w64 old ∷ []) (vint w64 old ∷ []) refl $ fjoin ! $ fjoin ! $
        flt_i ! len (2 ^ 64) fl $ feq_i ! (List Val) (vint w64 len ∷ []) (vint w64 len ∷ []) refl $ fjoin ! $ fjoin ! $
        feq_i ! (List Val) (vptr b o ∷ []) (vptr b o ∷ []) refl $ fjoin ! $ move ! (2 ∷ []) $ feq_i ! (List Val) (vptr p.0 p.1 ∷ []) (vptr p.0 p.1 ∷ []) refl $ fjoin ! $ move ! (0 ∷ 1 ∷ []) $ fjoin ! $
        nothing ! $ use0 𝓛 (‵ (flft [] full_share)) (𝓛.lfts.lft-nil full_share) $ join ! $ move ! (3 ∷ 0 ∷ []) $ join ! $ join ! $ done !

    pub grows_gives : (v : Val) → ent 𝓤 (Grows.post at_grows v) (H.⇛ (sep 𝓤 (ex 𝓤 (Flagged 𝓛 grown_to v)) (A.lft κ q)))
    grows_gives v =
        qed 𝓛 (raw (Grows.post at_grows v) ∷ []) ∵ updating ! $
        use1 𝓛 (later (some (λ (r : Answer.Denot). ((‵ (flft κ q) ⊛ ‵ (flft [] full_share) ⊛ ‵ ftrue) ⊛ ‵ (Answer.own_val r (v ∷ []))) ⊛ some (λ (left : Unit {0} × (Unit {0} × (Unit {0} × (Unit {0} × (Unit {0} × Unit {0}))))). ‵ (fsep ftrue (fsep ftrue (fsep ftrue (fsep ftrue (fsep ftrue ftrue))))) ⊛ ‵ (grown_to r))))) (id⊢ 𝓤 _) $ await ! tt $ pick ! (λ r.
        split ! $ move ! (1 ∷ []) $ pick ! (λ left. split ! $ drop ! $ move ! (1 ∷ []) $ split ! $ split3 ! $ keep ! (3 ∷ 4 ∷ 0 ∷ []) $
        use2 𝓛 (raw (ex 𝓤 (Flagged 𝓛 grown_to v))) (by_flag 𝓛 grown_to (fst∗ 𝓤 (never 𝓤) (sem 𝓛 (fsep (room_for (array_of i64 (new - len)) null_ptr) (ghosts.dealloc_token a (array_of i64 new) null_ptr)))) v r) $ at_once ! $ done !))
