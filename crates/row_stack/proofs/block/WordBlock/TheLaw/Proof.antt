-- A `&` to a block is made where one to its words is. It lends neither the room after them nor the right to give the block back. Assumes `Logic`.
use Rattle.std.proofs.Common.{◌-◌, ◌*◌, length, subst, sym}
use base.Fraction.{full_share}
use base.Fml.{fsep}
use contract.BorrowLft.{⊑_static}
use denote.ArrayMemory.{Single}
use denote.Array.{Array, Array-row_laws}
use denote.Builtin.{i64}
use denote.Memory.{lone}
use denote.RawPtr.{lies_at, room_for, ◌+ₚ◌}
use denote.Shares.{Shares-less, Shares-Array}
use denote.Param.Shared.{copy_shared}
use denote.Struct.Field.{RawPtr-field, usize-field}
use denote.Struct.Laws.{RawPtr-copy, usize-copy}
use denote.Struct.Lending.{lent_at, lent_at_shr_laws, Lends-lies, Lends-first, of_Lends}
use mir.Raw.{raw as bare}
use mir.Syntax.{ty_array}
use Rattle.std.specs.contracts.alloc.Global as heap
use Rattle.std.specs.contracts.impls.GlobalAllocator.TheImpl.{ghosts}
use Rattle.std.proofs.alloc.Global.TheLaws as heap_laws
use Rattle.row_stack.proofs.Word.{word_laws as L}
use Rattle.row_stack.specs.contracts.block.WordBlock as C
use Rattle.row_stack.proofs.block.WordBlock.TheLaw.Statement.{statement}

pub shares : statement
shares = of_Lends C.struct (C.the_codes heap.the_row.coded) C.the_heap C.the_lent
    (λ d p. lent_at_shr_laws (Array i64 (length d.words)) (Array-row_laws i64 L.shr_laws (length d.words)) d.start d.words)
    (copy_shared RawPtr-field RawPtr-copy, (copy_shared usize-field usize-copy, (heap_laws.the_field_shared, tt)))
    (λ M 𝓤 𝓛 d p.
    let n = length d.words in let R = Array i64 n in let l = C.the_row.lives in
    Lends-first 𝓛 (lies_at R full_share d.start d.words) (fsep (room_for (bare (ty_array (lone i64.mir) (d.capacity - n))) (d.start +ₚ (n * 8))) (ghosts.dealloc_token d.alloc (bare (ty_array (lone i64.mir) d.capacity)) d.start)) (lent_at R d.start d.words) l
    (Lends-lies 𝓛 R l d.start d.words (Shares-Array 𝓛 i64 (subst Single (sym L.one) tt) n l (Shares-less 𝓛 i64 i64.lives l (⊑_static l) (L.shares 𝓛)) d.words)))
