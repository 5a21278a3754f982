-- What the owner of a block of words owns, and what it lends.
use Rattle.std.specs.Prelude.{ℕ, ℤ, List, length}
use Rattle.std.specs.Global.{Global}
use Rattle.std.specs.contracts.impls.GlobalAllocator.TheImpl.{ghosts}
use Rattle.std.specs.Allocator.{block_with_items}
use base.Fraction.{full_share}
use base.Fml.{Lft, Share, Fml, fsep}
use denote.Array.{Array}
use denote.Builtin.{i64}
use denote.RawPtr.{Ptr, lies_at, room_at}
use denote.Struct.Lending.{lent_at}

-- the words, the room after them, and the right to give the block back
abbrev pub block_owns : Global → Ptr → ℕ → List ℤ → Fml
block_owns alloc start capacity words = block_with_items (ghosts.dealloc_token alloc) i64 start (length words) capacity words

-- the words
abbrev pub block_lends : Ptr → List ℤ → Lft → Fml
block_lends start words κ = lent_at (Array i64 (length words)) start words κ

-- a share of words, and room for as many
abbrev pub words_and_room : Share → List ℤ → Ptr → Ptr → Fml
words_and_room share words from to = fsep (lies_at (Array i64 (length words)) share from words) (room_at (Array i64 (length words)) to)

-- a share of words, and the same words where there was room
abbrev pub words_twice : Share → List ℤ → Ptr → Ptr → Fml
words_twice share words from to = fsep (lies_at (Array i64 (length words)) share from words) (lies_at (Array i64 (length words)) full_share to words)
