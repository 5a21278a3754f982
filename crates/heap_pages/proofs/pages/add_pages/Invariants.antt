-- The pages that were there stay, and no words come.
use Rattle.std.proofs.Common.{◌≡◌, ◌≤◌, max, take}
use Rattle.heap_pages.specs.Layout.{words_of_pages, ArePackedPages}
use Rattle.heap_pages.proofs.pages.add_pages.Given as goal

abbrev pub invariant-loop-number : goal.invariant-loop-number
invariant-loop-number l = record {
  kept : take l.initial.pages.len l.pages.items ≡ l.initial.pages.items;
  words : words_of_pages l.pages.items ≡ words_of_pages l.initial.pages.items;
  packed : ArePackedPages l.size l.initial.pages.items → ArePackedPages l.size l.pages.items;
  number : l.pages.len ≡ l._number;
  few : l.pages.len ≤ max l.initial.pages.len l.count;
}
