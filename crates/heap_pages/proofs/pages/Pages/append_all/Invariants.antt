-- The words that are there and those that are left are all words; the next of them belongs on page `number`.
use Rattle.std.proofs.Common.{◌≡◌, ◌+◌, ◌*◌, ◌<◌, ◌≤◌, ◌++◌, length}
use Rattle.heap_pages.proofs.pages.Pages.append_all.Given as goal

abbrev pub invariant-loop-rest : goal.invariant-loop-rest
invariant-loop-rest l = record {
  all : l.self.words ++ l.rest ≡ l.initial.self.words ++ l.initial.rest;
  same : l.self ≡ record l.initial.self { words = l.self.words };
  begun : 0 < length l.rest → l.number * l.initial.self.size ≤ length l.self.words;
  free : length l.self.words < l.number * l.initial.self.size + l.initial.self.size;
}

abbrev pub decreases-loop-rest : goal.decreases-loop-rest
decreases-loop-rest l = length l.rest
