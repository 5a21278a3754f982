use Rattle.std.proofs.Common.{◌≡◌, option_map, take}
use Rattle.std.specs.List.{AllZip}
use Rattle.result_text.specs.Lists.{last_of}
use Rattle.result_text.specs.Placing.{HasPlace}
use Rattle.result_text.specs.Ranks.{AreAscending}
use Rattle.result_text.proofs.places.place_all.Given as goal

abbrev pub invariant-loop-one : goal.invariant-loop-one
invariant-loop-one l = record {
  ascending : AreAscending l.sorted;
  placed : AllZip (HasPlace l.known l.sorted) (take l.one-index l.coded) l.placed.items;
  last : last_of l.sorted ≡ option_map (λ one. one.text) (last_of (take l.one-index l.coded));
}
