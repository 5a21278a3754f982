-- Nothing is forgotten as more is learned.
use Rattle.std.proofs.Common.{ℕ, ◌≤◌, List, [], arith}
use Rattle.std.specs.Prelude.{max, slice_index_or, slice_set}
use Rattle.known_rows.specs.Known.{KnownState, known_entries, known_rows_of, learned, learned_entries}
use Rattle.known_rows.specs.Remembering.{Remembers}
use Rattle.known_rows.proofs.Laws.{once-set}

pub all-remembered : (known : KnownState) → Remembers known known
all-remembered known = record { rows = λ set. omega arith; entries = λ edge set. omega arith }

pub remembers-on : {a b c : KnownState} → Remembers a b → Remembers b c → Remembers a c
remembers-on one two = record {
  rows = λ set. omega (arith, one.rows set, two.rows set);
  entries = λ edge set. omega (arith, one.entries edge set, two.entries edge set);
}

pub learned-remembers : (known : KnownState) (set rows : ℕ) → Remembers known (learned known set rows)
learned-remembers known set rows = record {
  rows = once-set 0 known.rows set (max (known_rows_of known set) rows) (λ one n. known_rows_of known one ≤ n) (λ one. omega arith) (omega arith);
  entries = λ edge other. omega arith;
}

pub found-remembers : (known : KnownState) (edge set entries : ℕ) → Remembers known (learned_entries known edge set entries)
found-remembers known edge set entries =
    let Are = λ (one : ℕ) (numbers : List ℕ). (other : ℕ) → known_entries known one other ≤ slice_index_or numbers other 0 in
    let of_edge = slice_index_or known.entries edge [] in
    let more = max (known_entries known edge set) entries in
    record {
      rows = λ other. omega arith;
      entries = once-set [] known.entries edge (slice_set of_edge set more) Are (λ one other. omega arith)
          (once-set 0 of_edge set more (λ other n. known_entries known edge other ≤ n) (λ other. omega arith) (omega arith));
    }
