use Rattle.std.proofs.Common.{◌≡◌, ◌<◌, ℕ, suc, Bool, true, length, slice_index_or}
use Rattle.result_text.specs.Ties.{TieAt}
use Rattle.result_text.proofs.ties.ties.Given as goal

abbrev pub invariant-loop-place : goal.invariant-loop-place
invariant-loop-place l = record {
  long : length l.ties.items ≡ l.place;
  before : (k : ℕ) → suc k ≡ l.place → TieAt l.count l.rows k → l.before ≡ true;
  marked : (k : ℕ) (d : Bool) → k < l.place → TieAt l.count l.rows k → slice_index_or l.ties.items k d ≡ true;
  behind : (k : ℕ) (d : Bool) → suc k < l.place → TieAt l.count l.rows k → slice_index_or l.ties.items (suc k) d ≡ true;
}
