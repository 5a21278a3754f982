use Rattle.std.proofs.Common.{◌≡◌, string_bytes}
use Rattle.std.specs.List.{list_all}
use Rattle.serde_json.specs.View.{members_view}
use Rattle.bouquet_file.specs.Values.{is_key, has_only}
use Rattle.bouquet_file.proofs.values.has_only.Given as goal

abbrev pub invariant-loop-key : goal.invariant-loop-key
invariant-loop-key l = has_only l.kind (members_view l.members.entries) ≡ list_all (λ key. is_key l.kind (string_bytes key)) l.key-iterator
