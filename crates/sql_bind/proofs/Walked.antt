-- A walk over predicates that has come to some place.
use Rattle.std.proofs.Common.{◌≡◌, ◌∙◌, ℕ, ◌+◌, ◌<◌, List, ◌∷◌, ◌++◌, Some, None, length, drop, get_or, sym, ap, subst, arith, append_assoc, length-append}
use Rattle.std.specs.Option.{option_or}
use Rattle.std.proofs.lemmas.List.{at_drop_more}
use Rattle.std.proofs.lemmas.Grind.{flat_map-append}
use Rattle.sql_parse.specs.declared.tree.Cond.{Cond}
use Rattle.sql_parse.specs.Trees.{ConditionTree, condition_tree}
use Rattle.sql_bind.specs.declared.fault.BindFault.{BindFault}
use Rattle.sql_bind.specs.declared.walk.Walk.{Walk}
use Rattle.sql_bind.specs.Named.{NamedTable}
use Rattle.sql_bind.specs.Located.{kinds_of, parameters_among}
use Rattle.sql_bind.specs.Predicates.{Walks, predicates, all_predicates, predicate_fault, predicates_fault, terms_of, parameters_of}
use Rattle.sql_bind.proofs.Faults.{first_fault-append}

-- of those that were due, these are left, and none before them has a fault
pub record Leads (tables : List NamedTable) (due left : List ConditionTree) (old new : Walk) : Type 0 where
  pub fault : predicates_fault tables old.next due ≡ predicates_fault tables new.next left
  pub next : new.next + length left ≡ old.next + length due
  pub parameters : old.parameters.items ++ parameters_of tables due ≡ new.parameters.items ++ parameters_of tables left

at_part : (parts : List Cond) (i : ℕ) (part : Cond) → i < length parts → part ≡ get_or parts i part
    → all_predicates (drop i parts) ≡ predicates (condition_tree part) ++ all_predicates (drop (i + 1) parts)
at_part parts i part below is = at_drop_more all_predicates parts i part below ∙ ap (λ one. all_predicates (one ∷ drop (i + 1) parts)) (sym is)

-- at a part of a chain, its predicates are due first
pub leads-at : (tables : List NamedTable) (parts : List Cond) (i : ℕ) (part : Cond) (old new : Walk) → i < length parts → part ≡ get_or parts i part
    → Leads tables (all_predicates parts) (all_predicates (drop i parts)) old new
    → Leads tables (all_predicates parts) (predicates (condition_tree part) ++ all_predicates (drop (i + 1) parts)) old new
leads-at tables parts i part old new below is = subst (λ left. Leads tables (all_predicates parts) left old new) (at_part parts i part below is)

module _ (tables : List NamedTable) (due one left : List ConditionTree) (old middle : Walk) where
  both : Leads tables due (one ++ left) old middle
      → predicates_fault tables old.next due ≡ option_or (predicates_fault tables middle.next one) (predicates_fault tables (middle.next + length one) left)
  both h = h.fault ∙ first_fault-append (predicate_fault tables) middle.next one left

  pub led : (new : Walk) → Leads tables due (one ++ left) old middle → Walks tables one middle new → predicates_fault tables middle.next one ≡ None → Leads tables due left old new
  led new h walks none = record {
    fault = both h ∙ ap (λ first. option_or first (predicates_fault tables (middle.next + length one) left)) none
        ∙ ap (λ n. predicates_fault tables n left) (sym walks.next);
    next = omega (arith, walks.next, h.next, length-append one left);
    parameters = h.parameters ∙ ap (λ kinds. middle.parameters.items ++ kinds) (flat_map-append (λ predicate. parameters_among (kinds_of tables (terms_of predicate))) one left)
        ∙ sym (append_assoc middle.parameters.items (parameters_of tables one) (parameters_of tables left))
        ∙ ap (λ kinds. kinds ++ parameters_of tables left) (sym walks.parameters);
  }

  pub led-refused : (found : BindFault) → Leads tables due (one ++ left) old middle → predicates_fault tables middle.next one ≡ Some found → predicates_fault tables old.next due ≡ Some found
  led-refused found h some = both h ∙ ap (λ first. option_or first (predicates_fault tables (middle.next + length one) left)) some
