-- Chains of conditions: one part is itself, several are one node.
use Rattle.std.proofs.Common.{◌≡◌, true, false, List, [], ◌∷◌, length, Option, Some, None, is_some, refl, ap}
use Rattle.sql_parse.specs.declared.condition.Connective.{Connective}
use Rattle.sql_parse.specs.declared.fault.ReadFault.{ReadFault}
use Rattle.sql_parse.specs.declared.fault.ReadFault.TheVariants.{NotAStatement, NoMemory}
use Rattle.sql_parse.specs.declared.mark.Mark.{Mark}
use Rattle.sql_parse.specs.Lexemes.{Lexeme}
use Rattle.sql_parse.specs.Trees.{ConditionTree}
use Rattle.sql_parse.specs.Reading.{Reader, ◌>>=◌, choose, after_mark, more_at, list_with_first, list_at, chain_at, one_node, node_of, separator_of, Fails}
use Rattle.sql_parse.proofs.Lists.{more_at-end}

-- a part before those that reading gives
abbrev with_first : {A : Type 0} → A → Option (List A × List Lexeme) → Option (List A × List Lexeme)
with_first x read = read >>= λ xs. Some (x ∷ xs.0, xs.1)

-- the tree of the parts that reading gives
abbrev pub as_tree : (List ConditionTree → ConditionTree) → Option (List ConditionTree × List Lexeme) → Option (ConditionTree × List Lexeme)
as_tree node read = read >>= λ xs. Some (node xs.0, xs.1)

pub none_if : {A : Type 0} (o : Option A) → is_some o ≡ false → o ≡ None
none_if None no_value = refl
none_if (Some x) no_value = cc

abbrev parts_of : {A : Type 0} → Option (List A × List Lexeme) → List A
parts_of None = []
parts_of (Some xs) = xs.0

-- where a separator follows, a further part is read
with_first-not_empty : {A : Type 0} (x : A) (read : Option (List A × List Lexeme)) (end : List Lexeme) → with_first x read ≡ Some ([], end) → ⊥
with_first-not_empty x None end is = cc
with_first-not_empty x (Some xs) end is = let none : x ∷ xs.0 ≡ [] = ap parts_of is in cc

part-not_empty : {A : Type 0} (x : Option (A × List Lexeme)) (more : Reader (List A)) (end : List Lexeme)
    → (x >>= λ x. with_first x.0 (more x.1)) ≡ Some ([], end) → ⊥
part-not_empty None more end is = cc
part-not_empty (Some x) more end is = with_first-not_empty x.0 (more x.1) end is

choose-not_empty : {A : Type 0} (part : Reader A) (more : Reader (List A)) (next : Option (List Lexeme)) (tokens end : List Lexeme) → is_some next ≡ true
    → choose next (Some ([], tokens)) (λ rest. part rest >>= λ x. with_first x.0 (more x.1)) ≡ Some ([], end) → ⊥
choose-not_empty part more None tokens end goes_on is = cc
choose-not_empty part more (Some rest) tokens end goes_on is = part-not_empty (part rest) more end is

more_at-not_empty : {A : Type 0} (part : Reader A) (separator : Mark) (tokens end : List Lexeme) → is_some (after_mark separator tokens) ≡ true
    → more_at part separator (length tokens) tokens ≡ Some ([], end) → ⊥
unfolding more_at after_mark
more_at-not_empty part separator [] end goes_on is = cc
more_at-not_empty part separator (first ∷ tokens) end goes_on is =
    choose-not_empty part (more_at part separator (length tokens)) (after_mark separator (first ∷ tokens)) (first ∷ tokens) end goes_on is

joined-many : (node : List ConditionTree → ConditionTree) (x : ConditionTree) (xs : List ConditionTree) → (xs ≡ [] → ⊥) → one_node node (x ∷ xs) ≡ node (x ∷ xs)
joined-many node x [] many = absurd (many refl)
joined-many node x (y ∷ ys) many = refl

pub chain_at-one : (connective : Connective) (part : Reader ConditionTree) (tokens rest : List Lexeme) (x : ConditionTree) → part tokens ≡ Some (x, rest)
    → after_mark (separator_of connective) rest ≡ None → chain_at connective part tokens ≡ Some (x, rest)
unfolding chain_at list_at list_with_first
chain_at-one connective part tokens rest x found ended =
    rw (found, more_at-end part (separator_of connective) (length rest) rest ended) refl

as_tree-joined : (node : List ConditionTree → ConditionTree) (x : ConditionTree) (read : Option (List ConditionTree × List Lexeme))
    → ((end : List Lexeme) → read ≡ Some ([], end) → ⊥) → as_tree (one_node node) (with_first x read) ≡ as_tree node (with_first x read)
as_tree-joined node x None many = refl
as_tree-joined node x (Some xs) many =
    ap (λ tree. Some (tree, xs.1)) (joined-many node x xs.0 (λ none. many xs.1 (ap (λ ys. Some (ys, xs.1)) none)))

list_with_first-joined : (node : List ConditionTree → ConditionTree) (part : Reader ConditionTree) (separator : Mark) (tokens : List Lexeme) (x : ConditionTree)
    → is_some (after_mark separator tokens) ≡ true
    → as_tree (one_node node) (list_with_first x part separator tokens) ≡ as_tree node (list_with_first x part separator tokens)
unfolding list_with_first
list_with_first-joined node part separator tokens x goes_on =
    as_tree-joined node x (more_at part separator (length tokens) tokens) (λ end. more_at-not_empty part separator tokens end goes_on)

-- where a separator follows the first part, the chain is the node of what list_after gives
pub chain_at-many : (connective : Connective) (part : Reader ConditionTree) (tokens rest : List Lexeme) (x : ConditionTree) → part tokens ≡ Some (x, rest)
    → is_some (after_mark (separator_of connective) rest) ≡ true
    → chain_at connective part tokens ≡ as_tree (node_of connective) (list_with_first x part (separator_of connective) rest)
unfolding chain_at list_at
chain_at-many connective part tokens rest x found goes_on = rw found (list_with_first-joined (node_of connective) part (separator_of connective) rest x goes_on)

pub chain_at-fails : (connective : Connective) (part : Reader ConditionTree) (tokens : List Lexeme) (fault : ReadFault) → Fails fault (part tokens)
    → Fails fault (chain_at connective part tokens)
unfolding chain_at list_at
chain_at-fails connective part tokens NotAStatement fails = rw fails refl
chain_at-fails connective part tokens NoMemory fails = tt

pub as_tree-fails : (node : List ConditionTree → ConditionTree) (read : Option (List ConditionTree × List Lexeme)) (fault : ReadFault) → Fails fault read
    → Fails fault (as_tree node read)
as_tree-fails node read NotAStatement fails = ap (as_tree node) fails
as_tree-fails node read NoMemory fails = tt
