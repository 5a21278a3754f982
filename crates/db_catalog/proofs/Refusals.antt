-- Refusals of several checks, one after another.
use Rattle.std.proofs.Common.{◌≡◌, ◌≢◌, ℕ, ◌≤◌, Bool, true, false, Option, Some, None, Result, Ok, Err, refl, sym, ap, subst, ◌∙◌, nat_lt, if◌then◌else◌, true≢false, is_some, option_map, pos, List}
use Rattle.std.specs.Prelude.{IsErrAnd, IsSomeAnd, OnErr, OnOk, is_err, nat_eq, slice_index_or, [], map}
use Rattle.std.specs.List.{list_any}
use Rattle.sql_values.specs.declared.column.ColumnDef.{ColumnDef}
use Rattle.std.specs.Str.{bytes_eq}
use Rattle.sql_values.specs.Dictionary.{has_text, code_of}
use Rattle.sql_values.proofs.Dictionary.{position-below, position_none}
use Rattle.std.specs.Option.{option_or}
use Rattle.std.proofs.lemmas.Bool.{ltb-false}
use Rattle.sql_values.specs.declared.limit.LimitName.{LimitName}
use Rattle.heap_pages.specs.Changes.{Becomes}
use Rattle.db_catalog.specs.declared.fault.DbFault.{DbFault}
use Rattle.db_catalog.specs.declared.fault.DbFault.TheVariants.{Duplicate, Limit, NoMemory}
use Rattle.db_catalog.specs.Refused.{Refuses, RefusesExactly, TellsLimit, IsTold, RefusesWhereDue, past, taken, indexed_fault}

-- the first check refuses
pub refused_first : {T : Type 0} (a b : Option DbFault) (e : DbFault) → (e ≢ NoMemory → a ≡ Some e) → Refuses {T = T} (option_or a b) (Err e)
refused_first a b e h = record { answered = tt; refused = λ other. ap (λ o. option_or o b) (h other) }

-- it doesn't, and what the others say holds
pub not_first : {T : Type 0} (a b : Option DbFault) (r : Result T DbFault) → a ≡ None → Refuses b r → Refuses (option_or a b) r
not_first a b (Ok x) none h = record { answered = ap (λ o. option_or o b) none ∙ h.answered; refused = tt }
not_first a b (Err e) none h = record { answered = tt; refused = λ other. ap (λ o. option_or o b) none ∙ h.refused other }

-- a refusal of memory is no refusal of a check
pub out_of_memory : {T : Type 0} (due : Option DbFault) → Refuses {T = T} due (Err NoMemory)
out_of_memory due = record { answered = tt; refused = λ other. absurd (other refl) }

-- of calls that take no memory
pub exact_refuses : {T : Type 0} (due : Option DbFault) (r : Result T DbFault) → RefusesExactly due r → Refuses due r
exact_refuses due (Ok x) h = record { answered = h; refused = tt }
exact_refuses due (Err e) h = record { answered = tt; refused = λ _. h }

pub exact_next : {T : Type 0} (a b : Option DbFault) (r : Result T DbFault) → a ≡ None → RefusesExactly b r → RefusesExactly (option_or a b) r
exact_next a b r none h = subst (λ o. RefusesExactly (option_or o b) r) (sym none) h

-- of calls that take memory for a name alone
pub due_next : {T : Type 0} (a b : Option DbFault) (r : Result T DbFault) → a ≡ None → RefusesWhereDue b r → RefusesWhereDue (option_or a b) r
due_next a b r none h = subst (λ o. RefusesWhereDue (option_or o b) r) (sym none) h

pub due_first : {T : Type 0} (a b : Option DbFault) (r : Result T DbFault) (e : DbFault) → IsErrAnd r (λ x. x ≡ e) → a ≡ Some e → RefusesWhereDue (option_or a b) r
due_first a b (Ok x) e is h = absurd is
due_first a b (Err x) e is h = subst (λ o. IsSomeAnd (option_or o b) (λ one. IsTold one x)) (ap Some is ∙ sym h) (told_itself x)
  where
    told_itself : (e : DbFault) → IsTold e e
    told_itself (Duplicate name) = λ _. refl
    told_itself (Limit name value) = refl
    told_itself NoMemory = refl

pub name_first : (a b : Option DbFault) (name : List ℕ) (e : DbFault) → a ≡ Some (Duplicate name) → (e ≢ NoMemory → e ≡ Duplicate name) → IsSomeAnd (option_or a b) (λ one. IsTold one e)
name_first a b name e h told = subst (λ o. IsSomeAnd (option_or o b) (λ one. IsTold one e)) (sym h) told

-- and what they tell is handed on
due_told : (due : Option DbFault) (e : DbFault) → IsSomeAnd due (λ one. IsTold one e) → e ≢ NoMemory → due ≡ Some e
due_told None e told other = absurd told
due_told (Some (Duplicate name)) e told other = ap Some (sym (told other))
due_told (Some (Limit name value)) e told other = ap Some (sym told)
due_told (Some NoMemory) e told other = absurd (other told)

pub due_handed_on : {T : Type 0} (due : Option DbFault) (r : Result T DbFault) (e : DbFault) → IsErrAnd r (λ x. x ≡ e) → IsSomeAnd due (λ one. IsTold one e) → Refuses due r
due_handed_on due (Ok x) e is told = absurd is
due_handed_on due (Err x) e is told = record { answered = tt; refused = λ other. due_told due e told (λ none. other (is ∙ none)) ∙ ap Some (sym is) }

pub due_limit : {T : Type 0} (due : Option DbFault) (r : Result T DbFault) (e : DbFault) → IsErrAnd r (λ x. x ≡ e) → IsSomeAnd due (λ one. IsTold one e) → TellsLimit due r
due_limit due (Ok x) e is told = absurd is
due_limit due (Err x) e is told = λ name value limit. is ∙ subst (λ o. IsSomeAnd o (λ one. IsTold one e)) limit told

-- a limit that is passed
pub limit_told : {T : Type 0} (due : Option DbFault) (r : Result T DbFault) (e : DbFault) → IsErrAnd r (λ x. x ≡ e) → due ≡ Some e → TellsLimit due r
limit_told due (Ok x) e is h = absurd is
limit_told due (Err x) e is h = λ name value limit. cc

pub no_limit : {P : Type 0} (due : Option DbFault) (name : LimitName) (value : ℕ) → due ≡ None → due ≡ Some (Limit name value) → P
no_limit due name value none limit = cc

-- no check refuses
pub neither : (a b : Option DbFault) → option_or a b ≡ None → (a ≡ None) × (b ≡ None)
neither None b h = (refl, h)
neither (Some e) b h = cc

-- a number within its limit
pub within : (name : LimitName) (most value : ℕ) → past name most value ≡ None → value ≤ most
within name most value h = by (nat_lt most value) refl
  where
    by : (b : Bool) → nat_lt most value ≡ b → value ≤ most
    by true e = let gone : Some (Limit name value) ≡ None = sym (ap (λ b. if b then Some (Limit name value) else None) e) ∙ h in cc
    by false e = ltb-false most value e

-- a refusal that is handed on
pub handed_on : {T E : Type 0} (due : Option DbFault) (r : Result T DbFault) (e : DbFault) → IsErrAnd r (λ x. x ≡ e) → Refuses {T = E} due (Err e) → Refuses {T = T} due r
handed_on due (Ok x) e is h = absurd is
handed_on due (Err x) e is h = record { answered = tt; refused = λ other. h.refused (λ none. other (is ∙ none)) ∙ ap Some (sym is) }

-- of a check that stands before others
pub handed_on_first : {T E : Type 0} (a b : Option DbFault) (r : Result T DbFault) (e : DbFault) → IsErrAnd r (λ x. x ≡ e) → Refuses {T = E} a (Err e) → Refuses {T = T} (option_or a b) r
handed_on_first a b (Ok x) e is h = absurd is
handed_on_first a b (Err x) e is h = record { answered = tt; refused = λ other. ap (λ o. option_or o b) (h.refused (λ none. other (is ∙ none)) ∙ ap Some (sym is)) }

-- what stays as it was where a refusal is handed on
pub unchanged_on : {S T : Type 0} (after old new : S) (r : Result T DbFault) (e : DbFault) → IsErrAnd r (λ x. x ≡ e) → new ≡ old → Becomes after old new r
unchanged_on after old new (Ok x) e is same = absurd is
unchanged_on after old new (Err x) e is same = record { made = tt; unchanged = same }

-- what holds on an answer of this kind
pub on_err : {T E P : Type 0} (r : Result T E) → is_err r ≡ true → OnErr r P → P
on_err (Ok x) e h = absurd (true≢false (sym e))
on_err (Err x) e h = h

pub on_ok : {T E P : Type 0} (r : Result T E) → is_err r ≡ false → OnOk r P → P
on_ok (Ok x) e h = h
on_ok (Err x) e h = absurd (true≢false e)

-- a name that has a code stands already
pub has_from_code : (names : List (List ℕ)) (name : List ℕ) → is_some (code_of names name) ≡ has_text names name
has_from_code names name = by (has_text names name) refl
  where
    by : (b : Bool) → has_text names name ≡ b → is_some (code_of names name) ≡ b
    by true e = ap (λ o. is_some (option_map pos o)) (position-below (bytes_eq name) names e)
    by false e = ap (λ o. is_some (option_map pos o)) (position_none (bytes_eq name) names e)

pub not_taken : (names : List (List ℕ)) (name : List ℕ) → taken names name ≡ None → has_text names name ≡ false
not_taken names name h = by (has_text names name) refl
  where
    by : (b : Bool) → has_text names name ≡ b → b ≡ false
    by true e = let gone : Some (Duplicate name) ≡ None = sym (ap (λ b. if b then Some (Duplicate name) else None) e) ∙ h in cc
    by false e = refl

-- a column that isn't refused is not among the indexed ones
pub not_indexed : (columns : List ColumnDef) (indexed : List ℕ) (column : ℕ) → indexed_fault columns indexed column ≡ None → list_any (nat_eq column) indexed ≡ false
not_indexed columns indexed column h = by (list_any (nat_eq column) indexed) refl
  where
    fault : DbFault
    fault = Duplicate (slice_index_or (map (λ column. column.name) columns) column [])

    by : (b : Bool) → list_any (nat_eq column) indexed ≡ b → b ≡ false
    by true e = let gone : Some fault ≡ None = sym (ap (λ b. if b then Some fault else None) e) ∙ h in cc
    by false e = refl
