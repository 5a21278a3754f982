-- How each read takes one entry from those that a reader has yet to give.
use Rattle.std.proofs.Common.{◌≡◌, ℕ, zero, suc, ◌+◌, ◌<◌, ◌≤◌, Bool, true, false, List, [], ◌∷◌, ◌++◌, drop, length, length-drop, Option, Some, None, refl, sym, ap, ◌∙◌, arith, inl}
use Rattle.std.specs.Prelude.{if◌then◌else◌, IsSome}
use Rattle.csv.specs.Machine.{Read, step, is_end, ends_at_end, fields_after, field_after, next_record}
use Rattle.csv.specs.Reading.{records_from, records_next, source_of, pending_of, NextIs, ReadsNext, ReadRecord, default_config, took_first, is_flexible, ExplainsRead, strip_bom, is_bom}
use Rattle.csv.specs.declared.parser.Config.{Config}
use Rattle.csv.specs.declared.parser.State.{State}
use Rattle.csv.specs.declared.parser.State.TheVariants as st
use Rattle.csv.specs.declared.error.ErrorKind.{ErrorKind}
use Rattle.csv.specs.declared.error.ErrorKind.TheVariants as kind
use Rattle.csv.specs.declared.reader.Reader.{Reader}
use Rattle.csv_load.specs.Load.{entries_of}
use Rattle.csv_load.specs.Entries.{records_after, records_left, GivesEntries, MayStop}

-- a record leaves fewer bytes than it was read from, unless there were none
next_record-shorter : (cfg : Config) (s : State) (fields : List (List ℕ)) (field xs : List ℕ) (p : Read)
    → next_record cfg s fields field xs ≡ Some p → length p.2 ≤ length (drop 1 xs)
unfolding next_record
next_record-shorter cfg s fields field [] p e = last (ends_at_end s) e
  where
    last : (b : Bool) → (if b then Some (fields ++ (field ∷ []), st.StartRecord, []) else None) ≡ Some p → length p.2 ≤ 0
    last true e = let none : p.2 ≡ [] = cc in omega (arith, ap length none)
    last false e = cc e
next_record-shorter cfg s fields field (c ∷ rest) p e =
    by (is_end (step cfg s c).1) e (next_record-shorter cfg (step cfg s c).0 (fields_after (step cfg s c).1 fields field) (field_after (step cfg s c).1 c field) rest p)
  where
    by : (b : Bool) → (if b then Some (fields_after (step cfg s c).1 fields field, (step cfg s c).0, rest)
        else next_record cfg (step cfg s c).0 (fields_after (step cfg s c).1 fields field) (field_after (step cfg s c).1 c field) rest) ≡ Some p
        → (next_record cfg (step cfg s c).0 (fields_after (step cfg s c).1 fields field) (field_after (step cfg s c).1 c field) rest ≡ Some p → length p.2 ≤ length (drop 1 rest))
        → length p.2 ≤ length rest
    by true e more = let left : p.2 ≡ rest = cc in omega (arith, ap length left)
    by false e more = omega (arith, more e, length-drop 1 rest)

-- no record comes after the last byte
records_from-nothing : (cfg : Config) (n : ℕ) → records_from cfg n st.StartRecord [] ≡ []
unfolding records_from next_record
records_from-nothing cfg zero = refl
records_from-nothing cfg (suc n) = refl

-- where more records are asked for than the text has bytes, the number makes no difference
records_from-same : (cfg : Config) (n m : ℕ) (s : State) (xs : List ℕ) → length xs < n → length xs < m → records_from cfg n s xs ≡ records_from cfg m s xs
unfolding records_from next_record
records_from-same cfg zero m s xs a b = absurd (omega arith)
records_from-same cfg (suc n) zero s xs a b = absurd (omega arith)
records_from-same cfg (suc n) (suc m) s [] a b = last (ends_at_end s)
  where
    last : (b : Bool) → records_next (records_from cfg n) (if b then Some ([] ++ ([] ∷ []), st.StartRecord, []) else None)
        ≡ records_next (records_from cfg m) (if b then Some ([] ++ ([] ∷ []), st.StartRecord, []) else None)
    last true = ap (λ rest. ([] ∷ []) ∷ rest) (records_from-nothing cfg n ∙ sym (records_from-nothing cfg m))
    last false = refl
records_from-same cfg (suc n) (suc m) s (c ∷ rest) a b = by (next_record cfg s [] [] (c ∷ rest)) (next_record-shorter cfg s [] [] (c ∷ rest)) (λ s2 ys. records_from-same cfg n m s2 ys)
  where
    by : (o : Option Read) → ((p : Read) → o ≡ Some p → length p.2 ≤ length rest)
        → ((s2 : State) (ys : List ℕ) → length ys < n → length ys < m → records_from cfg n s2 ys ≡ records_from cfg m s2 ys)
        → records_next (records_from cfg n) o ≡ records_next (records_from cfg m) o
    by None shorter same = refl
    by (Some p) shorter same = let fewer = shorter p refl in ap (λ more. p.0 ∷ more) (same p.1 p.2 (omega arith) (omega arith))

-- the records of a text are its next one and those after it
records_after-next : (s : State) (xs : List ℕ) → records_after s (Some xs) ≡ records_next (λ s2 ys. records_after s2 (Some ys)) (next_record default_config s [] [] xs)
unfolding records_from next_record
records_after-next s [] = last (ends_at_end s)
  where
    last : (b : Bool) → records_next (records_from default_config 0) (if b then Some ([] ++ ([] ∷ []), st.StartRecord, []) else None)
        ≡ records_next (λ s2 ys. records_after s2 (Some ys)) (if b then Some ([] ++ ([] ∷ []), st.StartRecord, []) else None)
    last true = refl
    last false = refl
records_after-next s (c ∷ rest) =
    let one_more : length (c ∷ rest) + 1 ≡ suc (length (c ∷ rest)) = omega arith in
    ap (λ n. records_from default_config n s (c ∷ rest)) one_more ∙ by (next_record default_config s [] [] (c ∷ rest)) (next_record-shorter default_config s [] [] (c ∷ rest))
  where
    by : (o : Option Read) → ((p : Read) → o ≡ Some p → length p.2 ≤ length rest)
        → records_next (records_from default_config (length (c ∷ rest))) o ≡ records_next (λ s2 ys. records_after s2 (Some ys)) o
    by None shorter = refl
    by (Some p) shorter = let fewer = shorter p refl in ap (λ more. p.0 ∷ more) (records_from-same default_config (length (c ∷ rest)) (length p.2 + 1) p.1 p.2 (omega arith) (omega arith))

records_next-left : (o : Option Read) (found : Bool) (fields : List (List ℕ)) (s : State) (ys : List ℕ) → NextIs o found fields s ys
    → records_next (λ s2 zs. records_after s2 (Some zs)) o ≡ (if found then fields ∷ records_after s (Some ys) else [])
records_next-left None found fields s ys n = rw n refl
records_next-left (Some p) found fields s ys n = rw (n.0, n.1, n.2, n.3) refl

-- a read gives the first of the entries and leaves the others; it gives nothing where none is left
records_after-read : (s s2 : State) (before after : Option (List ℕ)) (found : Bool) (fields : List (List ℕ)) → IsSome before → ReadsNext default_config s before after found fields s2
    → IsSome after × (records_after s before ≡ (if found then fields ∷ records_after s2 after else []))
records_after-read s s2 None after found fields known r = cc known
records_after-read s s2 (Some xs) None found fields known r = absurd r
records_after-read s s2 (Some xs) (Some ys) found fields known r = (refl, records_after-next s xs ∙ records_next-left _ found fields s2 ys r)

-- an entry of another length doesn't stop a reader of bytes
pub flexible-stops : {R : Type 0} (remaining : R → Option (List ℕ)) (old new : Reader R) (error : ErrorKind)
    → is_flexible old ≡ true → ExplainsRead remaining old new false error → MayStop error
flexible-stops remaining old new (kind.Io fault) flexible why = tt
flexible-stops remaining old new kind.OutOfMemory flexible why = tt
flexible-stops remaining old new (kind.UnequalLengths pos expected len) flexible why = let wrong : false ≡ true = sym why.0 ∙ flexible in absurd cc
flexible-stops remaining old new (kind.Utf8 pos err) flexible why = let wrong : false ≡ true = why.0 in absurd cc
flexible-stops remaining old new (kind.Serialize text) flexible why = absurd why
flexible-stops remaining old new (kind.Deserialize pos err) flexible why = absurd why

-- what a read of a record does
pub entries_left-read : {R : Type 0} (remaining : R → Option (List ℕ)) (old new : Reader R) (found : Bool) (fields : List (List ℕ))
    → GivesEntries remaining old → ReadRecord remaining old new found fields → took_first new ≡ true → is_flexible new ≡ is_flexible old
    → GivesEntries remaining new × (records_left remaining old ≡ (if found then fields ∷ records_left remaining new else []))
unfolding records_left
entries_left-read remaining old new found fields g r first as_flexible =
    let now : source_of remaining new ≡ pending_of (remaining new.rdr) new = rw r.1 refl in
    let left = records_after-read old.state new.state (source_of remaining old) (pending_of (remaining new.rdr) new) found fields g.known (rw g.config at r.0) in (
      record { known = rw now left.0; config = r.2 ∙ g.config; untrimmed = r.3 ∙ g.untrimmed; flexible = as_flexible ∙ g.flexible; ready = inl first },
      rw now left.1,
    )

-- a text has no more records than are asked for
length-records_from : (cfg : Config) (n : ℕ) (s : State) (xs : List ℕ) → length (records_from cfg n s xs) ≤ n
unfolding records_from
length-records_from cfg zero s xs = omega arith
length-records_from cfg (suc n) s xs = by (next_record cfg s [] [] xs) (λ s2 ys. length-records_from cfg n s2 ys)
  where
    by : (o : Option Read) → ((s2 : State) (ys : List ℕ) → length (records_from cfg n s2 ys) ≤ n) → length (records_next (records_from cfg n) o) ≤ suc n
    by None few = omega arith
    by (Some p) few = omega (arith, few p.1 p.2)

length-strip_bom : (bytes : List ℕ) → length (strip_bom bytes) ≤ length bytes
unfolding strip_bom
length-strip_bom [] = omega arith
length-strip_bom (a ∷ []) = omega arith
length-strip_bom (a ∷ b ∷ []) = omega arith
length-strip_bom (a ∷ b ∷ c ∷ rest) = by (is_bom a b c)
  where
    by : (marked : Bool) → length (if marked then rest else a ∷ b ∷ c ∷ rest) ≤ suc (suc (suc (length rest)))
    by true = omega arith
    by false = omega arith

-- a file has at most one entry more than bytes
pub length-entries_of : (bytes : List ℕ) → length (entries_of bytes) ≤ length bytes + 1
length-entries_of bytes = omega (arith, length-records_from default_config (length (strip_bom bytes) + 1) st.StartRecord (strip_bom bytes), length-strip_bom bytes)

pub ruleset of_lengths = (length-entries_of)
