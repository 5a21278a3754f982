-- What is written by the grammar for COMPILE, what is read and what is printed are the same.
use Rattle.std.proofs.Common.{codes, ◌≡◌, ◌∙◌, ℕ, List, [], ◌∷◌, ◌++◌, Some, None, refl, ap, subst, Option, arith}
use Rattle.std.proofs.lemmas.Grind.{common_steps}
use Rattle.sql_parse.proofs.Productions.{IsUtf8, Lexeme, Word, mark, after_word, after_mark, name_at, number_at, statement_at, either_word, IsAfter, Reads, then_read, also, then_after, name-reads, number-reads, select-reads, select-again, tokens_of, tokens-append, IsPrintedBy, select-printed, word-sound, EachSound, mark-sound, IsWritable, sound-front, select-writable, Writable, writable-append, Holds, hold-none, hold-after, select-held, query-utf8, AreNumbered, query-well_formed}
use Rattle.sql_parse.specs.declared.mark.Mark.TheVariants as m
use Rattle.sql_parse.specs.Trees.{QueryTree, Compile}
use Rattle.sql_parse.specs.WellFormed.{IsWellFormedQuery}
use Rattle.sql_parse.specs.Canonical.{Fixed, query_parts, canonical_query}
use Rattle.sql_parse.specs.Statements.{statement_parts}
use Rattle.sql_parse.specs.Statements.Compile.{option_of, IsCompile, option_at, compile_at, option_parts}
use Rattle.sql_parse.proofs.SoundForms.{sound-back}
use Rattle.sql_parse.proofs.Numbers.{numbers_in}
use Rattle.sql_parse.proofs.Operands.{terms_of_condition, hold-after_mark, hold-append}

option-reads : (keyword : List ℕ) → Reads (λ tokens n. tokens ≡ option_of keyword n) (option_at keyword)
unfolding option_at
option-reads keyword = record {
  each = λ tokens.
      either_word keyword tokens _ _ _ ([], refl, refl)
      (λ rest first. then_read number-reads rest _ _ (λ n form.
      (Word keyword ∷ form.0, first ∙ ap (λ all. Word keyword ∷ all) form.1, ap (λ all. Word keyword ∷ all) form.2)));
}

pub compile-reads : Reads (IsAfter (Word (codes "COMPILE") ∷ [])) compile_at
unfolding compile_at
compile-reads = record {
  each = λ tokens.
      then_read name-reads tokens _ _ (λ name a.
      then_read (option-reads (codes "LEVELS")) name.1 _ _ (λ levels b.
      then_read (option-reads (codes "THRESHOLD")) levels.1 _ _ (λ threshold c.
      then_after m.As threshold.1 _ _ (λ rest keyword.
      then_read select-reads rest _ _ (λ query d.
      let last = also c.0 (mark m.As ∷ d.0) query.1 c.1 (keyword ∙ ap (λ all. mark m.As ∷ all) d.1) in
      (a.0 ++ (b.0 ++ (c.0 ++ mark m.As ∷ d.0)), also _ _ _ a.1 (also _ _ _ b.1 last), (d.0, rw (a.2.0, b.2, c.2) refl, a.2.1, d.2)))))));
}

pub compile-again : (name : List ℕ) (levels threshold : Option ℕ) (query : QueryTree) (tokens : List Lexeme) → IsCompile name levels threshold tokens query
    → statement_at tokens ≡ Some (Compile name levels threshold query, [])
unfolding statement_at compile_at option_at name_at number_at after_mark after_word
compile-again name None None query tokens form = rw (form.1, form.2, select-again form.0 query form.3) refl
compile-again name None (Some n) query tokens form = rw (form.1, form.2, select-again form.0 query form.3) refl
compile-again name (Some n) None query tokens form = rw (form.1, form.2, select-again form.0 query form.3) refl
compile-again name (Some n) (Some k) query tokens form = rw (form.1, form.2, select-again form.0 query form.3) refl

option-printed : (keyword : List ℕ) (number : Option ℕ) → tokens_of (option_parts keyword number) ≡ option_of keyword number
option-printed keyword None = refl
option-printed keyword (Some n) = refl

pub compile-printed : (name : List ℕ) (levels threshold : Option ℕ) → IsPrintedBy (IsCompile name levels threshold) (λ query. statement_parts (Compile name levels threshold query))
compile-printed name levels threshold tokens query form =
    let later = option_parts (codes "THRESHOLD") threshold ++ Fixed m.As ∷ query_parts query in (
      tokens_of (query_parts query),
      ap (λ ts. Word (codes "COMPILE") ∷ Word name ∷ ts) (tokens-append (option_parts (codes "LEVELS") levels) later
          ∙ (ap (λ ts. ts ++ tokens_of later) (option-printed (codes "LEVELS") levels)
          ∙ ap (λ ts. option_of (codes "LEVELS") levels ++ ts) (tokens-append (option_parts (codes "THRESHOLD") threshold) (Fixed m.As ∷ query_parts query)
          ∙ ap (λ ts. ts ++ mark m.As ∷ tokens_of (query_parts query)) (option-printed (codes "THRESHOLD") threshold)))),
      form.2,
      select-printed form.0 query form.3,
    )

levels-writable : (number : Option ℕ) → EachSound (option_of (codes "LEVELS") number) → Writable (option_parts (codes "LEVELS") number)
levels-writable None sound = tt
levels-writable (Some n) sound = (word-sound (codes "LEVELS") refl refl refl refl, tt, (sound.1.0, tt, tt))

threshold-writable : (number : Option ℕ) → EachSound (option_of (codes "THRESHOLD") number) → Writable (option_parts (codes "THRESHOLD") number)
threshold-writable None sound = tt
threshold-writable (Some n) sound = (word-sound (codes "THRESHOLD") refl refl refl refl, tt, (sound.1.0, tt, tt))

pub compile-writable : (name : List ℕ) (levels threshold : Option ℕ) → IsWritable (IsCompile name levels threshold) (λ query. statement_parts (Compile name levels threshold query))
compile-writable name levels threshold tokens query sound form =
    grind (arith, common_steps, sound-back, word-sound, writable-append, levels-writable, sound-front, threshold-writable, mark-sound, select-writable)

option-numbers : (keyword : List ℕ) (number : Option ℕ) → numbers_in (option_of keyword number) ≡ []
option-numbers keyword None = refl
option-numbers keyword (Some n) = refl

pub compile-held : (name : List ℕ) (levels threshold : Option ℕ) → Holds (IsCompile name levels threshold) (λ query. terms_of_condition query.condition)
compile-held name levels threshold tokens query form =
    let before = option_of (codes "LEVELS") levels in
    let between = option_of (codes "THRESHOLD") threshold in
    rw form.1 (hold-after (Word (codes "COMPILE")) _ _ refl (hold-after (Word name) _ _ refl
    (hold-append before _ [] _ (hold-none before (option-numbers (codes "LEVELS") levels))
    (hold-append between _ [] _ (hold-none between (option-numbers (codes "THRESHOLD") threshold)) (hold-after_mark m.As form.0 _ (select-held form.0 query form.3))))))

pub compile-well_formed : (name : List ℕ) (levels threshold : Option ℕ) (tokens : List Lexeme) (query : QueryTree) → EachSound tokens → AreNumbered query.condition
    → IsCompile name levels threshold tokens query → IsWellFormedQuery query × IsUtf8 (canonical_query query)
compile-well_formed name levels threshold tokens query sound numbered form =
    let given = option_of (codes "THRESHOLD") threshold ++ mark m.As ∷ form.0 in
    let all : EachSound (Word (codes "COMPILE") ∷ Word name ∷ (option_of (codes "LEVELS") levels ++ given)) = subst EachSound form.1 sound in
    let last : EachSound (mark m.As ∷ form.0) =
    sound-back (option_of (codes "THRESHOLD") threshold) (mark m.As ∷ form.0) (sound-back (option_of (codes "LEVELS") levels) given all.1.1) in
    (query-well_formed form.0 query numbered form.3, query-utf8 form.0 query last.1 form.3)
