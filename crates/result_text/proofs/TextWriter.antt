-- What a writer's calls do to the text and the record that it has written.
use Rattle.std.proofs.Common.{◌≡◌, ◌≢◌, ◌==◌, ◌∙◌, ◌+◌, ◌-◌, ◌^◌, ◌<◌, ◌++◌, ◌∷◌, [], ℕ, List, Some, true, false, length, refl, sym, append_assoc, append-nil, arith, length-append, lit<}
use Rattle.std.proofs.lemmas.Bool.Decides.{nat_tests}
use Rattle.std.specs.Prelude.{not, min}
use Rattle.std.specs.Io.KnownBytes.{Appends}
use Rattle.csv.specs.Writing.{default_writer, field_text, fields_written, has_written, is_blank, next_sep, row_body, row_text, tail_text, writer_setup}
use Rattle.csv.specs.declared.writer.QuoteStyle.TheVariants as style
use Rattle.csv.proofs.WriteFacts.{blank-more, row-final, row-more}
use Rattle.result_text.specs.TextWriter.{TextWriter, written, HasWritten, WritesFields, WritesText}

-- the count tells small records apart, though it stops at its limit
counted : (k : ℕ) (fields : List (List ℕ)) (w : TextWriter) → k < 2 ^ 64 - 1 → fields_written w ≡ min (length fields) (2 ^ 64 - 1) → (fields_written w == k) ≡ (length fields == k)
counted k fields w below count = rw count (grind (arith, nat_tests))

-- a writer that has begun no record
between : (text : List ℕ) (w : TextWriter) → written w ≡ text → writer_setup w ≡ default_writer → fields_written w ≡ 0 → has_written w ≡ false → HasWritten text [] w
unfolding is_blank
between text w bytes defaults none clean = record { defaults = defaults; bytes = bytes ∙ sym (append-nil text); count = none; blank = rw clean refl }

-- a field behind those of the record
pub field_more : (field : List ℕ) (old new : TextWriter)
    → ((writer_setup old).style ≢ style.NonNumeric → Appends (Some (written old)) (Some (written new)) (next_sep (writer_setup old) (fields_written old) ++ field_text (writer_setup old) field))
    → writer_setup new ≡ writer_setup old
    → fields_written new ≡ min (fields_written old + 1) (2 ^ 64 - 1)
    → (has_written old ≡ false → (writer_setup old).style ≢ style.NonNumeric → has_written new ≡ not (length (field_text (writer_setup old) field) == 0))
    → (has_written old ≡ true → has_written new ≡ true)
    → WritesFields (field ∷ []) old new
field_more field old new text same count shows stays = record {
  adds = λ front before h.
      let plain : (writer_setup old).style ≢ style.NonNumeric = rw h.defaults (λ e. cc e) in
      let size = length-append before (field ∷ []) in
      let bytes = rw (h.bytes, h.defaults, counted 0 before old (lit< tt) h.count) at (text plain) in
      record {
        defaults = same ∙ h.defaults;
        bytes = rw (row-more default_writer before field) (bytes ∙ append_assoc front (row_body default_writer before) _);
        count = rw (count, h.count, size) (omega arith);
        blank = rw size (blank-more default_writer before field (has_written old) (has_written new) h.blank (λ w. rw h.defaults at (shows w plain)) stays);
      };
}

-- the record's end
pub record_end : (old new : TextWriter)
    → Appends (Some (written old)) (Some (written new)) (tail_text (writer_setup old) (has_written old) (fields_written old))
    → fields_written new ≡ 0 → has_written new ≡ false → writer_setup new ≡ writer_setup old
    → (text : List ℕ) (fields : List (List ℕ)) → HasWritten text fields old → HasWritten (text ++ row_text default_writer fields) [] new
record_end old new tail none clean same front fields h =
    let blank = rw (← counted 0 fields old (lit< tt) h.count, ← counted 1 fields old (lit< tt) h.count) at h.blank in
    let bytes = row-final (Some front) (Some (written old)) (Some (written new)) default_writer fields (has_written old) (fields_written old) h.bytes blank (rw h.defaults at tail) in
    between (front ++ row_text default_writer fields) new bytes (same ∙ h.defaults) none clean

-- some fields and then some more
pub writes_more : (a b : List (List ℕ)) (w m n : TextWriter) → WritesFields a w m → WritesFields b m n → WritesFields (a ++ b) w n
writes_more a b w m n first second = record { adds = λ front before h. rw (← append_assoc before a b) (second.adds front (before ++ a) (first.adds front before h)) }

-- the fields of a record and its end
pub writes_record : (fields : List (List ℕ)) (w m n : TextWriter) → WritesFields fields w m → ((text : List ℕ) (fields : List (List ℕ)) → HasWritten text fields m → HasWritten (text ++ row_text default_writer fields) [] n) → WritesText (row_text default_writer fields) w n
writes_record fields w m n first second = record { adds = λ front h. second front fields (first.adds front [] h) }

-- a text and then another
pub text_more : (a b : List ℕ) (w m n : TextWriter) → WritesText a w m → WritesText b m n → WritesText (a ++ b) w n
text_more a b w m n first second = record { adds = λ front h. rw (← append_assoc front a b) (second.adds (front ++ a) (first.adds front h)) }

-- all that a new writer is made to write
pub text_alone : (text : List ℕ) (w n : TextWriter) → written w ≡ [] → writer_setup w ≡ default_writer → fields_written w ≡ 0 → has_written w ≡ false
    → WritesText text w n → written n ≡ text
text_alone text w n none defaults count clean writes = (writes.adds [] (between [] w none defaults count clean)).bytes ∙ append-nil text
