-- What the words of a row stand for, a column at a time, and which operands may be compared.
use Rattle.std.proofs.Common.{◌≡◌, ℕ, ◌<◌, zero, suc, Bool, true, false, List, [], ◌∷◌, length, ℤ, refl, sym, ap, subst, slice_index_or, arith}
use Rattle.std.proofs.lemmas.Grind.{common_steps}
use Rattle.sql_values.specs.declared.column.ColumnType.{ColumnType}
use Rattle.sql_values.specs.declared.column.ColumnType.TheVariants.{Integer, Varchar}
use Rattle.sql_values.specs.declared.value.Value.{Value}
use Rattle.sql_values.specs.declared.value.Value.TheVariants as value
use Rattle.sql_values.specs.Words.{null_word, IsWord, value_of, word_meaning}
use Rattle.sql_values.specs.Stored.{AreWordsOf, values_of}
use Rattle.sql_values.specs.Truth.{AreComparable}
use Rattle.query_block.specs.declared.condition.Operand.{Operand}
use Rattle.query_block.specs.declared.condition.Operand.TheVariants.{Column, Literal, Parameter}
use Rattle.query_block.specs.Blocks.{kind_at, holds_texts, is_text, is_text_operand, IsOperand, AreOperands}
use Rattle.query_block.specs.Truth.{value_at, operand_value}

-- as many words as columns
pub length-words : (texts : List (List ℕ)) (columns : List ColumnType) (words : List ℤ) → AreWordsOf texts columns words → length words ≡ length columns
length-words texts [] [] all = refl
length-words texts [] (word ∷ words) all = absurd all
length-words texts (kind ∷ columns) [] all = absurd all
length-words texts (kind ∷ columns) (word ∷ words) all = ap suc (length-words texts columns words all.1)

-- the word in a column may stand there
pub word-at : (texts : List (List ℕ)) (columns : List ColumnType) (words : List ℤ) (column : ℕ) (d : ℤ) → AreWordsOf texts columns words → column < length columns
    → IsWord texts (kind_at columns column) (slice_index_or words column d)
word-at texts [] words column d all below = absurd (omega (arith, below))
word-at texts (kind ∷ columns) [] column d all below = absurd all
word-at texts (kind ∷ columns) (word ∷ words) zero d all below = all.0
word-at texts (kind ∷ columns) (word ∷ words) (suc column) d all below = word-at texts columns words column d all.1 (omega (arith, below))

-- and stands for the value of the row there
pub value-at : (texts : List (List ℕ)) (columns : List ColumnType) (words : List ℤ) (column : ℕ) (d : ℤ) → AreWordsOf texts columns words → column < length columns
    → value_at (values_of texts columns words) column ≡ value_of texts (kind_at columns column) (slice_index_or words column d)
value-at texts [] words column d all below = absurd (omega (arith, below))
value-at texts (kind ∷ columns) [] column d all below = absurd all
value-at texts (kind ∷ columns) (word ∷ words) zero d all below = refl
value-at texts (kind ∷ columns) (word ∷ words) (suc column) d all below = value-at texts columns words column d all.1 (omega (arith, below))

-- NULL, or a text where texts are asked for and a number where not
abbrev IsOfKind : (texts : Bool) → Value → Type 0
IsOfKind texts value.Null = Unit {0}
IsOfKind texts (value.Int _) = texts ≡ false
IsOfKind texts (value.Text _) = texts ≡ true

comparable : (texts : Bool) (a b : Value) → IsOfKind texts a → IsOfKind texts b → AreComparable a b
comparable texts value.Null b of_a of_b = tt
comparable texts (value.Int _) value.Null of_a of_b = tt
comparable texts (value.Int _) (value.Int _) of_a of_b = tt
comparable texts (value.Int _) (value.Text _) of_a of_b = cc
comparable texts (value.Text _) value.Null of_a of_b = tt
comparable texts (value.Text _) (value.Int _) of_a of_b = cc
comparable texts (value.Text _) (value.Text _) of_a of_b = tt

meaning-kind : (texts : List (List ℕ)) (kind : ColumnType) (word : ℤ) → IsOfKind (holds_texts kind) (word_meaning texts kind word)
meaning-kind texts Integer word = refl
meaning-kind texts (Varchar _) word = refl

value-kind : (texts : List (List ℕ)) (kind : ColumnType) (word : ℤ) → IsOfKind (holds_texts kind) (value_of texts kind word)
value-kind texts kind word = grind (arith, common_steps, meaning-kind)

literal-kind : (literal : Value) → IsOfKind (is_text literal) literal
literal-kind value.Null = tt
literal-kind (value.Int _) = refl
literal-kind (value.Text _) = refl

operand-kind : (texts : List (List ℕ)) (columns : List ColumnType) (words : List ℤ) (operand : Operand) → AreWordsOf texts columns words → IsOperand [] columns operand
    → IsOfKind (is_text_operand [] columns operand) (operand_value (values_of texts columns words) operand)
operand-kind texts columns words (Column column) all is =
    subst (IsOfKind (holds_texts (kind_at columns column))) (sym (value-at texts columns words column null_word all is)) (value-kind texts (kind_at columns column) (slice_index_or words column null_word))
operand-kind texts columns words (Literal literal) all is = literal-kind literal
operand-kind texts columns words (Parameter number) all is = absurd (omega (arith, is))

-- operands of one kind have values that may be compared
pub operands-comparable : (texts : List (List ℕ)) (columns : List ColumnType) (words : List ℤ) (a b : Operand) (x y : Value) → AreWordsOf texts columns words → AreOperands [] columns a b
    → x ≡ operand_value (values_of texts columns words) a → y ≡ operand_value (values_of texts columns words) b → AreComparable x y
operands-comparable texts columns words a b x y all are is_x is_y =
    grind (arith, common_steps, comparable, operand-kind)
