-- The arguments of the command line.
use Rattle.std.specs.Prelude.{ℕ, ◌==◌, ◌&&◌, ◌||◌, Bool, nat_le, List, [], ◌∷◌, length, map, filter, codes, String, string_bytes, Option, Some, None, option_map, option_and_then, unwrap_or, if◌then◌else◌}
use Rattle.std.specs.List.{list_all, list_any, before_first, after_first}
use Rattle.std.specs.Char.{is_ascii_digit}
use Rattle.std.specs.Str.{bytes_eq}
use Rattle.std.specs.Str.Parse.{digits_value}
use Rattle.std.specs.declared.alloc.Global.{Global}
use Rattle.demo_data.specs.Demo.{greatest_demo}
use Rattle.command_line.specs.Limits.{max_work}

-- what a command line asks for: the most work of a query, and the number of the demonstration, where it is to be shown
pub record Options : Type 0 where
  pub max_work : ℕ
  pub demo : Option ℕ

-- a use of an option: its name, and the text that stands for its number
pub record Use : Type 0 where
  pub name : List ℕ
  pub number : List ℕ

-- the names of the two options
abbrev pub max_work_name : List ℕ
max_work_name = codes "--max-work"

abbrev pub demo_name : List ℕ
demo_name = codes "--demo"

-- the word is the name of an option
abbrev pub is_option_name : List ℕ → Bool
is_option_name word = bytes_eq max_work_name word || bytes_eq demo_name word

-- the byte is `=`
abbrev pub is_equals : ℕ → Bool
is_equals byte = byte == 61

-- the use that a word `--name=N` is, cut at its first `=`
abbrev pub joined_use : List ℕ → Option Use
joined_use word =
    if list_any is_equals word && is_option_name (before_first is_equals word)
    then Some (record { name = before_first is_equals word; number = after_first is_equals word })
    else None

-- the uses that the words are, one after another: each `--name N`, two words, or `--name=N`, one
abbrev pub uses_of_words : List (List ℕ) → Option (List Use)
uses_of_words [] = Some []
uses_of_words (word ∷ []) = option_map (λ one. one ∷ []) (joined_use word)
uses_of_words (word ∷ next ∷ rest) =
    if is_option_name word
    then option_map (λ uses. record { name = word; number = next } ∷ uses) (uses_of_words rest)
    else option_and_then (λ one. option_map (λ uses. one ∷ uses) (uses_of_words (next ∷ rest))) (joined_use word)

-- 1 to 19 decimal digits
abbrev pub is_number : List ℕ → Bool
is_number text = nat_le 1 (length text) && nat_le (length text) 19 && list_all is_ascii_digit text

-- the number of 1 to 19 decimal digits, within these bounds
abbrev pub number_within : (least most : ℕ) → List ℕ → Option ℕ
number_within least most text =
    let number = digits_value 10 text in
    if is_number text && nat_le least number && nat_le number most then Some number else None

-- what the uses give for the option of this name
abbrev pub numbers_given : List ℕ → List Use → List (List ℕ)
numbers_given name uses = map (λ one. one.number) (filter (λ one. bytes_eq one.name name) uses)

-- at most one number, within these bounds
abbrev pub at_most_one_within : (least most : ℕ) → List (List ℕ) → Option (Option ℕ)
at_most_one_within least most [] = Some None
at_most_one_within least most (text ∷ []) = option_map (λ number. Some number) (number_within least most text)
at_most_one_within least most (text ∷ next ∷ rest) = None

-- the options of these texts for their numbers, at most one for each
abbrev pub options_of_numbers : (works demos : List (List ℕ)) → Option Options
options_of_numbers works demos =
    option_and_then (λ work. option_map (λ demo. record { max_work = unwrap_or work max_work; demo = demo })
    (at_most_one_within 1 greatest_demo demos)) (at_most_one_within 0 max_work works)

-- the options that these uses give, each at most once
abbrev pub options_of_uses : List Use → Option Options
options_of_uses uses = options_of_numbers (numbers_given max_work_name uses) (numbers_given demo_name uses)

-- the options that the words give; none: they are no command line
abbrev pub options_of : List (List ℕ) → Option Options
options_of words = option_and_then options_of_uses (uses_of_words words)

-- the bytes of the words
abbrev pub word_texts : List (String Global) → List (List ℕ)
word_texts words = map string_bytes words
