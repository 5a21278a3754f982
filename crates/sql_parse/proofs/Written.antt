-- Parts that are put after one another, and the text that they make.
use Rattle.std.proofs.Common.{Bool, ◌≡◌, ◌∙◌, ℕ, zero, suc, ◌+◌, List, [], ◌∷◌, ◌++◌, ◌<◌, ◌≤◌, length, map, drop, get_or, refl, sym, ap, rules, append_assoc, arith}
use Rattle.std.proofs.lemmas.List.{drop_all, at_drop_more}
use Rattle.std.proofs.lemmas.List.Sums.{fold-append}
use Rattle.sql_lex.specs.Written.{written_text}
use Rattle.sql_parse.specs.declared.mark.Mark.{Mark}
use Rattle.sql_parse.specs.declared.tree.Cond.{Cond}
use Rattle.sql_parse.specs.Trees.{ConditionTree, ConditionTrees, NoMore, More, operands, condition_tree}
use Rattle.sql_parse.specs.Canonical.{Part, with_spaces, parts_text, space_before, spelled, part_lexeme, grouped_if, condition_parts, chain_parts, more_parts}
use Rattle.sql_parse.specs.Printing.{Line, nothing, put, put_all, between}

pub ruleset of_lines = (fold-append)

module _ (keyword : Mark) (is_group : ConditionTree → Bool) where
  -- the operands of a chain from the one at a place on, with what stands before it
  unfoldable pub chain_from : (place : ℕ) → ConditionTrees → List Part
  chain_from zero parts = chain_parts keyword is_group parts
  chain_from (suc i) parts = more_parts keyword is_group parts

  chain_from-end : (i : ℕ) → chain_from i NoMore ≡ []
  unfolding chain_from
  chain_from-end zero = refl
  chain_from-end (suc i) = refl

  chain_from-more : (i : ℕ) (part : ConditionTree) (parts : ConditionTrees) → chain_from i (More part parts) ≡ between i keyword ++ (grouped_if (is_group part) (condition_parts part) ++ chain_from (i + 1) parts)
  unfolding chain_from
  chain_from-more zero part parts = refl
  chain_from-more (suc i) part parts = let e : suc i + 1 ≡ suc (suc i) = omega arith in rw e refl

  -- from the place on, what is put after the line makes the whole chain after the first one
  abbrev pub IsLeft : (start line : Line) → List Cond → (place : ℕ) → Type 0
  IsLeft start line parts i =
      put_all line (chain_from i (operands (map condition_tree (drop i parts)))) ≡ put_all start (chain_parts keyword is_group (operands (map condition_tree parts)))

  pub chain-first : (start : Line) (parts : List Cond) → IsLeft start start parts 0
  unfolding chain_from
  chain-first start parts = refl

  pub chain-next : (start before middle after : Line) (parts : List Cond) (i : ℕ) (part : Cond) → i < length parts → part ≡ get_or parts i part → IsLeft start before parts i
      → middle ≡ put_all before (between i keyword)
      → after ≡ put_all middle (grouped_if (is_group (condition_tree part)) (condition_parts (condition_tree part)))
      → IsLeft start after parts (i + 1)
  chain-next start before middle after parts i part below is left joined operand =
      let tree = condition_tree part in
      let group = grouped_if (is_group tree) (condition_parts tree) in
      let rest = operands (map condition_tree (drop (i + 1) parts)) in
      let later = chain_from (i + 1) rest in
      ap (λ (l : Line). put_all l later) (operand ∙ ap (λ (l : Line). put_all l group) joined)
      ∙ (sym (fold-append put (put_all before (between i keyword)) group later)
      ∙ (sym (fold-append put before (between i keyword) (group ++ later))
      ∙ (ap (λ ps. put_all before ps)
      (sym (chain_from-more i tree rest) ∙ (ap (λ one. chain_from i (operands (map condition_tree (one ∷ drop (i + 1) parts)))) is
      ∙ sym (at_drop_more (λ ps. chain_from i (operands (map condition_tree ps))) parts i part below)))
      ∙ left)))

  pub chain-last : (start line : Line) (parts : List Cond) (i : ℕ) → length parts ≤ i → IsLeft start line parts i
      → line ≡ put_all start (chain_parts keyword is_group (operands (map condition_tree parts)))
  chain-last start line parts i past left =
      ap (λ ps. put_all line ps) (sym (ap (λ ps. chain_from i (operands (map condition_tree ps))) (drop_all i parts past) ∙ chain_from-end i)) ∙ left

pub put_all-text : (line : Line) (parts : List Part) → (put_all line parts).text ≡ line.text ++ written_text (with_spaces line.joined parts)
unfolding put
put_all-text line [] = search rules
put_all-text line (part ∷ parts) =
    let token = spelled (part_lexeme part) in
    put_all-text (put line part) parts
    ∙ (append_assoc line.text (space_before line.joined part ++ token) _ ∙ ap (λ more. line.text ++ more) (append_assoc (space_before line.joined part) token _))

-- what is put after nothing is the text of the parts
pub text_of-put : (start line : Line) (parts : List Part) → start ≡ nothing → line ≡ put_all start parts → line.text ≡ parts_text parts
text_of-put start line parts none put = ap (λ (l : Line). l.text) put ∙ (ap (λ (l : Line). (put_all l parts).text) none ∙ put_all-text nothing parts)
