use Rattle.std.proofs.Common.{◌≡◌, ◌∙◌, ◌++◌, ◌∷◌, [], ◌+◌, ◌<◌, ℕ, ℤ, List, suc, add-one, append-nil, append_assoc, ap, arith, drop, drop-cons, get_or, length, map, sum_by, sym, take}
use Rattle.std.proofs.lemmas.Grind.{flat_map-append}
use Rattle.std.proofs.lemmas.List.{map-append, take-append-drop, take_more}
use Rattle.std.proofs.lemmas.List.Sums.{sum_by-cons}
use Rattle.result_text.specs.Rows.{WordRow, words_of}
use Rattle.result_text.proofs.row.lend.Goals as goal

split_words : (lent : List WordRow) (left first back words : List ℤ) (n : ℕ) → words_of lent ++ left ≡ words → first ≡ take n left → back ≡ drop n left →
    words_of (lent ++ first ∷ []) ++ back ≡ words
split_words lent left first back words n joined front rest =
    let one : words_of (lent ++ first ∷ []) ≡ words_of lent ++ first = flat_map-append (λ (row : WordRow). row) lent (first ∷ []) ∙ ap (λ l. words_of lent ++ l) (append-nil first) in
    ap (λ l. l ++ back) one
    ∙ append_assoc (words_of lent) first back
    ∙ ap (λ l. words_of lent ++ l) ((λ i. front i ++ rest i) ∙ take-append-drop n left)
    ∙ joined

split_size : (like : List WordRow) (at : ℕ) (row : WordRow) → at < length like → sum_by length (drop at like) ≡ length (get_or like at row) + sum_by length (drop (suc at) like)
split_size like at row below = ap (sum_by length) (drop-cons like at row below) ∙ sum_by-cons length (get_or like at row) (drop (suc at) like)

pub split_at-requires : goal.split_at-requires
split_at-requires c =
    let like = c.args.like.now in
    let at = c.loop-row.row-index in
    let row = c.row-item.result in
    let size : length c.words.result.now ≡ length (get_or like at row) = ap length (c.words.ensures ∙ c.row-item.is) in
    omega (arith, c.loop-row.invariant.left, split_size like at row (omega arith), size)

pub loop-row-preserved : goal.loop-row-preserved
loop-row-preserved c =
    let like = c.args.like.now in
    let at = c.loop-row.row-index in
    let row = c.row-item.result in
    let below : at < length like = omega arith in
    let first = c.split_at.result.0.now in
    let size : length c.words.result.now ≡ length (get_or like at row) = ap length (c.words.ensures ∙ c.row-item.is) in
    let long : length first ≡ length (get_or like at row) = c.split_at.ensures.front_len ∙ size in
    let pushed : c.push.new.self.items ≡ c.loop-row.lent.items ++ first ∷ [] = c.in_ok-push.ensures.items ∙ ap (λ (r : WordRow). c.loop-row.lent.items ++ r ∷ []) c.new.ensures in
    record {
      words = ap (λ (rows : List WordRow). words_of rows ++ c.split_at.result.1.now) pushed
          ∙ split_words c.loop-row.lent.items c.loop-row.left.now first c.split_at.result.1.now c.args.words.now _ c.loop-row.invariant.words c.split_at.ensures.front c.split_at.ensures.back;
      long = ap (λ (rows : List WordRow). map length rows) pushed
          ∙ map-append length c.loop-row.lent.items (first ∷ [])
          ∙ (λ i. c.loop-row.invariant.long i ++ long i ∷ [])
          ∙ sym (map-append length (take at like) (get_or like at row ∷ []))
          ∙ sym (ap (map length) (take_more like at row below));
      left = let rest : sum_by length (drop (suc at) like) ≡ length c.split_at.result.1.now = omega (arith, c.loop-row.invariant.left, split_size like at row below, size, c.split_at.ensures.back_len) in rw (add-one at) rest;
    }
