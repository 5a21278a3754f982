-- The points of a grid by their places.
use Rattle.std.proofs.Common.{◌≡◌, ℕ, zero, suc, ◌+◌, ◌-◌, ◌*◌, ◌/◌, ◌%◌, ◌^◌, ◌<◌, ◌≤◌, List, [], ◌∷◌, ◌++◌, length, get_or, set, take, drop, Some, refl, ap, sym, ◌∙◌, arith, add-one, length-append}
use Rattle.std.proofs.lemmas.Grind.{common_steps}
use Rattle.std.specs.Prelude.{All, slice_get, map}
use Rattle.std.specs.List.{flat_map, range_with_len}
use Rattle.std.proofs.lemmas.List.{append_assoc, append-nil, take_more_set, get_or_append_left, get_or-append-add}
use Rattle.std.proofs.lemmas.List.FromFn.{length-map-range_with_len, get_or-map-range_with_len}
use Rattle.std.proofs.lemmas.Option.{slice_get-get_or}
use Rattle.std.proofs.lemmas.Nat.{div-add-mod', div_below, mod_below, div-mul-add, mod-mul-add, mul-add-lt}
use Rattle.std.proofs.Math.Nat.{pow-zero, pow-suc, le-mul_of_pos_right}
use Rattle.ess_grid.specs.Points.{points_among}

-- the levels of point i, that of axis 0 first
abbrev pub levels_at : ℕ → ℕ → ℕ → List ℕ
levels_at levels zero i = []
levels_at levels (suc others) i = i % levels ∷ levels_at levels others (i / levels)

-- the place of a point
abbrev pub place_at : ℕ → List ℕ → ℕ
place_at levels [] = 0
place_at levels (level ∷ rest) = place_at levels rest * levels + level

-- ---- the list of points

abbrev spread : ℕ → List ℕ → List (List ℕ)
spread levels rest = map (λ level. level ∷ rest) (range_with_len 0 levels)

length-spread : (levels : ℕ) (rests : List (List ℕ)) → length (flat_map (spread levels) rests) ≡ length rests * levels
length-spread levels [] = omega arith
length-spread levels (rest ∷ rests) =
    grind (arith, common_steps, length-append, length-map-range_with_len, length-spread levels rests)

-- there are as many points as levels to the power of axes
pub length-points_among : (levels axes : ℕ) → length (points_among levels axes) ≡ levels ^ axes
unfolding points_among
length-points_among levels zero = sym (pow-zero levels)
length-points_among levels (suc others) =
    grind (arith, common_steps, length-spread, pow-suc, length-points_among levels others)

get_or-spread : (levels : ℕ) (rests : List (List ℕ)) (i level : ℕ) → i < length rests → level < levels → get_or (flat_map (spread levels) rests) (i * levels + level) [] ≡ level ∷ get_or rests i []
get_or-spread levels [] i level there below = absurd (omega (arith, there))
get_or-spread levels (rest ∷ rests) zero level there below =
    grind (arith, common_steps, length-map-range_with_len, get_or, get_or_append_left, get_or-map-range_with_len)
get_or-spread levels (rest ∷ rests) (suc i) level there below =
    let long = length-map-range_with_len (λ level. level ∷ rest) 0 levels in
    let at : suc i * levels + level ≡ length (spread levels rest) + (i * levels + level) = grind (arith, long) in
    ap (λ k. get_or (flat_map (spread levels) (rest ∷ rests)) k []) at
    ∙ get_or-append-add (spread levels rest) (flat_map (spread levels) rests) (i * levels + level) []
    ∙ get_or-spread levels rests i level (omega (arith, there)) below

pub get_or-points_among : (levels axes i : ℕ) → 0 < levels → i < levels ^ axes → get_or (points_among levels axes) i [] ≡ levels_at levels axes i
unfolding points_among
get_or-points_among levels zero i some below = let first : i ≡ 0 = omega (arith, below, pow-zero levels) in ap (λ k. get_or ([] ∷ []) k []) first
get_or-points_among levels (suc others) i some below =
    let before : i / levels < levels ^ others = div_below i levels (levels ^ others) some (omega (arith, below, pow-suc levels others)) in
    ap (λ k. get_or (points_among levels (suc others)) k []) (sym (div-add-mod' i levels))
    ∙ get_or-spread levels (points_among levels others) (i / levels) (i % levels) (omega (arith, before, length-points_among levels others)) (mod_below i levels some)
    ∙ ap (λ rest. i % levels ∷ rest) (get_or-points_among levels others (i / levels) some before)

-- point i has the levels of i
pub slice_get-points_among : (levels axes i : ℕ) → 0 < levels → i < levels ^ axes → slice_get (points_among levels axes) i ≡ Some (levels_at levels axes i)
slice_get-points_among levels axes i some below =
    slice_get-get_or (points_among levels axes) i [] (omega (arith, below, length-points_among levels axes))
    ∙ ap Some (get_or-points_among levels axes i some below)

-- ---- from a place to a point and back

pub length-levels_at : (levels axes i : ℕ) → length (levels_at levels axes i) ≡ axes
length-levels_at levels zero i = refl
length-levels_at levels (suc others) i = ap suc (length-levels_at levels others (i / levels))

pub All-levels_at : (levels axes i : ℕ) → 0 < levels → All (λ level. level < levels) (levels_at levels axes i)
All-levels_at levels zero i some axis d there = absurd (omega (arith, there))
All-levels_at levels (suc others) i some zero d there = mod_below i levels some
All-levels_at levels (suc others) i some (suc axis) d there = All-levels_at levels others (i / levels) some axis d (omega (arith, there))

pub place_at-levels_at : (levels axes i : ℕ) → 0 < levels → i < levels ^ axes → place_at levels (levels_at levels axes i) ≡ i
place_at-levels_at levels zero i some below = omega (arith, below, pow-zero levels)
place_at-levels_at levels (suc others) i some below =
    let before : i / levels < levels ^ others = div_below i levels (levels ^ others) some (omega (arith, below, pow-suc levels others)) in
    ap (λ place. place * levels + i % levels) (place_at-levels_at levels others (i / levels) some before)
    ∙ div-add-mod' i levels

All-rest : (levels level : ℕ) (rest : List ℕ) → All (λ l. l < levels) (level ∷ rest) → All (λ l. l < levels) rest
All-rest levels level rest all axis d there = all (suc axis) d (omega (arith, there))

pub levels_at-place_at : (levels : ℕ) (point : List ℕ) → All (λ level. level < levels) point → levels_at levels (length point) (place_at levels point) ≡ point
levels_at-place_at levels [] all = refl
levels_at-place_at levels (level ∷ rest) all =
    let here : level < levels = all 0 level (omega arith) in
    λ i. mod-mul-add (place_at levels rest) levels level here i
    ∷ (ap (levels_at levels (length rest)) (div-mul-add (place_at levels rest) levels level here)
    ∙ levels_at-place_at levels rest (All-rest levels level rest all)) i

-- the place of a point is one of the grid's
pub place_at-below : (levels : ℕ) (point : List ℕ) → All (λ level. level < levels) point → place_at levels point < levels ^ length point
place_at-below levels [] all = omega (arith, pow-zero levels)
place_at-below levels (level ∷ rest) all =
    let here : level < levels = all 0 level (omega arith) in
    let before = place_at-below levels rest (All-rest levels level rest all) in
    omega (arith, mul-add-lt (place_at levels rest) levels level (levels ^ length rest) before here, pow-suc levels (length rest))

-- ---- level by level

-- the levels of a place go on with those of the place among the other axes
pub levels_at-more : (levels axes axis i : ℕ) → axis < axes → levels_at levels (axes - axis) i ≡ i % levels ∷ levels_at levels (axes - (axis + 1)) (i / levels)
levels_at-more levels axes axis i more = grind (arith, common_steps)

drop-place_at : (levels : ℕ) (point : List ℕ) (axis : ℕ) → axis < length point → place_at levels (drop axis point) ≡ place_at levels (drop (suc axis) point) * levels + get_or point axis 0
drop-place_at levels [] axis there = absurd (omega (arith, there))
drop-place_at levels (level ∷ rest) zero there = refl
drop-place_at levels (level ∷ rest) (suc axis) there = drop-place_at levels rest axis (omega (arith, there))

-- the place among the axes from this one on
pub place_at-drop : (levels : ℕ) (point : List ℕ) (axis : ℕ) → axis < length point → place_at levels (drop axis point) ≡ place_at levels (drop (axis + 1) point) * levels + get_or point axis 0
place_at-drop levels point axis there = rw add-one (drop-place_at levels point axis there)

-- is no greater than the place
pub place_at-drop-le : (levels : ℕ) (point : List ℕ) (axis : ℕ) → 0 < levels → place_at levels (drop axis point) ≤ place_at levels point
place_at-drop-le levels [] zero some = omega arith
place_at-drop-le levels [] (suc axis) some = omega arith
place_at-drop-le levels (level ∷ rest) zero some = omega arith
place_at-drop-le levels (level ∷ rest) (suc axis) some =
    omega (arith, place_at-drop-le levels rest axis some, le-mul_of_pos_right (place_at levels rest) some)

-- one level more
pub levels_at-set : (levels axes axis i rest : ℕ) (array : List ℕ) → axis < axes → axes ≤ length array → take axis array ++ levels_at levels (axes - axis) rest ≡ levels_at levels axes i → take (axis + 1) (set array axis (rest % levels)) ++ levels_at levels (axes - (axis + 1)) (rest / levels) ≡ levels_at levels axes i
levels_at-set levels axes axis i rest array more long so_far =
    grind (arith, common_steps, take_more_set, append_assoc, levels_at-more)

-- all levels
pub levels_at-all : (levels axes axis i rest : ℕ) (array : List ℕ) → axes ≤ axis → take axis array ++ levels_at levels (axes - axis) rest ≡ levels_at levels axes i → take axis array ≡ levels_at levels axes i
levels_at-all levels axes axis i rest array all so_far = grind (arith, common_steps, append-nil)
