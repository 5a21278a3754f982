-- The order of values is total, and only the same value is equal to a value.
use Rattle.std.proofs.Common.{◌≡◌, refl, sym, ap, ◌∙◌}
use Rattle.std.specs.Ordering.{nat_cmp, int_cmp, ordering_reverse, is_eq}
use Rattle.std.specs.Cmp.{IsTotalOrder, tied_itself, int_ranks}
use Rattle.std.proofs.lemmas.Map.Text.{is_eq-slice_cmp}
use Rattle.std.proofs.lemmas.Slice.Eq.{bytes_eq-Decides}
use Rattle.std.specs.Cmp.Lexicographic.{slice_cmp}
use Rattle.std.proofs.lemmas.Cmp.{int_cmp_total, nat_list_cmp_total}
use Rattle.std.specs.declared.cmp.Ordering.TheVariants.{Less, Equal}
use Rattle.sql_values.specs.declared.value.Value.{Value}
use Rattle.sql_values.specs.declared.value.Value.TheVariants as value
use Rattle.sql_values.specs.Order.{value_cmp, SameWhereEqual}

antisymm : (x y : Value) → value_cmp x y ≡ ordering_reverse (value_cmp y x)
antisymm value.Null value.Null = refl
antisymm value.Null (value.Int y) = refl
antisymm value.Null (value.Text y) = refl
antisymm (value.Int x) value.Null = refl
antisymm (value.Int x) (value.Int y) = int_cmp_total.antisymm x y
antisymm (value.Int x) (value.Text y) = refl
antisymm (value.Text x) value.Null = refl
antisymm (value.Text x) (value.Int y) = refl
antisymm (value.Text x) (value.Text y) = nat_list_cmp_total.antisymm x y

trans : (x y z : Value) → value_cmp x y ≡ Less → value_cmp y z ≡ Less → value_cmp x z ≡ Less
trans value.Null y value.Null p q = elim y as (λ y. value_cmp value.Null y ≡ Less → value_cmp y value.Null ≡ Less → Equal ≡ Less) [ value.Null ↦ λ p q. p | value.Int y ↦ λ p q. cc | value.Text y ↦ λ p q. cc ] p q
trans value.Null y (value.Int z) p q = refl
trans value.Null y (value.Text z) p q = refl
trans (value.Int x) value.Null z p q = cc
trans (value.Int x) (value.Int y) value.Null p q = cc
trans (value.Int x) (value.Int y) (value.Int z) p q = int_cmp_total.trans x y z p q
trans (value.Int x) (value.Int y) (value.Text z) p q = refl
trans (value.Int x) (value.Text y) value.Null p q = cc
trans (value.Int x) (value.Text y) (value.Int z) p q = cc
trans (value.Int x) (value.Text y) (value.Text z) p q = refl
trans (value.Text x) value.Null z p q = cc
trans (value.Text x) (value.Int y) z p q = cc
trans (value.Text x) (value.Text y) value.Null p q = cc
trans (value.Text x) (value.Text y) (value.Int z) p q = cc
trans (value.Text x) (value.Text y) (value.Text z) p q = nat_list_cmp_total.trans x y z p q

congr : (x y z : Value) → value_cmp x y ≡ Equal → value_cmp x z ≡ value_cmp y z
congr value.Null value.Null z p = refl
congr value.Null (value.Int y) z p = cc
congr value.Null (value.Text y) z p = cc
congr (value.Int x) value.Null z p = cc
congr (value.Int x) (value.Int y) value.Null p = refl
congr (value.Int x) (value.Int y) (value.Int z) p = int_cmp_total.congr x y z p
congr (value.Int x) (value.Int y) (value.Text z) p = refl
congr (value.Int x) (value.Text y) z p = cc
congr (value.Text x) value.Null z p = cc
congr (value.Text x) (value.Int y) z p = cc
congr (value.Text x) (value.Text y) value.Null p = refl
congr (value.Text x) (value.Text y) (value.Int z) p = refl
congr (value.Text x) (value.Text y) (value.Text z) p = nat_list_cmp_total.congr x y z p

pub total : IsTotalOrder value_cmp
total = record { antisymm = antisymm; trans = trans; congr = congr }

pub same : SameWhereEqual value_cmp
same value.Null value.Null = (λ _. refl, λ _. refl)
same value.Null (value.Int y) = (λ e. cc, λ e. cc)
same value.Null (value.Text y) = (λ e. cc, λ e. cc)
same (value.Int x) value.Null = (λ e. cc, λ e. cc)
same (value.Int x) (value.Int y) = (λ e. ap value.Int (rw e at (int_ranks x y)), λ e. let one : x ≡ y = cc in ap (int_cmp x) (sym one) ∙ tied_itself int_cmp_total x)
same (value.Int x) (value.Text y) = (λ e. cc, λ e. cc)
same (value.Text x) value.Null = (λ e. cc, λ e. cc)
same (value.Text x) (value.Int y) = (λ e. cc, λ e. cc)
same (value.Text x) (value.Text y) = (
  λ e. ap value.Text ((bytes_eq-Decides x y).0 (sym (is_eq-slice_cmp x y) ∙ ap is_eq e)),
  λ e. let one : x ≡ y = cc in ap (slice_cmp nat_cmp x) (sym one) ∙ tied_itself nat_list_cmp_total x,
)
